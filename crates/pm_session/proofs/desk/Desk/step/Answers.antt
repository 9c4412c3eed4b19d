use Rattle.std.proofs.{Common.{◌∙◌, ◌++◌, ◌<◌, ℕ, List, length, take, drop, ap, refl, subst, sym, take-append-drop}, lemmas.Result.err_from_is_err_and}
use Rattle.pm_wire.specs.{Frontend.{front_message, IsFront, IsUndecided, BeginsBadly}, declared.take.{Take.TheVariants.Bad, WireFault.WireFault}}
use Rattle.pm_query.proofs.NotedLaws.{same_user}
use Rattle.pm_session.proofs.{Conversing.{converses_behind, message_taken}, Steps.{stops_here, waited, bad_length, length_refused}, Overtaking.overtaken_not_waited}
use Rattle.pm_session.proofs.desk.Desk.step.Goals as goal

pub returns-in_err-heed-clause-talks : goal.returns-in_err-heed-clause-talks
returns-in_err-heed-clause-talks g c =
    let p = err_from_is_err_and c.from_residual.result c.from_residual.ensures.1 in
    rw (p.1, p.2, ← c.self.view_is, c.heed.ensures.link) (stops_here g.W.Store.notes (g.C.Clock.gives c.args.means.now.clock.now) _ c.in_err-heed.field-0.0 _ _ _ _ _ _ c.in_err-heed.ensures.stops.0 (g.met.W.Store.apart _ _ c.heed.ensures.rests) c.heed.ensures.hears)

pub returns-in_err-heed-clause-cause : goal.returns-in_err-heed-clause-cause
returns-in_err-heed-clause-cause g c =
    let p = err_from_is_err_and c.from_residual.result c.from_residual.ensures.1 in
    rw (p.1, p.2) (c.in_err-heed.ensures.stops.1 _ _)

pub await_bytes-requires : goal.await_bytes-requires
await_bytes-requires g c = record { room = c.wanted_bytes_fit.ensures c.unread.result.now c.in-Short.wanted ((c.in-Short.ensures.short c.in-Short.wanted).0 refl) }

pub returns-in-Short-clause-talks : goal.returns-in-Short-clause-talks
returns-in-Short-clause-talks g c =
    let undecided = subst (λ (l : List ℕ). (more : List ℕ) → length (l ++ more) < c.in-Short.wanted → IsUndecided (l ++ more)) c.unread.ensures (λ more few. c.in-Short.ensures.least c.in-Short.wanted more refl few) in
    let comes = rw c.heed.ensures.link at c.await_bytes.ensures.comes in
    rw (← c.self.view_is) (waited g.W.Store.notes (g.C.Clock.gives c.args.means.now.clock.now) _ c.in-Short.wanted c.await_bytes.result _ _ _ _ _ _ _ _ _ (g.met.W.Store.apart _ _ (g.met.W.Life.rests_on _ _ _ c.heed.ensures.rests c.await_bytes.ensures.rests)) c.heed.ensures.hears c.await_bytes.ensures.hears comes undecided)

pub returns-in-Short-clause-overtaken : goal.returns-in-Short-clause-overtaken
returns-in-Short-clause-overtaken g c = overtaken_not_waited _ _ c.in-Short.wanted c.await_bytes.result _ _ _ _ c.await_bytes.ensures.comes

pub pass-requires : goal.pass-requires
pass-requires g c =
    let begins : BeginsBadly c.unread.result.now c.in-Bad-BadLength.seen =
    (c.read.ensures.bad_length c.in-Bad-BadLength.seen).0 (c.in-Bad-BadLength.is ∙ ap (λ (fault : WireFault). Bad fault) c.in-Bad-BadLength.field-0-is) in
    let here = subst (λ (l : List ℕ). BeginsBadly l c.in-Bad-BadLength.seen) c.unread.ensures begins in
    bad_length c.args.inbox.now c.in-Bad-BadLength.seen here

pub returns-in-Bad-BadLength-clause-talks : goal.returns-in-Bad-BadLength-clause-talks
returns-in-Bad-BadLength-clause-talks g c =
    let begins : BeginsBadly c.unread.result.now c.in-Bad-BadLength.seen =
    (c.read.ensures.bad_length c.in-Bad-BadLength.seen).0 (c.in-Bad-BadLength.is ∙ ap (λ (fault : WireFault). Bad fault) c.in-Bad-BadLength.field-0-is) in
    let here = subst (λ (l : List ℕ). BeginsBadly l c.in-Bad-BadLength.seen) c.unread.ensures begins in
    rw (c.in-Bad-BadLength.seen-is, c.pass.ensures, ← c.self.view_is, c.heed.ensures.link) (length_refused g.W.Store.notes (g.C.Clock.gives c.args.means.now.clock.now) _ c.in-Bad-BadLength.seen c.args.inbox.now _ _ _ _ _ (g.met.W.Store.apart _ _ c.heed.ensures.rests) c.heed.ensures.hears here)

pub returns-in-Whole-clause-talks : goal.returns-in-Whole-clause-talks
returns-in-Whole-clause-talks g c =
    let front : IsFront (take c.in-Whole.used c.args.inbox.now) (front_message c.in-Whole.value) =
    subst (λ (l : List ℕ). IsFront (take c.in-Whole.used l) (front_message c.in-Whole.value)) c.unread.ensures c.in-Whole.ensures.whole.1 in
    let goes = rw c.heed.ensures.link at c.take_message-goes.ensures.goes in
    let rest = g.met.W.Store.apart _ _ c.heed.ensures.rests in
    let same = same_user _ _ (g.W.Store.view c.args.pass.now) (g.W.Store.view c.args.pass.now) (g.met.W.Store.stays _ _ _ rest) refl in
    rw (c.pass-in-Whole.ensures, ← c.self.view_is) (converses_behind g.W.Store.notes (g.C.Clock.gives c.args.means.now.clock.now) _ _ c.take_message-goes.result _ _ _ _ _ _ g.met.W.Store.in_turn same rest
    (message_taken g.W.Store.notes (g.C.Clock.gives c.args.means.now.clock.now) _ (front_message c.in-Whole.value) c.take_message-goes.result (take c.in-Whole.used c.args.inbox.now) (drop c.in-Whole.used c.args.inbox.now) c.args.inbox.now _ _ _ _ _ _ _
    (sym (take-append-drop c.in-Whole.used c.args.inbox.now)) front c.heed.ensures.hears c.heed.ensures.attentive c.in_ok-heed.ensures.ends (g.met.W.Store.at_rest _) goes))

-- ---- the store besides

pub returns-in_err-heed-clause-admits : goal.returns-in_err-heed-clause-admits
returns-in_err-heed-clause-admits g c = g.met.W.Store.admits_still _ _ _ c.heed.ensures.rests (rw (← c.self.view_is) at c.requires.admits)

pub returns-in_err-heed-clause-user : goal.returns-in_err-heed-clause-user
returns-in_err-heed-clause-user g c = rw (← c.self.view_is) (same_user _ _ (g.W.Store.view c.args.pass.now) (g.W.Store.view c.args.pass.now) (g.met.W.Store.stays _ _ _ (g.met.W.Store.apart _ _ c.heed.ensures.rests)) refl)

pub returns-in-Short-clause-admits : goal.returns-in-Short-clause-admits
returns-in-Short-clause-admits g c = g.met.W.Store.admits_still _ _ _ (g.met.W.Life.rests_on _ _ _ c.heed.ensures.rests c.await_bytes.ensures.rests) (rw (← c.self.view_is) at c.requires.admits)

pub returns-in-Short-clause-user : goal.returns-in-Short-clause-user
returns-in-Short-clause-user g c =
    rw (← c.self.view_is) (same_user _ _ (g.W.Store.view c.args.pass.now) (g.W.Store.view c.args.pass.now) (g.met.W.Store.stays _ _ _ (g.met.W.Store.apart _ _ (g.met.W.Life.rests_on _ _ _ c.heed.ensures.rests c.await_bytes.ensures.rests))) refl)

pub returns-in-Bad-BadLength-clause-admits : goal.returns-in-Bad-BadLength-clause-admits
returns-in-Bad-BadLength-clause-admits g c = g.met.W.Store.admits_still _ _ _ c.heed.ensures.rests (rw (← c.self.view_is) at c.requires.admits)

pub returns-in-Bad-BadLength-clause-user : goal.returns-in-Bad-BadLength-clause-user
returns-in-Bad-BadLength-clause-user g c = rw (← c.self.view_is) (same_user _ _ (g.W.Store.view c.args.pass.now) (g.W.Store.view c.args.pass.now) (g.met.W.Store.stays _ _ _ (g.met.W.Store.apart _ _ c.heed.ensures.rests)) refl)

pub take_message-goes-requires-clause-admits : goal.take_message-goes-requires-clause-admits
take_message-goes-requires-clause-admits g c = g.met.W.Store.admits_still _ _ _ c.heed.ensures.rests (rw (← c.self.view_is) at c.requires.admits)

pub returns-in-Whole-clause-user : goal.returns-in-Whole-clause-user
returns-in-Whole-clause-user g c = rw (← c.self.view_is) (c.take_message-goes.ensures.user ∙ same_user _ _ (g.W.Store.view c.args.pass.now) (g.W.Store.view c.args.pass.now) (g.met.W.Store.stays _ _ _ (g.met.W.Store.apart _ _ c.heed.ensures.rests)) refl)
