use Rattle.std.{proofs.Common.{◌≡◌, ◌⊎◌, inl, inr, ◌∙◌, ℕ, ◌+◌, Option, None, Some, ap, length, refl, subst, sym}, specs.Prelude.{IfSome, false, is_some, option_map}}
use Rattle.pm_board_acts.specs.{pm_board.pm_board_words.declared.views.RosterView.RosterView, pm_supervisor_journal.{Standing.{Standing, later}, Supervision.at_work}, pm_modes.declared.Mode.TheVariants.Smart, Seating.PortEnds}
use Rattle.pm_worker.specs.{pm_outside.{Visits.{Visits, after_accept}, declared.port.Accepted.Accepted}, declared.mail.MailTold.MailTold}
use Rattle.pm_worker.specs.pm_outside.declared.port.Accepted.TheVariants as answers
use Rattle.pm_postmaster.{specs.{Links.HasLinks, View.view_of}, proofs.{Admitted.{admitted_on, no_link, still_numbered, unused_at}, Asked.{has_come, owes_none}, Calling.{IsBeside, asks_end, leaves, leaves_store, same_past, short_end, still}, Cleared.near_slots, Steps.{LinksStay, asked_on}}}
use Rattle.pm_postmaster.proofs.server.Server.ask_port.Goals as goal

pub returns-in-Link-clause-goes : goal.returns-in-Link-clause-goes
returns-in-Link-clause-goes g c =
    let before = view_of c.args.self.now in
    λ outset was.
    admitted_on g.C.Clock.gives c.laws.ensures.counts outset before _ c.args.slot (g.L.Link.faults c.in-Link.link) _ c.args.decision c.requires.decision
    (record { table = c.admit.ensures.table; home = refl; tokens = refl; joined = refl; disk = refl; clock = refl; tells = c.admit.ensures.tells })
    refl refl (near_slots c.args.slot before.board c.requires.free.0)
    (unused_at g.C.Clock.gives c.laws.ensures.counts outset before c.args.slot c.requires.free.0 c.requires.free.1 was)
    c.admit.ensures.assigned (rw c.in-Link.is at c.accept.ensures.visits)
    (subst (λ l. IfSome before.visits (λ v. g.L.Link.number l ≡ length v.given + 1)) (sym c.new-link.ensures) (rw c.in-Link.is at c.accept.ensures.number))
    c.admit.ensures.goes c.admit.ensures.standing (record { lost = refl; own = refl; came = refl; past = c.admit.ensures.past }) refl refl c.requires.may.machine.0 was

-- links stay where they are where the port's end has come
stay_so : {L : Type 0} (faults : L → ℕ) (d : RosterView MailTold) (before now : Option Visits) → now ≡ option_map (λ v. after_accept faults v answers.End) before → LinksStay d before now
stay_so faults d before now is =
    (ap is_some is ∙ still_numbered faults answers.End before, λ n has. subst (λ (x : Option Visits). IfSome x (HasLinks n d)) (sym is) (no_link faults n d before answers.End (λ link same. absurd (cc)) has))

pub returns-in-Ok-clause-goes : goal.returns-in-Ok-clause-goes
returns-in-Ok-clause-goes g c =
    let before = view_of c.args.self.now in
    let now = record before { work = at_work c.ask.new.self.supervision; table = c.ask.new.self.roster.table; board = c.ask.new.self.roster.knows; visits = g.P.Port.visits c.accept.new.self; listens = false } in
    let beside : IsBeside g.C.Clock.gives before now = record { table = c.ask.ensures.table; shared = refl; clock = refl; log = refl; lost = refl; came = refl; tells = c.ask.ensures.tells } in
    let at = later c.now.result before.work.standing in
    let made = c.in-Ok.ensures.asks (PortEnds at) (refl, refl) in
    let visits = rw c.in-End.is at c.accept.ensures.visits in
    λ outset was.
    asked_on g.C.Clock.gives outset before now (leaves g.C.Clock.gives _ _ beside) refl refl (stay_so g.L.Link.faults before.board _ _ visits)
    (leaves_store g.C.Clock.gives _ _ beside (same_past g.C.Clock.gives _ _ beside made.2))
    Smart c.now.result (PortEnds at) c.now.ensures (λ s. refl) (λ k. refl)
    (asks_end g.C.Clock.gives outset now g.L.Link.faults before at refl visits c.requires.listens refl
    (owes_none _ _ c.requires.idle.unowed (ap (λ (s : Standing). s.owes_smart) made.1) (ap (λ (s : Standing). s.last_pid) made.1)))
    made.0 made.1 made.2 was

pub returns-in-Ok-clause-ended : goal.returns-in-Ok-clause-ended
returns-in-Ok-clause-ended g c =
    let made = c.in-Ok.ensures.asks (PortEnds (later c.now.result (view_of c.args.self.now).work.standing)) (refl, refl) in
    subst (λ s. s.ended ≡ false) (sym made.1) c.requires.idle.rests.goes_on

pub returns-in-Err-clause-goes : goal.returns-in-Err-clause-goes
returns-in-Err-clause-goes g c =
    let before = view_of c.args.self.now in
    let beside : IsBeside g.C.Clock.gives before _ = record { table = c.ask.ensures.table; shared = refl; clock = refl; log = refl; lost = refl; came = refl; tells = c.ask.ensures.tells } in
    let made = c.in-Err.ensures.asks (PortEnds (later c.now.result before.work.standing)) (refl, refl) in
    let visits = rw c.in-End.is at c.accept.ensures.visits in
    let come = has_come g.L.Link.faults _ _ visits in
    short_end g.C.Clock.gives before _ beside c.laws.ensures.may_end c.laws.ensures.journal made.0 made.1 made.2 come.0
    (stay_so g.L.Link.faults _ _ _ visits) c.requires.listens come.1 refl
    (ap (λ (s : Standing). s.owes_smart) made.0 ∙ c.requires.idle.unowed)

-- the port gave none, and hasn't ended
none_given : {L : Type 0} (faults : L → ℕ) (answer : Accepted L) (before now : Option Visits) → (answer ≡ answers.NotYet) ⊎ (answer ≡ answers.Failed)
    → now ≡ option_map (λ v. after_accept faults v answer) before → now ≡ before
none_given faults answer before now none is = elim none [
  | inl not_yet ↦ is ∙ (ap (λ a. option_map (λ v. after_accept faults v a) before) not_yet ∙ as_it_was before)
  | inr failed ↦ is ∙ (ap (λ a. option_map (λ v. after_accept faults v a) before) failed ∙ as_it_was before)
]
  where
    as_it_was : (v : Option Visits) → option_map (λ x. x) v ≡ v
    as_it_was None = refl
    as_it_was (Some its) = refl

pub returns-in-NotYet-clause-goes : goal.returns-in-NotYet-clause-goes
returns-in-NotYet-clause-goes g c =
    still g.C.Clock.gives (view_of c.args.self.now) _ (record { table = refl; shared = refl; clock = refl; log = refl; lost = refl; came = refl; tells = refl })
    (record { visits = none_given g.L.Link.faults c.accept.result _ _ c.in-NotYet.is c.accept.ensures.visits; lines = refl; listens = refl }) refl refl refl
