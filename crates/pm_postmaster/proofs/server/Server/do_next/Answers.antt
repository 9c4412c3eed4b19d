use Rattle.std.proofs.Common.{◌+◌, ℕ, refl, sym, ap, subst, ◌∙◌, Ok}
use Rattle.pm_board_acts.specs.{Calls.DoesNext, Standing.view, pm_worker.Mails.aux_mail}
use Rattle.pm_supervisor_journal.{specs.Supervision.at_work, proofs.NextsLaws.{next_given, next_none, reset_number}}
use Rattle.pm_postmaster.{specs.View.view_of, proofs.{Calling.IsBeside, Performed.{acts_of, goes_on_behind, spends}}}
use Rattle.pm_postmaster.proofs.server.Server.do_next.Goals as goal

pub perform-requires : goal.perform-requires
perform-requires g c = λ generation is.
    let s = (view_of c.args.self.now).work.standing in
    let n = next_given s c.in-Some.act (sym c.do_next-next.ensures.answer ∙ (c.in-Ok.is ∙ ap (λ o. Ok o) c.in-Some.is)) in
    reset_number n.0 s generation (sym n.1.act_is ∙ is) ∙ ap (λ (k : ℕ). k + 1) (sym c.requires.alive.1.generation)

pub returns-in-Ok-perform-clause-goes : goal.returns-in-Ok-perform-clause-goes
returns-in-Ok-perform-clause-goes g c =
    let before = view_of c.args.self.now in
    let beside : IsBeside g.C.Clock.gives before _ = record { table = c.do_next-next.ensures.table; shared = refl; clock = refl; log = refl; lost = refl; came = refl; tells = c.do_next-next.ensures.tells } in
    λ outset was.
    acts_of g.C.Clock.gives c.laws.ensures.counts c.laws.ensures.may_end c.laws.ensures.journal c.laws.ensures.safely outset aux_mail before _ _ c.do_next-next.result c.in-Ok.given c.in-Some.act _
    c.in-Ok.is c.in-Some.is c.do_next-next.ensures.answer c.do_next-next.ensures.standing c.do_next-next.ensures.act c.do_next-next.ensures.performs c.do_next-next.ensures.may
    c.do_next-next.ensures.past beside (record { visits = refl; lines = refl; listens = refl }) c.in-Ok-perform.ensures.performs was

pub returns-in-Err-perform-clause-goes : goal.returns-in-Err-perform-clause-goes
returns-in-Err-perform-clause-goes g c =
    let before = view_of c.args.self.now in
    let beside : IsBeside g.C.Clock.gives before _ = record { table = c.do_next-next.ensures.table; shared = refl; clock = refl; log = refl; lost = refl; came = refl; tells = c.do_next-next.ensures.tells } in
    λ outset was.
    acts_of g.C.Clock.gives c.laws.ensures.counts c.laws.ensures.may_end c.laws.ensures.journal c.laws.ensures.safely outset aux_mail before _ _ c.do_next-next.result c.in-Ok.given c.in-Some.act _
    c.in-Ok.is c.in-Some.is c.do_next-next.ensures.answer c.do_next-next.ensures.standing c.do_next-next.ensures.act c.do_next-next.ensures.performs c.do_next-next.ensures.may
    c.do_next-next.ensures.past beside (record { visits = refl; lines = refl; listens = refl }) c.in-Err-perform.ensures.performs was

pub returns-in-Ok-perform-clause-ended : goal.returns-in-Ok-perform-clause-ended
returns-in-Ok-perform-clause-ended g c =
    goes_on_behind g.C.Clock.gives c.laws.ensures.counts c.laws.ensures.may_end c.laws.ensures.journal c.laws.ensures.safely (view_of c.args.self.now) _ _ c.in-Some.act
    (sym c.do_next-next.ensures.answer ∙ (c.in-Ok.is ∙ ap (λ o. Ok o) c.in-Some.is)) c.do_next-next.ensures.standing c.in-Ok-perform.ensures.performs

pub returns-in-Err-clause-goes : goal.returns-in-Err-clause-goes
returns-in-Err-clause-goes g c =
    let before = view_of c.args.self.now in
    let beside : IsBeside g.C.Clock.gives before _ = record { table = c.do_next-next.ensures.table; shared = refl; clock = refl; log = refl; lost = refl; came = refl; tells = c.do_next-next.ensures.tells } in
    spends g.C.Clock.gives c.laws.ensures.counts c.laws.ensures.may_end c.laws.ensures.journal c.laws.ensures.safely before _ _ beside (record { visits = refl; lines = refl; listens = refl })
    (sym c.do_next-next.ensures.answer ∙ c.in-Err.is) (subst (λ r. DoesNext r (view before.work before.board) (view (at_work c.do_next-next.new.self.supervision) c.do_next-next.new.self.roster.knows)) c.in-Err.is c.do_next-next.ensures.act)

pub returns-in-None-clause-none_due : goal.returns-in-None-clause-none_due
returns-in-None-clause-none_due g c =
    let s = (view_of c.args.self.now).work.standing in
    let none = next_none s (sym c.do_next-next.ensures.answer ∙ (c.in-Ok.is ∙ ap (λ o. Ok o) c.in-None.is)) in
    λ is. ap (λ t. t.due) (c.do_next-next.ensures.standing ∙ none.after) ∙ none.none_due
