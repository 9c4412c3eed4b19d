use Rattle.std.proofs.Common.{ℕ, refl, ap, subst, ◌∙◌}
use Rattle.pm_board.specs.{pm_exit.declared.child.Kind.Kind, Models.HasAssigned, pm_supervisor.Steps.kind_for}
use Rattle.pm_supervisor_journal.specs.{Standing.decision_on, Supervision.{at_work, standing}}
use Rattle.pm_board_acts.{specs.Standing.view, proofs.{Calling.{past_of, admitted}, Keeping.{adds_tells, keeps_became}}}
use Rattle.pm_board_acts.proofs.desk.Desk.admit.Goals as goal

pub take-taken-requires-clause-stands : goal.take-taken-requires-clause-stands
take-taken-requires-clause-stands g c = past_of _ c.requires.running

pub returns-clause-goes : goal.returns-clause-goes
returns-clause-goes g c =
    admitted c.laws.ensures.work c.laws.ensures.journal c.args.slot c.take-taken.result.pid c.child_kind.result (g.M.Letter.told c.args.mail)
    (view (at_work c.args.self.now.supervision) c.args.self.now.roster.knows)
    (view (at_work c.take-taken.new.self) c.seat.new.roster.knows)
    c.requires.rests c.requires.settled c.requires.may c.take-taken.ensures.standing c.take-taken.ensures.told
    c.take-taken.ensures.pid (c.child_kind.ensures ∙ ap kind_for c.take-taken.ensures.decision)
    c.requires.slot c.requires.free c.seat.ensures.assigned c.seat.ensures.seats c.requires.serves

pub returns-clause-assigned : goal.returns-clause-assigned
returns-clause-assigned g c =
    let d = c.args.self.now.roster.knows in
    let e = c.seat.new.roster.knows in
    let given = g.M.Letter.told c.args.mail in
    let s = standing c.args.self.now.supervision in
    subst (λ (p : ℕ). HasAssigned c.args.slot p (kind_for (decision_on s)) given d e) c.take-taken.ensures.pid
    (subst (λ (k : Kind). HasAssigned c.args.slot c.take-taken.result.pid k given d e) (c.child_kind.ensures ∙ ap kind_for c.take-taken.ensures.decision) c.seat.ensures.assigned)

pub returns-clause-past : goal.returns-clause-past
returns-clause-past g c = keeps_became c.args.slot _ _ c.args.self.now.roster.knows c.seat.new.roster.knows c.seat.ensures.assigned.2 refl

pub returns-clause-tells : goal.returns-clause-tells
returns-clause-tells g c = adds_tells _ _ _ c.take-taken.ensures.told
