use Rattle.std.{proofs.Common.{[], ◌∷◌, ◌++◌, Some, ap, sym, ◌∙◌, arith, Ok}, specs.Option.option_map}
use Rattle.pm_supervisor_journal.{specs.Standing.{noted, reported, standing_of}, proofs.{NextsLaws.shorter, Nexts.{has-numbers, may-do, next-done, next-none, next-spent, settled-done, stands-done}}}
use Rattle.pm_outside.proofs.AddedLaws.{added_none}
use Rattle.pm_supervisor_journal.proofs.supervision.Supervision.next.Goals as goal

pub returns-in_default-clause-act : goal.returns-in_default-clause-act
returns-in_default-clause-act g c =
    sym (ap (λ x. x.answer) (next-none (standing_of c.args.self.now.memory) (sym c.first_due.ensures ∙ c.in_default.is)))

pub returns-in_default-clause-standing : goal.returns-in_default-clause-standing
returns-in_default-clause-standing g c =
    sym (ap (λ x. x.after) (next-none (standing_of c.args.self.now.memory) (sym c.first_due.ensures ∙ c.in_default.is)))

pub returns-in_default-clause-told : goal.returns-in_default-clause-told
returns-in_default-clause-told g c =
    rw (next-none (standing_of c.args.self.now.memory) (sym c.first_due.ensures ∙ c.in_default.is)) (added_none (g.J.Chronicle.entries c.args.self.now.journal))

pub returns-then-is_spent-clause-act : goal.returns-then-is_spent-clause-act
returns-then-is_spent-clause-act g c =
    sym (ap (λ x. x.answer) (next-spent (standing_of c.args.self.now.memory) c.in-Some.action (sym c.first_due.ensures ∙ c.in-Some.is) (sym c.is_spent.ensures.spent ∙ c.if-is_spent.true)))

pub returns-then-is_spent-clause-standing : goal.returns-then-is_spent-clause-standing
returns-then-is_spent-clause-standing g c =
    sym (ap (λ x. x.after) (next-spent (standing_of c.args.self.now.memory) c.in-Some.action (sym c.first_due.ensures ∙ c.in-Some.is) (sym c.is_spent.ensures.spent ∙ c.if-is_spent.true)))

pub returns-then-is_spent-clause-told : goal.returns-then-is_spent-clause-told
returns-then-is_spent-clause-told g c =
    rw (next-spent (standing_of c.args.self.now.memory) c.in-Some.action (sym c.first_due.ensures ∙ c.in-Some.is) (sym c.is_spent.ensures.spent ∙ c.if-is_spent.true))
    (added_none (g.J.Chronicle.entries c.args.self.now.journal))

pub act_for-act-requires : goal.act_for-act-requires
act_for-act-requires g c =
    record {
      numbers = has-numbers c.in-Some.action (standing_of c.args.self.now.memory) (sym c.first_due.ensures ∙ c.in-Some.is)
          c.requires.stands.2.pids (c.is_spent.ensures.further c.if-is_spent.false);
    }

pub report-requires-clause-may : goal.report-requires-clause-may
report-requires-clause-may g c =
    may-do c.laws.ensures.starts c.requires.stands.0 _ (standing_of c.args.self.now.memory) c.requires.stands.1 c.in-Some.action
    (sym c.first_due.ensures ∙ c.in-Some.is) c.requires.stands.2

pub invariant_of-self : goal.invariant_of-self
invariant_of-self g c =
    record {
      room = rw (ap (λ x. x.due) (c.remember.ensures.standing ∙ ap (noted c.entry_for-entry.result) c.report.ensures.standing))
          (omega (arith, c.note.ensures.room, c.args.self.now.room, shorter c.args.self.now.memory.due.items c.in-Some.action (sym c.first_due.ensures ∙ c.in-Some.is)));
    }

pub returns-clause-act : goal.returns-clause-act
returns-clause-act g c =
    ap (λ a. Ok (Some a)) c.act_for-act.ensures
    ∙ sym (ap (λ x. x.answer) (next-done (standing_of c.args.self.now.memory) c.in-Some.action (sym c.first_due.ensures ∙ c.in-Some.is) (sym c.is_spent.ensures.spent ∙ c.if-is_spent.false)))

pub returns-clause-standing : goal.returns-clause-standing
returns-clause-standing g c =
    c.remember.ensures.standing
    ∙ (ap (noted c.entry_for-entry.result) c.report.ensures.standing
    ∙ (ap (λ e. noted e (reported c.in-Some.action (standing_of c.args.self.now.memory))) c.entry_for-entry.ensures
    ∙ sym (ap (λ x. x.after) (next-done (standing_of c.args.self.now.memory) c.in-Some.action (sym c.first_due.ensures ∙ c.in-Some.is) (sym c.is_spent.ensures.spent ∙ c.if-is_spent.false)))))

pub returns-clause-told : goal.returns-clause-told
returns-clause-told g c =
    rw (next-done (standing_of c.args.self.now.memory) c.in-Some.action (sym c.first_due.ensures ∙ c.in-Some.is) (sym c.is_spent.ensures.spent ∙ c.if-is_spent.false))
    (c.note.ensures.entries ∙ ap (λ e. option_map (λ es. es ++ e ∷ []) (g.J.Chronicle.entries c.args.self.now.journal)) c.entry_for-entry.ensures)

pub returns-clause-stands : goal.returns-clause-stands
returns-clause-stands g c = λ limits h was.
    stands-done c.laws.ensures.journal c.laws.ensures.starts limits _ _ (standing_of c.args.self.now.memory) _ h c.in-Some.action
    (sym c.first_due.ensures ∙ c.in-Some.is)
    (c.remember.ensures.standing
    ∙ (ap (noted c.entry_for-entry.result) c.report.ensures.standing
    ∙ ap (λ e. noted e (reported c.in-Some.action (standing_of c.args.self.now.memory))) c.entry_for-entry.ensures))
    (c.note.ensures.entries ∙ ap (λ e. option_map (λ es. es ++ e ∷ []) (g.J.Chronicle.entries c.args.self.now.journal)) c.entry_for-entry.ensures)
    was

pub returns-clause-settled : goal.returns-clause-settled
returns-clause-settled g c = λ was.
    settled-done (standing_of c.args.self.now.memory) _ c.in-Some.action (sym c.first_due.ensures ∙ c.in-Some.is)
    (c.remember.ensures.standing
    ∙ (ap (noted c.entry_for-entry.result) c.report.ensures.standing
    ∙ ap (λ e. noted e (reported c.in-Some.action (standing_of c.args.self.now.memory))) c.entry_for-entry.ensures))
    was
