use Rattle.std.{proofs.Common.{◌≡◌, ◌∷◌, ◌++◌, ap, sym, ◌∙◌, subst, arith}, specs.Option.option_map}
use Rattle.pm_state.specs.Machine.{Exited, IsCounted}
use Rattle.pm_supervisor_journal.{specs.Standing.{all_noted, called, exit_call, exit_entry, later, redo_entries, standing_of}, proofs.Making.{counted-now, stands-exited}}
use Rattle.pm_supervisor_journal.proofs.supervision.Supervision.exited.Goals as goal

pub exit-requires-clause-counted : goal.exit-requires-clause-counted
exit-requires-clause-counted g c =
    subst (λ m. IsCounted m c.args.exit.kind) (sym (ap (λ x. x.machine) c.reserve.ensures.standing))
    (counted-now c.laws.ensures.facts c.laws.ensures.between c.requires.stands.0 _ (standing_of c.args.self.now.memory) c.requires.stands.1
    c.args.exit.pid c.args.exit.kind c.requires.rests.none_due c.requires.stands.2 c.requires.there)

pub invariant_of-self : goal.invariant_of-self
invariant_of-self g c =
    let exit = c.args.exit in
    record {
      room = rw (ap (λ x. x.due) c.exit.ensures)
          (omega (
            arith,
            c.in_ok-reserve.ensures.journal,
            c.laws.ensures.starts.few c.reserve.new.self.memory.core
                (Exited exit.pid exit.kind exit.status exit.was_active c.later-at.result),
          ));
    }

pub note_exit-requires-clause-room : goal.note_exit-requires-clause-room
note_exit-requires-clause-room g c =
    let exit = c.args.exit in
    rw (ap (λ x. x.due) c.exit.ensures)
    (omega (
      arith,
      c.in_ok-reserve.ensures.journal,
      c.laws.ensures.starts.few c.reserve.new.self.memory.core
          (Exited exit.pid exit.kind exit.status exit.was_active c.later-at.result),
    ))

pub returns-clause-stands : goal.returns-clause-stands
returns-clause-stands g c = λ limits h was.
    let exit = c.args.exit in
    let s = standing_of c.args.self.now.memory in
    let told = g.J.Chronicle.entries c.args.self.now.journal in
    let at = c.later-at.result in
    let is : at ≡ later c.args.at s = c.later-at.ensures ∙ ap (later c.args.at) c.reserve.ensures.standing in
    let call = c.exit.ensures ∙ ap (called (exit_call exit at)) c.reserve.ensures.standing in
    stands-exited c.laws.ensures.steps c.laws.ensures.journal c.laws.ensures.starts c.laws.ensures.facts c.laws.ensures.between limits _ _ s _ h exit c.args.at
    c.requires.rests c.requires.unowed c.requires.there
    (c.note_exit.ensures.standing
    ∙ (ap (λ x. all_noted (exit_entry exit at ∷ redo_entries exit x) x) call
    ∙ ap (λ n. all_noted (exit_entry exit n ∷ redo_entries exit s) (called (exit_call exit n) s)) is))
    (c.note_exit.ensures.told
    ∙ (ap (option_map (λ es. es ++ (exit_entry exit at ∷ redo_entries exit (standing_of c.exit.new.self)))) c.reserve.ensures.told
    ∙ (ap (λ x. option_map (λ es. es ++ (exit_entry exit at ∷ redo_entries exit x)) told) call
    ∙ ap (λ n. option_map (λ es. es ++ (exit_entry exit n ∷ redo_entries exit s)) told) is)))
    was
