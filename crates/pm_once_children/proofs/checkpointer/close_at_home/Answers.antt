use Rattle.std.{proofs.Common.{◌≡◌, ℕ, Result, List, ap, subst, sym, ◌∙◌, refl, rules}, specs.Prelude.Option}
use Rattle.pm_aux.specs.{pm_exit.declared.child.Kind.TheVariants.Checkpointer, pm_query.declared.{book.BookEntry.BookEntry, store.{Checkpointed.Checkpointed, StoreNo.StoreNo}}, declared.aux_done.AuxDone.AuxDone, Ends.fault_by, Runs.NotesBehind}
use Rattle.pm_once_lives.{specs.{pm_child_life.Life.Child, Asked.asked_told}, proofs.QuietLaws.its_gate}
use Rattle.pm_segment.specs.{Moment.moment, Moves.Moves}
use Rattle.pm_once_children.{specs.{Alone.made_by, AuxiliaryRuns.{CloseNotes, closed_as}}, proofs.{Closing.{close_notes, run_closes}, Reading.runner_of}}
use Rattle.pm_once_children.proofs.checkpointer.close_at_home.Goals as goal

pub returns-clause-notes : goal.returns-clause-notes
returns-clause-notes g c =
    let home = (moment c.args.store.now).generation in
    let pid = c.args.pid in
    let life = c.checkpointer-done.new.work.life in
    let work = c.checkpointer-done.new.work.work in
    let run = c.checkpointer-done.ensures.run in
    let noted = run.0 in
    let cause = run.2.cause in
    let gate = run.2.gate in
    let pid_is : c.new-life.result.pid ≡ pid = ap (λ (child : Child). child.pid) c.new-life.ensures.child in
    let met = ap (λ (n : ℕ). its_gate n life.came_as_ordinary) (c.requires ∙ sym life.at_home) ∙ run.2.met in
    let behind = subst (λ (n : ℕ). NotesBehind Checkpointer (runner_of n home) gate cause noted) pid_is run.2.notes in
    let closes = run_closes pid home cause gate life.came_as_ordinary life.is_told (asked_told life) noted refl met run.2.told_to behind in
    let fault_is : c.checkpointer-done.result.fault ≡ fault_by cause = ap (λ (done : AuxDone). done.fault) run.2.done in
    let notes = close_notes pid home (fault_by cause) work _ _ noted closes run.1.1.done in
    let by_fault = subst (λ (fault : Option StoreNo). CloseNotes pid home (closed_as (made_by fault work)) noted) (sym fault_is) notes in
    let told : (entries : List BookEntry) × CloseNotes pid home (closed_as c.made.result) entries × Moves entries (moment c.args.store.now) (moment c.checkpointer-done.new.work.store.now) =
    (noted, subst (λ (made : Result Checkpointed StoreNo). CloseNotes pid home (closed_as made) noted) (sym c.made.ensures) by_fault, run.1.1.moves)
    in
    search rules
