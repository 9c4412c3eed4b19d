use Rattle.std.{proofs.Common.{◌≡◌, ℕ, Result, List, ap, subst, sym, ◌∙◌, refl, rules}, specs.Prelude.Option}
use Rattle.pm_aux.specs.{pm_exit.declared.child.Kind.TheVariants.Startup, pm_query.declared.{book.BookEntry.BookEntry, store.StoreNo.StoreNo}, declared.aux_done.AuxDone.AuxDone, Ends.fault_by, Runs.NotesBehind}
use Rattle.pm_once_lives.{specs.{pm_child_life.Life.Child, Quiet.quiet_told}, proofs.QuietLaws.its_gate}
use Rattle.pm_segment.specs.{Moment.moment, Moves.Moves}
use Rattle.pm_once_children.{specs.{Alone.redone_by, AuxiliaryRuns.{StartNotes, started_as}}, proofs.Reading.{run_reads, runner_of, start_notes}}
use Rattle.pm_once_children.proofs.startup.redo_at_home.Goals as goal

pub returns-clause-notes : goal.returns-clause-notes
returns-clause-notes g c =
    let home = (moment c.args.store.now).generation in
    let pid = c.args.pid in
    let life = c.startup-done.new.work.life in
    let work = c.startup-done.new.work.work in
    let run = c.startup-done.ensures.run in
    let noted = run.0 in
    let cause = run.2.cause in
    let gate = run.2.gate in
    let pid_is : c.new-life.result.pid ≡ pid = ap (λ (child : Child). child.pid) c.new-life.ensures.child in
    let met = ap (λ (n : ℕ). its_gate n life.came_as_ordinary) (c.requires ∙ sym life.at_home) ∙ run.2.met in
    let behind = subst (λ (n : ℕ). NotesBehind Startup (runner_of n home) gate cause noted) pid_is run.2.notes in
    let reads = run_reads pid home cause gate life.came_as_ordinary (quiet_told life) noted refl met run.2.told_to behind in
    let fault_is : c.startup-done.result.fault ≡ fault_by cause = ap (λ (done : AuxDone). done.fault) run.2.done in
    let notes = start_notes pid home (fault_by cause) work _ _ noted reads run.1.1.done in
    let by_fault = subst (λ (fault : Option StoreNo). StartNotes pid home (started_as (redone_by fault work)) noted) (sym fault_is) notes in
    let told : (entries : List BookEntry) × StartNotes pid home (started_as c.redone.result) entries × Moves entries (moment c.args.store.now) (moment c.startup-done.new.work.store.now) =
    (noted, subst (λ (redone : Result ℕ StoreNo). StartNotes pid home (started_as redone) noted) (sym c.redone.ensures) by_fault, run.1.1.moves)
    in
    search rules
