use Rattle.std.proofs.Common.{[], ◌∷◌, Some, Err, refl}
use Rattle.pm_query.specs.{declared.book.BookEntry.{BookEntry, TheVariants.Released}, Calls.SeenNotes}
use Rattle.pm_rows_tests.proofs.MemStores.{goes_quietly, released_leaves, tells_again}
use Rattle.pm_rows_tests.proofs.mem_store.MemStoreStore.seen.Goals as goal

pub returns-then-front-self-clause-notes : goal.returns-then-front-self-clause-notes
returns-then-front-self-clause-notes g c =
    let entry : BookEntry = Released c.args.pass.now.pid c.args.front 0 in
    (entry ∷ [], goes_quietly entry _ _ _ _ _ _ _ _ _ (released_leaves c.args.pass.now.pid c.args.front 0) c.reserve.ensures.entries c.note.ensures.entries refl refl refl, (0, refl))

pub returns-in-Some-clause-notes : goal.returns-in-Some-clause-notes
returns-in-Some-clause-notes g c =
    let fault = c.in-Some.fault in
    tells_again c.args.pass.now.pid fault.since fault.faults _ (λ refusal entries. SeenNotes (record { pid = c.args.pass.now.pid; generation = c.args.pass.now.generation; stamp = Some 1 }) c.args.front (Err refusal) entries)
    _ _ _ _ _ _ _ _ _ c.broken.ensures.answer c.reserve.ensures.entries c.broken.ensures.noted c.broken.ensures.kept (fault.faults, refl)
