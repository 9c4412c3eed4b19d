use Rattle.std.proofs.Common.{[], ◌∷◌, inl, refl}
use Rattle.pm_query.specs.declared.book.BookEntry.{BookEntry, TheVariants.Detached}
use Rattle.pm_rows_tests.proofs.MemStores.{detached_leaves, goes_quietly}
use Rattle.pm_rows_tests.proofs.mem_store.MemStoreStore.leave.Goals as goal

pub returns-clause-notes : goal.returns-clause-notes
returns-clause-notes g c =
    let entry : BookEntry = Detached c.args.pass.pid in
    (entry ∷ [], goes_quietly entry _ _ _ _ _ _ _ _ _ (detached_leaves c.args.pass.pid) refl c.note.ensures.entries refl refl refl, inl refl)

pub returns-clause-stale : goal.returns-clause-stale
returns-clause-stale g c = inl (goes_quietly (Detached c.args.pass.pid) _ _ _ _ _ _ _ _ _ (detached_leaves c.args.pass.pid) refl c.note.ensures.entries refl refl refl)
