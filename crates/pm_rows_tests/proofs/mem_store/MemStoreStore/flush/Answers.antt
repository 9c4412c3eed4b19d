use Rattle.std.proofs.Common.{Some, Err, refl}
use Rattle.pm_query.specs.Calls.{FlushNotes}
use Rattle.pm_rows_tests.proofs.MemStores.{tells_again}
use Rattle.pm_rows_tests.proofs.mem_store.MemStoreStore.flush.Goals as goal

pub returns-in-Some-clause-notes : goal.returns-in-Some-clause-notes
returns-in-Some-clause-notes g c =
    tells_again c.args.pass.now.pid _ _ _ (λ refusal entries. FlushNotes (record { pid = c.args.pass.now.pid; generation = c.args.pass.now.generation; stamp = Some 1 }) (Err refusal) entries)
    _ _ _ _ _ _ _ _ _ c.broken.ensures.answer c.reserve.ensures.entries c.broken.ensures.noted c.broken.ensures.kept (_, refl)
