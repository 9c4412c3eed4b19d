use Rattle.std.proofs.Common.{rules, [], ◌∷◌, Some, Err, refl}
use Rattle.pm_query.specs.{declared.book.BookEntry.{BookEntry, TheVariants.Answered}, Calls.RunNotes}
use Rattle.pm_rows_tests.proofs.MemStores.{goes_answered, goes_silently, tells_again, wrote_changes}
use Rattle.pm_rows_tests.proofs.mem_store.MemStoreStore.run.Goals as goal

pub returns-in-Some-clause-notes : goal.returns-in-Some-clause-notes
returns-in-Some-clause-notes g c =
    tells_again c.args.pass.now.pid _ _ _ (λ refusal entries. RunNotes (record { pid = c.args.pass.now.pid; generation = c.args.pass.now.generation; stamp = Some 1 }) c.args.script.now (Err refusal) entries)
    _ _ _ _ _ _ _ _ _ c.broken.ensures.answer c.reserve.ensures.entries c.broken.ensures.noted c.broken.ensures.kept (_, refl)

pub returns-in_err-script-clause-notes : goal.returns-in_err-script-clause-notes
returns-in_err-script-clause-notes g c = ([], goes_silently _ _ _ _ _ _ c.reserve.ensures.entries refl, search rules)

pub returns-in_err-shown-clause-notes : goal.returns-in_err-shown-clause-notes
returns-in_err-shown-clause-notes g c = ([], goes_silently _ _ _ _ _ _ c.reserve.ensures.entries refl, search rules)

pub returns-in_err-front-clause-notes : goal.returns-in_err-front-clause-notes
returns-in_err-front-clause-notes g c = ([], goes_silently _ _ _ _ _ _ c.reserve.ensures.entries refl, search rules)

pub returns-in_err-apply-clause-notes : goal.returns-in_err-apply-clause-notes
returns-in_err-apply-clause-notes g c = ([], goes_silently _ _ _ _ _ _ c.reserve.ensures.entries c.in_err-apply.ensures.err, search rules)

pub returns-clause-notes : goal.returns-clause-notes
returns-clause-notes g c =
    let reply = c.in_ok-reply.field-0.reply in
    let commit = c.in_ok-reply.field-0.commit in
    let entry : BookEntry = Answered c.args.pass.now.pid c.args.script.now reply commit c.in_ok-front.front 0 in (
      entry ∷ [],
      goes_answered c.args.pass.now.pid c.args.script.now reply commit c.in_ok-front.front _ _ _ _ _ _ _ c.reserve.ensures.entries
          (rw (c.in_ok-script.ensures, c.in_ok-shown.ensures) at c.note.ensures.entries) c.in_ok-apply.ensures.ok c.in_ok-front.ensures,
      record { commit = commit; answer = record { tick = 0; entries_are = refl }; wrote = wrote_changes _ _ _ c.changes.ensures.list c.is_empty-wrote.ensures },
    )
