use Rattle.std.proofs.Common.{Ok, Err, inl, inr, ◌⊎◌}
use Rattle.pm_query.{specs.Calls.{CheckpointNotes, FlushNotes}, proofs.NotedLaws.same_user}
use Rattle.pm_rows_tests.proofs.Askings.{flushed_then, redone_then}
use Rattle.pm_rows_tests.proofs.tending.keep_up.Goals as goal

pub returns-in-Err-clause-notes : goal.returns-in-Err-clause-notes
returns-in-Err-clause-notes g c =
    let no = c.in-Err.refusal in
    let user = same_user _ _ (g.S.Store.view c.args.pass.now) _ (g.met.S.Store.stays _ _ _ c.in_ok-kept.ensures.notes.1) c.in_ok-kept.ensures.view in
    let behind = c.in-Err.ensures.notes in
    let both = redone_then g.S.Store.notes _ _ c.in_ok-kept.kept (λ user entries. FlushNotes user (Err no) entries ⊎ CheckpointNotes user c.args.clean (Err no) entries) _ _ _ g.met.S.Store.in_turn user
    c.in_ok-kept.ensures.notes (behind.0, behind.1, inl behind.2) in
    (both.0, both.1, inr (c.in_ok-kept.kept, both.2))

pub returns-in-Err-checkpoint-clause-notes : goal.returns-in-Err-checkpoint-clause-notes
returns-in-Err-checkpoint-clause-notes g c =
    let no = c.in-Err-checkpoint.refusal in
    let user = same_user _ _ (g.S.Store.view c.args.pass.now) _ (g.met.S.Store.stays _ _ _ c.in_ok-kept.ensures.notes.1) c.in_ok-kept.ensures.view in
    let later = same_user _ _ _ _ (g.met.S.Store.stays _ _ _ c.in-Ok.ensures.notes.1) c.in-Ok.ensures.view in
    let made = c.in-Err-checkpoint.ensures.notes in
    let behind = flushed_then g.S.Store.notes _ _ c.in-Ok.flushed (λ user entries. FlushNotes user (Err no) entries ⊎ CheckpointNotes user c.args.clean (Err no) entries) _ _ _ g.met.S.Store.in_turn later
    c.in-Ok.ensures.notes (made.0, made.1, inr made.2) in
    let both = redone_then g.S.Store.notes _ _ c.in_ok-kept.kept (λ user entries. FlushNotes user (Err no) entries ⊎ CheckpointNotes user c.args.clean (Err no) entries) _ _ _ g.met.S.Store.in_turn user
    c.in_ok-kept.ensures.notes behind in
    (both.0, both.1, inr (c.in_ok-kept.kept, both.2))

pub returns-clause-notes : goal.returns-clause-notes
returns-clause-notes g c =
    let user = same_user _ _ (g.S.Store.view c.args.pass.now) _ (g.met.S.Store.stays _ _ _ c.in_ok-kept.ensures.notes.1) c.in_ok-kept.ensures.view in
    let later = same_user _ _ _ _ (g.met.S.Store.stays _ _ _ c.in-Ok.ensures.notes.1) c.in-Ok.ensures.view in
    let behind = flushed_then g.S.Store.notes _ _ c.in-Ok.flushed (λ user entries. CheckpointNotes user c.args.clean (Ok c.in-Ok-checkpoint.made) entries) _ _ _ g.met.S.Store.in_turn later
    c.in-Ok.ensures.notes c.in-Ok-checkpoint.ensures.notes in
    redone_then g.S.Store.notes _ _ c.in_ok-kept.kept (λ user entries. CheckpointNotes user c.args.clean (Ok c.in-Ok-checkpoint.made) entries) _ _ _ g.met.S.Store.in_turn user c.in_ok-kept.ensures.notes behind
