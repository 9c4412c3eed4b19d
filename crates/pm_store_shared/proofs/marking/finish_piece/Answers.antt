use Rattle.std.{proofs.Common.{sym, ◌∙◌, Some, None, refl}}
use Rattle.pm_segment.specs.{pm_store_apart.declared.commits.Commits.TheVariants.Staged, Passes.view_of}
use Rattle.pm_store_shared.proofs.{Calls.{called, token_admits, token_may_quiet}, Flushing.lent_there, Makings.{step_free, step_quiet}, Moving.{Marked, marks, with_disk}, Others.token_knows_same, Stores.quiet_own}
use Rattle.pm_store_shared.proofs.marking.finish_piece.Goals as goal

pub mark_piece-result-requires-clause-admits : goal.mark_piece-result-requires-clause-admits
mark_piece-result-requires-clause-admits g c =
    let t = c.take-apart.ensures.taken in
    let lent = lent_there _ _ _ _ t.0 _ c.take-apart.result _ c.requires.seat.1 t.2 in
    token_admits _ _ _ _ t.0 c.take-apart.result _ _ c.requires.seat.1 t.2 c.requires.admits (sym lent.generation)

pub give-requires-clause-may : goal.give-requires-clause-may
give-requires-clause-may g c =
    let t = c.take-apart.ensures.taken in
    let lent = lent_there _ _ _ _ t.0 _ c.take-apart.result _ c.requires.seat.1 t.2 in
    let left = c.make_piece-came.result.making in
    let notes = c.mark_piece-result.ensures.notes c.args.disk c.args.piece.1 left c.make_piece-came.ensures in
    let both = c.mark_piece-result.ensures.rests c.args.disk c.args.piece.1 left lent.rests c.make_piece-came.ensures in
    let quiet = step_quiet (view_of c.args.pass.now) (Some c.take-apart.result.apart.generation) c.mark_piece-result.result notes.0 notes.2 in
    let marked : Marked (record { disk = c.args.disk; batch = c.args.piece.0; generation = c.args.pass.now.generation }) c.make_piece-came.new.disk notes.0 c.take-apart.result.apart c.mark_piece-result.new.self left =
    record { moves = notes.1 Staged; rests = both.0; made = both.1; home = c.mark_piece-result.ensures.home } in
    let moves = marks notes.0 c.take-apart.result c.mark_piece-result.new.self left _ c.make_piece-came.new.disk (quiet_own notes.0 quiet) marked in
    token_may_quiet _ _ _ _ _ t.0 c.take-apart.result (with_disk c.mark_piece-result.new.self c.make_piece-came.new.disk left) c.args.pass.now c.args.pass.now notes.0 _ _ _ c.requires.seat.1 t.1 t.2
    (step_free (view_of c.args.pass.now) (Some c.take-apart.result.apart.generation) c.mark_piece-result.result notes.0 notes.2) quiet moves c.requires.admits (sym lent.generation) refl refl
    (token_knows_same _ _ _ _ t.0 notes.0 c.take-apart.result (with_disk c.mark_piece-result.new.self c.make_piece-came.new.disk left) _ c.args.pass.now c.args.pass.now c.requires.seat.1 t.2 c.requires.admits (sym lent.generation) quiet refl c.mark_piece-result.ensures.admits)

pub returns-then-is_err-clause-notes : goal.returns-then-is_err-clause-notes
returns-then-is_err-clause-notes g c =
    let t = c.take-apart.ensures.taken in
    let given = c.give.ensures.given in
    let left = c.make_piece-came.result.making in
    let same = ((c.mark_piece-result.ensures.notes c.args.disk c.args.piece.1 left c.make_piece-came.ensures).1 Staged).generation in
    let done = called _ _ _ _ t.0 given.0 None c.take-apart.result (with_disk c.mark_piece-result.new.self c.make_piece-came.new.disk left) _ _ _ _ c.give.new.seat.me _ _ c.args.pass.now c.args.pass.now _ refl (c.give.ensures.same ∙ c.take-apart.ensures.same) c.requires.seat.1 t.1 given.2 t.2 same in
    (given.0, done.grew, given.1)

pub returns-else-is_err-clause-notes : goal.returns-else-is_err-clause-notes
returns-else-is_err-clause-notes g c =
    let t = c.take-apart.ensures.taken in
    let given = c.give.ensures.given in
    let left = c.make_piece-came.result.making in
    let same = ((c.mark_piece-result.ensures.notes c.args.disk c.args.piece.1 left c.make_piece-came.ensures).1 Staged).generation in
    let done = called _ _ _ _ t.0 given.0 None c.take-apart.result (with_disk c.mark_piece-result.new.self c.make_piece-came.new.disk left) _ _ _ _ c.give.new.seat.me _ _ c.args.pass.now c.args.pass.now _ refl (c.give.ensures.same ∙ c.take-apart.ensures.same) c.requires.seat.1 t.1 given.2 t.2 same in
    (given.0, done.grew, given.1)

pub returns-then-is_err-clause-admits : goal.returns-then-is_err-clause-admits
returns-then-is_err-clause-admits g c =
    let t = c.take-apart.ensures.taken in
    let given = c.give.ensures.given in
    let left = c.make_piece-came.result.making in
    let same = ((c.mark_piece-result.ensures.notes c.args.disk c.args.piece.1 left c.make_piece-came.ensures).1 Staged).generation in
    let done = called _ _ _ _ t.0 given.0 None c.take-apart.result (with_disk c.mark_piece-result.new.self c.make_piece-came.new.disk left) _ _ _ _ c.give.new.seat.me _ _ c.args.pass.now c.args.pass.now _ refl (c.give.ensures.same ∙ c.take-apart.ensures.same) c.requires.seat.1 t.1 given.2 t.2 same in
    done.among

pub returns-else-is_err-clause-admits : goal.returns-else-is_err-clause-admits
returns-else-is_err-clause-admits g c =
    let t = c.take-apart.ensures.taken in
    let given = c.give.ensures.given in
    let left = c.make_piece-came.result.making in
    let same = ((c.mark_piece-result.ensures.notes c.args.disk c.args.piece.1 left c.make_piece-came.ensures).1 Staged).generation in
    let done = called _ _ _ _ t.0 given.0 None c.take-apart.result (with_disk c.mark_piece-result.new.self c.make_piece-came.new.disk left) _ _ _ _ c.give.new.seat.me _ _ c.args.pass.now c.args.pass.now _ refl (c.give.ensures.same ∙ c.take-apart.ensures.same) c.requires.seat.1 t.1 given.2 t.2 same in
    done.among
