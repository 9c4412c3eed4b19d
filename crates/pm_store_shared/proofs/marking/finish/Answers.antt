use Rattle.std.{proofs.Common.{sym, ◌∙◌, Some, None, refl}}
use Rattle.pm_segment.specs.{pm_store_apart.declared.commits.Commits.TheVariants.Staged, Passes.view_of, pm_query.Calls.user_of}
use Rattle.pm_store_shared.{specs.{Told.{token_of}}, proofs.{Calls.{called, rests_again, token_admits, token_may_quiet}, Flushing.{lent_there, marks_met, marks_told}, Learns.flush_learns, Moving.{Marked, marks, with_disk}, Others.{flush_free, flush_quiet, token_knows_same}, Stores.quiet_own}}
use Rattle.pm_store_shared.proofs.marking.finish.Goals as goal

pub mark-result-requires-clause-admits : goal.mark-result-requires-clause-admits
mark-result-requires-clause-admits g c =
    let t = c.take-apart.ensures.taken in
    let lent = lent_there _ _ _ _ t.0 _ c.take-apart.result _ c.requires.seat.1 t.2 in
    token_admits _ _ _ _ t.0 c.take-apart.result _ _ c.requires.seat.1 t.2 c.requires.admits (sym lent.generation)

pub mark-result-requires-clause-under : goal.mark-result-requires-clause-under
mark-result-requires-clause-under g c =
    let t = c.take-apart.ensures.taken in (lent_there _ _ _ _ t.0 _ c.take-apart.result _ c.requires.seat.1 t.2).under

pub mark-result-requires-clause-wrote : goal.mark-result-requires-clause-wrote
mark-result-requires-clause-wrote g c = (c.args.disk, c.write-written.ensures)

pub give-requires-clause-may : goal.give-requires-clause-may
give-requires-clause-may g c =
    let t = c.take-apart.ensures.taken in
    let lent = lent_there _ _ _ _ t.0 _ c.take-apart.result _ c.requires.seat.1 t.2 in
    let notes = c.mark-result.ensures.notes c.args.disk lent.rests c.write-written.ensures in
    let quiet = flush_quiet (view_of c.args.pass.now) (Some c.take-apart.result.apart.generation) c.mark-result.result notes.0 notes.2 in
    let marked : Marked (record { disk = c.args.disk; batch = c.args.batch; generation = c.args.pass.now.generation }) c.write-written.new.disk notes.0 c.take-apart.result.apart c.mark-result.new.self c.take-apart.result.making =
    record { moves = notes.1 Staged; rests = c.mark-result.ensures.rests c.args.disk lent.rests c.write-written.ensures; made = c.mark-result.ensures.made c.args.disk c.take-apart.result.making lent.rests c.write-written.ensures lent.making; home = c.mark-result.ensures.home } in
    let moves = marks notes.0 c.take-apart.result c.mark-result.new.self c.take-apart.result.making _ c.write-written.new.disk (quiet_own notes.0 quiet) marked in
    token_may_quiet _ _ _ _ _ t.0 c.take-apart.result (with_disk c.mark-result.new.self c.write-written.new.disk c.take-apart.result.making) c.args.pass.now c.args.pass.now notes.0 _ _ _ c.requires.seat.1 t.1 t.2
    (flush_free (view_of c.args.pass.now) (Some c.take-apart.result.apart.generation) c.mark-result.result notes.0 notes.2) quiet moves c.requires.admits (sym lent.generation) refl refl
    (token_knows_same _ _ _ _ t.0 notes.0 c.take-apart.result (with_disk c.mark-result.new.self c.write-written.new.disk c.take-apart.result.making) _ c.args.pass.now c.args.pass.now c.requires.seat.1 t.2 c.requires.admits (sym lent.generation) quiet refl c.mark-result.ensures.admits)

pub returns-clause-rests : goal.returns-clause-rests
returns-clause-rests g c =
    let t = c.take-apart.ensures.taken in (c.requires.seat.0, rests_again _ _ _ _ _ _ c.give.ensures.given.0 None _ _ _ _ c.requires.seat.1 t.1 c.give.ensures.given.2)

pub returns-clause-first : goal.returns-clause-first
returns-clause-first g c =
    let t = c.take-apart.ensures.taken in
    let given = c.give.ensures.given in
    let lent = lent_there _ _ _ _ t.0 _ c.take-apart.result _ c.requires.seat.1 t.2 in
    let same = ((c.mark-result.ensures.notes c.args.disk lent.rests c.write-written.ensures).1 Staged).generation in
    let done = called _ _ _ _ t.0 given.0 None c.take-apart.result (with_disk c.mark-result.new.self c.write-written.new.disk c.take-apart.result.making) _ _ _ _ c.give.new.seat.me _ _ c.args.pass.now c.args.pass.now _ refl (c.give.ensures.same ∙ c.take-apart.ensures.same) c.requires.seat.1 t.1 given.2 t.2 same in
    done.grew.first

pub returns-clause-notes : goal.returns-clause-notes
returns-clause-notes g c =
    let t = c.take-apart.ensures.taken in
    let given = c.give.ensures.given in
    let lent = lent_there _ _ _ _ t.0 _ c.take-apart.result _ c.requires.seat.1 t.2 in
    let same = ((c.mark-result.ensures.notes c.args.disk lent.rests c.write-written.ensures).1 Staged).generation in
    let done = called _ _ _ _ t.0 given.0 None c.take-apart.result (with_disk c.mark-result.new.self c.write-written.new.disk c.take-apart.result.making) _ _ _ _ c.give.new.seat.me _ _ c.args.pass.now c.args.pass.now _ refl (c.give.ensures.same ∙ c.take-apart.ensures.same) c.requires.seat.1 t.1 given.2 t.2 same in
    (given.0, done.grew, given.1)

pub returns-clause-admits : goal.returns-clause-admits
returns-clause-admits g c =
    let t = c.take-apart.ensures.taken in
    let given = c.give.ensures.given in
    let lent = lent_there _ _ _ _ t.0 _ c.take-apart.result _ c.requires.seat.1 t.2 in
    let same = ((c.mark-result.ensures.notes c.args.disk lent.rests c.write-written.ensures).1 Staged).generation in
    let done = called _ _ _ _ t.0 given.0 None c.take-apart.result (with_disk c.mark-result.new.self c.write-written.new.disk c.take-apart.result.making) _ _ _ _ c.give.new.seat.me _ _ c.args.pass.now c.args.pass.now _ refl (c.give.ensures.same ∙ c.take-apart.ensures.same) c.requires.seat.1 t.1 given.2 t.2 same in
    done.among

pub returns-clause-stale : goal.returns-clause-stale
returns-clause-stale g c = marks_met _ _ c.args.batch c.write-written.result _ _ c.mark-result.result c.mark-result.ensures.marks

pub returns-clause-learned : goal.returns-clause-learned
returns-clause-learned g c =
    let t = c.take-apart.ensures.taken in
    let lent = lent_there _ _ _ _ t.0 _ c.take-apart.result _ c.requires.seat.1 t.2 in
    let notes = c.mark-result.ensures.notes c.args.disk lent.rests c.write-written.ensures in
    let quiet = flush_quiet (view_of c.args.pass.now) (Some c.take-apart.result.apart.generation) c.mark-result.result notes.0 notes.2 in
    let marked : Marked (record { disk = c.args.disk; batch = c.args.batch; generation = c.args.pass.now.generation }) c.write-written.new.disk notes.0 c.take-apart.result.apart c.mark-result.new.self c.take-apart.result.making =
    record { moves = notes.1 Staged; rests = c.mark-result.ensures.rests c.args.disk lent.rests c.write-written.ensures; made = c.mark-result.ensures.made c.args.disk c.take-apart.result.making lent.rests c.write-written.ensures lent.making; home = c.mark-result.ensures.home } in
    let moves = marks notes.0 c.take-apart.result c.mark-result.new.self c.take-apart.result.making _ c.write-written.new.disk (quiet_own notes.0 quiet) marked in
    let given = c.give.ensures.given in
    let same = ((c.mark-result.ensures.notes c.args.disk lent.rests c.write-written.ensures).1 Staged).generation in
    let done = called _ _ _ _ t.0 given.0 None c.take-apart.result (with_disk c.mark-result.new.self c.write-written.new.disk c.take-apart.result.making) _ _ _ _ c.give.new.seat.me _ _ c.args.pass.now c.args.pass.now _ refl (c.give.ensures.same ∙ c.take-apart.ensures.same) c.requires.seat.1 t.1 given.2 t.2 same in
    flush_learns _ _ _ _ t.0 notes.0 c.take-apart.result (with_disk c.mark-result.new.self c.write-written.new.disk c.take-apart.result.making) c.args.seat.now.table_id c.args.seat.now.me (token_of c.args.seat.now.table_id c.args.number c.args.seat.now.me.0) _ _ None (user_of (Some c.take-apart.result.apart.generation) (view_of c.args.pass.now)) c.mark-result.result refl c.requires.seat.1 t.2 notes.2 moves
    (marks_told c.args.batch c.write-written.result _ _ c.mark-result.result c.mark-result.ensures.marks) done.grew.first done.past
