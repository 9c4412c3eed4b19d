use Rattle.std.proofs.Common.{arith}
use Rattle.pm_outside.proofs.AddedLaws.{added_none}
use Rattle.pm_store_apart.proofs.Others.{gone_further, gone_whole}
use Rattle.pm_store_apart.proofs.renew.note_gone.Goals as goal

pub loop-at-init : goal.loop-at-init
loop-at-init g c = (added_none (g.B.Chronicle.entries c.args.book.now), omega arith)

pub note-requires : goal.note-requires
note-requires g c = omega (arith, c.loop-at.invariant.1, c.requires, c.loop-at-test.true)

pub loop-at-preserved : goal.loop-at-preserved
loop-at-preserved g c = (
  gone_further c.args.pids.now c.loop-at.at (g.B.Chronicle.entries c.args.book.now) (g.B.Chronicle.entries c.loop-at.book) (g.B.Chronicle.entries c.note.new.self) c.loop-at-test.true c.loop-at.invariant.0 c.note.ensures.entries,
  omega (arith, c.loop-at.invariant.1, c.note.ensures.room),
)

pub returns-clause-entries : goal.returns-clause-entries
returns-clause-entries g c = gone_whole c.args.pids.now c.loop-at.at (g.B.Chronicle.entries c.args.book.now) (g.B.Chronicle.entries c.loop-at.book) c.loop-at-test.false c.loop-at.invariant.0

pub returns-clause-room : goal.returns-clause-room
returns-clause-room g c = omega (arith, c.loop-at.invariant.1, c.loop-at-test.false, c.loop-at.auto.at-end)
