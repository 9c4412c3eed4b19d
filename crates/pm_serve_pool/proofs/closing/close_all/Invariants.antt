use Rattle.std.proofs.Common.{◌≡◌, ◌+◌, length, map}
use Rattle.pm_spawn.specs.Works.{work_of}
use Rattle.pm_serve_pool.specs.{Closing.AreClosed, Plan.{files_of, manner_of}, Works.{EachFrom, IsWorkOf}}
use Rattle.pm_serve_pool.proofs.closing.close_all.Given as goal

abbrev pub invariant-loop-worker : goal.invariant-loop-worker
invariant-loop-worker g l =
    record {
      left : l.slot + length l.workers.items ≡ length l.fn.workers.items;
      table : l.roster.table ≡ l.fn.roster.table;
      new :
          EachFrom (IsWorkOf g.C.Clock.gives l.terms l.fn.roster.table l.fn.shared.table l.fn.shared.first) l.slot
          (map work_of l.workers.items);
      closed : AreClosed (manner_of g.C.Clock.gives l.terms (files_of g.D.Disk l.fn.shared.first)) l.slot l.fn.roster.knows l.roster.knows l.fn.shared l.shared;
    }

abbrev pub decreases-loop-worker : goal.decreases-loop-worker
decreases-loop-worker g l = length l.workers.items
