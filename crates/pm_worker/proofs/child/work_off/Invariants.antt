use Rattle.pm_worker.specs.Runs.{GoesOnWorking}
use Rattle.pm_worker.proofs.child.work_off.Given as goal

-- what was done so far
abbrev pub invariant-loop : goal.invariant-loop
invariant-loop g l =
    record {
      worked :
          GoesOnWorking g.S.Store.notes g.S.Store.met g.S.Store.learned (g.S.Store.stamp l.fn.store) l.tools.seed l.tools.conf.authentication_ms
          (g.C.Clock.gives l.tools.clock) l.fn.post l.post l.fn.store l.store;
      next : (goal.iterator-loop g).can_next l.iterator';
      ends : (goal.iterator-loop g).is_finite l.iterator';
    }
