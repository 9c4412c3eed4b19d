use Rattle.pm_supervisor.proofs.Between.{between-run, between-alike, one-alike, alike-count, detached-after, kind-detached, detached-kind, differ-detached}
use Rattle.pm_supervisor.proofs.laws.takes_child_steps_between.Goals as goal

pub returns : goal.returns
returns c =
    record {
      run = between-run;
      leaves = between-alike;
      one = one-alike;
      counts = alike-count;
      detaches = detached-after;
      there = kind-detached;
      was_there = detached-kind;
      differ = differ-detached;
    }
