use Rattle.std.{proofs.Common.{◌∷◌, ap}, specs.Prelude.Ok}
use Rattle.pm_once_acts.proofs.acts.act_all.Goals as goal

pub acts-preserved : goal.acts-preserved
acts-preserved g c = record {
  may = c.in-Ok-true.ensures.goes_on (ap Ok c.in-Ok-true.field-0-test);
  so_far = λ result now done. c.acts.invariant.so_far result now (record {
    passed = c.do_next.new.self ∷ done.passed;
    each = (rw c.in-Ok-true.field-0-test at c.in-Ok-true.ensures.does, done.each);
  });
}
