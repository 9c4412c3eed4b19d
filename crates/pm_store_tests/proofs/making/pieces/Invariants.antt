use Rattle.pm_log.specs.Making.{IsUnderWay}
use Rattle.pm_store_tests.proofs.making.pieces.Given as goal

abbrev pub invariant-loop-word : goal.invariant-loop-word
invariant-loop-word g l =
    (goal.iterator-loop-word g).can_next l.word-iterator ×
    (goal.iterator-loop-word g).is_finite l.word-iterator ×
    IsUnderWay l.log l.making
