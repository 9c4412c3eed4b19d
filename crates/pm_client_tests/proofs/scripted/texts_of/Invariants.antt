use Rattle.std.proofs.Common.{All}
use Rattle.pm_wire_front.specs.Requests.{IsSayable}
use Rattle.pm_client_tests.proofs.scripted.texts_of.Given as goal

abbrev pub invariant-loop-line : goal.invariant-loop-line
invariant-loop-line l = All IsSayable l.texts.items
