use Rattle.std.proofs.Common.{◌≡◌, List, Some, map, Bor}
use Rattle.pm_settings.specs.{declared.lexeme.Lexeme.Lexeme, Reading.{all_of, value_in}}
use Rattle.pm_settings.proofs.value.values_of.Given as goal

abbrev pub invariant-loop-piece : goal.invariant-loop-piece
invariant-loop-piece l = all_of value_in (map (λ (x : Bor (List Lexeme)). x.now) l.yielded) ≡ Some l.values.items
