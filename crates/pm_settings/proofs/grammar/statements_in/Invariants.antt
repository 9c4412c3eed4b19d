use Rattle.std.{proofs.Common.{◌≡◌, List, Some, map, Bor}, specs.List.filter}
use Rattle.pm_settings.specs.{declared.lexeme.Lexeme.Lexeme, Statements.is_filled, Reading.{all_of, statement_in}}
use Rattle.pm_settings.proofs.grammar.statements_in.Given as goal

abbrev pub invariant-loop-piece : goal.invariant-loop-piece
invariant-loop-piece l = all_of statement_in (filter is_filled (map (λ (x : Bor (List Lexeme)). x.now) l.yielded)) ≡ Some l.statements.items
