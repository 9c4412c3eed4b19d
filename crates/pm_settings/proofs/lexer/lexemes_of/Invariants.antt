use Rattle.std.proofs.Common.{length}
use denote.Text.{Utf8}
use denote.Shadow.{shadow}
use Rattle.pm_settings.proofs.Lexings.{Goes}
use Rattle.pm_settings.proofs.lexer.lexemes_of.Given as goal

abbrev pub invariant-lexemes : goal.invariant-lexemes
invariant-lexemes l = shadow (Utf8 l.rest) × Goes l.text l.lexemes.items l.rest

abbrev pub decreases-lexemes : goal.decreases-lexemes
decreases-lexemes l = length l.rest
