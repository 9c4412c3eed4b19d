use Rattle.std.proofs.Common.{◌≡◌, length, drop}
use Rattle.pm_settings.specs.{Lexemes.words_in, Reading.after_words}
use Rattle.pm_settings.proofs.lexeme.after_words.Given as goal

-- after the words so far the others stand first
abbrev pub invariant-loop-word : goal.invariant-loop-word
invariant-loop-word l = after_words (words_in l.fn.words) l.fn.lexemes ≡ after_words (drop (length l.yielded) (words_in l.fn.words)) l.rest
