use Rattle.std.{proofs.Common.take, specs.List.concat}
use Rattle.sha2.specs.Hashers.{Holds256}
use Rattle.pm_auth.proofs.secrets.key_of.Given as goal

abbrev pub invariant-loop-word : goal.invariant-loop-word
invariant-loop-word l = Holds256 l.digest (concat (take l.word-index l.words))
