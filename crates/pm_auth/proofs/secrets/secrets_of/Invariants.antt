use Rattle.std.proofs.Common.{take}
use Rattle.pm_auth.specs.Secrets.{SecretsSay}
use Rattle.pm_auth.proofs.secrets.secrets_of.Given as goal

abbrev pub invariant-loop-index : goal.invariant-loop-index
invariant-loop-index l = SecretsSay (take l.index l.words) l.secrets.items
