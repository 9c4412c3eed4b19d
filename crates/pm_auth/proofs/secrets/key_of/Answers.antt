use Rattle.std.{proofs.Common.{◌∙◌, List, ℕ, ◌++◌, ap, subst, take}, specs.List.concat}
use Rattle.sha2.specs.Hashers.{Holds256}
use Rattle.pm_auth.proofs.Listing.{concat_more}
use Rattle.pm_auth.proofs.secrets.key_of.Goals as goal

pub loop-word-preserved : goal.loop-word-preserved
loop-word-preserved c =
    subst (λ (m : List ℕ). Holds256 c.update.new.self m)
    (ap (λ w. concat (take c.loop-word.word-index c.args.words.now) ++ w) c.as_str.ensures.bytes
    ∙ concat_more c.args.words.now c.loop-word.word-index c.word-item.result c.loop-word-test.true c.word-item.is)
    (c.update.ensures (concat (take c.loop-word.word-index c.args.words.now)) c.loop-word.invariant)
