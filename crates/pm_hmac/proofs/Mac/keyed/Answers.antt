use Rattle.std.proofs.{Common.{◌∙◌, [], ap, sym, subst}, lemmas.List.append-nil}
use Rattle.sha2.specs.Hashers.{Holds256}
use Rattle.pm_hmac.specs.Hmac.{inner_key, outer_key, masked}
use Rattle.pm_hmac.proofs.Mac.keyed.Goals as goal

pub returns : goal.returns
unfolding inner_key outer_key
returns c = record {
  inner =
      subst (λ m. Holds256 c.update.new.self m)
      (c.masked_with.ensures ∙ ap (masked 54) c.block_of-block.ensures ∙ sym (append-nil (inner_key c.args.key.now)))
      (c.update.ensures [] c.new-inner.ensures);
  outer = c.masked_with-2.ensures ∙ ap (masked 92) c.block_of-block.ensures;
}
