use Rattle.std.proofs.{Common.{ℕ, List, ◌++◌, length, ap}, lemmas.List.drop-replicate}
use Rattle.pm_hmac.proofs.with_zeros.Goals as goal

pub returns : goal.returns
returns c =
    rw c.copy_from_slice.ensures.after
    (ap (λ (rest : List ℕ). c.args.bytes.now ++ rest) (drop-replicate (length c.args.bytes.now) 64 0))
