use Rattle.std.{proofs.Common.{◌≡◌, List, ℕ, length, ap, ◌∙◌, rules}, specs.Int.{w32, w64, cast_unsigned, cast_signed, to_be_bytes}}
use Rattle.pm_record.proofs.Writing.{appended-key}
use Rattle.pm_record.proofs.put.put_row.Goals as goal

pub returns-clause-bytes : goal.returns-clause-bytes
returns-clause-bytes c =
    let same : cast_signed w64 (cast_unsigned w64 c.args.key) ≡ c.args.key = search rules in
    let text = c.as_bytes-value.ensures.value ∙ c.as_str.ensures.bytes in
    appended-key _ _ _ _ _ _ _ _ _ _ c.put_within.ensures.bytes c.put_within-2.ensures.bytes c.put_within-3.ensures.bytes
    (c.to_be_bytes.ensures ∙ ap (λ k. to_be_bytes w64 (cast_unsigned w64 k)) same) (c.to_be_bytes-2.ensures ∙ ap (λ (l : List ℕ). to_be_bytes w32 (length l)) text) text
