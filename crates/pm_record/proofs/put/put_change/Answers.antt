use Rattle.std.{proofs.Common.{◌≡◌, List, ℕ, length, ap, ◌∙◌, rules, arith}, specs.Int.{w32, w64, cast_unsigned, cast_signed, to_be_bytes}}
use Rattle.pm_record.proofs.Writing.{appended-four}
use Rattle.pm_record.proofs.put.put_change.Goals as goal

pub overflow_cast-value : goal.overflow_cast-value
overflow_cast-value c =
    let short = rw c.in-Put.is at c.requires in
    record { fits = omega (arith, short.2, ap (λ (l : List ℕ). length l) (c.as_bytes-value.ensures.value ∙ c.as_str.ensures.bytes)) }

pub returns-in_ok-extend-in-Put-3 : goal.returns-in_ok-extend-in-Put-3
returns-in_ok-extend-in-Put-3 c =
    let same : cast_signed w64 (cast_unsigned w64 c.in-Put.key) ≡ c.in-Put.key = search rules in
    let text = c.as_bytes-value.ensures.value ∙ c.as_str.ensures.bytes in
    rw c.in-Put.is
    (appended-four _ _ _ _ _ _ _ _ _ _ _ _ c.in_ok-push-in-Put.ensures.ok c.in_ok-extend-in-Put.ensures.ok c.in_ok-extend-in-Put-2.ensures.ok c.in_ok-extend-in-Put-3.ensures.ok
    (c.to_be_bytes.ensures ∙ ap (λ k. to_be_bytes w64 (cast_unsigned w64 k)) same) (c.to_be_bytes-in-Put.ensures ∙ ap (λ (l : List ℕ). to_be_bytes w32 (length l)) text) text)
