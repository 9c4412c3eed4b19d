use Rattle.std.proofs.Common.{◌++◌, List, ℕ, codes, string_bytes, ap, ◌∙◌, arith}
use Rattle.pm_settings.proofs.{Parts.{joined_first, joined_next}, value.joined.Goals.{then-at-gt0+in_ok-push_str, else-at-gt0}}
use Rattle.pm_settings.proofs.value.joined.Goals as goal

pub loop-at-preserved : goal.loop-at-preserved
loop-at-preserved c =
    let values = c.args.values.now in
    let at = c.loop-at.at in
    let value = c.index-values-at.result in
    c.in_ok-push_str-2.ensures.bytes ∙ ap (λ (v : List ℕ). string_bytes c.if-at-gt0.text ++ v) c.as_str.ensures.bytes
    ∙ elim c.if-at-gt0.branch [
      | then-at-gt0+in_ok-push_str w ↦
          ap (λ text. string_bytes text ++ value) w.text-is
          ∙ ap (λ bytes. bytes ++ value) (w.in_ok-push_str.ensures.bytes ∙ ap (λ bytes. bytes ++ codes ", ") c.loop-at.invariant)
          ∙ joined_next values at value (omega (arith, c.loop-at-test.true)) c.index-values-at.is (omega (arith, w.if-at-gt0.true))
      | else-at-gt0 w ↦
          ap (λ text. string_bytes text ++ value) w.text-is
          ∙ ap (λ bytes. bytes ++ value) c.loop-at.invariant
          ∙ joined_first values at value (omega (arith, c.loop-at-test.true)) c.index-values-at.is (omega (arith, w.if-at-gt0.false))
    ]
