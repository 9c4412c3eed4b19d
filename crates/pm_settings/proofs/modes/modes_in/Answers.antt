use Rattle.std.proofs.Common.{◌≡◌, ◌+◌, ◌-◌, suc, Some, ◌||◌, length, sym, ap, ◌∙◌, arith}
use Rattle.pm_settings.{specs.Reading.{after_comma, modes_within}, proofs.{ModeForms.{none_within, last_within, more_within, no_steps}, modes.modes_in.Goals.{then-is_read_only, else-is_read_only}}}
use Rattle.pm_settings.proofs.modes.modes_in.Goals as goal

pub returns-in_err-flag : goal.returns-in_err-flag
returns-in_err-flag c = c.from_residual.ensures ∙ sym (none_within (length c.args.lexemes.now - c.loop.counter) c.loop.is_read_only c.loop.rest.now c.in_err-flag.ensures) ∙ c.loop.invariant

pub returns-then-is_empty : goal.returns-then-is_empty
returns-then-is_empty c =
    let is : c.if-is_read_only.is_read_only ≡ (c.loop.is_read_only || c.in_ok-flag.flag) = elim c.if-is_read_only.branch [
      | then-is_read_only w ↦ w.is_read_only-is ∙ w.if-is_read_only.true ∙ ap (λ far. far || c.in_ok-flag.flag) (sym w.if-is_read_only.true)
      | else-is_read_only w ↦ w.is_read_only-is ∙ ap (λ far. far || c.in_ok-flag.flag) (sym w.if-is_read_only.false)
    ] in
    ap Some is
    ∙ sym (last_within (length c.args.lexemes.now - c.loop.counter) c.loop.is_read_only c.in_ok-flag.flag c.loop.rest.now c.in_ok-flag.after.now (omega (arith, c.loop-test.true)) c.in_ok-flag.ensures (sym c.if-is_empty.ensures))
    ∙ c.loop.invariant

pub loop-preserved : goal.loop-preserved
loop-preserved c =
    let is : c.if-is_read_only.is_read_only ≡ (c.loop.is_read_only || c.in_ok-flag.flag) = elim c.if-is_read_only.branch [
      | then-is_read_only w ↦ w.is_read_only-is ∙ w.if-is_read_only.true ∙ ap (λ far. far || c.in_ok-flag.flag) (sym w.if-is_read_only.true)
      | else-is_read_only w ↦ w.is_read_only-is ∙ ap (λ far. far || c.in_ok-flag.flag) (sym w.if-is_read_only.false)
    ] in
    let steps = length c.args.lexemes.now - (c.loop.counter + 1) in
    let more : suc steps ≡ length c.args.lexemes.now - c.loop.counter = omega (arith, c.loop-test.true) in
    ap (modes_within steps c.if-is_read_only.is_read_only) c.after_comma-rest.ensures
    ∙ ap (λ far. modes_within steps far (after_comma c.in_ok-flag.after.now)) is
    ∙ sym (more_within steps c.loop.is_read_only c.in_ok-flag.flag c.loop.rest.now c.in_ok-flag.after.now c.in_ok-flag.ensures (sym c.if-is_empty.ensures))
    ∙ ap (λ n. modes_within n c.loop.is_read_only c.loop.rest.now) more
    ∙ c.loop.invariant

pub returns : goal.returns
returns c =
    let none : 0 ≡ length c.args.lexemes.now - c.loop.counter = omega (arith, c.loop-test.false) in
    sym (no_steps c.loop.is_read_only c.loop.rest.now) ∙ ap (λ n. modes_within n c.loop.is_read_only c.loop.rest.now) none ∙ c.loop.invariant
