use Rattle.std.{proofs.Common.{◌≡◌, ◌∷◌, ◌≤◌, ℤ, ℕ, List, All, length, false, arith, ap, sym, subst, refl}, specs.FinMap.{entries, len-entries}}
use Rattle.pm_record.specs.{pm_rows.Limits.max_rows, StandsFor.IsRow}
use Rattle.pm_log.{specs.{Half.half_at, declared.base.Base.Base}, proofs.Spelled.{base_long, unspelled_is}}
use Rattle.pm_log.proofs.making.Making.of.Goals as goal

pub invariant_of-result : goal.invariant_of-result
invariant_of-result c =
    let rows = c.args.rows.now in
    let base : Base = record { epoch = c.args.epoch; count = c.args.count; rows = c.in_ok-pairs_of.field-0 } in
    let is : base.rows.items ≡ entries rows = c.in_ok-pairs_of.ensures in
    let few : length (entries rows) ≤ max_rows = subst (λ (n : ℕ). n ≤ max_rows) (len-entries rows) c.requires.limits.few in
    record {
      may = record {
        rows = subst (All IsRow) (sym is) c.requires.rows;
        few = subst (λ (l : List (ℤ × List ℕ)). length l ≤ max_rows) (sym is) few;
        within = omega arith;
      };
      end_is = omega (arith, base_long base rows is, c.size.ensures, c.requires.limits.small);
      some = omega arith;
      left = λ within. refl;
      synced = omega arith;
      room = omega (arith, c.in_ok-buffer.ensures.exact);
    }

pub returns : goal.returns
returns c =
    let base : Base = record { epoch = c.args.epoch; count = c.args.count; rows = c.in_ok-pairs_of.field-0 } in
    ap (λ (b : List ℕ). half_at c.args.epoch (1 ∷ b) c.args.from 1 false) (unspelled_is base c.args.rows.now c.in_ok-pairs_of.ensures)
