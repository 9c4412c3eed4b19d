use Rattle.std.{proofs.{Common.{◌≡◌, ℕ, ℤ, All, List, ◌∷◌, length, arith, ap, subst, sym, ◌∙◌}, lemmas.List.{Elements.{All-nil, All-cons}, Sums.sum_by-cons}}, specs.Map.values_of}
use Rattle.pm_rows.{specs.Size.row_size, proofs.{Sizes.entries_size, Tables.{IsTypedShort, table_of}}}
use Rattle.pm_rows.proofs.rows.table_size.Goals as goal

pub loop-key-init : goal.loop-key-init
loop-key-init c =
    let it : c.into_iter-key-iterator.result ≡ c.args.table.now.entries = cc in record {
      sum = let same = ap entries_size it in omega (arith, same);
      room = let long = ap length it in omega (arith, long);
      typed = subst (All IsTypedShort) it;
    }

pub overflow_add-size : goal.overflow_add-size
overflow_add-size c =
    let steps = ap length c.in-Some.ensures.steps in
    omega (arith, steps, c.loop-key.invariant.room, c.iter-key-items.ensures.fits, c.row_size-size.ensures.small)

pub loop-key-preserved : goal.loop-key-preserved
loop-key-preserved c =
    let rest : List (ℤ × List ℕ) = c.next.new.self in
    let steps : c.loop-key.key-iterator ≡ (c.in-Some.key.now, c.in-Some.value.now) ∷ rest = c.in-Some.ensures.steps in
    let row = c.row_size-size.ensures in record {
      sum = let more = ap entries_size steps ∙ sum_by-cons row_size c.in-Some.value.now (values_of rest) in omega (arith, more, row.size, c.loop-key.invariant.sum);
      room = let more = ap length steps in omega (arith, more, row.small, c.loop-key.invariant.room);
      typed = λ h. c.loop-key.invariant.typed (subst (All IsTypedShort) (sym steps) (All-cons IsTypedShort (c.in-Some.key.now, c.in-Some.value.now) rest (c.key_fits.ensures, row.utf8, omega (arith, row.size, row.small)) h));
    }

pub returns : goal.returns
returns c =
    let none = c.in-None.ensures.steps.0 in
    let whole = c.loop-key.invariant.sum in
    let rest = ap entries_size none in
    table_of c.args.table.now c.loop-key.size c.iter-key-items.ensures.ordered
    (omega (arith, whole, rest)) (c.loop-key.invariant.typed (subst (All IsTypedShort) (sym none) (All-nil IsTypedShort)))
