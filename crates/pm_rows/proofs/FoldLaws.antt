-- What a change leaves at a key.
use Rattle.std.{proofs.{Common.{◌≡◌, ℤ, Bool, true, cond}, lemmas.Cmp.eq_by_cmp_equiv}, specs.{Ordering.{int_cmp, eq_by_cmp}, Cmp.int_cmp_total, FinMap.{get-insert, get-remove}}}
use Rattle.std.specs.FinMap as map
use Rattle.pm_rows.specs.{declared.commit.Change.{Change, TheVariants.{Put, Del}}, Fold.{RowMap, changed, key_of, value_left}}

-- whether two keys are equal
abbrev pub same_key : ℤ → ℤ → Bool
same_key = eq_by_cmp int_cmp

pub same_key-refl : (key : ℤ) → same_key key key ≡ true
same_key-refl key = (eq_by_cmp_equiv int_cmp_total).refl key

-- a change decides what its key has, and no other key
pub get-changed : (rows : RowMap) (change : Change) (key : ℤ) → map.get (changed rows change) key ≡ cond (same_key key (key_of change)) (value_left change) (map.get rows key)
get-changed rows (Put k value) key = get-insert int_cmp_total rows k value key
get-changed rows (Del k) key = get-remove int_cmp_total rows k key
