-- The base of a file: magic and version, epoch, clean byte, count, and rows.
use Rattle.std.{proofs.Common.{◌≡◌, ℕ, ◌^◌, ◌<◌, ◌≤◌, Bool, true, false, eqb, List, ◌++◌, Ok, Err, refl, sym, ap, subst, ◌∙◌, arith, inl, zero, suc}, specs.Int.{w8, w64, to_be_bytes}}
use Rattle.pm_rows.specs.Fold.{RowMap}
use Rattle.pm_record.{specs.{declared.base.Base.Base, Reading.{Read, ◌>>=◌, number_at, may_be}, Spelling.{base_bytes, rows_bytes}, Changes.any64, Base.{magic_ranges, bit_ranges, rows_at, base_at}}, proofs.{Words.Spelled, Readers.{Reading, made_reads}, Numbers.{MayBe, limited_reads, wide1, wide8}, Repeats.{MayPair, pair_bytes, pair_at, pair_reads}, RowMaps.{MayRowMap, rows_read, no_row_map}}}

abbrev Magic : ℕ → Type 0
Magic x = MayBe 8 (2 ^ 64) (to_be_bytes w64) wide8 magic_ranges x

abbrev Any : ℕ → Type 0
Any x = MayBe 8 (2 ^ 64) (to_be_bytes w64) wide8 any64 x

abbrev Bit : ℕ → Type 0
Bit x = MayBe 1 256 (to_be_bytes w8) wide1 bit_ranges x

abbrev magic_at : List ℕ → Read ℕ
magic_at = number_at (may_be magic_ranges) 8 0

abbrev any_at : List ℕ → Read ℕ
any_at = number_at (may_be any64) 8 0

abbrev bit_at : List ℕ → Read ℕ
bit_at = number_at (may_be bit_ranges) 1 0

some_any : Any 0
some_any = (inl (omega arith, omega arith), omega arith)

any_reads : Reading (Spelled Any (to_be_bytes w64)) any_at
any_reads = limited_reads 8 (2 ^ 64) (to_be_bytes w64) wide8 any64 (0, some_any)

some_magic : Magic 5784680539303659265
some_magic = (inl (omega arith, omega arith), omega arith)

magic_reads : Reading (Spelled Magic (to_be_bytes w64)) magic_at
magic_reads = limited_reads 8 (2 ^ 64) (to_be_bytes w64) wide8 magic_ranges (5784680539303659265, some_magic)

some_bit : (x : ℕ) → x ≤ 1 → Bit x
some_bit x le = (inl (omega arith, le), omega (arith, le))

bit_reads : Reading (Spelled Bit (to_be_bytes w8)) bit_at
bit_reads = limited_reads 1 256 (to_be_bytes w8) wide1 bit_ranges (0, some_bit 0 (omega arith))

-- ---- the fields, each in front of the others

abbrev Counted : Type 0
Counted = ℕ × RowMap

abbrev Cleaned : Type 0
Cleaned = ℕ × Counted

abbrev Dated : Type 0
Dated = ℕ × Cleaned

abbrev Fields : Type 0
Fields = ℕ × Dated

abbrev MayCounted : Counted → Type 0
MayCounted = MayPair Any MayRowMap

abbrev MayCleaned : Cleaned → Type 0
MayCleaned = MayPair Bit MayCounted

abbrev MayDated : Dated → Type 0
MayDated = MayPair Any MayCleaned

abbrev MayFields : Fields → Type 0
MayFields = MayPair Magic MayDated

abbrev counted_spell : Counted → List ℕ
counted_spell = pair_bytes (to_be_bytes w64) rows_bytes

abbrev cleaned_spell : Cleaned → List ℕ
cleaned_spell = pair_bytes (to_be_bytes w8) counted_spell

abbrev dated_spell : Dated → List ℕ
dated_spell = pair_bytes (to_be_bytes w64) cleaned_spell

abbrev fields_spell : Fields → List ℕ
fields_spell = pair_bytes (to_be_bytes w64) dated_spell

abbrev fields_at : List ℕ → Read Fields
fields_at = pair_at magic_at (pair_at any_at (pair_at bit_at (pair_at any_at rows_at)))

fields_reads : Reading (Spelled MayFields fields_spell) fields_at
fields_reads =
    let counted = pair_reads Any (to_be_bytes w64) any_at MayRowMap rows_bytes rows_at any_reads rows_read no_row_map in
    let some_counted : (b : Counted) × MayCounted b = ((0, no_row_map.0), (some_any, no_row_map.1)) in
    let cleaned = pair_reads Bit (to_be_bytes w8) bit_at MayCounted counted_spell (pair_at any_at rows_at) bit_reads counted some_counted in
    let some_cleaned : (b : Cleaned) × MayCleaned b = ((0, some_counted.0), (some_bit 0 (omega arith), some_counted.1)) in
    let dated = pair_reads Any (to_be_bytes w64) any_at MayCleaned cleaned_spell (pair_at bit_at (pair_at any_at rows_at)) any_reads cleaned some_cleaned in
    let some_dated : (b : Dated) × MayDated b = ((0, some_cleaned.0), (some_any, some_cleaned.1)) in
    pair_reads Magic (to_be_bytes w64) magic_at MayDated dated_spell (pair_at any_at (pair_at bit_at (pair_at any_at rows_at))) magic_reads dated some_dated

-- ---- the base

abbrev made_base : Fields → Base
made_base x = record { epoch = x.1.0; clean = eqb x.1.1.0 1; count = x.1.1.1.0; rows = x.1.1.1.1 }

abbrev mapped : Read Fields → Read Base
mapped r = r >>= λ p. Ok (made_base p.0, p.1)

abbrev pub MayBase : Base → Type 0
MayBase base = (base.epoch < 2 ^ 64) × (base.count < 2 ^ 64) × MayRowMap base.rows

abbrev pub base_spell : Base → List ℕ
base_spell base = base_bytes base.epoch base.clean base.count base.rows

module _ (bytes : List ℕ) where
  abbrev with_rows : ℕ → ℕ → ℕ → Read RowMap → Read Base
  with_rows epoch clean count r = r >>= λ rows. Ok (record { epoch = epoch; clean = eqb clean 1; count = count; rows = rows.0 }, rows.1)

  abbrev paired : {A : Type 0} → ℕ → Read A → Read (ℕ × A)
  paired x r = r >>= λ b. Ok ((x, b.0), b.1)

  by_rows : (magic epoch clean count : ℕ) (r : Read RowMap) → with_rows epoch clean count r ≡ mapped (paired magic (paired epoch (paired clean (paired count r))))
  by_rows magic epoch clean count (Ok rows) = refl
  by_rows magic epoch clean count (Err left) = refl

  by_count : (magic epoch clean : ℕ) (r : Read ℕ) → (r >>= λ count. with_rows epoch clean count.0 (rows_at count.1)) ≡ mapped (paired magic (paired epoch (paired clean (r >>= λ count. paired count.0 (rows_at count.1)))))
  by_count magic epoch clean (Ok count) = by_rows magic epoch clean count.0 (rows_at count.1)
  by_count magic epoch clean (Err left) = refl

  by_clean : (magic epoch : ℕ) (r : Read ℕ) → (r >>= λ clean. any_at clean.1 >>= λ count. with_rows epoch clean.0 count.0 (rows_at count.1)) ≡ mapped (paired magic (paired epoch (r >>= λ clean. paired clean.0 (pair_at any_at rows_at clean.1))))
  by_clean magic epoch (Ok clean) = by_count magic epoch clean.0 (any_at clean.1)
  by_clean magic epoch (Err left) = refl

  by_epoch : (magic : ℕ) (r : Read ℕ) → (r >>= λ epoch. bit_at epoch.1 >>= λ clean. any_at clean.1 >>= λ count. with_rows epoch.0 clean.0 count.0 (rows_at count.1)) ≡ mapped (paired magic (r >>= λ epoch. paired epoch.0 (pair_at bit_at (pair_at any_at rows_at) epoch.1)))
  by_epoch magic (Ok epoch) = by_clean magic epoch.0 (bit_at epoch.1)
  by_epoch magic (Err left) = refl

  by_magic : (r : Read ℕ) → (r >>= λ magic. any_at magic.1 >>= λ epoch. bit_at epoch.1 >>= λ clean. any_at clean.1 >>= λ count. with_rows epoch.0 clean.0 count.0 (rows_at count.1))
      ≡ mapped (r >>= λ magic. paired magic.0 (pair_at any_at (pair_at bit_at (pair_at any_at rows_at)) magic.1))
  by_magic (Ok magic) = by_epoch magic.0 (any_at magic.1)
  by_magic (Err left) = refl

  base_made : base_at bytes ≡ mapped (fields_at bytes)
  unfolding base_at
  base_made = by_magic (magic_at bytes)

abbrev bit_of : Bool → ℕ
bit_of true = 1
bit_of false = 0

spelled_with : (clean epoch count : ℕ) (rows : RowMap) → clean ≤ 1 → fields_spell (5784680539303659265, (epoch, (clean, (count, rows)))) ≡ base_bytes epoch (eqb clean 1) count rows
spelled_with zero epoch count rows le = refl
spelled_with (suc zero) epoch count rows le = refl
spelled_with (suc (suc clean)) epoch count rows le = absurd (omega (arith, le))

spelled_so : (clean : Bool) (epoch count : ℕ) (rows : RowMap) → base_bytes epoch clean count rows ≡ fields_spell (5784680539303659265, (epoch, (bit_of clean, (count, rows))))
spelled_so true epoch count rows = refl
spelled_so false epoch count rows = refl

base_to : (x : Fields) (word : List ℕ) → Spelled MayFields fields_spell x word → Spelled MayBase base_spell (made_base x) word
base_to x word is =
    let magic : x.0 ≡ 5784680539303659265 = omega (arith, is.0.0.0) in
    let clean : x.1.1.0 ≤ 1 = omega (arith, is.0.1.1.0.0) in (
      (is.0.1.0.1, is.0.1.1.1.0.1, is.0.1.1.1.1),
      is.1 ∙ ap (λ (n : ℕ). to_be_bytes w64 n ++ dated_spell x.1) magic ∙ spelled_with x.1.1.0 x.1.0 x.1.1.1.0 x.1.1.1.1 clean,
    )

same_base : (clean : Bool) (epoch count : ℕ) (rows : RowMap) → (let base : Base = record { epoch = epoch; clean = clean; count = count; rows = rows } in base) ≡ made_base (5784680539303659265, (epoch, (bit_of clean, (count, rows))))
same_base true epoch count rows = refl
same_base false epoch count rows = refl

bit_is : (clean : Bool) → bit_of clean ≤ 1
bit_is true = omega arith
bit_is false = omega arith

base_from : (base : Base) (word : List ℕ) → Spelled MayBase base_spell base word → (x : Fields) × Spelled MayFields fields_spell x word × (base ≡ made_base x)
base_from base word is = (
  (5784680539303659265, (base.epoch, (bit_of base.clean, (base.count, base.rows)))),
  (
    (some_magic, ((inl (omega arith, omega (arith, is.0.0)), is.0.0), (some_bit (bit_of base.clean) (bit_is base.clean), ((inl (omega arith, omega (arith, is.0.1)), is.0.1), is.0.2)))),
    is.1 ∙ spelled_so base.clean base.epoch base.count base.rows,
  ),
  same_base base.clean base.epoch base.count base.rows,
)

pub base_reads : Reading (Spelled MayBase base_spell) base_at
base_reads =
    let listed : Reading (Spelled MayBase base_spell) (λ bytes. mapped (fields_at bytes)) = made_reads (Spelled MayFields fields_spell) (Spelled MayBase base_spell) fields_at made_base fields_reads base_to base_from in
    subst (Reading (Spelled MayBase base_spell)) (λ i bytes. sym (base_made bytes) i) listed
