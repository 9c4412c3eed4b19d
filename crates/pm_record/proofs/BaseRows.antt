-- The rows of a base.
use Rattle.std.{proofs.{Common.{◌≡◌, ℕ, ◌+◌, ◌%◌, ◌^◌, ◌<◌, ◌≤◌, ◌⊎◌, cond, ltb, ℤ, List, ◌++◌, length, Ok, refl, sym, ap, ◌∙◌, arith, inl, inr}, lemmas.{Bool.{cases_lt, lt-ltb, le-ltb}, Int.{to_z-of_z, of_z-to_z}}, Math.Facts.{Fits-of_z, sfits_to_z}}, specs.{Int.{w32, w64, to_be_bytes, cast_signed, cast_unsigned, RustNames.FitsSigned}, Str.IsUtf8}}
use Rattle.pm_record.{specs.{Reading.{Read, ◌>>=◌, number_at, may_be}, Spelling.row_bytes, Repeated.items_at, Changes.string_at, Base.{place_of, place, key_ranges, any_text, row_counts, row_at, added}}, proofs.{Words.{Begins, Spelled}, Readers.{Reading, Behind, field_then, made_reads, same_words, one_word}, Numbers.{MayBe, limited_reads, wide4, wide8}, Strings.{text_of, string_bytes, string_reads, MayString}, Repeats.{MayAll, counted_bytes, counted_reads}}}
use Rattle.std.specs.FinMap as map
use Rattle.pm_rows.specs.{Fold.RowMap, Limits.{max_rows, max_value_bytes}}

abbrev Row : Type 0
Row = ℤ × List ℕ

-- a row whose key stands at this place or after it, with room for so many keys
abbrev pub MayRow : ℕ → ℕ → ℤ × List ℕ → Type 0
MayRow n from row = FitsSigned w64 row.0 × (from ≤ place row.0) × (place row.0 + n < 2 ^ 64) × IsUtf8 row.1 × (length row.1 ≤ max_value_bytes)

module _ (n from : ℕ) (room : from + n < 2 ^ 64) (few : n ≤ max_rows) where
  abbrev MayWord : ℕ → Type 0
  MayWord word = MayBe 8 (2 ^ 64) (to_be_bytes w64) wide8 (key_ranges n from) word

  abbrev high2 : ℕ
  high2 = cond (ltb from 9223372036854775808) 18446744073709551615 0

  high2_is : ((from < 9223372036854775808) × (high2 ≡ 18446744073709551615)) ⊎ ((9223372036854775808 ≤ from) × (high2 ≡ 0))
  high2_is = elim (cases_lt from 9223372036854775808) [
    | inl a ↦ inl (a, rw (lt-ltb from 9223372036854775808 a) refl)
    | inr a ↦ inr (a, rw (le-ltb from 9223372036854775808 a) refl)
  ]

  word_to : (word : ℕ) → MayWord word → (from ≤ place_of word) × (place_of word + n < 2 ^ 64)
  word_to word may = elim may.0 [
    | inl a ↦ omega (arith, a, room, few)
    | inr a ↦ elim high2_is [ inl b ↦ omega (arith, a.0, a.1, b.0, b.1, room, few) | inr b ↦ absurd (omega (arith, a.0, a.1, b.0, b.1)) ]
  ]

  word_from : (word : ℕ) → word < 2 ^ 64 → from ≤ place_of word → place_of word + n < 2 ^ 64 → MayWord word
  word_from word fits low high = elim (cases_lt word 9223372036854775808) [
    | inl a ↦ (inl (omega (arith, a, low), omega (arith, a, high)), fits)
    | inr a ↦ elim high2_is [
      | inl b ↦ (inr (omega (arith, a, low, b.0, fits), omega (arith, b.1, fits)), fits)
      | inr b ↦ absurd (omega (arith, a, low, b.0, fits))
    ]
  ]

  place_back : (from + 9223372036854775808) % 18446744073709551616 < 2 ^ 64
  place_back = omega arith

  a_word : (word : ℕ) × MayWord word
  a_word = let w = (from + 9223372036854775808) % 18446744073709551616 in (w, word_from w (omega arith) (omega (arith, room)) (omega (arith, room)))

  word_reads : Reading (Spelled MayWord (to_be_bytes w64)) (number_at (may_be (key_ranges n from)) 8 0)
  word_reads = limited_reads 8 (2 ^ 64) (to_be_bytes w64) wide8 (key_ranges n from) a_word

  abbrev Is : Row → List ℕ → Type 0
  Is = Spelled (MayRow n from) row_bytes

  value_reads : Reading (Spelled (MayString any_text) string_bytes) (string_at any_text)
  value_reads = string_reads any_text (0, (inl (omega arith, omega arith), omega arith))

  short_value : (value : List ℕ) → MayString any_text value → length value ≤ max_value_bytes
  short_value value may = omega (arith, may.0.0)

  pub row_some : (row : Row) × MayRow n from row
  row_some =
      let w = a_word in
      let same = of_z-to_z w64 w.0 w.1.1 in
      let p = word_to w.0 w.1 in
      let t = text_of 0 in
      ((cast_signed w64 w.0, t.0), (sfits_to_z (record { fits = w.1.1 }), omega (arith, ap place_of same, p.0), omega (arith, ap place_of same, p.1), t.2, omega (arith, t.1)))

  pub row_reads : Reading Is (row_at n from)
  row_reads = field_then MayWord (to_be_bytes w64) (number_at (may_be (key_ranges n from)) 8 0) Is (λ word bytes. string_at any_text bytes >>= λ value. Ok ((cast_signed w64 word, value.0), value.1))
      word_reads
      (λ word may. made_reads (Spelled (MayString any_text) string_bytes) (Behind Is (to_be_bytes w64 word)) (string_at any_text) (λ value. (cast_signed w64 word, value)) value_reads
      (λ value w is.
      let same = of_z-to_z w64 word may.1 in
      let p = word_to word may in (
        (sfits_to_z (record { fits = may.1 }), omega (arith, ap place_of same, p.0), omega (arith, ap place_of same, p.1), is.0.1, short_value value is.0),
        ap (λ (t : List ℕ). to_be_bytes w64 word ++ t) is.1 ∙ ap (λ (k : ℕ). to_be_bytes w64 k ++ string_bytes value) (sym same),
      ))
      (λ row w is.
      let fits = (Fits-of_z is.0.0).fits in
      let o = one_word (Begins (Spelled MayWord (to_be_bytes w64))) (Spelled MayWord (to_be_bytes w64)) (number_at (may_be (key_ranges n from)) 8 0) word_reads word (cast_unsigned w64 row.0) (to_be_bytes w64 word) (to_be_bytes w64 (cast_unsigned w64 row.0)) w (string_bytes row.1)
      (may, refl) (word_from (cast_unsigned w64 row.0) fits is.0.1 is.0.2, refl) is.1 in
      let key : row.0 ≡ cast_signed w64 word = sym (to_z-of_z w64 row.0 is.0.0) ∙ ap (cast_signed w64) (sym o.0) in
      (row.1, (((inl (omega arith, is.0.4), omega (arith, is.0.4)), is.0.3), o.1), λ i. (key i, row.1))))
      (λ row w is.
      let fits = (Fits-of_z is.0.0).fits in
      (cast_unsigned w64 row.0, string_bytes row.1, word_from (cast_unsigned w64 row.0) fits is.0.1 is.0.2, is.1))
      (λ word may.
      let same = of_z-to_z w64 word may.1 in
      let p = word_to word may in
      let t = text_of 0 in (
        (cast_signed w64 word, t.0),
        string_bytes t.0,
        ((sfits_to_z (record { fits = may.1 }), omega (arith, ap place_of same, p.0), omega (arith, ap place_of same, p.1), t.2, omega (arith, t.1)), ap (λ (k : ℕ). to_be_bytes w64 k ++ string_bytes t.0) (sym same)),
      ))

-- ---- so many rows

abbrev pub MayRowOf : ℕ → ℕ × RowMap → Row → Type 0
MayRowOf n state row = MayRow n state.0 row × (n ≤ max_rows)

abbrev pub CanRows : ℕ → ℕ × RowMap → Type 0
CanRows n state = (state.0 + n ≤ 2 ^ 64) × (n ≤ max_rows)

abbrev pub MayRowCount : ℕ → Type 0
MayRowCount n = MayBe 4 (2 ^ 32) (to_be_bytes w32) wide4 row_counts n

abbrev pub AllRows : ℕ → ℕ × RowMap → List Row → Type 0
AllRows n state rows = MayAll MayRowOf added CanRows n state rows

-- rows of rising keys, from place 0 on
abbrev pub MayRows : List Row → Type 0
MayRows rows = MayRowCount (length rows) × AllRows (length rows) (0, map.empty) rows

abbrev pub row_in : ℕ → ℕ × RowMap → List ℕ → Read Row
row_in n state bytes = row_at n state.0 bytes

abbrev pub list_at : List ℕ → Read (List Row)
list_at bytes = number_at (may_be row_counts) 4 0 bytes >>= λ p. items_at row_in added p.0 (0, map.empty) p.1

pub list_reads : Reading (Spelled MayRows (counted_bytes (to_be_bytes w32) row_bytes)) list_at
list_reads = counted_reads row_bytes MayRowOf added CanRows row_in
    (λ n state can. same_words (Spelled (MayRow n state.0) row_bytes) (Spelled (MayRowOf n state) row_bytes) (row_at n state.0) (row_reads n state.0 (omega (arith, can.0)) (omega (arith, can.1)))
    (λ row word is. ((is.0, omega (arith, can.1)), is.1)) (λ row word is. (is.0.0, is.1)))
    (λ n state can. let r = row_some n state.0 (omega (arith, can.0)) (omega (arith, can.1)) in (r.0, (r.1, omega (arith, can.1))))
    (λ n state row may. (omega (arith, may.0.2), may.1))
    MayRowCount (to_be_bytes w32) (number_at (may_be row_counts) 4 0) (limited_reads 4 (2 ^ 32) (to_be_bytes w32) wide4 row_counts (0, (inl (omega arith, omega arith), omega arith)))
    (0, map.empty) (λ n may. (omega (arith, may.0), omega (arith, may.0))) MayRows (λ rows count all. (count, all)) (λ rows is. is)
