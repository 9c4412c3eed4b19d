-- A key, and a text after its length.
use Rattle.std.{proofs.{Common.{◌≡◌, ℕ, ◌^◌, ◌<◌, ℤ, List, ◌++◌, length, refl, sym, ap, subst, ◌∙◌, arith, inl}, lemmas.Int.{to_z-of_z, of_z-to_z}, Math.Facts.{Fits-of_z, sfits_to_z}}, specs.{Int.{w32, w64, to_be_bytes, cast_signed, cast_unsigned, RustNames.FitsSigned}, Str.IsUtf8}}
use Rattle.pm_utf8.specs.{Utf8.boundary, States.{boundary_sound, fill}, Characters.is_utf8}
use Rattle.pm_record.{specs.{declared.number.Ranges.Ranges, Changes.{any64, key_at, string_at}, Reading.{number_at, text_at, may_be, IsWithin}}, proofs.{Words.Begins, Readers.{Reading, Behind, Spelled, same_words, field_then, made_reads, one_word}, Numbers.{MayBe, limited_reads, wide4, wide8}, Texts.{IsText, utf8_reads}}}

-- a text of this length
pub text_of : (n : ℕ) → (text : List ℕ) × (length text ≡ n) × IsUtf8 text
text_of n = let t = fill n boundary boundary_sound (omega arith) in (t.0, t.1, is_utf8 t.0 t.2)

abbrev pub key_bytes : ℤ → List ℕ
key_bytes key = to_be_bytes w64 (cast_unsigned w64 key)

pub key_reads : Reading (Spelled (FitsSigned w64) key_bytes) key_at
key_reads = made_reads (Spelled (MayBe 8 (2 ^ 64) (to_be_bytes w64) wide8 any64) (to_be_bytes w64)) (Spelled (FitsSigned w64) key_bytes) (number_at (may_be any64) 8 0) (cast_signed w64)
    (limited_reads 8 (2 ^ 64) (to_be_bytes w64) wide8 any64 (0, (inl (omega arith, omega arith), omega arith)))
    (λ x word is. (sfits_to_z (record { fits = is.0.1 }), is.1 ∙ ap (to_be_bytes w64) (sym (of_z-to_z w64 x is.0.1))))
    (λ key word is. let fits = (Fits-of_z is.0).fits in (cast_unsigned w64 key, ((inl (omega arith, omega (arith, fits)), fits), is.1), sym (to_z-of_z w64 key is.0)))

abbrev pub string_bytes : List ℕ → List ℕ
string_bytes text = to_be_bytes w32 (length text) ++ text

module _ (ranges : Ranges) where
  abbrev pub MayCount : ℕ → Type 0
  MayCount n = IsWithin ranges n × (n < 2 ^ 32)

  abbrev pub MayString : List ℕ → Type 0
  MayString text = MayCount (length text) × IsUtf8 text

  count_reads : (n : ℕ) × MayCount n → Reading (Spelled MayCount (to_be_bytes w32)) (number_at (may_be ranges) 4 0)
  count_reads some = limited_reads 4 (2 ^ 32) (to_be_bytes w32) wide4 ranges some

  pub string_reads : (n : ℕ) × MayCount n → Reading (Spelled MayString string_bytes) (string_at ranges)
  string_reads some = field_then MayCount (to_be_bytes w32) (number_at (may_be ranges) 4 0) (Spelled MayString string_bytes) (λ n. text_at n boundary)
      (count_reads some)
      (λ n may. same_words (IsText n) (Behind (Spelled MayString string_bytes) (to_be_bytes w32 n)) (text_at n boundary) (utf8_reads n)
      (λ text word is. ((subst MayCount (sym is.0) may, is.1), ap (λ (k : ℕ). to_be_bytes w32 k ++ word) (sym is.0) ∙ ap (λ (t : List ℕ). to_be_bytes w32 (length text) ++ t) is.2))
      (λ text word is.
      let o = one_word (Begins (Spelled MayCount (to_be_bytes w32))) (Spelled MayCount (to_be_bytes w32)) (number_at (may_be ranges) 4 0) (count_reads some) n (length text) (to_be_bytes w32 n) (to_be_bytes w32 (length text)) word text (may, refl) (is.0.0, refl) is.1 in
      (sym o.0, is.0.1, o.1)))
      (λ text word is. (length text, text, is.0.0, is.1))
      (λ n may. let t = text_of n in (t.0, t.0, ((subst MayCount (sym t.1) may, t.2), ap (λ (k : ℕ). to_be_bytes w32 k ++ t.0) (sym t.1))))
