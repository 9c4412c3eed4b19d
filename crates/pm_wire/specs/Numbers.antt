-- Laws: numbers as bytes, and bytes as numbers.
use Rattle.std.proofs.{Common.{◌≡◌, ℕ, ◌^◌, ◌<◌, ◌≤◌, ◌++◌, List, length, get_or, take, drop, refl, sym, ap, ◌∙◌, ◌+◌, arith, inl, inr}, lemmas.{Bool.cases_lt, List.{length-take, get_or-take, get_or-drop, get_or_past, take-append-drop}, Nat.be_bytes_4}}
use Rattle.byteorder.specs.{Endian.big_number, Numbers.{big_number-reads_back, big_from-take, big_from-lt}}
use Rattle.pm_wire.specs.Pieces.{int16, int32}

abbrev pub IsBytes : List ℕ → Type 0
IsBytes bytes = (i : ℕ) → get_or bytes i 0 < 256

pub length_int16 : (n : ℕ) → length (int16 n) ≡ 2
unfolding int16
length_int16 n = refl

pub length_int32 : (n : ℕ) → length (int32 n) ≡ 4
unfolding int32
length_int32 n = refl

pub number_again : (n : ℕ) (rest : List ℕ) → n < 2 ^ 32 → big_number 4 (int32 n ++ rest) ≡ n
unfolding int32
number_again n rest h = big_number-reads_back 4 n rest h

pub number_below : (bytes : List ℕ) → IsBytes bytes → big_number 4 bytes < 2 ^ 32
number_below bytes fits = big_from-lt 0 4 bytes fits

pub IsBytes-take : (n : ℕ) (bytes : List ℕ) → IsBytes bytes → IsBytes (take n bytes)
IsBytes-take n bytes fits i =
    elim (cases_lt i n) [
      | inl lt ↦ rw (get_or-take n bytes i 0 lt) (fits i)
      | inr le ↦ rw (get_or_past (take n bytes) i 0 (omega (arith, length-take n bytes))) (omega arith)
    ]

pub IsBytes-drop : (n : ℕ) (bytes : List ℕ) → IsBytes bytes → IsBytes (drop n bytes)
IsBytes-drop n bytes fits i = rw get_or-drop (fits (n + i))

pub int32_number : (bytes : List ℕ) → 4 ≤ length bytes → IsBytes bytes → int32 (big_number 4 bytes) ≡ take 4 bytes
unfolding int32
int32_number bytes len fits =
    be_bytes_4 (take 4 bytes) (big_number 4 bytes) (omega (arith, length-take 4 bytes)) (IsBytes-take 4 bytes fits)
    (sym (big_from-take 0 4 4 bytes (omega arith)) ∙ omega arith)

-- what a number is read from
pub number_split : (bytes : List ℕ) → 4 ≤ length bytes → IsBytes bytes → bytes ≡ int32 (big_number 4 bytes) ++ drop 4 bytes
number_split bytes len fits = sym (take-append-drop 4 bytes) ∙ ap (λ (front : List ℕ). front ++ drop 4 bytes) (sym (int32_number bytes len fits))
