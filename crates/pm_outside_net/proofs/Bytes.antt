-- The bytes of a line with one byte more.
use Rattle.std.proofs.{Common.{◌≡◌, ℕ, ◌+◌, ◌<◌, ◌≤◌, List, [], ◌∷◌, ◌++◌, length, take, set, sym, ◌∙◌, arith, length-append, length-take-le}, lemmas.List.{take_all, take_at, take_more_set}}

-- one that is full stays
pub full_line : (n : ℕ) (bytes : List ℕ) (byte : ℕ) → n ≡ 64 → length bytes ≡ 64 → take n bytes ≡ take 64 (take n bytes ++ byte ∷ [])
full_line n bytes byte is len =
    let taken : length (take n bytes) ≡ 64 = length-take-le n bytes (omega (arith, is, len)) ∙ is in
    sym (take_at (take n bytes) (byte ∷ []) 64 taken)

pub longer_line : (n : ℕ) (bytes : List ℕ) (byte : ℕ) → n < 64 → length bytes ≡ 64 → take (n + 1) (set bytes n byte) ≡ take 64 (take n bytes ++ byte ∷ [])
longer_line n bytes byte lt len =
    let taken = length-take-le n bytes (omega (arith, lt, len)) in
    let short : length (take n bytes ++ byte ∷ []) ≤ 64 = omega (arith, length-append (take n bytes) (byte ∷ []), taken, lt) in
    take_more_set bytes n byte (omega (arith, lt, len)) ∙ sym (take_all 64 (take n bytes ++ byte ∷ []) short)
