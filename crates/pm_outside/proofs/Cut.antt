-- The next bytes of a list, copied to the front of another.
use Rattle.std.proofs.{Common.{◌≡◌, ℕ, ◌+◌, ◌≤◌, List, ◌++◌, length, take, drop, length-take-le}, lemmas.List.{take_at, take-append-drop, drop-drop}, Math.Seq.take-add}

-- what was taken, then the copy, is what is taken now
pub taken_more : (at count : ℕ) (bytes copy rest : List ℕ) → count ≤ length (drop at bytes) → copy ≡ take count (drop at bytes)
    → take (at + count) bytes ≡ take at bytes ++ take count (copy ++ rest)
taken_more at count bytes copy rest fits same =
    rw (same, take_at (take count (drop at bytes)) rest count (length-take-le count (drop at bytes) fits)) (take-add at count bytes)

-- the copy, then what is left now, is what was left
pub left_less : (at count : ℕ) (bytes copy rest : List ℕ) → count ≤ length (drop at bytes) → copy ≡ take count (drop at bytes)
    → drop at bytes ≡ take count (copy ++ rest) ++ drop (at + count) bytes
left_less at count bytes copy rest fits same =
    rw (same, take_at (take count (drop at bytes)) rest count (length-take-le count (drop at bytes) fits), ← drop-drop count at bytes, take-append-drop count (drop at bytes))
