-- Reading the parts of a message from left to right.
use Rattle.std.specs.{Prelude.{◌≡◌, ℕ, zero, suc, ◌+◌, ◌-◌, ◌*◌, ◌/◌, ◌^◌, ℤ, pos, negsuc, Bool, true, false, not, ◌&&◌, ◌==◌, nat_lt, if◌then◌else◌, List, [], ◌∷◌, length, drop, Option, Some, None, Result, Ok, Err}, Option.option_map_or, Char.is_ascii_digit}
use Rattle.byteorder.specs.Endian.{big_number}
use Rattle.pm_wire_back.specs.declared.parts.{Stop.{Stop, TheVariants.{Partial, Departs}}, Ending.{Ending, TheVariants.{Anywhere, NotOneShort, Exactly}}}
use Rattle.pm_utf8.specs.{declared.Awaited.Awaited, Utf8.after}
pub use Rattle.pm_utf8.specs.Utf8.{boundary}

infixl 10 ◌>>=◌
abbrev pub ◌>>=◌ : {A B : Type 0} → Result A Stop → (A → Result B Stop) → Result B Stop
(Ok x) >>= f = f x
(Err e) >>= f = Err e

-- What a function returned, seen by view, is what reading gives.
abbrev pub Gives : {X Y : Type 0} → (X → Y) → Result X Stop → Result Y Stop → Type 0
Gives view (Ok x) read = read ≡ Ok (view x)
Gives view (Err e) read = read ≡ Err e

-- what was read, with a byte before it
abbrev pub with_first : ℕ → Result (List ℕ × List ℕ) Stop → Result (List ℕ × List ℕ) Stop
with_first b read = read >>= λ x. Ok (b ∷ x.0, x.1)

-- the first byte of these has no message
abbrev pub departs : {X : Type 0} → List ℕ → Result X Stop
departs bytes = Err (Departs (length bytes))

unfoldable pub literal_at : List ℕ → List ℕ → Result (Unit {0} × List ℕ) Stop
literal_at [] bytes = Ok (tt, bytes)
literal_at (letter ∷ word) [] = Err Partial
literal_at (letter ∷ word) (b ∷ bs) = if b == letter then literal_at word bs else departs (b ∷ bs)

unfoldable pub int32_at : List ℕ → Result (ℕ × List ℕ) Stop
int32_at bytes = if nat_lt (length bytes) 4 then Err Partial else Ok (big_number 4 bytes, drop 4 bytes)

-- n bytes, none of them zero
unfoldable pub code_at : ℕ → List ℕ → Result (List ℕ × List ℕ) Stop
code_at zero bytes = Ok ([], bytes)
code_at (suc n) [] = Err Partial
code_at (suc n) (b ∷ bs) = if b == 0 then departs (b ∷ bs) else with_first b (code_at n bs)

-- a state in which the bytes that are left hold the character that has begun
abbrev pub fitting : ℕ → Option Awaited → Option Awaited
fitting left None = None
fitting left (Some next) = if nat_lt next.more left then Some next else None

-- a text of n bytes
unfoldable pub text_at : Awaited → ℕ → List ℕ → Result (List ℕ × List ℕ) Stop
text_at state zero bytes = Ok ([], bytes)
text_at state (suc left) [] = Err Partial
text_at state (suc left) (b ∷ bs) =
    option_map_or (λ next. with_first b (text_at next left bs)) (fitting (suc left) (after state b)) (departs (b ∷ bs))

-- whether a string may end with room for so many more bytes
abbrev pub may_end : Ending → ℕ → Bool
may_end Anywhere left = true
may_end NotOneShort left = not (left == 1)
may_end Exactly left = left == 0

-- a string with room for so many bytes of text
unfoldable pub string_at : Ending → Awaited → ℕ → List ℕ → Result (List ℕ × List ℕ) Stop
string_at ending state left [] = Err Partial
string_at ending state left (b ∷ bs) =
    if state.more == 0 && b == 0 then (if may_end ending left then Ok ([], bs) else departs (b ∷ bs))
    else option_map_or (λ next. with_first b (string_at ending next (left - 1) bs)) (fitting left (after state b)) (departs (b ∷ bs))

-- what a number is after one more digit
abbrev pub behind_digit : ℕ → ℕ → ℕ
behind_digit value b = 10 * value + (b - 48)

-- the rest of a number of decimal digits, so many to come, at most limit, without a leading zero, and 0 itself where that is allowed
unfoldable pub number_at : Bool → ℕ → ℕ → ℕ → List ℕ → Result (ℕ × List ℕ) Stop
number_at zeros limit value zero bytes = Ok (value, bytes)
number_at zeros limit value (suc k) [] = Err Partial
number_at zeros limit value (suc k) (b ∷ bs) =
    if not (is_ascii_digit b) then departs (b ∷ bs)
    else if nat_lt (limit / 10 ^ k) (behind_digit value b) then departs (b ∷ bs)
    else if behind_digit value b == 0 && not (zeros && k == 0) then departs (b ∷ bs)
    else number_at zeros limit (behind_digit value b) k bs

abbrev pub negative : ℕ → ℤ
negative n = negsuc (n - 1)

-- a signed number of 64 bits in so many bytes
unfoldable pub key_at : ℕ → List ℕ → Result (ℤ × List ℕ) Stop
key_at count [] = Err Partial
key_at count (b ∷ bs) =
    if b == 45 then (if count == 1 then departs (b ∷ bs) else (number_at false (2 ^ 63) 0 (count - 1) bs >>= λ x. Ok (negative x.0, x.1)))
    else if count == 20 then departs (b ∷ bs)
    else (number_at true (2 ^ 63 - 1) 0 count (b ∷ bs) >>= λ x. Ok (pos x.0, x.1))
