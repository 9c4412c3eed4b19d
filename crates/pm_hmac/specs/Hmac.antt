-- A keyed digest, HMAC over SHA-256 (RFC 2104), and the key that many rounds of it make of a password: PBKDF2 of RFC 8018 with
-- one block, which is Hi of RFC 5802.
use Rattle.std.specs.Prelude.{◌≡◌, ℕ, zero, suc, ◌-◌, List, [], ◌∷◌, ◌++◌, length, map, replicate, nat_le, if◌then◌else◌, bit_xor}
use Rattle.sha2.specs.{Sha256.sha256, Hashers.Holds256}
use Rattle.pm_hmac.specs.declared.Mac.{Mac}

-- joined by exclusive or, byte by byte, as long as both last
abbrev pub xored : List ℕ → List ℕ → List ℕ
xored [] ys = []
xored (x ∷ xs) [] = []
xored (x ∷ xs) (y ∷ ys) = bit_xor x y ∷ xored xs ys

-- ---- the keyed digest

-- a key of at most one block, which has 64 bytes: a longer one is digested
abbrev pub short_key : List ℕ → List ℕ
short_key key = (if nat_le (length key) 64 then key else sha256 key)

-- with zero bytes up to a whole block
abbrev pub key_block : List ℕ → List ℕ
key_block key = short_key key ++ replicate (64 - length (short_key key)) 0

abbrev pub masked : ℕ → List ℕ → List ℕ
masked mask block = map (λ byte. bit_xor byte mask) block

-- the key under ipad
unfoldable pub inner_key : List ℕ → List ℕ
inner_key key = masked 0x36 (key_block key)

-- and under opad
unfoldable pub outer_key : List ℕ → List ℕ
outer_key key = masked 0x5c (key_block key)

-- the keyed digest of a message
abbrev pub hmac : (key message : List ℕ) → List ℕ
hmac key message = sha256 (outer_key key ++ sha256 (inner_key key ++ message))

-- one that has this key and has taken in this message
pub record IsMac (mac : Mac) (key message : List ℕ) : Type 0 where
  pub inner : Holds256 mac.inner (inner_key key ++ message)
  pub outer : mac.outer ≡ outer_key key

-- ---- many rounds

-- the digest of a round, from 0 on: the first is of the salt and the number of the block, 1 in four bytes, each other one of the
-- digest before
unfoldable pub round : (password salt : List ℕ) → ℕ → List ℕ
round password salt zero = hmac password (salt ++ 0 ∷ 0 ∷ 0 ∷ 1 ∷ [])
round password salt (suc n) = hmac password (round password salt n)

-- the digests of the rounds up to this one, joined
unfoldable pub rounds : (password salt : List ℕ) → ℕ → List ℕ
rounds password salt zero = round password salt 0
rounds password salt (suc n) = xored (rounds password salt n) (round password salt (suc n))

-- what at least one round makes of a password and a salt
abbrev pub salted_password : (password salt : List ℕ) → (count : ℕ) → List ℕ
salted_password password salt count = rounds password salt (count - 1)
