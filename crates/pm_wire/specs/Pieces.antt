-- What messages are made of. Each kind of field is one of the protocol's own (Message Data Types).
use Rattle.std.specs.Prelude.{ℕ, ◌+◌, List, [], ◌∷◌, ◌++◌, length}
use Rattle.byteorder.specs.Endian.{big_bytes}

-- Int16 and Int32: a number in two and in four bytes, the highest first
unfoldable pub int16 : ℕ → List ℕ
int16 n = big_bytes 2 n

unfoldable pub int32 : ℕ → List ℕ
int32 n = big_bytes 4 n

-- String: bytes without a zero, and the zero byte that ends them
abbrev pub string : List ℕ → List ℕ
string text = text ++ 0 ∷ []

-- bytes with their number before them
abbrev pub counted : List ℕ → List ℕ
counted bytes = int32 (length bytes) ++ bytes

-- A message: its type, its length, which counts itself and not the type, and its body.
abbrev pub message : List ℕ → List ℕ → List ℕ
message kind body = kind ++ int32 (4 + length body) ++ body
