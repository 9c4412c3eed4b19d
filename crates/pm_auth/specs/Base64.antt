-- Bytes as standard base64 (RFC 4648, section 4, with padding): each list of bytes has one spelling.
use Rattle.std.specs.Prelude.{◌≡◌, ℕ, List, length}
use Rattle.base64.specs.{GeneralPurpose.{IsBytes, encode_of}, Engines.standard}
use Rattle.pm_auth.specs.declared.fault.WordNo.{WordNo, TheVariants.{Form, NoMemory}}

abbrev pub base64_of : List ℕ → List ℕ
base64_of bytes = encode_of standard bytes

-- so many bytes
pub record AreBytes (count : ℕ) (bytes : List ℕ) : Type 0 where
  pub whole : length bytes ≡ count
  pub each : IsBytes bytes

-- the text is the base64 of these bytes, which are so many
pub record IsBase64 (count : ℕ) (text bytes : List ℕ) : Type 0 where
  pub are_bytes : AreBytes count bytes
  pub text_is : text ≡ base64_of bytes

-- or of no so many bytes
abbrev pub IsNoBase64 : ℕ → (text : List ℕ) → WordNo → Type 0
IsNoBase64 count text Form = (bytes : List ℕ) → ¬ (IsBase64 count text bytes)
IsNoBase64 count text NoMemory = Unit {0}
