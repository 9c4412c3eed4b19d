-- What a server keeps of a password, and how that is spelled: as PostgreSQL keeps it (RFC 5803, with rounds and salt as there).
use Rattle.std.specs.Prelude.{◌≡◌, ℕ, List, ◌++◌, codes}
use Rattle.sha2.specs.Sha256.{sha256}
use Rattle.pm_hmac.specs.Hmac.{hmac, salted_password}
use Rattle.pm_auth.specs.{Base64.{AreBytes, base64_of}, declared.{kept.Kept.Kept, fault.WordNo.{WordNo, TheVariants.{Form, NoMemory}}}}

abbrev pub client_key : (password salt : List ℕ) → List ℕ
client_key password salt = hmac (salted_password password salt 4096) (codes "Client Key")

abbrev pub server_key : (password salt : List ℕ) → List ℕ
server_key password salt = hmac (salted_password password salt 4096) (codes "Server Key")

-- what is kept of a password
abbrev pub kept_of : (password salt : List ℕ) → Kept
kept_of password salt = record { salt = salt; stored = sha256 (client_key password salt); server = server_key password salt }

-- ---- how it is spelled

-- `SCRAM-SHA-256$4096:SALT$STORED:SERVER`
abbrev pub kept_text : Kept → List ℕ
kept_text kept =
    codes "SCRAM-SHA-256$4096:" ++ base64_of kept.salt ++ codes "$" ++ base64_of kept.stored ++ codes ":" ++ base64_of kept.server

-- a salt of 16 bytes and keys of 32
pub record IsWhole (kept : Kept) : Type 0 where
  pub salt : AreBytes 16 kept.salt
  pub stored : AreBytes 32 kept.stored
  pub server : AreBytes 32 kept.server

pub record SaysKept (text : List ℕ) (kept : Kept) : Type 0 where
  pub whole : IsWhole kept
  pub text_is : text ≡ kept_text kept

-- the text says nothing of the kind
abbrev pub IsNoKept : (text : List ℕ) → WordNo → Type 0
IsNoKept text Form = (kept : Kept) → ¬ (SaysKept text kept)
IsNoKept text NoMemory = Unit {0}
