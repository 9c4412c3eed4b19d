-- The exchange by which a client shows that it knows a password (RFC 5802 and RFC 7677), without channel binding. Each side sends
-- two messages. What the server keeps of the password is never sent.
use Rattle.std.specs.{Prelude.{◌≡◌, ◌≢◌, ℕ, ◌≤◌, true, List, [], ◌∷◌, ◌++◌, codes}, List.AllByRecursion}
use Rattle.sha2.specs.Sha256.{sha256}
use Rattle.pm_hmac.specs.Hmac.{hmac, xored}
use Rattle.pm_auth.specs.{Base64.base64_of, Cuts.IsFreeOf, Kept.client_key, declared.{secrets.Known.Known, first_message.Binding.{Binding, TheVariants.{Unsupported, Unoffered}}}}

-- ---- the client's first message

-- what it says of channel binding, and that it asks for no other identity
abbrev pub header : Binding → List ℕ
header Unsupported = codes "n,,"
header Unoffered = codes "y,,"

-- printable ASCII, and not a comma (44)
abbrev pub IsNonceByte : ℕ → Type 0
IsNonceByte byte = (33 ≤ byte) × (byte ≤ 126) × (byte ≢ 44)

pub record IsNonce (nonce : List ℕ) : Type 0 where
  pub some : nonce ≢ []
  pub bytes : AllByRecursion IsNonceByte nonce

-- after the header: a name, which may be empty and isn't looked at, and the client's nonce
pub record IsBare (bare nonce : List ℕ) : Type 0 where
  pub name : List ℕ
  pub name_is : IsFreeOf 44 name
  pub nonce_is : IsNonce nonce
  pub bare_is : bare ≡ codes "n=" ++ name ++ codes ",r=" ++ nonce

pub record IsFirst (message : List ℕ) (binding : Binding) (bare nonce : List ℕ) : Type 0 where
  pub is_bare : IsBare bare nonce
  pub message_is : message ≡ header binding ++ bare

-- ---- the other three

-- what both sides know of an exchange after the client's first message
pub record Exchange : Type 0 where
  pub binding : Binding
  pub bare : List ℕ
  -- the client's nonce with the server's after it
  pub nonce : List ℕ
  pub known : Known

-- the server's first message
abbrev pub server_first_of : (nonce salt : List ℕ) → List ℕ
server_first_of nonce salt = codes "r=" ++ nonce ++ codes ",s=" ++ base64_of salt ++ codes ",i=4096"

abbrev pub server_first : Exchange → List ℕ
server_first x = server_first_of x.nonce x.known.kept.salt

-- the client's last message up to its proof
abbrev pub without_proof_of : Binding → (nonce : List ℕ) → List ℕ
without_proof_of binding nonce = codes "c=" ++ base64_of (header binding) ++ codes ",r=" ++ nonce

abbrev pub without_proof : Exchange → List ℕ
without_proof x = without_proof_of x.binding x.nonce

-- what both sides sign: AuthMessage
abbrev pub signed : Exchange → List ℕ
signed x = x.bare ++ 44 ∷ server_first x ++ 44 ∷ without_proof x

-- by which the client hides its key: ClientSignature
abbrev pub client_signature : Exchange → List ℕ
client_signature x = hmac x.known.kept.stored (signed x)

-- the client's last message
abbrev pub client_final : Exchange → (proof : List ℕ) → List ℕ
client_final x proof = without_proof x ++ codes ",p=" ++ base64_of proof

-- A proof is the client's key under the signature: the digest of the key is what is kept. Of a user without a secret there is none.
pub record Proves (x : Exchange) (proof : List ℕ) : Type 0 where
  pub has_secret : x.known.has_secret ≡ true
  pub key_is : sha256 (xored proof (client_signature x)) ≡ x.known.kept.stored

-- the server's last message, by which it shows that it knows the secret: its signature
abbrev pub server_final : Exchange → List ℕ
server_final x = codes "v=" ++ base64_of (hmac x.known.kept.server (signed x))

-- the proof of a client who knows the password
abbrev pub proof_by : (password : List ℕ) → Exchange → List ℕ
proof_by password x = xored (client_key password x.known.kept.salt) (client_signature x)
