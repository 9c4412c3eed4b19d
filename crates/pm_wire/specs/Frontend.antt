-- The messages that a client sends after its startup packet (Message Formats), as this server tells them apart.
use Rattle.std.specs.{Prelude.{◌≡◌, ◌≢◌, ℕ, ◌+◌, ◌<◌, ◌≤◌, ◌^◌, ◌⊎◌, Bool, false, IsTrue, ◌==◌, List, [], ◌∷◌, ◌++◌, length, codes}, List.list_any}
use Rattle.pm_facts.specs.Zeros.{HasNoZero}
use Rattle.pm_wire.specs.{declared.front.Front.Front, Pieces.{int32, string, message}}
use Rattle.pm_wire.specs.declared.front.Front.TheVariants as sent

-- what a message says, without where its text lies in memory
pub data FrontMessage : Type 0 where
  Query : (text : List ℕ) → FrontMessage
  BadQuery : FrontMessage
  LongQuery : (seen : ℕ) → FrontMessage
  Terminate : FrontMessage
  Extended : (kind : ℕ) → FrontMessage
  Other : (kind : ℕ) → FrontMessage

abbrev pub front_message : Front → FrontMessage
front_message (sent.Query text) = Query text.now
front_message sent.BadQuery = BadQuery
front_message (sent.LongQuery seen) = LongQuery seen
front_message sent.Terminate = Terminate
front_message (sent.Extended kind) = Extended kind
front_message (sent.Other kind) = Other kind

-- Parse, Bind, Describe, Execute, Close, Sync and Flush
abbrev pub is_extended : ℕ → Bool
is_extended kind = list_any (λ letter. letter == kind) (codes "PBDECSH")

abbrev pub is_simple : ℕ → Bool
is_simple kind = list_any (λ letter. letter == kind) (codes "QX")

-- the bytes are one string, all of them
abbrev pub IsString : List ℕ → Type 0
IsString bytes = (text : List ℕ) × HasNoZero text × (bytes ≡ string text)

-- These bytes, all of them, are this message. Where a message is told before its end, they are those by which it is.
abbrev pub IsFront : List ℕ → FrontMessage → Type 0
IsFront bytes (Query text) = (bytes ≡ message (codes "Q") (string text)) × HasNoZero text × (length text ≤ 65536)
IsFront bytes BadQuery = (body : List ℕ) × (bytes ≡ message (codes "Q") body) × (length body ≤ 65537) × ¬ (IsString body)
IsFront bytes (LongQuery seen) = (bytes ≡ codes "Q" ++ int32 seen) × (65541 < seen) × (seen < 2 ^ 32)
IsFront bytes Terminate = bytes ≡ message (codes "X") []
IsFront bytes (Extended kind) = (bytes ≡ kind ∷ []) × IsTrue (is_extended kind)
IsFront bytes (Other kind) = (bytes ≡ kind ∷ []) × (is_extended kind ≡ false) × (is_simple kind ≡ false)

-- a type and a length that no message of this type has
abbrev pub IsBadHeader : List ℕ → ℕ → Type 0
IsBadHeader bytes seen =
    ((bytes ≡ codes "Q" ++ int32 seen) × (seen < 4)) ⊎ ((bytes ≡ codes "X" ++ int32 seen) × (seen ≢ 4) × (seen < 2 ^ 32))

abbrev pub BeginsBadly : List ℕ → ℕ → Type 0
BeginsBadly bytes seen = (header rest : List ℕ) × (bytes ≡ header ++ rest) × IsBadHeader header seen

-- no front of the bytes is a message, nor can it be the front of none
pub record IsUndecided (bytes : List ℕ) : Type 0 where
  pub no_message : (spelled rest : List ℕ) (m : FrontMessage) → bytes ≡ spelled ++ rest → ¬ (IsFront spelled m)
  pub no_fault : (seen : ℕ) → ¬ (BeginsBadly bytes seen)

-- How many bytes are wanted, counted from the message's first: its type; its type and length, where the length is looked
-- at; all of a query, by its length.
pub data Wants (bytes : List ℕ) (wanted : ℕ) : Type 0 where
  its_type : bytes ≡ [] → wanted ≡ 1 → Wants bytes wanted
  its_length : (kind : ℕ) (part : List ℕ) → bytes ≡ kind ∷ part → IsTrue (is_simple kind) → length part < 4 → wanted ≡ 5 → Wants bytes wanted
  its_body : (seen : ℕ) (part : List ℕ) → bytes ≡ codes "Q" ++ int32 seen ++ part → seen ≤ 65541 → 4 + length part < seen → wanted ≡ seen + 1 → Wants bytes wanted
