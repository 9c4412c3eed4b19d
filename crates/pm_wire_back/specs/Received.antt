-- What the front of a stream of the server's messages can be, besides a whole message.
use Rattle.std.specs.Prelude.{◌≡◌, ℕ, ◌+◌, ◌<◌, ◌≤◌, ◌^◌, ◌⊎◌, List, [], ◌∷◌, ◌++◌, length}
use Rattle.pm_wire.specs.{Pieces.int32, Backend.{BackMessage, IsBack}}

-- some message begins with the bytes, and has more
abbrev pub GoesOnAsBack : List ℕ → Type 0
GoesOnAsBack bytes = (more : List ℕ) × (m : BackMessage) × (0 < length more) × IsBack (bytes ++ more) m

-- a message's type, and at most three bytes of a length, whichever these are
pub record IsHeaderPart (bytes : List ℕ) : Type 0 where
  pub kind : ℕ
  pub rest : List ℕ
  pub parts : bytes ≡ kind ∷ rest
  pub short : length rest < 4
  pub known : GoesOnAsBack (kind ∷ [])

abbrev pub IsPartial : List ℕ → Type 0
IsPartial bytes = GoesOnAsBack bytes ⊎ IsHeaderPart bytes

-- How many bytes a message that begins so takes: what its length says, or, before that stands, at least its header.
pub data IsWholeAt (bytes : List ℕ) (wanted : ℕ) : Type 0 where
  behind_header : length bytes < 5 → wanted ≡ 5 → IsWholeAt bytes wanted
  behind_body : (kind seen : ℕ) (part : List ℕ) → bytes ≡ kind ∷ (int32 seen ++ part) → seen < 2 ^ 32 → length bytes ≤ seen → wanted ≡ seen + 1 → IsWholeAt bytes wanted

-- a message's type, and a length that no message of this type has
pub record HasNoSuchLength (bytes : List ℕ) (seen : ℕ) : Type 0 where
  pub kind : ℕ
  pub rest : List ℕ
  pub parts : bytes ≡ kind ∷ (int32 seen ++ rest)
  pub fits : seen < 2 ^ 32
  pub known : GoesOnAsBack (kind ∷ [])
  pub none : (more : List ℕ) (m : BackMessage) → ¬ (IsBack (kind ∷ (int32 seen ++ more)) m)

-- At this place, the type's or one after the length, stands a byte with which no message goes on, and one goes on up to it.
pub record DepartsHere (bytes : List ℕ) (at : ℕ) : Type 0 where
  pub front : List ℕ
  pub byte : ℕ
  pub behind : List ℕ
  pub parts : bytes ≡ front ++ byte ∷ behind
  pub place : at ≡ length front
  pub outside : (front ≡ []) ⊎ (5 ≤ length front)
  pub goes_on : GoesOnAsBack front
  pub stuck : (more : List ℕ) (m : BackMessage) → ¬ (IsBack (front ++ byte ∷ more) m)
