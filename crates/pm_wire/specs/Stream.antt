-- A stream of messages, which comes in pieces of any size.
use Rattle.std.specs.Prelude.{◌≡◌, ◌≢◌, ℕ, ◌+◌, List, [], ◌∷◌, ◌++◌, length}

-- The bytes are these messages, one after the other, and then rest. Is says which bytes are which message.
abbrev pub IsStream : {M : Type 0} → (List ℕ → M → Type 0) → List ℕ → List M → List ℕ → Type 0
IsStream Is bytes [] rest = bytes ≡ rest
IsStream Is bytes (m ∷ ms) rest = (spelled after : List ℕ) × (bytes ≡ spelled ++ after) × Is spelled m × IsStream Is after ms rest

-- no whole message stands at the front
abbrev pub HasNoMessage : {M : Type 0} → (List ℕ → M → Type 0) → List ℕ → Type 0
HasNoMessage {M} Is bytes = (spelled after : List ℕ) (m : M) → Is spelled m → bytes ≢ spelled ++ after

-- the stream so far is these messages, and then a rest with which no message is whole
pub record Splits {M : Type 0} (Is : List ℕ → M → Type 0) (stream : List ℕ) (messages : List M) (rest : List ℕ) : Type 0 where
  pub whole : IsStream Is stream messages rest
  pub partial : HasNoMessage Is rest

-- no message begins another, and each is one message
abbrev pub StandApart : {M : Type 0} → (List ℕ → M → Type 0) → Type 0
StandApart {M} Is = (a b x y : List ℕ) (m n : M) → Is a m → Is b n → a ++ x ≡ b ++ y → (a ≡ b) × (m ≡ n)

-- a stream splits in one way
abbrev pub SplitOneWay : {M : Type 0} → (List ℕ → M → Type 0) → Type 0
SplitOneWay {M} Is =
    (stream : List ℕ) (ms ns : List M) (r s : List ℕ) → Splits Is stream ms r → Splits Is stream ns s → (ms ≡ ns) × (r ≡ s)

-- Where the first piece splits, and what is left of it with the second, the whole splits into both lists of messages.
abbrev pub SplitInPieces : {M : Type 0} → (List ℕ → M → Type 0) → Type 0
SplitInPieces {M} Is =
    (first second : List ℕ) (ms ns : List M) (r s : List ℕ) → Splits Is first ms r → Splits Is (r ++ second) ns s → Splits Is (first ++ second) (ms ++ ns) s

-- The stream is these messages, and then bytes that are the front of none, for this fault; the fault stands at this byte of
-- the stream. Fails says which bytes begin with which fault, and place at which of them it stands.
pub record FailsAt {M F : Type 0} (Is : List ℕ → M → Type 0) (Fails : List ℕ → F → Type 0) (place : F → ℕ) (stream : List ℕ) (messages : List M) (fault : F) (at : ℕ) : Type 0 where
  pub rest : List ℕ
  pub whole : IsStream Is stream messages rest
  pub fails : Fails rest fault
  pub stands : at + length rest ≡ length stream + place fault

-- a stream fails at one byte, after one list of messages, for one fault
abbrev pub FailsOnce : {M F : Type 0} → (List ℕ → M → Type 0) → (List ℕ → F → Type 0) → (F → ℕ) → Type 0
FailsOnce {M} {F} Is Fails place =
    (stream : List ℕ) (ms ns : List M) (f g : F) (a b : ℕ) → FailsAt Is Fails place stream ms f a → FailsAt Is Fails place stream ns g b → (ms ≡ ns) × (f ≡ g) × (a ≡ b)

-- What comes after makes no difference.
abbrev pub FailsForGood : {M F : Type 0} → (List ℕ → M → Type 0) → (List ℕ → F → Type 0) → (F → ℕ) → Type 0
FailsForGood {M} {F} Is Fails place =
    (stream more : List ℕ) (ms : List M) (f : F) (at : ℕ) → FailsAt Is Fails place stream ms f at → FailsAt Is Fails place (stream ++ more) ms f at

-- Where the first piece splits, and what is left of it with the second fails, the whole fails at the same byte, counted from
-- the first piece's front.
abbrev pub FailsInPieces : {M F : Type 0} → (List ℕ → M → Type 0) → (List ℕ → F → Type 0) → (F → ℕ) → Type 0
FailsInPieces {M} {F} Is Fails place =
    (first second : List ℕ) (ms ns : List M) (r : List ℕ) (f : F) (at : ℕ) → Splits Is first ms r → FailsAt Is Fails place (r ++ second) ns f at
    → (b : ℕ) → b + length r ≡ at + length first → FailsAt Is Fails place (first ++ second) (ms ++ ns) f b
