-- How a session heeds its signals from query to query, and what it reads a query as.
use Rattle.std.specs.{Prelude.{◌≡◌, ◌≤◌, ◌<◌, ◌-◌, ◌^◌, ℕ, List, [], ◌∷◌, Option, None, Some}, List.Contains}
use Rattle.pm_session_exchange.specs.{pm_child_life.{Life.{Told, Signal, Cancel, Checkpoint, next_ask}, Attention.IsBy}, Sent.{Turn, Cancelled}, Queries.{IsReadAs, SleptWhole}}

-- ---- signals

-- a signal after which a session comes to its end
abbrev pub IsEnding : Signal → Type 0
IsEnding Cancel = ⊥
IsEnding Checkpoint = ⊥
IsEnding _ = Unit {0}

-- A sleep began after one ask and ended after another, by which the child had asked in it. Up to its end no cancel was given
-- but those up to its beginning, as far as asks are numbered.
pub record SleepHeeds (began over : ℕ) (given : List (ℕ × Signal)) : Type 0 where
  pub woken : ℕ
  pub asked : next_ask began ≤ woken
  pub order : IsBy woken over
  pub uncancelled : (ask : ℕ) → Contains given (ask, Cancel) → ask ≤ woken → ask < 2 ^ 64 - 1 → ask ≤ began

-- A turn began after one ask and was over after another. Up to its beginning nothing was given that ends the session. A
-- cancelled one was given its cancel at an ask of its own, and one whose sleep went to its end was given none in it.
pub record TurnHeeds (turn : Turn) (from began over : ℕ) (given : List (ℕ × Signal)) : Type 0 where
  pub later : next_ask from ≤ began
  pub order : IsBy began over
  pub unended : (ask : ℕ) (signal : Signal) → IsEnding signal → Contains given (ask, signal) → next_ask began ≤ ask
  pub cancelled : turn ≡ Cancelled → (ask : ℕ) × Contains given (ask, Cancel) × (next_ask began ≤ ask) × IsBy ask over
  pub uncancelled : SleptWhole turn → SleepHeeds began over given

-- the turns one after the other, each between asks of its own, of the signals that were given at these asks
abbrev pub TurnsHeed : (from : ℕ) → List Turn → (to : ℕ) → List (ℕ × Signal) → Type 0
TurnsHeed from [] to given = IsBy from to
TurnsHeed from (turn ∷ turns) to given = (began : ℕ) × (over : ℕ) × TurnHeeds turn from began over given × TurnsHeed over turns to given

-- the same between two moments of a child that tells
abbrev pub HeedInTurn : List Turn → (before now : Option Told) → Type 0
HeedInTurn turns None now = Unit {0}
HeedInTurn turns (Some before) None = ⊥
HeedInTurn turns (Some before) (Some now) = TurnsHeed before.asked turns now.asked now.given

-- ---- texts

abbrev pub AllRead : List (List ℕ) → List Turn → Type 0
AllRead (text ∷ texts) (turn ∷ turns) = IsReadAs text turn × AllRead texts turns
AllRead _ _ = Unit {0}
