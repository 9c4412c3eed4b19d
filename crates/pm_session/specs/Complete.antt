-- Completeness: which queries of what came in have an answer.
use Rattle.std.specs.{Prelude.{◌≡◌, ◌⊎◌, ℕ, List, [], ◌∷◌, ◌++◌, Some, Ok}, List.flat_map, Str.IsUtf8}
use Rattle.pm_session_exchange.specs.{pm_outside.{pm_disk.Cause.Rose, Traffic.Traffic}, pm_child_life.Life.{Told, answer_met}, declared.ending.Cause.{Cause, TheVariants.{ShortOfMemory, Panicked, Overtaken}}, Sent.{Turn, Ran, LogIsFull, Memory}}
use Rattle.pm_admit.specs.declared.Cac.{Cac}
use Rattle.pm_startup.specs.{declared.phase.Phase.Phase, pm_wire.Frontend.{IsFront, Query}}
use Rattle.pm_query.specs.{pm_sql.{declared.stmt.Stmt.Stmt, Statements.IsQueryText}, declared.book.BookEntry.BookEntry, Calls.User}
use Rattle.pm_session.specs.Session.{Ending, AskInTurn, IsStart, IsSession, IsCaused, between, first_phase, query_bytes}

-- requests for encryption, and the packet that starts the session
pub record IsOpening (bytes : List ℕ) : Type 0 where
  pub requests : List (List ℕ)
  pub phase : Phase
  pub packet : List ℕ
  pub asks : AskInTurn first_phase requests phase
  pub start : IsStart packet
  pub whole : bytes ≡ flat_map (λ p. p) requests ++ packet

-- a query in the grammar and within the limits
pub record IsProper (text : List ℕ) : Type 0 where
  pub script : List Stmt
  pub utf8 : IsUtf8 text
  pub query : IsQueryText text script
  pub front : IsFront (query_bytes text) (Query text)

abbrev pub AllProper : List (List ℕ) → Type 0
AllProper [] = Unit {0}
AllProper (text ∷ texts) = IsProper text × AllProper texts

-- it was answered with its reply, or that the log is full or memory short
abbrev pub IsRun : Turn → Type 0
IsRun (Ran reply) = Unit {0}
IsRun LogIsFull = Unit {0}
IsRun Memory = Unit {0}
IsRun _ = ⊥

-- each of the texts has such a turn, in order
abbrev pub AllRun : List (List ℕ) → List Turn → Type 0
AllRun [] turns = Unit {0}
AllRun (text ∷ texts) [] = ⊥
AllRun (text ∷ texts) (turn ∷ turns) = IsRun turn × AllRun texts turns

-- for want of memory, or for what others did to the store
abbrev pub EndsForStore : Cause → Type 0
EndsForStore ShortOfMemory = Unit {0}
EndsForStore Panicked = Unit {0}
EndsForStore Overtaken = Unit {0}
EndsForStore _ = ⊥

-- The child went through the gate and was given no signal, and its link didn't fail.
pub record IsUndisturbed (generation : ℕ) (told : Told) (faults_before faults_now : ℕ) : Type 0 where
  pub met : answer_met told ≡ Some (Ok generation)
  pub given : told.given ≡ []
  pub sound : ¬ (Rose faults_before faults_now)

-- What came in is an opening, and after it these queries, whatever is after them.
pub record Begins (texts : List (List ℕ)) (came_in : List ℕ) : Type 0 where
  pub opening : List ℕ
  pub beyond : List ℕ
  pub opens : IsOpening opening
  pub proper : AllProper texts
  pub input : came_in ≡ opening ++ flat_map query_bytes texts ++ beyond

-- Each query of a session that nobody disturbed has its turn, unless the session ended for want of memory or by the store.
abbrev pub EachQueryIsAnswered : {S C : Type 0} → (notes : List BookEntry → S → S → Type 0) → (gives : C → ℕ → Type 0) → Type 0
EachQueryIsAnswered {S} {C} notes gives =
    (decision : Cac) (user : User) (key : ℕ) (turns : List Turn) (ending : Ending) (generation : ℕ) (faults_before faults_now : ℕ)
    (traffic : Traffic) (store_before store_now : S) (told : Told) (limit : ℕ) (clock : C) (texts : List (List ℕ))
    → IsSession notes decision user key turns ending (Rose faults_before faults_now) (between (Some traffic) store_before store_now)
    → IsCaused ending turns generation decision (Some traffic) (Rose faults_before faults_now) (Some told) limit (gives clock)
    → IsUndisturbed generation told faults_before faults_now
    → Begins texts traffic.came_in
    → AllRun texts turns ⊎ EndsForStore ending.cause
