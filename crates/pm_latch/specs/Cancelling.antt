-- What becomes of a request to cancel.
use Rattle.std.specs.{Prelude.{◌≡◌, ◌≢◌, ℕ, ◌+◌, ◌<◌, ◌≤◌, ◌++◌, List, [], ◌∷◌, length}, List.AllByRecursion}
use Rattle.pm_board.specs.{pm_keys.CancelKey.cancel_key, pm_child_life.declared.life.Cancelled.{Cancelled, TheVariants.{Sent, NoSuchPid, WrongKey}}, Slots.child_slots, pm_board_words.{declared.views.{LatchLook.LatchLook, PostNotes.PostNotes}, Latch.latch_pid}, Told.{with_notes, noted_cancel}, Models.{PostOf, cancel_of}}

-- a request to cancel the query of the child with this pid, and what it is judged by
pub record Request : Type 0 where
  pub seed : List ℕ
  pub pid : ℕ
  pub key : ℕ

abbrev pub request : List ℕ → ℕ → ℕ → Request
request seed pid key = record { seed = seed; pid = pid; key = key }

-- the key is that of the pid under the seed; pid 0 has none
abbrev pub HasKey : Request → Type 0
HasKey r = (1 ≤ r.pid) × (r.key ≡ cancel_key r.seed r.pid)

-- looks at the latches of the slots from k on, one after the other, that met these words
abbrev pub looks_from : ℕ → List ℕ → List LatchLook
looks_from k [] = []
looks_from k (word ∷ words) = record { slot = k; word = word } ∷ looks_from (k + 1) words

-- a worker's notes after such looks from slot 0 on
abbrev pub noted_looks : PostNotes → List ℕ → PostNotes
noted_looks notes words = record notes { looked = notes.looked ++ looks_from 0 words }

abbrev pub NoneFor : ℕ → List ℕ → Type 0
NoneFor pid words = AllByRecursion (λ word. latch_pid word ≢ pid) words

-- An answer to a request. With the right key the latches were looked at in order, up to the first one that was armed for the
-- pid, and on that slot the cancel was made
abbrev pub HasAsked : {D W : Type 0} → Request → Cancelled → PostOf D W → PostOf D W → Type 0
HasAsked r WrongKey before after = (¬ (HasKey r)) × (after.knows ≡ before.knows)
HasAsked r NoSuchPid before after =
    HasKey r
    × ((words : List ℕ) × (length words ≡ child_slots before.table.slots) × NoneFor r.pid words
    × (after.knows ≡ with_notes before.knows (noted_looks before.knows.notes words)))
HasAsked r Sent before after =
    HasKey r
    × ((words : List ℕ) × (word : ℕ) × (length words < child_slots before.table.slots) × NoneFor r.pid words × (latch_pid word ≡ r.pid)
    × (after.knows
    ≡ with_notes before.knows
    (noted_cancel (noted_looks before.knows.notes (words ++ word ∷ [])) (cancel_of (length words) r.seed r.pid r.key))))
