-- What is known while the workers of a pool are closed, one after the other.
use Rattle.std.specs.{Prelude.{◌≡◌, ◌≢◌, ℕ, ◌+◌, ◌<◌, ◌≤◌, true, List, [], ◌∷◌, ◌++◌, Some, length, slice_get}, List.AllByRecursion}
use Rattle.pm_serve_crew.specs.{pm_board.{pm_board_words.declared.views.{Offer.Offer, PastChild.PastChild, RosterStep.TheVariants.Release, RosterView.RosterView, Sight.TheVariants.Unused}, Heard.HeardAsSent, Places.{slot_at, slot_view}, Seats.is_gathered}, pm_supervisor_journal.Stands.highest_pid, pm_board_acts.{Seating.Move, Standing.IsBoardOf}, pm_store_shared.{declared.views.Joined.Joined, Told.{SharedModel, shared_with}}, pm_worker.{declared.mail.MailTold.MailTold, Runs.Run}, Left.{IsBorneOut, IsWorked, Manner}}
use Rattle.pm_serve_crew.specs.pm_worker.declared.mail.MailTold.TheVariants as told

-- A board of so many slots, whose workers may be closed: nobody sits anywhere, no post was taken in, and no pid is above the highest
-- that a supervisor draws.
pub record MayClose (count : ℕ) (d : RosterView MailTold) : Type 0 where
  pub slots : length d.slots ≡ count
  pub free : (k : ℕ) → (slot_at d k).sight ≡ Unused
  pub pids : d.notes.last_pid ≤ highest_pid

-- the pid of the child that closes the worker of the slot k
abbrev pub closing_pid : ℕ → ℕ
closing_pid k = highest_pid + 1 + k

-- the posts of the first k slots were taken in, and nobody sits anywhere
pub record IsShut (k : ℕ) (d : RosterView MailTold) : Type 0 where
  pub gathered : (j : ℕ) → j < k → is_gathered (slot_at d j).sight ≡ true
  pub free : (j : ℕ) → k ≤ j → (slot_at d j).sight ≡ Unused
  pub pids : d.notes.last_pid ≤ highest_pid + k

-- the child of the slot k was released, and all else but what looks met is as before
pub record IsReleased (k : ℕ) (o : Offer MailTold) (before after : RosterView MailTold) : Type 0 where
  pub count : length after.slots ≡ length before.slots
  pub others : (j : ℕ) → j ≢ k → slot_at after j ≡ slot_at before j
  pub child : PastChild MailTold
  pub is : child.offer ≡ o
  pub here : slot_at after k ≡ slot_view ((slot_at before k).past ++ child ∷ []) Unused
  pub steps : after.notes.steps ≡ before.notes.steps ++ Release o.pid o.kind o.generation ∷ []
  pub last_pid : after.notes.last_pid ≡ before.notes.last_pid
  pub limit : after.session_limit ≡ before.session_limit

-- whatever the moves were, a board that is theirs is so still
abbrev pub KeepsBoard : RosterView MailTold → RosterView MailTold → Type 0
KeepsBoard before after = (count : ℕ) (moves : List Move) → IsBoardOf count moves before → IsBoardOf count moves after

-- after those before, the slot k has had one child more, under the pid for that, which closed its worker
pub record HasHadLast (k : ℕ) (before after : RosterView MailTold) : Type 0 where
  pub child : PastChild MailTold
  pub pid : child.offer.pid ≡ closing_pid k
  pub closes : child.offer.given ≡ told.Close
  pub past : (slot_at after k).past ≡ (slot_at before k).past ++ child ∷ []

-- The worker of the slot k was closed and joined, its last child released, its post taken in, and its token taken back; what its
-- children told of the store is so by what the token found. All else is as before.
pub record HasClosedOne {F : Type 0} (manner : Manner) (k : ℕ) (before after : RosterView MailTold) (shared_before shared_after : SharedModel F) : Type 0 where
  pub runs : List Run
  pub his : Joined
  pub joined : shared_after ≡ shared_with shared_before shared_before.tokens (shared_before.joined ++ his ∷ [])
  pub worked : IsWorked manner after k runs his.own
  pub borne_out : AllByRecursion (IsBorneOut manner.files his.past) runs
  pub last : HasHadLast k before after
  pub count : length after.slots ≡ length before.slots
  pub others : (j : ℕ) → j ≢ k → slot_at after j ≡ slot_at before j
  pub board : KeepsBoard before after
  pub limit : after.session_limit ≡ before.session_limit
  pub sent : HeardAsSent after
  pub shut : IsShut (k + 1) after

-- So it is of the first n slots.
pub record AreClosed {F : Type 0} (manner : Manner) (n : ℕ) (before after : RosterView MailTold) (shared_before shared_after : SharedModel F) : Type 0 where
  pub runs : ℕ → List Run
  pub joined : List Joined
  pub shared : shared_after ≡ shared_with shared_before shared_before.tokens joined
  pub all : length joined ≡ n
  pub worked : (k : ℕ) (his : Joined) → slice_get joined k ≡ Some his → IsWorked manner after k (runs k) his.own
  pub borne_out : (k : ℕ) (his : Joined) → slice_get joined k ≡ Some his → AllByRecursion (IsBorneOut manner.files his.past) (runs k)
  pub last : (k : ℕ) → k < n → HasHadLast k before after
  pub count : length after.slots ≡ length before.slots
  pub others : (j : ℕ) → n ≤ j → slot_at after j ≡ slot_at before j
  pub board : KeepsBoard before after
  pub limit : after.session_limit ≡ before.session_limit
  pub sent : HeardAsSent after
  pub shut : IsShut n after
