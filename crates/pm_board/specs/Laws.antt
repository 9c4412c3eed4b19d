-- The laws of the board, one for each function of `laws.rt`, whose contract it is.
use Rattle.std.specs.Prelude.{◌≡◌, ℕ, ◌<◌, ◌≤◌, ◌⊎◌, Bool, true, false, Option, None, Some, Ok, List, [], ◌∷◌, ◌++◌, map, length, slice_index, slice_index_or}
use mathlib.Core.Option.{some}
use lib.ListN.{get_elem?}
use Rattle.atomic_table.specs.Table.{State}
use Rattle.pm_supervisor.specs.{Supervisor.Shared, Shared.{IsKept, Attach, Allows}, Children.{is_dead_end, is_session}}
use Rattle.pm_board_words.specs.{GateWords.{gate_answer, reserve_by}, declared.views.{SessionLimit.SessionLimit, Offer.Offer, PastChild.PastChild, RosterView.RosterView, Work.TheVariants.{Idle, Active, Attached}, PostView.PostView, View.{View, TheVariants.{Postmaster, Worker}}}}
use Rattle.pm_board.specs.{Ties.Tied, Slots.child_slots, Places.{slot_at, used_in}, Heard.{WasMade, HeardAsSent}, Latches.{HeardRightly, EachHeard, HeardBy, doings_of, Reaches, latch_at, cancel_at, times_made_on}, Told.child_in, History.{Entry, Kept, of_supervisor, events_of, of_worker, worker_step}}
use Rattle.pm_halves.specs.Halves.{firsts, seconds}
use Rattle.pm_board_home.specs.{declared.views.HomeView.HomeView, Views.KeptBy}
use Rattle.pm_board_home.specs.declared.home.Home as Home
use Rattle.pm_board_words.specs.declared.views.Letter as Letter

module _ {J D : Type 0} (letter : Letter.Ghosts J D) where
  -- the events that have led to a state of the board, and what they leave
  abbrev pub events_before : (limit : SessionLimit) (s : State (Option J) (View D)) → Kept letter limit s → List Entry
  events_before limit s kept = kept.5.0

  abbrev pub shown_by : (limit : SessionLimit) (s : State (Option J) (View D)) → Kept letter limit s → Shared
  shown_by limit s kept = kept.5.1

  abbrev pub ResetFindsNobody : Type 0
  ResetFindsNobody =
      (limit : SessionLimit) (s : State (Option J) (View D)) → Kept letter limit s
      → (master : ℕ) (d : RosterView D) → get_elem? s.views master ≡ some (Postmaster d) → used_in d.slots ≡ 0
      → (id k : ℕ) (w : PostView D) → get_elem? s.views id ≡ some (Worker k w) → w.work ≡ Idle

  abbrev pub ShowsASoundState : Type 0
  ShowsASoundState = (limit : SessionLimit) (s : State (Option J) (View D)) (kept : Kept letter limit s) → IsKept limit.most (shown_by limit s kept)

  pub record HistoryIsOfTheSeats : Type 0 where
    pub supervisor :
        (limit : SessionLimit) (s : State (Option J) (View D)) (kept : Kept letter limit s) (id : ℕ) (d : RosterView D)
        → get_elem? s.views id ≡ some (Postmaster d) → of_supervisor (events_before limit s kept) ≡ events_of d.notes.steps
    pub worker :
        (limit : SessionLimit) (s : State (Option J) (View D)) (kept : Kept letter limit s) (id k : ℕ) (w : PostView D)
        → get_elem? s.views id ≡ some (Worker k w) → of_worker k (events_before limit s kept) ≡ map worker_step w.notes.steps

  -- whom the gate's word lets in at any moment, attaches in its own generation, and may do so in what the board shows
  abbrev pub LetsInRightly : Type 0
  LetsInRightly =
      (limit : SessionLimit) (s : State (Option J) (View D)) (kept : Kept letter limit s) (id k g : ℕ) (w : PostView D) (o : Offer D)
      → (is_ordinary : Bool) → get_elem? s.views id ≡ some (Worker k w) → w.work ≡ Active o → is_dead_end o.kind ≡ false
      → gate_answer o.kind is_ordinary w.notes.session_limit (slice_index_or s.words (child_slots (length s.homes)) 0) ≡ Ok g
      → (g ≡ o.generation) × Allows limit.most (shown_by limit s kept) (Attach o.pid (reserve_by is_ordinary limit))
      × ((master : ℕ) (d : RosterView D) → get_elem? s.views master ≡ some (Postmaster d)
      → (d.noticed ≡ None) × (d.generation ≡ g) × (is_session o.kind ≡ true → d.is_open ≡ true))

  -- what a child heard, ended ones too, was meant for it
  pub record HearsWhatWasSent : Type 0 where
    -- of the children of a worker
    pub before :
        (limit : SessionLimit) (s : State (Option J) (View D)) → Kept letter limit s → (master id k : ℕ) (d : RosterView D) (w : PostView D)
        → get_elem? s.views master ≡ some (Postmaster d) → get_elem? s.views id ≡ some (Worker k w)
        → EachHeard (HeardBy (doings_of d) (WasMade s.views d)) w.past w.notes.heard
    -- of the one that it runs
    pub now :
        (limit : SessionLimit) (s : State (Option J) (View D)) → Kept letter limit s → (master id k : ℕ) (d : RosterView D) (w : PostView D)
        → get_elem? s.views master ≡ some (Postmaster d) → get_elem? s.views id ≡ some (Worker k w)
        → (o : Offer D) → child_in w.work ≡ Some o → HeardRightly (doings_of d) (WasMade s.views d) o w.notes.now
    -- what was sent to that one stands in its latch, until an answer told it
    pub reached :
        (limit : SessionLimit) (s : State (Option J) (View D)) → Kept letter limit s → (master id k : ℕ) (d : RosterView D) (w : PostView D)
        → get_elem? s.views master ≡ some (Postmaster d) → get_elem? s.views id ≡ some (Worker k w)
        → (o : Offer D) → child_in w.work ≡ Some o
        → Reaches d.notes.steps (latch_at (child_slots (length s.homes)) s.words k) o.pid w.notes.now.given
    -- and a cancel that any worker made for it on its slot stands, or one for a later pid, until a heed found it
    pub called :
        (limit : SessionLimit) (s : State (Option J) (View D)) → Kept letter limit s → (id k id' k' : ℕ) (w w' : PostView D)
        → get_elem? s.views id ≡ some (Worker k w) → get_elem? s.views id' ≡ some (Worker k' w') → (o : Offer D) → child_in w.work ≡ Some o
        → 0 < times_made_on k o.pid w'.notes.cancels → (o.pid ≤ cancel_at (child_slots (length s.homes)) s.words k) ⊎ (w.notes.now.found ≡ true)
    -- What was sent to a child and it wasn't told until its exit stands in the latch still, while the child isn't released
    pub left_standing :
        (limit : SessionLimit) (s : State (Option J) (View D)) → Kept letter limit s → (master id k : ℕ) (d : RosterView D) (w : PostView D) (x : PastChild D)
        → get_elem? s.views master ≡ some (Postmaster d) → get_elem? s.views id ≡ some (Worker k w) → w.past ≡ (slot_at d k).past ++ x ∷ []
        → Reaches d.notes.steps (latch_at (child_slots (length s.homes)) s.words k) x.offer.pid w.notes.now.given
    -- and of those of the posts that were taken in
    pub gathered :
        (limit : SessionLimit) (s : State (Option J) (View D)) → Kept letter limit s → (master : ℕ) (d : RosterView D)
        → get_elem? s.views master ≡ some (Postmaster d) → HeardAsSent d

module _ {J D H W : Type 0} (letter : Letter.Ghosts J D) (home : Home.Ghosts H W) where
  -- Who has what lies at the board's home is the supervisor, or a worker whose child is attached in the gate's generation. In a worker's
  -- hand it is of that generation, and at home while the supervisor lends it.
  pub record LendsRightly : Type 0 where
    pub in_hand : (limit : SessionLimit) (l : State (Option J) (View D)) (s : State (Option H) (HomeView W)) (views : List (View D × HomeView W)) → Kept letter limit l → KeptBy home.rule s → l.views ≡ firsts views → s.views ≡ seconds views → Tied home views
        → (desk id k : ℕ) (d : RosterView D) (w : PostView D) (y u : HomeView W) → get_elem? views desk ≡ some (Postmaster d, y) → get_elem? views id ≡ some (Worker k w, u) → home.has u.knows ≡ true
        → (home.stamp u.knows ≡ d.generation) × ((o : Offer D) × (w.work ≡ Attached o d.generation))
    pub at_home : (s : State (Option H) (HomeView W)) (views : List (View D × HomeView W)) → KeptBy home.rule s → s.views ≡ seconds views → Tied home views
        → (desk : ℕ) (d : RosterView D) (y : HomeView W) → get_elem? views desk ≡ some (Postmaster d, y) → home.lends y.knows ≡ true → slice_index s.words 0 ≡ 0
        → (x : H) × (get_elem? s.homes 0 ≡ some (some (Some x))) × (home.stamp_of x ≡ d.generation)
