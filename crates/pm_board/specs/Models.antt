-- What contracts see of a roster and of a post, and what their calls tell.
use Rattle.std.specs.Prelude.{◌≡◌, ◌≢◌, ℕ, ◌+◌, ◌*◌, ◌<◌, ◌≤◌, ◌==◌, ◌++◌, Bool, true, false, List, [], ◌∷◌, Option, None, Some, Result, MatchOption, length, slice_get}
use Rattle.atomic_table.specs.{Table.Me, Seated.TableId}
use Rattle.pm_board_home.specs.{declared.views.HomeView.HomeView, Views.{no_takes, with_knows, dealt_by}}
use Rattle.pm_board_home.specs.declared.home.Home as Home
use Rattle.pm_halves.specs.Sitting.{Sitting}
use Rattle.pm_supervisor.specs.{pm_exit.declared.child.{Kind.Kind, Status.Status}, declared.Reason.Reason, Children.{is_dead_end, is_startup_child}}
use Rattle.pm_child_life.specs.declared.life.{Attempt.Attempt, Signals.Signals}
use Rattle.pm_board_words.specs.{declared.views.{SessionLimit.SessionLimit, Cancel.Cancel, Offer.Offer, RosterNotes.RosterNotes, RosterStep.{RosterStep, TheVariants.Send}, Sight.TheVariants.{Assigned, Exited, Gathered}, Signal.Signal, SlotView.SlotView, RosterView.RosterView, Work.{Work, TheVariants.{Idle, Sees, Inactive, Active, Refused, Attached}}, PostView.PostView, View.{View, TheVariants.{Postmaster, Worker}}}, Words.stage_in, GateWords.{gate_answer, generation_in}, Latch.{latch_pid, signals_at}}
use Rattle.pm_board.specs.{Slots.child_slots, declared.{roster.{Look.Look, Released.Released}, post.Started.Started}, Places.{slot_at, slot_view, used_in, EndsWell}, Children.children_of, Ties.{HasHome, HasTakenHome}, Rule.{child_word, offer_word, idle_post}, Told.{Seated, MayEnd, roster_of, new_roster, post_of, with_slot, with_post, assigned_slot, running_slot, exited_slot, released_slot, past_child, noted_assign, noted_release, noted_load, noted_start, noted_exit, noted_look, post_view, with_work, tried, detached, after_step, child_in, with_notes, noted_take, noted_heed, noted_latch_look, noted_cancel}}
use Rattle.pm_board_words.specs.declared.views.Letter as Letter
use Rattle.pm_board.specs.declared.roster.Look.TheVariants as look
use Rattle.pm_board.specs.declared.post.Started.TheVariants as started

-- which board it is, and what the supervisor knows of it and of its home
pub record RosterModel (D W : Type 0) : Type 0 where
  pub table : TableId
  pub knows : RosterView D
  pub home : HomeView W

-- which board it is, which slot, and what the worker knows of it and of its home
pub record PostOf (D W : Type 0) : Type 0 where
  pub table : TableId
  pub slot : ℕ
  pub knows : PostView D
  pub home : HomeView W

-- of a board with nothing at its home
abbrev pub PostModel : Type 0 → Type 0
PostModel D = PostOf D Bool

-- a worker holds the mail slot exactly while it runs a child
abbrev pub HoldsMail : {J D : Type 0} → ℕ → Work D → List (ℕ × Option J) → Type 0
HoldsMail k Idle c = c ≡ []
HoldsMail k (Sees word) c = ⊥
HoldsMail k (Inactive o) c = c ≡ (k, None) ∷ []
HoldsMail k (Active o) c = c ≡ (k, None) ∷ []
HoldsMail k (Refused o g) c = c ≡ (k, None) ∷ []
HoldsMail k (Attached o g) c = c ≡ (k, None) ∷ []

-- the child that runs, if one does, is of this kind
abbrev pub RunsKind : {D : Type 0} → Kind → Work D → Type 0
RunsKind kind Idle = Unit {0}
RunsKind kind (Sees word) = Unit {0}
RunsKind kind (Inactive o) = kind ≡ o.kind
RunsKind kind (Active o) = kind ≡ o.kind
RunsKind kind (Refused o g) = kind ≡ o.kind
RunsKind kind (Attached o g) = kind ≡ o.kind

-- and has this pid
abbrev pub RunsPid : {D : Type 0} → ℕ → Work D → Type 0
RunsPid pid Idle = Unit {0}
RunsPid pid (Sees word) = Unit {0}
RunsPid pid (Inactive o) = pid ≡ o.pid
RunsPid pid (Active o) = pid ≡ o.pid
RunsPid pid (Refused o g) = pid ≡ o.pid
RunsPid pid (Attached o g) = pid ≡ o.pid

module _ {J D : Type 0} where
  -- The supervisor's seat is one of this board and holds no mail slot. It knows as many slots as the board has, and the
  -- roster has at hand how many are used and by which children, the generation and the notice
  abbrev pub IsWholeRoster : TableId → TableId → ℕ → List (Option (ℕ × Kind)) → ℕ → Option Reason → Seated J D → Type 0
  IsWholeRoster board table used children generation noticed me =
      (board ≡ table) × (me ≡ (Postmaster (roster_of me.0), [])) × (table.words ≡ 3 * child_slots table.slots + 1)
      × (length (roster_of me.0).slots ≡ child_slots table.slots) × (table.slots ≤ 407) × (used ≡ used_in (roster_of me.0).slots)
      × (generation ≡ (roster_of me.0).generation) × (noticed ≡ (roster_of me.0).noticed)
      × (children ≡ children_of (roster_of me.0).slots)

  -- A worker's seat is one of this board, of the slot k, and holds what its work needs. The post has at hand kind and pid of
  -- its child and the limit of sessions
  abbrev pub IsWholePost : TableId → TableId → ℕ → Kind → ℕ → SessionLimit → Seated J D → Type 0
  IsWholePost board table k kind pid limit me =
      (board ≡ table) × (me.0 ≡ Worker k (post_of me.0)) × (table.words ≡ 3 * child_slots table.slots + 1) × (k < child_slots table.slots)
      × HoldsMail k (post_of me.0).work me.1 × RunsKind kind (post_of me.0).work × (limit ≡ (post_of me.0).notes.session_limit)
      × RunsPid pid (post_of me.0).work × (table.slots ≤ 407)

module _ {J D H W : Type 0} (home : Home.Ghosts H W) where
  -- The roster takes what lies at the board's home by the number of posts that it has made, and its seat there is the supervisor's
  abbrev pub IsRosterHome : ℕ → Seated J D → Me (Option H) (HomeView W) → Type 0
  IsRosterHome dealt me more = (dealt ≡ (roster_of me.0).dealt) × HasHome home dealt more × (home.leads more.0.knows ≡ true)

module _ {D H W : Type 0} (home : Home.Ghosts H W) where
  -- what a take tells a worker whose child is attached
  abbrev pub HasTakenAttached : Work D → Option H → HomeView W → HomeView W → Type 0
  HasTakenAttached work taken before after = (o : Offer D) (g : ℕ) → work ≡ Attached o g → HasTakenHome home g taken before after

module _ {J D H W : Type 0} where
  -- the supervisor's first seat at a board of so many slots, which has made no post
  abbrev pub IsNewSeat : ℕ → SessionLimit → TableId → Sitting (Option J) (Option H) (View D) (HomeView W) → Type 0
  IsNewSeat count limit table seat =
      (seat.table ≡ table) × (table.words ≡ 3 * count + 1) × (table.slots ≡ count) × (seat.me ≡ (Postmaster (new_roster count limit 0), []))

-- the first of these, where there is one, and what is left
abbrev pub TakesFirst : {A : Type 0} → Option A → List A → List A → Type 0
TakesFirst first before after = MatchOption first ((before ≡ []) × (after ≡ [])) (λ x. before ≡ x ∷ after)

-- a cancel for this pid on the cancel word of the slot k
abbrev pub cancel_of : ℕ → List ℕ → ℕ → ℕ → Cancel
cancel_of k seed pid key = record { slot = k; pid = pid; seed = seed; key = key }

module _ {D W : Type 0} where
  -- one post for each slot, in order
  abbrev pub AreNewPosts : ℕ → SessionLimit → TableId → List (PostOf D W) → Type 0
  AreNewPosts count limit table posts =
      (length posts ≡ count)
      × ((k : ℕ) (p : PostOf D W) → slice_get posts k ≡ Some p → p ≡ record { table = table; slot = k; knows = idle_post limit; home = p.home })

  -- the post of the slot k of a new board, whose supervisor knew this of its home when it began to make them
  abbrev pub new_post : {H : Type 0} → Home.Ghosts H W → SessionLimit → TableId → W → ℕ → PostOf D W
  new_post home limit table first k = record { table = table; slot = k; knows = idle_post limit; home = no_takes (home.next (dealt_by home.dealt k first)) }

  -- the post of the slot k is made
  abbrev pub HasDealt : {H : Type 0} → Home.Ghosts H W → ℕ → PostOf D W → RosterModel D W → RosterModel D W → Type 0
  HasDealt home k post before after =
      (post ≡ record { table = before.table; slot = k; knows = idle_post before.knows.session_limit; home = no_takes (home.next before.home.knows) })
      × (after.knows ≡ with_post before.knows) × (after.home ≡ with_knows before.home (home.dealt before.home.knows))

module _ {D : Type 0} where
  -- the slot k is x now, and these are the notes. The number of slots, every other slot and all else are as before
  pub record SlotBecame (k : ℕ) (x : SlotView D) (notes : RosterNotes) (before after : RosterView D) : Type 0 where
    pub count : length after.slots ≡ length before.slots
    pub others : (j : ℕ) → j ≢ k → slot_at after j ≡ slot_at before j
    pub here : slot_at after k ≡ x
    pub notes_are : after.notes ≡ notes
    pub whole : after ≡ with_slot before k x notes

  -- a look met this word of the slot k, which had this child: it has exited exactly where the word is in stage 3
  abbrev pub LookMet : ℕ → Offer D → ℕ → Look → RosterView D → RosterView D → Type 0
  LookMet k o word look.Running before after =
      (stage_in word ≢ 3) × SlotBecame k (running_slot (slot_at before k) o before.notes.last_connection) (noted_look before.notes word) before after
  LookMet k o word (look.Exited status active) before after =
      (word ≡ child_word 3 o status active) × SlotBecame k (exited_slot (slot_at before k) o status active) (noted_look before.notes word) before after
      × EndsWell o.kind status active

  -- a start met this word of its own slot: it offers a child exactly where the word is in stage 1
  abbrev pub StartMet : {J : Type 0} → Letter.Ghosts J D → ℕ → Started J → PostView D → PostView D → Type 0
  StartMet letter word started.Idle before after = (stage_in word ≢ 1) × (after ≡ post_view (noted_load before.notes word) before.past Idle)
  StartMet letter word (started.Job pid kind job) before after =
      (o : Offer D) × (word ≡ offer_word o) × (o.pid ≡ pid) × (o.kind ≡ kind) × (o.given ≡ letter.told job)
      × (after ≡ post_view (noted_start (noted_load before.notes word)) before.past (Inactive o)) × letter.fits job kind

  -- a child of this pid and kind was assigned to the slot k, with a mail that tells this
  abbrev pub HasAssigned : ℕ → ℕ → Kind → D → RosterView D → RosterView D → Type 0
  HasAssigned k pid kind given before after =
      (o : Offer D) × (o ≡ record { pid = pid; kind = kind; generation = before.generation; given = given })
      × SlotBecame k (assigned_slot (slot_at before k) o) (noted_assign before.notes k o) before after

  -- a look at the slot k, by the word that it met
  abbrev pub HasLooked : ℕ → Look → RosterView D → RosterView D → Type 0
  HasLooked k look before after =
      (o : Offer D) → (slot_at before k).sight ≡ Assigned o → (word : ℕ) × LookMet k o word look before after

  -- a worker's post was taken in, that knew this
  abbrev pub HasGathered : ℕ → PostView D → RosterView D → RosterView D → Type 0
  HasGathered k post before after =
      SlotBecame k (slot_view (slot_at before k).past (Gathered post.past post.notes)) before.notes before after

  -- the child that runs may exit with this status
  abbrev pub MayExit : Work D → Status → Type 0
  MayExit work status = (o : Offer D) × (active : Bool) × MayEnd work o active × EndsWell o.kind status active

  -- the child that ran has exited with this status and a mail that tells this
  abbrev pub HasExited : Status → D → PostView D → PostView D → Type 0
  HasExited status back before after =
      (o : Offer D) (active : Bool) → MayEnd before.work o active
      → after ≡ post_view (noted_exit before.notes o) (before.past ++ past_child o status active back ∷ []) Idle

  -- a child runs that isn't at the gate, and is no dead-end child
  abbrev pub MayAttach : Work D → Type 0
  MayAttach work = (o : Offer D) × (work ≡ Inactive o) × (is_dead_end o.kind ≡ false)

  -- its slot is marked as active
  abbrev pub MayTry : Work D → Type 0
  MayTry work = (o : Offer D) × (work ≡ Active o) × (is_dead_end o.kind ≡ false)

  abbrev pub IsActive : Work D → Type 0
  IsActive work = (o : Offer D) × (work ≡ Active o)

  abbrev pub IsRefused : Work D → Type 0
  IsRefused work = (o : Offer D) × (g : ℕ) × (work ≡ Refused o g)

  abbrev pub IsAttached : Work D → Type 0
  IsAttached work = (o : Offer D) × (g : ℕ) × (work ≡ Attached o g)

  -- its slot was marked as active, or no longer is
  abbrev pub HasMarked : PostView D → PostView D → Type 0
  HasMarked before after = (o : Offer D) → before.work ≡ Inactive o → after ≡ with_work before (Active o)

  abbrev pub HasUnmarked : PostView D → PostView D → Type 0
  HasUnmarked before after = (o : Offer D) → before.work ≡ Active o → after ≡ with_work before (Inactive o)

  -- it has tried at the gate, and got the answer to the word that it met
  abbrev pub HasTried : Attempt → PostView D → PostView D → Type 0
  HasTried attempt before after =
      (o : Offer D) → before.work ≡ Active o
      → (word : ℕ) × (attempt.answer ≡ gate_answer o.kind attempt.is_ordinary before.notes.session_limit word)
      × (after ≡ tried before o attempt.is_ordinary word) × (generation_in word ≡ o.generation)

  -- it has given its place at the gate back
  abbrev pub HasBackedOut : PostView D → PostView D → Type 0
  HasBackedOut before after = (o : Offer D) (g : ℕ) → before.work ≡ Refused o g → after ≡ with_work before (Active o)

  abbrev pub HasDetached : PostView D → PostView D → Type 0
  HasDetached before after = (o : Offer D) (g : ℕ) → before.work ≡ Attached o g → after ≡ detached before o

  -- the gate may be opened: it isn't open, and no startup child is there
  abbrev pub MayOpen : RosterView D → Type 0
  MayOpen d = (d.is_open ≡ false) × ((o : Offer D) → (slot_at d 0).sight ≡ Assigned o → is_startup_child o.kind ≡ false)

  -- a generation may begin: no slot has a child
  abbrev pub MayReset : RosterView D → Type 0
  MayReset d = (used_in d.slots ≡ 0) × (d.generation < 4294967295)

  -- the supervisor has made this step at the gate: its slots and all else are as before
  abbrev pub HasStepped : RosterStep → RosterView D → RosterView D → Type 0
  HasStepped s before after = after ≡ after_step before s

  -- a child runs
  abbrev pub RunsChild : Work D → Type 0
  RunsChild work = (o : Offer D) × (child_in work ≡ Some o)

  -- this signal was sent to the child of the slot k
  abbrev pub HasSent : ℕ → Signal → RosterView D → RosterView D → Type 0
  HasSent k signal before after =
      (o : Offer D) → (slot_at before k).sight ≡ Assigned o → HasStepped (Send k o.pid o.kind signal o.generation) before after

  -- these signals stood in the word that a take met, beside the cancel that was heeded, or not
  abbrev pub HasTakenSignals : Signals → PostView D → PostView D → Type 0
  HasTakenSignals signals before after =
      (word : ℕ) × (signals ≡ signals_at word before.notes.now.heeded) × (after ≡ with_notes before (noted_take before.notes word))

  -- a heed met this word of the own cancels: there was a cancel for the child exactly where the word is its pid
  abbrev pub HasHeeded : Bool → PostView D → PostView D → Type 0
  HasHeeded found before after =
      (o : Offer D) → child_in before.work ≡ Some o
      → (word : ℕ) × (found ≡ (word == o.pid)) × (after ≡ with_notes before (noted_heed before.notes o.pid word))

  -- a look at the latch of the slot k met a word with this pid
  abbrev pub HasLookedAtLatch : ℕ → ℕ → PostView D → PostView D → Type 0
  HasLookedAtLatch k pid before after =
      (word : ℕ) × (pid ≡ latch_pid word) × (after ≡ with_notes before (noted_latch_look before.notes k word))

  -- this cancel was made
  abbrev pub HasCancelled : Cancel → PostView D → PostView D → Type 0
  HasCancelled x before after = after ≡ with_notes before (noted_cancel before.notes x)

module _ {J D : Type 0} (letter : Letter.Ghosts J D) where
  -- a start, by the word that it met
  abbrev pub HasStarted : Started J → PostView D → PostView D → Type 0
  HasStarted answer before after = (word : ℕ) × StartMet letter word answer before after

  -- this mail may come back from the child that runs, which exits with this status
  abbrev pub GivesBack : Work D → Status → J → Type 0
  GivesBack work status job = (o : Offer D) (active : Bool) → MayEnd work o active → letter.comes_back job o.kind status active

  -- what was released is what the look at the slot k found, and it stands last among the children of the slot
  abbrev pub HasReleased : ℕ → Released J → RosterView D → RosterView D → Type 0
  HasReleased k released before after =
      (o : Offer D) (status : Status) (active : Bool) → (slot_at before k).sight ≡ Exited o status active
      → (released.pid ≡ o.pid) × (released.kind ≡ o.kind) × (released.status ≡ status) × (released.was_active ≡ active)
      × SlotBecame k (released_slot (slot_at before k) (past_child o status active (letter.told released.job))) (noted_release before.notes o) before after
      × letter.comes_back released.job released.kind released.status released.was_active
