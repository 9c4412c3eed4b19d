-- The rule of the board: the words, the mails at home and all views agree, slot by slot.
use Rattle.std.{specs.Prelude.{◌≡◌, ◌≢◌, ℕ, ◌+◌, ◌*◌, ◌<◌, ◌≤◌, Bool, true, false, List, [], ◌∷◌, ◌++◌, Option, Some, None, length, slice_index_or}, proofs.Common.{subst, sym}}
use mathlib.Core.Option.{some}
use native.Mathlib.Decide.{ℕ_discrete}
use mathlib.Core.Option as maybe
use lib.ListN.{get_elem?}
use Rattle.atomic_table.specs.Table.{State}
use Rattle.pm_exit.specs.declared.child.Status.{Status}
use Rattle.pm_exit.specs.declared.child.Status.TheVariants as status
use Rattle.pm_board_words.specs.{declared.views.{SessionLimit.SessionLimit, Heard.Heard, Offer.Offer, PastChild.PastChild, PostNotes.PostNotes, Sight.{Sight, TheVariants.{Unused, Opened, Assigned, Exited, Collected, Gathered}}, SlotView.SlotView, RosterView.RosterView, Work.{Work, TheVariants.{Idle, Sees, Inactive, Active, Refused, Attached}}, PostView.PostView, View.{View, TheVariants.{Postmaster, Worker, Spent}}}, Words.{packed, status_number}}
use Rattle.pm_board.specs.{Slots.child_slots, Places.{slot_at, SlotServes, EndsWell}}
use Rattle.pm_board_words.specs.declared.views.Letter as Letter

-- Where a slot stands. One that is opened has the pid that its latch is armed for, a child that runs its
-- active bit, and one that has exited its status and whether it was active.
pub data Phase (D : Type 0) : Type 0 where
  unused : Phase D
  opened : ℕ → Phase D
  offered : Offer D → Phase D
  running : Offer D → Bool → Phase D
  ended : Offer D → Status → Bool → D → Phase D
  collected : Offer D → Status → Bool → Phase D
  gathered : Phase D

-- a slot with its worker, that has a seat
pub record Cell (D : Type 0) : Type 0 where
  pub phase : Phase D
  pub seat : ℕ
  pub post : PostView D

-- of a child that has just started
abbrev pub no_signals : Heard
no_signals = record { asked = 0; given = []; heeded = false; found = false; met = None }

-- no session may be attached
abbrev pub no_sessions : SessionLimit
no_sessions = record { most = 0; reserved = 0 }

abbrev pub no_notes : SessionLimit → PostNotes
no_notes limit =
    record {
      session_limit = limit;
      met = [];
      steps = [];
      looked = [];
      now = no_signals;
      heard = [];
      cancels = [];
    }

module _ {D : Type 0} where
  -- the slot's word, for a child at this stage
  abbrev pub child_word : ℕ → Offer D → Status → Bool → ℕ
  child_word stage o status active = packed record { stage = stage; is_active = active; kind = o.kind; status = status; pid = o.pid }

  abbrev pub offer_word : Offer D → ℕ
  offer_word o = child_word 1 o (status.Code 0) false

  abbrev pub word_of : Phase D → ℕ
  word_of unused = 0
  word_of (opened q) = 0
  word_of (offered o) = offer_word o
  word_of (running o active) = child_word 2 o (status.Code 0) active
  word_of (ended o status active back) = child_word 3 o status active
  word_of (collected o status active) = child_word 4 o status active
  word_of gathered = 0

  -- what the supervisor sees of a slot that stands there
  abbrev pub Seen : Phase D → List (PastChild D) → Sight D → Type 0
  Seen unused past s = s ≡ Unused
  Seen (opened q) past s = s ≡ Opened q
  Seen (offered o) past s = s ≡ Assigned o
  Seen (running o active) past s = s ≡ Assigned o
  Seen (ended o status active back) past Unused = ⊥
  Seen (ended o status active back) past (Opened q) = ⊥
  Seen (ended o status active back) past (Assigned p) = p ≡ o
  Seen (ended o status active back) past (Exited p t a) = (p ≡ o) × (t ≡ status) × (a ≡ active)
  Seen (ended o status active back) past (Collected p t a) = ⊥
  Seen (ended o status active back) past (Gathered other notes) = ⊥
  Seen (collected o status active) past s = s ≡ Collected o status active
  Seen gathered past s = (notes : PostNotes) × (s ≡ Gathered past notes)

  -- what its worker does
  abbrev pub Does : Phase D → Work D → Type 0
  Does (offered o) Idle = Unit {0}
  Does (offered o) (Sees word) = word ≡ offer_word o
  Does (offered o) (Inactive p) = ⊥
  Does (offered o) (Active p) = ⊥
  Does (offered o) (Refused p g) = ⊥
  Does (offered o) (Attached p g) = ⊥
  Does (running o active) Idle = ⊥
  Does (running o active) (Sees word) = ⊥
  Does (running o active) (Inactive p) = (p ≡ o) × (active ≡ false)
  Does (running o active) (Active p) = (p ≡ o) × (active ≡ true)
  Does (running o active) (Refused p g) = (p ≡ o) × (active ≡ true)
  Does (running o active) (Attached p g) = (p ≡ o) × (active ≡ true)
  Does unused w = w ≡ Idle
  Does (opened q) w = w ≡ Idle
  Does (ended o status active back) w = w ≡ Idle
  Does (collected o status active) w = w ≡ Idle
  Does gathered w = w ≡ Idle

  -- the child that has exited and wasn't released
  abbrev pub unreleased : Phase D → List (PastChild D)
  unreleased (ended o status active back) = record { offer = o; status = status; was_active = active; back = back } ∷ []
  unreleased unused = []
  unreleased (opened q) = []
  unreleased (offered o) = []
  unreleased (running o active) = []
  unreleased (collected o status active) = []
  unreleased gathered = []

  -- the numbers of a phase fit the word, and an auxiliary child that ended well was not active
  abbrev pub Fits : Phase D → Type 0
  Fits (offered o) = o.pid < 2147483648
  Fits (running o active) = o.pid < 2147483648
  Fits (ended o status active back) = (o.pid < 2147483648) × (status_number status < 256) × EndsWell o.kind status active
  Fits (collected o status active) = (o.pid < 2147483648) × (status_number status < 256) × EndsWell o.kind status active
  Fits unused = Unit {0}
  Fits (opened q) = Unit {0}
  Fits gathered = Unit {0}

  -- what holds of the child of a used slot
  abbrev pub OfChild : (Offer D → Type 0) → Phase D → Type 0
  OfChild P (offered o) = P o
  OfChild P (running o active) = P o
  OfChild P (ended o status active back) = P o
  OfChild P (collected o status active) = P o
  OfChild P unused = Unit {0}
  OfChild P (opened q) = Unit {0}
  OfChild P gathered = Unit {0}

  -- and of that of a slot whose child hasn't exited
  abbrev pub OfLiving : (Offer D → Type 0) → Phase D → Type 0
  OfLiving P (offered o) = P o
  OfLiving P (running o active) = P o
  OfLiving P unused = Unit {0}
  OfLiving P (opened q) = Unit {0}
  OfLiving P (ended o status active back) = Unit {0}
  OfLiving P (collected o status active) = Unit {0}
  OfLiving P gathered = Unit {0}

  -- a child is of the present generation, and its slot is one for its kind
  abbrev pub IsPlaced : ℕ → ℕ → ℕ → Offer D → Type 0
  IsPlaced count generation k o = (o.generation ≡ generation) × SlotServes count k o.kind

  -- the pid of a used slot, or 0
  abbrev pub used_pid : Sight D → ℕ
  used_pid Unused = 0
  used_pid (Opened q) = 0
  used_pid (Assigned o) = o.pid
  used_pid (Exited o status active) = o.pid
  used_pid (Collected o status active) = o.pid
  used_pid (Gathered past notes) = 0

  -- pids of used slots differ, and none is above the greatest so far
  pub record PidsOk (d : RosterView D) : Type 0 where
    pub below : (k : ℕ) → used_pid (slot_at d k).sight ≤ d.notes.last_pid
    pub differ : (j k : ℕ) → 0 < used_pid (slot_at d j).sight → used_pid (slot_at d j).sight ≡ used_pid (slot_at d k).sight → j ≡ k

  abbrev pub idle_post : SessionLimit → PostView D
  idle_post limit = record { past = []; work = Idle; notes = no_notes limit }

  -- what a seat knows is what the rule has of it
  abbrev pub Agrees : ℕ → RosterView D → (ℕ → Cell D) → ℕ → View D → Type 0
  Agrees master d cells id (Postmaster e) = (id ≡ master) × (e ≡ d)
  Agrees master d cells id (Worker k w) = ((cells k).seat ≡ id) × ((cells k).post ≡ w) × (k < d.dealt)
  Agrees master d cells id Spent = Unit {0}

module _ {C : Type 0} where
  abbrev pub pick : {P : Type 0} → Dec P → C → C → C
  pick (yes _) a b = a
  pick (no _) a b = b

  -- the cells, with c at the place i
  pub put : (ℕ → C) → ℕ → C → ℕ → C
  put cells i c j = pick (ℕ_discrete j i) c (cells j)

  -- what holds of the new cell at i, and of each other cell, holds after
  pub at_put : (cells : ℕ → C) (i : ℕ) (c : C) (F : ℕ → C → Type 0) (j : ℕ) → F i c → (j ≢ i → F j (cells j)) → F j (put cells i c j)
  unfolding put
  at_put cells i c F j here other = go (ℕ_discrete j i)
    where
      go : (d : Dec (j ≡ i)) → F j (pick d c (cells j))
      go (yes e) = subst (λ (k : ℕ). F k c) (sym e) here
      go (no n) = other n

module _ {J D : Type 0} (letter : Letter.Ghosts J D) where
  -- the mail slot of a slot that stands there
  abbrev pub Mail : Phase D → maybe.Option (Option J) → Type 0
  Mail unused h = h ≡ some None
  Mail (offered o) h = (j : J) × (h ≡ some (Some j)) × (letter.told j ≡ o.given) × letter.fits j o.kind
  Mail (ended o status active back) h = (j : J) × (h ≡ some (Some j)) × (letter.told j ≡ back) × letter.comes_back j o.kind status active
  Mail (opened q) h = Unit {0}
  Mail (running o active) h = Unit {0}
  Mail (collected o status active) h = Unit {0}
  Mail gathered h = Unit {0}

  pub record SlotOk (word : ℕ) (home : maybe.Option (maybe.Option (Option J))) (x : SlotView D) (c : Cell D) : Type 0 where
    pub shows : word ≡ word_of c.phase
    pub fits : Fits c.phase
    pub seen : Seen c.phase x.past x.sight
    pub does : Does c.phase c.post.work
    -- the two lists of children
    pub lists : c.post.past ≡ x.past ++ unreleased c.phase
    pub there : maybe.Option (Option J)
    pub there_is : home ≡ some there
    pub mail : Mail c.phase there

  pub record Holds (master : ℕ) (d : RosterView D) (cells : ℕ → Cell D) (s : State (Option J) (View D)) : Type 0 where
    -- a word for each slot, one for the gate, and one for each latch and for the cancels of each slot
    pub wide : length s.words ≡ 3 * child_slots (length s.homes) + 1
    pub many : length d.slots ≡ child_slots (length s.homes)
    pub pids : PidsOk d
    pub some_posts : d.dealt ≤ child_slots (length s.homes)
    pub new_posts : (k : ℕ) → d.dealt ≤ k → (cells k).post ≡ idle_post d.session_limit
    pub each_slot : (k : ℕ) → k < child_slots (length s.homes) → SlotOk (slice_index_or s.words k 0) (get_elem? s.homes k) (slot_at d k) (cells k)
    pub each_child : (k : ℕ) → k < child_slots (length s.homes) → OfChild (IsPlaced (child_slots (length s.homes)) d.generation k) (cells k).phase
    pub each_seat : (id : ℕ) (v : View D) → get_elem? s.views id ≡ some v → Agrees master d cells id v
