-- What each step tells the seat that makes it.
use Rattle.std.specs.Prelude.{◌≡◌, ◌≢◌, ℕ, ◌+◌, ◌-◌, ◌*◌, ◌%◌, ◌^◌, ◌<◌, ◌==◌, min, Bool, true, false, ◌||◌, if◌then◌else◌, List, [], ◌∷◌, ◌++◌, Option, Some, None, Result, Ok, Err, slice_set, replicate}
use Rattle.atomic_table.specs.Table.{Me, Step}
use Rattle.pm_supervisor.specs.{pm_exit.declared.child.Status.Status, declared.Reason.Reason}
use Rattle.pm_board_words.specs.{declared.views.{SessionLimit.SessionLimit, Cancel.Cancel, Heard.Heard, Offer.Offer, PastChild.PastChild, PostNotes.PostNotes, RosterNotes.RosterNotes, PostStep.TheVariants.{Attach, Detach, Exit}, RosterStep.{RosterStep, TheVariants.{Assign, Release, Quit, Ready, Reset, Send}}, Sight.{Sight, TheVariants.{Unused, Opened, Assigned, Exited, Collected, Gathered}}, Signal.Signal, SlotView.SlotView, RosterView.RosterView, Work.{Work, TheVariants.{Idle, Sees, Inactive, Active, Refused, Attached}}, PostView.PostView, View.{View, TheVariants.{Postmaster, Worker, Spent}}}, Words.{stage_in, active_in, status_in, status_number, exit_step}, GateWords.{gate_answer, reserve_by, generation_in, MayQuit, quit_step}, Latch.{latch_place, latch_pid, signal_number, armed_word, signals_at}}
use Rattle.pm_board.specs.{Slots.child_slots, Places.{slot_view, slot_at, is_connection, EndsWell}, Gate.{gate_of, gate_after}, Heard.HeardAsSent, Rule.{child_word, offer_word, no_signals, no_sessions, idle_post}}
use Rattle.pm_board_words.specs.declared.views.Letter as Letter
use Rattle.pm_child_life.specs.{declared.life.{Attempt.Attempt, GateNo.GateNo, Signals.Signals}, Life.attempt}

abbrev pub no_roster_notes : RosterNotes
no_roster_notes = record { last_pid = 0; last_connection = 0; steps = []; met = [] }

-- the roster's notes after a look that met this word
abbrev pub noted_look : RosterNotes → ℕ → RosterNotes
noted_look notes word = record notes { met = notes.met ++ word ∷ [] }

module _ {D : Type 0} where
  abbrev pub post_view : PostNotes → List (PastChild D) → Work D → PostView D
  post_view notes past w = record { past = past; work = w; notes = notes }

  abbrev pub past_child : Offer D → Status → Bool → D → PastChild D
  past_child o status active back = record { offer = o; status = status; was_active = active; back = back }

  -- the roster, where the slot k is so, with these notes
  abbrev pub with_slot : RosterView D → ℕ → SlotView D → RosterNotes → RosterView D
  with_slot d k x notes = record d { slots = slice_set d.slots k x; notes = notes }

  -- the roster, where the supervisor sees this of the slot k
  abbrev pub with_sight : RosterView D → ℕ → Sight D → RosterView D
  with_sight d k s = with_slot d k (slot_view (slot_at d k).past s) d.notes

  -- the notes of the roster after an assign to the slot k, and after a release
  abbrev pub noted_assign : RosterNotes → ℕ → Offer D → RosterNotes
  noted_assign notes k o =
      record notes {
        last_pid = o.pid;
        last_connection = if is_connection o.kind then o.pid else notes.last_connection;
        steps = notes.steps ++ Assign k o.pid o.kind o.generation ∷ [];
      }

  abbrev pub noted_release : RosterNotes → Offer D → RosterNotes
  noted_release notes o = record notes { steps = notes.steps ++ Release o.pid o.kind o.generation ∷ [] }

  -- a slot whose child was assigned, found running, found exited or released
  abbrev pub assigned_slot : SlotView D → Offer D → SlotView D
  assigned_slot x o = slot_view x.past (Assigned o)

  abbrev pub running_slot : SlotView D → Offer D → ℕ → SlotView D
  running_slot x o last = record { past = x.past; sight = Assigned o; found_running = last }

  abbrev pub exited_slot : SlotView D → Offer D → Status → Bool → SlotView D
  exited_slot x o status active = slot_view x.past (Exited o status active)

  abbrev pub released_slot : SlotView D → PastChild D → SlotView D
  released_slot x child = slot_view (x.past ++ child ∷ []) Unused

  -- what the supervisor knows of a new board, with so many posts made
  abbrev pub new_roster : ℕ → SessionLimit → ℕ → RosterView D
  new_roster count limit dealt =
      record {
        slots = replicate count (slot_view [] Unused);
        dealt = dealt;
        notes = no_roster_notes;
        generation = 1;
        is_open = false;
        noticed = None;
        session_limit = limit;
      }

  abbrev pub newcomer : ℕ → SessionLimit → View D
  newcomer count limit = Postmaster (new_roster count limit 0)

  abbrev pub roster_of : View D → RosterView D
  roster_of (Postmaster d) = d
  roster_of (Worker k w) = new_roster 0 no_sessions 0
  roster_of Spent = new_roster 0 no_sessions 0

  abbrev pub post_of : View D → PostView D
  post_of (Postmaster d) = idle_post no_sessions
  post_of (Worker k w) = w
  post_of Spent = idle_post no_sessions

  -- one more post is made
  abbrev pub with_post : RosterView D → RosterView D
  with_post d = record d { dealt = d.dealt + 1 }

  abbrev pub dealt_more : View D → View D
  dealt_more (Postmaster d) = Postmaster (with_post d)
  dealt_more (Worker k w) = Worker k w
  dealt_more Spent = Spent

  abbrev pub next_post : View D → View D
  next_post (Postmaster d) = Worker d.dealt (idle_post d.session_limit)
  next_post (Worker k w) = Spent
  next_post Spent = Spent

  -- the supervisor takes in what a worker knows
  abbrev pub taken_in : View D → View D → View D
  taken_in (Postmaster d) (Worker k w) = Postmaster (with_sight d k (Gathered w.past w.notes))
  taken_in (Postmaster d) (Postmaster e) = Postmaster d
  taken_in (Postmaster d) Spent = Postmaster d
  taken_in (Worker k w) v = Worker k w
  taken_in Spent v = Spent

  -- a child may end where it isn't at the gate, or attached
  abbrev pub MayEnd : Work D → Offer D → Bool → Type 0
  MayEnd (Inactive p) o active = (p ≡ o) × (active ≡ false)
  MayEnd (Attached p g) o active = (p ≡ o) × (active ≡ true)
  MayEnd Idle o active = ⊥
  MayEnd (Sees word) o active = ⊥
  MayEnd (Active p) o active = ⊥
  MayEnd (Refused p g) o active = ⊥

-- the worker's notes after a load, a start and an exit
abbrev pub noted_load : PostNotes → ℕ → PostNotes
noted_load notes word = record notes { met = notes.met ++ word ∷ [] }

abbrev pub noted_start : PostNotes → PostNotes
noted_start notes = record notes { now = no_signals }

abbrev pub noted_exit : {D : Type 0} → PostNotes → Offer D → PostNotes
noted_exit notes o = record notes { heard = notes.heard ++ notes.now ∷ []; steps = notes.steps ++ Exit o.pid o.kind ∷ [] }

-- after a take that met this word of its latch, and a heed, for this pid, that met this word of its cancels
abbrev pub answered : Heard → Signals → Heard
answered now signals =
    record now { asked = min (now.asked + 1) (2 ^ 64 - 1); given = now.given ++ signals ∷ []; heeded = false }

abbrev pub noted_take : PostNotes → ℕ → PostNotes
noted_take notes word =
    record notes { met = notes.met ++ word ∷ []; now = answered notes.now (signals_at word notes.now.heeded) }

abbrev pub noted_heed : PostNotes → ℕ → ℕ → PostNotes
noted_heed notes pid word = record notes { met = notes.met ++ word ∷ []; now = record notes.now { heeded = word == pid; found = notes.now.found || (word == pid) } }

-- after a look at the latch of the slot k, and a cancel
abbrev pub noted_latch_look : PostNotes → ℕ → ℕ → PostNotes
noted_latch_look notes k word = record notes { looked = notes.looked ++ record { slot = k; word = word } ∷ [] }

abbrev pub noted_cancel : PostNotes → Cancel → PostNotes
noted_cancel notes x = record notes { cancels = notes.cancels ++ x ∷ [] }

-- after a try at the gate, an attach, from which so many places were kept, and a detach
abbrev pub noted_try : PostNotes → ℕ → Attempt → PostNotes
noted_try notes word tried = record notes { met = notes.met ++ word ∷ []; now = record notes.now { met = Some tried } }

abbrev pub noted_attach : {D : Type 0} → PostNotes → Offer D → ℕ → PostNotes
noted_attach notes o reserve = record notes { steps = notes.steps ++ Attach o.pid reserve ∷ [] }

abbrev pub noted_detach : {D : Type 0} → PostNotes → Offer D → PostNotes
noted_detach notes o = record notes { steps = notes.steps ++ Detach o.pid ∷ [] }

module _ {D : Type 0} where
  -- the child that a worker runs, if it runs one
  abbrev pub child_in : Work D → Option (Offer D)
  child_in Idle = None
  child_in (Sees word) = None
  child_in (Inactive o) = Some o
  child_in (Active o) = Some o
  child_in (Refused o g) = Some o
  child_in (Attached o g) = Some o

  -- the worker, with these notes
  abbrev pub with_notes : PostView D → PostNotes → PostView D
  with_notes w notes = post_view notes w.past w.work

  -- the worker, that does this now
  abbrev pub with_work : PostView D → Work D → PostView D
  with_work w work = post_view w.notes w.past work

  -- a child that got this answer to this word, and the notes of its worker, with so many places kept from it
  abbrev pub work_after : Offer D → ℕ → Result ℕ GateNo → Work D
  work_after o word (Ok g) = Attached o g
  work_after o word (Err refusal) = Refused o (generation_in word)

  abbrev pub notes_after : PostNotes → Offer D → ℕ → Result ℕ GateNo → PostNotes
  notes_after notes o reserve (Ok g) = noted_attach notes o reserve
  notes_after notes o reserve (Err refusal) = notes

  -- the worker of a child that has tried at the gate, met this word and got the answer of this attempt
  abbrev pub tried_by : PostView D → Offer D → ℕ → Attempt → PostView D
  tried_by w o word tried =
      post_view (notes_after (noted_try w.notes word tried) o (reserve_by tried.is_ordinary w.notes.session_limit) tried.answer) w.past
      (work_after o word tried.answer)

  abbrev pub tried : PostView D → Offer D → (is_ordinary : Bool) → ℕ → PostView D
  tried w o is_ordinary word = tried_by w o word (attempt is_ordinary (gate_answer o.kind is_ordinary w.notes.session_limit word))

  -- and that of one that has let go
  abbrev pub detached : PostView D → Offer D → PostView D
  detached w o = post_view (noted_detach w.notes o) w.past (Active o)

  -- the supervisor has made a step at the gate
  abbrev pub after_step : RosterView D → RosterStep → RosterView D
  after_step d s =
      record d {
        generation = (gate_after (gate_of d) s).generation;
        is_open = (gate_after (gate_of d) s).is_open;
        noticed = (gate_after (gate_of d) s).noticed;
        notes = record d.notes { steps = d.notes.steps ++ s ∷ [] };
      }

  -- a worker's seat, that knows this now
  abbrev pub reposted : View D → PostView D → View D
  reposted (Worker k w) w' = Worker k w'
  reposted (Postmaster d) w' = Postmaster d
  reposted Spent w' = Spent

abbrev pub Seated : Type 0 → Type 0 → Type 0
Seated J D = Me (Option J) (View D)

module _ {J D : Type 0} where
  -- the supervisor has armed the latch of an unused slot, and has its mail slot
  abbrev pub Arms : Step (Option J) → Seated J D → ℕ → Seated J D → Type 0
  Arms st m found n =
      (k pid : ℕ) → st.word ≡ latch_place (child_slots st.slots) k → st.first ≡ armed_word pid
      → n ≡ (Postmaster (with_sight (roster_of m.0) k (Opened pid)), (k, None) ∷ [])

  -- the worker sees an offer, or none
  abbrev pub Loads : Step (Option J) → Seated J D → ℕ → Seated J D → Type 0
  Loads st m found n =
      (stage_in found ≡ 1 → n ≡ (Worker st.word (post_view (noted_load (post_of m.0).notes found) (post_of m.0).past (Sees found)), []))
      × (stage_in found ≢ 1 → n ≡ (Worker st.word (post_view (noted_load (post_of m.0).notes found) (post_of m.0).past Idle), []))

  -- the supervisor sees that a child has exited, and how, or that it has not
  abbrev pub Looks : Step (Option J) → Seated J D → ℕ → Seated J D → Type 0
  Looks st m found n =
      (o : Offer D) → (slot_at (roster_of m.0) st.word).sight ≡ Assigned o
      → (stage_in found ≡ 3
      → (n ≡ (
        Postmaster (with_slot (roster_of m.0) st.word (exited_slot (slot_at (roster_of m.0) st.word) o (status_in found) (active_in found))
            (noted_look (roster_of m.0).notes found)),
        [],
      ))
      × (found ≡ child_word 3 o (status_in found) (active_in found)) × EndsWell o.kind (status_in found) (active_in found))
      × (stage_in found ≢ 3
      → n ≡ (
        Postmaster (with_slot (roster_of m.0) st.word (running_slot (slot_at (roster_of m.0) st.word) o (roster_of m.0).notes.last_connection)
            (noted_look (roster_of m.0).notes found)),
        [],
      ))

  -- the supervisor has given the mail slot back
  abbrev pub Clears : Step (Option J) → Seated J D → ℕ → Seated J D → Type 0
  Clears st m found n = n ≡ (Postmaster (with_sight (roster_of m.0) st.word Unused), [])

  -- what a gathered worker knew of its children is what the supervisor knows, and what they heard was sent to them
  abbrev pub Compares : Step (Option J) → Seated J D → ℕ → Seated J D → Type 0
  Compares st m found n =
      (n ≡ m)
      × ((xs : List (PastChild D)) (notes : PostNotes) → (slot_at (roster_of m.0) st.word).sight ≡ Gathered xs notes → xs ≡ (slot_at (roster_of m.0) st.word).past)
      × HeardAsSent (roster_of m.0)

  -- the worker's slot is active, or no longer
  abbrev pub Marks : Step (Option J) → Seated J D → ℕ → Seated J D → Type 0
  Marks st m found n =
      (o : Offer D) → (post_of m.0).work ≡ Inactive o → n ≡ (reposted m.0 (with_work (post_of m.0) (Active o)), m.1)

  abbrev pub Unmarks : Step (Option J) → Seated J D → ℕ → Seated J D → Type 0
  Unmarks st m found n =
      (o : Offer D) → (post_of m.0).work ≡ Active o → n ≡ (reposted m.0 (with_work (post_of m.0) (Inactive o)), m.1)

  -- the worker's child, an ordinary one or not, is attached where the word that it met allows it, and else refused
  abbrev pub Tries : (is_ordinary : Bool) → Step (Option J) → Seated J D → ℕ → Seated J D → Type 0
  Tries is_ordinary st m found n =
      (o : Offer D) → (post_of m.0).work ≡ Active o
      → (n ≡ (reposted m.0 (tried (post_of m.0) o is_ordinary found), m.1)) × (generation_in found < 4294967296) × (generation_in found ≡ o.generation)

  -- it has given back its place, as one that was refused or as one that was attached
  abbrev pub BacksOut : Step (Option J) → Seated J D → ℕ → Seated J D → Type 0
  BacksOut st m found n =
      (o : Offer D) (g : ℕ) → (post_of m.0).work ≡ Refused o g → n ≡ (reposted m.0 (with_work (post_of m.0) (Active o)), m.1)

  abbrev pub Detaches : Step (Option J) → Seated J D → ℕ → Seated J D → Type 0
  Detaches st m found n =
      (o : Offer D) (g : ℕ) → (post_of m.0).work ≡ Attached o g → n ≡ (reposted m.0 (detached (post_of m.0) o), m.1)

  -- the supervisor has given notice, opened the gate, or begun a generation
  abbrev pub Quits : Step (Option J) → Seated J D → ℕ → Seated J D → Type 0
  Quits st m found n =
      (why : Reason) → MayQuit (roster_of m.0).noticed why → st.first ≡ quit_step (roster_of m.0).noticed why
      → n ≡ (Postmaster (after_step (roster_of m.0) (Quit why (roster_of m.0).generation)), m.1)

  abbrev pub Readies : Step (Option J) → Seated J D → ℕ → Seated J D → Type 0
  Readies st m found n = n ≡ (Postmaster (after_step (roster_of m.0) (Ready (roster_of m.0).generation)), m.1)

  abbrev pub Resets : Step (Option J) → Seated J D → ℕ → Seated J D → Type 0
  Resets st m found n = n ≡ (Postmaster (after_step (roster_of m.0) (Reset ((roster_of m.0).generation + 1))), m.1)

  -- the supervisor has sent a signal to the child of a slot
  abbrev pub Sends : Step (Option J) → Seated J D → ℕ → Seated J D → Type 0
  Sends st m found n =
      (k : ℕ) (o : Offer D) (signal : Signal) → st.word ≡ latch_place (child_slots st.slots) k → (slot_at (roster_of m.0) k).sight ≡ Assigned o
      → st.first ≡ 2 ^ signal_number signal → n ≡ (Postmaster (after_step (roster_of m.0) (Send k o.pid o.kind signal o.generation)), m.1)

  -- the worker has taken the signals that stood for its child, and heeded the cancels of this pid
  abbrev pub Takes : Step (Option J) → Seated J D → ℕ → Seated J D → Type 0
  Takes st m found n = n ≡ (reposted m.0 (with_notes (post_of m.0) (noted_take (post_of m.0).notes found)), m.1)

  abbrev pub Heeds : Step (Option J) → Seated J D → ℕ → Seated J D → Type 0
  Heeds st m found n = n ≡ (reposted m.0 (with_notes (post_of m.0) (noted_heed (post_of m.0).notes st.first found)), m.1)

  -- it has looked at the latch of a slot
  abbrev pub LooksAtLatch : Step (Option J) → Seated J D → ℕ → Seated J D → Type 0
  LooksAtLatch st m found n =
      (k : ℕ) → st.word ≡ latch_place (child_slots st.slots) k
      → (n ≡ (reposted m.0 (with_notes (post_of m.0) (noted_latch_look (post_of m.0).notes k found)), m.1)) × (latch_pid found < 2147483648)

  -- it has made this cancel
  abbrev pub Cancels : Cancel → Step (Option J) → Seated J D → ℕ → Seated J D → Type 0
  Cancels x st m found n = n ≡ (reposted m.0 (with_notes (post_of m.0) (noted_cancel (post_of m.0).notes x)), m.1)

  module _ (letter : Letter.Ghosts J D) where
    -- the mail that the supervisor holds is offered, with the child that the word has
    abbrev pub Assigns : Step (Option J) → Seated J D → ℕ → Seated J D → Type 0
    Assigns st m found n =
        (j : J) (o : Offer D) → m.1 ≡ (st.word, Some j) ∷ [] → st.first ≡ offer_word o → o.generation ≡ (roster_of m.0).generation → o.given ≡ letter.told j
        → n ≡ (Postmaster (with_slot (roster_of m.0) st.word (assigned_slot (slot_at (roster_of m.0) st.word) o) (noted_assign (roster_of m.0).notes st.word o)), [])

    -- the worker has the mail
    abbrev pub Starts : Step (Option J) → Seated J D → ℕ → Seated J D → Type 0
    Starts st m found n =
        (word : ℕ) → (post_of m.0).work ≡ Sees word
        → (o : Offer D) × (j : J) × (word ≡ offer_word o) × (o.pid < 2147483648) × (letter.told j ≡ o.given)
        × (n ≡ (Worker st.word (post_view (noted_start (post_of m.0).notes) (post_of m.0).past (Inactive o)), (st.word, Some j) ∷ []))
        × letter.fits j o.kind

    -- the worker has ended its child, and given the mail back
    abbrev pub Ends : Step (Option J) → Seated J D → ℕ → Seated J D → Type 0
    Ends st m found n =
        (j : J) (o : Offer D) (status : Status) (active : Bool) → m.1 ≡ (st.word, Some j) ∷ [] → MayEnd (post_of m.0).work o active → st.first ≡ exit_step status
        → n ≡ (Worker st.word (post_view (noted_exit (post_of m.0).notes o) ((post_of m.0).past ++ past_child o status active (letter.told j) ∷ []) Idle), [])

    -- the supervisor has the mail of a child that had exited
    abbrev pub Releases : Step (Option J) → Seated J D → ℕ → Seated J D → Type 0
    Releases st m found n =
        (o : Offer D) (status : Status) (active : Bool) → (slot_at (roster_of m.0) st.word).sight ≡ Exited o status active
        → (found ≡ child_word 3 o status active) × (o.pid < 2147483648) × (status_number status < 256)
        × ((j : J) × (n ≡ (
          Postmaster (with_slot (roster_of m.0) st.word
              (slot_view ((slot_at (roster_of m.0) st.word).past ++ past_child o status active (letter.told j) ∷ []) (Collected o status active))
              (noted_release (roster_of m.0).notes o)),
          (st.word, Some j) ∷ [],
        )) × letter.comes_back j o.kind status active)
