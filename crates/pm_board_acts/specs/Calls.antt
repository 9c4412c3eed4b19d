-- The moves of a supervisor's calls.
use Rattle.std.specs.Prelude.{◌≡◌, ℕ, if◌then◌else◌, List, [], ◌∷◌, map, Option, None, Some, Result, Ok, Err, unwrap_or}
use Rattle.pm_board.specs.{pm_exit.{declared.child.{Kind.Kind, Status.Status}, Ends.is_exit_0}, pm_supervisor.{declared.Limits.Limits, Children.is_startup_child}, declared.roster.Released.Released}
use Rattle.pm_state.specs.{declared.{event.PmEvent.PmEvent, action.Action.Action}, pm_modes.declared.Mode.Mode}
use Rattle.pm_state.specs.declared.event.PmEvent.TheVariants as entry
use Rattle.pm_board.specs.pm_board_words.declared.views.Letter as Letter
use Rattle.pm_supervisor_journal.specs.{declared.{roll.Enrolled.Enrolled, act.{Act.Act, GenerationsSpent.GenerationsSpent}, exit.ChildExit.ChildExit}, Standing.{Making, Standing, entry_for, first_due, exiting, made, next_pid, decision_on}}
use Rattle.pm_board_acts.specs.{declared.desk.Looked.{Looked, TheVariants.{Nothing, Ended, ShortOfMemory}}, Sitting.{HasFoundNone, HasReaped, KeepsPast}, Acts.slot_of, Seating.{Move, Notes, Reads, PortEnds, PidsEnd, Stop}, Standing.{View, Goes, IsAt, IsEnding}}
use Rattle.pm_state.specs.declared.action.Action.TheVariants as action
use Rattle.pm_state.specs.pm_modes.declared.Mode.TheVariants as mode

-- these entries, of the child in this slot
abbrev pub notes_in : ℕ → List PmEvent → List Move
notes_in slot entries = map (λ e. Notes e slot) entries

-- the next connection is accepted for a child in this slot
abbrev pub accepts : ℕ → Standing → List Move
accepts slot s = Notes (entry.Accepted (next_pid s) (decision_on s)) slot ∷ []

-- the child in this slot has ended
abbrev pub exits : ℕ → ChildExit → ℕ → Standing → List Move
exits slot exit at s = notes_in slot (exiting exit at s).entries

-- of a startup child that ended with code 0 the number that it kept is told, which it has
abbrev pub kept_by : Kind → Status → Option ℕ → Option ℕ
kept_by kind status kept = if is_startup_child kind then (if is_exit_0 status then Some (unwrap_or kept 0) else None) else None

abbrev pub exit_of : {J : Type 0} → Option ℕ → Released J → ChildExit
exit_of kept released =
    record {
      pid = released.pid;
      kind = released.kind;
      status = released.status;
      was_active = released.was_active;
      kept = kept_by released.kind released.status kept;
    }

-- the steps of the roster are those of the moves so far, and final ones
abbrev pub EndsBehind : {D : Type 0} → View D → View D → Type 0
EndsBehind before now =
    (limits : Limits) (count : ℕ) (moves : List Move) → IsAt limits count moves before
    → IsEnding count moves now.board (record { seats = now.seats; generation = now.board.generation })

-- nothing more was noted
abbrev pub IsCutOff : {D : Type 0} → View D → View D → Type 0
IsCutOff before now = EndsBehind before now × (now.work ≡ before.work) × (now.board.notes.last_pid ≡ before.board.notes.last_pid)

module _ {J D : Type 0} (letter : Letter.Ghosts J D) (kept : J → Option ℕ) (slot at : ℕ) where
  -- A look at the slot: nobody sits there or the child still runs, and nothing was noted; its child has ended, and that was
  -- noted; or there was no memory to note it.
  abbrev pub HasLookedAt : Looked J → View D → View D → Type 0
  HasLookedAt Nothing before now =
      Goes [] before now × (now.work ≡ before.work) × KeepsPast before.board now.board × HasFoundNone slot before.board now.board
  HasLookedAt (Ended released) before now =
      (c : Enrolled) × HasReaped letter slot c released before.board now.board
      × Goes (exits slot (exit_of (kept released.job) released) at before.work.standing) before now
      × (now.work.standing ≡ made (exiting (exit_of (kept released.job) released) at before.work.standing) before.work.standing)
  HasLookedAt (ShortOfMemory released) before now =
      (c : Enrolled) × HasReaped letter slot c released before.board now.board × IsCutOff before now

-- the slot that an act's entry tells of
abbrev pub slot_for : Action → ℕ
slot_for (action.Start kind) = slot_of kind
slot_for _ = 0

-- nothing was noted, and nothing done
abbrev pub StandsStill : {D : Type 0} → View D → View D → Type 0
StandsStill before now =
    (now.work.standing ≡ before.work.standing) × (now.work.told ≡ before.work.told) × (now.board ≡ before.board)
    × (now.seats ≡ before.seats)

-- The first act that is due was noted and done; or none was due, or there is no further generation, and nothing was noted.
abbrev pub DoesNext : {D : Type 0} → Result (Option Act) GenerationsSpent → View D → View D → Type 0
DoesNext (Ok (Some a)) before now =
    (first : Action) × (first_due before.work.standing.due ≡ Some first)
    × Goes (Notes (entry_for first before.work.standing) (slot_for first) ∷ []) before now
DoesNext answer before now = StandsStill before now

-- A call was made that tells of no child: these moves more. Or there was no memory for it.
abbrev pub Makes : {T E D : Type 0} → Result T E → Making → List Move → View D → View D → Type 0
Makes (Ok done) making moves before now =
    Goes moves before now × (now.work.standing ≡ made making before.work.standing) × (now.board ≡ before.board)
    × (now.seats ≡ before.seats)
Makes (Err error) making moves before now = StandsStill before now

-- the move asks for such a shutdown, at this moment
abbrev pub AsksFor : Mode → ℕ → Move → Type 0
AsksFor how now (Reads line asks at) = (asks ≡ Stop how) × (at ≡ now)
AsksFor how now (PortEnds at) = (how ≡ mode.Smart) × (at ≡ now)
AsksFor how now (PidsEnd at) = (how ≡ mode.Smart) × (at ≡ now)
AsksFor how now (Notes noted slot) = ⊥
