-- A smart shutdown is owed after the last pid: what calls and acts of the machine leave of that, and what they ask for.
use Rattle.std.{proofs.{Common.{◌≡◌, ℕ, ◌<◌, ◌≤◌, List, [], ◌∷◌, refl, sym, ap, subst, ◌∙◌, arith}, Math.Bool.or-true}, specs.Prelude.{Bool, true, false, ◌==◌, ◌||◌, not, if◌then◌else◌, Option, None, Some, unwrap_or}}
use Rattle.pm_board_acts.specs.{pm_admit.declared.Cac.Cac, pm_exit.declared.child.Kind.Kind, Calls.{exits, notes_in, slot_for}, Seating.{Kill, Notes, asked_by, is_seated}, Standing.SitBelow, pm_state.{declared.{action.Action.Action, event.PmEvent.PmEvent, machine.Machine.Machine}, Journal.without_first, Machine.{accepted_as, started_as}, Starts.{Owes, has_end}}}
use Rattle.pm_board_acts.specs.pm_admit.declared.Cac.TheVariants as decisions
use Rattle.pm_supervisor_journal.{proofs.NextsLaws.first_is, specs.{declared.{exit.ChildExit.ChildExit, roll.Enrolled.Enrolled}, Standing.{Standing, accepting, all_noted, called, decision_on, done, ends_redo, entry_for, exit_call, exit_entry, exiting, first_due, later, made}}}
use Rattle.pm_board_acts.specs.pm_exit.declared.child.Kind.TheVariants as kinds
use Rattle.pm_board_acts.specs.pm_state.declared.action.Action.TheVariants as action
use Rattle.pm_board_acts.specs.pm_state.declared.event.PmEvent.TheVariants as entry
use Rattle.pm_postmaster.proofs.Asked.{AsksNone, OwesOn, owes_drawn, owes_kept, owes_none}

-- ---- what is asked for

pub acts_ask_none : (a : Action) (s : Standing) → AsksNone (Notes (entry_for a s) (slot_for a) ∷ [])
acts_ask_none (action.Start kind) s = record { read = (tt, tt); alone = (tt, tt); lines_are = refl; ends_are = refl; pids_are = refl }
acts_ask_none (action.Quit why) s = record { read = (tt, tt); alone = (tt, tt); lines_are = refl; ends_are = refl; pids_are = refl }
acts_ask_none action.Terminate s = record { read = (tt, tt); alone = (tt, tt); lines_are = refl; ends_are = refl; pids_are = refl }
acts_ask_none action.KillAll s = record { read = (tt, tt); alone = (tt, tt); lines_are = refl; ends_are = refl; pids_are = refl }
acts_ask_none action.AskCheckpoint s = record { read = (tt, tt); alone = (tt, tt); lines_are = refl; ends_are = refl; pids_are = refl }
acts_ask_none action.Ready s = record { read = (tt, tt); alone = (tt, tt); lines_are = refl; ends_are = refl; pids_are = refl }
acts_ask_none action.Reset s = record { read = (tt, tt); alone = (tt, tt); lines_are = refl; ends_are = refl; pids_are = refl }
acts_ask_none (action.Say line) s = record { read = (tt, tt); alone = (tt, tt); lines_are = refl; ends_are = refl; pids_are = refl }
acts_ask_none (action.End how) s = record { read = (tt, tt); alone = (tt, tt); lines_are = refl; ends_are = refl; pids_are = refl }

abbrev exit_entries : (b : Bool) → ChildExit → ℕ → Standing → List PmEvent
exit_entries b exit at s = exit_entry exit at ∷ (if b then entry.RedoEnded s.generation (unwrap_or exit.kept 0) ∷ [] else [])

pub exits_ask_none : (k at : ℕ) (exit : ChildExit) (s : Standing) → AsksNone (exits k exit at s)
exits_ask_none k at exit s = by (ends_redo exit)
  where
    by : (b : Bool) → AsksNone (notes_in k (exit_entries b exit (later at s) s))
    by true = record { read = (tt, (tt, tt)); alone = (tt, (tt, tt)); lines_are = refl; ends_are = refl; pids_are = refl }
    by false = record { read = (tt, tt); alone = (tt, tt); lines_are = refl; ends_are = refl; pids_are = refl }

-- who sits has a pid below
pub none_seated : (pid last : ℕ) (seats : List (Option Enrolled)) → SitBelow last seats → last < pid → is_seated pid seats ≡ false
none_seated pid last [] below far = refl
none_seated pid last (None ∷ seats) below far = none_seated pid last seats below.1 far
none_seated pid last (Some c ∷ seats) below far =
    ap (λ (b : Bool). if b then true else is_seated pid seats) (other c.pid below.0) ∙ none_seated pid last seats below.1 far
  where
    other : (p : ℕ) → p ≤ last → (p == pid) ≡ false
    other p low = grind (arith, low, far)

-- and nobody is killed who doesn't sit
pub none_killed : (pid at last : ℕ) (seats : List (Option Enrolled)) → SitBelow last seats → last < pid → asked_by (Kill pid) at seats ≡ []
none_killed pid at last seats below far = ap (λ (b : Bool). if b then entry.KillAsked pid ∷ [] else []) (none_seated pid last seats below far)

-- ---- what is owed

accepted_goes : (decision : Cac) (m : Machine) → m.ended ≡ false → (accepted_as decision m).ended ≡ false
accepted_goes decisions.Ok m goes = goes
accepted_goes decisions.Startup m goes = goes
accepted_goes decisions.Recovery m goes = goes
accepted_goes decisions.Shutdown m goes = goes
accepted_goes decisions.TooMany m goes = goes

-- a connection is accepted
pub owes_accepted : (s t : Standing) → t ≡ made (accepting s) s → s.machine.ended ≡ false → OwesOn 0 s t
owes_accepted s t is goes = subst (λ (x : Standing). OwesOn 0 s x) (sym is)
    (owes_drawn s (made (accepting s) s) refl refl (record { goes_on = accepted_goes (decision_on s) s.machine goes; someone = λ none. absurd (cc) }))

-- a child has ended
pub owes_exited : (s t : Standing) (exit : ChildExit) (at : ℕ) → t ≡ made (exiting exit at s) s → s.owes_smart ≡ false → OwesOn 0 s t
owes_exited s t exit at is unowed = subst (λ (x : Standing). OwesOn 0 s x) (sym is) (by (ends_redo exit))
  where
    by : (b : Bool) → OwesOn 0 s (all_noted (exit_entries b exit (later at s) s) (called (exit_call exit (later at s)) s))
    by true = owes_none s _ unowed unowed refl
    by false = owes_none s _ unowed unowed refl

started_goes : (k : Kind) (m : Machine) → m.ended ≡ false → (started_as k m).ended ≡ false
started_goes kinds.Startup m goes = goes
started_goes kinds.Checkpointer m goes = goes
started_goes kinds.Writer m goes = goes
started_goes kinds.Worker m goes = goes
started_goes kinds.Backend m goes = goes
started_goes kinds.DeadEnd m goes = goes

-- where a child is to be started the machine goes on
start_goes : (k : Kind) (rest : List Action) (m : Machine) → Owes (action.Start k ∷ rest) m → m.ended ≡ false
start_goes k rest m owes = by m.ended owes.5
  where
    by : (b : Bool) → (not true || not b) ≡ true → b ≡ false
    by true is = absurd (cc)
    by false is = refl

-- where the end is due it has ended
pub end_due : (ended : Bool) (acts : List Action) (m : Machine) → (ended || has_end acts) ≡ m.ended → has_end acts ≡ true → m.ended ≡ true
end_due ended acts m is due = sym is ∙ (ap (λ (b : Bool). ended || b) due ∙ or-true ended)

-- an act is done
pub owes_acted : (a : Action) (s t : Standing) → t ≡ done a s → first_due s.due ≡ Some a → Owes s.due s.machine → OwesOn 0 s t
owes_acted a s t is first owes = subst (λ (x : Standing). OwesOn 0 s x) (sym is) (by a first)
  where
    by : (x : Action) → first_due s.due ≡ Some x → OwesOn 0 s (done x s)
    by (action.Start k) due =
        let goes = start_goes k (without_first s.due) s.machine (subst (λ (acts : List Action). Owes acts s.machine) (first_is s.due (action.Start k) due) owes) in
        owes_drawn s (done (action.Start k) s) refl refl (record { goes_on = started_goes k s.machine goes; someone = λ none. absurd (cc) })
    by (action.Quit why) due = owes_kept s _ refl refl (λ may. record { goes_on = may.goes_on; someone = may.someone })
    by action.Terminate due = owes_kept s _ refl refl (λ may. record { goes_on = may.goes_on; someone = may.someone })
    by action.KillAll due = owes_kept s _ refl refl (λ may. record { goes_on = may.goes_on; someone = may.someone })
    by action.AskCheckpoint due = owes_kept s _ refl refl (λ may. record { goes_on = may.goes_on; someone = may.someone })
    by action.Ready due = owes_kept s _ refl refl (λ may. record { goes_on = may.goes_on; someone = may.someone })
    by action.Reset due = owes_kept s _ refl refl (λ may. record { goes_on = may.goes_on; someone = may.someone })
    by (action.Say line) due = owes_kept s _ refl refl (λ may. record { goes_on = may.goes_on; someone = may.someone })
    by (action.End how) due = owes_kept s _ refl refl (λ may. record { goes_on = may.goes_on; someone = may.someone })
