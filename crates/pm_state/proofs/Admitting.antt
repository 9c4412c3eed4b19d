-- From an abnormal end of a child until redo has ended the machine isn't in Run, so that no connection is accepted as a session.
use Rattle.std.proofs.{Common.{◌≡◌, ◌≢◌, ◌⊎◌, inl, inr, ℕ, Bool, true, false, ◌||◌, List, [], ◌∷◌, refl, sym, ◌∙◌, subst, arith}, lemmas.Bool.false≢true}
use Rattle.pm_supervisor.specs.{pm_exit.{declared.child.{Status.Status, Kind.Kind}, Ends.is_exit_0}, pm_modes.declared.Mode.Mode, pm_admit.{declared.Cac.Cac, Admission.{decide_of, is_run}}, Supervisor.Shared, declared.Limits.Limits}
use Rattle.pm_supervisor.specs.pm_exit.declared.child.Kind.TheVariants as kind
use Rattle.pm_supervisor.specs.pm_admit.declared.Cac.TheVariants as cac
use Rattle.pm_state.{specs.{declared.{action.Action.Action, event.PmEvent.PmEvent, machine.Machine.Machine}, Exits.{startup_exited, crash_rule}, TurnRules.{backends_gone, children_gone, dead_ends_gone, end_smart, restart_writer, start_recovery, stop_backends}, Machine.{Accepted, Asked, Exited, Ticked, started_as, step, view_of}, Transition.Transition, Restarts.{AdmitsFrom, MayStand, is_abnormal, recovers_after}, Journal.{AreLegal, Do, Due, EndRedo, IsLegal, Replay, caused, entry_of, replay_begun, replayed, reported, row_of, settled}}, proofs.{Entries.{EntryCases, by-entry}, Journal.is_kill, TurnJournal.{IsFirst, is-first}}}
use Rattle.pm_state.specs.declared.action.Action.TheVariants as act
use Rattle.pm_state.specs.declared.event.PmEvent.TheVariants as entry

-- the machine goes on to run by the end of redo alone

settled-rests : (m : Machine) → is_run m.state ≡ false → is_run (settled m).state ≡ false
unfolding settled backends_gone dead_ends_gone
settled-rests m rests = grind arith

row-rests : (m : Machine) → is_run m.state ≡ false → is_run (row_of m).after.state ≡ false
unfolding row_of start_recovery restart_writer end_smart stop_backends backends_gone dead_ends_gone children_gone
row-rests m rests = grind arith

accepted-rests : (m : Machine) → is_run m.state ≡ false → is_run (step m Accepted).after.state ≡ false
accepted-rests m rests = grind arith

asked-rests : (m : Machine) (mode : Mode) (now : ℕ) → is_run m.state ≡ false → is_run (step m (Asked mode now)).after.state ≡ false
asked-rests m mode now rests = grind arith

ticked-rests : (m : Machine) (now : ℕ) → is_run m.state ≡ false → is_run (step m (Ticked now)).after.state ≡ false
ticked-rests m now rests = grind arith

started-rests : (m : Machine) (k : Kind) → is_run m.state ≡ false → is_run (started_as k m).state ≡ false
started-rests m k rests = grind arith

admits-none : (m : Machine) → is_run m.state ≡ false → decide_of (view_of m) ≢ cac.Ok
admits-none m rests is = grind arith

-- a startup child whose redo hasn't ended
startup-rests : (m : Machine) (pid : ℕ) (s : Status) (was_active : Bool) (now : ℕ) → is_exit_0 s ≡ false
    → is_run (step m (Exited pid kind.Startup s was_active now)).after.state ≡ false
unfolding startup_exited crash_rule
startup-rests m pid s was_active now failed = grind arith

-- any other child, where the machine isn't in Run
exited-rests : (m : Machine) (pid : ℕ) (k : Kind) (s : Status) (was_active : Bool) (now : ℕ) → k ≢ kind.Startup → is_run m.state ≡ false
    → is_run (step m (Exited pid k s was_active now)).after.state ≡ false
unfolding crash_rule
exited-rests m pid k s was_active now other rests = grind arith

-- or where it ended abnormally
abnormal-rests : (m : Machine) (pid : ℕ) (k : Kind) (s : Status) (was_active : Bool) (now : ℕ) → k ≢ kind.Startup → is_abnormal k was_active s ≡ true
    → is_run (step m (Exited pid k s was_active now)).after.state ≡ false
unfolding crash_rule
abnormal-rests m pid k s was_active now other abnormal = grind arith

-- along a journal

-- the end of redo is due first
abbrev IsEndOfRedoDue : List Due → Type 0
IsEndOfRedoDue (EndRedo ∷ ds) = Unit {0}
IsEndOfRedoDue _ = ⊥

-- meanwhile the machine isn't in Run, unless redo's end is to be noted next
abbrev Rests : Bool → Machine → List Due → Type 0
Rests recovers m due = recovers ≡ true → (is_run m.state ≡ false) ⊎ IsEndOfRedoDue due

abbrev OneMore : Replay → PmEvent → Type 0
OneMore r e =
    (recovers : Bool) → Rests recovers r.machine r.due
    → MayStand recovers e × Rests (recovers_after recovers e) (replayed r e).machine (replayed r e).due

-- where nothing is due and the machine isn't in Run, it isn't in Run after the entry either
still : (recovers : Bool) (r : Replay) → r.due ≡ [] → Rests recovers r.machine r.due → recovers ≡ true → is_run r.machine.state ≡ false
still recovers r none rests is = by (subst (λ (ds : List Due). (is_run r.machine.state ≡ false) ⊎ IsEndOfRedoDue ds) none (rests is)) where
  by : (is_run r.machine.state ≡ false) ⊎ IsEndOfRedoDue [] → is_run r.machine.state ≡ false
  by (inl calm) = calm
  by (inr due) = absurd due

reported-rests : (e : PmEvent) (m : Machine) → is_run m.state ≡ false → is_run (reported e m).state ≡ false
reported-rests (entry.Started pid k) m rests = started-rests m k rests
reported-rests e m rests = rests

-- what is left after an entry, where nothing was due
rested : (r : Replay) (e : PmEvent) → r.due ≡ [] → is_run (caused r.machine e).after.state ≡ false → is_run (replayed r e).machine.state ≡ false
rested r e none calm = rw none (settled-rests (reported e (caused r.machine e).after) (reported-rests e (caused r.machine e).after calm))

either : (a b : Bool) → a || b ≡ true → (a ≡ true) ⊎ (b ≡ true)
either true b is = inl refl
either false b is = inr is

accepted-stands : (recovers : Bool) (r : Replay) (pid : ℕ) (decision : Cac) → decision ≡ decide_of (view_of r.machine) → r.due ≡ []
    → Rests recovers r.machine r.due → MayStand recovers (entry.Accepted pid decision)
accepted-stands recovers r pid decision is none rests = λ again ok. admits-none r.machine (still recovers r none rests again) (sym is ∙ ok)

startup-more : (r : Replay) (pid : ℕ) (status : Status) (a : Bool) (at : ℕ) (b : Bool) → is_exit_0 status ≡ b → r.due ≡ []
    → (is_run (replayed r (entry.Exited pid kind.Startup status a at)).machine.state ≡ false) ⊎ IsEndOfRedoDue (replayed r (entry.Exited pid kind.Startup status a at)).due
startup-more r pid status a at true is none = inr (rw (none, is) tt)
startup-more r pid status a at false is none =
    inl (rested r (entry.Exited pid kind.Startup status a at) none (startup-rests r.machine pid status a at is))

other-more : (recovers : Bool) (r : Replay) (pid : ℕ) (k : Kind) (status : Status) (a : Bool) (at : ℕ) → k ≢ kind.Startup → r.due ≡ []
    → Rests recovers r.machine r.due → recovers || is_abnormal k a status ≡ true
    → (is_run (replayed r (entry.Exited pid k status a at)).machine.state ≡ false) ⊎ IsEndOfRedoDue (replayed r (entry.Exited pid k status a at)).due
other-more recovers r pid k status a at other none rests is =
    elim (either recovers (is_abnormal k a status) is) as
    (λ _. (is_run (replayed r (entry.Exited pid k status a at)).machine.state ≡ false) ⊎ IsEndOfRedoDue (replayed r (entry.Exited pid k status a at)).due) [
      | inl before ↦ inl (rested r (entry.Exited pid k status a at) none (exited-rests r.machine pid k status a at other (still recovers r none rests before)))
      | inr abnormal ↦ inl (rested r (entry.Exited pid k status a at) none (abnormal-rests r.machine pid k status a at other abnormal))
    ]

exited-rests-by : (recovers : Bool) (r : Replay) (pid : ℕ) (k : Kind) (status : Status) (a : Bool) (at : ℕ) → r.due ≡ [] → Rests recovers r.machine r.due
    → Rests (recovers || is_abnormal k a status) (replayed r (entry.Exited pid k status a at)).machine (replayed r (entry.Exited pid k status a at)).due
exited-rests-by recovers r pid kind.Startup status a at none rests is = startup-more r pid status a at (is_exit_0 status) refl none
exited-rests-by recovers r pid kind.Checkpointer status a at none rests is = other-more recovers r pid kind.Checkpointer status a at (λ same. cc) none rests is
exited-rests-by recovers r pid kind.Writer status a at none rests is = other-more recovers r pid kind.Writer status a at (λ same. cc) none rests is
exited-rests-by recovers r pid kind.Worker status a at none rests is = other-more recovers r pid kind.Worker status a at (λ same. cc) none rests is
exited-rests-by recovers r pid kind.Backend status a at none rests is = other-more recovers r pid kind.Backend status a at (λ same. cc) none rests is
exited-rests-by recovers r pid kind.DeadEnd status a at none rests is = other-more recovers r pid kind.DeadEnd status a at (λ same. cc) none rests is

-- an act neither accepts a connection nor ends a crash's wait
record IsCalm (recovers : Bool) (e : PmEvent) : Type 0 where
  stands : MayStand recovers e
  same : recovers_after recovers e ≡ recovers

act-stands : (recovers : Bool) (n : ℕ) (s : Shared) (a : Action) → IsCalm recovers (entry_of n 0 s (Do a))
act-stands recovers n s (act.Start k) = record { stands = tt; same = refl }
act-stands recovers n s (act.Quit why) = record { stands = tt; same = refl }
act-stands recovers n s act.Terminate = record { stands = tt; same = refl }
act-stands recovers n s act.KillAll = record { stands = tt; same = refl }
act-stands recovers n s act.AskCheckpoint = record { stands = tt; same = refl }
act-stands recovers n s act.Ready = record { stands = tt; same = refl }
act-stands recovers n s act.Reset = record { stands = tt; same = refl }
act-stands recovers n s (act.Say line) = record { stands = tt; same = refl }
act-stands recovers n s (act.End how) = record { stands = tt; same = refl }

first-more : (gives : ℕ → Bool) (r : Replay) (a : Action) (rest : List Action) (n : ℕ) → is_kill (Do a) ≡ false → (row_of r.machine).acts ≡ a ∷ rest
    → r.due ≡ [] → OneMore r (entry_of n 0 r.shown (Do a))
first-more gives r a rest n other is none = λ recovers rests.
    (let e : PmEvent = entry_of n 0 r.shown (Do a) in
    let calm : IsCalm recovers e = act-stands recovers n r.shown a in
    let first : IsFirst gives r (row_of r.machine) a rest e = is-first gives n 0 r a rest other is in (
      calm.stands,
      λ again. inl (rested r e none
          (subst (λ (o : Transition). is_run o.after.state ≡ false) (sym first.cause)
          (row-rests r.machine (still recovers r none rests (sym calm.same ∙ again))))),
    ))

-- an act that is due, and isn't the end of redo
due-rests : (a : Action) (ds : List Due) (m : Machine) (e : PmEvent) → (is_run m.state ≡ false) ⊎ IsEndOfRedoDue (Do a ∷ ds)
    → (is_run (settled (reported e m)).state ≡ false) ⊎ IsEndOfRedoDue ds
due-rests a ds m e (inl rests) = inl (settled-rests (reported e m) (reported-rests e m rests))
due-rests a ds m e (inr due) = absurd due

due-more : (r : Replay) (d : Due) (ds : List Due) (n : ℕ) → r.due ≡ d ∷ ds → OneMore r (entry_of n 0 r.shown d)
due-more r (Do a) ds n is = λ recovers rests.
    (let e : PmEvent = entry_of n 0 r.shown (Do a) in
    let calm : IsCalm recovers e = act-stands recovers n r.shown a in (
      calm.stands,
      λ again. rw is (due-rests a ds r.machine e
          (subst (λ (due : List Due). (is_run r.machine.state ≡ false) ⊎ IsEndOfRedoDue due) is (rests (sym calm.same ∙ again)))),
    ))
due-more r EndRedo ds n is = λ recovers rests. (tt, λ again. absurd (false≢true again))

more : (gives : ℕ → Bool) → EntryCases gives OneMore
more gives =
    record {
      accepted = λ r pid decision none may is recovers rests. (
        accepted-stands recovers r pid decision is none rests,
        λ again. inl (rested r (entry.Accepted pid decision) none (accepted-rests r.machine (still recovers r none rests again))),
      );
      exited = λ r pid k status a at none on there recovers rests.
          (tt, exited-rests-by recovers r pid k status a at none rests);
      asked = λ r mode at none on recovers rests. (
        tt,
        λ again. inl (rested r (entry.Asked mode at) none (asked-rests r.machine mode at (still recovers r none rests again))),
      );
      kill_asked = λ r pid none recovers rests.
          (tt, λ again. inl (rested r (entry.KillAsked pid) none (still recovers r none rests again)));
      kill_sent = λ r at none on recovers rests. (
        tt,
        λ again. inl (rested r (entry.KillSent at) none (ticked-rests r.machine at (still recovers r none rests again))),
      );
      first = λ r a rest n none on other is. first-more gives r a rest n other is none;
      due = λ r d ds n is other. due-more r d ds n is;
    }

admits-from : (gives : ℕ → Bool) (r : Replay) (recovers : Bool) (journal : List PmEvent) → AreLegal gives r journal → Rests recovers r.machine r.due
    → AdmitsFrom recovers journal
admits-from gives r recovers [] legal rests = tt
admits-from gives r recovers (e ∷ journal) legal rests =
    let one = by-entry gives OneMore (more gives) r e legal.0 recovers rests in
    (one.0, admits-from gives (replayed r e) (recovers_after recovers e) journal legal.1 one.1)

pub admits-none-until-redo : (limits : Limits) (gives : ℕ → Bool) (journal : List PmEvent) → IsLegal limits gives journal → AdmitsFrom false journal
admits-none-until-redo limits gives journal legal = admits-from gives (replay_begun limits) false journal legal (λ is. absurd (false≢true is))
