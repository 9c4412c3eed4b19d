-- A call that is made, and the entries that stand before those of its acts.
use Rattle.std.{proofs.Common.{◌≡◌, ℕ, ◌+◌, ◌≤◌, Bool, true, false, ◌||◌, cond, List, [], ◌∷◌, ◌++◌, Some, None, refl, ap, sym, ◌∙◌, subst, arith}, specs.{Prelude.{Option, IfSome, IsSomeAnd, is_some, is_none}, Option.unwrap_or}}
use Rattle.pm_state.{specs.{pm_exit.declared.child.Kind.Kind, pm_modes.{declared.Mode.Mode, Strength.strengthen_of}, declared.{action.Action.Action, event.PmEvent.PmEvent}, Machine.{MachineEvent, Accepted, Exited, Asked, Ticked, Turned, step, IsReady, IsCounted}, Shows.{Call, Accepts, Asks, Ticks, TakesTurn, IsFit, machine_after, events_in}, Starts.{Owes, has_end, is_report}, Journal.{Replay, Do, EndRedo, AreLegal, all_replayed, replayed, replay_begun, dues, entry_of, entries_of, entries_of_call, all_reported, acts_of_call, settled, AsksSmart}, InStep.{IsInStep, IsTimely, KeepsStep, with_reports, server_state}, Laws.{StaysInStep, TellsOfEachStart, WritesALegalJournal, KeepsItsFacts}}, proofs.ReplayLaws.{legal_behind, legal_front}}
use Rattle.pm_state.specs.pm_modes.declared.Mode.TheVariants as mode
use Rattle.pm_supervisor.{specs.{declared.Limits.Limits, Children.child_of, Supervisor.Shared, Steps.{SupervisorEvent, Trace, IsRun, all_happened, empty_trace}, Laws.TakesChildStepsBetween}, proofs.RunLaws.{IsRun-append, all_happened-append}}
use Rattle.pm_state.specs.declared.action.Action.TheVariants as act
use Rattle.pm_state.specs.declared.event.PmEvent.TheVariants as entry
use Rattle.pm_supervisor_journal.{specs.{declared.exit.ChildExit.ChildExit, Standing.{Standing, IsAtRest, noted, nothing_done, called, later, made, ticking, turning, asking, accepting, all_noted, ends_redo, exit_call, exit_entry, exiting, next_pid, decision_on, killed, kill_entry, MayAsk, MayTake}, Stands.{Remembers, IsComing, Stands, HasPids, HasRun, IsSettled, any_moment, behind}, Roll.kind_in}, proofs.{Acting.{told-more, remembers-noted}, Pids.{unowed-before, pids-called, pids-asked, pids-accepted, pids-kept, tick-left, tick-asked, turn-left, turn-asked, asked-some, asked-none, asked-left, exit-left, exit-asked, may-end-startup}, Rolls.roll-pid, RollLaws.on-roll, NextsLaws.noted-due}}
use Rattle.pm_outside.{specs.Added.Added, proofs.AddedLaws.added_none}

abbrev replay_by : Limits → List PmEvent → Replay
replay_by limits journal = all_replayed (replay_begun limits) journal

-- where nothing is due, all are in step
pub rests : (limits : Limits) (s : Standing) (r : Replay) (h : Trace) → s.due ≡ [] → IsComing limits s r h → IsInStep limits (server_state r s.machine h)
rests limits s r h none coming =
    subst (λ d. IsInStep limits (server_state (all_replayed r (entries_of 0 s.called_at r (dues d))) (all_reported d s.machine) h)) none coming.in_step

-- and the machine takes a call
pub ready : TellsOfEachStart → (limits : Limits) (s : Standing) (r : Replay) (h : Trace) → IsAtRest s → IsComing limits s r h → IsReady s.machine
ready tells limits s r h rest coming =
    let owes : Owes [] s.machine = subst (λ d. Owes d s.machine) rest.none_due coming.owes in
    let none = tells.done s.machine owes in
    record {
      goes_on = sym coming.ended ∙ (ap (λ d. s.ended || has_end d) rest.none_due ∙ ap (λ b. b || false) rest.goes_on);
      startup_reported = none.startup;
      checkpointer_reported = none.checkpointer;
      writer_reported = none.writer;
    }

-- the number that redo kept is told by its own entry alone
entry-kept : (kept now : ℕ) (s : Shared) (a : Action) → entry_of kept now s (Do a) ≡ entry_of 0 now s (Do a)
entry-kept kept now s (act.Start k) = refl
entry-kept kept now s (act.Quit why) = refl
entry-kept kept now s act.Terminate = refl
entry-kept kept now s act.KillAll = refl
entry-kept kept now s act.AskCheckpoint = refl
entry-kept kept now s act.Ready = refl
entry-kept kept now s act.Reset = refl
entry-kept kept now s (act.Say line) = refl
entry-kept kept now s (act.End how) = refl

pub entries-kept : (kept now : ℕ) (r : Replay) (acts : List Action) → entries_of kept now r (dues acts) ≡ entries_of 0 now r (dues acts)
entries-kept kept now r [] = refl
entries-kept kept now r (a ∷ acts) =
    ap (λ e. e ∷ entries_of kept now (replayed r e) (dues acts)) (entry-kept kept now r.shown a)
    ∙ ap (λ es. entry_of 0 now r.shown (Do a) ∷ es) (entries-kept kept now (replayed r (entry_of 0 now r.shown (Do a))) acts)

-- a call was made, and these entries noted
pub record Makes (s t : Standing) (call : Call) (at : ℕ) : Type 0 where
  pub machine : t.machine ≡ machine_after s.machine call
  pub due : t.due ≡ acts_of_call s.machine call
  pub called_at : t.called_at ≡ at
  pub ended : t.ended ≡ s.ended

-- a run goes on
pub goes-on : (limits : Limits) (h : Trace) (more : List SupervisorEvent) → HasRun limits h → IsRun limits h more → HasRun limits (all_happened h more)
goes-on limits h more was run =
    record {
      events = was.events ++ more;
      run = IsRun-append limits empty_trace was.events more was.run (subst (λ t. IsRun limits t more) was.leaves run);
      leaves = ap (λ t. all_happened t more) was.leaves ∙ sym (all_happened-append empty_trace was.events more);
    }

pub stands-call : StaysInStep → WritesALegalJournal → (limits : Limits) (told now : Option (List PmEvent)) (s t : Standing) (h : Trace) (call : Call)
    (kept at : ℕ) (first : List PmEvent) (was : Stands limits told s h) → s.due ≡ []
    → IsFit limits s.machine h call → IsTimely any_moment (replay_by limits was.journal) s.machine call
    → entries_of_call kept (replay_by limits was.journal) s.machine call
    ≡ first ++ entries_of kept at (all_replayed (replay_by limits was.journal) first) (dues (acts_of_call s.machine call))
    → Makes s t call at → Owes t.due t.machine → (t.ended || has_end t.due) ≡ t.machine.ended
    → Remembers t (all_replayed (replay_by limits was.journal) first) → HasPids t → Added first told now
    → Stands limits now t (behind s.machine call h)
stands-call steps writes limits told now s t h call kept at first was none fit timely entries makes owes ended remembers pids adds =
    let r : Replay = replay_by limits was.journal in
    let r2 : Replay = all_replayed r first in
    let acts : List Action = acts_of_call s.machine call in
    let h2 : Trace = behind s.machine call h in
    let keeps : KeepsStep any_moment limits kept (server_state r s.machine h) call =
    steps.call any_moment limits kept (server_state r s.machine h) call (rests limits s r h none was.coming) fit timely in
    let all : entries_of_call kept r s.machine call ≡ first ++ entries_of 0 at r2 (dues acts) =
    entries ∙ ap (λ es. first ++ es) (entries-kept kept at r2 acts) in
    let legal : AreLegal any_moment r (first ++ entries_of 0 at r2 (dues acts)) = subst (λ es. AreLegal any_moment r es) all keeps.legal in
    let in_step : IsInStep limits (server_state (all_replayed r2 (entries_of 0 at r2 (dues acts))) (all_reported acts (machine_after s.machine call)) h2) =
    subst (λ x. IsInStep limits (server_state x (all_reported acts (machine_after s.machine call)) h2)) (writes.replays r first (entries_of 0 at r2 (dues acts)))
    (subst (λ es. IsInStep limits (server_state (all_replayed r es) (all_reported acts (machine_after s.machine call)) h2)) all keeps.in_step) in
    let left : all_replayed (replay_begun limits) (was.journal ++ first) ≡ r2 = writes.replays (replay_begun limits) was.journal first in
    record {
      journal = was.journal ++ first;
      told_is = told-more told now was.journal first was.told_is adds;
      legal = writes.append any_moment (replay_begun limits) was.journal first was.legal (legal_front any_moment r first (entries_of 0 at r2 (dues acts)) legal);
      remembers = subst (λ x. Remembers t x) (sym left) remembers;
      coming = subst (λ x. IsComing limits t x h2) (sym left) (record {
        legal = rw (makes.due, makes.called_at) (legal_behind any_moment r first (entries_of 0 at r2 (dues acts)) legal);
        in_step = rw (makes.due, makes.called_at, makes.machine) in_step;
        owes = owes;
        ended = ended;
      });
      past = goes-on limits h (events_in s.machine (with_reports (server_state r s.machine h) call)) was.past keeps.run;
      pids = pids;
    }

later-after : (at : ℕ) (s : Standing) → s.moment ≤ later at s
later-after at s = omega arith

as-called : (call : Call) (s : Standing) (r : Replay) → Remembers s r → Remembers (called call s) r
as-called call s r was =
    record { children = was.children; last_pid = was.last_pid; generation = was.generation; moment = was.moment; owes_smart = was.owes_smart }

-- the server knows that it has ended, once the acts are done
ends : TellsOfEachStart → (s : Standing) (event : MachineEvent) → IsReady s.machine → s.ended ≡ false → is_report event ≡ false
    → (s.ended || has_end (step s.machine event).acts) ≡ (step s.machine event).after.ended
ends tells s event on goes other = ap (λ b. b || has_end (step s.machine event).acts) goes ∙ tells.ends s.machine event other on

-- before the start
pub stands-begun : StaysInStep → (limits : Limits) (told : Option (List PmEvent)) → IfSome told (λ es. es ≡ [])
    → Stands limits told (nothing_done limits) empty_trace
stands-begun steps limits told none =
    record {
      journal = [];
      told_is = none;
      legal = tt;
      remembers = record { children = refl; last_pid = refl; generation = refl; moment = refl; owes_smart = refl };
      coming = record {
        legal = tt;
        in_step = steps.begins limits;
        owes = (refl, refl, refl, refl, refl, refl);
        ended = refl;
      };
      past = record { events = []; run = tt; leaves = refl };
      pids = record { owed = λ owes. absurd cc; not_asked = λ isnt owes. omega arith; few = λ isnt. omega arith; asked = λ some. absurd cc };
    }

-- time has passed
pub stands-ticked : StaysInStep → WritesALegalJournal → TellsOfEachStart → (limits : Limits) (told now : Option (List PmEvent)) (s t : Standing)
    (h : Trace) (at : ℕ) → IsAtRest s → s.owes_smart ≡ false → t ≡ made (ticking at s) s → now ≡ told → Stands limits told s h
    → Stands limits now t (behind s.machine (ticking at s).call h)
stands-ticked steps writes tells limits told now s t h at rest unowed is same was =
    let r : Replay = replay_by limits was.journal in
    let on = ready tells limits s r h rest was.coming in
    let then : ℕ = later at s in
    subst (λ x. Stands limits now x (behind s.machine (Ticks then) h)) (sym is)
    (stands-call steps writes limits told now s (made (ticking at s) s) h (Ticks then) 0 then [] was rest.none_due on
    (sym was.remembers.owes_smart ∙ unowed, (rw (← was.remembers.moment) (later-after at s), refl))
    refl (record { machine = refl; due = refl; called_at = refl; ended = refl })
    (tells.tells s.machine (Ticked then) refl on)
    (ends tells s (Ticked then) on rest.goes_on refl)
    (as-called (Ticks then) s r was.remembers)
    (pids-called s (made (ticking at s) s) was.pids rest.none_due unowed refl refl (tells.few s.machine (Ticked then))
    (λ some. ap is_some (tick-asked s.machine s.machine.abort_at then) ∙ some) (λ some. tick-left s.machine s.machine.abort_at then))
    (same ∙ added_none told))

closed : (asked : Option Mode) → is_some asked ≡ true → is_none asked ≡ false
closed None some = absurd cc
closed (Some asked) some = refl

-- the machine has done what it does by itself
pub stands-turned : StaysInStep → WritesALegalJournal → TellsOfEachStart → KeepsItsFacts → (limits : Limits) (told now : Option (List PmEvent))
    (s t : Standing) (h : Trace) → IsAtRest s → s.owes_smart ≡ false → t ≡ made turning s → now ≡ told → Stands limits told s h
    → Stands limits now t (behind s.machine TakesTurn h)
stands-turned steps writes tells facts limits told now s t h rest unowed is same was =
    let r : Replay = replay_by limits was.journal in
    let on = ready tells limits s r h rest was.coming in
    let step : IsInStep limits (server_state r s.machine h) = rests limits s r h rest.none_due was.coming in
    let known = facts.known limits s.machine h.now step.holds.facts in
    subst (λ x. Stands limits now x (behind s.machine TakesTurn h)) (sym is)
    (stands-call steps writes limits told now s (made turning s) h TakesTurn 0 0 [] was rest.none_due on
    (sym was.remembers.owes_smart ∙ unowed)
    refl (record { machine = refl; due = refl; called_at = refl; ended = refl })
    (tells.tells s.machine Turned refl on)
    (ends tells s Turned on rest.goes_on refl)
    (as-called TakesTurn s r was.remembers)
    (pids-called s (made turning s) was.pids rest.none_due unowed refl refl (tells.few s.machine Turned)
    (λ some. ap is_some (turn-asked s.machine) ∙ some) (λ some. turn-left s.machine (λ run. (known.in_run run).connections ∙ closed s.machine.shutdown some) some))
    (same ∙ added_none told))

may-ask : (asked : Mode) (s : Standing) (at : ℕ) → MayAsk asked s → s.owes_smart ≡ true → AsksSmart (entry.Asked asked at)
may-ask mode.Smart s at may owes = tt
may-ask mode.Fast s at may owes = absurd (let both : true ≡ false = sym owes ∙ may in cc)
may-ask mode.Immediate s at may owes = absurd (let both : true ≡ false = sym owes ∙ may in cc)

-- a shutdown was asked for
pub stands-asked : StaysInStep → WritesALegalJournal → TellsOfEachStart → (limits : Limits) (told now : Option (List PmEvent)) (s t : Standing)
    (h : Trace) (asked : Mode) (at : ℕ) → IsAtRest s → MayAsk asked s → t ≡ made (asking asked at s) s → Added (asking asked at s).entries told now
    → Stands limits told s h → Stands limits now t (behind s.machine (asking asked at s).call h)
stands-asked steps writes tells limits told now s t h asked at rest may is adds was =
    let r : Replay = replay_by limits was.journal in
    let on = ready tells limits s r h rest was.coming in
    let then : ℕ = later at s in
    let e : PmEvent = entry.Asked asked then in
    subst (λ x. Stands limits now x (behind s.machine (Asks asked then) h)) (sym is)
    (stands-call steps writes limits told now s (made (asking asked at s) s) h (Asks asked then) 0 then (e ∷ []) was rest.none_due on
    (λ owes. may-ask asked s then may (was.remembers.owes_smart ∙ owes), (rw (← was.remembers.moment) (later-after at s), refl))
    refl (record { machine = refl; due = refl; called_at = refl; ended = refl })
    (tells.tells s.machine (Asked asked then) refl on)
    (ends tells s (Asked asked then) on rest.goes_on refl)
    (remembers-noted (called (Asks asked then) s) r e tt (as-called (Asks asked then) s r was.remembers))
    (pids-asked s (made (asking asked at s) s) was.pids rest.none_due refl refl (asked-some s.machine asked then)
    (asked-none s.machine (strengthen_of s.machine.shutdown asked) then) (λ some. asked-left s.machine asked then some))
    adds)

-- a connection was accepted
pub stands-accepted : StaysInStep → WritesALegalJournal → TellsOfEachStart → (limits : Limits) (told now : Option (List PmEvent)) (s t : Standing)
    (h : Trace) → IsAtRest s → IsSettled s → MayTake s → t ≡ made (accepting s) s → Added (accepting s).entries told now
    → Stands limits told s h → Stands limits now t (behind s.machine (accepting s).call h)
stands-accepted steps writes tells limits told now s t h rest still may is adds was =
    let r : Replay = replay_by limits was.journal in
    let unowed : s.owes_smart ≡ false = unowed-before s was.pids may.pids in
    let on = ready tells limits s r h rest was.coming in
    let step : IsInStep limits (server_state r s.machine h) = rests limits s r h rest.none_due was.coming in
    let pid : ℕ = next_pid s in
    let call : Call = Accepts pid in
    let e : PmEvent = entry.Accepted pid (decision_on s) in
    subst (λ x. Stands limits now x (behind s.machine call h)) (sym is)
    (stands-call steps writes limits told now s (made (accepting s) s) h call 0 s.called_at (e ∷ []) was rest.none_due
    (may.machine, on, omega (arith, was.remembers.last_pid, ap (λ x. x.last_pid) step.shown))
    (sym was.remembers.owes_smart ∙ unowed, subst (λ d. settled (all_reported d s.machine) ≡ all_reported d s.machine) rest.none_due still, ap (λ n. n + 1) was.remembers.last_pid)
    refl (record { machine = refl; due = refl; called_at = refl; ended = refl })
    (tells.tells s.machine Accepted refl on)
    (ends tells s Accepted on rest.goes_on refl)
    (remembers-noted (called call s) r e tt (as-called call s r was.remembers))
    (pids-accepted s (made (accepting s) s) (decision_on s) was.pids rest.none_due unowed may.pids refl refl refl refl)
    adds)

-- a child is there for the supervisor too
there-now : TakesChildStepsBetween → (limits : Limits) (s : Standing) (r : Replay) (h : Trace) (pid : ℕ) (k : Kind)
    → Remembers s r → IsInStep limits (server_state r s.machine h) → kind_in pid s.children ≡ Some k
    → IsSomeAnd (child_of pid h.now.shared.children) (λ c. c.kind ≡ k)
there-now between limits s r h pid k was step is =
    between.was_there pid k h.now.shared.children
    (subst (λ x. IsSomeAnd (child_of pid x.children) (λ c. c.kind ≡ k)) step.shown
    (on-roll pid k r.shown.children (ap (kind_in pid) (sym was.children) ∙ is)))

-- so it is counted
pub counted-now : KeepsItsFacts → TakesChildStepsBetween → (limits : Limits) (told : Option (List PmEvent)) (s : Standing) (h : Trace) (pid : ℕ) (k : Kind)
    → s.due ≡ [] → Stands limits told s h → kind_in pid s.children ≡ Some k → IsCounted s.machine k
counted-now facts between limits told s h pid k none was is =
    let r : Replay = replay_by limits was.journal in
    let step : IsInStep limits (server_state r s.machine h) = rests limits s r h none was.coming in
    facts.counted limits s.machine h.now pid k step.holds.facts (there-now between limits s r h pid k was.remembers step is)

-- a child that is there is asked to be killed
pub stands-killed : StaysInStep → WritesALegalJournal → TellsOfEachStart → (limits : Limits) (told now : Option (List PmEvent)) (s t : Standing)
    (h : Trace) (pid : ℕ) → IsAtRest s → s.owes_smart ≡ false → is_some (kind_in pid s.children) ≡ true → t ≡ killed pid s
    → Added (kill_entry pid ∷ []) told now → Stands limits told s h → Stands limits now t h
stands-killed steps writes tells limits told now s t h pid rest unowed there is adds was =
    let r : Replay = replay_by limits was.journal in
    let on = ready tells limits s r h rest was.coming in
    let e : PmEvent = entry.KillAsked pid in
    let step : IsInStep limits (server_state r s.machine h) = rests limits s r h rest.none_due was.coming in
    let killed_now = steps.kill any_moment limits (server_state r s.machine h) pid step on.goes_on (sym was.remembers.owes_smart ∙ unowed)
    (roll-pid pid r.shown.children (ap (λ cs. is_some (kind_in pid cs)) (sym was.remembers.children) ∙ there)) in
    let left : all_replayed (replay_begun limits) (was.journal ++ e ∷ []) ≡ replayed r e = writes.replays (replay_begun limits) was.journal (e ∷ []) in
    subst (λ x. Stands limits now x h) (sym is)
    (record {
      journal = was.journal ++ e ∷ [];
      told_is = told-more told now was.journal (e ∷ []) was.told_is adds;
      legal = writes.append any_moment (replay_begun limits) was.journal (e ∷ []) was.legal (killed_now.0, tt);
      remembers = subst (λ x. Remembers (killed pid s) x) (sym left) (remembers-noted s r e tt was.remembers);
      coming = subst (λ x. IsComing limits (killed pid s) x h) (sym left) (record {
        legal = rw rest.none_due tt;
        in_step = rw rest.none_due killed_now.1;
        owes = was.coming.owes;
        ended = was.coming.ended;
      });
      past = was.past;
      pids = pids-kept s (killed pid s) refl refl refl refl was.pids;
    })

noted-machine : (es : List PmEvent) (s : Standing) → (all_noted es s).machine ≡ s.machine
noted-machine [] s = refl
noted-machine (e ∷ es) s = noted-machine es (noted e s)

pub noted-at : (es : List PmEvent) (s : Standing) → (all_noted es s).called_at ≡ s.called_at
noted-at [] s = refl
noted-at (e ∷ es) s = noted-at es (noted e s)

noted-ended : (es : List PmEvent) (s : Standing) → (all_noted es s).ended ≡ s.ended
noted-ended [] s = refl
noted-ended (e ∷ es) s = noted-ended es (noted e s)

-- the end of redo, where there is one
abbrev pub redo_if : Bool → ℕ → ℕ → List PmEvent
redo_if v generation kept = cond v (entry.RedoEnded generation kept ∷ []) []

redo-last : (v : Bool) (generation kept : ℕ) (s : Standing) → (all_noted (redo_if v generation kept) s).last_pid ≡ s.last_pid
redo-last true generation kept s = refl
redo-last false generation kept s = refl

redo-owes : (v : Bool) (generation kept : ℕ) (s : Standing) → (all_noted (redo_if v generation kept) s).owes_smart ≡ s.owes_smart
redo-owes true generation kept s = refl
redo-owes false generation kept s = refl

redo-remembers : (v : Bool) (generation kept : ℕ) (s : Standing) (r : Replay) → Remembers s r
    → Remembers (all_noted (redo_if v generation kept) s) (all_replayed r (redo_if v generation kept))
redo-remembers true generation kept s r was = remembers-noted s r (entry.RedoEnded generation kept) tt was
redo-remembers false generation kept s r was = was

-- the entries of the end of a child, where redo has ended or not
pub exit-entries : (v : Bool) (e : PmEvent) (kept now generation : ℕ) (r : Replay) (acts : List Action) → generation ≡ (replayed r e).shown.generation
    → e ∷ entries_of kept now (replayed r e) (cond v (EndRedo ∷ []) [] ++ dues acts)
    ≡ (e ∷ redo_if v generation kept) ++ entries_of kept now (all_replayed r (e ∷ redo_if v generation kept)) (dues acts)
exit-entries true e kept now generation r acts is = rw is refl
exit-entries false e kept now generation r acts is = refl

-- a child has ended
pub stands-exited : StaysInStep → WritesALegalJournal → TellsOfEachStart → KeepsItsFacts → TakesChildStepsBetween → (limits : Limits)
    (told now : Option (List PmEvent)) (s t : Standing) (h : Trace) (exit : ChildExit) (at : ℕ) → IsAtRest s → s.owes_smart ≡ false
    → kind_in exit.pid s.children ≡ Some exit.kind → t ≡ made (exiting exit at s) s → Added (exiting exit at s).entries told now
    → Stands limits told s h → Stands limits now t (behind s.machine (exiting exit at s).call h)
stands-exited steps writes tells facts between limits told now s t h exit at rest unowed there is adds was =
    let r : Replay = replay_by limits was.journal in
    let on = ready tells limits s r h rest was.coming in
    let step : IsInStep limits (server_state r s.machine h) = rests limits s r h rest.none_due was.coming in
    let then : ℕ = later at s in
    let kept : ℕ = unwrap_or exit.kept 0 in
    let call : Call = exit_call exit then in
    let event : MachineEvent = Exited exit.pid exit.kind exit.status exit.was_active then in
    let e : PmEvent = exit_entry exit then in
    let v : Bool = ends_redo exit in
    let redo : List PmEvent = redo_if v s.generation kept in
    let there_is = there-now between limits s r h exit.pid exit.kind was.remembers step there in
    let counted = facts.counted limits s.machine h.now exit.pid exit.kind step.holds.facts there_is in
    let known = facts.known limits s.machine h.now step.holds.facts in
    let same_due : (made (exiting exit at s) s).due ≡ acts_of_call s.machine call = noted-due redo (noted e (called call s)) in
    let same_machine : (made (exiting exit at s) s).machine ≡ machine_after s.machine call = noted-machine redo (noted e (called call s)) in
    let same_ended : (made (exiting exit at s) s).ended ≡ s.ended = noted-ended redo (noted e (called call s)) in
    subst (λ x. Stands limits now x (behind s.machine call h)) (sym is)
    (stands-call steps writes limits told now s (made (exiting exit at s) s) h call kept then (e ∷ redo) was rest.none_due
    (on, there_is)
    (sym was.remembers.owes_smart ∙ unowed, (rw (← was.remembers.moment) (later-after at s), refl))
    (exit-entries v e kept then s.generation r (acts_of_call s.machine call) was.remembers.generation)
    (record { machine = same_machine; due = same_due; called_at = noted-at redo (noted e (called call s)); ended = same_ended })
    (rw (same_due, same_machine) (tells.tells s.machine event refl on))
    (rw (same_due, same_machine, same_ended) (ends tells s event on rest.goes_on refl))
    (redo-remembers v s.generation kept (noted e (called call s)) (replayed r e) (remembers-noted (called call s) r e tt (as-called call s r was.remembers)))
    (pids-called s (made (exiting exit at s) s) was.pids rest.none_due unowed (redo-last v s.generation kept (noted e (called call s))) (redo-owes v s.generation kept (noted e (called call s)))
    (rw same_due (tells.few s.machine event))
    (λ some. rw same_machine (exit-asked exit.kind s.machine _ exit.was_active some))
    (λ some. rw (same_due, same_machine) (exit-left exit.kind s.machine _ exit.was_active (λ startup. may-end-startup s.machine h.now.shared known (subst (λ k. IsCounted s.machine k) startup counted)) some)))
    adds)
