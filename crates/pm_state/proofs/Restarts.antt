-- Along a legal journal the machine counts the children that are there, and a next generation begins with none of them.
use Rattle.std.{proofs.{Common.{◌≡◌, ◌⊎◌, inl, inr, ℕ, ◌+◌, Bool, true, false, not, ◌&&◌, ◌||◌, cond, List, [], ◌∷◌, refl, arith, sym, ◌∙◌, ap, subst}, lemmas.Bool.not-true}, specs.Prelude.{◌==◌, if◌then◌else◌, nat_eq, IsSomeAnd, Option, Some, None, is_none, is_some}}
use Rattle.pm_supervisor.{specs.{pm_exit.{declared.child.{Status.Status, Kind.Kind}, Ends.is_exit_0}, pm_modes.{declared.Mode.Mode, Strength.{is_immediate, strengthen_of}}, pm_admit.{declared.{PmState.PmState, Cac.Cac}, Admission.decide_of}, declared.{Ending.Ending, Limits.Limits}, Children.{Child, child_of, is_startup_child, without}, Supervisor.Shared, Steps.{kind_for, shared_after}}, proofs.RunLaws.redo-children}
use Rattle.pm_supervisor.specs.pm_exit.declared.child.Kind.TheVariants as kind
use Rattle.pm_supervisor.specs.pm_modes.declared.Mode.TheVariants as mode
use Rattle.pm_supervisor.specs.pm_admit.declared.PmState.TheVariants as state
use Rattle.pm_supervisor.specs.declared.Ending.TheVariants as ending
use Rattle.pm_supervisor.specs.Steps as supervisor
use Rattle.pm_state.{specs.{declared.{action.Action.Action, event.PmEvent.PmEvent, machine.{Machine.Machine, Exit.Exit}}, Exits.{crash_rule, exited_by, less_one, startup_exited}, Facts.NothingDue, Machine.{Exited, Asked, IsReady, MayAccept, accepted_as, started_as, view_of}, Requests.{asked_with, ticked_at}, Restarts.{AreAsSet, BeginsAlone, BeginsFrom, Counts, IsAsSet, there_after, without_pid}, Starts.Owes, Transition.{Transition, transition}, TurnRules.{are_backends_gone, start_recovery, restart_writer, end_smart, stop_backends, backends_gone, dead_ends_gone, children_gone}, Journal.{AreLegal, Do, Due, EndRedo, IsLegal, Replay, all_replayed, caused, dues_after, entry_of, replay_begun, replayed, reported, row_of, settled, shown_after}}, proofs.{ReplayLaws.{acts_behind_redo, acts_in, acts_in_dues, reopens}, Counting.{Tied, accepted-tied, asked-tied, begun-tied, by-exit, by-test, exited-tied, row-tied, settled-does, settled-tied, started-tied, ticked-tied, tied-counts}, Entries.{EntryCases, by-entry}, Exits.less, Journal.is_kill, Reports.{all-done, due-first, owes-later, step-owes}, TurnCases.is_no_children, TurnJournal.{IsFirst, is-first}, ChildLaws.nobody}}
use Rattle.pm_state.specs.declared.action.Action.TheVariants as act
use Rattle.pm_state.specs.declared.action.Line.TheVariants as line
use Rattle.pm_state.specs.declared.event.PmEvent.TheVariants as entry

-- a reset among the acts is done where nobody is there, before any start
abbrev ResetsAlone : List Action → List Child → Type 0
ResetsAlone [] cs = Unit {0}
ResetsAlone (act.Reset ∷ acts) cs = (cs ≡ []) × ResetsAlone acts cs
ResetsAlone (act.Start k ∷ acts) cs = (others : List Child) → ResetsAlone acts others
ResetsAlone (_ ∷ acts) cs = ResetsAlone acts cs

-- the acts are those that the options ask for
abbrev are_set : Bool → List Action → Bool
are_set restarts [] = true
are_set restarts (act.Reset ∷ acts) = restarts && are_set restarts acts
are_set restarts (act.End ending.RestartOff ∷ acts) = not restarts && are_set restarts acts
are_set restarts (_ ∷ acts) = are_set restarts acts

-- neither a reset nor an end for want of a restart is among the acts
abbrev are_mild : List Action → Bool
are_mild [] = true
are_mild (act.Reset ∷ acts) = false
are_mild (act.End ending.RestartOff ∷ acts) = false
are_mild (_ ∷ acts) = are_mild acts

-- so they ask for nothing against the options, and for no reset
mild-kept : (restarts : Bool) (acts : List Action) (cs : List Child) → are_mild acts ≡ true → ResetsAlone acts cs × (are_set restarts acts ≡ true)
mild-kept restarts [] cs mild = (tt, refl)
mild-kept restarts (act.Start k ∷ acts) cs mild = (λ others. (mild-kept restarts acts others mild).0, (mild-kept restarts acts cs mild).1)
mild-kept restarts (act.Quit why ∷ acts) cs mild = mild-kept restarts acts cs mild
mild-kept restarts (act.Terminate ∷ acts) cs mild = mild-kept restarts acts cs mild
mild-kept restarts (act.KillAll ∷ acts) cs mild = mild-kept restarts acts cs mild
mild-kept restarts (act.AskCheckpoint ∷ acts) cs mild = mild-kept restarts acts cs mild
mild-kept restarts (act.Ready ∷ acts) cs mild = mild-kept restarts acts cs mild
mild-kept restarts (act.Reset ∷ acts) cs mild = absurd cc
mild-kept restarts (act.Say l ∷ acts) cs mild = mild-kept restarts acts cs mild
mild-kept restarts (act.End ending.Clean ∷ acts) cs mild = mild-kept restarts acts cs mild
mild-kept restarts (act.End ending.AfterCrash ∷ acts) cs mild = mild-kept restarts acts cs mild
mild-kept restarts (act.End ending.StartupFailed ∷ acts) cs mild = mild-kept restarts acts cs mild
mild-kept restarts (act.End ending.RestartOff ∷ acts) cs mild = absurd cc

abbrev pids_of : List Child → List ℕ
pids_of [] = []
pids_of (c ∷ cs) = c.pid ∷ pids_of cs

pids-without : (pid : ℕ) (cs : List Child) → pids_of (without pid cs) ≡ without_pid pid (pids_of cs)
pids-without pid [] = refl
pids-without pid (c ∷ cs) =
    elim (nat_eq c.pid pid) as
    (λ v. pids_of (cond v cs (c ∷ without pid cs)) ≡ cond v (pids_of cs) (c.pid ∷ without_pid pid (pids_of cs))) [
      | true ↦ refl
      | false ↦ ap (λ (ps : List ℕ). c.pid ∷ ps) (pids-without pid cs)
    ]

-- machine, children, pids and what is due, as entries of a legal journal leave them
record IsKept (limits : Limits) (acts : List Action) (m : Machine) (s : Shared) (there : List ℕ) : Type 0 where
  tied : Tied m s.children
  owes : Owes acts m
  limits_are : m.limits ≡ limits
  there_are : there ≡ pids_of s.children
  alone : ResetsAlone acts s.children
  set : are_set limits.restart_after_crash acts ≡ true

abbrev Kept : Limits → Replay → List ℕ → Type 0
Kept limits r there = IsKept limits (acts_in r.due) r.machine r.shown there

-- moves that leave no entry

-- what is due, the end and the limits are the same
abbrev SameDue : Machine → Machine → Type 0
SameDue m n =
    (n.startup_due ≡ m.startup_due) × (n.checkpointer_due ≡ m.checkpointer_due) × (n.writer_due ≡ m.writer_due) × (n.ended ≡ m.ended)
    × (n.limits ≡ m.limits)

settled-flags : (m : Machine) → SameDue m (settled m)
settled-flags m =
    elim (settled-does m) as (λ _. SameDue m (settled m)) [
      | inl same ↦ rw same (refl, refl, refl, refl, refl)
      | inr (inl clears) ↦ rw clears.0 (refl, refl, refl, refl, refl)
      | inr (inr gone) ↦ rw gone.0 (refl, refl, refl, refl, refl)
    ]

settled-kept : (limits : Limits) (acts : List Action) (m : Machine) (s : Shared) (there : List ℕ) → IsKept limits acts m s there → IsKept limits acts (settled m) s there
settled-kept limits acts m s there kept =
    let same = settled-flags m in
    record {
      tied = settled-tied m s.children kept.tied;
      owes = rw (same.0, same.1, same.2, same.3) kept.owes;
      limits_are = same.4 ∙ kept.limits_are;
      there_are = kept.there_are;
      alone = kept.alone;
      set = kept.set;
    }

-- an act that is due is done

started-limits : (k : Kind) (m : Machine) → (started_as k m).limits ≡ m.limits
started-limits k m = grind arith

and-left : (a b : Bool) → a && b ≡ true → a ≡ true
and-left true b is = refl
and-left false b is = is

and-right : (a b : Bool) → a && b ≡ true → b ≡ true
and-right true b is = is
and-right false b is = absurd cc

abbrev Left : Limits → ℕ → Action → List Action → Machine → Machine → Shared → List ℕ → Type 0
Left limits n a acts now m s there =
    let e : PmEvent = entry_of n 0 s (Do a) in
    BeginsAlone there e × IsAsSet limits e × IsKept limits acts (reported e m) (shown_after now s e) (there_after there e)

-- an act that changes neither machine nor children
calm : (limits : Limits) (a : Action) (acts : List Action) (m : Machine) (s t : Shared) (there : List ℕ) → IsKept limits (a ∷ acts) m s there
    → t.children ≡ s.children → Owes acts m → ResetsAlone acts s.children → are_set limits.restart_after_crash acts ≡ true → IsKept limits acts m t there
calm limits a acts m s t there kept same owes alone set =
    record {
      tied = rw same kept.tied;
      owes = owes;
      limits_are = kept.limits_are;
      there_are = rw same kept.there_are;
      alone = rw same alone;
      set = set;
    }

end-kept : (limits : Limits) (n : ℕ) (how : Ending) (acts : List Action) (now m : Machine) (s : Shared) (there : List ℕ) → IsKept limits (act.End how ∷ acts) m s there
    → Left limits n (act.End how) acts now m s there
end-kept limits n ending.Clean acts now m s there kept = (tt, tt, calm limits (act.End ending.Clean) acts m s s there kept refl kept.owes kept.alone kept.set)
end-kept limits n ending.AfterCrash acts now m s there kept = (tt, tt, calm limits (act.End ending.AfterCrash) acts m s s there kept refl kept.owes kept.alone kept.set)
end-kept limits n ending.StartupFailed acts now m s there kept = (tt, tt, calm limits (act.End ending.StartupFailed) acts m s s there kept refl kept.owes kept.alone kept.set)
end-kept limits n ending.RestartOff acts now m s there kept =
    let restarts : Bool = limits.restart_after_crash in (
      tt,
      not-true restarts (and-left (not restarts) (are_set restarts acts) kept.set),
      calm limits (act.End ending.RestartOff) acts m s s there kept refl kept.owes kept.alone (and-right (not restarts) (are_set restarts acts) kept.set),
    )

act-kept : (limits : Limits) (n : ℕ) (a : Action) (acts : List Action) (now m : Machine) (s : Shared) (there : List ℕ) → IsKept limits (a ∷ acts) m s there
    → Left limits n a acts now m s there
act-kept limits n (act.Start k) acts now m s there kept = (
  tt,
  tt,
  record {
    tied = started-tied m k (record { pid = s.last_pid + 1; kind = k; generation = s.generation; attached = false }) s.children refl (due-first k acts m kept.owes) kept.tied;
    owes = owes-later k acts m kept.owes;
    limits_are = started-limits k m ∙ kept.limits_are;
    there_are = ap (λ (ps : List ℕ). (s.last_pid + 1) ∷ ps) kept.there_are;
    alone = kept.alone (record { pid = s.last_pid + 1; kind = k; generation = s.generation; attached = false } ∷ s.children);
    set = kept.set;
  },
)
act-kept limits n (act.Quit why) acts now m s there kept = (tt, tt, calm limits (act.Quit why) acts m s (record s { noticed = Some why }) there kept refl kept.owes kept.alone kept.set)
act-kept limits n act.Terminate acts now m s there kept = (tt, tt, calm limits act.Terminate acts m s s there kept refl kept.owes kept.alone kept.set)
act-kept limits n act.KillAll acts now m s there kept = (tt, tt, calm limits act.KillAll acts m s s there kept refl kept.owes kept.alone kept.set)
act-kept limits n act.AskCheckpoint acts now m s there kept = (tt, tt, calm limits act.AskCheckpoint acts m s s there kept refl kept.owes kept.alone kept.set)
act-kept limits n act.Ready acts now m s there kept = (tt, tt, calm limits act.Ready acts m s s there kept refl kept.owes kept.alone kept.set)
act-kept limits n act.Reset acts now m s there kept =
    let restarts : Bool = limits.restart_after_crash in (
      kept.there_are ∙ ap pids_of kept.alone.0,
      and-left restarts (are_set restarts acts) kept.set,
      calm limits act.Reset acts m s (shared_after s supervisor.Reset) there kept refl kept.owes kept.alone.1 (and-right restarts (are_set restarts acts) kept.set),
    )
act-kept limits n (act.Say l) acts now m s there kept = (tt, tt, calm limits (act.Say l) acts m s s there kept refl kept.owes kept.alone kept.set)
act-kept limits n (act.End how) acts now m s there kept = end-kept limits n how acts now m s there kept

-- what a row of a turn asks for

row-limits : (m : Machine) → (row_of m).after.limits ≡ m.limits
unfolding row_of start_recovery restart_writer end_smart stop_backends backends_gone dead_ends_gone children_gone
row-limits m = grind arith

row-set : (m : Machine) → are_set m.limits.restart_after_crash (row_of m).acts ≡ true
unfolding row_of start_recovery restart_writer end_smart stop_backends backends_gone dead_ends_gone children_gone
row-set m = grind arith

owes-none : (m : Machine) → NothingDue m → Owes [] m
owes-none m none = (rw none.startup refl, rw none.checkpointer refl, rw none.writer refl, refl, refl, refl)

owes-startup : (m : Machine) → m.ended ≡ false → NothingDue m → Owes (act.Start kind.Startup ∷ []) (record m { startup_due = true })
owes-startup m on none = (refl, rw none.checkpointer refl, rw none.writer refl, refl, refl, rw on refl)

owes-writer : (m : Machine) → m.ended ≡ false → NothingDue m → Owes (act.Start kind.Writer ∷ []) (record m { writer_due = true })
owes-writer m on none = (rw none.startup refl, rw none.checkpointer refl, refl, refl, refl, rw on refl)

owes-checkpointer : (m : Machine) → m.ended ≡ false → NothingDue m → Owes (act.Start kind.Checkpointer ∷ []) (record m { checkpointer_due = true })
owes-checkpointer m on none = (rw none.startup refl, refl, rw none.writer refl, refl, refl, rw on refl)

abbrev OwesAll : Transition → Type 0
OwesAll o = Owes o.acts o.after

row-owes-in : (p : PmState) (m : Machine) → m.ended ≡ false → NothingDue m → OwesAll (row_of (record m { state = p }))
unfolding row_of start_recovery restart_writer end_smart stop_backends backends_gone children_gone
row-owes-in state.Init m on none = owes-startup m on none
row-owes-in state.Startup m on none = owes-none m none
row-owes-in state.Run m on none =
    let n : Machine = record m { state = state.Run } in
    by-test OwesAll m.conns (restart_writer n) (stop_backends (end_smart n).after)
    (λ is. by-test OwesAll (m.conns && not m.writer) (transition (act.Start kind.Writer ∷ []) (record n { writer_due = true })) (transition [] n)
    (λ is. owes-writer m on none) (λ is. owes-none m none))
    (λ off. elim (not m.conns && (m.children == 0)) as
    (λ v. OwesAll (stop_backends (if v then transition [] (record n { state = state.StopBackends }) else transition [] n).after)) [
      | true ↦ owes-none m none
      | false ↦ owes-none m none
    ])
row-owes-in state.StopBackends m on none = owes-none m none
row-owes-in state.WaitBackends m on none =
    by-test OwesAll (not (are_backends_gone (record m { state = state.WaitBackends }))) _ _ (λ is. owes-none m none)
    (λ gone. by-test OwesAll (m.fatal || is_immediate m.shutdown) _ _
    (λ is. by-test OwesAll m.checkpointer _ _ (λ is. owes-none m none) (λ is. owes-none m none))
    (λ is. by-test OwesAll m.checkpointer _ _ (λ is. owes-none m none) (λ is. owes-checkpointer m on none)))
row-owes-in state.Shutdown m on none = owes-none m none
row-owes-in state.WaitDeadEnd m on none = owes-none m none
row-owes-in state.NoChildren m on none =
    by-test OwesAll (is_some m.shutdown && m.fatal) _ _ (λ is. owes-none m none)
    (λ is. by-test OwesAll (is_some m.shutdown) _ _ (λ is. owes-none m none)
    (λ is. by-test OwesAll (not m.limits.restart_after_crash) _ _ (λ is. owes-none m none) (λ is. owes-startup m on none)))

row-owes : (m : Machine) → m.ended ≡ false → NothingDue m → Owes (row_of m).acts (row_of m).after
row-owes m on none = row-owes-in m.state m on none

row-resets : (m : Machine) → ((are_mild (row_of m).acts ≡ true) ⊎ ((row_of m).acts ≡ act.Say line.RestartOff ∷ act.End ending.RestartOff ∷ []))
    ⊎ ((is_no_children m.state ≡ true) × ((row_of m).acts ≡ act.Say line.Reinitializing ∷ act.Reset ∷ act.Start kind.Startup ∷ []))
unfolding row_of start_recovery restart_writer end_smart stop_backends backends_gone dead_ends_gone children_gone
row-resets m = grind arith

-- where no child is counted, nobody is there
tied-nobody : (m : Machine) (cs : List Child) → is_no_children m.state ≡ true → Tied m cs → cs ≡ []
tied-nobody m cs is tied =
    nobody cs (grind (arith, tied.sessions, tied.nobody)) (grind (arith, tied.dead_ends, tied.nobody)) (grind (arith, tied.startup, tied.nobody))
    (grind (arith, tied.checkpointer, tied.nobody)) (grind (arith, tied.writer, tied.nobody))

row-alone : (m : Machine) (cs : List Child) → Tied m cs → ResetsAlone (row_of m).acts cs
row-alone m cs tied =
    elim (row-resets m) as (λ _. ResetsAlone (row_of m).acts cs) [
      | inl (inl mild) ↦ (mild-kept true (row_of m).acts cs mild).0
      | inl (inr off) ↦ rw off tt
      | inr is ↦ rw is.1 (tied-nobody m cs is.0 tied, λ others. tt)
    ]

row-kept : (limits : Limits) (m : Machine) (s : Shared) (there : List ℕ) → m.ended ≡ false → IsKept limits [] m s there
    → IsKept limits (row_of m).acts (row_of m).after s there
row-kept limits m s there on kept =
    record {
      tied = row-tied m s.children (all-done m kept.owes) kept.tied;
      owes = row-owes m on (all-done m kept.owes);
      limits_are = row-limits m ∙ kept.limits_are;
      there_are = kept.there_are;
      alone = row-alone m s.children kept.tied;
      set = subst (λ (l : Limits). are_set l.restart_after_crash (row_of m).acts ≡ true) kept.limits_are (row-set m);
    }

-- the end of a child, and a request

less-limits : (k : Kind) (m : Machine) → (less_one k m).limits ≡ m.limits
less-limits k m = grind arith

crash-mild : (m : Machine) (exit : Exit) → are_mild (crash_rule m exit).acts ≡ true
unfolding crash_rule
crash-mild m exit = grind arith

crash-limits : (m : Machine) (exit : Exit) → (crash_rule m exit).after.limits ≡ m.limits
unfolding crash_rule
crash-limits m exit = refl

startup-mild : (m : Machine) (exit : Exit) → are_mild (startup_exited m exit).acts ≡ true
unfolding startup_exited crash_rule
startup-mild m exit = grind arith

startup-limits : (m : Machine) (exit : Exit) → (startup_exited m exit).after.limits ≡ m.limits
unfolding startup_exited crash_rule
startup-limits m exit = grind arith

exited-mild : (k : Kind) (m : Machine) (exit : Exit) (a : Bool) → are_mild (exited_by k m exit a).acts ≡ true
exited-mild k m exit a =
    by-exit (λ (o : Transition). are_mild o.acts ≡ true) k m exit a
    (record { startup = λ is. startup-mild m exit; crash = crash-mild (less_one k m) exit; normal = refl; written = refl })

exited-limits : (k : Kind) (m : Machine) (exit : Exit) (a : Bool) → (exited_by k m exit a).after.limits ≡ m.limits
exited-limits k m exit a =
    by-exit (λ (o : Transition). o.after.limits ≡ m.limits) k m exit a
    (record {
      startup = λ is. startup-limits m exit;
      crash = crash-limits (less_one k m) exit ∙ less-limits k m;
      normal = less-limits k m;
      written = less-limits k m;
    })

asked-mild : (m : Machine) (answer : Option Mode) (now : ℕ) → are_mild (asked_with answer m now).acts ≡ true
asked-mild m None now = refl
asked-mild m (Some mode.Smart) now = grind arith
asked-mild m (Some mode.Fast) now = grind arith
asked-mild m (Some mode.Immediate) now = grind arith

asked-limits : (m : Machine) (answer : Option Mode) (now : ℕ) → (asked_with answer m now).after.limits ≡ m.limits
asked-limits m None now = refl
asked-limits m (Some mode.Smart) now = grind arith
asked-limits m (Some mode.Fast) now = grind arith
asked-limits m (Some mode.Immediate) now = grind arith

ticked-same : (m : Machine) (now : ℕ) → ((ticked_at m.abort_at m now).after.limits ≡ m.limits) × ((ticked_at m.abort_at m now).after.ended ≡ m.ended)
    × ((ticked_at m.abort_at m now).after.startup_due ≡ m.startup_due) × ((ticked_at m.abort_at m now).after.checkpointer_due ≡ m.checkpointer_due)
    × ((ticked_at m.abort_at m now).after.writer_due ≡ m.writer_due)
ticked-same m now = grind arith

accepted-same : (decision : Cac) (m : Machine) → ((accepted_as decision m).limits ≡ m.limits) × ((accepted_as decision m).ended ≡ m.ended)
    × ((accepted_as decision m).startup_due ≡ m.startup_due) × ((accepted_as decision m).checkpointer_due ≡ m.checkpointer_due)
    × ((accepted_as decision m).writer_due ≡ m.writer_due)
accepted-same decision m = grind arith

-- one entry more

abbrev OneMore : Limits → Replay → PmEvent → Type 0
OneMore limits r e = (there : List ℕ) → Kept limits r there → BeginsAlone there e × IsAsSet limits e × Kept limits (replayed r e) (there_after there e)

ready : (limits : Limits) (m : Machine) (s : Shared) (there : List ℕ) → m.ended ≡ false → IsKept limits [] m s there → IsReady m
ready limits m s there on kept =
    let none : NothingDue m = all-done m kept.owes in
    record { goes_on = on; startup_reported = none.startup; checkpointer_reported = none.checkpointer; writer_reported = none.writer }

at-rest : (limits : Limits) (r : Replay) (there : List ℕ) → r.due ≡ [] → Kept limits r there → IsKept limits [] r.machine r.shown there
at-rest limits r there none kept = subst (λ (ds : List Due). IsKept limits (acts_in ds) r.machine r.shown there) none kept

-- what is left after an entry, where nothing was due
rested : (limits : Limits) (r : Replay) (e : PmEvent) (acts : List Action) (there : List ℕ) → r.due ≡ [] → acts_in (dues_after r.machine e) ≡ acts
    → IsKept limits acts (reported e (caused r.machine e).after) (shown_after r.machine r.shown e) there → Kept limits (replayed r e) there
rested limits r e acts there none is kept =
    rw (none, is) (settled-kept limits acts (reported e (caused r.machine e).after) (shown_after r.machine r.shown e) there kept)

accepted-more : (limits : Limits) (r : Replay) (pid : ℕ) (decision : Cac) → MayAccept r.machine → decision ≡ decide_of (view_of r.machine)
    → r.due ≡ [] → OneMore limits r (entry.Accepted pid decision)
accepted-more limits r pid decision may is none = λ there was. (
  tt,
  tt,
  (let kept : IsKept limits [] r.machine r.shown there = at-rest limits r there none was in
      let same = accepted-same decision r.machine in
      rested limits r (entry.Accepted pid decision) [] (pid ∷ there) none refl
      (rw (← is) (record {
        tied = accepted-tied r.machine decision
            (record { pid = pid; kind = kind_for decision; generation = r.shown.generation; attached = false }) r.shown.children refl may kept.tied;
        owes = rw (same.2, same.3, same.4) kept.owes;
        limits_are = same.0 ∙ kept.limits_are;
        there_are = ap (λ (ps : List ℕ). pid ∷ ps) kept.there_are;
        alone = tt;
        set = refl;
      }))),
)

exited-more : (limits : Limits) (r : Replay) (pid : ℕ) (k : Kind) (status : Status) (a : Bool) (at : ℕ) → r.machine.ended ≡ false
    → IsSomeAnd (child_of pid r.shown.children) (λ c. c.kind ≡ k) → r.due ≡ [] → OneMore limits r (entry.Exited pid k status a at)
exited-more limits r pid k status a at on there_is none = λ there was. (
  tt,
  tt,
  (let kept : IsKept limits [] r.machine r.shown there = at-rest limits r there none was in
      let m : Machine = r.machine in
      let exit : Exit = record { pid = pid; kind = k; status = status; now = at } in
      let acts : List Action = (exited_by k m exit a).acts in
      rested limits r (entry.Exited pid k status a at) acts (without_pid pid there) none (acts_behind_redo (is_startup_child k && is_exit_0 status) acts)
      (record {
        tied = exited-tied k m exit a r.shown.children (without pid r.shown.children) (less k pid r.shown.children there_is) (all-done m kept.owes) kept.tied;
        owes = step-owes m (Exited pid k status a at) refl (ready limits m r.shown there on kept);
        limits_are = exited-limits k m exit a ∙ kept.limits_are;
        there_are = ap (without_pid pid) kept.there_are ∙ sym (pids-without pid r.shown.children);
        alone = (mild-kept limits.restart_after_crash acts (without pid r.shown.children) (exited-mild k m exit a)).0;
        set = (mild-kept limits.restart_after_crash acts (without pid r.shown.children) (exited-mild k m exit a)).1;
      })),
)

asked-more : (limits : Limits) (r : Replay) (mode : Mode) (at : ℕ) → r.machine.ended ≡ false → r.due ≡ [] → OneMore limits r (entry.Asked mode at)
asked-more limits r mode at on none = λ there was. (
  tt,
  tt,
  (let kept : IsKept limits [] r.machine r.shown there = at-rest limits r there none was in
      let m : Machine = r.machine in
      let answer : Option Mode = strengthen_of m.shutdown mode in
      let acts : List Action = (asked_with answer m at).acts in
      rested limits r (entry.Asked mode at) acts there none (acts_in_dues acts)
      (record {
        tied = asked-tied m answer at r.shown.children (all-done m kept.owes) kept.tied;
        owes = step-owes m (Asked mode at) refl (ready limits m r.shown there on kept);
        limits_are = asked-limits m answer at ∙ kept.limits_are;
        there_are = kept.there_are;
        alone = (mild-kept limits.restart_after_crash acts r.shown.children (asked-mild m answer at)).0;
        set = (mild-kept limits.restart_after_crash acts r.shown.children (asked-mild m answer at)).1;
      })),
)

kill_asked-more : (limits : Limits) (r : Replay) (pid : ℕ) → r.due ≡ [] → OneMore limits r (entry.KillAsked pid)
kill_asked-more limits r pid none = λ there was.
    (tt, tt, rested limits r (entry.KillAsked pid) [] there none refl (at-rest limits r there none was))

kill_sent-more : (limits : Limits) (r : Replay) (at : ℕ) → r.due ≡ [] → OneMore limits r (entry.KillSent at)
kill_sent-more limits r at none = λ there was. (
  tt,
  tt,
  (let kept : IsKept limits [] r.machine r.shown there = at-rest limits r there none was in
      let same = ticked-same r.machine at in
      rested limits r (entry.KillSent at) [] there none refl
      (record {
        tied = ticked-tied r.machine at r.shown.children kept.tied;
        owes = rw (same.2, same.3, same.4) kept.owes;
        limits_are = same.0 ∙ kept.limits_are;
        there_are = kept.there_are;
        alone = tt;
        set = refl;
      })),
)

first-more : (gives : ℕ → Bool) (limits : Limits) (r : Replay) (a : Action) (rest : List Action) (n : ℕ) → r.machine.ended ≡ false → is_kill (Do a) ≡ false
    → (row_of r.machine).acts ≡ a ∷ rest → r.due ≡ [] → OneMore limits r (entry_of n 0 r.shown (Do a))
first-more gives limits r a rest n on other is none = λ there was.
    (let kept : IsKept limits [] r.machine r.shown there = at-rest limits r there none was in
    let m : Machine = r.machine in
    let e : PmEvent = entry_of n 0 r.shown (Do a) in
    let first : IsFirst gives r (row_of m) a rest e = is-first gives n 0 r a rest other is in
    let behind : IsKept limits (a ∷ rest) (row_of m).after r.shown there =
    subst (λ (acts : List Action). IsKept limits acts (row_of m).after r.shown there) is (row-kept limits m r.shown there on kept) in
    let left : Left limits n a rest m (row_of m).after r.shown there = act-kept limits n a rest m (row_of m).after r.shown there behind in (
      left.0,
      left.1,
      rested limits r e rest (there_after there e) none (ap acts_in first.due ∙ acts_in_dues rest)
          (subst (λ (o : Transition). IsKept limits rest (reported e o.after) (shown_after m r.shown e) (there_after there e)) (sym first.cause) left.2),
    ))

due-more : (limits : Limits) (r : Replay) (d : Due) (ds : List Due) (n : ℕ) → r.due ≡ d ∷ ds → OneMore limits r (entry_of n 0 r.shown d)
due-more limits r (Do a) ds n is = λ there was.
    (let kept : IsKept limits (a ∷ acts_in ds) r.machine r.shown there = subst (λ (due : List Due). IsKept limits (acts_in due) r.machine r.shown there) is was in
    let left : Left limits n a (acts_in ds) r.machine r.machine r.shown there = act-kept limits n a (acts_in ds) r.machine r.machine r.shown there kept in
    let e : PmEvent = entry_of n 0 r.shown (Do a) in
    (left.0, left.1, rw is (settled-kept limits (acts_in ds) (reported e r.machine) (shown_after r.machine r.shown e) (there_after there e) left.2)))
due-more limits r EndRedo ds n is = λ there was.
    (let kept : IsKept limits (acts_in ds) r.machine r.shown there = subst (λ (due : List Due). IsKept limits (acts_in due) r.machine r.shown there) is was in
    let e : PmEvent = entry.RedoEnded r.shown.generation n in
    let opens : Bool = is_none r.machine.shutdown in
    let same = ap (λ (s : Shared). s.children) (reopens opens r.shown) ∙ redo-children opens r.shown in (
      tt,
      tt,
      rw is (settled-kept limits (acts_in ds) r.machine (shown_after r.machine r.shown e) there (record {
        tied = rw same kept.tied;
        owes = kept.owes;
        limits_are = kept.limits_are;
        there_are = rw same kept.there_are;
        alone = rw same kept.alone;
        set = kept.set;
      })),
    ))

more : (gives : ℕ → Bool) (limits : Limits) → EntryCases gives (OneMore limits)
more gives limits =
    record {
      accepted = λ r pid decision none may is. accepted-more limits r pid decision may is none;
      exited = λ r pid k status a at none on there_is. exited-more limits r pid k status a at on there_is none;
      asked = λ r mode at none on. asked-more limits r mode at on none;
      kill_asked = kill_asked-more limits;
      kill_sent = λ r at none on. kill_sent-more limits r at none;
      first = λ r a rest n none on other is. first-more gives limits r a rest n on other is none;
      due = λ r d ds n is other. due-more limits r d ds n is;
    }

-- a whole journal

record Goes (limits : Limits) (r : Replay) (there : List ℕ) (journal : List PmEvent) : Type 0 where
  begins : BeginsFrom there journal
  set : AreAsSet limits journal
  counts : Counts (all_replayed r journal).machine (all_replayed r journal).shown.children

goes : (gives : ℕ → Bool) (limits : Limits) (r : Replay) (there : List ℕ) (journal : List PmEvent) → AreLegal gives r journal → Kept limits r there
    → Goes limits r there journal
goes gives limits r there [] legal kept = record { begins = tt; set = tt; counts = tied-counts r.machine r.shown.children kept.tied }
goes gives limits r there (e ∷ journal) legal kept =
    let one = by-entry gives (OneMore limits) (more gives limits) r e legal.0 there kept in
    let rest : Goes limits (replayed r e) (there_after there e) journal = goes gives limits (replayed r e) (there_after there e) journal legal.1 one.2 in
    record { begins = (one.0, rest.begins); set = (one.1, rest.set); counts = rest.counts }

begun-kept : (limits : Limits) → Kept limits (replay_begun limits) []
begun-kept limits =
    record { tied = begun-tied limits; owes = (refl, refl, refl, refl, refl, refl); limits_are = refl; there_are = refl; alone = tt; set = refl }

legal-goes : (gives : ℕ → Bool) (limits : Limits) (journal : List PmEvent) → IsLegal limits gives journal → Goes limits (replay_begun limits) [] journal
legal-goes gives limits journal legal = goes gives limits (replay_begun limits) [] journal legal (begun-kept limits)

pub begins-alone : (limits : Limits) (gives : ℕ → Bool) (journal : List PmEvent) → IsLegal limits gives journal → BeginsFrom [] journal
begins-alone limits gives journal legal = (legal-goes gives limits journal legal).begins

pub restarts-as-set : (limits : Limits) (gives : ℕ → Bool) (journal : List PmEvent) → IsLegal limits gives journal → AreAsSet limits journal
restarts-as-set limits gives journal legal = (legal-goes gives limits journal legal).set

pub counts-children : (limits : Limits) (gives : ℕ → Bool) (journal : List PmEvent) → IsLegal limits gives journal
    → Counts (all_replayed (replay_begun limits) journal).machine (all_replayed (replay_begun limits) journal).shown.children
counts-children limits gives journal legal = (legal-goes gives limits journal legal).counts
