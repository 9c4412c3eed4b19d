-- What the calls write is a legal journal.
use Rattle.std.{proofs.{Common.{◌≡◌, ℕ, ◌+◌, Bool, true, false, not, ◌&&◌, ◌||◌, cond, List, [], ◌∷◌, ◌++◌, Option, Some, None, refl, arith, ap, sym, ◌∙◌, inl, inr}, lemmas.Bool.or_parts}, specs.Prelude.{IsSomeAnd, ◌⊎◌}}
use Rattle.pm_supervisor.specs.{pm_exit.{declared.child.{Status.Status, Kind.Kind, Class.Class}, Ends.{class_of, is_exit_0}}, pm_modes.{declared.Mode.Mode, Strength.strengthen_of}, Children.{is_startup_child, child_of}, Supervisor.Shared}
use Rattle.pm_supervisor.specs.pm_exit.declared.child.Kind.TheVariants as kind
use Rattle.pm_supervisor.specs.pm_exit.declared.child.Class.TheVariants as class
use Rattle.pm_supervisor.specs.pm_modes.declared.Mode.TheVariants as mode
use Rattle.pm_state.{specs.{declared.{action.Action.Action, event.PmEvent.PmEvent, machine.{Machine.Machine, Exit.Exit}}, Exits.{is_shutdown, exited_by, unless_normal, checkpointer_exited, less_one, crash_rule, startup_exited}, Machine.{IsCounted, MayAccept, started_as}, Starts.has_start, Transition.Transition, Requests.{asked_with, ticked_at}, Shows.{Accepts, Exits, Asks, Ticks}, Journal.{Due, Do, EndRedo, Replay, settled, dues, redo_dues, replayed, all_replayed, reported, all_reported, entry_of, entries_of, entries_of_call, machine_with_reports, Fits, Follows, AreLegal, Agrees, Writes, IsMoment, AsksSmart}}, proofs.Settling.{is_quiet, settled-quiet, settled-settled, settled-ended, settled-shutdown, settled-abort_at, exited-after, exited-acts, asked-after, asked-acts, ticked-after, ticked-acts}}
use Rattle.pm_state.specs.declared.action.Action.TheVariants as act
use Rattle.pm_state.specs.declared.event.PmEvent.TheVariants as entry

-- acts that are due are done in order

abbrev pub is_kill : Due → Bool
is_kill (Do act.KillAll) = true
is_kill _ = false

abbrev pub has_kill : List Due → Bool
has_kill [] = false
has_kill (d ∷ ds) = is_kill d || has_kill ds

pub fits-own : (kept now : ℕ) (s : Shared) (d : Due) → is_kill d ≡ false → Fits s d (entry_of kept now s d)
fits-own kept now s EndRedo none = refl
fits-own kept now s (Do (act.Start k)) none = (refl, refl)
fits-own kept now s (Do (act.Quit why)) none = refl
fits-own kept now s (Do act.Terminate) none = tt
fits-own kept now s (Do act.KillAll) none = absurd cc
fits-own kept now s (Do act.AskCheckpoint) none = tt
fits-own kept now s (Do act.Ready) none = refl
fits-own kept now s (Do act.Reset) none = refl
fits-own kept now s (Do (act.Say line)) none = refl
fits-own kept now s (Do (act.End how)) none = refl

dues-legal : (gives : ℕ → Bool) (kept now : ℕ) (ds : List Due) (r : Replay) → r.due ≡ ds → has_kill ds ≡ false
    → AreLegal gives r (entries_of kept now r ds)
dues-legal gives kept now [] r is none = tt
dues-legal gives kept now (d ∷ ds) r is none =
    let no : (is_kill d ≡ false) × (has_kill ds ≡ false) = or_parts (is_kill d) (has_kill ds) none in
    let e : PmEvent = entry_of kept now r.shown d in
    (rw is (fits-own kept now r.shown d no.0), dues-legal gives kept now ds (replayed r e) (rw is refl) no.1)

dues-done : (kept now : ℕ) (ds : List Due) (r : Replay) → r.due ≡ ds → (all_replayed r (entries_of kept now r ds)).due ≡ []
dues-done kept now [] r is = is
dues-done kept now (d ∷ ds) r is = dues-done kept now ds (replayed r (entry_of kept now r.shown d)) (rw is refl)

-- and what they leave of the machine

due-machine : (r : Replay) (d : Due) (ds : List Due) (e : PmEvent) → r.due ≡ d ∷ ds → (replayed r e).machine ≡ settled (reported e r.machine)
due-machine r d ds e is = rw is refl

-- an act that starts no child leaves the machine as it is
calm-machine : (m : Machine) (r : Replay) (d : Due) (ds : List Due) (e : PmEvent) → r.due ≡ d ∷ ds → r.machine ≡ settled m
    → reported e r.machine ≡ r.machine → (replayed r e).machine ≡ settled m
calm-machine m r d ds e is agrees calm = due-machine r d ds e is ∙ (ap settled (calm ∙ agrees) ∙ settled-settled m)

started-quiet : (k : Kind) (m : Machine) → is_quiet m.state ≡ true → is_quiet (started_as k m).state ≡ true
started-quiet k m quiet = grind arith

started-machine : (k : Kind) (pid : ℕ) (m : Machine) (r : Replay) (d : Due) (ds : List Due) → r.due ≡ d ∷ ds → r.machine ≡ settled m → is_quiet m.state ≡ true
    → (replayed r (entry.Started pid k)).machine ≡ settled (started_as k m)
started-machine k pid m r d ds is agrees quiet =
    due-machine r d ds (entry.Started pid k) is ∙ ap (λ n. settled (started_as k n)) (agrees ∙ settled-quiet m quiet)

dues-machine : (kept now : ℕ) (acts : List Action) (r : Replay) (m : Machine) → r.due ≡ dues acts → r.machine ≡ settled m
    → not (has_start acts) || is_quiet m.state ≡ true
    → (all_replayed r (entries_of kept now r (dues acts))).machine ≡ settled (all_reported acts m)
dues-machine kept now [] r m is agrees calm = agrees
dues-machine kept now (act.Start k ∷ acts) r m is agrees calm =
    let e : PmEvent = entry.Started (r.shown.last_pid + 1) k in
    dues-machine kept now acts (replayed r e) (started_as k m) (rw is refl)
    (started-machine k (r.shown.last_pid + 1) m r (Do (act.Start k)) (dues acts) is agrees calm)
    (grind (arith, started-quiet k m calm))
dues-machine kept now (act.Quit why ∷ acts) r m is agrees calm =
    let e : PmEvent = entry.QuitSent why in
    dues-machine kept now acts (replayed r e) m (rw is refl) (calm-machine m r (Do (act.Quit why)) (dues acts) e is agrees refl) calm
dues-machine kept now (act.Terminate ∷ acts) r m is agrees calm =
    let e : PmEvent = entry.TerminateSent in
    dues-machine kept now acts (replayed r e) m (rw is refl) (calm-machine m r (Do act.Terminate) (dues acts) e is agrees refl) calm
dues-machine kept now (act.KillAll ∷ acts) r m is agrees calm =
    let e : PmEvent = entry.KillSent now in
    dues-machine kept now acts (replayed r e) m (rw is refl) (calm-machine m r (Do act.KillAll) (dues acts) e is agrees refl) calm
dues-machine kept now (act.AskCheckpoint ∷ acts) r m is agrees calm =
    let e : PmEvent = entry.CheckpointAsked in
    dues-machine kept now acts (replayed r e) m (rw is refl) (calm-machine m r (Do act.AskCheckpoint) (dues acts) e is agrees refl) calm
dues-machine kept now (act.Ready ∷ acts) r m is agrees calm =
    let e : PmEvent = entry.Ready r.shown.generation in
    dues-machine kept now acts (replayed r e) m (rw is refl) (calm-machine m r (Do act.Ready) (dues acts) e is agrees refl) calm
dues-machine kept now (act.Reset ∷ acts) r m is agrees calm =
    let e : PmEvent = entry.Reset (r.shown.generation + 1) in
    dues-machine kept now acts (replayed r e) m (rw is refl) (calm-machine m r (Do act.Reset) (dues acts) e is agrees refl) calm
dues-machine kept now (act.Say line ∷ acts) r m is agrees calm =
    let e : PmEvent = entry.Said line in
    dues-machine kept now acts (replayed r e) m (rw is refl) (calm-machine m r (Do (act.Say line)) (dues acts) e is agrees refl) calm
dues-machine kept now (act.End how ∷ acts) r m is agrees calm =
    let e : PmEvent = entry.Ended how in
    dues-machine kept now acts (replayed r e) m (rw is refl) (calm-machine m r (Do (act.End how)) (dues acts) e is agrees refl) calm

pub dues-write : (gives : ℕ → Bool) (kept now : ℕ) (acts : List Action) (r : Replay) (m : Machine) → r.due ≡ dues acts → r.machine ≡ settled m
    → has_kill (dues acts) ≡ false → not (has_start acts) || is_quiet m.state ≡ true
    → Writes gives r (entries_of kept now r (dues acts)) (all_reported acts m)
dues-write gives kept now acts r m is agrees none calm =
    record {
      legal = dues-legal gives kept now (dues acts) r is none;
      agrees = record {
        machine = dues-machine kept now acts r m is agrees calm;
        none_due = dues-done kept now (dues acts) r is;
      };
    }

-- the end of redo, and then what is due
redo-write : (gives : ℕ → Bool) (kept now : ℕ) (b : Bool) (acts : List Action) (r : Replay) (m : Machine) → r.due ≡ cond b (EndRedo ∷ []) [] ++ dues acts
    → r.machine ≡ settled m → has_kill (dues acts) ≡ false → not (has_start acts) || is_quiet m.state ≡ true
    → Writes gives r (entries_of kept now r (cond b (EndRedo ∷ []) [] ++ dues acts)) (all_reported acts m)
redo-write gives kept now false acts r m is agrees none calm = dues-write gives kept now acts r m is agrees none calm
redo-write gives kept now true acts r m is agrees none calm =
    let e : PmEvent = entry.RedoEnded r.shown.generation kept in
    let rest : Writes gives (replayed r e) (entries_of kept now (replayed r e) (dues acts)) (all_reported acts m) =
    dues-write gives kept now acts (replayed r e) m (rw is refl) (calm-machine m r EndRedo (dues acts) e is agrees refl) none calm in
    record { legal = (rw is refl, rest.legal); agrees = rest.agrees }

first-writes : (gives : ℕ → Bool) (r : Replay) (e : PmEvent) (es : List PmEvent) (m : Machine) → Follows gives r e → Writes gives (replayed r e) es m
    → Writes gives r (e ∷ es) m
first-writes gives r e es m follows rest = record { legal = (follows, rest.legal); agrees = rest.agrees }

-- the end of a child

crash-no_kill : (m : Machine) (exit : Exit) → has_kill (dues (crash_rule m exit).acts) ≡ false
unfolding crash_rule
crash-no_kill m exit = grind arith

crash-no_start : (m : Machine) (exit : Exit) → has_start (crash_rule m exit).acts ≡ false
unfolding crash_rule
crash-no_start m exit = grind arith

startup-no_kill : (m : Machine) (exit : Exit) → has_kill (dues (startup_exited m exit).acts) ≡ false
unfolding startup_exited crash_rule
startup-no_kill m exit = grind arith

startup-calm : (m : Machine) (exit : Exit) → not (has_start (startup_exited m exit).acts) || is_quiet (startup_exited m exit).after.state ≡ true
unfolding startup_exited crash_rule
startup-calm m exit = grind arith

unless-no_kill : (cls : Class) (m : Machine) (exit : Exit) → has_kill (dues (unless_normal cls m exit).acts) ≡ false
unless-no_kill class.Normal m exit = refl
unless-no_kill class.Crash m exit = crash-no_kill m exit
unless-no_kill class.StartupFailed m exit = crash-no_kill m exit

unless-no_start : (cls : Class) (m : Machine) (exit : Exit) → has_start (unless_normal cls m exit).acts ≡ false
unless-no_start class.Normal m exit = refl
unless-no_start class.Crash m exit = crash-no_start m exit
unless-no_start class.StartupFailed m exit = crash-no_start m exit

checkpointer-no_kill : (cls : Class) (m : Machine) (exit : Exit) → has_kill (dues (checkpointer_exited cls m exit).acts) ≡ false
checkpointer-no_kill class.Normal m exit = refl
checkpointer-no_kill class.Crash m exit = crash-no_kill m exit
checkpointer-no_kill class.StartupFailed m exit = crash-no_kill m exit

checkpointer-no_start : (cls : Class) (m : Machine) (exit : Exit) → has_start (checkpointer_exited cls m exit).acts ≡ false
checkpointer-no_start class.Normal m exit = refl
checkpointer-no_start class.Crash m exit = crash-no_start m exit
checkpointer-no_start class.StartupFailed m exit = crash-no_start m exit

exited-no_kill : (k : Kind) (m : Machine) (exit : Exit) (a : Bool) → has_kill (dues (exited_by k m exit a).acts) ≡ false
exited-no_kill kind.Startup m exit a = startup-no_kill m exit
exited-no_kill kind.Checkpointer m exit a = checkpointer-no_kill (class_of kind.Checkpointer (is_shutdown m.state) a exit.status) (less_one kind.Checkpointer m) exit
exited-no_kill kind.Writer m exit a = unless-no_kill (class_of kind.Writer (is_shutdown m.state) a exit.status) (less_one kind.Writer m) exit
exited-no_kill kind.Worker m exit a = unless-no_kill (class_of kind.Worker (is_shutdown m.state) a exit.status) (less_one kind.Worker m) exit
exited-no_kill kind.Backend m exit a = unless-no_kill (class_of kind.Backend (is_shutdown m.state) a exit.status) (less_one kind.Backend m) exit
exited-no_kill kind.DeadEnd m exit a = unless-no_kill (class_of kind.DeadEnd (is_shutdown m.state) a exit.status) (less_one kind.DeadEnd m) exit

unless-calm : (cls : Class) (m : Machine) (exit : Exit)
    → not (has_start (unless_normal cls m exit).acts) || is_quiet (unless_normal cls m exit).after.state ≡ true
unless-calm cls m exit = rw (unless-no_start cls m exit) refl

checkpointer-calm : (cls : Class) (m : Machine) (exit : Exit)
    → not (has_start (checkpointer_exited cls m exit).acts) || is_quiet (checkpointer_exited cls m exit).after.state ≡ true
checkpointer-calm cls m exit = rw (checkpointer-no_start cls m exit) refl

exited-calm : (k : Kind) (m : Machine) (exit : Exit) (a : Bool) → not (has_start (exited_by k m exit a).acts) || is_quiet (exited_by k m exit a).after.state ≡ true
exited-calm kind.Startup m exit a = startup-calm m exit
exited-calm kind.Checkpointer m exit a = checkpointer-calm (class_of kind.Checkpointer (is_shutdown m.state) a exit.status) (less_one kind.Checkpointer m) exit
exited-calm kind.Writer m exit a = unless-calm (class_of kind.Writer (is_shutdown m.state) a exit.status) (less_one kind.Writer m) exit
exited-calm kind.Worker m exit a = unless-calm (class_of kind.Worker (is_shutdown m.state) a exit.status) (less_one kind.Worker m) exit
exited-calm kind.Backend m exit a = unless-calm (class_of kind.Backend (is_shutdown m.state) a exit.status) (less_one kind.Backend m) exit
exited-calm kind.DeadEnd m exit a = unless-calm (class_of kind.DeadEnd (is_shutdown m.state) a exit.status) (less_one kind.DeadEnd m) exit

no_ask : (b : Bool) (T : Type 0) → b ≡ false → b ≡ true → T
no_ask b T isnt is = absurd cc

pub exit-writes : (gives : ℕ → Bool) (kept : ℕ) (r : Replay) (m : Machine) (pid : ℕ) (k : Kind) (status : Status) (a : Bool) (now : ℕ)
    → Agrees r m → m.ended ≡ false → r.asks_smart ≡ false → IsCounted m k × IsSomeAnd (child_of pid r.shown.children) (λ c. c.kind ≡ k) × IsMoment gives r now
    → Writes gives r (entries_of_call kept r m (Exits pid k status a now)) (machine_with_reports m (Exits pid k status a now))
exit-writes gives kept r m pid k status a now agrees on none may =
    let e : PmEvent = entry.Exited pid k status a now in
    let exit : Exit = record { pid = pid; kind = k; status = status; now = now } in
    let o : Transition = exited_by k m exit a in
    let replays : (replayed r e).machine ≡ settled o.after =
    rw (agrees.none_due, agrees.machine) (exited-after m k exit a may.0 ∙ refl) in
    let same : (exited_by k (settled m) exit a).acts ≡ o.acts = exited-acts m k exit a may.0 in
    let owes : (replayed r e).due ≡ redo_dues k status ++ dues o.acts =
    rw (agrees.none_due, agrees.machine, same) refl in
    first-writes gives r e _ _
    (rw agrees.none_due (rw agrees.machine (settled-ended m) ∙ on, no_ask r.asks_smart _ none, (may.1, may.2)))
    (redo-write gives kept now (is_startup_child k && is_exit_0 status) o.acts (replayed r e) o.after owes replays
    (exited-no_kill k m exit a) (exited-calm k m exit a))

-- an accept

pub accept-writes : (gives : ℕ → Bool) (kept : ℕ) (r : Replay) (m : Machine) (pid : ℕ)
    → Agrees r m → m.ended ≡ false → r.asks_smart ≡ false → MayAccept m × (settled m ≡ m) × (pid ≡ r.shown.last_pid + 1)
    → Writes gives r (entries_of_call kept r m (Accepts pid)) (machine_with_reports m (Accepts pid))
accept-writes gives kept r m pid agrees on none may =
    let same : r.machine ≡ m = agrees.machine ∙ may.1 in
    record {
      legal = (
        rw agrees.none_due (rw same on, no_ask r.asks_smart _ none, (rw same may.0, may.2, rw same refl)),
        tt,
      );
      agrees = record {
        machine = rw (agrees.none_due, same) refl;
        none_due = rw agrees.none_due refl;
      };
    }

-- a request

asked-no_kill : (m : Machine) (answer : Option Mode) (now : ℕ) → has_kill (dues (asked_with answer m now).acts) ≡ false
asked-no_kill m None now = refl
asked-no_kill m (Some mode.Smart) now = grind arith
asked-no_kill m (Some mode.Fast) now = grind arith
asked-no_kill m (Some mode.Immediate) now = grind arith

asked-no_start : (m : Machine) (answer : Option Mode) (now : ℕ) → has_start (asked_with answer m now).acts ≡ false
asked-no_start m None now = refl
asked-no_start m (Some mode.Smart) now = grind arith
asked-no_start m (Some mode.Fast) now = grind arith
asked-no_start m (Some mode.Immediate) now = grind arith

asked-calm : (m : Machine) (answer : Option Mode) (now : ℕ)
    → not (has_start (asked_with answer m now).acts) || is_quiet (asked_with answer m now).after.state ≡ true
asked-calm m answer now = rw (asked-no_start m answer now) refl

asked-settled : (m : Machine) (asked : Mode) (now : ℕ)
    → settled (asked_with (strengthen_of (settled m).shutdown asked) (settled m) now).after
    ≡ settled (asked_with (strengthen_of m.shutdown asked) m now).after
asked-settled m asked now =
    ap (λ o. settled (asked_with (strengthen_of o asked) (settled m) now).after) (settled-shutdown m)
    ∙ asked-after m asked (strengthen_of m.shutdown asked) now refl

asked-told : (m : Machine) (asked : Mode) (now : ℕ)
    → (asked_with (strengthen_of (settled m).shutdown asked) (settled m) now).acts
    ≡ (asked_with (strengthen_of m.shutdown asked) m now).acts
asked-told m asked now =
    ap (λ o. (asked_with (strengthen_of o asked) (settled m) now).acts) (settled-shutdown m)
    ∙ asked-acts m (strengthen_of m.shutdown asked) now

pub ask-writes : (gives : ℕ → Bool) (kept : ℕ) (r : Replay) (m : Machine) (asked : Mode) (now : ℕ)
    → Agrees r m → m.ended ≡ false → (r.asks_smart ≡ true → AsksSmart (entry.Asked asked now)) → IsMoment gives r now
    → Writes gives r (entries_of_call kept r m (Asks asked now)) (machine_with_reports m (Asks asked now))
ask-writes gives kept r m asked now agrees on heeds may =
    let e : PmEvent = entry.Asked asked now in
    let o : Transition = asked_with (strengthen_of m.shutdown asked) m now in
    let replays : (replayed r e).machine ≡ settled o.after = rw (agrees.none_due, agrees.machine) (asked-settled m asked now) in
    let owes : (replayed r e).due ≡ dues o.acts = rw (agrees.none_due, agrees.machine) (ap dues (asked-told m asked now)) in
    first-writes gives r e _ _ (rw agrees.none_due (rw agrees.machine (settled-ended m) ∙ on, heeds, may))
    (dues-write gives kept now o.acts (replayed r e) o.after owes replays
    (asked-no_kill m (strengthen_of m.shutdown asked) now) (asked-calm m (strengthen_of m.shutdown asked) now))

-- time

ticked-kills : (m : Machine) (since : Option ℕ) (now : ℕ)
    → ((ticked_at since m now).acts ≡ [] × (ticked_at since m now).after ≡ m) ⊎ ((ticked_at since m now).acts ≡ act.KillAll ∷ [])
ticked-kills m since now = grind arith

ticked-settled : (m : Machine) (now : ℕ)
    → settled (ticked_at (settled m).abort_at (settled m) now).after ≡ settled (ticked_at m.abort_at m now).after
ticked-settled m now = ap (λ o. settled (ticked_at o (settled m) now).after) (settled-abort_at m) ∙ ticked-after m m.abort_at now

ticked-told : (m : Machine) (now : ℕ) → (ticked_at (settled m).abort_at (settled m) now).acts ≡ (ticked_at m.abort_at m now).acts
ticked-told m now = ap (λ o. (ticked_at o (settled m) now).acts) (settled-abort_at m) ∙ ticked-acts m m.abort_at now

pub tick-writes : (gives : ℕ → Bool) (kept : ℕ) (r : Replay) (m : Machine) (now : ℕ)
    → Agrees r m → m.ended ≡ false → r.asks_smart ≡ false → IsMoment gives r now
    → Writes gives r (entries_of_call kept r m (Ticks now)) (machine_with_reports m (Ticks now))
tick-writes gives kept r m now agrees on none may =
    let o : Transition = ticked_at m.abort_at m now in
    elim (ticked-kills m m.abort_at now) as (λ _. Writes gives r (entries_of kept now r (dues o.acts)) (all_reported o.acts o.after)) [
      | inl calm ↦ rw calm.0 (record {
        legal = tt;
        agrees = record { machine = agrees.machine ∙ ap settled (sym calm.1); none_due = agrees.none_due };
      })
      | inr kills ↦ rw kills (record {
        legal = (
          rw agrees.none_due (
            rw agrees.machine (settled-ended m) ∙ on,
            no_ask r.asks_smart _ none,
            (may, rw agrees.machine (ticked-told m now ∙ kills)),
          ),
          tt,
        );
        agrees = record {
          machine = rw (agrees.none_due, agrees.machine) (ticked-settled m now);
          none_due = rw agrees.none_due refl;
        };
      })
    ]
