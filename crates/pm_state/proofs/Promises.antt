-- What a reader of the manual counts on.
use Rattle.std.{proofs.Common.{◌≡◌, ℕ, ◌+◌, ◌≤◌, Bool, true, false, ◌||◌, [], ◌∷◌, Some, None, refl, arith}, specs.Prelude.{Option, is_some}}
use Rattle.pm_supervisor.specs.{pm_exit.{declared.child.{Status.Status, Kind.Kind, Class.Class}, Ends.class_of}, pm_modes.{declared.Mode.Mode, Strength.{is_immediate, strengthen_of}}, pm_admit.Admission.is_run, declared.Limits.Limits, Children.is_startup_child, Supervisor.Supervisor, Steps.is_normal}
use Rattle.pm_supervisor.specs.pm_exit.declared.child.Kind.TheVariants as kind
use Rattle.pm_supervisor.specs.pm_exit.declared.child.Class.TheVariants as class
use Rattle.pm_supervisor.specs.pm_modes.declared.Mode.TheVariants as mode
use Rattle.pm_state.specs.declared.action.Action.TheVariants as act
use Rattle.pm_state.{specs.{declared.machine.{Machine.Machine, Exit.Exit}, Exits.{is_shutdown, exited_by, unless_normal, checkpointer_exited, less_one, crash_rule, startup_exited}, Machine.{MachineEvent, Accepted, Started, Exited, Asked, Ticked, Turned, step}, Requests.{asked_with, patience, ticked_at}, Transition.Transition, Facts.{Facts, aborts_with_cause}, Promises.{has_act, is_quit, is_ready_act, is_release, is_startup_crash, starts_before_ready}}, proofs.{Counting.by-exit, TurnPromises.turned-orders}}

-- whoever is left is killed after five seconds

kills-after : (m : Machine) (since now : ℕ) → aborts_with_cause m ≡ true → m.abort_at ≡ Some since → since + patience ≤ now
    → (ticked_at m.abort_at m now).acts ≡ act.KillAll ∷ []
kills-after m since now cause is late = grind arith

pub kills : (limits : Limits) (m : Machine) (s : Supervisor) (since now : ℕ) → Facts limits m s → m.abort_at ≡ Some since → since + patience ≤ now
    → (step m (Ticked now)).acts ≡ act.KillAll ∷ []
kills limits m s since now facts is late = kills-after m since now facts.aborts is late

crash-arms : (m : Machine) (exit : Exit) → is_some (crash_rule m exit).after.abort_at ≡ true
unfolding crash_rule
crash-arms m exit = grind arith

unless-arms : (cls : Class) (m : Machine) (exit : Exit) → is_normal cls ≡ false → is_some (unless_normal cls m exit).after.abort_at ≡ true
unless-arms class.Normal m exit bad = absurd cc
unless-arms class.Crash m exit bad = crash-arms m exit
unless-arms class.StartupFailed m exit bad = crash-arms m exit

checkpointer-arms : (cls : Class) (m : Machine) (exit : Exit) → is_normal cls ≡ false → is_some (checkpointer_exited cls m exit).after.abort_at ≡ true
checkpointer-arms class.Normal m exit bad = absurd cc
checkpointer-arms class.Crash m exit bad = crash-arms m exit
checkpointer-arms class.StartupFailed m exit bad = crash-arms m exit

-- an abnormal exit sets the moment
pub arms : (m : Machine) (pid : ℕ) (k : Kind) (status : Status) (a : Bool) (now : ℕ) → is_startup_child k ≡ false
    → is_normal (class_of k (is_shutdown m.state) a status) ≡ false
    → is_some (step m (Exited pid k status a now)).after.abort_at ≡ true
arms m pid kind.Startup status a now other bad = absurd cc
arms m pid kind.Checkpointer status a now other bad = checkpointer-arms (class_of kind.Checkpointer (is_shutdown m.state) a status) (less_one kind.Checkpointer m) _ bad
arms m pid kind.Writer status a now other bad = unless-arms (class_of kind.Writer (is_shutdown m.state) a status) (less_one kind.Writer m) _ bad
arms m pid kind.Worker status a now other bad = unless-arms (class_of kind.Worker (is_shutdown m.state) a status) (less_one kind.Worker m) _ bad
arms m pid kind.Backend status a now other bad = unless-arms (class_of kind.Backend (is_shutdown m.state) a status) (less_one kind.Backend m) _ bad
arms m pid kind.DeadEnd status a now other bad = unless-arms (class_of kind.DeadEnd (is_shutdown m.state) a status) (less_one kind.DeadEnd m) _ bad

startup-crash-arms : (m : Machine) (exit : Exit) → is_startup_crash m exit.status ≡ true → is_some (startup_exited m exit).after.abort_at ≡ true
unfolding startup_exited crash_rule
startup-crash-arms m exit crash = grind arith

-- that of a startup child too
pub startup-arms : (m : Machine) (pid : ℕ) (status : Status) (a : Bool) (now : ℕ) → is_startup_crash m status ≡ true
    → is_some (step m (Exited pid kind.Startup status a now)).after.abort_at ≡ true
startup-arms m pid status a now crash = startup-crash-arms m (record { pid = pid; kind = kind.Startup; status = status; now = now }) crash

-- and so does whatever tells all children to quit

abbrev Arms : Transition → Type 0
Arms o = has_act is_quit o.acts ≡ true → is_some o.after.abort_at ≡ true

startup-quits : (m : Machine) (exit : Exit) → Arms (startup_exited m exit)
unfolding startup_exited crash_rule
startup-quits m exit quits = grind arith

exit-quits : (k : Kind) (m : Machine) (exit : Exit) (a : Bool) → Arms (exited_by k m exit a)
exit-quits k m exit a =
    by-exit Arms k m exit a
    (record {
      startup = λ is. startup-quits m exit;
      crash = λ quits. crash-arms (less_one k m) exit;
      normal = λ quits. absurd cc;
      written = λ quits. absurd cc;
    })

asked-quits : (m : Machine) (answer : Option Mode) (now : ℕ) → Arms (asked_with answer m now)
asked-quits m None now quits = absurd cc
asked-quits m (Some mode.Smart) now quits = grind arith
asked-quits m (Some mode.Fast) now quits = grind arith
asked-quits m (Some mode.Immediate) now quits = grind arith

ticked-quits : (m : Machine) (since : Option ℕ) (now : ℕ) → has_act is_quit (ticked_at since m now).acts ≡ false
ticked-quits m None now = refl
ticked-quits m (Some since) now = grind arith

pub quit-arms : (m : Machine) (event : MachineEvent) → has_act is_quit (step m event).acts ≡ true → is_some (step m event).after.abort_at ≡ true
quit-arms m Accepted quits = absurd cc
quit-arms m (Started k) quits = absurd cc
quit-arms m (Exited pid k status a now) quits = exit-quits k m (record { pid = pid; kind = k; status = status; now = now }) a quits
quit-arms m (Asked asked now) quits = asked-quits m (strengthen_of m.shutdown asked) now quits
quit-arms m (Ticked now) quits = absurd (let none = ticked-quits m m.abort_at now in cc)
quit-arms m Turned quits = absurd (let none = (turned-orders m).0 in cc)

-- and so does an immediate request
pub request-arms : (m : Machine) (now : ℕ) → is_immediate m.shutdown ≡ false → (step m (Asked mode.Immediate now)).after.abort_at ≡ Some now
request-arms m now other = grind arith

-- sessions are admitted after a redo only after Ready

startup-ready : (m : Machine) (exit : Exit) → is_run m.state ≡ false → is_run (startup_exited m exit).after.state ≡ true
    → has_act is_ready_act (startup_exited m exit).acts ≡ true
unfolding startup_exited crash_rule
startup-ready m exit before behind = grind arith

-- the end of a child that clears the moment opens the generation
startup-keeps : (m : Machine) (exit : Exit) → is_some m.abort_at ≡ true
    → is_some (startup_exited m exit).after.abort_at || has_act is_release (startup_exited m exit).acts ≡ true
unfolding startup_exited crash_rule
startup-keeps m exit some = grind arith

pub readies : (m : Machine) (pid : ℕ) (status : Status) (a : Bool) (now : ℕ) → is_run m.state ≡ false
    → is_run (step m (Exited pid kind.Startup status a now)).after.state ≡ true
    → has_act is_ready_act (step m (Exited pid kind.Startup status a now)).acts ≡ true
readies m pid status a now before behind = startup-ready m (record { pid = pid; kind = kind.Startup; status = status; now = now }) before behind

pub keeps-moment : (m : Machine) (pid : ℕ) (status : Status) (a : Bool) (now : ℕ) → is_some m.abort_at ≡ true
    → is_some (step m (Exited pid kind.Startup status a now)).after.abort_at
    || has_act is_release (step m (Exited pid kind.Startup status a now)).acts ≡ true
keeps-moment m pid status a now some = startup-keeps m (record { pid = pid; kind = kind.Startup; status = status; now = now }) some

-- no other call clears it

crash-keeps : (m : Machine) (exit : Exit) (since : ℕ) → m.abort_at ≡ Some since → (crash_rule m exit).after.abort_at ≡ Some since
unfolding crash_rule
crash-keeps m exit since is = grind arith

unless-keeps : (cls : Class) (m : Machine) (exit : Exit) (since : ℕ) → m.abort_at ≡ Some since
    → (unless_normal cls m exit).after.abort_at ≡ Some since
unless-keeps class.Normal m exit since is = is
unless-keeps class.Crash m exit since is = crash-keeps m exit since is
unless-keeps class.StartupFailed m exit since is = crash-keeps m exit since is

checkpointer-keeps : (cls : Class) (m : Machine) (exit : Exit) (since : ℕ) → m.abort_at ≡ Some since
    → (checkpointer_exited cls m exit).after.abort_at ≡ Some since
checkpointer-keeps class.Normal m exit since is = is
checkpointer-keeps class.Crash m exit since is = crash-keeps m exit since is
checkpointer-keeps class.StartupFailed m exit since is = crash-keeps m exit since is

pub exit-keeps : (m : Machine) (pid : ℕ) (k : Kind) (status : Status) (a : Bool) (since now : ℕ) → is_startup_child k ≡ false → m.abort_at ≡ Some since
    → (step m (Exited pid k status a now)).after.abort_at ≡ Some since
exit-keeps m pid kind.Startup status a since now other is = absurd cc
exit-keeps m pid kind.Checkpointer status a since now other is =
    checkpointer-keeps (class_of kind.Checkpointer (is_shutdown m.state) a status) (less_one kind.Checkpointer m) _ since is
exit-keeps m pid kind.Writer status a since now other is =
    unless-keeps (class_of kind.Writer (is_shutdown m.state) a status) (less_one kind.Writer m) _ since is
exit-keeps m pid kind.Worker status a since now other is =
    unless-keeps (class_of kind.Worker (is_shutdown m.state) a status) (less_one kind.Worker m) _ since is
exit-keeps m pid kind.Backend status a since now other is =
    unless-keeps (class_of kind.Backend (is_shutdown m.state) a status) (less_one kind.Backend m) _ since is
exit-keeps m pid kind.DeadEnd status a since now other is =
    unless-keeps (class_of kind.DeadEnd (is_shutdown m.state) a status) (less_one kind.DeadEnd m) _ since is

pub request-keeps : (m : Machine) (asked : Mode) (now : ℕ) → is_some m.abort_at ≡ true → is_some (step m (Asked asked now)).after.abort_at ≡ true
request-keeps m asked now some = grind arith

pub waits : (m : Machine) (since now : ℕ) → m.abort_at ≡ Some since → now + 1 ≤ since + patience → (step m (Ticked now)).acts ≡ []
waits m since now is early = grind arith

-- Ready comes before the starts that come with it

abbrev Orders : Transition → Type 0
Orders o = starts_before_ready o.acts ≡ false

startup-orders : (m : Machine) (exit : Exit) → Orders (startup_exited m exit)
unfolding startup_exited crash_rule
startup-orders m exit = grind arith

crash-orders : (m : Machine) (exit : Exit) → Orders (crash_rule m exit)
unfolding crash_rule
crash-orders m exit = grind arith

exit-orders : (k : Kind) (m : Machine) (exit : Exit) (a : Bool) → Orders (exited_by k m exit a)
exit-orders k m exit a =
    by-exit Orders k m exit a (record { startup = λ is. startup-orders m exit; crash = crash-orders (less_one k m) exit; normal = refl; written = refl })

asked-orders : (m : Machine) (answer : Option Mode) (now : ℕ) → Orders (asked_with answer m now)
asked-orders m None now = refl
asked-orders m (Some mode.Smart) now = grind arith
asked-orders m (Some mode.Fast) now = grind arith
asked-orders m (Some mode.Immediate) now = grind arith

ticked-orders : (m : Machine) (since : Option ℕ) (now : ℕ) → Orders (ticked_at since m now)
ticked-orders m None now = refl
ticked-orders m (Some since) now = grind arith

pub step-orders : (m : Machine) (event : MachineEvent) → starts_before_ready (step m event).acts ≡ false
step-orders m Accepted = refl
step-orders m (Started k) = refl
step-orders m (Exited pid k status a now) = exit-orders k m (record { pid = pid; kind = k; status = status; now = now }) a
step-orders m (Asked asked now) = asked-orders m (strengthen_of m.shutdown asked) now
step-orders m (Ticked now) = ticked-orders m m.abort_at now
step-orders m Turned = (turned-orders m).1
