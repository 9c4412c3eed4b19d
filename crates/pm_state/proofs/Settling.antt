-- The moves that leave no entry, and what each call does where they are made before it.
use Rattle.std.{proofs.Common.{◌≡◌, ℕ, ◌+◌, ◌<◌, Bool, true, false, ◌&&◌, ◌||◌, [], ◌∷◌, Option, Some, None, refl, arith, ap, sym, ◌∙◌, inl, inr}, specs.Prelude.{if◌then◌else◌, nat_le, ◌⊎◌}}
use Rattle.pm_supervisor.specs.{pm_exit.{declared.child.{Status.Status, Kind.Kind, Class.Class}, Ends.class_of}, pm_admit.declared.PmState.PmState, Children.is_dead_end}
use Rattle.pm_supervisor.specs.pm_exit.declared.child.Kind.TheVariants as kind
use Rattle.pm_supervisor.specs.pm_exit.declared.child.Class.TheVariants as class
use Rattle.pm_modes.{specs.{declared.Mode.Mode, Strength.{is_immediate, strengthen_of}}, proofs.StrengthLaws.strengthens}
use Rattle.pm_modes.specs.declared.Mode.TheVariants as mode
use Rattle.pm_supervisor.specs.pm_admit.declared.PmState.TheVariants as state
use Rattle.pm_state.specs.declared.machine.StartupStatus.TheVariants as startup
use Rattle.pm_state.specs.{declared.machine.{Machine.Machine, Exit.Exit}, Exits.{is_shutdown, exited_by, unless_normal, less_one, crash_rule}, Machine.IsCounted, Transition.transition, Requests.{asked_with, asked_in, patience, ticked_at}, TurnRules.{backends_gone, dead_ends_gone}, Journal.settled}
use Rattle.pm_state.specs.declared.action.Action.TheVariants as act

-- no move waits in these states
abbrev pub is_quiet : PmState → Bool
is_quiet state.WaitBackends = false
is_quiet state.WaitDeadEnd = false
is_quiet _ = true

pub settled-quiet : (m : Machine) → is_quiet m.state ≡ true → settled m ≡ m
unfolding settled backends_gone dead_ends_gone
settled-quiet m quiet = grind arith

-- a child that isn't a dead end holds the moves back
pub settled-counted : (m : Machine) (k : Kind) → IsCounted m k → is_dead_end k ≡ false → settled m ≡ m
unfolding settled backends_gone dead_ends_gone
settled-counted m kind.Startup counted other = grind arith
settled-counted m kind.Checkpointer counted other = grind arith
settled-counted m kind.Writer counted other = grind arith
settled-counted m kind.Worker counted other = grind arith
settled-counted m kind.Backend counted other = grind arith
settled-counted m kind.DeadEnd counted other = absurd cc

pub settled-settled : (m : Machine) → settled (settled m) ≡ settled m
unfolding settled backends_gone dead_ends_gone
settled-settled m = grind arith

-- only the state moves
pub settled-ended : (m : Machine) → (settled m).ended ≡ m.ended
unfolding settled backends_gone dead_ends_gone
settled-ended m = grind arith

pub settled-shutdown : (m : Machine) → (settled m).shutdown ≡ m.shutdown
unfolding settled backends_gone dead_ends_gone
settled-shutdown m = grind arith

pub settled-abort_at : (m : Machine) → (settled m).abort_at ≡ m.abort_at
unfolding settled backends_gone dead_ends_gone
settled-abort_at m = grind arith

pub settled-fatal : (m : Machine) → (settled m).fatal ≡ m.fatal
unfolding settled backends_gone dead_ends_gone
settled-fatal m = grind arith

-- the end of a child that refuses a connection

-- after a crash or an immediate request only such children are left
record IsCleared (m : Machine) : Type 0 where
  waits : m.state ≡ state.WaitBackends
  cause : m.fatal || is_immediate m.shutdown ≡ true
  startup : m.startup ≡ startup.NotRunning
  children : m.children ≡ 0
  checkpointer : m.checkpointer ≡ false
  writer : m.writer ≡ false

record HasMoved (m : Machine) : Type 0 where
  cleared : IsCleared m
  is : settled m ≡ record m { state = state.WaitDeadEnd }

dead_end-split : (m : Machine) → 0 < m.dead_ends → (settled m ≡ m) ⊎ HasMoved m
unfolding settled backends_gone dead_ends_gone
dead_end-split m some = grind arith

settled-cleared : (m : Machine) → IsCleared m → settled (record m { state = state.WaitDeadEnd }) ≡ settled m
unfolding settled backends_gone dead_ends_gone
settled-cleared m cleared = grind arith

crash-cleared : (m : Machine) (exit : Exit) → IsCleared m → IsCleared (crash_rule m exit).after
unfolding crash_rule
crash-cleared m exit cleared = grind arith

crash-moved : (m : Machine) (exit : Exit) → IsCleared m
    → (crash_rule (record m { state = state.WaitDeadEnd }) exit).after ≡ record (crash_rule m exit).after { state = state.WaitDeadEnd }
unfolding crash_rule
crash-moved m exit cleared = refl

crash-acts : (m : Machine) (exit : Exit) → (crash_rule (record m { state = state.WaitDeadEnd }) exit).acts ≡ (crash_rule m exit).acts
unfolding crash_rule
crash-acts m exit = refl

less-cleared : (m : Machine) → IsCleared m → IsCleared (less_one kind.DeadEnd m)
less-cleared m cleared =
    record {
      waits = cleared.waits;
      cause = cleared.cause;
      startup = cleared.startup;
      children = cleared.children;
      checkpointer = cleared.checkpointer;
      writer = cleared.writer;
    }

crash-settled : (m : Machine) (exit : Exit) → IsCleared m
    → settled (crash_rule (record m { state = state.WaitDeadEnd }) exit).after ≡ settled (crash_rule m exit).after
crash-settled m exit cleared =
    ap settled (crash-moved m exit cleared) ∙ settled-cleared (crash_rule m exit).after (crash-cleared m exit cleared)

moved-after : (m : Machine) (exit : Exit) (cls : Class) → IsCleared m
    → settled (unless_normal cls (less_one kind.DeadEnd (record m { state = state.WaitDeadEnd })) exit).after
    ≡ settled (unless_normal cls (less_one kind.DeadEnd m) exit).after
moved-after m exit class.Normal cleared = settled-cleared (less_one kind.DeadEnd m) (less-cleared m cleared)
moved-after m exit class.Crash cleared = crash-settled (less_one kind.DeadEnd m) exit (less-cleared m cleared)
moved-after m exit class.StartupFailed cleared = crash-settled (less_one kind.DeadEnd m) exit (less-cleared m cleared)

moved-acts : (m : Machine) (exit : Exit) (cls : Class)
    → (unless_normal cls (less_one kind.DeadEnd (record m { state = state.WaitDeadEnd })) exit).acts
    ≡ (unless_normal cls (less_one kind.DeadEnd m) exit).acts
moved-acts m exit class.Normal = refl
moved-acts m exit class.Crash = crash-acts (less_one kind.DeadEnd m) exit
moved-acts m exit class.StartupFailed = crash-acts (less_one kind.DeadEnd m) exit

dead_end-after : (m : Machine) (exit : Exit) (cls : Class) → 0 < m.dead_ends
    → settled (unless_normal cls (less_one kind.DeadEnd (settled m)) exit).after
    ≡ settled (unless_normal cls (less_one kind.DeadEnd m) exit).after
dead_end-after m exit cls some =
    elim (dead_end-split m some) as (λ _. settled (unless_normal cls (less_one kind.DeadEnd (settled m)) exit).after
    ≡ settled (unless_normal cls (less_one kind.DeadEnd m) exit).after) [
      | inl e ↦ ap (λ n. settled (unless_normal cls (less_one kind.DeadEnd n) exit).after) e
      | inr moved ↦ ap (λ n. settled (unless_normal cls (less_one kind.DeadEnd n) exit).after) moved.is ∙ moved-after m exit cls moved.cleared
    ]

dead_end-acts : (m : Machine) (exit : Exit) (cls : Class) → 0 < m.dead_ends
    → (unless_normal cls (less_one kind.DeadEnd (settled m)) exit).acts
    ≡ (unless_normal cls (less_one kind.DeadEnd m) exit).acts
dead_end-acts m exit cls some =
    elim (dead_end-split m some) as (λ _. (unless_normal cls (less_one kind.DeadEnd (settled m)) exit).acts
    ≡ (unless_normal cls (less_one kind.DeadEnd m) exit).acts) [
      | inl e ↦ ap (λ n. (unless_normal cls (less_one kind.DeadEnd n) exit).acts) e
      | inr moved ↦ ap (λ n. (unless_normal cls (less_one kind.DeadEnd n) exit).acts) moved.is ∙ moved-acts m exit cls
    ]

-- no move enters or leaves the state in which the last checkpoint is written
same_shutdown : (m : Machine) → is_shutdown (settled m).state ≡ is_shutdown m.state
unfolding settled backends_gone dead_ends_gone
same_shutdown m = grind arith

same_dead_end-class : (m : Machine) (was_active : Bool) (status : Status)
    → class_of kind.DeadEnd (is_shutdown (settled m).state) was_active status ≡ class_of kind.DeadEnd (is_shutdown m.state) was_active status
same_dead_end-class m was_active status = ap (λ b. class_of kind.DeadEnd b was_active status) (same_shutdown m)

pub exited-after : (m : Machine) (k : Kind) (exit : Exit) (was_active : Bool) → IsCounted m k
    → settled (exited_by k (settled m) exit was_active).after ≡ settled (exited_by k m exit was_active).after
exited-after m kind.Startup exit was_active counted = rw (settled-counted m kind.Startup counted refl) refl
exited-after m kind.Checkpointer exit was_active counted = rw (settled-counted m kind.Checkpointer counted refl) refl
exited-after m kind.Writer exit was_active counted = rw (settled-counted m kind.Writer counted refl) refl
exited-after m kind.Worker exit was_active counted = rw (settled-counted m kind.Worker counted refl) refl
exited-after m kind.Backend exit was_active counted = rw (settled-counted m kind.Backend counted refl) refl
exited-after m kind.DeadEnd exit was_active counted =
    ap (λ c. settled (unless_normal c (less_one kind.DeadEnd (settled m)) exit).after) (same_dead_end-class m was_active exit.status)
    ∙ dead_end-after m exit (class_of kind.DeadEnd (is_shutdown m.state) was_active exit.status) counted

pub exited-acts : (m : Machine) (k : Kind) (exit : Exit) (was_active : Bool) → IsCounted m k
    → (exited_by k (settled m) exit was_active).acts ≡ (exited_by k m exit was_active).acts
exited-acts m kind.Startup exit was_active counted = rw (settled-counted m kind.Startup counted refl) refl
exited-acts m kind.Checkpointer exit was_active counted = rw (settled-counted m kind.Checkpointer counted refl) refl
exited-acts m kind.Writer exit was_active counted = rw (settled-counted m kind.Writer counted refl) refl
exited-acts m kind.Worker exit was_active counted = rw (settled-counted m kind.Worker counted refl) refl
exited-acts m kind.Backend exit was_active counted = rw (settled-counted m kind.Backend counted refl) refl
exited-acts m kind.DeadEnd exit was_active counted =
    ap (λ c. (unless_normal c (less_one kind.DeadEnd (settled m)) exit).acts) (same_dead_end-class m was_active exit.status)
    ∙ dead_end-acts m exit (class_of kind.DeadEnd (is_shutdown m.state) was_active exit.status) counted

-- a request

settled-asks : (m : Machine) (asked : Mode) → is_immediate m.shutdown ≡ false
    → settled (record (settled m) { shutdown = Some asked }) ≡ settled (record m { shutdown = Some asked })
unfolding settled backends_gone dead_ends_gone
settled-asks m asked other = grind arith

-- in a state in which a move waits such a request changes nothing else
abbrev waits : PmState → Bool
waits state.WaitBackends = true
waits state.WaitDeadEnd = true
waits state.NoChildren = true
waits _ = false

settled-waits : (m : Machine) → is_quiet m.state ≡ false → waits (settled m).state ≡ true
unfolding settled backends_gone dead_ends_gone
settled-waits m loud = grind arith

loud-waits : (p : PmState) → is_quiet p ≡ false → waits p ≡ true
loud-waits p loud = grind arith

smart-waits : (p : PmState) (m : Machine) (now : ℕ) → waits p ≡ true → (asked_in mode.Smart p m now).after ≡ m
smart-waits p m now is = grind arith

fast-waits : (p : PmState) (m : Machine) (now : ℕ) → waits p ≡ true → (asked_in mode.Fast p m now).after ≡ m
fast-waits p m now is = grind arith

smart-acts : (p q : PmState) (m n : Machine) (now : ℕ) → (asked_in mode.Smart p m now).acts ≡ (asked_in mode.Smart q n now).acts
smart-acts p q m n now = grind arith

fast-acts : (p q : PmState) (m n : Machine) (now : ℕ) → waits p ≡ true → waits q ≡ true
    → (asked_in mode.Fast p m now).acts ≡ (asked_in mode.Fast q n now).acts
fast-acts p q m n now first second = grind arith

immediate-same : (m : Machine) (now : ℕ)
    → (asked_with (Some mode.Immediate) (settled m) now).after ≡ (asked_with (Some mode.Immediate) m now).after
unfolding settled backends_gone dead_ends_gone
immediate-same m now = grind arith

loud-after : (m : Machine) (asked answer : Mode) (now : ℕ) → is_quiet m.state ≡ false → strengthen_of m.shutdown asked ≡ Some answer
    → settled (asked_with (Some answer) (settled m) now).after ≡ settled (asked_with (Some answer) m now).after
loud-after m asked mode.Smart now loud is =
    ap settled (smart-waits (settled m).state (record (settled m) { shutdown = Some mode.Smart }) now (settled-waits m loud))
    ∙ (settled-asks m mode.Smart (strengthens m.shutdown asked mode.Smart is)
    ∙ ap settled (sym (smart-waits m.state (record m { shutdown = Some mode.Smart }) now (loud-waits m.state loud))))
loud-after m asked mode.Fast now loud is =
    ap settled (fast-waits (settled m).state (record (settled m) { shutdown = Some mode.Fast }) now (settled-waits m loud))
    ∙ (settled-asks m mode.Fast (strengthens m.shutdown asked mode.Fast is)
    ∙ ap settled (sym (fast-waits m.state (record m { shutdown = Some mode.Fast }) now (loud-waits m.state loud))))
loud-after m asked mode.Immediate now loud is = ap settled (immediate-same m now)

loud-acts : (m : Machine) (answer : Mode) (now : ℕ) → is_quiet m.state ≡ false
    → (asked_with (Some answer) (settled m) now).acts ≡ (asked_with (Some answer) m now).acts
loud-acts m mode.Smart now loud = smart-acts (settled m).state m.state _ _ now
loud-acts m mode.Fast now loud = fast-acts (settled m).state m.state _ _ now (settled-waits m loud) (loud-waits m.state loud)
loud-acts m mode.Immediate now loud = refl

pub asked-after : (m : Machine) (asked : Mode) (answer : Option Mode) (now : ℕ) → strengthen_of m.shutdown asked ≡ answer
    → settled (asked_with answer (settled m) now).after ≡ settled (asked_with answer m now).after
asked-after m asked None now is = settled-settled m
asked-after m asked (Some answer) now is =
    elim (is_quiet m.state) as
    (λ v. is_quiet m.state ≡ v → settled (asked_with (Some answer) (settled m) now).after ≡ settled (asked_with (Some answer) m now).after) [
      | true ↦ λ quiet. ap (λ n. settled (asked_with (Some answer) n now).after) (settled-quiet m quiet)
      | false ↦ λ loud. loud-after m asked answer now loud is
    ]
    refl

pub asked-acts : (m : Machine) (answer : Option Mode) (now : ℕ) → (asked_with answer (settled m) now).acts ≡ (asked_with answer m now).acts
asked-acts m None now = refl
asked-acts m (Some answer) now =
    elim (is_quiet m.state) as
    (λ v. is_quiet m.state ≡ v → (asked_with (Some answer) (settled m) now).acts ≡ (asked_with (Some answer) m now).acts) [
      | true ↦ λ quiet. ap (λ n. (asked_with (Some answer) n now).acts) (settled-quiet m quiet)
      | false ↦ λ loud. loud-acts m answer now loud
    ]
    refl

-- time

told-settled : (m : Machine) (since : Option ℕ) → settled (record m { abort_at = since }) ≡ record (settled m) { abort_at = since }
unfolding settled backends_gone dead_ends_gone
told-settled m since = grind arith

settled-told : (m : Machine) → settled (record (settled m) { abort_at = None }) ≡ settled (record m { abort_at = None })
settled-told m =
    told-settled (settled m) None ∙ (ap {A = Machine} (λ n. record n { abort_at = None }) (settled-settled m) ∙ sym (told-settled m None))

abbrev is_late : ℕ → ℕ → Machine → Bool
is_late since now m = nat_le (since + patience) now && (m.fatal || is_immediate m.shutdown)

same_late : (m : Machine) (since now : ℕ) → is_late since now (settled m) ≡ is_late since now m
same_late m since now = ap (λ b. nat_le (since + patience) now && (b || is_immediate (settled m).shutdown)) (settled-fatal m)
    ∙ ap (λ o. nat_le (since + patience) now && (m.fatal || is_immediate o)) (settled-shutdown m)

told-if : (b : Bool) (m : Machine)
    → settled (if b then transition (act.KillAll ∷ []) (record (settled m) { abort_at = None }) else transition [] (settled m)).after
    ≡ settled (if b then transition (act.KillAll ∷ []) (record m { abort_at = None }) else transition [] m).after
told-if true m = settled-told m
told-if false m = settled-settled m

pub ticked-after : (m : Machine) (since : Option ℕ) (now : ℕ) → settled (ticked_at since (settled m) now).after ≡ settled (ticked_at since m now).after
ticked-after m None now = settled-settled m
ticked-after m (Some since) now =
    ap (λ b. settled (if b then transition (act.KillAll ∷ []) (record (settled m) { abort_at = None }) else transition [] (settled m)).after)
    (same_late m since now) ∙ told-if (is_late since now m) m

pub ticked-acts : (m : Machine) (since : Option ℕ) (now : ℕ) → (ticked_at since (settled m) now).acts ≡ (ticked_at since m now).acts
unfolding settled backends_gone dead_ends_gone
ticked-acts m since now = grind arith
