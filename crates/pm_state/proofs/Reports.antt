-- The starts that a call asks for are reported one by one, and then nothing is due.
use Rattle.std.proofs.Common.{◌≡◌, ℕ, ◌+◌, Bool, true, false, not, ◌||◌, List, [], ◌∷◌, refl, arith}
use Rattle.pm_supervisor.specs.{pm_exit.declared.child.Kind.Kind, declared.Limits.Limits, Children.{is_startup_child, is_checkpointer, is_writer, one_if}, Steps.{SupervisorEvent, Trace, MayHappen, IsRun, happened, all_happened, empty_trace, shared_after, after, is_normal}}
use Rattle.pm_supervisor.specs.pm_exit.declared.child.Kind.TheVariants as kind
use Rattle.pm_supervisor.specs.Steps as supervisor
use Rattle.pm_state.{specs.{declared.{action.Action.Action, machine.Machine.Machine}, Machine.{MachineEvent, step, started_as, IsReady, IsDue}, Starts.{starts_in, has_end, has_start, Owes, is_report}, Transition.Transition, Shows.{machine_at_end, AreFit}, Facts.NothingDue, Journal.all_reported, InStep.reports_of}, proofs.{Acts.step-brief, Telling.{TellsAll, step-tells}}}
use Rattle.pm_state.specs.declared.action.Action.TheVariants as act

due-one : (b : Bool) (n : ℕ) → 1 + n ≡ one_if b → (b ≡ true) × (n ≡ 0)
due-one true n is = (refl, omega (arith, is))
due-one false n is = absurd (omega (arith, is))

pub goes-on : (b : Bool) → not b ≡ true → b ≡ false
goes-on true is = absurd cc
goes-on false is = refl

any-start : (b c : Bool) → not b ≡ true → not c || not b ≡ true
any-start b true is = is
any-start b false is = refl

pub due-first : (k : Kind) (acts : List Action) (m : Machine) → Owes (act.Start k ∷ acts) m → IsDue m k
due-first kind.Startup acts m owes = (due-one m.startup_due (starts_in is_startup_child acts) owes.0).0
due-first kind.Checkpointer acts m owes = (due-one m.checkpointer_due (starts_in is_checkpointer acts) owes.1).0
due-first kind.Writer acts m owes = (due-one m.writer_due (starts_in is_writer acts) owes.2).0
due-first kind.Worker acts m owes = absurd (omega (arith, owes.3))
due-first kind.Backend acts m owes = absurd (omega (arith, owes.3))
due-first kind.DeadEnd acts m owes = absurd (omega (arith, owes.4))

pub owes-later : (k : Kind) (acts : List Action) (m : Machine) → Owes (act.Start k ∷ acts) m → Owes acts (started_as k m)
owes-later kind.Startup acts m owes = (
  (due-one m.startup_due (starts_in is_startup_child acts) owes.0).1,
  omega (arith, owes.1),
  omega (arith, owes.2),
  omega (arith, owes.3),
  omega (arith, owes.4),
  any-start m.ended (has_start acts) owes.5,
)
owes-later kind.Checkpointer acts m owes = (
  omega (arith, owes.0),
  (due-one m.checkpointer_due (starts_in is_checkpointer acts) owes.1).1,
  omega (arith, owes.2),
  omega (arith, owes.3),
  omega (arith, owes.4),
  any-start m.ended (has_start acts) owes.5,
)
owes-later kind.Writer acts m owes = (
  omega (arith, owes.0),
  omega (arith, owes.1),
  (due-one m.writer_due (starts_in is_writer acts) owes.2).1,
  omega (arith, owes.3),
  omega (arith, owes.4),
  any-start m.ended (has_start acts) owes.5,
)
owes-later kind.Worker acts m owes = absurd (omega (arith, owes.3))
owes-later kind.Backend acts m owes = absurd (omega (arith, owes.3))
owes-later kind.DeadEnd acts m owes = absurd (omega (arith, owes.4))

pub reports-fit : (limits : Limits) (acts : List Action) (m : Machine) (h : Trace) → Owes acts m → AreFit limits m h (reports_of h.now.shared.last_pid acts)
reports-fit limits [] m h owes = tt
reports-fit limits (act.Start k ∷ acts) m h owes = (
  (goes-on m.ended owes.5, due-first k acts m owes, omega arith),
  reports-fit limits acts (started_as k m) (happened h (supervisor.Start (h.now.shared.last_pid + 1) k)) (owes-later k acts m owes),
)
reports-fit limits (act.Quit why ∷ acts) m h owes = reports-fit limits acts m h owes
reports-fit limits (act.Terminate ∷ acts) m h owes = reports-fit limits acts m h owes
reports-fit limits (act.KillAll ∷ acts) m h owes = reports-fit limits acts m h owes
reports-fit limits (act.AskCheckpoint ∷ acts) m h owes = reports-fit limits acts m h owes
reports-fit limits (act.Ready ∷ acts) m h owes = reports-fit limits acts m h owes
reports-fit limits (act.Reset ∷ acts) m h owes = reports-fit limits acts m h owes
reports-fit limits (act.Say line ∷ acts) m h owes = reports-fit limits acts m h owes
reports-fit limits (act.End how ∷ acts) m h owes = reports-fit limits acts m h owes

none-due : (b : Bool) → 0 ≡ one_if b → b ≡ false
none-due true is = absurd (omega (arith, is))
none-due false is = refl

pub reported-all : (acts : List Action) (m : Machine) → Owes acts m → NothingDue (all_reported acts m)
reported-all [] m owes =
    record { startup = none-due m.startup_due owes.0; checkpointer = none-due m.checkpointer_due owes.1; writer = none-due m.writer_due owes.2 }
reported-all (act.Start k ∷ acts) m owes = reported-all acts (started_as k m) (owes-later k acts m owes)
reported-all (act.Quit why ∷ acts) m owes = reported-all acts m owes
reported-all (act.Terminate ∷ acts) m owes = reported-all acts m owes
reported-all (act.KillAll ∷ acts) m owes = reported-all acts m owes
reported-all (act.AskCheckpoint ∷ acts) m owes = reported-all acts m owes
reported-all (act.Ready ∷ acts) m owes = reported-all acts m owes
reported-all (act.Reset ∷ acts) m owes = reported-all acts m owes
reported-all (act.Say line ∷ acts) m owes = reported-all acts m owes
reported-all (act.End how ∷ acts) m owes = reported-all acts m owes

pub reports-machine : (acts : List Action) (last : ℕ) (m : Machine) → machine_at_end m (reports_of last acts) ≡ all_reported acts m
reports-machine [] last m = refl
reports-machine (act.Start k ∷ acts) last m = reports-machine acts (last + 1) (started_as k m)
reports-machine (act.Quit why ∷ acts) last m = reports-machine acts last m
reports-machine (act.Terminate ∷ acts) last m = reports-machine acts last m
reports-machine (act.KillAll ∷ acts) last m = reports-machine acts last m
reports-machine (act.AskCheckpoint ∷ acts) last m = reports-machine acts last m
reports-machine (act.Ready ∷ acts) last m = reports-machine acts last m
reports-machine (act.Reset ∷ acts) last m = reports-machine acts last m
reports-machine (act.Say line ∷ acts) last m = reports-machine acts last m
reports-machine (act.End how ∷ acts) last m = reports-machine acts last m

same-end : (a b c : Bool) → not a || not b ≡ true → a ≡ c → not b || not c ≡ true
same-end a b c apart is = grind arith

tells-owes : (o : Transition) → TellsAll o → not (has_end o.acts) || not (has_start o.acts) ≡ true → Owes o.acts o.after
tells-owes o tells apart = (
  tells.startup,
  tells.checkpointer,
  tells.writer,
  tells.sessions,
  tells.dead_ends,
  same-end (has_end o.acts) (has_start o.acts) o.after.ended apart tells.ended,
)

pub step-owes : (m : Machine) (event : MachineEvent) → is_report event ≡ false → IsReady m
    → Owes (step m event).acts (step m event).after
step-owes m event other ready = tells-owes (step m event) (step-tells m event other ready) (step-brief m event).apart

pub report : (k : Kind) (acts : List Action) (m : Machine) → Owes (act.Start k ∷ acts) m → (m.ended ≡ false) × IsDue m k × Owes acts (started_as k m)
report k acts m owes = (goes-on m.ended owes.5, due-first k acts m owes, owes-later k acts m owes)

pub all-done : (m : Machine) → Owes [] m → NothingDue m
all-done m owes = reported-all [] m owes
