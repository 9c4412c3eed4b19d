-- The children that serve no connection.
use Rattle.std.specs.Prelude.{false, None, ℕ, Some, ◌≡◌, ◌⊎◌, true, Option}
use Rattle.pm_once_children.specs.{declared.auxiliaries.{Auxiliaries.Auxiliaries, Duty.{Duty, TheVariants.{Redo, Checkpoint, Quit, Terminate}}}, AuxiliaryRuns.Heard}
use Rattle.pm_server.specs.{pm_exit.declared.child.Kind.{Kind, TheVariants.{Startup, Checkpointer, Writer}}, pm_supervisor_journal.{declared.act.Act.Act, Standing.Standing}}
use Rattle.pm_server.specs.pm_supervisor_journal.declared.act.Act.TheVariants as act
use Rattle.pm_once_acts.specs.Acts.{IsPresent}
use Rattle.pm_server.specs.pm_exit.declared.child.Kind.TheVariants as kind

abbrev pub nobody : Auxiliaries
nobody = record { startup = None; checkpointer = None; writer = None; is_quit = false; is_terminated = false; is_asked = false }

abbrev pub with_started : ℕ → Kind → Auxiliaries → Auxiliaries
with_started pid Startup auxiliaries = record nobody { startup = Some pid }
with_started pid Checkpointer auxiliaries = record auxiliaries { checkpointer = Some pid }
with_started pid Writer auxiliaries = record auxiliaries { writer = Some pid }
with_started pid _ auxiliaries = auxiliaries

-- what they were told
abbrev pub heard_of : Auxiliaries → Heard
heard_of auxiliaries = record { quit = auxiliaries.is_quit; terminated = auxiliaries.is_terminated; asked = auxiliaries.is_asked }

-- nothing more was told, and there is no other startup child
pub record HasLess (before now : Auxiliaries) : Type 0 where
  pub heard : heard_of now ≡ heard_of before
  pub startup : (now.startup ≡ None) ⊎ (now.startup ≡ before.startup)

-- those that an act leaves
abbrev pub auxiliaries_after : Act → Auxiliaries → Auxiliaries
auxiliaries_after (act.Start pid kind) auxiliaries = with_started pid kind auxiliaries
auxiliaries_after (act.Quit why) auxiliaries = record auxiliaries { is_quit = true }
auxiliaries_after act.Terminate auxiliaries = record auxiliaries { is_terminated = true }
auxiliaries_after act.AskCheckpoint auxiliaries = record auxiliaries { is_asked = true }
auxiliaries_after _ auxiliaries = auxiliaries

-- the checkpointer or the writer was taken off
pub record IsTakenOff (pid : ℕ) (kind : Kind) (before now : Auxiliaries) : Type 0 where
  pub is : ((kind ≡ Checkpointer) × (before.checkpointer ≡ Some pid) × (now ≡ record before { checkpointer = None }))
      ⊎ ((kind ≡ Writer) × (before.writer ≡ Some pid) × (now ≡ record before { writer = None }))

-- the child that has to do this was taken off
abbrev pub IsNextDuty : Option Duty → Auxiliaries → Auxiliaries → Type 0
IsNextDuty None before now = now ≡ before
IsNextDuty (Some (Redo pid)) before now = (before.startup ≡ Some pid) × (now ≡ record before { startup = None })
IsNextDuty (Some (Checkpoint pid)) before now = IsTakenOff pid Checkpointer before now
IsNextDuty (Some (Quit pid kind)) before now = IsTakenOff pid kind before now
IsNextDuty (Some (Terminate pid)) before now = IsTakenOff pid Writer before now

-- nobody has anything to do
pub record HasNoDuty (auxiliaries : Auxiliaries) : Type 0 where
  pub read : auxiliaries.startup ≡ None
  pub quit : auxiliaries.is_quit ≡ true → (auxiliaries.checkpointer ≡ None) × (auxiliaries.writer ≡ None)
  pub terminated : auxiliaries.is_quit ≡ false → auxiliaries.is_terminated ≡ true → auxiliaries.writer ≡ None
  pub asked : auxiliaries.is_quit ≡ false → auxiliaries.is_asked ≡ true → auxiliaries.checkpointer ≡ None

-- why it has to do this: by what it was told
abbrev pub IsDue : Option Duty → Auxiliaries → Type 0
IsDue None before = HasNoDuty before
IsDue (Some (Redo pid)) before = Unit {0}
IsDue (Some (Checkpoint pid)) before = (before.is_quit ≡ false) × (before.is_asked ≡ true)
IsDue (Some (Quit pid kind)) before = before.is_quit ≡ true
IsDue (Some (Terminate pid)) before = (before.is_quit ≡ false) × (before.is_terminated ≡ true)

pub record AreThere (auxiliaries : Auxiliaries) (s : Standing) : Type 0 where
  pub startup : IsPresent auxiliaries.startup Startup s
  pub checkpointer : IsPresent auxiliaries.checkpointer Checkpointer s
  pub writer : IsPresent auxiliaries.writer Writer s

-- the child isn't among those that serve no connection
abbrev pub IsOff : Kind → Auxiliaries → Type 0
IsOff kind.Startup auxiliaries = auxiliaries.startup ≡ None
IsOff kind.Checkpointer auxiliaries = auxiliaries.checkpointer ≡ None
IsOff kind.Writer auxiliaries = auxiliaries.writer ≡ None
IsOff _ auxiliaries = Unit {0}
