-- The starts among the actions, which the caller reports.
use Rattle.std.specs.Prelude.{◌≡◌, ℕ, ◌+◌, Bool, true, false, not, ◌||◌, List, [], ◌∷◌}
use Rattle.pm_supervisor.specs.{pm_exit.declared.child.Kind.Kind, Children.{is_session, is_startup_child, is_checkpointer, is_writer, is_dead_end, one_if}}
use Rattle.pm_state.specs.{declared.{action.Action.Action, machine.Machine.Machine}, Machine.{MachineEvent, Started}}
use Rattle.pm_state.specs.declared.action.Action.TheVariants as act

-- how many children of such a kind the actions start
abbrev pub starts_in : (Kind → Bool) → List Action → ℕ
starts_in test [] = 0
starts_in test (act.Start kind ∷ acts) = one_if (test kind) + starts_in test acts
starts_in test (_ ∷ acts) = starts_in test acts

-- the actions end the server
abbrev pub has_end : List Action → Bool
has_end [] = false
has_end (act.End how ∷ acts) = true
has_end (_ ∷ acts) = has_end acts

-- the actions start a child
abbrev pub has_start : List Action → Bool
has_start [] = false
has_start (act.Start k ∷ acts) = true
has_start (_ ∷ acts) = has_start acts

-- the machine waits for the reports of exactly these starts, and goes on where there is one
abbrev pub Owes : List Action → Machine → Type 0
Owes acts m =
    (starts_in is_startup_child acts ≡ one_if m.startup_due) × (starts_in is_checkpointer acts ≡ one_if m.checkpointer_due)
    × (starts_in is_writer acts ≡ one_if m.writer_due) × (starts_in is_session acts ≡ 0) × (starts_in is_dead_end acts ≡ 0)
    × (not (has_start acts) || not m.ended ≡ true)

abbrev pub is_report : MachineEvent → Bool
is_report (Started kind) = true
is_report _ = false
