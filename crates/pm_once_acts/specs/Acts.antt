-- The requests of a server, and what acts keep of where its supervisor stands.
use Rattle.std.specs.Prelude.{ℕ, Bool, ◌≡◌, ◌+◌, ◌≤◌, List, length, All, false, Option, None, Some, true}
use Rattle.pm_server.specs.{pm_modes.declared.Mode.{Mode, TheVariants.Smart}, pm_supervisor.Children.one_if, pm_supervisor_journal.{Due.is_last_drawn, Standing.Standing, Roll.kind_in, Stands.IsSettled}, pm_exit.declared.child.Kind.Kind}

-- ---- requests

-- Smart shutdowns alone are asked for: one where the port's end has come, and one where the last pid was drawn.
pub record AsksAsDue (asked : List Mode) (listens : Bool) (s : Standing) : Type 0 where
  pub smart : All (λ mode. mode ≡ Smart) asked
  pub few : length asked + one_if s.owes_smart + one_if listens ≤ 1 + one_if (is_last_drawn s.last_pid)

-- ---- a supervisor's children

-- the child is there, if it has a pid
abbrev pub IsPresent : Option ℕ → Kind → Standing → Type 0
IsPresent None kind s = Unit {0}
IsPresent (Some pid) kind s = (kind_in pid s.children ≡ Some kind) × (pid ≤ s.last_pid)

-- ---- acts, one after the other

-- what acts keep of where the supervisor stands
pub record Keeps (before now : Standing) : Type 0 where
  pub auxiliaries : (pid : ℕ) (kind : Kind) → IsPresent (Some pid) kind before → IsPresent (Some pid) kind now
  pub settled : IsSettled before → IsSettled now
  pub drawn : is_last_drawn before.last_pid ≡ true → is_last_drawn now.last_pid ≡ true
  pub unowed : is_last_drawn before.last_pid ≡ true → before.owes_smart ≡ false → now.owes_smart ≡ false
