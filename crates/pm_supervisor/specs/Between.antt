-- Steps of children, which may fall between any two events of the supervisor.
use Rattle.std.specs.Prelude.{◌≡◌, Bool, true, false, if◌then◌else◌, List, [], ◌∷◌}
use Rattle.pm_supervisor.specs.{declared.Limits.Limits, Children.Child, Supervisor.{Shared, Supervisor}, Steps.{SupervisorEvent, Attach, Touch, Detach, Trace, MayHappen, happened}}

-- a child attaches, uses what is shared, or detaches
abbrev pub is_child_step : SupervisorEvent → Bool
is_child_step (Attach pid reserve) = true
is_child_step (Touch pid) = true
is_child_step (Detach pid) = true
is_child_step _ = false

abbrev pub without_child_steps : List SupervisorEvent → List SupervisorEvent
without_child_steps [] = []
without_child_steps (e ∷ es) = if is_child_step e then without_child_steps es else e ∷ without_child_steps es

-- each step of a child may happen where it falls
abbrev pub ChildStepsMayHappen : Limits → Trace → List SupervisorEvent → Type 0
ChildStepsMayHappen limits h [] = Unit {0}
ChildStepsMayHappen limits h (e ∷ es) =
    (is_child_step e ≡ true → MayHappen limits h e) × ChildStepsMayHappen limits (happened h e) es

-- the children, none of them attached
abbrev pub all_detached : List Child → List Child
all_detached [] = []
all_detached (c ∷ cs) = record c { attached = false } ∷ all_detached cs

-- what is shared, with no child attached: what is known of it without the children's own steps
abbrev pub detached : Shared → Shared
detached s = record s { children = all_detached s.children }

abbrev pub with_children : Supervisor → List Child → Supervisor
with_children s cs = record s { shared = record s.shared { children = cs } }

-- the same but for who is attached
pub record IsAlike (s t : Supervisor) : Type 0 where
  pub others : t ≡ with_children s t.shared.children
  pub children : all_detached s.shared.children ≡ all_detached t.shared.children
