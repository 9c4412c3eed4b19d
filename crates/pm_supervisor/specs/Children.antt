-- The children of the supervisor: a list of those that are there.
use Rattle.std.specs.Prelude.{ℕ, ◌+◌, Bool, true, false, ◌==◌, ◌&&◌, if◌then◌else◌, List, [], ◌∷◌, Option, Some, None}
use Rattle.pm_exit.specs.declared.child.Kind.{Kind}
use Rattle.pm_exit.specs.declared.child.Kind.TheVariants as kind

-- one run of a child from its start to its end
pub record Child : Type 0 where
  pub pid : ℕ
  pub kind : Kind
  -- the generation that it was started in
  pub generation : ℕ
  -- it may touch what the generation shares
  pub attached : Bool

-- it serves a connection or is a background worker, so it counts for the limits
abbrev pub is_session : Kind → Bool
is_session kind.Backend = true
is_session kind.Worker = true
is_session _ = false

abbrev pub is_startup_child : Kind → Bool
is_startup_child kind.Startup = true
is_startup_child _ = false

abbrev pub is_checkpointer : Kind → Bool
is_checkpointer kind.Checkpointer = true
is_checkpointer _ = false

abbrev pub is_writer : Kind → Bool
is_writer kind.Writer = true
is_writer _ = false

abbrev pub is_dead_end : Kind → Bool
is_dead_end kind.DeadEnd = true
is_dead_end _ = false

-- the child with this pid
abbrev pub child_of : ℕ → List Child → Option Child
child_of pid [] = None
child_of pid (c ∷ cs) = if c.pid == pid then Some c else child_of pid cs

-- the children without the one with this pid
abbrev pub without : ℕ → List Child → List Child
without pid [] = []
without pid (c ∷ cs) = if c.pid == pid then cs else c ∷ without pid cs

-- the children, with the one with this pid attached or not
abbrev pub marked : ℕ → Bool → List Child → List Child
marked pid attached [] = []
marked pid attached (c ∷ cs) =
    if c.pid == pid then record c { attached = attached } ∷ cs else c ∷ marked pid attached cs

abbrev pub one_if : Bool → ℕ
one_if true = 1
one_if false = 0

-- how many children are of such a kind
abbrev pub count_of : (Kind → Bool) → List Child → ℕ
count_of test [] = 0
count_of test (c ∷ cs) = one_if (test c.kind) + count_of test cs

-- how many sessions are attached
abbrev pub attached_sessions : List Child → ℕ
attached_sessions [] = 0
attached_sessions (c ∷ cs) = one_if (is_session c.kind && c.attached) + attached_sessions cs
