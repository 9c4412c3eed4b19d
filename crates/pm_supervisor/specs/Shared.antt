-- What the supervisor and its children share, and what may happen to it, without phase, request, decision or journal: the
-- board of child slots shows no more than this, and each of its steps is one of these events or none.
use Rattle.std.specs.{Prelude.{◌≡◌, ◌≢◌, ◌⊎◌, ℕ, ◌+◌, ◌<◌, ◌≤◌, Bool, true, false, if◌then◌else◌, List, [], ◌∷◌, Option, Some, None, IsSomeAnd}, List.AllByRecursion}
use Rattle.pm_exit.specs.declared.child.Kind.{Kind}
use Rattle.pm_supervisor.specs.{declared.Reason.Reason, Children.{Child, is_session, is_startup_child, is_dead_end, child_of, without, marked, count_of, attached_sessions}, Supervisor.Shared}

pub data SharedEvent : Type 0 where
  -- a child of the present generation joins
  Join : (pid : ℕ) → (kind : Kind) → SharedEvent
  -- so many places are kept from this child
  Attach : (pid reserve : ℕ) → SharedEvent
  Touch : (pid : ℕ) → SharedEvent
  Detach : (pid : ℕ) → SharedEvent
  -- a child of this kind has ended
  Leave : (pid : ℕ) → (kind : Kind) → SharedEvent
  -- no child may attach any more, and all are told to end at once
  Notice : (why : Reason) → SharedEvent
  -- the data are up to date: sessions may attach
  Open : SharedEvent
  -- the next generation begins
  Reset : SharedEvent

-- where a child may attach: a session needs an open generation and room within the limit
abbrev pub MayAttach : (limit reserve : ℕ) → Shared → Child → Type 0
MayAttach limit reserve s c =
    (c.attached ≡ false) × (is_dead_end c.kind ≡ false) × (s.noticed ≡ None)
    × (is_session c.kind ≡ true → (s.is_open ≡ true) × (attached_sessions s.children + reserve < limit))

-- from a child no places are kept, or those that are reserved
abbrev pub IsReserve : (reserved reserve : ℕ) → Type 0
IsReserve reserved reserve = (reserve ≡ 0) ⊎ (reserve ≡ reserved)

-- an event may happen, where so many sessions may be attached
abbrev pub Allows : ℕ → Shared → SharedEvent → Type 0
Allows limit s (Join pid kind) = s.last_pid < pid
Allows limit s (Attach pid reserve) = IsSomeAnd (child_of pid s.children) (MayAttach limit reserve s)
Allows limit s (Touch pid) = IsSomeAnd (child_of pid s.children) (λ c. (c.attached ≡ true) × (c.generation ≡ s.generation))
Allows limit s (Detach pid) = IsSomeAnd (child_of pid s.children) (λ c. c.attached ≡ true)
Allows limit s (Leave pid kind) = IsSomeAnd (child_of pid s.children) (λ c. c.kind ≡ kind)
Allows limit s (Notice why) = Unit {0}
Allows limit s Open =
    (s.is_open ≡ false) × (count_of is_startup_child s.children ≡ 0) × (attached_sessions s.children ≡ 0)
Allows limit s Reset = s.children ≡ []

abbrev pub with_child : ℕ → Kind → Shared → Shared
with_child pid kind s =
    record s { children = record { pid = pid; kind = kind; generation = s.generation; attached = false } ∷ s.children; last_pid = pid }

abbrev pub after_shared : Shared → SharedEvent → Shared
after_shared s (Join pid kind) = with_child pid kind s
after_shared s (Attach pid reserve) = record s { children = marked pid true s.children }
after_shared s (Touch pid) = s
after_shared s (Detach pid) = record s { children = marked pid false s.children }
after_shared s (Leave pid kind) = record s { children = without pid s.children }
after_shared s (Notice why) = record s { noticed = Some why }
after_shared s Open = record s { is_open = true; noticed = None }
after_shared s Reset = record s { generation = s.generation + 1; is_open = false; noticed = None }

-- the end of redo opens the generation, or doesn't
abbrev pub reopened : Bool → Shared → Shared
reopened opens s = if opens then record s { is_open = true; noticed = None } else s

abbrev pub after_any : Shared → Option SharedEvent → Shared
after_any s None = s
after_any s (Some e) = after_shared s e

abbrev pub AllowsAny : ℕ → Shared → Option SharedEvent → Type 0
AllowsAny limit s None = Unit {0}
AllowsAny limit s (Some e) = Allows limit s e

-- no two children have one pid
abbrev pub PidsDiffer : List Child → Type 0
PidsDiffer [] = Unit {0}
PidsDiffer (c ∷ cs) = AllByRecursion (λ d. d.pid ≢ c.pid) cs × PidsDiffer cs

-- what holds of it at every moment
pub record IsKept (limit : ℕ) (s : Shared) : Type 0 where
  pub pids_differ : PidsDiffer s.children
  -- no pid is given twice
  pub pids_rise : AllByRecursion (λ c. c.pid ≤ s.last_pid) s.children
  -- no child of an earlier generation is left
  pub generations : AllByRecursion (λ c. c.generation ≡ s.generation) s.children
  -- a session is attached only in an open generation
  pub attached_in_open : AllByRecursion (λ c. is_session c.kind ≡ true → c.attached ≡ true → s.is_open ≡ true) s.children
  -- a child that refuses a connection is never attached
  pub dead_ends_apart : AllByRecursion (λ c. is_dead_end c.kind ≡ true → c.attached ≡ false) s.children
  pub within_limit : attached_sessions s.children ≤ limit

-- the same children, in whatever order: under each pid there is the same one
abbrev pub SameChildren : List Child → List Child → Type 0
SameChildren cs ds = (pid : ℕ) → child_of pid cs ≡ child_of pid ds

-- the same but for the order of the children
pub record IsSame (s t : Shared) : Type 0 where
  pub generation : s.generation ≡ t.generation
  pub is_open : s.is_open ≡ t.is_open
  pub noticed : s.noticed ≡ t.noticed
  pub children : SameChildren s.children t.children
  pub last_pid : s.last_pid ≡ t.last_pid
