-- What holds of the supervisor at every moment of a run.
use Rattle.std.specs.Prelude.{◌≡◌, ◌≢◌, ℕ, Bool, true, false, not, ◌==◌, ◌||◌, List, [], ◌∷◌, None, is_some, IsSomeAnd}
use Rattle.pm_modes.specs.Strength.{is_immediate}
use Rattle.pm_admit.specs.declared.Cac.TheVariants.{Ok as Admitted}
use Rattle.pm_supervisor.specs.declared.Reason.TheVariants as reason
use Rattle.pm_supervisor.specs.{Children.{is_session, is_startup_child, child_of, count_of}, Phase.Phase, Supervisor.{Shared, Supervisor}, Shared.IsKept, declared.Limits.Limits, Steps.{SupervisorEvent, Accept, Attach, Notice, PastEvent, Trace, Once, RedoEnded, Reset, Checkpointed, is_running, redo_has_ended}}
use Rattle.pm_supervisor.specs.Phase as phase

abbrev pub is_redo_ended : SupervisorEvent → Bool
is_redo_ended (RedoEnded opens) = true
is_redo_ended _ = false

-- in this generation the data were brought up to date
abbrev pub HasRecovered : ℕ → List PastEvent → Type 0
HasRecovered generation past =
    Once (λ m. (is_redo_ended m.event ≡ true) × (m.left.generation ≡ generation)) past

-- what is shared with the children is sound, after these events, where so many sessions may be attached
pub record IsSound (limit : ℕ) (past : List PastEvent) (s : Shared) : Type 0 where
  pub kept : IsKept limit s
  -- a generation is open only once its data are up to date
  pub open_after_redo : s.is_open ≡ true → HasRecovered s.generation past

-- while connections are served, nothing stands against a session
pub record ServesWell (s : Supervisor) : Type 0 where
  pub no_crash : s.crash ≡ false
  pub no_request : s.request ≡ None
  pub none_told : s.shared.noticed ≡ None
  pub is_open : s.shared.is_open ≡ true

-- a crash was noticed, and the data weren't up to date again since
abbrev pub awaits_after : SupervisorEvent → Bool → Bool
awaits_after (Notice reason.Crash) before = true
awaits_after (RedoEnded true) before = false
awaits_after _ before = before

abbrev pub awaits_redo : List PastEvent → Bool
awaits_redo [] = false
awaits_redo (m ∷ ms) = awaits_after m.event (awaits_redo ms)

-- redo has ended, and the generation is open
abbrev pub is_opening : SupervisorEvent → Bool
is_opening (RedoEnded true) = true
is_opening _ = false

abbrev pub is_reset : SupervisorEvent → Bool
is_reset Reset = true
is_reset _ = false

-- an event that makes no session: no connection is decided to become one, and no session attaches
abbrev pub AdmitsNone : Shared → SupervisorEvent → Type 0
AdmitsNone s (Accept pid decision) = decision ≢ Admitted
AdmitsNone s (Attach pid reserve) = IsSomeAnd (child_of pid s.children) (λ c. is_session c.kind ≡ false)
AdmitsNone s _ = Unit {0}

-- the data of this generation aren't up to date yet
abbrev pub is_before_redo : Phase → Bool
is_before_redo phase.Init = true
is_before_redo phase.Starting = true
is_before_redo _ = false

-- the last checkpoint was written in this generation
abbrev pub checkpointed_after : SupervisorEvent → Bool → Bool
checkpointed_after Checkpointed before = true
checkpointed_after Reset before = false
checkpointed_after _ before = before

abbrev pub is_checkpointed : List PastEvent → Bool
is_checkpointed [] = false
is_checkpointed (m ∷ ms) = checkpointed_after m.event (is_checkpointed ms)

-- only children that refuse a connection may be left, or none
abbrev pub is_clearing : Phase → Bool
is_clearing phase.Clearing = true
is_clearing phase.Clear = true
is_clearing _ = false

-- what holds at every moment of a run
pub record IsWell (limits : Limits) (h : Trace) : Type 0 where
  pub sound : IsSound limits.max_connections h.past h.now.shared
  pub serves : h.now.phase ≡ phase.Running → ServesWell h.now
  -- redo ends once in a generation, and not while a startup child is there
  pub before_redo : not (is_before_redo h.now.phase) || not (redo_has_ended h.past) ≡ true
  pub startup_child : (count_of is_startup_child h.now.shared.children == 0) || not (redo_has_ended h.past) ≡ true
  -- from the noticing of a crash until redo has ended nothing serves
  pub not_running : not (awaits_redo h.past) || not (is_running h.now.phase) ≡ true
  pub closed : not (awaits_redo h.past) || (is_some h.now.shared.noticed || not h.now.shared.is_open) ≡ true
  -- with no crash and no immediate request the children are cleared only after the last checkpoint
  pub checkpointed :
      not (is_clearing h.now.phase) || (h.now.crash || (is_immediate h.now.request || is_checkpointed h.past)) ≡ true
