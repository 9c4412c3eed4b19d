-- The laws of the supervisor, one for each function of `laws.rt`, whose contract it is.
use Rattle.std.specs.{Prelude.{◌≡◌, ◌++◌, ℕ, Bool, true, false, ◌==◌, if◌then◌else◌, List, [], ◌∷◌, None, IsSomeAnd}, List.AllByRecursion}
use Rattle.pm_exit.specs.declared.child.Kind.{Kind}
use Rattle.pm_supervisor.specs.{Children.{Child, child_of, without, count_of}, declared.{Limits.Limits, Reason.TheVariants.Crash, Ending.{Ending, TheVariants.Clean}}, Supervisor.{Shared, Supervisor, first}, Shared.{SharedEvent, Allows, AllowsAny, IsKept, IsSame, PidsDiffer, after_shared, after_any}, Steps.{SupervisorEvent, Notice, RedoEnded, End, PastEvent, Trace, MayHappen, SharedAllows, shared_after, with_event, IsRun, happened, all_happened, empty_trace, admission, is_ended, shared_of, after}, Invariant.{IsSound, IsWell, ServesWell, AdmitsNone, is_opening, is_reset, is_checkpointed}, Between.{IsAlike, is_child_step, without_child_steps, ChildStepsMayHappen, all_detached, detached}}
use Rattle.pm_modes.specs.Strength.{is_immediate}
use Rattle.pm_admit.specs.declared.Cac.TheVariants.{Ok as Admitted}

pub record StaysSound : Type 0 where
  -- of each event, by what is shared alone
  pub step :
      (limits : Limits) (past : List PastEvent) (s : Shared) (event : SupervisorEvent) → SharedAllows limits past s event
      → IsSound limits.max_connections past s
      → IsSound limits.max_connections (with_event past s event) (shared_after s event)
  pub runs :
      (limits : Limits) (events : List SupervisorEvent) → IsRun limits empty_trace events
      → IsSound limits.max_connections (all_happened empty_trace events).past (all_happened empty_trace events).now.shared

pub record StaysWell : Type 0 where
  pub begins : (limits : Limits) → IsWell limits empty_trace
  pub step :
      (limits : Limits) (h : Trace) (event : SupervisorEvent) → MayHappen limits h event
      → IsWell limits h → IsWell limits (happened h event)
  pub runs :
      (limits : Limits) (h : Trace) (events : List SupervisorEvent) → IsRun limits h events → IsWell limits h
      → IsWell limits (all_happened h events)

abbrev pub AdmitsWhileWell : Type 0
AdmitsWhileWell =
    (limits : Limits) (events : List SupervisorEvent) → IsRun limits empty_trace events
    → admission limits (all_happened empty_trace events).now ≡ Admitted → ServesWell (all_happened empty_trace events).now

-- before the last of these events a crash was noticed, and redo has opened no generation since
abbrev pub noticed_after : List SupervisorEvent → List SupervisorEvent → Trace
noticed_after before between = all_happened (happened (all_happened empty_trace before) (Notice Crash)) between

abbrev pub AdmitsNoneUntilRedo : Type 0
AdmitsNoneUntilRedo =
    (limits : Limits) (before between : List SupervisorEvent) (event : SupervisorEvent)
    → IsRun limits empty_trace (before ++ (Notice Crash ∷ (between ++ event ∷ [])))
    → AllByRecursion (λ e. is_opening e ≡ false) between → AdmitsNone (noticed_after before between).now.shared event

abbrev pub RedoEndsOnce : Type 0
RedoEndsOnce =
    (limits : Limits) (before between : List SupervisorEvent) (opens opens_again : Bool)
    → IsRun limits empty_trace (before ++ (RedoEnded opens ∷ (between ++ RedoEnded opens_again ∷ [])))
    → AllByRecursion (λ e. is_reset e ≡ false) between → ⊥

pub record EndsForGood : Type 0 where
  pub step :
      (limits : Limits) (h : Trace) (event : SupervisorEvent) → is_ended h.now.phase ≡ true → MayHappen limits h event → ⊥
  pub runs :
      (limits : Limits) (before rest : List SupervisorEvent) (how : Ending)
      → IsRun limits empty_trace (before ++ (End how ∷ rest)) → rest ≡ []

abbrev pub EndsCleanBehindACheckpoint : Type 0
EndsCleanBehindACheckpoint =
    (limits : Limits) (h : Trace) → IsWell limits h → MayHappen limits h (End Clean) → is_immediate h.now.request ≡ false
    → is_checkpointed h.past ≡ true

pub record KeepsWhatIsShared : Type 0 where
  pub begins : (limit : ℕ) → IsKept limit first.shared
  pub step :
      (limit : ℕ) (s : Shared) (event : SharedEvent) → Allows limit s event → IsKept limit s
      → IsKept limit (after_shared s event)
  -- the order of the children is nothing: the same may happen, and leaves the same
  pub same_allows :
      (limit : ℕ) (s t : Shared) (event : SharedEvent) → PidsDiffer s.children → PidsDiffer t.children → IsSame s t
      → Allows limit s event → Allows limit t event
  pub same_after :
      (s t : Shared) (event : SharedEvent) → PidsDiffer s.children → PidsDiffer t.children → IsSame s t
      → IsSame (after_shared s event) (after_shared t event)
  -- only the child that leaves is missing
  pub taken :
      (pid other : ℕ) (children : List Child) → PidsDiffer children
      → child_of other (without pid children) ≡ (if pid == other then None else child_of other children)
  -- each step of the supervisor is one of these events, or leaves what is shared as it was
  pub made_of : (s : Supervisor) (event : SupervisorEvent) → (after s event).shared ≡ after_any s.shared (shared_of event)
  pub allowed :
      (limits : Limits) (h : Trace) (event : SupervisorEvent) → MayHappen limits h event
      → AllowsAny limits.max_connections h.now.shared (shared_of event)

-- a run is still one with steps of children anywhere between its events, and leaves the same but for who is attached
pub record TakesChildStepsBetween : Type 0 where
  pub run :
      (limits : Limits) (h : Trace) (events : List SupervisorEvent) → IsKept limits.max_connections h.now.shared
      → IsRun limits h (without_child_steps events) → ChildStepsMayHappen limits h events → IsRun limits h events
  pub leaves :
      (limits : Limits) (h : Trace) (events : List SupervisorEvent) → IsKept limits.max_connections h.now.shared
      → IsRun limits h (without_child_steps events) → ChildStepsMayHappen limits h events
      → IsAlike (all_happened h (without_child_steps events)).now (all_happened h events).now
  pub one : (s : Supervisor) (event : SupervisorEvent) → is_child_step event ≡ true → IsAlike s (after s event)
  -- such supervisors have as many children of each kind
  pub counts :
      (test : Kind → Bool) (s t : Supervisor) → IsAlike s t → count_of test s.shared.children ≡ count_of test t.shared.children
  -- what is known without the children's own steps follows from the other events alone
  pub detaches :
      (s : Shared) (event : SupervisorEvent) → is_child_step event ≡ false
      → detached (shared_after s event) ≡ shared_after (detached s) event
  pub there :
      (pid : ℕ) (kind : Kind) (children : List Child) → IsSomeAnd (child_of pid children) (λ c. c.kind ≡ kind)
      → IsSomeAnd (child_of pid (all_detached children)) (λ c. c.kind ≡ kind)
  pub was_there :
      (pid : ℕ) (kind : Kind) (children : List Child) → IsSomeAnd (child_of pid (all_detached children)) (λ c. c.kind ≡ kind)
      → IsSomeAnd (child_of pid children) (λ c. c.kind ≡ kind)
  pub differ : (children : List Child) → PidsDiffer children → PidsDiffer (all_detached children)
