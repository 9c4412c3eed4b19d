-- Each rule of a turn keeps the facts, and moves the phase where it may: it does something in one state alone, and there it
-- changes the state and what is due.
use Rattle.std.{proofs.Common.{◌≡◌, Bool, true, false, not, ◌||◌, refl, arith, subst, inl, inr}, specs.Prelude.◌⊎◌}
use Rattle.pm_supervisor.specs.{pm_modes.Strength.is_immediate, pm_admit.declared.PmState.PmState, declared.Limits.Limits, Supervisor.Supervisor, Steps.{Trace, IsRun}}
use Rattle.pm_supervisor.specs.pm_admit.declared.PmState.TheVariants as state
use Rattle.pm_state.{specs.{declared.machine.{StartupStatus.StartupStatus, Machine.Machine}, TurnRules.{start_recovery, restart_writer, end_smart, stop_backends, backends_gone, dead_ends_gone, startup_starts, are_backends_gone}, Shows.{phase_of, move_of}, Facts.{Facts, HoldsIn, IsAlone, starts_in_startup, startup_is_there, has_checkpointer}}, proofs.ChildLaws.nobody}
use Rattle.pm_state.specs.declared.machine.StartupStatus.TheVariants as startup

-- nothing is done
stayed : (limits : Limits) (m n : Machine) (s : Supervisor) → n ≡ m → Facts limits m s → Facts limits n (record s { phase = phase_of n })
stayed limits m n s same facts =
    rw same (subst (λ p. Facts limits m (record s { phase = p })) facts.shows.phase facts)

-- the machine in this state, with these starts due
abbrev moved_to : PmState → Bool → Bool → Machine → Machine
moved_to p checkpointer writer m = record m { state = p; checkpointer_due = checkpointer; writer_due = writer }

-- what has to hold there
record FitsIn (n : Machine) (s : Supervisor) : Type 0 where
  in_state : HoldsIn n.state n s.shared.noticed s.shared.is_open
  starts : starts_in_startup n ≡ true
  there : startup_is_there n ≡ true
  checkpoints : has_checkpointer n ≡ true

alone-moved : (status : StartupStatus) (p : PmState) (checkpointer writer : Bool) (m : Machine) → IsAlone status m
    → IsAlone status (moved_to p checkpointer writer m)
alone-moved startup.NotRunning p checkpointer writer m alone = tt
alone-moved startup.Running p checkpointer writer m alone = alone
alone-moved startup.Signalled p checkpointer writer m alone = alone

moved : (limits : Limits) (m : Machine) (s : Supervisor) (p : PmState) (checkpointer writer : Bool) → Facts limits m s
    → FitsIn (moved_to p checkpointer writer m) s
    → Facts limits (moved_to p checkpointer writer m) (record s { phase = phase_of (moved_to p checkpointer writer m) })
moved limits m s p checkpointer writer facts fits =
    record {
      same_limits = facts.same_limits;
      shows = record {
        phase = refl;
        crash = facts.shows.crash;
        request = facts.shows.request;
        sessions = facts.shows.sessions;
        dead_ends = facts.shows.dead_ends;
        startup = facts.shows.startup;
        checkpointer = facts.shows.checkpointer;
        writer = facts.shows.writer;
      };
      in_state = fits.in_state;
      alone = alone-moved m.startup p checkpointer writer m facts.alone;
      told = facts.told;
      stop = facts.stop;
      crash = facts.crash;
      starts = fits.starts;
      there = fits.there;
      aborts = facts.aborts;
      opened = facts.opened;
      closed = facts.closed;
      noticed = facts.noticed;
      recovers = facts.recovers;
      checkpoints = fits.checkpoints;
    }

-- a rule leaves the machine as it was, or leaves this one where its condition holds
abbrev Does : Type 0 → Machine → Machine → Machine → Type 0
Does when m left n = (n ≡ m) ⊎ (when × (n ≡ left))

by-does : (limits : Limits) (m left n : Machine) (s : Supervisor) (when : Type 0) → Does when m left n → Facts limits m s
    → (when → Facts limits left (record s { phase = phase_of left })) → Facts limits n (record s { phase = phase_of n })
by-does limits m left n s when does facts then_ =
    elim does as (λ _. Facts limits n (record s { phase = phase_of n })) [
      | inl same ↦ stayed limits m n s same facts
      | inr is ↦ rw is.1 (then_ is.0)
    ]

does-ended : (m left n : Machine) (when : Type 0) → Does when m left n → left.ended ≡ m.ended → n.ended ≡ m.ended
does-ended m left n when does same =
    elim does as (λ _. n.ended ≡ m.ended) [
      | inl is ↦ rw is refl
      | inr is ↦ rw is.1 same
    ]

-- a rule that moves, if it does anything
abbrev Moves : (Machine → Type 0) → PmState → Machine → Machine → Type 0
Moves when p m n = Does (when m) m (moved_to p m.checkpointer_due m.writer_due m) n

by-moves : (limits : Limits) (m n : Machine) (s : Supervisor) (when : Machine → Type 0) (p : PmState) → Moves when p m n → Facts limits m s
    → (when m → FitsIn (moved_to p m.checkpointer_due m.writer_due m) s) → Facts limits n (record s { phase = phase_of n })
by-moves limits m n s when p moves facts fits =
    by-does limits m (moved_to p m.checkpointer_due m.writer_due m) n s (when m) moves facts
    (λ is. moved limits m s p m.checkpointer_due m.writer_due facts (fits is))

moves-ended : (when : Machine → Type 0) (p : PmState) (m n : Machine) → Moves when p m n → n.ended ≡ m.ended
moves-ended when p m n moves = does-ended m (moved_to p m.checkpointer_due m.writer_due m) n (when m) moves refl

-- recovery starts

abbrev IsInit : Machine → Type 0
IsInit m = m.state ≡ state.Init

start_recovery-does : (m : Machine) → Does (IsInit m) m (startup_starts m) (start_recovery m).after
unfolding start_recovery
start_recovery-does m = grind arith

pub start_recovery-ended : (m : Machine) → (start_recovery m).after.ended ≡ m.ended
start_recovery-ended m = does-ended m (startup_starts m) (start_recovery m).after (IsInit m) (start_recovery-does m) refl

pub start_recovery-run : (limits : Limits) (m : Machine) (h : Trace) → m.ended ≡ false → Facts limits m h.now
    → IsRun limits h (move_of (phase_of m) (phase_of (start_recovery m).after))
unfolding start_recovery
start_recovery-run limits m h goes_on facts = grind arith

started-facts : (limits : Limits) (m : Machine) (s : Supervisor) → IsInit m → Facts limits m s
    → Facts limits (startup_starts m) (record s { phase = phase_of (startup_starts m) })
started-facts limits m s is facts =
    record {
      same_limits = facts.same_limits;
      shows = record {
        phase = refl;
        crash = facts.shows.crash;
        request = facts.shows.request;
        sessions = facts.shows.sessions;
        dead_ends = facts.shows.dead_ends;
        startup = grind arith;
        checkpointer = facts.shows.checkpointer;
        writer = facts.shows.writer;
      };
      in_state = grind arith;
      alone = grind arith;
      told = grind arith;
      stop = facts.stop;
      crash = facts.crash;
      starts = grind arith;
      there = grind arith;
      aborts = facts.aborts;
      opened = grind arith;
      closed = facts.closed;
      noticed = facts.noticed;
      recovers = facts.recovers;
      checkpoints = refl;
    }

pub start_recovery-facts : (limits : Limits) (m : Machine) (s : Supervisor) → Facts limits m s
    → Facts limits (start_recovery m).after (record s { phase = phase_of (start_recovery m).after })
start_recovery-facts limits m s facts =
    by-does limits m (startup_starts m) (start_recovery m).after s (IsInit m) (start_recovery-does m) facts (λ is. started-facts limits m s is facts)

-- a writer is started again

abbrev LacksWriter : Machine → Type 0
LacksWriter m = (m.state ≡ state.Run) × (m.conns ≡ true) × (m.writer ≡ false)

restart_writer-does : (m : Machine) → Does (LacksWriter m) m (moved_to m.state m.checkpointer_due true m) (restart_writer m).after
unfolding restart_writer
restart_writer-does m = grind arith

pub restart_writer-ended : (m : Machine) → (restart_writer m).after.ended ≡ m.ended
restart_writer-ended m = does-ended m (moved_to m.state m.checkpointer_due true m) (restart_writer m).after (LacksWriter m) (restart_writer-does m) refl

writer-fits : (limits : Limits) (m : Machine) (s : Supervisor) → LacksWriter m → Facts limits m s
    → FitsIn (moved_to m.state m.checkpointer_due true m) s
writer-fits limits m s lacks facts =
    record { in_state = grind arith; starts = facts.starts; there = facts.there; checkpoints = facts.checkpoints }

pub restart_writer-facts : (limits : Limits) (m : Machine) (s : Supervisor) → Facts limits m s
    → Facts limits (restart_writer m).after (record s { phase = phase_of (restart_writer m).after })
restart_writer-facts limits m s facts =
    by-does limits m (moved_to m.state m.checkpointer_due true m) (restart_writer m).after s (LacksWriter m) (restart_writer-does m) facts
    (λ is. moved limits m s m.state m.checkpointer_due true facts (writer-fits limits m s is facts))

-- a smart shutdown goes on

abbrev IsDrained : Machine → Type 0
IsDrained m = (m.state ≡ state.Run) × (m.conns ≡ false) × (m.children ≡ 0)

end_smart-does : (m : Machine) → Moves IsDrained state.StopBackends m (end_smart m).after
unfolding end_smart
end_smart-does m = grind arith

pub end_smart-ended : (m : Machine) → (end_smart m).after.ended ≡ m.ended
end_smart-ended m = moves-ended IsDrained state.StopBackends m (end_smart m).after (end_smart-does m)

pub end_smart-run : (limits : Limits) (m : Machine) (h : Trace) → m.ended ≡ false → Facts limits m h.now
    → IsRun limits h (move_of (phase_of m) (phase_of (end_smart m).after))
unfolding end_smart
end_smart-run limits m h goes_on facts = grind arith

drained-fits : (limits : Limits) (m : Machine) (s : Supervisor) → Facts limits m s → IsDrained m
    → FitsIn (moved_to state.StopBackends m.checkpointer_due m.writer_due m) s
drained-fits limits m s facts drained = record { in_state = grind arith; starts = grind arith; there = refl; checkpoints = refl }

pub end_smart-facts : (limits : Limits) (m : Machine) (s : Supervisor) → Facts limits m s
    → Facts limits (end_smart m).after (record s { phase = phase_of (end_smart m).after })
end_smart-facts limits m s facts =
    by-moves limits m (end_smart m).after s IsDrained state.StopBackends (end_smart-does m) facts (drained-fits limits m s facts)

-- sessions and background children are told to end

abbrev IsStopping : Machine → Type 0
IsStopping m = m.state ≡ state.StopBackends

stop_backends-does : (m : Machine) → Moves IsStopping state.WaitBackends m (stop_backends m).after
unfolding stop_backends
stop_backends-does m = grind arith

pub stop_backends-ended : (m : Machine) → (stop_backends m).after.ended ≡ m.ended
stop_backends-ended m = moves-ended IsStopping state.WaitBackends m (stop_backends m).after (stop_backends-does m)

stopping-fits : (limits : Limits) (m : Machine) (s : Supervisor) → Facts limits m s → IsStopping m
    → FitsIn (moved_to state.WaitBackends m.checkpointer_due m.writer_due m) s
stopping-fits limits m s facts stopping = record { in_state = grind arith; starts = grind arith; there = refl; checkpoints = refl }

pub stop_backends-facts : (limits : Limits) (m : Machine) (s : Supervisor) → Facts limits m s
    → Facts limits (stop_backends m).after (record s { phase = phase_of (stop_backends m).after })
stop_backends-facts limits m s facts =
    by-moves limits m (stop_backends m).after s IsStopping state.WaitBackends (stop_backends-does m) facts (stopping-fits limits m s facts)

-- they have ended

abbrev IsClean : Machine → Type 0
IsClean m = (m.state ≡ state.WaitBackends) × (are_backends_gone m ≡ true) × (m.fatal || is_immediate m.shutdown ≡ false)

abbrev IsUnclean : Machine → Type 0
IsUnclean m = (m.state ≡ state.WaitBackends) × (are_backends_gone m ≡ true) × (m.fatal || is_immediate m.shutdown ≡ true) × (m.checkpointer ≡ false)

abbrev asks_checkpoint : Machine → Machine
asks_checkpoint m = moved_to state.Shutdown (m.checkpointer_due || not m.checkpointer) m.writer_due m

backends_gone-does : (m : Machine) → Moves IsUnclean state.WaitDeadEnd m (backends_gone m).after ⊎ (IsClean m × ((backends_gone m).after ≡ asks_checkpoint m))
unfolding backends_gone
backends_gone-does m = grind arith

pub backends_gone-ended : (m : Machine) → (backends_gone m).after.ended ≡ m.ended
unfolding backends_gone
backends_gone-ended m = grind arith

pub backends_gone-run : (limits : Limits) (m : Machine) (h : Trace) → m.ended ≡ false → Facts limits m h.now
    → IsRun limits h (move_of (phase_of m) (phase_of (backends_gone m).after))
unfolding backends_gone
backends_gone-run limits m h goes_on facts = grind arith

unclean-fits : (limits : Limits) (m : Machine) (s : Supervisor) → Facts limits m s → IsUnclean m
    → FitsIn (moved_to state.WaitDeadEnd m.checkpointer_due m.writer_due m) s
unclean-fits limits m s facts unclean = record { in_state = grind arith; starts = grind arith; there = refl; checkpoints = refl }

clean-fits : (limits : Limits) (m : Machine) (s : Supervisor) → Facts limits m s → IsClean m → FitsIn (asks_checkpoint m) s
clean-fits limits m s facts clean = record { in_state = grind arith; starts = grind arith; there = refl; checkpoints = grind arith }

pub backends_gone-facts : (limits : Limits) (m : Machine) (s : Supervisor) → Facts limits m s
    → Facts limits (backends_gone m).after (record s { phase = phase_of (backends_gone m).after })
backends_gone-facts limits m s facts =
    let n : Machine = (backends_gone m).after in
    elim (backends_gone-does m) as (λ _. Facts limits n (record s { phase = phase_of n })) [
      | inl moves ↦ by-moves limits m n s IsUnclean state.WaitDeadEnd moves facts (unclean-fits limits m s facts)
      | inr does ↦ rw does.1
          (moved limits m s state.Shutdown (m.checkpointer_due || not m.checkpointer) m.writer_due facts (clean-fits limits m s facts does.0))
    ]

-- no child is left

abbrev IsEmpty : Machine → Type 0
IsEmpty m = (m.state ≡ state.WaitDeadEnd) × (m.dead_ends ≡ 0)

dead_ends_gone-does : (m : Machine) → Moves IsEmpty state.NoChildren m (dead_ends_gone m).after
unfolding dead_ends_gone
dead_ends_gone-does m = grind arith

pub dead_ends_gone-ended : (m : Machine) → (dead_ends_gone m).after.ended ≡ m.ended
dead_ends_gone-ended m = moves-ended IsEmpty state.NoChildren m (dead_ends_gone m).after (dead_ends_gone-does m)

pub dead_ends_gone-run : (limits : Limits) (m : Machine) (h : Trace) → m.ended ≡ false → Facts limits m h.now
    → IsRun limits h (move_of (phase_of m) (phase_of (dead_ends_gone m).after))
unfolding dead_ends_gone
dead_ends_gone-run limits m h goes_on facts = grind (arith, nobody h.now.shared.children)

empty-fits : (limits : Limits) (m : Machine) (s : Supervisor) → Facts limits m s → IsEmpty m
    → FitsIn (moved_to state.NoChildren m.checkpointer_due m.writer_due m) s
empty-fits limits m s facts empty = record { in_state = grind arith; starts = grind arith; there = refl; checkpoints = refl }

pub dead_ends_gone-facts : (limits : Limits) (m : Machine) (s : Supervisor) → Facts limits m s
    → Facts limits (dead_ends_gone m).after (record s { phase = phase_of (dead_ends_gone m).after })
dead_ends_gone-facts limits m s facts =
    by-moves limits m (dead_ends_gone m).after s IsEmpty state.NoChildren (dead_ends_gone-does m) facts (empty-fits limits m s facts)
