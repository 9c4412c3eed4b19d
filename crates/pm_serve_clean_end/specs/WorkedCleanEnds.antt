-- A journal that ended clean with all that the law asks for, and two that didn't.
use Rattle.std.proofs.{Common.{◌≡◌, ◌≢◌, true, false, List, [], ◌∷◌, ◌++◌, refl}, lemmas.List.Elements.{All-from_recursion, All-head}, Math.Nat.le-add_right}
use Rattle.pm_serve_crew.specs.{pm_facts.Bools.absurd_true, pm_exit.declared.child.{Kind.TheVariants.{Backend, Checkpointer, DeadEnd, Startup, Writer}, Status.TheVariants.Code}, pm_modes.declared.Mode.{Mode, TheVariants.{Immediate, Smart}}, pm_supervisor.declared.{Reason.TheVariants.Stop, Ending.TheVariants.Clean}, pm_state.{declared.event.PmEvent.{PmEvent, TheVariants.{Accepted, Asked, CheckpointAsked, Ended, Exited, QuitSent, Said, Started, TerminateSent}}, Exits.{crash_rule, startup_exited}, Journal.{IsLegal, row_of, settled}, TurnRules.{backends_gone, children_gone, dead_ends_gone, end_smart, restart_writer, start_recovery, stop_backends}}, pm_supervisor_journal.Stands.any_moment, pm_supervisor_chain.{WorkedChains.{clean_journal, started}, WorkedSteps.limits}}
use Rattle.pm_serve_crew.specs.pm_admit.declared.Cac.TheVariants as decision
use Rattle.pm_serve_crew.specs.pm_state.declared.action.Line.TheVariants as line
use Rattle.pm_serve_clean_end.specs.CleanEnd.{HasEndedClean}

-- a session comes and goes, a connection is refused after a smart request, and the last checkpoint is written
abbrev pub up_to_its_end : List PmEvent
up_to_its_end =
    started
    ++ (Accepted 4 decision.Ok ∷ Exited 4 Backend (Code 0) false 20 ∷ Asked Smart 30 ∷ Said line.Smart ∷ Accepted 5 decision.Shutdown
    ∷ Exited 5 DeadEnd (Code 0) false 31 ∷ TerminateSent ∷ Exited 3 Writer (Code 0) false 32 ∷ CheckpointAsked
    ∷ Exited 2 Checkpointer (Code 0) false 40 ∷ Said line.Down ∷ [])

-- the shutdown was asked for before redo had ended: there is no content to checkpoint
abbrev pub unread_journal : List PmEvent
unread_journal =
    Started 1 Startup ∷ Asked Smart 2 ∷ Said line.Smart ∷ TerminateSent ∷ Exited 1 Startup (Code 1) false 3 ∷ Started 2 Checkpointer
    ∷ CheckpointAsked ∷ Exited 2 Checkpointer (Code 0) false 4 ∷ Said line.Down ∷ Ended Clean ∷ []

-- nobody waits for a checkpoint
abbrev pub immediate_journal : List PmEvent
immediate_journal =
    started
    ++ (Asked Immediate 20 ∷ Said line.Immediate ∷ QuitSent Stop ∷ Exited 2 Checkpointer (Code 2) true 21 ∷ Exited 3 Writer (Code 2) true 22
    ∷ Said line.Down ∷ Ended Clean ∷ [])

pub takes_clean : HasEndedClean clean_journal
takes_clean =
    record {
      front = up_to_its_end;
      last = refl;
      not_immediate = All-from_recursion (λ (mode : Mode). mode ≢ Immediate) (Smart ∷ []) ((λ is. cc), tt);
      redone = refl;
    }

pub refuses_unread : ¬ (HasEndedClean unread_journal)
refuses_unread ended = (let never : false ≡ true = ended.redone in cc)

pub refuses_immediate : ¬ (HasEndedClean immediate_journal)
refuses_immediate ended = All-head (λ (mode : Mode). mode ≢ Immediate) Immediate [] ended.not_immediate refl

-- ---- they are legal; that the first is one `worked_steps` of `pm_supervisor_chain` has

pub unread_is_legal : IsLegal limits any_moment unread_journal
unfolding settled row_of crash_rule startup_exited start_recovery restart_writer end_smart stop_backends backends_gone dead_ends_gone children_gone
unread_is_legal = (
  (refl, absurd_true, (refl, refl)),
  (
    (refl, absurd_true, (le-add_right 0 2, refl)),
    (
      refl,
      (
        (refl, absurd_true, tt),
        (
          (refl, absurd_true, (refl, (le-add_right 2 1, refl))),
          ((refl, absurd_true, (refl, refl)), (tt, ((refl, absurd_true, (refl, (le-add_right 3 1, refl))), ((refl, absurd_true, refl), (refl, tt))))),
        ),
      ),
    ),
  ),
)

pub immediate_is_legal : IsLegal limits any_moment immediate_journal
unfolding settled row_of crash_rule startup_exited start_recovery restart_writer end_smart stop_backends backends_gone dead_ends_gone children_gone
immediate_is_legal = (
  (refl, absurd_true, (refl, refl)),
  (
    (refl, absurd_true, (refl, (le-add_right 0 5, refl))),
    (
      refl,
      (
        refl,
        (
          (refl, refl),
          (
            (refl, refl),
            (
              refl,
              (
                (refl, absurd_true, (le-add_right 5 15, refl)),
                (refl, (refl, ((refl, absurd_true, (refl, (le-add_right 20 1, refl))), ((refl, absurd_true, (refl, (le-add_right 21 1, refl))), ((refl, absurd_true, refl), (refl, tt)))))),
              ),
            ),
          ),
        ),
      ),
    ),
  ),
)
