-- The moments of a supervisor at work.
use Rattle.std.{proofs.Common.{◌≡◌, inl, inr, ℕ, max, List, [], ◌∷◌, refl, subst, arith}, specs.Prelude.{Bool, true, false, if◌then◌else◌, is_some, nat_le, unwrap_or}}
use Rattle.pm_server.specs.{pm_facts.Bools.by_test, pm_state.{declared.action.Action.Action, Journal.{acts_of_call, without_first}, Shows.TakesTurn}, pm_modes.declared.Mode.Mode}
use Rattle.pm_server.specs.pm_state.declared.action.Action.TheVariants as act
use Rattle.pm_server.specs.pm_state.declared.event.PmEvent.TheVariants as entry
use Rattle.pm_supervisor_journal.{specs.{declared.exit.ChildExit.ChildExit, Moments.AreGiven, Standing.{Standing, accepting, all_noted, asking, called, done, ends_redo, entry_for, exit_call, exit_entry, exiting, later, made, ticking, turning}, Due.AreOurs}, proofs.RulesLaws.turn_rule}
use Rattle.pm_server.specs.pm_supervisor.declared.Ending.TheVariants as endings
use Rattle.pm_postmaster.specs.Serving.{KillsAll, Moments}

module _ (gives : ℕ → Type 0) where
  -- the later of two moments is given, where each is or is the first of all
  pub later_given : (at : ℕ) (s : Standing) → gives at → Moments gives s → gives (later at s)
  later_given at s given was = by_test (nat_le s.moment at)
      (λ is. subst gives (let e : at ≡ max at s.moment = grind (arith, is) in e) given)
      (λ isnt. elim was.last [
        | inl first ↦ absurd (grind (arith, isnt, first))
        | inr last ↦ subst gives (let e : s.moment ≡ max at s.moment = grind (arith, isnt) in e) last
      ])

  -- a call at a moment that is given
  pub asked_moments : (how : Mode) (at : ℕ) (s : Standing) → gives (later at s) → Moments gives (made (asking how at s) s)
  asked_moments how at s given = record { last = inr given; called = λ kills. given }

  pub ticked_moments : (at : ℕ) (s : Standing) → gives (later at s) → Moments gives s → Moments gives (made (ticking at s) s)
  ticked_moments at s given was = record { last = was.last; called = λ kills. given }

  -- none is killed by a turn
  ours_kill_none : (asked : Bool) (acts : List Action) → AreOurs asked acts → KillsAll acts → ⊥
  ours_kill_none asked [] ours kills = kills
  ours_kill_none asked (act.Start k ∷ acts) ours kills = ours_kill_none asked acts ours kills
  ours_kill_none asked (act.Quit why ∷ acts) ours kills = ours_kill_none asked acts ours kills
  ours_kill_none asked (act.Terminate ∷ acts) ours kills = ours_kill_none asked acts ours kills
  ours_kill_none asked (act.KillAll ∷ acts) ours kills = ours
  ours_kill_none asked (act.AskCheckpoint ∷ acts) ours kills = ours_kill_none asked acts ours kills
  ours_kill_none asked (act.Ready ∷ acts) ours kills = ours_kill_none asked acts ours kills
  ours_kill_none asked (act.Reset ∷ acts) ours kills = ours_kill_none asked acts ours.1 kills
  ours_kill_none asked (act.Say line ∷ acts) ours kills = ours_kill_none asked acts ours kills
  ours_kill_none asked (act.End endings.Clean ∷ acts) ours kills = ours_kill_none asked acts ours kills
  ours_kill_none asked (act.End endings.AfterCrash ∷ acts) ours kills = ours_kill_none asked acts ours kills
  ours_kill_none asked (act.End endings.StartupFailed ∷ acts) ours kills = ours_kill_none asked acts ours kills
  ours_kill_none asked (act.End endings.RestartOff ∷ acts) ours kills = ours_kill_none asked acts ours.1 kills

  pub turned_moments : (s : Standing) → Moments gives s → Moments gives (made turning s)
  turned_moments s was = record { last = was.last; called = λ kills. absurd (ours_kill_none (is_some s.machine.shutdown) (acts_of_call s.machine TakesTurn) (turn_rule (is_some s.machine.shutdown) s.machine refl).acts kills) }

  pub accepted_moments : (s : Standing) → Moments gives s → Moments gives (made (accepting s) s)
  accepted_moments s was = record { last = was.last; called = λ kills. absurd kills }

  pub exited_moments : (exit : ChildExit) (at : ℕ) (s : Standing) → gives (later at s) → Moments gives (made (exiting exit at s) s)
  exited_moments exit at s given = by (ends_redo exit)
    where
      by : (b : Bool) → Moments gives (all_noted (exit_entry exit (later at s) ∷ (if b then entry.RedoEnded s.generation (unwrap_or exit.kept 0) ∷ [] else []))
          (called (exit_call exit (later at s)) s))
      by true = record { last = inr given; called = λ kills. given }
      by false = record { last = inr given; called = λ kills. given }

  -- and its entries are given
  pub exited_given : (exit : ChildExit) (at : ℕ) (s : Standing) → gives (later at s) → AreGiven gives (exiting exit at s).entries
  exited_given exit at s given = by (ends_redo exit)
    where
      by : (b : Bool) → AreGiven gives (exit_entry exit (later at s) ∷ (if b then entry.RedoEnded s.generation (unwrap_or exit.kept 0) ∷ [] else []))
      by true = (given, (tt, tt))
      by false = (given, tt)

  -- the first act that is due is done
  first_kills : (acts : List Action) → KillsAll (without_first acts) → KillsAll acts
  first_kills [] kills = kills
  first_kills (act.Start k ∷ acts) kills = kills
  first_kills (act.Quit why ∷ acts) kills = kills
  first_kills (act.Terminate ∷ acts) kills = kills
  first_kills (act.KillAll ∷ acts) kills = tt
  first_kills (act.AskCheckpoint ∷ acts) kills = kills
  first_kills (act.Ready ∷ acts) kills = kills
  first_kills (act.Reset ∷ acts) kills = kills
  first_kills (act.Say line ∷ acts) kills = kills
  first_kills (act.End how ∷ acts) kills = kills

  pub done_moments : (a : Action) (s : Standing) → (a ≡ act.KillAll → KillsAll s.due) → Moments gives s → Moments gives (done a s)
  done_moments (act.Start k) s kills was = record { last = was.last; called = λ later. was.called (first_kills s.due later) }
  done_moments (act.Quit why) s kills was = record { last = was.last; called = λ later. was.called (first_kills s.due later) }
  done_moments act.Terminate s kills was = record { last = was.last; called = λ later. was.called (first_kills s.due later) }
  done_moments act.KillAll s kills was = record { last = inr (was.called (kills refl)); called = λ later. was.called (first_kills s.due later) }
  done_moments act.AskCheckpoint s kills was = record { last = was.last; called = λ later. was.called (first_kills s.due later) }
  done_moments act.Ready s kills was = record { last = was.last; called = λ later. was.called (first_kills s.due later) }
  done_moments act.Reset s kills was = record { last = was.last; called = λ later. was.called (first_kills s.due later) }
  done_moments (act.Say line) s kills was = record { last = was.last; called = λ later. was.called (first_kills s.due later) }
  done_moments (act.End how) s kills was = record { last = was.last; called = λ later. was.called (first_kills s.due later) }

  -- and its moment is given
  pub done_given : (a : Action) (s : Standing) → (a ≡ act.KillAll → KillsAll s.due) → Moments gives s → AreGiven gives (entry_for a s ∷ [])
  done_given (act.Start k) s kills was = (tt, tt)
  done_given (act.Quit why) s kills was = (tt, tt)
  done_given act.Terminate s kills was = (tt, tt)
  done_given act.KillAll s kills was = (was.called (kills refl), tt)
  done_given act.AskCheckpoint s kills was = (tt, tt)
  done_given act.Ready s kills was = (tt, tt)
  done_given act.Reset s kills was = (tt, tt)
  done_given (act.Say line) s kills was = (tt, tt)
  done_given (act.End how) s kills was = (tt, tt)
