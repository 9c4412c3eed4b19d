-- Where nothing is due, the acts of the next call may be done.
use Rattle.std.{proofs.Common.{◌≡◌, ℕ, List, [], ◌∷◌, refl, sym, ap, subst, ◌∙◌, length}, specs.{Prelude.{Bool, true, false, ◌||◌, if◌then◌else◌, Option, Some}, Option.unwrap_or}}
use Rattle.pm_board.specs.{pm_exit.declared.child.Kind.Kind, pm_supervisor.{declared.Limits.Limits, Between.all_detached, Children.Child, Steps.Trace}, Gate.{Gate, gate_of}, declared.roster.Released.Released}
use Rattle.pm_supervisor_journal.{specs.{pm_state.{declared.{action.Action.Action, event.PmEvent.PmEvent}, Laws.TellsOfEachStart, Machine.IsReady, Starts.{Owes, has_end}, Shows.{Call, Exits, IsFit}, InStep.IsInStep, Journal.{acts_of_call, all_replayed, replay_begun}}, declared.{roll.Enrolled.Enrolled, exit.ChildExit.ChildExit}, Laws.KeepsALegalJournal, Roll.{kind_in, roll_of, without}, Standing.{IsAtRest, Standing, all_noted, called, ends_redo, exit_call, exit_entry, exiting, later, made, redo_entries}, Stands.Stands}, proofs.{RollLaws.on-roll, NextsLaws.noted-due}}
use Rattle.pm_board.specs.pm_board_words.declared.views.Letter as Letter
use Rattle.pm_board_acts.{specs.{Board.seat_at, Calls.exit_of, Sitting.HasReaped, Acts.{StartsAfresh, MayDo, gate_by, gate_shown, roll_behind}, Seating.{Move, journal_of}, Standing.{IsAt, IsRunning, View}}, proofs.{Afresh.afresh_exited, Calling.on_the_roll, Turning.calls_may}}
use Rattle.pm_supervisor_journal.specs.pm_state.declared.event.PmEvent.TheVariants as entry

ready : TellsOfEachStart → (limits : Limits) (told : Option (List PmEvent)) (s : Standing) (h : Trace) → Stands limits told s h → IsAtRest s → IsReady s.machine
ready tells limits told s h stands rest =
    let owes : Owes [] s.machine = subst (λ (d : List Action). Owes d s.machine) rest.none_due stands.coming.owes in
    let none = tells.done s.machine owes in
    record {
      goes_on = sym stands.coming.ended ∙ (ap (λ (d : List Action). s.ended || has_end d) rest.none_due ∙ ap (λ (b : Bool). b || false) rest.goes_on);
      startup_reported = none.startup;
      checkpointer_reported = none.checkpointer;
      writer_reported = none.writer;
    }

same_roll : (cs : List Child) → roll_of (all_detached cs) ≡ roll_of cs
same_roll [] = refl
same_roll (c ∷ cs) = ap (λ (es : List Enrolled). record { pid = c.pid; kind = c.kind } ∷ es) (same_roll cs)

-- the roll is that of the supervisor's children
rolled : (limits : Limits) (journal : List PmEvent) (s : Standing) (h : Trace) → (stands : Stands limits (Some journal) s h)
    → IsInStep limits (record { replay = all_replayed (replay_begun limits) journal; machine = s.machine; trace = h }) → s.children ≡ roll_of h.now.shared.children
rolled limits journal s h stands step =
    stands.remembers.children
    ∙ (ap (λ (es : List PmEvent). roll_of (all_replayed (replay_begun limits) es).shown.children) (sym stands.told_is)
    ∙ (ap (λ x. roll_of x.children) step.shown ∙ same_roll h.now.shared.children))

module _ {D : Type 0} where
  -- the end of a child
  pub exit_may : TellsOfEachStart → KeepsALegalJournal → (limits : Limits) (count : ℕ) (moves : List Move) (v : View D) (pid : ℕ) (kind : Kind) (status : _) (was_active : Bool) (now : ℕ)
      → IsAt limits count moves v → IsAtRest v.work.standing → kind_in pid v.work.standing.children ≡ Some kind
      → MayDo (acts_of_call v.work.standing.machine (Exits pid kind status was_active now)) (gate_of v.board) (without pid v.work.standing.children)
  exit_may tells keeps limits count moves v pid kind status was_active now at rest there =
      let s : Standing = v.work.standing in
      let step = keeps.in_step limits (journal_of count moves) s at.past at.stands rest.none_due in
      let roll : s.children ≡ roll_of at.past.now.shared.children = rolled limits (journal_of count moves) s at.past at.stands step in
      let gates : gate_of v.board ≡ gate_shown at.past.now.shared = sym (ap (λ (acts : List Action). gate_by acts (gate_of v.board)) rest.none_due) ∙ at.gate in
      subst (λ (g : Gate). MayDo (acts_of_call s.machine (Exits pid kind status was_active now)) g (without pid s.children)) (sym gates)
      (subst (λ (cs : List Enrolled). MayDo (acts_of_call s.machine (Exits pid kind status was_active now)) (gate_shown at.past.now.shared) (without pid cs)) (sym roll)
      (calls_may limits _ (Exits pid kind status was_active now) step
      (ready tells limits (Some (journal_of count moves)) s at.past at.stands rest, on-roll pid kind at.past.now.shared.children (sym (ap (kind_in pid) roll) ∙ there))))

  -- and every call that tells of none: a turn, the time, a request
  pub call_may : TellsOfEachStart → KeepsALegalJournal → (limits : Limits) (count : ℕ) (moves : List Move) (v : View D) (call : Call)
      → IsAt limits count moves v → IsAtRest v.work.standing → ((h : Trace) → IsReady v.work.standing.machine → IsFit limits v.work.standing.machine h call) → ((roll : List Enrolled) → roll_behind call roll ≡ roll)
      → MayDo (acts_of_call v.work.standing.machine call) (gate_of v.board) v.work.standing.children
  call_may tells keeps limits count moves v call at rest fit still =
      let s : Standing = v.work.standing in
      let step = keeps.in_step limits (journal_of count moves) s at.past at.stands rest.none_due in
      let roll : s.children ≡ roll_of at.past.now.shared.children = rolled limits (journal_of count moves) s at.past at.stands step in
      let gates : gate_of v.board ≡ gate_shown at.past.now.shared = sym (ap (λ (acts : List Action). gate_by acts (gate_of v.board)) rest.none_due) ∙ at.gate in
      subst (λ (g : Gate). MayDo (acts_of_call s.machine call) g s.children) (sym gates)
      (subst (λ (cs : List Enrolled). MayDo (acts_of_call s.machine call) (gate_shown at.past.now.shared) cs) (sym (roll ∙ sym (still (roll_of at.past.now.shared.children))))
      (calls_may limits _ call step (fit at.past (ready tells limits (Some (journal_of count moves)) s at.past at.stands rest))))

children_left : (exit : ChildExit) (at : ℕ) (s t : Standing) (redo : List PmEvent) (b : Bool) (g n : ℕ) → redo ≡ (if b then entry.RedoEnded g n ∷ [] else [])
    → (all_noted (exit_entry exit at ∷ redo) t).children ≡ without exit.pid t.children
children_left exit at s t redo b g n is = ap (λ (es : List PmEvent). (all_noted (exit_entry exit at ∷ es) t).children) is ∙ both b
  where
    both : (c : Bool) → (all_noted (exit_entry exit at ∷ (if c then entry.RedoEnded g n ∷ [] else [])) t).children ≡ without exit.pid t.children
    both true = refl
    both false = refl

module _ {D : Type 0} where
  -- where the end of a child was noted, the acts that it asks for may be done
  pub exited_may : TellsOfEachStart → KeepsALegalJournal → (v w : View D) (exit : ChildExit) (now : ℕ) → IsRunning v → IsAtRest v.work.standing
      → kind_in exit.pid v.work.standing.children ≡ Some exit.kind → w.work.standing ≡ made (exiting exit now v.work.standing) v.work.standing → gate_of w.board ≡ gate_of v.board
      → MayDo w.work.standing.due (gate_of w.board) w.work.standing.children
  exited_may tells keeps v w exit now running rest there after gates =
      let s : Standing = v.work.standing in
      let call : Call = exit_call exit (later now s) in
      let es : List PmEvent = (exiting exit now s).entries in
      subst (λ (x : Standing). MayDo x.due (gate_of w.board) x.children) (sym after)
      (subst (λ (due : List Action). MayDo due (gate_of w.board) (made (exiting exit now s) s).children) (sym (noted-due es (called call s)))
      (subst (λ (cs : List Enrolled). MayDo (acts_of_call s.machine call) (gate_of w.board) cs) (sym (children_left exit (later now s) s (called call s) (redo_entries exit s) (ends_redo exit) s.generation (unwrap_or exit.kept 0) refl))
      (subst (λ (g : Gate). MayDo (acts_of_call s.machine call) g (without exit.pid s.children)) (sym gates)
      (exit_may tells keeps running.0 running.1 running.2 v exit.pid exit.kind exit.status exit.was_active (later now s) running.3 rest there))))

  -- and in the slots of the children that may be started none has died attached
  pub exited_fresh : {J : Type 0} (letter : Letter.Ghosts J D) → KeepsALegalJournal → (v w : View D) (k now : ℕ) (c : Enrolled) (released : Released J) (kept : Option ℕ) → IsAtRest v.work.standing
      → seat_at k v.seats ≡ Some c → HasReaped letter k c released v.board w.board → (limits : Limits) (count : ℕ) (moves : List Move) → IsAt limits count moves v
      → StartsAfresh w.board (called (exiting (exit_of kept released) now v.work.standing).call v.work.standing).due (called (exiting (exit_of kept released) now v.work.standing).call v.work.standing).machine
  exited_fresh letter keeps v w k now c released kept rest sits has limits count moves at =
      let s : Standing = v.work.standing in
      let step = keeps.in_step limits (journal_of count moves) s at.past at.stands rest.none_due in
      let roll : s.children ≡ roll_of at.past.now.shared.children = rolled limits (journal_of count moves) s at.past at.stands step in
      let on : kind_in released.pid s.children ≡ Some released.kind =
      ap (λ (p : ℕ). kind_in p s.children) has.pid ∙ (on_the_roll count moves v.board v.seats s k c at.seated sits ∙ ap Some (sym has.kind)) in
      afresh_exited letter limits (length at.seated.seating.seats) k (later now s) c released v.board w.board s.machine at.past
      (keeps.holds limits (Some (journal_of count moves)) s at.past at.stands rest.none_due).facts
      (on-roll released.pid released.kind at.past.now.shared.children (sym (ap (kind_in released.pid) roll) ∙ on))
      has (at.seated.right k c (sym (ap (seat_at k) at.seated.at_hand) ∙ sits))
      (subst (λ (due : List Action). StartsAfresh v.board due s.machine) rest.none_due at.afresh)
