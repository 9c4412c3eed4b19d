-- What follows where a supervisor at work stands.
use Rattle.std.{proofs.Common.{◌≡◌, ℕ, ◌≤◌, Bool, true, false, List, [], ◌∷◌, ◌++◌, Some, refl, ap, sym, ◌∙◌, subst, arith, append_assoc}, specs.{Prelude.{Option, is_some}, Option.unwrap_or}}
use Rattle.pm_state.specs.{pm_supervisor.{declared.Limits.Limits, Between.is_child_step, Steps.{SupervisorEvent, Trace, MayHappen, happened}}, declared.{event.PmEvent.PmEvent, action.Action.Action}, Journal.{Replay, Due, IsLegal, AreLegal, FollowsIn, MayCome, Do, acts_of_call, all_replayed, all_reported, dues, entries_of, entries_of_call, entry_of, replayed, replay_begun, without_first}, InStep.IsInStep, pm_modes.declared.Mode.Mode, Shows.{Call, Asks}, Laws.{StaysInStep, WritesALegalJournal}}
use Rattle.pm_state.specs.declared.event.PmEvent.TheVariants as entry
use Rattle.pm_supervisor_journal.{specs.{declared.exit.ChildExit.ChildExit, Laws.{KeepsALegalJournal, NotesWhatIsDue, replay_by, with_call, with_due}, Moments.{AreGiven, IsGiven}, Standing.{Standing, asking, called, done, ends_redo, entry_for, exit_call, exit_entry, exiting, first_due, later, made, noted}, Stands.{HasPids, Remembers, Stands, any_moment, entries_due, highest_pid}}, proofs.{Acting.{entry-is, report-one}, Making.{entries-kept, exit-entries, goes-on, noted-at, redo_if, rests}, NextsLaws.{first_is, noted-due}}}

abbrev IsTold : (ℕ → Bool) → ℕ → Type 0
IsTold gives at = gives at ≡ true

may-come : (gives : ℕ → Bool) (r : Replay) (e : PmEvent) → MayCome any_moment r e → IsGiven (IsTold gives) e → MayCome gives r e
may-come gives r (entry.Started pid k) may given = may
may-come gives r (entry.Accepted pid decision) may given = may
may-come gives r (entry.Exited pid k status a at) may given = (may.0, (may.1.0, given))
may-come gives r (entry.Asked mode at) may given = (may.0, given)
may-come gives r (entry.KillAsked pid) may given = may
may-come gives r (entry.QuitSent why) may given = may
may-come gives r entry.TerminateSent may given = may
may-come gives r (entry.KillSent at) may given = ((may.0.0, given), may.1)
may-come gives r entry.CheckpointAsked may given = may
may-come gives r (entry.RedoEnded generation kept) may given = may
may-come gives r (entry.Ready generation) may given = may
may-come gives r (entry.Reset generation) may given = may
may-come gives r (entry.Said line) may given = may
may-come gives r (entry.Ended how) may given = may

follows-in : (ds : List Due) (gives : ℕ → Bool) (r : Replay) (e : PmEvent) → FollowsIn ds any_moment r e → IsGiven (IsTold gives) e → FollowsIn ds gives r e
follows-in [] gives r e may given = (may.0, may.1, may-come gives r e may.2 given)
follows-in (d ∷ ds) gives r e may given = may

legal-by : (gives : ℕ → Bool) (r : Replay) (es : List PmEvent) → AreLegal any_moment r es → AreGiven (IsTold gives) es → AreLegal gives r es
legal-by gives r [] legal given = tt
legal-by gives r (e ∷ es) legal given = (follows-in r.due gives r e legal.0 given.0, legal-by gives (replayed r e) es legal.1 given.1)

child-on : StaysInStep → (limits : Limits) (told : Option (List PmEvent)) (s : Standing) (h : Trace) (event : SupervisorEvent) → Stands limits told s h
    → is_child_step event ≡ true → MayHappen limits h event → Stands limits told s (happened h event)
child-on steps limits told s h event was step may =
    let r : Replay = all_replayed (replay_begun limits) was.journal in
    record {
      journal = was.journal;
      told_is = was.told_is;
      legal = was.legal;
      remembers = was.remembers;
      coming = record {
        legal = was.coming.legal;
        in_step =
            steps.child limits (record { replay = all_replayed r (entries_due s r); machine = all_reported s.due s.machine; trace = h }) event
            was.coming.in_step step may;
        owes = was.coming.owes;
        ended = was.coming.ended;
      };
      past = goes-on limits h (event ∷ []) was.past (may, tt);
      pids = was.pids;
    }

last-few : (s : Standing) → HasPids s → s.last_pid ≤ highest_pid
last-few s pids =
    elim (is_some s.machine.shutdown) as (λ v. is_some s.machine.shutdown ≡ v → s.last_pid ≤ highest_pid) [
      | true ↦ λ is. omega (arith, pids.asked is)
      | false ↦ λ is. omega (arith, pids.few is)
    ]
    refl

pub keeps-a-legal-journal : StaysInStep → KeepsALegalJournal
keeps-a-legal-journal steps =
    record {
      legal = λ limits journal s h was. subst (λ es. IsLegal limits any_moment es) (sym was.told_is) was.legal;
      by_clock = λ gives limits journal legal given. legal-by gives (replay_begun limits) journal legal given;
      in_step = λ limits journal s h was none.
          subst (λ es. IsInStep limits (record { replay = all_replayed (replay_begun limits) es; machine = s.machine; trace = h })) (sym was.told_is)
          (rests limits s (all_replayed (replay_begun limits) was.journal) h none was.coming);
      holds = λ limits told s h was none. (rests limits s (all_replayed (replay_begun limits) was.journal) h none was.coming).holds;
      child = child-on steps;
      pids = λ limits told s h was. last-few s was.pids;
    }

-- what is noted

told-as : {limits : Limits} {journal : List PmEvent} {s : Standing} {h : Trace} → (was : Stands limits (Some journal) s h)
    → Remembers s (replay_by limits journal)
told-as {limits} {journal} {s} was = subst (λ es. Remembers s (replay_by limits es)) (sym was.told_is) was.remembers

due-next : WritesALegalJournal → (limits : Limits) (journal : List PmEvent) (s : Standing) (a : Action) (rest : List Action) → s.due ≡ a ∷ rest
    → Remembers s (replay_by limits journal)
    → with_due limits (journal ++ entry_for a s ∷ []) (done a s) ≡ with_due limits journal s
due-next writes limits journal s a rest due was =
    let at : ℕ = s.called_at in
    let r : Replay = replay_by limits journal in
    let e : PmEvent = entry_for a s in
    let left : replay_by limits (journal ++ e ∷ []) ≡ replayed r e = writes.replays (replay_begun limits) journal (e ∷ []) in
    let first : entry_of 0 at r.shown (Do a) ≡ e = sym (entry-is a s r was) in
    ap (λ x. (journal ++ e ∷ []) ++ entries_of 0 at x (dues (without_first s.due))) left
    ∙ (ap (λ d. (journal ++ e ∷ []) ++ entries_of 0 at (replayed r e) (dues (without_first d))) due
    ∙ (append_assoc journal (e ∷ []) (entries_of 0 at (replayed r e) (dues rest))
    ∙ (ap (λ x. journal ++ (x ∷ entries_of 0 at (replayed r x) (dues rest))) (sym first)
    ∙ ap (λ d. journal ++ entries_of 0 at r (dues d)) (sym due))))

reports-next : (s : Standing) (a : Action) → first_due s.due ≡ Some a
    → all_reported (done a s).due (done a s).machine ≡ all_reported s.due s.machine
reports-next s a is =
    report-one a (without_first s.due) s.machine ∙ ap (λ d. all_reported d s.machine) (sym (first_is s.due a is))

asks-as : WritesALegalJournal → (limits : Limits) (journal : List PmEvent) (s : Standing) (asked : Mode) (at : ℕ)
    → with_call limits journal s (asking asked at s) ≡ journal ++ entries_of_call 0 (replay_by limits journal) s.machine (asking asked at s).call
asks-as writes limits journal s asked at =
    let e : PmEvent = entry.Asked asked (later at s) in
    let acts : List Action = acts_of_call s.machine (Asks asked (later at s)) in
    ap (λ x. (journal ++ e ∷ []) ++ entries_of 0 (later at s) x (dues acts)) (writes.replays (replay_begun limits) journal (e ∷ []))
    ∙ append_assoc journal (e ∷ []) (entries_of 0 (later at s) (replayed (replay_by limits journal) e) (dues acts))

exits-as : WritesALegalJournal → (limits : Limits) (journal : List PmEvent) (s : Standing) (h : Trace) (exit : ChildExit) (at : ℕ)
    → Stands limits (Some journal) s h
    → with_call limits journal s (exiting exit at s)
    ≡ journal ++ entries_of_call (unwrap_or exit.kept 0) (replay_by limits journal) s.machine (exiting exit at s).call
exits-as writes limits journal s h exit at was =
    let r : Replay = replay_by limits journal in
    let then : ℕ = later at s in
    let kept : ℕ = unwrap_or exit.kept 0 in
    let call : Call = exit_call exit then in
    let e : PmEvent = exit_entry exit then in
    let v : Bool = ends_redo exit in
    let redo : List PmEvent = redo_if v s.generation kept in
    let acts : List Action = acts_of_call s.machine call in
    let t : Standing = made (exiting exit at s) s in
    let rest : List PmEvent = entries_of 0 then (all_replayed r (e ∷ redo)) (dues acts) in
    ap (λ x. (journal ++ (e ∷ redo)) ++ entries_of 0 t.called_at x (dues t.due)) (writes.replays (replay_begun limits) journal (e ∷ redo))
    ∙ (ap (λ n. (journal ++ (e ∷ redo)) ++ entries_of 0 n (all_replayed r (e ∷ redo)) (dues t.due)) (noted-at redo (noted e (called call s)))
    ∙ (ap (λ d. (journal ++ (e ∷ redo)) ++ entries_of 0 then (all_replayed r (e ∷ redo)) (dues d)) (noted-due redo (noted e (called call s)))
    ∙ (append_assoc journal (e ∷ redo) rest
    ∙ ap (λ es. journal ++ es)
    (ap (λ es. (e ∷ redo) ++ es) (sym (entries-kept kept then (all_replayed r (e ∷ redo)) acts))
    ∙ sym (exit-entries v e kept then s.generation r acts (told-as was).generation)))))

pub notes-what-is-due : WritesALegalJournal → NotesWhatIsDue
notes-what-is-due writes =
    record {
      notes = λ limits journal s h a was is. due-next writes limits journal s a (without_first s.due) (first_is s.due a is) (told-as was);
      reports = reports-next;
      asks = asks-as writes;
      exits = exits-as writes;
    }
