-- Where nothing goes wrong outside a server of many connections, it ends clean, or for want of memory.
use Rattle.std.{proofs.{Common.{◌≡◌, ◌≢◌, ◌⊎◌, inl, inr, ℕ, ◌<◌, Bool, true, List, [], ◌∷◌, ◌++◌, Option, None, Some, length, map, refl, sym, ap, subst, ◌∙◌, arith}, lemmas.{List.Elements.{All-contains, All-from_recursion, Contains-append_right}}}, specs.{Prelude.{IfSome, if◌then◌else◌}, List.{AllByRecursion, Contains}}}
use Rattle.pm_server.specs.{pm_disk.Files.Files, pm_exit.declared.child.Status.{TheVariants.{Code, Signal}}, pm_query.declared.store.StoreNo.{TheVariants.{Full, NoMemory, Redo as RedoNo}}, pm_record.declared.fault.RedoFault.RedoFault, pm_segment.{pm_redo.Found.IsReason, Redos.SaysNothing}, pm_supervisor.{declared.Ending.Ending, Children.{is_checkpointer, is_startup_child}}, pm_state.{declared.event.PmEvent.PmEvent, Laws.RestartsSafely}, declared.{conf.Conf.Conf, end.{ServerEnd.{ServerEnd, TheVariants.{Clean, Abnormal, NoThread, NoMemory as ShortOfMemory}}, StartWhy.{StartWhy, TheVariants.{Redo, Killed}}, Why.TheVariants.{AfterCrash, StartupFailed, RestartOff, GenerationsSpent}}}}
use Rattle.pm_server.specs.pm_record.declared.fault.RedoFault.TheVariants as redo
use Rattle.pm_server.specs.pm_supervisor.declared.Ending.TheVariants as endings
use Rattle.pm_postmaster.specs.{pm_board.{pm_board_words.declared.views.{PastChild.PastChild, RosterView.RosterView}, Places.slot_at}, pm_board_acts.{Board.ended_of, Seating.Ended}, pm_worker.{declared.mail.MailTold.MailTold, Runs.Run}, Looking.{came_from, came_of, came_out, fault_in, last_with}, Outside.ServeView, Served.{IsServed, manner_by, slots_by}, Serving.{CrashedOtherwise, FailsFor, IsCausedBehind, IsEndBehind, IsReason as IsCameFor}}
use Rattle.pm_supervisor_crashes.{specs.{Crashes.{IsFirstCrash, stands_behind}, Ends.EndsSo, Laws.EndsForCause}, proofs.FirstLaws.no_crash_or_first}
use Rattle.pm_serve_first_crash.{specs.Causes.{HasCause, IsUnprovoked, WasRefused}, proofs.{pm_serve_crew.TalksLaws.there_of_slots, ChildrenLaws.{IsNoCloser, one_child}, EndingLaws.{EndsShortBy, Failed, Unclosed, WasShort, ends_short, exit_of, past_there, startup_is}}}
use Rattle.pm_serve_promises.{specs.{Completes.{EndsShort, HasCompleted, IsNoAbort, IsUntroubled}, Runs.{journal_in, runs_in}}, proofs.{Blaming.{its_cause, unprovoked}, Children.{RunOfChild, is_near, run_of_child}, Reasons.{CameFrom, in_front, one_came}}}

-- ---- how the last checkpointer came out

-- it was the last one of these to come out
record CameLast {X : Type 0} (out : PastChild MailTold → X) (end : Ended) (past : List (PastChild MailTold)) (came : Option X) : Type 0 where
  child : PastChild MailTold
  there : Contains past child
  is : ended_of child ≡ end
  last : came ≡ Some (out child)

came_later : {X : Type 0} (out : PastChild MailTold → X) (first : PastChild MailTold) (end : Ended) (past : List (PastChild MailTold)) (came : Option X) → CameLast out end past came
    → CameLast out end (first ∷ past) came
came_later out first end past came later = record {
  child = later.child;
  there = Contains-append_right (first ∷ []) past later.child later.there;
  is = later.is;
  last = later.last;
}

first_of : Ended → List Ended → Ended
first_of other [] = other
first_of other (end ∷ ended) = end

rest_of : List Ended → List Ended
rest_of [] = []
rest_of (end ∷ ended) = ended

-- no checkpointer comes out behind
none_later : (before : _) (past : List (PastChild MailTold)) (ended : List Ended) → map ended_of past ≡ ended → AllByRecursion IsNoCloser ended
    → came_from is_checkpointer before past ≡ before
unfolding rest_of first_of
none_later before [] ended is none = refl
none_later before (child ∷ past) [] is none = absurd (let never : ◌≡◌ {A = List Ended} (ended_of child ∷ map ended_of past) [] = is in cc)
none_later before (child ∷ past) (end ∷ ended) is none =
    ap (λ (it : Bool). came_from is_checkpointer (if it then Some (came_out child.status child.back) else before) past)
    (ap (λ (e : Ended). is_checkpointer e.kind) (ap (first_of end) is) ∙ none.0)
    ∙ none_later before past ended (ap rest_of is) none.1

came_last : (before : _) (past : List (PastChild MailTold)) (front behind : List Ended) (end : Ended) → map ended_of past ≡ front ++ end ∷ behind → is_checkpointer end.kind ≡ true
    → AllByRecursion IsNoCloser behind → CameLast (λ (c : PastChild MailTold). came_out c.status c.back) end past (came_from is_checkpointer before past)
unfolding rest_of first_of
came_last before [] [] behind end is closer none = absurd (let never : ◌≡◌ {A = List Ended} [] (end ∷ behind) = is in cc)
came_last before [] (x ∷ front) behind end is closer none = absurd (let never : ◌≡◌ {A = List Ended} [] (x ∷ (front ++ end ∷ behind)) = is in cc)
came_last before (child ∷ past) [] behind end is closer none =
    let same : ended_of child ≡ end = ap (first_of end) is in
    record {
      child = child;
      there = (0, (let near : 0 < length (child ∷ past) = omega arith in near), refl);
      is = same;
      last = ap (λ (it : Bool). came_from is_checkpointer (if it then Some (came_out child.status child.back) else before) past) (ap (λ (e : Ended). is_checkpointer e.kind) same ∙ closer)
          ∙ none_later (Some (came_out child.status child.back)) past behind (ap rest_of is) none;
    }
came_last before (child ∷ past) (x ∷ front) behind end is closer none =
    came_later (λ (c : PastChild MailTold). came_out c.status c.back) child end past _ (came_last (last_with is_checkpointer child.offer.kind (came_out child.status child.back) before) past front behind end (ap rest_of is) closer none)

-- ---- what was told

memory_refused : (run : Run) → WasShort run → (fault : RedoFault) → fault_in run.child.back ≡ Some (RedoNo fault) → fault ≡ redo.NoMemory
memory_refused run (inl refused) fault is = absurd (let never : Some NoMemory ≡ Some (RedoNo fault) = sym (ap fault_in refused) ∙ is in cc)
memory_refused run (inr refused) fault is = (let same : Some (RedoNo redo.NoMemory) ≡ Some (RedoNo fault) = sym (ap fault_in refused) ∙ is in cc)

never_short : (child : PastChild MailTold) (came : _) → Some (came_out child.status child.back) ≡ came → IfSome came (λ last. last.fault ≢ Some NoMemory) → fault_in child.back ≡ Some NoMemory → ⊥
never_short child None is other refused = absurd cc
never_short child (Some last) is other refused =
    let same : came_out child.status child.back ≡ last = (let whole : Some (came_out child.status child.back) ≡ Some last = is in cc) in
    let fault : fault_in child.back ≡ last.fault = (λ i. (same i).fault) in
    other (sym fault ∙ refused)

module _ (safely : RestartsSafely) (for_cause : EndsForCause) (conf : Conf) (end : ServerEnd) (board : RosterView MailTold) (before now : ServeView) (run : IsServed conf end board before now) (its : IsUntroubled run) where
  abbrev journal : List PmEvent
  journal = journal_in run

  abbrev count : ℕ
  count = slots_by conf.limits

  abbrev u : IsUnprovoked conf.limits (manner_by conf before) count run.moves board run.own run.book
  u = unprovoked safely conf end board before now run its.unasked its.unfailed

  -- the files that were handed in can be read
  read : (fault : RedoFault) → IfSome before.outside.disk.files (IsReason fault) → SaysNothing fault
  read fault reason = its.read fault (subst (λ (files : Option Files). IfSome files (IsReason fault)) its.handed_in reason)

  -- ---- a first crash

  module _ (e : PmEvent) (first : IsFirstCrash conf.limits journal e) where
    cause : HasCause (manner_by conf before) (stands_behind conf.limits first.before) count run.left.runs e
    cause = its_cause safely conf end board before now run its.unasked its.unfailed e first

    in_journal : Contains journal e
    in_journal =
        subst (λ (es : List PmEvent). Contains es e) (sym first.is)
        (Contains-append_right first.before (e ∷ first.behind) e (0, (let near : 0 < length (e ∷ first.behind) = omega arith in near), refl))

    no_abort : ¬ (cause.run.child.status ≡ Signal 6)
    no_abort = (let exit = exit_of e (ended_of cause.run.child) cause.ended in
        subst IsNoAbort exit.1 (All-contains IsNoAbort journal e (All-from_recursion IsNoAbort journal its.no_abort) in_journal))

    among : Contains (runs_in run) cause.run
    among = there_of_slots cause.run count run.left.runs cause.slot cause.near cause.its

    come : EndsShortBy conf.limits (manner_by conf before) count run.moves board run.own run.book u cause.run
    come =
        ends_short conf.limits (manner_by conf before) count run.moves board run.own run.book u for_cause e first cause read
        (All-contains (λ r. (need : ℕ) → ¬ (WasRefused (Full need 0) r)) (runs_in run) cause.run (All-from_recursion (λ r. (need : ℕ) → ¬ (WasRefused (Full need 0) r)) (runs_in run) its.epochs) among) no_abort

    its_want : EndsShortBy conf.limits (manner_by conf before) count run.moves board run.own run.book u cause.run → WasShort cause.run
    its_want (Failed status so short alone) = short
    its_want (Unclosed so refused closer last) = inl refused

    short : EndsShort (runs_in run) e
    short = (cause.run, among, cause.ended, its_want come)

  -- ---- how it ends

  abbrev EndsWell : ServerEnd → Type 0
  EndsWell x = (x ≡ Clean) ⊎ (x ≡ ShortOfMemory)

  -- by how its machine does, where it isn't for a start that failed, or after a crash
  by_end : (how : Ending) → EndsSo how conf.limits journal → ((reason : StartWhy) → endings.StartupFailed ≡ how → FailsFor reason run.moves (slot_at board 0).past → ⊥)
      → (endings.AfterCrash ≡ how → CrashedOtherwise run.moves (slot_at board 1).past → ⊥) → (endings.RestartOff ≡ how → ⊥)
      → (x : ServerEnd) → IsEndBehind conf.limits x journal → IsCausedBehind x run.moves board → EndsWell x
  by_end how so failed crashed off Clean behind told = inl refl
  by_end how so failed crashed off ShortOfMemory behind told = inr refl
  by_end how so failed crashed off NoThread behind told = absurd told
  by_end how so failed crashed off (Abnormal (StartupFailed reason)) behind told = absurd (failed reason (so.ends behind.0 endings.StartupFailed behind.1) told)
  by_end how so failed crashed off (Abnormal AfterCrash) behind told = absurd (crashed (so.ends behind.0 endings.AfterCrash behind.1) told)
  by_end how so failed crashed off (Abnormal RestartOff) behind told = absurd (off (so.ends behind.0.0 endings.RestartOff behind.0.1))
  by_end how so failed crashed off (Abnormal GenerationsSpent) behind told = absurd (so.none_next 4294967296 behind.1)

  -- a startup child that was short of memory gives no other reason
  module _ (r : Run) (status : r.child.status ≡ Code 1) (short : WasShort r) where
    other_reason : (reason : StartWhy) → IsCameFor reason (came_out r.child.status r.child.back) → ⊥
    other_reason Killed is = absurd (let never : Code 1 ≡ Signal 9 = sym status ∙ is in cc)
    other_reason (Redo fault) is = is.1 (memory_refused r short fault is.0)

  of_come : (r : Run) (slot : ℕ) → slot < count → Contains (run.left.runs slot) r → EndsShortBy conf.limits (manner_by conf before) count run.moves board run.own run.book u r → EndsWell end
  of_come r slot near there (Failed status so short alone) =
      by_end endings.StartupFailed so fails (λ is. absurd (let never : endings.AfterCrash ≡ endings.StartupFailed = is in cc)) (λ is. absurd (let never : endings.RestartOff ≡ endings.StartupFailed = is in cc)) end
      run.ends run.cause
    where
      fails : (reason : StartWhy) → endings.StartupFailed ≡ endings.StartupFailed → FailsFor reason run.moves (slot_at board 0).past → ⊥
      fails reason is failed =
          let from : CameFrom (λ (c : PastChild MailTold). came_out c.status c.back) is_startup_child failed.out.front failed.came = one_came is_startup_child failed.out.front failed.came failed.out.came_is in
          let in_past : Contains (slot_at board 0).past from.child =
          subst (λ (past : List (PastChild MailTold)). Contains past from.child) (sym failed.out.past_is) (in_front failed.out.front failed.out.others from.child from.there) in
          let of_it : RunOfChild (run.left.runs 0) from.child = run_of_child conf end board before now run 0 from.child in_past in
          let only : of_it.run.child ≡ r.child =
          alone 0 (is_near conf end board before now run 0 from.child in_past) of_it.run of_it.there
          (ap (λ (c : PastChild MailTold). c.offer.kind) of_it.same ∙ startup_is from.child.offer.kind from.kind) in
          other_reason r status short reason (subst (IsCameFor reason) (sym from.is ∙ ap (λ (c : PastChild MailTold). came_out c.status c.back) (sym of_it.same ∙ only)) failed.reason_is)
  of_come r slot near there (Unclosed so refused closer last) =
      by_end endings.AfterCrash so (λ reason is. absurd (let never : endings.StartupFailed ≡ endings.AfterCrash = is in cc)) (λ is. crashed) (λ is. absurd (let never : endings.RestartOff ≡ endings.AfterCrash = is in cc)) end
      run.ends run.cause
    where
      crashed : CrashedOtherwise run.moves (slot_at board 1).past → ⊥
      crashed otherwise =
          let out = otherwise.out in
          let came : CameLast (λ (c : PastChild MailTold). came_out c.status c.back) (ended_of r.child) out.front (came_of is_checkpointer out.front) =
          came_last None out.front last.before last.behind (ended_of r.child) (out.told ∙ last.is) (ap is_checkpointer closer) last.none in
          let in_past : Contains (slot_at board 1).past came.child =
          subst (λ (past : List (PastChild MailTold)). Contains past came.child) (sym out.past_is) (in_front out.front out.others came.child came.there) in
          let same : came.child ≡ r.child =
          one_child board run.once 1 slot came.child r.child in_past (past_there conf.limits (manner_by conf before) count run.moves board run.own run.book u slot near r there)
          (ap (λ (x : Ended). x.pid) came.is) in
          never_short r.child otherwise.came (sym (sym out.came_is ∙ (came.last ∙ ap (λ (c : PastChild MailTold). Some (came_out c.status c.back)) same))) otherwise.other (ap fault_in refused)

  ends_well : EndsWell end
  ends_well = elim (no_crash_or_first conf.limits journal) [
    | inl none ↦ by_end endings.Clean (for_cause.clean conf.limits journal run.journal.legal its.unasked none)
        (λ reason is. absurd (let never : endings.StartupFailed ≡ endings.Clean = is in cc)) (λ is. absurd (let never : endings.AfterCrash ≡ endings.Clean = is in cc))
        (λ is. absurd (let never : endings.RestartOff ≡ endings.Clean = is in cc)) end run.ends run.cause
    | inr some ↦ of_come (cause some.0 some.1).run (cause some.0 some.1).slot (cause some.0 some.1).near (cause some.0 some.1).its (come some.0 some.1)
  ]

  pub completes : HasCompleted run
  completes = record { ends = ends_well; short = short }
