-- What a server ends with whose first crash is that of a startup child, or of a checkpointer that can't make the last checkpoint, where
-- the disk didn't fail, the files can be read, the log has another epoch, and no child ends by signal 6.
use Rattle.std.{proofs.{Common.{◌≡◌, ◌⊎◌, inl, inr, ℕ, ◌<◌, Bool, true, false, List, [], ◌∷◌, ◌++◌, None, Some, refl, sym, ap, subst, ◌∙◌}, lemmas.{Bool.{eq-eqb, false≢true, true≢false}, Grind.flat_map-append, List.{Elements.{All-from_recursion}, Folds.list_any_none}}}, specs.{Prelude.{IfSome, if◌then◌else◌, unwrap_or}, List.{AllByRecursion, Contains}}}
use Rattle.pm_serve_crew.{specs.{pm_facts.Lists.each_both, pm_exit.{declared.child.{Kind.Kind, Status.{Status, TheVariants.{Code, Signal}}}, Ends.is_exit_0}, pm_supervisor.{declared.Limits.Limits, Children.is_startup_child}, pm_state.{declared.event.PmEvent.PmEvent, Exits.is_shutdown}, pm_board.{pm_board_words.declared.views.{PastChild.PastChild, RosterView.RosterView}, Places.slot_at}, pm_supervisor_chain.Chain.InGeneration, pm_query.declared.{book.BookEntry.{BookEntry, TheVariants.Redone}, store.StoreNo.TheVariants.{Full, NoMemory, Redo}}, pm_segment.{pm_redo.Found.IsReason, Redos.SaysNothing, Unread.{has_break, has_redo, is_break, is_redo}}, pm_board_acts.{Board.{begun_of, ended_of}, Mails.kept_told, Seating.{Begun, Ended, Move, Notes, begun_at, empty, ended_at, ended_by, ends, journal_of, seating_by, seating_from}, Standing.SeatServes}, pm_store_shared.{declared.views.Noted.Noted, Log.is_own}, pm_worker.{declared.mail.MailTold.MailTold, Runs.{Run, noted_by}}, Left.{IsBorneOut, Manner}, Redos.{redo_told, told_if}, Uses.{IsWorkOf, UsesStore}}, proofs.{BookLaws.in_book, EntriesLaws.{runs_use, worked}}}
use Rattle.pm_serve_crew.specs.pm_exit.declared.child.Kind.TheVariants as kinds
use Rattle.pm_serve_crew.specs.pm_supervisor.declared.Ending.TheVariants as endings
use Rattle.pm_serve_crew.specs.pm_state.declared.event.PmEvent.TheVariants as entry
use Rattle.pm_store_remains.specs.pm_record.declared.fault.RedoFault.{RedoFault}
use Rattle.pm_store_remains.specs.pm_record.declared.fault.RedoFault.TheVariants as redo
use Rattle.pm_supervisor_crashes.{specs.{Crashes.{IsFirstCrash, stands_behind}, Ends.{EndsSo, IsNoStartOf, StartsNothing}, Laws.EndsForCause}, proofs.ListLaws.one_end}
use Rattle.pm_serve_first_crash.{specs.Causes.{CannotClose, CannotRedo, HasCause, IsBlamed, IsUnbroken, IsUnprovoked, WasRefused}, proofs.{ChildrenLaws.{IsNoCloser, IsStarted, all_started, at_one, each_so, each_there, none_closes, one_child, there_map}, FindLaws.{IsKnownRun, NotedAt, RunOf, its_run, near, noted_at}}}

-- the store refused it for want of memory
abbrev pub WasShort : Run → Type 0
WasShort run = WasRefused NoMemory run ⊎ WasRefused (Redo redo.NoMemory) run

-- ---- entries

first_end : Ended → List Ended → Ended
first_end other [] = other
first_end other (end ∷ ended) = end

-- the entry of an end
pub exit_of : (e : PmEvent) (end : Ended) → ends e ≡ end ∷ [] → (at : ℕ) × (e ≡ entry.Exited end.pid end.kind end.status end.was_active at)
unfolding first_end
exit_of (entry.Exited pid kind status was_active at) end is =
    (at, ap (λ (ended : List Ended). let x : Ended = first_end end ended in entry.Exited x.pid x.kind x.status x.was_active at) is)
exit_of other end is = absurd (let never : ◌≡◌ {A = List Ended} [] (end ∷ []) = is in cc)

-- of a child of this kind, with this status
exit_as : (e : PmEvent) (run : Run) (kind : Kind) (status : Status) → ends e ≡ ended_of run.child ∷ [] → run.child.offer.kind ≡ kind → run.child.status ≡ status
    → (at : ℕ) × (e ≡ entry.Exited run.child.offer.pid kind status run.child.was_active at)
exit_as e run kind status ended is_kind is_status =
    let its = exit_of e (ended_of run.child) ended in
    (its.0, its.1 ∙ (λ i. entry.Exited run.child.offer.pid (is_kind i) (is_status i) run.child.was_active its.0))

pid_of : PmEvent → ℕ
pid_of (entry.Started pid kind) = pid
pid_of _ = 0

same_pid : (p q : ℕ) (kind : Kind) → entry.Started p kind ≡ entry.Started q kind → p ≡ q
unfolding pid_of
same_pid p q kind is = ap pid_of is

-- ---- redos

abbrev NoRedo : BookEntry → Type 0
NoRedo entry = is_redo entry ≡ false

pub startup_is : (kind : Kind) → is_startup_child kind ≡ true → kind ≡ kinds.Startup
startup_is kinds.Startup its = refl
startup_is _ its = absurd (false≢true its)

-- who isn't a startup child with code 0 tells of none
none_told : (child : PastChild MailTold) → (child.offer.kind ≡ kinds.Startup → is_exit_0 child.status ≡ true → ⊥) → redo_told child ≡ []
none_told child never = by (is_startup_child child.offer.kind) refl (is_exit_0 child.status) refl
  where
    by : (startup : Bool) → is_startup_child child.offer.kind ≡ startup → (done : Bool) → is_exit_0 child.status ≡ done
        → told_if child.offer.generation (if startup then (if done then Some (unwrap_or (kept_told child.back) 0) else None) else None) ≡ []
    by true is true done = absurd (never (startup_is child.offer.kind is) done)
    by true is false done = refl
    by false is done is_done = refl

work_none : (child : PastChild MailTold) → redo_told child ≡ [] → (e : BookEntry) → IsWorkOf child e → NoRedo e
work_none child none (Redone pid generation kept) its =
    absurd (let never : ◌≡◌ {A = List InGeneration} (record { number = kept; generation = generation } ∷ []) [] = sym its.1 ∙ none in cc)
work_none child none _ its = refl

uses_none : (child : PastChild MailTold) (noted : List BookEntry) → redo_told child ≡ [] → UsesStore child noted → AllByRecursion NoRedo noted
uses_none child noted none uses = elim uses.inside [
  | inl is ↦ subst (AllByRecursion NoRedo) (sym is) tt
  | inr used ↦ subst (AllByRecursion NoRedo) (sym used.is) (refl, each_so (IsWorkOf child) NoRedo (work_none child none) used.work used.of_it)
]

noted_none : (runs : List Run) → AllByRecursion (λ run. AllByRecursion NoRedo run.noted) runs → AllByRecursion NoRedo (noted_by runs)
noted_none [] all = tt
noted_none (run ∷ runs) all = each_both NoRedo run.noted (noted_by runs) all.0 (noted_none runs all.1)

none_by_others : (e : BookEntry) → is_own e ≡ false → NoRedo e
none_by_others (Redone pid generation kept) is = is
none_by_others _ is = refl

pub no_break : (book : List BookEntry) → IsUnbroken book → has_break book ≡ false
no_break book unbroken = list_any_none is_break book (All-from_recursion (λ entry. is_break entry ≡ false) book unbroken)

-- ---- a run that nobody provoked

module _ (limits : Limits) (manner : Manner) (count : ℕ) (moves : List Move) (board : RosterView MailTold) (own : List Noted) (book : List BookEntry) (u : IsUnprovoked limits manner count moves board own book) where
  abbrev journal : List PmEvent
  journal = journal_of count moves

  -- one of the runs of the slot k
  abbrev IsOf : ℕ → Run → Type 0
  IsOf k run = Contains (u.left.runs k) run

  pub past_there : (k : ℕ) → k < count → (run : Run) → IsOf k run → Contains (slot_at board k).past run.child
  past_there k less run there =
      subst (λ (past : List (PastChild MailTold)). Contains past run.child) (sym (worked manner count board own book u.left u.once k less).children)
      (there_map (λ (r : Run). r.child) (u.left.runs k) run there)

  -- what holds of those that began by the moves, and of those that closed their workers
  of_begun : (P : Begun → Type 0) → ((b : Begun) → b.kind ≡ kinds.DeadEnd → P b) → (k : ℕ) → AllByRecursion P (begun_at count k moves) → k < count → (run : Run) → IsOf k run
      → P (begun_of run.child)
  of_begun P closing k all less run there =
      at_one P (begun_at count k moves ++ (u.board_is.begun k).0) (begun_of run.child)
      (each_both P (begun_at count k moves) (u.board_is.begun k).0 all
      (each_so (λ b. b.kind ≡ kinds.DeadEnd) P closing (u.board_is.begun k).0 (u.board_is.begun k).1))
      (subst (λ (bs : List Begun). Contains bs (begun_of run.child)) (u.board_is.begun k).2
      (there_map begun_of (slot_at board k).past run.child (past_there k less run there)))

  was_started : (k : ℕ) → k < count → (run : Run) → IsOf k run → run.child.offer.kind ≡ kinds.Startup → Contains journal (entry.Started run.child.offer.pid kinds.Startup)
  was_started k less run there =
      of_begun (IsStarted journal) (λ b dead is. absurd (let never : kinds.DeadEnd ≡ kinds.Startup = sym dead ∙ is in cc)) k
      (all_started k (empty count) moves) less run there

  -- a checkpointer sits in the slot 1
  sits_there : (k : ℕ) → k < count → (run : Run) → IsOf k run → run.child.offer.kind ≡ kinds.Checkpointer → k ≡ 1
  sits_there k less run there =
      of_begun (λ b. b.kind ≡ kinds.Checkpointer → k ≡ 1) (λ b dead is. absurd (let never : kinds.DeadEnd ≡ kinds.Checkpointer = sym dead ∙ is in cc)) k
      (each_so (λ b. SeatServes count k b.kind) (λ b. b.kind ≡ kinds.Checkpointer → k ≡ 1) (λ b serves is. subst (SeatServes count k) is serves) (begun_at count k moves)
      (u.board_is.right k)) less run there

  -- where each run tells of no redo, none has ended
  no_redo : ((k : ℕ) → k < count → (run : Run) → IsOf k run → redo_told run.child ≡ []) → has_redo book ≡ false
  no_redo none =
      list_any_none is_redo book (All-from_recursion NoRedo book
      (in_book manner count board own book u.left u.once NoRedo none_by_others (λ k less. noted_none (u.left.runs k)
      (each_there (λ run. AllByRecursion NoRedo run.noted) (u.left.runs k) (λ run there.
      uses_none run.child run.noted (none k less run there)
      (at_one (λ r. UsesStore r.child r.noted) (u.left.runs k) run (runs_use manner count board own book u.left u.once k less) there))))))

  -- ---- how it ends

  -- this end is the last one of a checkpointer that the moves tell of
  pub record IsLastCloser (end : Ended) : Type 0 where
    pub before : List Ended
    pub behind : List Ended
    pub is : ended_at 1 moves ≡ before ++ end ∷ behind
    pub none : AllByRecursion IsNoCloser behind

  -- It was a startup child, and no other was; or the last checkpointer, which was short of memory.
  pub data EndsShortBy (run : Run) : Type 0 where
    Failed : run.child.status ≡ Code 1 → EndsSo endings.StartupFailed limits journal → WasShort run
        → ((k : ℕ) → k < count → (other : Run) → Contains (u.left.runs k) other → other.child.offer.kind ≡ kinds.Startup → other.child ≡ run.child) → EndsShortBy run
    Unclosed : EndsSo endings.AfterCrash limits journal → WasRefused NoMemory run → run.child.offer.kind ≡ kinds.Checkpointer → IsLastCloser (ended_of run.child) → EndsShortBy run

  module _ (for_cause : EndsForCause) where
    -- ---- a startup child

    module _ (slot : ℕ) (near_it : slot < count) (run : Run) (there : IsOf slot run) (cannot : CannotRedo run) (so : EndsSo endings.StartupFailed limits journal) where
      alone : (k : ℕ) → k < count → (other : Run) → IsOf k other → other.child.offer.kind ≡ kinds.Startup → other.child ≡ run.child
      alone k less other also startup =
          one_child board u.once k slot other.child run.child (past_there k less other also) (past_there slot near_it run there)
          (same_pid other.child.offer.pid run.child.offer.pid kinds.Startup
          (one_end (IsNoStartOf is_startup_child) journal (entry.Started other.child.offer.pid kinds.Startup) (entry.Started run.child.offer.pid kinds.Startup) so.one_start
          (was_started k less other also startup) (was_started slot near_it run there cannot.kind) (λ none. true≢false none) (λ none. true≢false none)))

      no_redo_ended : has_redo book ≡ false
      no_redo_ended = no_redo (λ k less other also.
          none_told other.child (λ startup done.
          false≢true (sym (ap is_exit_0 (ap (λ (c : PastChild MailTold). c.status) (alone k less other also startup) ∙ cannot.status)) ∙ done)))

      borne : IsBorneOut manner.files book run
      borne = at_one (IsBorneOut manner.files book) (u.left.runs slot) run (u.left.borne_out slot near_it) there

      module _ (read : (fault : RedoFault) → IfSome manner.files (IsReason fault) → SaysNothing fault) where
        says_nothing : (fault : RedoFault) → WasRefused (Redo fault) run → SaysNothing fault
        says_nothing fault refused = read fault (borne.reason fault None cannot.kind refused (no_break book u.unbroken) no_redo_ended)

        short_of : (fault : RedoFault) → (fault ≡ redo.Disk → ⊥) → WasRefused (Redo fault) run → SaysNothing fault → WasShort run
        short_of redo.NoMemory whole refused says = inr refused
        short_of redo.Disk whole refused says = absurd (whole refl)
        short_of _ whole refused says = absurd says

        was_short : WasShort run
        was_short = elim cannot.why [
          | inl of_files ↦ short_of of_files.0 of_files.1 of_files.2 (says_nothing of_files.0 of_files.2)
          | inr refused ↦ inl refused
        ]

        failed : EndsShortBy run
        failed = Failed cannot.status so was_short alone

    -- ---- a checkpointer

    module _ (slot : ℕ) (near_it : slot < count) (run : Run) (there : IsOf slot run) (is_closer : run.child.offer.kind ≡ kinds.Checkpointer) (at : ℕ) (end : Ended) (end_is : ended_of run.child ≡ end) (closes : end.kind ≡ kinds.Checkpointer) (first : IsFirstCrash limits journal (entry.Exited end.pid end.kind end.status end.was_active at)) (nothing : AllByRecursion StartsNothing first.behind) where
      abbrev e : PmEvent
      e = entry.Exited end.pid end.kind end.status end.was_active at

      found : NotedAt (empty count) moves first.before e first.behind
      found = noted_at (empty count) moves first.before e first.behind refl first.is

      its : RunOf (IsKnownRun manner count moves board own book u.board_is u.left u.once u.unbroken) (u.left.runs found.slot) end
      its = its_run manner count moves board own book u.board_is u.left u.once u.unbroken end e refl found.slot found.front found.rest found.is

      slot_is : found.slot ≡ 1
      slot_is =
          sits_there found.slot (near manner count moves board own book u.board_is u.left u.once u.unbroken end e refl found.slot found.front found.rest found.is)
          its.run its.its (ap (λ (x : Ended). x.kind) its.ended ∙ closes)

      last_closer : IsLastCloser end
      last_closer = record {
        before = ended_at 1 found.front;
        behind = ended_at 1 found.rest;
        is = ap (ended_at 1) found.is
            ∙ (flat_map-append (ended_by 1) found.front (Notes e found.slot ∷ found.rest)
            ∙ ap (λ (here : Bool). ended_at 1 found.front ++ ((if here then end ∷ [] else []) ++ ended_at 1 found.rest)) (eq-eqb found.slot 1 slot_is));
        none = none_closes 1 (seating_by (seating_from (empty count) found.front) (Notes e found.slot)) found.rest
            (subst (AllByRecursion StartsNothing) (sym found.rest_is) nothing);
      }

    -- ---- the first crash

    module _ (e : PmEvent) (first : IsFirstCrash limits journal e) (cause : HasCause manner (stands_behind limits first.before) count u.left.runs e) where
      abbrev run : Run
      run = cause.run

      module _ (read : (fault : RedoFault) → IfSome manner.files (IsReason fault) → SaysNothing fault) (epochs : (need : ℕ) → ¬ (WasRefused (Full need 0) run)) (no_abort : ¬ (run.child.status ≡ Signal 6)) where
        of_startup : CannotRedo run → EndsShortBy run
        of_startup cannot =
            let exit = exit_as e run kinds.Startup (Code 1) cause.ended cannot.kind cannot.status in
            failed cause.slot cause.near run cause.its cannot
            (for_cause.failed limits journal run.child.offer.pid exit.0 run.child.was_active u.legal u.unasked (subst (IsFirstCrash limits journal) exit.1 first)).0 read

        -- by the entry as it stands there
        of_closer : CannotClose (stands_behind limits first.before) run → is_shutdown (stands_behind limits first.before).state ≡ true → WasRefused NoMemory run → EndsShortBy run
        of_closer cannot shuts refused =
            let pid = run.child.offer.pid in
            let was = run.child.was_active in
            let exit = exit_as e run kinds.Checkpointer (Code 1) cause.ended cannot.kind cannot.status in
            let end_is : ended_of run.child ≡ record { pid = pid; kind = kinds.Checkpointer; status = Code 1; was_active = was } =
            (λ i. record { pid = pid; kind = cannot.kind i; status = cannot.status i; was_active = was }) in
            subst (λ (x : PmEvent). (f : IsFirstCrash limits journal x) → is_shutdown (stands_behind limits f.before).state ≡ true → EndsShortBy run) (sym exit.1)
            (λ f still.
            let law = for_cause.unclosed limits journal pid exit.0 was u.legal u.unasked f still in
            Unclosed law.0 refused cannot.kind (subst IsLastCloser (sym end_is)
            (last_closer cause.slot cause.near run cause.its cannot.kind exit.0 (record { pid = pid; kind = kinds.Checkpointer; status = Code 1; was_active = was }) end_is refl f law.1)))
            first shuts

        of_blame : IsBlamed manner (stands_behind limits first.before) run → EndsShortBy run
        of_blame (inl cannot) = of_startup cannot
        of_blame (inr (inl cannot)) = elim cannot.why [
          | inl short ↦ of_closer cannot short.0 short.1
          | inr spent ↦ absurd (epochs spent.0 spent.1)
        ]
        of_blame (inr (inr another)) = absurd (no_abort another.status)

        -- The first crash is that of a startup child, or of the last checkpointer, that was short of memory, and so the server ends.
        pub ends_short : EndsShortBy run
        ends_short = of_blame cause.blamed
