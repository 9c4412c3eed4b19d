-- A server of many connections that ended clean leaves its files clean.
use Rattle.std.{proofs.{Common.{◌≡◌, ◌≢◌, ◌⊎◌, inl, inr, ℕ, ◌+◌, ◌<◌, ◌≤◌, Bool, true, false, not, ◌&&◌, cond, get_or, length, Option, None, Some, List, [], ◌∷◌, ◌++◌, refl, sym, ap, subst, ◌∙◌, arith, length-append}, lemmas.{Bool.{or_cases, both_ways, eq-eqb}, Option.slice_get-get_or, List.Elements.{All-head, All-tail}}}, specs.{Prelude.{◌==◌, All, IfSome, nat_eq, slice_get}, List.{AllByRecursion, list_any}}}
use Rattle.pm_store_remains.{specs.{pm_disk.Files.Files, pm_server.{Journal.asked_in, Story.AreLeftClean, Views.DiskView}}, proofs.pm_query.HistoryLaws.going-append}
use Rattle.pm_serve_crew.{specs.{pm_exit.{declared.child.{Kind.Kind, Status.Status}, Ends.is_exit_0}, pm_modes.declared.Mode.{Mode, TheVariants.Immediate}, pm_supervisor.{Children.{is_checkpointer, is_startup_child}, declared.Limits.Limits}, pm_board.pm_board_words.declared.views.RosterView.RosterView, pm_supervisor_journal.Stands.any_moment, pm_query.{declared.book.BookEntry.{BookEntry, TheVariants.{Attached, Redone, CheckpointEnded, Broke}}, Book.{IsLegal, MayGoOn, generation_of, history_of, present, times_attached}}, pm_session_answers.Own.{entries_by, is_by}, pm_supervisor_chain.Chain.{opened_of, resets_of}, pm_board_acts.{Board.{begun_of, ended_of}, Seating.{Begun, Ended, Move, journal_of}}, pm_segment.Unread.is_break, pm_store_shared.{declared.views.Noted.Noted, Log.{AllBelow, Line, entries_of, is_own, placed, noted as noted_at}}, pm_state.{declared.event.PmEvent.PmEvent, Journal.replay_begun, Laws.RestartsSafely}, pm_worker.{declared.mail.MailTold.MailTold, Runs.{IsRun, Run, noted_by}}, Left.Manner}, proofs.{EntriesLaws.entries_of_runs, OpenedLaws.opened_rest, UsesLaws.{own_entries, uses}}}
use Rattle.pm_serve_crew.specs.pm_exit.declared.child.Kind.TheVariants as kinds
use Rattle.pm_serve_crew.specs.pm_state.declared.event.PmEvent.TheVariants as entry
use Rattle.pm_serve_clean_end.{specs.{Among.{IsAt, IsGiven, IsImage, IsIn, Passes, at_place, from_any, from_filter, from_flat_map, from_map, in_back, in_filter, in_front, of_all, to_any}, CleanEnd.{EndsClean, HasEndedClean, IsLeftBy}, Latest.{ends_redo, latest}, Seen.{checks, harms, is_harm, redoes, undoes}}, proofs.{BooksLaws.{IsPresent, IsWhole, generation_counted, generation_up, has_attached, in_present, present_last, present_place, whole}, EndsLaws.{HasEnded, began_in_last, ended_in_last, generation_behind, generations_counted, in_journal, redo_in_last}, JournalLaws.{EndsWell, IsMild, ends_well}, MovesLaws.{RedoRun, RunFor, began_told, end_of, is_run, redo_run, run_for}, RunsLaws.{May, NotesLast, NotesRedo, is_bad, last_noted, may_run, redo_noted}}}

-- ---- requests

mild : (journal : List PmEvent) → All (λ mode. mode ≢ Immediate) (asked_in journal) → AllByRecursion IsMild journal
mild [] all = tt
mild (entry.Asked mode at ∷ journal) all =
    (All-head (λ (m : Mode). m ≢ Immediate) mode (asked_in journal) all, mild journal (All-tail (λ (m : Mode). m ≢ Immediate) mode (asked_in journal) all))
mild (e ∷ journal) all = (tt, mild journal all)

-- ---- entries of a journal

-- it is the start of a checkpointer
record IsCheckpointerStart (e : PmEvent) : Type 0 where
  pid : ℕ
  is : e ≡ entry.Started pid kinds.Checkpointer

is_that : (k : Kind) → is_checkpointer k ≡ true → k ≡ kinds.Checkpointer
is_that kinds.Checkpointer is = refl
is_that _ is = absurd cc

starts_checkpointer : (e : PmEvent) → checks e ≡ true → IsCheckpointerStart e
starts_checkpointer (entry.Started pid k) is = record { pid = pid; is = ap (entry.Started pid) (is_that k is) }
starts_checkpointer e is = absurd cc

record IsEndOfRedo (e : PmEvent) : Type 0 where
  generation : ℕ
  kept : ℕ
  is : e ≡ entry.RedoEnded generation kept

is_end_of_redo : (e : PmEvent) → ends_redo e ≡ true → IsEndOfRedo e
is_end_of_redo (entry.RedoEnded generation kept) is = record { generation = generation; kept = kept; is = refl }
is_end_of_redo e is = absurd cc

-- ---- entries of a book

record IsBreak (e : BookEntry) : Type 0 where
  pid : ℕ
  since : ℕ
  faults : ℕ
  is : e ≡ Broke pid since faults

is_that_break : (e : BookEntry) → is_break e ≡ true → IsBreak e
is_that_break (Broke pid since faults) is = record { pid = pid; since = since; faults = faults; is = refl }
is_that_break e is = absurd cc

-- an entry of a token stands in its list
in_placed : (n : ℕ) (l : Line) (log : List Line) → is_own l.entry ≡ true → IsIn l log → IsIn l.entry (entries_of (placed l.by n log))
in_placed n l [] own there = absurd there
in_placed n l (x ∷ log) own (inl is) =
    subst (λ (y : Line). IsIn l.entry (entries_of (cond (is_own y.entry && (y.by == l.by)) (noted_at n y.entry ∷ placed l.by (n + 1) log) (placed l.by (n + 1) log)))) is
    (here (is_own l.entry && (l.by == l.by)) (grind (arith, own)))
  where
    here : (b : Bool) → b ≡ true → IsIn l.entry (entries_of (cond b (noted_at n l.entry ∷ placed l.by (n + 1) log) (placed l.by (n + 1) log)))
    here true so = inl refl
    here false so = absurd cc
in_placed n l (x ∷ log) own (inr there) = by (is_own x.entry && (x.by == l.by)) (in_placed (n + 1) l log own there)
  where
    by : (b : Bool) → IsIn l.entry (entries_of (placed l.by (n + 1) log)) → IsIn l.entry (entries_of (cond b (noted_at n x.entry ∷ placed l.by (n + 1) log) (placed l.by (n + 1) log)))
    by true more = inr more
    by false more = more

below_at : (count : ℕ) (l : Line) (log : List Line) → AllBelow count log → is_own l.entry ≡ true → IsIn l log → l.by < count
below_at count l [] below own there = absurd there
below_at count l (x ∷ log) below own (inl is) =
    subst (λ (y : Line). y.by < count) (sym is) (below.0 (subst (λ (y : Line). is_own y.entry ≡ true) is own))
below_at count l (x ∷ log) below own (inr there) = below_at count l log below.1 own there

at_most : (opened resets : List ℕ) → (opened ≡ 1 ∷ resets) ⊎ ((last : ℕ) × (opened ++ last ∷ [] ≡ 1 ∷ resets)) → length opened ≤ length resets + 1
at_most opened resets (inl is) = (let same = ap (λ (l : List ℕ). length l) is in omega (arith, same))
at_most opened resets (inr (last, is)) = (let same = ap (λ (l : List ℕ). length l) is in omega (arith, same, length-append opened (last ∷ [])))

-- ---- the law

not_both : (a b : Bool) → not (a && b) ≡ true → b ≡ true → a ≡ true → ⊥
not_both a b is one two = (let never : false ≡ true = grind (arith, is, one, two) in cc)

bad_is_no_dead_end : (kind : Kind) (status : Status) → is_bad kind status ≡ true → kind ≢ kinds.DeadEnd
bad_is_no_dead_end kind status bad is = (let never : false ≡ true = sym (ap (λ (k : Kind). is_bad k status) is) ∙ bad in cc)

startup_is_no_dead_end : (kind : Kind) → is_startup_child kind ≡ true → kind ≢ kinds.DeadEnd
startup_is_no_dead_end kind startup is = (let never : false ≡ true = sym (ap is_startup_child is) ∙ startup in cc)

checkpointer_is_no_dead_end : (kind : Kind) → kind ≡ kinds.Checkpointer → kind ≢ kinds.DeadEnd
checkpointer_is_no_dead_end kind checkpointer is = (let never : true ≡ false = sym (ap is_checkpointer checkpointer) ∙ ap is_checkpointer is in cc)

both_so : (a b : Bool) → a ≡ true → b ≡ true → a && b ≡ true
both_so a b one two = grind (arith, one, two)

module _ (safely : RestartsSafely) (limits : Limits) (manner : Manner) (count : ℕ) (moves : List Move) (d : RosterView MailTold) (own : List Noted) (book : List BookEntry) (before now : DiskView)
    (its : IsLeftBy limits manner count moves d own book before now) (legal : IsLegal its.remains.base book) (clean : HasEndedClean (journal_of count moves)) where
  abbrev J : List PmEvent
  J = journal_of count moves

  -- the last generation
  abbrev N : ℕ
  N = generation_behind (replay_begun limits) J

  well : EndsWell limits J
  well = ends_well safely limits any_moment clean.front J clean.last its.legal (mild J clean.not_immediate)

  -- ---- runs of the last generation

  -- its end stands in the journal's last generation
  record EndsInLast (run : Run) : Type 0 where
    at : ℕ
    there : IsIn (entry.Exited run.child.offer.pid run.child.offer.kind run.child.status run.child.was_active at) (latest J)

  ends_in_last : (k : ℕ) (run : Run) → k < count → IsIn run (its.left.runs k) → run.child.offer.generation ≡ N → run.child.offer.kind ≢ kinds.DeadEnd → EndsInLast run
  ends_in_last k run less there last other =
      let ended : HasEnded run.child.offer.pid (latest J) =
      ended_in_last any_moment (replay_begun limits) [] J (begun_of run.child) its.legal well.nobody
      (began_told manner count moves d own book its.left its.once its.board k run less there other) last in
      let end : Ended = record { pid = run.child.offer.pid; kind = ended.kind; status = ended.status; was_active = ended.was_active } in
      let same : ended_of run.child ≡ end =
      end_of manner count moves d own book its.left its.once its.board end ended.at k run less there refl
      (in_journal (entry.Exited end.pid end.kind end.status end.was_active ended.at) J ended.there) in
      record {
        at = ended.at;
        there = subst (λ (e : Ended). IsIn (entry.Exited e.pid e.kind e.status e.was_active ended.at) (latest J)) (sym same) ended.there;
      }

  harmless_run : (k : ℕ) (run : Run) → k < count → IsIn run (its.left.runs k) → run.child.offer.generation ≡ N → run.child.offer.kind ≢ kinds.DeadEnd
      → is_harm run.child.offer.kind run.child.status ≡ true → ⊥
  harmless_run k run less there last other harm =
      let ends : EndsInLast run = ends_in_last k run less there last other in
      both_ways (list_any harms (latest J)) well.harmless (to_any harms _ (latest J) ends.there harm)

  -- ---- the entries of a run

  its_run : (k : ℕ) (run : Run) → k < count → IsIn run (its.left.runs k) → IsRun None manner.seed manner.limit manner.gives run
  its_run k run less there = is_run manner count moves d own book its.left its.once its.board k run less there

  its_entries : (k : ℕ) (run : Run) → k < count → IsIn run (its.left.runs k) → entries_by run.child.offer.pid book ≡ run.noted
  its_entries k run less there =
      of_all (λ (r : Run). entries_by r.child.offer.pid book ≡ r.noted) run (its.left.runs k) (entries_of_runs manner count d own book its.left its.once k less) there

  in_book : (k : ℕ) (run : Run) (e : BookEntry) → k < count → IsIn run (its.left.runs k) → IsIn e run.noted → IsIn e book
  in_book k run e less there noted =
      from_filter (is_by run.child.offer.pid) e book (subst (IsIn e) (sym (its_entries k run less there)) noted)

  going : (front : List BookEntry) (e : BookEntry) (behind : List BookEntry) → book ≡ front ++ e ∷ behind → MayGoOn its.remains.base [] front × MayGoOn its.remains.base front (e ∷ behind)
  going front e behind is = going-append its.remains.base [] front (e ∷ behind) (subst (λ (b : List BookEntry). MayGoOn its.remains.base [] b) is legal.entries)

  -- an entry of a child that is attached stands in the child's generation
  own_generation : (k : ℕ) (run : Run) (front : List BookEntry) (e : BookEntry) (behind : List BookEntry) → k < count → IsIn run (its.left.runs k) → book ≡ front ++ e ∷ behind
      → 1 ≤ times_attached front run.child.offer.pid → generation_of front ≡ run.child.offer.generation
  own_generation k run front e behind less there is attached =
      let pid : ℕ = run.child.offer.pid in
      let here : IsIn (Attached pid (generation_of front)) front = has_attached its.remains.base pid front (going front e behind is).0 attached in
      let everywhere : IsIn (Attached pid (generation_of front)) book = subst (IsIn _) (sym is) (in_front _ front (e ∷ behind) here) in
      let noted : IsIn (Attached pid (generation_of front)) run.noted =
      subst (IsIn _) (its_entries k run less there) (in_filter (is_by pid) _ book everywhere (eq-eqb pid pid refl)) in
      of_all (May run.child.offer.generation (is_bad run.child.offer.kind run.child.status ≡ true)) _ run.noted (may_run manner.seed manner.limit manner.gives run (its_run k run less there)) noted

  -- the book has no more generations than the journal
  book_within : generation_of book ≤ N
  book_within =
      let log = its.left.shuffle.log in
      let opened : opened_of book ≡ opened_of (entries_of own) =
      ap opened_of (sym its.left.shuffle.book_is) ∙ opened_rest [] log ∙ ap (λ (l : List Noted). opened_of (entries_of l)) (sym its.left.shuffle.own_list) in
      let openings : length (opened_of book) ≡ length (opened_of (entries_of own)) = ap (λ (l : List ℕ). length l) opened in
      let few : length (opened_of (entries_of own)) ≤ length (resets_of J) + 1 = at_most (opened_of (entries_of own)) (resets_of J) its.renewals.generations in
      let books : generation_of book ≡ length (opened_of book) = generation_counted book in
      let journals : N ≡ 1 + length (resets_of J) = generations_counted (replay_begun limits) J in
      omega (arith, openings, few, books, journals)

  -- what such a child notes is of the book's last generation, which is the journal's
  reaches : (k : ℕ) (run : Run) (front : List BookEntry) (e : BookEntry) (behind : List BookEntry) → k < count → IsIn run (its.left.runs k) → run.child.offer.generation ≡ N
      → book ≡ front ++ e ∷ behind → 1 ≤ times_attached front run.child.offer.pid → IsIn e (present book) × (generation_of book ≡ N)
  reaches k run front e behind less there last is attached =
      let here : generation_of front ≡ N = own_generation k run front e behind less there is attached ∙ last in
      let up : generation_of front ≤ generation_of (front ++ e ∷ behind) = generation_up front (e ∷ behind) in
      let all : generation_of book ≡ generation_of (front ++ e ∷ behind) = ap generation_of is in
      let within : generation_of book ≤ N = book_within in
      let same : generation_of front ≡ generation_of (front ++ e ∷ behind) = omega (arith, here, up, all, within) in
      (subst (λ (b : List BookEntry). IsIn e (present b)) (sym is) (in_present front behind e same), omega (arith, here, same, all))

  -- ---- redo

  -- the run of a startup child of the last generation, with its redo
  record HasRedo : Type 0 where
    pid : ℕ
    generation : ℕ
    kept : ℕ
    there : IsIn (Redone pid generation kept) (present book)
    last : generation_of book ≡ N
    -- none has ended without
    none_undone : list_any undoes (latest J) ≡ true → ⊥

  redo_in : (run : RedoRun manner count moves d own book its.left its.once its.board N) → HasRedo
  redo_in redo =
      let run : Run = redo.run in
      let ends : EndsInLast run = ends_in_last redo.slot run redo.less redo.there redo.generation_is (startup_is_no_dead_end run.child.offer.kind redo.startup) in
      let redone : list_any redoes (latest J) ≡ true =
      to_any redoes _ (latest J) ends.there (both_so (is_startup_child run.child.offer.kind) (is_exit_0 run.child.status) redo.startup redo.exited) in
      let notes : NotesRedo run.child.offer.pid run.noted =
      redo_noted manner.seed manner.limit manner.gives run (its_run redo.slot run redo.less redo.there) redo.startup redo.exited in
      let e : BookEntry = Redone run.child.offer.pid notes.generation notes.kept in
      let place : IsAt e book = at_place e book (in_book redo.slot run e redo.less redo.there notes.there) in
      let there = reaches redo.slot run place.before e place.behind redo.less redo.there redo.generation_is place.is (going place.before e place.behind place.is).1.0.attached in
      record {
        pid = run.child.offer.pid;
        generation = notes.generation;
        kept = notes.kept;
        there = there.0;
        last = there.1;
        none_undone = not_both (list_any undoes (latest J)) (list_any redoes (latest J)) well.once redone;
      }

  has_redo : HasRedo
  has_redo =
      let passes : Passes ends_redo (latest J) = from_any ends_redo (latest J) clean.redone in
      let end : IsEndOfRedo passes.one = is_end_of_redo passes.one passes.passes in
      let there : IsIn (entry.RedoEnded end.generation end.kept) (latest J) = subst (λ (x : PmEvent). IsIn x (latest J)) end.is passes.there in
      let last : end.generation ≡ N = redo_in_last any_moment (replay_begun limits) J end.generation end.kept its.legal there in
      redo_in (subst (RedoRun manner count moves d own book its.left its.once its.board) last
      (redo_run manner count moves d own book its.left its.once its.board its.redos end.generation end.kept (in_journal (entry.RedoEnded end.generation end.kept) J there)))

  -- ---- the last checkpoint

  record HasLast : Type 0 where
    pid : ℕ
    done : Bool
    there : IsIn (CheckpointEnded pid done true) (present book)

  well_ended : (run : Run) → run.child.offer.kind ≡ kinds.Checkpointer → (is_harm run.child.offer.kind run.child.status ≡ true → ⊥) → is_exit_0 run.child.status ≡ true
  well_ended run is harmless = by (is_exit_0 run.child.status) refl
    where
      by : (b : Bool) → is_exit_0 run.child.status ≡ b → is_exit_0 run.child.status ≡ true
      by true so = so
      by false so = absurd (harmless (ap (λ (k : Kind). is_harm k run.child.status) is ∙ ap (λ (b : Bool). not b) so))

  last_in : (pid : ℕ) → RunFor manner count moves d own book its.left its.once its.board (record { pid = pid; kind = kinds.Checkpointer; generation = N }) → HasLast
  last_in pid for =
      let run : Run = for.run in
      let last : run.child.offer.generation ≡ N = ap (λ (b : Begun). b.generation) for.is in
      let kind_is : run.child.offer.kind ≡ kinds.Checkpointer = ap (λ (b : Begun). b.kind) for.is in
      let exited : is_exit_0 run.child.status ≡ true =
      well_ended run kind_is (harmless_run for.slot run for.less for.there last (checkpointer_is_no_dead_end run.child.offer.kind kind_is)) in
      let notes : NotesLast run.child.offer.pid run.noted =
      last_noted manner.seed manner.limit manner.gives run (its_run for.slot run for.less for.there) (ap is_checkpointer kind_is) exited in
      let e : BookEntry = CheckpointEnded run.child.offer.pid notes.done true in
      let place : IsAt e book = at_place e book (in_book for.slot run e for.less for.there notes.there) in
      let there = reaches for.slot run place.before e place.behind for.less for.there last place.is (going place.before e place.behind place.is).1.0.attached in
      record { pid = run.child.offer.pid; done = notes.done; there = there.0 }

  has_last : HasLast
  has_last =
      let passes : Passes checks (latest J) = from_any checks (latest J) well.checkpointer in
      let start : IsCheckpointerStart passes.one = starts_checkpointer passes.one passes.passes in
      let there : IsIn (entry.Started start.pid kinds.Checkpointer) (latest J) = subst (λ (x : PmEvent). IsIn x (latest J)) start.is passes.there in
      last_in start.pid (run_for manner count moves d own book its.left its.once its.board (record { pid = start.pid; kind = kinds.Checkpointer; generation = N })
      (began_in_last any_moment (replay_begun limits) J start.pid kinds.Checkpointer its.legal there))

  -- ---- no fault

  -- the run that has noted it
  record NotedBy (e : BookEntry) : Type 0 where
    slot : ℕ
    less : slot < count
    run : Run
    there : IsIn run (its.left.runs slot)
    noted : IsIn e run.noted

  noted_by_one : (e : BookEntry) → is_own e ≡ true → IsIn e book → NotedBy e
  noted_by_one e its_own there =
      let log : List Line = its.left.shuffle.log in
      let image : IsImage (λ (l : Line). l.entry) e log = from_map (λ (l : Line). l.entry) e log (subst (IsIn e) (sym its.left.shuffle.book_is) there) in
      let l : Line = image.of in
      let l_own : is_own l.entry ≡ true = ap is_own image.is ∙ its_own in
      let less : l.by < count = below_at count l log its.left.shuffle.below l_own image.there in
      let list : List Noted = get_or its.left.lists l.by [] in
      let listed : slice_get its.left.lists l.by ≡ Some list = slice_get-get_or its.left.lists l.by [] (let all = its.left.all in omega (arith, less, all)) in
      let entries : entries_of (placed l.by 0 log) ≡ noted_by (its.left.runs l.by) =
      ap entries_of (sym (its.left.shuffle.each_list l.by list listed)) ∙ (its.left.each l.by list listed).entries in
      let given : IsGiven (λ (run : Run). run.noted) l.entry (its.left.runs l.by) =
      from_flat_map (λ (run : Run). run.noted) l.entry (its.left.runs l.by) (subst (IsIn l.entry) entries (in_placed 0 l log l_own image.there)) in
      record { slot = l.by; less = less; run = given.by; there = given.there; noted = subst (λ (x : BookEntry). IsIn x given.by.noted) image.is given.gives }

  pid_is : (pid other : ℕ) → nat_eq pid other ≡ true → other ≡ pid
  pid_is pid other is = grind (arith, is)

  unbroken : (e : BookEntry) → IsIn e (present book) → is_break e ≡ true → ⊥
  unbroken e there breaks =
      let fault : IsBreak e = is_that_break e breaks in
      let broke : BookEntry = Broke fault.pid fault.since fault.faults in
      let here : IsIn broke (present book) = subst (λ (x : BookEntry). IsIn x (present book)) fault.is there in
      let place : IsPresent broke book = present_place broke book here in
      let its_place : IsIn broke book = subst (IsIn broke) (sym place.is) (in_back broke place.before (broke ∷ place.behind) (inl refl)) in
      let by : NotedBy broke = noted_by_one broke refl its_place in
      let run : Run = by.run in
      let right : IsRun None manner.seed manner.limit manner.gives run = its_run by.slot run by.less by.there in
      let own_entry : nat_eq run.child.offer.pid fault.pid ≡ true =
      of_all (λ (x : BookEntry). is_by run.child.offer.pid x ≡ true) broke run.noted (own_entries run.child run.noted (uses None manner.seed manner.limit manner.gives run right)) by.noted in
      let attached : 1 ≤ times_attached place.before run.child.offer.pid =
      subst (λ (pid : ℕ). 1 ≤ times_attached place.before pid) (pid_is run.child.offer.pid fault.pid own_entry) (going place.before broke place.behind place.is).1.0.attached in
      let last : run.child.offer.generation ≡ N =
      sym (own_generation by.slot run place.before broke place.behind by.less by.there place.is attached) ∙ present_last broke book place ∙ has_redo.last in
      let bad : is_bad run.child.offer.kind run.child.status ≡ true =
      of_all (May run.child.offer.generation (is_bad run.child.offer.kind run.child.status ≡ true)) broke run.noted (may_run manner.seed manner.limit manner.gives run right) by.noted in
      let other : run.child.offer.kind ≢ kinds.DeadEnd = bad_is_no_dead_end run.child.offer.kind run.child.status bad in
      which by.slot run by.less by.there last other (or_cases (is_harm run.child.offer.kind run.child.status) (is_startup_child run.child.offer.kind && not (is_exit_0 run.child.status)) bad)
    where
      which : (k : ℕ) (run : Run) → k < count → IsIn run (its.left.runs k) → run.child.offer.generation ≡ N → run.child.offer.kind ≢ kinds.DeadEnd
          → (is_harm run.child.offer.kind run.child.status ≡ true) ⊎ (is_startup_child run.child.offer.kind && not (is_exit_0 run.child.status) ≡ true) → ⊥
      which k run less run_there last other (inl harm) = harmless_run k run less run_there last other harm
      which k run less run_there last other (inr undone) =
          let ends : EndsInLast run = ends_in_last k run less run_there last other in
          has_redo.none_undone (to_any undoes _ (latest J) ends.there undone)

  -- the book was left clean, and has no fault after its last redo
  book_whole : IsWhole book
  book_whole = whole its.remains.base book has_redo.pid has_redo.generation has_redo.kept has_last.pid has_last.done legal has_redo.there has_last.there unbroken

-- where the disk doesn't tell its files nothing is said
if_told : (files : Option Files) (P : Files → Type 0) → ((its : Files) → files ≡ Some its → IfSome files P) → IfSome files P
if_told None P told = tt
if_told (Some files) P told = told files refl

pub ends_clean : RestartsSafely → (limits : Limits) (manner : Manner) (count : ℕ) (moves : List Move) (d : RosterView MailTold) (own : List Noted) (book : List BookEntry) (before now : DiskView)
    → (its : IsLeftBy limits manner count moves d own book before now) → EndsClean (journal_of count moves) its.remains.base book now
ends_clean safely limits manner count moves d own book before now its clean =
    if_told now.files (AreLeftClean (history_of its.remains.base book) now) (λ files told.
    (let its_whole : IsWhole book = book_whole safely limits manner count moves d own book before now its (its.remains.legal (inr (files, told))) clean in
    its.remains.clean its_whole.closed its_whole.faults))
