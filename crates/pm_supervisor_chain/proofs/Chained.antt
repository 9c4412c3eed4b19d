-- Steps are chained: what each of them keeps.
use Rattle.std.{proofs.Common.{◌≡◌, ◌≢◌, ℕ, Bool, true, false, cond, List, [], ◌∷◌, ◌++◌, Option, Some, None, refl, ap, sym, ◌∙◌, subst, inl, inr, append_assoc, append-nil}, specs.{Prelude.{◌⊎◌, IsSomeAnd}, List.{AllByRecursion, last_or}}}
use Rattle.pm_query.specs.{pm_facts.Lists.each_both, declared.book.BookEntry.BookEntry}
use Rattle.pm_state.{specs.{pm_supervisor.{declared.Limits.Limits, Children.{Child, child_of, is_dead_end}}, declared.event.PmEvent.PmEvent, Journal.{Replay, IsLegal, replay_begun}}, proofs.ReplayLaws.legal_front}
use Rattle.pm_state.specs.declared.event.PmEvent.TheVariants as event
use Rattle.pm_query.specs.declared.book.BookEntry.TheVariants as entry
use Rattle.pm_supervisor_chain.{specs.{Chain.{AreDistinct, AttachOnce, GoneWereLost, InGeneration, IsAmong, IsChained, IsPidOf, Redo, RedosEnd, UsersWereStarted, attached_of, exits_of, gone_from, kept_of, lost_from, opened_of, redo_ends_of, redos_of, resets_of, users_from, generation_in, lost_since, gone_since}, Steps.{ChildRun, IsRunOf, IsThere, MayFollow, MayStep, Notes, Renews, Runs, RunsOn, StandsByItself, Step, AreSteps, AreStepsBehind, book_by, journal_by, journal_of, lost_after, lost_in, redo_end, replay_of, whole_book}}, proofs.{FoldsLaws.{attached-append, exits-append, gone-append, gone_since-append, kept-append, lost-append, lost_since-append, opened-append, redo_ends-append, redos-append, resets-append, users-append, journal-append, pid_left, pid_right}, Lists.{all_map, among_left, among_right, attach_one_more, distinct_one_more, gone_were_lost, of_pid}, Replays.{Found, Known, child_in, found, known, told_by}, Runs.{AddsRenewal, AddsRun, EndsRedo, IsToldBy, adds-renewal, adds-run, ends-redo, redo-ended, run_in, told-among}, StepLists.{book-one_more, journal-one_more, last-one_more, lost-one_more}}}

-- ---- between a reset and its renewal

-- the generation that is to be opened
abbrev due : Option Step → List ℕ
due (Some (Notes (event.Reset generation))) = generation ∷ []
due _ = []

-- the children that are to be noted as gone before it
abbrev waiting : Option Step → List ℕ → List (List ℕ)
waiting (Some (Notes (event.Reset generation))) lost = lost ∷ []
waiting _ lost = []

-- the children that ended inside the store since the last reset
abbrev lost_now : Option Step → List ℕ → List ℕ
lost_now (Some (Notes (event.Reset generation))) lost = []
lost_now _ lost = lost

record IsCalm (last : Option Step) (lost : List ℕ) : Type 0 where
  due_none : due last ≡ []
  waiting_none : waiting last lost ≡ []
  lost_is : lost_now last lost ≡ lost

calm : (last : Option Step) (lost : List ℕ) (e : PmEvent) → MayFollow last (Notes e) → IsCalm last lost
calm None lost e follows = record { due_none = refl; waiting_none = refl; lost_is = refl }
calm (Some (RunsOn run)) lost e follows = absurd follows
calm (Some (Notes (event.Reset generation))) lost e follows = absurd follows
calm (Some other) lost e follows = record { due_none = refl; waiting_none = refl; lost_is = refl }

-- a run may come where an entry may
run-calm : (last : Option Step) (run : ChildRun) (at : ℕ) (e : PmEvent) → MayFollow last (Runs run at) → MayFollow last (Notes e)
run-calm None run at e follows = tt
run-calm (Some (RunsOn before)) run at e follows = follows
run-calm (Some (Notes (event.Reset generation))) run at e follows = follows
run-calm (Some other) run at e follows = tt

on-calm : (last : Option Step) (run : ChildRun) (e : PmEvent) → MayFollow last (RunsOn run) → MayFollow last (Notes e)
on-calm None run e follows = tt
on-calm (Some (RunsOn before)) run e follows = follows
on-calm (Some (Notes (event.Reset generation))) run e follows = follows
on-calm (Some other) run e follows = tt

record IsRenewed (last : Option Step) (generation : ℕ) (lost : List ℕ) : Type 0 where
  due_one : due last ≡ generation ∷ []
  waiting_one : waiting last lost ≡ lost ∷ []
  lost_none : lost_now last lost ≡ []

renewed : (last : Option Step) (generation : ℕ) (gone lost : List ℕ) → MayFollow last (Renews generation gone) → IsRenewed last generation lost
renewed None generation gone lost follows = absurd follows
renewed (Some (RunsOn run)) generation gone lost follows = absurd follows
renewed (Some (Notes (event.Reset next))) generation gone lost follows =
    record { due_one = ap (λ n. n ∷ []) (sym follows); waiting_one = refl; lost_none = refl }
renewed (Some other) generation gone lost follows = absurd follows

-- ---- children and their redos

-- what journal and book agree on, where no child runs on
record Linked (journal : List PmEvent) (book : List BookEntry) : Type 0 where
  redos_end : RedosEnd journal book
  told : AllByRecursion (λ redo. IsAmong redo.kept (redo_ends_of journal)) (redos_of book)
  users : UsersWereStarted journal book
  once : AttachOnce (attached_of book)
  ended : AllByRecursion (λ user. IsPidOf user.number (exits_of journal)) (attached_of book)

-- entries of both that agree among themselves, where these users attach, whom the journal so far has started
record Adds (journal : List PmEvent) (book : List BookEntry) (es : List PmEvent) (bs : List BookEntry) (users : List InGeneration) : Type 0 where
  attached : attached_of bs ≡ users
  once : AttachOnce (attached_of book ++ users)
  started : AllByRecursion (λ user. IsAmong user (users_from 1 journal)) users
  ended : AllByRecursion (λ user. IsPidOf user.number (exits_of es)) users
  ends : AllByRecursion (λ end. IsAmong end (kept_of (redos_of bs))) (redo_ends_of es)
  told : AllByRecursion (λ redo. IsAmong redo.kept (redo_ends_of es)) (redos_of bs)

module _ (journal : List PmEvent) (book : List BookEntry) (es : List PmEvent) (bs : List BookEntry) where
  kept-eq : kept_of (redos_of (book ++ bs)) ≡ kept_of (redos_of book) ++ kept_of (redos_of bs)
  kept-eq = ap kept_of (redos-append book bs) ∙ kept-append (redos_of book) (redos_of bs)

  kept-before : (end : InGeneration) → IsAmong end (kept_of (redos_of book)) → IsAmong end (kept_of (redos_of (book ++ bs)))
  kept-before end is = subst (λ l. IsAmong end l) (sym kept-eq) (among_left end (kept_of (redos_of book)) (kept_of (redos_of bs)) is)

  kept-behind : (end : InGeneration) → IsAmong end (kept_of (redos_of bs)) → IsAmong end (kept_of (redos_of (book ++ bs)))
  kept-behind end is = subst (λ l. IsAmong end l) (sym kept-eq) (among_right end (kept_of (redos_of book)) (kept_of (redos_of bs)) is)

  end-before : (end : InGeneration) → IsAmong end (redo_ends_of journal) → IsAmong end (redo_ends_of (journal ++ es))
  end-before end is =
      subst (λ l. IsAmong end l) (sym (redo_ends-append journal es)) (among_left end (redo_ends_of journal) (redo_ends_of es) is)

  end-behind : (end : InGeneration) → IsAmong end (redo_ends_of es) → IsAmong end (redo_ends_of (journal ++ es))
  end-behind end is =
      subst (λ l. IsAmong end l) (sym (redo_ends-append journal es)) (among_right end (redo_ends_of journal) (redo_ends_of es) is)

  user-before : (user : InGeneration) → IsAmong user (users_from 1 journal) → IsAmong user (users_from 1 (journal ++ es))
  user-before user is =
      subst (λ l. IsAmong user l) (sym (users-append 1 journal es))
      (among_left user (users_from 1 journal) (users_from (generation_in 1 journal) es) is)

  exit-before : (pid : ℕ) → IsPidOf pid (exits_of journal) → IsPidOf pid (exits_of (journal ++ es))
  exit-before pid is = subst (λ l. IsPidOf pid l) (sym (exits-append journal es)) (pid_left pid (exits_of journal) (exits_of es) is)

  exit-behind : (pid : ℕ) → IsPidOf pid (exits_of es) → IsPidOf pid (exits_of (journal ++ es))
  exit-behind pid is = subst (λ l. IsPidOf pid l) (sym (exits-append journal es)) (pid_right pid (exits_of journal) (exits_of es) is)

  ends-more : RedosEnd journal book → AllByRecursion (λ end. IsAmong end (kept_of (redos_of bs))) (redo_ends_of es) → RedosEnd (journal ++ es) (book ++ bs)
  ends-more before behind =
      subst (λ l. AllByRecursion (λ end. IsAmong end (kept_of (redos_of (book ++ bs)))) l) (sym (redo_ends-append journal es))
      (each_both _ (redo_ends_of journal) (redo_ends_of es)
      (all_map _ _ kept-before (redo_ends_of journal) before) (all_map _ _ kept-behind (redo_ends_of es) behind))

  users-more : (users : List InGeneration) → attached_of bs ≡ users → UsersWereStarted journal book
      → AllByRecursion (λ user. IsAmong user (users_from 1 journal)) users → UsersWereStarted (journal ++ es) (book ++ bs)
  users-more users attached before behind =
      subst (λ l. AllByRecursion (λ user. IsAmong user (users_from 1 (journal ++ es))) l)
      (sym (attached-append book bs ∙ ap (λ l. attached_of book ++ l) attached))
      (each_both _ (attached_of book) users
      (all_map _ _ user-before (attached_of book) before) (all_map _ _ user-before users behind))

  once-more : (users : List InGeneration) → attached_of bs ≡ users → AttachOnce (attached_of book ++ users) → AttachOnce (attached_of (book ++ bs))
  once-more users attached once =
      subst (λ l. AttachOnce l) (sym (attached-append book bs ∙ ap (λ l. attached_of book ++ l) attached)) once

  told-more : Linked journal book → AllByRecursion (λ redo. IsAmong redo.kept (redo_ends_of es)) (redos_of bs)
      → AllByRecursion (λ redo. IsAmong redo.kept (redo_ends_of (journal ++ es))) (redos_of (book ++ bs))
  told-more linked told =
      subst (λ l. AllByRecursion (λ redo. IsAmong redo.kept (redo_ends_of (journal ++ es))) l) (sym (redos-append book bs))
      (each_both _ (redos_of book) (redos_of bs)
      (all_map _ _ (λ redo is. end-before redo.kept is) (redos_of book) linked.told)
      (all_map _ _ (λ redo is. end-behind redo.kept is) (redos_of bs) told))

  linked-more : (users : List InGeneration) → Linked journal book → Adds journal book es bs users → Linked (journal ++ es) (book ++ bs)
  linked-more users linked adds =
      record {
        redos_end = ends-more linked.redos_end adds.ends;
        told = told-more linked adds.told;
        users = users-more users adds.attached linked.users adds.started;
        once = once-more users adds.attached adds.once;
        ended =
            subst (λ l. AllByRecursion (λ user. IsPidOf user.number (exits_of (journal ++ es))) l)
            (sym (attached-append book bs ∙ ap (λ l. attached_of book ++ l) adds.attached))
            (each_both _ (attached_of book) users
            (all_map _ _ (λ user is. exit-before user.number is) (attached_of book) linked.ended)
            (all_map _ _ (λ user is. exit-behind user.number is) users adds.ended));
      }

-- ---- what holds after each step but one that runs on

record Sound (journal : List PmEvent) (book : List BookEntry) (last : Option Step) (lost : List ℕ) : Type 0 where
  linked : Linked journal book
  generations : opened_of book ++ due last ≡ 1 ∷ resets_of journal
  gone : gone_from [] book ++ waiting last lost ≡ [] ∷ lost_from [] journal
  none_gone : gone_since [] book ≡ []
  lost_is : lost_since [] journal ≡ lost_now last lost
  distinct : AllByRecursion AreDistinct (lost_from [] journal)
  distinct_now : AreDistinct lost
  lost_ended : AllByRecursion (λ pid. IsPidOf pid (exits_of journal)) lost

sound-none : Sound [] (entry.Opened 1 ∷ []) None []
sound-none =
    record {
      linked = record { redos_end = tt; told = tt; users = tt; once = tt; ended = tt };
      generations = refl;
      gone = refl;
      none_gone = refl;
      lost_is = refl;
      distinct = tt;
      distinct_now = tt;
      lost_ended = tt;
    }

agrees : (opened resets : List ℕ) (last : Option Step) → opened ++ due last ≡ 1 ∷ resets
    → (opened ≡ 1 ∷ resets) ⊎ ((generation : ℕ) × (opened ++ generation ∷ [] ≡ 1 ∷ resets))
agrees opened resets (Some (Notes (event.Reset generation))) is = inr (generation, is)
agrees opened resets None is = inl (sym (append-nil opened) ∙ is)
agrees opened resets (Some other) is = inl (sym (append-nil opened) ∙ is)

were-lost : (gone rest lost : List (List ℕ)) → gone ++ rest ≡ lost → AllByRecursion AreDistinct lost → GoneWereLost gone lost
were-lost gone rest lost is distinct =
    subst (λ l. GoneWereLost gone l) is (gone_were_lost gone rest (subst (λ l. AllByRecursion AreDistinct l) (sym is) distinct))

sound-chained : (journal : List PmEvent) (book : List BookEntry) (last : Option Step) (lost : List ℕ) → Sound journal book last lost → IsChained journal book
sound-chained journal book last lost sound =
    record {
      generations = agrees (opened_of book) (resets_of journal) last sound.generations;
      redos_end = sound.linked.redos_end;
      redos_told = all_map _ _ (λ redo told ended. told) (redos_of book) sound.linked.told;
      users = sound.linked.users;
      once = sound.linked.once;
      gone = were-lost (gone_from [] book) (waiting last lost) ([] ∷ lost_from [] journal) sound.gone (tt, sound.distinct);
    }

-- ---- an entry of the journal

abbrev Lists : Type 0
Lists = List (List ℕ)

-- an entry that begins no generation
record IsQuiet (e : PmEvent) (lost : List ℕ) : Type 0 where
  redo_ends : redo_ends_of (e ∷ []) ≡ []
  resets : resets_of (e ∷ []) ≡ []
  lost_none : (so_far : List ℕ) → lost_from so_far (e ∷ []) ≡ []
  since : (so_far : List ℕ) → lost_since so_far (e ∷ []) ≡ so_far
  due_none : due (Some (Notes e)) ≡ []
  waiting_none : waiting (Some (Notes e)) lost ≡ []
  lost_is : lost_now (Some (Notes e)) lost ≡ lost

module _ (journal : List PmEvent) (book : List BookEntry) (last : Option Step) (lost : List ℕ) (sound : Sound journal book last lost) where
  linked-entry : (e : PmEvent) → redo_ends_of (e ∷ []) ≡ [] → Linked (journal ++ e ∷ []) book
  linked-entry e none =
      subst (Linked (journal ++ e ∷ [])) (append-nil book)
      (linked-more journal book (e ∷ []) [] [] sound.linked (record {
        attached = refl;
        once = subst AttachOnce (sym (append-nil (attached_of book))) sound.linked.once;
        started = tt;
        ended = tt;
        ends = subst (AllByRecursion (λ end. IsAmong end [])) (sym none) tt;
        told = tt;
      }))

  lost-entry : (e : PmEvent) → AllByRecursion (λ pid. IsPidOf pid (exits_of (journal ++ e ∷ []))) lost
  lost-entry e = all_map _ _ (exit-before journal book (e ∷ []) []) lost sound.lost_ended

  module _ (still : IsCalm last lost) where
    opened-now : opened_of book ≡ 1 ∷ resets_of journal
    opened-now = sym (append-nil (opened_of book)) ∙ ap (λ l. opened_of book ++ l) (sym still.due_none) ∙ sound.generations

    gone-now : gone_from [] book ≡ [] ∷ lost_from [] journal
    gone-now = sym (append-nil (gone_from [] book)) ∙ ap (λ (l : Lists). gone_from [] book ++ l) (sym still.waiting_none) ∙ sound.gone

    lost-now : lost_since [] journal ≡ lost
    lost-now = sound.lost_is ∙ still.lost_is

    sound-quiet : (e : PmEvent) → IsQuiet e lost → Sound (journal ++ e ∷ []) book (Some (Notes e)) lost
    sound-quiet e quiet =
        let lost_same : lost_from [] (journal ++ e ∷ []) ≡ lost_from [] journal =
        lost-append [] journal (e ∷ []) ∙ ap (λ l. lost_from [] journal ++ l) (quiet.lost_none (lost_since [] journal))
        ∙ append-nil (lost_from [] journal) in
        let resets_same : resets_of (journal ++ e ∷ []) ≡ resets_of journal =
        resets-append journal (e ∷ []) ∙ ap (λ l. resets_of journal ++ l) quiet.resets ∙ append-nil (resets_of journal) in
        record {
          linked = linked-entry e quiet.redo_ends;
          generations =
              ap (λ l. opened_of book ++ l) quiet.due_none ∙ append-nil (opened_of book) ∙ opened-now ∙ ap (λ l. 1 ∷ l) (sym resets_same);
          gone =
              ap (λ (l : Lists). gone_from [] book ++ l) quiet.waiting_none ∙ append-nil (gone_from [] book) ∙ gone-now
              ∙ ap (λ (l : Lists). [] ∷ l) (sym lost_same);
          none_gone = sound.none_gone;
          lost_is = lost_since-append [] journal (e ∷ []) ∙ quiet.since (lost_since [] journal) ∙ lost-now ∙ sym quiet.lost_is;
          distinct = subst (AllByRecursion AreDistinct) (sym lost_same) sound.distinct;
          distinct_now = sound.distinct_now;
          lost_ended = lost-entry e;
        }

    sound-reset : (generation : ℕ) → Sound (journal ++ event.Reset generation ∷ []) book (Some (Notes (event.Reset generation))) lost
    sound-reset generation =
        let e : PmEvent = event.Reset generation in
        let lost_more : lost_from [] journal ++ lost ∷ [] ≡ lost_from [] (journal ++ e ∷ []) =
        sym (lost-append [] journal (e ∷ []) ∙ ap (λ l. lost_from [] journal ++ l ∷ []) lost-now) in
        record {
          linked = linked-entry e refl;
          generations = ap (λ l. l ++ generation ∷ []) opened-now ∙ ap (λ l. 1 ∷ l) (sym (resets-append journal (e ∷ [])));
          gone = ap (λ (l : Lists). l ++ lost ∷ []) gone-now ∙ ap (λ (l : Lists). [] ∷ l) lost_more;
          none_gone = sound.none_gone;
          lost_is = lost_since-append [] journal (e ∷ []);
          distinct =
              subst (AllByRecursion AreDistinct) lost_more
              (each_both AreDistinct (lost_from [] journal) (lost ∷ []) sound.distinct (sound.distinct_now, tt));
          distinct_now = sound.distinct_now;
          lost_ended = lost-entry e;
        }

    sound-entry : (e : PmEvent) → StandsByItself e → Sound (journal ++ e ∷ []) book (Some (Notes e)) lost
    sound-entry (event.Exited pid kind status was_active at) itself = absurd itself
    sound-entry (event.RedoEnded generation kept) itself = absurd itself
    sound-entry (event.Reset generation) itself = sound-reset generation
    sound-entry e itself =
        sound-quiet e (record {
          redo_ends = refl;
          resets = refl;
          lost_none = λ so_far. refl;
          since = λ so_far. refl;
          due_none = refl;
          waiting_none = refl;
          lost_is = refl;
        })

  -- ---- a renewal

  sound-renewed : (generation : ℕ) (gone : List ℕ) → IsRenewed last generation lost → gone ≡ lost
      → Sound journal (book ++ book_by (Renews generation gone)) (Some (Renews generation gone)) []
  sound-renewed generation gone renews are =
      let bs : List BookEntry = book_by (Renews generation gone) in
      let adds : AddsRenewal generation gone bs = adds-renewal generation gone in
      record {
        linked =
            subst (λ l. Linked l (book ++ bs)) (append-nil journal)
            (linked-more journal book [] bs [] sound.linked (record {
              attached = adds.attached;
              once = subst AttachOnce (sym (append-nil (attached_of book))) sound.linked.once;
              started = tt;
              ended = tt;
              ends = tt;
              told = subst (AllByRecursion (λ redo. IsAmong redo.kept [])) (sym adds.redos) tt;
            }));
        generations =
            append-nil (opened_of (book ++ bs)) ∙ opened-append book bs
            ∙ ap (λ l. opened_of book ++ l) (adds.opened ∙ sym renews.due_one) ∙ sound.generations;
        gone =
            append-nil (gone_from [] (book ++ bs)) ∙ gone-append [] book bs
            ∙ ap (λ (l : Lists). gone_from [] book ++ l)
            (adds.gone_now (gone_since [] book) ∙ ap (λ l. (l ++ gone) ∷ []) sound.none_gone ∙ ap (λ l. l ∷ []) are ∙ sym renews.waiting_one)
            ∙ sound.gone;
        none_gone = gone_since-append [] book bs ∙ adds.since (gone_since [] book);
        lost_is = sound.lost_is ∙ renews.lost_none;
        distinct = sound.distinct;
        distinct_now = tt;
        lost_ended = tt;
      }

-- ---- a run of a child

-- the child never ended, and may use the store in its generation
record IsNew (journal : List PmEvent) (run : ChildRun) : Type 0 where
  fresh : IsPidOf run.pid (exits_of journal) → ⊥
  started : is_dead_end run.kind ≡ false → IsAmong (run_in run) (users_from 1 journal)

is-new : (journal : List PmEvent) (replay : Replay) (run : ChildRun) → Known (told_by journal) replay.shown → IsThere replay run → IsNew journal run
is-new journal replay run is_known there =
    let serving : Child → Type 0 = λ c. is_dead_end c.kind ≡ false → IsAmong (child_in c) (users_from 1 journal) in
    let one : Found serving (λ c. (c.kind ≡ run.kind) × (c.generation ≡ run.generation)) run.pid =
    found serving (λ c. (c.kind ≡ run.kind) × (c.generation ≡ run.generation)) run.pid replay.shown.children is_known.users there in
    record {
      fresh = λ ended.
          let gone : (other : ℕ) × (run.pid ≡ other) × (child_of other replay.shown.children ≡ None) =
          of_pid (λ pid. child_of pid replay.shown.children ≡ None) run.pid (exits_of journal) is_known.exits_gone ended in
          subst (λ o. IsSomeAnd o (λ c. (c.kind ≡ run.kind) × (c.generation ≡ run.generation)))
          (ap (λ pid. child_of pid replay.shown.children) gone.1 ∙ gone.2) there;
      started = λ serves.
          subst (λ pid. IsAmong (record { number = pid; generation = run.generation }) (users_from 1 journal)) one.own
          (subst (λ generation. IsAmong (record { number = one.child.pid; generation = generation }) (users_from 1 journal)) one.this.1
          (one.each (ap is_dead_end one.this.0 ∙ serves)));
    }

-- what a run adds to the lost
abbrev lost_with : Bool → ℕ → List ℕ → List ℕ
lost_with was_active pid lost = cond was_active (lost ++ pid ∷ []) lost

abbrev exit_of : ChildRun → Bool → ℕ → PmEvent
exit_of run was_active at = event.Exited run.pid run.kind run.status was_active at

exit-lost : (run : ChildRun) (b : Bool) (at : ℕ) (so_far : List ℕ) (es : List PmEvent)
    → lost_from so_far (exit_of run b at ∷ es) ≡ lost_from (lost_with b run.pid so_far) es
exit-lost run true at so_far es = refl
exit-lost run false at so_far es = refl

exit-since : (run : ChildRun) (b : Bool) (at : ℕ) (so_far : List ℕ) (es : List PmEvent)
    → lost_since so_far (exit_of run b at ∷ es) ≡ lost_since (lost_with b run.pid so_far) es
exit-since run true at so_far es = refl
exit-since run false at so_far es = refl

distinct-with : (b : Bool) (pid : ℕ) (lost : List ℕ) → AreDistinct lost → AllByRecursion (λ other. other ≢ pid) lost → AreDistinct (lost_with b pid lost)
distinct-with true pid lost distinct differ = distinct_one_more pid lost distinct differ
distinct-with false pid lost distinct differ = distinct

all-with : (P : ℕ → Type 0) (b : Bool) (pid : ℕ) (lost : List ℕ) → AllByRecursion P lost → P pid → AllByRecursion P (lost_with b pid lost)
all-with P true pid lost all one = each_both P lost (pid ∷ []) all (one, tt)
all-with P false pid lost all one = all

module _ (journal : List PmEvent) (book : List BookEntry) (last : Option Step) (lost : List ℕ) (sound : Sound journal book last lost) (still : IsCalm last lost) (run : ChildRun) (new : IsNew journal run) (is_run : IsRunOf run) where
  adds-of : AddsRun run
  adds-of = adds-run run is_run.use_of_store

  others-differ : AllByRecursion (λ other. other.number ≢ run.pid) (attached_of book)
  others-differ =
      all_map (λ (other : InGeneration). IsPidOf other.number (exits_of journal)) (λ (other : InGeneration). other.number ≢ run.pid)
      (λ other ended same. new.fresh (subst (λ pid. IsPidOf pid (exits_of journal)) same ended))
      (attached_of book) sound.linked.ended

  attach-once : (users : List InGeneration) → (users ≡ []) ⊎ ((users ≡ run_in run ∷ []) × (is_dead_end run.kind ≡ false))
      → AttachOnce (attached_of book ++ users)
  attach-once users (inl none) =
      subst (λ l. AttachOnce (attached_of book ++ l)) (sym none) (subst AttachOnce (sym (append-nil (attached_of book))) sound.linked.once)
  attach-once users (inr one) =
      subst (λ l. AttachOnce (attached_of book ++ l)) (sym one.0)
      (attach_one_more (run_in run) (attached_of book) sound.linked.once others-differ)

  users-started : (users : List InGeneration) → (users ≡ []) ⊎ ((users ≡ run_in run ∷ []) × (is_dead_end run.kind ≡ false))
      → AllByRecursion (λ user. IsAmong user (users_from 1 journal)) users
  users-started users (inl none) = subst (AllByRecursion (λ user. IsAmong user (users_from 1 journal))) (sym none) tt
  users-started users (inr one) =
      subst (AllByRecursion (λ user. IsAmong user (users_from 1 journal))) (sym one.0) (new.started one.1, tt)

  users-ended : (pids : List ℕ) (users : List InGeneration) → IsPidOf run.pid pids
      → (users ≡ []) ⊎ ((users ≡ run_in run ∷ []) × (is_dead_end run.kind ≡ false))
      → AllByRecursion (λ user. IsPidOf user.number pids) users
  users-ended pids users is (inl none) = subst (AllByRecursion (λ user. IsPidOf user.number pids)) (sym none) tt
  users-ended pids users is (inr one) = subst (AllByRecursion (λ user. IsPidOf user.number pids)) (sym one.0) (is, tt)

  opened-noted : opened_of (book ++ run.noted) ≡ 1 ∷ resets_of journal
  opened-noted =
      opened-append book run.noted ∙ ap (λ l. opened_of book ++ l) adds-of.adds.opened ∙ append-nil (opened_of book)
      ∙ opened-now journal book last lost sound still

  gone-noted : gone_from [] (book ++ run.noted) ≡ [] ∷ lost_from [] journal
  gone-noted =
      gone-append [] book run.noted ∙ ap (λ (l : Lists). gone_from [] book ++ l) (adds-of.adds.gone (gone_since [] book))
      ∙ append-nil (gone_from [] book) ∙ gone-now journal book last lost sound still

  -- found to have ended
  sound-run : (at : ℕ) → Sound (journal ++ journal_by (Runs run at)) (book ++ run.noted) (Some (Runs run at)) (lost_with run.was_active run.pid lost)
  sound-run at =
      let rest : List PmEvent = redo_end run.generation run.kept in
      let es : List PmEvent = journal_by (Runs run at) in
      let ends : EndsRedo rest = ends-redo run.generation run.kept in
      let now : List ℕ = lost_with run.was_active run.pid lost in
      let lost_same : lost_from [] (journal ++ es) ≡ lost_from [] journal =
      lost-append [] journal es
      ∙ ap (λ l. lost_from [] journal ++ l)
      (exit-lost run run.was_active at (lost_since [] journal) rest ∙ ends.lost (lost_with run.was_active run.pid (lost_since [] journal)))
      ∙ append-nil (lost_from [] journal) in
      let resets_same : resets_of (journal ++ es) ≡ resets_of journal =
      resets-append journal es ∙ ap (λ l. resets_of journal ++ l) ends.resets ∙ append-nil (resets_of journal) in
      record {
        linked =
            linked-more journal book es run.noted adds-of.users sound.linked (record {
              attached = adds-of.adds.attached;
              once = attach-once adds-of.users adds-of.user;
              started = users-started adds-of.users adds-of.user;
              ended = users-ended (exits_of es) adds-of.users (inl refl) adds-of.user;
              ends = redo-ended run run.kept is_run.redo;
              told = all_map _ _ (told-among run) (redos_of run.noted) adds-of.adds.redos;
            });
        generations = append-nil (opened_of (book ++ run.noted)) ∙ opened-noted ∙ ap (λ l. 1 ∷ l) (sym resets_same);
        gone = append-nil (gone_from [] (book ++ run.noted)) ∙ gone-noted ∙ ap (λ (l : Lists). [] ∷ l) (sym lost_same);
        none_gone = gone_since-append [] book run.noted ∙ adds-of.adds.since (gone_since [] book) ∙ sound.none_gone;
        lost_is =
            lost_since-append [] journal es ∙ ap (λ l. lost_since l es) (lost-now journal book last lost sound still)
            ∙ exit-since run run.was_active at lost rest ∙ ends.since now;
        distinct = subst (AllByRecursion AreDistinct) (sym lost_same) sound.distinct;
        distinct_now =
            distinct-with run.was_active run.pid lost sound.distinct_now
            (all_map _ _ (λ other ended same. new.fresh (subst (λ pid. IsPidOf pid (exits_of journal)) same ended)) lost sound.lost_ended);
        lost_ended =
            all-with _ run.was_active run.pid lost
            (all_map _ _ (exit-before journal book es run.noted) lost sound.lost_ended)
            (exit-behind journal book es run.noted run.pid (inl refl));
      }

  -- not found to have ended
  on-chained : IsChained journal (book ++ run.noted)
  on-chained =
      record {
        generations = inl opened-noted;
        redos_end = all_map _ _ (kept-before journal book [] run.noted) (redo_ends_of journal) sound.linked.redos_end;
        redos_told =
            subst (AllByRecursion (λ redo. IsPidOf redo.pid (exits_of journal) → IsAmong redo.kept (redo_ends_of journal)))
            (sym (redos-append book run.noted))
            (each_both _ (redos_of book) (redos_of run.noted)
            (all_map _ _ (λ redo told ended. told) (redos_of book) sound.linked.told)
            (all_map (IsToldBy run) (λ (redo : Redo). IsPidOf redo.pid (exits_of journal) → IsAmong redo.kept (redo_ends_of journal))
            (λ redo told ended. absurd (new.fresh (subst (λ pid. IsPidOf pid (exits_of journal)) told.pid ended)))
            (redos_of run.noted) adds-of.adds.redos));
        users =
            subst (λ l. UsersWereStarted l (book ++ run.noted)) (append-nil journal)
            (users-more journal book [] run.noted adds-of.users adds-of.adds.attached sound.linked.users
            (users-started adds-of.users adds-of.user));
        once = once-more journal book [] run.noted adds-of.users adds-of.adds.attached (attach-once adds-of.users adds-of.user);
        gone =
            were-lost (gone_from [] (book ++ run.noted)) [] ([] ∷ lost_from [] journal)
            (append-nil (gone_from [] (book ++ run.noted)) ∙ gone-noted) (tt, sound.distinct);
      }

-- ---- step after step

abbrev SoundAt : List Step → Type 0
SoundAt before = Sound (journal_of before) (whole_book before) (last_or None before) (lost_in before)

moved : (before : List Step) (step : Step)
    → Sound (journal_of before ++ journal_by step) (whole_book before ++ book_by step) (Some step) (lost_after (lost_in before) step)
    → SoundAt (before ++ step ∷ [])
moved before step sound =
    subst (λ journal. Sound journal (whole_book (before ++ step ∷ [])) (last_or None (before ++ step ∷ [])) (lost_in (before ++ step ∷ [])))
    (sym (journal-one_more before step))
    (subst (λ book. Sound (journal_of before ++ journal_by step) book (last_or None (before ++ step ∷ [])) (lost_in (before ++ step ∷ [])))
    (sym (book-one_more before step))
    (subst (λ last. Sound (journal_of before ++ journal_by step) (whole_book before ++ book_by step) last (lost_in (before ++ step ∷ [])))
    (sym (last-one_more before step))
    (subst (λ lost. Sound (journal_of before ++ journal_by step) (whole_book before ++ book_by step) (Some step) lost)
    (sym (lost-one_more before step)) sound)))

abbrev runs_on : Step → Bool
runs_on (RunsOn run) = true
runs_on _ = false

known-before : (limits : Limits) (gives : ℕ → Bool) (before steps : List Step) → IsLegal limits gives (journal_of (before ++ steps))
    → Known (told_by (journal_of before)) (replay_of limits before).shown
known-before limits gives before steps legal =
    known limits gives (journal_of before)
    (legal_front gives (replay_begun limits) (journal_of before) (journal_of steps)
    (subst (λ journal. IsLegal limits gives journal) (journal-append before steps) legal))

module _ (limits : Limits) (before : List Step) (is_known : Known (told_by (journal_of before)) (replay_of limits before).shown) (sound : SoundAt before) where
  sound-step : (step : Step) → runs_on step ≡ false → MayStep limits before step → SoundAt (before ++ step ∷ [])
  sound-step (Notes e) ends may =
      moved before (Notes e)
      (subst (λ book. Sound (journal_of before ++ e ∷ []) book (Some (Notes e)) (lost_in before)) (sym (append-nil (whole_book before)))
      (sound-entry (journal_of before) (whole_book before) (last_or None before) (lost_in before) sound
      (calm (last_or None before) (lost_in before) e may.follows) e may.fits))
  sound-step (Runs run at) ends may =
      moved before (Runs run at)
      (sound-run (journal_of before) (whole_book before) (last_or None before) (lost_in before) sound
      (calm (last_or None before) (lost_in before) event.TerminateSent (run-calm (last_or None before) run at event.TerminateSent may.follows))
      run (is-new (journal_of before) (replay_of limits before) run is_known may.fits.0) may.fits.1 at)
  sound-step (RunsOn run) ends may = absurd cc
  sound-step (Renews generation gone) ends may =
      moved before (Renews generation gone)
      (subst (λ journal. Sound journal (whole_book before ++ book_by (Renews generation gone)) (Some (Renews generation gone)) [])
      (sym (append-nil (journal_of before)))
      (sound-renewed (journal_of before) (whole_book before) (last_or None before) (lost_in before) sound generation gone
      (renewed (last_or None before) generation gone (lost_in before) may.follows) may.fits))

  last-on : (run : ChildRun) → MayStep limits before (RunsOn run)
      → IsChained (journal_of (before ++ RunsOn run ∷ [])) (whole_book (before ++ RunsOn run ∷ []))
  last-on run may =
      subst (λ journal. IsChained journal (whole_book (before ++ RunsOn run ∷ [])))
      (sym (journal-one_more before (RunsOn run) ∙ append-nil (journal_of before)))
      (subst (λ book. IsChained (journal_of before) book) (sym (book-one_more before (RunsOn run)))
      (on-chained (journal_of before) (whole_book before) (last_or None before) (lost_in before) sound
      (calm (last_or None before) (lost_in before) event.TerminateSent (on-calm (last_or None before) run event.TerminateSent may.follows))
      run (is-new (journal_of before) (replay_of limits before) run is_known may.fits.0) may.fits.1))

chained-behind : (limits : Limits) (gives : ℕ → Bool) (before steps : List Step) → IsLegal limits gives (journal_of (before ++ steps)) → SoundAt before
    → AreStepsBehind limits before steps → IsChained (journal_of (before ++ steps)) (whole_book (before ++ steps))
chained-behind limits gives before [] legal sound are =
    subst (λ steps. IsChained (journal_of steps) (whole_book steps)) (sym (append-nil before))
    (sound-chained (journal_of before) (whole_book before) (last_or None before) (lost_in before) sound)
chained-behind limits gives before (RunsOn run ∷ []) legal sound are =
    last-on limits before (known-before limits gives before (RunsOn run ∷ []) legal) sound run are.0
chained-behind limits gives before (RunsOn run ∷ next ∷ steps) legal sound are =
    absurd (subst (λ last. MayFollow last next) (last-one_more before (RunsOn run)) are.1.0.follows)
chained-behind limits gives before (step ∷ steps) legal sound are =
    let together : (before ++ step ∷ []) ++ steps ≡ before ++ step ∷ steps = append_assoc before (step ∷ []) steps in
    subst (λ all. IsChained (journal_of all) (whole_book all)) together
    (chained-behind limits gives (before ++ step ∷ []) steps (subst (λ all. IsLegal limits gives (journal_of all)) (sym together) legal)
    (sound-step limits before (known-before limits gives before (step ∷ steps) legal) sound step refl are.0) are.1)

pub are-chained : (limits : Limits) (gives : ℕ → Bool) (steps : List Step) → IsLegal limits gives (journal_of steps) → AreSteps limits steps
    → IsChained (journal_of steps) (whole_book steps)
are-chained limits gives steps legal are = chained-behind limits gives [] steps legal sound-none are
