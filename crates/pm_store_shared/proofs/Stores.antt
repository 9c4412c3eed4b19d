-- What a store's calls make of what holds of it.
use Rattle.std.{proofs.{Common.{◌≡◌, ◌⊎◌, inl, inr, ℕ, ◌≤◌, true, List, [], ◌∷◌, ◌++◌, Option, None, Some, refl, sym, ◌∙◌, ap, subst, append_assoc, append-nil}, lemmas.{Bool.false≢true, List.{Sums.fold-append}}}, specs.Prelude.{IfSome, Any, fold}}
use Rattle.pm_segment.specs.{pm_query.{pm_facts.Lists.Any-append, declared.book.BookEntry.{BookEntry, TheVariants.{Opened, Attached, Redone, Answered, Released, Detached, Gone, CheckpointEnded, Broke, LogFull}}, Book.{AnswersUpTo, generation_after, generation_of, present, present_after, times_after, times_attached}}, pm_record.Calls.goes_two, pm_store_apart.declared.{apart.Apart.Apart, pass.Pass.Pass}, Children.times_behind, Moment.{Moment, alone, over}, pm_outside.Added.Added, Moves.Moves, MovesLaws.{counts_on, stands_on, unread_now}, Passes.{Admits, HasAnswer, IsInside, IsStaged}, Rests.IsAtRest, Stands.Origin, Unread.has_break, UnreadLaws.{break_before, break_behind, redo_parts}}
use Rattle.pm_disk.specs.declared.disk.Disk as Disk
use Rattle.pm_store_shared.specs.{declared.{place.Place.Place, views.Lent.Lent}, Behind.BehindAt, Log.{is_own, AllOwn}, Quiet.{IsQuiet, AllQuiet}, Rule.taken, Stands.{Knows, Stands, StandsOver}, Told.StandsWith}

-- ---- entries

pub quiet_own : (es : List BookEntry) → AllQuiet es → AllOwn es
quiet_own [] q = tt
quiet_own (e ∷ es) q = (own e q.0, quiet_own es q.1)
  where
    own : (e : BookEntry) → IsQuiet e → is_own e ≡ true
    own (Opened generation) q = absurd q
    own (Attached pid generation) q = absurd q
    own (Detached pid) q = absurd q
    own (Gone pid) q = absurd q
    own (Redone pid generation kept) q = refl
    own (Answered pid script reply commit front tick) q = refl
    own (Released pid front tick) q = refl
    own (CheckpointEnded pid done clean) q = refl
    own (Broke pid since faults) q = refl
    own (LogFull pid script need room) q = refl

own_generation : (n : ℕ) (e : BookEntry) → is_own e ≡ true → generation_after n e ≡ n
own_generation n (Opened generation) o = absurd (false≢true o)
own_generation n (Gone pid) o = refl
own_generation n (Attached pid generation) o = refl
own_generation n (Detached pid) o = refl
own_generation n (Redone pid generation kept) o = refl
own_generation n (Answered pid script reply commit front tick) o = refl
own_generation n (Released pid front tick) o = refl
own_generation n (CheckpointEnded pid done clean) o = refl
own_generation n (Broke pid since faults) o = refl
own_generation n (LogFull pid script need room) o = refl

own_generations : (n : ℕ) (es : List BookEntry) → AllOwn es → fold generation_after n es ≡ n
own_generations n [] o = refl
own_generations n (e ∷ es) o = ap (λ m. fold generation_after m es) (own_generation n e o.0) ∙ own_generations n es o.1

pub generation_on : (log es : List BookEntry) → AllOwn es → generation_of (log ++ es) ≡ generation_of log
generation_on log es o = fold-append generation_after 0 log es ∙ own_generations (generation_of log) es o

own_present : (before : List BookEntry) (e : BookEntry) → is_own e ≡ true → present_after before e ≡ before ++ e ∷ []
own_present before (Opened generation) o = absurd (false≢true o)
own_present before (Gone pid) o = refl
own_present before (Attached pid generation) o = refl
own_present before (Detached pid) o = refl
own_present before (Redone pid generation kept) o = refl
own_present before (Answered pid script reply commit front tick) o = refl
own_present before (Released pid front tick) o = refl
own_present before (CheckpointEnded pid done clean) o = refl
own_present before (Broke pid since faults) o = refl
own_present before (LogFull pid script need room) o = refl

own_presents : (before es : List BookEntry) → AllOwn es → fold present_after before es ≡ before ++ es
own_presents before [] o = sym (append-nil before)
own_presents before (e ∷ es) o = ap (λ b. fold present_after b es) (own_present before e o.0) ∙ own_presents (before ++ e ∷ []) es o.1 ∙ append_assoc before (e ∷ []) es

pub present_on : (log es : List BookEntry) → AllOwn es → present (log ++ es) ≡ present log ++ es
present_on log es o = fold-append present_after [] log es ∙ own_presents (present log) es o

pub times_on : (log es : List BookEntry) (pid : ℕ) → times_attached (log ++ es) pid ≡ times_behind es pid (times_attached log pid)
times_on log es pid = fold-append (times_after pid) 0 log es

quiet_time : (who n : ℕ) (e : BookEntry) → IsQuiet e → times_after who n e ≡ n
quiet_time who n (Opened generation) q = absurd q
quiet_time who n (Attached pid generation) q = absurd q
quiet_time who n (Detached pid) q = absurd q
quiet_time who n (Gone pid) q = absurd q
quiet_time who n (Redone pid generation kept) q = refl
quiet_time who n (Answered pid script reply commit front tick) q = refl
quiet_time who n (Released pid front tick) q = refl
quiet_time who n (CheckpointEnded pid done clean) q = refl
quiet_time who n (Broke pid since faults) q = refl
quiet_time who n (LogFull pid script need room) q = refl

pub quiet_times : (who n : ℕ) (es : List BookEntry) → AllQuiet es → times_behind es who n ≡ n
quiet_times who n [] q = refl
quiet_times who n (e ∷ es) q = ap (λ m. times_behind es who m) (quiet_time who n e q.0) ∙ quiet_times who n es q.1

-- ---- one moment and the next

pub told_on : (before now : Option (List BookEntry)) (log es : List BookEntry) → Added es before now → IfSome before (λ book. book ≡ log) → IfSome now (λ book. book ≡ log ++ es)
told_on None now log es notes told = subst (λ (o : Option (List BookEntry)). IfSome o (λ book. book ≡ log ++ es)) (sym notes) tt
told_on (Some book) now log es notes told = subst (λ (o : Option (List BookEntry)). IfSome o (λ book. book ≡ log ++ es)) (sym notes) (ap (λ l. l ++ es) told)

pub behind_moves : {D : Type 0} {g : Disk.Ghosts D} (first : D) (log es : List BookEntry) (x x' : Moment) → AllOwn es → Moves es x x' → BehindAt g first log x → BehindAt g first (log ++ es) x'
behind_moves {g = g} first log es x x' own moves is = record {
  told = told_on x.book x'.book log es moves.spans.notes is.told;
  generation = generation_on log es own ∙ is.generation ∙ sym moves.generation;
  attended = λ pid. times_on log es pid ∙ ap (times_behind es pid) (is.attended pid) ∙ sym (moves.attends pid);
  time = goes_two (g.ticks first) x.ticks x'.ticks (g.images first) x.images x'.images is.time moves.spans.time;
  counts = counts_on (g.faults first) log es x x' moves.spans.later is.counts (moves.spans.counts (g.faults first) is.counts.counted);
  unread = λ none.
      let parts = redo_parts log es none in
      let was = is.unread parts.0 in
      let unread = unread_now es x x' moves.unread was.0 parts.1 in
      (unread, still (moves.unread.files unread) was.1);
  stands = stands_on origin es x x' moves.spans.notes (moves.spans.waits origin) (moves.spans.goes_on origin) is.stands;
}
  where
    still : (has_break es ≡ true) ⊎ (x'.files ≡ x.files) → (has_break log ≡ true) ⊎ (x.files ≡ g.seen first) → (has_break (log ++ es) ≡ true) ⊎ (x'.files ≡ g.seen first)
    still (inl breaks) was = inl (break_behind log es breaks)
    still (inr same) (inl breaks) = inl (break_before log es breaks)
    still (inr same) (inr was) = inr (same ∙ was)

    origin : Origin
    origin = record { files = g.seen first; tick = g.ticks first; faults = g.faults first }

pub answer_on : (pid : ℕ) (front : Option ℕ) (log es : List BookEntry) → AllOwn es → HasAnswer pid front log → HasAnswer pid front (log ++ es)
answer_on pid None log es own has = tt
answer_on pid (Some front) log es own has = subst (Any (AnswersUpTo pid front)) (sym (present_on log es own)) (Any-append (AnswersUpTo pid front) (present log) es has)

pub knows_moves : {D B : Type 0} {g h : _} (log es : List BookEntry) (x x' : Place D B g h) (p : Pass) → AllOwn es → (IsStaged p.front x.apart.live → IsStaged p.front x'.apart.live) → Knows log x p → Knows (log ++ es) x' p
knows_moves log es x x' p own staged knows = (answer_on p.pid p.front log es own knows.0, staged knows.1)

-- ---- over some disk

-- the store in the slot stands over this one
pub record Over {D B : Type 0} {g h : _} (first : D) (log : List BookEntry) (apart : Apart D B g h) : Type 0 where
  pub disk : D
  pub behind : BehindAt g first log (over disk apart)
  pub rests : IsAtRest disk apart

pub over_some : {D B : Type 0} {g h : _} (first : D) (log : List BookEntry) (apart : Apart D B g h) (disk : Option D) (lent : Option (Lent D)) → StandsOver first log apart disk lent → Over first log apart
over_some first log apart (Some disk) None is = record { disk = disk; behind = is.0; rests = is.1 }
over_some first log apart None (Some lent) is = record { disk = lent.disk; behind = is.0; rests = is.1 }
over_some first log apart (Some disk) (Some lent) is = absurd is
over_some first log apart None None is = absurd is

pub stands_over : {D B : Type 0} {g h : _} {had : Option (Lent D)} (first : D) (log : List BookEntry) (x : Place D B g h) → StandsWith Stands Knows had first (taken log x) → Over first log x.apart
stands_over first log x stands = over_some first log x.apart x.disk stands.lent stands.is.0

-- in the generation of the entries
pub stands_in : {D B : Type 0} {g h : _} {had : Option (Lent D)} (first : D) (log : List BookEntry) (x : Place D B g h) → StandsWith Stands Knows had first (taken log x) → generation_of log ≡ x.apart.generation
stands_in first log x stands = (stands_over first log x stands).behind.generation

-- a pass that is known, of a child that is inside in this generation, is admitted
pub admits_known : {D B : Type 0} {g h : _} {had : Option (Lent D)} (first : D) (log : List BookEntry) (x : Place D B g h) (p : Pass) → StandsWith Stands Knows had first (taken log x) → Knows log x p → p.generation ≡ x.apart.generation
    → 1 ≤ times_attached log p.pid → Admits p (alone x.apart)
admits_known first log x p stands knows same there =
    let is = (stands_over first log x stands).behind in record {
      there = subst (λ n. 1 ≤ n) (is.attended p.pid) there;
      generation_is = same;
      inside = inside (alone x.apart).book is.told;
      staged = knows.1;
    }
  where
    inside : (book : Option (List BookEntry)) → IfSome book (λ b. b ≡ log) → IfSome book (IsInside p.pid p.front)
    inside None told = tt
    inside (Some book) told = subst (IsInside p.pid p.front) (sym told) (record { attached = there; answered = knows.0 })
