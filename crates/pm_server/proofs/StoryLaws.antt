-- What a run of a server leaves in its files, by what its store keeps from its opening to its end.
use Rattle.std.{proofs.{Common.{◌≡◌, ◌≢◌, ◌⊎◌, inl, inr, ℕ, List, [], ◌∷◌, ◌++◌, Option, None, Some, refl, sym, ◌∙◌, ap, subst, arith}, Math.Logic.{∥∥₁_elim, ∥∥₁_map}, lemmas.{List.Elements.{All-head, All-tail}, Bool.false≢true, Option.same_Some}}, specs.{Option.option_map, Prelude.{All, IfSome, false, is_some, true}, List.AllByRecursion}}
use Rattle.std.specs.FinMap as finite
use Rattle.pm_query.{specs.{pm_disk.{Cause.Rose, Files.Files}, pm_record.{OnDisk.GoesOn, Pair.Means, StandsFor.StandsFor, declared.fault.RedoFault.RedoFault, Calls.goes_two}, Book.{Base, IsLegal, history_of}, Durable.IsDurable, History.rows_of, declared.book.BookEntry.{BookEntry, TheVariants.{Opened, Attached, Redone, Answered, Released, Detached, Gone, CheckpointEnded, Broke, LogFull}}}, proofs.HistoryLaws.whole_number}
use Rattle.pm_query.specs.pm_record.declared.fault.RedoFault.TheVariants as redo
use Rattle.pm_segment.specs.{pm_redo.Found.IsReason, Fronts.whole_of, Moment.{Moment, Told}, pm_outside.Added.Added, Moves.{BreakIsShown, IsCountedFrom, IsShown, StaysUnread, Spans}, MovesLaws.break_shown, Redos.{IsAtLastEpoch, IsCleanAt, SaysNothing, StandsAfresh, is_broken}, Rests.Rests, Runs.{CanBeRead, IsRun}, Stands.{GoesFrom, HasBegun, HasGone, HasNoTick, HasWaited, IsBaseOf, IsOpening, IsSure as IsSureAt, Origin, WaitsFrom}, Unread.has_break, pm_store_apart.declared.live.Live.Live}
use Rattle.pm_server.{specs.{Ends.{AreTraced, EndsWell, HasRefused, IsCausedBy, IsFailedBy, IsKnownAt, IsSound}, Views.{DiskView, StoreView}, Story.{HasOneGeneration, IsClean, IsNoAnswer, IsNoOpening, IsStory, IsSure}, declared.end.{ServerEnd.{ServerEnd, TheVariants.{Clean, Abnormal, NoThread, NoMemory}}, StartWhy.TheVariants.{Redo, Killed}, Why.TheVariants.{AfterCrash, StartupFailed, RestartOff, GenerationsSpent}}}, proofs.UnredoneLaws.unredone}

-- ---- where the book tells

each_told : (P : List BookEntry → Type 0) (book : Option (List BookEntry)) → ((b : List BookEntry) → book ≡ Some b → P b) → IfSome book P
each_told P None holds = tt
each_told P (Some b) holds = holds b refl

told_as : (book : Option (List BookEntry)) (Holds : List BookEntry → Type 0) (b : List BookEntry) → book ≡ Some b → IfSome book Holds → Holds b
told_as book Holds b is told = subst (λ (bk : Option (List BookEntry)). IfSome bk Holds) is told

-- what holds where the disk tells its files
pub where_told : (files : Option Files) (P Q : Type 0) → (P → Q) → IfSome files (λ _. P) → IfSome files (λ _. Q)
where_told None P Q step told = tt
where_told (Some f) P Q step told = step told

all_noted : (entries : List BookEntry) (b0 b1 b2 : Option (List BookEntry)) → b0 ≡ Some [] → Added (Opened 1 ∷ []) b0 b1 → Added entries b1 b2 → b2 ≡ Some (Opened 1 ∷ entries)
all_noted entries b0 b1 b2 empty first second =
    second ∙ ap (option_map (λ (b : List BookEntry). b ++ entries)) (first ∙ ap (option_map (λ (b : List BookEntry). b ++ Opened 1 ∷ [])) empty)

-- ---- generations

sure_of : (entries : List BookEntry) (b : List BookEntry) (now : Moment) → b ≡ Opened 1 ∷ entries → (AllByRecursion IsNoOpening entries → now.generation ≡ 1) → IsSure b now.files → IsSureAt now
sure_of entries b now is still (inl one) = inl (still (subst HasOneGeneration is one))
sure_of entries b now is still (inr tells) = inr tells

-- ---- nothing was answered

is_no_answer : (e : BookEntry) → HasNoTick e → IsNoAnswer e
is_no_answer (Opened generation) none = tt
is_no_answer (Attached pid generation) none = tt
is_no_answer (Redone pid generation kept) none = tt
is_no_answer (Answered pid script reply commit front tick) none = omega (arith, (none 1 0).0, (none 1 0).1)
is_no_answer (Released pid front tick) none = omega (arith, (none 1 0).0, (none 1 0).1)
is_no_answer (Detached pid) none = tt
is_no_answer (Gone pid) none = tt
is_no_answer (CheckpointEnded pid done clean) none = tt
is_no_answer (Broke pid since faults) none = tt
is_no_answer (LogFull pid script need room) none = tt

pub no_answers : (book : List BookEntry) → All HasNoTick book → AllByRecursion IsNoAnswer book
no_answers [] all = tt
no_answers (e ∷ book) all = (is_no_answer e (All-head HasNoTick e book all), no_answers book (All-tail HasNoTick e book all))

-- ---- what a clean checkpoint left

same_live : (a b : Live) (at : Option Live) → at ≡ Some a → at ≡ Some b → a ≡ b
same_live a b at one two = cc

never_read : (live : Option Live) (a : Live) → live ≡ Some a → live ≡ None → ⊥
never_read live a one two = cc

clean_at : (base : Base) (at : Moment) (live : Live) (book : List BookEntry) (epoch : ℕ) (files : Option Files) → HasGone base at live book → IsCleanAt epoch at.live at.rows files
    → IfSome files (λ f. ∥ IsClean (history_of base book) f ∥₁)
clean_at base at live book epoch None gone clean = tt
clean_at base at live book epoch (Some f) gone clean =
    let same : live ≡ clean.0 = same_live live clean.0 at.live gone.read clean.1 in
    let unbroken : live.log.since ≡ None = ap (λ (l : Live). l.log.since) same ∙ clean.2 in
    ∥∥₁_map clean.4 (λ s. record {
      file = clean.0.log.file;
      content = s.content;
      end = clean.0.log.end;
      pair = record { stands = s.stands; beside = inl s.beside };
      is = s.is
          ∙ ap (λ (r : finite.FinMap _ _). record { rows = r; count = whole_of clean.0 }) gone.rows_are
          ∙ ap (λ (n : ℕ). record { rows = rows_of (history_of base book); count = n }) (sym (ap whole_of same) ∙ gone.count_is unbroken)
          ∙ sym (whole_number (history_of base book));
      clean = s.clean_is;
      nothing_behind = s.no_batch;
    })

clean_begun : (base : Base) (at : Moment) (book : List BookEntry) (epoch : ℕ) → HasBegun base at book → IsCleanAt epoch at.live at.rows at.files → IfSome at.files (λ f. ∥ IsClean (history_of base book) f ∥₁)
clean_begun base at book epoch (inl gone) clean = clean_at base at gone.0 book epoch at.files gone.1 clean
clean_begun base at book epoch (inr renewed) clean = absurd (never_read at.live clean.0 clean.1 renewed.unread)

-- where the disk tells its files, and so it is sure
pub clean_told : (base : Base) (at : Moment) (book : List BookEntry) (epoch : ℕ) (files : Option Files) → at.files ≡ files → (IsSureAt at → HasBegun base at book) → IsCleanAt epoch at.live at.rows at.files
    → IfSome at.files (λ f. ∥ IsClean (history_of base book) f ∥₁)
clean_told base at book epoch None is begun clean = subst (λ (x : Option Files). IfSome x (λ f. ∥ IsClean (history_of base book) f ∥₁)) (sym is) tt
clean_told base at book epoch (Some f) is begun clean = clean_begun base at book epoch (begun (inr (f, is))) clean

-- ---- and what a stop leaves of that

-- the log rests on the disk, as the store keeps it
abbrev pub RestsAt : Moment → Type 0
RestsAt at = ∥ Rests at.live at.rows at.staged at.files (at.images at.ticks) ∥₁

abbrev LeavesClean : Base → List BookEntry → Moment → Type 0
LeavesClean base book at = IfSome at.files (λ _. (image : Files) → at.images at.ticks image → ∥ IsClean (history_of base book) image ∥₁)

-- whatever a stop leaves has the log's bytes, and shuts the other file
left_clean : (base : Base) (at : Moment) (book : List BookEntry) (epoch : ℕ) (files : Option Files) → at.files ≡ files → RestsAt at → (live : Live) → HasGone base at live book → IsCleanAt epoch at.live at.rows at.files → LeavesClean base book at
left_clean base at book epoch None is rests live gone clean = subst (λ (x : Option Files). IfSome x (λ _. (image : Files) → at.images at.ticks image → ∥ IsClean (history_of base book) image ∥₁)) (sym is) tt
left_clean base at book epoch (Some f) is rests live gone clean =
    subst (λ (x : Option Files). IfSome x (λ _. (image : Files) → at.images at.ticks image → ∥ IsClean (history_of base book) image ∥₁)) (sym is) (λ image there.
    let same : live ≡ clean.0 = same_live live clean.0 at.live gone.read clean.1 in
    let unbroken : live.log.since ≡ None = ap (λ (l : Live). l.log.since) same ∙ clean.2 in
    let afresh = subst (λ (x : Option Files). IfSome x (λ files. ∥ StandsAfresh epoch true clean.0 at.rows files ∥₁)) is clean.4 in
    let kept = subst (λ (x : Option Files). ∥ Rests (Some clean.0) at.rows at.staged x (at.images at.ticks) ∥₁) is (subst (λ (x : Option Live). ∥ Rests x at.rows at.staged at.files (at.images at.ticks) ∥₁) clean.1 rests) in
    ∥∥₁_elim afresh (hlevel) (λ s. ∥∥₁_map kept (λ r.
    let h = r clean.2 in
    record {
      file = clean.0.log.file;
      content = s.content;
      end = clean.0.log.end;
      pair = record {
        stands = subst (λ (bytes : List ℕ). StandsFor bytes s.content clean.0.log.end) (sym (h.lives.rests.durable image there)) s.stands;
        beside = inl (h.lives.rests.beside image there);
      };
      is = s.is
          ∙ ap (λ (r' : finite.FinMap _ _). record { rows = r'; count = whole_of clean.0 }) gone.rows_are
          ∙ ap (λ (n : ℕ). record { rows = rows_of (history_of base book); count = n }) (sym (ap whole_of same) ∙ gone.count_is unbroken)
          ∙ sym (whole_number (history_of base book));
      clean = s.clean_is;
      nothing_behind = s.no_batch;
    })))

left_begun : (base : Base) (at : Moment) (book : List BookEntry) (epoch : ℕ) → RestsAt at → HasBegun base at book → IsCleanAt epoch at.live at.rows at.files → LeavesClean base book at
left_begun base at book epoch rests (inl gone) clean = left_clean base at book epoch at.files refl rests gone.0 gone.1 clean
left_begun base at book epoch rests (inr renewed) clean = absurd (never_read at.live clean.0 clean.1 renewed.unread)

pub left_told : (base : Base) (at : Moment) (book : List BookEntry) (epoch : ℕ) (files : Option Files) → at.files ≡ files → RestsAt at → (IsSureAt at → HasBegun base at book) → IsCleanAt epoch at.live at.rows at.files → LeavesClean base book at
left_told base at book epoch None is rests begun clean = subst (λ (x : Option Files). IfSome x (λ _. (image : Files) → at.images at.ticks image → ∥ IsClean (history_of base book) image ∥₁)) (sym is) tt
left_told base at book epoch (Some f) is rests begun clean = left_begun base at book epoch rests (begun (inr (f, is))) clean

-- ---- the whole

abbrev pub origin_of : DiskView → Origin
origin_of before = record { files = before.files; tick = before.ticks; faults = before.faults }

abbrev pub view_at : Moment → DiskView
view_at at = record { files = at.files; images = at.images; ticks = at.ticks; faults = at.faults }

abbrev pub store_at : Moment → StoreView
store_at at = record { disk = view_at at; book = at.book }

legal_of : (base : Base) (at : Moment) (book : List BookEntry) → HasBegun base at book → IsLegal base book
legal_of base at book (inl gone) = gone.1.legal
legal_of base at book (inr renewed) = renewed.legal

-- the last checkpoint made the log clean
made_at : (end : ServerEnd) (from : ℕ) (at : Moment) → IsKnownAt end from at → end ≡ Clean → (epoch : ℕ) × IsCleanAt epoch at.live at.rows at.files
made_at end from at known is = subst (λ (e : ServerEnd). IsKnownAt e from at) is known

-- What a store has noted since it was opened over a disk, and where it is now. In one generation it is that of its opening.
pub record HasRunSo (before : DiskView) (first : Moment) (entries : List BookEntry) (now : Moment) : Type 0 where
  pub began : GoesOn before.ticks first.ticks before.images first.images
  pub generation : first.generation ≡ 1
  pub spans : Spans entries first now
  pub still : AllByRecursion IsNoOpening entries → now.generation ≡ first.generation
  pub unread : AllByRecursion IsNoOpening entries → StaysUnread entries first now
  pub files : first.files ≡ before.files
  pub faults : first.faults ≡ before.faults

pub whole_story : (end : ServerEnd) (before : DiskView) (first : Moment) (entries : List BookEntry) (at : Moment) (b0 : Option (List BookEntry)) → b0 ≡ Some [] → Added (Opened 1 ∷ []) b0 first.book
    → WaitsFrom (origin_of before) first → HasRunSo before first entries at → IsKnownAt end before.faults at → RestsAt at → ((origin : Origin) (base : Base) → GoesFrom origin base at → Told at (IsRun origin base at))
    → IfSome at.book (IsStory end before (view_at at))
whole_story end before first entries at b0 empty opened waits run known rests law = each_told (IsStory end before (view_at at)) at.book (λ b is_book.
    let book_is : b ≡ Opened 1 ∷ entries = same_Some b (Opened 1 ∷ entries) (sym is_book ∙ all_noted entries b0 first.book at.book empty opened run.spans.notes) in
    let time = goes_two before.ticks first.ticks at.ticks before.images first.images at.images run.began run.spans.time in
    elim (run.spans.waits (origin_of before) waits) [
      | inl still ↦
          let w = told_as at.book (HasWaited (origin_of before) at) b is_book still.0 in
          let opening = told_as at.book (λ book. IfSome at.files (λ _. IsOpening (origin_of before) at.ticks at.images)) b is_book still.1 in
          record {
            base = record { rows = finite.empty; count = 0; bytes = 0; faults = before.faults };
            faults_are = refl;
            legal = λ sure. w.legal (record { rows = finite.empty; count = 0; bytes = 0; faults = before.faults }) refl;
            stops = inl (record {
              unanswered = no_answers b w.no_ticks;
              unredone = unredone before.faults b w.no_ticks w.legal;
              keeps = where_told at.files (IsOpening (origin_of before) at.ticks at.images) _
                  (λ opens t from upto image there. ∥∥₁_map (opens t from upto image there) (λ e. (e.0, (time.past before.ticks (omega arith) e.0).0 e.1, e.2))) opening;
            });
            clean = λ is. let made = made_at end before.faults at known is in absurd (never_read at.live made.1.0 made.1.1 w.unread);
            leaves_clean = λ is. let made = made_at end before.faults at known is in absurd (never_read at.live made.1.0 made.1.1 w.unread);
          }
      | inr begins ↦
          let begun = told_as at.book (λ book. IsSureAt at → HasBegun begins.base at book) b is_book begins.goes.0 in
          let its_run = told_as at.book (λ book. IfSome at.files (λ _. IsRun (origin_of before) begins.base at book)) b is_book (law (origin_of before) begins.base begins.goes) in
          record {
            base = begins.base;
            faults_are = begins.faults;
            legal = λ sure. legal_of begins.base at b (begun (sure_of entries b at book_is (λ none. run.still none ∙ run.generation) sure));
            stops = inr (record {
              base_is = told_as at.book (IsBaseOf (origin_of before) begins.base) b is_book begins.found;
              durable = where_told at.files (IsRun (origin_of before) begins.base at b) (IsDurable Means begins.base b before.ticks at.ticks before.images at.images) (λ durable. record {
                start = durable.start;
                begun = durable.begun;
                reached = durable.reached;
                entries = durable.entries;
                opening = λ t from upto image there. ∥∥₁_map (durable.opening t from upto image there) (λ e. (e.0, (time.past before.ticks (omega arith) e.0).0 e.1, e.2));
                numbers = durable.numbers;
              }) its_run;
            });
            clean = λ is. let made = made_at end before.faults at known is in clean_told begins.base at b made.0 at.files refl begun made.1;
            leaves_clean = λ is. let made = made_at end before.faults at known is in left_told begins.base at b made.0 at.files refl rests begun made.1;
          }
    ])

-- ---- why it ended

-- a log that is broken
pub broken_rose : (from faults : ℕ) (live : Option Live) → BreakIsShown from faults live → is_broken live ≡ true → Rose from faults
broken_rose from faults None shown broken = absurd (cc)
broken_rose from faults (Some live) shown broken = by_break live.log.since refl shown broken
  where
    by_break : (since : Option ℕ) → live.log.since ≡ since → BreakIsShown from faults (Some live) → is_broken (Some live) ≡ true → Rose from faults
    by_break None is shown broken = absurd (false≢true (sym (ap is_some is) ∙ broken))
    by_break (Some tick) is shown broken = rw is at shown

-- the files are those that were handed in, or a fault of the disk was noted
abbrev AreThose : List BookEntry → DiskView → Moment → Type 0
AreThose entries before at = (has_break entries ≡ true) ⊎ (at.files ≡ before.files)

abbrev AreTold : List BookEntry → DiskView → Moment → Type 0
AreTold entries before at = IfSome at.files (λ _. AreThose entries before at)

those : (entries : List BookEntry) (before : DiskView) (at : Moment) (files : Option Files) → at.files ≡ files → AreThose entries before at → AreTold entries before at
those entries before at None is same = subst (λ (x : Option Files). IfSome x (λ _. AreThose entries before at)) (sym is) tt
those entries before at (Some f) is same = subst (λ (x : Option Files). IfSome x (λ _. AreThose entries before at)) (sym is) same

-- the store was opened once
those_once : (before : DiskView) (first : Moment) (entries : List BookEntry) (at : Moment) → HasRunSo before first entries at → at.live ≡ None → AllByRecursion IsNoOpening entries → AreThose entries before at
those_once before first entries at run none once = elim ((run.unread once).files none) as (λ _. AreThose entries before at) [
  | inl breaks ↦ inl breaks
  | inr same ↦ inr (same ∙ run.files)
]

-- the book tells
those_told : (fault : RedoFault) (before : DiskView) (first : Moment) (entries : List BookEntry) (at : Moment) (b0 : Option (List BookEntry)) → b0 ≡ Some [] → Added (Opened 1 ∷ []) b0 first.book → (SaysNothing fault → ⊥) → IfSome at.files (IsReason fault)
    → WaitsFrom (origin_of before) first → Spans entries first at → ((origin : Origin) (base : Base) → GoesFrom origin base at → Told at (λ book. CanBeRead at)) → IfSome at.book (λ _. AreTold entries before at)
those_told fault before first entries at b0 empty opened says reason waits spans law = each_told _ at.book (λ b is_book.
    let book_is : b ≡ Opened 1 ∷ entries = same_Some b (Opened 1 ∷ entries) (sym is_book ∙ all_noted entries b0 first.book at.book empty opened spans.notes) in
    elim (spans.waits (origin_of before) waits) [
      | inl still ↦ those entries before at at.files refl (subst (λ (l : List BookEntry). (has_break l ≡ true) ⊎ (at.files ≡ before.files)) book_is (told_as at.book (HasWaited (origin_of before) at) b is_book still.0).reads)
      | inr begins ↦ can_read at.files refl reason (told_as at.book (λ _. IfSome at.files (λ _. CanBeRead at)) b is_book (law (origin_of before) begins.base begins.goes))
    ])
  where
    can_read : (files : Option Files) → at.files ≡ files → IfSome files (IsReason fault) → IfSome at.files (λ _. CanBeRead at) → AreTold entries before at
    can_read None is its reads = subst (λ (x : Option Files). IfSome x (λ _. AreThose entries before at)) (sym is) tt
    can_read (Some f) is its reads =
        let can : CanBeRead at = subst (λ (x : Option Files). IfSome x (λ _. CanBeRead at)) is reads in
        absurd (says (subst (λ (x : Option Files). IfSome x (λ files. (reason' : RedoFault) → IsReason reason' files → SaysNothing reason')) is can fault its))

told_is : (book : Option (List BookEntry)) (P : Type 0) → book ≢ None → IfSome book (λ _. P) → P
told_is None P tells holds = absurd (tells refl)
told_is (Some b) P tells holds = holds

pub whole_cause : (end : ServerEnd) (before : StoreView) (first : Moment) (entries : List BookEntry) (at : Moment) → Added (Opened 1 ∷ []) before.book first.book → (before.book ≡ Some [] → WaitsFrom (origin_of before.disk) first) → HasRunSo before.disk first entries at
    → IsKnownAt end before.disk.faults at → ((origin : Origin) (base : Base) → GoesFrom origin base at → Told at (λ book. CanBeRead at)) → IsCausedBy end (Opened 1 ∷ entries) before (store_at at)
whole_cause Clean before first entries at opened waits run known law = tt
whole_cause NoMemory before first entries at opened waits run known law = tt
whole_cause NoThread before first entries at opened waits run known law = known
whole_cause (Abnormal (StartupFailed Killed)) before first entries at opened waits run known law = known
whole_cause (Abnormal RestartOff) before first entries at opened waits run known law = known
whole_cause (Abnormal GenerationsSpent) before first entries at opened waits run known law = known
whole_cause (Abnormal AfterCrash) before first entries at opened waits run known law = known
whole_cause (Abnormal (StartupFailed (Redo fault))) before first entries at opened waits run known law = failed fault known
  where
    traced : (f : RedoFault) → (SaysNothing f → ⊥) → IfSome at.files (IsReason f) → at.live ≡ None → AreTraced (Opened 1 ∷ entries) before (store_at at)
    traced f says reason none = record {
      once = those_once before.disk first entries at run none;
      told = λ empty tells. told_is at.book (AreTold entries before.disk at) tells (those_told f before.disk first entries at before.book empty opened says reason (waits empty) run.spans law);
    }

    failed : (f : RedoFault) → HasRefused f before.disk.faults at → IsFailedBy f (Opened 1 ∷ entries) before (store_at at)
    failed redo.Disk has = has
    failed redo.NoMemory has = has
    failed redo.NoCluster has = (has.0, traced redo.NoCluster (λ says. says) has.0 has.1)
    failed (redo.BadFile file place) has = (has.0, traced (redo.BadFile file place) (λ says. says) has.0 has.1)
    failed (redo.SameEpoch epoch) has = (has.0, traced (redo.SameEpoch epoch) (λ says. says) has.0 has.1)

-- where the disk hasn't failed
sound_start : (fault : RedoFault) (entries : List BookEntry) (before now : StoreView) → (SaysNothing fault → ⊥) → IfSome now.disk.files (IsReason fault) → AreTraced (Opened 1 ∷ entries) before now → All (IsShown before.disk.faults now.disk.faults) entries
    → AllByRecursion IsNoOpening entries ⊎ Rose before.disk.faults now.disk.faults → IsSound before.disk now.disk → ⊥
sound_start fault entries before now says reason traced shown (inr rose) sound = sound.unfailed rose
sound_start fault entries before now says reason traced shown (inl once) sound = elim (traced.once once) [
  | inl breaks ↦ sound.unfailed (break_shown before.disk.faults now.disk.faults entries shown breaks)
  | inr same ↦ says (sound.read fault (subst (λ (x : Option Files). IfSome x (IsReason fault)) (same ∙ sound.handed_in) reason))
]

pub ends_well : (end : ServerEnd) (entries : List BookEntry) (before now : StoreView) → IsCausedBy end (Opened 1 ∷ entries) before now → All (IsShown before.disk.faults now.disk.faults) entries
    → AllByRecursion IsNoOpening entries ⊎ Rose before.disk.faults now.disk.faults → EndsWell end before.disk now.disk
ends_well Clean entries before now cause shown once = λ sound. inl refl
ends_well NoMemory entries before now cause shown once = λ sound. inr refl
ends_well NoThread entries before now cause shown once = λ sound. absurd cause
ends_well (Abnormal (StartupFailed Killed)) entries before now cause shown once = λ sound. absurd cause
ends_well (Abnormal RestartOff) entries before now cause shown once = λ sound. absurd (sound.unfailed cause)
ends_well (Abnormal GenerationsSpent) entries before now cause shown once = λ sound. absurd (sound.unfailed cause)
ends_well (Abnormal AfterCrash) entries before now cause shown once = λ sound. elim cause [
  | inl rose ↦ absurd (sound.unfailed rose)
  | inr last ↦ absurd (sound.epoch (subst (λ (x : Option Files). IfSome x (λ f. ∥ IsAtLastEpoch f ∥₁)) sound.left last))
]
ends_well (Abnormal (StartupFailed (Redo redo.Disk))) entries before now cause shown once = λ sound. absurd (sound.unfailed cause)
ends_well (Abnormal (StartupFailed (Redo redo.NoMemory))) entries before now cause shown once = λ sound. absurd cause
ends_well (Abnormal (StartupFailed (Redo redo.NoCluster))) entries before now cause shown once = λ sound. absurd (sound_start redo.NoCluster entries before now (λ says. says) cause.0 cause.1 shown once sound)
ends_well (Abnormal (StartupFailed (Redo (redo.BadFile file at)))) entries before now cause shown once = λ sound. absurd (sound_start (redo.BadFile file at) entries before now (λ says. says) cause.0 cause.1 shown once sound)
ends_well (Abnormal (StartupFailed (Redo (redo.SameEpoch epoch)))) entries before now cause shown once = λ sound. absurd (sound_start (redo.SameEpoch epoch) entries before now (λ says. says) cause.0 cause.1 shown once sound)

-- ---- nothing was done

pub unread_counts : (from : ℕ) (faults : ℕ) (live : Option Live) → from ≡ faults → live ≡ None → IsCountedFrom from faults live
unread_counts from faults live same none = record { later = omega (arith, same); shown = subst (λ (l : Option Live). BreakIsShown from faults l) (sym none) tt }

told_or_not : (files : Option Files) (Q : Type 0) → Q → IfSome files (λ _. Q)
told_or_not None Q holds = tt
told_or_not (Some f) Q holds = holds

pub story_nothing : (before : DiskView) (book : Option (List BookEntry)) → book ≡ Some [] → IfSome book (IsStory NoMemory before before)
story_nothing before book empty = each_told (IsStory NoMemory before before) book (λ b is_book.
    let none : b ≡ [] = same_Some b [] (sym is_book ∙ empty) in
    subst (IsStory NoMemory before before) (sym none) (record {
      base = record { rows = finite.empty; count = 0; bytes = 0; faults = before.faults };
      faults_are = refl;
      legal = λ sure. record { entries = tt; renewals = tt };
      stops = inl (record {
        unanswered = tt;
        unredone = refl;
        keeps = told_or_not before.files _ (λ t from upto image there. ∣ (image, subst (λ (n : ℕ). before.images n image) (omega (arith, from, upto)) there, λ s means. means) ∣₁);
      });
      clean = λ is. cc;
      leaves_clean = λ is. cc;
    }))
