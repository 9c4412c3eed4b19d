-- What is left of a store, by what its own laws keep.
use Rattle.std.{proofs.{Common.{◌≡◌, ◌⊎◌, inl, inr, ℕ, List, [], Option, None, Some, refl, sym, ◌∙◌, ap, subst, arith}, Math.Logic.∥∥₁_map, lemmas.Bool.true≢false}, specs.Prelude.{true, IfSome}}
use Rattle.std.specs.FinMap as finite
use Rattle.pm_server.{specs.{pm_disk.Files.Files, pm_query.{Book.{Base, faults_here, generation_of, history_of, is_closed}, Durable.IsDurable, declared.book.BookEntry.BookEntry}, pm_segment.{declared.segment.Segment.Segment, Moment.{Moment, Told, book_of, disk_of, moment}, Redos.IsCleanAt, Runs.{CanBeRead, IsReplay, IsRun, StaysClean}, Stands.{Begins, GoesFrom, HasBegun, HasWaited, IsBaseOf, IsOpening, IsSure as IsSureAt, Origin, WaitsFrom}}, Ends.AreHandedIn, Story.{AreLeftClean, IsClean}, Views.{DiskView, disk_view}}, proofs.{StoryLaws.{RestsAt, clean_told, left_told, no_answers, origin_of, view_at, where_told}, UnredoneLaws.unredone}}
use Rattle.pm_store_shared.specs.{pm_record.{OnDisk.GoesOn, Pair.Means}, Behind.Behind}
use Rattle.pm_store_remains.specs.Remains.{AreReadable, IsLeft, IsSure, Remains}

-- ---- where both tell, by which that is told

both_told : (files : Option Files) (P Q : Files → Type 0) (R : Type 0) → ((f : Files) → files ≡ Some f → P f → Q f) → IfSome files P → IfSome files Q
both_told None P Q R step told = tt
both_told (Some f) P Q R step told = step f refl told

sure : (log : List BookEntry) (at : Moment) → generation_of log ≡ at.generation → IsSure log at.files → IsSureAt at
sure log at generation (inl one) = inl (sym generation ∙ one)
sure log at generation (inr tells) = inr tells

-- ---- before the first redo

abbrev no_base : ℕ → Base
no_base faults = record { rows = finite.empty; count = 0; bytes = 0; faults = faults }

waiting : (first : DiskView) (at : Moment) (log : List BookEntry) → GoesOn first.ticks at.ticks first.images at.images → HasWaited (origin_of first) at log
    → IfSome at.files (λ _. IsOpening (origin_of first) at.ticks at.images) → IsLeft first (view_at at) log
waiting first at log time waited opening = record {
  base = no_base first.faults;
  faults_are = refl;
  legal = λ sure. waited.legal (no_base first.faults) refl;
  stops = inl (record {
    unanswered = no_answers log waited.no_ticks;
    unredone = unredone first.faults log waited.no_ticks waited.legal;
    keeps = where_told at.files (IsOpening (origin_of first) at.ticks at.images) _
        (λ opens t from upto image there. ∥∥₁_map (opens t from upto image there) (λ e. (e.0, (time.past first.ticks (omega arith) e.0).0 e.1, e.2))) opening;
  });
  clean = λ closed here. absurd (true≢false (sym closed ∙ waited.unclosed));
  read = each at.files;
}
  where
    each : (files : Option Files) → IfSome files (λ f. AreHandedIn log first (view_at at) ⊎ AreReadable f)
    each None = tt
    each (Some f) = inl waited.reads

-- ---- after it

going : (first : DiskView) (at : Moment) (log : List BookEntry) → GoesOn first.ticks at.ticks first.images at.images → generation_of log ≡ at.generation → RestsAt at
    → (base : Base) → base.faults ≡ first.faults → IsBaseOf (origin_of first) base log → (IsSureAt at → IsReplay base at log) → IfSome at.files (λ _. IsRun (origin_of first) base at log)
    → (IsSureAt at → StaysClean at log) → IfSome at.files (λ _. CanBeRead at) → (IsSureAt at → HasBegun base at log) → IsLeft first (view_at at) log
going first at log time generation rests base faults found replay its_run stays reads begun = record {
  base = base;
  faults_are = faults;
  legal = λ is. (replay (sure log at generation is)).legal;
  stops = inr (record {
    base_is = found;
    durable = where_told at.files (IsRun (origin_of first) base at log) (IsDurable Means base log first.ticks at.ticks first.images at.images) (λ durable. record {
      start = durable.start;
      begun = durable.begun;
      reached = durable.reached;
      entries = durable.entries;
      opening = λ t from upto image there. ∥∥₁_map (durable.opening t from upto image there) (λ e. (e.0, (time.past first.ticks (omega arith) e.0).0 e.1, e.2));
      numbers = durable.numbers;
    }) its_run;
  });
  clean = λ closed here. left_clean at.files refl closed here;
  read = readable at.files refl reads;
}
  where
    left_clean : (files : Option Files) → at.files ≡ files → is_closed log ≡ true → faults_here log ≡ Some [] → IfSome at.files (AreLeftClean (history_of base log) (view_at at))
    left_clean None is closed here = subst (λ (x : Option Files). IfSome x (AreLeftClean (history_of base log) (view_at at))) (sym is) tt
    left_clean (Some f) is closed here =
        let clean : (epoch : ℕ) × IsCleanAt epoch at.live at.rows at.files = stays (inr (f, is)) closed here in
        let reads_so = subst (λ (x : Option Files). IfSome x (λ g. ∥ IsClean (history_of base log) g ∥₁)) is (clean_told base at log clean.0 at.files refl begun clean.1) in
        let leaves_so = subst (λ (x : Option Files). IfSome x (λ _. (image : Files) → at.images at.ticks image → ∥ IsClean (history_of base log) image ∥₁)) is (left_told base at log clean.0 at.files refl rests begun clean.1) in
        subst (λ (x : Option Files). IfSome x (AreLeftClean (history_of base log) (view_at at))) (sym is) (reads_so, leaves_so)

    readable : (files : Option Files) → at.files ≡ files → IfSome files (λ _. CanBeRead at) → IfSome at.files (λ f. AreHandedIn log first (view_at at) ⊎ AreReadable f)
    readable None is can = subst (λ (x : Option Files). IfSome x (λ f. AreHandedIn log first (view_at at) ⊎ AreReadable f)) (sym is) tt
    readable (Some f) is can =
        subst (λ (x : Option Files). IfSome x (λ g. AreHandedIn log first (view_at at) ⊎ AreReadable g)) (sym is)
        (inr (subst (λ (x : Option Files). IfSome x AreReadable) is can))

-- ---- the whole

pub left : {D B : Type 0} {g h : _} (first : D) (log : List BookEntry) (store : Segment D B g h) (disk : D) (book : B) → Behind first log store → RestsAt (moment store)
    → ((origin : Origin) (base : Base) → GoesFrom origin base (moment store) → IfSome (moment store).book (λ b. IsSureAt (moment store) → IsReplay base (moment store) b))
    → ((origin : Origin) (base : Base) → GoesFrom origin base (moment store) → Told (moment store) (IsRun origin base (moment store)))
    → ((origin : Origin) (base : Base) → GoesFrom origin base (moment store) → IfSome (moment store).book (λ b. IsSureAt (moment store) → StaysClean (moment store) b))
    → ((origin : Origin) (base : Base) → GoesFrom origin base (moment store) → Told (moment store) (λ b. CanBeRead (moment store)))
    → disk ≡ disk_of store → book ≡ book_of store → Remains (disk_view g first) (disk_view g disk) (h.entries book) log
left {g = g} {h = h} first log store disk book behind rests replay its_run stays reads disk_is book_is =
    subst (λ d. Remains (disk_view g first) (disk_view g d) (h.entries book) log) (sym disk_is)
    (subst (λ b. Remains (disk_view g first) (view_at (moment store)) (h.entries b) log) (sym book_is) (record {
      time = behind.time;
      later = behind.counts.counted.later;
      faults = behind.counts.each;
      unread = λ none. (behind.unread none).1;
      told = each (moment store).book refl behind.told;
    }))
  where
    at : Moment
    at = moment store

    before : DiskView
    before = disk_view g first

    said : (Holds : List BookEntry → Type 0) (b : List BookEntry) → at.book ≡ Some b → IfSome at.book Holds → Holds b
    said Holds b is holds = subst (λ (x : Option (List BookEntry)). IfSome x Holds) is holds

    by : (b : List BookEntry) → at.book ≡ Some b → generation_of b ≡ at.generation → WaitsFrom (origin_of before) at ⊎ Begins (origin_of before) at → IsLeft before (view_at at) b
    by b is generation (inl waits) = waiting before at b behind.time (said _ b is waits.0) (said _ b is waits.1)
    by b is generation (inr begins) =
        going before at b behind.time generation rests begins.base begins.faults (said _ b is begins.found)
        (said _ b is (replay (origin_of before) begins.base begins.goes)) (said _ b is (its_run (origin_of before) begins.base begins.goes))
        (said _ b is (stays (origin_of before) begins.base begins.goes)) (said _ b is (reads (origin_of before) begins.base begins.goes)) (said _ b is begins.goes.0)

    each : (its : Option (List BookEntry)) → at.book ≡ its → IfSome its (λ b. b ≡ log) → IfSome its (λ b. (b ≡ log) × IsLeft before (view_at at) log)
    each None is told = tt
    each (Some b) is told = (told, subst (IsLeft before (view_at at)) told (by b is (ap generation_of told ∙ behind.generation) behind.stands))
