-- The laws of what the calls of a store do.
use Rattle.std.{proofs.{Common.{◌≡◌, ◌⊎◌, inl, inr, Bool, true, false, ℕ, ◌+◌, ◌≤◌, All, List, [], ◌∷◌, ◌++◌, Option, None, Some, refl, sym, ◌∙◌, ap, subst, arith}, lemmas.List.{Elements.{All-nil, All-cons, All-append, All-head, All-tail, All-weaker}, Folds.list_any-append, Sums.{fold-append, sum_by-append}}}, specs.Prelude.{IfSome, is_some, ◌||◌}}
use Rattle.pm_disk.{specs.{Cause.Rose, Files.Files}, proofs.DiskLaws.rose_further}
use Rattle.pm_query.specs.{pm_record.{Calls.goes_two, OnDisk.GoesOn}, declared.book.BookEntry.{BookEntry, TheVariants.{Opened, Attached, Redone, Answered, Released, Detached, Gone, CheckpointEnded, Broke, LogFull}}, Book.{Base, times_after}}
use Rattle.pm_store_apart.specs.{Children.{times_behind, times_in}, declared.live.Live.Live, Epochs.{IsAheadBy, begun_by, epochs_in}, Moment.Moment, Renewal.renewal, Moves.{IsShown, CountsEntries, Moves, Spans, StaysUnread}, Stands.{Begins, GoesFrom, IsBaseOf, Origin, WaitsFrom}, Unread.{has_break, has_redo, is_redo}, UnreadLaws.{break_before, break_behind, breaks_on}}
use Rattle.pm_outside.{specs.Added.Added, proofs.AddedLaws.{added_both, added_none}}

pub shown_later : (from before now : ℕ) → before ≤ now → (entry : BookEntry) → IsShown from before entry → IsShown from now entry
shown_later from before now le (Broke pid since count) shown = rose_further from before now le shown
shown_later from before now le (Opened generation) shown = tt
shown_later from before now le (Attached pid generation) shown = tt
shown_later from before now le (Redone pid generation kept) shown = tt
shown_later from before now le (Answered pid script reply commit front tick) shown = tt
shown_later from before now le (Released pid front tick) shown = tt
shown_later from before now le (Detached pid) shown = tt
shown_later from before now le (Gone pid) shown = tt
shown_later from before now le (CheckpointEnded pid done clean) shown = tt
shown_later from before now le (LogFull pid script need room) shown = tt

pub time_still : (tick : ℕ) (images : ℕ → Files → Type 0) → GoesOn tick tick images images
time_still tick images = record { later = omega arith; past = λ t le image. (λ there. there, λ there. there) }

-- a base of a book is one of the book with more after it
pub base_on : (origin : Origin) (base : Base) (book more : List BookEntry) → IsBaseOf origin base book → IsBaseOf origin base (book ++ more)
base_on origin base book more (inl breaks) = inl (breaks_on book more breaks)
base_on origin base book more (inr means) = inr means

base_noted : (origin : Origin) (base : Base) (entries : List BookEntry) (before now : Option (List BookEntry)) → Added entries before now → IfSome before (IsBaseOf origin base) → IfSome now (IsBaseOf origin base)
base_noted origin base entries None now notes found = subst (λ (b : Option (List BookEntry)). IfSome b (IsBaseOf origin base)) (sym notes) tt
base_noted origin base entries (Some book) now notes found = subst (λ (b : Option (List BookEntry)). IfSome b (IsBaseOf origin base)) (sym notes) (base_on origin base book entries found)

-- what has come past its first redo stays so
pub begins_on : (origin : Origin) (entries : List BookEntry) (before now : Moment) → Added entries before.book now.book → ((base : Base) → GoesFrom origin base before → GoesFrom origin base now) → Begins origin before → Begins origin now
begins_on origin entries before now notes goes_on begins = record {
  base = begins.base;
  faults = begins.faults;
  found = base_noted origin begins.base entries before.book now.book notes begins.found;
  goes = goes_on begins.base begins.goes;
}

-- a fault that was noted has risen the count
pub break_shown : (from faults : ℕ) (entries : List BookEntry) → All (IsShown from faults) entries → has_break entries ≡ true → Rose from faults
break_shown from faults [] shown some = absurd (cc)
break_shown from faults (Broke pid since count ∷ entries) shown some = All-head (IsShown from faults) (Broke pid since count) entries shown
break_shown from faults (Opened generation ∷ entries) shown some = break_shown from faults entries (All-tail (IsShown from faults) (Opened generation) entries shown) some
break_shown from faults (Attached pid generation ∷ entries) shown some = break_shown from faults entries (All-tail (IsShown from faults) (Attached pid generation) entries shown) some
break_shown from faults (Redone pid generation kept ∷ entries) shown some = break_shown from faults entries (All-tail (IsShown from faults) (Redone pid generation kept) entries shown) some
break_shown from faults (Answered pid script reply commit front tick ∷ entries) shown some =
    break_shown from faults entries (All-tail (IsShown from faults) (Answered pid script reply commit front tick) entries shown) some
break_shown from faults (Released pid front tick ∷ entries) shown some = break_shown from faults entries (All-tail (IsShown from faults) (Released pid front tick) entries shown) some
break_shown from faults (Detached pid ∷ entries) shown some = break_shown from faults entries (All-tail (IsShown from faults) (Detached pid) entries shown) some
break_shown from faults (Gone pid ∷ entries) shown some = break_shown from faults entries (All-tail (IsShown from faults) (Gone pid) entries shown) some
break_shown from faults (CheckpointEnded pid done clean ∷ entries) shown some =
    break_shown from faults entries (All-tail (IsShown from faults) (CheckpointEnded pid done clean) entries shown) some
break_shown from faults (LogFull pid script need room ∷ entries) shown some = break_shown from faults entries (All-tail (IsShown from faults) (LogFull pid script need room) entries shown) some

-- a renewal notes none
pub renewal_shown : (from faults : ℕ) (pids : List ℕ) (generation : ℕ) → All (IsShown from faults) (renewal pids generation)
renewal_shown from faults [] generation = All-cons (IsShown from faults) (Opened generation) [] tt (All-nil (IsShown from faults))
renewal_shown from faults (pid ∷ pids) generation = All-cons (IsShown from faults) (Gone pid) (renewal pids generation) tt (renewal_shown from faults pids generation)

-- ---- while the log isn't read

or_still : (b : Bool) → b ≡ (b || false)
or_still true = refl
or_still false = refl

or_assoc : (a b c : Bool) → ((a || b) || c) ≡ (a || (b || c))
or_assoc true b c = refl
or_assoc false b c = refl

unread_first : (live : Option Live) (b : Bool) → (is_some live || b) ≡ false → live ≡ None
unread_first None b is = refl
unread_first (Some its) b is = absurd (cc)

-- who hasn't read it now hadn't before
pub unread_before : (entries : List BookEntry) (before now : Moment) → StaysUnread entries before now → now.live ≡ None → before.live ≡ None
unread_before entries before now stays none = unread_first before.live (has_redo entries) (sym stays.read ∙ ap is_some none)

-- who hadn't read it still hasn't, without a redo
pub unread_now : (entries : List BookEntry) (before now : Moment) → StaysUnread entries before now → before.live ≡ None → has_redo entries ≡ false → now.live ≡ None
unread_now entries before now stays unread none =
    unread_first now.live false (sym (or_still (is_some now.live)) ∙ stays.read ∙ ap (λ (l : Option Live). is_some l || has_redo entries) unread ∙ none)

-- the disk is as it was, and so is whether the log is read
pub unread_still : (entries : List BookEntry) (before now : Moment) → has_redo entries ≡ false → is_some now.live ≡ is_some before.live → now.files ≡ before.files → StaysUnread entries before now
unread_still entries before now none same files = record {
  read = same ∙ or_still (is_some before.live) ∙ ap (λ (b : Bool). is_some before.live || b) (sym none);
  files = λ unread. inr files;
}

-- it was read, and is
pub unread_never : (entries : List BookEntry) (before now : Moment) (live new : Live) → before.live ≡ Some live → now.live ≡ Some new → StaysUnread entries before now
unread_never entries before now live new read read_now = record {
  read = ap is_some read_now ∙ sym (ap (λ (l : Option Live). is_some l || has_redo entries) read);
  files = λ none. absurd (cc);
}

pub unread_on : (first second : List BookEntry) (before between now : Moment) → StaysUnread first before between → StaysUnread second between now → StaysUnread (first ++ second) before now
unread_on first second before between now one two = record {
  read = two.read ∙ ap (λ (b : Bool). b || has_redo second) one.read ∙ or_assoc (is_some before.live) (has_redo first) (has_redo second)
      ∙ ap (λ (b : Bool). is_some before.live || b) (sym (list_any-append is_redo first second));
  files = λ none. elim (two.files none) [
    | inl breaks ↦ inl (break_behind first second breaks)
    | inr same ↦ elim (one.files (unread_before second between now two none)) [ inl breaks ↦ inl (break_before first second breaks) | inr was ↦ inr (same ∙ was) ]
  ];
}

-- a generation that stays hasn't fallen
pub never_falls : (before now : ℕ) → now ≡ before → before ≤ now
never_falls before now same = omega arith

-- ---- epochs

-- entries that begin no epoch
pub ahead_still : (entries : List BookEntry) (many : ℕ) (o : Option Live) → epochs_in entries ≡ 0 → IsAheadBy many o → IsAheadBy (many + epochs_in entries) o
ahead_still entries many o none is = let same : many ≡ many + epochs_in entries = omega (arith, none) in subst (λ (n : ℕ). IsAheadBy n o) same is

-- some, and then some more
ahead_both : (first second : List BookEntry) (many : ℕ) (o : Option Live) → IsAheadBy ((many + epochs_in first) + epochs_in second) o → IsAheadBy (many + epochs_in (first ++ second)) o
ahead_both first second many o is =
    let same : (many + epochs_in first) + epochs_in second ≡ many + epochs_in (first ++ second) = omega (arith, sum_by-append begun_by first second) in
    subst (λ (n : ℕ). IsAheadBy n o) same is

pub spans_none : (at : Moment) → Spans [] at at
spans_none at = record {
  notes = added_none at.book;
  time = time_still at.ticks at.images;
  later = omega arith;
  counts = λ from counted. record { counted = counted; each = All-nil (IsShown from at.faults) };
  waits = λ origin stands. inl stands;
  goes_on = λ origin base stands. stands;
}

pub moves_none : (at : Moment) → Moves [] at at
moves_none at = record {
  spans = spans_none at;
  generation = refl;
  commits = refl;
  attends = λ pid. refl;
  unread = unread_still [] at at refl refl refl;
  staged = λ front is. is;
  flushed = λ front is. is;
  began = λ first is. is;
  ahead = λ many is. ahead_still [] many at.live refl is;
}

-- the faults that the entries of two calls show
pub counts_on : (from : ℕ) (first second : List BookEntry) (between now : Moment) → between.faults ≤ now.faults → CountsEntries from first between.faults between.live
    → CountsEntries from second now.faults now.live → CountsEntries from (first ++ second) now.faults now.live
counts_on from first second between now later a b = record {
  counted = b.counted;
  each = All-append (IsShown from now.faults) first second
      (All-weaker (IsShown from between.faults) (IsShown from now.faults) (shown_later from between.faults now.faults later) first a.each) b.each;
}

-- what waits for a beginning, or has begun, after a call more
pub stands_on : (origin : Origin) (second : List BookEntry) (between now : Moment) → Added second between.book now.book → (WaitsFrom origin between → WaitsFrom origin now ⊎ Begins origin now)
    → ((base : Base) → GoesFrom origin base between → GoesFrom origin base now) → WaitsFrom origin between ⊎ Begins origin between → WaitsFrom origin now ⊎ Begins origin now
stands_on origin second between now notes waits_on goes_on (inl waits) = waits_on waits
stands_on origin second between now notes waits_on goes_on (inr begins) = inr (begins_on origin second between now notes goes_on begins)

pub spans_on : (first second : List BookEntry) (before between now : Moment) → Spans first before between → Spans second between now → Spans (first ++ second) before now
spans_on first second before between now one two = record {
  notes = added_both first second before.book between.book now.book one.notes two.notes;
  time = goes_two before.ticks between.ticks now.ticks before.images between.images now.images one.time two.time;
  later = omega (arith, one.later, two.later);
  counts = λ from counted.
      let a : CountsEntries from first between.faults between.live = one.counts from counted in
      counts_on from first second between now two.later a (two.counts from a.counted);
  waits = λ origin stands. stands_on origin second between now two.notes (two.waits origin) (two.goes_on origin) (one.waits origin stands);
  goes_on = λ origin base stands. two.goes_on origin base (one.goes_on origin base stands);
}

pub moves_on : (first second : List BookEntry) (before between now : Moment) → Moves first before between → Moves second between now → Moves (first ++ second) before now
moves_on first second before between now one two = record {
  spans = spans_on first second before between now one.spans two.spans;
  generation = two.generation ∙ one.generation;
  commits = two.commits ∙ one.commits;
  attends = λ pid. two.attends pid ∙ ap (times_behind second pid) (one.attends pid) ∙ sym (fold-append (times_after pid) (times_in pid before.inside) first second);
  unread = unread_on first second before between now one.unread two.unread;
  staged = λ front is. two.staged front (one.staged front is);
  flushed = λ front is. two.flushed front (one.flushed front is);
  began = λ in_epoch is. two.began in_epoch (one.began in_epoch is);
  ahead = λ many is. ahead_both first second many now.live (two.ahead (many + epochs_in first) (one.ahead many is));
}
