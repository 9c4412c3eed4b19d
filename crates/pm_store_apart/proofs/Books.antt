-- Books of a store that go on by an entry.
use Rattle.std.{proofs.{Common.{◌≡◌, Bool, true, false, ◌||◌, ◌⊎◌, inl, inr, ℕ, ◌+◌, ◌-◌, ◌^◌, ◌<◌, ◌≤◌, List, [], ◌∷◌, ◌++◌, drop, All, Option, None, Some, refl, sym, ◌∙◌, ap, subst, arith, append_assoc, append-nil, length-append}, lemmas.{Bool.cases_lt, List.{Sums.fold-append, Folds.list_any-append, Elements.{All-push, All-weaker}}}, Math.Bool.or-false}, specs.List.list_any}
use Rattle.pm_query.{specs.{pm_disk.Cause.Rose, pm_rows.{declared.commit.Change.Change, Limits.max_file_bytes}, declared.book.BookEntry.{BookEntry, TheVariants.{Opened, Attached, Redone, Answered, Released, Detached, Gone, CheckpointEnded, Broke, LogFull}}, History.{History, beginning, count_of, rows_of, with_commit}, Book.{Base, BeginsRenewal, IsLegal, MayFollow, MayGoOn, RenewsBehindGone, ends_checkpoint, ends_cleanly, fault_here, faults_after, faults_here, faults_of, generation_after, generation_of, has_checkpoint, history_after, history_of, is_closed, kept_after, kept_by_redo, last_tick, need_after, needs_of, present, present_after, standing_of, tick_after, times_after}}, proofs.HistoryLaws.{generation_push, history_push, present_push, redone_push, times_push}}
use Rattle.pm_store_apart.specs.{declared.live.Live.Live, Moment.Moment, Children.{IsAttendedBy, times_in}, Stands.{HasGone, HasNoTick, HasRenewed, HasWaited, IsFaultBy, Origin, TellsBreak, bytes_of_rows, most_bytes}, Unread.{has_break, has_redo, is_redo}, UnreadLaws.{break_before, redo_neither}}

-- ---- legal books

pub goes_on : (base : Base) (before book : List BookEntry) (entry : BookEntry) → MayGoOn base before book → MayFollow base (before ++ book) entry → MayGoOn base before (book ++ entry ∷ [])
goes_on base before [] entry all next = (subst (λ (l : List BookEntry). MayFollow base l entry) (append-nil before) next, tt)
goes_on base before (first ∷ book) entry all next =
    (all.0, goes_on base (before ++ first ∷ []) book entry all.1 (subst (λ (l : List BookEntry). MayFollow base l entry) (sym (append_assoc before (first ∷ []) book)) next))

-- no child is gone
abbrev pub IsNotGone : BookEntry → Type 0
IsNotGone (Gone pid) = ⊥
IsNotGone _ = Unit {0}

begins_still : (book : List BookEntry) (entry : BookEntry) → BeginsRenewal book → BeginsRenewal (book ++ entry ∷ [])
begins_still [] entry begins = absurd begins
begins_still (Gone pid ∷ book) entry begins = begins_still book entry begins
begins_still (Opened generation ∷ book) entry begins = tt
begins_still (Attached pid generation ∷ book) entry begins = absurd begins
begins_still (Redone pid generation count ∷ book) entry begins = absurd begins
begins_still (Answered pid script reply commit front tick ∷ book) entry begins = absurd begins
begins_still (Released pid front tick ∷ book) entry begins = absurd begins
begins_still (Detached pid ∷ book) entry begins = absurd begins
begins_still (CheckpointEnded pid done clean ∷ book) entry begins = absurd begins
begins_still (Broke pid since count ∷ book) entry begins = absurd begins
begins_still (LogFull pid script need room ∷ book) entry begins = absurd begins

one_renews : (entry : BookEntry) → IsNotGone entry → RenewsBehindGone (entry ∷ [])
one_renews (Gone pid) not = absurd not
one_renews (Opened generation) not = tt
one_renews (Attached pid generation) not = tt
one_renews (Redone pid generation count) not = tt
one_renews (Answered pid script reply commit front tick) not = tt
one_renews (Released pid front tick) not = tt
one_renews (Detached pid) not = tt
one_renews (CheckpointEnded pid done clean) not = tt
one_renews (Broke pid since count) not = tt
one_renews (LogFull pid script need room) not = tt

renews : (book : List BookEntry) (entry : BookEntry) → IsNotGone entry → RenewsBehindGone book → RenewsBehindGone (book ++ entry ∷ [])
renews [] entry not all = one_renews entry not
renews (Gone pid ∷ book) entry not all = (begins_still book entry all.0, renews book entry not all.1)
renews (Opened generation ∷ book) entry not all = renews book entry not all
renews (Attached pid generation ∷ book) entry not all = renews book entry not all
renews (Redone pid generation count ∷ book) entry not all = renews book entry not all
renews (Answered pid script reply commit front tick ∷ book) entry not all = renews book entry not all
renews (Released pid front tick ∷ book) entry not all = renews book entry not all
renews (Detached pid ∷ book) entry not all = renews book entry not all
renews (CheckpointEnded pid done clean ∷ book) entry not all = renews book entry not all
renews (Broke pid since count ∷ book) entry not all = renews book entry not all
renews (LogFull pid script need room ∷ book) entry not all = renews book entry not all

-- a legal book with an entry that may follow
pub legal_push : (base : Base) (book : List BookEntry) (entry : BookEntry) → IsNotGone entry → IsLegal base book → MayFollow base book entry → IsLegal base (book ++ entry ∷ [])
legal_push base book entry not legal next = record { entries = goes_on base [] book entry legal.entries next; renewals = renews book entry not legal.renewals }

-- ---- what one entry more does to what a book says

pub here_push : (book : List BookEntry) (entry : BookEntry) → faults_here (book ++ entry ∷ []) ≡ fault_here (faults_here book) entry
here_push book entry = fold-append fault_here None book (entry ∷ [])

pub faults_push : (book : List BookEntry) (entry : BookEntry) → faults_of (book ++ entry ∷ []) ≡ faults_after (faults_of book) entry
faults_push book entry = fold-append faults_after [] book (entry ∷ [])

pub tick_push : (book : List BookEntry) (entry : BookEntry) → last_tick (book ++ entry ∷ []) ≡ tick_after (last_tick book) entry
tick_push book entry = fold-append tick_after 0 book (entry ∷ [])

pub needs_push : (book : List BookEntry) (entry : BookEntry) → needs_of (book ++ entry ∷ []) ≡ need_after (needs_of book) entry
needs_push book entry = fold-append need_after 0 book (entry ∷ [])

pub closed_push : (book : List BookEntry) (entry : BookEntry) → is_closed (book ++ entry ∷ []) ≡ list_any ends_cleanly (present_after (present book) entry)
closed_push book entry = ap (list_any ends_cleanly) (present_push book entry)

pub checkpoint_push : (book : List BookEntry) (entry : BookEntry) → has_checkpoint (book ++ entry ∷ []) ≡ list_any ends_checkpoint (present_after (present book) entry)
checkpoint_push book entry = ap (list_any ends_checkpoint) (present_push book entry)

-- a test of the entries after one more
pub any_push : (p : BookEntry → Bool) (entries : List BookEntry) (entry : BookEntry) (was is : Bool) → list_any p entries ≡ was → p entry ≡ is → list_any p (entries ++ entry ∷ []) ≡ was || is
any_push p entries entry was is so this =
    list_any-append p entries (entry ∷ []) ∙ ap (λ (b : Bool). b || (p entry || false)) so ∙ ap (λ (b : Bool). was || (b || false)) this ∙ ap (λ (b : Bool). was || b) (or-false is)

pub any_still : (p : BookEntry → Bool) (entries : List BookEntry) (entry : BookEntry) (was : Bool) → list_any p entries ≡ was → p entry ≡ false → list_any p (entries ++ entry ∷ []) ≡ was
any_still p entries entry was so this = any_push p entries entry was false so this ∙ or-false was

fault_later : (before now : ℕ) → before ≤ now → (fault : ℕ × ℕ) → IsFaultBy before fault → IsFaultBy now fault
fault_later before now le fault by = omega (arith, le, by)

-- ---- the store after one entry more

-- each child is attached as often as it is inside
pub attended_push : (inside inside_now : List ℕ) (book : List BookEntry) (entry : BookEntry) → IsAttendedBy inside book
    → ((pid : ℕ) → times_after pid (times_in pid inside) entry ≡ times_in pid inside_now) → IsAttendedBy inside_now (book ++ entry ∷ [])
attended_push inside inside_now book entry is step pid = times_push book entry pid ∙ ap (λ (n : ℕ). times_after pid n entry) (is pid) ∙ step pid

-- an entry that takes no child in or out
pub attended_still : (inside : List ℕ) (book : List BookEntry) (entry : BookEntry) → ((pid n : ℕ) → times_after pid n entry ≡ n) → IsAttendedBy inside book → IsAttendedBy inside (book ++ entry ∷ [])
attended_still inside book entry none is = attended_push inside inside book entry is (λ pid. none pid (times_in pid inside))

need_grows : (total : ℕ) (entry : BookEntry) → total ≤ need_after total entry
need_grows total (Answered pid script reply commit front tick) = omega arith
need_grows total (Opened generation) = omega arith
need_grows total (Attached pid generation) = omega arith
need_grows total (Redone pid generation count) = omega arith
need_grows total (Released pid front tick) = omega arith
need_grows total (Detached pid) = omega arith
need_grows total (Gone pid) = omega arith
need_grows total (CheckpointEnded pid done clean) = omega arith
need_grows total (Broke pid since count) = omega arith
need_grows total (LogFull pid script need room) = omega arith

-- the log may only have become longer
pub most_grows : (base : Base) (book : List BookEntry) (entry : BookEntry) → most_bytes base book ≤ most_bytes base (book ++ entry ∷ [])
most_grows base book entry = omega (arith, need_grows (needs_of book) entry, needs_push book entry)

-- the tallies that an entry leaves, where redo has ended: how they are read off the entry
pub record Tallies (base : Base) (at : Moment) (book : List BookEntry) (entry : BookEntry) (live : Live) (history : History) : Type 0 where
  pub not_gone : IsNotGone entry
  pub may : MayFollow base book entry
  pub begun : 1 ≤ at.generation
  pub generation : (n : ℕ) → generation_after n entry ≡ n
  pub attended : IsAttendedBy at.inside (book ++ entry ∷ [])
  pub redone : kept_after (kept_by_redo book) entry ≡ Some live.kept
  pub closed_is : list_any ends_cleanly (present_after (present book) entry) ≡ live.closed
  pub history_is : history_after (kept_by_redo book) (history_of base book) entry ≡ history
  pub in_time : tick_after (last_tick book) entry ≤ live.mark
  pub marked : live.mark ≤ at.ticks
  pub based : base.count ≤ live.log.count
  pub acked : history.acked ≤ live.log.count
  pub behind : live.log.since ≡ None → drop (live.log.count - base.count) history.commits ≡ at.staged
  pub each : All (IsFaultBy at.faults) (faults_after (faults_of book) entry)
  pub base_fits : bytes_of_rows base.rows ≤ base.bytes

pub gone_push : (base : Base) (at : Moment) (live : Live) (book : List BookEntry) (entry : BookEntry) (history : History)
    → at.live ≡ Some live → IsLegal base book → generation_of book ≡ at.generation → Tallies base at book entry live history
    → TellsBreak live.log.since live.faults (fault_here (faults_here book) entry) → ((since : ℕ) → live.log.since ≡ Some since → live.faults ≤ at.faults)
    → at.rows ≡ rows_of history → (live.log.since ≡ None → live.front ≡ count_of history) → history.base ≡ standing_of base
    → (live.log.since ≡ None → live.log.end + 1 + live.needs ≤ base.bytes + 1024 + need_after (needs_of book) entry)
    → live.log.limit ≡ max_file_bytes → base.faults ≤ at.faults → HasGone base at live (book ++ entry ∷ [])
gone_push base at live book entry history read legal generation tallies broken known rows count base_is fits limit later =
    let is : history_of base (book ++ entry ∷ []) ≡ history = history_push base book entry ∙ tallies.history_is in
    record {
      read = read;
      legal = legal_push base book entry tallies.not_gone legal tallies.may;
      begun = tallies.begun;
      generation = generation_push book entry ∙ tallies.generation (generation_of book) ∙ generation;
      attended = tallies.attended;
      redone = redone_push book entry ∙ tallies.redone;
      closed = closed_push book entry ∙ tallies.closed_is;
      broken = subst (TellsBreak live.log.since live.faults) (sym (here_push book entry)) broken;
      known = known;
      rows_are = rows ∙ sym (ap rows_of is);
      count_is = λ unbroken. count unbroken ∙ sym (ap count_of is);
      behind = λ unbroken. ap (λ (h : History). drop (live.log.count - base.count) h.commits) is ∙ tallies.behind unbroken;
      base_is = ap (λ (h : History). h.base) is ∙ base_is;
      base_fits = tallies.base_fits;
      based = tallies.based;
      acked = omega (arith, ap (λ (h : History). h.acked) is, tallies.acked);
      fits = λ unbroken. subst (λ (n : ℕ). live.log.end + 1 + live.needs ≤ base.bytes + 1024 + n) (sym (needs_push book entry)) (fits unbroken);
      limit = limit;
      in_time = subst (λ (n : ℕ). n ≤ live.mark) (sym (tick_push book entry)) tallies.in_time;
      marked = tallies.marked;
      counted = record { later = later; each = subst (All (IsFaultBy at.faults)) (sym (faults_push book entry)) tallies.each };
    }

-- what keeps no number is no redo
keeps_none : (entry : BookEntry) → kept_after None entry ≡ None → is_redo entry ≡ false
keeps_none (Opened generation) none = refl
keeps_none (Attached pid generation) none = refl
keeps_none (Redone pid generation kept) none = absurd (cc)
keeps_none (Answered pid script reply commit front tick) none = refl
keeps_none (Released pid front tick) none = refl
keeps_none (Detached pid) none = refl
keeps_none (Gone pid) none = refl
keeps_none (CheckpointEnded pid done clean) none = refl
keeps_none (Broke pid since count) none = refl
keeps_none (LogFull pid script need room) none = refl

-- a fault stays noted
pub breaks_push : (book more : List BookEntry) (Else : Type 0) → (has_break book ≡ true) ⊎ Else → (has_break (book ++ more) ≡ true) ⊎ Else
breaks_push book more Else (inl breaks) = inl (break_before book more breaks)
breaks_push book more Else (inr other) = inr other

-- before the first redo
pub waited_push : (origin : Origin) (at : Moment) (book : List BookEntry) (entry : BookEntry) → at.live ≡ None → 1 ≤ at.generation → IsAttendedBy at.inside (book ++ entry ∷ [])
    → ((base : Base) → base.faults ≡ origin.faults → IsLegal base book)
    → ((base : Base) → history_of base book ≡ beginning (standing_of base)) → has_redo book ≡ false → kept_by_redo book ≡ None → faults_here book ≡ None → All HasNoTick book
    → IsNotGone entry → ((base : Base) → base.faults ≡ origin.faults → MayFollow base book entry)
    → ((base : Base) → history_after None (beginning (standing_of base)) entry ≡ beginning (standing_of base))
    → generation_after (generation_of book) entry ≡ at.generation → kept_after None entry ≡ None → fault_here None entry ≡ None
    → list_any ends_checkpoint (present_after (present book) entry) ≡ at.skipped → list_any ends_cleanly (present_after (present book) entry) ≡ false
    → HasNoTick entry → tick_after (last_tick book) entry ≡ 0 → need_after (needs_of book) entry ≡ 0 → origin.faults ≤ at.faults → All (IsFaultBy at.faults) (faults_after (faults_of book) entry)
    → origin.tick ≤ at.ticks → (has_break (book ++ entry ∷ []) ≡ true) ⊎ (at.files ≡ origin.files)
    → HasWaited origin at (book ++ entry ∷ [])
waited_push origin at book entry unread begun attended legal fresh no_redo unredone here no_ticks not may history generation kept none checkpoint clean no_tick no_time no_need later each reached reads = record {
  unread = unread;
  legal = λ base same. legal_push base book entry not (legal base same) (may base same);
  fresh = λ base. history_push base book entry ∙ ap (λ (r : Option ℕ). history_after r (history_of base book) entry) unredone ∙ ap (λ (h : History). history_after None h entry) (fresh base) ∙ history base;
  begun = begun;
  generation = generation_push book entry ∙ generation;
  attended = attended;
  no_redo = redo_neither book (entry ∷ []) no_redo (ap (λ (b : Bool). b || false) (keeps_none entry kept));
  unredone = redone_push book entry ∙ ap (λ (r : Option ℕ). kept_after r entry) unredone ∙ kept;
  none_here = here_push book entry ∙ ap (λ (f : Option (List (ℕ × ℕ))). fault_here f entry) here ∙ none;
  skipped = checkpoint_push book entry ∙ checkpoint;
  unclosed = closed_push book entry ∙ clean;
  no_ticks = All-push HasNoTick book entry no_ticks no_tick;
  no_time = tick_push book entry ∙ no_time;
  no_needs = needs_push book entry ∙ no_need;
  counted = record { later = later; each = subst (All (IsFaultBy at.faults)) (sym (faults_push book entry)) each };
  reached = reached;
  reads = reads;
}

-- in a later generation, before its redo
pub renewed_push : (base : Base) (before at : Moment) (book : List BookEntry) (entry : BookEntry) → at.live ≡ None → at.generation ≡ before.generation → IsAttendedBy at.inside (book ++ entry ∷ [])
    → IsNotGone entry → MayFollow base book entry → ((n : ℕ) → generation_after n entry ≡ n) → kept_after None entry ≡ None → fault_here None entry ≡ None
    → list_any ends_checkpoint (present_after (present book) entry) ≡ at.skipped → list_any ends_cleanly (present_after (present book) entry) ≡ false
    → history_after None (history_of base book) entry ≡ history_of base book → tick_after (last_tick book) entry ≤ at.ticks → base.faults ≤ at.faults → All (IsFaultBy at.faults) (faults_after (faults_of book) entry)
    → HasRenewed base before book → HasRenewed base at (book ++ entry ∷ [])
renewed_push base before at book entry unread same attended not may generation kept none checkpoint clean history in_time later each is =
    let history_is : history_of base (book ++ entry ∷ []) ≡ history_of base book =
    history_push base book entry ∙ ap (λ (r : Option ℕ). history_after r (history_of base book) entry) is.unredone ∙ history in
    record {
      unread = unread;
      legal = legal_push base book entry not is.legal may;
      later = omega (arith, is.later, same);
      generation = generation_push book entry ∙ generation (generation_of book) ∙ is.generation ∙ sym same;
      attended = attended;
      unredone = redone_push book entry ∙ ap (λ (r : Option ℕ). kept_after r entry) is.unredone ∙ kept;
      none_here = here_push book entry ∙ ap (λ (f : Option (List (ℕ × ℕ))). fault_here f entry) is.none_here ∙ none;
      skipped = checkpoint_push book entry ∙ checkpoint;
      unclosed = closed_push book entry ∙ clean;
      base_is = ap (λ (h : History). h.base) history_is ∙ is.base_is;
      base_fits = is.base_fits;
      in_time = subst (λ (n : ℕ). n ≤ at.ticks) (sym (tick_push book entry)) in_time;
      counted = record { later = later; each = subst (All (IsFaultBy at.faults)) (sym (faults_push book entry)) each };
    }

-- ---- histories with a commit

pub count-with_commit : (history : History) (change : Change) (changes : List Change) → count_of (with_commit history (change ∷ changes)) ≡ count_of history + 1
count-with_commit history change changes = omega (arith, length-append history.commits ((change ∷ changes) ∷ []))

-- a new fault's count is above all before it, or it is the last number
pub tells_new : (first before now : ℕ) (faults : List (ℕ × ℕ)) → first ≤ before → All (IsFaultBy before) faults → Rose before now → before ≤ now → now < 2 ^ 64
    → ((first < now) × All (λ (fault : ℕ × ℕ). fault.1 < now) faults) ⊎ (now ≡ 2 ^ 64 - 1)
tells_new first before now faults le each rose later small = elim (cases_lt before (2 ^ 64 - 1)) [
  | inl below ↦ inl (omega (arith, rose, below, le), All-weaker (IsFaultBy before) (λ (fault : ℕ × ℕ). fault.1 < now) (λ fault by. omega (arith, rose, below, by)) faults each)
  | inr spent ↦ inr (omega (arith, spent, later, small))
]

-- all faults so far, and one of now
pub each_push : (before now since : ℕ) (faults : List (ℕ × ℕ)) → before ≤ now → All (IsFaultBy before) faults → All (IsFaultBy now) (faults ++ (since, now) ∷ [])
each_push before now since faults le each =
    All-push (IsFaultBy now) faults (since, now) (All-weaker (IsFaultBy before) (IsFaultBy now) (fault_later before now le) faults each) (omega arith)

pub each_later : (before now : ℕ) (faults : List (ℕ × ℕ)) → before ≤ now → All (IsFaultBy before) faults → All (IsFaultBy now) faults
each_later before now faults le each = All-weaker (IsFaultBy before) (IsFaultBy now) (fault_later before now le) faults each
