-- What each step of a store keeps.
use Rattle.std.{proofs.{Common.{◌≡◌, ◌≢◌, Bool, true, false, ◌⊎◌, inl, inr, ℕ, ◌+◌, ◌-◌, ◌^◌, ◌<◌, ◌≤◌, List, [], ◌∷◌, ◌++◌, All, drop, Option, None, Some, refl, sym, ◌∙◌, ap, subst, arith, append_assoc, true≢false}, Math.Logic.∥∥₁_map, lemmas.List.{drop_all, Elements.{All-nil, All-push, Contains-append_left}, Sums.{sum_by-append, sum_by-cons}}}, specs.{Prelude.{IfSome, is_some, Any, unwrap_or, cond, nat_eq}, List.list_any, Option.option_map}}
use Rattle.pm_query.{specs.{pm_disk.{Cause.Rose, Files.Files}, pm_rows.{declared.commit.Change.Change, Fold.{RowMap, committed, folded}, Limits.max_file_bytes, Standing.{Standing, after}}, pm_sql.declared.stmt.Stmt.Stmt, declared.{item.Item.Item, book.BookEntry.{BookEntry, TheVariants.{Attached, Answered, Released, Detached, Broke, LogFull}}}, Answer.{commit_of, items_of}, History.{History, acknowledged, beginning, count_of, number, rows_of, with_commit}, Book.{AnswersAt, AnswersUpTo, Base, IsAttached, MayAnswer, MayFollow, TellsFault, ends_checkpoint, ends_cleanly, fault_here, faults_after, faults_here, faults_of, generation_after, generation_of, history_after, history_of, kept_after, kept_by_redo, last_tick, need_after, need_of, needs_of, present, present_after, standing_of, tick_after}, AtTick.is_by, TickLaws.{PastStays, PresentIsWhole}, Durable.{HoldsFrom, Keeps}}, proofs.HistoryLaws.{base-with_commit, generation_push, history_push, redone_push, rows_of-with_commit, times_push, whole_number}}
use Rattle.pm_query.specs.pm_rows.LogSize as log
use Rattle.pm_record.{proofs.GateLaws.{same_standing, standing}, specs.{Pair.Means, StandsFor.standing_of as content_standing, OnDisk.{GoesOn, Throughout}}}
use Rattle.pm_store_apart.{specs.{declared.live.Live.Live, Moment.Moment, Moves.{BreakIsShown, IsCountedFrom, IsShown, IsShownAt, Moves}, Epochs.{BeganIn, IsAheadBy, epochs_in}, MovesLaws.{ahead_still, moves_none, time_still, unread_never, unread_still}, Unread.has_redo, Children.{IsAttendedBy, once, times_behind, times_in}, Fronts.{flushed_of, whole_of}, Passes.IsUpTo, Rests.{Rests, RestsAt}, Stands.{Begins, GoesFrom, HasBegun, HasGone, HasHeld, HasNoTick, HasRenewed, HasWaited, IsAnchored, IsFaultBy, IsOpening, IsSure, MeansWithin, Origin, TellsBreak, WaitsFrom, most_bytes}}, proofs.{Books.{IsNotGone, any_still, attended_push, attended_still, breaks_push, closed_push, count-with_commit, each_later, each_push, faults_push, gone_push, here_push, legal_push, most_grows, needs_push, renewed_push, tells_new, tick_push, waited_push}, RunsLaws.{another, answered, covers_commit, covers_number, goes_by, holds_in, holds_so, later, next_commit, released}}}
use Rattle.pm_outside.{specs.Added.Added, proofs.AddedLaws.added_none}

-- the moment with another book, and other children inside
abbrev pub with_child : Option (List BookEntry) → List ℕ → Moment → Moment
with_child book inside at = record {
  book = book;
  generation = at.generation;
  inside = inside;
  rows = at.rows;
  live = at.live;
  skipped = at.skipped;
  commits = at.commits;
  staged = at.staged;
  files = at.files;
  images = at.images;
  ticks = at.ticks;
  faults = at.faults;
}

-- with another book alone
abbrev pub with_book : Option (List BookEntry) → Moment → Moment
with_book book at = with_child book at.inside at

-- the book tells what it told
pub stays_put : (at : Moment) (book_now : Option (List BookEntry)) → book_now ≡ at.book → Moves [] at (with_book book_now at)
stays_put at book_now is = subst (λ (b : Option (List BookEntry)). Moves [] at (with_book b at)) (sym is) (moves_none at)

-- ---- which log it is

abbrev log_there : Option Live → Type 0
log_there None = ⊥
log_there (Some live) = Unit {0}

pub not_both : (o : Option Live) (live : Live) → o ≡ None → o ≡ Some live → ⊥
not_both o live none some = subst log_there (sym some ∙ none) tt

abbrev some_number : Option ℕ → Type 0
some_number None = ⊥
some_number (Some n) = Unit {0}

pub some_none : (n : ℕ) → Some n ≡ None → ⊥
some_none n is = subst some_number is tt

pub same_live : (o : Option Live) (one other : Live) → o ≡ Some one → o ≡ Some other → one ≡ other
same_live o one other first second = ap (λ (l : Option Live). unwrap_or l one) (sym first ∙ second)

pub gone_at : (base : Base) (at : Moment) (live l : Live) (book : List BookEntry) → at.live ≡ Some live → HasGone base at l book → HasGone base at live book
gone_at base at live l book is gone = subst (λ (l : Live). HasGone base at l book) (same_live at.live l live gone.read is) gone

abbrev files_told : Option Files → Type 0
files_told None = ⊥
files_told (Some files) = Unit {0}

pub no_files : (files : Files) → Some files ≡ None → ⊥
no_files files is = subst files_told is tt

-- ---- what the log lives with

-- numbers that stay, up to the flushed one
pub anchored_push : (at : Moment) (h then : History) → ((live : Live) → at.live ≡ Some live → number h (flushed_of live) ≡ number then (flushed_of live)) → IsAnchored at h → IsAnchored at then
anchored_push at h then same is = λ live read whole.
    subst (λ (s : Standing). IfSome at.files (λ files. ∥ RestsAt live at.rows at.staged files (at.images at.ticks) s ∥₁)) (same live read) (is live read whole)

-- one that wasn't read, or is broken, claims nothing
pub anchored_unread : (at : Moment) (h : History) → at.live ≡ None → IsAnchored at h
anchored_unread at h unread = λ live read whole. absurd (not_both at.live live unread read)

pub anchored_broken : (at : Moment) (h : History) (new : Live) (since : ℕ) → at.live ≡ Some new → new.log.since ≡ Some since → IsAnchored at h
anchored_broken at h new since read broke = λ live is whole.
    absurd (some_none since (sym broke ∙ ap (λ (l : Live). l.log.since) (same_live at.live new live read is) ∙ whole))

-- where nothing is staged it lives with the whole history
pub anchored_whole : (at : Moment) (h : History) (new : Live) → at.live ≡ Some new → at.staged ≡ [] → at.rows ≡ rows_of h → new.log.count ≡ count_of h
    → ∥ Rests at.live at.rows at.staged at.files (at.images at.ticks) ∥₁ → IsAnchored at h
anchored_whole at h new read unstaged rows count rests = λ live is whole.
    each live (same_live at.live live new is read) whole at.files (subst (λ (l : Option Live). ∥ Rests l at.rows at.staged at.files (at.images at.ticks) ∥₁) is rests)
  where
    each : (live : Live) → live ≡ new → live.log.since ≡ None → (files : Option Files) → ∥ Rests (Some live) at.rows at.staged files (at.images at.ticks) ∥₁
        → IfSome files (λ f. ∥ RestsAt live at.rows at.staged f (at.images at.ticks) (number h (flushed_of live)) ∥₁)
    each live same whole None r = tt
    each live same whole (Some f) r = ∥∥₁_map r (λ rests.
        let has = rests whole in
        let counted : live.log.count ≡ count_of h = ap (λ (l : Live). l.log.count) same ∙ count in
        record {
          has = has;
          is = same_standing (content_standing has.content).rows (rows_of h) (content_standing has.content).count (count_of h)
              (sym (has.rows_are ∙ ap (λ (l : List (List Change)). folded (content_standing has.content).rows l) unstaged) ∙ rows) (sym has.lives.count ∙ counted)
              ∙ sym (whole_number h) ∙ ap (number h) (sym counted);
        })

-- ---- from one moment to another: of the book wherever it tells, and of stops where the disk tells as well

pub told_on : (entries : List BookEntry) (P Q S T : List BookEntry → Type 0) (book book_now : Option (List BookEntry)) (files files_now : Option Files)
    → Added entries book book_now → (files ≡ None → files_now ≡ None)
    → ((list : List BookEntry) → book ≡ Some list → P list → IfSome files (λ seen. S list) → Q (list ++ entries))
    → ((list : List BookEntry) → book ≡ Some list → (seen : Files) → files ≡ Some seen → P list → S list → T (list ++ entries))
    → IfSome book P × IfSome book (λ list. IfSome files (λ seen. S list)) → IfSome book_now Q × IfSome book_now (λ list. IfSome files_now (λ seen. T list))
told_on entries P Q S T None book_now files files_now notes tells step stops told =
    (subst (λ (b : Option (List BookEntry)). IfSome b Q) (sym notes) tt, subst (λ (b : Option (List BookEntry)). IfSome b (λ list. IfSome files_now (λ seen. T list))) (sym notes) tt)
told_on entries P Q S T (Some list) book_now files files_now notes tells step stops told = (
  subst (λ (b : Option (List BookEntry)). IfSome b Q) (sym notes) (step list refl told.0 told.1),
  subst (λ (b : Option (List BookEntry)). IfSome b (λ list. IfSome files_now (λ seen. T list))) (sym notes) (left files tells (stops list refl) told.1),
)
  where
    each : (f : Option Files) → T (list ++ entries) → IfSome f (λ seen. T (list ++ entries))
    each None holds = tt
    each (Some other) holds = holds

    left : (f : Option Files) → (f ≡ None → files_now ≡ None) → ((seen : Files) → f ≡ Some seen → P list → S list → T (list ++ entries)) → IfSome f (λ seen. S list)
        → IfSome files_now (λ seen. T (list ++ entries))
    left None tells stops held = subst (λ (f : Option Files). IfSome f (λ seen. T (list ++ entries))) (sym (tells refl)) tt
    left (Some seen) tells stops held = each files_now (stops seen refl told.0 held)

-- before the first redo
pub waited_on : (entries : List BookEntry) (before now : Moment) (origin : Origin) → Added entries before.book now.book → (before.files ≡ None → now.files ≡ None)
    → ((book : List BookEntry) → before.book ≡ Some book → HasWaited origin before book → HasWaited origin now (book ++ entries))
    → ((book : List BookEntry) (seen : Files) → before.files ≡ Some seen → HasWaited origin before book → IsOpening origin before.ticks before.images → IsOpening origin now.ticks now.images)
    → WaitsFrom origin before → WaitsFrom origin now
waited_on entries before now origin notes tells step stops told =
    told_on entries (HasWaited origin before) (HasWaited origin now) (λ book. IsOpening origin before.ticks before.images) (λ book. IsOpening origin now.ticks now.images)
    before.book now.book before.files now.files notes tells (λ book is waited opening. step book is waited) (λ book is seen told waited opening. stops book seen told waited opening) told

-- what is sure of the one moment was so of the other, in the same generation
sure_before : (before now : Moment) → now.generation ≡ before.generation → (before.files ≡ None → now.files ≡ None) → IsSure now → IsSure before
sure_before before now same tells (inl first) = inl (sym same ∙ first)
sure_before before now same tells (inr told) = each before.files refl
  where
    each : (f : Option Files) → before.files ≡ f → IsSure before
    each None none = absurd (no_files told.0 (sym told.1 ∙ tells none))
    each (Some files) is = inr (files, is)

-- after the first redo
pub gone_on : (entries : List BookEntry) (before now : Moment) (origin : Origin) (base : Base) → Added entries before.book now.book → (before.files ≡ None → now.files ≡ None) → (IsSure now → IsSure before)
    → ((book : List BookEntry) → before.book ≡ Some book → IsSure now → HasBegun base before book → IfSome before.files (λ seen. HasHeld origin base before book) → HasBegun base now (book ++ entries))
    → ((book : List BookEntry) (seen : Files) → before.files ≡ Some seen → HasBegun base before book → HasHeld origin base before book → HasHeld origin base now (book ++ entries))
    → GoesFrom origin base before → GoesFrom origin base now
gone_on entries before now origin base notes tells sure step stops told =
    told_on entries (λ book. IsSure before → HasBegun base before book) (λ book. IsSure now → HasBegun base now book) (HasHeld origin base before) (HasHeld origin base now)
    before.book now.book before.files now.files notes tells (λ book is begun held sure_now. step book is sure_now (begun (sure sure_now)) held)
    (λ book is seen told begun held. stops book seen told (begun (inr (seen, told))) held) told

-- ... where the log was read in this generation
pub gone_read : (entries : List BookEntry) (before now : Moment) (live : Live) (origin : Origin) (base : Base) → before.live ≡ Some live → now.generation ≡ before.generation → Added entries before.book now.book
    → (before.files ≡ None → now.files ≡ None)
    → ((book : List BookEntry) → before.book ≡ Some book → HasGone base before live book → (new : Live) × HasGone base now new (book ++ entries))
    → ((book : List BookEntry) (seen : Files) → before.files ≡ Some seen → HasGone base before live book → HasHeld origin base before book → HasHeld origin base now (book ++ entries))
    → GoesFrom origin base before → GoesFrom origin base now
gone_read entries before now live origin base read same notes tells step stops told =
    gone_on entries before now origin base notes tells (sure_before before now same tells) (λ book is sure begun held. inl (step book is (reading book begun))) (λ book seen told begun held. stops book seen told (reading book begun) held) told
  where
    reading : (book : List BookEntry) → HasBegun base before book → HasGone base before live book
    reading book (inl gone) = gone_at base before live gone.0 book read gone.1
    reading book (inr renewed) = absurd (not_both before.live live renewed.unread read)

-- ... where it wasn't
pub gone_unread : (entries : List BookEntry) (before now : Moment) (origin : Origin) (base : Base) → before.live ≡ None → now.generation ≡ before.generation → Added entries before.book now.book
    → (before.files ≡ None → now.files ≡ None)
    → ((book : List BookEntry) → before.book ≡ Some book → IsSure now → HasRenewed base before book → IfSome before.files (λ seen. HasHeld origin base before book) → HasBegun base now (book ++ entries))
    → ((book : List BookEntry) (seen : Files) → before.files ≡ Some seen → HasRenewed base before book → HasHeld origin base before book → HasHeld origin base now (book ++ entries))
    → GoesFrom origin base before → GoesFrom origin base now
gone_unread entries before now origin base unread same notes tells step stops told =
    gone_on entries before now origin base notes tells (sure_before before now same tells) (λ book is sure begun held. step book is sure (waiting book begun) held) (λ book seen told begun held. stops book seen told (waiting book begun) held) told
  where
    waiting : (book : List BookEntry) → HasBegun base before book → HasRenewed base before book
    waiting book (inl gone) = absurd (not_both before.live gone.0 unread gone.1.read)
    waiting book (inr renewed) = renewed

-- an entry was noted in room that was made
pub notes_by : (entry : BookEntry) (book reserved now : Option (List BookEntry)) → reserved ≡ book → now ≡ option_map (λ es. es ++ entry ∷ []) reserved → Added (entry ∷ []) book now
notes_by entry book reserved now er en = en ∙ ap (option_map (λ es. es ++ entry ∷ [])) er

-- no entry was noted
pub notes_none_by : (book now : Option (List BookEntry)) → now ≡ book → Added [] book now
notes_none_by book now is = is ∙ added_none book

-- what was read doesn't wait
pub never_waits : (entries : List BookEntry) (before now : Moment) (live : Live) → before.live ≡ Some live → Added entries before.book now.book → (before.files ≡ None → now.files ≡ None)
    → (origin : Origin) → WaitsFrom origin before → WaitsFrom origin now ⊎ Begins origin now
never_waits entries before now live read notes tells origin told =
    inl (waited_on entries before now origin notes tells (λ book is waited. absurd (not_both before.live live waited.unread read)) (λ book seen told waited opening. absurd (not_both before.live live waited.unread read)) told)

-- ---- calls that make no call of the disk

-- entries by which nobody comes or goes
pub nobody_moves : (entries : List BookEntry) (before now : Moment) → now.inside ≡ before.inside → ((pid n : ℕ) → times_behind entries pid n ≡ n)
    → (pid : ℕ) → times_in pid now.inside ≡ times_behind entries pid (times_in pid before.inside)
nobody_moves entries before now same none pid = ap (times_in pid) same ∙ sym (none pid (times_in pid before.inside))

-- the store keeps all but its book, and who is inside
pub still_in : (entries : List BookEntry) (at : Moment) (book_now : Option (List BookEntry)) (inside_now : List ℕ) → Added entries at.book book_now
    → ((pid : ℕ) → times_in pid inside_now ≡ times_behind entries pid (times_in pid at.inside))
    → ((from : ℕ) → IsCountedFrom from at.faults at.live → All (IsShown from at.faults) entries)
    → epochs_in entries ≡ 0 → has_redo entries ≡ false
    → ((origin : Origin) (book : List BookEntry) → at.book ≡ Some book → HasWaited origin at book → HasWaited origin (with_child book_now inside_now at) (book ++ entries))
    → ((base : Base) (live : Live) (book : List BookEntry) → at.book ≡ Some book → HasGone base at live book → HasGone base (with_child book_now inside_now at) live (book ++ entries))
    → ((base : Base) (book : List BookEntry) → at.book ≡ Some book → HasRenewed base at book → HasRenewed base (with_child book_now inside_now at) (book ++ entries))
    → ((origin : Origin) (base : Base) (book : List BookEntry) → HasBegun base at book → HasHeld origin base at book → HasHeld origin base (with_child book_now inside_now at) (book ++ entries))
    → Moves entries at (with_child book_now inside_now at)
still_in entries at book_now inside_now notes attends shown no_epoch no_redo waits goes renews holds = record {
  spans = record {
    notes = notes;
    time = time_still at.ticks at.images;
    later = omega arith;
    counts = λ from counted. record { counted = counted; each = shown from counted };
    waits = λ origin told. inl (waited_on entries at now origin notes (λ none. none) (λ book is waited. waits origin book is waited) (λ book seen tells waited opening. opening) told);
    goes_on = λ origin base told. gone_on entries at now origin base notes (λ none. none) (λ sure. sure) (λ book is sure begun held. each base book is begun) (λ book seen tells begun held. holds origin base book begun held) told;
  };
  generation = refl;
  commits = refl;
  attends = attends;
  unread = unread_still entries at now no_redo refl refl;
  staged = λ front is. is;
  flushed = λ front is. is;
  began = λ first is. is;
  ahead = λ many is. ahead_still entries many at.live no_epoch is;
}
  where
    now : Moment
    now = with_child book_now inside_now at

    each : (base : Base) (book : List BookEntry) → at.book ≡ Some book → HasBegun base at book → HasBegun base (with_child book_now inside_now at) (book ++ entries)
    each base book is (inl gone) = inl (gone.0, goes base gone.0 book is gone.1)
    each base book is (inr renewed) = inr (renews base book is renewed)

-- ... and the log was read in this generation
pub still : (entries : List BookEntry) (at : Moment) (live : Live) (book_now : Option (List BookEntry)) → at.live ≡ Some live → Added entries at.book book_now
    → ((pid n : ℕ) → times_behind entries pid n ≡ n)
    → ((from : ℕ) → IsCountedFrom from at.faults at.live → All (IsShown from at.faults) entries)
    → epochs_in entries ≡ 0
    → ((base : Base) (book : List BookEntry) → at.book ≡ Some book → HasGone base at live book → HasGone base (with_book book_now at) live (book ++ entries))
    → ((origin : Origin) (base : Base) (book : List BookEntry) → HasGone base at live book → HasHeld origin base at book → HasHeld origin base (with_book book_now at) (book ++ entries))
    → Moves entries at (with_book book_now at)
still entries at live book_now read notes none shown no_epoch goes holds = record {
  spans = record {
    notes = notes;
    time = time_still at.ticks at.images;
    later = omega arith;
    counts = λ from counted. record { counted = counted; each = shown from counted };
    waits = never_waits entries at (with_book book_now at) live read notes (λ none. none);
    goes_on = λ origin base told. gone_read entries at (with_book book_now at) live origin base read refl notes (λ none. none) (λ book is gone. (live, goes base book is gone)) (λ book seen tells gone held. holds origin base book gone held) told;
  };
  generation = refl;
  commits = refl;
  attends = nobody_moves entries at (with_book book_now at) refl none;
  unread = unread_never entries at (with_book book_now at) live live read read;
  staged = λ front is. is;
  flushed = λ front is. is;
  began = λ first is. is;
  ahead = λ many is. ahead_still entries many at.live no_epoch is;
}

-- An entry that leaves all but the list of entries alone.
pub record IsQuiet (kept : ℕ) (entry : BookEntry) : Type 0 where
  pub not_gone : IsNotGone entry
  pub generation : (n : ℕ) → generation_after n entry ≡ n
  pub redone : kept_after (Some kept) entry ≡ Some kept
  pub present_is : (entries : List BookEntry) → present_after entries entry ≡ entries ++ entry ∷ []
  pub unclean : ends_cleanly entry ≡ false
  pub history : (h : History) → history_after (Some kept) h entry ≡ h
  pub tick : (n : ℕ) → tick_after n entry ≡ n
  pub faults : (fs : List (ℕ × ℕ)) → faults_after fs entry ≡ fs
  pub here : (fs : List (ℕ × ℕ)) → fault_here (Some fs) entry ≡ Some fs
  pub need : (n : ℕ) → need_after n entry ≡ n
  pub no_tick : HasNoTick entry
  pub hidden : (t : ℕ) → is_by t entry ≡ false

breaks_still : (since : Option ℕ) (count : ℕ) (here : Option (List (ℕ × ℕ))) (entry : BookEntry) → ((fs : List (ℕ × ℕ)) → fault_here (Some fs) entry ≡ Some fs)
    → TellsBreak since count here → TellsBreak since count (fault_here here entry)
breaks_still None count here entry quiet tells = ap (λ (h : Option (List (ℕ × ℕ))). fault_here h entry) tells ∙ quiet []
breaks_still (Some since) count here entry quiet (first, rest, is, there) =
    (first, rest, ap (λ (h : Option (List (ℕ × ℕ))). fault_here h entry) is ∙ quiet (first ∷ rest), there)

pub gone_quiet : (base : Base) (at : Moment) (live : Live) (book_now : Option (List BookEntry)) (inside_now : List ℕ) (book : List BookEntry) (entry : BookEntry)
    → IsQuiet live.kept entry → MayFollow base book entry → IsAttendedBy inside_now (book ++ entry ∷ []) → HasGone base at live book → HasGone base (with_child book_now inside_now at) live (book ++ entry ∷ [])
gone_quiet base at live book_now inside_now book entry quiet may attended is =
    gone_push base (with_child book_now inside_now at) live book entry (history_of base book) is.read is.legal is.generation
    (record {
      not_gone = quiet.not_gone;
      may = may;
      begun = is.begun;
      generation = quiet.generation;
      attended = attended;
      redone = ap (λ (r : Option ℕ). kept_after r entry) is.redone ∙ quiet.redone;
      closed_is = ap (list_any ends_cleanly) (quiet.present_is (present book)) ∙ any_still ends_cleanly (present book) entry live.closed is.closed quiet.unclean;
      history_is = ap (λ (r : Option ℕ). history_after r (history_of base book) entry) is.redone ∙ quiet.history (history_of base book);
      in_time = subst (λ (n : ℕ). n ≤ live.mark) (sym (quiet.tick (last_tick book))) is.in_time;
      marked = is.marked;
      based = is.based;
      acked = is.acked;
      behind = is.behind;
      each = subst (All (IsFaultBy at.faults)) (sym (quiet.faults (faults_of book))) is.counted.each;
      base_fits = is.base_fits;
    })
    (breaks_still live.log.since live.faults (faults_here book) entry quiet.here is.broken) is.known is.rows_are is.count_is is.base_is
    (λ unbroken. subst (λ (n : ℕ). live.log.end + 1 + live.needs ≤ base.bytes + 1024 + n) (sym (quiet.need (needs_of book))) (is.fits unbroken))
    is.limit is.counted.later

-- how long an image is, after an entry that leaves this history
pub lengths_push : (base : Base) (book : List BookEntry) (entry : BookEntry) (then : History) (flushed : ℕ) (image : Files) → history_after (kept_by_redo book) (history_of base book) entry ≡ then
    → HoldsFrom (MeansWithin (most_bytes base book)) flushed then image → HoldsFrom (MeansWithin (most_bytes base (book ++ entry ∷ []))) flushed (history_of base (book ++ entry ∷ [])) image
lengths_push base book entry then flushed image is holds =
    let most = most_bytes base (book ++ entry ∷ []) in
    subst (λ (h : History). HoldsFrom (MeansWithin most) flushed h image) (sym (history_push base book entry ∙ is))
    (holds_so (MeansWithin (most_bytes base book)) (MeansWithin most) then flushed image (λ s m. (m.0, omega (arith, m.1, most_grows base book entry), m.2)) holds)

-- what a stop leaves stays, where an entry leaves the history alone
pub held_still : PastStays → PresentIsWhole → (origin : Origin) (base : Base) (at : Moment) (book_now : Option (List BookEntry)) (inside_now : List ℕ) (book : List BookEntry) (entry : BookEntry)
    → history_after (kept_by_redo book) (history_of base book) entry ≡ history_of base book → HasNoTick entry → ((t : ℕ) → is_by t entry ≡ false)
    → HasHeld origin base at book → HasHeld origin base (with_child book_now inside_now at) (book ++ entry ∷ [])
held_still past present_whole origin base at book_now inside_now book entry history no_tick hidden held = record {
  start = held.start;
  begun = held.begun;
  opening = held.opening;
  mark = held.mark;
  mark_is = held.mark_is;
  flushed = held.flushed;
  flushed_is = held.flushed_is;
  keeps = another past present_whole base book held.start held.mark at.ticks held.flushed at.images held.keeps entry history (no_tick held.start held.mark) hidden;
  lengths = λ image there. lengths_push base book entry (history_of base book) held.flushed image history (held.lengths image there);
  anchored = subst (IsAnchored (with_child book_now inside_now at)) (sym (history_push base book entry ∙ history)) held.anchored;
}

-- ... whatever the book tells by then
pub held_alone : PastStays → PresentIsWhole → (origin : Origin) (base : Base) (at : Moment) (book : List BookEntry) (entry : BookEntry)
    → history_after (kept_by_redo book) (history_of base book) entry ≡ history_of base book → HasNoTick entry → ((t : ℕ) → is_by t entry ≡ false)
    → HasHeld origin base at book → HasHeld origin base at (book ++ entry ∷ [])
held_alone past present_whole origin base at book entry alone no_tick hidden held =
    let still = held_still past present_whole origin base at at.book at.inside book entry alone no_tick hidden held in record {
      start = still.start;
      begun = still.begun;
      opening = still.opening;
      mark = still.mark;
      mark_is = still.mark_is;
      flushed = still.flushed;
      flushed_is = still.flushed_is;
      keeps = still.keeps;
      lengths = still.lengths;
      anchored = still.anchored;
    }

pub held_quiet : PastStays → PresentIsWhole → (origin : Origin) (base : Base) (at : Moment) (live : Live) (book_now : Option (List BookEntry)) (inside_now : List ℕ) (book : List BookEntry) (entry : BookEntry)
    → IsQuiet live.kept entry → HasGone base at live book → HasHeld origin base at book → HasHeld origin base (with_child book_now inside_now at) (book ++ entry ∷ [])
held_quiet past present_whole origin base at live book_now inside_now book entry quiet is held =
    held_still past present_whole origin base at book_now inside_now book entry
    (ap (λ (r : Option ℕ). history_after r (history_of base book) entry) is.redone ∙ quiet.history (history_of base book)) quiet.no_tick quiet.hidden held

pub waited_quiet : (origin : Origin) (at : Moment) (book_now : Option (List BookEntry)) (inside_now : List ℕ) (book : List BookEntry) (entry : BookEntry)
    → IsNotGone entry → IsAttendedBy inside_now (book ++ entry ∷ []) → ((base : Base) → MayFollow base book entry) → ((n : ℕ) → generation_after n entry ≡ n) → kept_after None entry ≡ None
    → ((entries : List BookEntry) → present_after entries entry ≡ entries ++ entry ∷ []) → ends_cleanly entry ≡ false → ends_checkpoint entry ≡ false
    → ((h : History) → history_after None h entry ≡ h) → ((n : ℕ) → tick_after n entry ≡ n) → ((fs : List (ℕ × ℕ)) → faults_after fs entry ≡ fs) → fault_here None entry ≡ None
    → ((n : ℕ) → need_after n entry ≡ n) → HasNoTick entry → HasWaited origin at book → HasWaited origin (with_child book_now inside_now at) (book ++ entry ∷ [])
waited_quiet origin at book_now inside_now book entry not attended may generation kept present_is unclean no_end history tick faults here need no_tick is =
    waited_push origin (with_child book_now inside_now at) book entry is.unread is.begun attended is.legal is.fresh is.no_redo is.unredone is.none_here is.no_ticks not (λ base same. may base)
    (λ base. history (beginning (standing_of base))) (generation (generation_of book) ∙ is.generation) kept here
    (ap (list_any ends_checkpoint) (present_is (present book)) ∙ any_still ends_checkpoint (present book) entry at.skipped is.skipped no_end)
    (ap (list_any ends_cleanly) (present_is (present book)) ∙ any_still ends_cleanly (present book) entry false is.unclosed unclean)
    no_tick (tick (last_tick book) ∙ is.no_time) (need (needs_of book) ∙ is.no_needs) is.counted.later
    (subst (All (IsFaultBy at.faults)) (sym (faults (faults_of book))) is.counted.each) is.reached (breaks_push book (entry ∷ []) (at.files ≡ origin.files) is.reads)

pub renewed_quiet : (base : Base) (at : Moment) (book_now : Option (List BookEntry)) (inside_now : List ℕ) (book : List BookEntry) (entry : BookEntry)
    → IsNotGone entry → IsAttendedBy inside_now (book ++ entry ∷ []) → MayFollow base book entry → ((n : ℕ) → generation_after n entry ≡ n) → kept_after None entry ≡ None
    → ((entries : List BookEntry) → present_after entries entry ≡ entries ++ entry ∷ []) → ends_cleanly entry ≡ false → ends_checkpoint entry ≡ false
    → ((h : History) → history_after None h entry ≡ h) → ((n : ℕ) → tick_after n entry ≡ n) → ((fs : List (ℕ × ℕ)) → faults_after fs entry ≡ fs) → fault_here None entry ≡ None
    → HasRenewed base at book → HasRenewed base (with_child book_now inside_now at) (book ++ entry ∷ [])
renewed_quiet base at book_now inside_now book entry not attended may generation kept present_is unclean no_end history tick faults here is =
    renewed_push base at (with_child book_now inside_now at) book entry is.unread refl attended not may generation kept here
    (ap (list_any ends_checkpoint) (present_is (present book)) ∙ any_still ends_checkpoint (present book) entry at.skipped is.skipped no_end)
    (ap (list_any ends_cleanly) (present_is (present book)) ∙ any_still ends_cleanly (present book) entry false is.unclosed unclean)
    (history (history_of base book)) (omega (arith, tick (last_tick book), is.in_time)) (omega (arith, is.counted.later)) (subst (All (IsFaultBy at.faults)) (sym (faults (faults_of book))) is.counted.each) is

-- ---- who is inside

-- the child is attached, where the book tells
abbrev pub Attends : ℕ → Option (List BookEntry) → Type 0
Attends pid book = IfSome book (λ list. IsAttached list pid)

pub attends_in : (pid : ℕ) (book : Option (List BookEntry)) (list : List BookEntry) → book ≡ Some list → Attends pid book → IsAttached list pid
attends_in pid book list is attends = subst (Attends pid) is attends

pub no_fault_shown : (from faults : ℕ) (entry : BookEntry) → IsShown from faults entry → All (IsShown from faults) (entry ∷ [])
no_fault_shown from faults entry shown = All-push (IsShown from faults) [] entry (All-nil (IsShown from faults)) shown

-- a child more is inside
once_more : (who pid : ℕ) (inside : List ℕ) → cond (nat_eq who pid) (times_in who inside + 1) (times_in who inside) ≡ times_in who (inside ++ pid ∷ [])
once_more who pid inside = each (nat_eq who pid) (times_in who inside) ∙ sym (sum_by-append (once who) inside (pid ∷ []) ∙ ap (λ (n : ℕ). times_in who inside + n) (sum_by-cons (once who) pid []))
  where
    each : (b : Bool) (n : ℕ) → cond b (n + 1) n ≡ n + (cond b 1 0 + 0)
    each true n = refl
    each false n = omega arith

-- a child comes in
pub enters : PastStays → PresentIsWhole → (at : Moment) (book_now : Option (List BookEntry)) (pid : ℕ) → Added (Attached pid at.generation ∷ []) at.book book_now
    → Moves (Attached pid at.generation ∷ []) at (with_child book_now (at.inside ++ pid ∷ []) at)
enters past present_whole at book_now pid notes =
    still_in (entry ∷ []) at book_now (at.inside ++ pid ∷ []) notes (λ who. sym (once_more who pid at.inside)) (λ from counted. no_fault_shown from at.faults entry tt) refl refl
    (λ origin book told is. waited_quiet origin at book_now (at.inside ++ pid ∷ []) book entry tt (attended book is.attended) (λ base. record { begun = is.begun; present = sym is.generation })
    (λ n. refl) refl (λ es. refl) refl refl (λ h. refl) (λ n. refl) (λ fs. refl) refl (λ n. refl) (λ start mark. tt) is)
    (λ base live book told is. gone_quiet base at live book_now (at.inside ++ pid ∷ []) book entry (quiet live) (record { begun = is.begun; present = sym is.generation }) (attended book is.attended) is)
    (λ base book told is. renewed_quiet base at book_now (at.inside ++ pid ∷ []) book entry tt (attended book is.attended) (record { begun = omega (arith, is.later); present = sym is.generation })
    (λ n. refl) refl (λ es. refl) refl refl (λ h. refl) (λ n. refl) (λ fs. refl) refl is)
    (λ origin base book begun held. held_still past present_whole origin base at book_now (at.inside ++ pid ∷ []) book entry (alone (kept_by_redo book) (history_of base book)) (λ start mark. tt) (λ t. refl) held)
  where
    entry : BookEntry
    entry = Attached pid at.generation

    alone : (redone : Option ℕ) (h : History) → history_after redone h entry ≡ h
    alone None h = refl
    alone (Some first) h = refl

    attended : (book : List BookEntry) → IsAttendedBy at.inside book → IsAttendedBy (at.inside ++ pid ∷ []) (book ++ entry ∷ [])
    attended book is = attended_push at.inside (at.inside ++ pid ∷ []) book entry is (λ who. once_more who pid at.inside)

    quiet : (live : Live) → IsQuiet live.kept entry
    quiet live = record { not_gone = tt; generation = λ n. refl; redone = refl; present_is = λ es. refl; unclean = refl; history = λ h. refl; tick = λ n. refl; faults = λ fs. refl; here = λ fs. refl; need = λ n. refl; no_tick = λ start mark. tt; hidden = λ t. refl }

-- a child goes
pub leaves : PastStays → PresentIsWhole → (at : Moment) (book_now : Option (List BookEntry)) (inside_now : List ℕ) (pid : ℕ) → Attends pid at.book
    → ((who : ℕ) → times_in who inside_now ≡ cond (nat_eq who pid) (times_in who at.inside - 1) (times_in who at.inside))
    → Added (Detached pid ∷ []) at.book book_now → Moves (Detached pid ∷ []) at (with_child book_now inside_now at)
leaves past present_whole at book_now inside_now pid inside once_less notes =
    still_in (Detached pid ∷ []) at book_now inside_now notes once_less (λ from counted. no_fault_shown from at.faults (Detached pid) tt) refl refl
    (λ origin book told is. waited_quiet origin at book_now inside_now book (Detached pid) tt (attended book is.attended) (λ base. attends_in pid at.book book told inside)
    (λ n. refl) refl (λ es. refl) refl refl (λ h. refl) (λ n. refl) (λ fs. refl) refl (λ n. refl) (λ start mark. tt) is)
    (λ base live book told is. gone_quiet base at live book_now inside_now book (Detached pid) (quiet live) (attends_in pid at.book book told inside) (attended book is.attended) is)
    (λ base book told is. renewed_quiet base at book_now inside_now book (Detached pid) tt (attended book is.attended) (attends_in pid at.book book told inside)
    (λ n. refl) refl (λ es. refl) refl refl (λ h. refl) (λ n. refl) (λ fs. refl) refl is)
    (λ origin base book begun held. held_still past present_whole origin base at book_now inside_now book (Detached pid) (alone (kept_by_redo book) (history_of base book)) (λ start mark. tt) (λ t. refl) held)
  where
    alone : (redone : Option ℕ) (h : History) → history_after redone h (Detached pid) ≡ h
    alone None h = refl
    alone (Some first) h = refl

    attended : (book : List BookEntry) → IsAttendedBy at.inside book → IsAttendedBy inside_now (book ++ Detached pid ∷ [])
    attended book is = attended_push at.inside inside_now book (Detached pid) is (λ who. sym (once_less who))

    quiet : (live : Live) → IsQuiet live.kept (Detached pid)
    quiet live = record { not_gone = tt; generation = λ n. refl; redone = refl; present_is = λ es. refl; unclean = refl; history = λ h. refl; tick = λ n. refl; faults = λ fs. refl; here = λ fs. refl; need = λ n. refl; no_tick = λ start mark. tt; hidden = λ t. refl }

-- ---- what is kept, by the log's own mark and number

pub keeps_by : (origin : Origin) (base : Base) (at : Moment) (live : Live) (book : List BookEntry) → at.live ≡ Some live → (held : HasHeld origin base at book)
    → Keeps Means base book held.start live.mark at.ticks live.log.count at.images
keeps_by origin base at live book read held =
    subst (λ (n : ℕ). Keeps Means base book held.start live.mark at.ticks n at.images) (held.flushed_is live read)
    (subst (λ (m : ℕ). Keeps Means base book held.start m at.ticks held.flushed at.images) (held.mark_is live read) held.keeps)

pub lengths_by : (origin : Origin) (base : Base) (at : Moment) (live : Live) (book : List BookEntry) → at.live ≡ Some live → HasHeld origin base at book
    → (image : Files) → at.images at.ticks image → HoldsFrom (MeansWithin (most_bytes base book)) live.log.count (history_of base book) image
lengths_by origin base at live book read held image there =
    subst (λ (n : ℕ). HoldsFrom (MeansWithin (most_bytes base book)) n (history_of base book) image) (held.flushed_is live read) (held.lengths image there)

pub opening_on : (origin : Origin) (start before now : ℕ) (i k : ℕ → Files → Type 0) → origin.tick ≤ start → start ≤ before → GoesOn before now i k → IsOpening origin start i → IsOpening origin start k
opening_on origin start before now i k begun within time opening = λ t le ge image there.
    ∥∥₁_map (opening t le ge image ((time.past t (omega (arith, ge, within)) image).0 there)) (λ e. (e.0, (time.past origin.tick (omega (arith, begun, within)) e.0).1 e.1, e.2))

-- what a stop leaves goes on, with the log as it is now
pub held_on : (origin : Origin) (base : Base) (before now : Moment) (new : Live) (book book_now : List BookEntry) → now.live ≡ Some new → GoesOn before.ticks now.ticks before.images now.images
    → (held : HasHeld origin base before book) → Keeps Means base book_now held.start new.mark now.ticks new.log.count now.images
    → ((image : Files) → now.images now.ticks image → HoldsFrom (MeansWithin (most_bytes base book_now)) new.log.count (history_of base book_now) image)
    → IsAnchored now (history_of base book_now) → HasHeld origin base now book_now
held_on origin base before now new book book_now read time held keeps lengths anchored = record {
  start = held.start;
  begun = held.begun;
  opening = opening_on origin held.start before.ticks now.ticks before.images now.images held.begun (omega (arith, held.keeps.begun, held.keeps.marked)) time held.opening;
  mark = new.mark;
  mark_is = λ live is. ap (λ (l : Live). l.mark) (same_live now.live new live read is);
  flushed = new.log.count;
  flushed_is = λ live is. ap (λ (l : Live). l.log.count) (same_live now.live new live read is);
  keeps = keeps;
  lengths = lengths;
  anchored = anchored;
}

-- ---- entries without a commit

-- an answer up to what is flushed is released
pub releases : PastStays → PresentIsWhole → (at : Moment) (live : Live) (book_now : Option (List BookEntry)) (pid front : ℕ) → at.live ≡ Some live → front ≤ live.log.count → Attends pid at.book
    → IfSome at.book (λ list. Any (AnswersUpTo pid front) (present list)) → Added (Released pid front live.mark ∷ []) at.book book_now → Moves (Released pid front live.mark ∷ []) at (with_book book_now at)
releases past present_whole at live book_now pid front read flushed inside answered notes =
    let entry : BookEntry = Released pid front live.mark in
    still (entry ∷ []) at live book_now read notes (λ who n. refl) (λ from counted. no_fault_shown from at.faults entry tt) refl
    (λ base book told is.
    gone_push base (with_book book_now at) live book entry (acknowledged (history_of base book) front) is.read is.legal is.generation
    (record {
      not_gone = tt;
      begun = is.begun;
      attended = attended_still at.inside book entry (λ who n. refl) is.attended;
      base_fits = is.base_fits;
      may = record {
        attached = attends_in pid at.book book told inside;
        answered = subst (λ (b : Option (List BookEntry)). IfSome b (λ list. Any (AnswersUpTo pid front) (present list))) told answered;
        in_time = is.in_time;
      };
      generation = λ n. refl;
      redone = ap (λ (r : Option ℕ). kept_after r entry) is.redone;
      closed_is = any_still ends_cleanly (present book) entry live.closed is.closed refl;
      history_is = refl;
      in_time = omega (arith, is.in_time);
      marked = is.marked;
      based = is.based;
      acked = omega (arith, is.acked, flushed);
      behind = is.behind;
      each = is.counted.each;
    })
    (breaks_still live.log.since live.faults (faults_here book) entry (λ fs. refl) is.broken) is.known is.rows_are is.count_is is.base_is is.fits is.limit is.counted.later)
    (λ origin base book is held.
    held_on origin base at (with_book book_now at) live book (book ++ entry ∷ []) read (time_still at.ticks at.images) held
    (released past present_whole base book held.start live.mark at.ticks live.log.count at.images (keeps_by origin base at live book read held) pid front flushed)
    (λ image there. lengths_push base book entry (acknowledged (history_of base book) front) live.log.count image refl (lengths_by origin base at live book read held image there))
    (subst (IsAnchored (with_book book_now at)) (sym (history_push base book entry)) (anchored_push (with_book book_now at) (history_of base book) (acknowledged (history_of base book) front) (λ l r. refl) held.anchored)))

-- an answer that may follow
pub may_answer : (base : Base) (at : Moment) (live : Live) (book : List BookEntry) (pid : ℕ) (script : List Stmt) (reply : List Item) (commit : List Change) (front : ℕ)
    → HasGone base at live book → IsAttached book pid → reply ≡ items_of at.rows script → commit ≡ commit_of at.rows script → AnswersAt (history_of base book) script reply commit front
    → (live.closed ≡ true → commit ≡ []) → MayAnswer base book pid script reply commit front live.mark
may_answer base at live book pid script reply commit front is attached reply_is commit_is front_is unclosed = record {
  redone = ap is_some is.redone;
  attached = attached;
  reply_is = reply_is ∙ ap (λ (r : RowMap). items_of r script) is.rows_are;
  commit_is = commit_is ∙ ap (λ (r : RowMap). commit_of r script) is.rows_are;
  front_is = front_is;
  in_time = is.in_time;
  unclosed = λ closed. unclosed (sym is.closed ∙ closed);
}

-- the flushed number of a history is that of the history with a commit more
pub flushed_number : (origin : Origin) (base : Base) (at : Moment) (book : List BookEntry) (commit : List Change) → HasHeld origin base at book
    → (live : Live) → at.live ≡ Some live → number (history_of base book) (flushed_of live) ≡ number (with_commit (history_of base book) commit) (flushed_of live)
flushed_number origin base at book commit held live read =
    let h = history_of base book in
    sym (covers_number (with_commit h commit) h (covers_commit h commit) live.log.count (keeps_by origin base at live book read held).whole)

-- a script without changes is answered
pub reads : PastStays → PresentIsWhole → (at : Moment) (live : Live) (book_now : Option (List BookEntry)) (pid : ℕ) (script : List Stmt) (reply : List Item) (commit : List Change) (front : ℕ)
    → at.live ≡ Some live → Attends pid at.book → reply ≡ items_of at.rows script → commit ≡ commit_of at.rows script → commit ≡ []
    → ((base : Base) (book : List BookEntry) → HasGone base at live book → AnswersAt (history_of base book) script reply [] front)
    → Added (Answered pid script reply commit front live.mark ∷ []) at.book book_now → Moves (Answered pid script reply commit front live.mark ∷ []) at (with_book book_now at)
reads past present_whole at live book_now pid script reply commit front read inside reply_is commit_is nothing answers notes =
    let entry : BookEntry = Answered pid script reply commit front live.mark in
    let bare : BookEntry = Answered pid script reply [] front live.mark in
    still (entry ∷ []) at live book_now read notes (λ who n. refl) (λ from counted. no_fault_shown from at.faults entry tt) refl
    (λ base book told is.
    let done : HasGone base (with_book book_now at) live (book ++ bare ∷ []) =
    gone_push base (with_book book_now at) live book bare (history_of base book) is.read is.legal is.generation
    (record {
      not_gone = tt;
      begun = is.begun;
      attended = attended_still at.inside book bare (λ who n. refl) is.attended;
      base_fits = is.base_fits;
      may = may_answer base at live book pid script reply [] front is (attends_in pid at.book book told inside) reply_is (sym nothing ∙ commit_is) (answers base book is) (λ closed. refl);
      generation = λ n. refl;
      redone = ap (λ (r : Option ℕ). kept_after r bare) is.redone;
      closed_is = any_still ends_cleanly (present book) bare live.closed is.closed refl;
      history_is = refl;
      in_time = omega (arith, is.in_time);
      marked = is.marked;
      based = is.based;
      acked = is.acked;
      behind = is.behind;
      each = is.counted.each;
    })
    (breaks_still live.log.since live.faults (faults_here book) bare (λ fs. refl) is.broken) is.known is.rows_are is.count_is is.base_is
    (λ open_log. omega (arith, is.fits open_log)) is.limit is.counted.later in
    subst (λ (k : List Change). HasGone base (with_book book_now at) live (book ++ Answered pid script reply k front live.mark ∷ [])) (sym nothing) done)
    (λ origin base book is held.
    let h = history_of base book in
    held_on origin base at (with_book book_now at) live book (book ++ entry ∷ []) read (time_still at.ticks at.images) held
    (answered past present_whole base book held.start live.mark at.ticks live.log.count at.images (keeps_by origin base at live book read held) pid front script reply commit)
    (λ image there. lengths_push base book entry (with_commit h commit) live.log.count image refl
    (holds_in (MeansWithin (most_bytes base book)) (with_commit h commit) h live.log.count live.log.count image (covers_commit h commit) (omega arith) (lengths_by origin base at live book read held image there)))
    (subst (IsAnchored (with_book book_now at)) (sym (history_push base book entry))
    (anchored_push (with_book book_now at) h (with_commit h commit) (flushed_number origin base at book commit held) held.anchored)))

-- a fault that broke the log is told again
may_repeat : (since count : ℕ) (base : Base) (book : List BookEntry) (here : Option (List (ℕ × ℕ))) → TellsBreak (Some since) count here → TellsFault base book here since count
may_repeat since count base book here (first, rest, is, there) = subst (λ (h : Option (List (ℕ × ℕ))). TellsFault base book h since count) (sym is) there

breaks_again : (since count : ℕ) (here : Option (List (ℕ × ℕ))) (pid : ℕ) → TellsBreak (Some since) count here → TellsBreak (Some since) count (fault_here here (Broke pid since count))
breaks_again since count here pid (first, rest, is, there) =
    (first, rest ++ (since, count) ∷ [], ap (λ (h : Option (List (ℕ × ℕ))). fault_here h (Broke pid since count)) is, Contains-append_left (first ∷ rest) ((since, count) ∷ []) (since, count) there)

shown_of : (from faults : ℕ) (o : Option Live) (live : Live) (since : ℕ) → o ≡ Some live → live.log.since ≡ Some since → BreakIsShown from faults o → Rose from faults
shown_of from faults o live since read broken shown =
    let at_live : BreakIsShown from faults (Some live) = subst (BreakIsShown from faults) read shown in
    subst (IsShownAt from faults) broken at_live

-- ---- an append

-- the commits before it, or these with the commit, in at most so many bytes
abbrev pub OneOf : ℕ → Standing → List Change → Files → Type 0
OneOf most one commit image = ∥ MeansWithin most image one ⊎ MeansWithin most image (after one (commit ∷ [])) ∥₁

-- a number of the history with the commit
holds_one : (h : History) (change : Change) (changes : List Change) (most : ℕ) (one : Standing) (flushed : ℕ) (image : Files) → one ≡ standing (rows_of h) (count_of h) → flushed ≡ count_of h
    → OneOf most one (change ∷ changes) image → HoldsFrom (MeansWithin most) flushed (with_commit h (change ∷ changes)) image
holds_one h change changes most one flushed image is counted either = ∥∥₁_map either (λ m. each m)
  where
    commit : List Change
    commit = change ∷ changes

    same : one ≡ number (with_commit h (change ∷ changes)) (count_of h)
    same = is ∙ sym (whole_number h) ∙ sym (covers_number (with_commit h (change ∷ changes)) h (covers_commit h (change ∷ changes)) (count_of h) (omega arith))

    next : after one ((change ∷ changes) ∷ []) ≡ number (with_commit h (change ∷ changes)) (count_of h + 1)
    next = ap (λ (s : Standing). after s ((change ∷ changes) ∷ [])) (is ∙ sym (whole_number h)) ∙ next_commit h change changes

    each : MeansWithin most image one ⊎ MeansWithin most image (after one ((change ∷ changes) ∷ []))
        → (n : ℕ) × (flushed ≤ n) × (n ≤ count_of (with_commit h (change ∷ changes))) × MeansWithin most image (number (with_commit h (change ∷ changes)) n)
    each (inl m) = (count_of h, omega (arith, counted), omega (arith, count-with_commit h change changes), subst (λ (s : Standing). MeansWithin most image s) same m)
    each (inr m) = (count_of h + 1, omega (arith, counted), omega (arith, count-with_commit h change changes), subst (λ (s : Standing). MeansWithin most image s) next m)

holds_next : (h : History) (change : Change) (changes : List Change) (most : ℕ) (one : Standing) (flushed : ℕ) (image : Files) → one ≡ standing (rows_of h) (count_of h) → flushed ≡ count_of h + 1
    → ∥ MeansWithin most image (after one ((change ∷ changes) ∷ [])) ∥₁ → HoldsFrom (MeansWithin most) flushed (with_commit h (change ∷ changes)) image
holds_next h change changes most one flushed image is counted means =
    ∥∥₁_map means (λ m. (
      count_of h + 1,
      omega (arith, counted),
      omega (arith, count-with_commit h change changes),
      subst (λ (s : Standing). MeansWithin most image s) (ap (λ (s : Standing). after s ((change ∷ changes) ∷ [])) (is ∙ sym (whole_number h)) ∙ next_commit h change changes) m,
    ))

-- in however many bytes
pub means_some : (most : ℕ) (h : History) (least : ℕ) (image : Files) → HoldsFrom (MeansWithin most) least h image → HoldsFrom Means least h image
means_some most h least image holds = holds_so (MeansWithin most) Means h least image (λ s m. (m.0, m.2)) holds

-- in at most as many as this
pub means_more : (most more : ℕ) (h : History) (least : ℕ) (image : Files) → most ≤ more → HoldsFrom (MeansWithin most) least h image → HoldsFrom (MeansWithin more) least h image
means_more most more h least image le holds = holds_so (MeansWithin most) (MeansWithin more) h least image (λ s m. (m.0, omega (arith, m.1, le), m.2)) holds

-- how long the log is with a commit after it
abbrev pub with_need : Live → List Change → ℕ
with_need live commit = live.log.end + 1 + log.need_of (commit ∷ [])

-- what was taken or flushed is so still, where no fewer commits were
pub up_to_more : (count : Live → ℕ) (o o_now : Option Live) (live new : Live) → o ≡ Some live → o_now ≡ Some new → count live ≤ count new → (front : Option ℕ) → IsUpTo count front o → IsUpTo count front o_now
up_to_more count o o_now live new read read_now le None is = tt
up_to_more count o o_now live new read read_now le (Some front) is =
    let was : front ≤ count live = subst (IsUpTo count (Some front)) read is in
    subst (IsUpTo count (Some front)) (sym read_now) (omega (arith, was, le))

-- nothing was where the log wasn't read
pub up_to_unread : (count : Live → ℕ) (o o_now : Option Live) → o ≡ None → (front : Option ℕ) → IsUpTo count front o → IsUpTo count front o_now
up_to_unread count o o_now unread None is = tt
up_to_unread count o o_now unread (Some front) is = absurd (subst (IsUpTo count (Some front)) unread is)

-- the log that was read goes on in the generation
pub began_on : (o o_now : Option Live) (live new : Live) → o ≡ Some live → o_now ≡ Some new → new.epoch ≡ live.epoch → (first : ℕ) → BeganIn first o → BeganIn first o_now
began_on o o_now live new read read_now same first is = subst (BeganIn first) (sym read_now) (same ∙ subst (BeganIn first) read is)

-- and comes so many epochs further, unless it breaks
pub ahead_more : (o o_now : Option Live) (live new : Live) (more : ℕ) → o ≡ Some live → o_now ≡ Some new → new.epoch ≡ live.epoch
    → (new.log.since ≡ None → (live.log.since ≡ None) × (new.log.epoch ≡ live.log.epoch + more)) → (many : ℕ) → IsAheadBy many o → IsAheadBy (many + more) o_now
ahead_more o o_now live new more read read_now same step many is =
    let was : IsAheadBy many (Some live) = subst (IsAheadBy many) read is in
    subst (IsAheadBy (many + more)) (sym read_now) (λ whole. let made = step whole in omega (arith, was made.0, made.1, same))

-- one that wasn't read is still unread, or found in its first epoch
pub began_unread : (o o_now : Option Live) → o ≡ None → (first : ℕ) → BeganIn first o → BeganIn first o_now
began_unread o o_now unread first is = absurd (subst (BeganIn first) unread is)

pub ahead_unread : (entries : List BookEntry) (o o_now : Option Live) → o ≡ None → o_now ≡ None → epochs_in entries ≡ 0 → (many : ℕ) → IsAheadBy many o → IsAheadBy (many + epochs_in entries) o_now
ahead_unread entries o o_now unread unread_now none many is = ahead_still entries many o_now none (subst (IsAheadBy many) (unread ∙ sym unread_now) is)

pub ahead_found : (entries : List BookEntry) (o o_now : Option Live) (new : Live) → o ≡ None → o_now ≡ Some new → new.log.epoch ≡ new.epoch → epochs_in entries ≡ 0 → (many : ℕ) → IsAheadBy many o → IsAheadBy (many + epochs_in entries) o_now
ahead_found entries o o_now new unread read_now found none many is =
    let first : many ≡ 0 = subst (IsAheadBy many) unread is in
    subst (IsAheadBy (many + epochs_in entries)) (sym read_now) (λ whole. omega (arith, first, none, found))

-- all that an append at once says, for the history: nothing is staged
pub record Appends (before now : Moment) (live new : Live) (commit : List Change) : Type 0 where
  pub generation : now.generation ≡ before.generation
  pub commits : now.commits ≡ before.commits
  pub inside : now.inside ≡ before.inside
  pub read : before.live ≡ Some live
  pub unbroken : live.log.since ≡ None
  pub unclosed : live.closed ≡ false
  pub unstaged_now : now.staged ≡ []
  pub front : live.front ≡ live.log.count
  pub needs : new.needs ≡ live.needs
  pub read_now : now.live ≡ Some new
  pub kept : new.kept ≡ live.kept
  pub closed : new.closed ≡ live.closed
  pub limit : new.log.limit ≡ live.log.limit
  pub epoch : new.log.epoch ≡ live.log.epoch
  pub first : new.epoch ≡ live.epoch
  pub rows : now.rows ≡ committed before.rows commit
  pub time : GoesOn before.ticks now.ticks before.images now.images
  pub later : before.faults ≤ now.faults
  pub tells : before.files ≡ None → now.files ≡ None
  pub through : IfSome before.files (λ files. Throughout before.ticks now.ticks now.images (OneOf (with_need live commit) (standing before.rows live.log.count) commit))

-- all commits are flushed
counted_by : (base : Base) (at : Moment) (live : Live) (book : List BookEntry) → live.log.since ≡ None → live.front ≡ live.log.count → HasGone base at live book → live.log.count ≡ count_of (history_of base book)
counted_by base at live book unbroken front is = sym front ∙ is.count_is unbroken

-- inside it a stop leaves numbers of the history with the answer
appended_stops : (base : Base) (before now : Moment) (live : Live) (book : List BookEntry) (pid front : ℕ) (script : List Stmt) (reply : List Item) (change : Change) (changes : List Change)
    → live.log.count ≡ count_of (history_of base book) → before.rows ≡ rows_of (history_of base book)
    → Throughout before.ticks now.ticks now.images (OneOf (with_need live (change ∷ changes)) (standing before.rows live.log.count) (change ∷ changes))
    → Throughout before.ticks now.ticks now.images (HoldsFrom Means live.log.count (history_of base (book ++ Answered pid script reply (change ∷ changes) front live.mark ∷ [])))
appended_stops base before now live book pid front script reply change changes counted rows through = λ t after_it upto image there.
    let commit = change ∷ changes in
    let most = with_need live commit in
    let h = history_of base book in
    let one : standing before.rows live.log.count ≡ standing (rows_of h) (count_of h) = same_standing _ _ _ _ rows counted in
    subst (λ (x : History). HoldsFrom Means live.log.count x image) (sym (history_push base book (Answered pid script reply commit front live.mark)))
    (means_some most (with_commit h commit) live.log.count image (holds_one h change changes most (standing before.rows live.log.count) live.log.count image one counted (through t after_it upto image there)))

-- how long an image is, after an append and the answer
appended_lengths : (base : Base) (before now : Moment) (live : Live) (book : List BookEntry) (pid front : ℕ) (script : List Stmt) (reply : List Item) (change : Change) (changes : List Change) (least : ℕ)
    → live.log.since ≡ None → ((image : Files) → now.images now.ticks image → HoldsFrom (MeansWithin (with_need live (change ∷ changes))) least (with_commit (history_of base book) (change ∷ changes)) image)
    → HasGone base before live book → (image : Files) → now.images now.ticks image
    → HoldsFrom (MeansWithin (most_bytes base (book ++ Answered pid script reply (change ∷ changes) front live.mark ∷ []))) least (history_of base (book ++ Answered pid script reply (change ∷ changes) front live.mark ∷ [])) image
appended_lengths base before now live book pid front script reply change changes least unbroken holds is image there =
    let commit = change ∷ changes in
    let entry : BookEntry = Answered pid script reply commit front live.mark in
    let grown : history_of base (book ++ entry ∷ []) ≡ with_commit (history_of base book) commit = history_push base book entry in
    subst (λ (x : History). HoldsFrom (MeansWithin (most_bytes base (book ++ entry ∷ []))) least x image) (sym grown)
    (means_more (with_need live commit) (most_bytes base (book ++ entry ∷ [])) (with_commit (history_of base book) commit) least image (omega (arith, is.fits unbroken, needs_push book entry)) (holds image there))

-- no commit is after the last one
pub drop_none : (h : History) (first n : ℕ) → h.base.count ≡ first → n ≡ count_of h → drop (n - first) h.commits ≡ []
drop_none h first n same is = drop_all (n - first) h.commits (omega (arith, same, is))

pub none_told : (since : Option ℕ) (count : ℕ) (here : Option (List (ℕ × ℕ))) → since ≡ None → TellsBreak since count here → here ≡ Some []
none_told since count here unbroken tells = subst (λ (s : Option ℕ). TellsBreak s count here) unbroken tells

pub tells_none : (since : Option ℕ) (count : ℕ) (here : Option (List (ℕ × ℕ))) → since ≡ None → here ≡ Some [] → TellsBreak since count here
tells_none since count here unbroken none = subst (λ (s : Option ℕ). TellsBreak s count here) (sym unbroken) none

-- the count after a call of the disk, where the log now says this
pub counted_now : (from before now since_count : ℕ) (o o_now : Option Live) (new : Live) → before ≤ now → o_now ≡ Some new → IsShownAt from now new.log.since → IsCountedFrom from before o → IsCountedFrom from now o_now
counted_now from before now since_count o o_now new le read shown counted = record {
  later = omega (arith, counted.later, le);
  shown = subst (BreakIsShown from now) (sym read) shown;
}

-- a commit is durable, and answered
pub commits : PastStays → PresentIsWhole → (before now : Moment) (live new : Live) (pid : ℕ) (script : List Stmt) (reply : List Item) (commit : List Change) → commit ≢ []
    → Appends before now live new commit → new.log.since ≡ None → new.log.count ≡ live.log.count + 1 → new.front ≡ new.log.count → new.mark ≡ now.ticks → new.log.end ≡ live.log.end + log.need_of (commit ∷ [])
    → IfSome before.files (λ files. (image : Files) → now.images now.ticks image → ∥ MeansWithin (with_need live commit) image (after (standing before.rows live.log.count) (commit ∷ [])) ∥₁)
    → ∥ Rests now.live now.rows now.staged now.files (now.images now.ticks) ∥₁
    → Attends pid before.book → reply ≡ items_of before.rows script → commit ≡ commit_of before.rows script
    → Added (Answered pid script reply commit new.log.count live.mark ∷ []) before.book now.book
    → Moves (Answered pid script reply commit new.log.count live.mark ∷ []) before now
commits past present_whole before now live new pid script reply [] some appends whole count front mark end durable rests inside reply_is commit_is notes = absurd (some refl)
commits past present_whole before now live new pid script reply (change ∷ changes) some appends whole count front mark end durable rests inside reply_is commit_is notes = record {
  spans = record {
    notes = notes;
    time = appends.time;
    later = appends.later;
    counts = λ from counted. record {
      counted = counted_now from before.faults now.faults 0 before.live now.live new appends.later appends.read_now (subst (IsShownAt from now.faults) (sym whole) tt) counted;
      each = no_fault_shown from now.faults entry tt;
    };
    waits = never_waits (entry ∷ []) before now live appends.read notes appends.tells;
    goes_on = λ origin base told. gone_read (entry ∷ []) before now live origin base appends.read appends.generation notes appends.tells
        (λ book is gone. (new, goes base book is gone)) (λ book seen tells gone held. holds origin base book seen tells gone held) told;
  };
  generation = appends.generation;
  commits = appends.commits;
  attends = nobody_moves (entry ∷ []) before now appends.inside (λ who n. refl);
  unread = unread_never (entry ∷ []) before now live new appends.read appends.read_now;
  staged = up_to_more whole_of before.live now.live live new appends.read appends.read_now (omega (arith, appends.front, front, count));
  flushed = up_to_more flushed_of before.live now.live live new appends.read appends.read_now (omega (arith, count));
  began = began_on before.live now.live live new appends.read appends.read_now appends.first;
  ahead = ahead_more before.live now.live live new 0 appends.read appends.read_now appends.first (λ whole. (appends.unbroken, omega (arith, appends.epoch)));
}
  where
    entry : BookEntry
    entry = Answered pid script reply (change ∷ changes) new.log.count live.mark

    last : (base : Base) (book : List BookEntry) → HasGone base before live book → new.log.count ≡ count_of (with_commit (history_of base book) (change ∷ changes))
    last base book is = omega (arith, count, counted_by base before live book appends.unbroken appends.front is, count-with_commit (history_of base book) change changes)

    rows_then : (base : Base) (book : List BookEntry) → HasGone base before live book → now.rows ≡ rows_of (with_commit (history_of base book) (change ∷ changes))
    rows_then base book is = appends.rows ∙ ap (λ (r : RowMap). committed r (change ∷ changes)) is.rows_are ∙ sym (rows_of-with_commit (history_of base book) (change ∷ changes))

    goes : (base : Base) (book : List BookEntry) → before.book ≡ Some book → HasGone base before live book → HasGone base now new (book ++ entry ∷ [])
    goes base book told is =
        let h = history_of base book in
        let commit = change ∷ changes in
        let all = last base book is in
        gone_push base now new book entry (with_commit h commit) appends.read_now is.legal (is.generation ∙ sym appends.generation)
        (record {
          not_gone = tt;
          begun = subst (λ (n : ℕ). 1 ≤ n) (sym appends.generation) is.begun;
          attended = subst (λ (l : List ℕ). IsAttendedBy l (book ++ entry ∷ [])) (sym appends.inside) (attended_still before.inside book entry (λ who n. refl) is.attended);
          base_fits = is.base_fits;
          may = may_answer base before live book pid script reply commit new.log.count is (attends_in pid before.book book told inside) reply_is commit_is (inl all) (λ closed. absurd (true≢false (sym closed ∙ appends.unclosed)));
          generation = λ n. refl;
          redone = ap (λ (r : Option ℕ). kept_after r entry) is.redone ∙ ap (λ (n : ℕ). Some n) (sym appends.kept);
          closed_is = any_still ends_cleanly (present book) entry live.closed is.closed refl ∙ sym appends.closed;
          history_is = refl;
          in_time = omega (arith, is.in_time, is.marked, appends.time.later, mark);
          marked = omega (arith, mark);
          based = omega (arith, is.based, count);
          acked = omega (arith, is.acked, count);
          behind = λ open_log. drop_none (with_commit h commit) base.count new.log.count (ap (λ (s : Standing). s.count) (base-with_commit h commit ∙ is.base_is)) all ∙ sym appends.unstaged_now;
          each = each_later before.faults now.faults (faults_of book) appends.later is.counted.each;
        })
        (tells_none new.log.since new.faults (fault_here (faults_here book) entry) whole (ap (λ (f : Option (List (ℕ × ℕ))). fault_here f entry) (none_told live.log.since live.faults (faults_here book) appends.unbroken is.broken)))
        (λ since broke. absurd (some_none since (sym broke ∙ whole)))
        (rows_then base book is)
        (λ open_log. front ∙ all) (base-with_commit h commit ∙ is.base_is)
        (λ open_log. omega (arith, end, appends.needs, is.fits appends.unbroken)) (appends.limit ∙ is.limit) (omega (arith, is.counted.later, appends.later))

    holds : (origin : Origin) (base : Base) (book : List BookEntry) (seen : Files) → before.files ≡ Some seen → HasGone base before live book → HasHeld origin base before book → HasHeld origin base now (book ++ entry ∷ [])
    holds origin base book seen tells is held =
        let h = history_of base book in
        let commit = change ∷ changes in
        let most = with_need live commit in
        let counted = counted_by base before live book appends.unbroken appends.front is in
        let through = subst (λ (f : Option Files). IfSome f (λ files. Throughout before.ticks now.ticks now.images (OneOf most (standing before.rows live.log.count) commit))) tells appends.through in
        let behind = subst (λ (f : Option Files). IfSome f (λ files. (image : Files) → now.images now.ticks image → ∥ MeansWithin most image (after (standing before.rows live.log.count) (commit ∷ [])) ∥₁)) tells durable in
        let one : standing before.rows live.log.count ≡ standing (rows_of h) (count_of h) = same_standing _ _ _ _ is.rows_are counted in
        let grown : history_of base (book ++ entry ∷ []) ≡ with_commit h commit = history_push base book entry in
        let next : (image : Files) → now.images now.ticks image → HoldsFrom (MeansWithin most) new.log.count (with_commit h commit) image =
        λ image there. holds_next h change changes most (standing before.rows live.log.count) new.log.count image one (omega (arith, counted, count)) (behind image there) in
        let run : Keeps Means base (book ++ entry ∷ []) held.start now.ticks now.ticks new.log.count now.images =
        goes_by past present_whole base (book ++ entry ∷ []) held.start live.mark before.ticks live.log.count now.ticks new.log.count before.images now.images
        (answered past present_whole base book held.start live.mark before.ticks live.log.count before.images (keeps_by origin base before live book appends.read held) pid new.log.count script reply commit) appends.time
        (appended_stops base before now live book pid new.log.count script reply change changes counted is.rows_are through)
        (omega (arith, count)) (subst (λ (x : History). new.log.count ≤ count_of x) (sym grown) (omega (arith, last base book is)))
        (λ image there. subst (λ (x : History). HoldsFrom Means new.log.count x image) (sym grown) (means_some most (with_commit h commit) new.log.count image (next image there))) in
        held_on origin base before now new book (book ++ entry ∷ []) appends.read_now appends.time held
        (subst (λ (m : ℕ). Keeps Means base (book ++ entry ∷ []) held.start m now.ticks new.log.count now.images) (sym mark) run)
        (appended_lengths base before now live book pid new.log.count script reply change changes new.log.count appends.unbroken next is)
        (subst (IsAnchored now) (sym grown) (anchored_whole now (with_commit h commit) new appends.read_now appends.unstaged_now (rows_then base book is) (last base book is) rests))

-- the disk failed at a commit, which may stand or not
pub loses : PastStays → PresentIsWhole → (before now : Moment) (live new : Live) (pid since : ℕ) (script : List Stmt) (reply : List Item) (commit : List Change) → commit ≢ []
    → Appends before now live new commit → new.log.since ≡ Some since → new.log.count ≡ live.log.count → new.front ≡ live.front → new.mark ≡ live.mark → new.faults ≡ now.faults → Rose before.faults now.faults → now.faults < 2 ^ 64
    → Attends pid before.book → reply ≡ items_of before.rows script → commit ≡ commit_of before.rows script
    → Added (Answered pid script reply commit (live.front + 1) live.mark ∷ Broke pid since now.faults ∷ []) before.book now.book
    → Moves (Answered pid script reply commit (live.front + 1) live.mark ∷ Broke pid since now.faults ∷ []) before now
loses past present_whole before now live new pid since script reply [] some appends broke count front mark fault rose small inside reply_is commit_is notes = absurd (some refl)
loses past present_whole before now live new pid since script reply (change ∷ changes) some appends broke count front mark fault rose small inside reply_is commit_is notes = record {
  spans = record {
    notes = notes;
    time = appends.time;
    later = appends.later;
    counts = λ from counted.
        let risen : Rose from now.faults = omega (arith, counted.later, rose) in record {
          counted = counted_now from before.faults now.faults 0 before.live now.live new appends.later appends.read_now (subst (IsShownAt from now.faults) (sym broke) risen) counted;
          each = All-push (IsShown from now.faults) (first ∷ []) second (no_fault_shown from now.faults first tt) risen;
        };
    waits = never_waits (first ∷ second ∷ []) before now live appends.read notes appends.tells;
    goes_on = λ origin base told. gone_read (first ∷ second ∷ []) before now live origin base appends.read appends.generation notes appends.tells
        (λ book is gone. (new, subst (HasGone base now new) (append_assoc book (first ∷ []) (second ∷ [])) (goes base book is gone)))
        (λ book seen tells gone held. subst (HasHeld origin base now) (append_assoc book (first ∷ []) (second ∷ [])) (holds origin base book seen tells gone held)) told;
  };
  generation = appends.generation;
  commits = appends.commits;
  attends = nobody_moves (first ∷ second ∷ []) before now appends.inside (λ who n. refl);
  unread = unread_never (first ∷ second ∷ []) before now live new appends.read appends.read_now;
  staged = up_to_more whole_of before.live now.live live new appends.read appends.read_now (omega (arith, front));
  flushed = up_to_more flushed_of before.live now.live live new appends.read appends.read_now (omega (arith, count));
  began = began_on before.live now.live live new appends.read appends.read_now appends.first;
  ahead = ahead_more before.live now.live live new 0 appends.read appends.read_now appends.first (λ whole. (appends.unbroken, omega (arith, appends.epoch)));
}
  where
    first : BookEntry
    first = Answered pid script reply (change ∷ changes) (live.front + 1) live.mark

    second : BookEntry
    second = Broke pid since now.faults

    redone_answered : (base : Base) (book : List BookEntry) → HasGone base before live book → kept_by_redo (book ++ first ∷ []) ≡ Some live.kept
    redone_answered base book is = redone_push book first ∙ ap (λ (r : Option ℕ). kept_after r first) is.redone

    goes : (base : Base) (book : List BookEntry) → before.book ≡ Some book → HasGone base before live book → HasGone base now new ((book ++ first ∷ []) ++ second ∷ [])
    goes base book told is =
        let h = history_of base book in
        let commit = change ∷ changes in
        let answered = book ++ first ∷ [] in
        let front_is : live.front + 1 ≡ count_of (with_commit h commit) = omega (arith, is.count_is appends.unbroken, count-with_commit h change changes) in
        let may = may_answer base before live book pid script reply commit (live.front + 1) is (attends_in pid before.book book told inside) reply_is commit_is (inl front_is) (λ closed. absurd (true≢false (sym closed ∙ appends.unclosed))) in
        let grown : history_of base answered ≡ with_commit h commit = history_push base book first in
        let redone : kept_by_redo answered ≡ Some live.kept = redone_answered base book is in
        let here : faults_here answered ≡ Some [] = here_push book first ∙ ap (λ (f : Option (List (ℕ × ℕ))). fault_here f first) (none_told live.log.since live.faults (faults_here book) appends.unbroken is.broken) in
        let faults : faults_of answered ≡ faults_of book = faults_push book first in
        let tells_it = tells_new base.faults before.faults now.faults (faults_of book) is.counted.later is.counted.each rose appends.later small in
        let told_new : TellsFault base answered (faults_here answered) since now.faults =
        subst (λ (f : Option (List (ℕ × ℕ))). TellsFault base answered f since now.faults) (sym here)
        (subst (λ (fs : List (ℕ × ℕ)). ((base.faults < now.faults) × All (λ (fault : ℕ × ℕ). fault.1 < now.faults) fs) ⊎ (now.faults ≡ 2 ^ 64 - 1)) (sym faults) tells_it) in
        gone_push base now new answered second (with_commit h commit) appends.read_now (legal_push base book first tt is.legal may) (generation_push book first ∙ is.generation ∙ sym appends.generation)
        (record {
          not_gone = tt;
          begun = subst (λ (n : ℕ). 1 ≤ n) (sym appends.generation) is.begun;
          attended = subst (λ (l : List ℕ). IsAttendedBy l (answered ++ second ∷ [])) (sym appends.inside)
              (attended_still before.inside answered second (λ who n. refl) (attended_still before.inside book first (λ who n. refl) is.attended));
          base_fits = is.base_fits;
          may = record { attached = subst (λ (n : ℕ). 1 ≤ n) (sym (times_push book first pid)) (attends_in pid before.book book told inside); fault = told_new };
          generation = λ n. refl;
          redone = ap (λ (r : Option ℕ). kept_after r second) redone ∙ ap (λ (n : ℕ). Some n) (sym appends.kept);
          closed_is = any_still ends_cleanly (present answered) second live.closed (closed_push book first ∙ any_still ends_cleanly (present book) first live.closed is.closed refl) refl ∙ sym appends.closed;
          history_is = ap (λ (r : Option ℕ). history_after r (history_of base answered) second) redone ∙ grown;
          in_time = subst (λ (n : ℕ). n ≤ new.mark) (sym (tick_push book first)) (omega (arith, is.in_time, mark));
          marked = omega (arith, is.marked, appends.time.later, mark);
          based = omega (arith, is.based, count);
          acked = omega (arith, is.acked, count);
          behind = λ open_log. absurd (some_none since (sym broke ∙ open_log));
          each = subst (λ (fs : List (ℕ × ℕ)). All (IsFaultBy now.faults) (fs ++ (since, now.faults) ∷ [])) (sym faults) (each_push before.faults now.faults since (faults_of book) appends.later is.counted.each);
        })
        (subst (λ (s : Option ℕ). TellsBreak s new.faults (fault_here (faults_here answered) second)) (sym broke)
        ((since, now.faults), [], ap (λ (f : Option (List (ℕ × ℕ))). fault_here f second) here, (0, omega arith, ap (λ (n : ℕ). (since, n)) (sym fault))))
        (λ tick broken. omega (arith, fault))
        (appends.rows ∙ ap (λ (r : RowMap). committed r commit) is.rows_are ∙ sym (rows_of-with_commit h commit))
        (λ open_log. absurd (some_none since (sym broke ∙ open_log))) (base-with_commit h commit ∙ is.base_is)
        (λ open_log. absurd (some_none since (sym broke ∙ open_log))) (appends.limit ∙ is.limit) (omega (arith, is.counted.later, appends.later))

    holds : (origin : Origin) (base : Base) (book : List BookEntry) (seen : Files) → before.files ≡ Some seen → HasGone base before live book → HasHeld origin base before book
        → HasHeld origin base now ((book ++ first ∷ []) ++ second ∷ [])
    holds origin base book seen tells is held =
        let h = history_of base book in
        let commit = change ∷ changes in
        let most = with_need live commit in
        let both = book ++ first ∷ [] in
        let counted = counted_by base before live book appends.unbroken appends.front is in
        let through = subst (λ (f : Option Files). IfSome f (λ files. Throughout before.ticks now.ticks now.images (OneOf most (standing before.rows live.log.count) commit))) tells appends.through in
        let one : standing before.rows live.log.count ≡ standing (rows_of h) (count_of h) = same_standing _ _ _ _ is.rows_are counted in
        let either : (image : Files) → now.images now.ticks image → HoldsFrom (MeansWithin most) live.log.count (with_commit h commit) image =
        λ image there. holds_one h change changes most (standing before.rows live.log.count) live.log.count image one counted (through now.ticks appends.time.later (omega arith) image there) in
        let run = later past present_whole base both held.start live.mark before.ticks live.log.count before.images
        (answered past present_whole base book held.start live.mark before.ticks live.log.count before.images (keeps_by origin base before live book appends.read held) pid (live.front + 1) script reply commit) now.ticks now.images appends.time
        (appended_stops base before now live book pid (live.front + 1) script reply change changes counted is.rows_are through) in
        let alone : history_after (kept_by_redo both) (history_of base both) second ≡ history_of base both = ap (λ (r : Option ℕ). history_after r (history_of base both) second) (redone_answered base book is) in
        held_on origin base before now new book (both ++ second ∷ []) appends.read_now appends.time held
        (subst (λ (m : ℕ). Keeps Means base (both ++ second ∷ []) held.start m now.ticks new.log.count now.images) (sym mark)
        (subst (λ (n : ℕ). Keeps Means base (both ++ second ∷ []) held.start live.mark now.ticks n now.images) (sym count)
        (another past present_whole base both held.start live.mark now.ticks live.log.count now.images run second alone tt (λ t. refl))))
        (λ image there. lengths_push base both second (history_of base both) new.log.count image alone
        (subst (λ (n : ℕ). HoldsFrom (MeansWithin (most_bytes base both)) n (history_of base both) image) (sym count)
        (appended_lengths base before now live book pid (live.front + 1) script reply change changes live.log.count appends.unbroken either is image there)))
        (anchored_broken now (history_of base (both ++ second ∷ [])) new since appends.read_now broke)

-- a child finds the log broken
pub finds_broken : PastStays → PresentIsWhole → (at : Moment) (live : Live) (book_now : Option (List BookEntry)) (pid since : ℕ) → at.live ≡ Some live → live.log.since ≡ Some since → Attends pid at.book
    → Added (Broke pid since live.faults ∷ []) at.book book_now → Moves (Broke pid since live.faults ∷ []) at (with_book book_now at)
finds_broken past present_whole at live book_now pid since read broke inside notes =
    let entry : BookEntry = Broke pid since live.faults in
    still (entry ∷ []) at live book_now read notes (λ who n. refl) (λ from counted. no_fault_shown from at.faults entry (shown_of from at.faults at.live live since read broke counted.shown)) refl
    (λ base book told is.
    let tells : TellsBreak (Some since) live.faults (faults_here book) = subst (λ (s : Option ℕ). TellsBreak s live.faults (faults_here book)) broke is.broken in
    gone_push base (with_book book_now at) live book entry (history_of base book) is.read is.legal is.generation
    (record {
      not_gone = tt;
      begun = is.begun;
      attended = attended_still at.inside book entry (λ who n. refl) is.attended;
      base_fits = is.base_fits;
      may = record { attached = attends_in pid at.book book told inside; fault = may_repeat since live.faults base book (faults_here book) tells };
      generation = λ n. refl;
      redone = ap (λ (r : Option ℕ). kept_after r entry) is.redone;
      closed_is = any_still ends_cleanly (present book) entry live.closed is.closed refl;
      history_is = ap (λ (r : Option ℕ). history_after r (history_of base book) entry) is.redone;
      in_time = is.in_time;
      marked = is.marked;
      based = is.based;
      acked = is.acked;
      behind = is.behind;
      each = All-push (IsFaultBy at.faults) (faults_of book) (since, live.faults) is.counted.each (is.known since broke);
    })
    (subst (λ (s : Option ℕ). TellsBreak s live.faults (fault_here (faults_here book) entry)) (sym broke) (breaks_again since live.faults (faults_here book) pid tells))
    is.known is.rows_are is.count_is is.base_is is.fits is.limit is.counted.later)
    (λ origin base book is held. held_still past present_whole origin base at book_now at.inside book entry (ap (λ (r : Option ℕ). history_after r (history_of base book) entry) is.redone) (λ start mark. tt) (λ t. refl) held)

-- a commit finds no room in the log
pub finds_full : PastStays → PresentIsWhole → (at : Moment) (live : Live) (book_now : Option (List BookEntry)) (pid need room : ℕ) (script : List Stmt) (commit : List Change) → at.live ≡ Some live → live.log.since ≡ None
    → Attends pid at.book → commit ≡ commit_of at.rows script → need ≡ need_of commit → room < need
    → ((live.front ≡ 2 ^ 64 - 1) × (room ≡ 0)) ⊎ (room ≡ live.log.limit - (live.log.end + 1) - live.needs)
    → Added (LogFull pid script need room ∷ []) at.book book_now → Moves (LogFull pid script need room ∷ []) at (with_book book_now at)
finds_full past present_whole at live book_now pid need room script commit read unbroken inside commit_is need_is above cause notes =
    let entry : BookEntry = LogFull pid script need room in
    still (entry ∷ []) at live book_now read notes (λ who n. refl) (λ from counted. no_fault_shown from at.faults entry tt) refl
    (λ base book told is.
    let because : ((count_of (history_of base book) ≡ 2 ^ 64 - 1) × (room ≡ 0)) ⊎ (max_file_bytes ≤ room + base.bytes + 1024 + needs_of book) = elim cause [
      | inl spent ↦ inl (sym (is.count_is unbroken) ∙ spent.0, spent.1)
      | inr left ↦ inr (omega (arith, left, is.limit, is.fits unbroken))
    ] in
    gone_quiet base at live book_now at.inside book entry (quiet live)
    (record {
      redone = ap is_some is.redone;
      attached = attends_in pid at.book book told inside;
      need_is = need_is ∙ ap need_of commit_is ∙ ap (λ (r : RowMap). need_of (commit_of r script)) is.rows_are;
      above = above;
      cause = because;
    }) (attended_still at.inside book entry (λ who n. refl) is.attended) is)
    (λ origin base book is held. held_quiet past present_whole origin base at live book_now at.inside book entry (quiet live) is held)
  where
    quiet : (live : Live) → IsQuiet live.kept (LogFull pid script need room)
    quiet live = record { not_gone = tt; generation = λ n. refl; redone = refl; present_is = λ es. refl; unclean = refl; history = λ h. refl; tick = λ n. refl; faults = λ fs. refl; here = λ fs. refl; need = λ n. refl; no_tick = λ start mark. tt; hidden = λ t. refl }
