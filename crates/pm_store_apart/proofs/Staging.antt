-- What staging a commit, and writing what is staged, keep.
use Rattle.std.{proofs.{Common.{◌≡◌, ◌≢◌, false, true≢false, inl, inr, ℕ, ◌+◌, ◌-◌, ◌^◌, ◌<◌, ◌≤◌, List, [], ◌∷◌, ◌++◌, length, take, drop, Option, None, Some, refl, sym, ◌∙◌, ap, subst, arith, append-nil, length-append}, Math.{Logic.∥∥₁_map, Seq.{length-take-le, take-take}}, lemmas.{Bool.cases_lt, List.{length-drop, take-append-le, take_all, Elements.All-nil, Sums.fold-append}}}, specs.Prelude.IfSome}
use Rattle.pm_query.{specs.{pm_disk.{Cause.Rose, Disk.TellsStill, Files.Files}, pm_rows.{declared.commit.Change.Change, Batch.IsBatch, Fold.{RowMap, committed, folded}, Limits.IsWithinRowLimits, Standing.{Standing, after}}, pm_record.{StandsFor.{Content, MayAppend, standing_of, with_batch}, Pair.{Means, MeansIn}, OnDisk.{GoesOn, Throughout}}, pm_sql.declared.stmt.Stmt.Stmt, declared.{item.Item.Item, book.BookEntry.{BookEntry, TheVariants.{Answered, Broke}}}, Answer.{commit_of, items_of}, History.{History, count_of, number, with_commit}, Book.{Base, TellsFault, ends_cleanly, fault_here, faults_here, faults_of, history_after, history_of, kept_after, kept_by_redo, present}, TickLaws.{PastStays, PresentIsWhole}, Durable.{HoldsFrom, Keeps}}, proofs.HistoryLaws.{base-with_commit, history_push, rows_of-with_commit}}
use Rattle.pm_query.specs.pm_rows.LogSize as log
use Rattle.pm_log.{specs.{Append.MeansOneOf, Log.Lives, declared.log.Log.Log}, proofs.BatchLaws.standing-push}
use Rattle.pm_store_apart.{specs.{declared.live.Live.Live, Children.IsAttendedBy, Moment.Moment, Moves.{IsShown, IsShownAt, Moves}, MovesLaws.{time_still, unread_never}, Rests.{HasRows, Rests, RestsAt}, Stands.{HasGone, HasHeld, IsAnchored, MeansWithin, Origin, TellsBreak, most_bytes}, Fronts.{flushed_of, whole_of}, Waits.needs_alone}, proofs.{Books.{any_still, attended_still, count-with_commit, each_later, each_push, gone_push, tells_new}, Resting.{LivesWith, StopsOneOf, means_now}, RunsLaws.{another, answered, covers_commit, goes_by, holds_in, later}, StepsLaws.{Attends, ahead_more, anchored_broken, anchored_push, attends_in, began_on, counted_now, flushed_number, gone_read, held_on, keeps_by, lengths_by, lengths_push, may_answer, means_more, means_some, never_waits, no_fault_shown, nobody_moves, none_told, same_live, some_none, up_to_more, tells_none}, WaitingLaws.{behind_added, behind_more, folded_more, folded_rest, need_some, needs_parts, number_more}}}
use Rattle.pm_outside.specs.Added.{Added}

-- ---- how the rows stand on the disk

-- one commit more is staged
added_at : (live new : Live) (rows rows_now : RowMap) (staged : List (List Change)) (commit : List Change) (files : Files) (i : Files → Type 0) (s : Standing) → new.log ≡ live.log → new.closed ≡ false
    → rows_now ≡ committed rows commit → IsWithinRowLimits rows_now → RestsAt live rows staged files i s → RestsAt new rows_now (staged ++ commit ∷ []) files i s
added_at live new rows rows_now staged commit files i s same unclosed is within at =
    let h = at.has in
    let base = (standing_of h.content).rows in
    let longer = staged ++ commit ∷ [] in
    let all : rows_now ≡ folded base longer = is ∙ ap (λ (r : RowMap). committed r commit) h.rows_are ∙ sym (fold-append committed base staged (commit ∷ [])) in
    record {
      has = record {
        content = h.content;
        lives = subst (λ (l : Log). Lives l h.content files i) (sym same) h.lives;
        rows_are = all;
        limits = λ n few. elim (cases_lt (length staged) n) [
          | inl beyond ↦ subst IsWithinRowLimits (all ∙ ap (λ (l : List (List Change)). folded base l) (sym (take_all n longer (omega (arith, beyond, length-append staged (commit ∷ [])))))) within
          | inr among ↦ subst (λ (l : List (List Change)). IsWithinRowLimits (folded base l)) (sym (take-append-le n staged (commit ∷ []) among)) (h.limits n among)
        ];
        closed = λ closed. absurd (true≢false (sym closed ∙ unclosed));
      };
      is = at.is;
    }

pub rests_added : (live new : Live) (rows rows_now : RowMap) (staged : List (List Change)) (commit : List Change) (seen : Option Files) (i : Files → Type 0) → new.log ≡ live.log → new.closed ≡ false
    → rows_now ≡ committed rows commit → IsWithinRowLimits rows_now → ∥ Rests (Some live) rows staged seen i ∥₁ → ∥ Rests (Some new) rows_now (staged ++ commit ∷ []) seen i ∥₁
rests_added live new rows rows_now staged commit seen i same unclosed is within rests =
    ∥∥₁_map rests (λ r whole. each seen (r (sym (ap (λ (l : Log). l.since) same) ∙ whole)))
  where
    each : (seen : Option Files) → IfSome seen (λ files. HasRows live rows staged files i) → IfSome seen (λ files. HasRows new rows_now (staged ++ commit ∷ []) files i)
    each None h = tt
    each (Some files) h = (added_at live new rows rows_now staged commit files i (standing_of h.content) same unclosed is within (record { has = h; is = refl })).has

-- what is staged may be appended, oldest first
pub may_write : (live : Live) (rows : RowMap) (staged : List (List Change)) (k : ℕ) (files : Files) (i : Files → Type 0) (h : HasRows live rows staged files i)
    → k ≤ length staged → IsBatch (take k staged) → live.log.count + length staged < 2 ^ 64 → MayAppend (standing_of h.content) (take k staged)
may_write live rows staged k files i h few batch small =
    let long : length (take k staged) ≡ k = length-take-le k staged few in
    record {
      batch_is = batch;
      follows = record {
        limits = λ n le. subst (λ (l : List (List Change)). IsWithinRowLimits (folded (standing_of h.content).rows l)) (sym (take-take n k staged (omega (arith, le, long)))) (h.limits n (omega (arith, le, long, few)));
        number = omega (arith, h.lives.count, small, long, few);
      };
    }

-- the oldest were appended, and the rest is staged still
written_at : (live new : Live) (rows : RowMap) (staged : List (List Change)) (k : ℕ) (files files_now : Files) (i j : Files → Type 0) (s : Standing)
    → k ≤ length staged → IsBatch (take k staged) → live.log.count + length staged < 2 ^ 64 → new.closed ≡ live.closed → LivesWith live new (take k staged) i j files files_now
    → RestsAt live rows staged files i s → RestsAt new rows (drop k staged) files_now j (after s (take k staged))
written_at live new rows staged k files files_now i j s few batch small closed lives at =
    let h = at.has in
    let taken = take k staged in
    let left = drop k staged in
    let then = with_batch h.content taken in
    let grown : (standing_of then).rows ≡ folded (standing_of h.content).rows taken = ap (λ (t : Standing). t.rows) (standing-push h.content taken) in
    record {
      has = record {
        content = then;
        lives = lives h.content h.lives (may_write live rows staged k files i h few batch small);
        rows_are = h.rows_are ∙ sym (folded_rest (standing_of h.content).rows k staged) ∙ ap (λ (r : RowMap). folded r left) (sym grown);
        limits = λ n le.
            let upto : k + n ≤ length staged = omega (arith, le, length-drop k staged, few) in
            let is : folded (standing_of h.content).rows (take (k + n) staged) ≡ folded (standing_of then).rows (take n left) =
            sym (folded_more (standing_of h.content).rows k n staged) ∙ ap (λ (r : RowMap). folded r (take n left)) (sym grown) in
            subst IsWithinRowLimits is (h.limits (k + n) upto);
        closed = λ is.
            let none = (h.closed (sym closed ∙ is)).1 in
            absurd (omega (arith, batch.some, length-take-le k staged few, few, ap length none));
      };
      is = standing-push h.content taken ∙ ap (λ (t : Standing). after t taken) at.is;
    }

pub rests_written : (live new : Live) (rows : RowMap) (staged : List (List Change)) (k : ℕ) (seen now : Option Files) (i j : Files → Type 0)
    → k ≤ length staged → IsBatch (take k staged) → live.log.count + length staged < 2 ^ 64 → new.closed ≡ live.closed → live.log.since ≡ None
    → TellsStill (LivesWith live new (take k staged) i j) seen now → ∥ Rests (Some live) rows staged seen i ∥₁ → ∥ Rests (Some new) rows (drop k staged) now j ∥₁
rests_written live new rows staged k seen now i j few batch small closed unbroken lives rests = ∥∥₁_map rests (λ r whole. each seen now lives (r unbroken))
  where
    each : (seen now : Option Files) → TellsStill (LivesWith live new (take k staged) i j) seen now → IfSome seen (λ files. HasRows live rows staged files i) → IfSome now (λ files. HasRows new rows (drop k staged) files j)
    each None now lives h = subst (λ (f : Option Files). IfSome f (λ files. HasRows new rows (drop k staged) files j)) (sym lives) tt
    each (Some files) None lives h = absurd lives
    each (Some files) (Some files_now) lives h =
        (written_at live new rows staged k files files_now i j (standing_of h.content) few batch small closed lives (record { has = h; is = refl })).has

-- ---- a commit is staged

-- the moment with a commit more
abbrev pub with_staged : Option (List BookEntry) → RowMap → Live → List (List Change) → Moment → Moment
with_staged book rows live staged at = record {
  book = book;
  generation = at.generation;
  inside = at.inside;
  rows = rows;
  live = Some live;
  skipped = at.skipped;
  commits = at.commits;
  staged = staged;
  files = at.files;
  images = at.images;
  ticks = at.ticks;
  faults = at.faults;
}

-- all that staging says, for the history
pub record Stages (at : Moment) (live new : Live) (rows_now : RowMap) (staged_now : List (List Change)) (commit : List Change) : Type 0 where
  pub read : at.live ≡ Some live
  pub unbroken : live.log.since ≡ None
  pub unclosed : live.closed ≡ false
  pub fronts : live.front ≡ live.log.count + length at.staged
  pub its : new.log ≡ live.log
  pub kept : new.kept ≡ live.kept
  pub first : new.epoch ≡ live.epoch
  pub closed : new.closed ≡ live.closed
  pub mark : new.mark ≡ live.mark
  pub front : new.front ≡ live.front + 1
  pub needs : new.needs ≡ live.needs + log.need_of (commit ∷ [])
  pub rows : rows_now ≡ committed at.rows commit
  pub within : IsWithinRowLimits rows_now
  pub staged : staged_now ≡ at.staged ++ commit ∷ []

-- A commit is answered, and waits for the log. No call of the disk is made.
pub stages : PastStays → PresentIsWhole → (at : Moment) (live new : Live) (book_now : Option (List BookEntry)) (rows_now : RowMap) (staged_now : List (List Change)) (pid : ℕ) (script : List Stmt) (reply : List Item) (commit : List Change)
    → commit ≢ [] → Stages at live new rows_now staged_now commit → Attends pid at.book → reply ≡ items_of at.rows script → commit ≡ commit_of at.rows script
    → Added (Answered pid script reply commit new.front live.mark ∷ []) at.book book_now
    → Moves (Answered pid script reply commit new.front live.mark ∷ []) at (with_staged book_now rows_now new staged_now at)
stages past present_whole at live new book_now rows_now staged_now pid script reply [] some takes inside reply_is commit_is notes = absurd (some refl)
stages past present_whole at live new book_now rows_now staged_now pid script reply (change ∷ changes) some takes inside reply_is commit_is notes = record {
  spans = record {
    notes = notes;
    time = time_still at.ticks at.images;
    later = omega arith;
    counts = λ from counted. record {
      counted = counted_now from at.faults at.faults 0 at.live now.live new (omega arith) refl (subst (IsShownAt from at.faults) (sym whole) tt) counted;
      each = no_fault_shown from at.faults entry tt;
    };
    waits = never_waits (entry ∷ []) at now live takes.read notes (λ none. none);
    goes_on = λ origin base told. gone_read (entry ∷ []) at now live origin base takes.read refl notes (λ none. none)
        (λ book is gone. (new, goes base book is gone)) (λ book seen tells gone held. holds origin base book gone held) told;
  };
  generation = refl;
  commits = refl;
  attends = nobody_moves (entry ∷ []) at now refl (λ who n. refl);
  unread = unread_never (entry ∷ []) at now live new takes.read refl;
  staged = up_to_more whole_of at.live now.live live new takes.read refl (omega (arith, takes.front));
  flushed = up_to_more flushed_of at.live now.live live new takes.read refl (omega (arith, ap (λ (l : Log). l.count) takes.its));
  began = began_on at.live now.live live new takes.read refl takes.first;
  ahead = ahead_more at.live now.live live new 0 takes.read refl takes.first (λ w. (takes.unbroken, omega (arith, ap (λ (l : Log). l.epoch) takes.its)));
}
  where
    entry : BookEntry
    entry = Answered pid script reply (change ∷ changes) new.front live.mark

    now : Moment
    now = with_staged book_now rows_now new staged_now at

    whole : new.log.since ≡ None
    whole = ap (λ (l : Log). l.since) takes.its ∙ takes.unbroken

    count : new.log.count ≡ live.log.count
    count = ap (λ (l : Log). l.count) takes.its

    goes : (base : Base) (book : List BookEntry) → at.book ≡ Some book → HasGone base at live book → HasGone base now new (book ++ entry ∷ [])
    goes base book told is =
        let h = history_of base book in
        let commit = change ∷ changes in
        let front : new.front ≡ count_of (with_commit h commit) = omega (arith, takes.front, is.count_is takes.unbroken, count-with_commit h change changes) in
        let within : new.log.count - base.count ≤ length h.commits = omega (arith, count, takes.fronts, is.count_is takes.unbroken, ap (λ (s : Standing). s.count) is.base_is) in
        gone_push base now new book entry (with_commit h commit) refl is.legal is.generation
        (record {
          not_gone = tt;
          begun = is.begun;
          attended = attended_still at.inside book entry (λ who n. refl) is.attended;
          base_fits = is.base_fits;
          may = may_answer base at live book pid script reply commit new.front is (attends_in pid at.book book told inside) reply_is commit_is (inl front) (λ closed. absurd (true≢false (sym closed ∙ takes.unclosed)));
          generation = λ n. refl;
          redone = ap (λ (r : Option ℕ). kept_after r entry) is.redone ∙ ap (λ (n : ℕ). Some n) (sym takes.kept);
          closed_is = any_still ends_cleanly (present book) entry live.closed is.closed refl ∙ sym takes.closed;
          history_is = refl;
          in_time = omega (arith, is.in_time, takes.mark);
          marked = omega (arith, is.marked, takes.mark);
          based = omega (arith, is.based, count);
          acked = omega (arith, is.acked, count);
          behind = λ open_log. behind_added h.commits at.staged commit (new.log.count - base.count) within
              (ap (λ (n : ℕ). drop (n - base.count) h.commits) count ∙ is.behind takes.unbroken) ∙ sym takes.staged;
          each = is.counted.each;
        })
        (tells_none new.log.since new.faults (fault_here (faults_here book) entry) whole (ap (λ (f : Option (List (ℕ × ℕ))). fault_here f entry) (none_told live.log.since live.faults (faults_here book) takes.unbroken is.broken)))
        (λ since broke. absurd (some_none since (sym broke ∙ whole)))
        (takes.rows ∙ ap (λ (r : RowMap). committed r commit) is.rows_are ∙ sym (rows_of-with_commit h commit))
        (λ open_log. front) (base-with_commit h commit ∙ is.base_is)
        (λ open_log. omega (arith, ap (λ (l : Log). l.end) takes.its, takes.needs, is.fits takes.unbroken)) (ap (λ (l : Log). l.limit) takes.its ∙ is.limit) is.counted.later

    -- the log lives with what it did
    anchored : (h : History) → IsAnchored at h → IsAnchored now h
    anchored h is = λ l r w. each l (same_live (Some new) l new r refl) at.files (is live takes.read takes.unbroken)
      where
        each : (l : Live) → l ≡ new → (seen : Option Files) → IfSome seen (λ files. ∥ RestsAt live at.rows at.staged files (at.images at.ticks) (number h live.log.count) ∥₁)
            → IfSome seen (λ files. ∥ RestsAt l rows_now staged_now files (at.images at.ticks) (number h l.log.count) ∥₁)
        each l same None r = tt
        each l same (Some files) r = ∥∥₁_map r (λ rests.
            let then = added_at live new at.rows rows_now at.staged (change ∷ changes) files (at.images at.ticks) (number h live.log.count) takes.its (takes.closed ∙ takes.unclosed) takes.rows takes.within rests in
            subst (λ (m : Live). RestsAt m rows_now staged_now files (at.images at.ticks) (number h m.log.count)) (sym same)
            (subst (λ (n : ℕ). RestsAt new rows_now staged_now files (at.images at.ticks) (number h n)) (sym count)
            (subst (λ (x : List (List Change)). RestsAt new rows_now x files (at.images at.ticks) (number h live.log.count)) (sym takes.staged) then)))

    holds : (origin : Origin) (base : Base) (book : List BookEntry) → HasGone base at live book → HasHeld origin base at book → HasHeld origin base now (book ++ entry ∷ [])
    holds origin base book is held =
        let h = history_of base book in
        let commit = change ∷ changes in
        held_on origin base at now new book (book ++ entry ∷ []) refl (time_still at.ticks at.images) held
        (subst (λ (m : ℕ). Keeps Means base (book ++ entry ∷ []) held.start m at.ticks new.log.count at.images) (sym takes.mark)
        (subst (λ (n : ℕ). Keeps Means base (book ++ entry ∷ []) held.start live.mark at.ticks n at.images) (sym count)
        (answered past present_whole base book held.start live.mark at.ticks live.log.count at.images (keeps_by origin base at live book takes.read held) pid new.front script reply commit)))
        (λ image there. lengths_push base book entry (with_commit h commit) new.log.count image refl
        (subst (λ (n : ℕ). HoldsFrom (MeansWithin (most_bytes base book)) n (with_commit h commit) image) (sym count)
        (holds_in (MeansWithin (most_bytes base book)) (with_commit h commit) h live.log.count live.log.count image (covers_commit h commit) (omega arith) (lengths_by origin base at live book takes.read held image there))))
        (subst (IsAnchored now) (sym (history_push base book entry))
        (anchored (with_commit h commit) (anchored_push at h (with_commit h commit) (flushed_number origin base at book commit held) held.anchored)))

-- ---- a batch is written

-- all that it says, for the history
pub record Writes (before now : Moment) (live new : Live) (k : ℕ) : Type 0 where
  pub generation : now.generation ≡ before.generation
  pub commits : now.commits ≡ before.commits
  pub inside : now.inside ≡ before.inside
  pub read : before.live ≡ Some live
  pub unbroken : live.log.since ≡ None
  pub few : k ≤ length before.staged
  pub batch : IsBatch (take k before.staged)
  pub small : live.log.count + length before.staged < 2 ^ 64
  pub fronts : live.front ≡ live.log.count + length before.staged
  pub needs_are : live.needs ≡ needs_alone before.staged
  pub read_now : now.live ≡ Some new
  pub kept : new.kept ≡ live.kept
  pub closed : new.closed ≡ live.closed
  pub limit : new.log.limit ≡ live.log.limit
  pub epoch : new.log.epoch ≡ live.log.epoch
  pub first : new.epoch ≡ live.epoch
  pub front : new.front ≡ live.front
  pub rows : now.rows ≡ before.rows
  pub time : GoesOn before.ticks now.ticks before.images now.images
  pub later : before.faults ≤ now.faults
  pub tells : before.files ≡ None → now.files ≡ None
  pub stops : IfSome before.files (StopsOneOf live (take k before.staged) before.ticks now.ticks (before.images before.ticks) now.images)

-- how long the log is with a batch after it
abbrev pub with_batch_of : Live → List (List Change) → ℕ
with_batch_of live batch = live.log.end + 1 + log.need_of batch

module _ (before now : Moment) (live new : Live) (k : ℕ) (writes : Writes before now live new k) where
  -- the number after the batch
  next_number : (base : Base) (book : List BookEntry) → HasGone base before live book → number (history_of base book) (live.log.count + k) ≡ after (number (history_of base book) live.log.count) (take k before.staged)
  next_number base book is = number_more (history_of base book) base.count live.log.count before.staged (ap (λ (s : Standing). s.count) is.base_is) is.based (is.behind writes.unbroken) k writes.few

  upto : (base : Base) (book : List BookEntry) → HasGone base before live book → live.log.count + k ≤ count_of (history_of base book)
  upto base book is = omega (arith, writes.fronts, writes.few, is.count_is writes.unbroken)

  -- it fits
  long_enough : (base : Base) (book : List BookEntry) → HasGone base before live book → with_batch_of live (take k before.staged) ≤ most_bytes base book
  long_enough base book is = omega (arith, is.fits writes.unbroken, writes.needs_are, need_some (take k before.staged) writes.batch.some, needs_parts_of before.staged k)
    where
      needs_parts_of : (staged : List (List Change)) (n : ℕ) → needs_alone (take n staged) ≤ needs_alone staged
      needs_parts_of staged n = omega (arith, needs_parts staged n)

  -- inside it a stop leaves the flushed number, or the one after the batch
  stops_hold : (origin : Origin) (base : Base) (book : List BookEntry) (seen : Files) → before.files ≡ Some seen → HasGone base before live book → HasHeld origin base before book
      → Throughout before.ticks now.ticks now.images (HoldsFrom (MeansWithin (with_batch_of live (take k before.staged))) live.log.count (history_of base book))
  stops_hold origin base book seen tells is held = λ t after_it within image there.
      ∥∥₁_map anchor (λ a.
      each image a.has.content a.is (stops a.has.content a.has.lives (may_write live before.rows before.staged k seen (before.images before.ticks) a.has writes.few writes.batch writes.small) t after_it within image there))
    where
      h : History
      h = history_of base book

      taken : List (List Change)
      taken = take k before.staged

      anchor : ∥ RestsAt live before.rows before.staged seen (before.images before.ticks) (number h live.log.count) ∥₁
      anchor = subst (λ (f : Option Files). IfSome f (λ files. ∥ RestsAt live before.rows before.staged files (before.images before.ticks) (number h live.log.count) ∥₁)) tells (held.anchored live writes.read writes.unbroken)

      stops : StopsOneOf live taken before.ticks now.ticks (before.images before.ticks) now.images seen
      stops = subst (λ (f : Option Files). IfSome f (StopsOneOf live taken before.ticks now.ticks (before.images before.ticks) now.images)) tells writes.stops

      each : (image : Files) (content : Content) → standing_of content ≡ number h live.log.count
          → MeansOneOf (standing_of content) (live.log.end + 1) (after (standing_of content) taken) (live.log.end + 1 + log.need_of taken) image
          → (n : ℕ) × (live.log.count ≤ n) × (n ≤ count_of h) × MeansWithin (with_batch_of live taken) image (number h n)
      each image content same (inl m) =
          (live.log.count, omega arith, omega (arith, upto base book is), (live.log.end + 1, omega arith, subst (λ (s : Standing). MeansIn image s (live.log.end + 1)) same m))
      each image content same (inr m) = (
        live.log.count + k,
        omega arith,
        upto base book is,
        (
          with_batch_of live taken,
          omega arith,
          subst (λ (s : Standing). MeansIn image s (with_batch_of live taken)) (ap (λ (s : Standing). after s taken) same ∙ sym (next_number base book is)) m,
        ),
      )

-- a batch is durable
pub flushes : PastStays → PresentIsWhole → (before now : Moment) (live new : Live) (k : ℕ) → Writes before now live new k → new.log.since ≡ None → new.log.count ≡ live.log.count + k
    → new.log.end ≡ live.log.end + log.need_of (take k before.staged) → new.needs + needs_alone (take k before.staged) ≡ live.needs → new.mark ≡ now.ticks → now.staged ≡ drop k before.staged
    → TellsStill (LivesWith live new (take k before.staged) (before.images before.ticks) (now.images now.ticks)) before.files now.files
    → Added [] before.book now.book → Moves [] before now
flushes past present_whole before now live new k writes whole count end needs mark staged lives notes = record {
  spans = record {
    notes = notes;
    time = writes.time;
    later = writes.later;
    counts = λ from counted. record {
      counted = counted_now from before.faults now.faults 0 before.live now.live new writes.later writes.read_now (subst (IsShownAt from now.faults) (sym whole) tt) counted;
      each = All-nil (IsShown from now.faults);
    };
    waits = never_waits [] before now live writes.read notes writes.tells;
    goes_on = λ origin base told. gone_read [] before now live origin base writes.read writes.generation notes writes.tells
        (λ book is gone. (new, subst (HasGone base now new) (sym (append-nil book)) (goes base book gone)))
        (λ book seen tells gone held. subst (HasHeld origin base now) (sym (append-nil book)) (holds origin base book seen tells gone held)) told;
  };
  generation = writes.generation;
  commits = writes.commits;
  attends = nobody_moves [] before now writes.inside (λ who n. refl);
  unread = unread_never [] before now live new writes.read writes.read_now;
  staged = up_to_more whole_of before.live now.live live new writes.read writes.read_now (omega (arith, writes.front));
  flushed = up_to_more flushed_of before.live now.live live new writes.read writes.read_now (omega (arith, count));
  began = began_on before.live now.live live new writes.read writes.read_now writes.first;
  ahead = ahead_more before.live now.live live new 0 writes.read writes.read_now writes.first (λ w. (writes.unbroken, omega (arith, writes.epoch)));
}
  where
    goes : (base : Base) (book : List BookEntry) → HasGone base before live book → HasGone base now new book
    goes base book is = record {
      read = writes.read_now;
      legal = is.legal;
      begun = subst (λ (n : ℕ). 1 ≤ n) (sym writes.generation) is.begun;
      generation = is.generation ∙ sym writes.generation;
      attended = subst (λ (l : List ℕ). IsAttendedBy l book) (sym writes.inside) is.attended;
      redone = is.redone ∙ ap (λ (n : ℕ). Some n) (sym writes.kept);
      closed = is.closed ∙ sym writes.closed;
      broken = tells_none new.log.since new.faults (faults_here book) whole (none_told live.log.since live.faults (faults_here book) writes.unbroken is.broken);
      known = λ since broke. absurd (some_none since (sym broke ∙ whole));
      rows_are = writes.rows ∙ is.rows_are;
      count_is = λ open_log. writes.front ∙ is.count_is writes.unbroken;
      behind = λ open_log. ap (λ (n : ℕ). drop (n - base.count) (history_of base book).commits) count
          ∙ behind_more (history_of base book) base.count live.log.count before.staged (ap (λ (s : Standing). s.count) is.base_is) is.based (is.behind writes.unbroken) k ∙ sym staged;
      base_is = is.base_is;
      base_fits = is.base_fits;
      based = omega (arith, is.based, count);
      acked = omega (arith, is.acked, count);
      fits = λ open_log. omega (arith, end, needs, need_some (take k before.staged) writes.batch.some, is.fits writes.unbroken);
      limit = writes.limit ∙ is.limit;
      in_time = omega (arith, is.in_time, is.marked, writes.time.later, mark);
      marked = omega (arith, mark);
      counted = record { later = omega (arith, is.counted.later, writes.later); each = each_later before.faults now.faults (faults_of book) writes.later is.counted.each };
    }

    -- the log lives with the batch
    anchored : (h : History) (seen : Files) → before.files ≡ Some seen → number h (live.log.count + k) ≡ after (number h live.log.count) (take k before.staged) → IsAnchored before h → IsAnchored now h
    anchored h seen tells next is = λ l r w. each l (same_live now.live l new r writes.read_now) now.files
        (subst (λ (f : Option Files). TellsStill (LivesWith live new (take k before.staged) (before.images before.ticks) (now.images now.ticks)) f now.files) tells lives)
        (subst (λ (f : Option Files). IfSome f (λ files. ∥ RestsAt live before.rows before.staged files (before.images before.ticks) (number h live.log.count) ∥₁)) tells (is live writes.read writes.unbroken))
      where
        each : (l : Live) → l ≡ new → (f : Option Files) → TellsStill (LivesWith live new (take k before.staged) (before.images before.ticks) (now.images now.ticks)) (Some seen) f
            → ∥ RestsAt live before.rows before.staged seen (before.images before.ticks) (number h live.log.count) ∥₁
            → IfSome f (λ files. ∥ RestsAt l now.rows now.staged files (now.images now.ticks) (number h l.log.count) ∥₁)
        each l same None lives r = tt
        each l same (Some files_now) lives r = ∥∥₁_map r (λ rests.
            let then = written_at live new before.rows before.staged k seen files_now (before.images before.ticks) (now.images now.ticks) (number h live.log.count) writes.few writes.batch writes.small writes.closed lives rests in
            let there : number h new.log.count ≡ after (number h live.log.count) (take k before.staged) = ap (number h) count ∙ next in
            subst (λ (m : Live). RestsAt m now.rows now.staged files_now (now.images now.ticks) (number h m.log.count)) (sym same)
            (subst (λ (s : Standing). RestsAt new now.rows now.staged files_now (now.images now.ticks) s) (sym there)
            (subst (λ (x : List (List Change)). RestsAt new now.rows x files_now (now.images now.ticks) (after (number h live.log.count) (take k before.staged))) (sym staged)
            (subst (λ (r : RowMap). RestsAt new r (drop k before.staged) files_now (now.images now.ticks) (after (number h live.log.count) (take k before.staged))) (sym writes.rows) then))))

    -- whatever a stop leaves now means the number after the batch
    behind : (base : Base) (book : List BookEntry) (seen : Files) → before.files ≡ Some seen → HasGone base before live book → IsAnchored now (history_of base book) → (image : Files) → now.images now.ticks image
        → HoldsFrom (MeansWithin (with_batch_of live (take k before.staged))) new.log.count (history_of base book) image
    behind base book seen tells is rests image there =
        each now.files (subst (λ (f : Option Files). TellsStill (LivesWith live new (take k before.staged) (before.images before.ticks) (now.images now.ticks)) f now.files) tells lives) (rests new writes.read_now whole)
      where
        each : (f : Option Files) → TellsStill (LivesWith live new (take k before.staged) (before.images before.ticks) (now.images now.ticks)) (Some seen) f
            → IfSome f (λ files. ∥ RestsAt new now.rows now.staged files (now.images now.ticks) (number (history_of base book) new.log.count) ∥₁)
            → HoldsFrom (MeansWithin (with_batch_of live (take k before.staged))) new.log.count (history_of base book) image
        each None lives r = absurd lives
        each (Some files_now) lives r = ∥∥₁_map r (λ a. (
          new.log.count,
          omega arith,
          omega (arith, count, upto before now live new k writes base book is),
          (
            new.log.end + 1,
            omega (arith, end),
            subst (λ (s : Standing). MeansIn image s (new.log.end + 1)) a.is (means_now new.log.file a.has.content new.log.end files_now (now.images now.ticks) a.has.lives.rests image there),
          ),
        ))

    holds : (origin : Origin) (base : Base) (book : List BookEntry) (seen : Files) → before.files ≡ Some seen → HasGone base before live book → HasHeld origin base before book → HasHeld origin base now book
    holds origin base book seen tells is held =
        let h = history_of base book in
        let most = with_batch_of live (take k before.staged) in
        let through = stops_hold before now live new k writes origin base book seen tells is held in
        let rests : IsAnchored now h = anchored h seen tells (next_number before now live new k writes base book is) held.anchored in
        held_on origin base before now new book book writes.read_now writes.time held
        (subst (λ (m : ℕ). Keeps Means base book held.start m now.ticks new.log.count now.images) (sym mark)
        (goes_by past present_whole base book held.start live.mark before.ticks live.log.count now.ticks new.log.count before.images now.images (keeps_by origin base before live book writes.read held) writes.time
        (λ t after_it within image there. means_some most h live.log.count image (through t after_it within image there)) (omega (arith, count)) (omega (arith, count, upto before now live new k writes base book is))
        (λ image there. means_some most h new.log.count image (behind base book seen tells is rests image there))))
        (λ image there. means_more most (most_bytes base book) h new.log.count image (long_enough before now live new k writes base book is) (behind base book seen tells is rests image there)) rests

-- the disk failed at a batch, which may stand or not
pub flush_fails : PastStays → PresentIsWhole → (before now : Moment) (live new : Live) (k pid since : ℕ) → Writes before now live new k → new.log.since ≡ Some since → new.log.count ≡ live.log.count → new.mark ≡ live.mark
    → new.faults ≡ now.faults → Rose before.faults now.faults → now.faults < 2 ^ 64 → Attends pid before.book
    → Added (Broke pid since now.faults ∷ []) before.book now.book → Moves (Broke pid since now.faults ∷ []) before now
flush_fails past present_whole before now live new k pid since writes broke count mark fault rose small inside notes = record {
  spans = record {
    notes = notes;
    time = writes.time;
    later = writes.later;
    counts = λ from counted.
        let risen : Rose from now.faults = omega (arith, counted.later, rose) in record {
          counted = counted_now from before.faults now.faults 0 before.live now.live new writes.later writes.read_now (subst (IsShownAt from now.faults) (sym broke) risen) counted;
          each = no_fault_shown from now.faults entry risen;
        };
    waits = never_waits (entry ∷ []) before now live writes.read notes writes.tells;
    goes_on = λ origin base told. gone_read (entry ∷ []) before now live origin base writes.read writes.generation notes writes.tells
        (λ book is gone. (new, goes base book is gone))
        (λ book seen tells gone held. holds origin base book seen tells gone held) told;
  };
  generation = writes.generation;
  commits = writes.commits;
  attends = nobody_moves (entry ∷ []) before now writes.inside (λ who n. refl);
  unread = unread_never (entry ∷ []) before now live new writes.read writes.read_now;
  staged = up_to_more whole_of before.live now.live live new writes.read writes.read_now (omega (arith, writes.front));
  flushed = up_to_more flushed_of before.live now.live live new writes.read writes.read_now (omega (arith, count));
  began = began_on before.live now.live live new writes.read writes.read_now writes.first;
  ahead = ahead_more before.live now.live live new 0 writes.read writes.read_now writes.first (λ w. (writes.unbroken, omega (arith, writes.epoch)));
}
  where
    entry : BookEntry
    entry = Broke pid since now.faults

    goes : (base : Base) (book : List BookEntry) → before.book ≡ Some book → HasGone base before live book → HasGone base now new (book ++ entry ∷ [])
    goes base book told is =
        let here : faults_here book ≡ Some [] = none_told live.log.since live.faults (faults_here book) writes.unbroken is.broken in
        let fresh = tells_new base.faults before.faults now.faults (faults_of book) is.counted.later is.counted.each rose writes.later small in
        gone_push base now new book entry (history_of base book) writes.read_now is.legal (is.generation ∙ sym writes.generation)
        (record {
          not_gone = tt;
          may = record {
            attached = attends_in pid before.book book told inside;
            fault = subst (λ (f : Option (List (ℕ × ℕ))). TellsFault base book f since now.faults) (sym here) fresh;
          };
          begun = subst (λ (n : ℕ). 1 ≤ n) (sym writes.generation) is.begun;
          generation = λ n. refl;
          attended = subst (λ (l : List ℕ). IsAttendedBy l (book ++ entry ∷ [])) (sym writes.inside) (attended_still before.inside book entry (λ who n. refl) is.attended);
          redone = ap (λ (r : Option ℕ). kept_after r entry) is.redone ∙ ap (λ (n : ℕ). Some n) (sym writes.kept);
          closed_is = any_still ends_cleanly (present book) entry live.closed is.closed refl ∙ sym writes.closed;
          history_is = ap (λ (r : Option ℕ). history_after r (history_of base book) entry) is.redone;
          in_time = omega (arith, is.in_time, mark);
          marked = omega (arith, is.marked, writes.time.later, mark);
          based = omega (arith, is.based, count);
          acked = omega (arith, is.acked, count);
          behind = λ open_log. absurd (some_none since (sym broke ∙ open_log));
          each = each_push before.faults now.faults since (faults_of book) writes.later is.counted.each;
          base_fits = is.base_fits;
        })
        (subst (λ (s : Option ℕ). TellsBreak s new.faults (fault_here (faults_here book) entry)) (sym broke)
        ((since, now.faults), [], ap (λ (f : Option (List (ℕ × ℕ))). fault_here f entry) here, (0, omega arith, ap (λ (n : ℕ). (since, n)) (sym fault))))
        (λ tick broken. omega (arith, fault))
        (writes.rows ∙ is.rows_are) (λ open_log. absurd (some_none since (sym broke ∙ open_log))) is.base_is
        (λ open_log. absurd (some_none since (sym broke ∙ open_log))) (writes.limit ∙ is.limit) (omega (arith, is.counted.later, writes.later))

    holds : (origin : Origin) (base : Base) (book : List BookEntry) (seen : Files) → before.files ≡ Some seen → HasGone base before live book → HasHeld origin base before book → HasHeld origin base now (book ++ entry ∷ [])
    holds origin base book seen tells is held =
        let h = history_of base book in
        let most = with_batch_of live (take k before.staged) in
        let through = stops_hold before now live new k writes origin base book seen tells is held in
        let alone : history_after (kept_by_redo book) h entry ≡ h = ap (λ (r : Option ℕ). history_after r h entry) is.redone in
        let run = later past present_whole base book held.start live.mark before.ticks live.log.count before.images (keeps_by origin base before live book writes.read held) now.ticks now.images writes.time
        (λ t after_it within image there. means_some most h live.log.count image (through t after_it within image there)) in
        held_on origin base before now new book (book ++ entry ∷ []) writes.read_now writes.time held
        (subst (λ (m : ℕ). Keeps Means base (book ++ entry ∷ []) held.start m now.ticks new.log.count now.images) (sym mark)
        (subst (λ (n : ℕ). Keeps Means base (book ++ entry ∷ []) held.start live.mark now.ticks n now.images) (sym count)
        (another past present_whole base book held.start live.mark now.ticks live.log.count now.images run entry alone tt (λ t. refl))))
        (λ image there. lengths_push base book entry h new.log.count image alone
        (subst (λ (n : ℕ). HoldsFrom (MeansWithin (most_bytes base book)) n h image) (sym count)
        (means_more most (most_bytes base book) h live.log.count image (long_enough before now live new k writes base book is)
        (through now.ticks writes.time.later (omega arith) image there))))
        (anchored_broken now (history_of base (book ++ entry ∷ [])) new since writes.read_now broke)
