-- What a call keeps that leaves rows and number of the log as they are: a checkpoint, and each piece of one.
use Rattle.std.{proofs.{Common.{◌≡◌, ◌||◌, ◌⊎◌, Bool, true, inl, inr, ℕ, ◌+◌, ◌-◌, ◌^◌, ◌<◌, ◌≤◌, List, [], ◌∷◌, ◌++◌, length, drop, Option, None, Some, refl, sym, ◌∙◌, ap, subst, arith, append-nil}, Math.Logic.{∥∥₁_elim, ∥∥₁_map, ∥∥₁_prop}, lemmas.List.Elements.All-nil}, specs.Prelude.{IfSome, is_some}}
use Rattle.pm_query.{specs.{pm_disk.{Cause.Rose, Disk.TellsStill, Files.Files}, pm_rows.{declared.commit.Change.Change, Fold.RowMap, Standing.Standing}, declared.book.BookEntry.{BookEntry, TheVariants.{Broke, CheckpointEnded}}, History.{History, count_of, number}, Book.{Base, TellsFault, ends_cleanly, fault_here, faults_here, faults_of, history_after, history_of, kept_after, needs_of, present}, BookLaws.RowsAreWithinNeeds, TickLaws.{PastStays, PresentIsWhole}, Durable.{HoldsFrom, Keeps}}, proofs.HistoryLaws.{whole_number}}
use Rattle.pm_record.specs.{Pair.Means, StandsFor.standing_of, OnDisk.{GoesOn, Throughout}}
use Rattle.pm_store_apart.{specs.{declared.live.Live.Live, Moment.Moment, Moves.{IsShown, IsShownAt, Moves}, MovesLaws.unread_never, Rests.{HasRows, RestsAt}, Children.IsAttendedBy, Fronts.{flushed_of, whole_of}, Stands.{HasGone, HasHeld, IsAnchored, MeansWithin, Origin, TellsBreak, bytes_of_rows, most_bytes}}, proofs.{Books.{any_push, any_still, attended_still, each_later, each_push, gone_push, tells_new}, RunsLaws.{later, marks}, StepsLaws.{Attends, ahead_more, anchored_broken, attends_in, began_on, counted_now, gone_read, held_alone, held_on, keeps_by, means_more, means_some, never_waits, no_fault_shown, nobody_moves, none_told, same_live, some_none, tells_none, up_to_more}}}
use Rattle.pm_outside.specs.Added.{Added}

-- the same rows and number, in at most so many bytes
abbrev pub Same : ℕ → Standing → Files → Type 0
Same most one image = ∥ MeansWithin most image one ∥₁

-- Whatever content the log lives with, a stop leaves the same.
abbrev pub StaysWithin : Live → RowMap → List (List Change) → (most from to : ℕ) → (before : Files → Type 0) → (now : ℕ → Files → Type 0) → Files → Type 0
StaysWithin live rows staged most from to before now files = (h : HasRows live rows staged files before) → Throughout from to now (Same most (standing_of h.content))

-- and then it lives with the same rows and number
abbrev pub RestsStill : (live new : Live) → RowMap → List (List Change) → (before now : Files → Type 0) → (files files_now : Files) → Type 0
RestsStill live new rows staged before now files files_now = (s : Standing) → RestsAt live rows staged files before s → ∥ RestsAt new rows staged files_now now s ∥₁

-- all that such a call says, for the history
pub record Remakes (before now : Moment) (live new : Live) (most : ℕ) : Type 0 where
  pub generation : now.generation ≡ before.generation
  pub commits : now.commits ≡ before.commits
  pub inside : now.inside ≡ before.inside
  pub read : before.live ≡ Some live
  pub unbroken : live.log.since ≡ None
  pub fronts : live.front ≡ live.log.count + length before.staged
  pub staged : now.staged ≡ before.staged
  pub front : new.front ≡ live.front
  pub needs : new.needs ≡ live.needs
  pub read_now : now.live ≡ Some new
  pub kept : new.kept ≡ live.kept
  pub limit : new.log.limit ≡ live.log.limit
  pub first : new.epoch ≡ live.epoch
  pub count : new.log.count ≡ live.log.count
  pub rows : now.rows ≡ before.rows
  pub time : GoesOn before.ticks now.ticks before.images now.images
  pub later : before.faults ≤ now.faults
  pub tells : before.files ≡ None → now.files ≡ None
  pub through : IfSome before.files (StaysWithin live before.rows before.staged most before.ticks now.ticks (before.images before.ticks) now.images)

-- the laws of books that it keeps: of ticks, and of the rows' bytes
pub record Laws : Type 0 where
  pub past : PastStays
  pub present : PresentIsWhole
  pub within : RowsAreWithinNeeds

-- a file of the store's rows alone isn't longer than the log may have become
pub rows_fit : Laws → (base : Base) (at : Moment) (live : Live) (book : List BookEntry) → HasGone base at live book → bytes_of_rows at.rows ≤ base.bytes + needs_of book
rows_fit laws base at live book is =
    let h = history_of base book in
    let rows : at.rows ≡ (number h (count_of h)).rows = is.rows_are ∙ ap (λ (s : Standing). s.rows) (sym (whole_number h)) in
    omega (arith, laws.within base book (count_of h), ap bytes_of_rows rows, is.base_fits)

-- ---- what a stop leaves

module _ (before now : Moment) (live new : Live) (most : ℕ) (call : Remakes before now live new most) (origin : Origin) (base : Base) (book : List BookEntry) (seen : Files) (told : before.files ≡ Some seen) where
  abbrev h : History
  h = history_of base book

  lives_at : HasHeld origin base before book → ∥ RestsAt live before.rows before.staged seen (before.images before.ticks) (number h live.log.count) ∥₁
  lives_at held = subst (λ (f : Option Files). IfSome f (λ files. ∥ RestsAt live before.rows before.staged files (before.images before.ticks) (number h live.log.count) ∥₁)) told (held.anchored live call.read call.unbroken)

  -- it lives with the number that it lived with
  pub anchored_still : new.log.since ≡ None → TellsStill (RestsStill live new before.rows before.staged (before.images before.ticks) (now.images now.ticks)) before.files now.files → HasHeld origin base before book → IsAnchored now (history_of base book)
  anchored_still whole lives held = λ l r w. each l (same_live now.live l new r call.read_now) now.files
      (subst (λ (f : Option Files). TellsStill (RestsStill live new before.rows before.staged (before.images before.ticks) (now.images now.ticks)) f now.files) told lives) (lives_at held)
    where
      each : (l : Live) → l ≡ new → (f : Option Files) → TellsStill (RestsStill live new before.rows before.staged (before.images before.ticks) (now.images now.ticks)) (Some seen) f
          → ∥ RestsAt live before.rows before.staged seen (before.images before.ticks) (number h live.log.count) ∥₁
          → IfSome f (λ files. ∥ RestsAt l now.rows now.staged files (now.images now.ticks) (number h l.log.count) ∥₁)
      each l same None lives r = tt
      each l same (Some files_now) lives r = ∥∥₁_elim r ∥∥₁_prop (λ rests. ∥∥₁_map (lives (number h live.log.count) rests) (λ then.
          subst (λ (m : Live). RestsAt m now.rows now.staged files_now (now.images now.ticks) (number h m.log.count)) (sym same)
          (subst (λ (n : ℕ). RestsAt new now.rows now.staged files_now (now.images now.ticks) (number h n)) (sym call.count)
          (subst (λ (x : List (List Change)). RestsAt new now.rows x files_now (now.images now.ticks) (number h live.log.count)) (sym call.staged)
          (subst (λ (r : RowMap). RestsAt new r before.staged files_now (now.images now.ticks) (number h live.log.count)) (sym call.rows) then)))))

  pub remade_held : Laws → (new.mark ≡ live.mark) ⊎ (new.mark ≡ now.ticks) → HasGone base before live book → most ≤ most_bytes base book → IsAnchored now (history_of base book) → HasHeld origin base before book → HasHeld origin base now book
  remade_held laws mark is fits anchored held =
      let within : live.log.count ≤ count_of h = omega (arith, call.fronts, is.count_is call.unbroken) in
      let through : Throughout before.ticks now.ticks now.images (Same most (number h live.log.count)) = λ t after upto image there.
      ∥∥₁_elim (lives_at held) ∥∥₁_prop (λ a. subst (λ (s : Standing). Same most s image) a.is
      (subst (λ (f : Option Files). IfSome f (StaysWithin live before.rows before.staged most before.ticks now.ticks (before.images before.ticks) now.images)) told call.through a.has t after upto image there)) in
      let holds : (image : Files) → Same most (number h live.log.count) image → HoldsFrom (MeansWithin most) live.log.count h image =
      λ image same. ∥∥₁_map same (λ m. (live.log.count, omega arith, within, m)) in
      let flushed = keeps_by origin base before live book call.read held in
      let still = later laws.past laws.present base book held.start live.mark before.ticks live.log.count before.images flushed now.ticks now.images call.time
      (λ t after upto image there. means_some most h live.log.count image (holds image (through t after upto image there))) in
      let run : Keeps Means base book held.start new.mark now.ticks live.log.count now.images = elim mark [
        | inl same ↦ subst (λ (m : ℕ). Keeps Means base book held.start m now.ticks live.log.count now.images) (sym same) still
        | inr moved ↦ subst (λ (m : ℕ). Keeps Means base book held.start m now.ticks live.log.count now.images) (sym moved)
            (marks laws.past laws.present base book held.start live.mark now.ticks live.log.count now.images still live.log.count (omega arith) flushed.whole
            (λ image there. means_some most h live.log.count image (holds image (through now.ticks call.time.later (omega arith) image there))))
      ] in
      held_on origin base before now new book book call.read_now call.time held
      (subst (λ (n : ℕ). Keeps Means base book held.start new.mark now.ticks n now.images) (sym call.count) run)
      (λ image there. subst (λ (n : ℕ). HoldsFrom (MeansWithin (most_bytes base book)) n h image) (sym call.count)
      (means_more most (most_bytes base book) h live.log.count image fits (holds image (through now.ticks call.time.later (omega arith) image there))))
      anchored

-- ---- nothing is noted

-- where it leaves the log as it is, but for a file that may be made
pub record LeavesLog (live new : Live) : Type 0 where
  pub whole : new.log.since ≡ None
  pub closed : new.closed ≡ live.closed
  pub epoch : new.log.epoch ≡ live.log.epoch
  pub end : new.log.end ≡ live.log.end
  pub mark : new.mark ≡ live.mark

pub remakes : Laws → (before now : Moment) (live new : Live) → Remakes before now live new (live.log.end + 1) → LeavesLog live new
    → TellsStill (RestsStill live new before.rows before.staged (before.images before.ticks) (now.images now.ticks)) before.files now.files → Added [] before.book now.book → Moves [] before now
remakes laws before now live new call leaves lives notes = record {
  spans = record {
    notes = notes;
    time = call.time;
    later = call.later;
    counts = λ from counted. record {
      counted = counted_now from before.faults now.faults 0 before.live now.live new call.later call.read_now (subst (IsShownAt from now.faults) (sym leaves.whole) tt) counted;
      each = All-nil (IsShown from now.faults);
    };
    waits = never_waits [] before now live call.read notes call.tells;
    goes_on = λ origin base told. gone_read [] before now live origin base call.read call.generation notes call.tells
        (λ book is gone. (new, subst (HasGone base now new) (sym (append-nil book)) (goes base book gone)))
        (λ book seen told gone held. subst (HasHeld origin base now) (sym (append-nil book))
        (remade_held before now live new (live.log.end + 1) call origin base book seen told laws (inl leaves.mark) gone (omega (arith, gone.fits call.unbroken))
        (anchored_still before now live new (live.log.end + 1) call origin base book seen told leaves.whole lives held) held)) told;
  };
  generation = call.generation;
  commits = call.commits;
  attends = nobody_moves [] before now call.inside (λ who n. refl);
  unread = unread_never [] before now live new call.read call.read_now;
  staged = up_to_more whole_of before.live now.live live new call.read call.read_now (omega (arith, call.front));
  flushed = up_to_more flushed_of before.live now.live live new call.read call.read_now (omega (arith, call.count));
  began = began_on before.live now.live live new call.read call.read_now call.first;
  ahead = ahead_more before.live now.live live new 0 call.read call.read_now call.first (λ unbroken. (call.unbroken, omega (arith, leaves.epoch)));
}
  where
    goes : (base : Base) (book : List BookEntry) → HasGone base before live book → HasGone base now new book
    goes base book is = record {
      read = call.read_now;
      legal = is.legal;
      begun = subst (λ (n : ℕ). 1 ≤ n) (sym call.generation) is.begun;
      generation = is.generation ∙ sym call.generation;
      attended = subst (λ (l : List ℕ). IsAttendedBy l book) (sym call.inside) is.attended;
      redone = is.redone ∙ ap (λ (n : ℕ). Some n) (sym call.kept);
      closed = is.closed ∙ sym leaves.closed;
      broken = tells_none new.log.since new.faults (faults_here book) leaves.whole (none_told live.log.since live.faults (faults_here book) call.unbroken is.broken);
      known = λ since broke. absurd (some_none since (sym broke ∙ leaves.whole));
      rows_are = call.rows ∙ is.rows_are;
      count_is = λ open_log. call.front ∙ is.count_is call.unbroken;
      behind = λ open_log. ap (λ (n : ℕ). drop (n - base.count) (history_of base book).commits) call.count ∙ is.behind call.unbroken ∙ sym call.staged;
      base_is = is.base_is;
      base_fits = is.base_fits;
      based = omega (arith, is.based, call.count);
      acked = omega (arith, is.acked, call.count);
      fits = λ open_log. omega (arith, leaves.end, call.needs, is.fits call.unbroken);
      limit = call.limit ∙ is.limit;
      in_time = omega (arith, is.in_time, leaves.mark);
      marked = omega (arith, is.marked, call.time.later, leaves.mark);
      counted = record { later = omega (arith, is.counted.later, call.later); each = each_later before.faults now.faults (faults_of book) call.later is.counted.each };
    }

-- ---- a checkpoint was made

-- the log goes on from another base, in the next epoch
pub record MovesLog (before now : Moment) (live new : Live) (most : ℕ) (clean : Bool) : Type 0 where
  pub whole : new.log.since ≡ None
  pub closed : new.closed ≡ live.closed || clean
  pub next : new.log.epoch ≡ live.log.epoch + 1
  pub mark : new.mark ≡ now.ticks
  pub fits : (base : Base) (book : List BookEntry) → HasGone base before live book → (most ≤ most_bytes base book) × (new.log.end + 1 + new.needs ≤ most_bytes base book)
  pub anchored : (origin : Origin) (base : Base) (book : List BookEntry) (seen : Files) → before.files ≡ Some seen → HasGone base before live book → HasHeld origin base before book → IsAnchored now (history_of base book)

pub checkpoints : Laws → (before now : Moment) (live new : Live) (most pid : ℕ) (clean : Bool) → Remakes before now live new most → MovesLog before now live new most clean → Attends pid before.book
    → Added (CheckpointEnded pid true clean ∷ []) before.book now.book → Moves (CheckpointEnded pid true clean ∷ []) before now
checkpoints laws before now live new most pid clean call moves inside notes = record {
  spans = record {
    notes = notes;
    time = call.time;
    later = call.later;
    counts = λ from counted. record {
      counted = counted_now from before.faults now.faults 0 before.live now.live new call.later call.read_now (subst (IsShownAt from now.faults) (sym moves.whole) tt) counted;
      each = no_fault_shown from now.faults entry tt;
    };
    waits = never_waits (entry ∷ []) before now live call.read notes call.tells;
    goes_on = λ origin base told. gone_read (entry ∷ []) before now live origin base call.read call.generation notes call.tells
        (λ book is gone. (new, goes base book is gone))
        (λ book seen told gone held. held_alone laws.past laws.present origin base now book entry (ap (λ (r : Option ℕ). history_after r (history_of base book) entry) gone.redone) (λ start mark. tt) (λ t. refl)
        (remade_held before now live new most call origin base book seen told laws (inr moves.mark) gone (moves.fits base book gone).0 (moves.anchored origin base book seen told gone held) held)) told;
  };
  generation = call.generation;
  commits = call.commits;
  attends = nobody_moves (entry ∷ []) before now call.inside (λ who n. refl);
  unread = unread_never (entry ∷ []) before now live new call.read call.read_now;
  staged = up_to_more whole_of before.live now.live live new call.read call.read_now (omega (arith, call.front));
  flushed = up_to_more flushed_of before.live now.live live new call.read call.read_now (omega (arith, call.count));
  began = began_on before.live now.live live new call.read call.read_now call.first;
  ahead = ahead_more before.live now.live live new 1 call.read call.read_now call.first (λ unbroken. (call.unbroken, moves.next));
}
  where
    entry : BookEntry
    entry = CheckpointEnded pid true clean

    goes : (base : Base) (book : List BookEntry) → before.book ≡ Some book → HasGone base before live book → HasGone base now new (book ++ entry ∷ [])
    goes base book told is =
        gone_push base now new book entry (history_of base book) call.read_now is.legal (is.generation ∙ sym call.generation)
        (record {
          not_gone = tt;
          may = record { attached = attends_in pid before.book book told inside; made = sym (ap is_some is.redone) };
          begun = subst (λ (n : ℕ). 1 ≤ n) (sym call.generation) is.begun;
          generation = λ n. refl;
          attended = subst (λ (l : List ℕ). IsAttendedBy l (book ++ entry ∷ [])) (sym call.inside) (attended_still before.inside book entry (λ who n. refl) is.attended);
          redone = ap (λ (r : Option ℕ). kept_after r entry) is.redone ∙ ap (λ (n : ℕ). Some n) (sym call.kept);
          closed_is = any_push ends_cleanly (present book) entry live.closed clean is.closed refl ∙ sym moves.closed;
          history_is = ap (λ (r : Option ℕ). history_after r (history_of base book) entry) is.redone;
          in_time = omega (arith, is.in_time, is.marked, call.time.later, moves.mark);
          marked = omega (arith, moves.mark);
          based = omega (arith, is.based, call.count);
          acked = omega (arith, is.acked, call.count);
          behind = λ open_log. ap (λ (n : ℕ). drop (n - base.count) (history_of base book).commits) call.count ∙ is.behind call.unbroken ∙ sym call.staged;
          each = each_later before.faults now.faults (faults_of book) call.later is.counted.each;
          base_fits = is.base_fits;
        })
        (tells_none new.log.since new.faults (fault_here (faults_here book) entry) moves.whole (ap (λ (f : Option (List (ℕ × ℕ))). fault_here f entry) (none_told live.log.since live.faults (faults_here book) call.unbroken is.broken)))
        (λ since broke. absurd (some_none since (sym broke ∙ moves.whole)))
        (call.rows ∙ is.rows_are) (λ open_log. call.front ∙ is.count_is call.unbroken) is.base_is
        (λ open_log. (moves.fits base book is).1) (call.limit ∙ is.limit) (omega (arith, is.counted.later, call.later))

-- ---- the disk failed at it

-- the log is broken
pub record BreaksLog (before now : Moment) (live new : Live) (since : ℕ) : Type 0 where
  pub broke : new.log.since ≡ Some since
  pub closed : new.closed ≡ live.closed
  pub mark : new.mark ≡ live.mark
  pub fault : new.faults ≡ now.faults
  pub rose : Rose before.faults now.faults
  pub small : now.faults < 2 ^ 64

pub breaks : Laws → (before now : Moment) (live new : Live) (most pid since : ℕ) → Remakes before now live new most → BreaksLog before now live new since → ((base : Base) (book : List BookEntry) → HasGone base before live book → most ≤ most_bytes base book)
    → Attends pid before.book → Added (Broke pid since now.faults ∷ []) before.book now.book → Moves (Broke pid since now.faults ∷ []) before now
breaks laws before now live new most pid since call broken fits inside notes = record {
  spans = record {
    notes = notes;
    time = call.time;
    later = call.later;
    counts = λ from counted.
        let risen : Rose from now.faults = omega (arith, counted.later, broken.rose) in record {
          counted = counted_now from before.faults now.faults 0 before.live now.live new call.later call.read_now (subst (IsShownAt from now.faults) (sym broken.broke) risen) counted;
          each = no_fault_shown from now.faults entry risen;
        };
    waits = never_waits (entry ∷ []) before now live call.read notes call.tells;
    goes_on = λ origin base told. gone_read (entry ∷ []) before now live origin base call.read call.generation notes call.tells
        (λ book is gone. (new, goes base book is gone))
        (λ book seen told gone held. held_alone laws.past laws.present origin base now book entry (ap (λ (r : Option ℕ). history_after r (history_of base book) entry) gone.redone) (λ start mark. tt) (λ t. refl)
        (remade_held before now live new most call origin base book seen told laws (inl broken.mark) gone (fits base book gone) (anchored_broken now (history_of base book) new since call.read_now broken.broke) held)) told;
  };
  generation = call.generation;
  commits = call.commits;
  attends = nobody_moves (entry ∷ []) before now call.inside (λ who n. refl);
  unread = unread_never (entry ∷ []) before now live new call.read call.read_now;
  staged = up_to_more whole_of before.live now.live live new call.read call.read_now (omega (arith, call.front));
  flushed = up_to_more flushed_of before.live now.live live new call.read call.read_now (omega (arith, call.count));
  began = began_on before.live now.live live new call.read call.read_now call.first;
  ahead = ahead_more before.live now.live live new 0 call.read call.read_now call.first (λ unbroken. absurd (some_none since (sym broken.broke ∙ unbroken)));
}
  where
    entry : BookEntry
    entry = Broke pid since now.faults

    goes : (base : Base) (book : List BookEntry) → before.book ≡ Some book → HasGone base before live book → HasGone base now new (book ++ entry ∷ [])
    goes base book told is =
        let here : faults_here book ≡ Some [] = none_told live.log.since live.faults (faults_here book) call.unbroken is.broken in
        let fresh = tells_new base.faults before.faults now.faults (faults_of book) is.counted.later is.counted.each broken.rose call.later broken.small in
        gone_push base now new book entry (history_of base book) call.read_now is.legal (is.generation ∙ sym call.generation)
        (record {
          not_gone = tt;
          may = record {
            attached = attends_in pid before.book book told inside;
            fault = subst (λ (f : Option (List (ℕ × ℕ))). TellsFault base book f since now.faults) (sym here) fresh;
          };
          begun = subst (λ (n : ℕ). 1 ≤ n) (sym call.generation) is.begun;
          generation = λ n. refl;
          attended = subst (λ (l : List ℕ). IsAttendedBy l (book ++ entry ∷ [])) (sym call.inside) (attended_still before.inside book entry (λ who n. refl) is.attended);
          redone = ap (λ (r : Option ℕ). kept_after r entry) is.redone ∙ ap (λ (n : ℕ). Some n) (sym call.kept);
          closed_is = any_still ends_cleanly (present book) entry live.closed is.closed refl ∙ sym broken.closed;
          history_is = ap (λ (r : Option ℕ). history_after r (history_of base book) entry) is.redone;
          in_time = omega (arith, is.in_time, broken.mark);
          marked = omega (arith, is.marked, call.time.later, broken.mark);
          based = omega (arith, is.based, call.count);
          acked = omega (arith, is.acked, call.count);
          behind = λ open_log. absurd (some_none since (sym broken.broke ∙ open_log));
          each = each_push before.faults now.faults since (faults_of book) call.later is.counted.each;
          base_fits = is.base_fits;
        })
        (subst (λ (s : Option ℕ). TellsBreak s new.faults (fault_here (faults_here book) entry)) (sym broken.broke)
        ((since, now.faults), [], ap (λ (f : Option (List (ℕ × ℕ))). fault_here f entry) here, (0, omega arith, ap (λ (n : ℕ). (since, n)) (sym broken.fault))))
        (λ tick was. omega (arith, broken.fault))
        (call.rows ∙ is.rows_are) (λ open_log. absurd (some_none since (sym broken.broke ∙ open_log))) is.base_is
        (λ open_log. absurd (some_none since (sym broken.broke ∙ open_log))) (call.limit ∙ is.limit) (omega (arith, is.counted.later, call.later))
