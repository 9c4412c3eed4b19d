-- What follows from what a store keeps.
use Rattle.std.{proofs.{Common.{◌≡◌, true, ℕ, inl, inr, List, [], length, Option, None, Some, refl, sym, ◌∙◌, ap, arith, true≢false}, Math.Logic.∥∥₁_map}, specs.Prelude.{IfSome, unwrap_or}}
use Rattle.pm_query.specs.{pm_disk.Files.Files, pm_record.Pair.Means, declared.book.BookEntry.BookEntry, Book.{Base, faults_here, history_of}, TickLaws.{PastStays, PresentIsWhole}, Durable.HoldsAcknowledged}
use Rattle.pm_store_apart.{specs.{declared.live.Live.Live, Redos.StandsAfresh, Runs.{IsReplay, IsRun, LeavesAcknowledged, StaysClean}, Stands.{GoesFrom, HasBegun, HasHeld, IsSure, Origin, TellsBreak}}, proofs.{RunsLaws.durable, StepsLaws.{gone_at, not_both}}}
use Rattle.pm_segment.specs.Moment.{Moment, Told}

-- where the book tells
book_then : (book : Option (List BookEntry)) (P Q : List BookEntry → Type 0) → ((list : List BookEntry) → P list → Q list) → IfSome book P → IfSome book Q
book_then None P Q step told = tt
book_then (Some list) P Q step told = step list told

-- where the disk tells as well
pub told_then : (book : Option (List BookEntry)) (files : Option Files) (P S Q : List BookEntry → Type 0) → ((list : List BookEntry) → P list → S list → Q list)
    → IfSome book P × IfSome book (λ list. IfSome files (λ seen. S list)) → IfSome book (λ list. IfSome files (λ seen. Q list))
told_then None files P S Q step told = tt
told_then (Some list) None P S Q step told = tt
told_then (Some list) (Some files) P S Q step told = step list told.0 told.1

pub is_replay : (at : Moment) (origin : Origin) (base : Base) → GoesFrom origin base at → IfSome at.book (λ book. IsSure at → IsReplay base at book)
is_replay at origin base told = book_then at.book (λ book. IsSure at → HasBegun base at book) (λ book. IsSure at → IsReplay base at book) (λ book begun sure. each book (begun sure)) told.0
  where
    each : (book : List BookEntry) → HasBegun base at book → IsReplay base at book
    each book (inl gone) = record {
      legal = gone.1.legal;
      rows_are = λ live read. gone.1.rows_are;
      count_is = λ live read. (gone_at base at live gone.0 book read gone.1).count_is;
    }
    each book (inr renewed) = record {
      legal = renewed.legal;
      rows_are = λ live read. absurd (not_both at.live live renewed.unread read);
      count_is = λ live read. absurd (not_both at.live live renewed.unread read);
    }

pub is_run : PastStays → PresentIsWhole → (at : Moment) (origin : Origin) (base : Base) → GoesFrom origin base at → Told at (IsRun origin base at)
is_run past present_whole at origin base told = told_then at.book at.files (λ book. IsSure at → HasBegun base at book) (HasHeld origin base at) (IsRun origin base at) (λ book gone held.
    durable past present_whole base book origin.tick held.start held.mark at.ticks held.flushed at.images at.images held.keeps held.begun held.opening) told

left_now : (at : Moment) (origin : Origin) (base : Base) (book : List BookEntry) → HasHeld origin base at book → (image : Files) → at.images at.ticks image → HoldsAcknowledged Means (history_of base book) image
left_now at origin base book held image there =
    ∥∥₁_map (held.keeps.since at.ticks held.keeps.marked (omega arith) image there) (λ h. (h.0, omega (arith, h.1, held.keeps.acked), h.2, h.3))

pub leaves_acknowledged : (at : Moment) (origin : Origin) (base : Base) → IfSome at.files (at.images at.ticks) → GoesFrom origin base at → Told at (LeavesAcknowledged base at)
leaves_acknowledged at origin base reads told = told_then at.book at.files (λ book. IsSure at → HasBegun base at book) (HasHeld origin base at) (LeavesAcknowledged base at) (λ book gone held. record {
  stops = left_now at origin base book held;
  reads = read at.files book (left_now at origin base book held) reads;
}) told
  where
    read : (files : Option Files) (book : List BookEntry) → ((image : Files) → at.images at.ticks image → HoldsAcknowledged Means (history_of base book) image) → IfSome files (at.images at.ticks) → IfSome files (HoldsAcknowledged Means (history_of base book))
    read None book left there = tt
    read (Some files) book left there = left files there

unbroken_of : (since : Option ℕ) (count : ℕ) (here : Option (List (ℕ × ℕ))) → here ≡ Some [] → TellsBreak since count here → since ≡ None
unbroken_of None count here none tells = refl
unbroken_of (Some since) count here none (first, rest, is, there) =
    absurd (omega (arith, ap (λ (h : Option (List (ℕ × ℕ))). length (unwrap_or h [])) (sym is ∙ none)))

-- a log that is closed, and goes on, is clean
pub stays_clean : (at : Moment)
    → ((live : Live) → at.live ≡ Some live → live.closed ≡ true → live.log.since ≡ None → IfSome at.files (λ files. ∥ StandsAfresh live.log.epoch true live at.rows files ∥₁))
    → (origin : Origin) (base : Base) → GoesFrom origin base at → IfSome at.book (λ book. IsSure at → StaysClean at book)
stays_clean at stands origin base told = book_then at.book (λ book. IsSure at → HasBegun base at book) (λ book. IsSure at → StaysClean at book) (λ book begun sure. each book (begun sure)) told.0
  where
    each : (book : List BookEntry) → HasBegun base at book → StaysClean at book
    each book (inl gone) = λ closed none.
        let live = gone.0 in
        let whole = unbroken_of live.log.since live.faults (faults_here book) none gone.1.broken in
        (live.log.epoch, (live, gone.1.read, whole, refl, stands live gone.1.read (sym gone.1.closed ∙ closed) whole))
    each book (inr renewed) = λ closed none. absurd (true≢false (sym closed ∙ renewed.unclosed))
