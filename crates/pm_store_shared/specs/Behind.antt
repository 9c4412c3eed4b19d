-- What holds of a store after the entries so far.
use Rattle.std.specs.Prelude.{◌≡◌, ◌⊎◌, true, false, List, None, IfSome}
use Rattle.pm_disk.specs.declared.disk.Disk as Disk
use Rattle.pm_segment.specs.{pm_record.OnDisk.GoesOn, pm_query.{declared.book.BookEntry.BookEntry, Book.generation_of}, declared.segment.Segment.Segment, Children.IsAttendedBy, Moment.{Moment, moment}, Moves.CountsEntries, Stands.{Begins, WaitsFrom}, Unread.{has_break, has_redo}}

-- The store stands after these entries, from the disk as it got it. Where its book tells, the book is these entries. Children
-- are inside as often as the entries attach them, each fault among them was counted, and what a stop could leave before is as
-- it was. Before the first redo the files read as the store got them, unless a fault is among the entries. What held of the
-- beginning holds still, or that redo has come.
pub record BehindAt {D : Type 0} (g : Disk.Ghosts D) (first : D) (log : List BookEntry) (at : Moment) : Type 0 where
  pub told : IfSome at.book (λ book. book ≡ log)
  pub generation : generation_of log ≡ at.generation
  pub attended : IsAttendedBy at.inside log
  pub time : GoesOn (g.ticks first) at.ticks (g.images first) at.images
  pub counts : CountsEntries (g.faults first) log at.faults at.live
  pub unread : has_redo log ≡ false → (at.live ≡ None) × ((has_break log ≡ true) ⊎ (at.files ≡ g.seen first))
  pub stands : WaitsFrom (record { files = g.seen first; tick = g.ticks first; faults = g.faults first }) at
      ⊎ Begins (record { files = g.seen first; tick = g.ticks first; faults = g.faults first }) at

abbrev pub Behind : {D B : Type 0} {g h : _} → D → List BookEntry → Segment D B g h → Type 0
Behind {g = g} first log store = BehindAt g first log (moment store)
