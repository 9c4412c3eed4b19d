-- What was noted before the first redo had ended.
use Rattle.std.specs.{Prelude.{Bool, true, false, List, [], ◌∷◌}, List.list_any}
use Rattle.pm_query.specs.declared.book.BookEntry.{BookEntry, TheVariants.{Broke, Redone}}

abbrev pub is_redo : BookEntry → Bool
is_redo (Redone pid generation kept) = true
is_redo _ = false

abbrev pub is_break : BookEntry → Bool
is_break (Broke pid since faults) = true
is_break _ = false

-- a redo has ended
abbrev pub has_redo : List BookEntry → Bool
has_redo entries = list_any is_redo entries

-- the disk has failed
abbrev pub has_break : List BookEntry → Bool
has_break entries = list_any is_break entries

-- the disk has failed before the first redo had ended
abbrev pub breaks_unread : List BookEntry → Bool
breaks_unread [] = false
breaks_unread (Redone pid generation kept ∷ book) = false
breaks_unread (Broke pid since faults ∷ book) = true
breaks_unread (_ ∷ book) = breaks_unread book
