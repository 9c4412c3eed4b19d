-- Laws of legal books.
use Rattle.std.specs.Prelude.{◌≡◌, ℕ, ◌+◌, ◌≤◌, List, [], ◌∷◌, ◌++◌, Some, sum_by}
use Rattle.pm_rows.specs.{declared.commit.Change.Change, Fold.{RowMap, folded}, LogSize.commit_length, Size.size_of}
use Rattle.pm_query.specs.{declared.book.BookEntry.{BookEntry, TheVariants.Redone}, History.{count_of, number}, Book.{Base, IsLegal, history_of, kept_by_redo, needs_of}}

-- in a legal book no more commits are acknowledged than there are
abbrev pub AckedIsWithin : Type 0
AckedIsWithin = (base : Base) (book : List BookEntry) → IsLegal base book → (history_of base book).acked ≤ count_of (history_of base book)

-- whatever follows, no commit that was acknowledged is so no longer
abbrev pub AckedNeverFalls : Type 0
AckedNeverFalls = (base : Base) (book behind : List BookEntry) → (history_of base book).acked ≤ (history_of base (book ++ behind)).acked

-- Whatever follows in a legal book, a redo among it, each number up to the acknowledged one stays what it is.
abbrev pub AcknowledgedStays : Type 0
AcknowledgedStays = (base : Base) (book behind : List BookEntry) (n : ℕ) → IsLegal base (book ++ behind) → n ≤ (history_of base book).acked
    → number (history_of base (book ++ behind)) n ≡ number (history_of base book) n

-- a redo that repeats one of its generation changes nothing
abbrev pub RepeatChangesNothing : Type 0
RepeatChangesNothing = (base : Base) (book : List BookEntry) (pid generation count first : ℕ) → kept_by_redo book ≡ Some first
    → history_of base (book ++ Redone pid generation count ∷ []) ≡ history_of base book

-- commits add to the rows no more bytes than they take in the log
abbrev pub CommitsAddTheirBytes : Type 0
CommitsAddTheirBytes = (rows : RowMap) (commits : List (List Change)) → size_of (folded rows commits) ≤ size_of rows + sum_by commit_length commits

-- the rows of each number of a history are at most as large as those of the base and all answered commits
abbrev pub RowsAreWithinNeeds : Type 0
RowsAreWithinNeeds = (base : Base) (book : List BookEntry) (n : ℕ) → size_of (number (history_of base book) n).rows ≤ size_of base.rows + needs_of book
