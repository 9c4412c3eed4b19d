-- What a user counts on of any run of a server, by what it leaves: its book, its links and its files. What its journal says is
-- RestartsInOrder of the supervisor.
use Rattle.std.specs.{Prelude.{◌≡◌, ◌⊎◌, true, List, IfSome}, List.AllByRecursion}
use Rattle.pm_server.specs.{pm_record.Pair.MeansIn, pm_segment.Unread.breaks_unread, Views.DiskView, Story.IsNoAnswer}
use Rattle.pm_session_answers.specs.{pm_query.{declared.book.BookEntry.BookEntry, Book.{Base, history_of, standing_of}}, Replies.AnswersAreRight}
use Rattle.pm_promises.specs.{Ends.EndsClean, Runs.RunView, Stops.{AcknowledgedStays, WholeOrNot}}

-- The base is what the files meant that were handed in, unless a fault of the disk stands in the book before its first redo,
-- or nothing was answered.
abbrev pub IsBaseOf : Base → List BookEntry → (before : DiskView) → Type 0
IsBaseOf base book before =
    AllByRecursion IsNoAnswer book
    ⊎ ((breaks_unread book ≡ true) ⊎ IfSome before.files (λ files. MeansIn files (standing_of base) base.bytes))

-- All of one history, which begins with this base.
pub record IsPromised (base : Base) (run : RunView) : Type 0 where
  pub base_is : IsBaseOf base run.book run.before
  -- every reply that was sent is right
  pub answers_are_right : AnswersAreRight (history_of base run.book) run.talks
  -- what was acknowledged stays
  pub acknowledged_stays : AcknowledgedStays base run.book run.before run.now
  -- a commit is in the rows as a whole, or not at all
  pub whole_or_not : WholeOrNot base run.book run.before run.now
  -- a clean end leaves files of all commits
  pub ends_clean : EndsClean run.clean (history_of base run.book) run.now
