-- What is told of a run of a server.
use Rattle.std.specs.Prelude.{◌≡◌, List, Some}
use Rattle.pm_server.specs.{pm_disk.Files.Files, Views.DiskView, Outside.OutsideView}
use Rattle.pm_session_answers.specs.{pm_query.declared.book.BookEntry.BookEntry, Replies.Talk}

-- at the end the book tells, and the disk tells its files
pub record IsTold (now : OutsideView) (book : List BookEntry) : Type 0 where
  pub book_is : now.book ≡ Some book
  pub files : Files
  pub files_are : now.disk.files ≡ Some files

-- A run by its book, its connections as their clients saw them, and the disk before it and at its end. `clean` is that it ended
-- clean.
pub record RunView : Type 1 where
  pub book : List BookEntry
  pub talks : List Talk
  pub before : DiskView
  pub now : DiskView
  pub clean : Type 0
