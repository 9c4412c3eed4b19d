-- A run whose book is told has its story.
use Rattle.std.{proofs.Common.{◌≡◌, List, [], Option, Some, subst}, specs.Prelude.IfSome}
use Rattle.pm_server.specs.{pm_query.declared.book.BookEntry.BookEntry, declared.{conf.Conf.Conf, end.ServerEnd.ServerEnd}, Outside.OutsideView, Story.IsStory}
use Rattle.pm_once.specs.Once.{IsOnceRun}
use Rattle.pm_promises.specs.Runs.{IsTold}

pub its_story : (conf : Conf) (end : ServerEnd) (before now : OutsideView) → IsOnceRun conf end before now → before.book ≡ Some [] → (book : List BookEntry)
    → IsTold now book → IsStory end before.disk now.disk book
its_story conf end before now run empty book told =
    subst (λ (o : Option (List BookEntry)). IfSome o (IsStory end before.disk now.disk)) told.book_is (run.story empty)
