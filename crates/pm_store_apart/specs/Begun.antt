-- What running a script comes to, apart from the disk.
use Rattle.std.specs.Prelude.{◌≡◌, ◌≢◌, ◌+◌, ◌<◌, ◌≤◌, ◌^◌, false, cond, List, [], length, All, None, Some, IfOk, OnErr, Result, Ok, Err}
use Rattle.pm_query.specs.{pm_sql.declared.stmt.Stmt.Stmt, Calls.{ReachesNoLess, RunNotes, with_front}, Limits.HasShortValues, declared.{book.BookEntry.BookEntry, store.{Staged.Staged, StoreNo.StoreNo}}}
use Rattle.pm_store_apart.specs.{declared.{apart.Apart.Apart, commit.Begun.Begun, commits.Commits.{Commits, TheVariants.AtOnce}, live.Live.Live, pass.Pass.Pass, ran.Ran.Ran}, Answers.IsAnswerOn, Apart.Grows, Causes.{MakesNoCall, RunCause, staged_behind}, Moment.{KeepsLog, alone, over_as}, Passes.{user_in, view_of}, ReadsApart.AnswersEarly}
use Rattle.pm_store_apart.specs.declared.commit.Begun.TheVariants as begun

-- A script was run, or refused, where commits are written in this way.
pub record HasRun {D B : Type 0} {g h : _} (ways : Commits) (before now : Apart D B g h) (seen sees : Pass) (script : List Stmt) (result : Result Staged StoreNo) : Type 0 where
  pub entries : List BookEntry
  pub grows : Grows entries before now
  pub notes : RunNotes (user_in (alone before) seen) script result entries
  pub fresh : IfOk result (λ staged. ReachesNoLess (view_of seen) staged.front)
  pub view : IfOk result (λ staged. view_of sees ≡ with_front staged.front (view_of seen))
  pub refused : OnErr result (view_of sees ≡ view_of seen)
  pub short : IfOk result (λ staged. All HasShortValues staged.reply)
  pub cause : (disk : D) → RunCause (over_as ways disk before) script result
  pub early : IfOk result (λ staged. AnswersEarly (alone before) seen.front script staged.front)
  pub rest : MakesNoCall (alone before).rows script result → KeepsLog before now
  pub staged : (disk : D) → (alone now).staged ≡ staged_behind (over_as ways disk before) script result

-- It has a commit, which the log may take. Nothing has changed.
pub record MayCommit {D B : Type 0} {g h : _} (before now : Apart D B g h) (script : List Stmt) (live : Live) (ran : Ran) : Type 0 where
  pub grows : Grows [] before now
  pub keeps : KeepsLog before now
  pub read : now.live ≡ Some live
  pub unbroken : live.log.since ≡ None
  pub unclosed : live.closed ≡ false
  pub number : live.front + 1 < 2 ^ 64
  pub script_is : ran.script ≡ script
  pub answer : IsAnswerOn now.rows ran
  pub some : ran.commit ≢ []
  pub room : length now.inside + cond now.lent 1 0 + 2 ≤ h.spare now.book

-- The one or the other: a commit is left where it is to be written at once.
abbrev pub HasBegun : {D B : Type 0} {g h : _} → Commits → (before now : Apart D B g h) → (seen sees : Pass) → List Stmt → Result Begun StoreNo → Type 0
HasBegun ways before now seen sees script (Ok (begun.Answered staged)) = HasRun ways before now seen sees script (Ok staged)
HasBegun ways before now seen sees script (Ok (begun.Commits live ran)) = MayCommit before now script live ran × (sees ≡ seen) × (ways ≡ AtOnce)
HasBegun ways before now seen sees script (Err refusal) = HasRun ways before now seen sees script (Err refusal)
