-- Why `run` and `seen` answer what they do.
use Rattle.std.specs.Prelude.{◌≡◌, ◌≢◌, ◌⊎◌, ℕ, ◌^◌, ◌-◌, ◌<◌, ◌≤◌, List, [], ◌∷◌, ◌++◌, Option, None, Some, Result, Ok, Err}
use Rattle.pm_query.specs.{pm_rows.{Fold.RowMap, declared.commit.Change.Change}, pm_sql.declared.stmt.Stmt.Stmt, Answer.commit_of, Book.need_of, declared.store.{Seen.{Seen, TheVariants.{NotFlushed, Released}}, Staged.Staged, StoreNo.{StoreNo, TheVariants.{Broken, Disk, Full, NoMemory}}}}
use Rattle.pm_log.specs.Log.{room_of}
use Rattle.pm_store_apart.specs.{Fronts.{flushed_of, whole_of}, Moment.Moment, Redos.IsBroken, declared.{commits.Commits.Commits, live.Live.Live}}
use Rattle.pm_store_apart.specs.declared.commits.Commits.TheVariants as ways

-- the log goes on after a redo, and the disk hasn't failed since
pub record IsUnbroken (live : Option Live) : Type 0 where
  pub its : Live
  pub read : live ≡ Some its
  pub unbroken : its.log.since ≡ None

-- ---- `seen`

-- it is flushed up to this front
pub record HasFlushed (live : Option Live) (front : ℕ) : Type 0 where
  pub its : Live
  pub read : live ≡ Some its
  pub flushed : front ≤ flushed_of its

-- it is flushed less far, up to here
pub record HasNotFlushed (live : Option Live) (front flushed : ℕ) (since : Option ℕ) : Type 0 where
  pub its : Live
  pub read : live ≡ Some its
  pub since_is : its.log.since ≡ since
  pub flushed_is : flushed ≡ flushed_of its
  pub less : flushed < front

-- What is flushed is released, also where the log is broken. Otherwise the log tells how far it is flushed, or its fault.
abbrev pub SeenCause : Option Live → ℕ → Result Seen StoreNo → Type 0
SeenCause live front (Ok Released) = HasFlushed live front
SeenCause live front (Ok (NotFlushed flushed)) = HasNotFlushed live front flushed None
SeenCause live front (Err (Broken since)) = (flushed : ℕ) × HasNotFlushed live front flushed (Some since)
SeenCause live front (Err NoMemory) = Unit {0}
SeenCause live front (Err _) = ⊥

-- ---- `run`

-- A log that goes on has no room for this commit: fewer bytes than it needs, after all that is staged, or its numbers are
-- spent.
pub record IsFull (live : Option Live) (commit : List Change) (need room : ℕ) : Type 0 where
  pub its : Live
  pub read : live ≡ Some its
  pub unbroken : its.log.since ≡ None
  pub need_is : need ≡ need_of commit
  pub room_is : (room ≡ room_of its.log - its.needs) ⊎ ((whole_of its ≡ 2 ^ 64 - 1) × (room ≡ 0))

-- The disk and the log answer a script that leaves something to commit, and only where the log wasn't broken before: the
-- disk where commits are written at once. One that was left broken tells its fault.
abbrev pub RunCause : Moment → List Stmt → Result Staged StoreNo → Type 0
RunCause at script (Ok staged) = IsUnbroken at.live
RunCause at script (Err Disk) = IsUnbroken at.live × (commit_of at.rows script ≢ []) × (at.commits ≡ ways.AtOnce)
RunCause at script (Err (Broken since)) = IsBroken at.live since
RunCause at script (Err (Full need room)) = IsFull at.live (commit_of at.rows script) need room × (commit_of at.rows script ≢ [])
RunCause at script (Err NoMemory) = Unit {0}
RunCause at script (Err _) = ⊥

-- disk and log change for a commit that was taken, or at which the disk failed, alone
abbrev pub MakesNoCall : RowMap → List Stmt → Result Staged StoreNo → Type 0
MakesNoCall rows script (Ok staged) = commit_of rows script ≡ []
MakesNoCall rows script (Err Disk) = ⊥
MakesNoCall rows script (Err _) = Unit {0}

-- with a commit more, where commits are staged; one without changes is none
abbrev pub with_staged : Commits → List (List Change) → List Change → List (List Change)
with_staged ways.AtOnce staged commit = staged
with_staged ways.Staged staged [] = staged
with_staged ways.Staged staged (change ∷ changes) = staged ++ (change ∷ changes) ∷ []

-- what is staged after the call
abbrev pub staged_behind : Moment → List Stmt → Result Staged StoreNo → List (List Change)
staged_behind at script (Ok staged) = with_staged at.commits at.staged (commit_of at.rows script)
staged_behind at script (Err _) = at.staged
