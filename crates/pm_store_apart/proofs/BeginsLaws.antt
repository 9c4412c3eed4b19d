-- Scripts that are run, or refused.
use Rattle.std.proofs.Common.{◌≡◌, ◌≢◌, ℕ, List, [], Option, Some, Result, Ok, Err, refl, sym, ◌∙◌, subst}
use Rattle.pm_query.specs.{pm_sql.declared.stmt.Stmt.Stmt, pm_rows.{declared.commit.Change.Change, Fold.RowMap}, Answer.commit_of, Calls.{RunNotes, user_of}, declared.{book.BookEntry.BookEntry, store.{Staged.Staged, StoreNo.{StoreNo, TheVariants.{Broken, Disk, Full, NoMemory, Redo, Stale}}}}}
use Rattle.pm_store_apart.specs.declared.commits.Commits.TheVariants as ways
use Rattle.pm_store_apart.{proofs.WaitingLaws.never_both, specs.{declared.{apart.Apart.Apart, commits.Commits.Commits, live.Live.Live, pass.Pass.Pass}, Apart.Grows, Begun.HasRun, Causes.{IsFull, IsUnbroken, RunCause, staged_behind, with_staged}, Moment.{KeepsLog, Moment, alone, over_as}, Passes.view_of, Redos.IsBroken}}

-- one that memory was short for
pub no_memory : {D B : Type 0} {g h : _} (way : Commits) (before now : Apart D B g h) (seen : Pass) (script : List Stmt) → Grows [] before now → KeepsLog before now → HasRun way before now seen seen script (Err NoMemory)
no_memory way before now seen script grows keeps = record {
  entries = [];
  grows = grows;
  notes = refl;
  fresh = tt;
  view = tt;
  refused = refl;
  short = tt;
  cause = λ disk. tt;
  early = tt;
  rest = λ none. keeps;
  staged = λ disk. keeps.2;
}

-- one without changes stages none
pub stages_none : (way : Commits) (staged : List (List Change)) (commit : List Change) → commit ≡ [] → with_staged way staged commit ≡ staged
stages_none ways.AtOnce staged commit none = refl
stages_none ways.Staged staged commit none = subst (λ (c : List Change). with_staged ways.Staged staged c ≡ staged) (sym none) refl

-- where commits are staged, the disk is no cause
pub cause_over : {D B : Type 0} {g h : _} (way : Commits) (disk : D) (apart : Apart D B g h) (script : List Stmt) (result : Result Staged StoreNo) → RunCause (alone apart) script result → RunCause (over_as way disk apart) script result
cause_over way disk apart script (Ok staged) cause = cause
cause_over way disk apart script (Err Disk) cause = absurd (never_both cause.2)
cause_over way disk apart script (Err (Broken since)) cause = cause
cause_over way disk apart script (Err (Full need room)) cause = cause
cause_over way disk apart script (Err NoMemory) cause = tt
cause_over way disk apart script (Err (Redo fault)) cause = cause
cause_over way disk apart script (Err (Stale mine found)) cause = cause

-- ---- a commit that is written at once

pub notes_as : (script other : List Stmt) (generation others : ℕ) (pass seen : Pass) (result : Result Staged StoreNo) (entries : List BookEntry) → script ≡ other → generation ≡ others → pass ≡ seen
    → RunNotes (user_of (Some generation) (view_of pass)) script result entries → RunNotes (user_of (Some others) (view_of seen)) other result entries
notes_as script other generation others pass seen result entries one two three notes =
    subst (λ (s : List Stmt). RunNotes (user_of (Some others) (view_of seen)) s result entries) one
    (subst (λ (n : ℕ). RunNotes (user_of (Some n) (view_of seen)) script result entries) two
    (subst (λ (p : Pass). RunNotes (user_of (Some generation) (view_of p)) script result entries) three notes))

pub cause_as : (at now : Moment) (script other : List Stmt) (result : Result Staged StoreNo) → now.live ≡ at.live → now.rows ≡ at.rows → now.commits ≡ at.commits → other ≡ script → RunCause now other result → RunCause at script result
cause_as at now script other (Ok staged) live rows way same cause = subst IsUnbroken live cause
cause_as at now script other (Err Disk) live rows way same cause = (
  subst IsUnbroken live cause.0,
  subst (λ (s : List Stmt). commit_of at.rows s ≢ []) same (subst (λ (r : RowMap). commit_of r other ≢ []) rows cause.1),
  sym way ∙ cause.2,
)
cause_as at now script other (Err (Broken since)) live rows way same cause = subst (λ (l : Option Live). IsBroken l since) live cause
cause_as at now script other (Err (Full need room)) live rows way same cause = (
  subst (λ (s : List Stmt). IsFull at.live (commit_of at.rows s) need room) same
      (subst (λ (r : RowMap). IsFull at.live (commit_of r other) need room) rows (subst (λ (l : Option Live). IsFull l (commit_of now.rows other) need room) live cause.0)),
  subst (λ (s : List Stmt). commit_of at.rows s ≢ []) same (subst (λ (r : RowMap). commit_of r other ≢ []) rows cause.1),
)
cause_as at now script other (Err NoMemory) live rows way same cause = tt
cause_as at now script other (Err (Redo fault)) live rows way same cause = cause
cause_as at now script other (Err (Stale mine found)) live rows way same cause = cause

-- nothing is ever staged
pub staged_never : (at : Moment) (script : List Stmt) (result : Result Staged StoreNo) (now : List (List Change)) → at.commits ≡ ways.AtOnce → at.staged ≡ [] → now ≡ [] → now ≡ staged_behind at script result
staged_never at script (Ok staged) now way none none_now = none_now ∙ sym (subst (λ (w : Commits). with_staged w at.staged (commit_of at.rows script) ≡ []) (sym way) none)
staged_never at script (Err refusal) now way none none_now = none_now ∙ sym none
