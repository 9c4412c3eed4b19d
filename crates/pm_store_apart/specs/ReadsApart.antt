-- Scripts that show nothing of what is staged, and at which number they are answered.
use Rattle.std.specs.{Prelude.{◌≡◌, ℕ, Bool, true, false, not, cond, ◌&&◌, List, Option, Some, IfSome, IsTrue, nat_le, unwrap_or}, List.list_all}
use Rattle.pm_query.specs.{pm_rows.declared.commit.Change.Change, pm_sql.declared.stmt.Stmt.Stmt}
use Rattle.pm_query.specs.pm_sql.declared.stmt.Stmt.TheVariants as stmts
use Rattle.pm_stage.specs.Naming.{is_named}
use Rattle.pm_store_apart.specs.{declared.live.Live.Live, Fronts.{flushed_of, whole_of}, Moment.Moment, Passes.IsFlushed}

-- whether a statement reads no row that a staged commit changes, and nothing else of what is staged
abbrev pub reads_apart : List (List Change) → Stmt → Bool
reads_apart staged (stmts.Select (Some key)) = not (is_named key staged)
reads_apart staged (stmts.Sleep seconds) = true
reads_apart staged _ = false

-- so does each statement of a script
abbrev pub ReadsApart : List (List Change) → List Stmt → Type 0
ReadsApart staged script = IsTrue (list_all (reads_apart staged) script)

-- Such a script is answered at the flushed number, where its pass has seen no later one: no flush has to come before its reply
-- may be sent.
abbrev pub AnswersEarly : Moment → Option ℕ → List Stmt → ℕ → Type 0
AnswersEarly at seen script front = ReadsApart at.staged script → IsFlushed seen at.live → IfSome at.live (λ live. front ≡ flushed_of live)

-- at which number a script is answered that commits nothing: that one, or that of all commits
abbrev pub read_front : List (List Change) → Option ℕ → Live → List Stmt → ℕ
read_front staged seen live script =
    cond (nat_le (unwrap_or seen 0) (flushed_of live) && list_all (reads_apart staged) script) (flushed_of live) (whole_of live)
