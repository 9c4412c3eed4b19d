-- How a query text is read from left to right: its statements in order, or the first fault. No public contract cites this.
use Rattle.std.specs.Prelude.{ℕ, zero, suc, ◌-◌, Bool, true, false, if◌then◌else◌, ◌==◌, List, [], ◌∷◌, ◌++◌, length, count_by, Result, Ok, Err, nat_lt, codes}
use Rattle.pm_sql.specs.{declared.{stmt.Stmt.Stmt, fault.{Kind.{Kind, TheVariants.{Syntax, TooMany}}, Fault.Fault}, query.SqlFault.SqlFault}, Limits.is_writing, Tokens.{skipped, behind_word, behind_mark}, Reading.{◌>>=◌, fault_at}, Grammar.{or_else, insert_at, update_at, delete_at, select_at}}
use Rattle.pm_rows.specs.Limits.{max_changes}
use Rattle.pm_sql.specs.declared.fault.Kind.TheVariants as kinds
use Rattle.pm_sql.specs.declared.query.SqlFault.TheVariants as faults

-- a statement that writes, where there is room for one more after so many
abbrev pub if_room : {A : Type 0} → ℕ → List ℕ → Result A Fault → Result A Fault
if_room writing here read = if nat_lt writing max_changes then read else Err (fault_at TooMany here)

-- the statement that begins here, after so many that write
unfoldable pub stmt_at : ℕ → List ℕ → Result (Stmt × List ℕ) Fault
stmt_at writing here =
    or_else (behind_word (codes "insert") here) (λ rest. if_room writing here (insert_at rest))
    (or_else (behind_word (codes "update") here) (λ rest. if_room writing here (update_at rest))
    (or_else (behind_word (codes "delete") here) (λ rest. if_room writing here (delete_at rest))
    (or_else (behind_word (codes "select") here) select_at
    (Err (fault_at Syntax here)))))

-- whether a statement may end here: at a `;` or at the end
abbrev pub may_end : List ℕ → Bool
may_end [] = true
may_end (byte ∷ rest) = byte == 59

-- after a statement
unfoldable pub end_at : List ℕ → Result (List ℕ) Fault
end_at input = if may_end (skipped input) then Ok (skipped input) else Err (fault_at Syntax (skipped input))

abbrev pub is_at_end : List ℕ → Bool
is_at_end [] = true
is_at_end (byte ∷ rest) = false

-- after the statements so far, in at most so many steps, of which each takes a `;` or a statement
unfoldable pub script_within : ℕ → List Stmt → List ℕ → Result (List Stmt) Fault
script_within zero done input = Ok done
script_within (suc steps) done input =
    let here = skipped input in
    if is_at_end here then Ok done
    else or_else (behind_mark 59 here) (script_within steps done)
    (stmt_at (count_by is_writing done) here >>= (λ found. end_at found.1 >>= (λ rest. script_within steps (done ++ found.0 ∷ []) rest)))

-- the script of a text. Each step takes a byte at least
unfoldable pub script_of : List ℕ → Result (List Stmt) Fault
script_of text = script_within (length text) [] text

-- a fault of this kind at this place of the text
abbrev pub told : Kind → ℕ → SqlFault
told kinds.Syntax place = faults.Syntax place
told kinds.Table place = faults.Table place
told kinds.Range place = faults.Range place
told kinds.TooLong place = faults.TooLong place
told kinds.TooMany place = faults.TooMany place

-- what a fault is in the whole text
abbrev pub fault_in : List ℕ → Fault → SqlFault
fault_in text fault = told fault.kind (length text - fault.left)
