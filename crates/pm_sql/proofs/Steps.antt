-- Steps of reading a script.
use Rattle.std.{proofs.{Common.{◌≡◌, ℕ, suc, ◌+◌, ◌-◌, ◌<◌, ◌≤◌, Bool, true, false, cond, ◌==◌, List, [], ◌∷◌, ◌++◌, length, count_by, Some, None, Result, Ok, Err, refl, sym, ap, ◌∙◌, arith}, lemmas.{List.{Sums.sum_by_push, Elements.All-push}, Bool.Decides.nat_tests}}, specs.Bool.IsTrue}
use Rattle.pm_sql.specs.{declared.{stmt.Stmt.Stmt, fault.{Fault.Fault, Stop.Stop}}, Limits.{is_writing, HasShortValue, IsWithinScriptLimits}, Tokens.{skipped, behind_mark}, Reading.Fails, Query.{stmt_at, end_at, is_at_end, script_within}}
use Rattle.pm_rows.specs.Limits.{max_changes}
use Rattle.pm_sql.specs.declared.fault.Stop.TheVariants as stops

-- what a loop over a text keeps: what is read from here on is what is read of the whole
pub record IsReading (steps : ℕ) (script : List Stmt) (rest : List ℕ) (writing : ℕ) (whole : Result (List Stmt) Fault) : Type 0 where
  pub read : script_within steps script rest ≡ whole
  pub counted : writing ≡ count_by is_writing script
  pub limits : IsWithinScriptLimits script

pub not_zero : (n : ℕ) → suc n == 0 ≡ false
not_zero n = grind (arith, nat_tests)

pub at_end : (here : List ℕ) (b : Bool) → length here == 0 ≡ b → is_at_end here ≡ b
at_end [] b e = e
at_end (x ∷ xs) b e = sym (not_zero (length xs)) ∙ e

one_step : (n i : ℕ) → i < n → n - i ≡ suc (n - (i + 1))
one_step n i h = omega arith

-- a `;` was taken
pub behind_semicolon : (n i : ℕ) (done : List Stmt) (input behind : List ℕ) (writing : ℕ) (whole : Result (List Stmt) Fault) → i < n → is_at_end (skipped input) ≡ false → behind_mark 59 (skipped input) ≡ Some behind
    → IsReading (n - i) done input writing whole → IsReading (n - (i + 1)) done behind writing whole
unfolding script_within
behind_semicolon n i done input behind writing whole h more mark is =
    let one : script_within (n - i) done input ≡ script_within (n - (i + 1)) done behind = rw (one_step n i h, more, mark) refl in
    record { read = sym one ∙ is.read; counted = is.counted; limits = is.limits }

one_more : (b : Bool) (n : ℕ) → (IsTrue b → n < max_changes) → n ≤ max_changes → n + cond b 1 0 ≤ max_changes
one_more true n room small = let more : n < max_changes = room refl in omega arith
one_more false n room small = omega arith

pub with_stmt_limits : (script : List Stmt) (stmt : Stmt) → IsWithinScriptLimits script → HasShortValue stmt → (IsTrue (is_writing stmt) → count_by is_writing script < max_changes) → IsWithinScriptLimits (script ++ stmt ∷ [])
with_stmt_limits script stmt is short room = record {
  writing = rw (sum_by_push (λ s. cond (is_writing s) 1 0) script stmt) (one_more (is_writing stmt) (count_by is_writing script) room is.writing);
  values = All-push HasShortValue script stmt is.values short;
}

-- a statement was taken
pub behind_stmt : (n i : ℕ) (done : List Stmt) (input behind rest : List ℕ) (stmt : Stmt) (writing next : ℕ) (whole : Result (List Stmt) Fault) → i < n → is_at_end (skipped input) ≡ false → behind_mark 59 (skipped input) ≡ None
    → stmt_at writing (skipped input) ≡ Ok (stmt, behind) → end_at behind ≡ Ok rest → IsWithinScriptLimits (done ++ stmt ∷ []) → next ≡ writing + cond (is_writing stmt) 1 0
    → IsReading (n - i) done input writing whole → IsReading (n - (i + 1)) (done ++ stmt ∷ []) rest next whole
unfolding script_within
behind_stmt n i done input behind rest stmt writing next whole h more mark e f limits count is =
    let e' : stmt_at (count_by is_writing done) (skipped input) ≡ Ok (stmt, behind) = ap (λ w. stmt_at w (skipped input)) (sym is.counted) ∙ e in
    let one : script_within (n - i) done input ≡ script_within (n - (i + 1)) (done ++ stmt ∷ []) rest = rw (one_step n i h, more, mark, e', f) refl in
    record { read = sym one ∙ is.read; counted = count ∙ ap (λ w. w + cond (is_writing stmt) 1 0) is.counted ∙ sym (sum_by_push (λ s. cond (is_writing s) 1 0) done stmt); limits = limits }

-- a fault in a statement, and one after it
pub fault_in_stmt : (stop : Stop) (n i : ℕ) (done : List Stmt) (input : List ℕ) (writing : ℕ) (whole : Result (List Stmt) Fault) → i < n → is_at_end (skipped input) ≡ false → behind_mark 59 (skipped input) ≡ None
    → Fails stop (stmt_at writing (skipped input)) → IsReading (n - i) done input writing whole → Fails stop whole
unfolding script_within
fault_in_stmt stops.NoMemory n i done input writing whole h more mark e is = tt
fault_in_stmt (stops.Fault fault) n i done input writing whole h more mark e is =
    let e' : stmt_at (count_by is_writing done) (skipped input) ≡ Err fault = ap (λ w. stmt_at w (skipped input)) (sym is.counted) ∙ e in
    let one : script_within (n - i) done input ≡ Err fault = rw (one_step n i h, more, mark, e') refl in
    sym is.read ∙ one

pub fault_behind_stmt : (stop : Stop) (n i : ℕ) (done : List Stmt) (input behind : List ℕ) (stmt : Stmt) (writing : ℕ) (whole : Result (List Stmt) Fault) → i < n → is_at_end (skipped input) ≡ false → behind_mark 59 (skipped input) ≡ None
    → stmt_at writing (skipped input) ≡ Ok (stmt, behind) → Fails stop (end_at behind) → IsReading (n - i) done input writing whole → Fails stop whole
unfolding script_within
fault_behind_stmt stops.NoMemory n i done input behind stmt writing whole h more mark e f is = tt
fault_behind_stmt (stops.Fault fault) n i done input behind stmt writing whole h more mark e f is =
    let e' : stmt_at (count_by is_writing done) (skipped input) ≡ Ok (stmt, behind) = ap (λ w. stmt_at w (skipped input)) (sym is.counted) ∙ e in
    let one : script_within (n - i) done input ≡ Err fault = rw (one_step n i h, more, mark, e', f) refl in
    sym is.read ∙ one

-- nothing is left, or no step
pub is_done : (n i : ℕ) (done : List Stmt) (input : List ℕ) (writing : ℕ) (whole : Result (List Stmt) Fault) → i < n → is_at_end (skipped input) ≡ true → IsReading (n - i) done input writing whole → whole ≡ Ok done
unfolding script_within
is_done n i done input writing whole h end is =
    let one : script_within (n - i) done input ≡ Ok done = rw (one_step n i h, end) refl in
    sym is.read ∙ one

no_step : (n i : ℕ) → n ≤ i → n - i ≡ 0
no_step n i h = omega arith

pub is_out_of_steps : (n i : ℕ) (done : List Stmt) (input : List ℕ) (writing : ℕ) (whole : Result (List Stmt) Fault) → n ≤ i → IsReading (n - i) done input writing whole → whole ≡ Ok done
unfolding script_within
is_out_of_steps n i done input writing whole h is =
    let one : script_within (n - i) done input ≡ Ok done = rw (no_step n i h) refl in
    sym is.read ∙ one
