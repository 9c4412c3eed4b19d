-- Statements that are added to a script keep its limits.
use Rattle.std.{proofs.{Common.{◌≡◌, ℕ, ◌+◌, ◌-◌, ◌<◌, ◌≤◌, cond, List, [], ◌∷◌, ◌++◌, length, get_or, take, drop, sym, ap, ◌∙◌, subst, append_assoc, take-append-drop, arith}, lemmas.List.{length-drop, take_all, take_more, Sums.{sum_by-append, count_by-le-length}, Elements.{All-append, All-take}}, Math.Seq.take-append_seam}, specs.List.All}
use Rattle.pm_sql.specs.{declared.stmt.Stmt.Stmt, Limits.{is_writing, HasShortValue, IsWithinScriptLimits}}
use Rattle.pm_xact.specs.Block.{max_block_statements}

pub within_front : (front more : List Stmt) → IsWithinScriptLimits (front ++ more) → IsWithinScriptLimits front
within_front front more within =
    let counted = sum_by-append (λ stmt. cond (is_writing stmt) 1 0) front more in
    let few = within.writing in
    record { writing = omega (arith, counted, few); values = subst (All HasShortValue) (take-append_seam front more) (All-take HasShortValue (length front) (front ++ more) within.values) }

pub within_both : (front more : List Stmt) → IsWithinScriptLimits front → IsWithinScriptLimits more → length (front ++ more) ≤ max_block_statements → IsWithinScriptLimits (front ++ more)
within_both front more first second few =
    let counted = count_by-le-length is_writing (front ++ more) in
    record { writing = omega (arith, counted, few); values = All-append HasShortValue front more first.values second.values }

-- one statement more of those that are added
pub one_more : (old stmts script : List Stmt) (i : ℕ) (stmt : Stmt) → i < length stmts → script ≡ old ++ take i stmts → stmt ≡ get_or stmts i stmt → script ++ stmt ∷ [] ≡ old ++ take (i + 1) stmts
one_more old stmts script i stmt below so_far own =
    ap (λ t. t ++ stmt ∷ []) so_far
    ∙ append_assoc old (take i stmts) (stmt ∷ [])
    ∙ ap (λ t. old ++ t) (ap (λ s. take i stmts ++ s ∷ []) own ∙ sym (take_more stmts i stmt below))

pub within_more : (old stmts : List Stmt) (i : ℕ) → IsWithinScriptLimits (old ++ stmts) → IsWithinScriptLimits (old ++ take i stmts)
within_more old stmts i within = within_front (old ++ take i stmts) (drop i stmts) (subst IsWithinScriptLimits (ap (λ t. old ++ t) (sym (take-append-drop i stmts)) ∙ sym (append_assoc old (take i stmts) (drop i stmts))) within)

-- what stands before the statements that are missing, these, and some more
pub added_within : (script earlier more e s three four : List Stmt) → e ≡ earlier → three ≡ script → four ≡ e → s ≡ more → take (length earlier) script ≡ earlier → IsWithinScriptLimits script → IsWithinScriptLimits more
    → length (script ++ more) ≤ max_block_statements → IsWithinScriptLimits (e ++ take (length three - length four) (drop (length four) three) ++ s)
added_within script earlier more e s three four front now held given first own added few =
    let left = length-drop (length earlier) script in
    let rest : take (length script - length earlier) (drop (length earlier) script) ≡ drop (length earlier) script = take_all (length script - length earlier) (drop (length earlier) script) (omega (arith, left)) in
    let whole : earlier ++ take (length script - length earlier) (drop (length earlier) script) ≡ script =
    ap (λ l. earlier ++ l) rest ∙ ap (λ l. l ++ drop (length earlier) script) (sym first) ∙ take-append-drop (length earlier) script in
    let same : (e ++ take (length three - length four) (drop (length four) three)) ++ s ≡ script ++ more =
    ap (λ l. (l ++ take (length three - length four) (drop (length four) three)) ++ s) front
    ∙ ap (λ l. (earlier ++ take (length l - length four) (drop (length four) l)) ++ s) now
    ∙ ap (λ l. (earlier ++ take (length script - length l) (drop (length l) script)) ++ s) (held ∙ front)
    ∙ ap (λ l. (earlier ++ take (length script - length earlier) (drop (length earlier) script)) ++ l) given
    ∙ ap (λ l. l ++ more) whole in
    subst IsWithinScriptLimits (sym same) (within_both script more own added few)
