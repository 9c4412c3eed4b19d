-- Tokens are accepted exactly where they are a query.
use Rattle.std.proofs.{Common.{◌≡◌, ℕ, zero, suc, ◌+◌, ◌<◌, ◌≤◌, Bool, true, false, cond, List, [], ◌∷◌, ◌++◌, length, count_by, refl, sym, ap, ◌∙◌, subst, append_assoc, length-append, arith}, lemmas.List.{append-nil, Sums.{sum_by-cons, sum_by-append, sum_by_push}}}
use Rattle.pm_rows.specs.Limits.{max_changes}
use Rattle.pm_sql.{specs.{declared.{stmt.Stmt.{Stmt, TheVariants.{Insert, Update, Delete, Select, Count, Sleep}}, fault.Kind.{Kind, TheVariants.TooMany}}, Limits.is_writing, Token.{Token, Word, Digits, Quoted, Mark}, Statements.{Keeps, mark, IsStatement, AreSemicolons, IsMore, AreStatements, IsQuery}}, proofs.{Lexer.eq_of_test, Forms.{is_mark, ends, start, inside}, Accepts.Accepts, Spoken.{stmt_in, StmtOut, stmt_out}}}

-- ---- counting

count_of : (done : List Stmt) (stmt : Stmt) (stmts : List Stmt) → count_by is_writing (done ++ stmt ∷ stmts) ≡ count_by is_writing done + (cond (is_writing stmt) 1 0 + count_by is_writing stmts)
count_of done stmt stmts = sum_by-append (λ s. cond (is_writing s) 1 0) done (stmt ∷ stmts) ∙ ap (λ n. count_by is_writing done + n) (sum_by-cons (λ s. cond (is_writing s) 1 0) stmt stmts)

room : (done : List Stmt) (stmt : Stmt) (stmts : List Stmt) → count_by is_writing (done ++ stmt ∷ stmts) ≤ max_changes → is_writing stmt ≡ true → count_by is_writing done < max_changes
room done stmt stmts small writes =
    let one : ◌≡◌ {A = ℕ} (cond (is_writing stmt) 1 0) 1 = ap (λ t. cond t 1 0) writes in
    let all = count_of done stmt stmts in
    omega (arith, small, one, all)

count_push : (done : List Stmt) (stmt : Stmt) → (is_writing stmt ≡ true → count_by is_writing done < max_changes) → count_by is_writing done ≤ max_changes → count_by is_writing (done ++ stmt ∷ []) ≤ max_changes
count_push done stmt free small = by_writing (is_writing stmt) refl where
  by_writing : (b : Bool) → is_writing stmt ≡ b → count_by is_writing (done ++ stmt ∷ []) ≤ max_changes
  by_writing true e =
      let one : ◌≡◌ {A = ℕ} (cond (is_writing stmt) 1 0) 1 = ap (λ t. cond t 1 0) e in
      let more : count_by is_writing done < max_changes = free e in
      let all = sum_by_push (λ s. cond (is_writing s) 1 0) done stmt in
      omega (arith, one, all)
  by_writing false e =
      let none : ◌≡◌ {A = ℕ} (cond (is_writing stmt) 1 0) 0 = ap (λ t. cond t 1 0) e in
      let all = sum_by_push (λ s. cond (is_writing s) 1 0) done stmt in
      omega (arith, none, all)

-- ---- a query is accepted

semicolons_in : (kept : Kind) (done stmts : List Stmt) (semicolons ts : List Token) → AreSemicolons semicolons → Accepts kept done start ts stmts → Accepts kept done start (semicolons ++ ts) stmts
semicolons_in kept done stmts [] ts is a = a
semicolons_in kept done stmts (t ∷ semicolons) ts (e, is) a = rw e (tt, semicolons_in kept done stmts semicolons ts is a)

only_semicolons : (kept : Kind) (done : List Stmt) (semicolons : List Token) → AreSemicolons semicolons → Accepts kept done start semicolons done
only_semicolons kept done semicolons is = subst (λ ts. Accepts kept done start ts done) (append-nil semicolons) (semicolons_in kept done done semicolons [] is refl)

more_in : (kept : Kind) (stmts : List Stmt) (done : List Stmt) (stmt : Stmt) (tokens : List Token) → IsMore kept tokens stmts → Keeps kept TooMany (count_by is_writing (done ++ stmt ∷ stmts) ≤ max_changes)
    → Accepts kept done (inside (ends stmt)) tokens (done ++ stmt ∷ stmts)
more_in kept [] done stmt [] is few = refl
more_in kept [] done stmt (t ∷ tokens) (e, is) few = rw e (tt, only_semicolons kept (done ++ stmt ∷ []) tokens is)
more_in kept (next ∷ stmts) done stmt tokens (semicolons, first, more, are, is, rest, e) few =
    let same : (done ++ stmt ∷ []) ++ next ∷ stmts ≡ done ++ stmt ∷ next ∷ stmts = append_assoc done (stmt ∷ []) (next ∷ stmts) in
    let fewer : Keeps kept TooMany (count_by is_writing ((done ++ stmt ∷ []) ++ next ∷ stmts) ≤ max_changes) = λ h. subst (λ s. count_by is_writing s ≤ max_changes) (sym same) (few h) in
    let behind = stmt_in kept (done ++ stmt ∷ []) ((done ++ stmt ∷ []) ++ next ∷ stmts) first more next is (λ h. room (done ++ stmt ∷ []) next stmts (fewer h)) (more_in kept stmts (done ++ stmt ∷ []) next more rest fewer) in
    let all = semicolons_in kept (done ++ stmt ∷ []) ((done ++ stmt ∷ []) ++ next ∷ stmts) semicolons (first ++ more) are behind in
    rw e (tt, subst (λ ts. Accepts kept (done ++ stmt ∷ []) start ts (done ++ stmt ∷ next ∷ stmts)) (sym (append_assoc semicolons first more)) (subst (λ s. Accepts kept (done ++ stmt ∷ []) start (semicolons ++ (first ++ more)) s) same all))

pub query_in : (kept : Kind) (tokens : List Token) (stmts : List Stmt) → IsQuery kept tokens stmts → Accepts kept [] start tokens stmts
query_in kept tokens [] (is, few) = only_semicolons kept [] tokens is
query_in kept tokens (stmt ∷ stmts) ((semicolons, first, more, are, is, rest, e), few) =
    let behind = stmt_in kept [] (stmt ∷ stmts) first more stmt is (λ h. room [] stmt stmts (few h)) (more_in kept stmts [] stmt more rest few) in
    rw e (subst (λ ts. Accepts kept [] start ts (stmt ∷ stmts)) (sym (append_assoc semicolons first more)) (semicolons_in kept [] (stmt ∷ stmts) semicolons (first ++ more) are behind))

-- ---- what is accepted is a query

query_from_more : (kept : Kind) (tokens : List Token) (stmts : List Stmt) → IsMore kept tokens stmts → AreStatements kept tokens stmts
query_from_more kept tokens [] is = is
query_from_more kept tokens (stmt ∷ stmts) (semicolons, first, more, a, b, c, e) = (mark ";" ∷ semicolons, first, more, (refl, a), b, c, e)

with_semicolon : (kept : Kind) (tokens : List Token) (stmts : List Stmt) → AreStatements kept tokens stmts → IsMore kept (mark ";" ∷ tokens) stmts
with_semicolon kept tokens [] is = (refl, is)
with_semicolon kept tokens (stmt ∷ stmts) (semicolons, first, more, a, b, c, e) = (semicolons, first, more, a, b, c, ap (λ t. mark ";" ∷ t) e)

-- what is accepted after statements, and how many of all of them write
abbrev QueryOut : Kind → List Stmt → List Token → List Stmt → Type 0
QueryOut kept done ts stmts = (rest : List Stmt) × (stmts ≡ done ++ rest) × AreStatements kept ts rest × Keeps kept TooMany (count_by is_writing done ≤ max_changes → count_by is_writing stmts ≤ max_changes)

-- the same after a statement
abbrev MoreOut : Kind → List Stmt → List Token → List Stmt → Type 0
MoreOut kept done ts stmts = (rest : List Stmt) × (stmts ≡ done ++ rest) × IsMore kept ts rest × Keeps kept TooMany (count_by is_writing done ≤ max_changes → count_by is_writing stmts ≤ max_changes)

is_semicolon : (t : Token) → is_mark 59 t ≡ true → t ≡ mark ";"
is_semicolon (Word own) e = cc e
is_semicolon (Digits digits) e = cc e
is_semicolon (Quoted content) e = cc e
is_semicolon (Mark byte) e = ap Mark (eq_of_test byte 59 e)

semicolon_out : (kept : Kind) (done : List Stmt) (t : Token) (ts : List Token) (stmts : List Stmt) → is_mark 59 t ≡ true → QueryOut kept done ts stmts → MoreOut kept done (t ∷ ts) stmts
semicolon_out kept done t ts stmts e (rest, same, is, few) = (rest, same, rw (is_semicolon t e) (with_semicolon kept ts rest is), few)

abbrev OutWithin : Kind → ℕ → Type 0
OutWithin kept n = (done : List Stmt) (ts : List Token) (stmts : List Stmt) → length ts ≤ n → Accepts kept done start ts stmts → QueryOut kept done ts stmts

-- where a statement ends
end_out : (kept : Kind) (n : ℕ) → OutWithin kept n → (done : List Stmt) (stmt : Stmt) (ts : List Token) (stmts : List Stmt) → length ts ≤ suc n → Accepts kept done (inside (ends stmt)) ts stmts → MoreOut kept (done ++ stmt ∷ []) ts stmts
end_out kept n out done stmt [] stmts small a =
    let same : done ++ stmt ∷ [] ≡ stmts = cc a in
    ([], sym same ∙ sym (append-nil (done ++ stmt ∷ [])), tt, λ h few. subst (λ s. count_by is_writing s ≤ max_changes) same few)
end_out kept n out done stmt (t ∷ ts) stmts small a = by_mark (is_mark 59 t) refl where
  by_mark : (b : Bool) → is_mark 59 t ≡ b → MoreOut kept (done ++ stmt ∷ []) (t ∷ ts) stmts
  by_mark true e = semicolon_out kept (done ++ stmt ∷ []) t ts stmts e (out (done ++ stmt ∷ []) ts stmts (omega arith) ((rw e at a).1))
  by_mark false e = absurd (rw e at a)

first_shorter : (kept : Kind) (ts first rest : List Token) (stmt : Stmt) → ts ≡ first ++ rest → IsStatement kept first stmt → length rest < length ts
first_shorter kept ts [] rest stmt e is = absurd (no_empty kept stmt is) where
  no_empty : (kept : Kind) (stmt : Stmt) → IsStatement kept [] stmt → ⊥
  no_empty kept (Insert key value) (name, string, columns, int, named, cols, is, short, e) = cc e
  no_empty kept (Update key value) (name, string, int, named, short, is, e) = cc e
  no_empty kept (Delete key) (name, int, named, is, e) = cc e
  no_empty kept (Select key) (name, cols, condition, order, named, c, is, ordered, e) = cc e
  no_empty kept Count (name, named, e) = cc e
  no_empty kept (Sleep seconds) (digits, v, range, e) = cc e
first_shorter kept ts (t ∷ first) rest stmt e is = let long : length ts ≡ suc (length (first ++ rest)) = ap length e in omega (arith, long, length-append first rest)

behind_stmt : (kept : Kind) (n : ℕ) → OutWithin kept n → (done : List Stmt) (ts : List Token) (stmts : List Stmt) → length ts ≤ suc n → StmtOut kept done stmts ts → QueryOut kept done ts stmts
behind_stmt kept n out done ts stmts small (first, rest, stmt, e, is, free, b) =
    let less = first_shorter kept ts first rest stmt e is in
    let (more, same, are, few) = end_out kept n out done stmt rest stmts (omega (arith, less, small)) b in
    (stmt ∷ more, same ∙ append_assoc done (stmt ∷ []) more, ([], first, rest, tt, is, are, e), λ h all. few h (count_push done stmt (free h) all))

by_first : (kept : Kind) (n : ℕ) → OutWithin kept n → (done : List Stmt) (t : Token) (ts : List Token) (stmts : List Stmt) → length ts ≤ n → Accepts kept done start (t ∷ ts) stmts → QueryOut kept done (t ∷ ts) stmts
by_first kept n out done t ts stmts small a = by_mark (is_mark 59 t) refl where
  by_mark : (b : Bool) → is_mark 59 t ≡ b → QueryOut kept done (t ∷ ts) stmts
  by_mark true e =
      let (rest, same, is, few) = semicolon_out kept done t ts stmts e (out done ts stmts small ((rw e at a).1)) in
      (rest, same, query_from_more kept (t ∷ ts) rest is, few)
  by_mark false e = behind_stmt kept n out done (t ∷ ts) stmts (omega arith) (stmt_out kept done stmts (t ∷ ts) (rw e at a))

query_out_within : (kept : Kind) (n : ℕ) → OutWithin kept n
query_out_within kept n done [] stmts small a = let same : done ≡ stmts = cc a in ([], sym same ∙ sym (append-nil done), tt, λ h few. subst (λ s. count_by is_writing s ≤ max_changes) same few)
query_out_within kept zero done (t ∷ ts) stmts small a = absurd (omega arith)
query_out_within kept (suc n) done (t ∷ ts) stmts small a = by_first kept n (query_out_within kept n) done t ts stmts (omega arith) a

pub query_out : (kept : Kind) (tokens : List Token) (stmts : List Stmt) → Accepts kept [] start tokens stmts → IsQuery kept tokens stmts
query_out kept tokens stmts a =
    let (rest, same, is, few) = query_out_within kept (length tokens) [] tokens stmts (omega arith) a in
    (subst (AreStatements kept tokens) (sym same) is, λ h. few h (omega arith))
