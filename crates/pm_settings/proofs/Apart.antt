-- A text that stands for session statements does so in one way, and spells no script.
use Rattle.std.{proofs.{Common.{◌≡◌, ℕ, inl, inr, Bool, true, false, cond, ◌==◌, ◌&&◌, ◌||◌, List, [], ◌∷◌, ◌++◌, map, length, Option, Some, None, codes, refl, sym, ap, ◌∙◌, subst, true≢false, arith}, lemmas.{Bool.eqb-true, Option.same_Some}}, specs.List.{AllZip, filter, slice_split, onto_first}}
use Rattle.pm_sql.specs.{declared.stmt.Stmt.{Stmt, TheVariants.{Insert, Update, Delete, Select, Count, Sleep}}, Token.{Token, in_lower_case}, Statements.{IsSelectColumns, IsQuery, IsQueryText, AreSemicolons}}
use Rattle.pm_sql.specs.Token as tokens
use Rattle.pm_sql.specs.Statements as scripts
use Rattle.pm_settings.{specs.{declared.{lexeme.Lexeme.{Lexeme, TheVariants.{Word, Digits, Quoted, Mark}}, statement.Statement.{Statement, TheVariants.{Set, Transaction, Reset, ResetAll, Show, DiscardAll, CloseAll, UnlistenAll, UnlockAll, Version, Number}}}, Lexemes.{lexeme_of, IsLexed, is_word, is_mark}, Statements.{IsStatement, is_semicolon, is_filled, AreStatements, IsSessionText}, Reading.statements_in, Laws.{OneReading, NoScript}}, proofs.{Lexings.one_lexing, ReadForms.statements_are, Accepted.statements_read}}

-- ---- one way

pub one_reading_law : OneReading
one_reading_law text statements others (lexemes, lexed, are) (besides, lexed', are') =
    let same = one_lexing text lexemes besides lexed lexed' in
    same_Some statements others (sym (statements_read lexemes statements are.0) ∙ ap statements_in same ∙ statements_read besides others are'.0)

-- ---- how texts begin, after semicolons

abbrev bare : List Lexeme → List Lexeme
bare [] = []
bare (lexeme ∷ lexemes) = cond (is_semicolon lexeme) (bare lexemes) (lexeme ∷ lexemes)

-- whether a script's SELECT goes on so
abbrev selects : List Lexeme → Bool
selects [] = false
selects (lexeme ∷ lexemes) = is_mark 42 lexeme || (is_word (codes "k") lexeme || (is_word (codes "count") lexeme || is_word (codes "pg_sleep") lexeme))

-- whether a statement of a script begins so, where anything stands
abbrev start_of : List Lexeme → Option Bool
start_of [] = None
start_of (lexeme ∷ lexemes) = Some (is_word (codes "insert") lexeme || (is_word (codes "update") lexeme || (is_word (codes "delete") lexeme || (is_word (codes "select") lexeme && selects lexemes))))

-- ---- session statements

starts : (piece rest front : List Lexeme) → start_of (front ++ rest) ≡ Some false → piece ≡ front → start_of (piece ++ rest) ≡ Some false
starts piece rest front is e = ap (λ p. start_of (p ++ rest)) e ∙ is

session_start : (piece rest : List Lexeme) (statement : Statement) → IsStatement piece statement → start_of (piece ++ rest) ≡ Some false
session_start piece rest (Set name value) (inl (scope, list, to, is, is_to, given, e)) = starts piece rest _ refl e
session_start piece rest (Set name value) (inr (inl (list, given, n, e))) = starts piece rest _ refl e
session_start piece rest (Set name value) (inr (inr (list, given, n, e))) = starts piece rest _ refl e
session_start piece rest (Transaction flag) (modes, flags, are, all, inl e) = starts piece rest _ refl e
session_start piece rest (Transaction flag) (modes, flags, are, all, inr e) = starts piece rest _ refl e
session_start piece rest (Reset name) (e, other) = starts piece rest _ refl e
session_start piece rest ResetAll e = starts piece rest _ refl e
session_start piece rest (Show name) (inl e) = starts piece rest _ refl e
session_start piece rest (Show name) (inr (inl (e, n))) = starts piece rest _ refl e
session_start piece rest (Show name) (inr (inr (e, n))) = starts piece rest _ refl e
session_start piece rest DiscardAll e = starts piece rest _ refl e
session_start piece rest CloseAll e = starts piece rest _ refl e
session_start piece rest UnlistenAll e = starts piece rest _ refl e
session_start piece rest UnlockAll e = starts piece rest _ refl e
session_start piece rest Version e = starts piece rest _ refl e
session_start piece rest (Number number) (digits, e, n, small) = starts piece rest _ refl e

-- the first of the parts stands in front
record Front (lexemes part : List Lexeme) : Type 0 where
  rest : List Lexeme
  split : lexemes ≡ part ++ rest

first_part : (lexemes part : List Lexeme) (parts : List (List Lexeme)) → slice_split is_semicolon lexemes ≡ part ∷ parts → Front lexemes part
first_part [] part parts e = let same : [] ≡ part = cc e in record { rest = []; split = ap (λ p. p ++ []) same }
first_part (lexeme ∷ lexemes) part parts e = by_test (λ other others e. first_part lexemes other others e) (is_semicolon lexeme) (slice_split is_semicolon lexemes) refl e where
  by_test : ((other : List Lexeme) (others : List (List Lexeme)) → slice_split is_semicolon lexemes ≡ other ∷ others → Front lexemes other) → (b : Bool) (others : List (List Lexeme)) → slice_split is_semicolon lexemes ≡ others → cond b ([] ∷ others) (onto_first lexeme others) ≡ part ∷ parts → Front (lexeme ∷ lexemes) part
  by_test inside true others f e = let same : [] ≡ part = cc e in record { rest = lexeme ∷ lexemes; split = ap (λ p. p ++ lexeme ∷ lexemes) same }
  by_test inside false [] f e = let same : lexeme ∷ [] ≡ part = cc e in record { rest = lexemes; split = ap (λ p. p ++ lexemes) same }
  by_test inside false (other ∷ others) f e =
      let same : lexeme ∷ other ≡ part = cc e in
      let front = inside other others f in
      record { rest = front.rest; split = ap (λ ls. lexeme ∷ ls) front.split ∙ ap (λ p. p ++ front.rest) same }

session_starts : (lexemes : List Lexeme) (statement : Statement) (more : List Statement) → AllZip IsStatement (filter is_filled (slice_split is_semicolon lexemes)) (statement ∷ more) → start_of (bare lexemes) ≡ Some false
session_starts [] statement more zip = absurd zip
session_starts (lexeme ∷ lexemes) statement more zip = by_test (λ zip. session_starts lexemes statement more zip) (is_semicolon lexeme) (slice_split is_semicolon lexemes) refl zip where
  by_test : (AllZip IsStatement (filter is_filled (slice_split is_semicolon lexemes)) (statement ∷ more) → start_of (bare lexemes) ≡ Some false) → (b : Bool) (others : List (List Lexeme)) → slice_split is_semicolon lexemes ≡ others → AllZip IsStatement (filter is_filled (cond b ([] ∷ others) (onto_first lexeme others))) (statement ∷ more)
      → start_of (cond b (bare lexemes) (lexeme ∷ lexemes)) ≡ Some false
  by_test inside true others f zip = inside (subst (λ parts. AllZip IsStatement (filter is_filled parts) (statement ∷ more)) (sym f) zip)
  by_test inside false [] f zip = session_start (lexeme ∷ []) lexemes statement zip.0
  by_test inside false (part ∷ others) f zip =
      let front = first_part lexemes part others f in
      ap (λ ls. start_of (lexeme ∷ ls)) front.split ∙ session_start (lexeme ∷ part) front.rest statement zip.0

-- ---- scripts

abbrev plain : Token → Lexeme
plain (tokens.Word letters) = Word letters
plain (tokens.Digits digits) = Digits digits
plain (tokens.Quoted content) = Quoted content
plain (tokens.Mark byte) = Mark byte

plain-lower : (token : Token) → lexeme_of token ≡ plain (in_lower_case token)
plain-lower (tokens.Word letters) = refl
plain-lower (tokens.Digits digits) = refl
plain-lower (tokens.Quoted content) = refl
plain-lower (tokens.Mark byte) = refl

plain_all : (ts : List Token) → map lexeme_of ts ≡ map plain (map in_lower_case ts)
plain_all [] = refl
plain_all (token ∷ ts) = ap (λ l. l ∷ map lexeme_of ts) (plain-lower token) ∙ ap (λ ls. plain (in_lower_case token) ∷ ls) (plain_all ts)

abbrev begun : List Token → List Token → Option Bool
begun first more = start_of (bare (map plain (first ++ more)))

script_start : (kept : _) (first more : List Token) (stmt : Stmt) → scripts.IsStatement kept first stmt → begun first more ≡ Some true
script_start kept first more (Insert key value) (name, string, columns, int, is_name, are, is_int, is_value, e) = ap (λ f. begun f more) e
script_start kept first more (Update key value) (name, string, int, is_name, is_value, is_int, e) = ap (λ f. begun f more) e
script_start kept first more (Delete key) (name, int, is_name, is_int, e) = ap (λ f. begun f more) e
script_start kept first more (Select key) (name, cols, condition, order, is_name, inl c, is_condition, is_order, e) =
    ap (λ f. begun f more) (e ∙ ap (λ cs. scripts.word "select" ∷ cs ++ scripts.word "from" ∷ name ∷ condition ++ order) c)
script_start kept first more (Select key) (name, cols, condition, order, is_name, inr c, is_condition, is_order, e) =
    ap (λ f. begun f more) (e ∙ ap (λ cs. scripts.word "select" ∷ cs ++ scripts.word "from" ∷ name ∷ condition ++ order) c)
script_start kept first more Count (name, is_name, e) = ap (λ f. begun f more) e
script_start kept first more (Sleep seconds) (digits, is, fits, e) = ap (λ f. begun f more) e

semicolons_go : (semicolons first more : List Token) → AreSemicolons semicolons → bare (map plain ((semicolons ++ first) ++ more)) ≡ bare (map plain (first ++ more))
semicolons_go [] first more are = refl
semicolons_go (token ∷ semicolons) first more are =
    ap (λ t. bare (plain t ∷ map plain ((semicolons ++ first) ++ more))) are.0 ∙ semicolons_go semicolons first more are.1

only_semicolons : (ts : List Token) → AreSemicolons ts → bare (map plain ts) ≡ []
only_semicolons [] are = refl
only_semicolons (token ∷ ts) are = ap (λ t. bare (plain t ∷ map plain ts)) are.0 ∙ only_semicolons ts are.1

-- a script begins otherwise
not_false : (kept : _) (ts : List Token) (stmts : List Stmt) → IsQuery kept ts stmts → start_of (bare (map plain ts)) ≡ Some false → ⊥
not_false kept ts [] is e = let no : None ≡ Some false = sym (ap start_of (only_semicolons ts is.0)) ∙ e in cc no
not_false kept ts (stmt ∷ stmts) ((semicolons, first, more, are, statement, others, same), few) e =
    let yes = ap (λ ls. start_of (bare (map plain ls))) same ∙ ap start_of (semicolons_go semicolons first more are) ∙ script_start kept first more stmt statement in
    let no : Some true ≡ Some false = sym yes ∙ e in cc no

session_begins : (lexemes : List Lexeme) (statements : List Statement) → AreStatements lexemes statements → start_of (bare lexemes) ≡ Some false
session_begins lexemes [] (zip, some) = absurd (some refl)
session_begins lexemes (statement ∷ more) (zip, some) = session_starts lexemes statement more zip

pub no_script_law : NoScript
no_script_law text statements stmts (lexemes, lexed, are) (ts, spells, query) =
    let same : lexemes ≡ map plain (map in_lower_case ts) = one_lexing text lexemes (map lexeme_of ts) lexed (ts, spells, refl) ∙ plain_all ts in
    let begins : start_of (bare (map plain (map in_lower_case ts))) ≡ Some false = ap (λ ls. start_of (bare ls)) (sym same) ∙ session_begins lexemes statements are in
    search not_false

-- ---- as a text is read

pub none_read : (text : List ℕ) (lexemes : List Lexeme) (statements : List Statement) → IsLexed text lexemes → statements_in lexemes ≡ None → IsSessionText text statements → ⊥
none_read text lexemes statements lexed none (besides, lexed', are) =
    let no : None ≡ Some statements = sym none ∙ ap statements_in (one_lexing text lexemes besides lexed lexed') ∙ statements_read besides statements are.0 in cc no

pub empty_read : (text : List ℕ) (lexemes : List Lexeme) (read statements : List Statement) → IsLexed text lexemes → statements_in lexemes ≡ Some read → read ≡ [] → IsSessionText text statements → ⊥
empty_read text lexemes read statements lexed e empty (besides, lexed', are) =
    are.1 (same_Some statements read (sym (statements_read besides statements are.0) ∙ ap statements_in (one_lexing text besides lexemes lexed' lexed) ∙ e) ∙ empty)

pub text_read : (text : List ℕ) (lexemes : List Lexeme) (read : List Statement) → IsLexed text lexemes → statements_in lexemes ≡ Some read → (read ≡ [] → ⊥) → IsSessionText text read
text_read text lexemes read lexed e some = (lexemes, lexed, (statements_are lexemes read e, some))

pub empty_list : {A : Type 0} (xs : List A) (size : ℕ) → length xs ≡ size → true ≡ (size == 0) → xs ≡ []
empty_list [] size is e = refl
empty_list (x ∷ xs) size is e = let none = eqb-true size 0 (sym e) in absurd (omega (arith, none, is))

pub filled_list : {A : Type 0} (xs : List A) (size : ℕ) → length xs ≡ size → false ≡ (size == 0) → xs ≡ [] → ⊥
filled_list xs size is e none = true≢false (sym (e ∙ ap (λ n. n == 0) (sym is) ∙ ap (λ l. length l == 0) none))
