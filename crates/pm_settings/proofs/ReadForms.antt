-- What is read of lexemes is what the grammar has.
use Rattle.std.{proofs.{Common.{◌≡◌, ℕ, ◌≤◌, ◌⊎◌, inl, inr, Bool, true, false, cond, ◌&&◌, nat_le, List, [], ◌∷◌, ◌++◌, map, Option, Some, None, codes, refl, sym, ap, ◌∙◌, subst, true≢false}, lemmas.{Bool.{and_parts, leb-true}, Option.same_Some}}, specs.{List.{AllZip, filter, slice_split}, Str.bytes_eq}}
use Rattle.pm_sql.specs.Tokens.{digits_value}
use Rattle.pm_settings.{specs.{declared.{lexeme.Lexeme.{Lexeme, TheVariants.{Word, Digits, Quoted, Mark}}, statement.Statement.{Statement, TheVariants.{Transaction, Reset, ResetAll, Show, DiscardAll, CloseAll, UnlistenAll, UnlockAll, Version, Number}}}, Lexemes.is_mark, Statements.{words, mark, IsValue, IsStatement, is_semicolon, is_filled, max_number}, Reading.{is_empty, phrase, after_words, are_words, only_word, value_in, one_in, assignment_in, modes_in, transaction_in, set_in, reset_of, reset_in, show_in, are_parens, calls, is_call, number_in, select_in, is_star, unlisten_in, all_in, statement_in, statements_in}}, proofs.{Words.{chosen, tested, mapped, zip_of_all, empty_is, same_bytes, mark_is, after_words_is, words_are}, Values.{value_is, set_is, Assigns, assignment_is}, ModeForms.modes_are}}

-- a statement after its first words
abbrev Is : List Lexeme → Statement → Type 0
Is lexemes statement = IsStatement lexemes statement

-- ---- SET

scoped : (scope rest : List Lexeme) (statement : Statement) → ((scope ≡ []) ⊎ ((scope ≡ words "session") ⊎ (scope ≡ words "local"))) → Assigns rest statement → Is (words "set" ++ (scope ++ rest)) statement
scoped scope rest statement is assigns =
    subst (Is (words "set" ++ (scope ++ rest))) assigns.gives.is
    (inl (scope, assigns.list, assigns.to, is, assigns.is_to, assigns.gives.given, ap (λ r. words "set" ++ (scope ++ r)) assigns.split))

zoned : (rest : List Lexeme) (statement : Statement) → one_in (codes "timezone") rest ≡ Some statement → Is (words "set time zone" ++ rest) statement
zoned rest statement e =
    let gives = set_is IsValue (codes "timezone") rest (value_in rest) statement (value_is rest) e in
    subst (Is (words "set time zone" ++ rest)) gives.is (inr (inl (rest, gives.given, refl, refl)))

named : (rest : List Lexeme) (statement : Statement) → one_in (codes "client_encoding") rest ≡ Some statement → Is (words "set names" ++ rest) statement
named rest statement e =
    let gives = set_is IsValue (codes "client_encoding") rest (value_in rest) statement (value_is rest) e in
    subst (Is (words "set names" ++ rest)) gives.is (inr (inr (rest, gives.given, refl, refl)))

transacted : (lexemes modes : List Lexeme) (statement : Statement) → ((lexemes ≡ words "set transaction" ++ modes) ⊎ (lexemes ≡ words "set session characteristics as transaction" ++ modes))
    → transaction_in modes ≡ Some statement → Is lexemes statement
transacted lexemes modes statement split =
    mapped Transaction (modes_in modes) statement
    (λ whole e same. let are = modes_are modes whole e in subst (Is lexemes) same (modes, are.0, are.1, are.2, split))

at : (word front : List Lexeme) (rest left : List Lexeme) (statement : Statement) → rest ≡ front ++ left → Is (word ++ (front ++ left)) statement → Is (word ++ rest) statement
at word front rest left statement same is = subst (λ ls. Is (word ++ ls) statement) (sym same) is

after_set : (rest : List Lexeme) (statement : Statement) → set_in rest ≡ Some statement → Is (words "set" ++ rest) statement
unfolding set_in
after_set rest statement =
    chosen (assignment_in rest) Some _ statement (λ found f same. scoped [] rest statement (inl refl) (assignment_is rest statement (f ∙ same)))
    (chosen (after_words (phrase "time zone") rest) (one_in (codes "timezone")) _ statement
    (λ left b e. at (words "set") (words "time zone") rest left statement (after_words_is (phrase "time zone") rest left b) (zoned left statement e))
    (chosen (after_words (phrase "names") rest) (one_in (codes "client_encoding")) _ statement
    (λ left b e. at (words "set") (words "names") rest left statement (after_words_is (phrase "names") rest left b) (named left statement e))
    (chosen (after_words (phrase "transaction") rest) transaction_in _ statement
    (λ left b e. at (words "set") (words "transaction") rest left statement (after_words_is (phrase "transaction") rest left b) (transacted (words "set transaction" ++ left) left statement (inl refl) e))
    (chosen (after_words (phrase "session characteristics as transaction") rest) transaction_in _ statement
    (λ left b e. at (words "set") (words "session characteristics as transaction") rest left statement (after_words_is (phrase "session characteristics as transaction") rest left b) (transacted (words "set session characteristics as transaction" ++ left) left statement (inr refl) e))
    (chosen (after_words (phrase "session") rest) assignment_in _ statement
    (λ left b e. at (words "set") (words "session") rest left statement (after_words_is (phrase "session") rest left b) (scoped (words "session") left statement (inr (inl refl)) (assignment_is left statement e)))
    (chosen (after_words (phrase "local") rest) assignment_in None statement
    (λ left b e. at (words "set") (words "local") rest left statement (after_words_is (phrase "local") rest left b) (scoped (words "local") left statement (inr (inr refl)) (assignment_is left statement e)))
    (λ e. cc e)))))))

-- ---- the others

only_is : (lexemes : List Lexeme) (name : List ℕ) → only_word lexemes ≡ Some name → lexemes ≡ Word name ∷ []
only_is [] name e = cc e
only_is (Word letters ∷ []) name e = ap (λ l. Word l ∷ []) (same_Some letters name e)
only_is (Digits digits ∷ []) name e = cc e
only_is (Quoted content ∷ []) name e = cc e
only_is (Mark byte ∷ []) name e = cc e
only_is (first ∷ second ∷ rest) name e = cc e

reset_by : (name : List ℕ) → Is (words "reset" ++ Word name ∷ []) (reset_of name)
reset_by name = by_all (bytes_eq name (codes "all")) refl where
  by_all : (b : Bool) → bytes_eq name (codes "all") ≡ b → Is (words "reset" ++ Word name ∷ []) (cond b ResetAll (Reset name))
  by_all true e = ap (λ n. words "reset" ++ Word n ∷ []) (same_bytes name (codes "all") e)
  by_all false e = (refl, λ same. true≢false (sym (ap (λ n. bytes_eq n (codes "all")) same) ∙ e))

after_reset : (rest : List Lexeme) (statement : Statement) → reset_in rest ≡ Some statement → Is (words "reset" ++ rest) statement
after_reset rest statement =
    mapped reset_of (only_word rest) statement
    (λ name e same. subst (λ ls. Is (words "reset" ++ ls) statement) (sym (only_is rest name e)) (subst (Is (words "reset" ++ Word name ∷ [])) same (reset_by name)))

after_show : (rest : List Lexeme) (statement : Statement) → show_in rest ≡ Some statement → Is (words "show" ++ rest) statement
unfolding show_in
after_show rest statement =
    chosen (only_word rest) (λ name. Some (Show name)) _ statement
    (λ name e same. subst (Is (words "show" ++ rest)) (same_Some (Show name) statement same) (inl (ap (λ ls. words "show" ++ ls) (only_is rest name e))))
    (tested (are_words (phrase "time zone") rest) (Some (Show (codes "timezone"))) _ statement
    (λ e same. subst (Is (words "show" ++ rest)) (same_Some (Show (codes "timezone")) statement same) (inr (inl (ap (λ ls. words "show" ++ ls) (words_are (phrase "time zone") rest e), refl))))
    (tested (are_words (phrase "transaction isolation level") rest) (Some (Show (codes "transaction_isolation"))) None statement
    (λ e same. subst (Is (words "show" ++ rest)) (same_Some (Show (codes "transaction_isolation")) statement same) (inr (inr (ap (λ ls. words "show" ++ ls) (words_are (phrase "transaction isolation level") rest e), refl))))
    (λ e. cc e)))

parens_are : (lexemes : List Lexeme) → are_parens lexemes ≡ true → lexemes ≡ mark "(" ∷ mark ")" ∷ []
parens_are [] e = absurd (true≢false (sym e))
parens_are (first ∷ []) e = absurd (true≢false (sym e))
parens_are (first ∷ second ∷ rest) e =
    let opening = and_parts (is_mark 40 first) (is_mark 41 second && is_empty rest) e in
    let closing = and_parts (is_mark 41 second) (is_empty rest) opening.1 in
    ap (λ l. l ∷ second ∷ rest) (mark_is 40 first opening.0) ∙ ap (λ l. mark "(" ∷ l ∷ rest) (mark_is 41 second closing.0) ∙ ap (λ ls. mark "(" ∷ mark ")" ∷ ls) (empty_is rest closing.1)

call_is : (name : List (List ℕ)) (lexemes : List Lexeme) → is_call name lexemes ≡ true → lexemes ≡ map Word name ++ mark "(" ∷ mark ")" ∷ []
call_is name lexemes = by_rest (after_words name lexemes) refl where
  by_rest : (found : Option (List Lexeme)) → after_words name lexemes ≡ found → calls found ≡ true → lexemes ≡ map Word name ++ mark "(" ∷ mark ")" ∷ []
  by_rest None e h = absurd (true≢false (sym h))
  by_rest (Some rest) e h = after_words_is name lexemes rest e ∙ ap (λ r. map Word name ++ r) (parens_are rest h)

number_is : (lexemes : List Lexeme) (number : ℕ) → number_in lexemes ≡ Some number → (digits : List ℕ) × (lexemes ≡ Digits digits ∷ []) × (number ≡ digits_value digits) × (number ≤ max_number)
number_is [] number e = cc e
number_is (Word letters ∷ []) number e = cc e
number_is (Digits digits ∷ []) number e =
    tested (nat_le (digits_value digits) max_number) (Some (digits_value digits)) None number
    (λ small same.
    let is = same_Some (digits_value digits) number same in
    (digits, refl, sym is, subst (λ n. n ≤ max_number) is (leb-true (digits_value digits) max_number small)))
    (λ h. cc h) e
number_is (Quoted content ∷ []) number e = cc e
number_is (Mark byte ∷ []) number e = cc e
number_is (first ∷ second ∷ rest) number e = cc e

after_select : (rest : List Lexeme) (statement : Statement) → select_in rest ≡ Some statement → Is (words "select" ++ rest) statement
unfolding select_in
after_select rest statement =
    tested (is_call (phrase "version") rest) (Some Version) _ statement
    (λ e same. subst (Is (words "select" ++ rest)) (same_Some Version statement same) (ap (λ ls. words "select" ++ ls) (call_is (phrase "version") rest e)))
    (tested (is_call (phrase "pg_advisory_unlock_all") rest) (Some UnlockAll) _ statement
    (λ e same. subst (Is (words "select" ++ rest)) (same_Some UnlockAll statement same) (ap (λ ls. words "select" ++ ls) (call_is (phrase "pg_advisory_unlock_all") rest e)))
    (mapped Number (number_in rest) statement
    (λ number e same. let is = number_is rest number e in subst (Is (words "select" ++ rest)) same (is.0, ap (λ ls. words "select" ++ ls) is.1, is.2, is.3))))

star_is : (lexemes : List Lexeme) → is_star lexemes ≡ true → lexemes ≡ mark "*" ∷ []
star_is [] e = absurd (true≢false (sym e))
star_is (first ∷ rest) e =
    let both = and_parts (is_mark 42 first) (is_empty rest) e in
    ap (λ l. l ∷ rest) (mark_is 42 first both.0) ∙ ap (λ ls. mark "*" ∷ ls) (empty_is rest both.1)

after_unlisten : (rest : List Lexeme) (statement : Statement) → unlisten_in rest ≡ Some statement → Is (words "unlisten" ++ rest) statement
after_unlisten rest statement =
    tested (is_star rest) (Some UnlistenAll) None statement
    (λ e same. subst (Is (words "unlisten" ++ rest)) (same_Some UnlistenAll statement same) (ap (λ ls. words "unlisten" ++ ls) (star_is rest e)))
    (λ h. cc h)

all_is : (lexemes : List Lexeme) (statement : Statement) → all_in lexemes ≡ Some statement → Is lexemes statement
all_is lexemes statement =
    tested (are_words (phrase "discard all") lexemes) (Some DiscardAll) _ statement
    (λ e same. subst (Is lexemes) (same_Some DiscardAll statement same) (words_are (phrase "discard all") lexemes e))
    (tested (are_words (phrase "close all") lexemes) (Some CloseAll) None statement
    (λ e same. subst (Is lexemes) (same_Some CloseAll statement same) (words_are (phrase "close all") lexemes e))
    (λ h. cc h))

-- ---- a statement, and all of them

begun : (first lexemes left : List Lexeme) (statement : Statement) → lexemes ≡ first ++ left → Is (first ++ left) statement → Is lexemes statement
begun first lexemes left statement same is = subst (λ ls. Is ls statement) (sym same) is

pub statement_is : (lexemes : List Lexeme) (statement : Statement) → statement_in lexemes ≡ Some statement → IsStatement lexemes statement
unfolding statement_in
statement_is lexemes statement =
    chosen (after_words (phrase "set") lexemes) set_in _ statement (λ left b e. begun (words "set") lexemes left statement (after_words_is (phrase "set") lexemes left b) (after_set left statement e))
    (chosen (after_words (phrase "reset") lexemes) reset_in _ statement (λ left b e. begun (words "reset") lexemes left statement (after_words_is (phrase "reset") lexemes left b) (after_reset left statement e))
    (chosen (after_words (phrase "show") lexemes) show_in _ statement (λ left b e. begun (words "show") lexemes left statement (after_words_is (phrase "show") lexemes left b) (after_show left statement e))
    (chosen (after_words (phrase "select") lexemes) select_in _ statement (λ left b e. begun (words "select") lexemes left statement (after_words_is (phrase "select") lexemes left b) (after_select left statement e))
    (chosen (after_words (phrase "unlisten") lexemes) unlisten_in _ statement (λ left b e. begun (words "unlisten") lexemes left statement (after_words_is (phrase "unlisten") lexemes left b) (after_unlisten left statement e))
    (all_is lexemes statement)))))

pub statements_are : (lexemes : List Lexeme) (statements : List Statement) → statements_in lexemes ≡ Some statements → AllZip IsStatement (filter is_filled (slice_split is_semicolon lexemes)) statements
unfolding statements_in
statements_are lexemes statements e = zip_of_all statement_in IsStatement statement_is (filter is_filled (slice_split is_semicolon lexemes)) statements e
