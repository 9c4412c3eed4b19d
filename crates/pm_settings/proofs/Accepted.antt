-- What the grammar has is read, and so it is read in one way alone.
use Rattle.std.{proofs.{Common.{◌≡◌, ℕ, ◌<◌, ◌≤◌, inl, inr, Bool, cond, List, [], ◌∷◌, ◌++◌, length, Option, Some, None, codes, refl, sym, ap, ◌∙◌, subst, arith}, lemmas.{Bool.le-leb, List.Splits.length-slice_split}}, specs.{List.{AllZip, filter, list_any, slice_split, onto_first}, Option.option_map}}
use Rattle.pm_sql.specs.Tokens.{digits_value}
use Rattle.pm_settings.{specs.{declared.{lexeme.Lexeme.{Lexeme, TheVariants.{Word, Digits, Quoted, Mark}}, statement.Statement.{Statement, TheVariants.{Set, Transaction, Reset, ResetAll, Show, DiscardAll, CloseAll, UnlistenAll, UnlockAll, Version, Number}}}, Lexemes.is_word, Statements.{words, mark, IsValue, joined, is_comma, AreValues, IsGiven, IsTo, IsSet, AreModes, IsTransaction, IsShow, IsNumber, IsStatement, is_semicolon, is_filled, max_number}, Reading.{choose, both, all_of, phrase, after_words, is_to, value_in, values_in, set_to, one_in, assignment_in, transaction_in, set_in, show_in, select_in, statement_in, statements_in}}, proofs.{Words.{all_of_zip, cond_same, other_bytes}, Values.{is_value, is_set, is_assignment, no_values, no_assignment}, ModeForms.{modes_begin, are_modes}}}

-- ---- what isn't an assignment

after_equals : (part : List Lexeme) → value_in (mark "=" ∷ part) ≡ None
after_equals [] = refl
after_equals (Word letters ∷ []) = refl
after_equals (Digits digits ∷ []) = refl
after_equals (Quoted content ∷ []) = refl
after_equals (Mark byte ∷ []) = refl
after_equals (first ∷ second ∷ rest) = refl

after_to : (part : List Lexeme) (value : List ℕ) → IsValue part value → value_in (Word (codes "to") ∷ part) ≡ None
after_to part value (inl e) = ap (λ p. value_in (Word (codes "to") ∷ p)) e
after_to part value (inr (inl e)) = ap (λ p. value_in (Word (codes "to") ∷ p)) e
after_to part value (inr (inr (inl e))) = ap (λ p. value_in (Word (codes "to") ∷ p)) e
after_to part value (inr (inr (inr (inl e)))) = ap (λ p. value_in (Word (codes "to") ∷ p)) e
after_to part value (inr (inr (inr (inr (digits, e, v))))) = ap (λ p. value_in (Word (codes "to") ∷ p)) e

first_equals : (parts : List (List Lexeme)) → all_of value_in (onto_first (mark "=") parts) ≡ None
first_equals [] = refl
first_equals (part ∷ parts) = ap (λ v. both v (all_of value_in parts)) (after_equals part)

first_to : (parts : List (List Lexeme)) (values : List (List ℕ)) → 0 < length parts → AllZip IsValue parts values → all_of value_in (onto_first (Word (codes "to")) parts) ≡ None
first_to [] values some zip = absurd (omega (arith, some))
first_to (part ∷ parts) [] some zip = absurd zip
first_to (part ∷ parts) (value ∷ values) some zip = ap (λ v. both v (all_of value_in parts)) (after_to part value zip.0)

some_part : (list : List Lexeme) → 0 < length (slice_split is_comma list)
some_part list = omega (arith, length-slice_split is_comma list)

no_values_to : (list : List Lexeme) (value : Option (List ℕ)) → IsGiven AreValues list value → values_in (Word (codes "to") ∷ list) ≡ None
unfolding values_in
no_values_to list None e = ap (λ ls. values_in (Word (codes "to") ∷ ls)) e
no_values_to list (Some text) ((values, zip, e), other) = ap (option_map joined) (first_to (slice_split is_comma list) values (some_part list) zip)

no_values_equals : (list : List Lexeme) → values_in (mark "=" ∷ list) ≡ None
unfolding values_in
no_values_equals list = ap (option_map joined) (first_equals (slice_split is_comma list))

-- after the name of a setting stands TO, and so it isn't TO itself
not_given : (name : List ℕ) (to : Lexeme) (list : List Lexeme) (value : Option (List ℕ)) → IsTo to → IsGiven AreValues list value → set_to name (to ∷ list) (values_in (to ∷ list)) ≡ None
not_given name to list value (inl e) given =
    ap (λ t. set_to name (t ∷ list) (values_in (t ∷ list))) e ∙ ap (option_map (λ text. Set name (Some text))) (no_values_to list value given)
not_given name to list value (inr e) given =
    ap (λ t. set_to name (t ∷ list) (values_in (t ∷ list))) e ∙ ap (option_map (λ text. Set name (Some text))) (no_values_equals list)

scope_isnt_name : (scope name : List ℕ) (to : Lexeme) (list : List Lexeme) (value : Option (List ℕ)) → IsTo to → IsGiven AreValues list value → assignment_in (Word scope ∷ Word name ∷ to ∷ list) ≡ None
unfolding assignment_in
scope_isnt_name scope name to list value is given =
    ap (λ o. cond (is_to (Word name)) o None) (not_given scope to list value is given) ∙ cond_same (is_to (Word name)) None

-- NAMES with one value after it
names_isnt_name : (list : List Lexeme) (value : Option (List ℕ)) → IsGiven IsValue list value → assignment_in (Word (codes "names") ∷ list) ≡ None
unfolding assignment_in
names_isnt_name list None e = ap (λ ls. assignment_in (Word (codes "names") ∷ ls)) e
names_isnt_name list (Some text) (inl e, other) =
    ap (λ ls. assignment_in (Word (codes "names") ∷ ls)) e
    ∙ ap (λ o. cond (is_to (Word text)) (option_map (λ t. Set (codes "names") (Some t)) o) None) no_values ∙ cond_same (is_to (Word text)) None
names_isnt_name list (Some text) (inr (inl e), other) = ap (λ ls. assignment_in (Word (codes "names") ∷ ls)) e
names_isnt_name list (Some text) (inr (inr (inl e)), other) = ap (λ ls. assignment_in (Word (codes "names") ∷ ls)) e
names_isnt_name list (Some text) (inr (inr (inr (inl e))), other) = ap (λ ls. assignment_in (Word (codes "names") ∷ ls)) e
names_isnt_name list (Some text) (inr (inr (inr (inr (digits, e, v)))), other) = ap (λ ls. assignment_in (Word (codes "names") ∷ ls)) e

-- ---- SET

-- what is read where no assignment stands
abbrev others_in : List Lexeme → Option Statement
others_in lexemes =
    choose (after_words (phrase "time zone") lexemes) (one_in (codes "timezone"))
    (choose (after_words (phrase "names") lexemes) (one_in (codes "client_encoding"))
    (choose (after_words (phrase "transaction") lexemes) transaction_in
    (choose (after_words (phrase "session characteristics as transaction") lexemes) transaction_in
    (choose (after_words (phrase "session") lexemes) assignment_in
    (choose (after_words (phrase "local") lexemes) assignment_in
    None)))))

is_other : (lexemes : List Lexeme) → assignment_in lexemes ≡ None → set_in lexemes ≡ others_in lexemes
unfolding set_in
is_other lexemes none = ap (λ o. choose o Some (others_in lexemes)) none

plain_set : (name : List ℕ) (to : Lexeme) (list : List Lexeme) (value : Option (List ℕ)) → IsTo to → IsGiven AreValues list value → set_in (Word name ∷ to ∷ list) ≡ Some (Set name value)
unfolding set_in
plain_set name to list value is given = ap (λ o. choose o Some (others_in (Word name ∷ to ∷ list))) (is_assignment name to list value is given)

-- after SESSION and a name no AS can stand before TO
no_characteristics : (name : List ℕ) (to : Lexeme) (list : List Lexeme) → IsTo to → after_words (phrase "session characteristics as transaction") (Word (codes "session") ∷ Word name ∷ to ∷ list) ≡ None
no_characteristics name to list (inl e) =
    ap (λ t. after_words (phrase "session characteristics as transaction") (Word (codes "session") ∷ Word name ∷ t ∷ list)) e ∙ cond_same (is_word (codes "characteristics") (Word name)) None
no_characteristics name to list (inr e) =
    ap (λ t. after_words (phrase "session characteristics as transaction") (Word (codes "session") ∷ Word name ∷ t ∷ list)) e ∙ cond_same (is_word (codes "characteristics") (Word name)) None

session_set : (name : List ℕ) (to : Lexeme) (list : List Lexeme) (value : Option (List ℕ)) → IsTo to → IsGiven AreValues list value → set_in (Word (codes "session") ∷ Word name ∷ to ∷ list) ≡ Some (Set name value)
session_set name to list value is given =
    is_other (Word (codes "session") ∷ Word name ∷ to ∷ list) (scope_isnt_name (codes "session") name to list value is given)
    ∙ ap (λ o. choose o transaction_in (assignment_in (Word name ∷ to ∷ list))) (no_characteristics name to list is)
    ∙ is_assignment name to list value is given

local_set : (name : List ℕ) (to : Lexeme) (list : List Lexeme) (value : Option (List ℕ)) → IsTo to → IsGiven AreValues list value → set_in (Word (codes "local") ∷ Word name ∷ to ∷ list) ≡ Some (Set name value)
local_set name to list value is given =
    is_other (Word (codes "local") ∷ Word name ∷ to ∷ list) (scope_isnt_name (codes "local") name to list value is given) ∙ is_assignment name to list value is given

zone_set : (list : List Lexeme) (value : Option (List ℕ)) → IsGiven IsValue list value → set_in (words "time zone" ++ list) ≡ Some (Set (codes "timezone") value)
zone_set list value given =
    is_other (words "time zone" ++ list) (no_assignment (codes "time") (Word (codes "zone")) list refl) ∙ is_set IsValue (codes "timezone") list (value_in list) value (is_value list) given

names_set : (list : List Lexeme) (value : Option (List ℕ)) → IsGiven IsValue list value → set_in (words "names" ++ list) ≡ Some (Set (codes "client_encoding") value)
names_set list value given = is_other (words "names" ++ list) (names_isnt_name list value given) ∙ is_set IsValue (codes "client_encoding") list (value_in list) value (is_value list) given

transaction_read : (modes : List Lexeme) (flags : List Bool) → AreModes modes flags → transaction_in modes ≡ Some (Transaction (list_any (λ flag. flag) flags))
transaction_read modes flags are = ap (option_map Transaction) (are_modes modes flags are)

transaction_set : (modes : List Lexeme) (flags : List Bool) → AreModes modes flags → set_in (words "transaction" ++ modes) ≡ Some (Transaction (list_any (λ flag. flag) flags))
transaction_set modes flags are =
    let begins = modes_begin modes flags are in
    is_other (words "transaction" ++ modes) (ap (λ ls. assignment_in (Word (codes "transaction") ∷ ls)) begins.split ∙ no_assignment (codes "transaction") (Word begins.letters) begins.rest begins.other)
    ∙ transaction_read modes flags are

characteristics_set : (modes : List Lexeme) (flags : List Bool) → AreModes modes flags → set_in (words "session characteristics as transaction" ++ modes) ≡ Some (Transaction (list_any (λ flag. flag) flags))
characteristics_set modes flags are =
    is_other (words "session characteristics as transaction" ++ modes) (no_assignment (codes "session") (Word (codes "characteristics")) (words "as transaction" ++ modes) refl)
    ∙ transaction_read modes flags are

-- ---- statements

-- by its first word
starts_set : (rest : List Lexeme) → statement_in (words "set" ++ rest) ≡ set_in rest
unfolding statement_in
starts_set rest = refl

starts_select : (rest : List Lexeme) → statement_in (words "select" ++ rest) ≡ select_in rest
unfolding statement_in
starts_select rest = refl

set_read : (lexemes : List Lexeme) (name : List ℕ) (value : Option (List ℕ)) → IsSet lexemes name value → statement_in lexemes ≡ Some (Set name value)
set_read lexemes name value (inl (scope, list, to, inl none, is, given, e)) =
    ap statement_in (e ∙ ap (λ s. words "set" ++ (s ++ Word name ∷ to ∷ list)) none) ∙ starts_set (Word name ∷ to ∷ list) ∙ plain_set name to list value is given
set_read lexemes name value (inl (scope, list, to, inr (inl session), is, given, e)) =
    ap statement_in (e ∙ ap (λ s. words "set" ++ (s ++ Word name ∷ to ∷ list)) session) ∙ starts_set (words "session" ++ Word name ∷ to ∷ list) ∙ session_set name to list value is given
set_read lexemes name value (inl (scope, list, to, inr (inr local), is, given, e)) =
    ap statement_in (e ∙ ap (λ s. words "set" ++ (s ++ Word name ∷ to ∷ list)) local) ∙ starts_set (words "local" ++ Word name ∷ to ∷ list) ∙ local_set name to list value is given
set_read lexemes name value (inr (inl (list, given, n, e))) =
    ap statement_in e ∙ starts_set (words "time zone" ++ list) ∙ zone_set list value given ∙ ap (λ m. Some (Set m value)) (sym n)
set_read lexemes name value (inr (inr (list, given, n, e))) =
    ap statement_in e ∙ starts_set (words "names" ++ list) ∙ names_set list value given ∙ ap (λ m. Some (Set m value)) (sym n)

transaction_is_read : (lexemes : List Lexeme) (flag : Bool) → IsTransaction lexemes flag → statement_in lexemes ≡ Some (Transaction flag)
transaction_is_read lexemes flag (modes, flags, are, all, inl e) =
    ap statement_in e ∙ starts_set (words "transaction" ++ modes) ∙ transaction_set modes flags are ∙ ap (λ f. Some (Transaction f)) (sym all)
transaction_is_read lexemes flag (modes, flags, are, all, inr e) =
    ap statement_in e ∙ starts_set (words "session characteristics as transaction" ++ modes) ∙ characteristics_set modes flags are ∙ ap (λ f. Some (Transaction f)) (sym all)

show_read : (lexemes : List Lexeme) (name : List ℕ) → IsShow lexemes name → statement_in lexemes ≡ Some (Show name)
unfolding statement_in show_in
show_read lexemes name (inl e) = ap statement_in e
show_read lexemes name (inr (inl (e, n))) = ap statement_in e ∙ ap (λ m. Some (Show m)) (sym n)
show_read lexemes name (inr (inr (e, n))) = ap statement_in e ∙ ap (λ m. Some (Show m)) (sym n)

number_read : (lexemes : List Lexeme) (number : ℕ) → IsNumber lexemes number → statement_in lexemes ≡ Some (Number number)
unfolding select_in
number_read lexemes number (digits, e, n, small) =
    ap statement_in e
    ∙ starts_select (Digits digits ∷ [])
    ∙ ap (λ b. option_map Number (cond b (Some (digits_value digits)) None)) (le-leb (digits_value digits) max_number (subst (λ m. m ≤ max_number) n small))
    ∙ ap (λ m. Some (Number m)) (sym n)

pub statement_read : (lexemes : List Lexeme) (statement : Statement) → IsStatement lexemes statement → statement_in lexemes ≡ Some statement
unfolding statement_in select_in
statement_read lexemes (Set name value) is = set_read lexemes name value is
statement_read lexemes (Transaction flag) is = transaction_is_read lexemes flag is
statement_read lexemes (Reset name) (e, other) = ap statement_in e ∙ ap (λ b. Some (cond b ResetAll (Reset name))) (other_bytes name (codes "all") other)
statement_read lexemes ResetAll e = ap statement_in e
statement_read lexemes (Show name) is = show_read lexemes name is
statement_read lexemes DiscardAll e = ap statement_in e
statement_read lexemes CloseAll e = ap statement_in e
statement_read lexemes UnlistenAll e = ap statement_in e
statement_read lexemes UnlockAll e = ap statement_in e
statement_read lexemes Version e = ap statement_in e
statement_read lexemes (Number number) is = number_read lexemes number is

pub statements_read : (lexemes : List Lexeme) (statements : List Statement) → AllZip IsStatement (filter is_filled (slice_split is_semicolon lexemes)) statements → statements_in lexemes ≡ Some statements
unfolding statements_in
statements_read lexemes statements zip = all_of_zip statement_in IsStatement statement_read (filter is_filled (slice_split is_semicolon lexemes)) statements zip
