-- Statements as machines that take one token after another, words in lower case.
use Rattle.std.{proofs.Common.{ℕ, ℤ, Bool, true, false, cond, ◌==◌, nat_lt, nat_le, ◌≤◌, List, [], ◌∷◌, ◌++◌, map, length, Option, Some, None, Result, Ok, Err, bytes_eq, codes, count_by}, specs.Char.to_ascii_lowercase}
use Rattle.pm_rows.specs.Limits.{max_value_bytes, max_changes}
use Rattle.pm_sql.{specs.{declared.{stmt.Stmt.{Stmt, TheVariants.{Insert, Update, Delete, Select, Count, Sleep}}, fault.{Kind.{Kind, TheVariants.{Syntax, Table, Range, TooLong, TooMany}}, Fault.Fault}}, Limits.{max_sleep_seconds, is_writing}, Tokens.{skipped, digits_value}, Reading.fault_at, Grammar.{fits_bigint, signed}, Token.{Token, Word, Digits, Quoted, Mark, in_lower_case, is_joined}, Statements.rank}, proofs.Lexer.next_token}

-- what becomes of a token: it has no place here, it has, or it passes a limit
pub data Check : Type 0 where
  refuse : Check
  fine : Check
  over : (kind : Kind) → Check

-- which statement may end here, and what each token leads to
pub data Form : Type 0 where
  nothing : Form
  state : (answer : Option Stmt) (check : Token → Check) (next : Token → Form) → Form

-- a token that passes this test, or what others say
abbrev pub one : (Token → Bool) → (Token → Check) → (Token → Form) → Form → Form
one test check next nothing = state None (λ t. cond (test t) (check t) refuse) (λ t. cond (test t) (next t) nothing)
one test check next (state answer checks forms) = state answer (λ t. cond (test t) (check t) (checks t)) (λ t. cond (test t) (next t) (forms t))

-- ---- tokens of one kind

abbrev pub is_word : List ℕ → Token → Bool
is_word letters (Word own) = bytes_eq own (map to_ascii_lowercase letters)
is_word letters (Digits digits) = false
is_word letters (Quoted content) = false
is_word letters (Mark byte) = false

abbrev pub is_mark : ℕ → Token → Bool
is_mark c (Word own) = false
is_mark c (Digits digits) = false
is_mark c (Quoted content) = false
is_mark c (Mark byte) = byte == c

abbrev pub is_any_word : Token → Bool
is_any_word (Word own) = true
is_any_word (Digits digits) = false
is_any_word (Quoted content) = false
is_any_word (Mark byte) = false

abbrev pub are_digits : Token → Bool
are_digits (Word own) = false
are_digits (Digits digits) = true
are_digits (Quoted content) = false
are_digits (Mark byte) = false

abbrev pub is_string : Token → Bool
is_string (Word own) = false
is_string (Digits digits) = false
is_string (Quoted content) = true
is_string (Mark byte) = false

abbrev pub content_of : Token → List ℕ
content_of (Word own) = own
content_of (Digits digits) = digits
content_of (Quoted content) = content
content_of (Mark byte) = byte ∷ []

abbrev pub within : Kind → Bool → Check
within kind true = fine
within kind false = over kind

abbrev pub beyond : Kind → Bool → Check
beyond kind true = over kind
beyond kind false = fine

abbrev pub word_form : List ℕ → Form → Form → Form
word_form letters k others = one (is_word letters) (λ t. fine) (λ t. k) others

abbrev pub mark_form : ℕ → Form → Form → Form
mark_form c k others = one (is_mark c) (λ t. fine) (λ t. k) others

abbrev pub name_form : Form → Form
name_form k = one is_any_word (λ t. within Table (is_word (codes "kv") t)) (λ t. k) nothing

abbrev pub digits_form : (ℕ → Bool) → (ℕ → Form) → Form
digits_form fits k = one are_digits (λ t. within Range (fits (digits_value (content_of t)))) (λ t. k (digits_value (content_of t))) nothing

abbrev pub string_form : (List ℕ → Form) → Form
string_form k = one is_string (λ t. beyond TooLong (nat_lt max_value_bytes (length (content_of t)))) (λ t. k (content_of t)) nothing

abbrev pub int_form : (ℤ → Form) → Form
int_form k =
    mark_form 45 (digits_form (fits_bigint true) (λ n. k (signed true n)))
    (mark_form 43 (digits_form (fits_bigint false) (λ n. k (signed false n))) (digits_form (fits_bigint false) (λ n. k (signed false n))))

abbrev pub seconds_form : (ℕ → Form) → Form
seconds_form k = digits_form (λ n. nat_le n max_sleep_seconds) k

abbrev pub key_form : (ℤ → Form) → Form
key_form k = word_form (codes "k") (mark_form 61 (int_form k) nothing) nothing

-- ---- statements, after their first words

abbrev pub ends : Stmt → Form
ends stmt = state (Some stmt) (λ t. refuse) (λ t. nothing)

abbrev pub value_form : ℤ → Form
value_form key = string_form (λ value. mark_form 41 (ends (Insert key value)) nothing)

abbrev pub values_form : Form
values_form = word_form (codes "values") (mark_form 40 (int_form (λ key. mark_form 44 (value_form key) nothing)) nothing) nothing

abbrev pub columns_form : Form
columns_form =
    mark_form 40 (word_form (codes "k") (mark_form 44 (word_form (codes "v") (mark_form 41 values_form nothing) nothing) nothing) nothing) values_form

abbrev pub insert_form : Form
insert_form = word_form (codes "into") (name_form columns_form) nothing

abbrev pub where_form : List ℕ → Form
where_form value = word_form (codes "where") (key_form (λ key. ends (Update key value))) nothing

abbrev pub set_form : Form
set_form = word_form (codes "set") (word_form (codes "v") (mark_form 61 (string_form where_form) nothing) nothing) nothing

abbrev pub update_form : Form
update_form = name_form set_form

abbrev pub delete_form : Form
delete_form = word_form (codes "from") (name_form (word_form (codes "where") (key_form (λ key. ends (Delete key))) nothing)) nothing

abbrev pub order_form : Option ℤ → Form
order_form key = word_form (codes "order") (word_form (codes "by") (word_form (codes "k") (ends (Select key)) nothing) nothing) (ends (Select key))

abbrev pub condition_form : Form
condition_form = word_form (codes "where") (key_form (λ key. order_form (Some key))) (order_form None)

abbrev pub rows_form : Form
rows_form = word_form (codes "from") (name_form condition_form) nothing

abbrev pub pairs_form : Form
pairs_form = mark_form 44 (word_form (codes "v") rows_form nothing) nothing

abbrev pub count_form : Form
count_form = mark_form 40 (mark_form 42 (mark_form 41 (word_form (codes "from") (name_form (ends Count)) nothing) nothing) nothing) nothing

abbrev pub sleep_form : Form
sleep_form = mark_form 40 (seconds_form (λ seconds. mark_form 41 (ends (Sleep seconds)) nothing)) nothing

abbrev pub select_form : Form
select_form = mark_form 42 rows_form (word_form (codes "k") pairs_form (word_form (codes "count") count_form (word_form (codes "pg_sleep") sleep_form nothing)))

-- ---- a statement, after so many that write

abbrev pub first_form : List ℕ → ℕ → Form → Form → Form
first_form letters writing k others = one (is_word letters) (λ t. within TooMany (nat_lt writing max_changes)) (λ t. k) others

abbrev pub stmt_form : ℕ → Form
stmt_form writing =
    first_form (codes "insert") writing insert_form
    (first_form (codes "update") writing update_form
    (first_form (codes "delete") writing delete_form
    (word_form (codes "select") select_form nothing)))

-- ---- a text, read by a form

abbrev pub Found : Type 0
Found = Result (Stmt × List ℕ) Fault

abbrev pub or_end : Option Stmt → List ℕ → Found
or_end None text = Err (fault_at Syntax (skipped text))
or_end (Some stmt) text = Ok (stmt, text)

abbrev pub unless_joined : Bool → List ℕ → Found → Found
unless_joined true rest more = Err (fault_at Syntax rest)
unless_joined false rest more = more

abbrev pub by_check : Check → Option Stmt → List ℕ → Found → Found
by_check refuse answer text more = or_end answer text
by_check fine answer text more = more
by_check (over kind) answer text more = Err (fault_at kind (skipped text))

abbrev pub take_token : Option Stmt → (Token → Check) → (Token → List ℕ → Found) → List ℕ → Option (Token × List ℕ) → Found
take_token answer check more text None = or_end answer text
take_token answer check more text (Some (token, rest)) = by_check (check (in_lower_case token)) answer text (unless_joined (is_joined token rest) rest (more (in_lower_case token) rest))

unfoldable pub run : Form → List ℕ → Found
run nothing text = Err (fault_at Syntax (skipped text))
run (state answer check next) text = take_token answer check (λ t rest. run (next t) rest) text (next_token (skipped text))

-- ---- queries

-- at the start of a statement, or in one
pub data Mode : Type 0 where
  start : Mode
  inside : (form : Form) → Mode

-- after the statements so far, and what a token leads to from there
pub data Move : Type 0 where
  stop : Move
  go : (check : Check) (done : List Stmt) (mode : Mode) → Move

abbrev pub check_of : Form → Token → Check
check_of nothing t = refuse
check_of (state answer check next) t = check t

abbrev pub next_of : Form → Token → Form
next_of nothing t = nothing
next_of (state answer check next) t = next t

abbrev pub answer_of : Form → Option Stmt
answer_of nothing = None
answer_of (state answer check next) = answer

-- a `;` after a statement that may end there
abbrev pub end_move : List Stmt → Option Stmt → Bool → Move
end_move done None semicolon = stop
end_move done (Some stmt) false = stop
end_move done (Some stmt) true = go fine (done ++ stmt ∷ []) start

-- what a check and the form after the token make of it
abbrev pub moved : List Stmt → Option Stmt → Bool → Form → Check → Move
moved done answer semicolon next refuse = end_move done answer semicolon
moved done answer semicolon next fine = go fine done (inside next)
moved done answer semicolon next (over kind) = go (over kind) done (inside next)

abbrev pub form_move : List Stmt → Form → Token → Move
form_move done form t = moved done (answer_of form) (is_mark 59 t) (next_of form t) (check_of form t)

abbrev pub move : List Stmt → Mode → Token → Move
move done start t = cond (is_mark 59 t) (go fine done start) (form_move done (stmt_form (count_by is_writing done)) t)
move done (inside form) t = form_move done form t

-- a check passes where the limits up to `kept` are kept
abbrev pub Passes : Kind → Check → Type 0
Passes kept refuse = ⊥
Passes kept fine = Unit {0}
Passes kept (over kind) = rank kind ≤ rank kept → ⊥

-- the statements of tokens that end here
abbrev pub ended_with : List Stmt → Option Stmt → Option (List Stmt)
ended_with done None = None
ended_with done (Some stmt) = Some (done ++ stmt ∷ [])

abbrev pub end_of : List Stmt → Mode → Option (List Stmt)
end_of done start = Some done
end_of done (inside form) = ended_with done (answer_of form)
