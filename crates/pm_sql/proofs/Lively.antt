-- From each place that a form leads to, a statement can be brought to its end.
use Rattle.std.proofs.Common.{◌≡◌, ℕ, ℤ, Bool, true, false, cond, ◌==◌, nat_lt, nat_le, List, [], ◌∷◌, length, Option, Some, None, codes, refl, ap}
use Rattle.pm_rows.specs.Limits.{max_value_bytes, max_changes}
use Rattle.pm_sql.{specs.{declared.{stmt.Stmt.{Stmt, TheVariants.{Insert, Update, Delete, Select, Count, Sleep}}, fault.Kind.{Kind, TheVariants.{Syntax, Table, Range, TooLong, TooMany}}}, Limits.max_sleep_seconds, Tokens.digits_value, Grammar.{fits_bigint, signed}, Token.{Token, Word, Digits, Quoted, Mark}}, proofs.Forms.{Check, refuse, fine, over, Form, nothing, state, one, is_word, is_mark, is_any_word, are_digits, is_string, content_of, within, beyond, word_form, mark_form, name_form, digits_form, string_form, int_form, key_form, ends, value_form, values_form, columns_form, insert_form, where_form, update_form, delete_form, order_form, condition_form, rows_form, pairs_form, count_form, sleep_form, select_form, first_form, stmt_form}}

-- these tokens end a statement
abbrev pub EndsIn : Form → List Token → Stmt → Type 0
EndsIn nothing ts stmt = ⊥
EndsIn (state answer check next) [] stmt = answer ≡ Some stmt
EndsIn (state answer check next) (t ∷ ts) stmt = (check t ≡ fine) × EndsIn (next t) ts stmt

abbrev pub CanEnd : Form → Type 0
CanEnd form = (ts : List Token) × (stmt : Stmt) × EndsIn form ts stmt

-- a fault of a limit
abbrev pub IsLimit : Kind → Type 0
IsLimit Syntax = ⊥
IsLimit Table = Unit {0}
IsLimit Range = Unit {0}
IsLimit TooLong = Unit {0}
IsLimit TooMany = Unit {0}

abbrev pub IfTaken : Check → Type 0 → Type 0
IfTaken refuse P = Unit {0}
IfTaken fine P = P
IfTaken (over kind) P = IsLimit kind × P

-- after each token that has its place, a statement can end
abbrev pub Lively : Form → Type 0
Lively nothing = Unit {0}
Lively (state answer check next) = (t : Token) → IfTaken (check t) (CanEnd (next t) × Lively (next t))

pub record IsGood (form : Form) : Type 0 where
  pub ends : CanEnd form
  pub lively : Lively form

pub record IsLively (form : Form) : Type 0 where
  pub is : Lively form

still : {form : Form} → IsGood form → IsLively form
still good = record { is = good.lively }

no_more : IsLively nothing
no_more = record { is = tt }

-- ---- one form before others

taken_by : (check : Check) (P Q : Type 0) → IfTaken check (Unit {0}) → (P → Q) → P → IfTaken check Q
taken_by refuse P Q limit on p = tt
taken_by fine P Q limit on p = on p
taken_by (over kind) P Q limit on p = (limit.0, on p)

lively_one : (test : Token → Bool) (check : Token → Check) (next : Token → Form) (others : Form) → ((t : Token) → IfTaken (check t) (Unit {0})) → ((t : Token) → IsGood (next t)) → Lively others
    → Lively (one test check next others)
lively_one test check next nothing limit good more = λ t. by_test t (test t) where
  by_test : (t : Token) (b : Bool) → IfTaken (cond b (check t) refuse) (CanEnd (cond b (next t) nothing) × Lively (cond b (next t) nothing))
  by_test t true = taken_by (check t) (IsGood (next t)) (CanEnd (next t) × Lively (next t)) (limit t) (λ g. (g.ends, g.lively)) (good t)
  by_test t false = tt
lively_one test check next (state answer checks forms) limit good more = λ t. by_test t (test t) where
  by_test : (t : Token) (b : Bool) → IfTaken (cond b (check t) (checks t)) (CanEnd (cond b (next t) (forms t)) × Lively (cond b (next t) (forms t)))
  by_test t true = taken_by (check t) (IsGood (next t)) (CanEnd (next t) × Lively (next t)) (limit t) (λ g. (g.ends, g.lively)) (good t)
  by_test t false = more t

ends_one : (test : Token → Bool) (check : Token → Check) (next : Token → Form) (others : Form) (t : Token) → test t ≡ true → check t ≡ fine → CanEnd (next t) → CanEnd (one test check next others)
ends_one test check next nothing t e f (ts, stmt, is) = (t ∷ ts, stmt, (rw e f, rw e is))
ends_one test check next (state answer checks forms) t e f (ts, stmt, is) = (t ∷ ts, stmt, (rw e f, rw e is))

good_one : (test : Token → Bool) (check : Token → Check) (next : Token → Form) (others : Form) (t : Token) → test t ≡ true → check t ≡ fine → ((t : Token) → IfTaken (check t) (Unit {0})) → ((t : Token) → IsGood (next t))
    → IsLively others → IsGood (one test check next others)
good_one test check next others t e f limit good more = record { ends = ends_one test check next others t e f (good t).ends; lively = lively_one test check next others limit good more.is }

-- ---- tokens of one kind

within_limit : (kind : Kind) (b : Bool) → IsLimit kind → IfTaken (within kind b) (Unit {0})
within_limit kind true is = tt
within_limit kind false is = (is, tt)

beyond_limit : (kind : Kind) (b : Bool) → IsLimit kind → IfTaken (beyond kind b) (Unit {0})
beyond_limit kind true is = (is, tt)
beyond_limit kind false is = tt

-- a word that is looked for is one in lower case
abbrev pub IsLower : List ℕ → Type 0
IsLower letters = is_word letters (Word letters) ≡ true

good_word : (letters : List ℕ) (k others : Form) → IsLower letters → IsGood k → IsLively others → IsGood (word_form letters k others)
good_word letters k others lower good more = good_one (is_word letters) (λ t. fine) (λ t. k) others (Word letters) lower refl (λ t. tt) (λ t. good) more

good_mark : (c : ℕ) (k others : Form) → c == c ≡ true → IsGood k → IsLively others → IsGood (mark_form c k others)
good_mark c k others same good more = good_one (is_mark c) (λ t. fine) (λ t. k) others (Mark c) same refl (λ t. tt) (λ t. good) more

good_name : (k : Form) → IsGood k → IsGood (name_form k)
good_name k good = good_one is_any_word (λ t. within Table (is_word (codes "kv") t)) (λ t. k) nothing (Word (codes "kv")) refl refl (λ t. within_limit Table (is_word (codes "kv") t) tt) (λ t. good) no_more

good_digits : (fits : ℕ → Bool) (k : ℕ → Form) → fits 0 ≡ true → ((n : ℕ) → IsGood (k n)) → IsGood (digits_form fits k)
good_digits fits k small good =
    good_one are_digits (λ t. within Range (fits (digits_value (content_of t)))) (λ t. k (digits_value (content_of t))) nothing (Digits (48 ∷ [])) refl (ap (within Range) small)
    (λ t. within_limit Range (fits (digits_value (content_of t))) tt) (λ t. good (digits_value (content_of t))) no_more

good_string : (k : List ℕ → Form) → ((value : List ℕ) → IsGood (k value)) → IsGood (string_form k)
good_string k good =
    good_one is_string (λ t. beyond TooLong (nat_lt max_value_bytes (length (content_of t)))) (λ t. k (content_of t)) nothing (Quoted []) refl refl
    (λ t. beyond_limit TooLong (nat_lt max_value_bytes (length (content_of t))) tt) (λ t. good (content_of t)) no_more

good_int : (k : ℤ → Form) → ((key : ℤ) → IsGood (k key)) → IsGood (int_form k)
good_int k good =
    let plain = good_digits (fits_bigint false) (λ n. k (signed false n)) refl (λ n. good (signed false n)) in
    good_mark 45 _ _ refl (good_digits (fits_bigint true) (λ n. k (signed true n)) refl (λ n. good (signed true n))) (still (good_mark 43 _ _ refl plain (still plain)))

good_key : (k : ℤ → Form) → ((key : ℤ) → IsGood (k key)) → IsGood (key_form k)
good_key k good = good_word (codes "k") _ nothing refl (good_mark 61 _ nothing refl (good_int k good) no_more) no_more

good_end : (stmt : Stmt) → IsGood (ends stmt)
good_end stmt = record { ends = ([], stmt, refl); lively = λ t. tt }

-- ---- statements

good_values : IsGood values_form
good_values =
    good_word (codes "values") _ nothing refl
    (good_mark 40 _ nothing refl (good_int (λ key. mark_form 44 (value_form key) nothing) (λ key.
    good_mark 44 (value_form key) nothing refl (good_string (λ value. mark_form 41 (ends (Insert key value)) nothing) (λ value.
    good_mark 41 (ends (Insert key value)) nothing refl (good_end (Insert key value)) no_more)) no_more)) no_more) no_more

good_insert : IsGood insert_form
good_insert =
    good_word (codes "into") _ nothing refl
    (good_name columns_form
    (good_mark 40 _ values_form refl
    (good_word (codes "k") _ nothing refl (good_mark 44 _ nothing refl (good_word (codes "v") _ nothing refl (good_mark 41 values_form nothing refl good_values no_more) no_more) no_more) no_more) (still good_values))) no_more

good_update : IsGood update_form
good_update =
    good_name _
    (good_word (codes "set") _ nothing refl
    (good_word (codes "v") _ nothing refl
    (good_mark 61 _ nothing refl (good_string where_form (λ value.
    good_word (codes "where") (key_form (λ key. ends (Update key value))) nothing refl (good_key (λ key. ends (Update key value)) (λ key. good_end (Update key value))) no_more)) no_more) no_more) no_more)

good_delete : IsGood delete_form
good_delete = good_word (codes "from") _ nothing refl (good_name _ (good_word (codes "where") _ nothing refl (good_key (λ key. ends (Delete key)) (λ key. good_end (Delete key))) no_more)) no_more

good_order : (key : Option ℤ) → IsGood (order_form key)
good_order key =
    good_word (codes "order") _ (ends (Select key)) refl (good_word (codes "by") _ nothing refl (good_word (codes "k") _ nothing refl (good_end (Select key)) no_more) no_more) (still (good_end (Select key)))

good_rows : IsGood rows_form
good_rows =
    good_word (codes "from") _ nothing refl
    (good_name condition_form (good_word (codes "where") _ (order_form None) refl (good_key (λ key. order_form (Some key)) (λ key. good_order (Some key))) (still (good_order None)))) no_more

good_pairs : IsGood pairs_form
good_pairs = good_mark 44 _ nothing refl (good_word (codes "v") rows_form nothing refl good_rows no_more) no_more

good_count : IsGood count_form
good_count =
    good_mark 40 _ nothing refl (good_mark 42 _ nothing refl (good_mark 41 _ nothing refl (good_word (codes "from") _ nothing refl (good_name (ends Count) (good_end Count)) no_more) no_more) no_more) no_more

good_sleep : IsGood sleep_form
good_sleep =
    good_mark 40 _ nothing refl (good_digits (λ n. nat_le n max_sleep_seconds) (λ seconds. mark_form 41 (ends (Sleep seconds)) nothing) refl (λ seconds.
    good_mark 41 (ends (Sleep seconds)) nothing refl (good_end (Sleep seconds)) no_more)) no_more

good_select : IsGood select_form
good_select =
    good_mark 42 rows_form _ refl good_rows
    (still (good_word (codes "k") pairs_form _ refl good_pairs (still (good_word (codes "count") count_form _ refl good_count (still (good_word (codes "pg_sleep") sleep_form nothing refl good_sleep no_more))))))

lively_first : (letters : List ℕ) (writing : ℕ) (k others : Form) → IsGood k → IsLively others → IsLively (first_form letters writing k others)
lively_first letters writing k others good more =
    record { is = lively_one (is_word letters) (λ t. within TooMany (nat_lt writing max_changes)) (λ t. k) others (λ t. within_limit TooMany (nat_lt writing max_changes) tt) (λ t. good) more.is }

pub lively_stmt : (writing : ℕ) → IsLively (stmt_form writing)
lively_stmt writing =
    lively_first (codes "insert") writing insert_form _ good_insert
    (lively_first (codes "update") writing update_form _ good_update
    (lively_first (codes "delete") writing delete_form _ good_delete
    (still (good_word (codes "select") select_form nothing refl good_select no_more))))
