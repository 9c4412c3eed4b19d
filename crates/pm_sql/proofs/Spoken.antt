-- A statement's form accepts the token lists of the grammar, and no other.
use Rattle.std.{proofs.{Common.{◌≡◌, ℕ, ℤ, pos, neg_ℤ, ◌^◌, ◌<◌, ◌≤◌, ◌⊎◌, inl, inr, Bool, true, false, nat_lt, nat_le, List, [], ◌∷◌, ◌++◌, map, length, Option, Some, None, bytes_eq, codes, count_by, refl, sym, ap, ◌∙◌, subst, append_assoc, lt-ltb, le-leb, le-ltb, ltb-true, ltb-false, leb-true}, lemmas.Slice.Eq.bytes_eq-Decides}, specs.Char.to_ascii_lowercase}
use Rattle.pm_rows.specs.Limits.{max_value_bytes, max_changes}
use Rattle.pm_sql.{specs.{declared.{stmt.Stmt.{Stmt, TheVariants.{Insert, Update, Delete, Select, Count, Sleep}}, fault.Kind.{Kind, TheVariants.{Table, Range, TooLong, TooMany}}}, Limits.{max_sleep_seconds, is_writing}, Tokens.digits_value, Grammar.{fits_bigint, signed}, Token.{Token, Word, Digits, Quoted, Mark}, Statements.{Keeps, word, mark, IsName, IsInt, IsValue, IsIntoColumns, IsSelectColumns, IsCondition, IsOrder, IsStatement}}, proofs.{Lexer.eq_of_test, Forms.{fine, Form, nothing, is_word, is_mark, is_any_word, are_digits, is_string, content_of, within, beyond, word_form, mark_form, name_form, digits_form, string_form, int_form, key_form, ends, value_form, values_form, columns_form, insert_form, set_form, where_form, update_form, delete_form, order_form, condition_form, rows_form, pairs_form, count_form, sleep_form, select_form, first_form, stmt_form, start, inside, answer_of, moved}, Accepts.{AcceptsMove, Accepts, one_accepts, nothing_accepts}}}

-- ---- the tokens of an INSERT, grouped to the right

abbrev InsertTokens : Token → Token → List Token → List Token → List Token → List Token
InsertTokens name string columns int rest = word "into" ∷ name ∷ (columns ++ (word "values" ∷ mark "(" ∷ (int ++ (mark "," ∷ string ∷ mark ")" ∷ rest))))

insert_split : (name string : Token) (columns int rest : List Token) → InsertTokens name string columns int rest ≡ InsertTokens name string columns int [] ++ rest
insert_split name string columns int rest = sym (simp append_assoc refl)

insert_tokens : (name string : Token) (columns int : List Token)
    → word "insert" ∷ InsertTokens name string columns int [] ≡ word "insert" ∷ word "into" ∷ name ∷ columns ++ word "values" ∷ mark "(" ∷ int ++ mark "," ∷ string ∷ mark ")" ∷ []
insert_tokens name string columns int = sym (simp append_assoc refl)

insert_all : (first ts : List Token) (name string : Token) (columns int : List Token) → first ≡ word "insert" ∷ word "into" ∷ name ∷ columns ++ word "values" ∷ mark "(" ∷ int ++ mark "," ∷ string ∷ mark ")" ∷ []
    → word "insert" ∷ InsertTokens name string columns int ts ≡ first ++ ts
insert_all first ts name string columns int e = ap (λ t. word "insert" ∷ t) (insert_split name string columns int ts) ∙ ap (λ t. t ++ ts) (insert_tokens name string columns int ∙ sym e)

select_all : (first ts : List Token) (name : Token) (cols condition order : List Token) → first ≡ word "select" ∷ cols ++ word "from" ∷ name ∷ condition ++ order
    → word "select" ∷ (cols ++ (word "from" ∷ name ∷ (condition ++ (order ++ ts)))) ≡ first ++ ts
select_all first ts name cols condition order e = sym (simp append_assoc refl) ∙ ap (λ t. t ++ ts) (sym e)

-- ---- what the grammar has is accepted

taken_within : (kept kind : Kind) (b : Bool) (done : List Stmt) (answer : Option Stmt) (semicolon : Bool) (k : Form) (ts : List Token) (stmts : List Stmt) → Keeps kept kind (b ≡ true) → Accepts kept done (inside k) ts stmts
    → AcceptsMove kept (moved done answer semicolon k (within kind b)) (λ done mode. Accepts kept done mode ts stmts)
taken_within kept kind true done answer semicolon k ts stmts limit a = (tt, a)
taken_within kept kind false done answer semicolon k ts stmts limit a = (λ h. let no : false ≡ true = limit h in cc no, a)

taken_beyond : (kept kind : Kind) (b : Bool) (done : List Stmt) (answer : Option Stmt) (semicolon : Bool) (k : Form) (ts : List Token) (stmts : List Stmt) → Keeps kept kind (b ≡ false) → Accepts kept done (inside k) ts stmts
    → AcceptsMove kept (moved done answer semicolon k (beyond kind b)) (λ done mode. Accepts kept done mode ts stmts)
taken_beyond kept kind false done answer semicolon k ts stmts limit a = (tt, a)
taken_beyond kept kind true done answer semicolon k ts stmts limit a = (λ h. let no : true ≡ false = limit h in cc no, a)

module _ (kept : Kind) (done : List Stmt) (stmts : List Stmt) where
  abbrev In : Form → List Token → Type 0
  In form ts = Accepts kept done (inside form) ts stmts

  name_in : (name : Token) (k : Form) (ts : List Token) → IsName kept name → In k ts → In (name_form k) (name ∷ ts)
  name_in name k ts (letters, e, table) a =
      rw e (taken_within kept Table (bytes_eq letters (map to_ascii_lowercase (codes "kv"))) done None false k ts stmts (λ h. ap (λ l. bytes_eq l (map to_ascii_lowercase (codes "kv"))) (table h)) a)

  digits_in : (fits : ℕ → Bool) (k : ℕ → Form) (digits : List ℕ) (ts : List Token) → Keeps kept Range (fits (digits_value digits) ≡ true) → In (k (digits_value digits)) ts → In (digits_form fits k) (Digits digits ∷ ts)
  digits_in fits k digits ts range a = taken_within kept Range (fits (digits_value digits)) done None false (k (digits_value digits)) ts stmts range a

  int_in : (int : List Token) (value : ℤ) (k : ℤ → Form) (ts : List Token) → IsInt kept int value → In (k value) ts → In (int_form k) (int ++ ts)
  int_in int value k ts (digits, inl (e, v, range)) a =
      rw e (digits_in (fits_bigint false) (λ n. k (signed false n)) digits ts (λ h. lt-ltb (digits_value digits) (2 ^ 63) (range h)) (subst (λ z. In (k z) ts) v a))
  int_in int value k ts (digits, inr (inl (e, v, range))) a =
      rw e (tt, digits_in (fits_bigint false) (λ n. k (signed false n)) digits ts (λ h. lt-ltb (digits_value digits) (2 ^ 63) (range h)) (subst (λ z. In (k z) ts) v a))
  int_in int value k ts (digits, inr (inr (e, v, range))) a =
      rw e (tt, digits_in (fits_bigint true) (λ n. k (signed true n)) digits ts (λ h. le-leb (digits_value digits) (2 ^ 63) (range h)) (subst (λ z. In (k z) ts) v a))

  value_in : (string : Token) (value : List ℕ) (k : List ℕ → Form) (ts : List Token) → IsValue kept string value → In (k value) ts → In (string_form k) (string ∷ ts)
  value_in string value k ts (e, short) a =
      rw e (taken_beyond kept TooLong (nat_lt max_value_bytes (length value)) done None false (k value) ts stmts (λ h. le-ltb max_value_bytes (length value) (short h)) a)

  columns_in : (columns : List Token) (ts : List Token) → IsIntoColumns columns → In values_form (word "values" ∷ ts) → In columns_form (columns ++ (word "values" ∷ ts))
  columns_in columns ts (inl e) a = rw e a
  columns_in columns ts (inr e) a = rw e (tt, (tt, (tt, (tt, (tt, a)))))

  -- where a statement ends no word stands
  skip_word : (letters : List ℕ) (k : Form) (stmt : Stmt) (ts : List Token) → In (ends stmt) ts → In (word_form letters k (ends stmt)) ts
  skip_word letters k stmt [] a = a
  skip_word letters k stmt (Word own ∷ ts) a = absurd a
  skip_word letters k stmt (Digits digits ∷ ts) a = absurd a
  skip_word letters k stmt (Quoted content ∷ ts) a = absurd a
  skip_word letters k stmt (Mark byte ∷ ts) a = a

  skip_words : (letters others : List ℕ) (k l : Form) (stmt : Stmt) (ts : List Token) → In (ends stmt) ts → In (word_form letters k (word_form others l (ends stmt))) ts
  skip_words letters others k l stmt [] a = a
  skip_words letters others k l stmt (Word own ∷ ts) a = absurd a
  skip_words letters others k l stmt (Digits digits ∷ ts) a = absurd a
  skip_words letters others k l stmt (Quoted content ∷ ts) a = absurd a
  skip_words letters others k l stmt (Mark byte ∷ ts) a = a

  rows_in : (name : Token) (condition order : List Token) (key : Option ℤ) (ts : List Token) → IsName kept name → IsCondition kept condition key → IsOrder order → In (ends (Select key)) ts
      → In rows_form (word "from" ∷ name ∷ (condition ++ (order ++ ts)))
  rows_in name condition order None ts named e (inl f) a =
      (tt, name_in name condition_form _ named (rw (e, f) (skip_words (codes "where") (codes "order") _ _ (Select None) ts a)))
  rows_in name condition order None ts named e (inr f) a = (tt, name_in name condition_form _ named (rw (e, f) (tt, (tt, (tt, a)))))
  rows_in name condition order (Some key) ts named (int, is, e) (inl f) a =
      (tt, name_in name condition_form _ named (rw (e, f) (tt, (tt, (tt, int_in int key (λ key. order_form (Some key)) ts is (skip_word (codes "order") _ (Select (Some key)) ts a))))))
  rows_in name condition order (Some key) ts named (int, is, e) (inr f) a =
      (tt, name_in name condition_form _ named (rw (e, f) (tt, (tt, (tt, int_in int key (λ key. order_form (Some key)) (word "order" ∷ word "by" ∷ word "k" ∷ ts) is (tt, (tt, (tt, a))))))))

  -- a statement from its first word on, where there is room for it
  pub stmt_in : (first ts : List Token) (stmt : Stmt) → IsStatement kept first stmt → Keeps kept TooMany (is_writing stmt ≡ true → count_by is_writing done < max_changes) → In (ends stmt) ts → Accepts kept done start (first ++ ts) stmts
  stmt_in first ts (Insert key value) (name, string, columns, int, named, cols, is, short, e) room a =
      subst (λ l. Accepts kept done start l stmts) (insert_all first ts name string columns int e) (
      taken_within kept TooMany (nat_lt (count_by is_writing done) max_changes) done None false insert_form (InsertTokens name string columns int ts) stmts (λ h. lt-ltb (count_by is_writing done) max_changes (room h refl)) (
        tt,
        name_in name columns_form (columns ++ (word "values" ∷ mark "(" ∷ (int ++ (mark "," ∷ string ∷ mark ")" ∷ ts)))) named
            (columns_in columns (mark "(" ∷ (int ++ (mark "," ∷ string ∷ mark ")" ∷ ts))) cols
            (tt, (tt, int_in int key (λ key. mark_form 44 (value_form key) nothing) (mark "," ∷ string ∷ mark ")" ∷ ts) is (tt, value_in string value (λ value. mark_form 41 (ends (Insert key value)) nothing) (mark ")" ∷ ts) short (tt, a))))),
      ))
  stmt_in first ts (Update key value) (name, string, int, named, short, is, e) room a =
      let behind_value = word "where" ∷ word "k" ∷ mark "=" ∷ (int ++ ts) in
      let behind_name = word "set" ∷ word "v" ∷ mark "=" ∷ string ∷ behind_value in
      rw e (
      taken_within kept TooMany (nat_lt (count_by is_writing done) max_changes) done None false update_form (name ∷ behind_name) stmts (λ h. lt-ltb (count_by is_writing done) max_changes (room h refl))
      (name_in name set_form behind_name named (tt, (tt, (tt, value_in string value where_form behind_value short (tt, (tt, (tt, int_in int key (λ key. ends (Update key value)) ts is a))))))))
  stmt_in first ts (Delete key) (name, int, named, is, e) room a =
      let behind_name = word "where" ∷ word "k" ∷ mark "=" ∷ (int ++ ts) in
      rw e (
      taken_within kept TooMany (nat_lt (count_by is_writing done) max_changes) done None false delete_form (word "from" ∷ name ∷ behind_name) stmts (λ h. lt-ltb (count_by is_writing done) max_changes (room h refl))
      (tt, name_in name (word_form (codes "where") (key_form (λ key. ends (Delete key))) nothing) behind_name named (tt, (tt, (tt, int_in int key (λ key. ends (Delete key)) ts is a)))))
  stmt_in first ts (Select key) (name, cols, condition, order, named, inl c, is, ordered, e) room a =
      subst (λ l. Accepts kept done start l stmts) (select_all first ts name cols condition order e) (rw c (tt, (tt, (tt, (tt, rows_in name condition order key ts named is ordered a)))))
  stmt_in first ts (Select key) (name, cols, condition, order, named, inr c, is, ordered, e) room a =
      subst (λ l. Accepts kept done start l stmts) (select_all first ts name cols condition order e) (rw c (tt, (tt, rows_in name condition order key ts named is ordered a)))
  stmt_in first ts Count (name, named, e) room a = rw e (tt, (tt, (tt, (tt, (tt, (tt, name_in name (ends Count) ts named a))))))
  stmt_in first ts (Sleep seconds) (digits, v, range, e) room a =
      rw e (
        tt,
        (
          tt,
          (
            tt,
            digits_in (λ n. nat_le n max_sleep_seconds) (λ seconds. mark_form 41 (ends (Sleep seconds)) nothing) digits (mark ")" ∷ ts)
                (λ h. le-leb (digits_value digits) max_sleep_seconds (subst (λ n. n ≤ max_sleep_seconds) v (range h))) (tt, subst (λ n. In (ends (Sleep n)) ts) v a),
          ),
        ),
      )

-- ---- what is accepted the grammar has

left_within : (kept kind : Kind) (b : Bool) (done : List Stmt) (answer : Option Stmt) (semicolon : Bool) (k : Form) (ts : List Token) (stmts : List Stmt)
    → AcceptsMove kept (moved done answer semicolon k (within kind b)) (λ done mode. Accepts kept done mode ts stmts) → Keeps kept kind (b ≡ true) × Accepts kept done (inside k) ts stmts
left_within kept kind true done answer semicolon k ts stmts a = (λ h. refl, a.1)
left_within kept kind false done answer semicolon k ts stmts a = (λ h. absurd (a.0 h), a.1)

left_beyond : (kept kind : Kind) (b : Bool) (done : List Stmt) (answer : Option Stmt) (semicolon : Bool) (k : Form) (ts : List Token) (stmts : List Stmt)
    → AcceptsMove kept (moved done answer semicolon k (beyond kind b)) (λ done mode. Accepts kept done mode ts stmts) → Keeps kept kind (b ≡ false) × Accepts kept done (inside k) ts stmts
left_beyond kept kind false done answer semicolon k ts stmts a = (λ h. refl, a.1)
left_beyond kept kind true done answer semicolon k ts stmts a = (λ h. absurd (a.0 h), a.1)

is_that_word : (letters : List ℕ) (t : Token) → map to_ascii_lowercase letters ≡ letters → is_word letters t ≡ true → t ≡ Word letters
is_that_word letters (Word own) lower e = ap Word ((bytes_eq-Decides own (map to_ascii_lowercase letters)).0 e ∙ lower)
is_that_word letters (Digits digits) lower e = cc e
is_that_word letters (Quoted content) lower e = cc e
is_that_word letters (Mark byte) lower e = cc e

is_that_mark : (c : ℕ) (t : Token) → is_mark c t ≡ true → t ≡ Mark c
is_that_mark c (Word own) e = cc e
is_that_mark c (Digits digits) e = cc e
is_that_mark c (Quoted content) e = cc e
is_that_mark c (Mark byte) e = ap Mark (eq_of_test byte c e)

is_some_word : (t : Token) → is_any_word t ≡ true → t ≡ Word (content_of t)
is_some_word (Word own) e = refl
is_some_word (Digits digits) e = cc e
is_some_word (Quoted content) e = cc e
is_some_word (Mark byte) e = cc e

are_some_digits : (t : Token) → are_digits t ≡ true → t ≡ Digits (content_of t)
are_some_digits (Word own) e = cc e
are_some_digits (Digits digits) e = refl
are_some_digits (Quoted content) e = cc e
are_some_digits (Mark byte) e = cc e

is_some_string : (t : Token) → is_string t ≡ true → t ≡ Quoted (content_of t)
is_some_string (Word own) e = cc e
is_some_string (Digits digits) e = cc e
is_some_string (Quoted content) e = refl
is_some_string (Mark byte) e = cc e

abbrev begins_word : List ℕ → List Token → Bool
begins_word letters [] = false
begins_word letters (t ∷ ts) = is_word letters t

module _ (kept : Kind) (done : List Stmt) (stmts : List Stmt) where
  abbrev Out : Form → List Token → Type 0
  Out form ts = Accepts kept done (inside form) ts stmts

  -- a token, and what is accepted after it
  abbrev Behind : Token → Form → List Token → Type 0
  Behind t k ts = (rest : List Token) × (ts ≡ t ∷ rest) × Out k rest

  word_or : (letters : List ℕ) (k others : Form) (ts : List Token) → map to_ascii_lowercase letters ≡ letters → Out (word_form letters k others) ts → Behind (Word letters) k ts ⊎ Out others ts
  word_or letters k others ts lower a = elim (one_accepts kept done (is_word letters) (λ t. fine) (λ t. k) others ts stmts a) [
    | inl (t, rest, e, is, b) ↦ inl (rest, e ∙ ap (λ t. t ∷ rest) (is_that_word letters t lower is), b.1)
    | inr b ↦ inr b
  ]

  only : {A : Type 0} (ts : List Token) → A ⊎ Out nothing ts → A
  only ts (inl a) = a
  only ts (inr b) = absurd (nothing_accepts kept done ts stmts b)

  word_out : (letters : List ℕ) (k : Form) (ts : List Token) → map to_ascii_lowercase letters ≡ letters → Out (word_form letters k nothing) ts → Behind (Word letters) k ts
  word_out letters k ts lower a = only ts (word_or letters k nothing ts lower a)

  mark_or : (c : ℕ) (k others : Form) (ts : List Token) → Out (mark_form c k others) ts → Behind (Mark c) k ts ⊎ Out others ts
  mark_or c k others ts a = elim (one_accepts kept done (is_mark c) (λ t. fine) (λ t. k) others ts stmts a) [
    | inl (t, rest, e, is, b) ↦ inl (rest, e ∙ ap (λ t. t ∷ rest) (is_that_mark c t is), b.1)
    | inr b ↦ inr b
  ]

  mark_out : (c : ℕ) (k : Form) (ts : List Token) → Out (mark_form c k nothing) ts → Behind (Mark c) k ts
  mark_out c k ts a = only ts (mark_or c k nothing ts a)

  name_out : (k : Form) (ts : List Token) → Out (name_form k) ts → (name : Token) × (rest : List Token) × (ts ≡ name ∷ rest) × IsName kept name × Out k rest
  name_out k ts a =
      let (t, rest, e, is, b) = (only ts (one_accepts kept done is_any_word (λ t. within Table (is_word (codes "kv") t)) (λ t. k) nothing ts stmts a)) in
      let both = left_within kept Table (is_word (codes "kv") t) done None (is_mark 59 t) k rest stmts b in
      let that = is_some_word t is in
      (t, rest, e, (content_of t, that, λ h. let same : t ≡ Word (codes "kv") = is_that_word (codes "kv") t refl (both.0 h) in ap content_of same), both.1)

  digits_out : (fits : ℕ → Bool) (k : ℕ → Form) (ts : List Token) → Out (digits_form fits k) ts
      → (digits : List ℕ) × (rest : List Token) × (ts ≡ Digits digits ∷ rest) × Keeps kept Range (fits (digits_value digits) ≡ true) × Out (k (digits_value digits)) rest
  digits_out fits k ts a =
      let (t, rest, e, is, b) = (only ts (one_accepts kept done are_digits (λ t. within Range (fits (digits_value (content_of t)))) (λ t. k (digits_value (content_of t))) nothing ts stmts a)) in
      let both = left_within kept Range (fits (digits_value (content_of t))) done None (is_mark 59 t) (k (digits_value (content_of t))) rest stmts b in
      (content_of t, rest, e ∙ ap (λ t. t ∷ rest) (are_some_digits t is), both.0, both.1)

  value_out : (k : List ℕ → Form) (ts : List Token) → Out (string_form k) ts → (string : Token) × (value : List ℕ) × (rest : List Token) × (ts ≡ string ∷ rest) × IsValue kept string value × Out (k value) rest
  value_out k ts a =
      let (t, rest, e, is, b) = (only ts (one_accepts kept done is_string (λ t. beyond TooLong (nat_lt max_value_bytes (length (content_of t)))) (λ t. k (content_of t)) nothing ts stmts a)) in
      let both = left_beyond kept TooLong (nat_lt max_value_bytes (length (content_of t))) done None (is_mark 59 t) (k (content_of t)) rest stmts b in
      (t, content_of t, rest, e, (is_some_string t is, λ h. ltb-false max_value_bytes (length (content_of t)) (both.0 h)), both.1)

  -- an int, and what is accepted after it
  abbrev IntOut : (ℤ → Form) → List Token → Type 0
  IntOut k ts = (int : List Token) × (value : ℤ) × (rest : List Token) × (ts ≡ int ++ rest) × IsInt kept int value × Out (k value) rest

  plain_out : (k : ℤ → Form) (ts : List Token) → Out (digits_form (fits_bigint false) (λ n. k (signed false n))) ts → IntOut k ts
  plain_out k ts a =
      let b = digits_out (fits_bigint false) (λ n. k (signed false n)) ts a in
      (Digits b.0 ∷ [], pos (digits_value b.0), b.1, b.2, (b.0, inl (refl, refl, λ h. ltb-true (digits_value b.0) (2 ^ 63) (b.3 h))), b.4)

  plus_out : (k : ℤ → Form) (ts : List Token) → Behind (Mark 43) (digits_form (fits_bigint false) (λ n. k (signed false n))) ts → IntOut k ts
  plus_out k ts (rest, e, a) =
      let b = digits_out (fits_bigint false) (λ n. k (signed false n)) rest a in
      (mark "+" ∷ Digits b.0 ∷ [], pos (digits_value b.0), b.1, e ∙ ap (λ t. mark "+" ∷ t) b.2, (b.0, inr (inl (refl, refl, λ h. ltb-true (digits_value b.0) (2 ^ 63) (b.3 h)))), b.4)

  minus_out : (k : ℤ → Form) (ts : List Token) → Behind (Mark 45) (digits_form (fits_bigint true) (λ n. k (signed true n))) ts → IntOut k ts
  minus_out k ts (rest, e, a) =
      let b = digits_out (fits_bigint true) (λ n. k (signed true n)) rest a in
      (mark "-" ∷ Digits b.0 ∷ [], neg_ℤ (pos (digits_value b.0)), b.1, e ∙ ap (λ t. mark "-" ∷ t) b.2, (b.0, inr (inr (refl, refl, λ h. leb-true (digits_value b.0) (2 ^ 63) (b.3 h)))), b.4)

  int_out : (k : ℤ → Form) (ts : List Token) → Out (int_form k) ts → IntOut k ts
  int_out k ts a = elim (mark_or 45 _ (mark_form 43 (digits_form (fits_bigint false) (λ n. k (signed false n))) (digits_form (fits_bigint false) (λ n. k (signed false n)))) ts a) [
    | inl b ↦ minus_out k ts b
    | inr b ↦ elim (mark_or 43 _ (digits_form (fits_bigint false) (λ n. k (signed false n))) ts b) [ inl c ↦ plus_out k ts c | inr c ↦ plain_out k ts c ]
  ]

  key_out : (k : ℤ → Form) (ts : List Token) → Out (key_form k) ts → (int : List Token) × (value : ℤ) × (rest : List Token) × (ts ≡ word "k" ∷ mark "=" ∷ int ++ rest) × IsInt kept int value × Out (k value) rest
  key_out k ts a =
      let (front, e, b) = word_out (codes "k") _ ts refl a in
      let (last, f, c) = mark_out 61 (int_form k) front b in
      let (int, value, rest, g, is, d) = int_out k last c in
      (int, value, rest, e ∙ ap (λ t. word "k" ∷ t) (f ∙ ap (λ t. mark "=" ∷ t) g), is, d)

  columns_out : (ts : List Token) → Out columns_form ts → (columns rest : List Token) × (ts ≡ columns ++ rest) × IsIntoColumns columns × Out values_form rest
  columns_out ts a = elim (mark_or 40 _ values_form ts a) [
    | inl (r1, e1, b) ↦
        let (r2, e2, c) = word_out (codes "k") _ r1 refl b in
        let (r3, e3, d) = mark_out 44 _ r2 c in
        let (r4, e4, f) = word_out (codes "v") _ r3 refl d in
        let (r5, e5, g) = mark_out 41 values_form r4 f in (
          mark "(" ∷ word "k" ∷ mark "," ∷ word "v" ∷ mark ")" ∷ [],
          r5,
          e1 ∙ ap (λ t. mark "(" ∷ t) (e2 ∙ ap (λ t. word "k" ∷ t) (e3 ∙ ap (λ t. mark "," ∷ t) (e4 ∙ ap (λ t. word "v" ∷ t) e5))),
          inr refl,
          g,
        )
    | inr b ↦ ([], ts, refl, inl refl, b)
  ]

  -- a statement after its first word, and what is accepted after its end
  abbrev Spoken : Token → List Token → Type 0
  Spoken first ts = (own rest : List Token) × (stmt : Stmt) × (ts ≡ own ++ rest) × IsStatement kept (first ∷ own) stmt × Out (ends stmt) rest

  abbrev ValuesOut : List Token → Type 0
  ValuesOut ts = (string : Token) × (int rest : List Token) × (key : ℤ) × (value : List ℕ) × (ts ≡ word "values" ∷ mark "(" ∷ (int ++ (mark "," ∷ string ∷ mark ")" ∷ rest))) × IsInt kept int key × IsValue kept string value × Out (ends (Insert key value)) rest

  values_from : (ts front behind last : List Token) (int : List Token) (key : ℤ) → ts ≡ word "values" ∷ front → front ≡ mark "(" ∷ last → last ≡ int ++ behind → IsInt kept int key → Behind (Mark 44) (value_form key) behind → ValuesOut ts
  values_from ts front behind last int key e f g is (rest, h, a) =
      let (string, value, left, i, short, b) = value_out (λ value. mark_form 41 (ends (Insert key value)) nothing) rest a in
      let (end, j, c) = mark_out 41 (ends (Insert key value)) left b in
      (string, int, end, key, value, e ∙ ap (λ t. word "values" ∷ t) (f ∙ ap (λ t. mark "(" ∷ t) (g ∙ ap (λ t. int ++ t) (h ∙ ap (λ t. mark "," ∷ t) (i ∙ ap (λ t. string ∷ t) j)))), is, short, c)

  values_out : (ts : List Token) → Out values_form ts → ValuesOut ts
  values_out ts a =
      let (front, e, b) = word_out (codes "values") _ ts refl a in
      let (last, f, c) = mark_out 40 _ front b in
      let (int, key, behind, g, is, d) = int_out (λ key. mark_form 44 (value_form key) nothing) last c in
      values_from ts front behind last int key e f g is (mark_out 44 (value_form key) behind d)

  insert_values : (ts front rest columns behind : List Token) (name : Token) → ts ≡ word "into" ∷ front → front ≡ name ∷ rest → rest ≡ columns ++ behind → IsName kept name → IsIntoColumns columns → ValuesOut behind → Spoken (word "insert") ts
  insert_values ts front rest columns behind name e f g named cols (string, int, left, key, value, h, is, short, a) = (
    InsertTokens name string columns int [],
    left,
    Insert key value,
    e ∙ ap (λ t. word "into" ∷ t) (f ∙ ap (λ t. name ∷ t) (g ∙ ap (λ t. columns ++ t) h)) ∙ insert_split name string columns int left,
    (name, string, columns, int, named, cols, is, short, insert_tokens name string columns int),
    a,
  )

  insert_out : (ts : List Token) → Out insert_form ts → Spoken (word "insert") ts
  insert_out ts a =
      let (front, e, b) = word_out (codes "into") _ ts refl a in
      let (name, rest, f, named, c) = name_out columns_form front b in
      let (columns, behind, g, cols, d) = columns_out rest c in
      insert_values ts front rest columns behind name e f g named cols (values_out behind d)

  update_key : (ts rest behind : List Token) (name string : Token) (value : List ℕ) → ts ≡ name ∷ word "set" ∷ word "v" ∷ mark "=" ∷ string ∷ rest → rest ≡ word "where" ∷ behind → IsName kept name → IsValue kept string value
      → Out (key_form (λ key. ends (Update key value))) behind → Spoken (word "update") ts
  update_key ts rest behind name string value e f named short a =
      let (int, key, left, g, is, b) = key_out (λ key. ends (Update key value)) behind a in (
        name ∷ word "set" ∷ word "v" ∷ mark "=" ∷ string ∷ word "where" ∷ word "k" ∷ mark "=" ∷ int,
        left,
        Update key value,
        e ∙ ap (λ t. name ∷ word "set" ∷ word "v" ∷ mark "=" ∷ string ∷ t) (f ∙ ap (λ t. word "where" ∷ t) g),
        (name, string, int, named, short, is, refl),
        b,
      )

  update_out : (ts : List Token) → Out update_form ts → Spoken (word "update") ts
  update_out ts a =
      let (name, r1, e1, named, b) = name_out set_form ts a in
      let (r2, e2, c) = word_out (codes "set") _ r1 refl b in
      let (r3, e3, d) = word_out (codes "v") _ r2 refl c in
      let (r4, e4, e) = mark_out 61 _ r3 d in
      let (string, value, r5, e5, short, f) = value_out where_form r4 e in
      let (r6, e6, g) = word_out (codes "where") (key_form (λ key. ends (Update key value))) r5 refl f in
      update_key ts r5 r6 name string value (e1 ∙ ap (λ t. name ∷ t) (e2 ∙ ap (λ t. word "set" ∷ t) (e3 ∙ ap (λ t. word "v" ∷ t) (e4 ∙ ap (λ t. mark "=" ∷ t) e5)))) e6 named short g

  delete_out : (ts : List Token) → Out delete_form ts → Spoken (word "delete") ts
  delete_out ts a =
      let (r1, e1, b) = word_out (codes "from") _ ts refl a in
      let (name, r2, e2, named, c) = name_out _ r1 b in
      let (r3, e3, d) = word_out (codes "where") (key_form (λ key. ends (Delete key))) r2 refl c in
      let (int, key, r4, e4, is, e) = key_out (λ key. ends (Delete key)) r3 d in (
        word "from" ∷ name ∷ word "where" ∷ word "k" ∷ mark "=" ∷ int,
        r4,
        Delete key,
        e1 ∙ ap (λ t. word "from" ∷ t) (e2 ∙ ap (λ t. name ∷ t) (e3 ∙ ap (λ t. word "where" ∷ t) e4)),
        (name, int, named, is, refl),
        e,
      )

  order_out : (key : Option ℤ) (ts : List Token) → Out (order_form key) ts → (order rest : List Token) × (ts ≡ order ++ rest) × IsOrder order × Out (ends (Select key)) rest
  order_out key ts a = elim (word_or (codes "order") _ (ends (Select key)) ts refl a) [
    | inl (r1, e1, b) ↦
        let (r2, e2, c) = word_out (codes "by") _ r1 refl b in
        let (r3, e3, d) = word_out (codes "k") (ends (Select key)) r2 refl c in
        (word "order" ∷ word "by" ∷ word "k" ∷ [], r3, e1 ∙ ap (λ t. word "order" ∷ t) (e2 ∙ ap (λ t. word "by" ∷ t) e3), inr refl, d)
    | inr b ↦ ([], ts, refl, inl refl, b)
  ]

  abbrev RowsOut : List Token → Type 0
  RowsOut ts = (name : Token) × (condition order rest : List Token) × (key : Option ℤ) × (ts ≡ word "from" ∷ name ∷ (condition ++ (order ++ rest))) × IsName kept name × IsCondition kept condition key × IsOrder order × Out (ends (Select key)) rest

  condition_out : (name : Token) (ts rest : List Token) → ts ≡ word "from" ∷ name ∷ rest → IsName kept name → Out condition_form rest → RowsOut ts
  condition_out name ts rest e named a = elim (word_or (codes "where") _ (order_form None) rest refl a) [
    | inl (r1, e1, b) ↦
        let (int, key, r2, e2, is, c) = key_out (λ key. order_form (Some key)) r1 b in
        let (order, r3, e3, ordered, d) = order_out (Some key) r2 c in
        let tail : rest ≡ (word "where" ∷ word "k" ∷ mark "=" ∷ int) ++ (order ++ r3) = e1 ∙ ap (λ t. word "where" ∷ t) (e2 ∙ ap (λ t. word "k" ∷ mark "=" ∷ (int ++ t)) e3) in
        (name, word "where" ∷ word "k" ∷ mark "=" ∷ int, order, r3, Some key, e ∙ ap (λ t. word "from" ∷ name ∷ t) tail, named, (int, is, refl), ordered, d)
    | inr b ↦
        let (order, r3, e3, ordered, d) = order_out None rest b in
        (name, [], order, r3, None, e ∙ ap (λ t. word "from" ∷ name ∷ t) e3, named, refl, ordered, d)
  ]

  rows_out : (ts : List Token) → Out rows_form ts → RowsOut ts
  rows_out ts a =
      let (r1, e1, b) = word_out (codes "from") _ ts refl a in
      let (name, r2, e2, named, c) = name_out condition_form r1 b in
      condition_out name ts r2 (e1 ∙ ap (λ t. word "from" ∷ t) e2) named c

  -- the columns of a SELECT of rows, and the rest
  select_rows : (cols ts rest : List Token) → IsSelectColumns cols → ts ≡ cols ++ rest → RowsOut rest → Spoken (word "select") ts
  select_rows cols ts rest is e (name, condition, order, left, key, f, named, cond_is, ordered, a) = (
    cols ++ (word "from" ∷ name ∷ (condition ++ order)),
    left,
    Select key,
    e ∙ ap (λ t. cols ++ t) f ∙ sym (simp append_assoc refl),
    (name, cols, condition, order, named, is, cond_is, ordered, sym (simp append_assoc refl)),
    a,
  )

  pairs_out : (ts rest : List Token) → ts ≡ word "k" ∷ rest → Out pairs_form rest → Spoken (word "select") ts
  pairs_out ts rest e a =
      let (r1, e1, b) = mark_out 44 _ rest a in
      let (r2, e2, c) = word_out (codes "v") rows_form r1 refl b in
      select_rows (word "k" ∷ mark "," ∷ word "v" ∷ []) ts r2 (inl refl) (e ∙ ap (λ t. word "k" ∷ t) (e1 ∙ ap (λ t. mark "," ∷ t) e2)) (rows_out r2 c)

  count_out : (ts rest : List Token) → ts ≡ word "count" ∷ rest → Out count_form rest → Spoken (word "select") ts
  count_out ts rest e a =
      let (r1, e1, b) = mark_out 40 _ rest a in
      let (r2, e2, c) = mark_out 42 _ r1 b in
      let (r3, e3, d) = mark_out 41 _ r2 c in
      let (r4, e4, f) = word_out (codes "from") _ r3 refl d in
      let (name, r5, e5, named, g) = name_out (ends Count) r4 f in (
        word "count" ∷ mark "(" ∷ mark "*" ∷ mark ")" ∷ word "from" ∷ name ∷ [],
        r5,
        Count,
        e ∙ ap (λ t. word "count" ∷ t) (e1 ∙ ap (λ t. mark "(" ∷ t) (e2 ∙ ap (λ t. mark "*" ∷ t) (e3 ∙ ap (λ t. mark ")" ∷ t) (e4 ∙ ap (λ t. word "from" ∷ t) e5)))),
        (name, named, refl),
        g,
      )

  sleep_out : (ts rest : List Token) → ts ≡ word "pg_sleep" ∷ rest → Out sleep_form rest → Spoken (word "select") ts
  sleep_out ts rest e a =
      let (r1, e1, b) = mark_out 40 _ rest a in
      let (digits, r2, e2, range, c) = digits_out (λ n. nat_le n max_sleep_seconds) (λ seconds. mark_form 41 (ends (Sleep seconds)) nothing) r1 b in
      let (r3, e3, d) = mark_out 41 (ends (Sleep (digits_value digits))) r2 c in (
        word "pg_sleep" ∷ mark "(" ∷ Digits digits ∷ mark ")" ∷ [],
        r3,
        Sleep (digits_value digits),
        e ∙ ap (λ t. word "pg_sleep" ∷ t) (e1 ∙ ap (λ t. mark "(" ∷ t) (e2 ∙ ap (λ t. Digits digits ∷ t) e3)),
        (digits, refl, λ i. leb-true (digits_value digits) max_sleep_seconds (range i), refl),
        d,
      )

  select_out : (ts : List Token) → Out select_form ts → Spoken (word "select") ts
  select_out ts a = elim (mark_or 42 rows_form (word_form (codes "k") pairs_form (word_form (codes "count") count_form (word_form (codes "pg_sleep") sleep_form nothing))) ts a) [
    | inl (rest, e, b) ↦ select_rows (mark "*" ∷ []) ts rest (inr refl) e (rows_out rest b)
    | inr b ↦ elim (word_or (codes "k") pairs_form (word_form (codes "count") count_form (word_form (codes "pg_sleep") sleep_form nothing)) ts refl b) [
      | inl (rest, e, c) ↦ pairs_out ts rest e c
      | inr c ↦ elim (word_or (codes "count") count_form (word_form (codes "pg_sleep") sleep_form nothing) ts refl c) [
        | inl (rest, e, d) ↦ count_out ts rest e d
        | inr d ↦ let (rest, e, f) = word_out (codes "pg_sleep") sleep_form ts refl d in sleep_out ts rest e f
      ]
    ]
  ]

  -- a whole statement, which there is room for, and what is accepted after it
  abbrev pub StmtOut : List Token → Type 0
  StmtOut ts = (first rest : List Token) × (stmt : Stmt) × (ts ≡ first ++ rest) × IsStatement kept first stmt × Keeps kept TooMany (is_writing stmt ≡ true → count_by is_writing done < max_changes) × Out (ends stmt) rest

  with_first : (letters : List ℕ) (k others : Form) (ts : List Token) → map to_ascii_lowercase letters ≡ letters → Out (first_form letters (count_by is_writing done) k others) ts
      → ((rest : List Token) × (ts ≡ Word letters ∷ rest) × Keeps kept TooMany (count_by is_writing done < max_changes) × Out k rest) ⊎ Out others ts
  with_first letters k others ts lower a = elim (one_accepts kept done (is_word letters) (λ t. within TooMany (nat_lt (count_by is_writing done) max_changes)) (λ t. k) others ts stmts a) [
    | inl (t, rest, e, is, b) ↦
        let both = left_within kept TooMany (nat_lt (count_by is_writing done) max_changes) done (answer_of others) (is_mark 59 t) k rest stmts b in
        inl (rest, e ∙ ap (λ t. t ∷ rest) (is_that_word letters t lower is), (λ h. ltb-true (count_by is_writing done) max_changes (both.0 h)), both.1)
    | inr b ↦ inr b
  ]

  spoken : (letters : List ℕ) (ts rest : List Token) → ts ≡ Word letters ∷ rest → ((stmt : Stmt) → Keeps kept TooMany (is_writing stmt ≡ true → count_by is_writing done < max_changes)) → Spoken (Word letters) rest → StmtOut ts
  spoken letters ts rest e room (own, left, stmt, f, is, a) = (Word letters ∷ own, left, stmt, e ∙ ap (λ t. Word letters ∷ t) f, is, room stmt, a)

  -- a SELECT doesn't write
  select_reads : (ts : List Token) → Out select_form ts → (s : Spoken (word "select") ts) × (is_writing s.2 ≡ false)
  select_reads ts a = let s = select_out ts a in (s, reads s.0 s.2 s.4) where
    reads : (own : List Token) (stmt : Stmt) → IsStatement kept (word "select" ∷ own) stmt → is_writing stmt ≡ false
    reads own (Insert key value) (name, string, columns, int, named, cols, is, short, e) = let other : false ≡ true = ap (begins_word (codes "insert")) e in cc other
    reads own (Update key value) (name, string, int, named, short, is, e) = let other : false ≡ true = ap (begins_word (codes "update")) e in cc other
    reads own (Delete key) (name, int, named, is, e) = let other : false ≡ true = ap (begins_word (codes "delete")) e in cc other
    reads own (Select key) is = refl
    reads own Count is = refl
    reads own (Sleep seconds) is = refl

  pub stmt_out : (ts : List Token) → Out (stmt_form (count_by is_writing done)) ts → StmtOut ts
  stmt_out ts a = elim (with_first (codes "insert") insert_form _ ts refl a) [
    | inl b ↦ spoken (codes "insert") ts b.0 b.1 (λ stmt h writes. b.2 h) (insert_out b.0 b.3)
    | inr b ↦ elim (with_first (codes "update") update_form _ ts refl b) [
      | inl c ↦ spoken (codes "update") ts c.0 c.1 (λ stmt h writes. c.2 h) (update_out c.0 c.3)
      | inr c ↦ elim (with_first (codes "delete") delete_form _ ts refl c) [
        | inl d ↦ spoken (codes "delete") ts d.0 d.1 (λ stmt h writes. d.2 h) (delete_out d.0 d.3)
        | inr d ↦
            let e = word_out (codes "select") select_form ts refl d in
            let s = select_reads e.0 e.2 in
            (word "select" ∷ s.0.0, s.0.1, s.0.2, e.1 ∙ ap (λ t. word "select" ∷ t) s.0.3, s.0.4, (λ h writes. let no : true ≡ false = sym writes ∙ s.1 in cc no), s.0.5)
      ]
    ]
  ]
