-- The productions that read a text from the left are the forms.
use Rattle.std.proofs.Common.{◌≡◌, ℕ, ℤ, Bool, true, false, cond, ◌==◌, nat_lt, nat_le, List, [], ◌∷◌, length, take, drop, Option, Some, None, Result, Ok, Err, codes, refl, sym, ap, ◌∙◌, arith}
use Rattle.pm_rows.specs.Limits.{max_value_bytes, max_changes}
use Rattle.pm_sql.{specs.{declared.{stmt.Stmt.{Stmt, TheVariants.{Insert, Update, Delete, Select, Count, Sleep}}, fault.{Kind.{Kind, TheVariants.{Syntax, Table, Range, TooLong, TooMany}}, Fault.Fault}}, Limits.max_sleep_seconds, Tokens.{skipped, starts_with_letter, word_len, digits_len, digits_value, is_same_word, behind_word, behind_mark, string_in}, Reading.{◌>>=◌, fault_at, found_or_fault, word_at, mark_at}, Grammar.{name_at, digits_at, behind_digits, sign_of, fits_bigint, signed, int_at, seconds_at, string_at, key_condition_at, columns_in, insert_at, update_at, delete_at, from_at, condition_in, order_in, rows_at, pairs_at, count_at, sleep_at, or_else, select_at}, Query.{if_room, stmt_at}, Token.{Token, Word, Digits, Quoted, Mark, in_lower_case, is_joined}}, proofs.{Fronts.skipped_twice, Lexer.{next_token, NotEmpty, says_word, word_seen, IsMark, says_mark, mark_seen, says_any_word, says_digits, says_string, cut, any_word_seen, digits_seen, string_behind, string_seen}, Forms.{Check, refuse, fine, over, Form, nothing, state, one, is_word, is_mark, is_any_word, are_digits, is_string, content_of, within, beyond, word_form, mark_form, name_form, digits_form, string_form, int_form, seconds_form, key_form, ends, value_form, values_form, columns_form, insert_form, where_form, update_form, delete_form, order_form, condition_form, rows_form, pairs_form, count_form, sleep_form, select_form, first_form, stmt_form, Found, unless_joined, take_token, run}}}

-- ---- one form before others

run_fine : (test : Token → Bool) (check : Token → Check) (next : Token → Form) (others : Form) (text : List ℕ) (token : Token) (rest : List ℕ) → next_token (skipped text) ≡ Some (token, rest)
    → test (in_lower_case token) ≡ true → check (in_lower_case token) ≡ fine → run (one test check next others) text ≡ unless_joined (is_joined token rest) rest (run (next (in_lower_case token)) rest)
unfolding run
run_fine test check next nothing text token rest e f g = rw (e, f, g) refl
run_fine test check next (state answer checks forms) text token rest e f g = rw (e, f, g) refl

run_over : (test : Token → Bool) (check : Token → Check) (next : Token → Form) (others : Form) (text : List ℕ) (token : Token) (rest : List ℕ) (kind : Kind) → next_token (skipped text) ≡ Some (token, rest)
    → test (in_lower_case token) ≡ true → check (in_lower_case token) ≡ over kind → run (one test check next others) text ≡ Err (fault_at kind (skipped text))
unfolding run
run_over test check next nothing text token rest kind e f g = rw (e, f, g) refl
run_over test check next (state answer checks forms) text token rest kind e f g = rw (e, f, g) refl

run_miss : (test : Token → Bool) (check : Token → Check) (next : Token → Form) (others : Form) (text : List ℕ) (token : Token) (rest : List ℕ) → next_token (skipped text) ≡ Some (token, rest)
    → test (in_lower_case token) ≡ false → run (one test check next others) text ≡ run others text
unfolding run
run_miss test check next nothing text token rest e f = rw (e, f) refl
run_miss test check next (state answer checks forms) text token rest e f = rw (e, f) refl

run_none : (test : Token → Bool) (check : Token → Check) (next : Token → Form) (others : Form) (text : List ℕ) → next_token (skipped text) ≡ None → run (one test check next others) text ≡ run others text
unfolding run
run_none test check next nothing text e = rw e refl
run_none test check next (state answer checks forms) text e = rw e refl

run_nothing : (text : List ℕ) → run nothing text ≡ Err (fault_at Syntax (skipped text))
unfolding run
run_nothing text = refl

-- ---- steps

bind_assoc : {A B C : Type 0} (read : Result A Fault) (f : A → Result B Fault) (g : B → Result C Fault) → ((read >>= f) >>= g) ≡ (read >>= (λ x. f x >>= g))
bind_assoc (Ok x) f g = refl
bind_assoc (Err fault) f g = refl

bind_found : {A B : Type 0} (found : Option A) (here : List ℕ) (f : A → Result B Fault) (whole : Result B Fault)
    → ((x : A) → found ≡ Some x → f x ≡ whole) → (found ≡ None → Err (fault_at Syntax here) ≡ whole) → (found_or_fault found here >>= f) ≡ whole
bind_found None here f whole some none = none refl
bind_found (Some x) here f whole some none = some x refl

by_found : (found : Option (List ℕ)) (f : List ℕ → Found) (others whole : Found) → ((x : List ℕ) → found ≡ Some x → f x ≡ whole) → (found ≡ None → others ≡ whole) → or_else found f others ≡ whole
by_found None f others whole some none = none refl
by_found (Some x) f others whole some none = some x refl

-- ---- words

-- where this word stands, and where it doesn't
first_by : (letters : List ℕ) (check : Check) (k others : Form) (text : List ℕ) (seen : Option (Token × List ℕ)) → next_token (skipped text) ≡ seen
    → ((rest : List ℕ) → says_word letters seen ≡ Some rest → check ≡ fine → run (one (is_word letters) (λ t. check) (λ t. k) others) text ≡ run k rest)
    × ((rest : List ℕ) (kind : Kind) → says_word letters seen ≡ Some rest → check ≡ over kind → run (one (is_word letters) (λ t. check) (λ t. k) others) text ≡ Err (fault_at kind (skipped text)))
    × (says_word letters seen ≡ None → run (one (is_word letters) (λ t. check) (λ t. k) others) text ≡ run others text)
first_by letters check k others text None e = (λ rest f g. cc f, λ rest kind f g. cc f, λ f. run_none (is_word letters) (λ t. check) (λ t. k) others text e)
first_by letters check k others text (Some (Word own, rest)) e = by_same (is_same_word own letters) refl where
  by_same : (b : Bool) → is_same_word own letters ≡ b
      → ((left : List ℕ) → cond b (Some rest) None ≡ Some left → check ≡ fine → run (one (is_word letters) (λ t. check) (λ t. k) others) text ≡ run k left)
      × ((left : List ℕ) (kind : Kind) → cond b (Some rest) None ≡ Some left → check ≡ over kind → run (one (is_word letters) (λ t. check) (λ t. k) others) text ≡ Err (fault_at kind (skipped text)))
      × (cond b (Some rest) None ≡ None → run (one (is_word letters) (λ t. check) (λ t. k) others) text ≡ run others text)
  by_same true s = (
    λ left f g. let same : rest ≡ left = cc f in run_fine (is_word letters) (λ t. check) (λ t. k) others text (Word own) rest e s g ∙ ap (run k) same,
    λ left kind f g. run_over (is_word letters) (λ t. check) (λ t. k) others text (Word own) rest kind e s g,
    λ f. cc f,
  )
  by_same false s = (λ left f g. cc f, λ left kind f g. cc f, λ f. run_miss (is_word letters) (λ t. check) (λ t. k) others text (Word own) rest e s)
first_by letters check k others text (Some (Digits digits, rest)) e = (λ rest f g. cc f, λ rest kind f g. cc f, λ f. run_miss (is_word letters) (λ t. check) (λ t. k) others text (Digits digits) rest e refl)
first_by letters check k others text (Some (Quoted content, rest)) e = (λ rest f g. cc f, λ rest kind f g. cc f, λ f. run_miss (is_word letters) (λ t. check) (λ t. k) others text (Quoted content) rest e refl)
first_by letters check k others text (Some (Mark byte, rest)) e = (λ rest f g. cc f, λ rest kind f g. cc f, λ f. run_miss (is_word letters) (λ t. check) (λ t. k) others text (Mark byte) rest e refl)

or_word : (letters text : List ℕ) (f : List ℕ → Found) (k : Form) (read : Found) (others : Form) → NotEmpty letters → ((rest : List ℕ) → f rest ≡ run k rest) → read ≡ run others text
    → or_else (behind_word letters (skipped text)) f read ≡ run (word_form letters k others) text
or_word letters text f k read others some same rest =
    let by = first_by letters fine k others text (next_token (skipped text)) refl in
    let seen = word_seen letters (skipped text) some in
    by_found (behind_word letters (skipped text)) f read (run (word_form letters k others) text)
    (λ left e. same left ∙ sym (by.0 left (sym seen ∙ e) refl)) (λ e. rest ∙ sym (by.2 (sym seen ∙ e)))

then_word : (letters text : List ℕ) (f : List ℕ → Found) (k : Form) → NotEmpty letters → ((rest : List ℕ) → f rest ≡ run k rest) → (word_at letters text >>= f) ≡ run (word_form letters k nothing) text
unfolding word_at
then_word letters text f k some same =
    let by = first_by letters fine k nothing text (next_token (skipped text)) refl in
    let seen = word_seen letters (skipped text) some in
    bind_found (behind_word letters (skipped text)) (skipped text) f (run (word_form letters k nothing) text)
    (λ left e. same left ∙ sym (by.0 left (sym seen ∙ e) refl)) (λ e. sym (run_nothing text) ∙ sym (by.2 (sym seen ∙ e)))

-- the first word of a statement that writes
room_check : (writing : ℕ) (here : List ℕ) (read : Found) (whole : Found) → (within TooMany (nat_lt writing max_changes) ≡ fine → read ≡ whole)
    → (within TooMany (nat_lt writing max_changes) ≡ over TooMany → Err (fault_at TooMany here) ≡ whole) → if_room writing here read ≡ whole
room_check writing here read whole = by_room (nat_lt writing max_changes) where
  by_room : (b : Bool) → (within TooMany b ≡ fine → read ≡ whole) → (within TooMany b ≡ over TooMany → Err (fault_at TooMany here) ≡ whole) → cond b read (Err (fault_at TooMany here)) ≡ whole
  by_room true room full = room refl
  by_room false room full = full refl

or_first : (letters : List ℕ) (writing : ℕ) (text : List ℕ) (f : List ℕ → Found) (k : Form) (read : Found) (others : Form) → NotEmpty letters → ((rest : List ℕ) → f rest ≡ run k rest) → read ≡ run others text
    → or_else (behind_word letters (skipped text)) (λ rest. if_room writing (skipped text) (f rest)) read ≡ run (first_form letters writing k others) text
or_first letters writing text f k read others some same rest =
    let by = first_by letters (within TooMany (nat_lt writing max_changes)) k others text (next_token (skipped text)) refl in
    let seen = word_seen letters (skipped text) some in
    by_found (behind_word letters (skipped text)) (λ rest. if_room writing (skipped text) (f rest)) read (run (first_form letters writing k others) text)
    (λ left e.
    room_check writing (skipped text) (f left) (run (first_form letters writing k others) text)
    (λ g. same left ∙ sym (by.0 left (sym seen ∙ e) g)) (λ g. sym (by.1 left TooMany (sym seen ∙ e) g)))
    (λ e. rest ∙ sym (by.2 (sym seen ∙ e)))

-- ---- marks

mark_by : (c : ℕ) (k others : Form) (text : List ℕ) (seen : Option (Token × List ℕ)) → next_token (skipped text) ≡ seen
    → ((rest : List ℕ) → says_mark c seen ≡ Some rest → run (mark_form c k others) text ≡ run k rest) × (says_mark c seen ≡ None → run (mark_form c k others) text ≡ run others text)
mark_by c k others text None e = (λ rest f. cc f, λ f. run_none (is_mark c) (λ t. fine) (λ t. k) others text e)
mark_by c k others text (Some (Word own, rest)) e = (λ rest f. cc f, λ f. run_miss (is_mark c) (λ t. fine) (λ t. k) others text (Word own) rest e refl)
mark_by c k others text (Some (Digits digits, rest)) e = (λ rest f. cc f, λ f. run_miss (is_mark c) (λ t. fine) (λ t. k) others text (Digits digits) rest e refl)
mark_by c k others text (Some (Quoted content, rest)) e = (λ rest f. cc f, λ f. run_miss (is_mark c) (λ t. fine) (λ t. k) others text (Quoted content) rest e refl)
mark_by c k others text (Some (Mark byte, rest)) e = by_same (byte == c) refl where
  by_same : (b : Bool) → byte == c ≡ b → ((left : List ℕ) → cond b (Some rest) None ≡ Some left → run (mark_form c k others) text ≡ run k left) × (cond b (Some rest) None ≡ None → run (mark_form c k others) text ≡ run others text)
  by_same true s = (λ left f. let same : rest ≡ left = cc f in run_fine (is_mark c) (λ t. fine) (λ t. k) others text (Mark byte) rest e s refl ∙ ap (run k) same, λ f. cc f)
  by_same false s = (λ left f. cc f, λ f. run_miss (is_mark c) (λ t. fine) (λ t. k) others text (Mark byte) rest e s)

or_mark : (c : ℕ) (text : List ℕ) (f : List ℕ → Found) (k : Form) (read : Found) (others : Form) → IsMark c → ((rest : List ℕ) → f rest ≡ run k rest) → read ≡ run others text
    → or_else (behind_mark c (skipped text)) f read ≡ run (mark_form c k others) text
or_mark c text f k read others made same rest =
    let by = mark_by c k others text (next_token (skipped text)) refl in
    let seen = mark_seen c (skipped text) made in
    by_found (behind_mark c (skipped text)) f read (run (mark_form c k others) text) (λ left e. same left ∙ sym (by.0 left (sym seen ∙ e))) (λ e. rest ∙ sym (by.1 (sym seen ∙ e)))

then_mark : (c : ℕ) (text : List ℕ) (f : List ℕ → Found) (k : Form) → IsMark c → ((rest : List ℕ) → f rest ≡ run k rest) → (mark_at c text >>= f) ≡ run (mark_form c k nothing) text
unfolding mark_at
then_mark c text f k made same =
    let by = mark_by c k nothing text (next_token (skipped text)) refl in
    let seen = mark_seen c (skipped text) made in
    bind_found (behind_mark c (skipped text)) (skipped text) f (run (mark_form c k nothing) text)
    (λ left e. same left ∙ sym (by.0 left (sym seen ∙ e))) (λ e. sym (run_nothing text) ∙ sym (by.1 (sym seen ∙ e)))

-- ---- the name

-- what `name_at` says of a word that was cut off
abbrev name_of : List ℕ → Option (List ℕ × List ℕ) → Result (List ℕ) Fault
name_of here None = Err (fault_at Syntax here)
name_of here (Some (own, rest)) = cond (is_same_word own (codes "kv")) (Ok rest) (Err (fault_at Table here))

name_cut : (input : List ℕ) → name_at input ≡ name_of (skipped input) (cut (word_len (skipped input)) (skipped input))
unfolding name_at
name_cut input = by_empty (word_len (skipped input) == 0) where
  by_empty : (b : Bool) → cond b (Err (fault_at Syntax (skipped input))) (cond (is_same_word (take (word_len (skipped input)) (skipped input)) (codes "kv")) (Ok (drop (word_len (skipped input)) (skipped input))) (Err (fault_at Table (skipped input))))
      ≡ name_of (skipped input) (cond b None (Some (take (word_len (skipped input)) (skipped input), drop (word_len (skipped input)) (skipped input))))
  by_empty true = refl
  by_empty false = refl

name_by : (text : List ℕ) (f : List ℕ → Found) (k : Form) (seen : Option (Token × List ℕ)) → next_token (skipped text) ≡ seen → ((rest : List ℕ) → f rest ≡ run k rest)
    → (name_of (skipped text) (says_any_word seen) >>= f) ≡ run (name_form k) text
name_by text f k None e same = sym (run_nothing text) ∙ sym (run_none is_any_word (λ t. within Table (is_word (codes "kv") t)) (λ t. k) nothing text e)
name_by text f k (Some (Word own, rest)) e same = by_same (is_same_word own (codes "kv")) refl where
  by_same : (b : Bool) → is_same_word own (codes "kv") ≡ b → (cond b (Ok rest) (Err (fault_at Table (skipped text))) >>= f) ≡ run (name_form k) text
  by_same true s = same rest ∙ sym (run_fine is_any_word (λ t. within Table (is_word (codes "kv") t)) (λ t. k) nothing text (Word own) rest e refl (ap (within Table) s))
  by_same false s = sym (run_over is_any_word (λ t. within Table (is_word (codes "kv") t)) (λ t. k) nothing text (Word own) rest Table e refl (ap (within Table) s))
name_by text f k (Some (Digits digits, rest)) e same = sym (run_nothing text) ∙ sym (run_miss is_any_word (λ t. within Table (is_word (codes "kv") t)) (λ t. k) nothing text (Digits digits) rest e refl)
name_by text f k (Some (Quoted content, rest)) e same = sym (run_nothing text) ∙ sym (run_miss is_any_word (λ t. within Table (is_word (codes "kv") t)) (λ t. k) nothing text (Quoted content) rest e refl)
name_by text f k (Some (Mark byte, rest)) e same = sym (run_nothing text) ∙ sym (run_miss is_any_word (λ t. within Table (is_word (codes "kv") t)) (λ t. k) nothing text (Mark byte) rest e refl)

then_name : (text : List ℕ) (f : List ℕ → Found) (k : Form) → ((rest : List ℕ) → f rest ≡ run k rest) → (name_at text >>= f) ≡ run (name_form k) text
then_name text f k same =
    ap (λ r. r >>= f) (name_cut text) ∙ ap (λ s. name_of (skipped text) s >>= f) (any_word_seen (skipped text)) ∙ name_by text f k (next_token (skipped text)) refl same

-- ---- digits

-- what is read of digits that were cut off
abbrev digits_of : (ℕ → Bool) → List ℕ → Option (List ℕ × List ℕ) → Result (ℕ × List ℕ) Fault
digits_of fits here None = Err (fault_at Syntax here)
digits_of fits here (Some (digits, rest)) = cond (fits (digits_value digits)) (cond (starts_with_letter rest) (Err (fault_at Syntax rest)) (Ok (digits_value digits, rest))) (Err (fault_at Range here))

abbrev with_value : {V : Type 0} → (ℕ → V) → ℕ × List ℕ → Result (V × List ℕ) Fault
with_value value found = Ok (value found.0, found.1)

-- digits, and what is after them, as the productions read them
abbrev digits_read : {V : Type 0} → (ℕ → Bool) → (ℕ → V) → List ℕ → Result (V × List ℕ) Fault
digits_read fits value text = digits_at text >>= (λ here. behind_digits (fits (digits_value (take (digits_len here) here))) here >>= (λ rest. with_value value (digits_value (take (digits_len here) here), rest)))

digits_cut : {V : Type 0} (fits : ℕ → Bool) (value : ℕ → V) (text : List ℕ) → digits_read fits value text ≡ (digits_of fits (skipped text) (cut (digits_len (skipped text)) (skipped text)) >>= with_value value)
unfolding digits_at behind_digits
digits_cut {V} fits value text = by_empty (digits_len (skipped text) == 0) where
  here : List ℕ
  here = skipped text

  by_letter : (b : Bool) (n : ℕ) (rest : List ℕ) → ((cond b (Err (fault_at Syntax rest)) (Ok rest)) >>= (λ rest. with_value value (n, rest))) ≡ ((cond b (Err (fault_at Syntax rest)) (Ok (n, rest))) >>= with_value value)
  by_letter true n rest = refl
  by_letter false n rest = refl

  by_range : (b : Bool) (n : ℕ) (rest at : List ℕ) → ((cond b (cond (starts_with_letter rest) (Err (fault_at Syntax rest)) (Ok rest)) (Err (fault_at Range at))) >>= (λ rest. with_value value (n, rest)))
      ≡ ((cond b (cond (starts_with_letter rest) (Err (fault_at Syntax rest)) (Ok (n, rest))) (Err (fault_at Range at))) >>= with_value value)
  by_range true n rest at = by_letter (starts_with_letter rest) n rest
  by_range false n rest at = refl

  by_empty : (b : Bool) → ((cond b (Err (fault_at Syntax (skipped text))) (Ok (skipped text))) >>= (λ here. behind_digits (fits (digits_value (take (digits_len here) here))) here >>= (λ rest. with_value value (digits_value (take (digits_len here) here), rest))))
      ≡ (digits_of fits (skipped text) (cond b None (Some (take (digits_len (skipped text)) (skipped text), drop (digits_len (skipped text)) (skipped text)))) >>= with_value value)
  by_empty true = refl
  by_empty false = by_range (fits (digits_value (take (digits_len (skipped text)) (skipped text)))) (digits_value (take (digits_len (skipped text)) (skipped text))) (drop (digits_len (skipped text)) (skipped text)) (skipped text)

digits_by : (fits : ℕ → Bool) (text : List ℕ) (f : ℕ × List ℕ → Found) (k : ℕ → Form) (seen : Option (Token × List ℕ)) → next_token (skipped text) ≡ seen → ((n : ℕ) (rest : List ℕ) → f (n, rest) ≡ run (k n) rest)
    → (digits_of fits (skipped text) (says_digits seen) >>= f) ≡ run (digits_form fits k) text
digits_by fits text f k None e same = sym (run_nothing text) ∙ sym (run_none are_digits (λ t. within Range (fits (digits_value (content_of t)))) (λ t. k (digits_value (content_of t))) nothing text e)
digits_by fits text f k (Some (Word own, rest)) e same = sym (run_nothing text) ∙ sym (run_miss are_digits (λ t. within Range (fits (digits_value (content_of t)))) (λ t. k (digits_value (content_of t))) nothing text (Word own) rest e refl)
digits_by fits text f k (Some (Digits digits, rest)) e same = by_range (fits (digits_value digits)) refl where
  by_letter : (b : Bool) → ((cond b (Err (fault_at Syntax rest)) (Ok (digits_value digits, rest))) >>= f) ≡ unless_joined b rest (run (k (digits_value digits)) rest)
  by_letter true = refl
  by_letter false = same (digits_value digits) rest

  by_range : (b : Bool) → fits (digits_value digits) ≡ b → ((cond b (cond (starts_with_letter rest) (Err (fault_at Syntax rest)) (Ok (digits_value digits, rest))) (Err (fault_at Range (skipped text)))) >>= f) ≡ run (digits_form fits k) text
  by_range true s = by_letter (starts_with_letter rest) ∙ sym (run_fine are_digits (λ t. within Range (fits (digits_value (content_of t)))) (λ t. k (digits_value (content_of t))) nothing text (Digits digits) rest e refl (ap (within Range) s))
  by_range false s = sym (run_over are_digits (λ t. within Range (fits (digits_value (content_of t)))) (λ t. k (digits_value (content_of t))) nothing text (Digits digits) rest Range e refl (ap (within Range) s))
digits_by fits text f k (Some (Quoted content, rest)) e same = sym (run_nothing text) ∙ sym (run_miss are_digits (λ t. within Range (fits (digits_value (content_of t)))) (λ t. k (digits_value (content_of t))) nothing text (Quoted content) rest e refl)
digits_by fits text f k (Some (Mark byte, rest)) e same = sym (run_nothing text) ∙ sym (run_miss are_digits (λ t. within Range (fits (digits_value (content_of t)))) (λ t. k (digits_value (content_of t))) nothing text (Mark byte) rest e refl)

then_digits : {V : Type 0} (fits : ℕ → Bool) (value : ℕ → V) (text : List ℕ) (f : V × List ℕ → Found) (k : ℕ → Form) → ((n : ℕ) (rest : List ℕ) → f (value n, rest) ≡ run (k n) rest)
    → (digits_read fits value text >>= f) ≡ run (digits_form fits k) text
then_digits {V} fits value text f k same =
    ap (λ r. r >>= f) (digits_cut fits value text)
    ∙ bind_assoc (digits_of fits (skipped text) (cut (digits_len (skipped text)) (skipped text))) (with_value value) f
    ∙ ap (λ s. digits_of fits (skipped text) s >>= (λ (found : ℕ × List ℕ). f (value found.0, found.1))) (digits_seen (skipped text))
    ∙ digits_by fits text (λ (found : ℕ × List ℕ). f (value found.0, found.1)) k (next_token (skipped text)) refl same

then_seconds : (text : List ℕ) (f : ℕ × List ℕ → Found) (k : ℕ → Form) → ((n : ℕ) (rest : List ℕ) → f (n, rest) ≡ run (k n) rest) → (seconds_at text >>= f) ≡ run (seconds_form k) text
unfolding seconds_at
then_seconds text f k same = then_digits (λ n. nat_le n max_sleep_seconds) (λ n. n) text f k same

-- ---- int

by_sign : (here : List ℕ) (f : Bool → List ℕ → Found) → f (sign_of here).0 (sign_of here).1 ≡ or_else (behind_mark 45 here) (f true) (or_else (behind_mark 43 here) (f false) (f false here))
by_sign [] f = refl
by_sign (b ∷ bs) f = by_minus (b == 45) (b == 43) where
  by_minus : (minus plus : Bool) → (let sign : Bool × List ℕ = cond minus (true, bs) (cond plus (false, bs) (false, b ∷ bs)) in f sign.0 sign.1) ≡ or_else (cond minus (Some bs) None) (f true) (or_else (cond plus (Some bs) None) (f false) (f false (b ∷ bs)))
  by_minus true plus = refl
  by_minus false true = refl
  by_minus false false = refl

digits_skipped : {V : Type 0} (fits : ℕ → Bool) (value : ℕ → V) (text : List ℕ) → digits_read fits value (skipped text) ≡ digits_read fits value text
unfolding digits_at
digits_skipped fits value text = rw skipped_twice refl

then_int : (text : List ℕ) (f : ℤ × List ℕ → Found) (k : ℤ → Form) → ((found : ℤ × List ℕ) → f found ≡ run (k found.0) found.1) → (int_at text >>= f) ≡ run (int_form k) text
unfolding int_at
then_int text f k same =
    by_sign (skipped text) (λ is_negative rest. digits_read (fits_bigint is_negative) (signed is_negative) rest >>= f)
    ∙ or_mark 45 text (λ rest. digits_read (fits_bigint true) (signed true) rest >>= f) _ _ _ (omega arith, refl, refl) (λ rest. then_digits (fits_bigint true) (signed true) rest f _ (λ n left. same (signed true n, left)))
    (or_mark 43 text (λ rest. digits_read (fits_bigint false) (signed false) rest >>= f) _ _ _ (omega arith, refl, refl) (λ rest. then_digits (fits_bigint false) (signed false) rest f _ (λ n left. same (signed false n, left)))
    (ap (λ r. r >>= f) (digits_skipped (fits_bigint false) (signed false) text) ∙ then_digits (fits_bigint false) (signed false) text f _ (λ n left. same (signed false n, left))))

then_key : (text : List ℕ) (f : ℤ × List ℕ → Found) (k : ℤ → Form) → ((found : ℤ × List ℕ) → f found ≡ run (k found.0) found.1) → (key_condition_at text >>= f) ≡ run (key_form k) text
unfolding key_condition_at
then_key text f k same =
    bind_assoc (word_at (codes "k") text) (λ a. mark_at 61 a >>= int_at) f
    ∙ then_word (codes "k") text _ _ refl (λ a.
    bind_assoc (mark_at 61 a) int_at f ∙ then_mark 61 a _ _ (omega arith, refl, refl) (λ b. then_int b f k same))

-- ---- strings

-- what is read of a string that was found
abbrev string_of : List ℕ → Option (List ℕ × List ℕ) → Result (List ℕ × List ℕ) Fault
string_of here None = Err (fault_at Syntax here)
string_of here (Some found) = cond (nat_lt max_value_bytes (length found.0)) (Err (fault_at TooLong here)) (Ok found)

string_cut : (text : List ℕ) → string_at text ≡ string_of (skipped text) (string_behind (behind_mark 39 (skipped text)))
unfolding string_at mark_at
string_cut text = by_quote (behind_mark 39 (skipped text)) where
  by_end : (found : Option (List ℕ × List ℕ)) → (found_or_fault found (skipped text) >>= (λ (found : List ℕ × List ℕ). cond (nat_lt max_value_bytes (length found.0)) (Err (fault_at TooLong (skipped text))) (Ok found))) ≡ string_of (skipped text) found
  by_end None = refl
  by_end (Some found) = refl

  by_quote : (begin : Option (List ℕ))
      → (found_or_fault begin (skipped text) >>= (λ begin. found_or_fault (string_in begin) (skipped text) >>= (λ (found : List ℕ × List ℕ). cond (nat_lt max_value_bytes (length found.0)) (Err (fault_at TooLong (skipped text))) (Ok found))))
      ≡ string_of (skipped text) (string_behind begin)
  by_quote None = refl
  by_quote (Some begin) = by_end (string_in begin)

string_by : (text : List ℕ) (f : List ℕ × List ℕ → Found) (k : List ℕ → Form) (seen : Option (Token × List ℕ)) → next_token (skipped text) ≡ seen → ((found : List ℕ × List ℕ) → f found ≡ run (k found.0) found.1)
    → (string_of (skipped text) (says_string seen) >>= f) ≡ run (string_form k) text
string_by text f k None e same = sym (run_nothing text) ∙ sym (run_none is_string (λ t. beyond TooLong (nat_lt max_value_bytes (length (content_of t)))) (λ t. k (content_of t)) nothing text e)
string_by text f k (Some (Word own, rest)) e same = sym (run_nothing text) ∙ sym (run_miss is_string (λ t. beyond TooLong (nat_lt max_value_bytes (length (content_of t)))) (λ t. k (content_of t)) nothing text (Word own) rest e refl)
string_by text f k (Some (Digits digits, rest)) e same = sym (run_nothing text) ∙ sym (run_miss is_string (λ t. beyond TooLong (nat_lt max_value_bytes (length (content_of t)))) (λ t. k (content_of t)) nothing text (Digits digits) rest e refl)
string_by text f k (Some (Quoted content, rest)) e same = by_length (nat_lt max_value_bytes (length content)) refl where
  by_length : (b : Bool) → nat_lt max_value_bytes (length content) ≡ b → (cond b (Err (fault_at TooLong (skipped text))) (Ok (content, rest)) >>= f) ≡ run (string_form k) text
  by_length true s = sym (run_over is_string (λ t. beyond TooLong (nat_lt max_value_bytes (length (content_of t)))) (λ t. k (content_of t)) nothing text (Quoted content) rest TooLong e refl (ap (beyond TooLong) s))
  by_length false s = same (content, rest) ∙ sym (run_fine is_string (λ t. beyond TooLong (nat_lt max_value_bytes (length (content_of t)))) (λ t. k (content_of t)) nothing text (Quoted content) rest e refl (ap (beyond TooLong) s))
string_by text f k (Some (Mark byte, rest)) e same = sym (run_nothing text) ∙ sym (run_miss is_string (λ t. beyond TooLong (nat_lt max_value_bytes (length (content_of t)))) (λ t. k (content_of t)) nothing text (Mark byte) rest e refl)

then_string : (text : List ℕ) (f : List ℕ × List ℕ → Found) (k : List ℕ → Form) → ((found : List ℕ × List ℕ) → f found ≡ run (k found.0) found.1) → (string_at text >>= f) ≡ run (string_form k) text
then_string text f k same =
    ap (λ r. r >>= f) (string_cut text) ∙ ap (λ s. string_of (skipped text) s >>= f) (string_seen (skipped text)) ∙ string_by text f k (next_token (skipped text)) refl same

-- ---- statements, after their first words

ends_run : (stmt : Stmt) (text : List ℕ) → Ok (stmt, text) ≡ run (ends stmt) text
unfolding run
ends_run stmt text = by_seen (next_token (skipped text)) where
  by_seen : (seen : Option (Token × List ℕ)) → Ok (stmt, text) ≡ take_token (Some stmt) (λ t. refuse) (λ t rest. run nothing rest) text seen
  by_seen None = refl
  by_seen (Some (token, rest)) = refl

then_columns : (text : List ℕ) (f : List ℕ → Found) → ((rest : List ℕ) → f rest ≡ run values_form rest) → (columns_in text (behind_mark 40 (skipped text)) >>= f) ≡ run columns_form text
then_columns text f same = by_mark (behind_mark 40 (skipped text)) ∙ or_mark 40 text (λ begin. columns_in text (Some begin) >>= f) _ (f text) values_form (omega arith, refl, refl) named (same text) where
  by_mark : (found : Option (List ℕ)) → (columns_in text found >>= f) ≡ or_else found (λ begin. columns_in text (Some begin) >>= f) (f text)
  by_mark None = refl
  by_mark (Some begin) = refl

  named : (begin : List ℕ) → (columns_in text (Some begin) >>= f) ≡ run (word_form (codes "k") (mark_form 44 (word_form (codes "v") (mark_form 41 values_form nothing) nothing) nothing) nothing) begin
  named begin =
      bind_assoc (word_at (codes "k") begin) (λ a. mark_at 44 a >>= (λ b. word_at (codes "v") b >>= (λ c. mark_at 41 c))) f
      ∙ then_word (codes "k") begin _ _ refl (λ a.
      bind_assoc (mark_at 44 a) (λ b. word_at (codes "v") b >>= (λ c. mark_at 41 c)) f
      ∙ then_mark 44 a _ _ (omega arith, refl, refl) (λ b.
      bind_assoc (word_at (codes "v") b) (λ c. mark_at 41 c) f
      ∙ then_word (codes "v") b _ _ refl (λ c. then_mark 41 c f values_form (omega arith, refl, refl) same)))

insert_run : (text : List ℕ) → insert_at text ≡ run insert_form text
unfolding insert_at
insert_run text =
    then_word (codes "into") text _ _ refl (λ a.
    then_name a _ _ (λ b.
    then_columns b _ (λ c.
    then_word (codes "values") c _ _ refl (λ d.
    then_mark 40 d _ _ (omega arith, refl, refl) (λ e.
    then_int e _ (λ key. mark_form 44 (value_form key) nothing) (λ key.
    then_mark 44 key.1 _ (value_form key.0) (omega arith, refl, refl) (λ g.
    then_string g _ (λ value. mark_form 41 (ends (Insert key.0 value)) nothing) (λ value.
    then_mark 41 value.1 _ _ (omega arith, refl, refl) (λ rest. ends_run (Insert key.0 value.0) rest)))))))))

update_run : (text : List ℕ) → update_at text ≡ run update_form text
unfolding update_at
update_run text =
    then_name text _ _ (λ a.
    then_word (codes "set") a _ _ refl (λ b.
    then_word (codes "v") b _ _ refl (λ c.
    then_mark 61 c _ _ (omega arith, refl, refl) (λ d.
    then_string d _ where_form (λ value.
    then_word (codes "where") value.1 _ _ refl (λ e.
    then_key e _ _ (λ key. ends_run (Update key.0 value.0) key.1)))))))

delete_run : (text : List ℕ) → delete_at text ≡ run delete_form text
unfolding delete_at
delete_run text =
    then_word (codes "from") text _ _ refl (λ a.
    then_name a _ _ (λ b.
    then_word (codes "where") b _ _ refl (λ c.
    then_key c _ _ (λ key. ends_run (Delete key.0) key.1))))

then_from : (text : List ℕ) (f : List ℕ → Found) (k : Form) → ((rest : List ℕ) → f rest ≡ run k rest) → (from_at text >>= f) ≡ run (word_form (codes "from") (name_form k) nothing) text
unfolding from_at
then_from text f k same = bind_assoc (word_at (codes "from") text) name_at f ∙ then_word (codes "from") text _ _ refl (λ a. then_name a f k same)

then_condition : (text : List ℕ) (f : Option ℤ × List ℕ → Found) → ((key : Option ℤ) (rest : List ℕ) → f (key, rest) ≡ run (order_form key) rest)
    → (condition_in text (behind_word (codes "where") (skipped text)) >>= f) ≡ run condition_form text
then_condition text f same =
    by_where (behind_word (codes "where") (skipped text))
    ∙ or_word (codes "where") text (λ begin. condition_in text (Some begin) >>= f) _ (f (None, text)) (order_form None) refl
    (λ begin. bind_assoc (key_condition_at begin) (λ (key : ℤ × List ℕ). Ok (Some key.0, key.1)) f ∙ then_key begin _ (λ key. order_form (Some key)) (λ key. same (Some key.0) key.1)) (same None text) where
      by_where : (found : Option (List ℕ)) → (condition_in text found >>= f) ≡ or_else found (λ begin. condition_in text (Some begin) >>= f) (f (None, text))
      by_where None = refl
      by_where (Some begin) = refl

abbrev selected : Option ℤ → List ℕ → Found
selected key rest = Ok (Select key, rest)

then_order : (key : Option ℤ) (text : List ℕ) → (order_in text (behind_word (codes "order") (skipped text)) >>= selected key) ≡ run (order_form key) text
then_order key text =
    by_order (behind_word (codes "order") (skipped text))
    ∙ or_word (codes "order") text (λ begin. order_in text (Some begin) >>= selected key) _ (selected key text) (ends (Select key)) refl
    (λ begin. bind_assoc (word_at (codes "by") begin) (word_at (codes "k")) (selected key) ∙ then_word (codes "by") begin _ _ refl (λ a. then_word (codes "k") a _ _ refl (ends_run (Select key)))) (ends_run (Select key) text) where
      by_order : (found : Option (List ℕ)) → (order_in text found >>= selected key) ≡ or_else found (λ begin. order_in text (Some begin) >>= selected key) (selected key text)
      by_order None = refl
      by_order (Some begin) = refl

rows_run : (text : List ℕ) → rows_at text ≡ run rows_form text
unfolding rows_at
rows_run text = then_from text _ _ (λ a. then_condition a _ (λ key rest. then_order key rest))

pairs_run : (text : List ℕ) → pairs_at text ≡ run pairs_form text
unfolding pairs_at
pairs_run text = then_mark 44 text _ _ (omega arith, refl, refl) (λ a. then_word (codes "v") a _ _ refl rows_run)

count_run : (text : List ℕ) → count_at text ≡ run count_form text
unfolding count_at
count_run text =
    then_mark 40 text _ _ (omega arith, refl, refl) (λ a.
    then_mark 42 a _ _ (omega arith, refl, refl) (λ b.
    then_mark 41 b _ _ (omega arith, refl, refl) (λ c. then_from c _ _ (ends_run Count))))

sleep_run : (text : List ℕ) → sleep_at text ≡ run sleep_form text
unfolding sleep_at
sleep_run text =
    then_mark 40 text _ _ (omega arith, refl, refl) (λ a.
    then_seconds a _ _ (λ seconds rest.
    then_mark 41 rest _ _ (omega arith, refl, refl) (ends_run (Sleep seconds))))

select_run : (text : List ℕ) → select_at text ≡ run select_form text
unfolding select_at
select_run text =
    or_mark 42 text rows_at rows_form _ _ (omega arith, refl, refl) rows_run
    (or_word (codes "k") text pairs_at pairs_form _ _ refl pairs_run
    (or_word (codes "count") text count_at count_form _ _ refl count_run
    (or_word (codes "pg_sleep") text sleep_at sleep_form _ _ refl sleep_run (sym (run_nothing text)))))

-- what is read of a statement is what its form reads
pub stmt_run : (writing : ℕ) (text : List ℕ) → stmt_at writing (skipped text) ≡ run (stmt_form writing) text
unfolding stmt_at
stmt_run writing text =
    or_first (codes "insert") writing text insert_at insert_form _ _ refl insert_run
    (or_first (codes "update") writing text update_at update_form _ _ refl update_run
    (or_first (codes "delete") writing text delete_at delete_form _ _ refl delete_run
    (or_word (codes "select") text select_at select_form _ _ refl select_run (sym (run_nothing text)))))
