-- A text that leads no further has the fault that is told, and no other.
use Rattle.std.{proofs.{Common.{◌≡◌, ◌≢◌, ℕ, zero, suc, ◌+◌, ◌-◌, ◌<◌, ◌≤◌, ◌⊎◌, inl, inr, Bool, true, false, cond, List, [], ◌∷◌, ◌++◌, map, length, Option, Some, None, Ok, Err, refl, sym, ap, ◌∙◌, subst, true≢false, append_assoc, drop, count_by, arith}, lemmas.List.{append-nil, length-drop}}, specs.{List.prefix_len, Char.is_ascii_whitespace}}
use Rattle.pm_sql.{specs.{declared.{stmt.Stmt.Stmt, fault.{Kind.{Kind, TheVariants.{Syntax, Table, Range, TooLong, TooMany}}, Fault.Fault}}, Limits.is_writing, Tokens.skipped, Query.{script_of, fault_in, told}, Token.{Token, Word, Digits, Quoted, Mark, in_lower_case, IsFront, is_joined, IsApart, IsUpTo}, Statements.{rank, IsQuery, IsQueryText}, Faults.{CanGoOn, SomeFollows, NoneFollows, IsRefusedHere, IsFaultAt, IsFaultOf}}, proofs.{Fronts.letter_isnt_white, Lexer.{next_token, no_token, front_next}, Forms.{Check, refuse, fine, over, Form, nothing, state, is_mark, stmt_form, Mode, start, inside, Move, stop, go, end_move, moved, form_move, move, ended_with, end_of}, Accepts.{Place, led_by, leads, AcceptsMove, Accepts, accepts_behind, syntax_least, accepts_fewer, accepts_one}, Lively.{EndsIn, CanEnd, IsLimit, IfTaken, Lively, lively_stmt}, Queries.{query_in, query_out}, Outcomes.{Taken, lower, Why, IsStuck, IsWhole, Outcome, front_shorter, script_outcome}}}

-- ---- the tokens of a text are determined

front_one : (text : List ℕ) (token other : Token) (rest left : List ℕ) → IsFront text token rest → IsFront text other left → (token ≡ other) × (rest ≡ left)
front_one text token other rest left is are =
    let same : ◌≡◌ {A = Option (Token × List ℕ)} (Some (token, rest)) (Some (other, left)) = sym (front_next text token rest is) ∙ front_next text other left are in
    let pair : ◌≡◌ {A = Token × List ℕ} (token, rest) (other, left) = cc same in
    (ap (λ (p : Token × List ℕ). p.0) pair, ap (λ (p : Token × List ℕ). p.1) pair)

-- one more token than these
abbrev More : List ℕ → List Token → List Token → Type 0
More text front other = (token : Token) × (tokens : List Token) × (rest : List ℕ) × (other ≡ front ++ token ∷ tokens) × IsUpTo text (front ++ token ∷ []) rest

abbrev Compared : List ℕ → List Token → List ℕ → List Token → List ℕ → Type 0
Compared text front here other there = ((front ≡ other) × (here ≡ there)) ⊎ More text front other ⊎ More text other front

apart_more : (token : Token) (rest : List ℕ) (front other : List Token) (next : Token) (tokens : List Token) → other ≡ front ++ next ∷ tokens → IsApart token rest other → IsApart token rest (front ++ next ∷ [])
apart_more token rest [] other next tokens e is = rw e at is
apart_more token rest (t ∷ front) other next tokens e is = rw e at is

more_behind : (text : List ℕ) (token : Token) (rest : List ℕ) (front other : List Token) → IsFront text token rest → IsApart token rest other → More rest front other → More text (token ∷ front) (token ∷ other)
more_behind text token rest front other is apart (next, tokens, left, e, up) =
    (next, tokens, left, ap (λ t. token ∷ t) e, (rest, is, apart_more token rest front other next tokens e apart, up))

compared : (text : List ℕ) (front other : List Token) (here there : List ℕ) → IsUpTo text front here → IsUpTo text other there → Compared text front here other there
compared text [] [] here there a b = inl (refl, a ∙ sym b)
compared text [] (t ∷ other) here there a (rest, is, apart, b) = inr (inl (t, other, skipped rest, refl, (rest, is, tt, refl)))
compared text (t ∷ front) [] here there (rest, is, apart, a) b = inr (inr (t, front, skipped rest, refl, (rest, is, tt, refl)))
compared text (t ∷ front) (u ∷ other) here there (rest, is, apart, a) (left, are, away, b) =
    let (same, at) = front_one text t u rest left is are in
    let c = compared rest front other here there a (subst (λ r. IsUpTo r other there) (sym at) b) in
    let is' : IsFront text u rest = subst (λ t. IsFront text t rest) same is in
    let apart' : IsApart u rest front = subst (λ t. IsApart t rest front) same apart in
    let away' : IsApart u rest other = subst (λ r. IsApart u r other) (sym at) away in
    subst (λ t. Compared text (t ∷ front) here (u ∷ other) there) (sym same) (elim c [
      | inl (e, f) ↦ inl (ap (λ l. u ∷ l) e, f)
      | inr (inl more) ↦ inr (inl (more_behind text u rest front other is' away' more))
      | inr (inr more) ↦ inr (inr (more_behind text u rest other front is' apart' more))
    ])

-- after all of a text no token follows
none_at_end : (text : List ℕ) (front : List Token) (token : Token) (rest : List ℕ) → IsUpTo text front [] → IsUpTo text (front ++ token ∷ []) rest → ⊥
none_at_end text [] token rest e (left, is, apart, up) =
    no_token token left (ap next_token e ∙ front_next text token left is)
none_at_end text (t ∷ front) token rest (mid, is, apart, up) (left, are, away, more) =
    let (same, at) = front_one text t t mid left is are in
    none_at_end mid front token rest up (subst (λ r. IsUpTo r (front ++ token ∷ []) rest) (sym at) more)

-- ---- queries with fewer limits

query_fewer : (kept less : Kind) (tokens : List Token) (stmts : List Stmt) → rank less ≤ rank kept → IsQuery kept tokens stmts → IsQuery less tokens stmts
query_fewer kept less tokens stmts fewer is = query_out less tokens stmts (accepts_fewer kept less tokens [] start stmts fewer (query_in kept tokens stmts is))

go_on_fewer : (kept less : Kind) (front : List Token) → rank less ≤ rank kept → CanGoOn kept front → CanGoOn less front
go_on_fewer kept less front fewer (more, stmts, is) = (more, stmts, query_fewer kept less (map in_lower_case front ++ more) stmts fewer is)

some_fewer : (kept less : Kind) (text : List ℕ) (front : List Token) → rank less ≤ rank kept → SomeFollows kept text front → SomeFollows less text front
some_fewer kept less text front fewer (token, rest, up, can) = (token, rest, up, go_on_fewer kept less (front ++ token ∷ []) fewer can)

lower-append : (front more : List Token) → map in_lower_case (front ++ more) ≡ map in_lower_case front ++ map in_lower_case more
lower-append [] more = refl
lower-append (t ∷ front) more = ap (λ l. in_lower_case t ∷ l) (lower-append front more)

-- where more tokens go on, so do fewer
shorter_goes_on : (kept : Kind) (front other : List Token) → CanGoOn kept (front ++ other) → CanGoOn kept front
shorter_goes_on kept front other (more, stmts, is) =
    (map in_lower_case other ++ more, stmts, subst (λ l. IsQuery kept l stmts) (ap (λ l. l ++ more) (lower-append front other) ∙ append_assoc (map in_lower_case front) (map in_lower_case other) more) is)

one_goes_on : (kept : Kind) (front tokens : List Token) (token : Token) → CanGoOn kept (front ++ token ∷ tokens) → CanGoOn kept (front ++ token ∷ [])
one_goes_on kept front tokens token can = shorter_goes_on kept (front ++ token ∷ []) tokens (subst (CanGoOn kept) (sym (append_assoc front (token ∷ []) tokens)) can)

-- ---- one fault

-- what is refused here is no token of a query that keeps all limits
refused_none : (kind : Kind) (text : List ℕ) (front : List Token) (here : List ℕ) → IsUpTo text front here → IsRefusedHere kind text front here → SomeFollows TooMany text front → ⊥
refused_none Syntax text front here up (inl (e, early)) (token, rest, more, can) = none_at_end text front token rest (subst (IsUpTo text front) e up) more
refused_none Syntax text front here up (inr (e, none)) (token, rest, more, can) = none token rest more (go_on_fewer TooMany Syntax (front ++ token ∷ []) (omega arith) can)
refused_none Table text front here up (some, none) (token, rest, more, can) = none token rest more (go_on_fewer TooMany Table (front ++ token ∷ []) (omega arith) can)
refused_none Range text front here up (some, none) (token, rest, more, can) = none token rest more (go_on_fewer TooMany Range (front ++ token ∷ []) (omega arith) can)
refused_none TooLong text front here up (some, none) (token, rest, more, can) = none token rest more (go_on_fewer TooMany TooLong (front ++ token ∷ []) (omega arith) can)
refused_none TooMany text front here up (some, none) (token, rest, more, can) = none token rest more can

more_none : (text : List ℕ) (kind : Kind) (front other : List Token) (here : List ℕ) → IsUpTo text front here → IsRefusedHere kind text front here → CanGoOn TooMany other → More text front other → ⊥
more_none text kind front other here up refused can (token, tokens, rest, e, more) =
    refused_none kind text front here up refused (token, rest, more, one_goes_on TooMany front tokens token (subst (CanGoOn TooMany) e can))

-- with what is before a kind the token goes on, and with its limit none does
before_kind : (kind : Kind) (text : List ℕ) (front : List Token) (here : List ℕ) → IsUpTo text front here → IsRefusedHere kind text front here → (another : Kind) → rank another < rank kind → SomeFollows another text front
before_kind Syntax text front here up refused another less = absurd (omega arith)
before_kind Table text front here up (some, none) another less = some_fewer Syntax another text front (omega arith) some
before_kind Range text front here up (some, none) another less = some_fewer Table another text front (omega arith) some
before_kind TooLong text front here up (some, none) another less = some_fewer Range another text front (omega arith) some
before_kind TooMany text front here up (some, none) another less = some_fewer TooLong another text front (omega arith) some

with_kind : (kind : Kind) (text : List ℕ) (front : List Token) (here : List ℕ) → IsUpTo text front here → IsRefusedHere kind text front here → SomeFollows kind text front → ⊥
with_kind Syntax text front here up (inl (e, early)) (token, rest, more, can) = none_at_end text front token rest (subst (IsUpTo text front) e up) more
with_kind Syntax text front here up (inr (e, none)) (token, rest, more, can) = none token rest more can
with_kind Table text front here up (some, none) (token, rest, more, can) = none token rest more can
with_kind Range text front here up (some, none) (token, rest, more, can) = none token rest more can
with_kind TooLong text front here up (some, none) (token, rest, more, can) = none token rest more can
with_kind TooMany text front here up (some, none) (token, rest, more, can) = none token rest more can

kind_of_rank : ℕ → Kind
kind_of_rank zero = Syntax
kind_of_rank (suc zero) = Table
kind_of_rank (suc (suc zero)) = Range
kind_of_rank (suc (suc (suc zero))) = TooLong
kind_of_rank (suc (suc (suc (suc n)))) = TooMany

ranked : (kind : Kind) → kind_of_rank (rank kind) ≡ kind
unfolding kind_of_rank
ranked Syntax = refl
ranked Table = refl
ranked Range = refl
ranked TooLong = refl
ranked TooMany = refl

below_or_same : (m n : ℕ) → (m < n) ⊎ (n < m) ⊎ (m ≡ n)
below_or_same m n = grind arith

one_kind : (kind another : Kind) (text : List ℕ) (front : List Token) (here : List ℕ) → IsUpTo text front here → IsRefusedHere kind text front here → IsRefusedHere another text front here → kind ≡ another
one_kind kind another text front here up refused again = elim (below_or_same (rank kind) (rank another)) [
  | inl less ↦ absurd (with_kind kind text front here up refused (before_kind another text front here up again kind less))
  | inr (inl less) ↦ absurd (with_kind another text front here up again (before_kind kind text front here up refused another less))
  | inr (inr same) ↦ sym (ranked kind) ∙ ap kind_of_rank same ∙ ranked another
]

pub one_fault_law : (text : List ℕ) (kind another : Kind) (place other : ℕ) → IsFaultAt text kind place → IsFaultAt text another other → (kind ≡ another) × (place ≡ other)
one_fault_law text kind another place other a b = elim (compared text a.front b.front a.here b.here a.up_to b.up_to) [
  | inl (e, f) ↦
      let again : IsRefusedHere another text a.front a.here = subst (λ h. IsRefusedHere another text a.front h) (sym f) (subst (λ l. IsRefusedHere another text l b.here) (sym e) b.refused) in
      let long : length a.here ≡ length b.here = ap length f in
      let at = a.at in
      let there = b.at in
      (one_kind kind another text a.front a.here a.up_to a.refused again, omega (arith, long, at, there))
  | inr (inl more) ↦ absurd (more_none text kind a.front b.front a.here a.up_to a.refused b.goes_on more)
  | inr (inr more) ↦ absurd (more_none text another b.front a.front b.here b.up_to b.refused a.goes_on more)
]

-- ---- no fault in a query text

query_goes_on : (tokens : List Token) (stmts : List Stmt) → IsQuery TooMany (map in_lower_case tokens) stmts → CanGoOn TooMany tokens
query_goes_on tokens stmts is = ([], stmts, subst (λ l. IsQuery TooMany l stmts) (sym (append-nil (map in_lower_case tokens))) is)

at_end_none : (kind : Kind) (text : List ℕ) (front : List Token) (here : List ℕ) (stmts : List Stmt) → here ≡ [] → IsUpTo text front here → IsRefusedHere kind text front here → IsQuery TooMany (map in_lower_case front) stmts → ⊥
at_end_none Syntax text front here stmts e up (inl (f, early)) is = early stmts is
at_end_none Syntax text front here stmts e up (inr (f, none)) is = f e
at_end_none Table text front here stmts e up ((token, rest, more, can), none) is = none_at_end text front token rest (subst (IsUpTo text front) e up) more
at_end_none Range text front here stmts e up ((token, rest, more, can), none) is = none_at_end text front token rest (subst (IsUpTo text front) e up) more
at_end_none TooLong text front here stmts e up ((token, rest, more, can), none) is = none_at_end text front token rest (subst (IsUpTo text front) e up) more
at_end_none TooMany text front here stmts e up ((token, rest, more, can), none) is = none_at_end text front token rest (subst (IsUpTo text front) e up) more

pub no_fault_law : (text : List ℕ) (stmts : List Stmt) (kind : Kind) (place : ℕ) → IsQueryText text stmts → IsFaultAt text kind place → ⊥
no_fault_law text stmts kind place (tokens, spells, is) a = elim (compared text a.front tokens a.here [] a.up_to spells) [
  | inl (e, f) ↦ at_end_none kind text a.front a.here stmts f a.up_to a.refused (subst (λ l. IsQuery TooMany (map in_lower_case l) stmts) (sym e) is)
  | inr (inl more) ↦ more_none text kind a.front tokens a.here a.up_to a.refused (query_goes_on tokens stmts is) more
  | inr (inr (token, rest, left, e, more)) ↦ none_at_end text tokens token left spells more
]

-- ---- one script

pub one_script_law : (text : List ℕ) (stmts others : List Stmt) → IsQueryText text stmts → IsQueryText text others → stmts ≡ others
one_script_law text stmts others (tokens, spells, is) (again, spelled, are) = elim (compared text tokens again [] [] spells spelled) [
  | inl (e, f) ↦ accepts_one TooMany (map in_lower_case tokens) [] start stmts others (query_in TooMany _ stmts is) (query_in TooMany _ others (subst (λ l. IsQuery TooMany (map in_lower_case l) others) (sym e) are))
  | inr (inl (token, rest, left, e, more)) ↦ absurd (none_at_end text tokens token left spells more)
  | inr (inr (token, rest, left, e, more)) ↦ absurd (none_at_end text again token left spelled more)
]

-- ---- from each place that is reached a query can go on

abbrev IsGoodMode : Mode → Type 0
IsGoodMode start = Unit {0}
IsGoodMode (inside form) = CanEnd form × Lively form

abbrev IfOver : Check → Type 0
IfOver refuse = Unit {0}
IfOver fine = Unit {0}
IfOver (over kind) = IsLimit kind

-- what a move leads to
abbrev GoodMove : Move → Type 0
GoodMove stop = Unit {0}
GoodMove (go check done mode) = IsGoodMode mode × IfOver check

good_end : (done : List Stmt) (answer : Option Stmt) (semicolon : Bool) → GoodMove (end_move done answer semicolon)
good_end done None semicolon = tt
good_end done (Some stmt) false = tt
good_end done (Some stmt) true = (tt, tt)

good_moved : (done : List Stmt) (answer : Option Stmt) (semicolon : Bool) (next : Form) (check : Check) → IfTaken check (CanEnd next × Lively next) → GoodMove (moved done answer semicolon next check)
good_moved done answer semicolon next refuse good = good_end done answer semicolon
good_moved done answer semicolon next fine good = (good, tt)
good_moved done answer semicolon next (over kind) good = (good.1, good.0)

good_form : (done : List Stmt) (form : Form) (t : Token) → Lively form → GoodMove (form_move done form t)
good_form done nothing t lively = tt
good_form done (state answer check next) t lively = good_moved done answer (is_mark 59 t) (next t) (check t) (lively t)

good_move : (done : List Stmt) (mode : Mode) (t : Token) → IsGoodMode mode → GoodMove (move done mode t)
good_move done start t good = by_mark (is_mark 59 t) where
  by_mark : (b : Bool) → GoodMove (cond b (go fine done start) (form_move done (stmt_form (count_by is_writing done)) t))
  by_mark true = (tt, tt)
  by_mark false = good_form done (stmt_form (count_by is_writing done)) t (lively_stmt (count_by is_writing done)).is
good_move done (inside form) t good = good_form done form t good.1

good_led : (m : Move) (more : List Stmt → Mode → Option Place) (done' : List Stmt) (mode' : Mode) → GoodMove m → led_by m more ≡ Some (done', mode') → ((done : List Stmt) (mode : Mode) → IsGoodMode mode → more done mode ≡ Some (done', mode') → IsGoodMode mode') → IsGoodMode mode'
good_led stop more done' mode' good e on = cc e
good_led (go refuse done mode) more done' mode' good e on = cc e
good_led (go fine done mode) more done' mode' good e on = on done mode good.0 e
good_led (go (over kind) done mode) more done' mode' good e on = cc e

good_leads : (own : List Token) (done : List Stmt) (mode : Mode) (done' : List Stmt) (mode' : Mode) → IsGoodMode mode → leads done mode own ≡ Some (done', mode') → IsGoodMode mode'
good_leads [] done mode done' mode' good e =
    let same : ◌≡◌ {A = Place} (done, mode) (done', mode') = cc e in
    subst IsGoodMode (ap (λ (p : Place). p.1) same) good
good_leads (t ∷ own) done mode done' mode' good e =
    good_led (move done mode t) (λ d m. leads d m own) done' mode' (good_move done mode t good) e (λ d m g f. good_leads own d m done' mode' g f)

ended : (done : List Stmt) (form : Form) (ts : List Token) (stmt : Stmt) → EndsIn form ts stmt → Accepts TooMany done (inside form) ts (done ++ stmt ∷ [])
ended done nothing ts stmt is = absurd is
ended done (state answer check next) [] stmt is = ap (ended_with done) is
ended done (state answer check next) (t ∷ ts) stmt (e, is) = rw e (tt, ended done (next t) ts stmt is)

-- some tokens end a query from there
abbrev Ending : List Stmt → Mode → Type 0
Ending done mode = (more : List Token) × (stmts : List Stmt) × Accepts TooMany done mode more stmts

ending : (done : List Stmt) (mode : Mode) → IsGoodMode mode → Ending done mode
ending done start good = ([], done, refl)
ending done (inside form) ((ts, stmt, is), lively) = (ts, done ++ stmt ∷ [], ended done form ts stmt is)

-- ---- a text up to where it is stuck

up_to_from : (text : List ℕ) (own : List Token) (rest : List ℕ) → Taken text own rest → IsUpTo text own (skipped rest)
up_to_from text [] rest e = ap skipped (sym e)
up_to_from text (t ∷ own) rest (mid, is, apart, taken) = (mid, is, by_more own apart, up_to_from mid own rest taken) where
  by_more : (own : List Token) → is_joined t mid ≡ false → IsApart t mid own
  by_more [] f = tt
  by_more (u ∷ own) f = f

one_more : (text : List ℕ) (own : List Token) (rest : List ℕ) (token : Token) (left : List ℕ) → Taken text own rest → IsFront rest token left → IsUpTo text (own ++ token ∷ []) (skipped left)
one_more text [] rest token left e is = (left, subst (λ t. IsFront t token left) (sym e) is, tt, refl)
one_more text (t ∷ own) rest token left (mid, are, apart, taken) is = (mid, are, by_more own apart, one_more mid own rest token left taken is) where
  by_more : (own : List Token) → is_joined t mid ≡ false → IsApart t mid (own ++ token ∷ [])
  by_more [] f = f
  by_more (u ∷ own) f = f

next_is : (text : List ℕ) (own : List Token) (rest : List ℕ) (token : Token) (left : List ℕ) → Taken text own rest → IsUpTo text (own ++ token ∷ []) left → (mid : List ℕ) × IsFront rest token mid
next_is text [] rest token left e (mid, is, apart, up) = (mid, subst (λ t. IsFront t token mid) e is)
next_is text (t ∷ own) rest token left (mid, are, apart, taken) (other, is, away, up) =
    let (same, at) = front_one text t t mid other are is in
    next_is mid own rest token left taken (subst (λ r. IsUpTo r (own ++ token ∷ []) left) (sym at) up)

-- after digits that a letter continues stands no token
joined_none : (text : List ℕ) (own : List Token) (rest : List ℕ) (token next : Token) (left end : List ℕ) → Taken text own rest → IsFront rest token left → IsUpTo text ((own ++ token ∷ []) ++ next ∷ []) end → is_joined token left ≡ false
joined_none text [] rest token next left end e is (mid, are, apart, up) =
    let (same, at) = front_one rest token token left mid is (subst (λ t. IsFront t token mid) e are) in
    subst (λ r. is_joined token r ≡ false) (sym at) apart
joined_none text (t ∷ own) rest token next left end (mid, are, apart, taken) is (other, be, away, up) =
    let (same, at) = front_one text t t mid other are be in
    joined_none mid own rest token next left end taken is (subst (λ r. IsUpTo r ((own ++ token ∷ []) ++ next ∷ []) end) (sym at) up)

skipped_small : (text : List ℕ) → length (skipped text) ≤ length text
skipped_small text = omega (arith, length-drop (prefix_len is_ascii_whitespace text) text)

up_to_small : (text : List ℕ) (front : List Token) (here : List ℕ) → IsUpTo text front here → length here ≤ length text
up_to_small text [] here e = let small = skipped_small text in let same : length here ≡ length (skipped text) = ap length e in omega (arith, small, same)
up_to_small text (t ∷ front) here (rest, is, apart, up) = let less = front_shorter text t rest is in let small = up_to_small rest front here up in omega (arith, less, small)

joined_skipped : (token : Token) (left : List ℕ) → is_joined token left ≡ true → (skipped left ≡ left) × (left ≢ [])
joined_skipped (Word own) left e = cc e
joined_skipped (Digits digits) [] e = cc e
joined_skipped (Digits digits) (b ∷ bs) e = (ap (λ t. drop (cond t (1 + prefix_len is_ascii_whitespace bs) 0) (b ∷ bs)) (letter_isnt_white b e), λ f. cc f)
joined_skipped (Quoted content) left e = cc e
joined_skipped (Mark byte) left e = cc e

-- ---- the fault where a text is stuck

module _ (text : List ℕ) (own : List Token) (rest : List ℕ) (done' : List Stmt) (mode' : Mode) (taken : Taken text own rest) (there : leads [] start (lower own) ≡ Some (done', mode')) where
  -- what goes on after the tokens goes on from that place
  from_there : (kept : Kind) (more : List Token) (stmts : List Stmt) → IsQuery kept (lower own ++ more) stmts → Accepts kept done' mode' more stmts
  from_there kept more stmts is = (accepts_behind kept [] start (lower own) more stmts done' mode' there).0 (query_in kept (lower own ++ more) stmts is)

  to_there : (kept : Kind) (more : List Token) (stmts : List Stmt) → Accepts kept done' mode' more stmts → IsQuery kept (lower own ++ more) stmts
  to_there kept more stmts is = query_out kept (lower own ++ more) stmts ((accepts_behind kept [] start (lower own) more stmts done' mode' there).1 is)

  good_there : IsGoodMode mode'
  good_there = good_leads (lower own) [] start done' mode' tt there

  goes_on_there : CanGoOn TooMany own
  goes_on_there = let (more, stmts, is) = ending done' mode' good_there in (more, stmts, to_there TooMany more stmts is)

  regroup : (token : Token) (more : List Token) → map in_lower_case (own ++ token ∷ []) ++ more ≡ lower own ++ (in_lower_case token ∷ more)
  regroup token more = ap (λ l. l ++ more) (lower-append own (token ∷ [])) ∙ append_assoc (lower own) (in_lower_case token ∷ []) more

  one_from_there : (kept : Kind) (token : Token) → CanGoOn kept (own ++ token ∷ []) → (more : List Token) × (stmts : List Stmt) × AcceptsMove kept (move done' mode' (in_lower_case token)) (λ d m. Accepts kept d m more stmts)
  one_from_there kept token (more, stmts, is) = (more, stmts, from_there kept (in_lower_case token ∷ more) stmts (subst (λ l. IsQuery kept l stmts) (regroup token more) is))

  one_to_there : (kept : Kind) (token : Token) (more : List Token) (stmts : List Stmt) → AcceptsMove kept (move done' mode' (in_lower_case token)) (λ d m. Accepts kept d m more stmts) → CanGoOn kept (own ++ token ∷ [])
  one_to_there kept token more stmts is = (more, stmts, subst (λ l. IsQuery kept l stmts) (sym (regroup token more)) (to_there kept (in_lower_case token ∷ more) stmts is))

  fault_there : (kind : Kind) (front : List Token) (here : List ℕ) → IsUpTo text front here → CanGoOn TooMany front → IsRefusedHere kind text front here → IsFaultAt text kind (length text - length here)
  fault_there kind front here up can refused = let small = up_to_small text front here up in record { front = front; here = here; up_to = up; at = omega (arith, small); goes_on = can; refused = refused }

  none_there : ((token : Token) (left : List ℕ) → next_token (skipped rest) ≡ Some (token, left) → move done' mode' (in_lower_case token) ≡ stop) → NoneFollows Syntax text own
  none_there refused token left up can =
      let (mid, front) = next_is text own rest token left taken up in
      let (more, stmts, is) = one_from_there Syntax token can in
      subst (λ m. AcceptsMove Syntax m (λ d m. Accepts Syntax d m more stmts)) (refused token mid (front_next rest token mid front)) is

  early_there : end_of done' mode' ≡ None → (stmts : List Stmt) → IsQuery TooMany (map in_lower_case own) stmts → ⊥
  early_there e stmts is =
      let a : end_of done' mode' ≡ Some stmts = from_there TooMany [] stmts (subst (λ l. IsQuery TooMany l stmts) (sym (append-nil (lower own))) is) in
      let no : ◌≡◌ {A = Option (List Stmt)} None (Some stmts) = sym e ∙ a in
      cc no

  refused_there : ((token : Token) (left : List ℕ) → next_token (skipped rest) ≡ Some (token, left) → move done' mode' (in_lower_case token) ≡ stop) → (skipped rest ≡ [] → end_of done' mode' ≡ None) → (here : List ℕ) → skipped rest ≡ here
      → IsRefusedHere Syntax text own here
  refused_there refused early [] e = inl (refl, early_there (early e))
  refused_there refused early (b ∷ bs) e = inr ((λ f. cc f), none_there refused)

  module _ (token : Token) (left : List ℕ) (kind : Kind) (done : List Stmt) (mode : Mode) (front : IsFront rest token left) (leads_on : move done' mode' (in_lower_case token) ≡ go (over kind) done mode) where
    good_on : IsGoodMode mode × IsLimit kind
    good_on = let good = good_move done' mode' (in_lower_case token) good_there in subst GoodMove leads_on good

    some_before : (less : Kind) → rank less < rank kind → SomeFollows less text own
    some_before less small =
        let (more, stmts, is) = ending done mode good_on.0 in (
          token,
          skipped left,
          one_more text own rest token left taken front,
          one_to_there less token more stmts (subst (λ m. AcceptsMove less m (λ d m. Accepts less d m more stmts)) (sym leads_on)
              ((λ h. omega (arith, h, small)), accepts_fewer TooMany less more done mode stmts (syntax_least less) is)),
        )

    none_with : NoneFollows kind text own
    none_with other end up can =
        let (mid, is) = next_is text own rest other end taken up in
        let (same, at) = front_one rest token other left mid front is in
        let (more, stmts, a) = one_from_there kind other can in
        let leads_too : move done' mode' (in_lower_case other) ≡ go (over kind) done mode = subst (λ t. move done' mode' (in_lower_case t) ≡ go (over kind) done mode) same leads_on in
        let passes = subst (λ m. AcceptsMove kind m (λ d m. Accepts kind d m more stmts)) leads_too a in
        passes.0 (omega arith)

    over_there : (k : Kind) → kind ≡ k → IsLimit k → IsRefusedHere k text own (skipped rest)
    over_there Syntax e is = absurd is
    over_there Table e is = (some_before Syntax (rw e (omega arith)), subst (λ k. NoneFollows k text own) e none_with)
    over_there Range e is = (some_before Table (rw e (omega arith)), subst (λ k. NoneFollows k text own) e none_with)
    over_there TooLong e is = (some_before Range (rw e (omega arith)), subst (λ k. NoneFollows k text own) e none_with)
    over_there TooMany e is = (some_before TooLong (rw e (omega arith)), subst (λ k. NoneFollows k text own) e none_with)

  joined_there : (token : Token) (left : List ℕ) (done : List Stmt) (mode : Mode) → IsFront rest token left → move done' mode' (in_lower_case token) ≡ go fine done mode → is_joined token left ≡ true → IsFaultAt text Syntax (length text - length left)
  joined_there token left done mode front leads_on joined =
      let (black, some) = joined_skipped token left joined in
      let good = subst GoodMove leads_on (good_move done' mode' (in_lower_case token) good_there) in
      let (more, stmts, is) = ending done mode good.0 in
      let can : CanGoOn TooMany (own ++ token ∷ []) = one_to_there TooMany token more stmts (subst (λ m. AcceptsMove TooMany m (λ d m. Accepts TooMany d m more stmts)) (sym leads_on) (tt, is)) in
      fault_there Syntax (own ++ token ∷ []) left (subst (IsUpTo text (own ++ token ∷ [])) black (one_more text own rest token left taken front)) can
      (inr (some, λ next end up on. let apart = joined_none text own rest token next left end taken front up in true≢false (sym joined ∙ apart)))

  why_there : (fault : Fault) → Why done' mode' rest fault → IsFaultAt text fault.kind (length text - fault.left)
  why_there fault (inl (e, refused, early)) =
      subst (λ (f : Fault). IsFaultAt text f.kind (length text - f.left)) (sym e)
      (fault_there Syntax own (skipped rest) (up_to_from text own rest taken) goes_on_there (refused_there refused early (skipped rest) refl))
  why_there fault (inr (inl (token, left, kind, done, mode, front, leads_on, e))) =
      subst (λ (f : Fault). IsFaultAt text f.kind (length text - f.left)) (sym e)
      (fault_there kind own (skipped rest) (up_to_from text own rest taken) goes_on_there (over_there token left kind done mode front leads_on kind refl (good_on token left kind done mode front leads_on).1))
  why_there fault (inr (inr (token, left, done, mode, front, leads_on, joined, e))) =
      subst (λ (f : Fault). IsFaultAt text f.kind (length text - f.left)) (sym e) (joined_there token left done mode front leads_on joined)

stuck_fault : (text : List ℕ) (fault : Fault) → IsStuck [] start text fault → IsFaultAt text fault.kind (length text - fault.left)
stuck_fault text fault is = why_there text is.own is.rest is.done' is.mode' is.taken is.leads_there fault is.why

by_kind : (text : List ℕ) (kind : Kind) (place : ℕ) → IsFaultAt text kind place → IsFaultOf text (told kind place)
by_kind text Syntax place is = is
by_kind text Table place is = is
by_kind text Range place is = is
by_kind text TooLong place is = is
by_kind text TooMany place is = is

of_text : (text : List ℕ) → Outcome [] start text (script_of text)
unfolding script_of
of_text text = script_outcome (length text) (length text) [] text (omega arith) (omega arith)

-- a fault that is read is the text's
pub fault_is : (text : List ℕ) (fault : Fault) → script_of text ≡ Err fault → IsFaultOf text (fault_in text fault)
fault_is text fault e = by_kind text fault.kind (length text - fault.left) (stuck_fault text fault (subst (Outcome [] start text) e (of_text text)))

whole_query : (text : List ℕ) (stmts : List Stmt) → IsWhole [] start text stmts → IsQueryText text stmts
whole_query text stmts is = (
  is.own,
  subst (IsUpTo text is.own) is.ends (up_to_from text is.own is.rest is.taken),
  subst (λ l. IsQuery TooMany l stmts) (append-nil (lower is.own)) (to_there text is.own is.rest is.done' is.mode' is.taken is.leads_there TooMany [] stmts is.stands_for),
)

-- a script that is read is a query of the text
pub script_is_query : (text : List ℕ) (script : List Stmt) → script_of text ≡ Ok script → IsQueryText text script
script_is_query text script e = whole_query text script (subst (Outcome [] start text) e (of_text text))

-- a query text has no fault that is read
pub no_fault_read : (text : List ℕ) (stmts : List Stmt) (fault : Fault) → IsQueryText text stmts → script_of text ≡ Err fault → ⊥
no_fault_read text stmts fault is e = no_fault_law text stmts fault.kind (length text - fault.left) is (stuck_fault text fault (subst (Outcome [] start text) e (of_text text)))
