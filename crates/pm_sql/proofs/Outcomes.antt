-- How far the tokens of a text lead, and why they lead no further.
use Rattle.std.{proofs.{Common.{◌≡◌, ℕ, zero, suc, ◌-◌, ◌<◌, ◌≤◌, ◌⊎◌, inl, inr, Bool, true, false, cond, ◌==◌, List, [], ◌∷◌, ◌++◌, map, length, Option, Some, None, Result, Ok, Err, count_by, refl, sym, ap, ◌∙◌, subst, true≢false, length-append, arith}, lemmas.{List.length-drop, Option.same_Some}}, specs.{List.prefix_len, Char.is_ascii_whitespace}}
use Rattle.pm_sql.{specs.{declared.{stmt.Stmt.Stmt, fault.{Kind.{Kind, TheVariants.Syntax}, Fault.Fault}}, Limits.is_writing, Tokens.{skipped, behind_mark}, Reading.{◌>>=◌, fault_at}, Grammar.or_else, Query.{stmt_at, may_end, end_at, is_at_end, script_within}, Token.{Token, Word, Digits, Quoted, Mark, in_lower_case, spelling, IsToken, IsFront, is_joined}}, proofs.{Fronts.front_skipped, Lexer.{next_token, front_next, next_front, next_mark, eq_of_test}, Forms.{Check, refuse, fine, over, Form, nothing, state, is_mark, stmt_form, or_end, unless_joined, by_check, take_token, run, Mode, start, inside, stop, go, check_of, next_of, answer_of, moved, form_move, move, end_move, ended_with, end_of}, Accepts.leads, Bridges.stmt_run}}

-- ---- a text up to a token's end

-- a text begins with these tokens, none of them right after digits that a letter continues, and this is left
abbrev pub Taken : List ℕ → List Token → List ℕ → Type 0
Taken text [] rest = text ≡ rest
Taken text (token ∷ tokens) rest = (mid : List ℕ) × IsFront text token mid × (is_joined token mid ≡ false) × Taken mid tokens rest

-- the tokens in lower case
abbrev pub lower : List Token → List Token
lower tokens = map in_lower_case tokens

-- why it goes no further: no token leads on, or one is over a limit, or a letter comes right after digits
abbrev pub Why : List Stmt → Mode → List ℕ → Fault → Type 0
Why done mode rest fault =
    ((fault ≡ fault_at Syntax (skipped rest)) × ((token : Token) (left : List ℕ) → next_token (skipped rest) ≡ Some (token, left) → move done mode (in_lower_case token) ≡ stop) × (skipped rest ≡ [] → end_of done mode ≡ None))
    ⊎ ((token : Token) × (left : List ℕ) × (kind : Kind) × (done' : List Stmt) × (mode' : Mode) × IsFront rest token left × (move done mode (in_lower_case token) ≡ go (over kind) done' mode') × (fault ≡ fault_at kind (skipped rest)))
    ⊎ ((token : Token) × (left : List ℕ) × (done' : List Stmt) × (mode' : Mode) × IsFront rest token left × (move done mode (in_lower_case token) ≡ go fine done' mode') × (is_joined token left ≡ true) × (fault ≡ fault_at Syntax left))

pub record IsStuck (done : List Stmt) (mode : Mode) (text : List ℕ) (fault : Fault) : Type 0 where
  pub own : List Token
  pub rest : List ℕ
  pub done' : List Stmt
  pub mode' : Mode
  pub taken : Taken text own rest
  pub leads_there : leads done mode (lower own) ≡ Some (done', mode')
  pub why : Why done' mode' rest fault

-- or it goes to the end, and stands for statements
pub record IsWhole (done : List Stmt) (mode : Mode) (text : List ℕ) (stmts : List Stmt) : Type 0 where
  pub own : List Token
  pub rest : List ℕ
  pub done' : List Stmt
  pub mode' : Mode
  pub taken : Taken text own rest
  pub leads_there : leads done mode (lower own) ≡ Some (done', mode')
  pub ends : skipped rest ≡ []
  pub stands_for : end_of done' mode' ≡ Some stmts

abbrev pub Outcome : List Stmt → Mode → List ℕ → Result (List Stmt) Fault → Type 0
Outcome done mode text (Ok stmts) = IsWhole done mode text stmts
Outcome done mode text (Err fault) = IsStuck done mode text fault

-- ---- one token before

led : (done : List Stmt) (mode : Mode) (t : Token) (ts : List Token) (done' : List Stmt) (mode' : Mode) → move done mode t ≡ go fine done' mode' → leads done mode (t ∷ ts) ≡ leads done' mode' ts
led done mode t ts done' mode' e = rw e refl

outcome_behind : (done : List Stmt) (mode : Mode) (text : List ℕ) (token : Token) (left : List ℕ) (done' : List Stmt) (mode' : Mode) (read : Result (List Stmt) Fault) → IsFront text token left → is_joined token left ≡ false
    → move done mode (in_lower_case token) ≡ go fine done' mode' → Outcome done' mode' left read → Outcome done mode text read
outcome_behind done mode text token left done' mode' (Ok stmts) front apart e is = record {
  own = token ∷ is.own;
  rest = is.rest;
  done' = is.done';
  mode' = is.mode';
  taken = (left, front, apart, is.taken);
  leads_there = led done mode (in_lower_case token) (lower is.own) done' mode' e ∙ is.leads_there;
  ends = is.ends;
  stands_for = is.stands_for;
}
outcome_behind done mode text token left done' mode' (Err fault) front apart e is = record {
  own = token ∷ is.own;
  rest = is.rest;
  done' = is.done';
  mode' = is.mode';
  taken = (left, front, apart, is.taken);
  leads_there = led done mode (in_lower_case token) (lower is.own) done' mode' e ∙ is.leads_there;
  why = is.why;
}

stuck_here : (done : List Stmt) (mode : Mode) (text : List ℕ) (fault : Fault) → Why done mode text fault → IsStuck done mode text fault
stuck_here done mode text fault why = record { own = []; rest = text; done' = done; mode' = mode; taken = refl; leads_there = refl; why = why }

-- ---- lengths

no_length : (token : Token) → IsToken token → length (spelling token) ≡ 0 → ⊥
no_length (Word []) made e = absurd (true≢false (sym made.0))
no_length (Word (b ∷ bs)) made e = absurd (omega arith)
no_length (Digits []) made e = absurd (made.0 refl)
no_length (Digits (b ∷ bs)) made e = absurd (omega arith)
no_length (Quoted content) made e = absurd (omega arith)
no_length (Mark byte) made e = absurd (omega arith)

pub front_shorter : (text : List ℕ) (token : Token) (rest : List ℕ) → IsFront text token rest → length rest < length text
front_shorter text token rest is =
    let some : length (spelling token) ≡ 0 → ⊥ = no_length token is.made in
    let long : length text ≡ length (is.space ++ (spelling token ++ rest)) = ap length is.split in
    omega (arith, some, long, length-append is.space (spelling token ++ rest), length-append (spelling token) rest)

-- ---- one step of a form

-- what is done with a statement and what comes after it
abbrev Later : Type 0
Later = Stmt × List ℕ → Result (List Stmt) Fault

abbrev None_on : List Stmt → Mode → List ℕ → Type 0
None_on done mode text = (token : Token) (left : List ℕ) → next_token (skipped text) ≡ Some (token, left) → move done mode (in_lower_case token) ≡ stop

-- the statement may end here, and no token leads on but `;`
abbrev EndsHere : List Stmt → Mode → Stmt → List ℕ → Type 0
EndsHere done mode stmt text = (token : Token) (left : List ℕ) → next_token (skipped text) ≡ Some (token, left) → move done mode (in_lower_case token) ≡ moved done (Some stmt) (is_mark 59 (in_lower_case token)) nothing refuse

module _ (done : List Stmt) (mode : Mode) (text : List ℕ) (answer : Option Stmt) (check : Token → Check) (next : Token → Form) (later : Later)
    (moves : (token : Token) (left : List ℕ) → next_token (skipped text) ≡ Some (token, left) → move done mode (in_lower_case token) ≡ moved done answer (is_mark 59 (in_lower_case token)) (next (in_lower_case token)) (check (in_lower_case token)))
    (open_end : answer ≡ None → skipped text ≡ [] → end_of done mode ≡ None)
    (end : (stmt : Stmt) → answer ≡ Some stmt → EndsHere done mode stmt text → Outcome done mode text (later (stmt, text)))
    (on : (token : Token) (left : List ℕ) → IsFront text token left → Outcome done (inside (next (in_lower_case token))) left (run (next (in_lower_case token)) left >>= later)) where
  at_end : (a : Option Stmt) → answer ≡ a
      → ((token : Token) (left : List ℕ) → next_token (skipped text) ≡ Some (token, left) → move done mode (in_lower_case token) ≡ moved done a (is_mark 59 (in_lower_case token)) nothing refuse)
      → Outcome done mode text (or_end a text >>= later)
  at_end None e refused = stuck_here done mode text (fault_at Syntax (skipped text)) (inl (refl, refused, open_end e))
  at_end (Some stmt) e refused = end stmt e refused

  by_joined : (token : Token) (left : List ℕ) → next_token (skipped text) ≡ Some (token, left) → move done mode (in_lower_case token) ≡ go fine done (inside (next (in_lower_case token))) → (b : Bool) → is_joined token left ≡ b
      → Outcome done mode text (unless_joined b left (run (next (in_lower_case token)) left) >>= later)
  by_joined token left e f true j = stuck_here done mode text (fault_at Syntax left) (inr (inr (token, left, done, inside (next (in_lower_case token)), next_front text token left e, f, j, refl)))
  by_joined token left e f false j = outcome_behind done mode text token left done (inside (next (in_lower_case token))) _ (next_front text token left e) j f (on token left (next_front text token left e))

  by_checked : (token : Token) (left : List ℕ) → next_token (skipped text) ≡ Some (token, left) → (c : Check) → check (in_lower_case token) ≡ c
      → Outcome done mode text (by_check c answer text (unless_joined (is_joined token left) left (run (next (in_lower_case token)) left)) >>= later)
  by_checked token left e refuse f =
      at_end answer refl (λ other rest g.
      let same : ◌≡◌ {A = Option (Token × List ℕ)} (Some (token, left)) (Some (other, rest)) = sym e ∙ g in
      let that : token ≡ other = ap (λ (p : Token × List ℕ). p.0) (same_Some _ _ same) in
      subst (λ t. move done mode (in_lower_case t) ≡ moved done answer (is_mark 59 (in_lower_case t)) nothing refuse) that
      (moves token left e ∙ ap (moved done answer (is_mark 59 (in_lower_case token)) (next (in_lower_case token))) f))
  by_checked token left e fine f = by_joined token left e (moves token left e ∙ ap (moved done answer (is_mark 59 (in_lower_case token)) (next (in_lower_case token))) f) (is_joined token left) refl
  by_checked token left e (over kind) f =
      stuck_here done mode text (fault_at kind (skipped text))
      (inr (inl (token, left, kind, done, inside (next (in_lower_case token)), next_front text token left e, moves token left e ∙ ap (moved done answer (is_mark 59 (in_lower_case token)) (next (in_lower_case token))) f, refl)))

  one_step : (seen : Option (Token × List ℕ)) → next_token (skipped text) ≡ seen → Outcome done mode text (take_token answer check (λ t rest. run (next t) rest) text seen >>= later)
  one_step None e = at_end answer refl (λ token left f. let no : ◌≡◌ {A = Option (Token × List ℕ)} None (Some (token, left)) = sym e ∙ f in cc no)
  one_step (Some (token, left)) e = by_checked token left e (check (in_lower_case token)) refl

-- ---- a statement

-- what is done after a statement has its outcome, where it isn't longer than this
abbrev Behind : ℕ → List Stmt → Later → Type 0
Behind n done later = (form : Form) (stmt : Stmt) (text : List ℕ) → length text ≤ n → answer_of form ≡ Some stmt → EndsHere done (inside form) stmt text → Outcome done (inside form) text (later (stmt, text))

form_outcome : (form : Form) (n : ℕ) (done : List Stmt) (later : Later) (text : List ℕ) → length text ≤ n → Behind n done later → Outcome done (inside form) text (run form text >>= later)
unfolding run
form_outcome nothing n done later text small behind = stuck_here done (inside nothing) text (fault_at Syntax (skipped text)) (inl (refl, λ token left e. refl, λ e. refl))
form_outcome (state answer check next) n done later text small behind =
    one_step done (inside (state answer check next)) text answer check next later (λ token left e. refl) (λ e f. ap (ended_with done) e)
    (λ stmt e is. behind (state answer check next) stmt text small e is)
    (λ token left front. let less = front_shorter text token left front in form_outcome (next (in_lower_case token)) n done later left (omega (arith, less, small)) behind) (next_token (skipped text)) refl

-- ---- scripts

semicolon_front : (text bs : List ℕ) → skipped text ≡ 59 ∷ bs → IsFront text (Mark 59) bs
semicolon_front text bs e = next_front text (Mark 59) bs (ap next_token e ∙ next_mark 59 bs (omega arith) refl refl)

whole_here : (done : List Stmt) (mode : Mode) (text : List ℕ) (stmts : List Stmt) → skipped text ≡ [] → end_of done mode ≡ Some stmts → IsWhole done mode text stmts
whole_here done mode text stmts e f = record { own = []; rest = text; done' = done; mode' = mode; taken = refl; leads_there = refl; ends = e; stands_for = f }

abbrev ScriptOutcome : ℕ → Type 0
ScriptOutcome n = (steps : ℕ) (done : List Stmt) (text : List ℕ) → length text ≤ n → length text ≤ steps → Outcome done start text (script_within steps done text)

-- what is read after a statement
abbrev rest_of_script : ℕ → List Stmt → Later
rest_of_script steps done found = end_at found.1 >>= (λ rest. script_within steps (done ++ found.0 ∷ []) rest)

skipped_small : (text : List ℕ) → length (skipped text) ≤ length text
skipped_small text = omega (arith, length-drop (prefix_len is_ascii_whitespace text) text)

no_steps : (steps : ℕ) (done : List Stmt) → script_within steps done [] ≡ Ok done
unfolding script_within
no_steps zero done = refl
no_steps (suc steps) done = refl

semicolon_step : (steps : ℕ) (done : List Stmt) (bs : List ℕ) → script_within (suc steps) done (59 ∷ bs) ≡ script_within steps done bs
unfolding script_within
semicolon_step steps done bs = refl

behind_end : (n : ℕ) → ScriptOutcome n → (steps : ℕ) (done : List Stmt) (form : Form) (stmt : Stmt) (text : List ℕ) → length text ≤ n → length text ≤ steps → answer_of form ≡ Some stmt → EndsHere done (inside form) stmt text
    → (here : List ℕ) → skipped text ≡ here → Outcome done (inside form) text (cond (may_end here) (Ok here) (Err (fault_at Syntax here)) >>= (λ rest. script_within steps (done ++ stmt ∷ []) rest))
behind_end n out steps done form stmt text small enough answer ends [] e =
    subst (Outcome done (inside form) text) (sym (no_steps steps (done ++ stmt ∷ []))) (whole_here done (inside form) text (done ++ stmt ∷ []) e (ap (ended_with done) answer))
behind_end n out steps done form stmt text small enough answer ends (b ∷ bs) e = by_semicolon (b == 59) refl where
  by_steps : (steps : ℕ) → length text ≤ steps → b ≡ 59 → Outcome done (inside form) text (script_within steps (done ++ stmt ∷ []) (b ∷ bs))
  by_steps zero none f = let least = skipped_small text in let long : length (skipped text) ≡ suc (length bs) = ap length e in absurd (omega (arith, least, long, none))
  by_steps (suc steps) none f =
      let front = semicolon_front text bs (e ∙ ap (λ x. x ∷ bs) f) in
      let less = front_shorter text (Mark 59) bs front in
      subst (Outcome done (inside form) text) (sym (ap (λ x. script_within (suc steps) (done ++ stmt ∷ []) (x ∷ bs)) f ∙ semicolon_step steps (done ++ stmt ∷ []) bs))
      (outcome_behind done (inside form) text (Mark 59) bs (done ++ stmt ∷ []) start _ front refl (ends (Mark 59) bs (front_next text (Mark 59) bs front))
      (out steps (done ++ stmt ∷ []) bs (omega (arith, less, small)) (omega (arith, less, none))))

  refused : b == 59 ≡ false → None_on done (inside form) text
  refused f token left g = ends token left g ∙ not_semicolon token (front_skipped text token left (next_front text token left g)) where
    not_semicolon : (token : Token) → skipped text ≡ spelling token ++ left → moved done (Some stmt) (is_mark 59 (in_lower_case token)) nothing refuse ≡ stop
    not_semicolon (Word own) h = refl
    not_semicolon (Digits digits) h = refl
    not_semicolon (Quoted content) h = refl
    not_semicolon (Mark byte) h = let same : ◌≡◌ {A = List ℕ} (b ∷ bs) (byte ∷ left) = sym e ∙ h in let that : b ≡ byte = cc same in ap (end_move done (Some stmt)) (ap (λ x. x == 59) (sym that) ∙ f)

  by_semicolon : (c : Bool) → b == 59 ≡ c → Outcome done (inside form) text (cond c (Ok (b ∷ bs)) (Err (fault_at Syntax (b ∷ bs))) >>= (λ rest. script_within steps (done ++ stmt ∷ []) rest))
  by_semicolon true f = by_steps steps enough (eq_of_test b 59 f)
  by_semicolon false f = stuck_here done (inside form) text (fault_at Syntax (b ∷ bs)) (inl (ap (fault_at Syntax) (sym e), refused f, λ g. let no : ◌≡◌ {A = List ℕ} (b ∷ bs) [] = sym e ∙ g in cc no))

end_outcome : (n : ℕ) → ScriptOutcome n → (steps m : ℕ) (done : List Stmt) → m ≤ n → m ≤ steps → Behind m done (rest_of_script steps done)
unfolding end_at
end_outcome n out steps m done most many form stmt text small answer ends = behind_end n out steps done form stmt text (omega arith) (omega arith) answer ends (skipped text) refl

-- the first token of a statement
stmt_outcome : (n : ℕ) → ScriptOutcome n → (steps m : ℕ) (done : List Stmt) (text : List ℕ) (b : ℕ) (bs : List ℕ) → length text ≤ suc m → m ≤ n → m ≤ steps → skipped text ≡ b ∷ bs → b == 59 ≡ false
    → Outcome done start text (stmt_at (count_by is_writing done) (skipped text) >>= rest_of_script steps done)
unfolding run
stmt_outcome n out steps m done text b bs small most many e other =
    subst (λ r. Outcome done start text (r >>= rest_of_script steps done)) (sym (stmt_run (count_by is_writing done) text))
    (one_step done start text (answer_of form) (check_of form) (next_of form) (rest_of_script steps done) starts (λ f g. let no : ◌≡◌ {A = List ℕ} (b ∷ bs) [] = sym e ∙ g in cc no) (λ stmt f is. cc f)
    (λ token left front. let less = front_shorter text token left front in form_outcome (next_of form (in_lower_case token)) m done (rest_of_script steps done) left (omega (arith, less, small)) (end_outcome n out steps m done most many))
    (next_token (skipped text)) refl) where
      form : Form
      form = stmt_form (count_by is_writing done)

      not_semicolon : (token : Token) (left : List ℕ) → skipped text ≡ spelling token ++ left → is_mark 59 (in_lower_case token) ≡ false
      not_semicolon (Word own) left h = refl
      not_semicolon (Digits digits) left h = refl
      not_semicolon (Quoted content) left h = refl
      not_semicolon (Mark byte) left h = let same : ◌≡◌ {A = List ℕ} (b ∷ bs) (byte ∷ left) = sym e ∙ h in let that : b ≡ byte = cc same in ap (λ x. x == 59) (sym that) ∙ other

      starts : (token : Token) (left : List ℕ) → next_token (skipped text) ≡ Some (token, left)
          → move done start (in_lower_case token) ≡ moved done (answer_of (stmt_form (count_by is_writing done))) (is_mark 59 (in_lower_case token)) (next_of (stmt_form (count_by is_writing done)) (in_lower_case token)) (check_of (stmt_form (count_by is_writing done)) (in_lower_case token))
      starts token left f = ap (λ c. cond c (go fine done start) (form_move done (stmt_form (count_by is_writing done)) (in_lower_case token))) (not_semicolon token left (front_skipped text token left (next_front text token left f)))

by_front : (n : ℕ) → ScriptOutcome n → (steps : ℕ) (done : List Stmt) (text : List ℕ) → length text ≤ suc n → length text ≤ suc steps → (here : List ℕ) → skipped text ≡ here
    → Outcome done start text (cond (is_at_end here) (Ok done) (or_else (behind_mark 59 here) (script_within steps done) (stmt_at (count_by is_writing done) here >>= rest_of_script steps done)))
by_front n out steps done text small enough [] e = whole_here done start text done e refl
by_front n out steps done text small enough (b ∷ bs) e = by_semicolon (b == 59) refl where
  by_semicolon : (c : Bool) → b == 59 ≡ c → Outcome done start text (or_else (cond c (Some bs) None) (script_within steps done) (stmt_at (count_by is_writing done) (b ∷ bs) >>= rest_of_script steps done))
  by_semicolon true f =
      let front = semicolon_front text bs (e ∙ ap (λ x. x ∷ bs) (eq_of_test b 59 f)) in
      let less = front_shorter text (Mark 59) bs front in
      outcome_behind done start text (Mark 59) bs done start _ front refl refl (out steps done bs (omega (arith, less, small)) (omega (arith, less, enough)))
  by_semicolon false f =
      subst (λ h. Outcome done start text (stmt_at (count_by is_writing done) h >>= rest_of_script steps done)) e
      (stmt_outcome n out steps (length text - 1) done text b bs (omega arith) (omega arith) (omega arith) e f)

pub script_outcome : (n : ℕ) → ScriptOutcome n
unfolding script_within
script_outcome zero zero done [] small enough = whole_here done start [] done refl refl
script_outcome zero (suc steps) done [] small enough = whole_here done start [] done refl refl
script_outcome zero steps done (b ∷ bs) small enough = absurd (omega arith)
script_outcome (suc n) zero done [] small enough = whole_here done start [] done refl refl
script_outcome (suc n) zero done (b ∷ bs) small enough = absurd (omega arith)
script_outcome (suc n) (suc steps) done text small enough = by_front n (script_outcome n) steps done text small enough (skipped text) refl
