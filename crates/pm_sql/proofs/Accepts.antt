-- What lists of tokens lead to.
use Rattle.std.proofs.Common.{◌≡◌, ◌≤◌, ◌⊎◌, inl, inr, Bool, true, false, List, [], ◌∷◌, ◌++◌, Option, Some, None, refl, sym, ap, ◌∙◌, subst, arith}
use Rattle.pm_sql.{specs.{declared.{stmt.Stmt.Stmt, fault.Kind.{Kind, TheVariants.{Syntax, Table, Range, TooLong, TooMany}}}, Token.Token, Statements.rank}, proofs.Forms.{Check, refuse, fine, over, Form, nothing, state, one, is_mark, Mode, inside, Move, stop, go, answer_of, moved, move, Passes, end_of}}

-- ---- where tokens lead, all of them within the limits

abbrev pub Place : Type 0
Place = List Stmt × Mode

abbrev pub led_by : Move → (List Stmt → Mode → Option Place) → Option Place
led_by stop more = None
led_by (go refuse done mode) more = None
led_by (go fine done mode) more = more done mode
led_by (go (over kind) done mode) more = None

abbrev pub leads : List Stmt → Mode → List Token → Option Place
leads done mode [] = Some (done, mode)
leads done mode (t ∷ ts) = led_by (move done mode t) (λ done mode. leads done mode ts)

-- ---- which statements tokens stand for from a place on, with the limits up to `kept`

abbrev pub AcceptsMove : Kind → Move → (List Stmt → Mode → Type 0) → Type 0
AcceptsMove kept stop more = ⊥
AcceptsMove kept (go check done mode) more = Passes kept check × more done mode

abbrev pub Accepts : Kind → List Stmt → Mode → List Token → List Stmt → Type 0
Accepts kept done mode [] stmts = end_of done mode ≡ Some stmts
Accepts kept done mode (t ∷ ts) stmts = AcceptsMove kept (move done mode t) (λ done mode. Accepts kept done mode ts stmts)

-- the same as a record, which keeps its arguments
pub record IsAccepted (kept : Kind) (done : List Stmt) (mode : Mode) (ts : List Token) (stmts : List Stmt) : Type 0 where
  pub is : Accepts kept done mode ts stmts

-- ---- after tokens that lead there

led_on : (kept : Kind) (m : Move) (more : List Stmt → Mode → Option Place) (done' : List Stmt) (mode' : Mode) (A B : List Stmt → Mode → Type 0) → led_by m more ≡ Some (done', mode')
    → ((done : List Stmt) (mode : Mode) → more done mode ≡ Some (done', mode') → (A done mode → B done' mode') × (B done' mode' → A done mode))
    → (AcceptsMove kept m A → B done' mode') × (B done' mode' → AcceptsMove kept m A)
led_on kept stop more done' mode' A B e on = cc e
led_on kept (go refuse done mode) more done' mode' A B e on = cc e
led_on kept (go fine done mode) more done' mode' A B e on = (λ (a : Unit {0} × A done mode). (on done mode e).0 a.1, λ b. (tt, (on done mode e).1 b))
led_on kept (go (over kind) done mode) more done' mode' A B e on = cc e

pub accepts_behind : (kept : Kind) (done : List Stmt) (mode : Mode) (own more : List Token) (stmts : List Stmt) (done' : List Stmt) (mode' : Mode) → leads done mode own ≡ Some (done', mode')
    → (Accepts kept done mode (own ++ more) stmts → Accepts kept done' mode' more stmts) × (Accepts kept done' mode' more stmts → Accepts kept done mode (own ++ more) stmts)
accepts_behind kept done mode [] more stmts done' mode' e =
    let same : ◌≡◌ {A = Place} (done, mode) (done', mode') = cc e in
    let a : done ≡ done' = ap (λ (p : Place). p.0) same in
    let b : mode ≡ mode' = ap (λ (p : Place). p.1) same in
    (λ x. subst (λ m. Accepts kept done' m more stmts) b (subst (λ d. Accepts kept d mode more stmts) a x), λ x. subst (λ d. Accepts kept d mode more stmts) (sym a) (subst (λ m. Accepts kept done' m more stmts) (sym b) x))
accepts_behind kept done mode (t ∷ own) more stmts done' mode' e =
    led_on kept (move done mode t) (λ d m. leads d m own) done' mode' (λ d m. Accepts kept d m (own ++ more) stmts) (λ d m. Accepts kept d m more stmts) e (λ d m f. accepts_behind kept d m own more stmts done' mode' f)

-- ---- with fewer limits

pub syntax_least : (kept : Kind) → rank kept ≤ rank TooMany
syntax_least Syntax = omega arith
syntax_least Table = omega arith
syntax_least Range = omega arith
syntax_least TooLong = omega arith
syntax_least TooMany = omega arith

passes_fewer : (kept less : Kind) (check : Check) → rank less ≤ rank kept → Passes kept check → Passes less check
passes_fewer kept less refuse fewer p = p
passes_fewer kept less fine fewer p = p
passes_fewer kept less (over kind) fewer p = λ h. p (omega arith)

move_fewer : (kept less : Kind) (m : Move) (A B : List Stmt → Mode → Type 0) → rank less ≤ rank kept → ((done : List Stmt) (mode : Mode) → A done mode → B done mode) → AcceptsMove kept m A → AcceptsMove less m B
move_fewer kept less stop A B fewer on a = a
move_fewer kept less (go check done mode) A B fewer on (p, a) = (passes_fewer kept less check fewer p, on done mode a)

pub accepts_fewer : (kept less : Kind) (ts : List Token) (done : List Stmt) (mode : Mode) (stmts : List Stmt) → rank less ≤ rank kept → Accepts kept done mode ts stmts → Accepts less done mode ts stmts
accepts_fewer kept less [] done mode stmts fewer a = a
accepts_fewer kept less (t ∷ ts) done mode stmts fewer a =
    move_fewer kept less (move done mode t) (λ d m. Accepts kept d m ts stmts) (λ d m. Accepts less d m ts stmts) fewer (λ d m b. accepts_fewer kept less ts d m stmts fewer b) a

-- ---- tokens stand for one list of statements

move_one : (kept : Kind) (m : Move) (A B : List Stmt → Mode → Type 0) (P : Type 0) → ((done : List Stmt) (mode : Mode) → A done mode → B done mode → P) → AcceptsMove kept m A → AcceptsMove kept m B → P
move_one kept stop A B P on a b = absurd a
move_one kept (go check done mode) A B P on (p, a) (q, b) = on done mode a b

pub accepts_one : (kept : Kind) (ts : List Token) (done : List Stmt) (mode : Mode) (stmts others : List Stmt) → Accepts kept done mode ts stmts → Accepts kept done mode ts others → stmts ≡ others
accepts_one kept [] done mode stmts others a b = let same : Some stmts ≡ Some others = sym a ∙ b in cc same
accepts_one kept (t ∷ ts) done mode stmts others a b =
    move_one kept (move done mode t) (λ d m. Accepts kept d m ts stmts) (λ d m. Accepts kept d m ts others) (stmts ≡ others) (λ d m x y. accepts_one kept ts d m stmts others x y) a b

-- ---- one form before others

pub one_hit : (done : List Stmt) (test : Token → Bool) (check : Token → Check) (next : Token → Form) (others : Form) (t : Token) → test t ≡ true
    → move done (inside (one test check next others)) t ≡ moved done (answer_of others) (is_mark 59 t) (next t) (check t)
one_hit done test check next nothing t e = rw e refl
one_hit done test check next (state answer checks forms) t e = rw e refl

pub one_miss : (done : List Stmt) (test : Token → Bool) (check : Token → Check) (next : Token → Form) (others : Form) (t : Token) → test t ≡ false
    → move done (inside (one test check next others)) t ≡ move done (inside others) t
one_miss done test check next nothing t e = rw e refl
one_miss done test check next (state answer checks forms) t e = rw e refl

one_end : (done : List Stmt) (test : Token → Bool) (check : Token → Check) (next : Token → Form) (others : Form) → end_of done (inside (one test check next others)) ≡ end_of done (inside others)
one_end done test check next nothing = refl
one_end done test check next (state answer checks forms) = refl

-- tokens that a form accepts begin with its own one, or the others accept them
abbrev pub Hit : Kind → List Stmt → (Token → Bool) → (Token → Check) → (Token → Form) → Form → List Token → List Stmt → Type 0
Hit kept done test check next others ts stmts = (t : Token) × (rest : List Token) × (ts ≡ t ∷ rest) × (test t ≡ true)
    × AcceptsMove kept (moved done (answer_of others) (is_mark 59 t) (next t) (check t)) (λ done mode. Accepts kept done mode rest stmts)

pub one_accepts : (kept : Kind) (done : List Stmt) (test : Token → Bool) (check : Token → Check) (next : Token → Form) (others : Form) (ts : List Token) (stmts : List Stmt)
    → Accepts kept done (inside (one test check next others)) ts stmts → Hit kept done test check next others ts stmts ⊎ Accepts kept done (inside others) ts stmts
one_accepts kept done test check next others [] stmts a = inr (sym (one_end done test check next others) ∙ a)
one_accepts kept done test check next others (t ∷ ts) stmts a = by_test (test t) refl where
  by_test : (b : Bool) → test t ≡ b → Hit kept done test check next others (t ∷ ts) stmts ⊎ Accepts kept done (inside others) (t ∷ ts) stmts
  by_test true e = inl (t, ts, refl, e, subst (λ m. AcceptsMove kept m (λ done mode. Accepts kept done mode ts stmts)) (one_hit done test check next others t e) a)
  by_test false e = inr (subst (λ m. AcceptsMove kept m (λ done mode. Accepts kept done mode ts stmts)) (one_miss done test check next others t e) a)

pub nothing_accepts : (kept : Kind) (done : List Stmt) (ts : List Token) (stmts : List Stmt) → Accepts kept done (inside nothing) ts stmts → ⊥
nothing_accepts kept done [] stmts a = cc a
nothing_accepts kept done (t ∷ ts) stmts a = a
