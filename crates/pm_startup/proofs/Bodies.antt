-- A body is read in one way: its pairs, and where it fails.
use Rattle.std.{proofs.{Common.{◌≡◌, ℕ, ◌+◌, Bool, true, false, cond, eqb, List, [], ◌∷◌, ◌++◌, length, reverse, Option, Some, refl, sym, ap, subst, ◌∙◌, append_assoc, inl, inr, arith, not, ◌||◌, codes, nat_eq}, lemmas.{Bool.{eqb-true, eqb-false}, List.{reverse-append, Concat.flat_map-append, Folds.list_any-append}}}, specs.{List.{AllByRecursion, find, starts_with}, Option.{option_map, option_map_or}, Str.bytes_eq}}
use Rattle.pm_startup.{specs.{declared.parameters.Settings.Settings, Parameters.{IsString, string, Parameter, IsParameter, pair, pairs, IsLaidOut, EndsInValue, FailsAt, IsMalformed, value_of, asks_option, is_off}, Reading.Tells}, proofs.Strings.{string-no_zero, string-same}}

-- ---- the pairs so far

-- an empty name that isn't the last byte
pub ends_early : (name after rest : List ℕ) → eqb (length name) 0 ≡ true → eqb (length after) 0 ≡ false → rest ≡ string name ++ after → FailsAt rest 1
ends_early [] [] rest p q e = absurd (eqb-false 0 0 q refl)
ends_early [] (b ∷ more) rest p q e = inr (inr (b, more, e, refl))
ends_early (a ∷ name) after rest p q e = absurd (omega (arith, eqb-true _ _ p))

mapped : (b : Bool) (p : Parameter) (o : Option Parameter) → option_map (λ p. p.value) (cond b (Some p) o) ≡ cond b (Some p.value) (option_map (λ p. p.value) o)
mapped true p o = refl
mapped false p o = refl

-- the last pair of a name counts
value_of-push : (name : List ℕ) (ps : List Parameter) (p : Parameter) → value_of name (ps ++ p ∷ []) ≡ cond (bytes_eq p.name name) (Some p.value) (value_of name ps)
value_of-push name ps p =
    ap (λ (qs : List Parameter). option_map (λ p. p.value) (find (λ p. bytes_eq p.name name) qs)) (reverse-append ps (p ∷ []))
    ∙ mapped (bytes_eq p.name name) p (find (λ p. bytes_eq p.name name) (reverse ps))

or_false : (a b : Bool) → (a || (b || false)) ≡ (a || b)
or_false true b = refl
or_false false true = refl
or_false false false = refl

asked : (b : Bool) (v : List ℕ) (o : Option (List ℕ)) → option_map_or (λ value. not (is_off value)) (cond b (Some v) o) false ≡ cond b (not (is_off v)) (option_map_or (λ value. not (is_off value)) o false)
asked true v o = refl
asked false v o = refl

-- what is kept after one more pair
pub Tells-push : (s t : Settings) (ps : List Parameter) (p : Parameter) → option_map (λ user. user.now) t.user ≡ cond (bytes_eq p.name (codes "user")) (Some p.value) (option_map (λ user. user.now) s.user)
    → t.asks_option ≡ (s.asks_option || starts_with nat_eq p.name (codes "_pq_."))
    → t.asks_replication ≡ cond (bytes_eq p.name (codes "replication")) (not (is_off p.value)) s.asks_replication → Tells s ps → Tells t (ps ++ p ∷ [])
Tells-push s t ps p user option replication tells = record {
  user = user ∙ ap (cond (bytes_eq p.name (codes "user")) (Some p.value)) tells.user ∙ sym (value_of-push (codes "user") ps p);
  option = option ∙ ap (λ (b : Bool). b || starts_with nat_eq p.name (codes "_pq_.")) tells.option
      ∙ sym (list_any-append (λ p. starts_with nat_eq p.name (codes "_pq_.")) ps (p ∷ []) ∙ or_false (asks_option ps) (starts_with nat_eq p.name (codes "_pq_.")));
  replication = replication ∙ ap (cond (bytes_eq p.name (codes "replication")) (not (is_off p.value))) tells.replication
      ∙ sym (ap (λ (o : Option (List ℕ)). option_map_or (λ value. not (is_off value)) o false) (value_of-push (codes "replication") ps p) ∙ asked (bytes_eq p.name (codes "replication")) p.value (value_of (codes "replication") ps));
}

-- the pairs after one more
pub pairs-push : (front : List Parameter) (p : Parameter) (rest : List ℕ) → pairs front ++ (pair p ++ rest) ≡ pairs (front ++ p ∷ []) ++ rest
pairs-push front p rest =
    let e : pairs (front ++ p ∷ []) ≡ pairs front ++ (pair p ++ []) = flat_map-append pair front (p ∷ []) in
    rw e (simp append_assoc)

pub each-push : (front : List Parameter) (p : Parameter) → AllByRecursion IsParameter front → IsParameter p → AllByRecursion IsParameter (front ++ p ∷ [])
each-push [] p each is = (is, tt)
each-push (q ∷ front) p each is = (each.0, each-push front p each.1 is)

-- ---- one way to read

pair-flat : (p : Parameter) (x : List ℕ) → pair p ++ x ≡ p.name ++ 0 ∷ (p.value ++ 0 ∷ x)
pair-flat p x = simp append_assoc

pair-same : (p q : Parameter) (x y : List ℕ) → IsParameter p → IsParameter q → pair p ++ x ≡ pair q ++ y → (p ≡ q) × (x ≡ y)
pair-same p q x y hp hq e =
    let names = string-same p.name q.name (p.value ++ 0 ∷ x) (q.value ++ 0 ∷ y) hp.name hq.name (sym (pair-flat p x) ∙ e ∙ pair-flat q y) in
    let values = string-same p.value q.value x y hp.value hq.value names.1 in
    (λ i. record { name = names.0 i; value = values.0 i }, values.1)

-- no pair stands at the front
abbrev NoPair : List ℕ → Type 0
NoPair rest = (p : Parameter) (y : List ℕ) → IsParameter p → rest ≡ pair p ++ y → ⊥

pairs-same : (ps qs : List Parameter) (r t : List ℕ) → AllByRecursion IsParameter ps → AllByRecursion IsParameter qs → NoPair r → NoPair t → pairs ps ++ r ≡ pairs qs ++ t → (ps ≡ qs) × (r ≡ t)
pairs-same [] [] r t hp hq nr nt e = (refl, e)
pairs-same [] (q ∷ qs) r t hp hq nr nt e = absurd (nr q (pairs qs ++ t) hq.0 (e ∙ append_assoc (pair q) (pairs qs) t))
pairs-same (p ∷ ps) [] r t hp hq nr nt e = absurd (nt p (pairs ps ++ r) hp.0 (sym e ∙ append_assoc (pair p) (pairs ps) r))
pairs-same (p ∷ ps) (q ∷ qs) r t hp hq nr nt e =
    let first = pair-same p q (pairs ps ++ r) (pairs qs ++ t) hp.0 hq.0 (sym (append_assoc (pair p) (pairs ps) r) ∙ e ∙ append_assoc (pair q) (pairs qs) t) in
    let others = pairs-same ps qs r t hp.1 hq.1 nr nt first.1 in
    let head = first.0 in
    let tail = others.0 in
    (cc, others.1)

no_pair-zero : (more : List ℕ) → NoPair (0 ∷ more)
no_pair-zero more p y is e = is.named (sym (string-same [] p.name more (p.value ++ 0 ∷ y) tt is.name (e ∙ pair-flat p y)).0)

no_pair-string : (rest : List ℕ) → IsString rest → NoPair rest
no_pair-string rest s p y is e = string-no_zero rest p.name (p.value ++ 0 ∷ y) s (e ∙ pair-flat p y)

value-flat : (name value : List ℕ) → string name ++ value ≡ name ++ 0 ∷ value
value-flat name value = simp append_assoc

no_pair-value : (rest : List ℕ) (at : ℕ) → EndsInValue rest at → NoPair rest
no_pair-value rest at v p y is e =
    let both = string-same v.0 p.name v.1 (p.value ++ 0 ∷ y) v.3 is.name (sym (value-flat v.0 v.1) ∙ sym v.5 ∙ e ∙ pair-flat p y) in
    string-no_zero v.1 p.value y v.4 both.1

no_pair-fails : (rest : List ℕ) (at : ℕ) → FailsAt rest at → NoPair rest
no_pair-fails rest at (inl n) = no_pair-string rest n.0
no_pair-fails rest at (inr (inl v)) = no_pair-value rest at v
no_pair-fails rest at (inr (inr z)) = λ p y is e. no_pair-zero (z.0 ∷ z.1) p y is (sym z.2 ∙ e)

-- a value that doesn't end has a zero byte before it
value-zero : (rest : List ℕ) (at : ℕ) → EndsInValue rest at → IsString rest → ⊥
value-zero rest at v s = string-no_zero rest v.0 v.1 s (v.5 ∙ value-flat v.0 v.1)

-- and a name before that, which isn't empty
value-not_zero : (rest : List ℕ) (at : ℕ) (more : List ℕ) → EndsInValue rest at → rest ≡ 0 ∷ more → ⊥
value-not_zero rest at more v e =
    v.2 (sym (string-same [] v.0 more v.1 tt v.3 (sym e ∙ v.5 ∙ value-flat v.0 v.1)).0)

value-same : (rest : List ℕ) (j k : ℕ) → EndsInValue rest j → EndsInValue rest k → j ≡ k
value-same rest j k v w =
    let both = string-same v.0 w.0 v.1 w.1 v.3 w.3 (sym (value-flat v.0 v.1) ∙ sym v.5 ∙ w.5 ∙ value-flat w.0 w.1) in
    v.6 ∙ ap (λ (s : List ℕ). length s + 1) both.0 ∙ sym w.6

string-not_zero : (rest more : List ℕ) → IsString rest → rest ≡ 0 ∷ more → ⊥
string-not_zero rest more s e = string-no_zero rest [] more s e

fails-same : (rest : List ℕ) (j k : ℕ) → FailsAt rest j → FailsAt rest k → j ≡ k
fails-same rest j k (inl n) (inl m) = n.1 ∙ sym m.1
fails-same rest j k (inl n) (inr (inl v)) = absurd (value-zero rest k v n.0)
fails-same rest j k (inl n) (inr (inr z)) = absurd (string-not_zero rest (z.0 ∷ z.1) n.0 z.2)
fails-same rest j k (inr (inl v)) (inl n) = absurd (value-zero rest j v n.0)
fails-same rest j k (inr (inl v)) (inr (inl w)) = value-same rest j k v w
fails-same rest j k (inr (inl v)) (inr (inr z)) = absurd (value-not_zero rest j (z.0 ∷ z.1) v z.2)
fails-same rest j k (inr (inr z)) (inl n) = absurd (string-not_zero rest (z.0 ∷ z.1) n.0 z.2)
fails-same rest j k (inr (inr z)) (inr (inl v)) = absurd (value-not_zero rest k (z.0 ∷ z.1) v z.2)
fails-same rest j k (inr (inr z)) (inr (inr y)) = z.3 ∙ sym y.3

-- the last zero byte is no failure
fails-not_last : (rest : List ℕ) (at : ℕ) → FailsAt rest at → rest ≡ 0 ∷ [] → ⊥
fails-not_last rest at (inl n) e = string-not_zero rest [] n.0 e
fails-not_last rest at (inr (inl v)) e = value-not_zero rest at [] v e
fails-not_last rest at (inr (inr z)) e = let same = sym z.2 ∙ e in cc

pub laid_out-same : (body : List ℕ) (ps qs : List Parameter) → IsLaidOut body ps → IsLaidOut body qs → ps ≡ qs
laid_out-same body ps qs p q =
    (pairs-same ps qs (0 ∷ []) (0 ∷ []) p.each q.each (no_pair-zero []) (no_pair-zero []) (sym p.spelled ∙ q.spelled)).0

pub laid_out-not_malformed : (body : List ℕ) (ps : List Parameter) (at : ℕ) → IsLaidOut body ps → IsMalformed body at → ⊥
laid_out-not_malformed body ps at p m =
    let both = pairs-same ps m.front (0 ∷ []) m.rest p.each m.each (no_pair-zero []) (no_pair-fails m.rest m.place m.fails) (sym p.spelled ∙ m.spelled) in
    fails-not_last m.rest m.place m.fails (sym both.1)

pub malformed-same : (body : List ℕ) (j k : ℕ) → IsMalformed body j → IsMalformed body k → j ≡ k
malformed-same body j k m n =
    let both = pairs-same m.front n.front m.rest n.rest m.each n.each (no_pair-fails m.rest m.place m.fails) (no_pair-fails n.rest n.place n.fails) (sym m.spelled ∙ n.spelled) in
    let place : m.place ≡ n.place = fails-same m.rest m.place n.place m.fails (subst (λ (r : List ℕ). FailsAt r n.place) (sym both.1) n.fails) in
    let front : length (pairs m.front) ≡ length (pairs n.front) = ap (λ (ps : List Parameter). length (pairs ps)) both.0 in
    omega (arith, m.told, n.told, place, front)
