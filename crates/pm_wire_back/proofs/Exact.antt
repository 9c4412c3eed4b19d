-- Readers that are exact: what is read stands there, more bytes are wanted where they can complete it, and a byte departs
-- where no bytes after it can. A language says which words are which values.
use Rattle.std.proofs.{Common.{◌≡◌, ℕ, suc, ◌<◌, List, [], ◌∷◌, ◌++◌, length, Result, Ok, Err, refl, sym, ap, subst, ◌∙◌, inl, inr, arith, append_assoc, ◌⊎◌}, lemmas.List.{append-nil, length-append, append_cancel_left}}
use Rattle.pm_wire_back.specs.{declared.parts.Stop.{Stop, TheVariants.{Partial, Departs}}, Parts.◌>>=◌}

-- no word begins another, and each has one value
abbrev pub Apart : {X : Type 0} → (List ℕ → X → Type 0) → Type 0
Apart {X} L = (a b x y : List ℕ) (m n : X) → L a m → L b n → a ++ x ≡ b ++ y → (a ≡ b) × (m ≡ n)

-- some word begins so and goes on
abbrev pub GoesOn : {X : Type 0} → (List ℕ → X → Type 0) → List ℕ → Type 0
GoesOn {X} L front = (more : List ℕ) × (x : X) × (0 < length more) × L (front ++ more) x

abbrev pub HasWord : {X : Type 0} → (List ℕ → X → Type 0) → Type 0
HasWord {X} L = (word : List ℕ) × (x : X) × L word x

pub record DepartsAt {X : Type 0} (L : List ℕ → X → Type 0) (bytes : List ℕ) (left : ℕ) : Type 0 where
  pub front : List ℕ
  pub byte : ℕ
  pub behind : List ℕ
  pub parts : bytes ≡ front ++ byte ∷ behind
  pub size : left ≡ suc (length behind)
  pub goes_on : GoesOn L front
  pub stuck : (more : List ℕ) (x : X) → L (front ++ byte ∷ more) x → ⊥

abbrev pub StopsExactly : {X : Type 0} → (List ℕ → X → Type 0) → List ℕ → Stop → Type 0
StopsExactly L bytes Partial = GoesOn L bytes
StopsExactly L bytes (Departs left) = DepartsAt L bytes left

abbrev pub Exact : {X : Type 0} → (List ℕ → X → Type 0) → List ℕ → Result (X × List ℕ) Stop → Type 0
Exact L bytes (Ok p) = (word : List ℕ) × (bytes ≡ word ++ p.1) × L word p.0
Exact L bytes (Err stop) = StopsExactly L bytes stop

-- ---- one after the other

abbrev pub Then : {X Y : Type 0} → (List ℕ → X → Type 0) → (X → List ℕ → Y → Type 0) → List ℕ → Y → Type 0
Then {X} A B word y = (u v : List ℕ) × (x : X) × (word ≡ u ++ v) × A u x × B x v y

abbrev pub Done : {Y : Type 0} → Y → List ℕ → Y → Type 0
Done y word z = (word ≡ []) × (y ≡ z)

pub done_exact : {Y : Type 0} (y : Y) (bytes : List ℕ) → Exact (Done y) bytes (Ok (y, bytes))
done_exact y bytes = ([], refl, (refl, refl))

pub done_apart : {Y : Type 0} (y : Y) → Apart (Done y)
done_apart y a b s t m n at_m at_n e = (at_m.0 ∙ sym at_n.0, sym at_m.1 ∙ at_n.1)

pub done_word : {Y : Type 0} (y : Y) → HasWord (Done y)
done_word y = ([], y, (refl, refl))

pub then_apart : {X Y : Type 0} (A : List ℕ → X → Type 0) (B : X → List ℕ → Y → Type 0) → Apart A → ((x : X) → Apart (B x)) → Apart (Then A B)
then_apart A B apart_a apart_b a b s t m n at_m at_n e =
    let whole : at_m.0 ++ (at_m.1 ++ s) ≡ at_n.0 ++ (at_n.1 ++ t) =
    sym (append_assoc at_m.0 at_m.1 s) ∙ ap (λ (w : List ℕ). w ++ s) (sym at_m.3) ∙ e ∙ ap (λ (w : List ℕ). w ++ t) at_n.3 ∙ append_assoc at_n.0 at_n.1 t in
    let first = apart_a at_m.0 at_n.0 (at_m.1 ++ s) (at_n.1 ++ t) at_m.2 at_n.2 at_m.4 at_n.4 whole in
    let rest : at_m.1 ++ s ≡ at_n.1 ++ t = append_cancel_left at_n.0 (at_m.1 ++ s) (at_n.1 ++ t) (ap (λ (w : List ℕ). w ++ (at_m.1 ++ s)) (sym first.0) ∙ whole) in
    let second = apart_b at_n.2 at_m.1 at_n.1 s t m n (subst (λ x. B x at_m.1 m) first.1 at_m.5) at_n.5 rest in
    (at_m.3 ∙ ap (λ (w : List ℕ). w ++ at_m.1) first.0 ∙ ap (λ (w : List ℕ). at_n.0 ++ w) second.0 ∙ sym at_n.3, second.1)

pub then_word : {X Y : Type 0} (A : List ℕ → X → Type 0) (B : X → List ℕ → Y → Type 0) → (a : HasWord A) → HasWord (B a.1) → HasWord (Then A B)
then_word A B a b = (a.0 ++ b.0, b.1, (a.0, b.0, a.1, refl, a.2, b.2))

-- a front of one list against a front of another
pub front_cases : (front u more v : List ℕ) (b : ℕ) → front ++ b ∷ more ≡ u ++ v → ((t : List ℕ) × (u ≡ front ++ b ∷ t)) ⊎ ((t : List ℕ) × (front ≡ u ++ t))
front_cases [] [] more v b e = inr ([], refl)
front_cases [] (x ∷ u) more v b e = let same : b ≡ x = cc in inl (u, ap (λ (n : ℕ). n ∷ u) (sym same))
front_cases (y ∷ front) [] more v b e = inr (y ∷ front, refl)
front_cases (y ∷ front) (x ∷ u) more v b e =
    let same : y ≡ x = cc in
    let rest : front ++ b ∷ more ≡ u ++ v = cc in
    elim (front_cases front u more v b rest) [
      | inl h ↦ inl (h.0, ap (λ (w : List ℕ). x ∷ w) h.1 ∙ ap (λ (n : ℕ). n ∷ (front ++ b ∷ h.0)) (sym same))
      | inr h ↦ inr (h.0, ap (λ (w : List ℕ). y ∷ w) h.1 ∙ ap (λ (n : ℕ). n ∷ (u ++ h.0)) same)
    ]

module _ {X Y : Type 0} (A : List ℕ → X → Type 0) (B : X → List ℕ → Y → Type 0) (apart : Apart A) (words : (u : List ℕ) (x : X) → A u x → HasWord (B x)) where
  goes_on : (front : List ℕ) → GoesOn A front → GoesOn (Then A B) front
  goes_on front g =
      let w = words (front ++ g.0) g.1 g.3 in
      (g.0 ++ w.0, w.1, omega (arith, length-append g.0 w.0, g.2), (front ++ g.0, w.0, g.1, sym (append_assoc front g.0 w.0), g.3, w.2))

  -- the second part, read after a first one
  second : (bytes u rest : List ℕ) (x : X) → A u x → bytes ≡ u ++ rest → (out : Result (Y × List ℕ) Stop) → Exact (B x) rest out → Exact (Then A B) bytes out
  second bytes u rest x at_x parts (Ok p) h =
      (u ++ h.0, parts ∙ ap (λ (w : List ℕ). u ++ w) h.1 ∙ sym (append_assoc u h.0 p.1), (u, h.0, x, refl, at_x, h.2))
  second bytes u rest x at_x parts (Err Partial) h =
      (h.0, h.1, h.2, (u, rest ++ h.0, x, ap (λ (w : List ℕ). w ++ h.0) parts ∙ append_assoc u rest h.0, at_x, h.3))
  second bytes u rest x at_x parts (Err (Departs left)) h = record {
    front = u ++ h.front;
    byte = h.byte;
    behind = h.behind;
    parts = parts ∙ ap (λ (w : List ℕ). u ++ w) h.parts ∙ sym (append_assoc u h.front (h.byte ∷ h.behind));
    size = h.size;
    goes_on = (h.goes_on.0, h.goes_on.1, h.goes_on.2, (u, h.front ++ h.goes_on.0, x, append_assoc u h.front h.goes_on.0, at_x, h.goes_on.3));
    stuck = λ more y word.
        let whole : u ++ (h.front ++ h.byte ∷ more) ≡ word.0 ++ word.1 = sym (append_assoc u h.front (h.byte ∷ more)) ∙ word.3 in
        let same = apart u word.0 (h.front ++ h.byte ∷ more) word.1 x word.2 at_x word.4 whole in
        let after : word.1 ≡ h.front ++ h.byte ∷ more = append_cancel_left u word.1 (h.front ++ h.byte ∷ more) (ap (λ (w : List ℕ). w ++ word.1) same.0 ∙ sym whole) in
        h.stuck more y (subst (λ w. B x w y) after (subst (λ z. B z word.1 y) (sym same.1) word.5));
  }

  -- a word of both parts doesn't begin where the first can't go on
  stuck_first : (front more : List ℕ) (b : ℕ) (y : Y) → GoesOn A front → ((m : List ℕ) (x : X) → A (front ++ b ∷ m) x → ⊥) → Then A B (front ++ b ∷ more) y → ⊥
  stuck_first front more b y g stuck word =
      elim (front_cases front word.0 more word.1 b word.3) [
        | inl h ↦ stuck h.0 word.2 (subst (λ w. A w word.2) h.1 word.4)
        | inr h ↦
            let whole : word.0 ++ (h.0 ++ g.0) ≡ (front ++ g.0) ++ [] =
            sym (append_assoc word.0 h.0 g.0) ∙ ap (λ (w : List ℕ). w ++ g.0) (sym h.1) ∙ sym (append-nil (front ++ g.0)) in
            let same = apart word.0 (front ++ g.0) (h.0 ++ g.0) [] word.2 g.1 word.4 g.3 whole in
            absurd (omega (arith, ap length same.0, ap length h.1, length-append front g.0, length-append word.0 h.0, g.2))
      ]

  pub then_exact : (bytes : List ℕ) (out : Result (X × List ℕ) Stop) (f : X × List ℕ → Result (Y × List ℕ) Stop) → Exact A bytes out
      → ((u rest : List ℕ) (x : X) → A u x → bytes ≡ u ++ rest → Exact (B x) rest (f (x, rest))) → Exact (Then A B) bytes (out >>= f)
  then_exact bytes (Ok p) f h next = second bytes h.0 p.1 p.0 h.2 h.1 (f p) (next h.0 p.1 p.0 h.2 h.1)
  then_exact bytes (Err Partial) f h next = goes_on bytes h
  then_exact bytes (Err (Departs left)) f h next = record {
    front = h.front;
    byte = h.byte;
    behind = h.behind;
    parts = h.parts;
    size = h.size;
    goes_on = goes_on h.front h.goes_on;
    stuck = λ more y word. stuck_first h.front more h.byte y h.goes_on h.stuck word;
  }

-- ---- an exact answer is the only one

module _ {X : Type 0} (L : List ℕ → X → Type 0) (apart : Apart L) where
  -- a word isn't the front of one that goes on
  ended : (word rest more : List ℕ) (m x : X) → L word m → L ((word ++ rest) ++ more) x → 0 < length more → ⊥
  ended word rest more m x at_m at_x some =
      let whole : word ++ (rest ++ more) ≡ ((word ++ rest) ++ more) ++ [] = sym (append_assoc word rest more) ∙ sym (append-nil ((word ++ rest) ++ more)) in
      let same = apart word ((word ++ rest) ++ more) (rest ++ more) [] m x at_m at_x whole in
      omega (arith, ap length same.0, length-append (word ++ rest) more, length-append word rest, some)

  -- a word doesn't stand where one departs
  pub departed : (bytes word rest : List ℕ) (m : X) (left : ℕ) → L word m → bytes ≡ word ++ rest → DepartsAt L bytes left → ⊥
  departed bytes word rest m left at_m parts d =
      elim (front_cases d.front word d.behind rest d.byte (sym d.parts ∙ parts)) [
        | inl h ↦ d.stuck h.0 m (subst (λ w. L w m) h.1 at_m)
        | inr h ↦ ended word h.0 d.goes_on.0 m d.goes_on.1 at_m (subst (λ w. L (w ++ d.goes_on.0) d.goes_on.1) h.1 d.goes_on.3) d.goes_on.2
      ]

  -- no word goes on where one departs
  departed_before : (bytes more : List ℕ) (x : X) (left : ℕ) → L (bytes ++ more) x → DepartsAt L bytes left → ⊥
  departed_before bytes more x left at_x d =
      d.stuck (d.behind ++ more) x (subst (λ w. L w x) (ap (λ (w : List ℕ). w ++ more) d.parts ∙ append_assoc d.front (d.byte ∷ d.behind) more) at_x)

  pub unique_ok : (bytes word rest : List ℕ) (m : X) → L word m → bytes ≡ word ++ rest → (out : Result (X × List ℕ) Stop) → Exact L bytes out → out ≡ Ok (m, rest)
  unique_ok bytes word rest m at_m parts (Ok p) h =
      let whole : word ++ rest ≡ h.0 ++ p.1 = sym parts ∙ h.1 in
      let same = apart word h.0 rest p.1 m p.0 at_m h.2 whole in
      let after : p.1 ≡ rest = append_cancel_left h.0 p.1 rest (sym whole ∙ ap (λ (w : List ℕ). w ++ rest) same.0) in
      (λ k. Ok (sym same.1 k, after k))
  unique_ok bytes word rest m at_m parts (Err Partial) h = absurd (ended word rest h.0 m h.1 at_m (subst (λ w. L (w ++ h.0) h.1) parts h.3) h.2)
  unique_ok bytes word rest m at_m parts (Err (Departs left)) h = absurd (departed bytes word rest m left at_m parts h)

  pub unique_partial : (bytes : List ℕ) → GoesOn L bytes → (out : Result (X × List ℕ) Stop) → Exact L bytes out → out ≡ Err Partial
  unique_partial bytes g (Ok p) h = absurd (ended h.0 p.1 g.0 p.0 g.1 h.2 (subst (λ w. L (w ++ g.0) g.1) h.1 g.3) g.2)
  unique_partial bytes g (Err Partial) h = refl
  unique_partial bytes g (Err (Departs left)) h = absurd (departed_before bytes g.0 g.1 left g.3 h)

  pub same_place : (bytes : List ℕ) (left other : ℕ) → DepartsAt L bytes left → DepartsAt L bytes other → left ≡ other
  same_place bytes left other d e =
      elim (front_cases d.front e.front d.behind (e.byte ∷ e.behind) d.byte (sym d.parts ∙ e.parts)) [
        | inl h ↦ absurd (d.stuck (h.0 ++ e.goes_on.0) e.goes_on.1 (subst (λ w. L w e.goes_on.1) (ap (λ (w : List ℕ). w ++ e.goes_on.0) h.1 ∙ append_assoc d.front (d.byte ∷ h.0) e.goes_on.0) e.goes_on.3))
        | inr h ↦ behind h.0 h.1
      ]
    where
      behind : (t : List ℕ) → d.front ≡ e.front ++ t → left ≡ other
      behind [] f =
          let fronts : length d.front ≡ length e.front = ap length (f ∙ append-nil e.front) in
          omega (arith, d.size, e.size, fronts, ap length d.parts, ap length e.parts, length-append d.front (d.byte ∷ d.behind), length-append e.front (e.byte ∷ e.behind))
      behind (c ∷ t) f =
          let whole : e.front ++ (c ∷ (t ++ d.byte ∷ d.behind)) ≡ e.front ++ (e.byte ∷ e.behind) =
          sym (append_assoc e.front (c ∷ t) (d.byte ∷ d.behind)) ∙ ap (λ (w : List ℕ). w ++ d.byte ∷ d.behind) (sym f) ∙ sym d.parts ∙ e.parts in
          let cells = append_cancel_left e.front (c ∷ (t ++ d.byte ∷ d.behind)) (e.byte ∷ e.behind) whole in
          let first : c ≡ e.byte = cc in
          let word : d.front ++ d.goes_on.0 ≡ e.front ++ e.byte ∷ (t ++ d.goes_on.0) =
          ap (λ (w : List ℕ). w ++ d.goes_on.0) f ∙ append_assoc e.front (c ∷ t) d.goes_on.0 ∙ ap (λ (n : ℕ). e.front ++ n ∷ (t ++ d.goes_on.0)) first in
          absurd (e.stuck (t ++ d.goes_on.0) d.goes_on.1 (subst (λ w. L w d.goes_on.1) word d.goes_on.3))

  pub unique_departs : (bytes : List ℕ) (left : ℕ) → DepartsAt L bytes left → (out : Result (X × List ℕ) Stop) → Exact L bytes out → out ≡ Err (Departs left)
  unique_departs bytes left d (Ok p) h = absurd (departed bytes h.0 p.1 p.0 left h.2 h.1 d)
  unique_departs bytes left d (Err Partial) h = absurd (departed_before bytes h.0 h.1 left h.3 d)
  unique_departs bytes left d (Err (Departs other)) h = ap (λ (n : ℕ). Err (Departs n)) (same_place bytes other left h d)
