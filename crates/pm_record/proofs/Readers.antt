-- Readers and what they read: one after another.
use Rattle.std.proofs.Common.{◌≡◌, ℕ, suc, ◌<◌, Bool, true, false, cond, List, [], ◌∷◌, ◌++◌, length, Result, Ok, Err, refl, sym, ap, subst, ◌∙◌, append_assoc, append-nil, length-append, arith, ◌⊎◌, inl, inr}
use Rattle.pm_record.specs.Reading.{Read, ◌>>=◌, byte_at}
pub use Rattle.pm_record.proofs.Words.{Begins, Spelled}

-- ---- bytes

abbrev pub IsBytes : List ℕ → Type 0
IsBytes [] = Unit {0}
IsBytes (b ∷ bytes) = (b < 256) × IsBytes bytes

pub bytes_behind : (front bytes : List ℕ) → IsBytes (front ++ bytes) → IsBytes bytes
bytes_behind [] bytes h = h
bytes_behind (b ∷ front) bytes h = bytes_behind front bytes h.1

pub bytes_in_front : (front bytes : List ℕ) → IsBytes (front ++ bytes) → IsBytes front
bytes_in_front [] bytes h = tt
bytes_in_front (b ∷ front) bytes h = (h.0, bytes_in_front front bytes h.1)

pub bytes_both : (front bytes : List ℕ) → IsBytes front → IsBytes bytes → IsBytes (front ++ bytes)
bytes_both [] bytes h g = g
bytes_both (b ∷ front) bytes h g = (h.0, bytes_both front bytes h.1 g)

-- ---- one step

abbrev pub ok : {A : Type 0} → A → Result A ℕ
ok x = Ok x

pub ok_is : {A : Type 0} (x y : A) → ok x ≡ ok y → x ≡ y
ok_is x y e = cc

pub err_not_ok : {A : Type 0} (left : ℕ) (x : A) → Err left ≡ ok x → ⊥
err_not_ok left x e = absurd cc

pub err_is : {A : Type 0} (r : Result A ℕ) (m n : ℕ) → r ≡ Err m → r ≡ Err n → m ≡ n
err_is (Ok x) m n e f = absurd cc
err_is (Err k) m n e f = let p : k ≡ m = cc in let q : k ≡ n = cc in sym p ∙ q

pub bind_ok : {A B : Type 0} (r : Result A ℕ) (f : A → Result B ℕ) (y : B) → (r >>= f) ≡ Ok y → (x : A) × (r ≡ Ok x) × (f x ≡ Ok y)
bind_ok (Ok x) f y e = (x, refl, e)
bind_ok (Err d) f y e = absurd cc

pub bind_err : {A B : Type 0} (r : Result A ℕ) (f : A → Result B ℕ) (left : ℕ) → (r >>= f) ≡ Err left → (r ≡ Err left) ⊎ ((x : A) × (r ≡ Ok x) × (f x ≡ Err left))
bind_err (Ok x) f left e = inr (x, refl, e)
bind_err (Err d) f left e = let same : d ≡ left = cc in inl (ap Err same)

-- ---- readers

-- Reading stops so many bytes before the end: what is in front of them waits for more, and with the next byte, whatever
-- comes after it, reading stops there too.
pub record Stops {X : Type 0} (Waits : List ℕ → Type 0) (read : List ℕ → Read X) (bytes : List ℕ) (left : ℕ) : Type 0 where
  pub front : List ℕ
  pub rest : List ℕ
  pub parts : bytes ≡ front ++ rest
  pub size : left ≡ length rest
  pub waits : Waits front
  pub sticks : (byte : ℕ) (others : List ℕ) → rest ≡ byte ∷ others → (tail : List ℕ) → read (front ++ byte ∷ tail) ≡ Err (suc (length tail))

-- What reading finds is a word for it; a word is read, whatever comes after it; bytes that wait for more are too short;
-- and otherwise it stops at the first byte that is wrong.
pub record Reads {X : Type 0} (Waits : List ℕ → Type 0) (Is : X → List ℕ → Type 0) (read : List ℕ → Read X) : Type 0 where
  pub fits : (x : X) (word : List ℕ) → Is x word → IsBytes word
  pub found : (bytes : List ℕ) (x : X) (rest : List ℕ) → IsBytes bytes → read bytes ≡ Ok (x, rest) → (word : List ℕ) × Is x word × (bytes ≡ word ++ rest)
  pub again : (x : X) (word rest : List ℕ) → Is x word → read (word ++ rest) ≡ Ok (x, rest)
  pub short : (bytes : List ℕ) → Waits bytes → read bytes ≡ Err 0
  pub stops : (bytes : List ℕ) (left : ℕ) → IsBytes bytes → read bytes ≡ Err left → Stops Waits read bytes left

-- ---- the same words

pub becomes : {X : Type 0} {V W : List ℕ → Type 0} {Is Was : X → List ℕ → Type 0} {read : List ℕ → Read X}
    → Reads V Was read → ((bytes : List ℕ) → V bytes → W bytes) → ((bytes : List ℕ) → W bytes → V bytes)
    → ((x : X) (word : List ℕ) → Was x word → Is x word) → ((x : X) (word : List ℕ) → Is x word → Was x word) → Reads W Is read
becomes r on back to from = record {
  fits = λ x word is. r.fits x word (from x word is);
  found = λ bytes x rest fits e. let f = r.found bytes x rest fits e in (f.0, to x f.0 f.1, f.2);
  again = λ x word rest is. r.again x word rest (from x word is);
  short = λ bytes w. r.short bytes (back bytes w);
  stops = λ bytes left fits e. let s = r.stops bytes left fits e in record { front = s.front; rest = s.rest; parts = s.parts; size = s.size; waits = on s.front s.waits; sticks = s.sticks };
}

-- ---- one reader after another

-- one word waits, or it is whole and what is after it waits
abbrev pub ThenWaits : {A : Type 0} → (List ℕ → Type 0) → (A → List ℕ → Type 0) → (A → List ℕ → Type 0) → List ℕ → Type 0
ThenWaits {A} V Is W bytes = V bytes ⊎ ((a : A) × (word : List ℕ) × (behind : List ℕ) × Is a word × (bytes ≡ word ++ behind) × W a behind)

abbrev pub ThenIs : {A B : Type 0} → (A → List ℕ → Type 0) → (A → B → List ℕ → Type 0) → B → List ℕ → Type 0
ThenIs {A} Is Behind b bytes = (a : A) × (word : List ℕ) × (behind : List ℕ) × Is a word × (bytes ≡ word ++ behind) × Behind a b behind

module _ {A B : Type 0} (V : List ℕ → Type 0) (Is : A → List ℕ → Type 0) (read : List ℕ → Read A)
    (W : A → List ℕ → Type 0) (Behind : A → B → List ℕ → Type 0) (go : A → List ℕ → Read B)
    (first : Reads V Is read) (second : (a : A) (word : List ℕ) → Is a word → Reads (W a) (Behind a) (go a)) where
  abbrev both : List ℕ → Read B
  both bytes = read bytes >>= λ p. go p.0 p.1

  both_ok : (a : A) (word rest : List ℕ) → Is a word → both (word ++ rest) ≡ go a rest
  both_ok a word rest is = ap (λ (r : Read A). r >>= λ p. go p.0 p.1) (first.again a word rest is)

  pub then_reads : Reads (ThenWaits V Is W) (ThenIs Is Behind) (λ bytes. read bytes >>= λ p. go p.0 p.1)
  then_reads = record {
    fits = λ b bytes is. subst IsBytes (sym is.4) (bytes_both is.1 is.2 (first.fits is.0 is.1 is.3) ((second is.0 is.1 is.3).fits b is.2 is.5));
    found = λ bytes b rest fits e.
        let p = bind_ok (read bytes) (λ q. go q.0 q.1) (b, rest) e in
        let f = first.found bytes p.0.0 p.0.1 fits p.1 in
        let g = (second p.0.0 f.0 f.1).found p.0.1 b rest (bytes_behind f.0 p.0.1 (subst IsBytes f.2 fits)) p.2 in
        (f.0 ++ g.0, (p.0.0, f.0, g.0, f.1, refl, g.1), f.2 ∙ ap (λ (t : List ℕ). f.0 ++ t) g.2 ∙ sym (append_assoc f.0 g.0 rest));
    again = λ b bytes rest is.
        ap both (ap (λ (t : List ℕ). t ++ rest) is.4 ∙ append_assoc is.1 is.2 rest) ∙ both_ok is.0 is.1 (is.2 ++ rest) is.3 ∙ (second is.0 is.1 is.3).again b is.2 rest is.5;
    short = λ bytes waits. elim waits [
      | inl v ↦ ap (λ (r : Read A). r >>= λ p. go p.0 p.1) (first.short bytes v)
      | inr w ↦ ap both w.4 ∙ both_ok w.0 w.1 w.2 w.3 ∙ (second w.0 w.1 w.3).short w.2 w.5
    ];
    stops = λ bytes left fits e. elim (bind_err (read bytes) (λ q. go q.0 q.1) left e) [
      | inl f ↦ let s = first.stops bytes left fits f in record {
        front = s.front;
        rest = s.rest;
        parts = s.parts;
        size = s.size;
        waits = inl s.waits;
        sticks = λ byte others at tail. ap (λ (r : Read A). r >>= λ p. go p.0 p.1) (s.sticks byte others at tail);
      }
      | inr p ↦
          let f = first.found bytes p.0.0 p.0.1 fits p.1 in
          let s = (second p.0.0 f.0 f.1).stops p.0.1 left (bytes_behind f.0 p.0.1 (subst IsBytes f.2 fits)) p.2 in record {
            front = f.0 ++ s.front;
            rest = s.rest;
            parts = f.2 ∙ ap (λ (t : List ℕ). f.0 ++ t) s.parts ∙ sym (append_assoc f.0 s.front s.rest);
            size = s.size;
            waits = inr (p.0.0, f.0, s.front, f.1, refl, s.waits);
            sticks = λ byte others at tail. ap both (append_assoc f.0 s.front (byte ∷ tail)) ∙ both_ok p.0.0 f.0 (s.front ++ byte ∷ tail) f.1 ∙ s.sticks byte others at tail;
          }
    ];
  }

-- ---- what begins a word

module _ {X : Type 0} (Waits : List ℕ → Type 0) (Is : X → List ℕ → Type 0) (read : List ℕ → Read X) (reads : Reads Waits Is read) where
  -- a word isn't a front of another
  pub one_word : (x y : X) (word other rest more : List ℕ) → Is x word → Is y other → word ++ rest ≡ other ++ more → (x ≡ y) × (rest ≡ more)
  one_word x y word other rest more p q e =
      let same = ok_is (x, rest) (y, more) (sym (reads.again x word rest p) ∙ ap read e ∙ reads.again y other more q) in
      (ap (λ (t : X × List ℕ). t.0) same, ap (λ (t : X × List ℕ). t.1) same)

  unfinished : (bytes : List ℕ) (left : ℕ) (b : Begins Is bytes) (s : Stops Waits read bytes left) (rest : List ℕ) → s.rest ≡ rest → Waits bytes
  unfinished bytes left b s [] is = subst Waits (sym (s.parts ∙ ap (λ (t : List ℕ). s.front ++ t) is ∙ append-nil s.front)) s.waits
  unfinished bytes left b s (byte ∷ others) is =
      let whole : bytes ++ b.1 ∷ b.2 ≡ s.front ++ byte ∷ (others ++ b.1 ∷ b.2) = ap (λ (t : List ℕ). t ++ b.1 ∷ b.2) (s.parts ∙ ap (λ (t : List ℕ). s.front ++ t) is) ∙ append_assoc s.front (byte ∷ others) (b.1 ∷ b.2) in
      let wrong = s.sticks byte others is (others ++ b.1 ∷ b.2) in
      let right = reads.again b.0 (bytes ++ b.1 ∷ b.2) [] b.3 in
      absurd (err_not_ok (suc (length (others ++ b.1 ∷ b.2))) (b.0, []) (sym wrong ∙ ap read (sym (append-nil (bytes ++ b.1 ∷ b.2) ∙ whole)) ∙ right))

  pub begins_waits : (bytes : List ℕ) → Begins Is bytes → Waits bytes
  begins_waits bytes b =
      let fits = bytes_in_front bytes (b.1 ∷ b.2) (reads.fits b.0 (bytes ++ b.1 ∷ b.2) b.3) in
      elim (read bytes) as (λ t. read bytes ≡ t → Waits bytes) [
        | Ok p ↦ λ e.
            let f = reads.found bytes p.0 p.1 fits e in
            let whole : (bytes ++ b.1 ∷ b.2) ++ [] ≡ f.0 ++ (p.1 ++ b.1 ∷ b.2) = append-nil (bytes ++ b.1 ∷ b.2) ∙ ap (λ (t : List ℕ). t ++ b.1 ∷ b.2) f.2 ∙ append_assoc f.0 p.1 (b.1 ∷ b.2) in
            let o = one_word b.0 p.0 (bytes ++ b.1 ∷ b.2) f.0 [] (p.1 ++ b.1 ∷ b.2) b.3 f.1 whole in
            absurd (omega (arith, ap length o.1, length-append p.1 (b.1 ∷ b.2)))
        | Err left ↦ λ e. let s = reads.stops bytes left fits e in unfinished bytes left b s s.rest refl
      ] refl

  pub as_begins : ((bytes : List ℕ) → Waits bytes → Begins Is bytes) → Reads (Begins Is) Is read
  as_begins mends = becomes reads mends begins_waits (λ x word is. is) (λ x word is. is)

-- ---- a field, and what comes after it

-- words after a front
abbrev pub Behind : {B : Type 0} → (B → List ℕ → Type 0) → List ℕ → B → List ℕ → Type 0
Behind Is front b word = Is b (front ++ word)

abbrev pub Reading : {B : Type 0} → (B → List ℕ → Type 0) → (List ℕ → Read B) → Type 0
Reading Is read = Reads (Begins Is) Is read

pub same_words : {X : Type 0} (Was Is : X → List ℕ → Type 0) (read : List ℕ → Read X) → Reading Was read
    → ((x : X) (word : List ℕ) → Was x word → Is x word) → ((x : X) (word : List ℕ) → Is x word → Was x word) → Reading Is read
same_words Was Is read r to from = becomes r (λ bytes b. (b.0, b.1, b.2, to b.0 (bytes ++ b.1 ∷ b.2) b.3)) (λ bytes b. (b.0, b.1, b.2, from b.0 (bytes ++ b.1 ∷ b.2) b.3)) to from

module _ {A B : Type 0} (May : A → Type 0) (spell : A → List ℕ) (read : List ℕ → Read A) (Is : B → List ℕ → Type 0) (go : A → List ℕ → Read B)
    (first : Reading (Spelled May spell) read) (second : (a : A) → May a → Reading (Behind Is (spell a)) (go a))
    -- each word begins with a field that may stand here, and after each that may something can stand
    (split : (b : B) (word : List ℕ) → Is b word → (a : A) × (behind : List ℕ) × May a × (word ≡ spell a ++ behind))
    (on : (a : A) → May a → (b : B) × (behind : List ℕ) × Is b (spell a ++ behind)) where
  abbrev Wait : List ℕ → Type 0
  Wait = ThenWaits (Begins (Spelled May spell)) (Spelled May spell) (λ a. Begins (Behind Is (spell a)))

  waits_on : (bytes : List ℕ) → Wait bytes → Begins Is bytes
  waits_on bytes w = elim w [
    | inl b ↦
        let o = on b.0 b.3.0 in
        (o.0, b.1, b.2 ++ o.1, subst (Is o.0) (ap (λ (t : List ℕ). t ++ o.1) (sym b.3.1) ∙ append_assoc bytes (b.1 ∷ b.2) o.1) o.2)
    | inr c ↦
        let b = c.5 in
        (b.0, b.1, b.2, subst (Is b.0) (sym (append_assoc (spell c.0) c.2 (b.1 ∷ b.2)) ∙ ap (λ (t : List ℕ). t ++ b.1 ∷ b.2) (ap (λ (t : List ℕ). t ++ c.2) (sym c.3.1) ∙ sym c.4)) b.3)
  ]

  then_words : Reads Wait Is (λ bytes. read bytes >>= λ p. go p.0 p.1)
  then_words = becomes (then_reads (Begins (Spelled May spell)) (Spelled May spell) read (λ a. Begins (Behind Is (spell a))) (λ a. Behind Is (spell a)) go first (λ a word is. second a is.0))
      (λ bytes w. w) (λ bytes w. w)
      (λ b word is. subst (Is b) (ap (λ (t : List ℕ). t ++ is.2) (sym is.3.1) ∙ sym is.4) is.5)
      (λ b word is. let s = split b word is in (s.0, spell s.0, s.1, (s.2, refl), s.3, subst (Is b) s.3 is))

  pub field_then : Reading Is (λ bytes. read bytes >>= λ p. go p.0 p.1)
  field_then = as_begins Wait Is (λ bytes. read bytes >>= λ p. go p.0 p.1) then_words waits_on

-- ---- nothing more

pub done_reads : {B : Type 0} (x : B) (Is : B → List ℕ → Type 0) → Is x [] → ((b : B) (word : List ℕ) → Is b word → (b ≡ x) × (word ≡ [])) → Reading Is (λ bytes. Ok (x, bytes))
done_reads x Is is only = record {
  fits = λ b word h. subst IsBytes (sym (only b word h).1) tt;
  found = λ bytes b rest fits e. let same = ok_is (x, bytes) (b, rest) e in ([], subst (λ (t : _). Is t []) (ap (λ (t : _ × List ℕ). t.0) same) is, ap (λ (t : _ × List ℕ). t.1) same);
  again = λ b word rest h. let o = only b word h in ap ok (let p : x ≡ b = sym o.0 in let q : rest ≡ word ++ rest = sym (ap (λ (t : List ℕ). t ++ rest) o.1) in let r : (x, word ++ rest) ≡ (b, rest) = (λ i. (p i, sym q i)) in r);
  short = λ bytes b. absurd (omega (arith, ap length (only b.0 (bytes ++ b.1 ∷ b.2) b.3).1, length-append bytes (b.1 ∷ b.2)));
  stops = λ bytes left fits e. absurd cc;
}

-- ---- one byte

module _ (May : ℕ → Type 0) (may : ℕ → Bool) (to : (b : ℕ) → may b ≡ true → b < 256 → May b) (from : (b : ℕ) → May b → (may b ≡ true) × (b < 256)) (some : (b : ℕ) × May b) where
  abbrev one : ℕ → List ℕ
  one b = b ∷ []

  byte_when : (b : ℕ) (bytes : List ℕ) (t : Bool) → may b ≡ t → byte_at may (b ∷ bytes) ≡ cond t (Ok (b, bytes)) (Err (suc (length bytes)))
  byte_when b bytes t e = ap (λ (u : Bool). cond u (Ok (b, bytes)) (Err (suc (length bytes)))) e

  byte_found : (bytes : List ℕ) (x : ℕ) (rest : List ℕ) → IsBytes bytes → byte_at may bytes ≡ Ok (x, rest) → (word : List ℕ) × Spelled May one x word × (bytes ≡ word ++ rest)
  byte_found [] x rest fits e = absurd cc
  byte_found (b ∷ bytes) x rest fits e =
      elim (may b) as (λ t. may b ≡ t → (word : List ℕ) × Spelled May one x word × (b ∷ bytes ≡ word ++ rest)) [
        | true ↦ λ t.
            let same = ok_is (b, bytes) (x, rest) (sym (byte_when b bytes true t) ∙ e) in
            let is : b ≡ x = ap (λ (u : ℕ × List ℕ). u.0) same in
            let behind : bytes ≡ rest = ap (λ (u : ℕ × List ℕ). u.1) same in
            (b ∷ [], (subst May is (to b t fits.0), λ i. is i ∷ []), λ i. b ∷ behind i)
        | false ↦ λ t. absurd (err_not_ok (suc (length bytes)) (x, rest) (sym (byte_when b bytes false t) ∙ e))
      ] refl

  byte_stops : (bytes : List ℕ) (left : ℕ) → IsBytes bytes → byte_at may bytes ≡ Err left → Stops (Begins (Spelled May one)) (byte_at may) bytes left
  byte_stops [] left fits e = let same : 0 ≡ left = cc in record { front = []; rest = []; parts = refl; size = sym same; waits = (some.0, some.0, [], (some.1, refl)); sticks = λ byte others at. absurd cc }
  byte_stops (b ∷ bytes) left fits e =
      elim (may b) as (λ t. may b ≡ t → Stops (Begins (Spelled May one)) (byte_at may) (b ∷ bytes) left) [
        | true ↦ λ t. let f : ok (b, bytes) ≡ Err left = sym (byte_when b bytes true t) ∙ e in absurd cc
        | false ↦ λ t.
            let same = err_is (byte_at may (b ∷ bytes)) (suc (length bytes)) left (byte_when b bytes false t) e in record {
              front = [];
              rest = b ∷ bytes;
              parts = refl;
              size = sym same;
              waits = (some.0, some.0, [], (some.1, refl));
              sticks = λ byte others at tail. let is : b ≡ byte = cc in byte_when byte tail false (ap may (sym is) ∙ t);
            }
      ] refl

  byte_short : (bytes : List ℕ) → Begins (Spelled May one) bytes → byte_at may bytes ≡ Err 0
  byte_short [] b = refl
  byte_short (c ∷ bytes) b = absurd (omega (arith, ap length b.3.1, length-append bytes (b.1 ∷ b.2)))

  pub byte_reads : Reading (Spelled May one) (byte_at may)
  byte_reads = record {
    fits = λ b word is. subst IsBytes (sym is.1) ((from b is.0).1, tt);
    found = byte_found;
    again = λ b word rest is. ap (λ (t : List ℕ). byte_at may (t ++ rest)) is.1 ∙ byte_when b rest true (from b is.0).0;
    short = byte_short;
    stops = byte_stops;
  }

-- ---- a value made of what was read

module _ {X Y : Type 0} (Was : X → List ℕ → Type 0) (Is : Y → List ℕ → Type 0) (read : List ℕ → Read X) (make : X → Y) (reads : Reading Was read)
    (to : (x : X) (word : List ℕ) → Was x word → Is (make x) word) (from : (y : Y) (word : List ℕ) → Is y word → (x : X) × Was x word × (y ≡ make x)) where
  abbrev made : Result (X × List ℕ) ℕ → Read Y
  made r = r >>= λ p. Ok (make p.0, p.1)

  pub made_reads : Reading Is (λ bytes. read bytes >>= λ p. Ok (make p.0, p.1))
  made_reads = record {
    fits = λ y word is. let f = from y word is in reads.fits f.0 word f.1;
    found = λ bytes y rest fits e.
        let p = bind_ok (read bytes) (λ p. Ok (make p.0, p.1)) (y, rest) e in
        let same = ok_is (make p.0.0, p.0.1) (y, rest) p.2 in
        let f = reads.found bytes p.0.0 p.0.1 fits p.1 in
        (f.0, subst (λ (t : Y). Is t f.0) (ap (λ (t : Y × List ℕ). t.0) same) (to p.0.0 f.0 f.1), f.2 ∙ ap (λ (t : Y × List ℕ). f.0 ++ t.1) same);
    again = λ y word rest is. let f = from y word is in ap made (reads.again f.0 word rest f.1) ∙ ap (λ (t : Y). ok (t, rest)) (sym f.2);
    short = λ bytes b. let f = from b.0 (bytes ++ b.1 ∷ b.2) b.3 in ap made (reads.short bytes (f.0, b.1, b.2, f.1));
    stops = λ bytes left fits e. elim (bind_err (read bytes) (λ p. Ok (make p.0, p.1)) left e) [
      | inl f ↦ let s = reads.stops bytes left fits f in record {
        front = s.front;
        rest = s.rest;
        parts = s.parts;
        size = s.size;
        waits = (make s.waits.0, s.waits.1, s.waits.2, to s.waits.0 (s.front ++ s.waits.1 ∷ s.waits.2) s.waits.3);
        sticks = λ byte others at tail. ap made (s.sticks byte others at tail);
      }
      | inr p ↦ absurd (err_not_ok left (make p.0.0, p.0.1) (sym p.2))
    ];
  }
