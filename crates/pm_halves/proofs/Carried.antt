-- The slots of a seat: those of the first part on top, and then those of the second.
use Rattle.std.proofs.Common.{◌≡◌, ℕ, ◌+◌, ◌-◌, ◌≤◌, List, [], ◌∷◌, sym, refl, ap, ◌∙◌, subst, arith}
use Rattle.atomic_table.specs.{Table.Me, Seated.TableId}
use Rattle.pm_halves.specs.{declared.lot.Lot.{Lot, TheVariants.Second}, Halves.carried_as, Sitting.{lowered, Sitting, sitting, firsts_in, seconds_in, carried_both, AllWithin, IsLaid, IsWhole}, Places.KeepsFirst}

seconds_after : (X : Type 0) {Y : Type 0} (n : ℕ) (d : List (ℕ × Y)) → ◌≡◌ {A = List (ℕ × X)} (firsts_in (carried_as {S = Lot X Y} Second n d)) []
seconds_after X n [] = refl
seconds_after X n (x ∷ d) = seconds_after X n d

second_back : (X : Type 0) {Y : Type 0} (n : ℕ) (d : List (ℕ × Y)) → ◌≡◌ {A = List (ℕ × Y)} (seconds_in n (carried_as {S = Lot X Y} Second n d)) d
second_back X n [] = refl
second_back X n (x ∷ d) = λ i. ((let e : (n + x.0) - n ≡ x.0 = omega arith in e) i, x.1) ∷ second_back X n d i

module _ {X Y : Type 0} where
  firsts_back : (n : ℕ) (c : List (ℕ × X)) (d : List (ℕ × Y)) → firsts_in (carried_both n c d) ≡ c
  firsts_back n [] d = seconds_after X n d
  firsts_back n (x ∷ c) d = λ i. ((let e : 0 + x.0 ≡ x.0 = omega arith in e) i, x.1) ∷ firsts_back n c d i

  seconds_back : (n : ℕ) (c : List (ℕ × X)) (d : List (ℕ × Y)) → seconds_in n (carried_both n c d) ≡ d
  seconds_back n [] d = second_back X n d
  seconds_back n (x ∷ c) d = seconds_back n c d

  -- a list of both is known by its parts
  pub both_back : (n : ℕ) (l : List (ℕ × Lot X Y)) (c : List (ℕ × X)) (d : List (ℕ × Y)) → l ≡ carried_both n c d → (firsts_in l ≡ c) × (seconds_in n l ≡ d) × (l ≡ carried_both n (firsts_in l) (seconds_in n l))
  both_back n l c d e =
      let one = ap firsts_in e ∙ firsts_back n c d in let two = ap (seconds_in n) e ∙ seconds_back n c d in
      (one, two, e ∙ (λ i. carried_both n (sym one i) (sym two i)))

module _ (count : ℕ → ℕ) (m : ℕ) where
  -- two tables of one layout are one, if they are without their second parts
  pub raised : (t t' : TableId) → IsLaid count m t → IsLaid count m t' → lowered m t ≡ lowered m t' → t ≡ t'
  raised t t' one two e =
      let w : t.words - m ≡ t'.words - m = ap (λ z. z.words) e in let s : t.slots - m ≡ t'.slots - m = ap (λ z. z.slots) e in
      let w0 : t.words ≡ count (t.slots - m) + m = one.2 in let w1 : t'.words ≡ count (t'.slots - m) + m = two.2 in
      let s0 : m ≤ t.slots = one.1 in let s1 : m ≤ t'.slots = two.1 in
      let ws : t.words ≡ t'.words = omega arith in let ss : t.slots ≡ t'.slots = omega arith in
      λ i. record { words = ws i; slots = ss i; views_name = (e i).views_name; atom = (e i).atom; block = (e i).block; offset = (e i).offset; slot_names = (e i).slot_names }

module _ {X Y V W : Type 0} (count : ℕ → ℕ) (m : ℕ) where
  -- a seat that knows of the first part what it knew, and has the slots of it that it had
  pub back_in : (t t' : TableId) (id id' : ℕ) (me me' : Me (Lot X Y) (V × W)) (z : Sitting X Y V W) (d : List (ℕ × Y)) → IsWhole count m t me → sitting m t id me ≡ z → t' ≡ t → id' ≡ id
      → me'.0.0 ≡ me.0.0 → me'.1 ≡ carried_both (t.slots - m) (firsts_in me.1) d
      → KeepsFirst z (sitting m t' id' me') × (seconds_in (t'.slots - m) me'.1 ≡ d) × IsWhole count m t' me'
  back_in t t' id id' me me' z d whole z_is same id_is view list =
      let back = both_back (t.slots - m) me'.1 (firsts_in me.1) d list in (
        (
          ap (lowered m) same ∙ ap (λ (y : Sitting X Y V W). y.table) z_is,
          id_is ∙ ap (λ (y : Sitting X Y V W). y.id) z_is,
          (λ i. (view i, back.0 i)) ∙ ap (λ (y : Sitting X Y V W). y.me) z_is,
        ),
        ap (λ (y : TableId). seconds_in (y.slots - m) me'.1) same ∙ back.1,
        subst (λ (y : TableId). IsWhole count m y me') (sym same) (whole.0, back.2, subst (AllWithin (t.slots - m)) (sym back.0) whole.2),
      )
