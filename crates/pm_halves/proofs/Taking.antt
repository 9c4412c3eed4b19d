-- What a take tells, at a seat as contracts see it.
use Rattle.std.proofs.Common.{◌≡◌, ℕ, ◌+◌, ◌-◌, List, [], ◌∷◌, ◌++◌, sym, ap, ◌∙◌, subst, arith, append_assoc}
use mathlib.Core.Option.{none}
use Rattle.atomic_table.specs.{Table.{Me, Step, step, rest, turned}, Seated.TableId}
use Rattle.pm_halves.{specs.{declared.lot.Lot.{Lot, TheVariants.{First, Second}}, Halves.carried_as, Sitting.{Sitting, sitting, firsts_in, seconds_in, carried_both, IsLaid, IsWhole}, Places.{told_of_take, IsTake, KeepsFirst, TellsTake}}, proofs.{Carried.back_in, Rotating.carried-append}}

module _ {X Y V W : Type 0} (count : ℕ → ℕ) (m : ℕ) (then : Step Y → Me Y W → ℕ → Me Y W → Type 0) (tells : V → ℕ → W → Type 0) where
  -- to the seat as it was
  take_told : (id place words to found : ℕ) (t t' : TableId) (me me' : Me (Lot X Y) (V × W)) (z : Sitting X Y V W) → IsLaid count m t' → words ≡ t'.words - m → sitting m t id me ≡ z
      → TellsTake count m then tells (step t'.slots (words + place) 0 to none) me found me'
      → (u : W) × (d : List (ℕ × Y)) × (me' ≡ ((me.0.0, u), carried_as Second (t'.slots - m) d ++ me.1)) × told_of_take then m place to z.more.0 found (u, d) × tells z.me.0 found u
  take_told id place words to found t t' me me' z is words_is z_is told =
      let all : t'.words ≡ count (t'.slots - m) + m = is.2 in
      let place_is : (words + place) - count (t'.slots - m) ≡ place = omega arith in (
        told.0,
        told.1,
        told.2,
        subst (λ (x : ℕ × W). then (step m x.0 0 to none) (x.1, []) found (told.0, told.1)) (λ i. (place_is i, ap (λ (y : Sitting X Y V W). y.more.0) z_is i)) told.3,
        subst (λ (v : V). tells v found told.0) (ap (λ (y : Sitting X Y V W). y.me.0) z_is) told.4,
      )

  -- it met 0: the place's slot is on top
  pub took : (id place words to found : ℕ) (t t' : TableId) (me me' : Me (Lot X Y) (V × W)) (z : Sitting X Y V W) → IsLaid count m t' → words ≡ t'.words - m → sitting m t id me ≡ z → IsTake place (told_of_take then m place to z.more.0)
      → TellsTake count m then tells (step t'.slots (words + place) 0 to none) me found me' → found ≡ 0
      → (y : Y) × (u : W) × (me' ≡ ((me.0.0, u), ((t'.slots - m) + place, Second y) ∷ me.1)) × told_of_take then m place to z.more.0 0 (u, (place, y) ∷ []) × tells z.me.0 0 u
  took id place words to found t t' me me' z is words_is z_is one told zero_is =
      let h = take_told id place words to found t t' me me' z is words_is z_is told in let got = (one found (h.0, h.1) h.3).0 zero_is in (
        got.0,
        h.0,
        h.2 ∙ ap (λ (d : List (ℕ × Y)). ((me.0.0, h.0), carried_as Second (t'.slots - m) d ++ me.1)) got.1,
        subst (λ (x : ℕ × List (ℕ × Y)). told_of_take then m place to z.more.0 x.0 (h.0, x.1)) (λ i. (zero_is i, got.1 i)) h.3,
        subst (λ (n : ℕ). tells z.me.0 n h.0) zero_is h.4,
      )

  -- it met another number
  pub took_none : (id place words to found : ℕ) (t t' t'' : TableId) (id' : ℕ) (me me' : Me (Lot X Y) (V × W)) (z : Sitting X Y V W) → IsLaid count m t' → words ≡ t'.words - m → IsWhole count m t me → sitting m t id me ≡ z → t'' ≡ t → id' ≡ id
      → IsTake place (told_of_take then m place to z.more.0) → TellsTake count m then tells (step t'.slots (words + place) 0 to none) me found me' → ¬ (found ≡ 0)
      → KeepsFirst z (sitting m t'' id' me') × (told_of_take then m place to z.more.0 found (me'.0.1, []) × tells z.me.0 found me'.0.1 × (seconds_in (t''.slots - m) me'.1 ≡ z.more.1)) × IsWhole count m t'' me'
  took_none id place words to found t t' t'' id' me me' z is words_is whole z_is same id_is one told ne =
      let h = take_told id place words to found t t' me me' z is words_is z_is told in let nothing : h.1 ≡ [] = (one found (h.0, h.1) h.3).1 ne in
      let list : me'.1 ≡ me.1 = ap (λ (x : Me (Lot X Y) (V × W)). x.1) h.2 ∙ ap (λ (d : List (ℕ × Y)). carried_as Second (t'.slots - m) d ++ me.1) nothing in
      let view : me'.0.1 ≡ h.0 = ap (λ (x : Me (Lot X Y) (V × W)). x.0.1) h.2 in
      let back = back_in count m t t'' id id' me me' z (seconds_in (t.slots - m) me.1) whole z_is same id_is (ap (λ (x : Me (Lot X Y) (V × W)). x.0.0) h.2) (list ∙ whole.1) in (
        back.0,
        (
          subst (λ (x : W × List (ℕ × Y)). told_of_take then m place to z.more.0 found (x.0, x.1)) (λ i. (sym view i, nothing i)) h.3,
          subst (tells z.me.0 found) (sym view) h.4,
          back.1 ∙ ap (λ (y : Sitting X Y V W). y.more.1) z_is,
        ),
        back.2,
      )

module _ {X Y : Type 0} where
  put_after : (n slot place : ℕ) (c : List (ℕ × X)) (d : List (ℕ × Y)) (l : List (ℕ × Lot X Y)) (y : Y) → l ≡ carried_both n c d → slot ≡ n + place → l ++ (slot, Second y) ∷ [] ≡ carried_both n c (d ++ (place, y) ∷ [])
  put_after n slot place c d l y e slot_is =
      (λ i. e i ++ (slot_is i, Second y) ∷ []) ∙ (append_assoc (carried_as First 0 c) (carried_as Second n d) ((n + place, Second y) ∷ []) ∙ ap (λ (x : List (ℕ × Lot X Y)). carried_as First 0 c ++ x) (sym (carried-append Second n d ((place, y) ∷ []))))

module _ {X Y V W : Type 0} (count : ℕ → ℕ) (m : ℕ) where
  -- the slot on top was filled with this, and turned after all others
  pub put_back_of : (t t' : TableId) (id id' slot place : ℕ) (u : W) (x : Lot X Y) (empty : Y) (me m1 m2 m3 : Me (Lot X Y) (V × W)) (z : Sitting X Y V W) → IsWhole count m t me → sitting m t id me ≡ z → t' ≡ t → id' ≡ id → slot ≡ (t.slots - m) + place
      → m1 ≡ ((me.0.0, u), ((t.slots - m) + place, x) ∷ me.1) → m2 ≡ (m1.0, (slot, Second empty) ∷ rest m1.1) → m3 ≡ (m2.0, turned m2.1)
      → KeepsFirst z (sitting m t' id' m3) × (seconds_in (t'.slots - m) m3.1 ≡ z.more.1 ++ (place, empty) ∷ []) × IsWhole count m t' m3 × (m3.0.1 ≡ u)
  put_back_of t t' id id' slot place u x empty me m1 m2 m3 z whole z_is same id_is slot_is e1 e2 e3 =
      let m2_is : m2 ≡ ((me.0.0, u), (slot, Second empty) ∷ me.1) = e2 ∙ ap (λ (y : Me (Lot X Y) (V × W)). (y.0, (slot, Second empty) ∷ rest y.1)) e1 in
      let m3_is : m3 ≡ ((me.0.0, u), me.1 ++ (slot, Second empty) ∷ []) = e3 ∙ ap (λ (y : Me (Lot X Y) (V × W)). (y.0, turned y.1)) m2_is in
      let d : List (ℕ × Y) = seconds_in (t.slots - m) me.1 in
      let back = back_in count m t t' id id' me m3 z (d ++ (place, empty) ∷ []) whole z_is same id_is (ap (λ (y : Me (Lot X Y) (V × W)). y.0.0) m3_is)
      (ap (λ (y : Me (Lot X Y) (V × W)). y.1) m3_is ∙ put_after (t.slots - m) slot place (firsts_in me.1) d me.1 empty whole.1 slot_is) in
      (back.0, back.1 ∙ ap (λ (y : Sitting X Y V W). y.more.1 ++ (place, empty) ∷ []) z_is, back.2, ap (λ (y : Me (Lot X Y) (V × W)). y.0.1) m3_is)

module _ {X Y : Type 0} where
  abbrev second_or : Y → Lot X Y → Y
  second_or y (First x) = y
  second_or y (Second y') = y'

  abbrev top_or : Lot X Y → List (ℕ × Lot X Y) → Lot X Y
  top_or x [] = x
  top_or x (c ∷ cs) = c.1

  -- the value that came out of the slot on top
  pub came_out : (n slot : ℕ) (y value : Y) (result : Lot X Y) (l others more : List (ℕ × Lot X Y)) → l ≡ (n, Second y) ∷ others → l ≡ (slot, result) ∷ more → result ≡ Second value → value ≡ y
  came_out n slot y value result l others more e e' is =
      let on_top : result ≡ Second y = ap (top_or result) (sym e' ∙ e) in ap (second_or y) (sym is ∙ on_top)

  -- which is none of the first part's
  pub no_first : (n slot : ℕ) (y : Y) (x : X) (result : Lot X Y) (l others more : List (ℕ × Lot X Y)) → l ≡ (n, Second y) ∷ others → l ≡ (slot, result) ∷ more → result ≡ First x → ⊥
  no_first n slot y x result l others more e e' is = let no : Second y ≡ First x = sym (ap (top_or result) (sym e' ∙ e)) ∙ is in cc

  -- the slot on top may be read
  pub on_top : (n slot : ℕ) (y : Y) (l others : List (ℕ × Lot X Y)) → l ≡ (n, Second y) ∷ others → slot ≡ n → (x : Lot X Y) × (l ≡ (slot, x) ∷ rest l)
  on_top n slot y l others e slot_is = (Second y, e ∙ (λ i. (sym slot_is i, Second y) ∷ rest (sym e i)))
