-- A place's slot is brought on top for a give, and what a give tells, at a seat as contracts see it.
use Rattle.std.{proofs.Common.{◌≡◌, ℕ, suc, ◌+◌, ◌-◌, List, [], ◌∷◌, ◌++◌, length, sym, ap, ◌∙◌, subst, arith, append_assoc, length-append}, specs.Prelude.{Some, slice_get, remove}}
use mathlib.Core.Option.{none}
use Rattle.atomic_table.specs.{Table.{Me, Step, step, rest}, Seated.TableId}
use Rattle.pm_halves.{specs.{declared.{lot.Lot.{Lot, TheVariants.{First, Second}}, places.Hand.Hand}, Halves.carried_as, Sitting.{Sitting, sitting, firsts_in, seconds_in, carried_both, IsLaid, IsWhole}, Places.{told_of_give, turned_by, top, IsGive, IsInHand, KeepsFirst, HasGiven, TellsGive}}, proofs.{Carried.back_in, Rotating.{Parted, parted, rotated_by, carried-append, length-carried}}}

module _ {X Y : Type 0} (n : ℕ) (c : List (ℕ × X)) where
  -- all that a seat has but for a slot of the second part, whose others stand before it and after it
  abbrev pub others_of : List (ℕ × Y) → List (ℕ × Y) → List (ℕ × Lot X Y)
  others_of before after = (carried_as Second n after ++ carried_as First 0 c) ++ carried_as Second n before

  turned_up : (firsts i place : ℕ) (y : Y) (d : List (ℕ × Y)) (l : List (ℕ × Lot X Y)) (p : Parted d i (place, y)) → length c ≡ firsts → l ≡ carried_both n c d
      → turned_by i (turned_by firsts l) ≡ (n + place, Second y) ∷ others_of p.before p.after
  turned_up firsts i place y d l p few e =
      let slots : carried_as Second n d ≡ carried_as Second n p.before ++ (n + place, Second y) ∷ carried_as Second n p.after = ap (carried_as Second n) p.whole ∙ carried-append Second n p.before ((place, y) ∷ p.after) in
      let first : turned_by firsts l ≡ carried_as Second n d ++ carried_as First 0 c = ap (turned_by firsts) e ∙ rotated_by firsts (carried_as First 0 c) (carried_as Second n d) (length-carried First 0 c ∙ few) in
      let second : turned_by firsts l ≡ carried_as Second n p.before ++ ((n + place, Second y) ∷ (carried_as Second n p.after ++ carried_as First 0 c)) =
      first ∙ (ap (λ (x : List (ℕ × Lot X Y)). x ++ carried_as First 0 c) slots ∙ append_assoc (carried_as Second n p.before) ((n + place, Second y) ∷ carried_as Second n p.after) (carried_as First 0 c)) in
      ap (turned_by i) second ∙ rotated_by i (carried_as Second n p.before) ((n + place, Second y) ∷ (carried_as Second n p.after ++ carried_as First 0 c)) (length-carried Second n p.before ∙ p.long)

  turned_down : (k : ℕ) (before after : List (ℕ × Y)) → length after ≡ k → turned_by k (others_of before after) ≡ carried_both n c (before ++ after)
  turned_down k before after long =
      ap (turned_by k) (append_assoc (carried_as Second n after) (carried_as First 0 c) (carried_as Second n before))
      ∙ (rotated_by k (carried_as Second n after) (carried_as First 0 c ++ carried_as Second n before) (length-carried Second n after ∙ long)
      ∙ (append_assoc (carried_as First 0 c) (carried_as Second n before) (carried_as Second n after) ∙ ap (λ (x : List (ℕ × Lot X Y)). carried_as First 0 c ++ x) (sym (carried-append Second n before after))))

module _ {X Y V W : Type 0} (count : ℕ → ℕ) (m : ℕ) where
  -- a place's slot is on top, and these are the others of the second part
  pub record Up (t : TableId) (me m2 : Me (Lot X Y) (V × W)) (z : Sitting X Y V W) (h : Hand) : Type 0 where
    pub value : Y
    pub before : List (ℕ × Y)
    pub after : List (ℕ × Y)
    pub on_top : m2 ≡ (me.0, ((t.slots - m) + h.place, Second value) ∷ others_of (t.slots - m) (firsts_in me.1) before after)
    pub is : slice_get z.more.1 h.before ≡ Some (h.place, value)
    pub long : length after ≡ h.after
    pub others : remove z.more.1 h.before ≡ before ++ after

  pub up : (t : TableId) (id : ℕ) (me m1 m2 : Me (Lot X Y) (V × W)) (z : Sitting X Y V W) (h : Hand) → IsWhole count m t me → sitting m t id me ≡ z → IsInHand h z → m1 ≡ (me.0, turned_by h.firsts me.1) → m2 ≡ (m1.0, turned_by h.before m1.1) → Up t me m2 z h
  up t id me m1 m2 z h whole z_is held e1 e2 =
      let n : ℕ = t.slots - m in let d : List (ℕ × Y) = seconds_in n me.1 in
      let d_is : d ≡ z.more.1 = ap (λ (y : Sitting X Y V W). y.more.1) z_is in
      let p : Parted z.more.1 h.before (h.place, held.2.0) = parted z.more.1 h.before (h.place, held.2.0) held.2.1 in
      let all : length z.more.1 ≡ length p.before + suc (length p.after) = ap length p.whole ∙ length-append p.before ((h.place, held.2.0) ∷ p.after) in
      let long : length z.more.1 ≡ h.before + 1 + h.after = held.1 in let first : length p.before ≡ h.before = p.long in record {
        value = held.2.0;
        before = p.before;
        after = p.after;
        on_top = e2 ∙ (ap (λ (x : Me (Lot X Y) (V × W)). (x.0, turned_by h.before x.1)) e1 ∙ ap (λ (l : List (ℕ × Lot X Y)). (me.0, l))
            (turned_up n (firsts_in me.1) h.firsts h.before h.place held.2.0 z.more.1 me.1 p (ap (λ (y : Sitting X Y V W). length y.me.1) z_is ∙ held.0) (whole.1 ∙ ap (carried_both n (firsts_in me.1)) d_is)));
        is = held.2.1;
        long = omega arith;
        others = p.others;
      }

module _ {X Y V W : Type 0} (count : ℕ → ℕ) (m : ℕ) (then : Step Y → Me Y W → ℕ → Me Y W → Type 0) (tells : V → ℕ → W → Type 0) where
  pub gave : (id place words found k : ℕ) (value : Y) (t t' : TableId) (me m3 m4 : Me (Lot X Y) (V × W)) (before after : List (ℕ × Y)) (z : Sitting X Y V W) → IsLaid count m t' → words ≡ t'.words - m → t ≡ t' → sitting m t id me ≡ z → IsGive (told_of_give then m place z.more.0 value)
      → m3 ≡ (me.0, ((t.slots - m) + place, Second value) ∷ others_of (t.slots - m) (firsts_in me.1) before after)
      → TellsGive count m then tells (step t'.slots (words + place) 0 0 none) m3 found m4
      → (u : W) × (m4 ≡ ((me.0.0, u), others_of (t.slots - m) (firsts_in me.1) before after)) × told_of_give then m place z.more.0 value found (u, []) × tells z.me.0 found u
  gave id place words found k value t t' me m3 m4 before after z is words_is same z_is one e told =
      let n : ℕ = t'.slots - m in let all : t'.words ≡ count n + m = is.2 in let place_is : (words + place) - count n ≡ place = omega arith in
      let others : List (ℕ × Lot X Y) = others_of (t.slots - m) (firsts_in me.1) before after in
      let so : m3 ≡ (me.0, (n + place, Second value) ∷ others) = e ∙ ap (λ (y : TableId). (me.0, ((y.slots - m) + place, Second value) ∷ others)) same in
      let held : ◌≡◌ {A = List (ℕ × Y)} (seconds_in n (top m3.1)) ((place, value) ∷ []) = ap (λ (x : Me (Lot X Y) (V × W)). seconds_in n (top x.1)) so ∙ (λ i. ((let e : (n + place) - n ≡ place = omega arith in e) i, value) ∷ []) in
      let view : m3.0.1 ≡ z.more.0 = ap (λ (x : Me (Lot X Y) (V × W)). x.0.1) so ∙ ap (λ (y : Sitting X Y V W). y.more.0) z_is in
      let says : told_of_give then m place z.more.0 value found (told.0, told.1) = subst (λ (x : ℕ × W × List (ℕ × Y)). then (step m x.0 0 0 none) (x.1, x.2) found (told.0, told.1)) (λ i. (place_is i, view i, held i)) told.3 in
      let nothing : told.1 ≡ [] = one found (told.0, told.1) says in (
        told.0,
        told.2 ∙ ((λ i. (((so i).0.0, told.0), carried_as Second n (nothing i) ++ rest (so i).1))),
        subst (λ (d : List (ℕ × Y)). told_of_give then m place z.more.0 value found (told.0, d)) nothing says,
        subst (λ (v : V). tells v found told.0) (ap (λ (x : Me (Lot X Y) (V × W)). x.0.0) so ∙ ap (λ (y : Sitting X Y V W). y.me.0) z_is) told.4,
      )

  -- the others are turned into their order
  pub given : (id id' found : ℕ) (value : Y) (t t' : TableId) (u : W) (me m4 m5 : Me (Lot X Y) (V × W)) (before after : List (ℕ × Y)) (z : Sitting X Y V W) (h : Hand) → IsWhole count m t me → sitting m t id me ≡ z → t' ≡ t → id' ≡ id → length after ≡ h.after → remove z.more.1 h.before ≡ before ++ after
      → m4 ≡ ((me.0.0, u), others_of (t.slots - m) (firsts_in me.1) before after) → m5 ≡ (m4.0, turned_by h.after m4.1)
      → told_of_give then m h.place z.more.0 value found (u, []) → tells z.me.0 found u
      → KeepsFirst z (sitting m t' id' m5) × HasGiven (told_of_give then m h.place z.more.0 value) (tells z.me.0) h.before z.more (m5.0.1, seconds_in (t'.slots - m) m5.1) × IsWhole count m t' m5
  given id id' found value t t' u me m4 m5 before after z h whole z_is same id_is long others e4 e5 says both =
      let m5_is : m5 ≡ ((me.0.0, u), turned_by h.after (others_of (t.slots - m) (firsts_in me.1) before after)) = e5 ∙ ap (λ (x : Me (Lot X Y) (V × W)). (x.0, turned_by h.after x.1)) e4 in
      let view : m5.0.1 ≡ u = ap (λ (x : Me (Lot X Y) (V × W)). x.0.1) m5_is in
      let back = back_in count m t t' id id' me m5 z (before ++ after) whole z_is same id_is (ap (λ (x : Me (Lot X Y) (V × W)). x.0.0) m5_is)
      (ap (λ (x : Me (Lot X Y) (V × W)). x.1) m5_is ∙ turned_down (t.slots - m) (firsts_in me.1) h.after before after long) in (
        back.0,
        (found, subst (λ (w : W). told_of_give then m h.place z.more.0 value found (w, [])) (sym view) says, subst (tells z.me.0 found) (sym view) both, back.1 ∙ sym others),
        back.2,
      )
