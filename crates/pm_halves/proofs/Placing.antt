-- A step on a word of the second part, at a seat as contracts see it.
use Rattle.std.{proofs.Common.{◌≡◌, ℕ, ◌+◌, ◌-◌, ◌<◌, ◌≤◌, List, [], ◌∷◌, ◌++◌, sym, refl, ap, ◌∙◌, subst, arith}, specs.Prelude.◌==◌}
use mathlib.Core.Option.{none}
use prog.Atomic.{either}
use Rattle.atomic_table.specs.{Table.{State, Me, Step, step, Allows}, Seated.TableId}
use Rattle.pm_halves.{specs.{declared.lot.Lot.{Lot, TheVariants.{First, Second}}, Halves.{Halves, carried_as}, Sitting.{Laid, laid, Sitting, sitting, seconds_in, IsLaid, IsWhole}, Places.{told_of_take, told_of_give, MayTake, MayGive, StaysTiedBy, TellsSecond, TellsTake, TellsGive}}, proofs.{Lifts.on_second, Carried.raised}}

pub counted : (n n' k k' : ℕ) → n ≡ n' → k ≡ k' → n - k ≡ n' - k'
counted n n' k k' e e' = λ i. e i - e' i

module _ {X Y V W K : Type 0} (count : ℕ → ℕ) (m : ℕ) (A : K → State X V → Type 0) (B : K → State Y W → Type 0) (T : List (V × W) → Type 0) (then : Step Y → Me Y W → ℕ → Me Y W → Type 0) (tells : V → ℕ → W → Type 0) where
  abbrev Whole : K → State (Lot X Y) (V × W) → Type 0
  Whole k = Halves First Second count m (A k) (B k) T

  -- At the fields themselves: `held` are the slots of the second part that the step is about, as the table has them in `raw`
  second_here : (id place w a b : ℕ) (t : TableId) (k : K) (me : Me (Lot X Y) (V × W)) (held : List (ℕ × Y)) (raw others : List (ℕ × Lot X Y)) (f : ℕ → ℕ) → IsLaid count m t → w ≡ (t.words - m) + place → place < m → seconds_in (t.slots - m) raw ≡ held
      → Allows (B k) m id (me.0.1, held) place f (λ found. then (step m place a b none) (me.0.1, held) found)
      → StaysTiedBy A B T (laid m t k) (sitting m t id me) (λ found. then (step m place a b none) (me.0.1, held) found) (tells me.0.0)
      → (w < t.words) × Allows (Whole k) t.slots id (me.0, carried_as Second (t.slots - m) held ++ others) w f (λ found. TellsSecond count m then tells raw others (step t.slots w a b none) me.0 found)
  second_here id place w a b t k me held raw others f is w_is near held_is may ties =
      let n : ℕ = t.slots - m in let l : m ≤ t.slots = is.1 in let words : t.words ≡ count n + m = is.2 in
      let total : n + m ≡ t.slots = omega arith in let at : w ≡ count n + place = omega arith in let place_is : place ≡ w - count n = omega arith in
      let so : ◌≡◌ {A = ℕ × List (ℕ × Y)} (place, held) (w - count n, seconds_in n raw) = λ i. (place_is i, sym held_is i) in (
        omega arith,
        on_second First Second count m (A k) (B k) T n t.slots id place w me.0.0 me.0.1 held others f (λ found. then (step m (w - count n) a b none) (me.0.1, seconds_in n raw) found) (tells me.0.0)
            (subst (λ (x : ℕ × List (ℕ × Y)). Allows (B k) m id (me.0.1, held) place f (λ found. then (step m x.0 a b none) (me.0.1, x.1) found)) so may) total at
            (λ l' s views r is' tied seat found u' c' r' is'' told. ties l' s views r is' tied seat found (u', c') r' is'' (subst (λ (x : ℕ × List (ℕ × Y)). then (step m x.0 a b none) (me.0.1, x.1) found (u', c')) (sym so) told)),
      )

  -- what the take of the whole table asks, by what a call asks
  pub take_of : (id place words to : ℕ) (t t' : TableId) (k : K) (me : Me (Lot X Y) (V × W)) (l : Laid K) (z : Sitting X Y V W) → IsLaid count m t' → words ≡ t'.words - m → IsWhole count m t me → laid m t' k ≡ l → sitting m t id me ≡ z
      → z.table ≡ l.table → MayTake B m l.key z.id z.more.0 place to (told_of_take then m place to z.more.0) → StaysTiedBy A B T l z (told_of_take then m place to z.more.0) (tells z.me.0)
      → (t ≡ t') × (words + place < t'.words) × Allows (Whole k) t'.slots id me (words + place) (λ n. either (n == 0) to n) (λ found. TellsTake count m then tells (step t'.slots (words + place) 0 to none) me found)
  take_of id place words to t t' k me l z is words_is whole l_is z_is table may ties =
      let same : t ≡ t' = raised count m t t' whole.0 is ((ap (λ (y : Sitting X Y V W). y.table) z_is ∙ table) ∙ ap (λ (y : Laid K). y.table) (sym l_is)) in
      let both : ◌≡◌ {A = Laid K × Sitting X Y V W} (l, z) (laid m t' k, sitting m t' id me) = λ u. (sym l_is u, (sym z_is ∙ ap (λ (y : TableId). sitting m y id me) same) u) in
      let may' = subst (λ (y : Laid K × Sitting X Y V W). MayTake B m y.0.key y.1.id y.1.more.0 place to (told_of_take then m place to y.1.more.0)) both may in
      let here = second_here id place (words + place) 0 to t' k me [] [] me.1 (λ n. either (n == 0) to n) is (ap (λ (x : ℕ). x + place) words_is) may'.0 refl may'.1
      (subst (λ (y : Laid K × Sitting X Y V W). StaysTiedBy A B T y.0 y.1 (told_of_take then m place to y.1.more.0) (tells y.1.me.0)) both ties) in
      (same, here.0, here.1)

  -- and the give, at a seat that has the place's slot on top with the value in it
  pub give_of : (id id' place words : ℕ) (value : Y) (t t' : TableId) (k : K) (me me' : Me (Lot X Y) (V × W)) (others : List (ℕ × Lot X Y)) (l : Laid K) (z : Sitting X Y V W) → IsLaid count m t' → words ≡ t'.words - m → IsWhole count m t me → laid m t' k ≡ l → sitting m t id me ≡ z
      → z.table ≡ l.table → MayGive B m l.key z.id z.more.0 place value (told_of_give then m place z.more.0 value) → StaysTiedBy A B T l z (told_of_give then m place z.more.0 value) (tells z.me.0)
      → id' ≡ id → me' ≡ (me.0, ((t.slots - m) + place, Second value) ∷ others)
      → (words + place < t'.words) × Allows (Whole k) t'.slots id' me' (words + place) (λ _. 0) (λ found. TellsGive count m then tells (step t'.slots (words + place) 0 0 none) me' found)
  give_of id id' place words value t t' k me me' others l z is words_is whole l_is z_is table may ties id_is me_is =
      let same : t ≡ t' = raised count m t t' whole.0 is ((ap (λ (y : Sitting X Y V W). y.table) z_is ∙ table) ∙ ap (λ (y : Laid K). y.table) (sym l_is)) in
      let both : ◌≡◌ {A = Laid K × Sitting X Y V W} (l, z) (laid m t' k, sitting m t' id me) = λ u. (sym l_is u, (sym z_is ∙ ap (λ (y : TableId). sitting m y id me) same) u) in
      let may' = subst (λ (y : Laid K × Sitting X Y V W). MayGive B m y.0.key y.1.id y.1.more.0 place value (told_of_give then m place y.1.more.0 value)) both may in
      let n : ℕ = t'.slots - m in let held : ◌≡◌ {A = List (ℕ × Y)} (((n + place) - n, value) ∷ []) ((place, value) ∷ []) = λ i. ((let e : (n + place) - n ≡ place = omega arith in e) i, value) ∷ [] in
      let here = second_here id place (words + place) 0 0 t' k me ((place, value) ∷ []) ((n + place, Second value) ∷ []) others (λ _. 0) is (ap (λ (x : ℕ). x + place) words_is) may'.0 held may'.1
      (subst (λ (y : Laid K × Sitting X Y V W). StaysTiedBy A B T y.0 y.1 (told_of_give then m place y.1.more.0 value) (tells y.1.me.0)) both ties) in
      let so : me' ≡ (me.0, (n + place, Second value) ∷ others) = me_is ∙ ap (λ (y : TableId). (me.0, ((y.slots - m) + place, Second value) ∷ others)) same in
      (here.0, subst (λ (x : ℕ × Me (Lot X Y) (V × W)). Allows (Whole k) t'.slots x.0 x.1 (words + place) (λ _. 0) (λ found. TellsGive count m then tells (step t'.slots (words + place) 0 0 none) x.1 found)) (λ i. (sym id_is i, sym so i)) here.1)
