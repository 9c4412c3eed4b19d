-- A home's steps, at seats that know which words their takes met.
use Rattle.std.{proofs.{Common.{◌≡◌, ℕ, zero, suc, ◌+◌, ◌==◌, Bool, true, false, List, [], ◌∷◌, ◌++◌, map, set, slice_index, sym, refl, ap, ◌∙◌, subst, arith}, lemmas.List.map-append}, specs.Prelude.{Option, Some, None}}
use mathlib.Core.Option.{some}
use prog.Atomic.{either}
use lib.ListN.{get_elem?}
use Rattle.atomic_table.{specs.Table.{State, Me, homes_after, carried_after, Allows, Splits, Joins}, proofs.Lists.at_map}
use Rattle.pm_board_home.specs.{declared.views.HomeView.HomeView, Homes.{HasTaken, IsAlone, IsOut, TakesByRule, GivesByRule, FoundsByRule}, Views.{home_view, no_takes, met_more, with_knows, all_known, bare, KeptBy, Took, Gave, Founded, MayGiveIt, dealt_by}}

map_set : {A B : Type 0} (f : A → B) (l : List A) (i : ℕ) (a : A) → map f (set l i a) ≡ set (map f l) i (f a)
map_set f [] i a = refl
map_set f (x ∷ xs) zero a = refl
map_set {A} {B} f (x ∷ xs) (suc i) a = ap (λ (l : List B). f x ∷ l) (map_set f xs i a)

abbrev value_or : {Y : Type 0} → Y → List (ℕ × Option Y) → Y
value_or y [] = y
value_or y ((k, None) ∷ cs) = y
value_or y ((k, Some x) ∷ cs) = x

module _ {W : Type 0} where
  known_set : (views : List (HomeView W)) (id : ℕ) (u : HomeView W) → all_known (set views id u) ≡ set (all_known views) id u.knows
  known_set views id u = map_set (λ (z : HomeView W). z.knows) views id u

  pub known_at : (views : List (HomeView W)) (id : ℕ) (u : HomeView W) → get_elem? views id ≡ some u → get_elem? (all_known views) id ≡ some u.knows
  known_at views id u at = at_map (λ (z : HomeView W). z.knows) views id u at

module _ {Y V : Type 0} (holds : State Y V → Type 0) where
  -- a step tells less as well
  weaker : (slots id i : ℕ) (me : Me Y V) (f : ℕ → ℕ) (then less : ℕ → Me Y V → Type 0) → ((found : ℕ) (now : Me Y V) → then found now → less found now) → Allows holds slots id me i f then → Allows holds slots id me i f less
  weaker slots id i me f then less by may s kept long at small =
      let r = may s kept long at small in (r.0, r.1, r.2, r.3, by (slice_index s.words i) (r.0, carried_after me.1 r.1) r.4)

module _ {Y W : Type 0} (rule : State Y W → Type 0) where
  -- a step by the home's rule, behind which the seat's takes have met these words
  lifted : (slots id i : ℕ) (u : HomeView W) (c : List (ℕ × Y)) (f : ℕ → ℕ) (then : ℕ → Me Y W → Type 0) (met : ℕ → List ℕ) → Allows rule slots id (u.knows, c) i f then
      → Allows (KeptBy rule) slots id (u, c) i f (λ found now. (now.0.met ≡ met found) × then found (now.0.knows, now.1))
  lifted slots id i u c f then met may s kept long at small =
      let r = may (bare s) kept long (known_at s.views id u at) small in
      let found : ℕ = slice_index s.words i in let u' : HomeView W = home_view r.0 (met found) in (
        u',
        r.1,
        r.2,
        subst (λ (z : List W). rule record { words = set s.words i (f found); homes = homes_after s.homes c r.1; views = z }) (sym (known_set s.views id u')) r.3,
        (refl, r.4),
      )

  pub split_as : (id : ℕ) (u left right : HomeView W) → Splits rule id u.knows left.knows right.knows → Splits (KeptBy rule) id u left right
  split_as id u left right may s kept at =
      subst (λ (z : List W). rule record { words = s.words; homes = s.homes; views = z })
      (sym (map-append (λ (z : HomeView W). z.knows) (set s.views id left) (right ∷ []) ∙ ap (λ (z : List W). z ++ right.knows ∷ []) (known_set s.views id left)))
      (may (bare s) kept (known_at s.views id u at))

  pub join_as : (id other : ℕ) (u v both spent : HomeView W) → Joins rule id u.knows other v.knows both.knows spent.knows → Joins (KeptBy rule) id u other v both spent
  join_as id other u v both spent may s kept at apart at' =
      subst (λ (z : List W). rule record { words = s.words; homes = s.homes; views = z })
      (sym (known_set (set s.views id both) other spent ∙ ap (λ (z : List W). set z other spent.knows) (known_set s.views id both)))
      (may (bare s) kept (known_at s.views id u at) apart (subst (λ (z : List W). get_elem? z other ≡ some v.knows) (known_set s.views id both) (known_at (set s.views id both) other v at')))

module _ {Y W : Type 0} (rule : State (Option Y) W → Type 0) where
  pub takes_as : (has : W → Bool) (numbered : W → ℕ → Type 0) (takes : W → Y → W → Type 0) → TakesByRule rule has numbered takes → (id n : ℕ) (u : HomeView W) → numbered u.knows n → has u.knows ≡ false
      → Allows (KeptBy rule) 1 id (u, []) 0 (λ w. either (w == 0) (n + 1) w) (Took takes u)
  takes_as has numbered takes law id n u number free =
      weaker (KeptBy rule) 1 id 0 (u, []) (λ w. either (w == 0) (n + 1) w) (λ found now. (now.0.met ≡ u.met ++ found ∷ []) × HasTaken takes u.knows found (now.0.knows, now.1)) (Took takes u)
      (λ found now told. (
        (λ zero_is. let t = told.1.0 zero_is in (t.0, t.1, (λ i. (home_view (t.2 i).0 ((told.0 ∙ ap (λ (w : ℕ). u.met ++ w ∷ []) zero_is) i), (t.2 i).1)), t.3)),
        (λ ne. let t = told.1.1 ne in (λ i. (home_view (t i).0 (told.0 i), (t i).1))),
      ))
      (lifted rule 1 id 0 u [] (λ w. either (w == 0) (n + 1) w) (HasTaken takes u.knows) (λ found. u.met ++ found ∷ []) (law id n u.knows number free))

  pub gives_as : (has : W → Bool) (gives : W → Y → W → Type 0) → GivesByRule rule has gives → (then : W → Type 0) (id : ℕ) (u : HomeView W) (x : Y) → has u.knows ≡ true → MayGiveIt gives then u.knows x
      → Allows (KeptBy rule) 1 id (u, (0, Some x) ∷ []) 0 (λ _. 0) (λ _ now. Gave gives then (u, (0, Some x) ∷ []) now)
  gives_as has gives law then id u x yes_ may =
      weaker (KeptBy rule) 1 id 0 (u, (0, Some x) ∷ []) (λ _. 0) (λ _ now. (now.0.met ≡ u.met) × (◌≡◌ {A = Me (Option Y) W} (now.0.knows, now.1) (may.0, []))) (λ _ now. Gave gives then (u, (0, Some x) ∷ []) now)
      (λ found now told. (may.0, (λ i. (home_view (told.1 i).0 (told.0 i), (told.1 i).1)), may.2, (λ y e. subst (λ (z : Y). gives u.knows z may.0) (ap (value_or x) e) may.1)))
      (lifted rule 1 id 0 u ((0, Some x) ∷ []) (λ _. 0) (λ _ now. now ≡ (may.0, [])) (λ _. u.met) (law id u.knows may.0 x yes_ may.1))

  pub founds_as : (first founding : W) → FoundsByRule rule first founding → (id : ℕ) → Allows (KeptBy rule) 1 id (no_takes first, []) 0 (λ w. either (w == 0) 1 w) (λ found now. Founded founding (no_takes first, []) found now)
  founds_as first founding law id =
      weaker (KeptBy rule) 1 id 0 (no_takes first, []) (λ w. either (w == 0) 1 w) (λ found now. (now.0.met ≡ []) × ((found ≡ 0) × (◌≡◌ {A = Me (Option Y) W} (now.0.knows, now.1) (founding, (0, None) ∷ [])))) (λ found now. Founded founding (no_takes first, []) found now)
      (λ found now told. (told.1.0, (λ i. (home_view (told.1.1 i).0 (told.0 i), (told.1.1 i).1))))
      (lifted rule 1 id 0 (no_takes first) [] (λ w. either (w == 0) 1 w) (λ found now. (found ≡ 0) × (now ≡ (founding, (0, None) ∷ []))) (λ _. []) (law id))

  -- beside a seat that has the value the supervisor's lends it, and knows its generation
  pub alone_as : (has leads lends : W → Bool) (stamp : W → ℕ) → IsAlone rule has leads lends stamp → (s : State (Option Y) (HomeView W)) → KeptBy rule s → (i j : ℕ) (a b : HomeView W) → get_elem? s.views i ≡ some a → get_elem? s.views j ≡ some b → ¬ (i ≡ j)
      → has a.knows ≡ true → leads b.knows ≡ true → (lends b.knows ≡ true) × (stamp a.knows ≡ stamp b.knows)
  alone_as has leads lends stamp law s kept i j a b at at' apart = law (bare s) kept i j a.knows b.knows (known_at s.views i a at) (known_at s.views j b at') apart

module _ {Y W : Type 0} where
  -- a take tells the slot of the home exactly where the word was 0
  pub is_take : (takes : W → Y → W → Type 0) (u : HomeView W) (found : ℕ) (now : Me (Option Y) (HomeView W)) → Took takes u found now → (found ≡ 0 → (y : Option Y) × (now.1 ≡ (0, y) ∷ [])) × (¬ (found ≡ 0) → now.1 ≡ [])
  is_take takes u found now told = (
    (λ zero_is. let t = told.0 zero_is in (Some t.0, ap (λ (m : Me (Option Y) (HomeView W)). m.1) t.2)),
    (λ ne. ap (λ (m : Me (Option Y) (HomeView W)). m.1) (told.1 ne)),
  )

  -- and a give leaves none
  pub is_give : (gives : W → Y → W → Type 0) (then : W → Type 0) (u : HomeView W) (x : Y) (found : ℕ) (now : Me (Option Y) (HomeView W)) → Gave gives then (u, (0, Some x) ∷ []) now → now.1 ≡ []
  is_give gives then u x found now told = ap (λ (m : Me (Option Y) (HomeView W)). m.1) told.1

module _ {W : Type 0} where
  -- after one seat more
  pub dealt_one : (dealt : W → W) (n : ℕ) (u : W) → dealt_by dealt (n + 1) u ≡ dealt (dealt_by dealt n u)
  dealt_one dealt n u = ap (λ (k : ℕ). dealt_by dealt k u) (let e : n + 1 ≡ suc n = omega arith in e)

  pub dealt_has : (has : W → Bool) (dealt : W → W) → ((u : W) → has (dealt u) ≡ has u) → (n : ℕ) (u : W) → has (dealt_by dealt n u) ≡ has u
  dealt_has has dealt same zero u = refl
  dealt_has has dealt same (suc n) u = same (dealt_by dealt n u) ∙ dealt_has has dealt same n u
