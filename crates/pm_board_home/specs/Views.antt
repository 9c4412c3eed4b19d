-- What a seat knows of the home, with the words that its takes met; and what its steps there tell.
use Rattle.std.specs.Prelude.{◌≡◌, ℕ, zero, suc, List, [], ◌∷◌, ◌++◌, map, Option, Some, None}
use Rattle.atomic_table.specs.Table.{State, Me}
use Rattle.pm_board_home.specs.declared.views.HomeView.{HomeView}

module _ {W : Type 0} where
  abbrev pub home_view : W → List ℕ → HomeView W
  home_view knows met = record { knows = knows; met = met }

  -- of a seat that hasn't asked for the value
  abbrev pub no_takes : W → HomeView W
  no_takes knows = home_view knows []

  -- a take met this word, and the seat knows that now
  abbrev pub met_more : HomeView W → ℕ → W → HomeView W
  met_more u word knows = home_view knows (u.met ++ word ∷ [])

  -- the seat knows that now, and its takes met what they met
  abbrev pub with_knows : HomeView W → W → HomeView W
  with_knows u knows = home_view knows u.met

  -- what each seat knows
  abbrev pub all_known : List (HomeView W) → List W
  all_known views = map (λ (u : HomeView W). u.knows) views

module _ {Y W : Type 0} where
  abbrev pub bare : State Y (HomeView W) → State Y W
  bare s = record { words = s.words; homes = s.homes; views = all_known s.views }

  -- a home's rule, of these views
  abbrev pub KeptBy : (State Y W → Type 0) → State Y (HomeView W) → Type 0
  KeptBy rule s = rule (bare s)

  -- a take: the value exactly where the word met was 0
  abbrev pub Took : (W → Y → W → Type 0) → HomeView W → ℕ → Me (Option Y) (HomeView W) → Type 0
  Took takes u found now =
      (found ≡ 0 → (x : Y) × (v : W) × (now ≡ (met_more u 0 v, (0, Some x) ∷ [])) × takes u.knows x v)
      × (¬ (found ≡ 0) → now ≡ (met_more u found u.knows, []))

  -- a give, after which the seat knows such a thing
  abbrev pub Gave : (W → Y → W → Type 0) → (W → Type 0) → Me (Option Y) (HomeView W) → Me (Option Y) (HomeView W) → Type 0
  Gave gives then m now =
      (v : W) × (now ≡ (with_knows m.0 v, [])) × then v × ((x : Y) → m.1 ≡ (0, Some x) ∷ [] → gives m.0.knows x v)

  -- the first seat has the empty slot of a new board
  abbrev pub Founded : W → Me (Option Y) (HomeView W) → ℕ → Me (Option Y) (HomeView W) → Type 0
  Founded founding m found now = (found ≡ 0) × (now ≡ (with_knows m.0 founding, (0, None) ∷ []))

  -- who knows this may give this value back, and knows such a thing then
  abbrev pub MayGiveIt : (W → Y → W → Type 0) → (W → Type 0) → W → Y → Type 0
  MayGiveIt gives then u x = (v : W) × gives u x v × then v

module _ {W : Type 0} where
  -- after so many seats were made
  abbrev pub dealt_by : (W → W) → ℕ → W → W
  dealt_by dealt zero u = u
  dealt_by dealt (suc n) u = dealt (dealt_by dealt n u)
