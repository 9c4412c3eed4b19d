-- The laws of a home where nothing lies.
use Rattle.std.{proofs.Common.{◌≡◌, ℕ, ◌+◌, ◌==◌, Bool, true, false, List, [], ◌∷◌, slice_index, set, sym, refl, ap, ◌∙◌}, specs.Prelude.Option}
use mathlib.Core.Option.{some}
use lib.Seq.{set-get_or}
use prog.Atomic.{either}
use Rattle.atomic_table.specs.Table as table
use Rattle.atomic_table.{specs.Table.{State, Act, keeps, stepped}, proofs.Lists.exchanged}
use Rattle.pm_board_home.specs.Homes.{HasTaken, IsAlone, IsAtHome, IsOut, TakesByRule, GivesByRule, DealsByRule, GathersByRule, FoundsByRule}
use Rattle.pm_board_home.specs.Nothing as nothing

no_way : false ≡ true → ⊥
no_way e = cc

abbrev has : Bool → Bool
has leads = false

abbrev lends : Bool → Bool
lends leads = false

abbrev leads_ : Bool → Bool
leads_ leads = leads

abbrev stamp : Bool → ℕ
stamp leads = 0

abbrev numbered : Bool → ℕ → Type 0
numbered leads n = Unit {0}

pub starts : (leads_ true ≡ true) × (lends true ≡ false)
starts = (refl, refl)

pub founded : ◌≡◌ {A = ℕ} 1 0 → (has true ≡ true) × (leads_ true ≡ true) × (lends true ≡ false) × numbered true 0
founded e = absurd (cc)

pub dealt_as : (u : Bool) → (has u ≡ has u) × (leads_ u ≡ leads_ u) × (lends u ≡ lends u) × (stamp u ≡ stamp u) × (has false ≡ false)
dealt_as u = (refl, refl, refl, refl, refl)

pub dealt_number : (u : Bool) (n : ℕ) → leads_ u ≡ true → has u ≡ false → numbered u n → numbered u (n + 1) × numbered false n
dealt_number u n lead free number = (tt, tt)

pub gathered_as : (u v : Bool) → (has u ≡ has u) × (leads_ u ≡ leads_ u) × (lends u ≡ lends u) × (stamp u ≡ stamp u) × (has false ≡ false)
gathered_as u v = (refl, refl, refl, refl, refl)

pub gathered_number : (u v : Bool) (n : ℕ) → numbered u n → numbered u n
gathered_number u v n number = number

pub opens : ¬ (◌≡◌ {A = ℕ} (slice_index (1 ∷ []) 0) 0)
opens e = absurd (cc)

module _ {Y : Type 0} where
  abbrev stamp_of : Y → ℕ
  stamp_of x = 1

  abbrev never : Bool → Y → Bool → Type 0
  never u x v = ⊥

  pub founds : ◌≡◌ {A = ℕ} 1 0 → FoundsByRule {Y = Y} nothing.IsOut true true
  founds e = absurd (cc)

  pub alone : IsAlone {Y = Y} nothing.IsOut has leads_ lends stamp
  alone s r i j a b at at' apart yes_ lead = absurd (no_way yes_)

  pub at_home : IsAtHome {Y = Y} nothing.IsOut leads_ lends stamp stamp_of
  at_home s r j b at lead lent = absurd (no_way lent)

  pub out : IsOut {Y = Y} nothing.IsOut has leads_ lends
  out s r j b at lead lent = absurd (no_way lent)

  stays_out : (s : State (Option Y) Bool) (id : ℕ) (v : Bool) → nothing.IsOut s → nothing.IsOut (stepped s 0 (slice_index s.words 0) id [] v keeps)
  stays_out s id v r e = r (ap (λ (z : List ℕ). slice_index z 0) (sym (set-get_or s.words 0 0)) ∙ e)

  -- nobody meets 0
  pub take : TakesByRule {Y = Y} nothing.IsOut has numbered never
  take id n u number free s r wide at small =
      exchanged (slice_index s.words 0) 0 (n + 1)
      (λ z. (w : Bool) × (a : Act (Option Y)) × table.Valid s.homes [] a × nothing.IsOut (stepped s 0 z id [] w a) × HasTaken never u (slice_index s.words 0) (w, table.carried_after [] a))
      (λ zero_is. absurd (r zero_is))
      (λ ne. (u, keeps, tt, stays_out s id u r, ((λ zero_is. absurd (ne zero_is)), (λ _. refl))))

  pub taken : (u v : Bool) (x : Y) → never u x v → (has v ≡ true) × (leads_ v ≡ leads_ u) × (lends v ≡ false) × (stamp v ≡ stamp_of x)
  taken u v x t = absurd t

  pub taken_number : (u v : Bool) (x : Y) (n : ℕ) → never u x v → numbered u n → numbered v n
  taken_number u v x n t number = tt

  pub taken_stamp : (u v : Bool) (x : Y) → never u x v → lends u ≡ true → stamp_of x ≡ stamp u
  taken_stamp u v x t lent = absurd t

  pub give : GivesByRule {Y = Y} nothing.IsOut has never
  give id u v x yes_ g = absurd g

  pub given : (u v : Bool) (x : Y) → never u x v → (has v ≡ false) × (leads_ v ≡ leads_ u) × (leads_ u ≡ true → lends v ≡ true)
  given u v x g = absurd g

  pub given_number : (u v : Bool) (x : Y) (n : ℕ) → never u x v → numbered u n → numbered v n
  given_number u v x n g number = tt

  pub given_stamp : (u v : Bool) (x : Y) → never u x v → lends v ≡ true → stamp v ≡ stamp_of x
  given_stamp u v x g lent = absurd g

  pub deal : DealsByRule {Y = Y} nothing.IsOut has leads_ (λ leads. leads) (λ _. false)
  deal id u lead free s r at = r

  pub gather : GathersByRule {Y = Y} nothing.IsOut leads_ (λ _ _. Unit {0}) (λ leads _. leads) false
  gather id other u v lead may s r at apart at' = r
