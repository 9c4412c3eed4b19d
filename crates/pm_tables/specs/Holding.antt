-- All tables that a commit touches, held one after the other.
use Rattle.std.specs.{Prelude.{◌≡◌, List, fold, map, String, string_bytes}, FinMap.get}
use Rattle.pm_tables.specs.{declared.{fate.Fate.Fate, held.Touched.Touched}, Tables.TableMap, Fates.left_by, Held.{Given, befores, afters, given, IsReady}}

-- what was there can be put back
pub record Holds (before now : TableMap) (touched : List Touched) : Type 0 where
  pub ready : IsReady now (befores touched)
  pub back : fold given now (befores touched) ≡ before

module _ {Z : Type 0} where
  -- what fates leave
  abbrev pub planned : TableMap → List (String Z × Fate) → List Given
  planned before fates = map (λ one. (string_bytes one.0, left_by one.1 (get before (string_bytes one.0)))) fates

  -- each table that has a fate is touched, and what its fate leaves can be put there
  pub record HoldsAll (before : TableMap) (fates : List (String Z × Fate)) (now : TableMap) (touched : List Touched) : Type 0 where
    pub ready : IsReady now (afters touched)
    pub all : afters touched ≡ planned before fates
