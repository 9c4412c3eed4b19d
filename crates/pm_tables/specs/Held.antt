-- The tables that a commit touches, while their rows stand outside the database.
use Rattle.std.specs.{Prelude.{◌≡◌, ℕ, ◌||◌, cond, List, [], ◌∷◌, Option, Some, None, is_some, IsSome, map, string_bytes}, FinMap.{get, empty}}
use Rattle.pm_rows.specs.Fold.{RowMap}
use Rattle.pm_tables.specs.{declared.{fate.Fate.Fate, held.{Held.{Held, TheVariants.{Changed, Replaced}}, Touched.Touched}}, Tables.{TableMap, with_table}, Fates.left_by}

-- the table without the commit and with it, if there is one
abbrev pub before_of : Held → Option RowMap
before_of (Changed prepared) = Some prepared.before
before_of (Replaced before after) = before

abbrev pub after_of : Held → Option RowMap
after_of (Changed prepared) = Some prepared.after
after_of (Replaced before after) = after

-- a name with the table that it gets, or with none
abbrev pub Given : Type 0
Given = List ℕ × Option RowMap

abbrev pub given : TableMap → Given → TableMap
given tables one = with_table tables one.0 one.1

-- what the touched tables are without the commit, and with it
abbrev pub befores : List Touched → List Given
befores touched = map (λ one. (string_bytes one.name, before_of one.held)) touched

abbrev pub afters : List Touched → List Given
afters touched = map (λ one. (string_bytes one.name, after_of one.held)) touched

-- along the list, each name that gets a table has one when it gets it
abbrev pub IsReady : TableMap → List Given → Type 0
IsReady tables [] = Unit {0}
IsReady tables (one ∷ more) = (IsSome one.1 → IsSome (get tables one.0)) × IsReady (given tables one) more

-- while a table is touched it has no rows, and a name that has a table neither before nor after has none
abbrev pub place_of : Held → Option RowMap
place_of held = cond (is_some (before_of held) || is_some (after_of held)) (Some empty) None

-- a table is held, as it is and as its fate leaves it
pub record IsHeld (before : TableMap) (name : List ℕ) (fate : Fate) (now : TableMap) (held : Held) : Type 0 where
  pub before_is : before_of held ≡ get before name
  pub after_is : after_of held ≡ left_by fate (get before name)
  pub now_is : now ≡ with_table before name (place_of held)
