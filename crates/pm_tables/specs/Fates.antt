-- What becomes of tables by a commit, each by itself.
use Rattle.std.specs.{Prelude.{◌≡◌, ℕ, List, [], ◌∷◌, ◌++◌, Option, Some, None, IsSome, String}, Option.option_map, String.string_cmp, FinMap.{get, empty}, BTreeMap.{BTreeMap, IsOrdered, get_by_text}}
use Rattle.pm_rows.specs.{declared.commit.Change.Change as RowChange, Fold.{RowMap, committed as rows_committed}}
use Rattle.pm_tables.specs.{declared.{change.TableChange.TableChange, fate.Fate.{Fate, TheVariants.{Changed, Made, Gone}}}, Tables.{TableMap, left_of}}

-- what a fate leaves of a table, if there is one
abbrev pub left_by : Fate → Option RowMap → Option RowMap
left_by (Changed changes) table = option_map (λ rows. rows_committed rows changes) table
left_by (Made changes) table = Some (rows_committed empty changes)
left_by Gone table = None

-- a table that is changed is there
abbrev pub Fits : Fate → Option RowMap → Type 0
Fits (Changed changes) table = IsSome table
Fits _ table = Unit {0}

-- the fate that leaves the table as it is
pub record IsFirst (table : Option RowMap) (fate : Fate) : Type 0 where
  pub fits : Fits fate table
  pub left : left_by fate table ≡ table

-- the later fate leaves what the change leaves of what the earlier fate leaves
pub record NotesChange (earlier : Fate) (change : TableChange) (later : Fate) : Type 0 where
  pub fits : (table : Option RowMap) → Fits earlier table → Fits later table
  pub left : (table : Option RowMap) → Fits earlier table → left_by later table ≡ left_of (left_by earlier table) change

-- a fate with one change more of the rows, where there is a table
abbrev pub with_change : Fate → RowChange → Fate
with_change (Changed changes) change = Changed (changes ++ change ∷ [])
with_change (Made changes) change = Made (changes ++ change ∷ [])
with_change Gone change = Gone

-- ---- all tables

-- a table without a fate stays as it is
abbrev pub left_if : Option Fate → Option RowMap → Option RowMap
left_if None table = table
left_if (Some fate) table = left_by fate table

abbrev pub FitsIf : Option Fate → Option RowMap → Type 0
FitsIf None table = Unit {0}
FitsIf (Some fate) table = Fits fate table

module _ {Z : Type 0} where
  -- the fates by which the tables become the others
  pub record AreFates (before after : TableMap) (fates : BTreeMap (String Z) Fate) : Type 0 where
    pub ordered : IsOrdered string_cmp fates
    pub fit : (name : List ℕ) → FitsIf (get_by_text fates name) (get before name)
    pub left : (name : List ℕ) → get after name ≡ left_if (get_by_text fates name) (get before name)
