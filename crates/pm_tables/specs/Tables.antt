-- A database: tables by name, each with its rows, and what changes make of it.
use Rattle.std.specs.{Prelude.{ℕ, cond, List, [], ◌∷◌, Option, Some, None, fold}, declared.cmp.Ordering.Ordering, Ordering.{nat_cmp, eq_by_cmp}, Cmp.Lexicographic.slice_cmp, FinMap.{FinMap, empty, get, insert, remove}}
use Rattle.pm_rows.specs.Fold.{RowMap}
use Rattle.pm_tables.specs.declared.change.TableChange.{TableChange, TheVariants.{Put, Del, Create, Drop}}

-- names go by their bytes
abbrev pub name_cmp : List ℕ → List ℕ → Ordering
name_cmp = slice_cmp nat_cmp

-- tables by name: each name has at most one table
abbrev pub TableMap : Type 0
TableMap = FinMap name_cmp RowMap

-- the name of the table that a change is about
abbrev pub name_of : TableChange → List ℕ
name_of (Put table key value) = table
name_of (Del table key) = table
name_of (Create table) = table
name_of (Drop table) = table

-- what a change leaves of its table, if there is one
abbrev pub left_of : Option RowMap → TableChange → Option RowMap
left_of (Some rows) (Put table key value) = Some (insert rows key value)
left_of (Some rows) (Del table key) = Some (remove rows key)
left_of (Some rows) (Create table) = Some rows
left_of (Some rows) (Drop table) = None
left_of None (Create table) = Some empty
left_of None _ = None

-- tables with this one under a name, or with none there
abbrev pub with_table : TableMap → List ℕ → Option RowMap → TableMap
with_table tables name (Some rows) = insert tables name rows
with_table tables name None = remove tables name

-- a change leaves the other tables as they are
abbrev pub changed : TableMap → TableChange → TableMap
changed tables change = with_table tables (name_of change) (left_of (get tables (name_of change)) change)

-- the tables after the changes of one commit, in order
abbrev pub committed : TableMap → List TableChange → TableMap
committed tables changes = fold changed tables changes

-- ---- a commit, table by table

-- what a list of changes leaves of the table of one name
abbrev pub left_at : List ℕ → Option RowMap → List TableChange → Option RowMap
left_at name table [] = table
left_at name table (change ∷ changes) =
    left_at name (cond (eq_by_cmp name_cmp name (name_of change)) (left_of table change) table) changes
