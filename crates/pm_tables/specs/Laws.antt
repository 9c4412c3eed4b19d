-- Laws of databases.
use Rattle.std.specs.{Prelude.{◌≡◌, ℕ, ◌+◌, ◌≤◌, List, sum_by}, FinMap.get}
use Rattle.pm_tables.specs.{declared.change.TableChange.TableChange, Tables.{TableMap, committed, left_at}, Sizes.{change_length, weight}}

-- what a commit leaves under a name is what its changes leave of that table
abbrev pub EachTableByItself : Type 0
EachTableByItself = (tables : TableMap) (changes : List TableChange) (name : List ℕ) → get (committed tables changes) name ≡ left_at name (get tables name) changes

-- a commit adds no more weight than its changes have bytes
abbrev pub CommitsAddTheirWeight : Type 0
CommitsAddTheirWeight = (tables : TableMap) (changes : List TableChange) → weight (committed tables changes) ≤ weight tables + sum_by change_length changes
