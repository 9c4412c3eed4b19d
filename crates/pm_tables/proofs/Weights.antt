-- A commit adds no more weight than its changes have bytes.
use Rattle.std.{proofs.{Common.{◌+◌, ◌≤◌, [], ◌∷◌, Option, Some, None, arith}, lemmas.List.Sums.sum_by-cons}, specs.FinMap.{get}}
use Rattle.pm_rows.{specs.{Fold.RowMap}, proofs.RowLaws.{size-empty, size-insert, size-remove}}
use Rattle.pm_tables.{specs.{declared.change.TableChange.{TableChange, TheVariants.{Put, Del, Create, Drop}}, Tables.{TableMap, name_of, left_of, changed}, Sizes.{change_length, table_weight, weight}, Laws.CommitsAddTheirWeight}, proofs.Sums.{at, sum-with}}

-- what a change leaves of its table weighs at most as much more as the change has bytes
left_weight : (table : Option RowMap) (change : TableChange) → at table_weight (name_of change) (left_of table change) ≤ at table_weight (name_of change) table + change_length change
left_weight (Some rows) (Put table key value) = omega (arith, size-insert rows key value)
left_weight (Some rows) (Del table key) = omega (arith, size-remove rows key)
left_weight (Some rows) (Create table) = omega arith
left_weight (Some rows) (Drop table) = omega arith
left_weight None (Create table) = omega (arith, size-empty)
left_weight None (Put table key value) = omega arith
left_weight None (Del table key) = omega arith
left_weight None (Drop table) = omega arith

changed_weight : (tables : TableMap) (change : TableChange) → weight (changed tables change) ≤ weight tables + change_length change
changed_weight tables change =
    let was = get tables (name_of change) in
    omega (arith, sum-with table_weight tables (name_of change) (left_of was change), left_weight was change)

pub commits_add_their_weight : CommitsAddTheirWeight
commits_add_their_weight tables [] = omega arith
commits_add_their_weight tables (change ∷ changes) =
    omega (arith, changed_weight tables change, commits_add_their_weight (changed tables change) changes, sum_by-cons change_length change changes)
