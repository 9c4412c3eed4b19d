-- The limits that a commit keeps, and values that are short enough, in rows, in a commit and in a reply.
use Rattle.std.specs.{Prelude.{ℕ, ℤ, ◌≤◌, List, length, All}, FinMap.entries}
use Rattle.pm_rows.specs.{Fold.{RowMap, committed}, Limits.{max_changes, max_value_bytes, IsWithinRowLimits}, declared.commit.Change.{Change, TheVariants.{Put, Del}}}
use Rattle.pm_query.specs.declared.item.Item.{Item}
use Rattle.pm_query.specs.declared.item.Item.TheVariants as items

-- the value of a row is short enough
abbrev pub IsShortRow : ℤ × List ℕ → Type 0
IsShortRow row = length row.1 ≤ max_value_bytes

-- and so is that of every row
abbrev pub HasShortRows : RowMap → Type 0
HasShortRows rows = All IsShortRow (entries rows)

-- a change puts no longer value
abbrev pub IsShortChange : Change → Type 0
IsShortChange (Put key value) = length value ≤ max_value_bytes
IsShortChange (Del key) = Unit {0}

-- few changes, each with a value that is short enough
pub record IsWithinCommitLimits (changes : List Change) : Type 0 where
  pub few : length changes ≤ max_changes
  pub short : All IsShortChange changes

-- an item shows no longer value
abbrev pub HasShortValues : Item → Type 0
HasShortValues (items.Rows pairs) = All IsShortRow pairs
HasShortValues _ = Unit {0}

-- rows that keep the limits keep them with this commit made
abbrev pub KeepsRowLimits : RowMap → List Change → Type 0
KeepsRowLimits rows commit = IsWithinRowLimits rows → IsWithinRowLimits (committed rows commit)

-- rows with values that are short enough have such values with this commit made
abbrev pub KeepsShortRows : RowMap → List Change → Type 0
KeepsShortRows rows commit = HasShortRows rows → HasShortRows (committed rows commit)

-- and a reply from them shows such values alone
abbrev pub ShowsShortValues : RowMap → List Item → Type 0
ShowsShortValues rows reply = HasShortRows rows → All HasShortValues reply
