-- The laws of the store in memory.
use Rattle.std.proofs.Common.{◌≡◌, ℕ, ◌≤◌, arith, List, [], ◌++◌}
use Rattle.pm_outside.proofs.AddedLaws.{added_both, added_none}
use Rattle.pm_query.specs.declared.book.BookEntry.{BookEntry}
use Rattle.pm_rows_tests.specs.MemStore.{Goes, Moment}

pub goes_nowhere : (at : Moment) → Goes [] at at
goes_nowhere at = record { notes = added_none at.book; keeps = λ base holds. holds }

pub goes_on : (first second : List BookEntry) (before between now : Moment) → Goes first before between → Goes second between now → Goes (first ++ second) before now
goes_on first second before between now one two = record {
  notes = added_both first second before.book between.book now.book one.notes two.notes;
  keeps = λ base holds. two.keeps base (one.keeps base holds);
}

-- one number
pub same_number : (n : ℕ) → n ≤ n
same_number n = omega arith
