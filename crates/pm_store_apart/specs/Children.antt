-- The children inside a store.
use Rattle.std.specs.Prelude.{◌≡◌, ℕ, cond, nat_eq, nat_lt, ◌&&◌, ◌||◌, List, [], ◌∷◌, ◌++◌, fold, sum_by}
use Rattle.pm_query.specs.{declared.book.BookEntry.BookEntry, Book.{times_after, times_attached}}

-- once, where it is this pid
abbrev pub once : ℕ → ℕ → ℕ
once who pid = cond (nat_eq who pid) 1 0

-- how often a pid is among these
abbrev pub times_in : ℕ → List ℕ → ℕ
times_in who pids = sum_by (once who) pids

-- each child that is inside, but for those that are gone, once
abbrev pub AreOthers : (inside gone others : List ℕ) → Type 0
AreOthers inside gone others = (pid : ℕ) → times_in pid others ≡ cond (nat_lt 0 (times_in pid inside) && nat_eq 0 (times_in pid gone)) 1 0

-- one more of them, unless it is among the gone or among them already
abbrev pub with_other : (others gone : List ℕ) → ℕ → List ℕ
with_other others gone pid = cond (nat_lt 0 (times_in pid gone) || nat_lt 0 (times_in pid others)) others (others ++ pid ∷ [])

-- how often a child is inside after these entries, where it was inside so often before them; a book's own entries, from
-- never on, say how often it is attached
abbrev pub times_behind : List BookEntry → ℕ → ℕ → ℕ
times_behind entries who times = fold (times_after who) times entries

-- each child is attached in the book as often as it is inside
abbrev pub IsAttendedBy : List ℕ → List BookEntry → Type 0
IsAttendedBy inside book = (pid : ℕ) → times_attached book pid ≡ times_in pid inside
