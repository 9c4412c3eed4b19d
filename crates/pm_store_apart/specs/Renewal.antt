-- What a renewal notes.
use Rattle.std.specs.Prelude.{ℕ, List, [], ◌∷◌, ◌++◌, map}
use Rattle.pm_query.specs.declared.book.BookEntry.{BookEntry, TheVariants.{Gone, Opened}}

-- children are gone, and the next generation opens
abbrev pub renewal : List ℕ → ℕ → List BookEntry
renewal pids generation = map Gone pids ++ Opened generation ∷ []
