-- The rule of a home where nothing lies: its word is never 0.
use Rattle.std.specs.Prelude.{◌≡◌, slice_index}
use Rattle.atomic_table.specs.Table.{State}

abbrev pub IsOut : {Y W : Type 0} → State Y W → Type 0
IsOut s = ¬ (slice_index s.words 0 ≡ 0)
