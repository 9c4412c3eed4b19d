-- What the chronicles in memory stand for.
use Rattle.std.specs.Prelude.{ℕ, List}
use Rattle.pm_outside.specs.declared.{kept.Kept.Kept, forgotten.Forgotten.Forgotten}

-- all entries, in the order in which they were noted
abbrev pub kept_entries : {E : Type 0} → Kept E → List E
kept_entries kept = kept.entries.items

-- for how many entries room was reserved and not used yet
abbrev pub kept_room : {E : Type 0} → Kept E → ℕ
kept_room kept = kept.room

-- the same of a chronicle that keeps nothing
abbrev pub forgotten_room : Forgotten → ℕ
forgotten_room forgotten = forgotten.room
