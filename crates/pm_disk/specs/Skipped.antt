-- Counts of a disk over another one, which some calls don't reach.
use Rattle.std.specs.Prelude.{ℕ, ◌+◌, ◌-◌, ◌^◌, min, max}

-- Where the disk within stood after so many calls: they all reached it up to the first that failed, then it stood
-- still while so many were skipped, and from there on it has had as many less.
abbrev pub inner_tick : ℕ → ℕ → ℕ → ℕ
inner_tick first skipped tick = max (min tick first) (tick - skipped)

-- a count with these more, up to the last number
abbrev pub added : ℕ → ℕ → ℕ
added count more = max count (min (count + more) (2 ^ 64 - 1))
