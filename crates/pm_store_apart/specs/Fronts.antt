-- How far a log has come: two numbers, which are equal where nothing is staged.
use Rattle.std.specs.Prelude.{ℕ}
use Rattle.pm_store_apart.specs.declared.live.Live.{Live}

-- how many commits were taken, flushed or staged
abbrev pub whole_of : Live → ℕ
whole_of live = live.front

-- how many of them are flushed
abbrev pub flushed_of : Live → ℕ
flushed_of live = live.log.count
