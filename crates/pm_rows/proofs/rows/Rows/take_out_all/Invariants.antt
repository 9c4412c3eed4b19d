use Rattle.std.proofs.Common.{◌≡◌, fold, take}
use Rattle.std.specs.FinMap as map
use Rattle.pm_rows.proofs.rows.Rows.take_out_all.Given as goal

-- the keys so far are taken out
abbrev pub invariant-loop-key : goal.invariant-loop-key
invariant-loop-key l = l.self ≡ fold map.remove l.initial.self (take l.key-index l.keys)
