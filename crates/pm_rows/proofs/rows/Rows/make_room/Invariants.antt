use Rattle.std.proofs.Common.{◌≡◌, fold, take}
use Rattle.pm_rows.proofs.Room.{with_empty}
use Rattle.pm_rows.proofs.rows.Rows.make_room.Given as goal

-- the keys so far have empty texts
abbrev pub invariant-loop-key : goal.invariant-loop-key
invariant-loop-key l = l.self ≡ fold with_empty l.fn.self (take l.key-index l.key-items)
