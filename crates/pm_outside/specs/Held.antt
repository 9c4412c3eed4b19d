-- What a disk that is held stands for.
use Rattle.pm_outside.specs.declared.held.Held.{Held}

-- the disk within
abbrev pub held_disk : {D R : Type 0} → Held D R → D
held_disk held = held.disk
