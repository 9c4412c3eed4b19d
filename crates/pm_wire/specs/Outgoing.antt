-- What is to be sent, and the room that was taken ahead for it.
use Rattle.std.specs.Prelude.{ℕ, ◌-◌, List, length}

pub record Outgoing : Type 0 where
  pub bytes : List ℕ
  pub capacity : ℕ

-- how many more bytes can be appended without taking memory
abbrev pub room : Outgoing → ℕ
room o = o.capacity - length o.bytes
