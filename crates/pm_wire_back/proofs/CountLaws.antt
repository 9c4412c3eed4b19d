-- A message whose values are what they can be has a count that is.
use Rattle.pm_wire.specs.Backend.{BackMessage, Auth, Param, Key, Ready, Fields, Pair, One, Complete, Empty, Fault, Notice, HasCount, HasValues}

pub has_count : (m : BackMessage) → HasValues m → HasCount m
has_count Auth values = tt
has_count (Param name value) values = tt
has_count (Key pid key) values = tt
has_count Ready values = tt
has_count (Fields shape) values = tt
has_count (Pair key value) values = tt
has_count (One text) values = tt
has_count (Complete tag) values = values
has_count Empty values = tt
has_count (Fault s) values = tt
has_count (Notice s) values = tt
