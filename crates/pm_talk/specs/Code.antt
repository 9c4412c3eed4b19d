-- With which code the program ends where not all was asked and answered.
use Rattle.std.specs.Prelude.{ℕ}
use Rattle.pm_talk.specs.declared.fault.Fault.{Fault, TheVariants.{Usage, Start, Input, Line, Refused, LinkEnded, Link, Out, Reply, NoMemory}}

abbrev pub exit_code : Fault → ℕ
exit_code Usage = 2
exit_code (Start reason) = 1
exit_code (Input reason) = 1
exit_code (Line number) = 1
exit_code (Refused port reason) = 1
exit_code LinkEnded = 1
exit_code Link = 1
exit_code Out = 1
exit_code Reply = 1
exit_code NoMemory = 3
