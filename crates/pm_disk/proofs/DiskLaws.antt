-- Laws of counts of faults, and of a file that was written over.
use Rattle.std.proofs.{Common.{ℕ, ◌-◌, ◌≤◌, List, length, arith, length-append}, lemmas.List.{length-take, length-drop}}
use Rattle.pm_disk.specs.{Cause.Rose, Files.overwritten}

-- it rose, also from an earlier moment
pub rose_from : (first mid now : ℕ) → first ≤ mid → Rose mid now → Rose first now
rose_from first mid now le rose = omega (arith, le, rose)

-- and up to a later one
pub rose_further : (first mid now : ℕ) → mid ≤ now → Rose first mid → Rose first now
rose_further first mid now le rose = omega (arith, le, rose)

-- what is written over a file makes it no shorter
pub length-overwritten : (old : List ℕ) (at : ℕ) (bytes : List ℕ) → length old ≤ length (overwritten old at bytes)
length-overwritten old at bytes = simp (length-append, length-take, length-drop) (omega arith)
