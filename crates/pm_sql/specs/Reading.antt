-- Steps of reading from left to right, which end at the first fault.
use Rattle.std.specs.{Prelude.{◌≡◌, ℕ, List, length, Option, Some, None, Result, Ok, Err}, Borrow.Bor, declared.string.String.String, String.string_bytes}
use Rattle.pm_sql.specs.{declared.fault.{Kind.{Kind, TheVariants.Syntax}, Fault.Fault, Stop.Stop}, Tokens.{skipped, behind_word, behind_mark}}
use Rattle.pm_sql.specs.declared.fault.Stop.TheVariants as stops

-- one step, and then the next on what it found
infixl 10 ◌>>=◌
abbrev pub ◌>>=◌ : {A B : Type 0} → Result A Fault → (A → Result B Fault) → Result B Fault
(Ok x) >>= f = f x
(Err e) >>= f = Err e

-- what a function returned, seen by view, is what reading gives, unless memory was short
abbrev pub Fails : {Y : Type 0} → Stop → Result Y Fault → Type 0
Fails stops.NoMemory read = Unit {0}
Fails (stops.Fault fault) read = read ≡ Err fault

abbrev pub Gives : {X Y : Type 0} → (X → Y) → Result X Stop → Result Y Fault → Type 0
Gives view (Ok x) read = read ≡ Ok (view x)
Gives view (Err stop) read = Fails stop read

-- a fault of this kind where `here` begins; its place is told by how much of the text is left there
abbrev pub fault_at : Kind → List ℕ → Fault
fault_at kind here = record { kind = kind; left = length here }

-- what was found, or else a syntax fault
abbrev pub found_or_fault : {A : Type 0} → Option A → List ℕ → Result A Fault
found_or_fault None here = Err (fault_at Syntax here)
found_or_fault (Some x) here = Ok x

-- this word comes next: what comes after it
unfoldable pub word_at : List ℕ → List ℕ → Result (List ℕ) Fault
word_at word input = found_or_fault (behind_word word (skipped input)) (skipped input)

-- this character comes next
unfoldable pub mark_at : ℕ → List ℕ → Result (List ℕ) Fault
mark_at mark input = found_or_fault (behind_mark mark (skipped input)) (skipped input)

-- a string that was found, as its bytes, and what comes after it
abbrev pub contents_of : {Z : Type 0} → Option (String Z × Bor (List ℕ)) → Option (List ℕ × List ℕ)
contents_of None = None
contents_of (Some found) = Some (string_bytes found.0, found.1.now)
