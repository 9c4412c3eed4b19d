-- Which calls of an object in memory fail, and how many there were.
use Rattle.std.specs.{Prelude.{ℕ, ◌+◌, ◌-◌, ◌^◌, ◌==◌, min, Bool, List, if◌then◌else◌}, List.list_any}

-- the numbers of the calls that fail, counted from 1, how many calls there were, and how many of them failed
pub record Calls : Type 0 where
  pub failing : List ℕ
  pub made : ℕ
  pub failed : ℕ

-- no call yet
abbrev pub no_calls : List ℕ → Calls
no_calls numbers = record { failing = numbers; made = 0; failed = 0 }

-- one more, up to the last number
abbrev pub one_more : ℕ → ℕ
one_more n = min (n + 1) (2 ^ 64 - 1)

-- whether the next call is among those that fail
abbrev pub is_next_listed : Calls → Bool
is_next_listed calls = list_any (λ n. n == one_more calls.made) calls.failing

-- a call more, which failed or didn't
abbrev pub after_call : Calls → Bool → Calls
after_call calls has_failed = record calls {
  made = one_more calls.made;
  failed = if has_failed then one_more calls.failed else calls.failed;
}
