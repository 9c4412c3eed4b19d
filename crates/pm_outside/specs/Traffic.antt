-- What passes on a link, and what one read or one write adds to it.
use Rattle.std.specs.Prelude.{◌≡◌, ℕ, ◌≤◌, Bool, true, false, ◌||◌, List, [], ◌++◌, take, Option, None, Some, option_map}
use Rattle.pm_outside.specs.declared.link.{Got.{Got, TheVariants.{Bytes, NotYet, End, Failed}}, Put.{Put, TheVariants.{Count, NotYet as PutNotYet, Failed as PutFailed}}}

-- all bytes that came in and went out, whether the end was given, whether the last read found nothing yet, whether a read or a
-- write has failed, and whether a call was made after a failed one, or a read after the end
pub record Traffic : Type 0 where
  pub came_in : List ℕ
  pub went_out : List ℕ
  pub ended : Bool
  pub waits : Bool
  pub failed : Bool
  pub went_on : Bool

-- nothing has passed
abbrev pub no_traffic : Traffic
no_traffic = record { came_in = []; went_out = []; ended = false; waits = false; failed = false; went_on = false }

-- nothing has passed, or the link doesn't tell
abbrev pub IsFresh : Option Traffic → Type 0
IsFresh None = Unit {0}
IsFresh (Some t) = t ≡ no_traffic

-- the bytes each way, where the link tells
abbrev pub came_in_of : Option Traffic → Option (List ℕ)
came_in_of traffic = option_map (λ t. t.came_in) traffic

abbrev pub went_out_of : Option Traffic → Option (List ℕ)
went_out_of traffic = option_map (λ t. t.went_out) traffic

-- whether a write, and whether a read, has gone on once it is made
abbrev pub goes_on_writing : Traffic → Bool
goes_on_writing t = t.went_on || t.failed

abbrev pub goes_on_reading : Traffic → Bool
goes_on_reading t = goes_on_writing t || t.ended

-- a read that answered so, with these bytes in its slice
abbrev pub after_read : Traffic → Got → List ℕ → Traffic
after_read t (Bytes count) into = record t { came_in = t.came_in ++ take count into; waits = false; went_on = goes_on_reading t }
after_read t NotYet into = record t { waits = true; went_on = goes_on_reading t }
after_read t End into = record t { ended = true; waits = false; went_on = goes_on_reading t }
after_read t Failed into = record t { waits = false; failed = true; went_on = goes_on_reading t }

-- whether a write failed
abbrev pub is_put_failed : Put → Bool
is_put_failed (Count count) = false
is_put_failed PutNotYet = false
is_put_failed PutFailed = true

-- bytes after those that stand, as many as a write took
abbrev pub put_behind : List ℕ → Put → List ℕ → List ℕ
put_behind stands (Count count) from = stands ++ take count from
put_behind stands PutNotYet from = stands
put_behind stands PutFailed from = stands

-- a write that answered so
abbrev pub after_write : Traffic → Put → List ℕ → Traffic
after_write t put from = record t {
  went_out = put_behind t.went_out put from;
  failed = is_put_failed put || t.failed;
  went_on = goes_on_writing t;
}

-- a read gives at least one byte, and no more than its slice holds
abbrev pub GotWithin : Got → ℕ → Type 0
GotWithin (Bytes count) room = (1 ≤ count) × (count ≤ room)
GotWithin NotYet room = Unit {0}
GotWithin End room = Unit {0}
GotWithin Failed room = Unit {0}

-- a write takes at least one byte, and no more than it was given
abbrev pub PutWithin : Put → ℕ → Type 0
PutWithin (Count count) given = (1 ≤ count) × (count ≤ given)
PutWithin PutNotYet given = Unit {0}
PutWithin PutFailed given = Unit {0}

-- how often a write answered that nothing was taken yet
abbrev pub asks_again : Put → ℕ
asks_again (Count count) = 0
asks_again PutNotYet = 1
asks_again PutFailed = 0

-- a write took some, or failed
abbrev pub IsPutDone : Put → Type 0
IsPutDone (Count count) = Unit {0}
IsPutDone PutNotYet = ⊥
IsPutDone PutFailed = Unit {0}
