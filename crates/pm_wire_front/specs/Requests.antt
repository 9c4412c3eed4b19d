-- What a client sends (Message Flow, Simple Query; Message Formats).
use Rattle.std.specs.{Prelude.{ℕ, ◌-◌, ◌^◌, ◌≤◌, List, [], ◌∷◌, ◌++◌, length, codes}, List.flat_map}
use Rattle.pm_wire.specs.{pm_facts.Zeros.HasNoZero, Pieces.{int32, string, message}}

-- StartupMessage of version 3.0 (3 in the high 16 bits), which has no type. It names a user and says nothing more.
abbrev pub start_packet : List ℕ → List ℕ
start_packet user = message [] (int32 196608 ++ string (codes "user") ++ string user ++ 0 ∷ [])

-- Query
abbrev pub query : List ℕ → List ℕ
query text = message (codes "Q") (string text)

-- Terminate
abbrev pub terminate : List ℕ
terminate = message (codes "X") []

-- text that a message can hold as a string: its length is one of 31 bits then
abbrev pub IsSayable : List ℕ → Type 0
IsSayable text = HasNoZero text × (length text ≤ 2 ^ 31 - 32)

-- all that a client sends that asks these queries, one after another
abbrev pub all_sent : (user : List ℕ) (texts : List (List ℕ)) → List ℕ
all_sent user texts = start_packet user ++ flat_map query texts ++ terminate
