-- The queries of a workload.
use Rattle.std.specs.Prelude.{ℕ, zero, suc, ◌+◌, ◌*◌, ◌%◌, ◌==◌, if◌then◌else◌, List, [], ◌∷◌, ◌++◌, codes, decimal}

-- the key of the query with this number
abbrev pub key_at : ℕ → ℕ
key_at i = (31 * i * i + 7 * i) % 5000

-- this row in the place of that at its key
abbrev pub put_text : (key number : ℕ) → List ℕ
put_text key number =
    codes "DELETE FROM kv WHERE k = " ++ decimal key ++ codes "; INSERT INTO kv VALUES (" ++ decimal key ++ codes ", 'w" ++ decimal number ++ codes "')"

-- Each fifth query counts the rows, and any other puts one.
abbrev pub query_at : ℕ → List ℕ
query_at i = if i % 5 == 0 then codes "SELECT count(*) FROM kv" else put_text (key_at i) i

-- the first n of them; their numbers begin at 1
unfoldable pub queries : ℕ → List (List ℕ)
queries zero = []
queries (suc n) = queries n ++ query_at (n + 1) ∷ []
