-- What a workload tells of the rows that it left.
use Rattle.std.specs.{Prelude.{ℕ, ℤ, pos, ◌+ℤ◌, List, ◌++◌, fold, codes, decimal, Option, None, Some}, Fmt.signed_decimal, FinMap.{entries, len}}
use Rattle.pm_rows.specs.Standing.{Standing}
use Rattle.pm_load.specs.declared.summary.Summary.{Summary}

-- the sum of the keys
abbrev pub key_sum : List (ℤ × List ℕ) → ℤ
key_sum rows = fold (λ sum row. sum +ℤ row.0) (pos 0) rows

-- the last key
abbrev pub last_key : List (ℤ × List ℕ) → Option ℤ
last_key rows = fold (λ last row. Some row.0) None rows

-- rows stand by rising key, so that the last is the greatest
abbrev pub summary_of : Standing → Summary
summary_of standing = record {
  commits = standing.count;
  rows = len standing.rows;
  key_sum = key_sum (entries standing.rows);
  last_key = last_key (entries standing.rows);
}

abbrev pub last_word : Option ℤ → List ℕ
last_word None = codes "none"
last_word (Some key) = signed_decimal key

-- five lines, the first with the number of the queries
abbrev pub summary_lines : ℕ → Summary → List ℕ
summary_lines number s =
    (codes "queries " ++ decimal number ++ codes "\n") ++ (codes "commits " ++ decimal s.commits ++ codes "\n") ++ (codes "rows " ++ decimal s.rows ++ codes "\n")
    ++ (codes "key sum " ++ signed_decimal s.key_sum ++ codes "\n") ++ (codes "last key " ++ last_word s.last_key ++ codes "\n")
