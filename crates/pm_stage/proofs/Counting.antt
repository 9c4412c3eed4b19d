-- A table that has each key with its number.
use Rattle.std.{proofs.{Common.{◌≡◌, ℕ, ℤ, ◌+◌, ◌-◌, ◌*◌, ◌<◌, ◌≤◌, cond, List, [], ◌∷◌, ◌++◌, All, length, take, drop, get_or, Option, Some, is_some, sym, ap, ◌∙◌, arith}, lemmas.{Bool.Decides.nat_tests, List.{length-take, Elements.All-weaker, Sums.{count_by-le-length, sum_by-le, sum_by-take-drop, sum_by_more, sum_by_push}}}}, specs.{Prelude.{unwrap_or, nat_lt}, Ordering.{int_cmp, int_eq}, BTreeMap.{BTreeMap, IsUnchanged, is_at}, Map.lookup}}
use Rattle.pm_rows.specs.{Batch.IsCommit, Fold.key_of, declared.commit.Change.Change}
use Rattle.pm_stage.specs.Naming.{Counts, counted, is_about, times_at, times_in, times_named}

-- ---- a number that is kept

pub at_counted : (n : ℕ) → unwrap_or (counted n) 0 ≡ n
at_counted n = grind (arith, nat_tests)

pub counted_more : (n : ℕ) → counted (n + 1) ≡ Some (n + 1)
counted_more n = grind (arith, nat_tests)

pub is_counted : (n : ℕ) → is_some (counted n) ≡ nat_lt 0 n
is_counted n = grind (arith, nat_tests)

-- ---- a table

pub at_of : (table : BTreeMap ℤ ℕ) (times : ℤ → ℕ) → Counts table times → (key : ℤ) → times_at table key ≡ times key
at_of table times is key = ap (λ (o : Option ℕ). unwrap_or o 0) (is key) ∙ at_counted (times key)

pub recounted : (table : BTreeMap ℤ ℕ) (times others : ℤ → ℕ) → Counts table times → ((key : ℤ) → times key ≡ others key) → Counts table others
recounted table times others is same key = is key ∙ ap counted (same key)

pub tally_of : (table : BTreeMap ℤ ℕ) (times : ℤ → ℕ) → Counts table times → Counts table (times_at table)
tally_of table times is = recounted table times (times_at table) is (λ key. sym (at_of table times is key))

pub unchanged : (before now : BTreeMap ℤ ℕ) (times : ℤ → ℕ) → IsUnchanged before now → Counts before times → Counts now times
unchanged before now times same is key = ap (λ (es : List (ℤ × ℕ)). lookup (is_at (int_cmp key)) es) same ∙ is key

-- ---- change by change

-- one change further
times_more : (changes : List Change) (at : ℕ) (change : Change) (stored key : ℤ) → at < length changes → change ≡ get_or changes at change → stored ≡ key_of change
    → times_in key (take (at + 1) changes) ≡ times_in key (take at changes) + cond (int_eq stored key) 1 0
times_more changes at change stored key inside there is =
    sum_by_more (λ (other : Change). cond (is_about key other) 1 0) changes at change inside
    ∙ ap (λ (k : ℤ). times_in key (take at changes) + cond (int_eq k key) 1 0) (ap key_of (sym there) ∙ sym is)

module _ (start now next : BTreeMap ℤ ℕ) (changes : List Change) (at : ℕ) (change : Change) (stored : ℤ) (inside : at < length changes) (there : change ≡ get_or changes at change) (key_is : stored ≡ key_of change) where
  pub one_counted : Counts now (λ key. times_at start key + times_in key (take at changes)) → Counts next (λ key. times_at now key + cond (int_eq stored key) 1 0)
      → Counts next (λ key. times_at start key + times_in key (take (at + 1) changes))
  one_counted before is key =
      is key ∙ ap counted (omega (arith, at_of now (λ k. times_at start k + times_in k (take at changes)) before key, times_more changes at change stored key inside there key_is))

  pub one_discounted : Counts now (λ key. times_at start key - times_in key (take at changes)) → Counts next (λ key. times_at now key - cond (int_eq stored key) 1 0)
      → Counts next (λ key. times_at start key - times_in key (take (at + 1) changes))
  one_discounted before is key =
      is key ∙ ap counted (omega (arith, at_of now (λ k. times_at start k - times_in k (take at changes)) before key, times_more changes at change stored key inside there key_is))

-- there are no more than so many changes
pub times_short : (changes : List Change) (at : ℕ) (key : ℤ) → times_in key (take at changes) ≤ at
times_short changes at key = omega (arith, count_by-le-length (is_about key) (take at changes), length-take at changes)

-- ---- commit by commit

pub one_forgotten : (start now next : BTreeMap ℤ ℕ) (commits : List (List Change)) (at : ℕ) (commit : List Change) → at < length commits → commit ≡ get_or commits at commit
    → Counts now (λ key. times_at start key - times_named key (take at commits)) → Counts next (λ key. times_at now key - times_in key commit)
    → Counts next (λ key. times_at start key - times_named key (take (at + 1) commits))
one_forgotten start now next commits at commit inside there before is key =
    is key ∙ ap counted (omega (arith, at_of now (λ k. times_at start k - times_named k (take at commits)) before key, sum_by_more (times_in key) commits at commit inside, ap (times_in key) there))

-- those that are left
pub times_left : (commits : List (List Change)) (gone : ℕ) (key : ℤ) → times_named key commits - times_named key (take gone commits) ≡ times_named key (drop gone commits)
times_left commits gone key = omega (arith, sum_by-take-drop (times_in key) commits gone)

-- one more
pub times_push : (commits : List (List Change)) (commit : List Change) (key : ℤ) → times_named key commits + times_in key commit ≡ times_named key (commits ++ commit ∷ [])
times_push commits commit key = sym (sum_by_push (times_in key) commits commit)

-- commits that can go into the log have no more changes than this
few_in : (key : ℤ) (commit : List Change) → IsCommit commit → times_in key commit ≤ 1000
few_in key commit is = omega (arith, count_by-le-length (is_about key) commit, is.few)

pub times_few : (commits : List (List Change)) (key : ℤ) → All IsCommit commits → times_named key commits ≤ length commits * 1000
times_few commits key each = sum_by-le (times_in key) 1000 commits (All-weaker IsCommit (λ commit. times_in key commit ≤ 1000) (few_in key) commits each)
