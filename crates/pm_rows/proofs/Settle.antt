-- What settling an net makes of rows that have room for it.
use Rattle.std.{proofs.{Common.{◌≡◌, ℕ, ℤ, true, false, cond, List, [], ◌∷◌, Option, Some, None, IsSome, is_some, fold, unwrap_or, refl, sym, ap, ◌∙◌}, lemmas.{Bool.false≢true, Cmp.eq_by_cmp_equiv, Map.{lookup-none, Entries.none_past_head, Keys.{IsDistinct-from_sorted, sorted_tail}}}}, specs.{Ordering.{int_cmp, eq_by_cmp}, Cmp.int_cmp_total, FinMap.{get-insert, get-remove, same_map, int_cmp-IsAntisymmetric}, Map.{lookup, keys_of}, BTreeMap.is_at, List.Sorted.IsStrictlySortedBy}}
use Rattle.std.specs.FinMap as finite
use Rattle.std.specs.BTreeMap as tree
use Rattle.pm_rows.{specs.{declared.commit.Change.Change, Fold.{RowMap, committed}, Pending.Pending, NetChanges.{NetChanges, IsNet, HasRoom, settled, IsReady}}, proofs.FoldLaws.{same_key, same_key-refl}}

-- one entry decides what its key has, and no other key
get-settled_one : (rows : RowMap) (e : ℤ × Option (List ℕ)) (q : ℤ) → finite.get (settled rows e) q ≡ cond (same_key q e.0) e.1 (finite.get rows q)
get-settled_one rows (k, Some value) q = get-insert int_cmp_total rows k value q
get-settled_one rows (k, None) q = get-remove int_cmp_total rows k q

-- no later entry has the key of the first
past_first : (e : ℤ × Option (List ℕ)) (es : List (ℤ × Option (List ℕ))) (q : ℤ) → IsStrictlySortedBy int_cmp (keys_of (e ∷ es)) → same_key q e.0 ≡ true → lookup (is_at (int_cmp q)) es ≡ None
past_first e es q sorted same = lookup-none (eq_by_cmp int_cmp q) es (none_past_head (eq_by_cmp_equiv int_cmp_total) q e es (IsDistinct-from_sorted int_cmp (keys_of (e ∷ es)) sorted) same)

pub get-settled : (rows : RowMap) (es : List (ℤ × Option (List ℕ))) (q : ℤ) → IsStrictlySortedBy int_cmp (keys_of es) → finite.get (fold settled rows es) q ≡ unwrap_or (lookup (is_at (int_cmp q)) es) (finite.get rows q)
get-settled rows [] q sorted = refl
get-settled rows (e ∷ es) q sorted =
    get-settled (settled rows e) es q (sorted_tail int_cmp e.0 (keys_of es) sorted)
    ∙ ap (unwrap_or (lookup (is_at (int_cmp q)) es)) (get-settled_one rows e q)
    ∙ elim (same_key q e.0) as (λ s. same_key q e.0 ≡ s → unwrap_or (lookup (is_at (int_cmp q)) es) (cond s e.1 (finite.get rows q)) ≡ unwrap_or (cond s (Some e.1) (lookup (is_at (int_cmp q)) es)) (finite.get rows q)) [
      | true ↦ λ same. ap (λ o. unwrap_or o e.1) (past_first e es q sorted same)
      | false ↦ λ _. refl
    ] refl

first_ready : (rows : RowMap) (e : ℤ × Option (List ℕ)) (es : List (ℤ × Option (List ℕ))) → ((q : ℤ) (value : List ℕ) → lookup (is_at (int_cmp q)) (e ∷ es) ≡ Some (Some value) → IsSome (finite.get rows q)) → IsSome e.1 → IsSome (finite.get rows e.0)
first_ready rows (k, Some value) es room some = room k value (ap (λ s. cond s (Some (Some value)) (lookup (is_at (int_cmp k)) es)) (same_key-refl k))
first_ready rows (k, None) es room some = absurd (false≢true some)

pub ready : (rows : RowMap) (es : List (ℤ × Option (List ℕ))) → IsStrictlySortedBy int_cmp (keys_of es) → ((q : ℤ) (value : List ℕ) → lookup (is_at (int_cmp q)) es ≡ Some (Some value) → IsSome (finite.get rows q)) → IsReady rows es
ready rows [] sorted room = tt
ready rows (e ∷ es) sorted room = (
  first_ready rows e es room,
  ready (settled rows e) es (sorted_tail int_cmp e.0 (keys_of es) sorted) (λ q value found.
      elim (same_key q e.0) as (λ s. same_key q e.0 ≡ s → IsSome (finite.get (settled rows e) q)) [
        | true ↦ λ same. let gone = past_first e es q sorted same in cc
        | false ↦ λ apart. ap is_some (get-settled_one rows e q ∙ ap (λ s. cond s e.1 (finite.get rows q)) apart) ∙ room q value (ap (λ s. cond s (Some e.1) (lookup (is_at (int_cmp q)) es)) apart ∙ found)
      ] refl),
)

agree : (left : Option (Option (List ℕ))) (now before : Option (List ℕ)) → (left ≡ None → now ≡ before) → unwrap_or left now ≡ unwrap_or left before
agree None now before same = same refl
agree (Some w) now before same = refl

-- settling the net of changes where there is room makes the changes
pub settled_changes : (changes : List Change) (net : NetChanges) (before now : RowMap) → IsNet changes net → HasRoom net before now → fold settled now net.entries ≡ committed before changes
settled_changes changes net before now is has = same_map int_cmp_total int_cmp-IsAntisymmetric _ _ (λ q.
    get-settled now net.entries q is.ordered
    ∙ agree (tree.get int_cmp net q) (finite.get now q) (finite.get before q) (has.others q)
    ∙ sym (is.left before q))

-- a pending commit is told by the rows without it and with it
abbrev pub parted : RowMap → RowMap → Pending
parted before after = record { before = before; after = after }

pub same_pending : {before other after next : RowMap} → before ≡ other → after ≡ next → parted before after ≡ parted other next
same_pending {before} {other} {after} same then = ap (λ b. parted b after) same ∙ ap (parted other) then
