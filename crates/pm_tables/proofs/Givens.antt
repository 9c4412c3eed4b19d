-- What tables that are given to names, one after the other, leave at each name.
use Rattle.std.{proofs.{Common.{◌≡◌, ℕ, Bool, true, false, cond, List, [], ◌∷◌, ◌++◌, Option, Some, None, IsSome, fold, unwrap_or, refl, sym, ap, subst, ◌∙◌, Less}, lemmas.{Bool.{or_parts, or_from}, Cmp.{eq_by_cmp_equiv, nat_list_cmp_total}, Map.{lookup-none, Entries.none_past_head, Keys.{IsDistinct-from_sorted, sorted_head, sorted_tail}}}}, specs.{Ordering.{is_eq}, FinMap.{get}, Map.{lookup, keys_of}, List.{list_any, AllByRecursion, Sorted.IsStrictlySortedBy}}}
use Rattle.pm_rows.specs.Fold.{RowMap}
use Rattle.pm_tables.{specs.{Tables.{TableMap, name_cmp}, Held.{Given, given, IsReady}}, proofs.ByItself.{same_name, get-with}}

-- whether a name is among those of the list
abbrev pub is_given : List ℕ → List Given → Bool
is_given q ones = list_any (same_name q) (keys_of ones)

get-given : (tables : TableMap) (one : Given) (q : List ℕ) → get (given tables one) q ≡ cond (same_name q one.0) one.1 (get tables q)
get-given tables one q = get-with tables one.0 one.1 q

-- what stands at a name goes by what stood there
pub get-alike : (m n : TableMap) (ones : List Given) (q : List ℕ) → get m q ≡ get n q → get (fold given m ones) q ≡ get (fold given n ones) q
get-alike m n [] q same = same
get-alike m n (one ∷ ones) q same =
    get-alike (given m one) (given n one) ones q
    (get-given m one q ∙ ap (cond (same_name q one.0) one.1) same ∙ sym (get-given n one q))

-- a name that isn't given keeps what it has
pub get-ungiven : (m : TableMap) (ones : List Given) (q : List ℕ) → is_given q ones ≡ false → get (fold given m ones) q ≡ get m q
get-ungiven m [] q h = refl
get-ungiven m (one ∷ ones) q h =
    let parts = or_parts (same_name q one.0) (is_given q ones) h in
    get-ungiven (given m one) ones q parts.1 ∙ get-given m one q ∙ ap (λ b. cond b one.1 (get m q)) parts.0

-- no later name is the first
past_first : (one : Given) (ones : List Given) (q : List ℕ) → IsStrictlySortedBy name_cmp (keys_of (one ∷ ones)) → same_name q one.0 ≡ true → lookup (same_name q) ones ≡ None
past_first one ones q sorted same = lookup-none (same_name q) ones (none_past_head (eq_by_cmp_equiv nat_list_cmp_total) q one ones (IsDistinct-from_sorted name_cmp (keys_of (one ∷ ones)) sorted) same)

-- where the names rise, each has what it's given
pub get-givens : (m : TableMap) (ones : List Given) (q : List ℕ) → IsStrictlySortedBy name_cmp (keys_of ones) → get (fold given m ones) q ≡ unwrap_or (lookup (same_name q) ones) (get m q)
get-givens m [] q sorted = refl
get-givens m (one ∷ ones) q sorted =
    get-givens (given m one) ones q (sorted_tail name_cmp one.0 (keys_of ones) sorted)
    ∙ ap (unwrap_or (lookup (same_name q) ones)) (get-given m one q)
    ∙ elim (same_name q one.0) as (λ s. same_name q one.0 ≡ s → unwrap_or (lookup (same_name q) ones) (cond s one.1 (get m q)) ≡ unwrap_or (cond s (Some one.1) (lookup (same_name q) ones)) (get m q)) [
      | true ↦ λ same. ap (λ o. unwrap_or o one.1) (past_first one ones q sorted same)
      | false ↦ λ _. refl
    ] refl

-- a name that a look-up doesn't find isn't given
pub ungiven : (q : List ℕ) (ones : List Given) → lookup (same_name q) ones ≡ None → is_given q ones ≡ false
ungiven q [] h = refl
ungiven q (one ∷ ones) h = elim (same_name q one.0) as (λ s. same_name q one.0 ≡ s → cond s (Some one.1) (lookup (same_name q) ones) ≡ None → is_given q (one ∷ ones) ≡ false) [
  | true ↦ λ same found. cc
  | false ↦ λ apart found. or_from (same_name q one.0) (is_given q ones) apart (ungiven q ones found)
] refl h

all_at : (P : List ℕ → Type 0) (n : List ℕ) (w : Option RowMap) (ones rest : List Given) → AllByRecursion P (keys_of (ones ++ (n, w) ∷ rest)) → P n
all_at P n w [] rest h = h.0
all_at P n w (one ∷ ones) rest h = all_at P n w ones rest h.1

-- where names rise, none before a name is that name
pub ungiven_before : (n : List ℕ) (w : Option RowMap) (ones rest : List Given) → IsStrictlySortedBy name_cmp (keys_of (ones ++ (n, w) ∷ rest)) → is_given n ones ≡ false
ungiven_before n w [] rest h = refl
ungiven_before n w (one ∷ ones) rest h =
    let below : name_cmp one.0 n ≡ Less = all_at (λ y. name_cmp one.0 y ≡ Less) n w ones rest (sorted_head name_cmp one.0 (keys_of (ones ++ (n, w) ∷ rest)) h) in
    or_from (same_name n one.0) (is_given n ones)
    ((eq_by_cmp_equiv nat_list_cmp_total).symm n one.0 ∙ ap is_eq below)
    (ungiven_before n w ones rest (sorted_tail name_cmp one.0 (keys_of (ones ++ (n, w) ∷ rest)) h))

-- n has a table under each name under which m has one
abbrev pub HasMore : TableMap → TableMap → Type 0
HasMore m n = (q : List ℕ) → IsSome (get m q) → IsSome (get n q)

more-cond : (b : Bool) (w x y : Option RowMap) → (IsSome x → IsSome y) → IsSome (cond b w x) → IsSome (cond b w y)
more-cond true w x y more some = some
more-cond false w x y more some = more some

more-given : (m n : TableMap) (one : Given) → HasMore m n → HasMore (given m one) (given n one)
more-given m n one more q some =
    subst IsSome (sym (get-given n one q))
    (more-cond (same_name q one.0) one.1 (get m q) (get n q) (more q) (subst IsSome (get-given m one q) some))

pub ready-more : (m n : TableMap) (ones : List Given) → HasMore m n → IsReady m ones → IsReady n ones
ready-more m n [] more h = tt
ready-more m n (one ∷ ones) more h = (λ some. more one.0 (h.0 some), ready-more (given m one) (given n one) ones (more-given m n one more) h.1)

pub ready-push : (m : TableMap) (ones : List Given) (one : Given) → IsReady m ones → (IsSome one.1 → IsSome (get (fold given m ones) one.0)) → IsReady m (ones ++ one ∷ [])
ready-push m [] one h last = (last, tt)
ready-push m (first ∷ ones) one h last = (h.0, ready-push (given m first) ones one h.1 last)
