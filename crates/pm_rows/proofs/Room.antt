-- Room for the keys that get a value and have no row, and how it is undone.
use Rattle.std.{proofs.{Common.{◌≡◌, ℕ, zero, suc, ℤ, Bool, true, false, cond, ◌||◌, List, [], ◌∷◌, Option, Some, None, IsSome, is_some, map, fold, take, refl, sym, ap, ◌∙◌, inl, inr}, lemmas.{Bool.{false≢true, and_parts, and_from, or_cases, or_left, or_right, or_from, or_parts}, Map.{Lookups.exact_signed, Views.tells_apart}}}, specs.{Prelude.{is_none, filter}, Ordering.int_cmp, Cmp.int_cmp_total, FinMap.{get-insert, get-remove, same_map, int_cmp-IsAntisymmetric}, Map.lookup, BTreeMap.is_at, List.list_any}}
use Rattle.std.specs.FinMap as finite
use Rattle.pm_rows.{specs.{Fold.RowMap, NetChanges.{NetChanges, lacks_row, missing_keys, HasRoom}}, proofs.FoldLaws.same_key}

-- the rows with an empty text at a key
abbrev pub with_empty : RowMap → ℤ → RowMap
with_empty rows key = finite.insert rows key []

either : {X : Type 0} (one other : Bool) (x y : X) → cond other x (cond one x y) ≡ cond (one || other) x y
either true true x y = refl
either true false x y = refl
either false other x y = refl

-- a step that leaves w at its key, made at each of the keys
get-each : (step : RowMap → ℤ → RowMap) (w : Option (List ℕ)) → ((rows : RowMap) (k q : ℤ) → finite.get (step rows k) q ≡ cond (same_key q k) w (finite.get rows q))
    → (rows : RowMap) (keys : List ℤ) (q : ℤ) → finite.get (fold step rows keys) q ≡ cond (list_any (same_key q) keys) w (finite.get rows q)
get-each step w one rows [] q = refl
get-each step w one rows (k ∷ keys) q =
    get-each step w one (step rows k) keys q
    ∙ ap (cond (list_any (same_key q) keys) w) (one rows k q)
    ∙ either (same_key q k) (list_any (same_key q) keys) w (finite.get rows q)

get-with_empty : (rows : RowMap) (keys : List ℤ) (q : ℤ) → finite.get (fold with_empty rows keys) q ≡ cond (list_any (same_key q) keys) (Some []) (finite.get rows q)
get-with_empty rows keys q = get-each with_empty (Some []) (λ rows k q. get-insert int_cmp_total rows k [] q) rows keys q

get-removed : (rows : RowMap) (keys : List ℤ) (q : ℤ) → finite.get (fold finite.remove rows keys) q ≡ cond (list_any (same_key q) keys) None (finite.get rows q)
get-removed rows keys q = get-each finite.remove None (λ rows k q. get-remove int_cmp_total rows k q) rows keys q

-- what no key of a list is, no key of its first part is
none_of_part : (test : ℤ → Bool) (keys : List ℤ) (i : ℕ) → list_any test keys ≡ false → list_any test (take i keys) ≡ false
none_of_part test keys zero h = refl
none_of_part test [] (suc i) h = refl
none_of_part test (k ∷ keys) (suc i) h = let parts = or_parts (test k) (list_any test keys) h in or_from (test k) _ parts.0 (none_of_part test keys i parts.1)

-- empty texts at keys without rows are undone by taking the keys out
pub undone : (rows : RowMap) (keys : List ℤ) (i : ℕ) → ((q : ℤ) → list_any (same_key q) keys ≡ true → finite.get rows q ≡ None) → fold finite.remove (fold with_empty rows (take i keys)) keys ≡ rows
undone rows keys i absent = same_map int_cmp_total int_cmp-IsAntisymmetric _ rows (λ q.
    get-removed (fold with_empty rows (take i keys)) keys q
    ∙ elim (list_any (same_key q) keys) as (λ b. list_any (same_key q) keys ≡ b → cond b None (finite.get (fold with_empty rows (take i keys)) q) ≡ finite.get rows q) [
      | true ↦ λ is. sym (absent q is)
      | false ↦ λ is. get-with_empty rows (take i keys) q ∙ ap (λ b. cond b (Some []) (finite.get rows q)) (none_of_part (same_key q) keys i is)
    ] refl)

none_is : (o : Option (List ℕ)) → is_none o ≡ true → o ≡ None
none_is None h = refl
none_is (Some v) h = absurd (false≢true h)

module _ (rows : RowMap) (q : ℤ) where
  -- whether q is among the keys of the entries that get a value and have no row
  abbrev is_missing : List (ℤ × Option (List ℕ)) → Bool
  is_missing es = list_any (same_key q) (map (λ entry. entry.0) (filter (lacks_row rows) es))

  found_missing : (e : ℤ × Option (List ℕ)) (es : List (ℤ × Option (List ℕ))) (b : Bool) → lacks_row rows e ≡ b → is_missing (e ∷ es) ≡ cond b (same_key q e.0 || is_missing es) (is_missing es)
  found_missing e es true is = ap (λ b. list_any (same_key q) (map (λ entry. entry.0) (cond b (e ∷ filter (lacks_row rows) es) (filter (lacks_row rows) es)))) is
  found_missing e es false is = ap (λ b. list_any (same_key q) (map (λ entry. entry.0) (cond b (e ∷ filter (lacks_row rows) es) (filter (lacks_row rows) es)))) is

  -- a missing key has no row
  missing_absent : (es : List (ℤ × Option (List ℕ))) → is_missing es ≡ true → finite.get rows q ≡ None
  missing_absent [] h = absurd (false≢true h)
  missing_absent (e ∷ es) h = elim (lacks_row rows e) as (λ b. lacks_row rows e ≡ b → finite.get rows q ≡ None) [
    | true ↦ λ is. elim (or_cases (same_key q e.0) (is_missing es) (sym (found_missing e es true is) ∙ h)) [
      | inl same ↦ ap (finite.get rows) (tells_apart exact_signed q e.0 same) ∙ none_is (finite.get rows e.0) (and_parts _ _ is).1
      | inr rest ↦ missing_absent es rest
    ]
    | false ↦ λ is. missing_absent es (sym (found_missing e es false is) ∙ h)
  ] refl

  -- a key that isn't named isn't missing
  unnamed_present : (es : List (ℤ × Option (List ℕ))) → lookup (is_at (int_cmp q)) es ≡ None → is_missing es ≡ false
  unnamed_present [] h = refl
  unnamed_present (e ∷ es) h = elim (same_key q e.0) as (λ s. same_key q e.0 ≡ s → cond s (Some e.1) (lookup (is_at (int_cmp q)) es) ≡ None → is_missing (e ∷ es) ≡ false) [
    | true ↦ λ same found. cc
    | false ↦ λ apart found. elim (lacks_row rows e) as (λ b. lacks_row rows e ≡ b → is_missing (e ∷ es) ≡ false) [
      | true ↦ λ is. found_missing e es true is ∙ or_from (same_key q e.0) (is_missing es) apart (unnamed_present es found)
      | false ↦ λ is. found_missing e es false is ∙ unnamed_present es found
    ] refl
  ] refl h

  -- a key that gets a value and has no row is missing
  named_missing : (es : List (ℤ × Option (List ℕ))) (value : List ℕ) → lookup (is_at (int_cmp q)) es ≡ Some (Some value) → finite.get rows q ≡ None → is_missing es ≡ true
  named_missing [] value h absent = cc
  named_missing (e ∷ es) value h absent = elim (same_key q e.0) as (λ s. same_key q e.0 ≡ s → cond s (Some e.1) (lookup (is_at (int_cmp q)) es) ≡ Some (Some value) → is_missing (e ∷ es) ≡ true) [
    | true ↦ λ same found.
        let wanted : e.1 ≡ Some value = cc in
        let lacks : lacks_row rows e ≡ true = and_from _ _ (ap is_some wanted) (ap is_none (ap (finite.get rows) (sym (tells_apart exact_signed q e.0 same)) ∙ absent)) in
        found_missing e es true lacks ∙ or_left (same_key q e.0) (is_missing es) same
    | false ↦ λ apart found. elim (lacks_row rows e) as (λ b. lacks_row rows e ≡ b → is_missing (e ∷ es) ≡ true) [
      | true ↦ λ is. found_missing e es true is ∙ or_right (same_key q e.0) (is_missing es) (named_missing es value found absent)
      | false ↦ λ is. found_missing e es false is ∙ named_missing es value found absent
    ] refl
  ] refl h

some_or_none : (o : Option (List ℕ)) (P : Type 0) → (is_some o ≡ true → P) → (o ≡ None → P) → P
some_or_none None P some none = none refl
some_or_none (Some v) P some none = some refl

-- taking the missing keys out undoes the room for some of them
pub room_undone : (rows : RowMap) (net : NetChanges) (keys some : List ℤ) (i : ℕ) (now : RowMap) → keys ≡ missing_keys rows net → some ≡ keys → now ≡ fold with_empty rows (take i some) → fold finite.remove now keys ≡ rows
room_undone rows net keys some i now all part is =
    ap (λ m. fold finite.remove m keys) (is ∙ ap (λ ks. fold with_empty rows (take i ks)) part)
    ∙ ap (λ ks. fold finite.remove (fold with_empty rows (take i ks)) ks) all
    ∙ undone rows (missing_keys rows net) i (λ q. missing_absent rows q net.entries)

-- with an empty text at each missing key there is room
pub room_made : (rows : RowMap) (net : NetChanges) → HasRoom net rows (fold with_empty rows (missing_keys rows net))
room_made rows net = record {
  room = λ q value named.
      let now = get-with_empty rows (missing_keys rows net) q in
      some_or_none (finite.get rows q) (IsSome (finite.get (fold with_empty rows (missing_keys rows net)) q))
      (λ some. elim (is_missing rows q net.entries) as (λ b. is_missing rows q net.entries ≡ b → IsSome (finite.get (fold with_empty rows (missing_keys rows net)) q)) [
        | true ↦ λ is. ap is_some (now ∙ ap (λ b. cond b (Some []) (finite.get rows q)) is)
        | false ↦ λ is. ap is_some (now ∙ ap (λ b. cond b (Some []) (finite.get rows q)) is) ∙ some
      ] refl)
      (λ none. ap is_some (now ∙ ap (λ b. cond b (Some []) (finite.get rows q)) (named_missing rows q net.entries value named none)));
  others = λ q unnamed.
      get-with_empty rows (missing_keys rows net) q ∙ ap (λ b. cond b (Some []) (finite.get rows q)) (unnamed_present rows q net.entries unnamed);
}
