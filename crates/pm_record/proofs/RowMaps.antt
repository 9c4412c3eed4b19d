-- The rows of a base as a map: rows of rising keys, each added in turn, are the map's rows in order.
use Rattle.std.{proofs.{Common.{◌≡◌, ℕ, zero, suc, ◌+◌, ◌^◌, ◌<◌, ◌≤◌, min, ℤ, List, [], ◌∷◌, ◌++◌, length, Ok, Err, refl, sym, ap, subst, ◌∙◌, append_assoc, append-nil, arith, inl, Less, Greater}, lemmas.{Int.ints, List.Elements.{All-from_recursion, recursion_from_All}}}, specs.{Prelude.{T, fold, All, FitsSigned}, declared.cmp.Ordering.Ordering, Ordering.{int_cmp, is_lt, ordering_reverse}, Cmp.{int_cmp_total, int_ranked, int_cmp_is}, Int.{w32, w64, to_be_bytes}, List.{flat_map, AllByRecursion}, FinMap.{put, entries-insert, is_sorted, entries_sorted, same_entries_map, len-empty, len-entries, Entries.{below_all, by_order}}}}
use Rattle.std.specs.FinMap as map
use Rattle.pm_rows.specs.{pm_facts.{Bools.{hold_both, holds_first, holds_second}, Orders.{is_less, less_is}}, Fold.RowMap, Limits.max_rows}
use Rattle.pm_record.{specs.{Spelling.{row_bytes, rows_bytes}, StandsFor.IsRow, Reading.{Read, ◌>>=◌, number_at, may_be}, Base.{place, added, row_counts, row_step, rows_at}, Repeated.{items_at, through_at}}, proofs.{Words.Spelled, Readers.{Reading, made_reads}, Repeats.counted_bytes, Loops.{behind_items, through_items}, BaseRows.{AllRows, MayRows, row_in, list_at, list_reads}}}

abbrev Row : Type 0
Row = ℤ × List ℕ

-- ---- the order of keys is that of their places

below_place : (a b : ℤ) → FitsSigned w64 a → FitsSigned w64 b → int_cmp a b ≡ Less → place a < place b
below_place a b fits fits' less = let lt = int_ranked a b Less (sym less) in omega (arith, ints, fits, fits', lt)

place_below : (a b : ℤ) → FitsSigned w64 a → FitsSigned w64 b → place a < place b → int_cmp a b ≡ Less
place_below a b fits fits' lt = sym (int_cmp_is a b Less (omega (arith, ints, fits, fits', lt)))

place_small : (a : ℤ) → place a < 2 ^ 64
place_small a = omega arith

-- ---- rising rows

-- the places of the keys rise, from this one on
abbrev Rising : ℕ → List Row → Type 0
Rising from [] = Unit {0}
Rising from (row ∷ rows) = (from ≤ place row.0) × FitsSigned w64 row.0 × Rising (place row.0 + 1) rows

sooner : (from then : ℕ) (rows : List Row) → from ≤ then → Rising then rows → Rising from rows
sooner from then [] le rise = tt
sooner from then (row ∷ rows) le rise = (omega (arith, le, rise.0), rise.1, rise.2)

-- after a row at that place, which leaves room for the others
rise_behind : (n : ℕ) (state : ℕ × RowMap) (rows : List Row) (at : ℕ) → at + n < 2 ^ 64 → state.0 ≡ min (at + 1) 18446744073709551615 → AllRows n state rows → Rising state.0 rows → Rising (at + 1) rows
rise_behind zero state [] at room is all rise = tt
rise_behind zero state (row ∷ rows) at room is all rise = absurd all
rise_behind (suc n) state [] at room is all rise = absurd all
rise_behind (suc n) state (row ∷ rows) at room is all rise = sooner (at + 1) state.0 (row ∷ rows) (omega (arith, room, is)) rise

all_rise : (n : ℕ) (state : ℕ × RowMap) (rows : List Row) → AllRows n state rows → Rising state.0 rows
all_rise zero state [] all = tt
all_rise zero state (row ∷ rows) all = absurd all
all_rise (suc n) state [] all = absurd all
all_rise (suc n) state (row ∷ rows) all = (all.0.0.1, all.0.0.0, rise_behind n (added state row) rows (place row.0) all.0.0.2 refl all.1 (all_rise n (added state row) rows all.1))

all_rows : (n : ℕ) (state : ℕ × RowMap) (rows : List Row) → AllRows n state rows → AllByRecursion IsRow rows
all_rows zero state [] all = tt
all_rows zero state (row ∷ rows) all = absurd all
all_rows (suc n) state [] all = absurd all
all_rows (suc n) state (row ∷ rows) all = ((all.0.0.0, all.0.0.3, all.0.0.4), all_rows n (added state row) rows all.1)

-- there is room for the keys after it
rising_room : (from : ℕ) (rows : List Row) → from ≤ 2 ^ 64 → Rising from rows → from + length rows ≤ 2 ^ 64
rising_room from [] le rise = omega (arith, le)
rising_room from (row ∷ rows) le rise = let small = place_small row.0 in let rest = rising_room (place row.0 + 1) rows (omega (arith, small)) rise.2 in omega (arith, rest, rise.0)

rising_all : (from : ℕ) (rows : List Row) → Rising from rows → AllByRecursion IsRow rows → length rows ≤ max_rows → (state : ℕ × RowMap) → state.0 ≤ from → state.0 ≤ 2 ^ 64 → AllRows (length rows) state rows
rising_all from [] rise rows few state le fits = (omega (arith, fits), omega arith)
rising_all from (row ∷ rest) rise rows few state le fits =
    let small = place_small row.0 in
    let room = rising_room (place row.0 + 1) rest (omega (arith, small)) rise.2 in (
      ((rise.1, omega (arith, le, rise.0), omega (arith, room), rows.0.1, rows.0.2), omega (arith, few)),
      rising_all (place row.0 + 1) rest rise.2 rows.1 (omega (arith, few)) (added state row) (omega arith) (omega arith),
    )

-- ---- rising rows are in order

rising_below : (key : ℤ) (rows : List Row) → FitsSigned w64 key → Rising (place key + 1) rows → T (below_all int_cmp key rows)
rising_below key [] fits rise = tt
rising_below key (row ∷ rows) fits rise =
    hold_both (is_lt (int_cmp key row.0)) (below_all int_cmp key rows) (less_is (int_cmp key row.0) (place_below key row.0 fits rise.1 (omega (arith, rise.0))))
    (rising_below key rows fits (sooner (place key + 1) (place row.0 + 1) rows (omega (arith, rise.0)) rise.2))

rising_sorted : (from : ℕ) (rows : List Row) → Rising from rows → T (is_sorted int_cmp rows)
rising_sorted from [] rise = tt
rising_sorted from (row ∷ rows) rise = hold_both (below_all int_cmp row.0 rows) (is_sorted int_cmp rows) (rising_below row.0 rows rise.1 rise.2) (rising_sorted (place row.0 + 1) rows rise.2)

sorted_rising : (row : Row) (rows : List Row) → T (is_sorted int_cmp (row ∷ rows)) → AllByRecursion IsRow (row ∷ rows) → Rising (place row.0) (row ∷ rows)
sorted_rising row [] sorted all = (omega arith, all.0.0, tt)
sorted_rising row (next ∷ rows) sorted all =
    let others = holds_second (below_all int_cmp row.0 (next ∷ rows)) (is_sorted int_cmp (next ∷ rows)) sorted in
    let here = holds_first (is_lt (int_cmp row.0 next.0)) (below_all int_cmp row.0 rows) (holds_first (below_all int_cmp row.0 (next ∷ rows)) (is_sorted int_cmp (next ∷ rows)) sorted) in
    let lt = below_place row.0 next.0 all.0.0 all.1.0.0 (is_less (int_cmp row.0 next.0) here) in
    (omega arith, all.0.0, sooner (place row.0 + 1) (place next.0) (next ∷ rows) (omega (arith, lt)) (sorted_rising next rows others all.1))

in_order : (rows : List Row) → T (is_sorted int_cmp rows) → AllByRecursion IsRow rows → Rising 0 rows
in_order [] sorted all = tt
in_order (row ∷ rows) sorted all = sooner 0 (place row.0) (row ∷ rows) (omega arith) (sorted_rising row rows sorted all)

-- ---- added in turn

below_next : (key : ℤ) (es : List Row) (row : Row) (rows : List Row) → T (below_all int_cmp key (es ++ row ∷ rows)) → T (is_lt (int_cmp key row.0))
below_next key [] row rows below = holds_first (is_lt (int_cmp key row.0)) (below_all int_cmp key rows) below
below_next key (e ∷ es) row rows below = below_next key es row rows (holds_second (is_lt (int_cmp key e.0)) (below_all int_cmp key (es ++ row ∷ rows)) below)

put_last : (es : List Row) (row : Row) (rows : List Row) → T (is_sorted int_cmp (es ++ row ∷ rows)) → put int_cmp row.0 row.1 es ≡ es ++ row ∷ []
put_last [] row rows sorted = refl
put_last (e ∷ es) row rows sorted =
    let below = holds_first (below_all int_cmp e.0 (es ++ row ∷ rows)) (is_sorted int_cmp (es ++ row ∷ rows)) sorted in
    let above : int_cmp row.0 e.0 ≡ Greater = int_cmp_total.antisymm row.0 e.0 ∙ ap ordering_reverse (is_less (int_cmp e.0 row.0) (below_next e.0 es row rows below)) in
    ap (λ (o : Ordering). by_order o ((row.0, row.1) ∷ e ∷ es) ((e.0, row.1) ∷ es) (e ∷ put int_cmp row.0 row.1 es)) above
    ∙ ap (λ (t : List Row). e ∷ t) (put_last es row rows (holds_second (below_all int_cmp e.0 (es ++ row ∷ rows)) (is_sorted int_cmp (es ++ row ∷ rows)) sorted))

added_all : (rows : List Row) (state : ℕ × RowMap) → T (is_sorted int_cmp (map.entries state.1 ++ rows)) → map.entries (fold added state rows).1 ≡ map.entries state.1 ++ rows
added_all [] state sorted = sym (append-nil (map.entries state.1))
added_all (row ∷ rows) state sorted =
    let one : map.entries (map.insert state.1 row.0 row.1) ≡ map.entries state.1 ++ row ∷ [] = entries-insert int_cmp_total state.1 row.0 row.1 ∙ put_last (map.entries state.1) row rows sorted in
    let whole : map.entries (map.insert state.1 row.0 row.1) ++ rows ≡ map.entries state.1 ++ row ∷ rows = ap (λ (t : List Row). t ++ rows) one ∙ append_assoc (map.entries state.1) (row ∷ []) rows in
    added_all rows (added state row) (subst (λ (t : List Row). T (is_sorted int_cmp t)) (sym whole) sorted) ∙ whole

no_rows : (es : List Row) → length es ≡ 0 → es ≡ []
no_rows [] h = refl
no_rows (e ∷ es) h = absurd (omega (arith, h))

none : map.entries (map.empty {X = List ℕ} {R = int_cmp}) ≡ []
none = no_rows (map.entries map.empty) (sym (len-entries map.empty) ∙ len-empty int_cmp (List ℕ))

-- the map of a list of rows
abbrev pub map_of : List Row → RowMap
map_of rows = (fold added (0, map.empty) rows).1

entries_of : (rows : List Row) → T (is_sorted int_cmp rows) → map.entries (map_of rows) ≡ rows
entries_of rows sorted =
    added_all rows (0, map.empty) (subst (λ (t : List Row). T (is_sorted int_cmp t)) (sym (ap (λ (t : List Row). t ++ rows) none)) sorted) ∙ ap (λ (t : List Row). t ++ rows) none

-- ---- the rows of a base

abbrev pub MayRowMap : RowMap → Type 0
MayRowMap rows = All IsRow (map.entries rows) × (map.len rows ≤ max_rows)

list_to : (rows : List Row) (word : List ℕ) → Spelled MayRows (counted_bytes (to_be_bytes w32) row_bytes) rows word → Spelled MayRowMap rows_bytes (map_of rows) word
list_to rows word is =
    let same = entries_of rows (rising_sorted 0 rows (all_rise (length rows) (0, map.empty) rows is.0.1)) in
    let all = All-from_recursion IsRow rows (all_rows (length rows) (0, map.empty) rows is.0.1) in
    let long : map.len (map_of rows) ≡ length rows = len-entries (map_of rows) ∙ ap length same in (
      (subst (All IsRow) (sym same) all, omega (arith, long, is.0.0.0)),
      is.1 ∙ ap (λ (n : ℕ). to_be_bytes w32 n ++ flat_map row_bytes rows) (sym long) ∙ ap (λ (t : List Row). to_be_bytes w32 (map.len (map_of rows)) ++ flat_map row_bytes t) (sym same),
    )

list_from : (rows : RowMap) (word : List ℕ) → Spelled MayRowMap rows_bytes rows word → (list : List Row) × Spelled MayRows (counted_bytes (to_be_bytes w32) row_bytes) list word × (rows ≡ map_of list)
list_from rows word is =
    let list = map.entries rows in
    let long : map.len rows ≡ length list = len-entries rows in
    let few : length list ≤ max_rows = omega (arith, long, is.0.1) in
    let all = recursion_from_All IsRow list is.0.0 in
    let rise = in_order list (entries_sorted rows) all in (
      list,
      (
        ((inl (omega arith, few), omega (arith, few)), rising_all 0 list rise all few (0, map.empty) (omega arith) (omega arith)),
        is.1 ∙ ap (λ (n : ℕ). to_be_bytes w32 n ++ flat_map row_bytes list) long,
      ),
      same_entries_map rows (map_of list) (sym (entries_of list (entries_sorted rows))),
    )

abbrev mapped : Read (List Row) → Read RowMap
mapped r = r >>= λ p. Ok (map_of p.0, p.1)

abbrev rows_of : Read (ℕ × RowMap) → Read RowMap
rows_of r = r >>= λ s. Ok (s.0.1, s.1)

rows_made : (bytes : List ℕ) → rows_at bytes ≡ mapped (list_at bytes)
rows_made bytes = by_count (number_at (may_be row_counts) 4 0 bytes)
  where
    last : (r : Read (List Row)) → rows_of (behind_items added (0, map.empty) r) ≡ mapped r
    last (Ok p) = refl
    last (Err left) = refl

    by_count : (r : Read ℕ) → (r >>= λ count. rows_of (through_at row_step count.0 (0, map.empty) count.1)) ≡ mapped (r >>= λ p. items_at row_in added p.0 (0, map.empty) p.1)
    by_count (Err left) = refl
    by_count (Ok count) = ap rows_of (through_items row_in added count.0 (0, map.empty) count.1) ∙ last (items_at row_in added count.0 (0, map.empty) count.1)

pub rows_read : Reading (Spelled MayRowMap rows_bytes) rows_at
rows_read =
    let listed : Reading (Spelled MayRowMap rows_bytes) (λ bytes. mapped (list_at bytes)) = made_reads (Spelled MayRows (counted_bytes (to_be_bytes w32) row_bytes)) (Spelled MayRowMap rows_bytes) list_at map_of list_reads list_to list_from in
    subst (Reading (Spelled MayRowMap rows_bytes)) (λ i bytes. sym (rows_made bytes) i) listed

pub no_row_map : (rows : RowMap) × MayRowMap rows
no_row_map = (map.empty, (subst (All IsRow) (sym none) (λ k d lt. absurd (omega (arith, lt))), omega (arith, len-empty int_cmp (List ℕ))))
