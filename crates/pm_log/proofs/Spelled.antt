-- A base that is spelled piece by piece.
use Rattle.std.{proofs.{Common.{◌≡◌, inl, inr, Bool, cond, ℕ, ℤ, zero, suc, ◌+◌, ◌-◌, ◌≤◌, ◌<◌, false, List, [], ◌∷◌, ◌++◌, length, get_or, take, drop, refl, sym, ◌∙◌, ap, arith, append_assoc, length-append}, lemmas.{Bool.{cases_lt, lt-ltb}, List.{drop_at, drop-drop, drop_more, length-drop, take_at}}}, specs.{List.flat_map, FinMap.{entries, len, len-entries}}}
use Rattle.pm_record.{specs.{pm_rows.{Fold.RowMap, Size.size_of}, Spelling.{base_bytes, header_bytes, row_bytes}}, proofs.SizeLaws.{base_parts, header_long, rows_long}}
use Rattle.pm_log.specs.{Base.{HasSpelled, unspelled, whole_base}, declared.base.Base.Base, Half.{left_in, piece_bytes}, Making.IsPieceOf}

-- one row more is put
pub one_put : (rows : List (ℤ × List ℕ)) (at : ℕ) (row : ℤ × List ℕ) (now then all : List ℕ) → at < length rows → row ≡ get_or rows at row → then ≡ now ++ row_bytes row
    → now ++ flat_map row_bytes (drop at rows) ≡ all → then ++ flat_map row_bytes (drop (at + 1) rows) ≡ all
one_put rows at row now then all lt is put before =
    let rest = drop (at + 1) rows in
    let more : drop at rows ≡ row ∷ rest = drop_more rows at row lt ∙ ap (λ (r : ℤ × List ℕ). r ∷ rest) (sym is) in
    ap (λ (l : List ℕ). l ++ flat_map row_bytes rest) put ∙ append_assoc now (row_bytes row) (flat_map row_bytes rest)
    ∙ ap (λ (l : List (ℤ × List ℕ)). now ++ flat_map row_bytes l) (sym more) ∙ before

-- one pair more is listed
pub one_listed : (pairs then rest left all : List (ℤ × List ℕ)) (row pair : ℤ × List ℕ) → left ≡ row ∷ rest → pair ≡ row → then ≡ pairs ++ pair ∷ [] → pairs ++ left ≡ all → then ++ rest ≡ all
one_listed pairs then rest left all row pair steps is pushed before =
    ap (λ (l : List (ℤ × List ℕ)). l ++ rest) (pushed ∙ ap (λ (p : ℤ × List ℕ). pairs ++ p ∷ []) is) ∙ append_assoc pairs (row ∷ []) rest
    ∙ ap (λ (l : List (ℤ × List ℕ)). pairs ++ l) (sym steps) ∙ before

-- ---- the beginning

-- of the rows of a table it is their base
pub unspelled_is : (base : Base) (rows : RowMap) → base.rows.items ≡ entries rows → unspelled base 0 ≡ base_bytes base.epoch false base.count rows
unspelled_is base rows is =
    ap (λ (l : List (ℤ × List ℕ)). header_bytes base.epoch false base.count (length l) ++ flat_map row_bytes l) is
    ∙ ap (λ (n : ℕ). header_bytes base.epoch false base.count n ++ flat_map row_bytes (entries rows)) (sym (len-entries rows)) ∙ sym (base_parts base.epoch false base.count rows)

pub base_long : (base : Base) (rows : RowMap) → base.rows.items ≡ entries rows → length (whole_base base) ≡ 30 + size_of rows
base_long base rows is =
    let header = header_bytes base.epoch false base.count (len rows) in
    omega (
      arith,
      ap length (unspelled_is base rows is ∙ base_parts base.epoch false base.count rows),
      length-append header (flat_map row_bytes (entries rows)),
      header_long base.epoch false base.count (len rows),
      rows_long rows,
    )

-- ---- a piece

none : (rows : List (ℤ × List ℕ)) → length rows ≡ 0 → length (flat_map row_bytes rows) ≡ 0
none [] is = refl
none (row ∷ rows) is = absurd (omega (arith, is))

none_left : (rows : List (ℤ × List ℕ)) (at : ℕ) → at ≡ length rows → length (flat_map row_bytes (drop at rows)) ≡ 0
none_left rows at is = none (drop at rows) (omega (arith, length-drop at rows, is))

-- the header alone isn't a piece while there are rows
head_ends : (base : Base) (bytes : List ℕ) → HasSpelled base 0 0 bytes → length (flat_map row_bytes (drop 0 base.rows.items)) ≡ 0
head_ends base bytes s =
    let rows = flat_map row_bytes base.rows.items in
    let header = header_bytes base.epoch false base.count (length base.rows.items) in
    let long : length bytes ≡ 29 = omega (arith, ap length s.parts, length-append header rows, length-append bytes rows, header_long base.epoch false base.count (length base.rows.items)) in
    none_left base.rows.items 0 (s.enough (omega (arith, long)))

-- what isn't spelled after that row
after : (base : Base) (next at : ℕ) (bytes : List ℕ) → HasSpelled base next at bytes → 1 ≤ length (flat_map row_bytes (drop at base.rows.items))
    → flat_map row_bytes (drop at base.rows.items) ≡ unspelled base at
after base next (suc at) bytes s some = refl
after base zero zero bytes s some = absurd (omega (arith, some, head_ends base bytes s))
after base (suc next) zero bytes s some = absurd (omega (arith, s.further))

in_base : (base : List ℕ) (from done end : ℕ) → done < length base → left_in base from done end ≡ length base - done
in_base base from done end within = ap (λ (b : Bool). cond b (length base - done) (length base + (end - from) - done)) (lt-ltb done (length base) within)

module _ (base : Base) (next at done : ℕ) (bytes : List ℕ) (before : done < length (whole_base base)) (left : drop done (whole_base base) ≡ unspelled base next) (s : HasSpelled base next at bytes) where
  abbrev rest : List ℕ
  rest = flat_map row_bytes (drop at base.rows.items)

  parts : drop done (whole_base base) ≡ bytes ++ rest
  parts = left ∙ s.parts

  pub spelled_long : done + (length bytes + length rest) ≡ length (whole_base base)
  spelled_long = omega (arith, length-drop done (whole_base base), ap length parts, length-append bytes rest, before)

  -- these bytes are the next ones of the base
  pub spelled_is : bytes ≡ take (length bytes) (drop done (whole_base base))
  spelled_is = sym (ap (λ (l : List ℕ). take (length bytes) l) parts ∙ take_at bytes rest (length bytes) refl)

  -- and what isn't spelled follows them
  pub spelled_left : done + length bytes < length (whole_base base) → drop (done + length bytes) (whole_base base) ≡ unspelled base at
  spelled_left within =
      sym (drop-drop (length bytes) done (whole_base base)) ∙ ap (λ (l : List ℕ). drop (length bytes) l) parts ∙ drop_at bytes rest (length bytes) refl
      ∙ after base next at bytes s (omega (arith, within, spelled_long))

  -- so many are a piece
  pub spelled_piece : (from end : ℕ) → IsPieceOf (left_in (whole_base base) from done end) (length bytes)
  spelled_piece from end =
      let so_many : left_in (whole_base base) from done end ≡ length (whole_base base) - done = in_base (whole_base base) from done end before in
      elim (cases_lt (length bytes) piece_bytes) [
        | inl less ↦
            let all : length rest ≡ 0 = none_left base.rows.items at (s.enough less) in record {
              some = omega (arith, so_many, before);
              enough = omega (arith, so_many, spelled_long, all);
              within = omega (arith, so_many, spelled_long, all);
              few = s.few;
            }
        | inr more ↦ record {
          some = omega (arith, so_many, before);
          enough = omega (arith, more);
          within = omega (arith, so_many, spelled_long);
          few = s.few;
        }
      ]
