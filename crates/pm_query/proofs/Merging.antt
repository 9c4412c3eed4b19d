-- How rows in order and changes over them become one list, from the front on.
use Rattle.std.{proofs.Common.{◌≡◌, ℕ, ℤ, Bool, true, false, cond, not, T, List, [], ◌∷◌, ◌++◌, Option, Some, None, refl, sym, ap, subst, ◌∙◌, append_assoc}, specs.{declared.cmp.Ordering.TheVariants.{Less, Equal, Greater}, Ordering.{int_cmp, eq_by_cmp, is_lt, is_eq, ordering_reverse}, Cmp.{int_cmp_total, tied_itself}, Map.Iter.TakesFirst, FinMap.{is_sorted, int_cmp-IsAntisymmetric, Entries.{below_all, by_order, put, where_key}}}}
use Rattle.pm_rows.specs.pm_facts.{Bools.{hold_both, holds_first, holds_second}, Orders.{is_less, less_is}}
use Rattle.pm_query.specs.{Answer.row_at, Merge.{put_or_drop, laid}}

-- what is left where one item was taken ahead
abbrev pub left : {A X : Type 0} → (A → X) → Option A → List X → List X
left shows None rest = []
left shows (Some ahead) rest = shows ahead ∷ rest

pub left-taken : {A X : Type 0} (shows : A → X) (before after : List X) (taken : Option A) → TakesFirst shows before taken after → left shows taken after ≡ before
left-taken shows before after None h = sym h.0
left-taken shows before after (Some ahead) h = sym h

-- what is merged so far, and then what is left of both, is the whole
pub record IsMerging (rows : List (ℤ × List ℕ)) (changes : List (ℤ × Option (List ℕ))) (pairs all : List (ℤ × List ℕ)) : Type 0 where
  pub whole : pairs ++ laid rows changes ≡ all
  pub rows_rise : T (is_sorted int_cmp rows)
  pub changes_rise : T (is_sorted int_cmp changes)

-- the order turned round
more : (x y : ℤ) → int_cmp x y ≡ Less → int_cmp y x ≡ Greater
more x y e = int_cmp_total.antisymm y x ∙ ap ordering_reverse e

module _ {X : Type 0} where
  -- a key below the first is below all
  pub below-first : (key first : ℤ) (es : List (ℤ × X)) → int_cmp key first ≡ Less → T (below_all int_cmp first es) → T (below_all int_cmp key es)
  below-first key first [] p h = tt
  below-first key first (e ∷ es) p h =
      hold_both _ _ (less_is _ (int_cmp_total.trans key first e.0 p (is_less _ (holds_first _ _ h)))) (below-first key first es p (holds_second _ _ h))

  below_put : (low key : ℤ) (value : X) (es : List (ℤ × X)) → T (is_lt (int_cmp low key)) → T (below_all int_cmp low es) → T (below_all int_cmp low (put int_cmp key value es))
  below_put low key value [] p h = hold_both _ _ p tt
  below_put low key value (e ∷ es) p h =
      elim (int_cmp key e.0) as (λ r. T (below_all int_cmp low (by_order r ((key, value) ∷ e ∷ es) ((e.0, value) ∷ es) (e ∷ put int_cmp key value es)))) [
        | Less ↦ hold_both _ _ p h
        | Equal ↦ h
        | Greater ↦ hold_both _ _ (holds_first _ _ h) (below_put low key value es p (holds_second _ _ h))
      ]

  below_where : (low : ℤ) (test : ℤ → Bool) (es : List (ℤ × X)) → T (below_all int_cmp low es) → T (below_all int_cmp low (where_key int_cmp test es))
  below_where low test [] h = tt
  below_where low test (e ∷ es) h =
      let rest = below_where low test es (holds_second _ _ h) in
      elim (test e.0) as (λ b. T (below_all int_cmp low (cond b (e ∷ where_key int_cmp test es) (where_key int_cmp test es)))) [ true ↦ hold_both _ _ (holds_first _ _ h) rest | false ↦ rest ]

  -- a key below all goes to the front
  put-front : (key : ℤ) (value : X) (es : List (ℤ × X)) → T (below_all int_cmp key es) → put int_cmp key value es ≡ (key, value) ∷ es
  put-front key value [] h = refl
  put-front key value (e ∷ es) h = ap (λ r. by_order r ((key, value) ∷ e ∷ es) ((e.0, value) ∷ es) (e ∷ put int_cmp key value es)) (is_less _ (holds_first _ _ h))

  -- and there is none of it to drop
  drop-front : (key : ℤ) (es : List (ℤ × X)) → T (below_all int_cmp key es) → where_key int_cmp (λ other. not (eq_by_cmp int_cmp key other)) es ≡ es
  drop-front key [] h = refl
  drop-front key (e ∷ es) h =
      ap (λ r. cond (not (is_eq r)) (e ∷ where_key int_cmp (λ other. not (eq_by_cmp int_cmp key other)) es) (where_key int_cmp (λ other. not (eq_by_cmp int_cmp key other)) es)) (is_less _ (holds_first _ _ h))
      ∙ ap (λ rest. e ∷ rest) (drop-front key es (holds_second _ _ h))

below_changed : (low : ℤ) (change : ℤ × Option (List ℕ)) (es : List (ℤ × List ℕ)) → T (is_lt (int_cmp low change.0)) → T (below_all int_cmp low es) → T (below_all int_cmp low (put_or_drop change es))
below_changed low (key, Some value) es p h = below_put low key value es p h
below_changed low (key, None) es p h = below_where low (λ other. not (eq_by_cmp int_cmp key other)) es h

below_laid : (low : ℤ) (es : List (ℤ × List ℕ)) (cs : List (ℤ × Option (List ℕ))) → T (below_all int_cmp low es) → T (below_all int_cmp low cs) → T (below_all int_cmp low (laid es cs))
below_laid low es [] h g = h
below_laid low es (c ∷ cs) h g = below_changed low c (laid es cs) (holds_first _ _ g) (below_laid low es cs h (holds_second _ _ g))

-- a change above a row leaves it in front
change-behind : (e : ℤ × List ℕ) (change : ℤ × Option (List ℕ)) (es : List (ℤ × List ℕ)) → int_cmp e.0 change.0 ≡ Less → put_or_drop change (e ∷ es) ≡ e ∷ put_or_drop change es
change-behind e (key, Some value) es p = ap (λ r. by_order r ((key, value) ∷ e ∷ es) ((e.0, value) ∷ es) (e ∷ put int_cmp key value es)) (more e.0 key p)
change-behind e (key, None) es p = ap (λ r. cond (not (is_eq r)) (e ∷ where_key int_cmp (λ other. not (eq_by_cmp int_cmp key other)) es) (where_key int_cmp (λ other. not (eq_by_cmp int_cmp key other)) es)) (more e.0 key p)

-- a change below all rows
change-front : (change : ℤ × Option (List ℕ)) (es : List (ℤ × List ℕ)) → T (below_all int_cmp change.0 es) → put_or_drop change es ≡ row_at change.0 change.1 ++ es
change-front (key, Some value) es h = put-front key value es h
change-front (key, None) es h = drop-front key es h

-- a change at the first row
change-at : (key : ℤ) (old : List ℕ) (new : Option (List ℕ)) (es : List (ℤ × List ℕ)) → T (below_all int_cmp key es) → put_or_drop (key, new) ((key, old) ∷ es) ≡ row_at key new ++ es
change-at key old (Some new) es h = ap (λ r. by_order r ((key, new) ∷ (key, old) ∷ es) ((key, new) ∷ es) ((key, old) ∷ put int_cmp key new es)) (tied_itself int_cmp_total key)
change-at key old None es h =
    ap (λ r. cond (not (is_eq r)) ((key, old) ∷ where_key int_cmp (λ other. not (eq_by_cmp int_cmp key other)) es) (where_key int_cmp (λ other. not (eq_by_cmp int_cmp key other)) es)) (tied_itself int_cmp_total key)
    ∙ drop-front key es h

laid-row : (e : ℤ × List ℕ) (es : List (ℤ × List ℕ)) (cs : List (ℤ × Option (List ℕ))) → T (below_all int_cmp e.0 cs) → laid (e ∷ es) cs ≡ e ∷ laid es cs
laid-row e es [] h = refl
laid-row e es (c ∷ cs) h = ap (put_or_drop c) (laid-row e es cs (holds_second _ _ h)) ∙ change-behind e c (laid es cs) (is_less _ (holds_first _ _ h))

-- the three steps of a merge: the row comes first, the change does, or both are at one key
pub row_first : (e : ℤ × List ℕ) (es : List (ℤ × List ℕ)) (cs : List (ℤ × Option (List ℕ))) (pairs all : List (ℤ × List ℕ)) → T (below_all int_cmp e.0 cs)
    → IsMerging (e ∷ es) cs pairs all → IsMerging es cs (pairs ++ e ∷ []) all
row_first e es cs pairs all h is = record {
  whole = append_assoc pairs (e ∷ []) (laid es cs) ∙ ap (λ rest. pairs ++ rest) (sym (laid-row e es cs h)) ∙ is.whole;
  rows_rise = holds_second _ _ is.rows_rise;
  changes_rise = is.changes_rise;
}

pub change_first : (c : ℤ × Option (List ℕ)) (es : List (ℤ × List ℕ)) (cs : List (ℤ × Option (List ℕ))) (pairs all : List (ℤ × List ℕ)) → T (below_all int_cmp c.0 es)
    → IsMerging es (c ∷ cs) pairs all → IsMerging es cs (pairs ++ row_at c.0 c.1) all
change_first c es cs pairs all h is = record {
  whole = append_assoc pairs (row_at c.0 c.1) (laid es cs) ∙ ap (λ rest. pairs ++ rest) (sym (change-front c (laid es cs) (below_laid c.0 es cs h (holds_first _ _ is.changes_rise)))) ∙ is.whole;
  rows_rise = is.rows_rise;
  changes_rise = holds_second _ _ is.changes_rise;
}

pub both_first : (key : ℤ) (old : List ℕ) (new : Option (List ℕ)) (es : List (ℤ × List ℕ)) (cs : List (ℤ × Option (List ℕ))) (pairs all : List (ℤ × List ℕ))
    → IsMerging ((key, old) ∷ es) ((key, new) ∷ cs) pairs all → IsMerging es cs (pairs ++ row_at key new) all
both_first key old new es cs pairs all is =
    let rows = holds_first _ _ is.rows_rise in
    let changes = holds_first _ _ is.changes_rise in record {
      whole = append_assoc pairs (row_at key new) (laid es cs)
          ∙ ap (λ rest. pairs ++ rest) (sym (ap (put_or_drop (key, new)) (laid-row (key, old) es cs changes) ∙ change-at key old new (laid es cs) (below_laid key es cs rows changes)))
          ∙ is.whole;
      rows_rise = holds_second _ _ is.rows_rise;
      changes_rise = holds_second _ _ is.changes_rise;
    }

-- a key below the item that was taken ahead is below all that is left
pub below_ahead : {A X : Type 0} (shows : A → ℤ × X) (ahead : Option A) (rest : List (ℤ × X)) (key : ℤ) (next : A) → ahead ≡ Some next → int_cmp key (shows next).0 ≡ Less
    → T (is_sorted int_cmp (left shows ahead rest)) → T (below_all int_cmp key (left shows ahead rest))
below_ahead shows ahead rest key next e p h =
    let rises = subst (λ o. T (is_sorted int_cmp (left shows o rest))) e h in
    subst (λ o. T (below_all int_cmp key (left shows o rest))) (sym e) (hold_both _ _ (less_is _ p) (below-first key (shows next).0 rest p (holds_first _ _ rises)))

pub below_none : {A X : Type 0} (shows : A → ℤ × X) (ahead : Option A) (rest : List (ℤ × X)) (key : ℤ) → ahead ≡ None → T (below_all int_cmp key (left shows ahead rest))
below_none shows ahead rest key e = subst (λ o. T (below_all int_cmp key (left shows o rest))) (sym e) tt

module _ {A : Type 0} (shows : A → ℤ × List ℕ) (row taken : Option A) (rows after : List (ℤ × List ℕ)) (next : A) (was : row ≡ Some next) (takes : TakesFirst shows rows taken after) where
  -- the row was added, and the next one is taken ahead
  pub take_row : (changes : List (ℤ × Option (List ℕ))) (pairs new all : List (ℤ × List ℕ)) → T (below_all int_cmp (shows next).0 changes) → new ≡ pairs ++ shows next ∷ []
      → IsMerging (left shows row rows) changes pairs all → IsMerging (left shows taken after) changes new all
  take_row changes pairs new all h n is =
      let ahead = subst (λ o. IsMerging (left shows o rows) changes pairs all) was is in
      let added = subst (λ ps. IsMerging rows changes ps all) (sym n) (row_first (shows next) rows changes pairs all h ahead) in
      subst (λ rs. IsMerging rs changes new all) (sym (left-taken shows rows after taken takes)) added

module _ {A : Type 0} (shows : A → ℤ × Option (List ℕ)) (change taken : Option A) (changes after : List (ℤ × Option (List ℕ))) (next : A) (was : change ≡ Some next) (takes : TakesFirst shows changes taken after) where
  -- the changed row was added, if it has one, and the next change is taken ahead
  pub take_change : (rows : List (ℤ × List ℕ)) (pairs new all : List (ℤ × List ℕ)) → T (below_all int_cmp (shows next).0 rows) → new ≡ pairs ++ row_at (shows next).0 (shows next).1
      → IsMerging rows (left shows change changes) pairs all → IsMerging rows (left shows taken after) new all
  take_change rows pairs new all h n is =
      let ahead = subst (λ o. IsMerging rows (left shows o changes) pairs all) was is in
      let added = subst (λ ps. IsMerging rows changes ps all) (sym n) (change_first (shows next) rows changes pairs all h ahead) in
      subst (λ cs. IsMerging rows cs new all) (sym (left-taken shows changes after taken takes)) added

-- a change at the key of the row takes its place
pub take_both : {A B : Type 0} (shows : A → ℤ × List ℕ) (tells : B → ℤ × Option (List ℕ)) (row taken : Option A) (change told : Option B) (rows after : List (ℤ × List ℕ)) (changes later : List (ℤ × Option (List ℕ)))
    (next : A) (next_change : B) (pairs new all : List (ℤ × List ℕ)) → row ≡ Some next → change ≡ Some next_change → TakesFirst shows rows taken after → TakesFirst tells changes told later
    → int_cmp (shows next).0 (tells next_change).0 ≡ Equal → new ≡ pairs ++ row_at (tells next_change).0 (tells next_change).1
    → IsMerging (left shows row rows) (left tells change changes) pairs all → IsMerging (left shows taken after) (left tells told later) new all
take_both shows tells row taken change told rows after changes later next next_change pairs new all was is takes gives same n h =
    let ahead = subst (λ o. IsMerging (left shows row rows) (left tells o changes) pairs all) is h in
    let both = subst (λ o. IsMerging (left shows o rows) (tells next_change ∷ changes) pairs all) was ahead in
    let key = int_cmp-IsAntisymmetric _ _ same in
    let tied : IsMerging (((tells next_change).0, (shows next).1) ∷ rows) (tells next_change ∷ changes) pairs all = subst (λ k. IsMerging ((k, (shows next).1) ∷ rows) (tells next_change ∷ changes) pairs all) key both in
    let added = subst (λ ps. IsMerging rows changes ps all) (sym n) (both_first (tells next_change).0 (shows next).1 (tells next_change).1 rows changes pairs all tied) in
    subst (λ rs. IsMerging rs (left tells told later) new all) (sym (left-taken shows rows after taken takes))
    (subst (λ cs. IsMerging rows cs new all) (sym (left-taken tells changes later told gives)) added)
