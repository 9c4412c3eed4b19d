-- What changes over rows make of them.
use Rattle.std.{proofs.Common.{◌≡◌, ℕ, ℤ, Bool, true, false, cond, List, [], ◌∷◌, Option, Some, None, unwrap_or, refl, sym, ap, subst, ◌∙◌}, specs.{Ordering.{int_cmp, eq_by_cmp}, Cmp.{int_cmp_total, eq_by_cmp_equiv}, FinMap.{get, get-insert, get-remove}, Map.lookup, BTreeMap.{BTreeMap, is_at, Updates}}}
use Rattle.std.specs.BTreeMap as tree
use Rattle.pm_rows.{specs.Fold.RowMap, proofs.RowLaws.same_rows}
use Rattle.pm_query.specs.Changes.{left_at, laid_over}

pub get-left_at : (rows : RowMap) (key : ℤ) (value : Option (List ℕ)) (q : ℤ) → get (left_at rows key value) q ≡ cond (eq_by_cmp int_cmp q key) value (get rows q)
get-left_at rows key None q = get-remove int_cmp_total rows key q
get-left_at rows key (Some value) q = get-insert int_cmp_total rows key value q

unwrap_cond : {X : Type 0} (b : Bool) (x : X) (o : Option X) (d : X) → unwrap_or (cond b (Some x) o) d ≡ cond b x (unwrap_or o d)
unwrap_cond true x o d = refl
unwrap_cond false x o d = refl

-- a key has what the changes leave there, and else what it had
pub get-laid_over : (rows : RowMap) (entries : List (ℤ × Option (List ℕ))) (q : ℤ) → get (laid_over rows entries) q ≡ unwrap_or (lookup (is_at (int_cmp q)) entries) (get rows q)
get-laid_over rows [] q = refl
get-laid_over rows (e ∷ es) q =
    get-left_at (laid_over rows es) e.0 e.1 q
    ∙ ap (cond (eq_by_cmp int_cmp q e.0) e.1) (get-laid_over rows es q)
    ∙ sym (unwrap_cond (eq_by_cmp int_cmp q e.0) e.1 (lookup (is_at (int_cmp q)) es) (get rows q))

-- one more change
pub laid_over-update : (rows : RowMap) (m n : BTreeMap ℤ (Option (List ℕ))) (key : ℤ) (value : Option (List ℕ)) → Updates int_cmp m n key (Some value)
    → laid_over rows n.entries ≡ left_at (laid_over rows m.entries) key value
laid_over-update rows m n key value u = same_rows _ _ (λ q.
    get-laid_over rows n.entries q
    ∙ ap (λ o. unwrap_or o (get rows q)) (u.0 q ∙ ap (λ b. cond b (Some value) (tree.get int_cmp m q)) ((eq_by_cmp_equiv int_cmp_total).symm key q))
    ∙ unwrap_cond (eq_by_cmp int_cmp q key) value (tree.get int_cmp m q) (get rows q)
    ∙ sym (get-left_at (laid_over rows m.entries) key value q ∙ ap (cond (eq_by_cmp int_cmp q key) value) (get-laid_over rows m.entries q)))

-- the same of rows that are known, where the key is stored in another form
pub laid_over-updated : (rows now : RowMap) (m n : BTreeMap ℤ (Option (List ℕ))) (key stored : ℤ) (value : Option (List ℕ)) → laid_over rows m.entries ≡ now → stored ≡ key
    → Updates int_cmp m n stored (Some value) → laid_over rows n.entries ≡ left_at now key value
laid_over-updated rows now m n key stored value is same updates =
    laid_over-update rows m n key value (subst (λ k. Updates int_cmp m n k (Some value)) same updates) ∙ ap (λ r. left_at r key value) is

-- a look-up in the changes decides, and where it finds nothing the rows do
pub get-changed : (rows : RowMap) (changes : BTreeMap ℤ (Option (List ℕ))) (q : ℤ) (value : Option (List ℕ)) → tree.get int_cmp changes q ≡ Some value → get (laid_over rows changes.entries) q ≡ value
get-changed rows changes q value e = get-laid_over rows changes.entries q ∙ ap (λ o. unwrap_or o (get rows q)) e

pub get-unchanged : (rows : RowMap) (changes : BTreeMap ℤ (Option (List ℕ))) (q : ℤ) → tree.get int_cmp changes q ≡ None → get (laid_over rows changes.entries) q ≡ get rows q
get-unchanged rows changes q e = get-laid_over rows changes.entries q ∙ ap (λ o. unwrap_or o (get rows q)) e
