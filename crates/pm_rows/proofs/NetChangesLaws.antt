-- The net of a commit, change by change, and what it makes of rows.
use Rattle.std.{proofs.{Common.{◌≡◌, ℕ, ℤ, ◌+◌, ◌<◌, Bool, true, false, cond, List, [], length, Option, Some, take, get_or, refl, sym, ap, ◌∙◌, unwrap_or}, lemmas.{Cmp.eq_by_cmp_equiv, List.Sums.fold_more}}, specs.{Ordering.int_cmp, Cmp.int_cmp_total, Map.lookup, BTreeMap.{IsOrdered, Updates, is_at}}}
use Rattle.std.specs.FinMap as map
use Rattle.std.specs.BTreeMap as tree
use Rattle.pm_rows.{specs.{declared.commit.Change.Change, Fold.{changed, committed, key_of, value_left}, NetChanges.{NetChanges, IsNet}}, proofs.FoldLaws.{get-changed, same_key}}

-- no change leaves everything as it was
pub net_none : (net : NetChanges) → IsOrdered int_cmp net → net.entries ≡ [] → IsNet [] net
net_none net h e = record { ordered = h; left = λ before key. ap (λ es. unwrap_or (lookup (is_at (int_cmp key)) es) (map.get before key)) (sym e) }

chosen : {X : Type 0} (b : Bool) (w v : X) (o : Option X) → cond b w (unwrap_or o v) ≡ unwrap_or (cond b (Some w) o) v
chosen true w v o = refl
chosen false w v o = refl

-- one more change, stored as its key and what it leaves there
pub net_more : (changes : List Change) (i : ℕ) (change : Change) (net next : NetChanges) → IsNet (take i changes) net → i < length changes → get_or changes i change ≡ change
    → IsOrdered int_cmp next → (key : ℤ) (left : Option (List ℕ)) → key ≡ key_of change → left ≡ value_left change → Updates int_cmp net next key (Some left) → IsNet (take (i + 1) changes) next
net_more changes i change net next is inside at h key left same_place same_value u = record {
  ordered = h;
  left = λ before q.
      let rows = committed before (take i changes) in
      ap (λ rows. map.get rows q) (fold_more changed before changes i change inside ∙ ap (changed rows) at)
      ∙ get-changed rows change q
      ∙ ap (λ k. cond (same_key q k) (value_left change) (map.get rows q)) (sym same_place)
      ∙ ap (λ w. cond (same_key q key) w (map.get rows q)) (sym same_value)
      ∙ ap (cond (same_key q key) left) (is.left before q)
      ∙ chosen (same_key q key) left (map.get before q) (tree.get int_cmp net q)
      ∙ ap (λ o. unwrap_or o (map.get before q)) (ap (λ b. cond b (Some left) (tree.get int_cmp net q)) ((eq_by_cmp_equiv int_cmp_total).symm q key) ∙ sym (u.0 q));
}
