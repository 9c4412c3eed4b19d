-- How one table is held.
use Rattle.std.{proofs.{Common.{◌≡◌, ℕ, Bool, true, false, cond, T, List, Option, Some, None, Result, Ok, Err, IsSome, is_some, OnOk, OnSome, IfNone, refl, sym, ap, subst, ◌∙◌}, lemmas.Cmp.{eq_by_cmp_equiv, nat_list_cmp_total}}, specs.FinMap.{empty, get, get_tied, insert}}
use Rattle.pm_rows.specs.{declared.commit.Change.{Change as RowChange}, Fold.{RowMap}}
use Rattle.pm_tables.{specs.{declared.{fate.Fate.TheVariants.{Changed, Gone}, held.Held.TheVariants.{Replaced}}, Tables.TableMap, Fates.left_by, Held.IsHeld}, proofs.{ByItself.{same_name, get-with, tied}, Sums.{remove-missing, same_tables}}}

-- ---- where something is found, and where nothing is

pub there : {X : Type 0} {P : Type 0} (w : Option X) → IsSome w → OnSome w P → P
there None some p = absurd (subst T (sym some) tt)
there (Some x) some p = p

pub missing : {X : Type 0} (w : Option X) → is_some w ≡ false → w ≡ None
missing None none = refl
missing (Some x) none = absurd (subst T none tt)

pub not_some : {X : Type 0} (w : Option X) → ((x : X) → w ≡ Some x → ⊥) → w ≡ None
not_some None none = refl
not_some (Some x) none = absurd (none x refl)

pub on_ok : {X Y P Q : Type 0} (r : Result X Y) → (P → Q) → OnOk r P → OnOk r Q
on_ok (Ok x) f p = f p
on_ok (Err y) f p = tt

-- ---- one table

-- a table that goes, or isn't there
pub held_dropped : (now next : TableMap) (name : List ℕ) (was : Option RowMap) (rows : RowMap) → was ≡ get now name → OnSome was (next ≡ insert now name rows) → IfNone was (next ≡ now) → rows ≡ empty → IsHeld now name Gone next (Replaced was None)
held_dropped now next name None rows is some none blank = record { before_is = is; after_is = refl; now_is = none ∙ sym (remove-missing now name (sym is)) }
held_dropped now next name (Some old) rows is some none blank = record { before_is = is; after_is = refl; now_is = some ∙ ap (insert now name) blank }

-- a change of rows that aren't there
pub held_missing : (now next : TableMap) (name : List ℕ) (was : Option RowMap) (changes : List RowChange) → was ≡ None → was ≡ get now name → IfNone was (next ≡ now) → IsHeld now name (Changed changes) next (Replaced None None)
held_missing now next name None changes missed is none = record { before_is = is; after_is = left; now_is = none ∙ sym (remove-missing now name (sym is)) } where
  left : None ≡ left_by (Changed changes) (get now name)
  left = ap (left_by (Changed changes)) is
held_missing now next name (Some old) changes missed is none = absurd (subst T (ap is_some missed) tt)

itself : (name : List ℕ) → same_name name name ≡ true
itself name = (eq_by_cmp_equiv nat_list_cmp_total).refl name

cases : {P : Type 0} (b : Bool) → (b ≡ true → P) → (b ≡ false → P) → P
cases true if_so if_not = if_so refl
cases false if_so if_not = if_not refl

-- rows that are taken out, and put back in place of others
pub put_back : (now mid next : TableMap) (name : List ℕ) (old blank again : RowMap) (was : Option RowMap) → Some old ≡ get now name → mid ≡ insert now name blank → was ≡ get mid name → OnSome was (next ≡ insert mid name again) → again ≡ old → next ≡ now
put_back now mid next name old blank again was old_is mid_is was_is some again_is =
    let here : get mid name ≡ Some blank = ap (λ m. get m name) mid_is ∙ get-with now name (Some blank) name ∙ ap (λ b. cond b (Some blank) (get now name)) (itself name) in
    let next_is : next ≡ insert mid name old = there was (ap is_some (was_is ∙ here)) some ∙ ap (insert mid name) again_is in
    same_tables next now (λ q.
    ap (λ m. get m q) next_is ∙ get-with mid name (Some old) q
    ∙ cases (same_name q name)
    (λ same. ap (λ b. cond b (Some old) (get mid q)) same ∙ old_is ∙ get_tied nat_list_cmp_total now q name (tied q name (subst T (sym same) tt)))
    (λ apart. ap (λ b. cond b (Some old) (get mid q)) apart ∙ ap (λ m. get m q) mid_is ∙ get-with now name (Some blank) q ∙ ap (λ b. cond b (Some blank) (get now q)) apart))
