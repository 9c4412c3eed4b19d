-- Lists whose first parts go after, and lists in whose middle something stands.
use Rattle.std.{proofs.Common.{◌≡◌, ℕ, zero, suc, ◌+◌, List, [], ◌∷◌, ◌++◌, length, sym, refl, ap, ◌∙◌, append_assoc, append-nil}, specs.Prelude.{Some, slice_get, remove}}
use Rattle.atomic_table.specs.Table.{turned}
use Rattle.pm_halves.specs.{Halves.carried_as, Places.turned_by}

module _ {A : Type 0} where
  turned_first : (n : ℕ) (l : List (ℕ × A)) → turned_by n (turned l) ≡ turned (turned_by n l)
  turned_first zero l = refl
  turned_first (suc n) l = ap turned (turned_first n l)

  -- as often as there are some in front, these go after the others
  pub rotated : (a b : List (ℕ × A)) → turned_by (length a) (a ++ b) ≡ b ++ a
  rotated [] b = sym (append-nil b)
  rotated (x ∷ a) b = sym (turned_first (length a) (x ∷ (a ++ b))) ∙ (ap (turned_by (length a)) (append_assoc a b (x ∷ [])) ∙ (rotated a (b ++ x ∷ []) ∙ append_assoc b (x ∷ []) a))

  pub rotated_by : (n : ℕ) (a b : List (ℕ × A)) → length a ≡ n → turned_by n (a ++ b) ≡ b ++ a
  rotated_by n a b e = ap (λ k. turned_by k (a ++ b)) (sym e) ∙ rotated a b

module _ {A : Type 0} where
  -- what stands before this one, and what after it
  pub record Parted (l : List A) (i : ℕ) (x : A) : Type 0 where
    pub before : List A
    pub after : List A
    pub whole : l ≡ before ++ x ∷ after
    pub long : length before ≡ i
    pub others : remove l i ≡ before ++ after

  pub parted : (l : List A) (i : ℕ) (x : A) → slice_get l i ≡ Some x → Parted l i x
  parted [] i x e = absurd (cc)
  parted (y ∷ l) zero x e = record { before = []; after = l; whole = (let same : y ≡ x = cc in λ k. same k ∷ l); long = refl; others = refl }
  parted (y ∷ l) (suc i) x e =
      let p = parted l i x e in record {
        before = y ∷ p.before;
        after = p.after;
        whole = ap (λ (z : List A). y ∷ z) p.whole;
        long = ap suc p.long;
        others = ap (λ (z : List A). y ∷ z) p.others;
      }

module _ {X S : Type 0} (of : X → S) (n : ℕ) where
  pub carried-append : (c d : List (ℕ × X)) → carried_as of n (c ++ d) ≡ carried_as of n c ++ carried_as of n d
  carried-append [] d = refl
  carried-append (x ∷ c) d = ap (λ (l : List (ℕ × S)). (n + x.0, of x.1) ∷ l) (carried-append c d)

  pub length-carried : (c : List (ℕ × X)) → length (carried_as of n c) ≡ length c
  length-carried [] = refl
  length-carried (x ∷ c) = ap suc (length-carried c)
