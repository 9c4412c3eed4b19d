use Rattle.std.proofs.Common.{◌≡◌, ℕ, zero, suc, ◌+◌, List, [], ◌∷◌, ◌++◌, None, map, replicate, sym, refl, ap, ◌∙◌, arith, append_assoc, append-nil}
use Rattle.pm_halves.specs.declared.lot.Lot.TheVariants.{First, Second}
use Rattle.pm_halves.proofs.table.vacant_lots.Goals as goal

-- one more of the same
module _ {A B : Type 0} (f : A → B) (x : A) where
  one_more : (n : ℕ) → map f (replicate (suc n) x) ≡ map f (replicate n x) ++ f x ∷ []
  one_more zero = refl
  one_more (suc n) = ap (λ (l : List B). f x ∷ l) (one_more n)

  after : (n : ℕ) → map f (replicate n x) ++ f x ∷ [] ≡ map f (replicate (n + 1) x)
  after n = sym (one_more n) ∙ ap (λ (k : ℕ). map f (replicate k x)) (let e : suc n ≡ n + 1 = omega arith in e)

pub loop-init : goal.loop-init
loop-init g c = c.new-lots.ensures.items

pub loop-preserved : goal.loop-preserved
loop-preserved g c = c.in_ok-push.ensures.items ∙ (ap (λ l. l ++ First None ∷ []) c.loop.invariant ∙ after First None c.loop.counter)

pub loop-2-init : goal.loop-2-init
loop-2-init g c =
    let all : c.loop.counter ≡ c.args.firsts = omega arith in c.loop.invariant ∙ (ap (λ n. map First (replicate n None)) all ∙ sym (append-nil (map First (replicate c.args.firsts None))))

pub loop-2-preserved : goal.loop-2-preserved
loop-2-preserved g c =
    c.in_ok-push-2.ensures.items ∙ (ap (λ l. l ++ Second None ∷ []) c.loop-2.invariant ∙ (append_assoc (map First (replicate c.args.firsts None)) (map Second (replicate c.loop-2.counter None)) (Second None ∷ [])
    ∙ ap (λ l. map First (replicate c.args.firsts None) ++ l) (after Second None c.loop-2.counter)))

pub returns : goal.returns
returns g c =
    let all : c.loop-2.counter ≡ c.args.seconds = omega arith in c.loop-2.invariant ∙ ap (λ n. map First (replicate c.args.firsts None) ++ map Second (replicate n None)) all
