-- One child less.
use Rattle.std.{proofs.{Common.{◌≡◌, Bool, true, false, ℕ, ◌+◌, ◌-◌, ◌<◌, ◌≤◌, List, length, take, refl, sym, ◌∙◌, ap, arith}, lemmas.{Bool.Decides.nat_tests, Grind.get_or_default_zero, List.{take_all, Sums.{sum_by-le, sum_by-swap_remove, sum_by_more}}}}, specs.{Prelude.{cond, nat_eq, slice_index_or}, List.swap_remove}}
use Rattle.pm_store_apart.specs.Children.{once, times_in}

none_here : (pid other : ℕ) → (other ≡ pid → ⊥) → once pid other ≡ 0
none_here pid other differs = grind (arith, nat_tests, differs)

-- the next one is another
pub none_further : (pid other : ℕ) (pids : List ℕ) (at : ℕ) → at < length pids → other ≡ slice_index_or pids at other → (other ≡ pid → ⊥) → times_in pid (take at pids) ≡ 0 → times_in pid (take (at + 1) pids) ≡ 0
none_further pid other pids at lt is differs none =
    omega (arith, sum_by_more (once pid) pids at other lt, none, ap (once pid) (sym is), none_here pid other differs)

-- it isn't among them at all
pub not_among : (pid : ℕ) (pids : List ℕ) (at : ℕ) → length pids ≤ at → times_in pid (take at pids) ≡ 0 → times_in pid pids ≡ 0
not_among pid pids at le none = sym (ap (times_in pid) (take_all at pids le)) ∙ none

-- then none of them is one less
pub none_at_all : (pid : ℕ) (pids : List ℕ) (at : ℕ) → length pids ≤ at → times_in pid (take at pids) ≡ 0
    → (who : ℕ) → times_in who pids ≡ cond (nat_eq who pid) (times_in who pids - 1) (times_in who pids)
none_at_all pid pids at le none who = each (nat_eq who pid) refl
  where
    nobody : times_in pid pids ≡ 0
    nobody = not_among pid pids at le none

    each : (b : Bool) → nat_eq who pid ≡ b → times_in who pids ≡ cond b (times_in who pids - 1) (times_in who pids)
    each false is = refl
    each true is =
        let same : who ≡ pid = grind (arith, nat_tests, is) in
        omega (arith, ap (λ (n : ℕ). times_in n pids) same, nobody)

-- it was found, and is taken out
pub taken_out : (pid found : ℕ) (pids : List ℕ) (at : ℕ) → at < length pids → found ≡ slice_index_or pids at found → found ≡ pid
    → (who : ℕ) → times_in who (swap_remove pids at found) ≡ cond (nat_eq who pid) (times_in who pids - 1) (times_in who pids)
taken_out pid found pids at lt is same who = each (nat_eq who pid) refl
  where
    less : times_in who (swap_remove pids at found) + once who pid ≡ times_in who pids
    less = omega (arith, sum_by-swap_remove (once who) pids at found lt, ap (once who) (sym is ∙ same))

    each : (b : Bool) → nat_eq who pid ≡ b → times_in who (swap_remove pids at found) ≡ cond b (times_in who pids - 1) (times_in who pids)
    each true is =
        let one : once who pid ≡ 1 = ap (λ (b : Bool). cond {A = ℕ} b 1 0) is in
        omega (arith, less, one)
    each false is =
        let none : once who pid ≡ 0 = ap (λ (b : Bool). cond {A = ℕ} b 1 0) is in
        omega (arith, less, none)

-- an element within the list is read the same with any default
pub same_get : (pids : List ℕ) (at one other : ℕ) → at < length pids → slice_index_or pids at one ≡ slice_index_or pids at other
same_get pids at one other lt = get_or_default_zero pids at one lt ∙ sym (get_or_default_zero pids at other lt)

once_at_most : (pid other : ℕ) → once pid other ≤ 1
once_at_most pid other = each (nat_eq pid other)
  where
    each : (b : Bool) → cond b 1 0 ≤ 1
    each true = omega arith
    each false = omega arith

-- a child is inside no more often than all of them are
pub times_within : (pid : ℕ) (pids : List ℕ) → times_in pid pids ≤ length pids
times_within pid pids = omega (arith, sum_by-le (once pid) 1 pids (λ k d lt. once_at_most pid _))
