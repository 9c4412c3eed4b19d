use Rattle.std.{proofs.Common.{◌≡◌, ℕ, ◌-◌, ◌<◌, List, length, refl, sym, ◌∙◌, ap, subst, arith}, specs.Prelude.{cond, nat_eq}}
use Rattle.pm_store_apart.{specs.Children.times_in, proofs.Removals.{none_at_all, none_further, not_among, same_get, taken_out}}
use Rattle.pm_store_apart.proofs.children.Children.remove.Goals as goal

pub loop-at-init : goal.loop-at-init
loop-at-init c = (refl, refl)

pub returns-then-index-pid-clause-times : goal.returns-then-index-pid-clause-times
returns-then-index-pid-clause-times c =
    let pids = c.loop-at.self-inside.pids.items in
    let is : pids ≡ c.args.self.now = c.loop-at.invariant.0 ∙ c.self.view_is in
    subst (λ (l : List ℕ). (who : ℕ) → times_in who c.swap_remove.new.self.items ≡ cond (nat_eq who c.args.pid) (times_in who l - 1) (times_in who l)) is
    (subst (λ (l : List ℕ). (who : ℕ) → times_in who l ≡ cond (nat_eq who c.args.pid) (times_in who pids - 1) (times_in who pids)) (sym c.swap_remove.ensures.items)
    (taken_out c.args.pid c.swap_remove.result pids c.loop-at.at (within c) c.swap_remove.ensures.value (found c)))
  where
    within : (c : goal.After-swap_remove) → c.loop-at.at < length c.loop-at.self-inside.pids.items
    within c = omega (arith, c.loop-at-test.true, c.len-at-end.ensures, ap length c.loop-at.invariant.0)

    found : (c : goal.After-swap_remove) → c.swap_remove.result ≡ c.args.pid
    found c = c.swap_remove.ensures.value ∙ same_get c.loop-at.self-inside.pids.items c.loop-at.at c.swap_remove.result c.index.result.now (within c) ∙ sym c.index.ensures ∙ c.if-index-pid.true

pub loop-at-preserved : goal.loop-at-preserved
loop-at-preserved c = (c.loop-at.invariant.0, none_further c.args.pid c.index.result.now c.loop-at.self-inside.pids.items c.loop-at.at (omega (arith, c.loop-at-test.true, c.len-at-end.ensures, ap length c.loop-at.invariant.0)) c.index.ensures c.if-index-pid.false c.loop-at.invariant.1)

pub returns-clause-times : goal.returns-clause-times
returns-clause-times c =
    let pids = c.loop-at.self-inside.pids.items in
    let is : pids ≡ c.args.self.now = c.loop-at.invariant.0 ∙ c.self.view_is in
    subst (λ (l : List ℕ). (who : ℕ) → times_in who pids ≡ cond (nat_eq who c.args.pid) (times_in who l - 1) (times_in who l)) is
    (none_at_all c.args.pid pids c.loop-at.at (omega (arith, c.loop-at-test.false, c.len-at-end.ensures, ap length c.loop-at.invariant.0)) c.loop-at.invariant.1)

pub returns-then-index-pid-clause-fewer : goal.returns-then-index-pid-clause-fewer
returns-then-index-pid-clause-fewer c = λ there. omega (arith, c.swap_remove.ensures.len, ap length c.loop-at.invariant.0, ap length c.self.view_is)

pub returns-clause-fewer : goal.returns-clause-fewer
returns-clause-fewer c = λ there.
    let pids = c.loop-at.self-inside.pids.items in
    let is : pids ≡ c.args.self.now = c.loop-at.invariant.0 ∙ c.self.view_is in
    let none = not_among c.args.pid pids c.loop-at.at (omega (arith, c.loop-at-test.false, c.len-at-end.ensures, ap length c.loop-at.invariant.0)) c.loop-at.invariant.1 in
    absurd (omega (arith, there, none, ap (times_in c.args.pid) is))
