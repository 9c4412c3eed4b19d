use Rattle.std.proofs.{lemmas.Result.err_from_is_err_and, Common.{inl, inr, sym, subst, refl, arith, ℕ}}
use Rattle.pm_redo.{specs.Found.IsReason, proofs.{FileLaws.not_closed, Redos.{Tells, not_damaged, finds_one, finds_two, only_greater, only_one, pair_of, shut_of}}}
use Rattle.pm_record.specs.{declared.{fault.RedoFault.RedoFault, found.Contents.TheVariants.Standing}, pm_disk.declared.disk.Which.TheVariants.{A, B}, Found.{Holds, IsClosed}, StandsFor.{Content, StandsFor}}
use Rattle.pm_redo.proofs.pair.pair_in.Goals as goal

pub returns-in-Standing-Closed-clause-found : goal.returns-in-Standing-Closed-clause-found
returns-in-Standing-Closed-clause-found c =
    let holds : Holds A (Standing c.in-Standing-Closed.found) c.args.a.now = rw c.in-Standing-Closed.is-0 at c.in_ok-in_a.ensures.found in
    let closed : IsClosed c.args.b.now = rw c.in-Standing-Closed.is-1 at c.in_ok-in_b.ensures.found in
    finds_one A c.in-Standing-Closed.found (pair_of c.args.a.now c.args.b.now) holds
    (shut_of c.args.b.now closed (λ empty. not_closed c.args.a.now holds.0 c.in-Standing-Closed.found.end holds.1 (c.is_missing-2.ensures.there c.if-is_missing-2.false empty)))

pub returns-in-Closed-Standing-clause-found : goal.returns-in-Closed-Standing-clause-found
returns-in-Closed-Standing-clause-found c =
    let holds : Holds B (Standing c.in-Closed-Standing.found) c.args.b.now = rw c.in-Closed-Standing.is-1 at c.in_ok-in_b.ensures.found in
    let closed : IsClosed c.args.a.now = rw c.in-Closed-Standing.is-0 at c.in_ok-in_a.ensures.found in
    finds_one B c.in-Closed-Standing.found (pair_of c.args.a.now c.args.b.now) holds
    (shut_of c.args.a.now closed (λ empty. not_closed c.args.b.now holds.0 c.in-Closed-Standing.found.end holds.1 (c.is_missing.ensures.there c.if-is_missing.false empty)))

pub returns-then-one-two-2-clause-found : goal.returns-then-one-two-2-clause-found
returns-then-one-two-2-clause-found c =
    let one : Holds A (Standing c.in-Standing-Standing.one) c.args.a.now = rw c.in-Standing-Standing.is-0 at c.in_ok-in_a.ensures.found in
    let two : Holds B (Standing c.in-Standing-Standing.two) c.args.b.now = rw c.in-Standing-Standing.is-1 at c.in_ok-in_b.ensures.found in
    finds_two B c.in-Standing-Standing.two c.in-Standing-Standing.one (pair_of c.args.a.now c.args.b.now) two one c.if-one-two-2.true

pub returns-else-one-two-2-clause-found : goal.returns-else-one-two-2-clause-found
returns-else-one-two-2-clause-found c =
    let one : Holds A (Standing c.in-Standing-Standing.one) c.args.a.now = rw c.in-Standing-Standing.is-0 at c.in_ok-in_a.ensures.found in
    let two : Holds B (Standing c.in-Standing-Standing.two) c.args.b.now = rw c.in-Standing-Standing.is-1 at c.in_ok-in_b.ensures.found in
    finds_two A c.in-Standing-Standing.one c.in-Standing-Standing.two (pair_of c.args.a.now c.args.b.now) one two (omega (arith, c.if-one-two.false, c.if-one-two-2.false))

pub returns-then-one-two-clause-reason : goal.returns-then-one-two-clause-reason
returns-then-one-two-clause-reason c =
    let one : Holds A (Standing c.in-Standing-Standing.one) c.args.a.now = rw c.in-Standing-Standing.is-0 at c.in_ok-in_a.ensures.found in
    let two : Holds B (Standing c.in-Standing-Standing.two) c.args.b.now = rw c.in-Standing-Standing.is-1 at c.in_ok-in_b.ensures.found in
    record {
      one = one.0;
      two = two.0;
      end = c.in-Standing-Standing.one.end;
      till = c.in-Standing-Standing.two.end;
      in_a = one.1;
      in_b = two.1;
      one_is = sym one.2.epoch;
      two_is = omega (arith, two.2.epoch, c.if-one-two.true);
    }

pub returns-in-Standing-Closed-clause-exact : goal.returns-in-Standing-Closed-clause-exact
returns-in-Standing-Closed-clause-exact c =
    let tells : Tells c.args.a.now c.in-Standing-Closed.found = λ content end log. (rw c.in-Standing-Closed.is-0 at (c.in_ok-in_a.ensures.meaning content end log)) in
    let nothing : (content : Content) → (end : ℕ) → StandsFor c.args.b.now content end → ⊥ = λ content end log. (rw c.in-Standing-Closed.is-1 at (c.in_ok-in_b.ensures.meaning content end log)) in
    let holds : Holds A (Standing c.in-Standing-Closed.found) c.args.a.now = rw c.in-Standing-Closed.is-0 at c.in_ok-in_a.ensures.found in
    only_one A c.in-Standing-Closed.found (pair_of c.args.a.now c.args.b.now) holds.3 tells nothing

pub returns-in-Closed-Standing-clause-exact : goal.returns-in-Closed-Standing-clause-exact
returns-in-Closed-Standing-clause-exact c =
    let tells : Tells c.args.b.now c.in-Closed-Standing.found = λ content end log. (rw c.in-Closed-Standing.is-1 at (c.in_ok-in_b.ensures.meaning content end log)) in
    let nothing : (content : Content) → (end : ℕ) → StandsFor c.args.a.now content end → ⊥ = λ content end log. (rw c.in-Closed-Standing.is-0 at (c.in_ok-in_a.ensures.meaning content end log)) in
    let holds : Holds B (Standing c.in-Closed-Standing.found) c.args.b.now = rw c.in-Closed-Standing.is-1 at c.in_ok-in_b.ensures.found in
    only_one B c.in-Closed-Standing.found (pair_of c.args.a.now c.args.b.now) holds.3 tells nothing

pub returns-then-one-two-2-clause-exact : goal.returns-then-one-two-2-clause-exact
returns-then-one-two-2-clause-exact c =
    let two : Holds B (Standing c.in-Standing-Standing.two) c.args.b.now = rw c.in-Standing-Standing.is-1 at c.in_ok-in_b.ensures.found in
    let in_a : Tells c.args.a.now c.in-Standing-Standing.one = λ content end log. (rw c.in-Standing-Standing.is-0 at (c.in_ok-in_a.ensures.meaning content end log)) in
    let in_b : Tells c.args.b.now c.in-Standing-Standing.two = λ content end log. (rw c.in-Standing-Standing.is-1 at (c.in_ok-in_b.ensures.meaning content end log)) in
    only_greater B c.in-Standing-Standing.two c.in-Standing-Standing.one (pair_of c.args.a.now c.args.b.now) two in_b in_a c.if-one-two-2.true

pub returns-else-one-two-2-clause-exact : goal.returns-else-one-two-2-clause-exact
returns-else-one-two-2-clause-exact c =
    let one : Holds A (Standing c.in-Standing-Standing.one) c.args.a.now = rw c.in-Standing-Standing.is-0 at c.in_ok-in_a.ensures.found in
    let in_a : Tells c.args.a.now c.in-Standing-Standing.one = λ content end log. (rw c.in-Standing-Standing.is-0 at (c.in_ok-in_a.ensures.meaning content end log)) in
    let in_b : Tells c.args.b.now c.in-Standing-Standing.two = λ content end log. (rw c.in-Standing-Standing.is-1 at (c.in_ok-in_b.ensures.meaning content end log)) in
    only_greater A c.in-Standing-Standing.one c.in-Standing-Standing.two (pair_of c.args.a.now c.args.b.now) one in_a in_b (omega (arith, c.if-one-two.false, c.if-one-two-2.false))

pub returns-then-is_missing-2-clause-reason : goal.returns-then-is_missing-2-clause-reason
returns-then-is_missing-2-clause-reason c =
    let files = pair_of c.args.a.now c.args.b.now in
    let missing = c.is_missing-2.ensures.missing c.if-is_missing-2.true in
    (inr (refl, missing.0, missing.1), not_damaged A c.in_ok-in_a.in_a files c.in_ok-in_a.ensures.found (c.is_missing.ensures.there c.if-is_missing.false))

pub returns-in_err-in_b-clause-reason : goal.returns-in_err-in_b-clause-reason
returns-in_err-in_b-clause-reason c =
    let files = pair_of c.args.a.now c.args.b.now in
    let whole = not_damaged A c.in_ok-in_a.in_a files c.in_ok-in_a.ensures.found (c.is_missing.ensures.there c.if-is_missing.false) in
    let p = err_from_is_err_and c.from_residual-in_err-in_b.result c.from_residual-in_err-in_b.ensures.1 in
    rw (p.1, p.2)
    (elim (c.in_err-in_b.ensures.damaged c.in_err-in_b.field-0.0 refl) [
      | inl none ↦ subst (λ (fault : RedoFault). IsReason fault files) (sym none) tt
      | inr bad ↦ subst (λ (fault : RedoFault). IsReason fault files) (sym bad.1) (inl (bad.2, bad.3), whole)
    ])
