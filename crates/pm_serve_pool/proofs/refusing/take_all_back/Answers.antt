use Rattle.std.proofs.Common.{◌≡◌, ◌∙◌, ◌+◌, ℕ, List, ap, arith, length, subst, sym}
use Rattle.pm_serve_pool.{specs.Works.{EachFrom, HasTakenBack, IsUnusedWork}, proofs.{Lists.{first_of_all, popped_none, rest_of_all}, Returning.{back_count, back_more, back_none}}}
use Rattle.pm_serve_pool.proofs.refusing.take_all_back.Goals as goal

pub loop-work-init : goal.loop-work-init
loop-work-init g c = (
  0,
  (omega arith),
  back_none c.args.shared.now,
  subst (λ (n : ℕ). EachFrom (IsUnusedWork c.args.shared.now.table) n c.args.works.items) (omega arith) c.requires,
)

pub take_back-requires : goal.take_back-requires
take_back-requires g c =
    let inv = c.loop-work.invariant in
    let all = subst (λ (works : List _). EachFrom (IsUnusedWork c.args.shared.now.table) (length c.args.shared.now.joined + inv.0) works) c.in-Some.ensures.items inv.3 in
    let first = first_of_all (IsUnusedWork c.args.shared.now.table) (length c.args.shared.now.joined + inv.0) c.in-Some.work c.pop_front.new.self.items all in (
      ap (λ store. store.token.table) c.apart-post.ensures.1 ∙ first.home_is ∙ sym (ap (λ s. s.table) inv.2.joined),
      ap (λ store. store.token.number) c.apart-post.ensures.1 ∙ first.number ∙ sym (back_count inv.0 c.args.shared.now c.loop-work.shared inv.2),
    )

pub loop-work-preserved : goal.loop-work-preserved
loop-work-preserved g c =
    let inv = c.loop-work.invariant in
    let all = subst (λ (works : List _). EachFrom (IsUnusedWork c.args.shared.now.table) (length c.args.shared.now.joined + inv.0) works) c.in-Some.ensures.items inv.3 in
    let first = first_of_all (IsUnusedWork c.args.shared.now.table) (length c.args.shared.now.joined + inv.0) c.in-Some.work c.pop_front.new.self.items all in
    let rest = rest_of_all (IsUnusedWork c.args.shared.now.table) (length c.args.shared.now.joined + inv.0) c.in-Some.work c.pop_front.new.self.items all in (
      inv.0 + 1,
      (let len = c.in-Some.ensures.len in let left = inv.1 in omega arith),
      back_more inv.0 c.args.shared.now c.loop-work.shared c.take_back.new.self _ inv.2 (ap (λ store. store.token.own) c.apart-post.ensures.1 ∙ first.own) c.take_back.ensures,
      subst (λ (n : ℕ). EachFrom (IsUnusedWork c.args.shared.now.table) n c.pop_front.new.self.items) (omega arith) rest,
    )

pub returns : goal.returns
returns g c =
    let inv = c.loop-work.invariant in
    let none = popped_none c.pop_front.result c.loop-work.works.items c.pop_front.new.self.items c.in_default.is c.pop_front.ensures.items c.pop_front.ensures.rest in
    let all : inv.0 + length c.loop-work.works.items ≡ length c.args.works.items = inv.1 in
    let no_length : length c.loop-work.works.items ≡ 0 = ap length none in
    subst (λ (n : ℕ). HasTakenBack n c.args.shared.now c.loop-work.shared) (omega arith) inv.2
