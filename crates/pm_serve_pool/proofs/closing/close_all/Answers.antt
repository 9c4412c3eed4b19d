use Rattle.std.{proofs.Common.{◌∙◌, List, ap, arith, map, refl, subst, sym}, specs.Prelude.Option}
use Rattle.atomic_table.specs.Seated.{TableId}
use Rattle.pm_spawn.specs.Works.{work_of}
use Rattle.pm_serve_pool.{specs.{Closing.HasClosedOne, Plan.{files_of, manner_of}, Works.{EachFrom, IsWorkOf}}, proofs.{Closed.{closed_more, closed_none}, Lists.{first_of_all, rest_of_all}}}
use Rattle.pm_serve_pool.proofs.closing.close_all.Goals as goal

pub loop-worker-init : goal.loop-worker-init
loop-worker-init g c =
    record {
      left = omega arith;
      table = refl;
      new = c.requires.new;
      closed = closed_none (manner_of g.C.Clock.gives c.args.terms.now (files_of g.D.Disk c.args.shared.now.first)) c.args.roster.now.knows c.args.shared.now c.requires.shut c.requires.none;
    }

pub close_one-requires-clause-new : goal.close_one-requires-clause-new
close_one-requires-clause-new g c =
    let inv = c.loop-worker.invariant in
    let all = subst (λ (works : List _). EachFrom (IsWorkOf g.C.Clock.gives c.args.terms.now c.args.roster.now.table c.args.shared.now.table c.args.shared.now.first) c.loop-worker.slot works) (ap (map work_of) c.in-Some.ensures.items) inv.new in
    let first = first_of_all (IsWorkOf g.C.Clock.gives c.args.terms.now c.args.roster.now.table c.args.shared.now.table c.args.shared.now.first) c.loop-worker.slot (work_of c.in-Some.worker) (map work_of c.pop_front.new.self.items) all in
    subst (λ (board : TableId). IsWorkOf g.C.Clock.gives c.args.terms.now board c.loop-worker.shared.table c.loop-worker.shared.first c.loop-worker.slot (work_of c.in-Some.worker)) (sym inv.table)
    (subst (λ (home : TableId). IsWorkOf g.C.Clock.gives c.args.terms.now c.args.roster.now.table home c.loop-worker.shared.first c.loop-worker.slot (work_of c.in-Some.worker)) (sym (ap (λ s. s.table) inv.closed.shared))
    (subst (λ (disk : Option _). IsWorkOf g.C.Clock.gives c.args.terms.now c.args.roster.now.table c.args.shared.now.table disk c.loop-worker.slot (work_of c.in-Some.worker)) (sym (ap (λ s. s.first) inv.closed.shared)) first))

pub loop-worker-preserved : goal.loop-worker-preserved
loop-worker-preserved g c =
    let inv = c.loop-worker.invariant in
    let all = subst (λ (works : List _). EachFrom (IsWorkOf g.C.Clock.gives c.args.terms.now c.args.roster.now.table c.args.shared.now.table c.args.shared.now.first) c.loop-worker.slot works) (ap (map work_of) c.in-Some.ensures.items) inv.new in
    record {
      left = (let len = c.in-Some.ensures.len in let left = inv.left in omega arith);
      table = c.close_one.ensures.table ∙ inv.table;
      new = rest_of_all (IsWorkOf g.C.Clock.gives c.args.terms.now c.args.roster.now.table c.args.shared.now.table c.args.shared.now.first) c.loop-worker.slot (work_of c.in-Some.worker) (map work_of c.pop_front.new.self.items) all;
      closed =
          closed_more (manner_of g.C.Clock.gives c.args.terms.now (files_of g.D.Disk c.args.shared.now.first)) c.loop-worker.slot c.args.roster.now.knows c.loop-worker.roster.knows c.close_one.new.roster.knows c.args.shared.now c.loop-worker.shared
          c.close_one.new.shared inv.closed
          (subst (λ (disk : Option _). HasClosedOne (manner_of g.C.Clock.gives c.args.terms.now (files_of g.D.Disk disk)) c.loop-worker.slot c.loop-worker.roster.knows c.close_one.new.roster.knows c.loop-worker.shared c.close_one.new.shared)
          (ap (λ s. s.first) inv.closed.shared) c.close_one.ensures.closed);
    }
