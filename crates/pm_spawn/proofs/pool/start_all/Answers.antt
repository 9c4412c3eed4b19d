use Rattle.std.proofs.{Common.{rules, All, subst, ◌≡◌, ◌∷◌}, lemmas.List.Elements.All-tail}
use Rattle.pm_spawn.{specs.Works.work_of, proofs.Works.started_more}
use Rattle.pm_spawn.proofs.pool.start_all.Goals as goal

pub loop-work-preserved : goal.loop-work-preserved
loop-work-preserved g c =
    let works : c.loop-work.works.items ≡ c.in-Some.work ∷ c.pop_front.new.self.items = search rules in
    let order = started_more work_of c.loop-work.running.items c.in-Ok.started c.in-Some.work c.pop_front.new.self.items c.args.works.now.items (search rules) (search rules) in
    record {
      order = search (rules, order);
      can = All-tail g.W.Task.can_work c.in-Some.work c.pop_front.new.self.items (subst (All g.W.Task.can_work) works c.loop-work.invariant.can);
      room = search rules;
      kept = search rules;
      counted = search rules;
    }
