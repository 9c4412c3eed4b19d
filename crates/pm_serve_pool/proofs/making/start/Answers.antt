use Rattle.std.proofs.{Common.{◌≡◌, ◌∙◌, ◌+◌, ℕ, List, ap, arith, length, map, subst, sym}, lemmas.{Bool.Decides.nat_tests, List.length-replicate}}
use Rattle.atomic_table.specs.Seated.{TableId}
use Rattle.pm_worker.specs.{pm_board.pm_board_words.declared.views.RosterView.RosterView, pm_spawn.Works.work_of, declared.mail.MailTold.MailTold}
use Rattle.pm_serve_pool.{specs.{Closing.IsShut, Plan.{files_of, manner_of, sessions_of, slots_of}, Works.{EachFrom, IsUnusedWork, IsWorkOf}}, proofs.{Closed.shut_new, Lists.front_of_all, Returning.unused_works, Starting.{all_idle, idle_closed, left_unused, started_few}}}
use Rattle.pm_serve_pool.proofs.making.start.Goals as goal

pub start_all-requires-after_bounds : goal.start_all-requires-after_bounds
start_all-requires-after_bounds g c κs within = all_idle g.C.Clock.gives c.args.terms c.args.roster.table c.args.shared.table c.args.shared.first c.args.works.items c.requires.works

pub give_up-requires-clause-tokens : goal.give_up-requires-clause-tokens
give_up-requires-clause-tokens g c =
    subst (λ (n : ℕ). EachFrom (IsUnusedWork c.args.shared.table) n c.start_all.new.works.items) (sym (ap length c.requires.shared.1.none_joined))
    (unused_works g.C.Clock.gives c.args.terms c.args.roster.table c.args.shared.table c.args.shared.first 0 c.start_all.new.works.items
    (subst (λ (works : List _). EachFrom (IsWorkOf g.C.Clock.gives c.args.terms c.args.roster.table c.args.shared.table c.args.shared.first) 0 works) (sym c.in_default.ensures.memory) c.requires.works))

pub returns-then-is_empty-clause-pool : goal.returns-then-is_empty-clause-pool
returns-then-is_empty-clause-pool g c =
    let all = subst (λ (works : List _). EachFrom (IsWorkOf g.C.Clock.gives c.args.terms c.args.roster.table c.args.shared.table c.args.shared.first) 0 works) (sym c.in-Ok.ensures.started) c.requires.works in
    let few : length c.in-Ok.workers.items + length c.start_all.new.works.items ≡ length c.args.works.items =
    started_few work_of c.in-Ok.workers.items c.start_all.new.works.items c.args.works.items c.in-Ok.ensures.started in
    let none : c.start_all.new.works.len ≡ 0 = grind (arith, nat_tests) in
    let no_length : c.start_all.new.works.len ≡ length c.start_all.new.works.items = c.start_all.new.works.ok.0 in
    let count : length c.args.works.items ≡ slots_of c.args.terms.plan = c.requires.count in
    record {
      within = c.requires.within;
      count = (omega arith);
      each = front_of_all (IsWorkOf g.C.Clock.gives c.args.terms c.args.roster.table c.args.shared.table c.args.shared.first) 0 (map work_of c.in-Ok.workers.items) c.start_all.new.works.items all;
    }

pub close_all-requires-clause-shut : goal.close_all-requires-clause-shut
close_all-requires-clause-shut g c =
    subst (λ (d : RosterView MailTold). IsShut 0 d) (sym c.requires.roster) (shut_new (slots_of c.args.terms.plan) (sessions_of c.args.terms.plan.limits) (slots_of c.args.terms.plan))

pub close_all-requires-clause-slots : goal.close_all-requires-clause-slots
close_all-requires-clause-slots g c =
    let few : length c.in-Ok.workers.items + length c.start_all.new.works.items ≡ length c.args.works.items =
    started_few work_of c.in-Ok.workers.items c.start_all.new.works.items c.args.works.items c.in-Ok.ensures.started in
    let count : length c.args.works.items ≡ slots_of c.args.terms.plan = c.requires.count in
    let slots : length c.args.roster.knows.slots ≡ slots_of c.args.terms.plan = ap (λ (d : RosterView MailTold). length d.slots) c.requires.roster ∙ length-replicate (slots_of c.args.terms.plan) _ in
    omega arith

pub close_all-requires-clause-new : goal.close_all-requires-clause-new
close_all-requires-clause-new g c =
    let all = subst (λ (works : List _). EachFrom (IsWorkOf g.C.Clock.gives c.args.terms c.args.roster.table c.args.shared.table c.args.shared.first) 0 works) (sym c.in-Ok.ensures.started) c.requires.works in
    front_of_all (IsWorkOf g.C.Clock.gives c.args.terms c.args.roster.table c.args.shared.table c.args.shared.first) 0 (map work_of c.in-Ok.workers.items) c.start_all.new.works.items all

pub give_up-requires-2-clause-tokens : goal.give_up-requires-2-clause-tokens
give_up-requires-2-clause-tokens g c =
    let closed = c.close_all.ensures.closed in
    let left =
    left_unused g.C.Clock.gives c.args.terms c.args.roster.table c.args.shared.table c.args.shared.first work_of c.in-Ok.workers.items c.start_all.new.works.items c.args.works.items c.in-Ok.ensures.started c.requires.works in
    subst (λ (n : ℕ). EachFrom (IsUnusedWork c.close_all.new.shared.table) n c.start_all.new.works.items) (sym (ap (λ s. length s.joined) closed.shared ∙ closed.all))
    (subst (λ (home : TableId). EachFrom (IsUnusedWork home) (length c.in-Ok.workers.items) c.start_all.new.works.items) (sym (ap (λ s. s.table) closed.shared)) left)

pub give_up-requires-2-clause-idle : goal.give_up-requires-2-clause-idle
give_up-requires-2-clause-idle g c =
    idle_closed (manner_of g.C.Clock.gives c.args.terms (files_of g.D.Disk c.args.shared.first)) (length c.in-Ok.workers.items) (slots_of c.args.terms.plan) (slots_of c.args.terms.plan) (sessions_of c.args.terms.plan.limits) (slots_of c.args.terms.plan)
    c.args.roster.knows c.close_all.new.roster.knows c.requires.shared.0 c.args.shared c.close_all.new.shared c.requires.roster c.requires.shared.1 c.close_all.ensures.closed

pub returns-clause-parts : goal.returns-clause-parts
returns-clause-parts g c first is = c.give_up-2.ensures.parts first (ap (λ s. s.first) c.close_all.ensures.closed.shared ∙ is)
