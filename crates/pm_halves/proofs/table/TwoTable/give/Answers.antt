use Rattle.std.{proofs.Common.{◌+◌, ◌-◌, ◌∷◌, sym, ap, ◌∙◌}, specs.Prelude.Some}
use Rattle.atomic_table.specs.Table.{rest}
use Rattle.pm_halves.{specs.{declared.lot.Lot.TheVariants.Second, Sitting.firsts_in}, proofs.Carried.raised}
use Rattle.pm_halves.proofs.Placing as placing
use Rattle.pm_halves.proofs.Taking as tops
use Rattle.pm_halves.proofs.Giving as laws
use Rattle.pm_halves.proofs.table.TwoTable.give.Goals as goal

pub exchange-requires : goal.exchange-requires
exchange-requires g c =
    let same = raised g.T.Tie.words g.T.Tie.places c.seat.inside.seat.table_id c.self.inside.table.shared.table_id c.seat.invariant.0 c.self.invariant.0 ((ap (λ z. z.table) c.seat.view_is ∙ c.requires.table) ∙ ap (λ l. l.table) (sym c.self.view_is)) in
    let up = laws.up g.T.Tie.words g.T.Tie.places c.seat.inside.seat.table_id c.seat.inside.seat.id c.seat.inside.seat.me c.turn_by.new.seat.me c.turn_by-2.new.seat.me c.args.seat.now c.args.hand c.seat.invariant c.seat.view_is c.requires.held c.turn_by.ensures.turned c.turn_by-2.ensures.turned in
    let slot = ap (λ n. n + c.args.hand.place) (placing.counted _ _ _ _ c.slot_count.ensures c.self.invariant.1 ∙ ap (λ t. t.slots - g.T.Tie.places) (sym same)) in
    (c.turn_by-2.ensures.same.0 ∙ (c.turn_by.ensures.same.0 ∙ same), tops.on_top _ _ up.value _ _ (ap (λ me. me.1) up.on_top) slot)

pub unreachable-requires : goal.unreachable-requires
unreachable-requires g c =
    let same = raised g.T.Tie.words g.T.Tie.places c.seat.inside.seat.table_id c.self.inside.table.shared.table_id c.seat.invariant.0 c.self.invariant.0 ((ap (λ z. z.table) c.seat.view_is ∙ c.requires.table) ∙ ap (λ l. l.table) (sym c.self.view_is)) in
    let up = laws.up g.T.Tie.words g.T.Tie.places c.seat.inside.seat.table_id c.seat.inside.seat.id c.seat.inside.seat.me c.turn_by.new.seat.me c.turn_by-2.new.seat.me c.args.seat.now c.args.hand c.seat.invariant c.seat.view_is c.requires.held c.turn_by.ensures.turned c.turn_by-2.ensures.turned in
    let slot = ap (λ n. n + c.args.hand.place) (placing.counted _ _ _ _ c.slot_count.ensures c.self.invariant.1 ∙ ap (λ t. t.slots - g.T.Tie.places) (sym same)) in
    tops.no_first _ _ up.value c.in-First.field-0 c.exchange.result c.turn_by-2.new.seat.me.1 _ _ (ap (λ me. me.1) up.on_top) c.exchange.ensures.2 c.in-First.is

pub swap-requires : goal.swap-requires
swap-requires g c =
    let same = raised g.T.Tie.words g.T.Tie.places c.seat.inside.seat.table_id c.self.inside.table.shared.table_id c.seat.invariant.0 c.self.invariant.0 ((ap (λ z. z.table) c.seat.view_is ∙ c.requires.table) ∙ ap (λ l. l.table) (sym c.self.view_is)) in
    let up = laws.up g.T.Tie.words g.T.Tie.places c.seat.inside.seat.table_id c.seat.inside.seat.id c.seat.inside.seat.me c.turn_by.new.seat.me c.turn_by-2.new.seat.me c.args.seat.now c.args.hand c.seat.invariant c.seat.view_is c.requires.held c.turn_by.ensures.turned c.turn_by-2.ensures.turned in
    let slot = ap (λ n. n + c.args.hand.place) (placing.counted _ _ _ _ c.slot_count.ensures c.self.invariant.1 ∙ ap (λ t. t.slots - g.T.Tie.places) (sym same)) in
    let filled = c.exchange.ensures.3 ∙ (ap (λ me. (me.0, ((c.slot_count.result - c.self.inside.places) + c.args.hand.place, Second c.args.value) ∷ rest me.1)) up.on_top
    ∙ ap (λ n. (c.seat.inside.seat.me.0, (n, Second c.args.value) ∷ laws.others_of (c.seat.inside.seat.table_id.slots - g.T.Tie.places) (firsts_in c.seat.inside.seat.me.1) up.before up.after)) slot) in
    let owes = placing.give_of g.T.Tie.words g.T.Tie.places g.P.TableRule.holds g.Q.TableRule.holds g.T.Tie.tied g.M.Play.then g.N.Tells.tells c.seat.inside.seat.id c.exchange.new.seat.id c.args.hand.place (c.word_count.result - c.self.inside.places) c.args.value c.seat.inside.seat.table_id c.self.inside.table.shared.table_id c.self.inside.table.shared.key c.seat.inside.seat.me c.exchange.new.seat.me _ _ _
    c.self.invariant.0 (placing.counted _ _ _ _ c.word_count.ensures c.self.invariant.1) c.seat.invariant c.self.view_is c.seat.view_is c.requires.table c.requires.may c.requires.ties (c.exchange.ensures.1 ∙ (c.turn_by-2.ensures.same.1 ∙ c.turn_by.ensures.same.1)) filled in
    (c.exchange.ensures.0 ∙ (c.turn_by-2.ensures.same.0 ∙ (c.turn_by.ensures.same.0 ∙ same)), owes.0, owes.1)

pub invariant_of-seat : goal.invariant_of-seat
invariant_of-seat g c =
    let same = raised g.T.Tie.words g.T.Tie.places c.seat.inside.seat.table_id c.self.inside.table.shared.table_id c.seat.invariant.0 c.self.invariant.0 ((ap (λ z. z.table) c.seat.view_is ∙ c.requires.table) ∙ ap (λ l. l.table) (sym c.self.view_is)) in
    let up = laws.up g.T.Tie.words g.T.Tie.places c.seat.inside.seat.table_id c.seat.inside.seat.id c.seat.inside.seat.me c.turn_by.new.seat.me c.turn_by-2.new.seat.me c.args.seat.now c.args.hand c.seat.invariant c.seat.view_is c.requires.held c.turn_by.ensures.turned c.turn_by-2.ensures.turned in
    let slot = ap (λ n. n + c.args.hand.place) (placing.counted _ _ _ _ c.slot_count.ensures c.self.invariant.1 ∙ ap (λ t. t.slots - g.T.Tie.places) (sym same)) in
    let filled = c.exchange.ensures.3 ∙ (ap (λ me. (me.0, ((c.slot_count.result - c.self.inside.places) + c.args.hand.place, Second c.args.value) ∷ rest me.1)) up.on_top
    ∙ ap (λ n. (c.seat.inside.seat.me.0, (n, Second c.args.value) ∷ laws.others_of (c.seat.inside.seat.table_id.slots - g.T.Tie.places) (firsts_in c.seat.inside.seat.me.1) up.before up.after)) slot) in
    let gave = laws.gave g.T.Tie.words g.T.Tie.places g.M.Play.then g.N.Tells.tells c.seat.inside.seat.id c.args.hand.place (c.word_count.result - c.self.inside.places) c.swap.result c.args.hand.after c.args.value c.seat.inside.seat.table_id c.self.inside.table.shared.table_id c.seat.inside.seat.me c.exchange.new.seat.me c.swap.new.seat.me up.before up.after c.args.seat.now
    c.self.invariant.0 (placing.counted _ _ _ _ c.word_count.ensures c.self.invariant.1) same c.seat.view_is c.requires.may.2 filled c.swap.ensures.2 in
    let given = laws.given g.T.Tie.words g.T.Tie.places g.M.Play.then g.N.Tells.tells c.seat.inside.seat.id c.turn_by-3.new.seat.id c.swap.result c.args.value c.seat.inside.seat.table_id c.turn_by-3.new.seat.table_id gave.0 c.seat.inside.seat.me c.swap.new.seat.me c.turn_by-3.new.seat.me up.before up.after c.args.seat.now c.args.hand
    c.seat.invariant c.seat.view_is (c.turn_by-3.ensures.same.0 ∙ (c.swap.ensures.0 ∙ (c.exchange.ensures.0 ∙ (c.turn_by-2.ensures.same.0 ∙ c.turn_by.ensures.same.0)))) (c.turn_by-3.ensures.same.1 ∙ (c.swap.ensures.1 ∙ (c.exchange.ensures.1 ∙ (c.turn_by-2.ensures.same.1 ∙ c.turn_by.ensures.same.1))))
    up.long up.others gave.1 c.turn_by-3.ensures.turned gave.2 gave.3 in
    given.2

pub returns-clause-old : goal.returns-clause-old
returns-clause-old g c =
    let same = raised g.T.Tie.words g.T.Tie.places c.seat.inside.seat.table_id c.self.inside.table.shared.table_id c.seat.invariant.0 c.self.invariant.0 ((ap (λ z. z.table) c.seat.view_is ∙ c.requires.table) ∙ ap (λ l. l.table) (sym c.self.view_is)) in
    let up = laws.up g.T.Tie.words g.T.Tie.places c.seat.inside.seat.table_id c.seat.inside.seat.id c.seat.inside.seat.me c.turn_by.new.seat.me c.turn_by-2.new.seat.me c.args.seat.now c.args.hand c.seat.invariant c.seat.view_is c.requires.held c.turn_by.ensures.turned c.turn_by-2.ensures.turned in
    let slot = ap (λ n. n + c.args.hand.place) (placing.counted _ _ _ _ c.slot_count.ensures c.self.invariant.1 ∙ ap (λ t. t.slots - g.T.Tie.places) (sym same)) in
    let out = tops.came_out _ _ up.value c.in-Second.old c.exchange.result c.turn_by-2.new.seat.me.1 _ _ (ap (λ me. me.1) up.on_top) c.exchange.ensures.2 c.in-Second.is in
    up.is ∙ ap (λ y. Some (c.args.hand.place, y)) (sym out)

pub returns-clause-first : goal.returns-clause-first
returns-clause-first g c =
    let same = raised g.T.Tie.words g.T.Tie.places c.seat.inside.seat.table_id c.self.inside.table.shared.table_id c.seat.invariant.0 c.self.invariant.0 ((ap (λ z. z.table) c.seat.view_is ∙ c.requires.table) ∙ ap (λ l. l.table) (sym c.self.view_is)) in
    let up = laws.up g.T.Tie.words g.T.Tie.places c.seat.inside.seat.table_id c.seat.inside.seat.id c.seat.inside.seat.me c.turn_by.new.seat.me c.turn_by-2.new.seat.me c.args.seat.now c.args.hand c.seat.invariant c.seat.view_is c.requires.held c.turn_by.ensures.turned c.turn_by-2.ensures.turned in
    let slot = ap (λ n. n + c.args.hand.place) (placing.counted _ _ _ _ c.slot_count.ensures c.self.invariant.1 ∙ ap (λ t. t.slots - g.T.Tie.places) (sym same)) in
    let filled = c.exchange.ensures.3 ∙ (ap (λ me. (me.0, ((c.slot_count.result - c.self.inside.places) + c.args.hand.place, Second c.args.value) ∷ rest me.1)) up.on_top
    ∙ ap (λ n. (c.seat.inside.seat.me.0, (n, Second c.args.value) ∷ laws.others_of (c.seat.inside.seat.table_id.slots - g.T.Tie.places) (firsts_in c.seat.inside.seat.me.1) up.before up.after)) slot) in
    let gave = laws.gave g.T.Tie.words g.T.Tie.places g.M.Play.then g.N.Tells.tells c.seat.inside.seat.id c.args.hand.place (c.word_count.result - c.self.inside.places) c.swap.result c.args.hand.after c.args.value c.seat.inside.seat.table_id c.self.inside.table.shared.table_id c.seat.inside.seat.me c.exchange.new.seat.me c.swap.new.seat.me up.before up.after c.args.seat.now
    c.self.invariant.0 (placing.counted _ _ _ _ c.word_count.ensures c.self.invariant.1) same c.seat.view_is c.requires.may.2 filled c.swap.ensures.2 in
    let given = laws.given g.T.Tie.words g.T.Tie.places g.M.Play.then g.N.Tells.tells c.seat.inside.seat.id c.turn_by-3.new.seat.id c.swap.result c.args.value c.seat.inside.seat.table_id c.turn_by-3.new.seat.table_id gave.0 c.seat.inside.seat.me c.swap.new.seat.me c.turn_by-3.new.seat.me up.before up.after c.args.seat.now c.args.hand
    c.seat.invariant c.seat.view_is (c.turn_by-3.ensures.same.0 ∙ (c.swap.ensures.0 ∙ (c.exchange.ensures.0 ∙ (c.turn_by-2.ensures.same.0 ∙ c.turn_by.ensures.same.0)))) (c.turn_by-3.ensures.same.1 ∙ (c.swap.ensures.1 ∙ (c.exchange.ensures.1 ∙ (c.turn_by-2.ensures.same.1 ∙ c.turn_by.ensures.same.1))))
    up.long up.others gave.1 c.turn_by-3.ensures.turned gave.2 gave.3 in
    given.0

pub returns-clause-given : goal.returns-clause-given
returns-clause-given g c =
    let same = raised g.T.Tie.words g.T.Tie.places c.seat.inside.seat.table_id c.self.inside.table.shared.table_id c.seat.invariant.0 c.self.invariant.0 ((ap (λ z. z.table) c.seat.view_is ∙ c.requires.table) ∙ ap (λ l. l.table) (sym c.self.view_is)) in
    let up = laws.up g.T.Tie.words g.T.Tie.places c.seat.inside.seat.table_id c.seat.inside.seat.id c.seat.inside.seat.me c.turn_by.new.seat.me c.turn_by-2.new.seat.me c.args.seat.now c.args.hand c.seat.invariant c.seat.view_is c.requires.held c.turn_by.ensures.turned c.turn_by-2.ensures.turned in
    let slot = ap (λ n. n + c.args.hand.place) (placing.counted _ _ _ _ c.slot_count.ensures c.self.invariant.1 ∙ ap (λ t. t.slots - g.T.Tie.places) (sym same)) in
    let filled = c.exchange.ensures.3 ∙ (ap (λ me. (me.0, ((c.slot_count.result - c.self.inside.places) + c.args.hand.place, Second c.args.value) ∷ rest me.1)) up.on_top
    ∙ ap (λ n. (c.seat.inside.seat.me.0, (n, Second c.args.value) ∷ laws.others_of (c.seat.inside.seat.table_id.slots - g.T.Tie.places) (firsts_in c.seat.inside.seat.me.1) up.before up.after)) slot) in
    let gave = laws.gave g.T.Tie.words g.T.Tie.places g.M.Play.then g.N.Tells.tells c.seat.inside.seat.id c.args.hand.place (c.word_count.result - c.self.inside.places) c.swap.result c.args.hand.after c.args.value c.seat.inside.seat.table_id c.self.inside.table.shared.table_id c.seat.inside.seat.me c.exchange.new.seat.me c.swap.new.seat.me up.before up.after c.args.seat.now
    c.self.invariant.0 (placing.counted _ _ _ _ c.word_count.ensures c.self.invariant.1) same c.seat.view_is c.requires.may.2 filled c.swap.ensures.2 in
    let given = laws.given g.T.Tie.words g.T.Tie.places g.M.Play.then g.N.Tells.tells c.seat.inside.seat.id c.turn_by-3.new.seat.id c.swap.result c.args.value c.seat.inside.seat.table_id c.turn_by-3.new.seat.table_id gave.0 c.seat.inside.seat.me c.swap.new.seat.me c.turn_by-3.new.seat.me up.before up.after c.args.seat.now c.args.hand
    c.seat.invariant c.seat.view_is (c.turn_by-3.ensures.same.0 ∙ (c.swap.ensures.0 ∙ (c.exchange.ensures.0 ∙ (c.turn_by-2.ensures.same.0 ∙ c.turn_by.ensures.same.0)))) (c.turn_by-3.ensures.same.1 ∙ (c.swap.ensures.1 ∙ (c.exchange.ensures.1 ∙ (c.turn_by-2.ensures.same.1 ∙ c.turn_by.ensures.same.1))))
    up.long up.others gave.1 c.turn_by-3.ensures.turned gave.2 gave.3 in
    given.1
