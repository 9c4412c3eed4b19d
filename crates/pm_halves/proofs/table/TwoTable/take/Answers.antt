use Rattle.std.proofs.Common.{◌+◌, ◌-◌, [], ◌∷◌, sym, ap, ◌∙◌, subst}
use Rattle.pm_halves.specs.{declared.lot.Lot.TheVariants.Second, Places.told_of_take}
use Rattle.pm_halves.proofs.Placing as placing
use Rattle.pm_halves.proofs.Taking as laws
use Rattle.pm_halves.proofs.table.TwoTable.take.Goals as goal

pub compare_exchange-found-requires : goal.compare_exchange-found-requires
compare_exchange-found-requires g c =
    placing.take_of g.T.Tie.words g.T.Tie.places g.P.TableRule.holds g.Q.TableRule.holds g.T.Tie.tied g.M.Play.then g.N.Tells.tells c.seat.inside.seat.id c.args.place (c.word_count.result - c.self.inside.places) c.args.to c.seat.inside.seat.table_id c.self.inside.table.shared.table_id c.self.inside.table.shared.key c.seat.inside.seat.me _ _
    c.self.invariant.0 (placing.counted _ _ _ _ c.word_count.ensures c.self.invariant.1) c.seat.invariant c.self.view_is c.seat.view_is c.requires.table c.requires.may c.requires.ties

pub returns-then-found-ne0-clause-taken : goal.returns-then-found-ne0-clause-taken
returns-then-found-ne0-clause-taken g c =
    let none = laws.took_none g.T.Tie.words g.T.Tie.places g.M.Play.then g.N.Tells.tells c.seat.inside.seat.id c.args.place (c.word_count.result - c.self.inside.places) c.args.to c.compare_exchange-found.result c.seat.inside.seat.table_id c.self.inside.table.shared.table_id c.compare_exchange-found.new.seat.table_id c.compare_exchange-found.new.seat.id c.seat.inside.seat.me c.compare_exchange-found.new.seat.me c.args.seat.now
    c.self.invariant.0 (placing.counted _ _ _ _ c.word_count.ensures c.self.invariant.1) c.seat.invariant c.seat.view_is c.compare_exchange-found.ensures.0 c.compare_exchange-found.ensures.1 c.requires.may.2 c.compare_exchange-found.ensures.2 c.if-found-ne0.true in
    (c.compare_exchange-found.result, c.if-found-ne0.true, none.1.0, none.1.1, none.1.2)

pub exchange-requires : goal.exchange-requires
exchange-requires g c =
    let same = (placing.take_of g.T.Tie.words g.T.Tie.places g.P.TableRule.holds g.Q.TableRule.holds g.T.Tie.tied g.M.Play.then g.N.Tells.tells c.seat.inside.seat.id c.args.place (c.word_count.result - c.self.inside.places) c.args.to c.seat.inside.seat.table_id c.self.inside.table.shared.table_id c.self.inside.table.shared.key c.seat.inside.seat.me _ _
    c.self.invariant.0 (placing.counted _ _ _ _ c.word_count.ensures c.self.invariant.1) c.seat.invariant c.self.view_is c.seat.view_is c.requires.table c.requires.may c.requires.ties).0 in
    let took = laws.took g.T.Tie.words g.T.Tie.places g.M.Play.then g.N.Tells.tells c.seat.inside.seat.id c.args.place (c.word_count.result - c.self.inside.places) c.args.to c.compare_exchange-found.result c.seat.inside.seat.table_id c.self.inside.table.shared.table_id c.seat.inside.seat.me c.compare_exchange-found.new.seat.me c.args.seat.now
    c.self.invariant.0 (placing.counted _ _ _ _ c.word_count.ensures c.self.invariant.1) c.seat.view_is c.requires.may.2 c.compare_exchange-found.ensures.2 c.if-found-ne0.false in
    let slot = ap (λ n. n + c.args.place) (placing.counted _ _ _ _ c.slot_count.ensures c.self.invariant.1 ∙ ap (λ t. t.slots - g.T.Tie.places) (sym same)) in
    let at = took.2 ∙ ap (λ t. ((c.seat.inside.seat.me.0.0, took.1), ((t.slots - g.T.Tie.places) + c.args.place, Second took.0) ∷ c.seat.inside.seat.me.1)) (sym same) in
    (c.compare_exchange-found.ensures.0 ∙ same, laws.on_top _ _ took.0 _ _ (ap (λ me. me.1) at) slot)

pub invariant_of-seat-2 : goal.invariant_of-seat-2
invariant_of-seat-2 g c =
    let same = (placing.take_of g.T.Tie.words g.T.Tie.places g.P.TableRule.holds g.Q.TableRule.holds g.T.Tie.tied g.M.Play.then g.N.Tells.tells c.seat.inside.seat.id c.args.place (c.word_count.result - c.self.inside.places) c.args.to c.seat.inside.seat.table_id c.self.inside.table.shared.table_id c.self.inside.table.shared.key c.seat.inside.seat.me _ _
    c.self.invariant.0 (placing.counted _ _ _ _ c.word_count.ensures c.self.invariant.1) c.seat.invariant c.self.view_is c.seat.view_is c.requires.table c.requires.may c.requires.ties).0 in
    let took = laws.took g.T.Tie.words g.T.Tie.places g.M.Play.then g.N.Tells.tells c.seat.inside.seat.id c.args.place (c.word_count.result - c.self.inside.places) c.args.to c.compare_exchange-found.result c.seat.inside.seat.table_id c.self.inside.table.shared.table_id c.seat.inside.seat.me c.compare_exchange-found.new.seat.me c.args.seat.now
    c.self.invariant.0 (placing.counted _ _ _ _ c.word_count.ensures c.self.invariant.1) c.seat.view_is c.requires.may.2 c.compare_exchange-found.ensures.2 c.if-found-ne0.false in
    let slot = ap (λ n. n + c.args.place) (placing.counted _ _ _ _ c.slot_count.ensures c.self.invariant.1 ∙ ap (λ t. t.slots - g.T.Tie.places) (sym same)) in
    let at = took.2 ∙ ap (λ t. ((c.seat.inside.seat.me.0.0, took.1), ((t.slots - g.T.Tie.places) + c.args.place, Second took.0) ∷ c.seat.inside.seat.me.1)) (sym same) in
    let back = laws.put_back_of g.T.Tie.words g.T.Tie.places c.seat.inside.seat.table_id c.turn.new.self.table_id c.seat.inside.seat.id c.turn.new.self.id ((c.slot_count.result - c.self.inside.places) + c.args.place) c.args.place took.1 (Second took.0) c.args.empty c.seat.inside.seat.me c.compare_exchange-found.new.seat.me c.exchange.new.seat.me c.turn.new.self.me c.args.seat.now
    c.seat.invariant c.seat.view_is (c.turn.ensures.0 ∙ (c.exchange.ensures.0 ∙ c.compare_exchange-found.ensures.0)) (c.turn.ensures.1 ∙ (c.exchange.ensures.1 ∙ c.compare_exchange-found.ensures.1)) slot at c.exchange.ensures.3 c.turn.ensures.2 in
    back.2

pub returns-clause-first : goal.returns-clause-first
returns-clause-first g c =
    let same = (placing.take_of g.T.Tie.words g.T.Tie.places g.P.TableRule.holds g.Q.TableRule.holds g.T.Tie.tied g.M.Play.then g.N.Tells.tells c.seat.inside.seat.id c.args.place (c.word_count.result - c.self.inside.places) c.args.to c.seat.inside.seat.table_id c.self.inside.table.shared.table_id c.self.inside.table.shared.key c.seat.inside.seat.me _ _
    c.self.invariant.0 (placing.counted _ _ _ _ c.word_count.ensures c.self.invariant.1) c.seat.invariant c.self.view_is c.seat.view_is c.requires.table c.requires.may c.requires.ties).0 in
    let took = laws.took g.T.Tie.words g.T.Tie.places g.M.Play.then g.N.Tells.tells c.seat.inside.seat.id c.args.place (c.word_count.result - c.self.inside.places) c.args.to c.compare_exchange-found.result c.seat.inside.seat.table_id c.self.inside.table.shared.table_id c.seat.inside.seat.me c.compare_exchange-found.new.seat.me c.args.seat.now
    c.self.invariant.0 (placing.counted _ _ _ _ c.word_count.ensures c.self.invariant.1) c.seat.view_is c.requires.may.2 c.compare_exchange-found.ensures.2 c.if-found-ne0.false in
    let slot = ap (λ n. n + c.args.place) (placing.counted _ _ _ _ c.slot_count.ensures c.self.invariant.1 ∙ ap (λ t. t.slots - g.T.Tie.places) (sym same)) in
    let at = took.2 ∙ ap (λ t. ((c.seat.inside.seat.me.0.0, took.1), ((t.slots - g.T.Tie.places) + c.args.place, Second took.0) ∷ c.seat.inside.seat.me.1)) (sym same) in
    let back = laws.put_back_of g.T.Tie.words g.T.Tie.places c.seat.inside.seat.table_id c.turn.new.self.table_id c.seat.inside.seat.id c.turn.new.self.id ((c.slot_count.result - c.self.inside.places) + c.args.place) c.args.place took.1 (Second took.0) c.args.empty c.seat.inside.seat.me c.compare_exchange-found.new.seat.me c.exchange.new.seat.me c.turn.new.self.me c.args.seat.now
    c.seat.invariant c.seat.view_is (c.turn.ensures.0 ∙ (c.exchange.ensures.0 ∙ c.compare_exchange-found.ensures.0)) (c.turn.ensures.1 ∙ (c.exchange.ensures.1 ∙ c.compare_exchange-found.ensures.1)) slot at c.exchange.ensures.3 c.turn.ensures.2 in
    back.0

pub returns-clause-taken : goal.returns-clause-taken
returns-clause-taken g c =
    let same = (placing.take_of g.T.Tie.words g.T.Tie.places g.P.TableRule.holds g.Q.TableRule.holds g.T.Tie.tied g.M.Play.then g.N.Tells.tells c.seat.inside.seat.id c.args.place (c.word_count.result - c.self.inside.places) c.args.to c.seat.inside.seat.table_id c.self.inside.table.shared.table_id c.self.inside.table.shared.key c.seat.inside.seat.me _ _
    c.self.invariant.0 (placing.counted _ _ _ _ c.word_count.ensures c.self.invariant.1) c.seat.invariant c.self.view_is c.seat.view_is c.requires.table c.requires.may c.requires.ties).0 in
    let took = laws.took g.T.Tie.words g.T.Tie.places g.M.Play.then g.N.Tells.tells c.seat.inside.seat.id c.args.place (c.word_count.result - c.self.inside.places) c.args.to c.compare_exchange-found.result c.seat.inside.seat.table_id c.self.inside.table.shared.table_id c.seat.inside.seat.me c.compare_exchange-found.new.seat.me c.args.seat.now
    c.self.invariant.0 (placing.counted _ _ _ _ c.word_count.ensures c.self.invariant.1) c.seat.view_is c.requires.may.2 c.compare_exchange-found.ensures.2 c.if-found-ne0.false in
    let slot = ap (λ n. n + c.args.place) (placing.counted _ _ _ _ c.slot_count.ensures c.self.invariant.1 ∙ ap (λ t. t.slots - g.T.Tie.places) (sym same)) in
    let at = took.2 ∙ ap (λ t. ((c.seat.inside.seat.me.0.0, took.1), ((t.slots - g.T.Tie.places) + c.args.place, Second took.0) ∷ c.seat.inside.seat.me.1)) (sym same) in
    let back = laws.put_back_of g.T.Tie.words g.T.Tie.places c.seat.inside.seat.table_id c.turn.new.self.table_id c.seat.inside.seat.id c.turn.new.self.id ((c.slot_count.result - c.self.inside.places) + c.args.place) c.args.place took.1 (Second took.0) c.args.empty c.seat.inside.seat.me c.compare_exchange-found.new.seat.me c.exchange.new.seat.me c.turn.new.self.me c.args.seat.now
    c.seat.invariant c.seat.view_is (c.turn.ensures.0 ∙ (c.exchange.ensures.0 ∙ c.compare_exchange-found.ensures.0)) (c.turn.ensures.1 ∙ (c.exchange.ensures.1 ∙ c.compare_exchange-found.ensures.1)) slot at c.exchange.ensures.3 c.turn.ensures.2 in
    let out = laws.came_out _ _ took.0 c.in-Second.value c.exchange.result c.compare_exchange-found.new.seat.me.1 _ _ (ap (λ me. me.1) at) c.exchange.ensures.2 c.in-Second.is in (
      subst (λ u. told_of_take g.M.Play.then g.T.Tie.places c.args.place c.args.to c.args.seat.now.more.0 0 (u, (c.args.place, c.in-Second.value) ∷ [])) (sym back.3)
          (subst (λ y. told_of_take g.M.Play.then g.T.Tie.places c.args.place c.args.to c.args.seat.now.more.0 0 (took.1, (c.args.place, y) ∷ [])) (sym out) took.3),
      subst (g.N.Tells.tells c.args.seat.now.me.0 0) (sym back.3) took.4,
      back.1,
    )
