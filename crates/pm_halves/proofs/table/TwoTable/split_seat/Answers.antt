use Rattle.pm_halves.proofs.Seating as laws
use Rattle.pm_halves.proofs.table.TwoTable.split_seat.Goals as goal

pub split_seat-new-requires : goal.split_seat-new-requires
split_seat-new-requires g c =
    laws.split_of g.T.Tie.words g.T.Tie.places g.P.TableRule.holds g.Q.TableRule.holds g.T.Tie.tied c.seat.inside.seat.id (λ v. (g.M.Split.left v.0, g.N.Split.left v.1)) (λ v. (g.M.Split.right v.0, g.N.Split.right v.1)) c.seat.inside.seat.table_id c.self.inside.table.shared.table_id c.self.inside.table.shared.key c.seat.inside.seat.me c.args.self.now c.args.seat.now
    c.self.invariant.0 c.seat.invariant c.self.view_is c.seat.view_is c.requires

pub invariant_of-seat : goal.invariant_of-seat
invariant_of-seat g c =
    let knows = laws.knows g.T.Tie.words g.T.Tie.places (λ v. (g.M.Split.left v.0, g.N.Split.left v.1)) c.seat.inside.seat.table_id c.split_seat-new.new.seat.table_id c.seat.inside.seat.id c.split_seat-new.new.seat.id c.seat.inside.seat.me c.split_seat-new.new.seat.me c.args.seat.now
    c.seat.invariant c.seat.view_is c.split_seat-new.ensures.0 c.split_seat-new.ensures.1 c.split_seat-new.ensures.2 in
    knows.1

pub invariant_of-result : goal.invariant_of-result
invariant_of-result g c =
    let new = laws.new_seat g.T.Tie.words g.T.Tie.places (λ v. (g.M.Split.right v.0, g.N.Split.right v.1)) c.seat.inside.seat.table_id c.split_seat-new.result.table_id c.seat.inside.seat.id c.split_seat-new.result.id c.seat.inside.seat.me c.split_seat-new.result.me c.args.seat.now
    c.seat.invariant.0 c.seat.view_is c.split_seat-new.ensures.3 c.split_seat-new.ensures.4 in
    new.1

pub returns-clause-left : goal.returns-clause-left
returns-clause-left g c =
    let knows = laws.knows g.T.Tie.words g.T.Tie.places (λ v. (g.M.Split.left v.0, g.N.Split.left v.1)) c.seat.inside.seat.table_id c.split_seat-new.new.seat.table_id c.seat.inside.seat.id c.split_seat-new.new.seat.id c.seat.inside.seat.me c.split_seat-new.new.seat.me c.args.seat.now
    c.seat.invariant c.seat.view_is c.split_seat-new.ensures.0 c.split_seat-new.ensures.1 c.split_seat-new.ensures.2 in
    knows.0

pub returns-clause-right : goal.returns-clause-right
returns-clause-right g c =
    let new = laws.new_seat g.T.Tie.words g.T.Tie.places (λ v. (g.M.Split.right v.0, g.N.Split.right v.1)) c.seat.inside.seat.table_id c.split_seat-new.result.table_id c.seat.inside.seat.id c.split_seat-new.result.id c.seat.inside.seat.me c.split_seat-new.result.me c.args.seat.now
    c.seat.invariant.0 c.seat.view_is c.split_seat-new.ensures.3 c.split_seat-new.ensures.4 in
    new.0
