use Rattle.pm_halves.proofs.Seating as laws
use Rattle.pm_halves.proofs.table.TwoTable.join_seat.Goals as goal

pub join_seat-requires : goal.join_seat-requires
join_seat-requires g c =
    laws.join_of g.T.Tie.words g.T.Tie.places g.P.TableRule.holds g.Q.TableRule.holds g.T.Tie.tied c.seat.inside.seat.id c.other.inside.seat.id (λ v w. (g.M.Join.both v.0 w.0, g.N.Join.both v.1 w.1)) (g.M.Join.spent, g.N.Join.spent) c.seat.inside.seat.table_id c.self.inside.table.shared.table_id c.other.inside.seat.table_id c.self.inside.table.shared.key c.seat.inside.seat.me c.other.inside.seat.me c.args.self.now c.args.seat.now c.args.other
    c.self.invariant.0 c.seat.invariant c.other.invariant c.self.view_is c.seat.view_is c.other.view_is c.requires

pub invariant_of-seat : goal.invariant_of-seat
invariant_of-seat g c =
    let knows = laws.knows_both g.T.Tie.words g.T.Tie.places (λ v w. (g.M.Join.both v.0 w.0, g.N.Join.both v.1 w.1)) c.seat.inside.seat.table_id c.join_seat.new.seat.table_id c.other.inside.seat.table_id c.seat.inside.seat.id c.join_seat.new.seat.id c.other.inside.seat.id c.seat.inside.seat.me c.join_seat.new.seat.me c.other.inside.seat.me c.args.seat.now c.args.other
    c.seat.invariant c.seat.view_is c.other.view_is c.join_seat.ensures.0 c.join_seat.ensures.1 c.join_seat.ensures.2 in
    knows.1

pub returns : goal.returns
returns g c =
    let knows = laws.knows_both g.T.Tie.words g.T.Tie.places (λ v w. (g.M.Join.both v.0 w.0, g.N.Join.both v.1 w.1)) c.seat.inside.seat.table_id c.join_seat.new.seat.table_id c.other.inside.seat.table_id c.seat.inside.seat.id c.join_seat.new.seat.id c.other.inside.seat.id c.seat.inside.seat.me c.join_seat.new.seat.me c.other.inside.seat.me c.args.seat.now c.args.other
    c.seat.invariant c.seat.view_is c.other.view_is c.join_seat.ensures.0 c.join_seat.ensures.1 c.join_seat.ensures.2 in
    knows.0
