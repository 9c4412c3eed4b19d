use Rattle.std.specs.Prelude.{◌+◌, ◌-◌, ◌%◌, ◌^◌}
use Rattle.pm_halves.proofs.Stepping as laws
use Rattle.pm_halves.proofs.table.TwoTable.fetch_sub.Goals as goal

pub fetch_sub-requires : goal.fetch_sub-requires
fetch_sub-requires g c = laws.first_of g.T.Tie.words g.T.Tie.places g.P.TableRule.holds g.Q.TableRule.holds g.T.Tie.tied g.M.Play.then (λ n. n) (λ n. (n + (2 ^ 64 - c.args.k)) % 2 ^ 64) c.args.word c.args.k 0 _ _ _ c.self.inside.table.shared.key _ _ _ c.self.invariant.0 c.seat.invariant c.self.view_is c.seat.view_is c.requires.may c.requires.ties

pub invariant_of-seat : goal.invariant_of-seat
invariant_of-seat g c = let owes = laws.first_of g.T.Tie.words g.T.Tie.places g.P.TableRule.holds g.Q.TableRule.holds g.T.Tie.tied g.M.Play.then (λ n. n) (λ n. (n + (2 ^ 64 - c.args.k)) % 2 ^ 64) c.args.word c.args.k 0 _ _ _ c.self.inside.table.shared.key _ _ _ c.self.invariant.0 c.seat.invariant c.self.view_is c.seat.view_is c.requires.may c.requires.ties in
    (laws.first_after g.T.Tie.words g.T.Tie.places g.M.Play.then c.fetch_sub.result c.args.word c.args.k 0 _ _ _ _ _ c.self.inside.table.shared.key _ _ _ _ c.seat.invariant owes.0 c.fetch_sub.ensures.0 c.fetch_sub.ensures.1 c.self.view_is c.seat.view_is c.fetch_sub.ensures.2).2

pub returns-clause-told : goal.returns-clause-told
returns-clause-told g c = let owes = laws.first_of g.T.Tie.words g.T.Tie.places g.P.TableRule.holds g.Q.TableRule.holds g.T.Tie.tied g.M.Play.then (λ n. n) (λ n. (n + (2 ^ 64 - c.args.k)) % 2 ^ 64) c.args.word c.args.k 0 _ _ _ c.self.inside.table.shared.key _ _ _ c.self.invariant.0 c.seat.invariant c.self.view_is c.seat.view_is c.requires.may c.requires.ties in
    (laws.first_after g.T.Tie.words g.T.Tie.places g.M.Play.then c.fetch_sub.result c.args.word c.args.k 0 _ _ _ _ _ c.self.inside.table.shared.key _ _ _ _ c.seat.invariant owes.0 c.fetch_sub.ensures.0 c.fetch_sub.ensures.1 c.self.view_is c.seat.view_is c.fetch_sub.ensures.2).0

pub returns-clause-more : goal.returns-clause-more
returns-clause-more g c = let owes = laws.first_of g.T.Tie.words g.T.Tie.places g.P.TableRule.holds g.Q.TableRule.holds g.T.Tie.tied g.M.Play.then (λ n. n) (λ n. (n + (2 ^ 64 - c.args.k)) % 2 ^ 64) c.args.word c.args.k 0 _ _ _ c.self.inside.table.shared.key _ _ _ c.self.invariant.0 c.seat.invariant c.self.view_is c.seat.view_is c.requires.may c.requires.ties in
    (laws.first_after g.T.Tie.words g.T.Tie.places g.M.Play.then c.fetch_sub.result c.args.word c.args.k 0 _ _ _ _ _ c.self.inside.table.shared.key _ _ _ _ c.seat.invariant owes.0 c.fetch_sub.ensures.0 c.fetch_sub.ensures.1 c.self.view_is c.seat.view_is c.fetch_sub.ensures.2).1
