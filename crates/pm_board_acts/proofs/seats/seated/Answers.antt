use Rattle.std.proofs.Common.{ap, sym, subst, ◌∙◌, ◌<◌}
use Rattle.pm_board_acts.{specs.Board.enrolled, proofs.Seen.{as_many, seat_seen}}
use Rattle.pm_board_acts.proofs.seats.seated.Goals as goal

pub child-requires : goal.child-requires
child-requires g c = subst (λ n. c.args.slot < n) (as_many c.args.roster.now.knows) c.requires

pub returns-in-None : goal.returns-in-None
returns-in-None g c =
    let near = subst (λ n. c.args.slot < n) (as_many c.args.roster.now.knows) c.requires in
    sym (seat_seen c.args.roster.now.knows c.args.slot near ∙ ap enrolled (sym c.child.ensures ∙ c.in-None.is))

pub returns-in-Some : goal.returns-in-Some
returns-in-Some g c =
    let near = subst (λ n. c.args.slot < n) (as_many c.args.roster.now.knows) c.requires in
    sym (seat_seen c.args.roster.now.knows c.args.slot near ∙ ap enrolled (sym c.child.ensures ∙ c.in-Some.is))
