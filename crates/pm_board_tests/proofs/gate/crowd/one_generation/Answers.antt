use Rattle.std.proofs.Common.{◌≡◌, ◌+◌, ◌<◌, ap, ◌∙◌, arith}
use Rattle.pm_board_tests.proofs.GateBoards as boards
use Rattle.pm_board_tests.proofs.gate.crowd.one_generation.Goals as goal

pub reap_all-tally-requires-clause-children : goal.reap_all-tally-requires-clause-children
reap_all-tally-requires-clause-children g c = boards.stepped _ _ _ _ _ _ (boards.stepped _ _ _ _ _ _ c.fill.ensures.children c.open.ensures) c.shut.ensures

pub reset-next-requires-clause-may : goal.reset-next-requires-clause-may
reset-next-requires-clause-may g c =
    let opened = ap (λ d. d.generation) c.open.ensures ∙ ap (λ gate. gate.generation) c.fill.ensures.gate in
    let number : c.reap_all-tally.new.roster.knows.generation ≡ c.args.round + 1 = ap (λ gate. gate.generation) c.reap_all-tally.ensures.gate ∙ (ap (λ d. d.generation) c.shut.ensures ∙ opened) in
    let few : c.args.round < 1000 = c.requires.round in
    boards.may_reset _ _ c.reap_all-tally.ensures.empty (omega arith)
