use Rattle.std.proofs.Common.{ap, ◌∙◌}
use Rattle.pm_board.specs.{pm_board_words.declared.views.Work.TheVariants.Inactive, Told.with_work}
use Rattle.pm_gate.proofs.detach.Goals as goal

pub let_go-requires-clause-attached : goal.let_go-requires-clause-attached
let_go-requires-clause-attached g c = (c.requires.attached.0, c.args.attached.generation, c.requires.attached.1)

pub unmark-requires : goal.unmark-requires
unmark-requires g c = (c.requires.attached.0, ap (λ w. w.work) (c.let_go.ensures.knows c.requires.attached.0 c.args.attached.generation c.requires.attached.1))

pub returns-clause-knows : goal.returns-clause-knows
returns-clause-knows g c o does =
    let out = c.let_go.ensures.knows o c.args.attached.generation does in
    c.unmark.ensures.knows o (ap (λ w. w.work) out) ∙ ap (λ w. with_work w (Inactive o)) out
