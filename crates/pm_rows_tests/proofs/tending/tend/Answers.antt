use Rattle.std.proofs.Common.{◌∙◌}
use Rattle.pm_rows_tests.{specs.Asking.TendNotes, proofs.Askings.{tending_notes, visits}}
use Rattle.pm_query.proofs.NotedLaws.{newcomer_is}
use Rattle.pm_rows_tests.proofs.tending.tend.Goals as goal

pub returns : goal.returns
returns g c =
    let user = newcomer_is c.args.pid c.args.generation _ _ _ (g.met.S.Store.stays _ _ _ c.in_ok-pass.ensures.notes.1) c.in_ok-pass.ensures.view in
    let visit = visits g.S.Store.notes _ _ _ (λ user entries. TendNotes user c.args.clean c.keep_up-outcome.result entries) _ _ _ _ g.met.S.Store.in_turn user (c.keep_up-outcome.ensures.user ∙ user)
    c.in_ok-pass.ensures.notes c.keep_up-outcome.ensures.notes c.leave.ensures.notes in
    (visit.0, visit.1, tending_notes _ _ _ visit.0 visit.2)
