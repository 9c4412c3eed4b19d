use Rattle.std.{proofs.Common.{inr, sym, ap, subst, ◌∙◌, refl, length}, specs.Prelude.is_some}
use Rattle.pm_supervisor_journal.specs.{declared.exit.ChildExit.ChildExit, pm_outside.Added.Added, Standing.{exiting, made}, Supervision.{at_work, standing}}
use Rattle.pm_board.specs.Gate.{gate_of}
use Rattle.pm_board_acts.{specs.Standing.view, proofs.{Calling.{none_noted, exited_goes, cut_off, there_of, looked_then}, Resting.{exited_fresh, exited_may}, Afresh.became_same, Keeping.{adds_tells, keeps_became}, Reaping.{reaped_released, reaped_running}}}
use Rattle.pm_board_acts.proofs.desk.Desk.look_at.Goals as goal

pub exited-requires-clause-there : goal.exited-requires-clause-there
exited-requires-clause-there g c =
    let v = view (at_work c.args.self.now.supervision) c.args.self.now.roster.knows in
    let sits = sym c.seated.ensures ∙ c.in-Some.is in
    there_of g.M.Letter v c.args.slot c.in-Some.child c.in-Some-reap.released c.exit_of.result (g.M.Report.kept c.in-Some-reap.released.job)
    c.args.self.now.roster.knows c.reap.new.roster.knows c.requires.running sits c.in-Some-reap.ensures.ended.0 c.exit_of.ensures

pub returns-in-None-clause-looks : goal.returns-in-None-clause-looks
returns-in-None-clause-looks g c =
    let v = view (at_work c.args.self.now.supervision) c.args.self.now.roster.knows in
    let w = view (at_work c.args.self.now.supervision) c.reap.new.roster.knows in
    let sits = sym c.seated.ensures ∙ c.in-Some.is in
    let still = c.in-None.ensures.runs in (
      none_noted v w refl refl (ap gate_of still.0.became.whole) (became_same c.args.slot _ _ v.board w.board still.0.became refl) (ap length still.1)
          (λ limits count moves at. looked_then count moves v w c.args.slot c.in-Some.child at.seated c.requires.slot sits still.0 still.1),
      refl,
      keeps_became c.args.slot _ _ v.board w.board still.0.became refl,
      inr (c.in-Some.child, still.0),
    )

pub returns-in-None-clause-reaped : goal.returns-in-None-clause-reaped
returns-in-None-clause-reaped g c = reaped_running c.args.slot c.in-Some.child c.args.self.now.roster.knows c.reap.new.roster.knows c.in-None.ensures.runs.0

pub returns-in-Ok-clause-looks : goal.returns-in-Ok-clause-looks
returns-in-Ok-clause-looks g c =
    let v = view (at_work c.args.self.now.supervision) c.args.self.now.roster.knows in
    let w = view (at_work c.exited.new.self) c.reap.new.roster.knows in
    let s = standing c.args.self.now.supervision in
    let released = c.in-Some-reap.released in
    let kept = g.M.Report.kept released.job in
    let sits = sym c.seated.ensures ∙ c.in-Some.is in
    let ended = c.in-Some-reap.ensures.ended in
    let after = c.in-Ok.ensures.standing ∙ ap (λ (x : ChildExit). made (exiting x c.args.now s) s) c.exit_of.ensures in (
      c.in-Some.child,
      ended.0,
      exited_goes g.M.Letter c.laws.ensures.work c.args.slot c.args.now c.in-Some.child released kept v w c.requires.rests c.requires.unowed c.requires.slot sits ended.0 ended.1
          after
          (subst (λ (x : ChildExit). Added (exiting x c.args.now s).entries v.work.told w.work.told) c.exit_of.ensures c.in-Ok.ensures.told)
          (λ running. exited_may c.laws.ensures.starts c.laws.ensures.journal v w c.exit_of.result c.args.now running c.requires.rests
          (there_of g.M.Letter v c.args.slot c.in-Some.child released c.exit_of.result kept c.args.self.now.roster.knows c.reap.new.roster.knows running sits ended.0 c.exit_of.ensures)
          c.in-Ok.ensures.standing (ap gate_of ended.0.became.whole))
          (exited_fresh g.M.Letter c.laws.ensures.journal v w c.args.slot c.args.now c.in-Some.child released kept c.requires.rests sits ended.0),
      after,
    )

pub returns-in-Ok-clause-reaped : goal.returns-in-Ok-clause-reaped
returns-in-Ok-clause-reaped g c =
    reaped_released g.M.Letter c.args.slot c.in-Some.child c.in-Some-reap.released c.args.self.now.roster.knows c.reap.new.roster.knows c.in-Some-reap.ensures.ended.0

pub returns-in-Err-clause-looks : goal.returns-in-Err-clause-looks
returns-in-Err-clause-looks g c =
    let v = view (at_work c.args.self.now.supervision) c.args.self.now.roster.knows in
    let w = view (at_work c.exited.new.self) c.reap.new.roster.knows in
    let sits = sym c.seated.ensures ∙ c.in-Some.is in
    let ended = c.in-Some-reap.ensures.ended in
    let refused = c.in-Err.ensures.refused in (
      c.in-Some.child,
      ended.0,
      cut_off g.M.Letter c.args.slot c.in-Some.child c.in-Some-reap.released v w c.requires.slot sits ended.0 ended.1 refused.0 refused.1,
    )

pub returns-in-Err-clause-reaped : goal.returns-in-Err-clause-reaped
returns-in-Err-clause-reaped g c =
    reaped_released g.M.Letter c.args.slot c.in-Some.child c.in-Some-reap.released c.args.self.now.roster.knows c.reap.new.roster.knows c.in-Some-reap.ensures.ended.0

pub returns-in-Ok-clause-tells : goal.returns-in-Ok-clause-tells
returns-in-Ok-clause-tells g c = adds_tells _ _ _ c.in-Ok.ensures.told

pub returns-in-Err-clause-tells : goal.returns-in-Err-clause-tells
returns-in-Err-clause-tells g c = ap is_some c.in-Err.ensures.refused.1
