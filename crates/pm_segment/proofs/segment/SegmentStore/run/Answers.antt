use Rattle.std.{proofs.{Common.{◌≡◌, ◌∙◌, List, [], All, Result, Ok, Err, refl, sym, ap, subst}, lemmas.Result.{IfOk-weaker, err_from_is_err_and}}, specs.Prelude.{IfOk, OnErr}}
use Rattle.pm_query.specs.{pm_rows.{Fold.RowMap}, pm_sql.declared.stmt.Stmt.Stmt, Answer.commit_of, Calls.{ReachesNoLess, with_front}, Limits.HasShortValues, declared.store.{Staged.Staged, StoreNo.StoreNo}}
use Rattle.pm_store_apart.{specs.{declared.{commit.Begun.Begun, commits.Commits.TheVariants.AtOnce, pass.Pass.Pass}, Begun.{HasBegun, HasRun}, Causes.MakesNoCall, MovesLaws.moves_on, Passes.view_of, ApartLaws.{admits_alone, admits_over}}, proofs.{BeginsLaws.{cause_as, notes_as, staged_never}, EarlyLaws.never_early}}
use Rattle.pm_segment.specs.Moment.{over_as}
use Rattle.pm_segment.proofs.segment.SegmentStore.run.Goals as goal

pub begin-requires : goal.begin-requires
begin-requires g c = admits_alone c.args.pass.now c.args.self.now.commits c.args.self.now.disk c.args.self.now.apart c.requires

pub invariant_of-self : goal.invariant_of-self
invariant_of-self g c =
    let run = c.in_err-begun.ensures.begun in
    record {
      rests = run.grows.rests c.args.self.now.disk c.args.self.now.rests;
      home = run.grows.lent ∙ c.args.self.now.home;
      at_once = λ at. run.staged c.args.self.now.disk ∙ sym (staged_never (over_as c.args.self.now.commits c.args.self.now.disk c.args.self.now.apart) c.args.script.now (Err c.in_err-begun.field-0.0) [] at (c.args.self.now.at_once at) refl);
    }

pub returns-in_err-begun-clause-notes : goal.returns-in_err-begun-clause-notes
returns-in_err-begun-clause-notes g c =
    let p = err_from_is_err_and c.from_residual.result c.from_residual.ensures.1 in
    let run = subst (λ (result : Result Staged StoreNo). HasRun c.args.self.now.commits c.args.self.now.apart c.begin.new.self c.args.pass.now c.begin.new.pass c.args.script.now result) (sym (p.1 ∙ ap (λ (refusal : StoreNo). Err refusal) p.2)) c.in_err-begun.ensures.begun in
    (run.entries, run.grows.moves c.args.self.now.commits c.args.self.now.disk, run.notes)

pub returns-in_err-begun-clause-admits : goal.returns-in_err-begun-clause-admits
returns-in_err-begun-clause-admits g c =
    let p = err_from_is_err_and c.from_residual.result c.from_residual.ensures.1 in
    let run = subst (λ (result : Result Staged StoreNo). HasRun c.args.self.now.commits c.args.self.now.apart c.begin.new.self c.args.pass.now c.begin.new.pass c.args.script.now result) (sym (p.1 ∙ ap (λ (refusal : StoreNo). Err refusal) p.2)) c.in_err-begun.ensures.begun in
    admits_over c.begin.new.pass c.args.self.now.commits c.args.self.now.disk c.begin.new.self c.begin.ensures.admits

pub returns-in_err-begun-clause-fresh : goal.returns-in_err-begun-clause-fresh
returns-in_err-begun-clause-fresh g c =
    let p = err_from_is_err_and c.from_residual.result c.from_residual.ensures.1 in
    let run = subst (λ (result : Result Staged StoreNo). HasRun c.args.self.now.commits c.args.self.now.apart c.begin.new.self c.args.pass.now c.begin.new.pass c.args.script.now result) (sym (p.1 ∙ ap (λ (refusal : StoreNo). Err refusal) p.2)) c.in_err-begun.ensures.begun in
    run.fresh

pub returns-in_err-begun-clause-view : goal.returns-in_err-begun-clause-view
returns-in_err-begun-clause-view g c =
    let p = err_from_is_err_and c.from_residual.result c.from_residual.ensures.1 in
    let run = subst (λ (result : Result Staged StoreNo). HasRun c.args.self.now.commits c.args.self.now.apart c.begin.new.self c.args.pass.now c.begin.new.pass c.args.script.now result) (sym (p.1 ∙ ap (λ (refusal : StoreNo). Err refusal) p.2)) c.in_err-begun.ensures.begun in
    run.view

pub returns-in_err-begun-clause-refused : goal.returns-in_err-begun-clause-refused
returns-in_err-begun-clause-refused g c =
    let p = err_from_is_err_and c.from_residual.result c.from_residual.ensures.1 in
    let run = subst (λ (result : Result Staged StoreNo). HasRun c.args.self.now.commits c.args.self.now.apart c.begin.new.self c.args.pass.now c.begin.new.pass c.args.script.now result) (sym (p.1 ∙ ap (λ (refusal : StoreNo). Err refusal) p.2)) c.in_err-begun.ensures.begun in
    run.refused

pub returns-in_err-begun-clause-short : goal.returns-in_err-begun-clause-short
returns-in_err-begun-clause-short g c =
    let p = err_from_is_err_and c.from_residual.result c.from_residual.ensures.1 in
    let run = subst (λ (result : Result Staged StoreNo). HasRun c.args.self.now.commits c.args.self.now.apart c.begin.new.self c.args.pass.now c.begin.new.pass c.args.script.now result) (sym (p.1 ∙ ap (λ (refusal : StoreNo). Err refusal) p.2)) c.in_err-begun.ensures.begun in
    run.short

pub returns-in_err-begun-clause-cause : goal.returns-in_err-begun-clause-cause
returns-in_err-begun-clause-cause g c =
    let p = err_from_is_err_and c.from_residual.result c.from_residual.ensures.1 in
    let run = subst (λ (result : Result Staged StoreNo). HasRun c.args.self.now.commits c.args.self.now.apart c.begin.new.self c.args.pass.now c.begin.new.pass c.args.script.now result) (sym (p.1 ∙ ap (λ (refusal : StoreNo). Err refusal) p.2)) c.in_err-begun.ensures.begun in
    run.cause c.args.self.now.disk

pub returns-in_err-begun-clause-early : goal.returns-in_err-begun-clause-early
returns-in_err-begun-clause-early g c =
    let p = err_from_is_err_and c.from_residual.result c.from_residual.ensures.1 in
    let run = subst (λ (result : Result Staged StoreNo). HasRun c.args.self.now.commits c.args.self.now.apart c.begin.new.self c.args.pass.now c.begin.new.pass c.args.script.now result) (sym (p.1 ∙ ap (λ (refusal : StoreNo). Err refusal) p.2)) c.in_err-begun.ensures.begun in
    run.early

pub returns-in_err-begun-clause-rest : goal.returns-in_err-begun-clause-rest
returns-in_err-begun-clause-rest g c =
    let p = err_from_is_err_and c.from_residual.result c.from_residual.ensures.1 in
    let run = subst (λ (result : Result Staged StoreNo). HasRun c.args.self.now.commits c.args.self.now.apart c.begin.new.self c.args.pass.now c.begin.new.pass c.args.script.now result) (sym (p.1 ∙ ap (λ (refusal : StoreNo). Err refusal) p.2)) c.in_err-begun.ensures.begun in
    λ none.
    let keeps = run.rest none in
    (refl, keeps.0, keeps.1, keeps.2)

pub returns-in_err-begun-clause-staged : goal.returns-in_err-begun-clause-staged
returns-in_err-begun-clause-staged g c =
    let p = err_from_is_err_and c.from_residual.result c.from_residual.ensures.1 in
    let run = subst (λ (result : Result Staged StoreNo). HasRun c.args.self.now.commits c.args.self.now.apart c.begin.new.self c.args.pass.now c.begin.new.pass c.args.script.now result) (sym (p.1 ∙ ap (λ (refusal : StoreNo). Err refusal) p.2)) c.in_err-begun.ensures.begun in
    run.staged c.args.self.now.disk

pub invariant_of-self-in-Answered-1 : goal.invariant_of-self-in-Answered-1
invariant_of-self-in-Answered-1 g c =
    let run = (subst (λ (b : Begun). HasBegun c.args.self.now.commits c.args.self.now.apart c.begin.new.self c.args.pass.now c.begin.new.pass c.args.script.now (Ok b)) c.in-Answered.is c.in_ok-begun.ensures.begun) in
    record {
      rests = run.grows.rests c.args.self.now.disk c.args.self.now.rests;
      home = run.grows.lent ∙ c.args.self.now.home;
      at_once = λ at. run.staged c.args.self.now.disk ∙ sym (staged_never (over_as c.args.self.now.commits c.args.self.now.disk c.args.self.now.apart) c.args.script.now (Ok c.in-Answered.staged) [] at (c.args.self.now.at_once at) refl);
    }

pub returns-in-Answered-clause-notes : goal.returns-in-Answered-clause-notes
returns-in-Answered-clause-notes g c =
    let run = (subst (λ (b : Begun). HasBegun c.args.self.now.commits c.args.self.now.apart c.begin.new.self c.args.pass.now c.begin.new.pass c.args.script.now (Ok b)) c.in-Answered.is c.in_ok-begun.ensures.begun) in
    (run.entries, run.grows.moves c.args.self.now.commits c.args.self.now.disk, run.notes)

pub returns-in-Answered-clause-admits : goal.returns-in-Answered-clause-admits
returns-in-Answered-clause-admits g c =
    let run = (subst (λ (b : Begun). HasBegun c.args.self.now.commits c.args.self.now.apart c.begin.new.self c.args.pass.now c.begin.new.pass c.args.script.now (Ok b)) c.in-Answered.is c.in_ok-begun.ensures.begun) in
    admits_over c.begin.new.pass c.args.self.now.commits c.args.self.now.disk c.begin.new.self c.begin.ensures.admits

pub returns-in-Answered-clause-fresh : goal.returns-in-Answered-clause-fresh
returns-in-Answered-clause-fresh g c =
    let run = (subst (λ (b : Begun). HasBegun c.args.self.now.commits c.args.self.now.apart c.begin.new.self c.args.pass.now c.begin.new.pass c.args.script.now (Ok b)) c.in-Answered.is c.in_ok-begun.ensures.begun) in
    run.fresh

pub returns-in-Answered-clause-view : goal.returns-in-Answered-clause-view
returns-in-Answered-clause-view g c =
    let run = (subst (λ (b : Begun). HasBegun c.args.self.now.commits c.args.self.now.apart c.begin.new.self c.args.pass.now c.begin.new.pass c.args.script.now (Ok b)) c.in-Answered.is c.in_ok-begun.ensures.begun) in
    run.view

pub returns-in-Answered-clause-refused : goal.returns-in-Answered-clause-refused
returns-in-Answered-clause-refused g c =
    let run = (subst (λ (b : Begun). HasBegun c.args.self.now.commits c.args.self.now.apart c.begin.new.self c.args.pass.now c.begin.new.pass c.args.script.now (Ok b)) c.in-Answered.is c.in_ok-begun.ensures.begun) in
    run.refused

pub returns-in-Answered-clause-short : goal.returns-in-Answered-clause-short
returns-in-Answered-clause-short g c =
    let run = (subst (λ (b : Begun). HasBegun c.args.self.now.commits c.args.self.now.apart c.begin.new.self c.args.pass.now c.begin.new.pass c.args.script.now (Ok b)) c.in-Answered.is c.in_ok-begun.ensures.begun) in
    run.short

pub returns-in-Answered-clause-cause : goal.returns-in-Answered-clause-cause
returns-in-Answered-clause-cause g c =
    let run = (subst (λ (b : Begun). HasBegun c.args.self.now.commits c.args.self.now.apart c.begin.new.self c.args.pass.now c.begin.new.pass c.args.script.now (Ok b)) c.in-Answered.is c.in_ok-begun.ensures.begun) in
    run.cause c.args.self.now.disk

pub returns-in-Answered-clause-early : goal.returns-in-Answered-clause-early
returns-in-Answered-clause-early g c =
    let run = (subst (λ (b : Begun). HasBegun c.args.self.now.commits c.args.self.now.apart c.begin.new.self c.args.pass.now c.begin.new.pass c.args.script.now (Ok b)) c.in-Answered.is c.in_ok-begun.ensures.begun) in
    run.early

pub returns-in-Answered-clause-rest : goal.returns-in-Answered-clause-rest
returns-in-Answered-clause-rest g c =
    let run = (subst (λ (b : Begun). HasBegun c.args.self.now.commits c.args.self.now.apart c.begin.new.self c.args.pass.now c.begin.new.pass c.args.script.now (Ok b)) c.in-Answered.is c.in_ok-begun.ensures.begun) in
    λ none.
    let keeps = run.rest none in
    (refl, keeps.0, keeps.1, keeps.2)

pub returns-in-Answered-clause-staged : goal.returns-in-Answered-clause-staged
returns-in-Answered-clause-staged g c =
    let run = (subst (λ (b : Begun). HasBegun c.args.self.now.commits c.args.self.now.apart c.begin.new.self c.args.pass.now c.begin.new.pass c.args.script.now (Ok b)) c.in-Answered.is c.in_ok-begun.ensures.begun) in
    run.staged c.args.self.now.disk

pub append-requires-clause-admits : goal.append-requires-clause-admits
append-requires-clause-admits g c =
    c.begin.ensures.admits

pub append-requires-clause-home : goal.append-requires-clause-home
append-requires-clause-home g c =
    let may = (subst (λ (b : Begun). HasBegun c.args.self.now.commits c.args.self.now.apart c.begin.new.self c.args.pass.now c.begin.new.pass c.args.script.now (Ok b)) c.in-Commits.is c.in_ok-begun.ensures.begun) in
    let m = may.0 in
    let pass = may.1 in
    let way = may.2 in
    m.grows.lent ∙ c.args.self.now.home

pub append-requires-clause-rests : goal.append-requires-clause-rests
append-requires-clause-rests g c =
    let may = (subst (λ (b : Begun). HasBegun c.args.self.now.commits c.args.self.now.apart c.begin.new.self c.args.pass.now c.begin.new.pass c.args.script.now (Ok b)) c.in-Commits.is c.in_ok-begun.ensures.begun) in
    let m = may.0 in
    let pass = may.1 in
    let way = may.2 in
    m.grows.rests c.args.self.now.disk c.args.self.now.rests

pub append-requires-clause-room : goal.append-requires-clause-room
append-requires-clause-room g c =
    let may = (subst (λ (b : Begun). HasBegun c.args.self.now.commits c.args.self.now.apart c.begin.new.self c.args.pass.now c.begin.new.pass c.args.script.now (Ok b)) c.in-Commits.is c.in_ok-begun.ensures.begun) in
    let m = may.0 in
    let pass = may.1 in
    let way = may.2 in
    m.room

pub append-requires-clause-unbroken : goal.append-requires-clause-unbroken
append-requires-clause-unbroken g c =
    let may = (subst (λ (b : Begun). HasBegun c.args.self.now.commits c.args.self.now.apart c.begin.new.self c.args.pass.now c.begin.new.pass c.args.script.now (Ok b)) c.in-Commits.is c.in_ok-begun.ensures.begun) in
    let m = may.0 in
    let pass = may.1 in
    let way = may.2 in
    m.unbroken

pub append-requires-clause-answer : goal.append-requires-clause-answer
append-requires-clause-answer g c =
    let may = (subst (λ (b : Begun). HasBegun c.args.self.now.commits c.args.self.now.apart c.begin.new.self c.args.pass.now c.begin.new.pass c.args.script.now (Ok b)) c.in-Commits.is c.in_ok-begun.ensures.begun) in
    let m = may.0 in
    let pass = may.1 in
    let way = may.2 in
    m.answer

pub append-requires-clause-some : goal.append-requires-clause-some
append-requires-clause-some g c =
    let may = (subst (λ (b : Begun). HasBegun c.args.self.now.commits c.args.self.now.apart c.begin.new.self c.args.pass.now c.begin.new.pass c.args.script.now (Ok b)) c.in-Commits.is c.in_ok-begun.ensures.begun) in
    let m = may.0 in
    let pass = may.1 in
    let way = may.2 in
    m.some

pub append-requires-clause-unclosed : goal.append-requires-clause-unclosed
append-requires-clause-unclosed g c =
    let may = (subst (λ (b : Begun). HasBegun c.args.self.now.commits c.args.self.now.apart c.begin.new.self c.args.pass.now c.begin.new.pass c.args.script.now (Ok b)) c.in-Commits.is c.in_ok-begun.ensures.begun) in
    let m = may.0 in
    let pass = may.1 in
    let way = may.2 in
    m.unclosed

pub append-requires-clause-number : goal.append-requires-clause-number
append-requires-clause-number g c =
    let may = (subst (λ (b : Begun). HasBegun c.args.self.now.commits c.args.self.now.apart c.begin.new.self c.args.pass.now c.begin.new.pass c.args.script.now (Ok b)) c.in-Commits.is c.in_ok-begun.ensures.begun) in
    let m = may.0 in
    let pass = may.1 in
    let way = may.2 in
    m.number

pub append-requires-clause-live : goal.append-requires-clause-live
append-requires-clause-live g c =
    let may = (subst (λ (b : Begun). HasBegun c.args.self.now.commits c.args.self.now.apart c.begin.new.self c.args.pass.now c.begin.new.pass c.args.script.now (Ok b)) c.in-Commits.is c.in_ok-begun.ensures.begun) in
    let m = may.0 in
    let pass = may.1 in
    let way = may.2 in
    m.read

pub append-requires-clause-none : goal.append-requires-clause-none
append-requires-clause-none g c =
    let may = (subst (λ (b : Begun). HasBegun c.args.self.now.commits c.args.self.now.apart c.begin.new.self c.args.pass.now c.begin.new.pass c.args.script.now (Ok b)) c.in-Commits.is c.in_ok-begun.ensures.begun) in
    let m = may.0 in
    let pass = may.1 in
    let way = may.2 in
    m.keeps.2 ∙ c.args.self.now.at_once way

pub invariant_of-self-in-Commits : goal.invariant_of-self-in-Commits
invariant_of-self-in-Commits g c = record { rests = c.append.ensures.rests; home = c.append.ensures.home; at_once = λ at. c.append.ensures.none }

pub returns-in-Commits-clause-notes : goal.returns-in-Commits-clause-notes
returns-in-Commits-clause-notes g c =
    let may = (subst (λ (b : Begun). HasBegun c.args.self.now.commits c.args.self.now.apart c.begin.new.self c.args.pass.now c.begin.new.pass c.args.script.now (Ok b)) c.in-Commits.is c.in_ok-begun.ensures.begun) in
    let m = may.0 in
    let pass = may.1 in
    let way = may.2 in
    let noted = c.append.ensures.notes in
    let ways = c.args.self.now.commits in (
      noted.0,
      moves_on [] noted.0 (over_as ways c.args.self.now.disk c.args.self.now.apart) (over_as ways c.args.self.now.disk c.begin.new.self) (over_as ways c.append.new.disk c.append.new.self) (m.grows.moves ways c.args.self.now.disk) (noted.1 ways),
      notes_as c.in-Commits.ran.script c.args.script.now c.begin.new.self.generation c.args.self.now.apart.generation c.begin.new.pass c.args.pass.now c.append.result noted.0 m.script_is (m.grows.moves ways c.args.self.now.disk).generation pass noted.2,
    )

pub returns-in-Commits-clause-admits : goal.returns-in-Commits-clause-admits
returns-in-Commits-clause-admits g c =
    admits_over c.append.new.pass c.args.self.now.commits c.append.new.disk c.append.new.self c.append.ensures.admits

pub returns-in-Commits-clause-fresh : goal.returns-in-Commits-clause-fresh
returns-in-Commits-clause-fresh g c =
    let may = (subst (λ (b : Begun). HasBegun c.args.self.now.commits c.args.self.now.apart c.begin.new.self c.args.pass.now c.begin.new.pass c.args.script.now (Ok b)) c.in-Commits.is c.in_ok-begun.ensures.begun) in
    let m = may.0 in
    let pass = may.1 in
    let way = may.2 in
    subst (λ (p : Pass). IfOk c.append.result (λ staged. ReachesNoLess (view_of p) staged.front)) pass c.append.ensures.fresh

pub returns-in-Commits-clause-view : goal.returns-in-Commits-clause-view
returns-in-Commits-clause-view g c =
    let may = (subst (λ (b : Begun). HasBegun c.args.self.now.commits c.args.self.now.apart c.begin.new.self c.args.pass.now c.begin.new.pass c.args.script.now (Ok b)) c.in-Commits.is c.in_ok-begun.ensures.begun) in
    let m = may.0 in
    let pass = may.1 in
    let way = may.2 in
    subst (λ (p : Pass). IfOk c.append.result (λ staged. view_of c.append.new.pass ≡ with_front staged.front (view_of p))) pass c.append.ensures.view

pub returns-in-Commits-clause-refused : goal.returns-in-Commits-clause-refused
returns-in-Commits-clause-refused g c =
    let may = (subst (λ (b : Begun). HasBegun c.args.self.now.commits c.args.self.now.apart c.begin.new.self c.args.pass.now c.begin.new.pass c.args.script.now (Ok b)) c.in-Commits.is c.in_ok-begun.ensures.begun) in
    let m = may.0 in
    let pass = may.1 in
    let way = may.2 in
    subst (λ (p : Pass). OnErr c.append.result (view_of c.append.new.pass ≡ view_of p)) pass c.append.ensures.refused

pub returns-in-Commits-clause-short : goal.returns-in-Commits-clause-short
returns-in-Commits-clause-short g c =
    let may = (subst (λ (b : Begun). HasBegun c.args.self.now.commits c.args.self.now.apart c.begin.new.self c.args.pass.now c.begin.new.pass c.args.script.now (Ok b)) c.in-Commits.is c.in_ok-begun.ensures.begun) in
    let m = may.0 in
    let pass = may.1 in
    let way = may.2 in
    IfOk-weaker c.append.result _ _ (λ staged is. subst (All HasShortValues) (sym is) (m.answer.short c.begin.new.self.short)) c.append.ensures.reply

pub returns-in-Commits-clause-cause : goal.returns-in-Commits-clause-cause
returns-in-Commits-clause-cause g c =
    let may = (subst (λ (b : Begun). HasBegun c.args.self.now.commits c.args.self.now.apart c.begin.new.self c.args.pass.now c.begin.new.pass c.args.script.now (Ok b)) c.in-Commits.is c.in_ok-begun.ensures.begun) in
    let m = may.0 in
    let pass = may.1 in
    let way = may.2 in
    cause_as (over_as c.args.self.now.commits c.args.self.now.disk c.args.self.now.apart) (over_as AtOnce c.args.self.now.disk c.begin.new.self) c.args.script.now c.in-Commits.ran.script c.append.result m.keeps.0 m.keeps.1 (sym way) m.script_is c.append.ensures.cause

pub returns-in-Commits-clause-early : goal.returns-in-Commits-clause-early
returns-in-Commits-clause-early g c =
    let may = (subst (λ (b : Begun). HasBegun c.args.self.now.commits c.args.self.now.apart c.begin.new.self c.args.pass.now c.begin.new.pass c.args.script.now (Ok b)) c.in-Commits.is c.in_ok-begun.ensures.begun) in
    let m = may.0 in
    let pass = may.1 in
    let way = may.2 in
    let rows = c.args.self.now.apart.rows in
    let commit = commit_of rows c.args.script.now in
    let same : c.in-Commits.ran.commit ≡ commit = m.answer.commit_is ∙ ap (λ (r : RowMap). commit_of r c.in-Commits.ran.script) m.keeps.1 ∙ ap (commit_of rows) m.script_is in
    never_early (over_as c.args.self.now.commits c.args.self.now.disk c.args.self.now.apart) c.args.pass.now.front rows c.args.script.now commit c.append.result refl (λ none. m.some (same ∙ none))

pub returns-in-Commits-clause-rest : goal.returns-in-Commits-clause-rest
returns-in-Commits-clause-rest g c =
    let may = (subst (λ (b : Begun). HasBegun c.args.self.now.commits c.args.self.now.apart c.begin.new.self c.args.pass.now c.begin.new.pass c.args.script.now (Ok b)) c.in-Commits.is c.in_ok-begun.ensures.begun) in
    let m = may.0 in
    let pass = may.1 in
    let way = may.2 in
    λ none.
    let still = c.append.ensures.rest (subst (λ (r : RowMap). MakesNoCall r c.in-Commits.ran.script c.append.result) (sym m.keeps.1) (subst (λ (s : List Stmt). MakesNoCall c.args.self.now.apart.rows s c.append.result) (sym m.script_is) none)) in
    (still.0, still.1 ∙ m.keeps.0, still.2 ∙ m.keeps.1, still.3 ∙ m.keeps.2)

pub returns-in-Commits-clause-staged : goal.returns-in-Commits-clause-staged
returns-in-Commits-clause-staged g c =
    let may = (subst (λ (b : Begun). HasBegun c.args.self.now.commits c.args.self.now.apart c.begin.new.self c.args.pass.now c.begin.new.pass c.args.script.now (Ok b)) c.in-Commits.is c.in_ok-begun.ensures.begun) in
    let m = may.0 in
    let pass = may.1 in
    let way = may.2 in
    staged_never (over_as c.args.self.now.commits c.args.self.now.disk c.args.self.now.apart) c.args.script.now c.append.result c.append.new.self.stage.commits way (c.args.self.now.at_once way) c.append.ensures.none
