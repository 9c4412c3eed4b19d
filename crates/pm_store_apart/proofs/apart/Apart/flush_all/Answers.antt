use Rattle.std.proofs.{Common.{◌∙◌, ◌≤◌, List, [], Result, Err, refl, sym, ap, subst, arith, length, length-drop}, lemmas.{Bool.Decides.nat_tests, Result.err_from_is_err_and}}
use Rattle.pm_query.specs.{pm_rows.Limits.max_commits, declared.{book.BookEntry.BookEntry, store.StoreNo.StoreNo}}
use Rattle.pm_store_apart.{specs.{Flushes.WriteNotes, declared.commits.Commits.TheVariants.Staged, Moment.{alone, over_as}, Moves.Moves, MovesLaws.{moves_none, moves_on}, Passes.user_in}, proofs.{FlushingLaws.{longer_on, longer_still, unbroken_now, written_or_not}, WaitingLaws.oldest_few}}
use Rattle.pm_store_apart.proofs.apart.Apart.flush_all.Goals as goal

pub loop-self-init : goal.loop-self-init
loop-self-init g c = record {
  moves = λ ways. moves_none (over_as ways c.args.disk.now c.args.self.now);
  admits = c.requires.admits;
  home = c.requires.home;
  rests = c.requires.rests;
  longer = longer_still c.args.self.now.live c.requires.unbroken;
  rest = λ none. (refl, refl, refl, refl);
}

pub returns-in_err-flush-clause-notes : goal.returns-in_err-flush-clause-notes
returns-in_err-flush-clause-notes g c =
    let noted = c.in_err-flush.ensures.notes in
    let p = err_from_is_err_and c.from_residual.result c.from_residual.ensures.1 in
    let user = user_in (alone c.loop-self.self) c.args.pass.now in (
      noted.0,
      λ ways. moves_on [] noted.0 (over_as ways c.args.disk.now c.args.self.now) (over_as ways c.loop-self.disk c.loop-self.self) (over_as ways c.flush.new.disk c.flush.new.self) (c.loop-self.invariant.moves ways) (noted.1 ways),
      subst (λ (result : Result (Unit {0}) StoreNo). WriteNotes c.args.pass.now.pid result noted.0) (sym (p.1 ∙ ap (λ (refusal : StoreNo). Err refusal) p.2))
          (written_or_not user (over_as Staged c.loop-self.disk c.loop-self.self) (over_as Staged c.flush.new.disk c.flush.new.self) _ noted.0 (unbroken_now c.args.self.now.live c.loop-self.self.live c.loop-self.invariant.longer)
          (c.in_err-flush.ensures.cause Staged) noted.2),
    )

pub returns-in_err-flush-clause-rest : goal.returns-in_err-flush-clause-rest
returns-in_err-flush-clause-rest g c = λ none.
    let some : 1 ≤ length c.batch.result.now = grind (arith, nat_tests, c.loop-self-test.true, c.is_empty.ensures) in
    let still = (c.loop-self.invariant.rest none).3 ∙ none in
    absurd (omega (arith, some, ap length c.batch.ensures.value, oldest_few c.loop-self.self.stage.commits, ap length still))

pub loop-self-smaller : goal.loop-self-smaller
loop-self-smaller g c =
    let some : 1 ≤ length c.batch.result.now = grind (arith, nat_tests, c.loop-self-test.true, c.is_empty.ensures) in
    let cause = c.in_ok-flush.ensures.cause Staged in
    omega (arith, some, ap length c.batch.ensures.value, oldest_few c.loop-self.self.stage.commits, ap length cause.written.staged, length-drop max_commits c.loop-self.self.stage.commits)

pub loop-self-preserved : goal.loop-self-preserved
loop-self-preserved g c =
    let noted = c.in_ok-flush.ensures.notes in
    let some : 1 ≤ length c.batch.result.now = grind (arith, nat_tests, c.loop-self-test.true, c.is_empty.ensures) in
    record {
      moves = λ ways. subst (λ (es : List BookEntry). Moves es (over_as ways c.args.disk.now c.args.self.now) (over_as ways c.flush.new.disk c.flush.new.self)) noted.2
          (moves_on [] noted.0 (over_as ways c.args.disk.now c.args.self.now) (over_as ways c.loop-self.disk c.loop-self.self) (over_as ways c.flush.new.disk c.flush.new.self) (c.loop-self.invariant.moves ways) (noted.1 ways));
      admits = c.flush.ensures.admits;
      home = c.flush.ensures.home;
      rests = c.flush.ensures.rests;
      longer = longer_on c.args.self.now.live c.loop-self.self.live c.flush.new.self.live c.loop-self.invariant.longer c.in_ok-flush.ensures.longer;
      rest = λ none.
          let still = (c.loop-self.invariant.rest none).3 ∙ none in
          absurd (omega (arith, some, ap length c.batch.ensures.value, oldest_few c.loop-self.self.stage.commits, ap length still));
    }
