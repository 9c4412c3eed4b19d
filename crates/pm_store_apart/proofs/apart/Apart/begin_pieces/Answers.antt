use Rattle.std.proofs.{Common.{rules, List, [], refl, subst}, lemmas.Result.err_from_is_err_and}
use Rattle.pm_query.specs.{declared.{book.BookEntry.BookEntry}}
use Rattle.pm_store_apart.{specs.{declared.{commits.Commits.TheVariants.Staged}, Moment.{alone, over_as}, Moves.Moves, MovesLaws.moves_on, Passes.{user_in}}, proofs.{FlushingLaws.{flush_refusal}, Making.{longer_rows}}}
use Rattle.pm_store_apart.proofs.apart.Apart.begin_pieces.Goals as goal

pub returns-in_err-flush-clause-notes : goal.returns-in_err-flush-clause-notes
returns-in_err-flush-clause-notes g c =
    let first = c.in_err-flush.ensures.notes in
    let p = err_from_is_err_and c.from_residual.result c.from_residual.ensures.1 in
    let user = user_in (alone c.args.self.now) c.args.pass.now in (
      first.0,
      first.1,
      search (rules, flush_refusal user),
    )

pub returns-then-not-is_empty-clause-notes : goal.returns-then-not-is_empty-clause-notes
returns-then-not-is_empty-clause-notes g c = let first = c.in_ok-flush.ensures.notes in (first.0, first.1, first.2)

pub list_rows-requires-clause-no_longer : goal.list_rows-requires-clause-no_longer
list_rows-requires-clause-no_longer g c =
    let cause = c.in_ok-flush.ensures.cause Staged in
    longer_rows c.args.self.now.live c.flush.new.self.live c.args.self.now.rows c.flush.new.self.rows c.in_ok-flush.ensures.longer (cause.written.rows) c.requires.no_longer

pub returns-in_err-list_rows-clause-notes : goal.returns-in_err-list_rows-clause-notes
returns-in_err-list_rows-clause-notes g c =
    let first = c.in_ok-flush.ensures.notes in (
      [],
      λ ways.
          let old = over_as ways c.args.disk.now c.args.self.now in
          let mid = over_as ways c.flush.new.disk c.flush.new.self in
          moves_on [] [] old mid (over_as ways c.flush.new.disk c.list_rows.new.self) (subst (λ (es : List BookEntry). Moves es old mid) first.2 (first.1 ways)) (c.list_rows.ensures.moves ways c.flush.new.disk),
      search rules,
    )

pub returns-clause-notes : goal.returns-clause-notes
returns-clause-notes g c =
    let first = c.in_ok-flush.ensures.notes in (
      [],
      λ ways.
          let old = over_as ways c.args.disk.now c.args.self.now in
          let mid = over_as ways c.flush.new.disk c.flush.new.self in
          moves_on [] [] old mid (over_as ways c.flush.new.disk c.list_rows.new.self) (subst (λ (es : List BookEntry). Moves es old mid) first.2 (first.1 ways)) (c.list_rows.ensures.moves ways c.flush.new.disk),
      refl,
    )
