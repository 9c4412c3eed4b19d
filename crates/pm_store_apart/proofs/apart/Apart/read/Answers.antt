use Rattle.std.proofs.Common.{◌≡◌, ◌+◌, [], ◌∷◌, Some, length, refl, sym, ◌∙◌, subst, arith}
use Rattle.pm_query.specs.{declared.book.BookEntry.TheVariants.Answered, Book.{AnswersAt, history_of}, Calls.IsNoLess}
use Rattle.pm_store_apart.{specs.{Fronts.{flushed_of, whole_of}, ApartLaws.grows_still, Moment.{alone, over_of}, Passes.IsStaged, ReadsApart.AnswersEarly}, proofs.{EarlyLaws.{answers_read, early, front_reached, front_taken}, Passing.{attends, inside_answered}, StepsLaws.reads, WaitingLaws.waits_at}}
use Rattle.pm_store_apart.proofs.apart.Apart.read.Goals as goal

pub returns-clause-notes : goal.returns-clause-notes
returns-clause-notes g c =
    let told = g.B.Chronicle.entries c.args.self.now.book in
    let live = c.args.live in
    let ran = c.args.ran in
    let pid = c.args.pass.now.pid in
    let front = c.read_front-front.result in
    let its = waits_at c.args.self.now.live live c.args.self.now.stage c.requires.live c.args.self.now.behind in
    let fronts : whole_of live ≡ flushed_of live + length c.args.self.now.stage.commits = omega (arith, its.front, its.flushed) in (
      Answered pid ran.script ran.reply ran.commit front live.mark ∷ [],
      grows_still _ c.args.self.now _ (λ ways disk.
          let at = over_of told ways disk c.args.self.now in
          reads c.history_laws.ensures.past c.history_laws.ensures.present at live (g.B.Chronicle.entries c.answer.new.book) pid ran.script ran.reply ran.commit front
          c.requires.live (attends c.args.pass.now (alone c.args.self.now) c.requires.admits) c.requires.answer.reply_is c.requires.answer.commit_is c.requires.nothing
          (λ base book is. subst (AnswersAt (history_of base book) ran.script ran.reply []) (sym c.read_front-front.ensures)
          (answers_read base at live book c.args.pass.now.front ran.script ran.reply c.requires.unbroken fronts c.requires.answer.reply_is is))
          c.answer.ensures.entries) (refl, refl, refl) refl,
      c.answer.ensures.staged,
    )

pub returns-clause-admits : goal.returns-clause-admits
returns-clause-admits g c =
    let told = g.B.Chronicle.entries c.args.self.now.book in
    let live = c.args.live in
    let ran = c.args.ran in
    let front = c.read_front-front.result in
    let its = waits_at c.args.self.now.live live c.args.self.now.stage c.requires.live c.args.self.now.behind in
    let fronts : whole_of live ≡ flushed_of live + length c.args.self.now.stage.commits = omega (arith, its.front, its.flushed) in
    rw c.answer.ensures.seen (record {
      there = c.requires.admits.there;
      generation_is = c.requires.admits.generation_is;
      inside = inside_answered c.args.pass.now.pid front live.mark ran.script ran.reply ran.commit c.args.pass.now.front told (g.B.Chronicle.entries c.answer.new.book) c.answer.ensures.entries c.requires.admits.inside;
      staged = subst (IsStaged (Some front)) (sym c.requires.live)
          (omega (arith, c.read_front-front.ensures, front_taken c.args.self.now.stage.commits c.args.pass.now.front live ran.script fronts));
    })

pub returns-clause-fresh : goal.returns-clause-fresh
returns-clause-fresh g c =
    let seen = c.args.pass.now.front in
    subst (IsNoLess seen) (sym (c.answer.ensures.given.1 ∙ c.read_front-front.ensures))
    (front_reached c.args.self.now.stage.commits seen c.args.live c.args.ran.script (subst (IsStaged seen) c.requires.live c.requires.admits.staged))

pub returns-clause-early : goal.returns-clause-early
returns-clause-early g c =
    let at = alone c.args.self.now in
    let seen = c.args.pass.now.front in
    subst (AnswersEarly at seen c.args.ran.script) (sym (c.answer.ensures.given.1 ∙ c.read_front-front.ensures)) (early at c.args.live seen c.args.ran.script c.requires.live)
