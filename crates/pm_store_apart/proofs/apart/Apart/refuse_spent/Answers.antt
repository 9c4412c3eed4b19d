use Rattle.std.proofs.Common.{◌≡◌, ◌∙◌, inl, inr, ◌+◌, [], ◌∷◌, refl, ap, arith}
use Rattle.pm_query.specs.pm_rows.LogSize as log
use Rattle.pm_query.specs.{declared.book.BookEntry.{BookEntry, TheVariants.LogFull}, Answer.commit_of, Book.need_of}
use Rattle.pm_store_apart.{specs.{ApartLaws.grows_still, Moment.{alone, over_of}}, proofs.{Passing.{attends, inside_still}, Resting.need_is, StepsLaws.finds_full}}
use Rattle.pm_store_apart.proofs.apart.Apart.refuse_spent.Goals as goal

pub returns-clause-notes : goal.returns-clause-notes
returns-clause-notes g c =
    let told = g.B.Chronicle.entries c.args.self.now.book in
    let ran = c.args.ran in
    let pid = c.args.pass.pid in
    let need = 5 + c.body_length-need.result in
    let entry : BookEntry = LogFull pid ran.script need 0 in
    let long : c.body_length-need.result ≡ log.body_length (ran.commit ∷ []) = c.body_length-need.ensures.length ∙ ap log.body_length c.from_ref.ensures.value in
    let batch : need ≡ log.need_of (ran.commit ∷ []) = omega (arith, long) in (
      entry ∷ [],
      grows_still _ c.args.self.now _ (λ ways disk. finds_full c.history_laws.ensures.past c.history_laws.ensures.present (over_of told ways disk c.args.self.now) c.args.live (g.B.Chronicle.entries c.note_full.new.book) pid need 0 ran.script ran.commit
          c.requires.live c.requires.unbroken (attends c.args.pass (alone c.args.self.now) c.requires.admits) c.requires.answer.commit_is (batch ∙ need_is ran.commit c.requires.some)
          (omega arith) (inl (c.requires.spent, refl)) c.note_full.ensures.entries) (refl, refl, refl) refl,
      rw c.note_full.ensures.full (c.requires.answer.writes c.requires.some, refl),
    )

pub returns-clause-admits : goal.returns-clause-admits
returns-clause-admits g c =
    let told = g.B.Chronicle.entries c.args.self.now.book in
    let entry : BookEntry = LogFull c.args.pass.pid c.args.ran.script (5 + c.body_length-need.result) 0 in record {
      there = c.requires.admits.there;
      generation_is = c.requires.admits.generation_is;
      inside = inside_still c.args.pass.pid c.args.pass.front entry told (g.B.Chronicle.entries c.note_full.new.book) (record { present_is = λ es. refl; times = λ n. omega arith }) c.note_full.ensures.entries c.requires.admits.inside;
      staged = c.requires.admits.staged;
    }

pub returns-clause-cause : goal.returns-clause-cause
returns-clause-cause g c =
    let ran = c.args.ran in
    let long : c.body_length-need.result ≡ log.body_length (ran.commit ∷ []) = c.body_length-need.ensures.length ∙ ap log.body_length c.from_ref.ensures.value in
    let batch : 5 + c.body_length-need.result ≡ log.need_of (ran.commit ∷ []) = omega (arith, long) in
    let needs : 5 + c.body_length-need.result ≡ need_of (commit_of c.args.self.now.rows ran.script) = batch ∙ need_is ran.commit c.requires.some ∙ ap need_of c.requires.answer.commit_is in
    rw c.note_full.ensures.full (
      record { its = c.args.live; read = c.requires.live; unbroken = c.requires.unbroken; need_is = needs; room_is = inr (c.requires.spent, refl) },
      λ none. c.requires.some (c.requires.answer.commit_is ∙ none),
    )
