use Rattle.std.proofs.Common.{rules, [], ◌∷◌, refl, arith}
use Rattle.pm_query.specs.declared.book.BookEntry.{BookEntry, TheVariants.{Broke, Released}}
use Rattle.pm_store_apart.{specs.{ApartLaws.{grows_on, grows_still}, Moment.{alone, over_of}}, proofs.{Passing.{attends, inside_still, reached_answer}, StepsLaws.{notes_by, releases, stays_put}}}
use Rattle.pm_outside.specs.Added.{Added}
use Rattle.pm_store_apart.proofs.apart.Apart.seen.Goals as goal

pub returns-in_err-reserve-clause-notes : goal.returns-in_err-reserve-clause-notes
returns-in_err-reserve-clause-notes g c = (
  [],
  grows_still [] c.args.self.now _ (λ ways disk. stays_put (over_of (g.B.Chronicle.entries c.args.self.now.book) ways disk c.args.self.now) (g.B.Chronicle.entries c.reserve.new.self) c.reserve.ensures.entries) (refl, refl, refl) refl,
  search rules,
)

pub returns-in_default-clause-notes : goal.returns-in_default-clause-notes
returns-in_default-clause-notes g c = (
  [],
  grows_still [] c.args.self.now _ (λ ways disk. stays_put (over_of (g.B.Chronicle.entries c.args.self.now.book) ways disk c.args.self.now) (g.B.Chronicle.entries c.reserve.new.self) c.reserve.ensures.entries) (refl, refl, refl) refl,
  refl,
)

pub returns-then-front-live-clause-notes : goal.returns-then-front-live-clause-notes
returns-then-front-live-clause-notes g c =
    let told = g.B.Chronicle.entries c.args.self.now.book in
    let tick = c.in-Some.live.mark in
    let entry : BookEntry = Released c.args.pass.now.pid c.args.front tick in
    let notes : Added (entry ∷ []) told (g.B.Chronicle.entries c.note.new.self) = notes_by entry told _ _ c.reserve.ensures.entries c.note.ensures.entries in (
      entry ∷ [],
      grows_still (entry ∷ []) c.args.self.now _ (λ ways disk. releases c.history_laws.ensures.past c.history_laws.ensures.present (over_of told ways disk c.args.self.now) c.in-Some.live (g.B.Chronicle.entries c.note.new.self) c.args.pass.now.pid c.args.front
          c.in-Some.is c.if-front-live.true (attends c.args.pass.now (alone c.args.self.now) c.requires.admits)
          (reached_answer c.args.pass.now.pid c.args.pass.now.front c.args.front told c.requires.reached c.requires.admits.inside) notes) (refl, refl, refl) refl,
      (tick, refl),
    )

pub returns-then-front-live-clause-admits : goal.returns-then-front-live-clause-admits
returns-then-front-live-clause-admits g c =
    let told = g.B.Chronicle.entries c.args.self.now.book in
    let entry : BookEntry = Released c.args.pass.now.pid c.args.front c.in-Some.live.mark in record {
      there = c.requires.admits.there;
      generation_is = c.requires.admits.generation_is;
      inside = inside_still c.args.pass.now.pid c.args.pass.now.front entry told (g.B.Chronicle.entries c.note.new.self) (record { present_is = λ es. refl; times = λ n. omega arith })
          (notes_by entry told _ _ c.reserve.ensures.entries c.note.ensures.entries) c.requires.admits.inside;
      staged = c.requires.admits.staged;
    }

pub returns-in-Some-since-clause-cause : goal.returns-in-Some-since-clause-cause
returns-in-Some-since-clause-cause g c =
    rw c.broken.ensures.answer (c.in-Some.live.log.count, record { its = c.in-Some.live; read = c.in-Some.is; since_is = c.in-Some-since.is; flushed_is = refl; less = c.if-front-live.false })

pub returns-in-Some-since-clause-notes : goal.returns-in-Some-since-clause-notes
returns-in-Some-since-clause-notes g c =
    let entry : BookEntry = Broke c.args.pass.now.pid c.in-Some-since.since c.in-Some.live.faults in
    rw c.broken.ensures.answer (
      entry ∷ [],
      grows_on [] (entry ∷ []) c.args.self.now _ c.broken.new.self
          (grows_still [] c.args.self.now _ (λ ways disk. stays_put (over_of (g.B.Chronicle.entries c.args.self.now.book) ways disk c.args.self.now) (g.B.Chronicle.entries c.reserve.new.self) c.reserve.ensures.entries) (refl, refl, refl) refl)
          c.broken.ensures.notes,
      (c.in-Some.live.faults, refl),
    )

pub returns-clause-notes : goal.returns-clause-notes
returns-clause-notes g c = (
  [],
  grows_still [] c.args.self.now _ (λ ways disk. stays_put (over_of (g.B.Chronicle.entries c.args.self.now.book) ways disk c.args.self.now) (g.B.Chronicle.entries c.reserve.new.self) c.reserve.ensures.entries) (refl, refl, refl) refl,
  (c.if-front-live.false, refl),
)
