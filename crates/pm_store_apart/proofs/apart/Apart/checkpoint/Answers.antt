use Rattle.std.proofs.Common.{rules, List, [], ◌∷◌, Err, refl, sym, subst, false}
use Rattle.pm_query.specs.{Calls.CheckpointNotes, declared.{book.BookEntry.{BookEntry, TheVariants.CheckpointEnded}, store.StoreNo.StoreNo}}
use Rattle.pm_store_apart.{specs.{Apart.MovesOn, Passes.user_in, Moment.{alone, over_as, over_of}, MovesLaws.moves_on}, proofs.{CheckpointsLaws.skips, Passing.attends, StepsLaws.{notes_by, stays_put}}}
use Rattle.pm_store_apart.proofs.apart.Apart.checkpoint.Goals as goal

pub returns-in_err-reserve-clause-notes : goal.returns-in_err-reserve-clause-notes
returns-in_err-reserve-clause-notes g c =
    ([], λ ways. stays_put (over_of (g.B.Chronicle.entries c.args.self.now.book) ways c.args.disk.now c.args.self.now) (g.B.Chronicle.entries c.reserve.new.self) c.reserve.ensures.entries, search rules)

pub returns-in_default-clause-notes : goal.returns-in_default-clause-notes
returns-in_default-clause-notes g c =
    let told = g.B.Chronicle.entries c.args.self.now.book in
    let entry : BookEntry = CheckpointEnded c.args.pass.now.pid false c.args.clean in (
      entry ∷ [],
      λ ways. skips c.history_laws.ensures.past c.history_laws.ensures.present (over_of told ways c.args.disk.now c.args.self.now) (g.B.Chronicle.entries c.note.new.self) c.args.pass.now.pid c.args.clean c.in_default.is (attends c.args.pass.now (alone c.args.self.now) c.requires.admits)
          (notes_by entry told _ _ c.reserve.ensures.entries c.note.ensures.entries),
      refl,
    )

pub returns-in-Some-since-clause-notes : goal.returns-in-Some-since-clause-notes
returns-in-Some-since-clause-notes g c =
    let user = user_in (alone c.args.self.now) c.args.pass.now in
    subst (λ (refusal : StoreNo). (entries : List BookEntry) × MovesOn entries c.args.disk.now c.args.self.now c.args.disk.now c.broken.new.self × CheckpointNotes user c.args.clean (Err refusal) entries) (sym c.broken.ensures.answer) (
      _,
      λ ways. moves_on [] _ (over_as ways c.args.disk.now c.args.self.now) _ (over_as ways c.args.disk.now c.broken.new.self)
          (stays_put (over_of (g.B.Chronicle.entries c.args.self.now.book) ways c.args.disk.now c.args.self.now) (g.B.Chronicle.entries c.reserve.new.self) c.reserve.ensures.entries) (c.broken.ensures.notes.moves ways c.args.disk.now),
      (_, refl),
    )

pub returns-in-Some-since-clause-rests : goal.returns-in-Some-since-clause-rests
returns-in-Some-since-clause-rests g c = c.broken.ensures.notes.rests c.args.disk.now c.requires.rests

pub returns-clause-notes : goal.returns-clause-notes
returns-clause-notes g c =
    let noted = c.move_all.ensures.notes in (
      noted.0,
      λ ways. moves_on [] noted.0 (over_as ways c.args.disk.now c.args.self.now) _ (over_as ways c.move_all.new.disk c.move_all.new.self)
          (stays_put (over_of (g.B.Chronicle.entries c.args.self.now.book) ways c.args.disk.now c.args.self.now) (g.B.Chronicle.entries c.reserve.new.self) c.reserve.ensures.entries) (noted.1 ways),
      noted.2,
    )
