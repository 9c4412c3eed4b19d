use Rattle.std.proofs.Common.{[], ◌∷◌, inl, refl}
use Rattle.pm_query.specs.declared.book.BookEntry.{BookEntry, TheVariants.Detached}
use Rattle.pm_store_apart.{specs.{ApartLaws.grows_still, Moment.{alone, over_of}}, proofs.{Passing.attends, StepsLaws.{leaves, notes_by}}}
use Rattle.pm_store_apart.proofs.apart.Apart.leave.Goals as goal

pub returns-clause-left : goal.returns-clause-left
returns-clause-left g c =
    let entry : BookEntry = Detached c.args.pass.pid in
    let told = g.B.Chronicle.entries c.args.self.now.book in
    grows_still (entry ∷ []) c.args.self.now _ (λ ways disk. leaves c.history_laws.ensures.past c.history_laws.ensures.present (over_of told ways disk c.args.self.now) (g.B.Chronicle.entries c.note.new.self) c.remove.new.self c.args.pass.pid
    (attends c.args.pass (alone c.args.self.now) c.requires) c.remove.ensures.times (notes_by entry told told _ refl c.note.ensures.entries)) (refl, refl, refl) refl

pub returns-clause-notes : goal.returns-clause-notes
returns-clause-notes g c = (Detached c.args.pass.pid ∷ [], returns-clause-left g c, inl refl)
