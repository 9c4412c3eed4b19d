use Rattle.std.proofs.Common.{rules, ◌≡◌, ℕ, List, [], ◌∷◌, refl, sym, subst}
use Rattle.pm_query.specs.declared.book.BookEntry.{BookEntry, TheVariants.Attached}
use Rattle.pm_store_apart.{specs.{ApartLaws.grows_still, Moment.over_of, Moves.Moves}, proofs.StepsLaws.{enters, notes_by, stays_put, with_child}}
use Rattle.pm_outside.specs.Added.{Added}
use Rattle.pm_store_apart.proofs.apart.Apart.enter.Goals as goal

pub returns-clause-notes : goal.returns-clause-notes
returns-clause-notes g c =
    let present : c.args.generation ≡ c.args.self.now.generation = search (rules, c.if-generation-self.false) in
    let told = g.B.Chronicle.entries c.args.self.now.book in
    let entry : BookEntry = Attached c.args.pid c.args.generation in
    let notes : Added (entry ∷ []) told (g.B.Chronicle.entries c.note.new.self) = notes_by entry told _ _ c.reserve.ensures.entries c.note.ensures.entries in (
      entry ∷ [],
      grows_still (entry ∷ []) c.args.self.now _ (λ ways disk.
          let at = over_of told ways disk c.args.self.now in
          subst (λ (n : ℕ). Moves (Attached c.args.pid n ∷ []) at (with_child (g.B.Chronicle.entries c.note.new.self) c.add.new.self at)) (sym present)
          (subst (λ (l : List ℕ). Moves (Attached c.args.pid at.generation ∷ []) at (with_child (g.B.Chronicle.entries c.note.new.self) l at)) (sym c.in_ok-add.ensures.ok)
          (enters c.history_laws.ensures.past c.history_laws.ensures.present at (g.B.Chronicle.entries c.note.new.self) c.args.pid
          (subst (λ (n : ℕ). Added (Attached c.args.pid n ∷ []) told (g.B.Chronicle.entries c.note.new.self)) present notes)))) (refl, refl, refl) refl,
      refl,
    )

pub returns-in_err-reserve-clause-notes : goal.returns-in_err-reserve-clause-notes
returns-in_err-reserve-clause-notes g c = (
  [],
  grows_still [] c.args.self.now _ (λ ways disk. stays_put (over_of (g.B.Chronicle.entries c.args.self.now.book) ways disk c.args.self.now) (g.B.Chronicle.entries c.reserve.new.self) c.reserve.ensures.entries) (refl, refl, refl) refl,
  search rules,
)

pub returns-in_err-add-clause-notes : goal.returns-in_err-add-clause-notes
returns-in_err-add-clause-notes g c =
    let told = g.B.Chronicle.entries c.args.self.now.book in (
      [],
      grows_still [] c.args.self.now _ (λ ways disk.
          let at = over_of told ways disk c.args.self.now in
          subst (λ (l : List ℕ). Moves [] at (with_child (g.B.Chronicle.entries c.reserve.new.self) l at)) (sym c.in_err-add.ensures.err) (stays_put at (g.B.Chronicle.entries c.reserve.new.self) c.reserve.ensures.entries)) (refl, refl, refl) refl,
      search rules,
    )
