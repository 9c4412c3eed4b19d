use Rattle.std.{proofs.Common.{[], ◌∷◌, refl, sym, ap, arith}, specs.Prelude.ℕ}
use Rattle.pm_query.specs.declared.book.BookEntry.{BookEntry, TheVariants.Redone}
use Rattle.pm_store_apart.{specs.{Moment.{alone, over_as, over_of}, MovesLaws.moves_on}, proofs.{Passing.{attends, inside_still}, Redos.redoes_again, StepsLaws.{not_both, notes_by, stays_put}}}
use Rattle.pm_store_apart.proofs.apart.Apart.redo.Goals as goal

pub returns-in-Some-clause-notes : goal.returns-in-Some-clause-notes
returns-in-Some-clause-notes g c =
    let told = g.B.Chronicle.entries c.args.self.now.book in
    let entry : BookEntry = Redone c.args.pass.now.pid c.args.self.now.generation c.in-Some.live.kept in (
      entry ∷ [],
      λ ways. redoes_again c.history_laws.ensures.past c.history_laws.ensures.present (over_of told ways c.args.disk.now c.args.self.now) c.in-Some.live (g.B.Chronicle.entries c.note.new.self) c.args.pass.now.pid c.in-Some.is
          (attends c.args.pass.now (alone c.args.self.now) c.requires.admits) (notes_by entry told _ _ c.reserve.ensures.entries c.note.ensures.entries),
      ap (λ (n : ℕ). Redone c.args.pass.now.pid n c.in-Some.live.kept ∷ []) (sym c.requires.admits.generation_is),
    )

pub returns-in-Some-clause-admits : goal.returns-in-Some-clause-admits
returns-in-Some-clause-admits g c =
    let told = g.B.Chronicle.entries c.args.self.now.book in
    let entry : BookEntry = Redone c.args.pass.now.pid c.args.self.now.generation c.in-Some.live.kept in record {
      there = c.requires.admits.there;
      generation_is = c.requires.admits.generation_is;
      inside = inside_still c.args.pass.now.pid c.args.pass.now.front entry told (g.B.Chronicle.entries c.note.new.self) (record { present_is = λ es. refl; times = λ n. omega arith })
          (notes_by entry told _ _ c.reserve.ensures.entries c.note.ensures.entries) c.requires.admits.inside;
      staged = c.requires.admits.staged;
    }

pub returns-in-Some-clause-found : goal.returns-in-Some-clause-found
returns-in-Some-clause-found g c = λ unread its is. absurd (not_both c.args.self.now.live c.in-Some.live unread c.in-Some.is)

pub returns-then-is_err-clause-notes : goal.returns-then-is_err-clause-notes
returns-then-is_err-clause-notes g c =
    ([], λ ways. stays_put (over_of (g.B.Chronicle.entries c.args.self.now.book) ways c.args.disk.now c.args.self.now) (g.B.Chronicle.entries c.reserve.new.self) c.reserve.ensures.entries, refl)

pub returns-then-self-clause-notes : goal.returns-then-self-clause-notes
returns-then-self-clause-notes g c =
    ([], λ ways. stays_put (over_of (g.B.Chronicle.entries c.args.self.now.book) ways c.args.disk.now c.args.self.now) (g.B.Chronicle.entries c.reserve.new.self) c.reserve.ensures.entries, refl)

pub returns-clause-notes : goal.returns-clause-notes
returns-clause-notes g c =
    let noted = c.read_log.ensures.notes in (
      noted.0,
      λ ways. moves_on [] noted.0 (over_as ways c.args.disk.now c.args.self.now) _ (over_as ways c.read_log.new.disk c.read_log.new.self)
          (stays_put (over_of (g.B.Chronicle.entries c.args.self.now.book) ways c.args.disk.now c.args.self.now) (g.B.Chronicle.entries c.reserve.new.self) c.reserve.ensures.entries) (noted.1 ways),
      noted.2,
    )
