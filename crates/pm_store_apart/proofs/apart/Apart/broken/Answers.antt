use Rattle.std.proofs.Common.{refl, arith}
use Rattle.pm_query.specs.declared.book.BookEntry.{BookEntry, TheVariants.Broke}
use Rattle.pm_store_apart.{specs.{ApartLaws.grows_still, Moment.{alone, over_of}}, proofs.{Passing.{attends, inside_still}, StepsLaws.{finds_broken, notes_by}}}
use Rattle.pm_store_apart.proofs.apart.Apart.broken.Goals as goal

pub returns-clause-notes : goal.returns-clause-notes
returns-clause-notes g c =
    let told = g.B.Chronicle.entries c.args.self.now.book in
    grows_still _ c.args.self.now _ (λ ways disk. finds_broken c.history_laws.ensures.past c.history_laws.ensures.present (over_of told ways disk c.args.self.now) c.args.live (g.B.Chronicle.entries c.note.new.self) c.args.pass.pid c.args.since
    c.requires.read c.requires.broken (attends c.args.pass (alone c.args.self.now) c.requires.admits) (notes_by (Broke c.args.pass.pid c.args.since c.args.live.faults) told told _ refl c.note.ensures.entries)) (refl, refl, refl) refl

pub returns-clause-admits : goal.returns-clause-admits
returns-clause-admits g c =
    let told = g.B.Chronicle.entries c.args.self.now.book in
    let entry : BookEntry = Broke c.args.pass.pid c.args.since c.args.live.faults in record {
      there = c.requires.admits.there;
      generation_is = c.requires.admits.generation_is;
      inside = inside_still c.args.pass.pid c.args.pass.front entry told (g.B.Chronicle.entries c.note.new.self) (record { present_is = λ es. refl; times = λ n. omega arith })
          (notes_by entry told told _ refl c.note.ensures.entries) c.requires.admits.inside;
      staged = c.requires.admits.staged;
    }
