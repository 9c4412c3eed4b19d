-- The laws of a store apart from its disk.
use Rattle.std.proofs.Common.{◌≡◌, List, [], ◌++◌, Option, refl, sym, ◌∙◌, ap, subst, append-nil, append_assoc}
use Rattle.pm_query.specs.{pm_rows.{declared.commit.Change.Change, Fold.RowMap}, declared.book.BookEntry.BookEntry}
use Rattle.pm_store_apart.specs.{declared.{apart.Apart.Apart, batch.Batch.Batch, commits.Commits.{Commits}, live.Live.Live, pass.Pass.Pass}, Apart.{Grows, HasLog}, Lending.IsUnder, Moment.{KeepsLog, alone, over_as}, Moves.Moves, MovesLaws.{moves_none, moves_on}, Passes.Admits, Rests.{IsAtRest, Rests}}

-- the log rests on a disk still where log, rows and what is staged are as they were
pub rests_kept : {D B : Type 0} {g h : _} (disk : D) (before now : Apart D B g h) → KeepsLog before now → IsAtRest disk before → IsAtRest disk now
rests_kept {g = g} disk before now keeps rests =
    let Resting = λ (live : Option Live) (rows : RowMap) (staged : List (List Change)). ∥ Rests live rows staged (g.seen disk) (g.images disk (g.ticks disk)) ∥₁ in
    subst (λ (live : Option Live). Resting live now.rows now.stage.commits) (sym keeps.0)
    (subst (λ (rows : RowMap). Resting before.live rows now.stage.commits) (sym keeps.1)
    (subst (λ (staged : List (List Change)). Resting before.live before.rows staged) (sym keeps.2) rests))

-- entries alone are noted, and who is inside may change
pub grows_still : {D B : Type 0} {g h : _} (entries : List BookEntry) (before now : Apart D B g h) → ((ways : Commits) (disk : D) → Moves entries (over_as ways disk before) (over_as ways disk now))
    → KeepsLog before now → now.lent ≡ before.lent → Grows entries before now
grows_still entries before now moves keeps lent = record {
  moves = moves;
  rests = λ disk. rests_kept disk before now keeps;
  log = λ its. subst (HasLog its) (sym keeps.0);
  more = [];
  staged = keeps.2 ∙ sym (append-nil before.stage.commits);
  lent = lent;
}

pub grows_none : {D B : Type 0} {g h : _} (apart : Apart D B g h) → Grows [] apart apart
grows_none apart = grows_still [] apart apart (λ ways disk. moves_none (over_as ways disk apart)) (refl, refl, refl) refl

pub grows_on : {D B : Type 0} {g h : _} (first second : List BookEntry) (before between now : Apart D B g h) → Grows first before between → Grows second between now → Grows (first ++ second) before now
grows_on first second before between now one two = record {
  moves = λ ways disk. moves_on first second (over_as ways disk before) (over_as ways disk between) (over_as ways disk now) (one.moves ways disk) (two.moves ways disk);
  rests = λ disk rests. two.rests disk (one.rests disk rests);
  log = λ its has. two.log its (one.log its has);
  more = one.more ++ two.more;
  staged = two.staged ∙ ap (λ (staged : List (List Change)). staged ++ two.more) one.staged ∙ append_assoc before.stage.commits one.more two.more;
  lent = two.lent ∙ one.lent;
}

-- what has grown while the disk is lent is under the batch still
pub grown_under : {D B : Type 0} {g h : _} (batch : Batch) (entries : List BookEntry) (before now : Apart D B g h) → Grows entries before now → IsUnder batch before → IsUnder batch now
grown_under batch entries before now grows under = record {
  log = grows.log batch.log under.log;
  rest = under.rest ++ grows.more;
  staged = grows.staged ∙ ap (λ (staged : List (List Change)). staged ++ grows.more) under.staged ∙ append_assoc batch.commits.items under.rest grows.more;
  out = grows.lent ∙ under.out;
}

-- ---- passes, over any disk

pub admits_over : {D B : Type 0} {g h : _} (pass : Pass) (ways : Commits) (disk : D) (apart : Apart D B g h) → Admits pass (alone apart) → Admits pass (over_as ways disk apart)
admits_over pass ways disk apart admits = record { there = admits.there; generation_is = admits.generation_is; inside = admits.inside; staged = admits.staged }

pub admits_alone : {D B : Type 0} {g h : _} (pass : Pass) (ways : Commits) (disk : D) (apart : Apart D B g h) → Admits pass (over_as ways disk apart) → Admits pass (alone apart)
admits_alone pass ways disk apart admits = record { there = admits.there; generation_is = admits.generation_is; inside = admits.inside; staged = admits.staged }
