use Rattle.std.{specs.Prelude.cond, proofs.{Common.{Bool, ℕ, List, [], ◌∷◌, ◌++◌, length, map, sym, ap, subst, arith}, lemmas.List.map-append}}
use Rattle.pm_stage.specs.Stage.{Waiting}
use Rattle.pm_query.specs.declared.book.BookEntry.{BookEntry, TheVariants.{Gone, Opened}}
use Rattle.pm_store_apart.{specs.Moment.over_of, proofs.{OpensLaws.short_empty, Renewals.renews}}
use Rattle.pm_outside.{specs.Added.Added, proofs.AddedLaws.added_both}
use Rattle.pm_store_apart.proofs.apart.Apart.renew.Goals as goal

pub invariant_of-self-2 : goal.invariant_of-self-2
invariant_of-self-2 g c = record {
  begun = omega (arith, c.requires.next);
  short = short_empty c.new-2.result c.new-2.ensures.none;
  limits = c.new-2.ensures.limits;
  behind = ∣ tt ∣₁;
  ticks = c.args.self.now.ticks;
  room = omega (arith, ap length c.new.ensures, ap {B = ℕ} (λ (b : Bool). cond b 1 0) c.requires.home);
}

pub returns-clause-renews : goal.returns-clause-renews
returns-clause-renews g c =
    let old = c.args.self.now in
    let told = g.B.Chronicle.entries old.book in
    let gone = c.args.gone.now in
    let others = c.in_ok-others.others.items in
    let first = g.B.Chronicle.entries c.note_gone.new.book in
    let second = g.B.Chronicle.entries c.note_gone-2.new.book in
    let book_now = g.B.Chronicle.entries c.note.new.self in
    let opened : BookEntry = Opened c.args.generation in
    let named = map (λ (pid : ℕ). Gone pid) in
    let one : Added (named gone) told first = rw c.reserve.ensures.entries at c.note_gone.ensures.entries in
    let two : Added (named others) first second = rw c.deref.ensures.value at c.note_gone-2.ensures.entries in
    let both : Added (named (gone ++ others)) told second =
    subst (λ (l : List BookEntry). Added l told second) (sym (map-append (λ (pid : ℕ). Gone pid) gone others)) (added_both (named gone) (named others) told first second one two) in
    let all : Added (named (gone ++ others) ++ opened ∷ []) told book_now = added_both (named (gone ++ others)) (opened ∷ []) told second book_now both c.note.ensures.entries in (
      others,
      c.in_ok-others.ensures,
      λ ways disk. renews c.history_laws.ensures.past c.history_laws.ensures.present (over_of told ways disk old) book_now c.args.generation c.new.result c.new-2.result c.new-3.result.commits gone others c.requires.next c.new.ensures c.in_ok-others.ensures c.new-2.ensures.none (ap (λ (w : Waiting). w.commits) c.new-3.ensures) old.begun
          all,
    )
