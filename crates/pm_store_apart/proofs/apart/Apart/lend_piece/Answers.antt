use Rattle.std.proofs.Common.{rules, ◌≡◌, [], Option, None, Some, refl, sym, subst}
use Rattle.pm_query.specs.declared.store.StoreNo.{StoreNo}
use Rattle.pm_store_apart.{specs.{declared.live.Live.Live, ApartLaws.{grows_on, grows_still}, Moment.{alone, over_of}, Passes.user_in, Pieces.{IsMade, IsMadeBeside, PieceCause, RefusesPiece}, Rests.Rests}, proofs.{Lendings.has_log, Making.placed_at, StepsLaws.stays_put}}
use Rattle.pm_store_apart.proofs.apart.Apart.lend_piece.Goals as goal

pub returns-in-Some-since-clause-lends : goal.returns-in-Some-since-clause-lends
returns-in-Some-since-clause-lends g c =
    subst (λ (refused : StoreNo). RefusesPiece (user_in (alone c.args.self.now) c.args.pass.now) c.args.self.now c.broken.new.self refused × PieceCause refused) (sym c.broken.ensures.answer) (
      record {
        entries = _;
        grows = grows_on [] _ c.args.self.now _ c.broken.new.self
            (grows_still [] c.args.self.now _ (λ ways disk. stays_put (over_of (g.B.Chronicle.entries c.args.self.now.book) ways disk c.args.self.now) (g.B.Chronicle.entries c.reserve.new.self) c.reserve.ensures.entries) (refl, refl, refl) refl)
            c.broken.ensures.notes;
        notes = (_, refl);
        keeps = c.broken.ensures.rest;
      },
      tt,
    )

pub returns-clause-lends : goal.returns-clause-lends
returns-clause-lends g c = record {
  moves = λ ways disk. stays_put (over_of (g.B.Chronicle.entries c.args.self.now.book) ways disk c.args.self.now) (g.B.Chronicle.entries c.reserve.new.self) c.reserve.ensures.entries;
  keeps = (refl, refl, refl);
  bare = search rules;
  under = record {
    log = has_log c.args.self.now.live c.in-Some.live c.in-Some.live.log c.in-Some.is refl;
    rest = c.args.self.now.stage.commits;
    staged = search rules;
    out = refl;
  };
  ready = λ disk half rests made.
      let live = c.in-Some.live in
      let seen = g.D.Disk.seen disk in
      let images = g.D.Disk.images disk (g.D.Disk.ticks disk) in
      let whole : live.log.since ≡ None = search rules in
      let its : IsMade live.log half seen = subst (λ (l : Option Live). IsMadeBeside l (Some half) seen) c.in-Some.is made in
      record {
        unbroken = whole;
        made = its;
        placed = placed_at seen live half c.args.self.now.rows c.args.self.now.stage.commits images its whole (subst (λ (l : Option Live). ∥ Rests l c.args.self.now.rows c.args.self.now.stage.commits seen images ∥₁) c.in-Some.is rests);
      };
}
