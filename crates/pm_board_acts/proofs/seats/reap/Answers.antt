use Rattle.std.{proofs.Common.{◌<◌, refl, ap, subst, sym, ◌∙◌}, specs.Prelude.{None, slice_set}}
use Rattle.pm_board_acts.proofs.{Seen.{seats_set, seats_stay}, Sends.{assigned, sits_at}, Sitting.reaped}
use Rattle.pm_board_acts.proofs.seats.reap.Goals as goal

pub look-requires : goal.look-requires
look-requires g c = assigned _ _ c.args.slot c.args.child c.requires.shows c.requires.slot c.requires.sits

pub release-requires : goal.release-requires
release-requires g c =
    let sits = sits_at _ _ c.args.slot c.args.child c.requires.shows refl c.requires.slot c.requires.sits in
    let met = c.in-Exited.ensures.met sits.offer sits.sight in (
      subst (λ n. c.args.slot < n) (sym met.1.1.count) (assigned _ _ c.args.slot c.args.child c.requires.shows c.requires.slot c.requires.sits).0,
      (sits.offer, c.in-Exited.status, c.in-Exited.active, ap (λ x. x.sight) met.1.1.here),
    )

pub returns-in-Running-clause-runs : goal.returns-in-Running-clause-runs
returns-in-Running-clause-runs g c =
    let sits = sits_at _ _ c.args.slot c.args.child c.requires.shows refl c.requires.slot c.requires.sits in
    let met = c.in-Running.ensures.met sits.offer sits.sight in
    (record { sits = sits; word = met.0; became = met.1.1 }, seats_stay c.args.roster.now.knows c.look.new.self.knows c.in-Running.ensures.children)

pub returns-in-Exited-clause-ended : goal.returns-in-Exited-clause-ended
returns-in-Exited-clause-ended g c =
    let sits = sits_at _ _ c.args.slot c.args.child c.requires.shows refl c.requires.slot c.requires.sits in
    let met = c.in-Exited.ensures.met sits.offer sits.sight in
    let out = c.release.ensures.slot sits.offer c.in-Exited.status c.in-Exited.active (ap (λ x. x.sight) met.1.1.here) in (
      reaped g.M.Letter c.args.slot c.args.child c.release.result _ _ _ sits c.in-Exited.status c.in-Exited.active met.0 met.1.1 met.1.2 out.0 out.1 out.2 out.3 out.4 out.5,
      seats_set c.look.new.self.knows c.release.new.self.knows c.args.slot _ c.release.ensures.children
          ∙ ap (λ xs. slice_set xs c.args.slot None) (seats_stay c.args.roster.now.knows c.look.new.self.knows c.in-Exited.ensures.children),
    )
