use Rattle.std.proofs.Common.{◌≡◌, ◌∙◌, false, [], Some, None, Ok, Err, ap, sym, subst, rules}
use Rattle.pm_child_life.{specs.{Life.{Child, attached_in, attempt}, Attention.{Attention, attention}}, proofs.AttentionLaws.attentive_at_gate}
use Rattle.pm_query.proofs.NotedLaws.{none_none}
use Rattle.pm_aux.{specs.{Signals.ends_of, Runs.{Runner, user_in}, Work.NotesInside, declared.cause.AuxiliaryEnd.TheVariants.TurnedAway}, proofs.{Listening.{asked_first, met_gate, tells_still}, Reasons.{told_first, turned_away, goes_on, tended, same_runner}}}
use Rattle.pm_aux.proofs.tending.tend.Goals as goal

pub returns-in-Some-clause-run : goal.returns-in-Some-clause-run
returns-in-Some-clause-run g c =
    let at : Attention = attention (g.W.Seat.told c.listen.new.life) (g.W.Seat.child c.listen.new.life) c.listen.new.standing in
    let hears = c.listen.ensures.hears in (
      [],
      g.met.W.Store.apart _ _ c.listen.ensures.rests,
      told_first c.args.kind _ c.in-Some.cause at (sym c.ends.ensures ∙ c.in-Some.is) c.listen.ensures.attentive (asked_first _ _ c.requires.untold hears.asked)
          (ap (λ (who : Child). who.attached) hears.child ∙ c.requires.free),
    )

pub tend_inside-requires-clause-attentive : goal.tend_inside-requires-clause-attentive
tend_inside-requires-clause-attentive g c =
    attentive_at_gate (attempt false (Ok c.in-Ok.generation)) (g.W.Seat.told c.listen.new.life) _ (g.W.Seat.child c.listen.new.life) (g.W.Seat.child c.attach.new.self) _ c.in-Ok.ensures.told c.listen.ensures.attentive

pub returns-in-Ok-clause-run : goal.returns-in-Ok-clause-run
returns-in-Ok-clause-run g c =
    let at : Attention = attention (g.W.Seat.told c.tend_inside.new.work) (g.W.Seat.child c.tend_inside.new.work) c.tend_inside.new.standing in
    let hears = c.listen.ensures.hears in
    let child = c.in-Ok.ensures.ok ∙ ap (attached_in c.in-Ok.generation) hears.child in
    let rests = none_none g.W.Store.notes _ _ _ g.met.W.Store.in_turn (g.met.W.Store.apart _ _ c.listen.ensures.rests) (g.met.W.Store.apart _ _ c.in-Ok.ensures.rests) in
    let who = same_runner (g.W.Store.stamp c.args.work.now) (g.W.Store.stamp c.attach.new.self) (g.W.Seat.child c.args.work.now) (g.W.Seat.child c.attach.new.self) (g.met.W.Store.stays _ _ _ rests) (ap (λ (it : Child). it.pid) child) in
    let gate = met_gate (Ok c.in-Ok.generation) _ _ c.in-Ok.ensures.told (asked_first _ _ c.requires.untold hears.asked) in
    let inside = c.tend_inside.ensures in (
      inside.notes.0,
      g.met.W.Store.in_turn _ _ _ [] inside.notes.0 rests inside.notes.1,
      tended c.args.kind _ c.tend_inside.result c.in-Ok.generation at inside.notes.0 c.requires.goes_on inside.ends inside.attentive (tells_still (Some (Ok c.in-Ok.generation)) _ _ inside.asked gate) inside.attached
          (subst (λ (it : Runner). NotesInside c.args.kind (user_in it c.in-Ok.generation) c.tend_inside.result inside.notes.0) who inside.notes.2),
    )

pub returns-in-Err-clause-run : goal.returns-in-Err-clause-run
returns-in-Err-clause-run g c =
    let at : Attention = attention (g.W.Seat.told c.attach.new.self) (g.W.Seat.child c.attach.new.self) c.listen.new.standing in
    let hears = c.listen.ensures.hears in
    let none : ends_of c.listen.new.standing ≡ None = search rules in (
      [],
      none_none g.W.Store.notes _ _ _ g.met.W.Store.in_turn (g.met.W.Store.apart _ _ c.listen.ensures.rests) (g.met.W.Store.apart _ _ c.in-Err.ensures.rests),
      turned_away c.args.kind _ c.in-Err.no at none (goes_on c.args.kind (TurnedAway c.in-Err.no) c.listen.new.standing c.requires.goes_on)
          (attentive_at_gate (attempt false (Err c.in-Err.no)) (g.W.Seat.told c.listen.new.life) _ (g.W.Seat.child c.listen.new.life) (g.W.Seat.child c.attach.new.self) _ c.in-Err.ensures.told c.listen.ensures.attentive)
          (met_gate (Err c.in-Err.no) _ _ c.in-Err.ensures.told (asked_first _ _ c.requires.untold hears.asked))
          (ap (λ (it : Child). it.attached) c.in-Err.ensures.refused ∙ ap (λ (it : Child). it.attached) hears.child ∙ c.requires.free),
    )
