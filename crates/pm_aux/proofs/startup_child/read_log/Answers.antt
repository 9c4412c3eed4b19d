use Rattle.std.proofs.Common.{◌≡◌, ◌∙◌, false, [], None, Ok, Err, ap, sym, subst, rules}
use Rattle.pm_exit.specs.declared.child.Kind.TheVariants.{Startup}
use Rattle.pm_child_life.{specs.{Life.{Child, attached_in, attempt}, Attention.{Attention, attention}}, proofs.AttentionLaws.attentive_at_gate}
use Rattle.pm_query.proofs.NotedLaws.{none_none}
use Rattle.pm_aux.{specs.{Signals.ends_of, Runs.{Runner, user_in}, Work.NotesInside, declared.cause.AuxiliaryEnd.TheVariants.TurnedAway}, proofs.{Listening.{asked_first, met_gate}, Reasons.{told_first, terminated_first, turned_away, unterminated, redone, same_runner}}}
use Rattle.pm_aux.proofs.startup_child.read_log.Goals as goal

pub returns-in-Some-clause-run : goal.returns-in-Some-clause-run
returns-in-Some-clause-run g c =
    let at : Attention = attention (g.W.Seat.told c.listen.new.life) (g.W.Seat.child c.listen.new.life) c.listen.new.standing in
    let hears = c.listen.ensures.hears in (
      [],
      g.met.W.Store.apart _ _ c.listen.ensures.rests,
      told_first Startup _ c.in-Some.cause at (sym c.ends.ensures ∙ c.in-Some.is) c.listen.ensures.attentive (asked_first _ _ c.requires.untold hears.asked)
          (ap (λ (who : Child). who.attached) hears.child ∙ c.requires.free),
    )

pub returns-then-standing-clause-run : goal.returns-then-standing-clause-run
returns-then-standing-clause-run g c =
    let at : Attention = attention (g.W.Seat.told c.listen.new.life) (g.W.Seat.child c.listen.new.life) c.listen.new.standing in
    let hears = c.listen.ensures.hears in
    let none : ends_of c.listen.new.standing ≡ None = search rules in (
      [],
      g.met.W.Store.apart _ _ c.listen.ensures.rests,
      terminated_first _ at none c.if-standing.true c.listen.ensures.attentive (asked_first _ _ c.requires.untold hears.asked) (ap (λ (who : Child). who.attached) hears.child ∙ c.requires.free),
    )

pub returns-in-Ok-clause-run : goal.returns-in-Ok-clause-run
returns-in-Ok-clause-run g c =
    let at : Attention = attention (g.W.Seat.told c.redo.new.work) (g.W.Seat.child c.redo.new.work) c.listen.new.standing in
    let hears = c.listen.ensures.hears in
    let none : ends_of c.listen.new.standing ≡ None = search rules in
    let told = c.redo.ensures.told ∙ c.in-Ok.ensures.told in
    let child = c.in-Ok.ensures.ok ∙ ap (attached_in c.in-Ok.generation) hears.child in
    let rests = none_none g.W.Store.notes _ _ _ g.met.W.Store.in_turn (g.met.W.Store.apart _ _ c.listen.ensures.rests) (g.met.W.Store.apart _ _ c.in-Ok.ensures.rests) in
    let who = same_runner (g.W.Store.stamp c.args.work.now) (g.W.Store.stamp c.attach.new.self) (g.W.Seat.child c.args.work.now) (g.W.Seat.child c.attach.new.self) (g.met.W.Store.stays _ _ _ rests) (ap (λ (it : Child). it.pid) child) in
    let noted = c.redo.ensures.notes in (
      noted.0,
      g.met.W.Store.in_turn _ _ _ [] noted.0 rests noted.1,
      redone _ c.redo.result c.in-Ok.generation at noted.0 none c.if-standing.false (attentive_at_gate (attempt false (Ok c.in-Ok.generation)) (g.W.Seat.told c.listen.new.life) _ (g.W.Seat.child c.listen.new.life) (g.W.Seat.child c.redo.new.work) _ told c.listen.ensures.attentive)
          (met_gate (Ok c.in-Ok.generation) _ _ told (asked_first _ _ c.requires.untold hears.asked)) c.redo.ensures.attached
          (subst (λ (it : Runner). NotesInside Startup (user_in it c.in-Ok.generation) c.redo.result noted.0) who noted.2),
    )

pub returns-in-Err-clause-run : goal.returns-in-Err-clause-run
returns-in-Err-clause-run g c =
    let at : Attention = attention (g.W.Seat.told c.attach.new.self) (g.W.Seat.child c.attach.new.self) c.listen.new.standing in
    let hears = c.listen.ensures.hears in
    let none : ends_of c.listen.new.standing ≡ None = search rules in (
      [],
      none_none g.W.Store.notes _ _ _ g.met.W.Store.in_turn (g.met.W.Store.apart _ _ c.listen.ensures.rests) (g.met.W.Store.apart _ _ c.in-Err.ensures.rests),
      turned_away Startup _ c.in-Err.no at none (unterminated Startup (TurnedAway c.in-Err.no) c.listen.new.standing c.if-standing.false)
          (attentive_at_gate (attempt false (Err c.in-Err.no)) (g.W.Seat.told c.listen.new.life) _ (g.W.Seat.child c.listen.new.life) (g.W.Seat.child c.attach.new.self) _ c.in-Err.ensures.told c.listen.ensures.attentive)
          (met_gate (Err c.in-Err.no) _ _ c.in-Err.ensures.told (asked_first _ _ c.requires.untold hears.asked))
          (ap (λ (it : Child). it.attached) c.in-Err.ensures.refused ∙ ap (λ (it : Child). it.attached) hears.child ∙ c.requires.free),
    )
