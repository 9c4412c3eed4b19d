use Rattle.std.proofs.{Common.{sym, ◌∙◌}, lemmas.Bool.both_ways}
use Rattle.pm_postmaster.{specs.View.view_of, proofs.Going.{alive_on, none_done}}
use Rattle.pm_postmaster.proofs.server.Server.settle.Goals as goal

pub acts-init : goal.acts-init
acts-init g c = record { keeps = none_done g.C.Clock.gives (view_of c.args.self.now); goes_on = c.requires.goes_on; settled = λ was listens. was; reaped = λ n were. were }

pub do_next-requires : goal.do_next-requires
do_next-requires g c = record { alive = alive_on g.C.Clock.gives _ _ c.acts.invariant.keeps c.requires.alive }

pub returns-then-not-owes_smart-clause-goes : goal.returns-then-not-owes_smart-clause-goes
returns-then-not-owes_smart-clause-goes g c = λ outset was. c.in-Ok-false.ensures.goes outset (c.acts.invariant.keeps outset was)

pub ask_owed-requires-clause-alive : goal.ask_owed-requires-clause-alive
ask_owed-requires-clause-alive g c = alive_on g.C.Clock.gives _ _ c.in-Ok-false.ensures.goes (alive_on g.C.Clock.gives _ _ c.acts.invariant.keeps c.requires.alive)

pub returns-in-Err-ask_owed-clause-goes : goal.returns-in-Err-ask_owed-clause-goes
returns-in-Err-ask_owed-clause-goes g c = λ outset was. c.in-Err-ask_owed.ensures.goes outset (c.in-Ok-false.ensures.goes outset (c.acts.invariant.keeps outset was))

pub returns-in-Err-ask_owed-clause-reaped : goal.returns-in-Err-ask_owed-clause-reaped
returns-in-Err-ask_owed-clause-reaped g c = λ n were. c.ask_owed.ensures.reaped n (c.do_next.ensures.reaped n (c.acts.invariant.reaped n were))

pub returns-in-Err-clause-goes : goal.returns-in-Err-clause-goes
returns-in-Err-clause-goes g c = λ outset was. c.in-Err.ensures.goes outset (c.acts.invariant.keeps outset was)

pub acts-preserved-in-Ok-true : goal.acts-preserved-in-Ok-true
acts-preserved-in-Ok-true g c = record {
  keeps = λ outset was. c.in-Ok-true.ensures.goes outset (c.acts.invariant.keeps outset was);
  goes_on = c.in-Ok-true.ensures.ended ∙ c.acts.invariant.goes_on;
  settled = λ was listens. c.do_next.ensures.settled (c.acts.invariant.settled was (sym c.do_next.ensures.listens ∙ listens));
  reaped = λ n were. c.do_next.ensures.reaped n (c.acts.invariant.reaped n were);
}

pub acts-preserved : goal.acts-preserved
acts-preserved g c = record {
  keeps = λ outset was. c.in-Ok.ensures.goes outset (c.in-Ok-false.ensures.goes outset (c.acts.invariant.keeps outset was));
  goes_on = c.in-Ok.ensures.ended;
  settled = λ was listens. absurd (both_ways _ c.ask_owed.ensures.deaf listens);
  reaped = λ n were. c.ask_owed.ensures.reaped n (c.do_next.ensures.reaped n (c.acts.invariant.reaped n were));
}
