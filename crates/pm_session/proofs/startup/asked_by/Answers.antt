use Rattle.std.proofs.Common.{inl, inr, refl, arith}
use Rattle.pm_session.proofs.startup.asked_by.Goals as goal

pub returns-in-Bad : goal.returns-in-Bad
returns-in-Bad c =
    let front = (c.in-Bad.ensures.bad c.in-Bad.fault).0 refl in
    (front.0, front.1.within, inl front.1.decides)

pub returns-in-Short : goal.returns-in-Short
returns-in-Short c = (
  c.in-Short.ensures.short.0 refl,
  elim (c.in-Short.ensures.incomplete.0 refl) [ inl few ↦ omega (arith, few) | inr some ↦ omega (arith, some.1, some.2) ],
)
