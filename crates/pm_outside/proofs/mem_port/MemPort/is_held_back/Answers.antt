use Rattle.std.proofs.Common.{◌≡◌, inl, inr, true, rules, arith}
use Rattle.pm_outside.proofs.mem_port.MemPort.is_held_back.Goals as goal

pub returns-clause-free : goal.returns-clause-free
returns-clause-free c = λ _.
    let held : c.hold_back.result ≡ true = search rules in
    inr (c.clear.ensures.items, elim (c.waits.ensures.free c.if-waits.false) [ inl none ↦ absurd (c.hold_back.ensures.held held none) | inr vain ↦ omega (arith, vain, c.hold_back.ensures.asks) ])
