use Rattle.std.proofs.Common.{◌≡◌, ◌∙◌, [], Option, IfSome, ap, sym, subst, arith}
use Rattle.pm_session_exchange.specs.{pm_outside.Traffic.IsFresh, pm_child_life.{Life.{Child, Told, nothing_told}, Attention.Attention}, Exchange.LinkView, Moments.moment}
use Rattle.pm_session.{specs.{Entry.Connected, Turns.at_desk}, proofs.Sessions.{connected_not, connected_as, connected_heeds}}
use Rattle.pm_session.proofs.session.serve.Goals as goal

-- ---- without memory

abbrev Short : (g : _) → goal.After-done g → Type 0
Short g c =
    Connected g.W.Store c.args.admission (g.C.Clock.gives c.args.means.now.clock.now) c.args.conf.now.authentication_ms c.close_short_of_memory-exit.result
    (moment c.new-line.result.link [] c.new-line.result.work c.new-line.result.child) (moment c.close_short_of_memory-exit.new.line.link [] c.close_short_of_memory-exit.new.line.work c.close_short_of_memory-exit.new.line.child)

short : (g : _) (c : goal.After-done g) → Short g c
short g c =
    let at : c.new-line.result.child ≡ _ = c.new-line.ensures.child ∙ c.new.ensures.child in
    let told0 = ap (λ (at : Attention). at.told) at in
    let child0 = ap (λ (at : Attention). at.child) at in
    connected_not g.W.Store c.args.admission _ _ _ _ _ _ _ c.new-line.result.child _ (g.met.W.Store.apart _ _ c.close_short_of_memory-exit.ensures.rests)
    (subst (λ (l : LinkView). IsFresh l.traffic) (sym c.new-line.ensures.link) c.requires.fresh) (ap (λ (child : Child). child.attached) child0 ∙ c.requires.free)
    (subst (λ (t : Option Told). IfSome t (λ told. told ≡ nothing_told)) (sym told0) c.requires.untold) c.close_short_of_memory-exit.ensures.closes

pub returns-in_default-clause-session : goal.returns-in_default-clause-session
returns-in_default-clause-session g c =
    let at : c.new-line.result.child ≡ _ = c.new-line.ensures.child ∙ c.new.ensures.child in
    connected_as g.W.Store c.args.admission _ _ _ c.args.conf.now.authentication_ms _ _ _ _ [] [] _ _ _ _ c.new-line.result.child c.close_short_of_memory-exit.new.line.child _ _ _ _ (record {
      link_given = c.new-line.ensures.link;
      link_back = c.done.ensures.link;
      work_given = c.new-line.ensures.work ∙ c.new.ensures.work;
      work_back = c.done.ensures.work;
      told_given = ap (λ (at : Attention). at.told) at;
      told_back = c.done.ensures.told;
      child_given = ap (λ (at : Attention). at.child) at;
      child_back = c.done.ensures.child;
    }) c.done.ensures.status (short g c)

pub returns-in_default-clause-heeds : goal.returns-in_default-clause-heeds
returns-in_default-clause-heeds g c =
    connected_heeds g.W.Store c.args.admission _ _ _ _ (moment c.new-line.result.link [] c.new-line.result.work c.new-line.result.child) (moment c.close_short_of_memory-exit.new.line.link [] c.close_short_of_memory-exit.new.line.work c.close_short_of_memory-exit.new.line.child) _
    c.done.ensures.status c.done.ensures.told (short g c)

pub returns-in_default-clause-number : goal.returns-in_default-clause-number
returns-in_default-clause-number g c =
    ap (λ (l : LinkView). l.number) (sym c.done.ensures.link) ∙ c.close_short_of_memory-exit.ensures.closes.3.passes.number ∙ ap (λ (l : LinkView). l.number) c.new-line.ensures.link

pub returns-in_default-clause-link_faults : goal.returns-in_default-clause-link_faults
returns-in_default-clause-link_faults g c =
    omega (arith, ap (λ (l : LinkView). l.faults) c.done.ensures.link, c.close_short_of_memory-exit.ensures.closes.3.passes.later, ap (λ (l : LinkView). l.faults) c.new-line.ensures.link)

-- ---- at a desk

pub session-exit-requires-clause-fresh : goal.session-exit-requires-clause-fresh
session-exit-requires-clause-fresh g c = subst (λ (l : LinkView). IsFresh l.traffic) (sym (c.new-desk.ensures.link ∙ c.new-line.ensures.link)) c.requires.fresh

pub session-exit-requires-clause-free : goal.session-exit-requires-clause-free
session-exit-requires-clause-free g c = ap (λ (at : Attention). at.child.attached) (c.new-desk.ensures.child ∙ c.new-line.ensures.child ∙ c.new.ensures.child) ∙ c.requires.free

pub session-exit-requires-clause-untold : goal.session-exit-requires-clause-untold
session-exit-requires-clause-untold g c =
    subst (λ (t : Option Told). IfSome t (λ told. told ≡ nothing_told)) (sym (ap (λ (at : Attention). at.told) (c.new-desk.ensures.child ∙ c.new-line.ensures.child ∙ c.new.ensures.child))) c.requires.untold

pub returns-clause-session : goal.returns-clause-session
returns-clause-session g c =
    let at : c.new-desk.result.child ≡ _ = c.new-desk.ensures.child ∙ c.new-line.ensures.child ∙ c.new.ensures.child in
    connected_as g.W.Store c.args.admission _ _ _ c.args.conf.now.authentication_ms _ _ _ _ c.in-Ok.inbox c.session-exit.new.inbox _ _ _ _ c.new-desk.result.child c.session-exit.new.self.child _ _ _ _ (record {
      link_given = c.new-desk.ensures.link ∙ c.new-line.ensures.link;
      link_back = sym c.into_line.ensures.link ∙ c.done-2.ensures.link;
      work_given = c.new-desk.ensures.work ∙ c.new-line.ensures.work ∙ c.new.ensures.work;
      work_back = c.done-2.ensures.work ∙ c.into_line.ensures.work;
      told_given = ap (λ (at : Attention). at.told) at;
      told_back = c.done-2.ensures.told ∙ ap (λ (at : Attention). at.told) c.into_line.ensures.child;
      child_given = ap (λ (at : Attention). at.child) at;
      child_back = c.done-2.ensures.child ∙ ap (λ (at : Attention). at.child) c.into_line.ensures.child;
    }) c.done-2.ensures.status c.session-exit.ensures.session

pub returns-clause-heeds : goal.returns-clause-heeds
returns-clause-heeds g c =
    connected_heeds g.W.Store c.args.admission _ _ _ _ (at_desk c.new-desk.result c.in-Ok.inbox) (at_desk c.session-exit.new.self c.session-exit.new.inbox) _
    c.done-2.ensures.status (c.done-2.ensures.told ∙ ap (λ (at : Attention). at.told) c.into_line.ensures.child) c.session-exit.ensures.session

pub returns-clause-number : goal.returns-clause-number
returns-clause-number g c =
    ap (λ (l : LinkView). l.number) (sym (sym c.into_line.ensures.link ∙ c.done-2.ensures.link)) ∙ c.session-exit.ensures.number ∙ ap (λ (l : LinkView). l.number) (c.new-desk.ensures.link ∙ c.new-line.ensures.link)

pub returns-clause-link_faults : goal.returns-clause-link_faults
returns-clause-link_faults g c =
    let before = ap (λ (l : LinkView). l.faults) (c.new-desk.ensures.link ∙ c.new-line.ensures.link) in
    let now = ap (λ (l : LinkView). l.faults) (sym c.into_line.ensures.link ∙ c.done-2.ensures.link) in
    omega (arith, before, now, c.session-exit.ensures.link_faults)
