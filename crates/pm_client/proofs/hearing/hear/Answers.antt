use Rattle.std.proofs.{Common.{◌≡◌, ◌∙◌, ℕ, List, [], ◌++◌, take, drop, refl, sym, ap, subst, take-append-drop}, lemmas.Result.err_from_is_err_and}
use Rattle.pm_wire_back.specs.{pm_wire.Backend.{IsBack, back_message}, Failing.BackFails, Received.IsWholeAt}
use Rattle.pm_client.{specs.Sides.{link_view, sides, sink_view}, proofs.Hearings.{back_fails, hearing_came, hearing_more, hearing_none, hearing_shown, hears_bad, hears_cut, hears_ready, hears_unshown}}
use Rattle.pm_client.proofs.hearing.hear.Goals as goal

-- what was taken from the front, and what is left
split : (used : ℕ) (unread left : List ℕ) → left ≡ drop used unread → unread ≡ take used unread ++ left
split used unread left is = sym (take-append-drop used unread) ∙ ap (λ (l : List ℕ). take used unread ++ l) (sym is)

pub loop-init : goal.loop-init
loop-init g c = record { hearing = rw c.new-page.ensures.items (hearing_none c.args.inbox.now _) }

pub returns-then-is_last : goal.returns-then-is_last
returns-then-is_last g c =
    let back : IsBack (take c.in-Whole.used c.loop.inbox) (back_message c.in-Whole.value) =
    subst (λ (l : List ℕ). IsBack (take c.in-Whole.used l) (back_message c.in-Whole.value)) c.unread.ensures c.in-Whole.ensures.whole.1 in
    hears_ready c.show.result c.loop.page.items c.deref.result.now _ c.loop.inbox (take c.in-Whole.used c.loop.inbox) c.pass.new.self (back_message c.in-Whole.value) _ _ _ c.loop.invariant.hearing
    (split c.in-Whole.used c.loop.inbox c.pass.new.self c.pass.ensures) back (sym c.ends_answer-is_last.ensures ∙ c.if-is_last.true) (c.deref.ensures.value ∙ c.in_ok-put_line-in-Whole.ensures) c.show.ensures refl

pub loop-preserved-else-is_last : goal.loop-preserved-else-is_last
loop-preserved-else-is_last g c =
    let back : IsBack (take c.in-Whole.used c.loop.inbox) (back_message c.in-Whole.value) =
    subst (λ (l : List ℕ). IsBack (take c.in-Whole.used l) (back_message c.in-Whole.value)) c.unread.ensures c.in-Whole.ensures.whole.1 in
    record {
      hearing = rw c.in_ok-put_line-in-Whole.ensures (hearing_more c.loop.page.items _ c.loop.inbox (take c.in-Whole.used c.loop.inbox) c.pass.new.self (back_message c.in-Whole.value) _ _ c.loop.invariant.hearing
          (split c.in-Whole.used c.loop.inbox c.pass.new.self c.pass.ensures) back (sym c.ends_answer-is_last.ensures ∙ c.if-is_last.false));
    }

pub returns-in_err-show-in-Short : goal.returns-in_err-show-in-Short
returns-in_err-show-in-Short g c =
    let p = err_from_is_err_and c.from_residual-in_err-show-in-Short.result c.from_residual-in_err-show-in-Short.ensures.1 in
    rw (p.1, p.2) (hears_unshown _ c.loop.page.items c.deref-in-Short.result.now _ c.loop.inbox _ _ _ c.loop.invariant.hearing c.deref-in-Short.ensures.value c.in_err-show-in-Short.ensures refl)

pub loop-preserved : goal.loop-preserved
loop-preserved g c =
    let mid = sides (link_view (g.L.Link.traffic c.loop.link) (g.L.Link.faults c.loop.link)) (sink_view (g.O.Sink.written c.show-in-Short.new.sink) (g.O.Sink.faults c.show-in-Short.new.sink)) in
    let shown = hearing_shown tt c.loop.page.items c.deref-in-Short.result.now _ c.loop.inbox _ _ mid c.loop.invariant.hearing c.deref-in-Short.ensures.value c.in_ok-show-in-Short.ensures refl in
    record { hearing = rw c.clear.ensures.items (hearing_came [] _ c.loop.inbox c.await_bytes.ensures.came c.await_bytes.new.inbox _ mid _ shown c.await_bytes.ensures.unread c.await_bytes.ensures.carries refl) }

pub returns-in_err-await_bytes-in-Short : goal.returns-in_err-await_bytes-in-Short
returns-in_err-await_bytes-in-Short g c =
    let p = err_from_is_err_and c.from_residual-in_err-await_bytes-in-Short.result c.from_residual-in_err-await_bytes-in-Short.ensures.1 in
    let mid = sides (link_view (g.L.Link.traffic c.loop.link) (g.L.Link.faults c.loop.link)) (sink_view (g.O.Sink.written c.show-in-Short.new.sink) (g.O.Sink.faults c.show-in-Short.new.sink)) in
    let shown = hearing_shown tt c.loop.page.items c.deref-in-Short.result.now _ c.loop.inbox _ _ mid c.loop.invariant.hearing c.deref-in-Short.ensures.value c.in_ok-show-in-Short.ensures refl in
    let whole : IsWholeAt c.loop.inbox c.in-Short.wanted = subst (λ (l : List ℕ). IsWholeAt l c.in-Short.wanted) c.unread.ensures ((c.in-Short.ensures.short c.in-Short.wanted).0 refl).1 in
    rw (p.1, p.2) (hears_cut _ _ c.loop.inbox c.await_bytes.new.inbox c.in-Short.wanted _ mid _ shown whole c.in_err-await_bytes-in-Short.ensures refl)

pub returns-in_err-show-in-Bad : goal.returns-in_err-show-in-Bad
returns-in_err-show-in-Bad g c =
    let p = err_from_is_err_and c.from_residual-in_err-show-in-Bad.result c.from_residual-in_err-show-in-Bad.ensures.1 in
    rw (p.1, p.2) (hears_unshown _ c.loop.page.items c.deref-in-Bad.result.now _ c.loop.inbox _ _ _ c.loop.invariant.hearing c.deref-in-Bad.ensures.value c.in_err-show-in-Bad.ensures refl)

pub returns-in-Bad : goal.returns-in-Bad
returns-in-Bad g c =
    let mid = sides (link_view (g.L.Link.traffic c.loop.link) (g.L.Link.faults c.loop.link)) (sink_view (g.O.Sink.written c.show-in-Bad.new.sink) (g.O.Sink.faults c.show-in-Bad.new.sink)) in
    let shown = hearing_shown tt c.loop.page.items c.deref-in-Bad.result.now _ c.loop.inbox _ _ mid c.loop.invariant.hearing c.deref-in-Bad.ensures.value c.in_ok-show-in-Bad.ensures refl in
    let fails : BackFails c.loop.inbox c.in-Bad.fault =
    subst (λ (l : List ℕ). BackFails l c.in-Bad.fault) c.unread.ensures (back_fails c.read_back.result c.unread.result.now c.in-Bad.fault c.read_back.ensures.bad_length c.read_back.ensures.bad_form c.in-Bad.is) in
    hears_bad c.in-Bad.fault _ c.loop.inbox _ mid shown fails
