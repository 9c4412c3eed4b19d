use Rattle.std.proofs.{Common.{◌≡◌, ◌∙◌, List, ℕ, ◌++◌, refl, ap}, lemmas.Result.err_from_is_err_and}
use Rattle.pm_wire_front.specs.Requests.{query, start_packet}
use Rattle.pm_client.proofs.Talks.{cut_first, cut_next, short_first, short_next, talked_first, talked_last, talked_next}
use Rattle.pm_client.proofs.talk.ask_all.Goals as goal

pub returns-in_err-put_start : goal.returns-in_err-put_start
returns-in_err-put_start g c =
    let p = err_from_is_err_and c.from_residual.result c.from_residual.ensures.1 in
    rw (p.1, p.2) (short_first c.args.user.now c.args.texts.now _)

pub returns-in_err-ask : goal.returns-in_err-ask
returns-in_err-ask g c =
    let p = err_from_is_err_and c.from_residual-in_err-ask.result c.from_residual-in_err-ask.ensures.1 in
    let request : c.deref.result.now ≡ start_packet c.args.user.now = c.deref.ensures.value ∙ c.in_ok-put_start.ensures ∙ ap (λ (l : List ℕ). l ++ start_packet c.args.user.now) c.new-request.ensures.items in
    let opened = c.inbox.view_is in
    let none = c.new-inbox.ensures in
    rw (p.1, p.2) (cut_first _ c.args.user.now c.args.texts.now c.deref.result.now _ c.ask.new.inbox _ _ c.in_err-ask.ensures request cc)

pub loop-text-init : goal.loop-text-init
loop-text-init g c =
    let request : c.deref.result.now ≡ start_packet c.args.user.now = c.deref.ensures.value ∙ c.in_ok-put_start.ensures ∙ ap (λ (l : List ℕ). l ++ start_packet c.args.user.now) c.new-request.ensures.items in
    let opened = c.inbox.view_is in
    let none = c.new-inbox.ensures in
    record { talked = talked_first tt c.args.user.now c.deref.result.now _ c.ask.new.inbox _ _ c.in_ok-ask.ensures request cc }

pub returns-in_err-put_query : goal.returns-in_err-put_query
returns-in_err-put_query g c =
    let p = err_from_is_err_and c.from_residual-in_err-put_query.result c.from_residual-in_err-put_query.ensures.1 in
    rw (p.1, p.2) (short_next c.args.user.now c.args.texts.now c.loop-text.text-index c.loop-text.inbox _ _ c.loop-text.invariant.talked)

pub returns-in_err-ask-2 : goal.returns-in_err-ask-2
returns-in_err-ask-2 g c =
    let p = err_from_is_err_and c.from_residual-in_err-ask-2.result c.from_residual-in_err-ask-2.ensures.1 in
    let request : c.deref-in-loop-text.result.now ≡ query c.text-item.result =
    c.deref-in-loop-text.ensures.value ∙ c.in_ok-put_query.ensures ∙ ap (λ (l : List ℕ). l ++ query c.as_str.result.now) c.clear.ensures.items ∙ ap query c.as_str.ensures.bytes in
    let opened = c.inbox-in-loop-text.view_is in
    rw (p.1, p.2) (cut_next _ c.args.user.now c.args.texts.now c.loop-text.text-index c.text-item.result c.deref-in-loop-text.result.now _ c.loop-text.inbox c.ask-in-loop-text.new.inbox _ _ _ c.loop-text.invariant.talked c.loop-text-test.true c.text-item.is
    c.in_err-ask-2.ensures request cc)

pub loop-text-preserved : goal.loop-text-preserved
loop-text-preserved g c =
    let request : c.deref-in-loop-text.result.now ≡ query c.text-item.result =
    c.deref-in-loop-text.ensures.value ∙ c.in_ok-put_query.ensures ∙ ap (λ (l : List ℕ). l ++ query c.as_str.result.now) c.clear.ensures.items ∙ ap query c.as_str.ensures.bytes in
    let opened = c.inbox-in-loop-text.view_is in
    record {
      talked = talked_next tt c.args.user.now c.args.texts.now c.loop-text.text-index c.text-item.result c.deref-in-loop-text.result.now _ c.loop-text.inbox c.ask-in-loop-text.new.inbox _ _ _ c.loop-text.invariant.talked c.loop-text-test.true
          c.text-item.is c.in_ok-ask-2.ensures request cc;
    }

pub returns : goal.returns
returns g c =
    talked_last c.send.result c.args.user.now c.args.texts.now c.loop-text.text-index c.terminate.result.now c.loop-text.inbox _ _ _ c.loop-text.invariant.talked c.loop-text-test.false c.loop-text.auto.text-index-end c.send.ensures c.terminate.ensures refl
