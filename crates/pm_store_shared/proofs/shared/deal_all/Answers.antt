use Rattle.std.{proofs.Common.{sym, ap, ◌∙◌, ◌++◌, ◌∷◌, [], ◌+◌, ◌≡◌, length, length-append, append_assoc, subst}, specs.Vec.Iter.into_iter_items}
use Rattle.pm_store_shared.{specs.Told.AreNewTokens, proofs.Closing.{dealt, next_share}}
use Rattle.pm_store_shared.proofs.shared.deal_all.Goals as goal

pub deal-token-requires-clause-table : goal.deal-token-requires-clause-table
deal-token-requires-clause-table g c =
    let inv = c.loop-share.invariant in
    let gives : into_iter_items c.into_iter-share-iterator.result ≡ c.args.shares.items = c.into_iter-share-iterator.ensures.into_iter_gives.0 in
    let is = ap (λ l. c.loop-share.yielded ++ l) (sym c.in-Some.ensures.steps.0) ∙ inv.0 ∙ gives in
    let next = next_share _ _ _ _ _ _ c.requires.each is in
    next.0 ∙ sym (ap (λ s. s.table) inv.1)

pub loop-share-preserved : goal.loop-share-preserved
loop-share-preserved g c =
    let inv = c.loop-share.invariant in
    let one : length (c.loop-share.yielded ++ c.in-Some.share ∷ []) ≡ length c.loop-share.yielded + 1 = length-append c.loop-share.yielded (c.in-Some.share ∷ []) in
    let tokens : c.loop-share.shared.tokens ≡ length c.loop-share.yielded = ap (λ s. s.tokens) inv.1 in
    let new = dealt _ _ _ _ _ tokens inv.4 c.deal-token.ensures.token c.deal-token.ensures.shared in (
      append_assoc c.loop-share.yielded (c.in-Some.share ∷ []) (into_iter_items c.next.new.self) ∙ ap (λ l. c.loop-share.yielded ++ l) (sym c.in-Some.ensures.steps.0) ∙ inv.0,
      c.deal-token.ensures.shared ∙ ap (λ s. record { table = s.table; tokens = s.tokens + 1; first = s.first; generation = s.generation; own = s.own; joined = s.joined }) inv.1
          ∙ ap (λ n. record { table = c.args.shared.table; tokens = n; first = c.args.shared.first; generation = c.args.shared.generation; own = c.args.shared.own; joined = c.args.shared.joined }) (sym one),
      c.push_reserved.ensures.len ∙ ap (λ n. n + 1) inv.2 ∙ sym one,
      c.push_reserved.ensures.capacity ∙ inv.3,
      subst (λ n. AreNewTokens n c.deal-token.new.self c.push_reserved.new.self.items) (sym one) (subst (λ l. AreNewTokens (length c.loop-share.yielded + 1) c.deal-token.new.self l) (sym c.push_reserved.ensures.items) new),
    )
