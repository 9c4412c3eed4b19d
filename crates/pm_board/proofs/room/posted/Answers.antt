use Rattle.std.{proofs.{Common.{rules, ◌≡◌, ℕ, ◌+◌, ◌≤◌, ◌<◌, ◌++◌, ◌∷◌, [], List, length, length-append, append_assoc, arith, sym, ap, ◌∙◌, subst, vec_len}, lemmas.List.length-replicate}, specs.{Prelude.{Some, slice_get, vec_capacity}, Vec.Iter.{into_iter_items, into_iter_len}}}
use Rattle.pm_board_home.specs.{declared.views.HomeView.HomeView, Views.{no_takes, with_knows, dealt_by}}
use Rattle.pm_board_home.proofs.HomeLaws as laws
use Rattle.pm_board_words.specs.declared.views.RosterView.{RosterView}
use Rattle.pm_board.{specs.{Rule.idle_post, Told.{with_post, new_roster}, Models.{PostOf, new_post}}, proofs.Sharing.next_share}
use Rattle.pm_board.proofs.Steps as steps
use Rattle.pm_board.proofs.room.posted.Goals as goal

pub deal-post-requires : goal.deal-post-requires
deal-post-requires g c =
    let inv = c.loop-share.invariant in
    let gives : into_iter_items c.into_iter-share-iterator.result ≡ c.args.shares.items = c.into_iter-share-iterator.ensures.into_iter_gives.0 in
    let is = ap (λ l. c.loop-share.yielded ++ l) (sym c.in-Some.ensures.steps.0) ∙ inv.0 ∙ gives in
    let next = next_share _ _ _ _ _ _ c.requires.each is in
    let n : ℕ = length c.args.shares.items in
    let i : ℕ = length c.loop-share.yielded in
    record {
      words = c.into_words.ensures ∙ next.0 ∙ sym inv.3;
      more = subst (λ (z : RosterView g.row.J-Told.Denot). z.dealt < length z.slots) (sym inv.1) (subst (λ (m : ℕ). i < m) (sym (length-replicate n _)) next.1);
      limit = ap (λ z. z.session_limit) (sym inv.1);
      free = ap (λ u. g.H.Home.has u.knows) inv.2 ∙ (laws.dealt_has g.H.Home.has g.H.Home.dealt (λ u. (g.met.H.Home.dealt_as u).0) i c.args.first.home.knows ∙ c.requires.free);
    }

pub loop-share-preserved : goal.loop-share-preserved
loop-share-preserved g c =
    let inv = c.loop-share.invariant in
    let d = c.deal-post.ensures.post in
    let i : ℕ = length c.loop-share.yielded in
    let n : ℕ = length c.args.shares.items in
    let u : g.row.H-Knows.Denot = c.args.first.home.knows in
    let one : length (c.loop-share.yielded ++ c.in-Some.share ∷ []) ≡ i + 1 = length-append c.loop-share.yielded (c.in-Some.share ∷ []) in
    let F : ℕ → PostOf g.row.J-Told.Denot g.row.H-Knows.Denot = λ k. new_post g.H.Home c.args.session_limit c.args.first.table u k in
    let made : c.deal-post.result ≡ F i = d.0 ∙ (λ j. record { table = inv.3 j; slot = (inv.1 j).dealt; knows = idle_post (inv.1 j).session_limit; home = no_takes (g.H.Home.next (inv.2 j).knows) }) in
    let longer : length (c.loop-share.left.items ++ c.deal-post.result ∷ []) ≡ length c.loop-share.left.items + 1 = length-append c.loop-share.left.items (c.deal-post.result ∷ []) in (
      append_assoc c.loop-share.yielded (c.in-Some.share ∷ []) (into_iter_items c.next.new.self) ∙ ap (λ l. c.loop-share.yielded ++ l) (sym c.in-Some.ensures.steps.0) ∙ inv.0,
      d.1 ∙ ap with_post inv.1 ∙ ap (λ (k : ℕ). new_roster n c.args.session_limit k) (sym one),
      d.2 ∙ (ap (λ (z : HomeView g.row.H-Knows.Denot). with_knows z (g.H.Home.dealt z.knows)) inv.2 ∙ ap (λ (z : g.row.H-Knows.Denot). with_knows c.args.first.home z) (sym (laws.dealt_one g.H.Home.dealt i u) ∙ ap (λ (k : ℕ). dealt_by g.H.Home.dealt k u) (sym one))),
      c.deal-post.ensures.table ∙ inv.3,
      c.push_reserved.ensures.len ∙ ap (λ n. n + 1) inv.4 ∙ sym one,
      c.push_reserved.ensures.capacity ∙ inv.5,
      ap length c.push_reserved.ensures.items ∙ longer ∙ ap (λ n. n + 1) inv.6 ∙ sym one,
      λ k p e. steps.one_more F c.loop-share.left.items c.deal-post.result (made ∙ ap F (sym inv.6)) inv.7 k p (subst (λ (z : List (PostOf g.row.J-Told.Denot g.row.H-Knows.Denot)). slice_get z k ≡ Some p) c.push_reserved.ensures.items e),
      (
          let fewer : into_iter_len c.next.new.self + 1 ≡ into_iter_len c.loop-share.share-iterator = c.in-Some.ensures.steps.1 in
          let whole : i + into_iter_len c.loop-share.share-iterator ≡ n = inv.8 in
          omega (arith, fewer, whole, one)
          ),
    )

pub returns-clause-posts : goal.returns-clause-posts
returns-clause-posts g c =
    let inv = c.loop-share.invariant in
    let none : into_iter_len c.loop-share.share-iterator ≡ 0 = c.in-None.ensures.steps.0 in
    let whole : length c.loop-share.yielded + into_iter_len c.loop-share.share-iterator ≡ length c.args.shares.items = inv.8 in
    let done : length c.loop-share.yielded ≡ length c.args.shares.items = omega (arith, none, whole) in (
      ap length c.from.ensures.0 ∙ inv.6 ∙ done,
      (λ k p e.
          let is = inv.7 k p (subst (λ (z : List (PostOf g.row.J-Told.Denot g.row.H-Knows.Denot)). slice_get z k ≡ Some p) c.from.ensures.0 e) in
          (λ i. record { table = (ap (λ z. z.table) is ∙ sym inv.3) i; slot = (is i).slot; knows = (is i).knows; home = p.home })),
    )
