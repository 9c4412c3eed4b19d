use Rattle.std.{proofs.{Common.{rules, ◌≡◌, ◌∙◌, ◌+◌, ◌∷◌, [], ℕ, List, ◌≤◌, ap, arith, length, length-append, subst, sym}, lemmas.List.Elements.All-pop}, specs.{Prelude.{IfSome, Option}, Option.option_to_list}}
use Rattle.pm_serve_pool.{specs.{Plan.{sessions_of, slots_of}, Works.{EachFrom, IsWorkOf}}, proofs.{Filling.{IsNewToken, IsPostOf, all_but_last, filled_more, none_yet, popped_last, posts_first, tokens_first}, Lists.front_of_all}}
use Rattle.pm_serve_pool.proofs.making.fill.Goals as goal

pub loop-token-init : goal.loop-token-init
loop-token-init g c =
    let posts : length c.args.stock.posts.items ≡ slots_of c.args.terms.now.plan = c.requires.posts.0 in
    let tokens : length c.args.tokens ≡ slots_of c.args.terms.now.plan = c.requires.tokens.all.0 in
    let none : length c.args.stock.works.items ≡ 0 = ap length c.requires.room.0 in
    record {
      tokens = tokens_first (slots_of c.args.terms.now.plan) c.args.shared.now c.args.tokens c.requires.tokens;
      posts = posts_first (slots_of c.args.terms.now.plan) (sessions_of c.args.terms.now.plan.limits) c.args.stock.roster.table c.args.stock.posts.items c.requires.posts;
      count_posts = c.args.stock.posts.ok.0 ∙ posts ∙ sym tokens;
      count_clocks = c.requires.clocks.0 ∙ sym tokens;
      count_callers = c.requires.callers ∙ sym tokens;
      gives = c.requires.clocks.1;
      count = (omega arith);
      room = c.requires.room.1;
      works =
          none_yet (IsWorkOf g.C.Clock.gives c.args.terms.now c.args.stock.roster.table c.args.shared.now.table c.args.shared.now.first) (length c.args.tokens) c.args.stock.works.items c.requires.room.0;
    }

pub loop-token-preserved : goal.loop-token-preserved
loop-token-preserved g c =
    let inv = c.loop-token.invariant in
    let rest = c.take.new.self in
    let tokens = all_but_last (IsNewToken c.args.shared.now.table c.args.shared.now.first) rest c.loop-token.tokens c.in-Some.token c.in-Some.ensures inv.tokens in
    let posts_are = popped_last c.pop.result c.unwrap-post.result c.loop-token.posts.items c.pop.new.self.items c.pop.ensures.items c.unwrap-post.ensures in
    let posts = all_but_last (IsPostOf c.args.stock.roster.table (sessions_of c.args.terms.now.plan.limits)) c.pop.new.self.items c.loop-token.posts.items c.unwrap-post.result posts_are inv.posts in
    let gives = All-pop (λ clock. (moment : ℕ) → g.C.Clock.gives clock moment → g.C.Clock.gives c.args.terms.now.clock.value moment) c.loop-token.clocks.items c.pop-in-Some.new.self.items c.pop-in-Some.result c.pop-in-Some.ensures.items inv.gives in
    let its = subst (λ (t : Option _). IfSome t (λ clock. (moment : ℕ) → g.C.Clock.gives clock moment → g.C.Clock.gives c.args.terms.now.clock.value moment)) c.unwrap.ensures gives.1 in
    let longer : length c.loop-token.tokens ≡ length rest + 1 = ap length c.in-Some.ensures ∙ length-append rest (c.in-Some.token ∷ []) in
    let one_post : length (option_to_list c.pop.result) ≡ 1 = ap (λ taken. length (option_to_list taken)) c.unwrap-post.ensures in
    let posts_len : c.pop.new.self.len + length (option_to_list c.pop.result) ≡ c.loop-token.posts.len = c.pop.ensures.len in
    let posts_before : c.loop-token.posts.len ≡ length c.loop-token.tokens = inv.count_posts in
    let fewer_posts : c.pop.new.self.len ≡ length rest = omega arith in
    let one_clock : length (option_to_list c.pop-in-Some.result) ≡ 1 = ap (λ taken. length (option_to_list taken)) c.unwrap.ensures in
    let clocks_len : c.pop-in-Some.new.self.len + length (option_to_list c.pop-in-Some.result) ≡ c.loop-token.clocks.len = c.pop-in-Some.ensures.len in
    let clocks_before : c.loop-token.clocks.len ≡ length c.loop-token.tokens = inv.count_clocks in
    let fewer_clocks : c.pop-in-Some.new.self.len ≡ length rest = omega arith in
    let one_caller : length (option_to_list c.pop-in-Some-2.result) ≡ 1 = ap (λ taken. length (option_to_list taken)) c.unwrap-clock.ensures in
    let callers_len : c.pop-in-Some-2.new.self.len + length (option_to_list c.pop-in-Some-2.result) ≡ c.loop-token.callers.len = c.pop-in-Some-2.ensures.len in
    let callers_before : c.loop-token.callers.len ≡ length c.loop-token.tokens = inv.count_callers in
    let fewer_callers : c.pop-in-Some-2.new.self.len ≡ length rest = omega arith in
    let more_works : length c.push_front_reserved.new.self.items ≡ length (c.new.result ∷ c.loop-token.works.items) = ap length c.push_front_reserved.ensures.items in
    let count : length c.loop-token.works.items + length c.loop-token.tokens ≡ slots_of c.args.terms.now.plan = inv.count in
    record {
      tokens = front_of_all (IsNewToken c.args.shared.now.table c.args.shared.now.first) 0 rest (c.in-Some.token ∷ []) tokens;
      posts = front_of_all (IsPostOf c.args.stock.roster.table (sessions_of c.args.terms.now.plan.limits)) 0 c.pop.new.self.items (c.unwrap-post.result ∷ []) posts;
      count_posts = fewer_posts;
      count_clocks = fewer_clocks;
      count_callers = fewer_callers;
      gives = gives.0;
      count = (omega arith);
      room = subst (λ (n : ℕ). slots_of c.args.terms.now.plan ≤ n) (sym c.push_front_reserved.ensures.capacity) inv.room;
      works =
          subst (λ (works : List _). EachFrom (IsWorkOf g.C.Clock.gives c.args.terms.now c.args.stock.roster.table c.args.shared.now.table c.args.shared.now.first) (length rest) works) (sym c.push_front_reserved.ensures.items)
          (filled_more g.C.Clock.gives c.args.terms.now c.args.stock.roster.table c.args.shared.now.table c.args.shared.now.first rest c.in-Some.token c.pop.new.self.items c.unwrap-post.result c.unwrap.result c.new.result
          c.loop-token.works.items tokens posts (sym c.pop.new.self.ok.0 ∙ fewer_posts) its (ap (λ tools. tools.clock) c.new.ensures.0) (ap (λ tools. tools.seed) c.new.ensures.0)
          (ap (λ tools. tools.conf) c.new.ensures.0) c.new.ensures.1 (ap (λ store. store.token) c.new.ensures.2)
          (subst (λ (l : List _). EachFrom (IsWorkOf g.C.Clock.gives c.args.terms.now c.args.stock.roster.table c.args.shared.now.table c.args.shared.now.first) (length l) c.loop-token.works.items) c.in-Some.ensures inv.works));
    }

pub returns-clause-works : goal.returns-clause-works
returns-clause-works g c =
    let none : c.loop-token.tokens ≡ [] = search rules in
    subst (λ (l : List _). EachFrom (IsWorkOf g.C.Clock.gives c.args.terms.now c.args.stock.roster.table c.args.shared.now.table c.args.shared.now.first) (length l) c.loop-token.works.items) none c.loop-token.invariant.works
