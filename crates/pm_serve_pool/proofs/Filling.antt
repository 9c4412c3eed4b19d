-- Works, one more in front of those so far.
use Rattle.std.{proofs.Common.{◌≡◌, ℕ, ◌+◌, List, [], ◌∷◌, ◌++◌, length, sym, ap, ◌∙◌, subst, arith, length-append}, specs.{Prelude.{Option, Some, slice_get}, Option.option_to_list}}
use Rattle.atomic_table.specs.Seated.{TableId}
use Rattle.pm_serve_crew.specs.{pm_facts.Lists.got_last, pm_board.{pm_board_words.declared.views.SessionLimit.SessionLimit, Models.{AreNewPosts, PostModel}, Rule.idle_post}, pm_store_shared.{declared.token_store.TokenStore.TokenStore, Told.{AreNewTokens, SharedModel, TokenModel}}, pm_worker.declared.{child.Child.Child, mail.MailTold.MailTold}}
use Rattle.pm_serve_pool.{specs.{declared.plan.Terms.Terms, Plan.sessions_of, Works.{EachFrom, IsUnusedToken, IsWorkOf}}, proofs.Lists.one_before}

-- the idle post of the slot k
abbrev pub IsPostOf : (board : TableId) (limit : SessionLimit) (k : ℕ) → PostModel MailTold → Type 0
IsPostOf board limit k post = post ≡ record { table = board; slot = k; knows = idle_post limit; home = post.home }

pub posts_first : (n : ℕ) (limit : SessionLimit) (board : TableId) (posts : List (PostModel MailTold)) → AreNewPosts n limit board posts → EachFrom (IsPostOf board limit) 0 posts
posts_first n limit board posts new i post at =
    let same : i ≡ 0 + i = omega arith in
    subst (λ (k : ℕ). IsPostOf board limit k post) same (new.1 i post at)

-- the unused token of the slot k, of a store that got this disk
abbrev pub IsNewToken : {F : Type 0} (home : TableId) (first : Option F) (k : ℕ) → TokenModel F → Type 0
IsNewToken home first k token = IsUnusedToken home k token × (token.first ≡ first)

pub tokens_first : {F : Type 0} (n : ℕ) (s : SharedModel F) (tokens : List (TokenModel F)) → AreNewTokens n s tokens → EachFrom (IsNewToken s.table s.first) 0 tokens
tokens_first n s tokens new i token at =
    let same : i ≡ 0 + i = omega arith in
    subst (λ (k : ℕ). IsNewToken s.table s.first k token) same
    (record { home_is = (new.all.1 i token at).0; number = (new.all.1 i token at).1; own = (new.each i token at).1 }, (new.each i token at).0)

pub none_yet : {A : Type 0} (P : ℕ → A → Type 0) (first : ℕ) (xs : List A) → xs ≡ [] → EachFrom P first xs
none_yet P first xs none i x at = absurd (let gone : slice_get {X = _} [] i ≡ Some x = subst (λ l. slice_get l i ≡ Some x) none at in cc)

-- the one that was taken from the end
pub popped_last : {A : Type 0} (taken : Option A) (x : A) (before after : List A) → before ≡ after ++ option_to_list taken → taken ≡ Some x → before ≡ after ++ x ∷ []
popped_last {A} taken x before after all is = all ∙ ap (λ (t : Option A). after ++ option_to_list t) is

pub all_but_last : {A : Type 0} (P : ℕ → A → Type 0) (xs ys : List A) (x : A) → ys ≡ xs ++ x ∷ [] → EachFrom P 0 ys → EachFrom P 0 (xs ++ x ∷ [])
all_but_last {A} P xs ys x is each = subst (λ (l : List A). EachFrom P 0 l) is each

last_of : {A : Type 0} (P : ℕ → A → Type 0) (xs : List A) (x : A) → EachFrom P 0 (xs ++ x ∷ []) → P (length xs) x
last_of P xs x each =
    let same : 0 + length xs ≡ length xs = omega arith in
    subst (λ (k : ℕ). P k x) same (each (length xs) x (got_last xs x))

module _ {R C L D B : Type 0} {link : _} (gives : C → ℕ → Type 0) (terms : Terms C) (board home : TableId) (first : Option D) where
  pub one_work : (k : ℕ) (token : TokenModel D) (post : PostModel MailTold) (clock : C) (work : Child R C L (TokenStore R C D B) link) → IsNewToken home first k token → IsPostOf board (sessions_of terms.plan.limits) k post
      → ((moment : ℕ) → gives clock moment → gives terms.clock.value moment) → work.tools.clock ≡ clock → work.tools.seed ≡ terms.plan.seed → work.tools.conf ≡ terms.plan.conf → work.post ≡ post
      → work.store.token ≡ token → IsWorkOf gives terms board home first k work
  one_work k token post clock work unused is_post moments clock_is seed conf post_is token_is =
      record {
        post_is = subst (IsPostOf board (sessions_of terms.plan.limits) k) (sym post_is) is_post;
        home_is = ap (λ (t : TokenModel D). t.table) token_is ∙ unused.0.home_is;
        disk = ap (λ (t : TokenModel D). t.first) token_is ∙ unused.1;
        number = ap (λ (t : TokenModel D). t.number) token_is ∙ unused.0.number;
        own = ap (λ (t : TokenModel D). t.own) token_is ∙ unused.0.own;
        seed = seed;
        limit = ap (λ conf. conf.authentication_ms) conf;
        moments = λ moment given. moments moment (subst (λ (c : C). gives c moment) clock_is given);
      }

  pub filled_more : (rest : List (TokenModel D)) (token : TokenModel D) (posts : List (PostModel MailTold)) (post : PostModel MailTold) (clock : C) (work : Child R C L (TokenStore R C D B) link)
      (works : List (Child R C L (TokenStore R C D B) link)) → EachFrom (IsNewToken home first) 0 (rest ++ token ∷ []) → EachFrom (IsPostOf board (sessions_of terms.plan.limits)) 0 (posts ++ post ∷ [])
      → length posts ≡ length rest → ((moment : ℕ) → gives clock moment → gives terms.clock.value moment) → work.tools.clock ≡ clock → work.tools.seed ≡ terms.plan.seed
      → work.tools.conf ≡ terms.plan.conf → work.post ≡ post → work.store.token ≡ token → EachFrom (IsWorkOf gives terms board home first) (length (rest ++ token ∷ [])) works
      → EachFrom (IsWorkOf gives terms board home first) (length rest) (work ∷ works)
  filled_more rest token posts post clock work works tokens_are posts_are same moments clock_is seed conf post_is token_is each =
      one_before (IsWorkOf gives terms board home first) (length rest) work works
      (one_work (length rest) token post clock work (last_of (IsNewToken home first) rest token tokens_are)
      (subst (λ (k : ℕ). IsPostOf board (sessions_of terms.plan.limits) k post) same (last_of (IsPostOf board (sessions_of terms.plan.limits)) posts post posts_are)) moments clock_is seed conf post_is
      token_is) (subst (λ (n : ℕ). EachFrom (IsWorkOf gives terms board home first) n works) (length-append rest (token ∷ [])) each)
