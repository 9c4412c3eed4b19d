-- The works of a pool.
use Rattle.std.specs.{Prelude.{◌≡◌, ℕ, ◌+◌, List, [], ◌∷◌, ◌++◌, Option, Some, length, slice_get}, List.AllByRecursion}
use Rattle.atomic_table.specs.Seated.{TableId}
use Rattle.pm_worker.specs.{pm_board.{Models.PostModel, Rule.idle_post}, pm_query.declared.book.BookEntry.TheVariants.Opened, declared.{child.Child.Child, mail.MailTold.MailTold, tools.Tools.Tools}}
use Rattle.pm_store_shared.specs.{declared.{views.Joined.Joined, token_store.TokenStore.TokenStore}, Log.noted, Told.{SharedModel, TokenModel, shared_with}}
use Rattle.pm_serve_pool.specs.{declared.plan.Terms.Terms, Plan.sessions_of}

-- so it is of each, of which the first has this number
abbrev pub EachFrom : {A : Type 0} → (ℕ → A → Type 0) → ℕ → List A → Type 0
EachFrom P first xs = (i : ℕ) (x : _) → slice_get xs i ≡ Some x → P (first + i) x

-- The work of the slot k, before its start: an idle post of this board and of that slot, a token of this store with that number
-- that has noted nothing, and tools by these terms, with a clock that gives no other moments. The store got this disk.
pub record IsNewWork {R C F : Type 0} (gives : C → ℕ → Type 0) (terms : Terms C) (board home : TableId) (first : Option F) (k : ℕ) (tools : Tools R C) (post : PostModel MailTold) (token : TokenModel F) : Type 0 where
  pub post_is : post ≡ record { table = board; slot = k; knows = idle_post (sessions_of terms.plan.limits); home = post.home }
  pub home_is : token.table ≡ home
  pub disk : token.first ≡ first
  pub number : token.number ≡ k
  pub own : token.own ≡ []
  pub seed : tools.seed ≡ terms.plan.seed
  pub limit : tools.conf.authentication_ms ≡ terms.plan.conf.authentication_ms
  pub moments : (moment : ℕ) → gives tools.clock moment → gives terms.clock.value moment

-- such a work, as one that a thread does
abbrev pub IsWorkOf : {R C L D B : Type 0} {link : _} → (gives : C → ℕ → Type 0) → Terms C → (board home : TableId) → Option D → ℕ → Child R C L (TokenStore R C D B) link → Type 0
IsWorkOf gives terms board home first k work = IsNewWork gives terms board home first k work.tools work.post work.store.token

-- a token of this store with this number, that has noted nothing
pub record IsUnusedToken {F : Type 0} (home : TableId) (k : ℕ) (token : TokenModel F) : Type 0 where
  pub home_is : token.table ≡ home
  pub number : token.number ≡ k
  pub own : token.own ≡ []

-- so is that of a work
abbrev pub IsUnusedWork : {R C L D B : Type 0} {link : _} → (home : TableId) → ℕ → Child R C L (TokenStore R C D B) link → Type 0
IsUnusedWork home k work = IsUnusedToken home k work.store.token

-- what the joined tokens noted is nothing
abbrev pub AreUnused : List Joined → Type 0
AreUnused joined = AllByRecursion (λ his. his.own ≡ []) joined

-- the shared side has noted its first generation alone, and the tokens that are back have noted nothing
pub record IsIdleShared {F : Type 0} (s : SharedModel F) : Type 0 where
  pub own : s.own ≡ noted 0 (Opened 1) ∷ []
  pub unused : AreUnused s.joined

-- so many tokens more are back, which have noted nothing
pub record HasTakenBack {F : Type 0} (n : ℕ) (before after : SharedModel F) : Type 0 where
  pub more : List Joined
  pub all : length more ≡ n
  pub unused : AreUnused more
  pub joined : after ≡ shared_with before before.tokens (before.joined ++ more)
