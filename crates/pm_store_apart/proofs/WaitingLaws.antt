-- What is staged, as lists: its bytes, its oldest batch, and its place in the history.
use Rattle.std.{proofs.{Common.{◌≡◌, ℕ, ◌+◌, ◌-◌, ◌*◌, ◌≤◌, List, [], ◌∷◌, ◌++◌, length, take, drop, All, Option, Some, None, refl, sym, ◌∙◌, ap, subst, arith, inl, inr}, Math.{Bridge.le_prop, Logic.∥∥₁_elim, Nat.ℕ_set, Seq.{take-add, length-take-le}}, lemmas.{Bool.cases_lt, List.{drop-append-le, drop-drop, drop_all, length-take, take-append-drop, take_min, Elements.All-take, Sums.{fold-append, sum_by-append, sum_by-cons, sum_by-take-drop}}}}, specs.Prelude.IfSome}
use Rattle.pm_query.specs.{pm_disk.Files.Files, pm_rows.{declared.commit.Change.Change, Batch.{IsBatch, IsCommit}, Fold.{RowMap, committed, folded}, Limits.max_commits, Standing.after}, History.{History, number}}
use Rattle.pm_record.proofs.GateLaws.{same_standing}
use Rattle.pm_query.specs.pm_rows.LogSize as log
use Rattle.pm_stage.specs.Stage.{Waiting}
use Rattle.pm_store_apart.specs.{declared.{commits.Commits.Commits, live.Live.Live}, Rests.Rests, Waits.{IsBehind, Waits, needs_alone}}
use Rattle.pm_store_apart.specs.declared.commits.Commits.TheVariants as ways

-- ---- how much it needs

need-batch : (first : List Change) (rest : List (List Change)) → log.need_of (first ∷ rest) ≤ needs_alone (first ∷ rest)
need-batch first [] = omega (arith, sum_by-cons (λ (c : List Change). log.need_of (c ∷ [])) first [], sum_by-cons log.commit_length first [])
need-batch first (next ∷ rest) = omega (
  arith,
  need-batch next rest,
  sum_by-cons (λ (c : List Change). log.need_of (c ∷ [])) first (next ∷ rest),
  sum_by-cons log.commit_length first (next ∷ rest),
  sum_by-cons log.commit_length first [],
)

-- a batch needs no more than its commits alone
pub need_some : (batch : List (List Change)) → 1 ≤ length batch → log.need_of batch ≤ needs_alone batch
need_some [] some = omega (arith, some)
need_some (first ∷ rest) some = need-batch first rest

pub needs_parts : (commits : List (List Change)) (k : ℕ) → needs_alone (take k commits) + needs_alone (drop k commits) ≡ needs_alone commits
needs_parts commits k = sum_by-take-drop (λ (c : List Change). log.need_of (c ∷ [])) commits k

-- its commits alone need 9 bytes more for each but one
pub alone_is : (batch : List (List Change)) → needs_alone batch + 9 ≡ log.need_of batch + 9 * length batch
alone_is [] = refl
alone_is (first ∷ rest) = omega (
  arith,
  alone_is rest,
  sum_by-cons (λ (c : List Change). log.need_of (c ∷ [])) first rest,
  sum_by-cons log.commit_length first rest,
  sum_by-cons log.commit_length first [],
)

pub needs_added : (commits : List (List Change)) (commit : List Change) → needs_alone (commits ++ commit ∷ []) ≡ needs_alone commits + log.need_of (commit ∷ [])
needs_added commits commit =
    omega (arith, sum_by-append (λ (c : List Change). log.need_of (c ∷ [])) commits (commit ∷ []), sum_by-cons (λ (c : List Change). log.need_of (c ∷ [])) commit [])

pub commit_is : (commit : List Change) → IsBatch (commit ∷ []) → IsCommit commit
commit_is commit batch = batch.commits 0 commit (omega arith)

-- ---- the two ways

abbrev is_staged : Commits → Type 0
is_staged ways.AtOnce = ⊥
is_staged ways.Staged = Unit {0}

pub never_both : ways.Staged ≡ ways.AtOnce → ⊥
never_both is = subst is_staged is tt

-- ---- nothing is staged

pub waits_at : (o : Option Live) (live : Live) (stage : Waiting) → o ≡ Some live → ∥ IsBehind o stage ∥₁ → Waits live stage
waits_at o live stage read behind =
    let its : ∥ Waits live stage ∥₁ = subst (λ (l : Option Live). ∥ IsBehind l stage ∥₁) read behind in
    record {
      flushed = ∥∥₁_elim its (hlevel ℕ_set) (λ w. w.flushed);
      front = ∥∥₁_elim its (hlevel ℕ_set) (λ w. w.front);
      needs = ∥∥₁_elim its (hlevel ℕ_set) (λ w. w.needs);
      room = λ whole. ∥∥₁_elim its (hlevel le_prop) (λ w. w.room whole);
      no_longer = ∥∥₁_elim its (hlevel ℕ_set) (λ w. w.no_longer);
    }

-- so many more were taken than are flushed
pub fronts_of : (o : Option Live) (stage : Waiting) → ∥ IsBehind o stage ∥₁ → IfSome o (λ live. live.front ≡ live.log.count + length stage.commits)
fronts_of None stage behind = tt
fronts_of (Some live) stage behind = let its = waits_at (Some live) live stage refl behind in omega (arith, its.front, its.flushed)

-- and so many bytes they need
pub needs_of : (o : Option Live) (stage : Waiting) → ∥ IsBehind o stage ∥₁ → IfSome o (λ live. live.needs ≡ needs_alone stage.commits)
needs_of None stage behind = tt
needs_of (Some live) stage behind = (waits_at (Some live) live stage refl behind).needs

-- all that was taken is flushed, and no bytes are needed
pub waits_none : (o : Option Live) (live : Live) (stage : Waiting) → o ≡ Some live → stage.commits ≡ [] → ∥ IsBehind o stage ∥₁ → (live.front ≡ live.log.count) × (live.needs ≡ 0)
waits_none o live stage read none behind =
    let its = waits_at o live stage read behind in
    (omega (arith, its.front, its.flushed, ap length none), its.needs ∙ ap needs_alone none)

pub bare_rests : (seen : Option Files) (o : Option Live) (live : Live) (rows : RowMap) (staged : List (List Change)) (images : Files → Type 0) → o ≡ Some live → staged ≡ []
    → ∥ Rests o rows staged seen images ∥₁ → ∥ Rests (Some live) rows [] seen images ∥₁
bare_rests seen o live rows staged images read none rests =
    subst (λ (s : List (List Change)). ∥ Rests (Some live) rows s seen images ∥₁) none (subst (λ (l : Option Live). ∥ Rests l rows staged seen images ∥₁) read rests)

-- ---- the oldest batch

-- how many commits it has
abbrev pub oldest : List (List Change) → ℕ
oldest commits = length (take max_commits commits)

pub oldest_few : (commits : List (List Change)) → oldest commits ≤ length commits
oldest_few commits = omega (arith, length-take max_commits commits)

pub oldest_is : (commits : List (List Change)) → take (oldest commits) commits ≡ take max_commits commits
oldest_is commits = ap (λ (n : ℕ). take n commits) (length-take max_commits commits) ∙ take_min max_commits commits

pub oldest_batch : (commits : List (List Change)) → All IsCommit commits → 1 ≤ oldest commits → IsBatch (take (oldest commits) commits)
oldest_batch commits each some = subst IsBatch (sym (oldest_is commits))
    (record { some = some; few = omega (arith, length-take max_commits commits); commits = All-take IsCommit max_commits commits each })

-- what is left after it
pub oldest_left : (commits : List (List Change)) → drop (oldest commits) commits ≡ drop max_commits commits
oldest_left commits = elim (cases_lt (length commits) max_commits) [
  | inl short ↦ drop_all (oldest commits) commits (omega (arith, short, length-take max_commits commits)) ∙ sym (drop_all max_commits commits (omega (arith, short)))
  | inr long ↦ let all : oldest commits ≡ max_commits = omega (arith, long, length-take max_commits commits) in ap (λ (n : ℕ). drop n commits) all
]

-- ---- the rows with the first commits, and then the next

pub folded_more : (rows : RowMap) (k n : ℕ) (commits : List (List Change)) → folded (folded rows (take k commits)) (take n (drop k commits)) ≡ folded rows (take (k + n) commits)
folded_more rows k n commits = sym (ap (λ (l : List (List Change)). folded rows l) (take-add k n commits) ∙ fold-append committed rows (take k commits) (take n (drop k commits)))

pub folded_rest : (rows : RowMap) (k : ℕ) (commits : List (List Change)) → folded (folded rows (take k commits)) (drop k commits) ≡ folded rows commits
folded_rest rows k commits = sym (fold-append committed rows (take k commits) (drop k commits)) ∙ ap (λ (l : List (List Change)). folded rows l) (take-append-drop k commits)

-- ---- numbers of the history after the flushed one

module _ (h : History) (first flushed : ℕ) (staged : List (List Change)) (same : h.base.count ≡ first) (based : first ≤ flushed) (behind : drop (flushed - first) h.commits ≡ staged) where
  pub number_more : (j : ℕ) → j ≤ length staged → number h (flushed + j) ≡ after (number h flushed) (take j staged)
  number_more j le =
      let d = flushed - h.base.count in
      let at : flushed + j - h.base.count ≡ d + j = omega (arith, based, same) in
      let there : drop d h.commits ≡ staged = ap (λ (n : ℕ). drop (flushed - n) h.commits) same ∙ behind in
      let rows : folded h.base.rows (take (flushed + j - h.base.count) h.commits) ≡ folded (folded h.base.rows (take d h.commits)) (take j staged) =
      ap (λ (n : ℕ). folded h.base.rows (take n h.commits)) at ∙ sym (folded_more h.base.rows d j h.commits)
      ∙ ap (λ (l : List (List Change)). folded (folded h.base.rows (take d h.commits)) (take j l)) there in
      same_standing _ _ _ _ rows (omega (arith, length-take-le j staged le))

  pub behind_more : (k : ℕ) → drop (flushed + k - first) h.commits ≡ drop k staged
  behind_more k =
      let at : flushed + k - first ≡ (flushed - first) + k = omega (arith, based) in
      ap (λ (n : ℕ). drop n h.commits) at ∙ sym (drop-drop k (flushed - first) h.commits) ∙ ap (λ (l : List (List Change)). drop k l) behind

pub behind_added : (commits staged : List (List Change)) (commit : List Change) (n : ℕ) → n ≤ length commits → drop n commits ≡ staged → drop n (commits ++ commit ∷ []) ≡ staged ++ commit ∷ []
behind_added commits staged commit n le behind = drop-append-le n commits (commit ∷ []) le ∙ ap (λ (l : List (List Change)). l ++ commit ∷ []) behind
