-- Lists put together: what holds of each item, who is among them, and each once.
use Rattle.std.{proofs.Common.{◌≡◌, ◌≢◌, ℕ, List, [], ◌∷◌, ◌++◌, inl, inr, refl}, specs.List.AllByRecursion}
use Rattle.pm_query.specs.pm_facts.Lists.{each_both}
use Rattle.pm_supervisor_chain.specs.Chain.{InGeneration, IsAmong, IsPidOf, AttachOnce, AreDistinct, ArePids, GoneWereLost}

pub all_map : {X : Type 0} (P Q : X → Type 0) → ((x : X) → P x → Q x) → (xs : List X) → AllByRecursion P xs → AllByRecursion Q xs
all_map P Q f [] all = tt
all_map P Q f (x ∷ xs) all = (f x all.0, all_map P Q f xs all.1)

-- from two facts about each
pub all_zip : {X : Type 0} (P Q R : X → Type 0) → ((x : X) → P x → Q x → R x) → (xs : List X) → AllByRecursion P xs → AllByRecursion Q xs → AllByRecursion R xs
all_zip P Q R f [] first second = tt
all_zip P Q R f (x ∷ xs) first second = (f x first.0 second.0, all_zip P Q R f xs first.1 second.1)

pub among_left : (x : InGeneration) (ys zs : List InGeneration) → IsAmong x ys → IsAmong x (ys ++ zs)
among_left x [] zs is = absurd is
among_left x (y ∷ ys) zs is =
    elim is [
      | inl same ↦ inl same
      | inr later ↦ inr (among_left x ys zs later)
    ]

pub among_right : (x : InGeneration) (ys zs : List InGeneration) → IsAmong x zs → IsAmong x (ys ++ zs)
among_right x [] zs is = is
among_right x (y ∷ ys) zs is = inr (among_right x ys zs is)

-- what holds of each pid holds of one of them
pub of_pid : (P : ℕ → Type 0) (pid : ℕ) (ys : List ℕ) → AllByRecursion P ys → IsPidOf pid ys → (other : ℕ) × (pid ≡ other) × P other
of_pid P pid [] all is = absurd is
of_pid P pid (y ∷ ys) all is =
    elim is [
      | inl same ↦ (y, same, all.0)
      | inr later ↦ of_pid P pid ys all.1 later
    ]

-- ---- each once

pub attach_one_more :
    (user : InGeneration) (users : List InGeneration) → AttachOnce users → AllByRecursion (λ other. other.number ≢ user.number) users
    → AttachOnce (users ++ user ∷ [])
attach_one_more user [] once differ = (tt, tt)
attach_one_more user (first ∷ users) once differ =
    (each_both (λ (other : InGeneration). first.number ≢ other.number) users (user ∷ []) once.0 (differ.0, tt), attach_one_more user users once.1 differ.1)

pub distinct_one_more :
    (pid : ℕ) (pids : List ℕ) → AreDistinct pids → AllByRecursion (λ other. other ≢ pid) pids → AreDistinct (pids ++ pid ∷ [])
distinct_one_more pid [] distinct differ = (tt, tt)
distinct_one_more pid (first ∷ pids) distinct differ =
    (each_both (λ other. first ≢ other) pids (pid ∷ []) distinct.0 (differ.0, tt), distinct_one_more pid pids distinct.1 differ.1)

-- ---- the same pids

own_pids : (pids : List ℕ) → AllByRecursion (λ pid. IsPidOf pid pids) pids
own_pids [] = tt
own_pids (first ∷ pids) = (inl refl, all_map (λ pid. IsPidOf pid pids) (λ pid. IsPidOf pid (first ∷ pids)) (λ pid is. inr is) pids (own_pids pids))

pub same_pids : (pids : List ℕ) → AreDistinct pids → ArePids pids pids
same_pids pids distinct = record { once = distinct; gone_were_lost = own_pids pids; lost_are_gone = own_pids pids }

pub gone_were_lost : (gone rest : List (List ℕ)) → AllByRecursion AreDistinct (gone ++ rest) → GoneWereLost gone (gone ++ rest)
gone_were_lost [] rest distinct = tt
gone_were_lost (pids ∷ gone) rest distinct = (same_pids pids distinct.0, gone_were_lost gone rest distinct.1)
