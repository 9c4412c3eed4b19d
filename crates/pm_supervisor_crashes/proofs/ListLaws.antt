-- What holds of each entry of a list, and of at most one.
use Rattle.std.{proofs.{Common.{◌≡◌, ◌⊎◌, inl, inr, List, [], ◌∷◌, ◌++◌, refl, sym, ◌∙◌, ap, subst, arith}, lemmas.List.Elements.{All-contains, All-from_recursion, Contains-append_cases, Contains-push_cases}}, specs.List.{AllByRecursion, Contains}}
use Rattle.pm_state.specs.{pm_supervisor.declared.Ending.Ending, declared.event.PmEvent.PmEvent}
use Rattle.pm_state.specs.declared.event.PmEvent.TheVariants as entry
use Rattle.pm_supervisor_crashes.specs.Ends.{AllButOne}

pub each_so : (P Q : PmEvent → Type 0) → ((e : PmEvent) → P e → Q e) → (es : List PmEvent) → AllByRecursion P es → AllByRecursion Q es
each_so P Q so [] all = tt
each_so P Q so (e ∷ es) all = (so e all.0, each_so P Q so es all.1)

pub each_both : (P : PmEvent → Type 0) (xs ys : List PmEvent) → AllByRecursion P xs → AllByRecursion P ys → AllByRecursion P (xs ++ ys)
each_both P [] ys one two = two
each_both P (x ∷ xs) ys one two = (one.0, each_both P xs ys one.1 two)

pub each_first : (P : PmEvent → Type 0) (xs ys : List PmEvent) → AllByRecursion P (xs ++ ys) → AllByRecursion P xs
each_first P [] ys all = tt
each_first P (x ∷ xs) ys all = (all.0, each_first P xs ys all.1)

pub each_second : (P : PmEvent → Type 0) (xs ys : List PmEvent) → AllByRecursion P (xs ++ ys) → AllByRecursion P ys
each_second P [] ys all = all
each_second P (x ∷ xs) ys all = each_second P xs ys all.1

-- ---- the last entry

-- where the server ends by it, it ends so
abbrev pub EndsBy : Ending → PmEvent → Type 0
EndsBy how (entry.Ended ending) = ending ≡ how
EndsBy how _ = Unit {0}

last_of : PmEvent → List PmEvent → PmEvent
last_of e [] = e
last_of e (x ∷ xs) = last_of x xs

last_append : (e x : PmEvent) (xs ys : List PmEvent) → last_of e (xs ++ x ∷ ys) ≡ last_of x ys
unfolding last_of
last_append e x [] ys = refl
last_append e x (y ∷ xs) ys = last_append y x xs ys

each_last : (P : PmEvent → Type 0) (e : PmEvent) (es : List PmEvent) → P e → AllByRecursion P es → P (last_of e es)
unfolding last_of
each_last P e [] one all = one
each_last P e (x ∷ es) one all = each_last P x es all.0 all.1

one_last : (e : PmEvent) → last_of e [] ≡ e
unfolding last_of
one_last e = refl

-- such an entry, and those behind it, are the last ones
pub last_end : (how ending : Ending) (before front behind : List PmEvent) (e : PmEvent) → EndsBy how e → AllByRecursion (EndsBy how) behind
    → before ++ e ∷ behind ≡ front ++ entry.Ended ending ∷ [] → ending ≡ how
last_end how ending before front behind e one all is =
    subst (EndsBy how)
    (sym (last_append e e before behind) ∙ (ap (last_of e) is ∙ (last_append e (entry.Ended ending) front [] ∙ one_last (entry.Ended ending))))
    (each_last (EndsBy how) e behind one all)

-- and among these is the last one
pub end_among : (how ending : Ending) (front journal : List PmEvent) → AllByRecursion (EndsBy how) journal → journal ≡ front ++ entry.Ended ending ∷ [] → ending ≡ how
end_among how ending front journal ends is =
    (each_second (EndsBy how) front (entry.Ended ending ∷ []) (subst (AllByRecursion (EndsBy how)) is ends)).0

-- ---- at most one

-- an entry is the first, or stands behind it
first_or_behind : (e : PmEvent) (es : List PmEvent) (x : PmEvent) → Contains (e ∷ es) x → (e ≡ x) ⊎ Contains es x
first_or_behind e es x there = elim (Contains-append_cases (e ∷ []) es x there) [
  | inl first ↦ elim (Contains-push_cases [] e x first) [
    | inl none ↦ absurd (omega (arith, none.1))
    | inr is ↦ inl is
  ]
  | inr behind ↦ inr behind
]

module _ (P : PmEvent → Type 0) where
  pub none_once : (es : List PmEvent) → AllByRecursion P es → AllButOne P es
  none_once [] none = tt
  none_once (e ∷ es) none = (inl none.0, none_once es none.1)

  -- behind these there is no other
  pub once_first : (xs ys : List PmEvent) → AllButOne P xs → AllByRecursion P ys → AllButOne P (xs ++ ys)
  once_first [] ys one none = none_once ys none
  once_first (x ∷ xs) ys one none = (more one.0, once_first xs ys one.1 none)
    where
      more : P x ⊎ AllByRecursion P xs → P x ⊎ AllByRecursion P (xs ++ ys)
      more (inl first) = inl first
      more (inr behind) = inr (each_both P xs ys behind none)

  -- before these there was none
  pub once_last : (xs ys : List PmEvent) → AllByRecursion P xs → AllButOne P ys → AllButOne P (xs ++ ys)
  once_last [] ys none one = one
  once_last (x ∷ xs) ys none one = (inl none.0, once_last xs ys none.1 one)

  -- so it is the same one where two are known
  pub one_end : (es : List PmEvent) (x y : PmEvent) → AllButOne P es → Contains es x → Contains es y → ¬ (P x) → ¬ (P y) → x ≡ y
  one_end [] x y once there also ends ends_too = absurd (none_in x there)
    where
      none_in : (z : PmEvent) → Contains [] z → ⊥
      none_in z its = omega (arith, its.1)
  one_end (e ∷ es) x y once there also ends ends_too =
      by (first_or_behind e es x there) (first_or_behind e es y also) (λ later also_later. one_end es x y once.1 later also_later ends ends_too)
    where
      only : (v w : PmEvent) → e ≡ v → ¬ (P v) → Contains es w → ¬ (P w) → ⊥
      only v w is first its later = elim once.0 [
        | inl none ↦ first (subst P is none)
        | inr none ↦ later (All-contains P es w (All-from_recursion P es none) its)
      ]

      by : (e ≡ x) ⊎ Contains es x → (e ≡ y) ⊎ Contains es y → (Contains es x → Contains es y → x ≡ y) → x ≡ y
      by (inl is) (inl as_well) rest = sym is ∙ as_well
      by (inl is) (inr later) rest = absurd (only x y is ends later ends_too)
      by (inr later) (inl is) rest = absurd (only y x is ends_too later ends)
      by (inr later) (inr also_later) rest = rest later also_later
