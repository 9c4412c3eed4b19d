-- The body of a batch.
use Rattle.std.{proofs.{Common.{◌≡◌, ℕ, zero, suc, ◌+◌, ◌-◌, ◌*◌, ◌/◌, ◌^◌, ◌<◌, ◌≤◌, ◌⊎◌, List, [], ◌∷◌, length, refl, sym, ap, subst, ◌∙◌, arith, inl, inr, length-append, mul-le-mul_right}, lemmas.{Bool.cases_lt, Nat.{le-div, div_below, mod_below, div-add-mod'}, List.{Concat.flat_map-cons, Elements.{All-from_recursion, recursion_from_All}}}}, specs.{Prelude.fold, List.{flat_map, AllByRecursion}, Int.{w16, w32, to_be_bytes}}}
use Rattle.pm_rows.specs.{declared.commit.Change.{Change, TheVariants.{Put, Del}}, Batch.{IsChange, IsCommit}, Limits.{max_changes, max_commits}, Longest.{max_change_bytes, max_commit_bytes}}
use Rattle.pm_record.{specs.{Spelling.{change_bytes, commit_bytes, body_bytes}, Changes.{least, most, change_at}, Bodies.{count_ranges, changes_ranges, commits_ranges, change_left, commit_left, commit_at, body_ranges}, Reading.{number_at, may_be, IsWithin}}, proofs.{Readers.{Reading, Spelled}, Numbers.{MayBe, limited_reads, wide2, wide4}, Repeats.{MayAll, all_some, counted_reads}, Changes.{Fills, MayChange, change_reads, change_some}}}

-- ---- counts

-- so many items can take the bytes with what is after them
abbrev pub Takes : ℕ → ℕ → ℕ → ℕ → ℕ → ℕ → Type 0
Takes low high least most long n = (n * low + least ≡ long) ⊎ ((n * low + least + 4 ≤ long) × (long ≤ n * high + most))

at_most : (d u k : ℕ) → 0 < u → k ≤ d / u → k * u ≤ d
at_most d u k pos h = omega (arith, mul-le-mul_right u h, div-add-mod' d u)

at_least : (d u k : ℕ) → 0 < u → (d + (u - 1)) / u ≤ k → d ≤ k * u
at_least d u k pos h = omega (arith, mul-le-mul_right u h, div-add-mod' (d + (u - 1)) u, mod_below (d + (u - 1)) u pos)

from_least : (d u k : ℕ) → 0 < u → d ≤ k * u → (d + (u - 1)) / u ≤ k
from_least d u k pos h = let b = div_below (d + (u - 1)) u (k + 1) pos (omega (arith, h, pos)) in omega (arith, b)

module _ (low high least most top long : ℕ) (low_pos : 0 < low) (high_pos : 0 < high) where
  pub counts_to : (n : ℕ) → IsWithin (count_ranges low high least most top long) n → (1 ≤ n) × (n ≤ top) × Takes low high least most long n
  counts_to n is = elim is [
    | inl a ↦
        let b = at_most (long - (least + 4)) low n low_pos (omega (arith, a.1)) in
        let c = at_least (long - most) high n high_pos (omega (arith, a.0)) in
        let some : 1 ≤ n = omega (arith, a.0) in
        let d = mul-le-mul_right low some in
        (omega (arith, a.0), omega (arith, a.1), inr (omega (arith, b, d, low_pos), omega (arith, c)))
    | inr a ↦
        let b = at_most (long - least) low n low_pos (omega (arith, a.1)) in
        let c = at_least (long - least) low n low_pos (omega (arith, a.0)) in
        let some : 1 ≤ n = omega (arith, a.0) in
        let d = mul-le-mul_right low some in
        (some, omega (arith, a.1), inl (omega (arith, b, c, d, low_pos)))
  ]

  pub counts_from : (n : ℕ) → 1 ≤ n → n ≤ top → Takes low high least most long n → IsWithin (count_ranges low high least most top long) n
  counts_from n some few is = elim is [
    | inl a ↦
        let b = le-div n (long - least) low low_pos (omega (arith, a)) in
        let c = from_least (long - least) low n low_pos (omega (arith, a)) in
        inr (omega (arith, c, some), omega (arith, b, few))
    | inr a ↦
        let b = le-div n (long - (least + 4)) low low_pos (omega (arith, a.0)) in
        let c = from_least (long - most) high n high_pos (omega (arith, a.1)) in
        inl (omega (arith, c, some), omega (arith, b, few))
  ]

-- ---- changes

change_size : (x : Change) → IsChange x → (length (change_bytes x) ≡ 9) ⊎ ((13 ≤ length (change_bytes x)) × (length (change_bytes x) ≤ max_change_bytes))
change_size (Put key value) is = inr (omega arith, omega (arith, is.2))
change_size (Del key) is = inl (omega arith)

fills_more : (n c left size : ℕ) → (size ≡ 9) ⊎ ((13 ≤ size) × (size ≤ max_change_bytes)) → size ≤ left → Fills n c (left - size) → Fills (suc n) c left
fills_more n c left size is fits rest = elim is [
  | inl a ↦ elim rest [ inl b ↦ inl (omega (arith, a, b, fits)) | inr b ↦ inr (omega (arith, a, b, fits), omega (arith, a, b, fits)) ]
  | inr a ↦ elim rest [ inl b ↦ inr (omega (arith, a, b, fits), omega (arith, a, b, fits)) | inr b ↦ inr (omega (arith, a, b, fits), omega (arith, a, b, fits)) ]
]

abbrev pub flat_changes : List Change → List ℕ
flat_changes xs = flat_map change_bytes xs

long_cons : (x : Change) (xs : List Change) → length (flat_changes (x ∷ xs)) ≡ length (change_bytes x) + length (flat_changes xs)
long_cons x xs = ap length (flat_map-cons change_bytes x xs) ∙ length-append (change_bytes x) (flat_changes xs)

module _ (c : ℕ) where
  abbrev AllChanges : ℕ → ℕ → List Change → Type 0
  AllChanges n left xs = MayAll (λ n left. MayChange n c left) change_left (λ n left. Fills n c left) n left xs

  all_count : (n left : ℕ) (xs : List Change) → AllChanges n left xs → length xs ≡ n
  all_count zero left [] all = refl
  all_count zero left (x ∷ xs) all = absurd all
  all_count (suc n) left [] all = absurd all
  all_count (suc n) left (x ∷ xs) all = ap suc (all_count n (change_left left x) xs all.1)

  changes_to : (n left : ℕ) (xs : List Change) → AllChanges n left xs → AllByRecursion IsChange xs × (length (flat_changes xs) ≤ left) × Fills 0 c (left - length (flat_changes xs))
  changes_to zero left [] all = (tt, omega arith, subst (Fills 0 c) (let e : left ≡ left - 0 = omega arith in e) all)
  changes_to zero left (x ∷ xs) all = absurd all
  changes_to (suc n) left [] all = absurd all
  changes_to (suc n) left (x ∷ xs) all =
      let t = changes_to n (change_left left x) xs all.1 in
      let size = long_cons x xs in
      ((all.0.0, t.0), omega (arith, size, t.1, all.0.1), subst (Fills 0 c) (omega (arith, size, all.0.1)) t.2)

  can_all : (n left : ℕ) (xs : List Change) → AllChanges n left xs → Fills n c left
  can_all zero left [] all = all
  can_all zero left (x ∷ xs) all = absurd all
  can_all (suc n) left [] all = absurd all
  can_all (suc n) left (x ∷ xs) all = fills_more n c left (length (change_bytes x)) (change_size x all.0.0) all.0.1 all.0.2

  changes_from : (left : ℕ) (xs : List Change) → AllByRecursion IsChange xs → length (flat_changes xs) ≤ left → Fills 0 c (left - length (flat_changes xs)) → AllChanges (length xs) left xs
  changes_from left [] all fits rest = subst (Fills 0 c) (let e : left - 0 ≡ left = omega arith in e) rest
  changes_from left (x ∷ xs) all fits rest =
      let size = long_cons x xs in
      let others = changes_from (change_left left x) xs all.1 (omega (arith, size, fits)) (subst (Fills 0 c) (omega (arith, size, fits)) rest) in
      ((all.0, omega (arith, size, fits), can_all (length xs) (change_left left x) xs others), others)

-- ---- a commit

pub long_commit : (xs : List Change) → length (commit_bytes xs) ≡ 2 + length (flat_changes xs)
long_commit xs = omega arith

module _ (c left : ℕ) where
  abbrev pub MayCommit : List Change → Type 0
  MayCommit commit = IsCommit commit × (length (commit_bytes commit) ≤ left) × Fills 0 c (left - length (commit_bytes commit))

  abbrev MayCount : ℕ → Type 0
  MayCount n = MayBe 2 (2 ^ 16) (to_be_bytes w16) wide2 (changes_ranges c (left - 2)) n

  count_may : (n : ℕ) → MayCount n → (1 ≤ n) × (n ≤ max_changes) × Fills n c (left - 2)
  count_may n may =
      let t = counts_to 9 max_change_bytes (11 * c) (max_commit_bytes * c) max_changes (left - 2) (omega arith) (omega arith) n may.0 in
      (t.0, t.1, elim t.2 [ inl a ↦ inl (omega (arith, a)) | inr a ↦ inr (omega (arith, a), omega (arith, a)) ])

  may_count : (n : ℕ) → 1 ≤ n → n ≤ max_changes → Fills n c (left - 2) → MayCount n
  may_count n some few is =
      let t : Takes 9 max_change_bytes (11 * c) (max_commit_bytes * c) (left - 2) n = elim is [ inl a ↦ inl (omega (arith, a)) | inr a ↦ inr (omega (arith, a), omega (arith, a)) ] in
      (counts_from 9 max_change_bytes (11 * c) (max_commit_bytes * c) max_changes (left - 2) (omega arith) (omega arith) n some few t, omega (arith, few))

  fills_commit : Fills 0 (suc c) left → (n : ℕ) × (1 ≤ n) × (n ≤ max_changes) × Fills n c (left - 2)
  fills_commit is = elim is [
    | inl a ↦ (1, omega arith, omega arith, inl (omega (arith, a)))
    | inr a ↦ elim (cases_lt (max_change_bytes + max_commit_bytes * c) (left - 2)) [
      | inr small ↦ (1, omega arith, omega arith, inr (omega (arith, a), omega (arith, small)))
      | inl large ↦
          let n = (left - 2 - max_commit_bytes * c + (max_change_bytes - 1)) / max_change_bytes in
          (n, omega (arith, large), omega (arith, a), inr (omega (arith, large), omega (arith, large)))
    ]
  ]

  module _ (room : 2 ≤ left) where
    commit_to : (xs : List Change) → MayCount (length xs) → AllChanges c (length xs) (left - 2) xs → MayCommit xs
    commit_to xs may all =
        let m = count_may (length xs) may in
        let t = changes_to c (length xs) (left - 2) xs all in
        let size = long_commit xs in
        (record { some = m.0; few = m.1; changes = All-from_recursion IsChange xs t.0 }, omega (arith, size, t.1, room), subst (Fills 0 c) (omega (arith, size, t.1, room)) t.2)

    commit_from : (xs : List Change) → MayCommit xs → MayCount (length xs) × AllChanges c (length xs) (left - 2) xs
    commit_from xs may =
        let size = long_commit xs in
        let all = changes_from c (left - 2) xs (recursion_from_All IsChange xs may.0.changes) (omega (arith, size, may.1)) (subst (Fills 0 c) (omega (arith, size, may.1)) may.2) in
        (may_count (length xs) may.0.some may.0.few (can_all c (length xs) (left - 2) xs all), all)

    pub commit_reads : Fills 0 (suc c) left → Reading (Spelled MayCommit commit_bytes) (commit_at c left)
    unfolding commit_at
    commit_reads is = counted_reads change_bytes (λ n left. MayChange n c left) change_left (λ n left. Fills n c left) (λ n. change_at n c)
        (λ n left can. change_reads n c left can) (λ n left can. change_some n c left can) (λ n left x may. may.2)
        MayCount (to_be_bytes w16) (number_at (may_be (changes_ranges c (left - 2))) 2 0)
        (limited_reads 2 (2 ^ 16) (to_be_bytes w16) wide2 (changes_ranges c (left - 2)) (let n = fills_commit is in (n.0, may_count n.0 n.1 n.2 n.3)))
        (left - 2) (λ n may. (count_may n may).2) MayCommit commit_to commit_from

    commit_some_with : Fills 0 (suc c) left → (commit : List Change) × MayCommit commit
    commit_some_with is =
        let n = fills_commit is in
        let xs = all_some change_bytes (λ n left. MayChange n c left) change_left (λ n left. Fills n c left) (λ n. change_at n c)
        (λ n left can. change_reads n c left can) (λ n left can. change_some n c left can) (λ n left x may. may.2) n.0 (left - 2) n.3 in
        let t = changes_to c n.0 (left - 2) xs.0 xs.1 in
        let long = all_count c n.0 (left - 2) xs.0 xs.1 in
        (xs.0, commit_to xs.0 (subst MayCount (sym long) (may_count n.0 n.1 n.2 n.3)) (subst (λ (k : ℕ). AllChanges c k (left - 2) xs.0) (sym long) xs.1))

pub commit_some : (c left : ℕ) → Fills 0 (suc c) left → (commit : List Change) × MayCommit c left commit
commit_some c left is = commit_some_with c left (omega (arith, is)) is

-- ---- a body

pub changes_long : (xs : List Change) → AllByRecursion IsChange xs → (length (flat_changes xs) ≡ 9 * length xs) ⊎ ((9 * length xs + 4 ≤ length (flat_changes xs)) × (length (flat_changes xs) ≤ max_change_bytes * length xs))
changes_long [] all = inl (omega arith)
changes_long (x ∷ xs) all =
    let size = long_cons x xs in
    elim (change_size x all.0) [
      | inl a ↦ elim (changes_long xs all.1) [ inl b ↦ inl (omega (arith, size, a, b)) | inr b ↦ inr (omega (arith, size, a, b), omega (arith, size, a, b)) ]
      | inr a ↦ elim (changes_long xs all.1) [ inl b ↦ inr (omega (arith, size, a, b), omega (arith, size, a, b)) | inr b ↦ inr (omega (arith, size, a, b), omega (arith, size, a, b)) ]
    ]

pub commit_size : (commit : List Change) → IsCommit commit → (length (commit_bytes commit) ≡ 11) ⊎ ((15 ≤ length (commit_bytes commit)) × (length (commit_bytes commit) ≤ max_commit_bytes))
commit_size commit is =
    let size = long_commit commit in
    let changes = recursion_from_All IsChange commit is.changes in
    elim (cases_lt (length commit) 2) [
      | inl one ↦ elim (changes_long commit changes) [ inl a ↦ inl (omega (arith, size, a, one, is.some)) | inr a ↦ inr (omega (arith, size, a, is.some), omega (arith, size, a, is.few)) ]
      | inr more ↦ elim (changes_long commit changes) [ inl a ↦ inr (omega (arith, size, a, more), omega (arith, size, a, is.few)) | inr a ↦ inr (omega (arith, size, a, is.some), omega (arith, size, a, is.few)) ]
    ]

commit_fills_more : (c left size : ℕ) → (size ≡ 11) ⊎ ((15 ≤ size) × (size ≤ max_commit_bytes)) → size ≤ left → Fills 0 c (left - size) → Fills 0 (suc c) left
commit_fills_more c left size is fits rest = elim is [
  | inl a ↦ elim rest [ inl b ↦ inl (omega (arith, a, b, fits)) | inr b ↦ inr (omega (arith, a, b, fits), omega (arith, a, b, fits)) ]
  | inr a ↦ elim rest [ inl b ↦ inr (omega (arith, a, b, fits), omega (arith, a, b, fits)) | inr b ↦ inr (omega (arith, a, b, fits), omega (arith, a, b, fits)) ]
]

abbrev pub flat_commits : List (List Change) → List ℕ
flat_commits xs = flat_map commit_bytes xs

pub long_commits : (x : List Change) (xs : List (List Change)) → length (flat_commits (x ∷ xs)) ≡ length (commit_bytes x) + length (flat_commits xs)
long_commits x xs = ap length (flat_map-cons commit_bytes x xs) ∙ length-append (commit_bytes x) (flat_commits xs)

abbrev pub AllCommits : ℕ → ℕ → List (List Change) → Type 0
AllCommits n left xs = MayAll MayCommit commit_left (Fills 0) n left xs

pub commits_count : (n left : ℕ) (xs : List (List Change)) → AllCommits n left xs → length xs ≡ n
commits_count zero left [] all = refl
commits_count zero left (x ∷ xs) all = absurd all
commits_count (suc n) left [] all = absurd all
commits_count (suc n) left (x ∷ xs) all = ap suc (commits_count n (commit_left left x) xs all.1)

-- some commits can take exactly what so many can
pub commits_some : (n left : ℕ) → Fills 0 n left → (xs : List (List Change)) × AllCommits n left xs
commits_some n left can = all_some commit_bytes MayCommit commit_left (Fills 0) commit_at (λ c left can. commit_reads c left (omega (arith, can)) can) commit_some (λ c left x may. may.2) n left can

pub commits_to : (n left : ℕ) (xs : List (List Change)) → AllCommits n left xs → AllByRecursion IsCommit xs × (length (flat_commits xs) ≡ left)
commits_to zero left [] all = (tt, elim all [ inl a ↦ omega (arith, a) | inr a ↦ omega (arith, a) ])
commits_to zero left (x ∷ xs) all = absurd all
commits_to (suc n) left [] all = absurd all
commits_to (suc n) left (x ∷ xs) all =
    let t = commits_to n (commit_left left x) xs all.1 in
    ((all.0.0, t.0), omega (arith, long_commits x xs, t.1, all.0.1))

pub commits_from : (left : ℕ) (xs : List (List Change)) → AllByRecursion IsCommit xs → length (flat_commits xs) ≡ left → AllCommits (length xs) left xs × Fills 0 (length xs) left
commits_from left [] all fits = let e : Fills 0 0 left = inl (omega (arith, fits)) in (e, e)
commits_from left (x ∷ xs) all fits =
    let size = long_commits x xs in
    let others = commits_from (commit_left left x) xs all.1 (omega (arith, size, fits)) in
    let long : length (commit_bytes x) ≤ left = omega (arith, size, fits) in
    (((all.0, long, others.1), others.0), commit_fills_more (length xs) left (length (commit_bytes x)) (commit_size x all.0) long others.1)

pub long_body : (xs : List (List Change)) → length (body_bytes xs) ≡ 4 + length (flat_commits xs)
long_body xs = omega arith

-- so many bytes can be the body of at most so many commits
abbrev pub CanBody : ℕ → ℕ → Type 0
CanBody top long = (long ≡ 15) ⊎ ((19 ≤ long) × (long ≤ 4 + max_commit_bytes * top))

module _ (top long : ℕ) where
  abbrev pub MayCommits : ℕ → Type 0
  MayCommits n = MayBe 4 (2 ^ 32) (to_be_bytes w32) wide4 (commits_ranges top (long - 4)) n

  pub commits_may : (n : ℕ) → MayCommits n → (1 ≤ n) × (n ≤ top) × Fills 0 n (long - 4)
  commits_may n may =
      let t = counts_to 11 max_commit_bytes 0 0 top (long - 4) (omega arith) (omega arith) n may.0 in
      (t.0, t.1, elim t.2 [ inl a ↦ inl (omega (arith, a)) | inr a ↦ inr (omega (arith, a), omega (arith, a)) ])

  pub may_commits : top ≤ max_commits → (n : ℕ) → 1 ≤ n → n ≤ top → Fills 0 n (long - 4) → MayCommits n
  may_commits top_few n some few is =
      let t : Takes 11 max_commit_bytes 0 0 (long - 4) n = elim is [ inl a ↦ inl (omega (arith, a)) | inr a ↦ inr (omega (arith, a), omega (arith, a)) ] in
      (counts_from 11 max_commit_bytes 0 0 top (long - 4) (omega arith) (omega arith) n some few t, omega (arith, few, top_few))

  pub body_count : 1 ≤ top → CanBody top long → (n : ℕ) × (1 ≤ n) × (n ≤ top) × Fills 0 n (long - 4)
  body_count top_some is = elim is [
    | inl a ↦ (1, omega arith, top_some, inl (omega (arith, a)))
    | inr a ↦
        let n = (long - 4 + (max_commit_bytes - 1)) / max_commit_bytes in (
          n,
          omega (arith, a),
          omega (arith, a),
          elim (cases_lt n 2) [
            | inl one ↦ inr (omega (arith, a, one), omega (arith, a))
            | inr more ↦ inr (omega (arith, a, more), omega (arith, a))
          ],
        )
  ]

-- ---- a batch

module _ (top : ℕ) where
  abbrev pub MayLong : ℕ → Type 0
  MayLong n = MayBe 4 (2 ^ 32) (to_be_bytes w32) wide4 (body_ranges top) n

  pub long_can : (n : ℕ) → MayLong n → CanBody top n
  long_can n may = elim may.0 [ inl a ↦ inl (omega (arith, a)) | inr a ↦ inr a ]

  pub can_long : top ≤ max_commits → (n : ℕ) → CanBody top n → MayLong n
  can_long top_few n is = elim is [
    | inl a ↦ (inl (omega (arith, a), omega (arith, a)), omega (arith, a))
    | inr a ↦ (inr a, omega (arith, a, top_few))
  ]

  pub batch_can : (batch : List (List Change)) → 1 ≤ length batch → length batch ≤ top → AllByRecursion IsCommit batch → CanBody top (length (body_bytes batch))
  batch_can batch some few commits =
      let size = long_body batch in
      elim (commits_from (length (flat_commits batch)) batch commits refl).1 [
        | inl a ↦ elim (cases_lt (length batch) 2) [ inl one ↦ inl (omega (arith, size, a, one, some)) | inr more ↦ inr (omega (arith, size, a, more), omega (arith, size, a, few)) ]
        | inr a ↦ inr (omega (arith, size, a, some), omega (arith, size, a, few))
      ]

-- ---- what is left

left_changes : (left : ℕ) (xs : List Change) → fold change_left left xs ≡ left - length (flat_changes xs)
left_changes left [] = omega arith
left_changes left (x ∷ xs) = let size = long_cons x xs in let rest = left_changes (change_left left x) xs in omega (arith, size, rest)

pub left_commit : (left : ℕ) (commit : List Change) → fold change_left (left - 2) commit ≡ commit_left left commit
left_commit left commit = omega (arith, left_changes (left - 2) commit, long_commit commit)
