-- The fronts after which reading waits are those that can go on.
use Rattle.std.{proofs.{Common.{◌≡◌, ◌⊎◌, ℕ, zero, suc, ◌-◌, ◌<◌, ◌≤◌, List, [], ◌∷◌, ◌++◌, length, take, refl, sym, ap, subst, ◌∙◌, append_assoc, length-append, arith, inl, inr}, lemmas.List.Concat.flat_map-cons}, specs.{Prelude.All, Int.{w32, to_be_bytes}}}
use Rattle.pm_rows.specs.{declared.commit.Change.Change, Fold.{RowMap, committed, folded}, Limits.{IsWithinRowLimits, max_commits}, Standing.Standing, Batch.IsCommit}
use Rattle.pm_record.{specs.{Spelling.{commit_bytes, body_bytes, batch_bytes}, StandsFor.AreBatches, Damage.{IsFrontOf, first_bytes, BeginsNext}, Bodies.commit_left, File.{State, is_within, made, room_for, top_for}}, proofs.{Readers.{IsBytes, bytes_behind}, Bodies.{AllCommits, commits_some, long_commits, flat_commits, long_can, can_long, commits_may, may_commits, body_count}, Steps.{Batch, appended}, Meaning.{within_to, within_from, kept_last, body_some, filled, batch_to, batch_from, filling, Legal, above, suc_open, behind, behind_cons, behind_none}}}
use Rattle.pm_record.proofs.Batches as of

-- ---- the fronts after which reading waits

abbrev pub CommitsWait : ℕ → ℕ × RowMap → List ℕ → Type 0
CommitsWait = of.CommitsWait RowMap committed is_within

abbrev pub BatchWaits : ℕ → RowMap → List ℕ → Type 0
BatchWaits = of.BatchWaits RowMap committed is_within

abbrev pub BatchesWait : ℕ → State → List ℕ → Type 0
BatchesWait = of.BatchesWait RowMap committed is_within

-- ---- a front of two parts: of the first alone, or of the second after the first

cons_is : (a b : ℕ) (xs ys : List ℕ) → a ∷ xs ≡ b ∷ ys → (a ≡ b) × (xs ≡ ys)
cons_is a b xs ys e = (cc, cc)

pub split_either : (a b c : List ℕ) (d : ℕ) (e : List ℕ) → a ++ b ≡ c ++ d ∷ e
    → ((m : List ℕ) × (a ≡ c ++ d ∷ m)) ⊎ ((m : List ℕ) × (c ≡ a ++ m) × (b ≡ m ++ d ∷ e))
split_either [] b c d e same = inr (c, refl, same)
split_either (x ∷ a) b [] d e same = let p = cons_is x d (a ++ b) e same in inl (a, ap (λ (y : ℕ). y ∷ a) p.0)
split_either (x ∷ a) b (y ∷ c) d e same =
    let p = cons_is x y (a ++ b) (c ++ d ∷ e) same in
    elim (split_either a b c d e p.1) [
      | inl m ↦ inl (m.0, ap (λ (z : ℕ). z ∷ a) p.0 ∙ ap (λ (t : List ℕ). y ∷ t) m.1)
      | inr m ↦ inr (m.0, ap (λ (t : List ℕ). y ∷ t) m.1 ∙ ap (λ (z : ℕ). z ∷ (a ++ m.0)) (sym p.0), m.2)
    ]

-- ---- commits

-- the rows keep the limits after the commits that are whole
abbrev Whole : RowMap → Batch → List ℕ → Type 0
Whole rows xs bytes = (k : ℕ) → k ≤ length xs → length (flat_commits (take k xs)) ≤ length bytes → IsWithinRowLimits (folded rows (take k xs))

wait_to : (n : ℕ) (state : ℕ × RowMap) (bytes : List ℕ) → IsWithinRowLimits state.1 → CommitsWait n state bytes
    → (xs : Batch) × AllCommits n state.0 xs × IsFrontOf bytes (flat_commits xs) × Whole state.1 xs bytes
wait_to zero state bytes within w = absurd w
wait_to (suc n) state bytes within w = elim w [
  | inl b ↦
      let others = commits_some n (commit_left state.0 b.0) b.3.0.2 in (
        b.0 ∷ others.0,
        (b.3.0, others.1),
        (b.1, b.2 ++ flat_commits others.0, flat_map-cons commit_bytes b.0 others.0 ∙ ap (λ (t : List ℕ). t ++ flat_commits others.0) (sym b.3.1) ∙ append_assoc bytes (b.1 ∷ b.2) (flat_commits others.0)),
        wait_whole b.0 others.0 bytes state.1 within (omega (arith, ap length b.3.1, length-append bytes (b.1 ∷ b.2))),
      )
  | inr a ↦
      let r = wait_to n (made state a.0) a.2 (within_to (committed state.1 a.0) a.3.1) a.5 in
      let parts : bytes ≡ commit_bytes a.0 ++ a.2 = a.4 ∙ ap (λ (t : List ℕ). t ++ a.2) a.3.0.1 in (
        a.0 ∷ r.0,
        (a.3.0.0, r.1),
        (
          r.2.0,
          r.2.1,
          flat_map-cons commit_bytes a.0 r.0 ∙ ap (λ (t : List ℕ). commit_bytes a.0 ++ t) r.2.2 ∙ sym (append_assoc (commit_bytes a.0) a.2 (r.2.0 ∷ r.2.1)) ∙ ap (λ (t : List ℕ). t ++ r.2.0 ∷ r.2.1) (sym parts),
        ),
        whole_behind a.0 r.0 bytes a.2 state.1 within parts r.3,
      )
]
  where
    wait_whole : (x : List Change) (xs : Batch) (bytes : List ℕ) (rows : RowMap) → IsWithinRowLimits rows → length bytes < length (commit_bytes x) → Whole rows (x ∷ xs) bytes
    wait_whole x xs bytes rows within lt zero le fits = within
    wait_whole x xs bytes rows within lt (suc k) le fits = absurd (omega (arith, lt, fits, long_commits x (take k xs)))

    whole_behind : (x : List Change) (xs : Batch) (bytes behind : List ℕ) (rows : RowMap) → IsWithinRowLimits rows → bytes ≡ commit_bytes x ++ behind → Whole (committed rows x) xs behind → Whole rows (x ∷ xs) bytes
    whole_behind x xs bytes behind rows within parts whole zero le fits = within
    whole_behind x xs bytes behind rows within parts whole (suc k) le fits =
        whole k (omega (arith, le)) (omega (arith, fits, long_commits x (take k xs), ap length parts, length-append (commit_bytes x) behind))

wait_from : (n left : ℕ) (rows : RowMap) (xs : Batch) (bytes : List ℕ) → AllCommits n left xs → IsFrontOf bytes (flat_commits xs) → Whole rows xs bytes → CommitsWait n (left, rows) bytes
wait_from zero left rows [] bytes all front whole = absurd (omega (arith, ap length front.2, length-append bytes (front.0 ∷ front.1)))
wait_from zero left rows (x ∷ xs) bytes all front whole = absurd all
wait_from (suc n) left rows [] bytes all front whole = absurd all
wait_from (suc n) left rows (x ∷ xs) bytes all front whole =
    elim (split_either (commit_bytes x) (flat_commits xs) bytes front.0 front.1 (sym (flat_map-cons commit_bytes x xs) ∙ front.2)) [
      | inl m ↦ inl (x, front.0, m.0, (all.0, sym m.1))
      | inr m ↦
          let long = ap length m.1 ∙ length-append (commit_bytes x) m.0 in
          inr (
            x,
            commit_bytes x,
            m.0,
            ((all.0, refl), within_from (committed rows x) (whole (suc zero) (omega arith) (omega (arith, long, long_commits x [])))),
            m.1,
            wait_from n (commit_left left x) (committed rows x) xs m.0 all.1 (front.0, front.1, m.2) (λ k le fits. whole (suc k) (omega (arith, le)) (omega (arith, long, long_commits x (take k xs), fits))),
          )
    ]

-- ---- a batch

abbrev WholeFirst : RowMap → Batch → List ℕ → Type 0
WholeFirst rows batch bytes = (n : ℕ) → n ≤ length batch → first_bytes n batch ≤ length bytes → IsWithinRowLimits (folded rows (take n batch))

-- some batch of at most so many commits begins so
record Begun (top : ℕ) (rows : RowMap) (bytes : List ℕ) : Type 0 where
  batch : Batch
  some : 1 ≤ length batch
  few : length batch ≤ top
  commits : All IsCommit batch
  limits : WholeFirst rows batch bytes
  begins : IsFrontOf bytes (batch_bytes batch)

begun : (top long n : ℕ) (rows : RowMap) (batch : Batch) (bytes : List ℕ) → 15 ≤ long → 1 ≤ n → n ≤ top → AllCommits n (long - 4) batch
    → IsFrontOf bytes (to_be_bytes w32 long ++ (to_be_bytes w32 n ++ flat_commits batch)) → WholeFirst rows batch bytes → Begun top rows bytes
begun top long n rows batch bytes room some few all front limits =
    let f = filled n long batch (omega (arith, room)) all in record {
      batch = batch;
      some = omega (arith, f.0, some);
      few = omega (arith, f.0, few);
      commits = f.1;
      limits = limits;
      begins = (front.0, front.1, f.2 ∙ front.2);
    }

batch_wait_to : (top : ℕ) (rows : RowMap) (bytes : List ℕ) → 1 ≤ top → IsWithinRowLimits rows → BatchWaits top rows bytes → Begun top rows bytes
batch_wait_to top rows bytes top_some within w = elim w [
  | inl b ↦
      let can = long_can top b.0 b.3.0 in
      let n = body_count top b.0 top_some can in
      let xs = commits_some n.0 (b.0 - 4) n.3 in
      let body : List ℕ = to_be_bytes w32 n.0 ++ flat_commits xs.0 in
      begun top b.0 n.0 rows xs.0 bytes (body_some top b.0 can) n.1 n.2 xs.1
      (b.1, b.2 ++ body, ap (λ (t : List ℕ). t ++ body) (sym b.3.1) ∙ append_assoc bytes (b.1 ∷ b.2) body)
      (λ k le fits. absurd (omega (arith, fits, ap length b.3.1, length-append bytes (b.1 ∷ b.2))))
  | inr a ↦
      let room = body_some top a.0 (long_can top a.0 a.3.0) in
      let parts : bytes ≡ to_be_bytes w32 a.0 ++ a.2 = a.4 ∙ ap (λ (t : List ℕ). t ++ a.2) a.3.1 in
      elim a.5 [
        | inl b ↦
            let may = commits_may top a.0 b.0 b.3.0 in
            let xs = commits_some b.0 (a.0 - 4) may.2 in
            begun top a.0 b.0 rows xs.0 bytes room may.0 may.1 xs.1 (
              b.1,
              b.2 ++ flat_commits xs.0,
              ap (λ (t : List ℕ). to_be_bytes w32 a.0 ++ t) (ap (λ (t : List ℕ). t ++ flat_commits xs.0) (sym b.3.1) ∙ append_assoc a.2 (b.1 ∷ b.2) (flat_commits xs.0))
                  ∙ sym (append_assoc (to_be_bytes w32 a.0) a.2 (b.1 ∷ (b.2 ++ flat_commits xs.0))) ∙ ap (λ (t : List ℕ). t ++ b.1 ∷ (b.2 ++ flat_commits xs.0)) (sym parts),
            )
            (λ k le fits. absurd (omega (arith, fits, ap length parts, length-append (to_be_bytes w32 a.0) a.2, ap length b.3.1, length-append a.2 (b.1 ∷ b.2))))
        | inr e ↦
            let may = commits_may top a.0 e.0 e.3.0 in
            let r = wait_to e.0 (a.0 - 4, rows) e.2 within e.5 in
            let behind : a.2 ≡ to_be_bytes w32 e.0 ++ e.2 = e.4 ∙ ap (λ (t : List ℕ). t ++ e.2) e.3.1 in
            let whole : bytes ≡ to_be_bytes w32 a.0 ++ (to_be_bytes w32 e.0 ++ e.2) = parts ∙ ap (λ (t : List ℕ). to_be_bytes w32 a.0 ++ t) behind in
            begun top a.0 e.0 rows r.0 bytes room may.0 may.1 r.1 (
              r.2.0,
              r.2.1,
              ap (λ (t : List ℕ). to_be_bytes w32 a.0 ++ (to_be_bytes w32 e.0 ++ t)) r.2.2 ∙ ap (λ (t : List ℕ). t ++ r.2.0 ∷ r.2.1) (sym whole),
            )
            (λ k le fits. r.3 k le (omega (arith, fits, ap length whole)))
      ]
]

batch_wait_from : (top : ℕ) (rows : RowMap) (batch : Batch) (bytes : List ℕ) → top ≤ max_commits → 1 ≤ length batch → length batch ≤ top → All IsCommit batch → WholeFirst rows batch bytes → IsFrontOf bytes (batch_bytes batch)
    → BatchWaits top rows bytes
batch_wait_from top rows batch bytes top_few some few commits limits front =
    let long = length (body_bytes batch) in
    let f = filling top batch some few commits in
    let may_long = can_long top top_few long f.0 in
    let may_count = may_commits top long top_few (length batch) some few f.2 in
    elim (split_either (to_be_bytes w32 long) (body_bytes batch) bytes front.0 front.1 front.2) [
      | inl m ↦ inl (long, front.0, m.0, (may_long, sym m.1))
      | inr m ↦
          inr (
            long,
            to_be_bytes w32 long,
            m.0,
            (may_long, refl),
            m.1,
            elim (split_either (to_be_bytes w32 (length batch)) (flat_commits batch) m.0 front.0 front.1 m.2) [
              | inl k ↦ inl (length batch, front.0, k.0, (may_count, sym k.1))
              | inr k ↦
                  inr (
                    length batch,
                    to_be_bytes w32 (length batch),
                    k.0,
                    (may_count, refl),
                    k.1,
                    wait_from (length batch) (long - 4) rows batch k.0 f.1 (front.0, front.1, k.2)
                        (λ j le fits. limits j le (omega (arith, fits, ap length m.1, length-append (to_be_bytes w32 long) m.0, ap length k.1, length-append (to_be_bytes w32 (length batch)) k.0))),
                  )
            ],
          )
    ]

-- ---- what comes after whole batches

abbrev at : ℕ → RowMap → Standing
at count rows = record { rows = rows; count = count }

pub record Goes (count : ℕ) (rows : RowMap) (bytes : List ℕ) : Type 0 where
  pub batches : List Batch
  pub front : List ℕ
  pub next : List ℕ
  pub parts : bytes ≡ front ++ next
  pub are : AreBatches front batches
  pub legal : Legal count rows batches
  pub begins : BeginsNext (behind count rows batches) next

here : (count : ℕ) (rows : RowMap) (bytes : List ℕ) → BeginsNext (at count rows) bytes → Goes count rows bytes
here count rows bytes begins = record {
  batches = [];
  front = [];
  next = bytes;
  parts = refl;
  are = refl;
  legal = tt;
  begins = subst (λ (s : Standing). BeginsNext s bytes) (sym (behind_none count rows)) begins;
}

pub gated_wait_to : (most : ℕ) (state : State) (bytes : List ℕ) → IsWithinRowLimits state.1 → BatchesWait most state bytes → Goes state.0 state.1 bytes
gated_wait_to zero state bytes within w = here state.0 state.1 bytes (inl w)
gated_wait_to (suc most) state [] within w = here state.0 state.1 [] (inl refl)
gated_wait_to (suc most) state (zero ∷ bytes) within w = absurd w
gated_wait_to (suc most) state (suc gate ∷ bytes) within w =
    let room : 0 < room_for state.0 = elim w.0.0 [ inl a ↦ absurd (omega (arith, a)) | inr a ↦ a ] in
    elim w.1 [
      | inl a ↦
          let b = batch_wait_to (top_for state.0) state.1 bytes (omega (arith, room)) within a in
          let few = b.few in
          let some = b.some in
          here state.0 state.1 (suc gate ∷ bytes)
          (inr (
            suc gate,
            bytes,
            suc_open gate,
            refl,
            record {
              batch = b.batch;
              batch_is = record { some = b.some; few = omega (arith, few); commits = b.commits };
              number = omega (arith, few, some);
              limits = b.limits;
              begins = b.begins;
            },
          ))
      | inr a ↦
          let t = batch_to (top_for state.0) state.1 a.0 a.1 a.3 in
          let r = gated_wait_to most (appended state a.0) a.2 (kept_last a.0 state.1 within t.3) a.5 in record {
            batches = a.0 ∷ r.batches;
            front = suc gate ∷ (batch_bytes a.0 ++ r.front);
            next = r.next;
            parts = ap (λ (t : List ℕ). suc gate ∷ t) (a.4 ∙ ap (λ (t : List ℕ). t ++ a.2) t.4 ∙ ap (λ (t : List ℕ). batch_bytes a.0 ++ t) r.parts ∙ sym (append_assoc (batch_bytes a.0) r.front r.next));
            are = (suc gate, r.front, suc_open gate, refl, r.are);
            legal = (record { some = t.0; few = omega (arith, t.1); commits = t.2 }, omega (arith, t.0, t.1), t.3, r.legal);
            begins = subst (λ (s : Standing). BeginsNext s r.next) (behind_cons state.0 state.1 a.0 r.batches) r.begins;
          }
    ]

next_wait_from : (most : ℕ) (state : State) (bytes : List ℕ) → room_for state.0 < most → IsBytes bytes → BeginsNext (at state.0 state.1) bytes → BatchesWait most state bytes
next_wait_from zero state bytes lt fits begins = absurd (omega (arith, lt))
next_wait_from (suc most) state bytes lt fits begins = elim begins [
  | inl none ↦ subst (BatchesWait (suc most) state) (sym none) tt
  | inr a ↦
      let gate = above a.0 a.2 in
      let parts : bytes ≡ suc gate.0 ∷ a.1 = a.3 ∙ ap (λ (g : ℕ). g ∷ a.1) gate.1 in
      let b = a.4 in
      let few = b.batch_is.few in
      let some = b.batch_is.some in
      let number = b.number in
      subst (BatchesWait (suc most) state) (sym parts) (
        (inr (omega (arith, number, some)), (subst IsBytes parts fits).0),
        inl (batch_wait_from (top_for state.0) state.1 b.batch a.1 (omega arith) some (omega (arith, few, number)) b.batch_is.commits b.limits b.begins),
      )
]

pub gated_wait_from : (most : ℕ) (state : State) (batches : List Batch) (front next : List ℕ) → room_for state.0 < most → IsBytes (front ++ next) → AreBatches front batches → Legal state.0 state.1 batches
    → BeginsNext (behind state.0 state.1 batches) next → BatchesWait most state (front ++ next)
gated_wait_from most state [] front next lt fits are legal begins =
    let same : front ++ next ≡ next = ap (λ (t : List ℕ). t ++ next) are in
    subst (BatchesWait most state) (sym same) (next_wait_from most state next lt (subst IsBytes same fits) (subst (λ (s : Standing). BeginsNext s next) (behind_none state.0 state.1) begins))
gated_wait_from zero state (batch ∷ batches) front next lt fits are legal begins = absurd (omega (arith, lt))
gated_wait_from (suc most) state (batch ∷ batches) front next lt fits are legal begins =
    let gate = above are.0 are.2 in
    let parts : front ++ next ≡ suc gate.0 ∷ (batch_bytes batch ++ (are.1 ++ next)) = ap (λ (t : List ℕ). t ++ next) (are.3 ∙ ap (λ (g : ℕ). g ∷ (batch_bytes batch ++ are.1)) gate.1) ∙ ap (λ (t : List ℕ). suc gate.0 ∷ t) (append_assoc (batch_bytes batch) are.1 next) in
    let bytes = subst IsBytes parts fits in
    let some = legal.0.some in
    let few = legal.0.few in
    subst (BatchesWait (suc most) state) (sym parts) (
      (inr (omega (arith, legal.1, some)), bytes.0),
      inr (
        batch,
        batch_bytes batch,
        are.1 ++ next,
        batch_from (top_for state.0) state.1 batch (omega arith) some (omega (arith, legal.1, few)) legal.0.commits legal.2,
        refl,
        gated_wait_from most (appended state batch) batches are.1 next (omega (arith, lt, some, legal.1)) (bytes_behind (batch_bytes batch) (are.1 ++ next) bytes.1) are.4 legal.3
            (subst (λ (s : Standing). BeginsNext s next) (sym (behind_cons state.0 state.1 batch batches)) begins),
      ),
    )
