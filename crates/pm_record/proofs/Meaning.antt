-- The words that reading finds after a base are batches within the limits, each behind an open gate.
use Rattle.std.{proofs.{Common.{◌≡◌, ◌≢◌, ℕ, zero, suc, ◌+◌, ◌-◌, ◌^◌, ◌<◌, ◌≤◌, true, List, [], ◌∷◌, ◌++◌, length, take, leb, refl, sym, ap, subst, ◌∙◌, append_assoc, length-append, arith, inl, inr}, lemmas.{Bool.{leb-true, le-leb, and_parts}, List.{Concat.flat_map-cons, Elements.{All-from_recursion, recursion_from_All}}}}, specs.{Prelude.{All, fold}, Int.{w32, to_be_bytes}, List.{flat_map, AllByRecursion}}}
use Rattle.std.specs.FinMap as map
use Rattle.pm_rows.specs.{Fold.{RowMap, committed, folded}, Size.size_of, Limits.{IsWithinRowLimits, max_commits, max_rows, max_rows_bytes}, Standing.Standing, Batch.{IsCommit, IsBatch}}
use Rattle.pm_record.{specs.{Spelling.{commit_bytes, body_bytes, batch_bytes}, StandsFor.AreBatches, Bodies.commit_left, File.{State, is_within, made, room_for, top_for}}, proofs.{Readers.{IsBytes, bytes_behind}, Changes.Fills, Bodies.{AllCommits, CanBody, commits_count, commits_to, commits_from, flat_commits, long_body, batch_can, can_long, long_can, commits_may, may_commits}, Steps.{Batch, appended}}}
use Rattle.pm_record.proofs.Batches as of

-- ---- the words that reading finds

abbrev pub AreCommits : ℕ → ℕ × RowMap → Batch → List ℕ → Type 0
AreCommits = of.AreCommits RowMap committed is_within

abbrev pub IsBatchIn : ℕ → RowMap → Batch → List ℕ → Type 0
IsBatchIn = of.BatchIs RowMap committed is_within

abbrev pub AreBatchesIn : ℕ → State → List Batch → List ℕ → Type 0
AreBatchesIn = of.AreBatchesIn RowMap committed is_within

-- ---- limits on rows

pub within_to : (rows : RowMap) → is_within rows ≡ true → IsWithinRowLimits rows
within_to rows e = let p = and_parts (leb (map.len rows) max_rows) (leb (size_of rows) max_rows_bytes) e in record { few = leb-true (map.len rows) max_rows p.0; small = leb-true (size_of rows) max_rows_bytes p.1 }

pub within_from : (rows : RowMap) → IsWithinRowLimits rows → is_within rows ≡ true
within_from rows w = rw (le-leb (map.len rows) max_rows w.few, le-leb (size_of rows) max_rows_bytes w.small) refl

-- the rows keep the limits after each commit
abbrev pub Kept : RowMap → Batch → Type 0
Kept rows [] = Unit {0}
Kept rows (commit ∷ commits) = IsWithinRowLimits (committed rows commit) × Kept (committed rows commit) commits

pub fold_append : {A B : Type 0} (f : B → A → B) (b : B) (xs ys : List A) → fold f b (xs ++ ys) ≡ fold f (fold f b xs) ys
fold_append f b [] ys = refl
fold_append f b (x ∷ xs) ys = fold_append f (f b x) xs ys

pub kept_join : (xs ys : Batch) (rows : RowMap) → Kept rows xs → Kept (folded rows xs) ys → Kept rows (xs ++ ys)
kept_join [] ys rows first second = second
kept_join (x ∷ xs) ys rows first second = (first.0, kept_join xs ys (committed rows x) first.1 second)

pub kept_split : (xs ys : Batch) (rows : RowMap) → Kept rows (xs ++ ys) → Kept rows xs × Kept (folded rows xs) ys
kept_split [] ys rows kept = (tt, kept)
kept_split (x ∷ xs) ys rows kept = let p = kept_split xs ys (committed rows x) kept.1 in ((kept.0, p.0), p.1)

pub kept_each : (xs : Batch) (rows : RowMap) → IsWithinRowLimits rows → Kept rows xs → (n : ℕ) → n ≤ length xs → IsWithinRowLimits (folded rows (take n xs))
kept_each xs rows within kept zero le = within
kept_each [] rows within kept (suc n) le = absurd (omega (arith, le))
kept_each (x ∷ xs) rows within kept (suc n) le = kept_each xs (committed rows x) kept.0 kept.1 n (omega (arith, le))

pub each_kept : (xs : Batch) (rows : RowMap) → ((n : ℕ) → n ≤ length xs → IsWithinRowLimits (folded rows (take n xs))) → Kept rows xs
each_kept [] rows each = tt
each_kept (x ∷ xs) rows each = (each (suc zero) (omega arith), each_kept xs (committed rows x) (λ n le. each (suc n) (omega (arith, le))))

-- ... and after the last
pub kept_last : (xs : Batch) (rows : RowMap) → IsWithinRowLimits rows → Kept rows xs → IsWithinRowLimits (folded rows xs)
kept_last [] rows within kept = within
kept_last (x ∷ xs) rows within kept = kept_last xs (committed rows x) kept.0 kept.1

-- ---- commits

pub items_to : (n : ℕ) (state : ℕ × RowMap) (xs : Batch) (bytes : List ℕ) → Fills 0 n state.0 → AreCommits n state xs bytes → AllCommits n state.0 xs × (bytes ≡ flat_commits xs) × Kept state.1 xs
items_to zero state [] bytes can are = (can, are.1, tt)
items_to zero state (x ∷ xs) bytes can are = absurd (omega (arith, ap length are.0))
items_to (suc n) state [] bytes can are = absurd are
items_to (suc n) state (x ∷ xs) bytes can are =
    let others = items_to n (made state x) xs are.1 are.2.0.0.2 are.4 in (
      (are.2.0.0, others.0),
      are.3 ∙ ap (λ (t : List ℕ). t ++ are.1) are.2.0.1 ∙ ap (λ (t : List ℕ). commit_bytes x ++ t) others.1 ∙ sym (flat_map-cons commit_bytes x xs),
      (within_to (committed state.1 x) are.2.1, others.2),
    )

pub items_from : (n left : ℕ) (rows : RowMap) (xs : Batch) → AllCommits n left xs → Kept rows xs → AreCommits n (left, rows) xs (flat_commits xs)
items_from zero left rows [] all kept = (refl, refl)
items_from zero left rows (x ∷ xs) all kept = absurd all
items_from (suc n) left rows [] all kept = absurd all
items_from (suc n) left rows (x ∷ xs) all kept =
    (commit_bytes x, flat_commits xs, ((all.0, refl), within_from (committed rows x) kept.0), flat_map-cons commit_bytes x xs, items_from n (commit_left left x) (committed rows x) xs all.1 kept.1)

-- ---- a batch

pub body_some : (top long : ℕ) → CanBody top long → 15 ≤ long
body_some top long can = elim can [ inl a ↦ omega (arith, a) | inr a ↦ omega (arith, a) ]

-- commits that fill a body are a batch, and its bytes are these
pub filled : (n long : ℕ) (batch : Batch) → 4 ≤ long → AllCommits n (long - 4) batch → (length batch ≡ n) × All IsCommit batch × (batch_bytes batch ≡ to_be_bytes w32 long ++ (to_be_bytes w32 n ++ flat_commits batch))
filled n long batch some all =
    let count = commits_count n (long - 4) batch all in
    let commits = commits_to n (long - 4) batch all in
    let size : length (body_bytes batch) ≡ long = omega (arith, long_body batch, commits.1, some) in (
      count,
      All-from_recursion IsCommit batch commits.0,
      ap (λ (k : ℕ). to_be_bytes w32 k ++ body_bytes batch) size ∙ ap (λ (k : ℕ). to_be_bytes w32 long ++ (to_be_bytes w32 k ++ flat_commits batch)) count,
    )

pub batch_to : (top : ℕ) (rows : RowMap) (batch : Batch) (word : List ℕ) → IsBatchIn top rows batch word → (1 ≤ length batch) × (length batch ≤ top) × All IsCommit batch × Kept rows batch × (word ≡ batch_bytes batch)
batch_to top rows batch word is =
    let body = is.5 in
    let some = body_some top is.0 (long_can top is.0 is.3.0) in
    let may = commits_may top is.0 body.0 body.3.0 in
    let t = items_to body.0 (is.0 - 4, rows) batch body.2 may.2 body.5 in
    let f = filled body.0 is.0 batch (omega (arith, some)) t.0 in (
      omega (arith, f.0, may.0),
      omega (arith, f.0, may.1),
      f.1,
      t.2,
      is.4 ∙ ap (λ (t : List ℕ). t ++ is.2) is.3.1
          ∙ ap (λ (t : List ℕ). to_be_bytes w32 is.0 ++ t) (body.4 ∙ ap (λ (t : List ℕ). t ++ body.2) body.3.1 ∙ ap (λ (t : List ℕ). to_be_bytes w32 body.0 ++ t) t.1)
          ∙ sym f.2,
    )

-- a batch's commits fill its body
pub filling : (top : ℕ) (batch : Batch) → 1 ≤ length batch → length batch ≤ top → All IsCommit batch
    → CanBody top (length (body_bytes batch)) × AllCommits (length batch) (length (body_bytes batch) - 4) batch × Fills 0 (length batch) (length (body_bytes batch) - 4)
filling top batch some few commits =
    let all = recursion_from_All IsCommit batch commits in
    let may = commits_from (length (body_bytes batch) - 4) batch all (omega (arith, long_body batch)) in
    (batch_can top batch some few all, may.0, may.1)

pub batch_from : (top : ℕ) (rows : RowMap) (batch : Batch) → top ≤ max_commits → 1 ≤ length batch → length batch ≤ top → All IsCommit batch → Kept rows batch → IsBatchIn top rows batch (batch_bytes batch)
batch_from top rows batch top_few some few commits kept =
    let long = length (body_bytes batch) in
    let f = filling top batch some few commits in (
      long,
      to_be_bytes w32 long,
      body_bytes batch,
      (can_long top top_few long f.0, refl),
      refl,
      (length batch, to_be_bytes w32 (length batch), flat_commits batch, (may_commits top long top_few (length batch) some few f.2, refl), refl, items_from (length batch) (long - 4) rows batch f.1 kept),
    )

-- ---- all batches

-- batches that may come after so many commits and these rows
abbrev pub Legal : ℕ → RowMap → List Batch → Type 0
Legal count rows [] = Unit {0}
Legal count rows (batch ∷ batches) = IsBatch batch × (count + length batch < 2 ^ 64) × Kept rows batch × Legal (count + length batch) (folded rows batch) batches

pub above : (gate : ℕ) → gate ≢ 0 → (less : ℕ) × (gate ≡ suc less)
above zero ne = absurd (ne refl)
above (suc gate) ne = (gate, refl)

pub suc_open : (gate : ℕ) → suc gate ≢ 0
suc_open gate e = absurd (omega (arith, e))

pub gated_to : (most : ℕ) (state : State) (batches : List Batch) (bytes : List ℕ) → AreBatchesIn most state batches bytes
    → (front : List ℕ) × (bytes ≡ front ++ 0 ∷ []) × AreBatches front batches × Legal state.0 state.1 batches
gated_to zero state [] bytes are = ([], are, refl, tt)
gated_to (suc most) state [] bytes are = ([], are, refl, tt)
gated_to zero state (batch ∷ batches) bytes are = absurd are
gated_to (suc most) state (batch ∷ batches) bytes are =
    let t = batch_to (top_for state.0) state.1 batch are.1 are.4 in
    let o = gated_to most (appended state batch) batches are.2 are.6 in (
      suc are.0 ∷ (batch_bytes batch ++ o.0),
      are.5 ∙ ap (λ (t : List ℕ). suc are.0 ∷ (t ++ are.2)) t.4 ∙ ap (λ (t : List ℕ). suc are.0 ∷ (batch_bytes batch ++ t)) o.1 ∙ ap (λ (t : List ℕ). suc are.0 ∷ t) (sym (append_assoc (batch_bytes batch) o.0 (0 ∷ []))),
      (suc are.0, o.0, suc_open are.0, refl, o.2),
      (record { some = t.0; few = omega (arith, t.1); commits = t.2 }, omega (arith, t.0, t.1), t.3, o.3),
    )

pub gated_from : (most : ℕ) (state : State) (batches : List Batch) (front : List ℕ) → room_for state.0 ≤ most → IsBytes front → AreBatches front batches → Legal state.0 state.1 batches
    → AreBatchesIn most state batches (front ++ 0 ∷ [])
gated_from zero state [] front le fits are legal = ap (λ (t : List ℕ). t ++ 0 ∷ []) are
gated_from (suc most) state [] front le fits are legal = ap (λ (t : List ℕ). t ++ 0 ∷ []) are
gated_from zero state (batch ∷ batches) front le fits are legal = absurd (omega (arith, le, legal.1, legal.0.some))
gated_from (suc most) state (batch ∷ batches) front le fits are legal =
    let gate = above are.0 are.2 in
    let parts : front ≡ suc gate.0 ∷ (batch_bytes batch ++ are.1) = are.3 ∙ ap (λ (g : ℕ). g ∷ (batch_bytes batch ++ are.1)) gate.1 in
    let bytes = subst IsBytes parts fits in
    let some = legal.0.some in (
      gate.0,
      batch_bytes batch,
      are.1 ++ 0 ∷ [],
      (inr (omega (arith, legal.1, some)), bytes.0),
      batch_from (top_for state.0) state.1 batch (omega arith) some (let few = legal.0.few in omega (arith, legal.1, few)) legal.0.commits legal.2,
      ap (λ (t : List ℕ). t ++ 0 ∷ []) parts ∙ ap (λ (t : List ℕ). suc gate.0 ∷ t) (append_assoc (batch_bytes batch) are.1 (0 ∷ [])),
      gated_from most (appended state batch) batches are.1 (omega (arith, le, some)) (bytes_behind (batch_bytes batch) are.1 bytes.1) are.4 legal.3,
    )

-- ---- the commits of all batches

abbrev pub flat : List Batch → Batch
flat batches = flat_map (λ batch. batch) batches

pub flat_cons : (batch : Batch) (batches : List Batch) → flat (batch ∷ batches) ≡ batch ++ flat batches
flat_cons batch batches = flat_map-cons (λ (b : Batch). b) batch batches

pub legal_to : (batches : List Batch) (count : ℕ) (rows : RowMap) → count < 2 ^ 64 → Legal count rows batches → AllByRecursion IsBatch batches × Kept rows (flat batches) × (count + length (flat batches) < 2 ^ 64)
legal_to [] count rows small legal = (tt, tt, omega (arith, small))
legal_to (batch ∷ batches) count rows small legal =
    let t = legal_to batches (count + length batch) (folded rows batch) legal.1 legal.3 in
    let long = ap length (flat_cons batch batches) ∙ length-append batch (flat batches) in (
      (legal.0, t.0),
      subst (Kept rows) (sym (flat_cons batch batches)) (kept_join batch (flat batches) rows legal.2 t.1),
      omega (arith, long, t.2),
    )

pub legal_from : (batches : List Batch) (count : ℕ) (rows : RowMap) → AllByRecursion IsBatch batches → Kept rows (flat batches) → count + length (flat batches) < 2 ^ 64 → Legal count rows batches
legal_from [] count rows all kept small = tt
legal_from (batch ∷ batches) count rows all kept small =
    let long = ap length (flat_cons batch batches) ∙ length-append batch (flat batches) in
    let k = kept_split batch (flat batches) rows (subst (Kept rows) (flat_cons batch batches) kept) in
    (all.0, omega (arith, long, small), k.0, legal_from batches (count + length batch) (folded rows batch) all.1 k.1 (omega (arith, long, small)))

-- what comes after the batches
abbrev pub behind : ℕ → RowMap → List Batch → Standing
behind count rows batches = record { rows = folded rows (flat batches); count = count + length (flat batches) }

same_standing : (rows other : RowMap) (count more : ℕ) → rows ≡ other → count ≡ more → (let one : Standing = record { rows = rows; count = count } in one) ≡ record { rows = other; count = more }
same_standing rows other count more p q i = record { rows = p i; count = q i }

pub behind_cons : (count : ℕ) (rows : RowMap) (batch : Batch) (batches : List Batch) → behind (count + length batch) (folded rows batch) batches ≡ behind count rows (batch ∷ batches)
behind_cons count rows batch batches =
    let long = ap length (flat_cons batch batches) ∙ length-append batch (flat batches) in
    same_standing _ _ _ _ (sym (fold_append committed rows batch (flat batches)) ∙ ap (folded rows) (sym (flat_cons batch batches))) (omega (arith, long))

pub behind_none : (count : ℕ) (rows : RowMap) → behind count rows [] ≡ record { rows = rows; count = count }
behind_none count rows = same_standing _ _ _ _ refl (omega arith)

-- as reading counts them
pub counted : (batches : List Batch) (state : State) → fold appended state batches ≡ ((behind state.0 state.1 batches).count, (behind state.0 state.1 batches).rows, state.2 + length batches)
counted [] state = let e : state.0 ≡ state.0 + 0 = omega arith in let f : state.2 ≡ state.2 + 0 = omega arith in λ i. (e i, state.1, f i)
counted (batch ∷ batches) state =
    let one = counted batches (appended state batch) in
    let same = behind_cons state.0 state.1 batch batches in
    let more : state.2 + 1 + length batches ≡ state.2 + suc (length batches) = omega arith in
    one ∙ (λ i. ((same i).count, (same i).rows, more i))
