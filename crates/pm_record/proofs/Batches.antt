-- The batches of a file, made in the rows of a standing, which pass a test after each commit.
use Rattle.std.{proofs.Common.{◌≡◌, ℕ, zero, suc, ◌+◌, ◌-◌, ◌^◌, ◌<◌, ◌≤◌, Bool, true, List, [], ◌∷◌, length, refl, ap, arith, inl}, specs.{Prelude.fold, Int.{w32, to_be_bytes}}}
use Rattle.pm_rows.specs.{declared.commit.Change.Change, Limits.max_commits}
use Rattle.pm_record.{specs.{Reading.{Read, ◌>>=◌, number_at, may_be, checked}, Repeated.items_at, Spelling.commit_bytes, Bodies.{commit_left, commit_at, commits_ranges, body_ranges}, File.{room_for, top_for}}, proofs.{Gated.gated_at, Words.{Begins, Spelled}, Changes.Fills, Readers.{Reads, ThenWaits, ThenIs, then_reads}, Numbers.{limited_reads, wide4}, Bodies.{MayCommit, commit_reads, CanBody, MayCommits, MayLong, commits_may, may_commits, body_count, long_can, can_long, long_commit}, Checks.{checked_reads, ItemsWait, AreItems, items_wait}, Gates.{GatedWait, AreGated, gated_reads}}}

module _ (Rows : Type 0) (committed : Rows → List Change → Rows) (fits : Rows → Bool) where
  -- ---- the commits of a body: how many of its bytes are left, and the rows

  abbrev pub made : ℕ × Rows → List Change → ℕ × Rows
  made state commit = (commit_left state.0 commit, committed state.1 commit)

  abbrev pub commit_in : ℕ → ℕ × Rows → List ℕ → Read (List Change)
  commit_in c state bytes = checked (λ commit. fits (committed state.1 commit)) (commit_at c state.0 bytes)

  abbrev pub CommitWaits : ℕ → ℕ × Rows → List ℕ → Type 0
  CommitWaits c state = Begins (Spelled (MayCommit c state.0) commit_bytes)

  abbrev pub CommitIs : ℕ → ℕ × Rows → List Change → List ℕ → Type 0
  CommitIs c state commit word = Spelled (MayCommit c state.0) commit_bytes commit word × (fits (committed state.1 commit) ≡ true)

  commit_in_reads : (c : ℕ) (state : ℕ × Rows) → Fills 0 (suc c) state.0 → Reads (CommitWaits c state) (CommitIs c state) (commit_in c state)
  commit_in_reads c state can = checked_reads (Spelled (MayCommit c state.0) commit_bytes) (commit_at c state.0) (λ commit. fits (committed state.1 commit)) (commit_reads c state.0 (omega (arith, can)) can)
      (λ commit word is. omega (arith, ap length is.1, long_commit commit))

  abbrev pub CommitsWait : ℕ → ℕ × Rows → List ℕ → Type 0
  CommitsWait n state = ItemsWait CommitWaits CommitIs made n state

  abbrev pub AreCommits : ℕ → ℕ × Rows → List (List Change) → List ℕ → Type 0
  AreCommits n state = AreItems CommitIs made n state

  commits_read : (n : ℕ) (state : ℕ × Rows) → Fills 0 n state.0 → Reads (CommitsWait n state) (AreCommits n state) (items_at commit_in made n state)
  commits_read n state can = items_wait CommitWaits CommitIs made (λ n state. Fills 0 n state.0) commit_in commit_in_reads (λ n state x word is. is.0.0.2) n state can

  -- ---- a batch behind its gate

  abbrev pub Counts : ℕ → ℕ → ℕ → List ℕ → Type 0
  Counts top long = Spelled (MayCommits top long) (to_be_bytes w32)

  abbrev pub Longs : ℕ → ℕ → List ℕ → Type 0
  Longs top = Spelled (MayLong top) (to_be_bytes w32)

  abbrev pub BodyWaits : ℕ → Rows → ℕ → List ℕ → Type 0
  BodyWaits top rows long = ThenWaits (Begins (Counts top long)) (Counts top long) (λ n. CommitsWait n (long - 4, rows))

  abbrev pub BodyIs : ℕ → Rows → ℕ → List (List Change) → List ℕ → Type 0
  BodyIs top rows long = ThenIs (Counts top long) (λ n. AreCommits n (long - 4, rows))

  abbrev pub BatchWaits : ℕ → Rows → List ℕ → Type 0
  BatchWaits top rows = ThenWaits (Begins (Longs top)) (Longs top) (BodyWaits top rows)

  abbrev pub BatchIs : ℕ → Rows → List (List Change) → List ℕ → Type 0
  BatchIs top rows = ThenIs (Longs top) (BodyIs top rows)

  module _ (top : ℕ) (rows : Rows) (top_some : 1 ≤ top) (top_few : top ≤ max_commits) where
    abbrev body_in : ℕ → List ℕ → Read (List (List Change))
    body_in long bytes = number_at (may_be (commits_ranges top (long - 4))) 4 0 bytes >>= λ n. items_at commit_in made n.0 (long - 4, rows) n.1

    body_in_reads : (long : ℕ) → CanBody top long → Reads (BodyWaits top rows long) (BodyIs top rows long) (body_in long)
    body_in_reads long can = then_reads (Begins (Counts top long)) (Counts top long) (number_at (may_be (commits_ranges top (long - 4))) 4 0)
        (λ n. CommitsWait n (long - 4, rows)) (λ n. AreCommits n (long - 4, rows)) (λ n bytes. items_at commit_in made n (long - 4, rows) bytes)
        (limited_reads 4 (2 ^ 32) (to_be_bytes w32) wide4 (commits_ranges top (long - 4)) (let n = body_count top long top_some can in (n.0, may_commits top long top_few n.0 n.1 n.2 n.3)))
        (λ n word is. commits_read n (long - 4, rows) (commits_may top long n is.0).2)

    batch_reads : Reads (BatchWaits top rows) (BatchIs top rows) (λ bytes. number_at (may_be (body_ranges top)) 4 0 bytes >>= λ long. body_in long.0 long.1)
    batch_reads = then_reads (Begins (Longs top)) (Longs top) (number_at (may_be (body_ranges top)) 4 0) (BodyWaits top rows) (BodyIs top rows) body_in
        (limited_reads 4 (2 ^ 32) (to_be_bytes w32) wide4 (body_ranges top) (15, can_long top top_few 15 (inl refl)))
        (λ long word is. body_in_reads long (long_can top long is.0))

  -- a batch has a commit, and no more than it may
  count_is : (n : ℕ) (state : ℕ × Rows) (xs : List (List Change)) (word : List ℕ) → AreCommits n state xs word → length xs ≡ n
  count_is zero state xs word are = ap length are.0
  count_is (suc n) state [] word are = absurd are
  count_is (suc n) state (x ∷ xs) word are = ap suc (count_is n (made state x) xs are.1 are.4)

  pub batch_count : (top : ℕ) (rows : Rows) (batch : List (List Change)) (word : List ℕ) → BatchIs top rows batch word → (1 ≤ length batch) × (length batch ≤ top)
  batch_count top rows batch word is =
      let body = is.5 in
      let n = commits_may top is.0 body.0 body.3.0 in
      let long = count_is body.0 (is.0 - 4, rows) batch body.2 body.5 in
      (omega (arith, long, n.0), omega (arith, long, n.1))

  -- ---- all batches: the number of commits, the rows, and the number of batches

  abbrev pub State : Type 0
  State = ℕ × Rows × ℕ

  abbrev pub appended : State → List (List Change) → State
  appended state batch = (state.0 + length batch, fold committed state.1 batch, state.2 + 1)

  abbrev pub room : State → ℕ
  room state = room_for state.0

  abbrev pub NextWaits : State → List ℕ → Type 0
  NextWaits state = BatchWaits (top_for state.0) state.1

  abbrev pub NextIs : State → List (List Change) → List ℕ → Type 0
  NextIs state = BatchIs (top_for state.0) state.1

  abbrev pub batch_in : State → List ℕ → Read (List (List Change))
  batch_in state bytes =
      number_at (may_be (body_ranges (top_for state.0))) 4 0 bytes
      >>= λ long. number_at (may_be (commits_ranges (top_for state.0) (long.0 - 4))) 4 0 long.1 >>= λ n. items_at commit_in made n.0 (long.0 - 4, state.1) n.1

  next_reads : (state : State) → 0 < room state → Reads (NextWaits state) (NextIs state) (batch_in state)
  next_reads state some = batch_reads (top_for state.0) state.1 (omega (arith, some)) (omega arith)

  falls : (state : State) (batch : List (List Change)) (word : List ℕ) → NextIs state batch word → room (appended state batch) < room state
  falls state batch word is = omega (arith, batch_count (top_for state.0) state.1 batch word is)

  abbrev pub BatchesWait : ℕ → State → List ℕ → Type 0
  BatchesWait = GatedWait NextWaits NextIs appended room

  abbrev pub AreBatchesIn : ℕ → State → List (List (List Change)) → List ℕ → Type 0
  AreBatchesIn = AreGated NextWaits NextIs appended room

  abbrev pub batches_in : State → List ℕ → Read (List (List (List Change)))
  batches_in state bytes = gated_at batch_in appended room (suc (room state)) state bytes

  pub batches_read : (state : State) → Reads (BatchesWait (suc (room state)) state) (AreBatchesIn (suc (room state)) state) (batches_in state)
  batches_read state = gated_reads NextWaits NextIs appended room batch_in next_reads falls (suc (room state)) state (omega arith)
