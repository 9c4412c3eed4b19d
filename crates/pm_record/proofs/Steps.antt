-- What the steps of reading a file make of its rows, as lists of batches and commits.
use Rattle.std.{proofs.Common.{◌≡◌, ℕ, suc, ◌+◌, ◌-◌, List, [], ◌∷◌, Ok, Err, refl, sym, ap, ap₂, ◌∙◌}, specs.Prelude.fold}
use Rattle.pm_rows.specs.{declared.commit.Change.Change, Fold.{RowMap, committed}}
use Rattle.pm_record.{specs.{Reading.{Read, ◌>>=◌, number_at, may_be}, Repeated.{items_at, stepped}, Gated.through_gates, Bodies.{body_ranges, commits_ranges}, File.{State, is_within, made, commit_in, rows_behind, top_for, room_in, batch_step, batches_at}}, proofs.{Readers.ok, Loops.{behind_items, through_items, items_long}, Gates.through_gated}}
use Rattle.pm_record.proofs.Batches as of

abbrev pub Batch : Type 0
Batch = List (List Change)

abbrev pub appended : State → Batch → State
appended = of.appended RowMap committed is_within

abbrev pub batch_in : State → List ℕ → Read Batch
batch_in = of.batch_in RowMap committed is_within

abbrev pub batches_in : State → List ℕ → Read (List Batch)
batches_in = of.batches_in RowMap committed is_within

-- ---- the rows after commits

fold_rows : (commits : Batch) (state : ℕ × RowMap) → (fold made state commits).1 ≡ fold committed state.1 commits
fold_rows [] state = refl
fold_rows (commit ∷ commits) state = fold_rows commits (made state commit)

abbrev finished : ℕ → State → Read RowMap → Read State
finished n state r = r >>= λ rows. Ok ((state.0 + n, rows.0, state.2 + 1), rows.1)

abbrev rows_of : Read (ℕ × RowMap) → Read RowMap
rows_of r = r >>= λ s. Ok (s.0.1, s.1)

by_rows : (n left : ℕ) (state : State) (bytes : List ℕ) → finished n state (rows_behind n (left, state.1) bytes) ≡ stepped appended state (items_at commit_in made n (left, state.1) bytes)
by_rows n left state bytes =
    ap (λ (r : Read (ℕ × RowMap)). finished n state (rows_of r)) (through_items commit_in made n (left, state.1) bytes) ∙ last (items_at commit_in made n (left, state.1) bytes) refl
  where
    last : (r : Read Batch) → items_at commit_in made n (left, state.1) bytes ≡ r → finished n state (rows_of (behind_items made (left, state.1) r)) ≡ stepped appended state r
    last (Ok p) e =
        ap₂ (λ (k : ℕ) (rows : RowMap). ok {A = State × List ℕ} ((state.0 + k, rows, state.2 + 1), p.1)) (sym (items_long commit_in made n (left, state.1) bytes p.0 p.1 e)) (fold_rows p.0 (left, state.1))
    last (Err left) e = refl

batch_steps : (state : State) (bytes : List ℕ) → batch_step state bytes ≡ stepped appended state (batch_in state bytes)
batch_steps state bytes = by_long (number_at (may_be (body_ranges (top_for state.0))) 4 0 bytes)
  where
    by_count : (long : ℕ) (r : Read ℕ) → (r >>= λ n. finished n.0 state (rows_behind n.0 (long - 4, state.1) n.1)) ≡ stepped appended state (r >>= λ n. items_at commit_in made n.0 (long - 4, state.1) n.1)
    by_count long (Ok n) = by_rows n.0 (long - 4) state n.1
    by_count long (Err left) = refl

    by_long : (r : Read ℕ) → (r >>= λ long. number_at (may_be (commits_ranges (top_for state.0) (long.0 - 4))) 4 0 long.1 >>= λ n. finished n.0 state (rows_behind n.0 (long.0 - 4, state.1) n.1))
        ≡ stepped appended state (r >>= λ long. number_at (may_be (commits_ranges (top_for state.0) (long.0 - 4))) 4 0 long.1 >>= λ n. items_at commit_in made n.0 (long.0 - 4, state.1) n.1)
    by_long (Ok long) = by_count long.0 (number_at (may_be (commits_ranges (top_for state.0) (long.0 - 4))) 4 0 long.1)
    by_long (Err left) = refl

-- ---- all batches

pub batches_made : (state : State) (bytes : List ℕ) → batches_at state bytes ≡ behind_items appended state (batches_in state bytes)
batches_made state bytes =
    ap (λ (step : State → List ℕ → Read State). through_gates step room_in (suc (room_in state)) state bytes) (λ i s b. batch_steps s b i)
    ∙ through_gated batch_in appended room_in (suc (room_in state)) state bytes
