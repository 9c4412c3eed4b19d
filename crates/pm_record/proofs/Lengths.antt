-- The spelling of changes, commits and batches is as long as the crate of the rows says.
use Rattle.std.{proofs.{Common.{◌≡◌, ℕ, ◌+◌, ◌≤◌, List, [], ◌∷◌, length, sum_by, refl, ap, arith, length-append}, lemmas.List.{Concat.flat_map-cons, Sums.sum_by-cons}}, specs.List.flat_map}
use Rattle.pm_rows.specs.{declared.commit.Change.{Change, TheVariants.{Put, Del}}, LogSize.{change_length, commit_length, body_length, need_of}, Longest.max_change_bytes, Batch.IsChange}
use Rattle.pm_record.specs.Spelling.{change_bytes, commit_bytes, body_bytes, batch_bytes}

-- pieces are as long together as their lengths say
flat_long : {A : Type 0} (spell : A → List ℕ) (size : A → ℕ) → ((x : A) → length (spell x) ≡ size x) → (xs : List A) → length (flat_map spell xs) ≡ sum_by size xs
flat_long spell size each [] = refl
flat_long spell size each (x ∷ xs) =
    omega (arith, ap length (flat_map-cons spell x xs), length-append (spell x) (flat_map spell xs), each x, flat_long spell size each xs, sum_by-cons size x xs)

pub change_long : (change : Change) → length (change_bytes change) ≡ change_length change
change_long (Put key value) = omega arith
change_long (Del key) = omega arith

pub commit_long : (commit : List Change) → length (commit_bytes commit) ≡ commit_length commit
commit_long commit = omega (arith, flat_long change_bytes change_length change_long commit)

pub body_long : (batch : List (List Change)) → length (body_bytes batch) ≡ body_length batch
body_long batch = omega (arith, flat_long commit_bytes commit_length commit_long batch)

pub need_long : (batch : List (List Change)) → 1 + length (batch_bytes batch) ≡ need_of batch
need_long batch = omega (arith, body_long batch)

pub change_short : (change : Change) → IsChange change → length (change_bytes change) ≤ max_change_bytes
change_short (Put key value) is = omega (arith, is.2)
change_short (Del key) is = omega arith
