-- Laws of a file whose gate is being written, and of the pair it stands in.
use Rattle.std.{proofs.{Common.{◌≡◌, ◌≢◌, ◌⊎◌, inl, inr, ℕ, suc, ◌+◌, ◌≤◌, ◌<◌, List, [], ◌∷◌, ◌++◌, length, drop, refl, sym, ◌∙◌, ap, subst, arith, append_assoc}, lemmas.Option.same_Some}, specs.Prelude.slice_get}
use Rattle.pm_disk.specs.{declared.disk.Which.{Which, TheVariants.{A, B}}, Files.{Files, file_of, other, overwritten, with_file}}
use Rattle.pm_rows.specs.{Fold.RowMap, Standing.Standing}
use Rattle.pm_record.specs.{Spelling.base_bytes, StandsFor.{Content, StandsFor}}

pub other-other : (file : Which) → other (other file) ≡ file
other-other A = refl
other-other B = refl

-- a list that has the places of another one begins with it
pub goes_on : (old new : List ℕ) → length old ≤ length new → ((i : ℕ) → i < length old → slice_get new i ≡ slice_get old i)
    → (more : List ℕ) × (new ≡ old ++ more)
goes_on [] new longer same = (new, refl)
goes_on (x ∷ old) [] longer same = absurd (omega arith)
goes_on (x ∷ old) (y ∷ new) longer same =
    let rest = goes_on old new (omega arith) (λ i lt. same (suc i) (omega arith)) in
    (rest.0, ap (λ (z : ℕ). z ∷ new) (same_Some y x (same 0 (omega arith))) ∙ ap (λ (l : List ℕ). x ∷ l) rest.1)

-- a list that has all places of another one but one
pub flipped : (front rest new : List ℕ) (x : ℕ) → length (front ++ x ∷ rest) ≤ length new
    → ((i : ℕ) → i < length (front ++ x ∷ rest) → (i < length front) ⊎ (length front + 1 ≤ i) → slice_get new i ≡ slice_get (front ++ x ∷ rest) i)
    → (gate : ℕ) × (more : List ℕ) × (new ≡ front ++ (gate ∷ (rest ++ more)))
flipped [] rest [] x longer same = absurd (omega arith)
flipped [] rest (y ∷ new) x longer same =
    let others = goes_on rest new (omega arith) (λ i lt. same (suc i) (omega arith) (inr (omega arith))) in
    (y, others.0, ap (λ (l : List ℕ). y ∷ l) others.1)
flipped (f ∷ front) rest [] x longer same = absurd (omega arith)
flipped (f ∷ front) rest (y ∷ new) x longer same =
    let others = flipped front rest new x (omega arith) (λ i lt where_is. same (suc i) (omega arith) (further i where_is)) in
    (others.0, others.1, ap (λ (z : ℕ). z ∷ new) (same_Some y f (same 0 (omega arith) (inl (omega arith)))) ∙ ap (λ (l : List ℕ). f ∷ l) others.2)
  where
    further : (i : ℕ) → (i < length front) ⊎ (length front + 1 ≤ i) → (suc i < length (f ∷ front)) ⊎ (length (f ∷ front) + 1 ≤ suc i)
    further i (inl lt) = inl (omega arith)
    further i (inr le) = inr (omega arith)

-- a write of the file's gate that was stopped
pub torn_first : (old new tail : List ℕ) (x : ℕ) → old ≡ x ∷ tail → length old ≤ length new
    → ((i : ℕ) → i < length old → (i < 0) ⊎ (0 + 1 ≤ i) → slice_get new i ≡ slice_get old i) → (gate : ℕ) × (more : List ℕ) × (new ≡ gate ∷ (tail ++ more))
torn_first old new tail x is longer same =
    flipped [] tail new x (subst (λ (l : List ℕ). length l ≤ length new) is longer)
    (λ i lt where_is. subst (λ (l : List ℕ). slice_get new i ≡ slice_get l i) is (same i (omega (arith, lt, ap length is)) where_is))

-- whatever open gate a file has
pub regated : (bytes : List ℕ) (content : Content) (end gate : ℕ) (more : List ℕ) (log : StandsFor bytes content end) → gate ≢ 0
    → StandsFor (gate ∷ (drop 1 bytes ++ more)) content end
regated bytes content end gate more log is_open =
    let s = log.spelled in
    let tail = base_bytes content.epoch content.clean content.base_count content.base_rows ++ s.behind in
    let rest : drop 1 bytes ≡ tail ++ (0 ∷ log.free) = ap (λ (l : List ℕ). drop 1 l) (log.parts ∙ ap (λ (l : List ℕ). l ++ (0 ∷ log.free)) s.parts) in record {
      front = gate ∷ tail;
      free = log.free ++ more;
      parts = ap (λ (l : List ℕ). gate ∷ l) (ap (λ (l : List ℕ). l ++ more) rest ∙ append_assoc tail (0 ∷ log.free) more);
      place = log.place ∙ ap length s.parts;
      spelled = record { gate = gate; behind = s.behind; is_open = is_open; parts = refl; batches = s.batches };
      limits = log.limits;
    }

-- the first byte and the others
pub first_of : (bytes : List ℕ) (content : Content) (end : ℕ) → StandsFor bytes content end → (gate : ℕ) × (bytes ≡ gate ∷ drop 1 bytes)
first_of bytes content end log =
    let is = log.parts ∙ ap (λ (l : List ℕ). l ++ (0 ∷ log.free)) log.spelled.parts in
    (log.spelled.gate, is ∙ ap (λ (l : List ℕ). log.spelled.gate ∷ l) (sym (ap (λ (l : List ℕ). drop 1 l) is)))

abbrev pub standing : RowMap → ℕ → Standing
standing rows count = record { rows = rows; count = count }

pub same_standing : (one other : RowMap) (n m : ℕ) → one ≡ other → n ≡ m → standing one n ≡ standing other m
same_standing one other n m rows count = ap (λ (r : RowMap). standing r n) rows ∙ ap (λ (k : ℕ). standing other k) count

-- the files with these bytes at a place of one of them
abbrev pub written_at : Which → ℕ → List ℕ → Files → Files
written_at file at bytes files = with_file files file (overwritten (file_of files file) at bytes)
