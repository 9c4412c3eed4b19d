-- Fronts of log files: how they grow, and what stands behind a gate that is open or closed.
use Rattle.std.proofs.{Common.{◌≡◌, ◌≢◌, inl, inr, ℕ, ◌+◌, ◌-◌, List, [], ◌∷◌, ◌++◌, length, take, refl, sym, ◌∙◌, ap, subst, arith, length-append, append_assoc, append-nil}, lemmas.{Bool.cases_lt, List.{take-append-le, Elements.All-push, Sums.fold-append}}, Math.Seq.take-append-add}
use Rattle.pm_record.specs.{pm_rows.{declared.commit.Change.Change, Fold.{committed, folded}, Standing.{Standing, after}, Limits.IsWithinRowLimits, Batch.IsBatch}, Spelling.{base_bytes, batch_bytes}, StandsFor.{AreBatches, Content, IsContent, MayAppend, MayFollow, Spells, StandsFor, base_of, commits_of, standing_of, with_batch}}
use Rattle.pm_log.proofs.BatchLaws.{commits_push}

-- one batch more
pub AreBatches-push : (bytes : List ℕ) (batches : List (List (List Change))) (batch : List (List Change)) (gate : ℕ) → gate ≢ 0 → AreBatches bytes batches
    → AreBatches (bytes ++ (gate ∷ batch_bytes batch)) (batches ++ batch ∷ [])
AreBatches-push bytes [] batch gate is_open none =
    (gate, [], is_open, ap (λ (l : List ℕ). l ++ (gate ∷ batch_bytes batch)) none ∙ ap (λ (l : List ℕ). gate ∷ l) (sym (append-nil (batch_bytes batch))), refl)
AreBatches-push bytes (b ∷ batches) batch gate is_open h =
    let more = gate ∷ batch_bytes batch in
    (h.0, h.1 ++ more, h.2, ap (λ (l : List ℕ). l ++ more) h.3 ∙ ap (λ (l : List ℕ). h.0 ∷ l) (append_assoc (batch_bytes b) h.1 more), AreBatches-push h.1 batches batch gate is_open h.4)

pub Spells-push : (front : List ℕ) (content : Content) (batch : List (List Change)) (gate : ℕ) → gate ≢ 0 → Spells front content
    → Spells (front ++ (gate ∷ batch_bytes batch)) (with_batch content batch)
Spells-push front content batch gate is_open spelled =
    let more = gate ∷ batch_bytes batch in record {
      gate = spelled.gate;
      behind = spelled.behind ++ more;
      is_open = spelled.is_open;
      parts = ap (λ (l : List ℕ). l ++ more) spelled.parts ∙ ap (λ (l : List ℕ). spelled.gate ∷ l) (append_assoc (base_bytes content.epoch content.clean content.base_count content.base_rows) spelled.behind more);
      batches = AreBatches-push spelled.behind content.batches batch gate is_open spelled.batches;
    }

-- ---- limits and standings

MayFollow-append : (standing : Standing) (xs ys : List (List Change)) → MayFollow standing xs → MayFollow (after standing xs) ys → MayFollow standing (xs ++ ys)
MayFollow-append standing xs ys first second = record {
  limits = λ n le. elim (cases_lt (length xs) n) [
    | inl past ↦
        let there : take n (xs ++ ys) ≡ xs ++ take (n - length xs) ys =
        ap (λ (k : ℕ). take k (xs ++ ys)) (omega arith) ∙ take-append-add xs ys (n - length xs) in
        subst IsWithinRowLimits (sym (ap (λ (l : List (List Change)). folded standing.rows l) there ∙ fold-append committed standing.rows xs (take (n - length xs) ys)))
        (second.limits (n - length xs) (omega (arith, length-append xs ys)))
    | inr within ↦
        subst (λ (l : List (List Change)). IsWithinRowLimits (folded standing.rows l)) (sym (take-append-le n xs ys within)) (first.limits n within)
  ];
  number = omega (arith, second.number, length-append xs ys);
}

-- what may follow a front of commits may follow what stands after that
pub MayFollow-after : (standing : Standing) (xs ys : List (List Change)) → MayFollow standing (xs ++ ys) → MayFollow (after standing xs) ys
MayFollow-after standing xs ys may = record {
  limits = λ n le.
      subst IsWithinRowLimits
      (ap (λ (l : List (List Change)). folded standing.rows l) (take-append-add xs ys n) ∙ fold-append committed standing.rows xs (take n ys))
      (may.limits (length xs + n) (omega (arith, le, length-append xs ys)));
  number = omega (arith, may.number, length-append xs ys);
}

pub content-push : (content : Content) (batch : List (List Change)) → IsContent content → MayAppend (standing_of content) batch → IsContent (with_batch content batch)
content-push content batch limits may = record {
  epoch = limits.epoch;
  rows = limits.rows;
  batches = All-push IsBatch content.batches batch limits.batches may.batch_is;
  follows = subst (MayFollow (base_of content)) (sym (commits_push content batch)) (MayFollow-append (base_of content) (commits_of content) batch limits.follows may.follows);
}

-- ---- behind a gate
-- in front of a closed gate stands the content
pub stands_closed : (bytes front free : List ℕ) (content : Content) (end : ℕ) → bytes ≡ front ++ (0 ∷ free) → end ≡ length front → Spells front content → IsContent content
    → StandsFor bytes content end
stands_closed bytes front free content end parts place spelled limits = record { front = front; free = free; parts = parts; place = place; spelled = spelled; limits = limits }

-- behind an open one stands one batch more
pub stands_open : (bytes front free : List ℕ) (content : Content) (batch : List (List Change)) (gate end : ℕ) → gate ≢ 0
    → bytes ≡ front ++ (gate ∷ (batch_bytes batch ++ (0 ∷ free))) → end ≡ length front + (1 + length (batch_bytes batch)) → Spells front content → IsContent content
    → MayAppend (standing_of content) batch → StandsFor bytes (with_batch content batch) end
stands_open bytes front free content batch gate end is_open parts place spelled limits may = record {
  front = front ++ (gate ∷ batch_bytes batch);
  free = free;
  parts = parts ∙ sym (append_assoc front (gate ∷ batch_bytes batch) (0 ∷ free));
  place = omega (arith, place, length-append front (gate ∷ batch_bytes batch));
  spelled = Spells-push front content batch gate is_open spelled;
  limits = content-push content batch limits may;
}
