-- A file stands for one content, whatever its gates and its free bytes are.
use Rattle.std.{proofs.{Common.{◌≡◌, ℕ, suc, List, [], ◌∷◌, ◌++◌, length, map, refl, sym, ap, ◌∙◌, arith, inr}, lemmas.List.map-append}, specs.Prelude.min}
use Rattle.pm_rows.specs.Fold.{RowMap, committed}
use Rattle.pm_record.{specs.{Spelling.batch_bytes, StandsFor.{AreBatches, Content, StandsFor}, File.{State, is_within}}, proofs.{Readers.{IsBytes, bytes_in_front}, Bases.base_spell, Steps.{Batch, appended}, Meaning.{Legal, batch_from}, Files.{base_may, content_legal, from_bytes, one_content, parts_of, small_reads, start, within_base}}}
use Rattle.pm_record.proofs.Batches as of

-- with 255 for each that is no byte
abbrev capped : List ℕ → List ℕ
capped bytes = map (λ b. min b 255) bytes

capped_fits : (bytes : List ℕ) → IsBytes (capped bytes)
capped_fits [] = tt
capped_fits (b ∷ bytes) = (omega arith, capped_fits bytes)

capped_same : (bytes : List ℕ) → IsBytes bytes → capped bytes ≡ bytes
capped_same [] fits = refl
capped_same (b ∷ bytes) fits = let low : min b 255 ≡ b = omega (arith, fits.0) in ap (λ (c : ℕ). c ∷ capped bytes) low ∙ ap (λ (t : List ℕ). b ∷ t) (capped_same bytes fits.1)

-- what is spelled is bytes
batch_fits : (state : State) (batch : Batch) (batches : List Batch) → Legal state.0 state.1 (batch ∷ batches) → IsBytes (batch_bytes batch)
batch_fits state batch batches legal =
    let some = legal.0.some in
    let few = legal.0.few in
    let word = batch_bytes batch in
    let fits = (of.batches_read RowMap committed is_within state).fits (batch ∷ []) (1 ∷ (word ++ 0 ∷ [])) (
      0,
      word,
      0 ∷ [],
      (inr (omega (arith, legal.1, some)), omega arith),
      batch_from _ state.1 batch (omega arith) some (omega (arith, legal.1, few)) legal.0.commits legal.2,
      refl,
      refl,
    ) in
    bytes_in_front word (0 ∷ []) fits.1

gates_capped : (state : State) (batches : List Batch) (front : List ℕ) → AreBatches front batches → Legal state.0 state.1 batches → AreBatches (capped front) batches
gates_capped state [] front are legal = ap capped are
gates_capped state (batch ∷ batches) front are legal = (
  min are.0 255,
  capped are.1,
  λ shut. are.2 (omega (arith, shut)),
  ap capped are.3 ∙ ap (λ (t : List ℕ). min are.0 255 ∷ t)
      (map-append (λ b. min b 255) (batch_bytes batch) are.1 ∙ ap (λ (t : List ℕ). t ++ capped are.1) (capped_same (batch_bytes batch) (batch_fits state batch batches legal))),
  gates_capped (appended state batch) batches are.1 are.4 legal.3,
)

stands_capped : (bytes : List ℕ) (content : Content) (end : ℕ) → StandsFor bytes content end → StandsFor (capped bytes) content end
stands_capped bytes content end s =
    let base = (parts_of content).0 in
    let word = base_spell base in
    let spelled = s.spelled in
    let fits = small_reads.fits base word ((base_may content s.limits, refl), within_base content s.limits) in record {
      front = capped s.front;
      free = capped s.free;
      parts = ap capped s.parts ∙ map-append (λ b. min b 255) s.front (0 ∷ s.free);
      place = s.place ∙ sym (long s.front);
      spelled = record {
        gate = min spelled.gate 255;
        behind = capped spelled.behind;
        is_open = λ shut. spelled.is_open (omega (arith, shut));
        parts = ap capped spelled.parts ∙ ap (λ (t : List ℕ). min spelled.gate 255 ∷ t)
            (map-append (λ b. min b 255) word spelled.behind ∙ ap (λ (t : List ℕ). t ++ capped spelled.behind) (capped_same word fits));
        batches = gates_capped (start base) content.batches spelled.behind spelled.batches (content_legal content s.limits);
      };
      limits = s.limits;
    }
  where
    long : (front : List ℕ) → length (capped front) ≡ length front
    long [] = refl
    long (b ∷ front) = ap suc (long front)

pub one_content_of : (bytes : List ℕ) (one other : Content) (end till : ℕ) → StandsFor bytes one end → StandsFor bytes other till → (one ≡ other) × (end ≡ till)
one_content_of bytes one other end till s t =
    one_content (capped bytes) (from_bytes (capped bytes) (capped_fits bytes)) one other end till (stands_capped bytes one end s) (stands_capped bytes other till t)
