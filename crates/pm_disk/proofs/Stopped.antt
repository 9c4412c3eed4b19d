-- A file with other bytes in what was written since the last sync is one that a stop may leave.
use Rattle.std.{proofs.{Common.{◌≡◌, ◌⊎◌, ℕ, ◌+◌, ◌<◌, ◌≤◌, Some, List, [], ◌∷◌, length, take, sym, ◌∙◌, ap, arith}, lemmas.{List.{get_or-take, length-take, take_all, FromFn.length-map-range_with_len, Elements.{All-head, All-tail}}, Option.slice_get-get_or}}, specs.Prelude.{◌==◌, ◌%◌, if◌then◌else◌, slice_get, slice_index}}
use Rattle.pm_disk.{specs.{Files.overwritten, Past.{IsOutside, MayLeave, State, state_at}, Stop.{filled, spoiled, stopped}, declared.mem_file.{Entry.Entry, Span.Span}}, proofs.{AsRead.{slice_get-overwritten_outside, reads_as_left}, DiskLaws.length-overwritten}}

length-filled : (fill : List ℕ) (count : ℕ) → length (filled fill count) ≡ count
length-filled fill count = length-map-range_with_len (λ k. if length fill == 0 then 0 else slice_index fill (k % length fill)) 0 count

-- the spans are of those that were written
spoiled_left : (state : State) (fill image : List ℕ) (spans : List Span)
    → ((i : ℕ) → IsOutside state.written i → IsOutside spans i) → (state.written ≡ [] → spans ≡ [])
    → MayLeave state image → MayLeave state (spoiled fill image spans)
spoiled_left state fill image [] outside unwritten leaves = leaves
spoiled_left state fill image (span ∷ spans) outside unwritten leaves =
    let new = filled fill span.count in
    let is = length-filled fill span.count in
    let longer = length-overwritten image span.at new in
    let was = leaves.no_shorter in
    spoiled_left state fill (overwritten image span.at new) spans
    (λ i free. All-tail (λ (s : Span). (i < s.at) ⊎ (s.at + s.count ≤ i)) span spans (outside i free))
    (λ none. cc (unwritten none))
    (record {
      no_shorter = omega arith;
      outside = λ i within free. (
          let beside : (i < span.at) ⊎ (span.at + span.count ≤ i) = All-head (λ (s : Span). (i < s.at) ⊎ (s.at + s.count ≤ i)) span spans (outside i free) in
          let there : (i < span.at) ⊎ (span.at + length new ≤ i) = rw is beside in
          slice_get-overwritten_outside image span.at new i (omega arith) there ∙ leaves.outside i within free);
      unwritten = λ none. cc (unwritten none);
    })

slice_get-take : (image : List ℕ) (most i : ℕ) → i < most → i < length image → slice_get (take most image) i ≡ slice_get image i
slice_get-take image most i lt within =
    let is = length-take most image in
    slice_get-get_or (take most image) i 0 (omega arith)
    ∙ ap (λ (n : ℕ). Some n) (get_or-take most image i 0 lt)
    ∙ sym (slice_get-get_or image i 0 within)

-- cut anywhere past what was synced
cut_left : (state : State) (image : List ℕ) (most : ℕ) → length state.synced ≤ most → MayLeave state image → MayLeave state (take most image)
cut_left state image most enough leaves = record {
  no_shorter = let was = leaves.no_shorter in let is = length-take most image in omega arith;
  outside = λ i within free. let was = leaves.no_shorter in slice_get-take image most i (omega arith) (omega arith) ∙ leaves.outside i within free;
  unwritten = λ none. let same = leaves.unwritten none in let longest : length image ≤ most = rw same enough in take_all most image longest ∙ same;
}

pub stopped_left : (past : List Entry) (tick : ℕ) (fill : List ℕ) (beyond : ℕ) → MayLeave (state_at past tick) (stopped fill beyond (state_at past tick))
stopped_left past tick fill beyond =
    let state = state_at past tick in
    cut_left state (spoiled fill state.read state.written) (length state.synced + beyond) (omega arith)
    (spoiled_left state fill state.read state.written (λ i free. free) (λ none. none) (reads_as_left past tick))
