-- What a stop leaves of a file after a write, it could leave before, but for the places written and what is past the end.
use Rattle.std.{proofs.{Common.{◌≡◌, ◌⊎◌, inl, inr, ℕ, ◌+◌, ◌-◌, ◌<◌, ◌≤◌, min, List, [], ◌∷◌, length, take, drop, get_or, Some, refl, sym, ◌∙◌, ap, arith, rules}, lemmas.{Bool.cases_lt, List.{places, length-append, length-take, length-drop, Elements.All-push}, Option.slice_get-get_or}}, specs.Prelude.slice_get}
use Rattle.pm_disk.{specs.{Files.overwritten, Past.{State, MayLeave, after_write}, declared.mem_file.Span.Span}, proofs.AsRead.slice_get-overwritten_outside}

-- as `Torn`, of one file
pub record TornFile (at count : ℕ) (old new : List ℕ) : Type 0 where
  pub no_shorter : length old ≤ length new
  pub outside : (i : ℕ) → i < length old → (i < at) ⊎ (at + count ≤ i) → slice_get new i ≡ slice_get old i

-- the part of a file from a place on
abbrev part : ℕ → ℕ → List ℕ → List ℕ
part at count file = take count (drop at file)

length-part : (at count : ℕ) (file : List ℕ) → length (part at count file) ≡ min count (length file - at)
length-part at count file = simp (length-take, length-drop) refl

-- a longer file with a part of another in its place is as long
length-restored : (synced image : List ℕ) (at count : ℕ) → length synced ≤ length image
    → length (overwritten image at (part at count synced)) ≡ length image
length-restored synced image at count le = simp (length-append, length-take, length-drop) (omega arith)

get_or-restored_inside : (synced image : List ℕ) (at count i d : ℕ) → length synced ≤ length image → i < length synced → at ≤ i → i < at + count
    → get_or (overwritten image at (part at count synced)) i d ≡ get_or synced i d
get_or-restored_inside synced image at count i d le within from to = search (rules, places)

slice_get-restored_inside : (synced image : List ℕ) (at count i : ℕ) → length synced ≤ length image → i < length synced → at ≤ i → i < at + count
    → slice_get (overwritten image at (part at count synced)) i ≡ slice_get synced i
slice_get-restored_inside synced image at count i le within from to =
    let same = length-restored synced image at count le in
    let there : i < length (overwritten image at (part at count synced)) = omega arith in
    slice_get-get_or (overwritten image at (part at count synced)) i 0 there
    ∙ ap (λ (n : ℕ). Some n) (get_or-restored_inside synced image at count i 0 le within from to)
    ∙ sym (slice_get-get_or synced i 0 within)

slice_get-restored_outside : (synced image : List ℕ) (at count i : ℕ) → i < length image → (i < at) ⊎ (at + count ≤ i)
    → slice_get (overwritten image at (part at count synced)) i ≡ slice_get image i
slice_get-restored_outside synced image at count i within (inl before) =
    slice_get-overwritten_outside image at (part at count synced) i within (inl before)
slice_get-restored_outside synced image at count i within (inr behind) =
    let is = length-part at count synced in
    slice_get-overwritten_outside image at (part at count synced) i within (inr (omega arith))

range_cases : (at count i : ℕ) → ((i < at) ⊎ (at + count ≤ i)) ⊎ ((at ≤ i) × (i < at + count))
range_cases at count i = elim (cases_lt i at) [
  | inl before ↦ inl (inl before)
  | inr from ↦ elim (cases_lt i (at + count)) [ inl to ↦ inr (from, to) | inr behind ↦ inl (inr behind) ]
]

pub record TornFrom (state : State) (at count : ℕ) (image : List ℕ) : Type 0 where
  pub earlier : List ℕ
  pub left : MayLeave state earlier
  pub tears : TornFile at count earlier image

-- nothing was written since the sync
first_write : (read synced image : List ℕ) (at : ℕ) (bytes : List ℕ)
    → MayLeave (after_write (record { read = read; synced = synced; written = [] }) at bytes) image
    → TornFrom (record { read = read; synced = synced; written = [] }) at (length bytes) image
first_write read synced image at bytes leaves = record {
  earlier = synced;
  left = record { no_shorter = omega arith; outside = λ i within outside. refl; unwritten = λ none. refl };
  tears = record {
    no_shorter = leaves.no_shorter;
    outside = λ i within outside. leaves.outside i within (All-push (λ (s : Span). (i < s.at) ⊎ (s.at + s.count ≤ i)) [] (record { at = at; count = length bytes }) (λ k d lt. absurd (omega arith)) outside);
  };
}

later_write : (read synced image : List ℕ) (span : Span) (spans : List Span) (at : ℕ) (bytes : List ℕ)
    → MayLeave (after_write (record { read = read; synced = synced; written = span ∷ spans }) at bytes) image
    → TornFrom (record { read = read; synced = synced; written = span ∷ spans }) at (length bytes) image
later_write read synced image span spans at bytes leaves =
    let count = length bytes in
    let longer = leaves.no_shorter in
    let same = length-restored synced image at count longer in record {
      earlier = overwritten image at (part at count synced);
      left = record {
        no_shorter = omega arith;
        outside = λ i within outside. (
            let there : i < length image = omega arith in
            elim (range_cases at count i) [
              | inl beside ↦ slice_get-restored_outside synced image at count i there beside
                  ∙ leaves.outside i within (All-push (λ (s : Span). (i < s.at) ⊎ (s.at + s.count ≤ i)) (span ∷ spans) (record { at = at; count = count }) outside beside)
              | inr inside ↦ slice_get-restored_inside synced image at count i longer within inside.0 inside.1
            ]);
        unwritten = λ none. cc;
      };
      tears = record {
        no_shorter = omega arith;
        outside = λ i within outside. sym (slice_get-restored_outside synced image at count i (omega arith) outside);
      };
    }

-- any image after a write comes from an image before it
pub torn_from : (state : State) (at : ℕ) (bytes image : List ℕ) → MayLeave (after_write state at bytes) image → TornFrom state at (length bytes) image
torn_from state at bytes image leaves = from state.read state.synced state.written leaves
  where
    from : (read synced : List ℕ) (written : List Span) → MayLeave (after_write (record { read = read; synced = synced; written = written }) at bytes) image
        → TornFrom (record { read = read; synced = synced; written = written }) at (length bytes) image
    from read synced [] leaves = first_write read synced image at bytes leaves
    from read synced (span ∷ spans) leaves = later_write read synced image span spans at bytes leaves
