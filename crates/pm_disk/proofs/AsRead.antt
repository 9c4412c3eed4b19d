-- A file as it reads is one of those that a stop may leave.
use Rattle.std.{proofs.{Common.{◌≡◌, ◌⊎◌, ℕ, ◌+◌, ◌<◌, ◌≤◌, Some, List, [], ◌∷◌, ◌++◌, length, get_or, refl, sym, subst, ◌∙◌, ap, arith, rules}, lemmas.{List.{places, Elements.All-pop}, Option.slice_get-get_or}}, specs.Prelude.{All, filter, fold, slice_get, nat_le}}
use Rattle.pm_disk.{specs.{Files.overwritten, Past.{State, IsKept, IsOutside, MayLeave, changed, empty, state_at}, declared.mem_file.{Change.{Change, TheVariants.{Written, Synced}}, Entry.Entry, Span.Span}}, proofs.DiskLaws.length-overwritten}

get_or-overwritten_outside : (old : List ℕ) (at : ℕ) (bytes : List ℕ) (i d : ℕ) → i < length old → (i < at) ⊎ (at + length bytes ≤ i) → get_or (overwritten old at bytes) i d ≡ get_or old i d
get_or-overwritten_outside old at bytes i d within outside = search (rules, places)

-- and moves nothing else
pub slice_get-overwritten_outside : (old : List ℕ) (at : ℕ) (bytes : List ℕ) (i : ℕ) → i < length old → (i < at) ⊎ (at + length bytes ≤ i) → slice_get (overwritten old at bytes) i ≡ slice_get old i
slice_get-overwritten_outside old at bytes i within outside =
    let longer = length-overwritten old at bytes in
    let there : i < length (overwritten old at bytes) = omega arith in
    slice_get-get_or (overwritten old at bytes) i 0 there
    ∙ ap (λ (n : ℕ). Some n) (get_or-overwritten_outside old at bytes i 0 within outside)
    ∙ sym (slice_get-get_or old i 0 within)

-- a place outside all spans is outside the last and outside the others
pub outside_parts : (spans : List Span) (span : Span) (i : ℕ) → IsOutside (spans ++ span ∷ []) i → IsOutside spans i × ((i < span.at) ⊎ (span.at + span.count ≤ i))
outside_parts spans span i outside = All-pop (λ (s : Span). (i < s.at) ⊎ (s.at + s.count ≤ i)) (spans ++ span ∷ []) spans (Some span) refl outside

never_empty : (spans : List Span) (span : Span) → spans ++ span ∷ [] ≡ [] → ⊥
never_empty [] span is = cc
never_empty (s ∷ spans) span is = cc

reads_after : (state : State) (change : Change) → MayLeave state state.read → MayLeave (changed state change) (changed state change).read
reads_after state (Written at bytes) leaves = record {
  no_shorter = let longer = length-overwritten state.read at bytes.items in let was = leaves.no_shorter in omega arith;
  outside = λ i within outside.
      let was = leaves.no_shorter in
      let there : i < length state.read = omega arith in
      let parts = outside_parts state.written (record { at = at; count = length bytes.items }) i outside in
      slice_get-overwritten_outside state.read at bytes.items i there parts.1
      ∙ leaves.outside i within parts.0;
  unwritten = λ none. absurd (never_empty state.written (record { at = at; count = length bytes.items }) none);
}
reads_after state Synced leaves = record { no_shorter = omega arith; outside = λ i within outside. refl; unwritten = λ none. refl }

reads_through : (entries : List Entry) (state : State) → MayLeave state state.read
    → MayLeave (fold (λ s entry. changed s entry.change) state entries) (fold (λ s entry. changed s entry.change) state entries).read
reads_through [] state leaves = leaves
reads_through (entry ∷ entries) state leaves = reads_through entries (changed state entry.change) (reads_after state entry.change leaves)

pub reads_as_left : (past : List Entry) (ticks : ℕ) → MayLeave (state_at past ticks) (state_at past ticks).read
unfolding state_at
reads_as_left past ticks =
    reads_through (filter (λ entry. nat_le entry.tick ticks) past) empty
    (record { no_shorter = omega arith; outside = λ i within outside. refl; unwritten = λ none. refl })

-- what the entries lead to, a stop may leave
pub kept : (past : List Entry) (bytes : List ℕ) (ticks : ℕ) → All (λ entry. entry.tick ≤ ticks) past → (state_at past ticks).read ≡ bytes → IsKept past bytes ticks
kept past bytes ticks earlier reads = record {
  earlier = earlier;
  reads = reads;
  left = subst (λ (l : List ℕ). MayLeave (state_at past ticks) l) reads (reads_as_left past ticks);
}
