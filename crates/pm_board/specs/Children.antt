-- The children that the supervisor sees, slot by slot.
use Rattle.std.specs.Prelude.{◌≡◌, ℕ, ◌+◌, ◌<◌, ◌≤◌, Bool, true, List, [], ◌∷◌, Option, Some, None, length, map, slice_index_or, slice_set}
use Rattle.pm_exit.specs.declared.child.Kind.{Kind}
use Rattle.pm_board_words.specs.{declared.views.{Sight.{Sight, TheVariants.{Unused, Opened, Assigned, Exited, Collected, Gathered}}, SlotView.SlotView}, Words.bit}

module _ {D : Type 0} where
  -- pid and kind of the child that the supervisor sees there, if it sees one
  abbrev pub child_seen : Sight D → Option (ℕ × Kind)
  child_seen (Assigned o) = Some (o.pid, o.kind)
  child_seen (Exited o status active) = Some (o.pid, o.kind)
  child_seen (Collected o status active) = Some (o.pid, o.kind)
  child_seen Unused = None
  child_seen (Opened q) = None
  child_seen (Gathered past notes) = None

  abbrev pub child_in_slot : SlotView D → Option (ℕ × Kind)
  child_in_slot x = child_seen x.sight

  -- those of all slots
  abbrev pub children_of : List (SlotView D) → List (Option (ℕ × Kind))
  children_of slots = map child_in_slot slots

abbrev pub counted_by : (Kind → Bool) → Option (ℕ × Kind) → ℕ
counted_by test None = 0
counted_by test (Some c) = bit (test c.1)

-- how many of these children are of such a kind
abbrev pub count_of : (Kind → Bool) → List (Option (ℕ × Kind)) → ℕ
count_of test [] = 0
count_of test (c ∷ cs) = counted_by test c + count_of test cs

-- every child in these slots, so many from the first one on, is of such a kind
abbrev pub AreAll : (Kind → Bool) → ℕ → ℕ → List (Option (ℕ × Kind)) → Type 0
AreAll test first many cs =
    (k : ℕ) (c : ℕ × Kind) → first ≤ k → k < first + many → slice_index_or cs k None ≡ Some c → test c.1 ≡ true

-- one of these slots has no child
abbrev pub HasFree : ℕ → ℕ → List (Option (ℕ × Kind)) → Type 0
HasFree first many cs = (k : ℕ) × (first ≤ k) × (k < first + many) × (slice_index_or cs k None ≡ None)

-- Counts by kind go with what an assign and a release do, and where they are fewer than the slots that only such children have,
-- one of these slots is free
pub record CountsChildren : Type 0 where
  pub assigned :
      (test : Kind → Bool) (cs : List (Option (ℕ × Kind))) (k : ℕ) (c : ℕ × Kind) → k < length cs → slice_index_or cs k None ≡ None
      → count_of test (slice_set cs k (Some c)) ≡ count_of test cs + bit (test c.1)
  pub released :
      (test : Kind → Bool) (cs : List (Option (ℕ × Kind))) (k : ℕ) (c : ℕ × Kind) → slice_index_or cs k None ≡ Some c
      → count_of test (slice_set cs k None) + bit (test c.1) ≡ count_of test cs
  pub free :
      (test : Kind → Bool) (first many : ℕ) (cs : List (Option (ℕ × Kind))) → first + many ≤ length cs → AreAll test first many cs
      → count_of test cs < many → HasFree first many cs
