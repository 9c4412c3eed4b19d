-- What contracts see of a table of two parts, and of a seat there.
use Rattle.std.specs.Prelude.{◌≡◌, ℕ, ◌+◌, ◌-◌, ◌<◌, ◌≤◌, List, [], ◌∷◌, ◌++◌}
use Rattle.atomic_table.specs.{Table.Me, Seated.TableId}
use Rattle.pm_halves.specs.{declared.lot.Lot.{Lot, TheVariants.{First, Second}}, Halves.carried_as}

-- A table without the m words and slots of its second part: so the counts are those of the first part
abbrev pub lowered : ℕ → TableId → TableId
lowered m t = record {
  words = t.words - m;
  slots = t.slots - m;
  views_name = t.views_name;
  atom = t.atom;
  block = t.block;
  offset = t.offset;
  slot_names = t.slot_names;
}

pub record Laid (K : Type 0) : Type 0 where
  pub table : TableId
  pub key : K

abbrev pub laid : {K : Type 0} → ℕ → TableId → K → Laid K
laid m t k = record { table = lowered m t; key = k }

-- which seat of which table it is, and what it knows and has of the first part, and of the second
pub record Sitting (X Y V W : Type 0) : Type 0 where
  pub table : TableId
  pub id : ℕ
  pub me : Me X V
  pub more : Me Y W

module _ {X Y : Type 0} where
  abbrev pub firsts_in : List (ℕ × Lot X Y) → List (ℕ × X)
  firsts_in [] = []
  firsts_in ((k, First x) ∷ cs) = (k, x) ∷ firsts_in cs
  firsts_in ((k, Second y) ∷ cs) = firsts_in cs

  abbrev pub seconds_in : ℕ → List (ℕ × Lot X Y) → List (ℕ × Y)
  seconds_in n [] = []
  seconds_in n ((k, First x) ∷ cs) = seconds_in n cs
  seconds_in n ((k, Second y) ∷ cs) = (k - n, y) ∷ seconds_in n cs

  -- the slots of the first part that a seat has, and then those of the second
  abbrev pub carried_both : ℕ → List (ℕ × X) → List (ℕ × Y) → List (ℕ × Lot X Y)
  carried_both n c d = carried_as First 0 c ++ carried_as Second n d

-- each slot is one of the first n
abbrev pub AllWithin : {X : Type 0} → ℕ → List (ℕ × X) → Type 0
AllWithin n [] = Unit {0}
AllWithin n (c ∷ cs) = (c.0 < n) × AllWithin n cs

-- the counts of a table are those of two parts
abbrev pub IsLaid : (ℕ → ℕ) → ℕ → TableId → Type 0
IsLaid count m t = (0 < m) × (m ≤ t.slots) × (t.words ≡ count (t.slots - m) + m)

module _ {X Y V W : Type 0} where
  abbrev pub sitting : ℕ → TableId → ℕ → Me (Lot X Y) (V × W) → Sitting X Y V W
  sitting m t id me = record {
    table = lowered m t;
    id = id;
    me = (me.0.0, firsts_in me.1);
    more = (me.0.1, seconds_in (t.slots - m) me.1);
  }

  -- a seat has its slots of the first part on top
  abbrev pub IsWhole : (ℕ → ℕ) → ℕ → TableId → Me (Lot X Y) (V × W) → Type 0
  IsWhole count m t me =
      IsLaid count m t
      × (me.1 ≡ carried_both (t.slots - m) (firsts_in me.1) (seconds_in (t.slots - m) me.1))
      × AllWithin (t.slots - m) (firsts_in me.1)

-- a table has at hand how many places its second part has
abbrev pub HasPlaces : (ℕ → ℕ) → ℕ → TableId → ℕ → Type 0
HasPlaces count m t places = IsLaid count m t × (places ≡ m)
