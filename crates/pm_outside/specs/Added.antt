-- What was added to a list that may be told.
use Rattle.std.specs.Prelude.{◌≡◌, List, ◌++◌, Option, option_map}

-- these come after what stood, where it is told
abbrev pub Added : {E : Type 0} → List E → Option (List E) → Option (List E) → Type 0
Added more before now = now ≡ option_map (λ all. all ++ more) before
