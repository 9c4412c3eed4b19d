-- The laws of what was added.
use Rattle.std.{proofs.Common.{List, [], ◌++◌, Option, None, Some, refl, sym, ◌∙◌, ap, append_assoc, append-nil}, specs.Option.option_map}
use Rattle.pm_outside.specs.Added.{Added}

-- nothing
pub added_none : {E : Type 0} (told : Option (List E)) → Added [] told told
added_none None = refl
added_none {E} (Some all) = ap (λ (l : List E). Some l) (sym (append-nil all))

-- some, and then some more
pub added_both : {E : Type 0} (first second : List E) (before between now : Option (List E)) → Added first before between → Added second between now → Added (first ++ second) before now
added_both {E} first second None between now one two = two ∙ ap (option_map (λ (l : List E). l ++ second)) one
added_both {E} first second (Some all) between now one two =
    two ∙ ap (option_map (λ (l : List E). l ++ second)) one ∙ ap (λ (l : List E). Some l) (append_assoc all first second)
