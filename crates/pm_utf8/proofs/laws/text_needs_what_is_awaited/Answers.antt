use Rattle.std.proofs.Common.{sym, ◌++◌, ◌∙◌}
use Rattle.pm_utf8.specs.{Utf8.boundary, Steps.{run_append, run_none}, States.{boundary_sound, run_sound, fill, needs}, Characters.{accepts, is_utf8}}
use Rattle.pm_utf8.proofs.laws.text_needs_what_is_awaited.Goals as goal

pub returns-clause-at_least : goal.returns-clause-at_least
returns-clause-at_least c front rest state e whole = needs rest state (sym (run_append front rest boundary state e) ∙ accepts (front ++ rest) whole)

pub returns-clause-any_more : goal.returns-clause-any_more
returns-clause-any_more c front state count e le =
    let rest = fill count state (run_sound front boundary state boundary_sound e) le in
    (rest.0, rest.1, is_utf8 (front ++ rest.0) (run_append front rest.0 boundary state e ∙ rest.2))

pub returns-clause-no_way : goal.returns-clause-no_way
returns-clause-no_way c front rest e whole = let both = sym (run_none front rest boundary e) ∙ accepts (front ++ rest) whole in cc
