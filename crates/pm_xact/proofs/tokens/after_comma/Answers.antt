use Rattle.std.proofs.{Common.{◌≡◌, ◌∙◌, ◌==◌, ◌∷◌, false, ap, sym, subst, refl}, lemmas.{List.nil_from_length, Str.Ascii.trim_ascii_start_is}}
use Rattle.pm_sql.specs.{Token.begins_with, Tokens.skipped}
use Rattle.pm_xact.{specs.Reading.{tokens_of, after_comma}, proofs.Lexing.{after_white, comma_found, isnt_comma, no_comma_here}}
use Rattle.pm_xact.proofs.tokens.after_comma.Goals as goal

pub returns-then-first-eq44 : goal.returns-then-first-eq44
returns-then-first-eq44 c =
    let here : c.trim_ascii_start-here.result.now ≡ skipped c.args.input.now = trim_ascii_start_is _ _ c.trim_ascii_start-here.ensures.value in
    let comma = c.in-Some.ensures.cases.0 ∙ ap (λ b. b ∷ c.in-Some.rest.now) c.if-first-eq44.true in
    sym (comma_found c.in-Some.rest.now) ∙ ap (λ h. after_comma (tokens_of h)) (sym comma ∙ here) ∙ ap after_comma (after_white c.args.input.now)

pub returns-else-first-eq44 : goal.returns-else-first-eq44
returns-else-first-eq44 c =
    let here : c.trim_ascii_start-here.result.now ≡ skipped c.args.input.now = trim_ascii_start_is _ _ c.trim_ascii_start-here.ensures.value in
    no_comma_here c.args.input.now c.trim_ascii_start-here.result.now here (subst (λ h. begins_with (λ b. b == 44) h ≡ false) (sym c.in-Some.ensures.cases.0) (isnt_comma c.in-Some.first.now c.if-first-eq44.false))

pub returns-in-None : goal.returns-in-None
returns-in-None c =
    let here : c.trim_ascii_start-here.result.now ≡ skipped c.args.input.now = trim_ascii_start_is _ _ c.trim_ascii_start-here.ensures.value in
    let none = nil_from_length c.trim_ascii_start-here.result.now c.in-None.ensures.cases in
    no_comma_here c.args.input.now c.trim_ascii_start-here.result.now here (subst (λ h. begins_with (λ b. b == 44) h ≡ false) (sym none) refl)
