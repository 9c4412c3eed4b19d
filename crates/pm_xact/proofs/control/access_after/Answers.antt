use Rattle.std.{proofs.Common.{◌≡◌, ◌∙◌, None, Some, ap, sym, refl, arith, length}, specs.Option.option_map}
use Rattle.pm_xact.{specs.Reading.{tokens_of, found_in, mode_at, after_comma, access_within, access_after}, proofs.{Grammar.{at_end, mode_shorter, none_read, read_on}, control.access_after.Goals.After-unwrap_or-access}}
use Rattle.pm_xact.proofs.control.access_after.Goals as goal

pub loop-rest-init : goal.loop-rest-init
unfolding access_after
loop-rest-init c = (length (tokens_of c.args.input.now), omega arith, refl)

-- what comes next
next : (c : After-unwrap_or-access) → mode_at (after_comma (tokens_of c.loop-rest.rest.now)) ≡ Some (c.in_ok-named.named, tokens_of c.in_ok-named.more.now)
next c = ap mode_at (sym c.after_comma.ensures) ∙ sym c.mode_at.ensures ∙ ap (option_map found_in) c.in_ok-named.was

pub returns-in_err-named : goal.returns-in_err-named
returns-in_err-named c =
    let (steps, few, e) = c.loop-rest.invariant in
    let none : mode_at (after_comma (tokens_of c.loop-rest.rest.now)) ≡ None = ap mode_at (sym c.after_comma.ensures) ∙ sym c.mode_at.ensures ∙ ap (option_map found_in) c.in_err-named.was in
    c.from_residual.ensures ∙ sym (none_read steps c.loop-rest.access (tokens_of c.loop-rest.rest.now) few (sym c.is_end.ensures ∙ c.loop-rest-test.true) none) ∙ e

pub loop-rest-smaller : goal.loop-rest-smaller
loop-rest-smaller c = mode_shorter (tokens_of c.loop-rest.rest.now) (c.in_ok-named.named, tokens_of c.in_ok-named.more.now) (next c)

pub loop-rest-preserved : goal.loop-rest-preserved
loop-rest-preserved c =
    let (steps, few, e) = c.loop-rest.invariant in
    let (left, less, same) = read_on steps c.loop-rest.access (tokens_of c.loop-rest.rest.now) (c.in_ok-named.named, tokens_of c.in_ok-named.more.now) few (sym c.is_end.ensures ∙ c.loop-rest-test.true) (next c) in
    (left, less, ap (λ a. access_within left a (tokens_of c.in_ok-named.more.now)) c.unwrap_or-access.ensures ∙ same ∙ e)

pub returns : goal.returns
returns c =
    let (steps, few, e) = c.loop-rest.invariant in
    sym (at_end steps c.loop-rest.access (tokens_of c.loop-rest.rest.now) (sym c.is_end.ensures ∙ c.loop-rest-test.false)) ∙ e
