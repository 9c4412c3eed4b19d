use Rattle.std.proofs.{Common.{◌<◌, Some, None, ◌∙◌, arith, rules}, lemmas.Str.Pattern.{split_parts, strip_prefix_char}}
use Rattle.pm_sql.proofs.Strings.{end_goes_on, end_closed, end_open}
use Rattle.pm_sql.proofs.tokens.string_end.Goals as goal

ascii : 39 < 128
ascii = omega arith

pub loop-after-preserved : goal.loop-after-preserved
loop-after-preserved c =
    let cut = split_parts 39 c.loop-after.rest.now (Some (c.in-Some.field-0-0, c.in-Some.after)) c.in-Some.ensures.cases ascii in
    let again = strip_prefix_char 39 c.in-Some.after.now (Some c.in-Some-strip_prefix.more) c.in-Some-strip_prefix.ensures.cases ascii in (
      end_goes_on c.in-Some.field-0-0.now c.in-Some.after.now c.in-Some-strip_prefix.more.now c.loop-after.rest.now cut.0 cut.1 again ∙ c.loop-after.invariant.0,
      search rules,
    )

pub returns-in-None : goal.returns-in-None
returns-in-None c =
    let cut = split_parts 39 c.loop-after.rest.now (Some (c.in-Some.field-0-0, c.in-Some.after)) c.in-Some.ensures.cases ascii in
    let last = strip_prefix_char 39 c.in-Some.after.now None c.in-None.ensures.cases ascii in
    end_closed c.in-Some.field-0-0.now c.in-Some.after.now c.loop-after.rest.now cut.0 cut.1 last ∙ c.loop-after.invariant.0

pub returns : goal.returns
returns c =
    let none = split_parts 39 c.loop-after.rest.now None c.in_default.ensures.cases ascii in
    end_open c.loop-after.rest.now none ∙ c.loop-after.invariant.0
