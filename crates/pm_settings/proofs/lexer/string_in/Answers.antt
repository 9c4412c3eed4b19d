use Rattle.std.proofs.{Common.{◌≡◌, ◌<◌, ◌++◌, ◌∷◌, [], Some, None, List, ℕ, ap, ◌∙◌, arith, rules, string_bytes}, lemmas.Str.{encode_ascii, Pattern.{split_parts, strip_prefix_char}}}
use Rattle.pm_sql.specs.Tokens.{string_in}
use Rattle.pm_settings.proofs.Strings.{with_content, goes_on, is_closed, is_open}
use Rattle.pm_settings.proofs.lexer.string_in.Goals as goal

ascii : 39 < 128
ascii = omega arith

pub loop-segment-preserved : goal.loop-segment-preserved
loop-segment-preserved c =
    let cut = split_parts 39 c.loop-segment.rest.now (Some (c.in-Some.segment, c.in-Some.after)) c.in-Some.ensures.cases ascii in
    let again = strip_prefix_char 39 c.in-Some.after.now (Some c.in-Some-strip_prefix.more) c.in-Some-strip_prefix.ensures.cases ascii in
    let bytes : string_bytes c.push.new.self ≡ (string_bytes c.loop-segment.content ++ c.in-Some.segment.now) ++ 39 ∷ [] =
    c.in_ok-push-in-Some-strip_prefix.ensures.bytes ∙ ap (λ b. string_bytes c.push_str.new.self ++ b) (encode_ascii 39 ascii) ∙ ap (λ b. b ++ 39 ∷ []) c.in_ok-push_str.ensures.bytes in (
      ap (λ b. with_content b (string_in c.in-Some-strip_prefix.more.now)) bytes
          ∙ goes_on (string_bytes c.loop-segment.content) c.in-Some.segment.now c.in-Some.after.now c.in-Some-strip_prefix.more.now c.loop-segment.rest.now (string_in c.args.input.now)
          c.loop-segment.invariant.0 cut.0 cut.1 again,
      search rules,
    )

pub returns-in-None : goal.returns-in-None
returns-in-None c =
    let cut = split_parts 39 c.loop-segment.rest.now (Some (c.in-Some.segment, c.in-Some.after)) c.in-Some.ensures.cases ascii in
    let last = strip_prefix_char 39 c.in-Some.after.now None c.in-None.ensures.cases ascii in
    ap (λ (b : List ℕ). Some (b, c.in-Some.after.now)) c.in_ok-push_str.ensures.bytes
    ∙ is_closed (string_bytes c.loop-segment.content) c.in-Some.segment.now c.in-Some.after.now c.loop-segment.rest.now (string_in c.args.input.now)
    c.loop-segment.invariant.0 cut.0 cut.1 last

pub returns : goal.returns
returns c =
    let none = split_parts 39 c.loop-segment.rest.now None c.in_default.ensures.cases ascii in
    is_open (string_bytes c.loop-segment.content) c.loop-segment.rest.now (string_in c.args.input.now) c.loop-segment.invariant.0 none
