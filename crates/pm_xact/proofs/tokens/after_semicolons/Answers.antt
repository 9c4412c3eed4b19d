use Rattle.std.proofs.{Common.{ap, ◌∙◌, drop, arith}, lemmas.List.Sums.prefix_len-le-length}
use Rattle.pm_xact.{specs.Reading.{is_blank, tokens_of}, proofs.Lexing.semicolons_skipped}
use Rattle.pm_xact.proofs.tokens.after_semicolons.Goals as goal

pub split_at-requires : goal.split_at-requires
split_at-requires c =
    let most = prefix_len-le-length is_blank c.args.input.now in
    omega (arith, c.blank_len.ensures, most)

pub returns : goal.returns
returns c = ap tokens_of (c.split_at.ensures.back ∙ ap (λ n. drop n c.args.input.now) c.blank_len.ensures) ∙ semicolons_skipped c.args.input.now
