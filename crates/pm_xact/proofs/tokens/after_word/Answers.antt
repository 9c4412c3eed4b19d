use Rattle.std.{proofs.{Common.{◌≡◌, ◌∙◌, ℕ, List, Some, map, drop, take, ap, sym, true≢false, arith}, lemmas.{List.Sums.prefix_len-le-length, Str.Ascii.trim_ascii_start_is}}, specs.{Char.to_ascii_lowercase, List.prefix_len}}
use Rattle.pm_sql.specs.Tokens.{is_word_byte, skipped}
use Rattle.pm_xact.{specs.Reading.tokens_of, proofs.Lexing.{keyword_stays, word_found, word_missed}}
use Rattle.pm_xact.proofs.tokens.after_word.Goals as goal

pub split_at-requires : goal.split_at-requires
split_at-requires c =
    let most = prefix_len-le-length is_word_byte c.trim_ascii_start-here.result.now in
    omega (arith, c.run_len.ensures, most)

pub returns-then-eq_ignore_ascii_case : goal.returns-then-eq_ignore_ascii_case
returns-then-eq_ignore_ascii_case c =
    let word = c.args.word.now in
    let here : c.trim_ascii_start-here.result.now ≡ skipped c.args.input.now = trim_ascii_start_is _ _ c.trim_ascii_start-here.ensures.value in
    let n = λ (h : List ℕ). prefix_len is_word_byte h in
    let front = c.split_at.ensures.front ∙ ap (λ k. take k c.trim_ascii_start-here.result.now) c.run_len.ensures ∙ ap (λ h. take (n h) h) here in
    let back = c.split_at.ensures.back ∙ ap (λ k. drop k c.trim_ascii_start-here.result.now) c.run_len.ensures ∙ ap (λ h. drop (n h) h) here in
    let same = ap (map to_ascii_lowercase) (sym front) ∙ c.eq_ignore_ascii_case.ensures.test.0 c.if-eq_ignore_ascii_case.true ∙ ap (map to_ascii_lowercase) c.as_bytes.ensures.value ∙ keyword_stays word c.requires in
    ap (λ t. Some (tokens_of t)) back ∙ sym (word_found word c.args.input.now c.requires same)

pub returns-else-eq_ignore_ascii_case : goal.returns-else-eq_ignore_ascii_case
returns-else-eq_ignore_ascii_case c =
    let word = c.args.word.now in
    let here : c.trim_ascii_start-here.result.now ≡ skipped c.args.input.now = trim_ascii_start_is _ _ c.trim_ascii_start-here.ensures.value in
    let n = λ (h : List ℕ). prefix_len is_word_byte h in
    let front = c.split_at.ensures.front ∙ ap (λ k. take k c.trim_ascii_start-here.result.now) c.run_len.ensures ∙ ap (λ h. take (n h) h) here in
    let lower = ap (map to_ascii_lowercase) c.as_bytes.ensures.value ∙ keyword_stays word c.requires in
    sym (word_missed word c.args.input.now c.requires (λ same. true≢false (sym (c.eq_ignore_ascii_case.ensures.test.1 (ap (map to_ascii_lowercase) front ∙ same ∙ sym lower)) ∙ c.if-eq_ignore_ascii_case.false)))
