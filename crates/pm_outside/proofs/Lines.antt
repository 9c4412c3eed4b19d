-- The lines of a console after those that it has given.
use Rattle.std.proofs.{Common.{◌≡◌, ℕ, suc, ◌+◌, ◌<◌, ◌≤◌, List, [], ◌∷◌, ◌++◌, length, take, drop, get_or, min, map, sym, ap, subst, refl, ◌∙◌, arith, drop-cons, length-take-le}, lemmas.List.{map_more, take_at, take_min}}
use Rattle.pm_outside.specs.{MemConsole.{GivesFirst, cut_line}, declared.mem_console.ScriptLine.ScriptLine}

first_left : (n : ℕ) (lines : List ScriptLine) (line : ScriptLine) → n < length lines → line ≡ get_or lines n line
    → drop n lines ≡ line ∷ drop (n + 1) lines
first_left n lines line lt is =
    let next : suc n ≡ n + 1 = omega arith in
    drop-cons lines n line lt ∙ ap (λ (x : ScriptLine). x ∷ drop (suc n) lines) (sym is) ∙ ap (λ (k : ℕ). line ∷ drop k lines) next

pub gives_first : (n : ℕ) (lines : List ScriptLine) (line : ScriptLine) (bytes : List ℕ) → n < length lines → line ≡ get_or lines n line → bytes ≡ cut_line line
    → GivesFirst (drop n lines) bytes (drop (n + 1) lines)
gives_first n lines line bytes lt is same = subst (λ (left : List ScriptLine). GivesFirst left bytes (drop (n + 1) lines)) (sym (first_left n lines line lt is)) (same, refl)

pub given_more : (n : ℕ) (lines : List ScriptLine) (line : ScriptLine) (bytes : List ℕ) → n < length lines → line ≡ get_or lines n line → bytes ≡ cut_line line
    → map cut_line (take (n + 1) lines) ≡ map cut_line (take n lines) ++ bytes ∷ []
given_more n lines line bytes lt is same =
    map_more cut_line lines n line lt
    ∙ ap (λ (x : ScriptLine). map cut_line (take n lines) ++ cut_line x ∷ []) (sym is)
    ∙ ap (λ (b : List ℕ). map cut_line (take n lines) ++ b ∷ []) (sym same)

-- the bytes that were copied to the front of the array are those of the line, cut
pub cut_same : (count : ℕ) (text copy rest : List ℕ) → count ≡ min (length text) 64 → copy ≡ take count text → take count (copy ++ rest) ≡ take 64 text
cut_same count text copy rest is same =
    let fits : count ≤ length text = omega (arith, is) in
    let most : count ≡ min 64 (length text) = omega (arith, is) in
    rw (same, take_at (take count text) rest count (length-take-le count text fits)) (ap (λ (k : ℕ). take k text) most ∙ take_min 64 text)
