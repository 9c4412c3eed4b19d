-- Who is inside and isn't named.
use Rattle.std.{proofs.{Common.{◌≡◌, Bool, true, false, ◌&&◌, ◌||◌, ◌⊎◌, inl, inr, ℕ, zero, suc, ◌+◌, ◌<◌, ◌≤◌, List, [], ◌∷◌, ◌++◌, length, map, take, refl, sym, ◌∙◌, ap, subst, arith}, Math.Seq.take-suc, lemmas.{Bool.Decides.nat_tests, List.{map-append, take_all, Sums.{sum_by-append, sum_by-cons, sum_by_more}}}}, specs.{Prelude.{Option, cond, nat_eq, nat_lt, slice_index_or}, List.list_any, Option.option_map}}
use Rattle.pm_query.specs.declared.book.BookEntry.{BookEntry, TheVariants.Gone}
use Rattle.pm_store_apart.specs.Children.{AreOthers, once, times_in, with_other}
use Rattle.pm_outside.{specs.Added.Added, proofs.AddedLaws.added_both}

-- ---- each of a list is noted

pub gone_further : (pids : List ℕ) (at : ℕ) (before between now : Option (List BookEntry)) → at < length pids → Added (map (λ pid. Gone pid) (take at pids)) before between
    → now ≡ option_map (λ es. es ++ Gone (slice_index_or pids at 0) ∷ []) between → Added (map (λ pid. Gone pid) (take (at + 1) pids)) before now
gone_further pids at before between now lt one two =
    let one_more : at + 1 ≡ suc at = omega arith in
    let next : map (λ pid. Gone pid) (take (at + 1) pids) ≡ map (λ pid. Gone pid) (take at pids) ++ Gone (slice_index_or pids at 0) ∷ [] =
    ap (λ (n : ℕ). map (λ (pid : ℕ). Gone pid) (take n pids)) one_more ∙ ap (map (λ (pid : ℕ). Gone pid)) (take-suc pids at 0 lt) ∙ map-append (λ (pid : ℕ). Gone pid) (take at pids) (slice_index_or pids at 0 ∷ []) in
    subst (λ (l : List BookEntry). Added l before now) (sym next) (added_both (map (λ pid. Gone pid) (take at pids)) (Gone (slice_index_or pids at 0) ∷ []) before between now one two)

pub gone_whole : (pids : List ℕ) (at : ℕ) (before now : Option (List BookEntry)) → length pids ≤ at → Added (map (λ pid. Gone pid) (take at pids)) before now → Added (map (λ pid. Gone pid) pids) before now
gone_whole pids at before now le notes = subst (λ (l : List ℕ). Added (map (λ pid. Gone pid) l) before now) (take_all at pids le) notes

-- ---- who is among a list

equal_or_not : (n m : ℕ) → (n ≡ m) ⊎ (nat_eq n m ≡ false)
equal_or_not n m = each (nat_eq n m) refl
  where
    each : (b : Bool) → nat_eq n m ≡ b → (n ≡ m) ⊎ (nat_eq n m ≡ false)
    each true is = inl (grind (arith, nat_tests, is))
    each false is = inr is

pub among : (pid : ℕ) (pids : List ℕ) → list_any (λ other. nat_eq other pid) pids ≡ nat_lt 0 (times_in pid pids)
among pid [] = refl
among pid (first ∷ pids) = each (among pid pids) (nat_eq first pid) refl
  where
    same_test : (n m : ℕ) (b : Bool) → nat_eq n m ≡ b → nat_eq m n ≡ b
    same_test n m true is = grind (arith, nat_tests, is)
    same_test n m false is = grind (arith, nat_tests, is)

    above : (n : ℕ) → 1 ≤ n → nat_lt 0 n ≡ true
    above n le = grind (arith, nat_tests, le)

    each : list_any (λ other. nat_eq other pid) pids ≡ nat_lt 0 (times_in pid pids) → (b : Bool) → nat_eq first pid ≡ b → nat_eq first pid || list_any (λ other. nat_eq other pid) pids ≡ nat_lt 0 (times_in pid (first ∷ pids))
    each rest true is =
        let here : once pid first ≡ 1 = ap (λ (b : Bool). cond {A = ℕ} b 1 0) (same_test first pid true is) in
        ap (λ (b : Bool). b || list_any (λ other. nat_eq other pid) pids) is ∙ sym (above (times_in pid (first ∷ pids)) (omega (arith, here, sum_by-cons (once pid) first pids)))
    each rest false is =
        let not_here : once pid first ≡ 0 = ap (λ (b : Bool). cond {A = ℕ} b 1 0) (same_test first pid false is) in
        ap (λ (b : Bool). b || list_any (λ other. nat_eq other pid) pids) is ∙ rest ∙ ap (nat_lt 0) (omega (arith, not_here, sum_by-cons (once pid) first pids))

-- ---- one more of those that are inside

-- how often a pid is among the others, where it is so often inside and among the gone
abbrev pub as_other : (inside gone : ℕ) → ℕ
as_other inside gone = cond (nat_lt 0 inside && nat_eq 0 gone) 1 0

other_further : (i g : ℕ) → (n : ℕ) → n ≡ as_other i g → cond (nat_lt 0 g || nat_lt 0 n) n (n + 1) ≡ as_other (i + 1) g
other_further zero zero n is = grind (arith, nat_tests, is)
other_further zero (suc g) n is = grind (arith, nat_tests, is)
other_further (suc i) zero n is = grind (arith, nat_tests, is)
other_further (suc i) (suc g) n is = grind (arith, nat_tests, is)

times_push : (who pid : ℕ) (pids : List ℕ) → times_in who (pids ++ pid ∷ []) ≡ times_in who pids + once who pid
times_push who pid pids = omega (arith, sum_by-append (once who) pids (pid ∷ []), sum_by-cons (once who) pid [])

times_with : (who pid : ℕ) (others gone : List ℕ) → times_in who (with_other others gone pid) ≡ cond (nat_lt 0 (times_in pid gone) || nat_lt 0 (times_in pid others)) (times_in who others) (times_in who others + once who pid)
times_with who pid others gone = each (nat_lt 0 (times_in pid gone) || nat_lt 0 (times_in pid others))
  where
    each : (b : Bool) → times_in who (cond b others (others ++ pid ∷ [])) ≡ cond b (times_in who others) (times_in who others + once who pid)
    each true = refl
    each false = times_push who pid others

pub others_further : (inside gone others : List ℕ) (at pid : ℕ) → at < length inside → pid ≡ slice_index_or inside at pid → AreOthers (take at inside) gone others
    → AreOthers (take (at + 1) inside) gone (with_other others gone pid)
others_further inside gone others at pid lt is are who = turn (equal_or_not who pid)
  where
    more : times_in who (take (at + 1) inside) ≡ times_in who (take at inside) + once who pid
    more = omega (arith, sum_by_more (once who) inside at pid lt, ap (once who) (sym is))

    alike : (b : Bool) (n m : ℕ) → m ≡ 0 → cond b n (n + m) ≡ n
    alike true n m none = refl
    alike false n m none = omega (arith, none)

    turn : (who ≡ pid) ⊎ (nat_eq who pid ≡ false) → times_in who (with_other others gone pid) ≡ as_other (times_in who (take (at + 1) inside)) (times_in who gone)
    turn (inl same) =
        let equal : nat_eq who pid ≡ true = grind (arith, nat_tests, same) in
        let it : once who pid ≡ 1 = ap (λ (b : Bool). cond {A = ℕ} b 1 0) equal in
        let further : times_in who (take at inside) + 1 ≡ times_in who (take (at + 1) inside) = omega (arith, more, it) in
        times_with who pid others gone
        ∙ ap (λ (n : ℕ). cond (nat_lt 0 (times_in n gone) || nat_lt 0 (times_in n others)) (times_in who others) (times_in who others + once who pid)) (sym same)
        ∙ ap (λ (n : ℕ). cond (nat_lt 0 (times_in who gone) || nat_lt 0 (times_in who others)) (times_in who others) (times_in who others + n)) it
        ∙ other_further (times_in who (take at inside)) (times_in who gone) (times_in who others) (are who)
        ∙ ap (λ (n : ℕ). as_other n (times_in who gone)) further
    turn (inr other) =
        let not_it : once who pid ≡ 0 = ap (λ (b : Bool). cond {A = ℕ} b 1 0) other in
        let no_further : times_in who (take at inside) ≡ times_in who (take (at + 1) inside) = omega (arith, more, not_it) in
        times_with who pid others gone
        ∙ alike (nat_lt 0 (times_in pid gone) || nat_lt 0 (times_in pid others)) (times_in who others) (once who pid) not_it
        ∙ are who
        ∙ ap (λ (n : ℕ). as_other n (times_in who gone)) no_further

pub others_whole : (inside gone others : List ℕ) (at : ℕ) → length inside ≤ at → AreOthers (take at inside) gone others → AreOthers inside gone others
others_whole inside gone others at le are = subst (λ (l : List ℕ). AreOthers l gone others) (take_all at inside le) are

-- what the tests of one more came to
pub is_named : (pid : ℕ) (others gone : List ℕ) (in_gone in_others : Bool) → in_gone ≡ list_any (λ other. nat_eq other pid) gone → in_others ≡ list_any (λ other. nat_eq other pid) others
    → with_other others gone pid ≡ cond (in_gone || in_others) others (others ++ pid ∷ [])
is_named pid others gone in_gone in_others first second =
    ap (λ (b : Bool). cond (b || nat_lt 0 (times_in pid others)) others (others ++ pid ∷ [])) (sym (first ∙ among pid gone))
    ∙ ap (λ (b : Bool). cond (in_gone || b) others (others ++ pid ∷ [])) (sym (second ∙ among pid others))
