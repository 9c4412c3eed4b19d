-- The two laws of reading: what is read is spelled so, and what is spelled so is read.
use Rattle.std.proofs.{Common.{◌≡◌, ◌≢◌, ℕ, suc, ◌+◌, ◌-◌, ◌^◌, ◌<◌, ◌≤◌, ◌++◌, ◌∷◌, [], List, length, take, drop, Bool, true, false, eqb, ltb, Option, Some, None, inl, inr, IsTrue, refl, sym, ap, subst, ◌∙◌, arith, append_assoc}, lemmas.{Bool.{cond_both, eqb-true, eqb-false, lt-ltb, le-ltb, ltb-true, ltb-false, Decides.nat_tests}, List.{append-nil, length-append, length-take, take_at, drop_at, take-append-drop, nil_from_length}}}
use Rattle.byteorder.specs.Endian.{big_number}
use Rattle.pm_wire.{specs.{declared.take.{Take.{Take, TheVariants.{Whole, Short, Bad}}, WireFault.TheVariants.BadLength}, Pieces.{int32, string, message}, Frontend.{FrontMessage, Query, BadQuery, LongQuery, Terminate, Extended, Other, IsFront, IsString, IsBadHeader, BeginsBadly, Wants, its_type, its_length, its_body, is_extended, is_simple}, Reading.{text_of, query_or_bad, query_of_length, terminate_of_length, query_of, terminate_of, front_of}, Numbers.{IsBytes, length_int32, number_again, number_below, number_split}}, proofs.Strings.{text_again, text_takes, text_none}}

abbrev Answer : Type 0
Answer = Take FrontMessage

-- ---- what is spelled so is read

query_header : (n : ℕ) (rest : List ℕ) → n < 2 ^ 32 → query_of (int32 n ++ rest) ≡ query_of_length n rest
unfolding query_of
query_header n rest h =
    let long : ltb (length (int32 n ++ rest)) 4 ≡ false = le-ltb _ _ (omega (arith, length-append (int32 n) rest, length_int32 n)) in
    let number : big_number 4 (int32 n ++ rest) ≡ n = number_again n rest h in
    let after : drop 4 (int32 n ++ rest) ≡ rest = drop_at (int32 n) rest 4 (length_int32 n) in
    rw (long, number, after) refl

terminate_header : (n : ℕ) (rest : List ℕ) → n < 2 ^ 32 → terminate_of (int32 n ++ rest) ≡ terminate_of_length n
unfolding terminate_of
terminate_header n rest h =
    let long : ltb (length (int32 n ++ rest)) 4 ≡ false = le-ltb _ _ (omega (arith, length-append (int32 n) rest, length_int32 n)) in
    let number : big_number 4 (int32 n ++ rest) ≡ n = number_again n rest h in
    rw (long, number) refl

-- a query that isn't too long, with its body
query_again : (body rest : List ℕ) → length body ≤ 65537
    → front_of (message (81 ∷ []) body ++ rest) ≡ Whole (query_or_bad (text_of body)) (length (message (81 ∷ []) body))
unfolding front_of
query_again body rest le =
    let n = 4 + length body in
    let small : ltb n 4 ≡ false = le-ltb _ _ (omega arith) in
    let short : ltb 65541 n ≡ false = le-ltb _ _ (omega arith) in
    let here : ltb (length (body ++ rest)) (n - 4) ≡ false = le-ltb _ _ (omega (arith, length-append body rest)) in
    let part : take (n - 4) (body ++ rest) ≡ body = take_at body rest (n - 4) (omega arith) in
    let size : n + 1 ≡ length (message (81 ∷ []) body) = omega (arith, length-append (int32 n) body, length_int32 n) in
    let read : query_of_length n (body ++ rest) ≡ Whole (query_or_bad (text_of body)) (n + 1) = rw (small, short, here, part) refl in
    ap query_of (append_assoc (int32 n) body rest) ∙ query_header n (body ++ rest) (omega arith) ∙ read ∙ ap (λ (used : ℕ). Whole (query_or_bad (text_of body)) used) size

-- two numbers that a test tells apart
apart : (test : ℕ → Bool) (k n : ℕ) (b c : Bool) → test k ≡ b → test n ≡ c → b ≢ c → eqb k n ≡ false
apart test k n b c at_k at_n differ =
    elim (eqb k n) as (λ t. eqb k n ≡ t → t ≡ false) [
      | true ↦ λ e. absurd (differ (sym at_k ∙ ap test (eqb-true k n e) ∙ at_n))
      | false ↦ λ _. refl
    ] refl

true_false : true ≢ false
true_false e = absurd cc

false_true : false ≢ true
false_true e = absurd cc

extended_again : (kind : ℕ) (rest : List ℕ) → IsTrue (is_extended kind) → front_of (kind ∷ rest) ≡ Whole (Extended kind) 1
unfolding front_of
extended_again kind rest h =
    let yes : is_extended kind ≡ true = h in
    let no_query : eqb kind 81 ≡ false = apart is_extended kind 81 true false yes refl true_false in
    let no_end : eqb kind 88 ≡ false = apart is_extended kind 88 true false yes refl true_false in
    rw (no_query, no_end, yes) refl

other_again : (kind : ℕ) (rest : List ℕ) → is_extended kind ≡ false → is_simple kind ≡ false → front_of (kind ∷ rest) ≡ Whole (Other kind) 1
unfolding front_of
other_again kind rest plain simple =
    let no_query : eqb kind 81 ≡ false = apart is_simple kind 81 false true simple refl false_true in
    let no_end : eqb kind 88 ≡ false = apart is_simple kind 88 false true simple refl false_true in
    rw (no_query, no_end, plain) refl

bad_query_is : (body : List ℕ) → ¬ (IsString body) → query_or_bad (text_of body) ≡ BadQuery
bad_query_is body h =
    elim (text_of body) as (λ t. text_of body ≡ t → query_or_bad t ≡ BadQuery) [
      | None ↦ λ _. refl
      | Some text ↦ λ e. let is = text_takes body text e in absurd (h (text, is.0, is.1))
    ] refl

long_again : (seen : ℕ) (rest : List ℕ) → 65541 < seen → seen < 2 ^ 32 → front_of (81 ∷ (int32 seen ++ rest)) ≡ Whole (LongQuery seen) 5
unfolding front_of
long_again seen rest lt fits =
    let small : ltb seen 4 ≡ false = le-ltb _ _ (omega arith) in
    let long : ltb 65541 seen ≡ true = lt-ltb _ _ lt in
    query_header seen rest fits ∙ rw (small, long) refl

terminate_again : (rest : List ℕ) → front_of (88 ∷ (int32 4 ++ rest)) ≡ Whole Terminate 5
unfolding front_of
terminate_again rest = terminate_header 4 rest (omega arith)

length_header : (kind n : ℕ) → length (kind ∷ int32 n) ≡ 5
length_header kind n = omega (arith, length_int32 n)

-- an equation of the message, put in
at_spelled : (m : FrontMessage) (spelled bytes rest : List ℕ) → spelled ≡ bytes → front_of (bytes ++ rest) ≡ Whole m (length bytes) → front_of (spelled ++ rest) ≡ Whole m (length spelled)
at_spelled m spelled bytes rest e h = subst (λ (s : List ℕ). front_of (s ++ rest) ≡ Whole m (length s)) (sym e) h

pub front_again : (m : FrontMessage) (spelled rest : List ℕ) → IsFront spelled m → front_of (spelled ++ rest) ≡ Whole m (length spelled)
front_again (Query text) spelled rest h =
    at_spelled (Query text) spelled (message (81 ∷ []) (string text)) rest h.0
    (query_again (string text) rest (omega (arith, length-append text (0 ∷ []), h.2))
    ∙ ap (λ (o : Option (List ℕ)). Whole (query_or_bad o) (length (message (81 ∷ []) (string text)))) (text_again text h.1))
front_again BadQuery spelled rest h =
    at_spelled BadQuery spelled (message (81 ∷ []) h.0) rest h.1
    (query_again h.0 rest h.2 ∙ ap (λ (q : FrontMessage). Whole q (length (message (81 ∷ []) h.0))) (bad_query_is h.0 h.3))
front_again (LongQuery seen) spelled rest h =
    at_spelled (LongQuery seen) spelled (81 ∷ int32 seen) rest h.0
    (long_again seen rest h.1 h.2 ∙ ap (λ (used : ℕ). Whole (LongQuery seen) used) (sym (length_header 81 seen)))
front_again Terminate spelled rest h =
    at_spelled Terminate spelled (88 ∷ (int32 4 ++ [])) rest h
    (ap front_of (append_assoc (88 ∷ int32 4) [] rest) ∙ terminate_again rest ∙ ap (λ (used : ℕ). Whole Terminate used) (omega (arith, length-append (int32 4) [], length_int32 4)))
front_again (Extended kind) spelled rest h = at_spelled (Extended kind) spelled (kind ∷ []) rest h.0 (extended_again kind rest h.1)
front_again (Other kind) spelled rest h = at_spelled (Other kind) spelled (kind ∷ []) rest h.0 (other_again kind rest h.1 h.2)

-- a header of no message
pub bad_again : (header rest : List ℕ) (seen : ℕ) → IsBadHeader header seen → front_of (header ++ rest) ≡ Bad (BadLength seen)
unfolding front_of
bad_again header rest seen (inl h) =
    let small : ltb seen 4 ≡ true = lt-ltb _ _ h.1 in
    subst (λ (s : List ℕ). front_of (s ++ rest) ≡ Bad (BadLength seen)) (sym h.0) (query_header seen rest (omega (arith, h.1)) ∙ rw small refl)
bad_again header rest seen (inr h) =
    let other : eqb seen 4 ≡ false = elim (eqb seen 4) as (λ t. eqb seen 4 ≡ t → t ≡ false) [ true ↦ λ e. absurd (h.1 (eqb-true seen 4 e)) | false ↦ λ _. refl ] refl in
    subst (λ (s : List ℕ). front_of (s ++ rest) ≡ Bad (BadLength seen)) (sym h.0) (terminate_header seen rest h.2 ∙ rw other refl)

-- ---- too little to tell

simple_is_no_other : (kind : ℕ) → eqb kind 81 ≡ false → eqb kind 88 ≡ false → is_simple kind ≡ false
simple_is_no_other kind no_query no_end = grind (arith, nat_tests)

header_wants : (kind : ℕ) (part : List ℕ) → IsTrue (is_simple kind) → length part < 4 → front_of (kind ∷ part) ≡ Short 5
unfolding front_of query_of terminate_of
header_wants kind part simple few =
    let short : ltb (length part) 4 ≡ true = lt-ltb _ _ few in
    elim (eqb kind 81) as (λ q. eqb kind 81 ≡ q → front_of (kind ∷ part) ≡ Short 5) [
      | true ↦ λ query. rw (query, short) refl
      | false ↦ λ no_query.
          elim (eqb kind 88) as (λ x. eqb kind 88 ≡ x → front_of (kind ∷ part) ≡ Short 5) [
            | true ↦ λ end. rw (no_query, end, short) refl
            | false ↦ λ no_end. let never = sym (simple_is_no_other kind no_query no_end) ∙ simple in absurd cc
          ] refl
    ] refl

body_wants : (seen : ℕ) (part : List ℕ) → seen ≤ 65541 → 4 + length part < seen → front_of (81 ∷ (int32 seen ++ part)) ≡ Short (seen + 1)
unfolding front_of
body_wants seen part le more =
    let small : ltb seen 4 ≡ false = le-ltb _ _ (omega (arith, more)) in
    let long : ltb 65541 seen ≡ false = le-ltb _ _ le in
    let short : ltb (length part) (seen - 4) ≡ true = lt-ltb _ _ (omega (arith, more)) in
    query_header seen part (omega (arith, le)) ∙ rw (small, long, short) refl

nothing_wants : front_of [] ≡ Short 1
unfolding front_of
nothing_wants = refl

pub wants_short : (bytes : List ℕ) (wanted : ℕ) → Wants bytes wanted → front_of bytes ≡ Short wanted
wants_short bytes wanted (its_type none one) = ap front_of none ∙ nothing_wants ∙ ap Short (sym one)
wants_short bytes wanted (its_length kind part parts simple few five) = ap front_of parts ∙ header_wants kind part simple few ∙ ap Short (sym five)
wants_short bytes wanted (its_body seen part parts le more is) = ap front_of parts ∙ body_wants seen part le more ∙ ap Short (sym is)

-- with a part of what is wanted, the same is wanted
pub wants_more : (bytes more : List ℕ) (wanted : ℕ) → Wants bytes wanted → length (bytes ++ more) < wanted → Wants (bytes ++ more) wanted
wants_more bytes more wanted (its_type none one) few =
    its_type (nil_from_length (bytes ++ more) (omega (arith, few, one))) one
wants_more bytes more wanted (its_length kind part parts simple short five) few =
    let behind : bytes ++ more ≡ kind ∷ (part ++ more) = ap (λ (w : List ℕ). w ++ more) parts in
    its_length kind (part ++ more) behind simple (omega (arith, few, five, ap length behind)) five
wants_more bytes more wanted (its_body seen part parts le some is) few =
    let behind : bytes ++ more ≡ 81 ∷ (int32 seen ++ (part ++ more)) = ap (λ (w : List ℕ). w ++ more) parts ∙ ap (λ (w : List ℕ). 81 ∷ w) (append_assoc (int32 seen) part more) in
    its_body seen (part ++ more) behind le (omega (arith, few, is, ap length behind, length-append (int32 seen) (part ++ more), length_int32 seen)) is

-- ---- what is read is spelled so

-- the bytes begin with the spelling of the message
pub record Begins (bytes : List ℕ) (m : FrontMessage) (used : ℕ) : Type 0 where
  pub spelled : List ℕ
  pub rest : List ℕ
  pub parts : bytes ≡ spelled ++ rest
  pub size : used ≡ length spelled
  pub is : IsFront spelled m

query_is : (body : List ℕ) → length body ≤ 65537 → IsFront (message (81 ∷ []) body) (query_or_bad (text_of body))
query_is body le =
    elim (text_of body) as (λ t. text_of body ≡ t → IsFront (message (81 ∷ []) body) (query_or_bad t)) [
      | None ↦ λ e. (body, refl, le, text_none body e)
      | Some text ↦ λ e.
          let is = text_takes body text e in
          (ap (λ (b : List ℕ). message (81 ∷ []) b) is.1, is.0, omega (arith, length-append text (0 ∷ []), ap length is.1, le))
    ] refl

abbrev pub IsSound : List ℕ → Answer → Type 0
IsSound bytes (Whole m used) = Begins bytes m used
IsSound bytes (Short wanted) = Wants bytes wanted
IsSound bytes (Bad fault) = (seen : ℕ) × (fault ≡ BadLength seen) × BeginsBadly bytes seen

-- a query with its body, of the length n
whole_sound : (n : ℕ) (after : List ℕ) → 4 ≤ n → n ≤ 65541 → n - 4 ≤ length after
    → Begins (81 ∷ (int32 n ++ after)) (query_or_bad (text_of (take (n - 4) after))) (n + 1)
whole_sound n after low high here =
    let body = take (n - 4) after in
    let size : length body ≡ n - 4 = omega (arith, length-take (n - 4) after) in
    let is = query_is body (omega (arith, size)) in
    let length_is : 4 + length body ≡ n = omega (arith, size) in
    let parts : 81 ∷ (int32 n ++ after) ≡ message (81 ∷ []) body ++ drop (n - 4) after =
    rw (length_is) (ap (λ (r : List ℕ). 81 ∷ r) (ap (λ (r : List ℕ). int32 n ++ r) (sym (take-append-drop (n - 4) after)) ∙ sym (append_assoc (int32 n) body (drop (n - 4) after)))) in
    record {
      spelled = message (81 ∷ []) body;
      rest = drop (n - 4) after;
      parts = parts;
      size = omega (arith, length-append (int32 (4 + length body)) body, length_int32 (4 + length body), size);
      is = is;
    }

length_sound : (n : ℕ) (after : List ℕ) → n < 2 ^ 32 → IsSound (81 ∷ (int32 n ++ after)) (query_of_length n after)
length_sound n after fits =
    cond_both (ltb n 4) _ _ (IsSound (81 ∷ (int32 n ++ after)))
    (λ small. (n, refl, (81 ∷ int32 n, after, refl, inl (refl, ltb-true _ _ small))))
    (λ low. cond_both (ltb 65541 n) _ _ (IsSound (81 ∷ (int32 n ++ after)))
    (λ long. record { spelled = 81 ∷ int32 n; rest = after; parts = refl; size = sym (length_header 81 n); is = (refl, ltb-true _ _ long, fits) })
    (λ high. cond_both (ltb (length after) (n - 4)) _ _ (IsSound (81 ∷ (int32 n ++ after)))
    (λ short. its_body n after refl (ltb-false _ _ high) (omega (arith, ltb-true _ _ short)) refl)
    (λ here. whole_sound n after (ltb-false _ _ low) (ltb-false _ _ high) (ltb-false _ _ here))))

query_sound : (rest : List ℕ) → IsBytes rest → IsSound (81 ∷ rest) (query_of rest)
unfolding query_of
query_sound rest fits =
    cond_both (ltb (length rest) 4) _ _ (IsSound (81 ∷ rest)) (λ short. its_length 81 rest refl refl (ltb-true _ _ short) refl)
    (λ long.
    let split = number_split rest (ltb-false _ _ long) fits in
    let P : List ℕ → Type 0 = λ bytes. IsSound (81 ∷ bytes) (query_of_length (big_number 4 rest) (drop 4 rest)) in
    subst P (sym split) (length_sound (big_number 4 rest) (drop 4 rest) (number_below rest fits)))

end_sound : (n : ℕ) (after : List ℕ) → n < 2 ^ 32 → IsSound (88 ∷ (int32 n ++ after)) (terminate_of_length n)
end_sound n after fits =
    cond_both (eqb n 4) _ _ (IsSound (88 ∷ (int32 n ++ after)))
    (λ same.
    let four : n ≡ 4 = eqb-true _ _ same in
    record {
      spelled = message (88 ∷ []) [];
      rest = after;
      parts = rw four (ap (λ (r : List ℕ). 88 ∷ (r ++ after)) (sym (append-nil (int32 4))));
      size = omega (arith, length-append (int32 4) [], length_int32 4);
      is = refl;
    })
    (λ other. (n, refl, (88 ∷ int32 n, after, refl, inr (refl, eqb-false _ _ other, fits))))

terminate_sound : (rest : List ℕ) → IsBytes rest → IsSound (88 ∷ rest) (terminate_of rest)
unfolding terminate_of
terminate_sound rest fits =
    cond_both (ltb (length rest) 4) _ _ (IsSound (88 ∷ rest)) (λ short. its_length 88 rest refl refl (ltb-true _ _ short) refl)
    (λ long.
    let split = number_split rest (ltb-false _ _ long) fits in
    let P : List ℕ → Type 0 = λ bytes. IsSound (88 ∷ bytes) (terminate_of_length (big_number 4 rest)) in
    subst P (sym split) (end_sound (big_number 4 rest) (drop 4 rest) (number_below rest fits)))

pub front_sound : (bytes : List ℕ) → IsBytes bytes → IsSound bytes (front_of bytes)
unfolding front_of
front_sound [] fits = its_type refl refl
front_sound (kind ∷ rest) fits =
    let P : Answer → Type 0 = IsSound (kind ∷ rest) in
    cond_both (eqb kind 81) _ _ P
    (λ query.
    let Q : ℕ → Type 0 = λ k. IsSound (k ∷ rest) (query_of rest) in
    subst Q (sym (eqb-true _ _ query)) (query_sound rest (λ i. fits (suc i))))
    (λ no_query. cond_both (eqb kind 88) _ _ P
    (λ end.
    let Q : ℕ → Type 0 = λ k. IsSound (k ∷ rest) (terminate_of rest) in
    subst Q (sym (eqb-true _ _ end)) (terminate_sound rest (λ i. fits (suc i))))
    (λ no_end. cond_both (is_extended kind) _ _ P
    (λ extended. record { spelled = kind ∷ []; rest = rest; parts = refl; size = refl; is = (refl, extended) })
    (λ plain. record { spelled = kind ∷ []; rest = rest; parts = refl; size = refl; is = (refl, plain, simple_is_no_other kind no_query no_end) })))
