-- The tags and the reports of the server's messages as bytes.
use Rattle.std.{proofs.{Common.{◌≡◌, ℕ, zero, suc, ◌+◌, ◌-◌, ◌*◌, ◌^◌, ◌<◌, ◌≤◌, ◌⊎◌, true, false, eqb, List, [], ◌∷◌, ◌++◌, length, codes, decimal, Option, Some, None, Ok, refl, sym, ap, subst, ◌∙◌, inl, arith, append_assoc}, lemmas.{Bool.{eqb-true, ltb-true, lt-ltb, eq-eqb, ne_eqb}, List.{append-nil, length-append}, Fmt.{length-decimal-le, decimal_nonempty}}}, specs.{Prelude.IfSome, Str.IsUtf8}}
use Rattle.pm_wire.specs.{declared.back.{Severity.{Severity, TheVariants.{Error, Fatal, Panic, Warning}}, Tag.{Tag, TheVariants.{Insert, Update, Delete, Select}}}, Pieces.string, Backend.{kind_of, BackMessage, Complete, Fault, Notice, Saying, fields, fields_of, detail_field, severity_word, tag_text, HasCount, HoldsReport, SaysNoZero, report_length, detail_length}, Nonzero.{all_nonzero, has_no_zero}, pm_facts.Zeros.HasNoZero, Sizes.length_fields}
use Rattle.pm_wire_back.{specs.{declared.parts.Ending.TheVariants.{NotOneShort, Exactly}, BackReading.{Read, complete_at, report_at, leaves_number, text_room, severity_fields}, Parts.{may_end, ◌>>=◌}}, proofs.{Exact.{Then, Done}, Fields.{Code, String}, Digits.{Num, num_decimal, decimal_num}, Bodies.{last_exact, last_apart, last_word}, Tags.{TagBody, TagWord, inserted, updated, deleted, selected, tag_body_exact, tag_body_apart, tag_body_word, Verb, leaves, ReportBody, report_exact, report_apart, report_word, SeverityWord, as_error, as_fatal, as_panic, as_warning, Said, Detail, saying_of}, TypeBytes.{BodyIs, Good, good_from, of_kind}}}
use Rattle.pm_utf8.specs.{Utf8.boundary, Characters.{accepts, is_utf8}}

-- ---- tags

pub record Tagged (verb : List ℕ) (make : ℕ → Tag) (count : ℕ) (word : List ℕ) (t : Tag) : Type 0 where
  pub number : ℕ
  pub fits : number < 2 ^ 64
  pub tag_is : make number ≡ t
  pub word_is : word ≡ (verb ++ decimal number) ++ 0 ∷ []
  pub digits : length (decimal number) ≡ count

verb_into : (verb : List ℕ) (make : ℕ → Tag) (count : ℕ) → 1 ≤ count → (word : List ℕ) (t : Tag) → Verb verb make count word t → Tagged verb make count word t
verb_into verb make zero low word t h = absurd (omega (arith, low))
verb_into verb make (suc k) low word t h =
    let v = h.4 in
    let n = v.5 in
    let end = n.5 in
    let number = h.2 in
    let same : n.2 ≡ number = end.5.1 in
    let is : n.0 ≡ decimal n.2 = num_decimal true (2 ^ 64 - 1) k n.0 n.2 (omega arith) n.4 in
    let end_is : n.1 ≡ 0 ∷ [] = end.3 ∙ ap (λ (x : List ℕ). x ++ end.1) end.4 ∙ ap (λ (x : List ℕ). 0 ∷ x) end.5.0 in
    let whole : word ≡ (verb ++ decimal n.2) ++ 0 ∷ [] =
    h.3 ∙ ap (λ (x : List ℕ). h.0 ++ x) h.5.0 ∙ append-nil h.0 ∙ v.3 ∙ ap (λ (x : List ℕ). x ++ v.1) v.4
    ∙ ap (λ (x : List ℕ). verb ++ x) (n.3 ∙ ap (λ (x : List ℕ). x ++ n.1) is ∙ ap (λ (x : List ℕ). decimal n.2 ++ x) end_is) ∙ sym (append_assoc verb (decimal n.2) (0 ∷ [])) in
    let fits : n.2 < 2 ^ 64 = omega (arith, n.4.within) in
    let digits : length (decimal n.2) ≡ suc k = ap length (sym is) ∙ n.4.size in
    record { number = n.2; fits = fits; tag_is = ap make same ∙ h.5.1; word_is = whole; digits = digits }

verb_out : (verb : List ℕ) (make : ℕ → Tag) (n : ℕ) (word : List ℕ) (count : ℕ) → n < 2 ^ 64 → word ≡ (verb ++ decimal n) ++ 0 ∷ [] → length (decimal n) ≡ count → Verb verb make count word (make n)
verb_out verb make n word count fits e digits =
    let num : Num true (2 ^ 64 - 1) 0 count (decimal n) n = subst (λ (k : ℕ). Num true (2 ^ 64 - 1) 0 k (decimal n) n) digits (decimal_num true (2 ^ 64 - 1) n fits (omega (arith, fits)) (inl refl)) in (
      word,
      [],
      n,
      sym (append-nil word),
      (verb, decimal n ++ 0 ∷ [], tt, e ∙ append_assoc verb (decimal n) (0 ∷ []), refl, (decimal n, 0 ∷ [], n, refl, num, (0 ∷ [], [], tt, refl, refl, (refl, refl)))),
      (refl, refl),
    )

-- a tag's word with the tag that it is
record TagIs (size : ℕ) (word : List ℕ) (t : Tag) : Type 0 where
  is : word ≡ string (tag_text t)
  size_is : length word ≡ size
  fits : HasCount (Complete t)

tagged_size : (verb : List ℕ) (len size : ℕ) → length verb ≡ len → leaves_number len size ≡ true → (n : ℕ) (word : List ℕ) → word ≡ (verb ++ decimal n) ++ 0 ∷ [] → length (decimal n) ≡ size - (len + 1) → length word ≡ size
tagged_size verb len size long ok n word e digits =
    let fits = leaves len size ok in
    omega (arith, ap length e, length-append (verb ++ decimal n) (0 ∷ []), length-append verb (decimal n), long, digits, fits.0)

tag_is : (size : ℕ) (word : List ℕ) (t : Tag) → TagWord size word t → TagIs size word t
tag_is size word t (inserted ok h) =
    let v = verb_into (codes "INSERT 0 ") Insert (size - 10) (leaves 9 size ok).0 word t h in
    subst (TagIs size word) v.tag_is (record { is = v.word_is; size_is = tagged_size (codes "INSERT 0 ") 9 size refl ok v.number word v.word_is v.digits; fits = v.fits })
tag_is size word t (updated ok h) =
    let v = verb_into (codes "UPDATE ") Update (size - 8) (leaves 7 size ok).0 word t h in
    subst (TagIs size word) v.tag_is (record { is = v.word_is; size_is = tagged_size (codes "UPDATE ") 7 size refl ok v.number word v.word_is v.digits; fits = v.fits })
tag_is size word t (deleted ok h) =
    let v = verb_into (codes "DELETE ") Delete (size - 8) (leaves 7 size ok).0 word t h in
    subst (TagIs size word) v.tag_is (record { is = v.word_is; size_is = tagged_size (codes "DELETE ") 7 size refl ok v.number word v.word_is v.digits; fits = v.fits })
tag_is size word t (selected ok h) =
    let v = verb_into (codes "SELECT ") Select (size - 8) (leaves 7 size ok).0 word t h in
    subst (TagIs size word) v.tag_is (record { is = v.word_is; size_is = tagged_size (codes "SELECT ") 7 size refl ok v.number word v.word_is v.digits; fits = v.fits })

tag_into : (size : ℕ) (w : List ℕ) (m : BackMessage) → TagBody size w m → BodyIs 67 size w m
tag_into size w m h =
    let t = tag_is size h.0 h.2 h.4 in
    let whole : w ≡ h.0 = h.3 ∙ ap (λ (x : List ℕ). h.0 ++ x) h.5.0 ∙ append-nil h.0 in
    subst (λ (x : BackMessage). BodyIs 67 size w x) h.5.1 (record { is = whole ∙ t.is; kind_is = refl; size_is = ap length whole ∙ t.size_is; values = t.fits; writable = (tt, tt) })

digits_fit : (n : ℕ) → n < 2 ^ 64 → (1 ≤ length (decimal n)) × (length (decimal n) ≤ 20)
digits_fit n fits = (omega (arith, decimal_nonempty n fits), omega (arith, length-decimal-le 20 n (omega arith) (omega (arith, fits)) fits))

pub leaves_it : (len size n : ℕ) → n < 2 ^ 64 → len + length (decimal n) + 1 ≡ size → leaves_number len size ≡ true
leaves_it len size n fits e =
    let d = digits_fit n fits in
    rw (lt-ltb (len + 1) size (omega (arith, d.0, e)), lt-ltb size (len + 22) (omega (arith, d.1, e))) refl

verb_sum : (verb : List ℕ) (len size n : ℕ) (w : List ℕ) → length verb ≡ len → w ≡ string (verb ++ decimal n) → length w ≡ size → len + length (decimal n) + 1 ≡ size
verb_sum verb len size n w long e size_is = omega (arith, size_is, ap length e, length-append (verb ++ decimal n) (0 ∷ []), length-append verb (decimal n), long)

tag_word_out : (size : ℕ) (w : List ℕ) (t : Tag) → HasCount (Complete t) → w ≡ string (tag_text t) → length w ≡ size → TagWord size w t
tag_word_out size w (Insert n) fits e size_is =
    let sum_is = verb_sum (codes "INSERT 0 ") 9 size n w refl e size_is in inserted (leaves_it 9 size n fits sum_is) (verb_out (codes "INSERT 0 ") Insert n w (size - 10) fits e (omega (arith, sum_is)))
tag_word_out size w (Update n) fits e size_is =
    let sum_is = verb_sum (codes "UPDATE ") 7 size n w refl e size_is in updated (leaves_it 7 size n fits sum_is) (verb_out (codes "UPDATE ") Update n w (size - 8) fits e (omega (arith, sum_is)))
tag_word_out size w (Delete n) fits e size_is =
    let sum_is = verb_sum (codes "DELETE ") 7 size n w refl e size_is in deleted (leaves_it 7 size n fits sum_is) (verb_out (codes "DELETE ") Delete n w (size - 8) fits e (omega (arith, sum_is)))
tag_word_out size w (Select n) fits e size_is =
    let sum_is = verb_sum (codes "SELECT ") 7 size n w refl e size_is in selected (leaves_it 7 size n fits sum_is) (verb_out (codes "SELECT ") Select n w (size - 8) fits e (omega (arith, sum_is)))

tag_out : (size : ℕ) (w : List ℕ) (m : BackMessage) → BodyIs 67 size w m → TagBody size w m
tag_out size w m h =
    let t = of_kind 67 m h.kind_is in
    let b : BodyIs 67 size w (Complete t.0) = subst (λ (x : BackMessage). BodyIs 67 size w x) t.1 h in
    (w, [], t.0, sym (append-nil w), tag_word_out size w t.0 b.values b.is b.size_is, (refl, sym t.1))

pub good_tag : (size : ℕ) → (leaves_number 9 size ≡ true) ⊎ (leaves_number 7 size ≡ true) → Good 67 size (complete_at size)
good_tag size some = good_from 67 size (complete_at size) (TagBody size) (tag_into size) (tag_out size) (λ bytes _. tag_body_exact size bytes some) (tag_body_apart size) (tag_body_word size some)

-- ---- reports

record DetailIs (left : ℕ) (word : List ℕ) (d : Option (List ℕ)) : Type 0 where
  is : word ≡ detail_field d ++ 0 ∷ []
  size_is : length word ≡ left + 1
  sum_is : detail_length d ≡ left
  text : IfSome d IsUtf8
  nonzero : IfSome d HasNoZero

detail_is : (left : ℕ) (word : List ℕ) (d : Option (List ℕ)) → (left ≡ 1 → ⊥) → Detail left word d → DetailIs left word d
detail_is zero word d many h =
    let whole : word ≡ 0 ∷ [] = h.3 ∙ ap (λ (x : List ℕ). x ++ h.1) h.4 ∙ ap (λ (x : List ℕ). 0 ∷ x) h.5.0 in
    subst (DetailIs 0 word) h.5.1 (record { is = whole; size_is = ap length whole; sum_is = refl; text = tt; nonzero = tt })
detail_is (suc k) word d many h =
    let text_part = h.5 in
    let detail = text_part.2 in
    let at_detail : String Exactly boundary (suc k - 2) text_part.0 detail = text_part.4 in
    let end = text_part.5 in
    let end_is : text_part.1 ≡ 0 ∷ [] = end.3 ∙ ap (λ (x : List ℕ). x ++ end.1) end.4 ∙ ap (λ (x : List ℕ). 0 ∷ x) end.5.0 in
    let whole : word ≡ (68 ∷ (detail ++ 0 ∷ [])) ++ 0 ∷ [] =
    h.3 ∙ ap (λ (x : List ℕ). x ++ h.1) h.4 ∙ ap (λ (x : List ℕ). 68 ∷ x) (text_part.3 ∙ ap (λ (x : List ℕ). x ++ text_part.1) at_detail.spelled ∙ ap (λ (x : List ℕ). (detail ++ 0 ∷ []) ++ x) end_is) in
    let used : suc k - 2 - length detail ≡ 0 = eqb-true _ _ at_detail.may in
    let some : 2 ≤ suc k = (let no_one : k ≡ 0 → ⊥ = λ e. many (ap suc e) in omega (arith, no_one)) in
    let sum_is : 2 + length detail ≡ suc k = omega (arith, used, at_detail.short, some) in
    subst (DetailIs (suc k) word) end.5.1
    (record {
      is = whole;
      size_is = omega (arith, ap length whole, length-append (detail ++ 0 ∷ []) (0 ∷ []), length-append detail (0 ∷ []), sum_is);
      sum_is = sum_is;
      text = is_utf8 detail at_detail.text;
      nonzero = has_no_zero detail at_detail.nonzero;
    })

detail_out : (d : Option (List ℕ)) (word : List ℕ) → word ≡ detail_field d ++ 0 ∷ [] → IfSome d IsUtf8 → IfSome d HasNoZero → Detail (detail_length d) word d
detail_out None word e text nonzero = (0 ∷ [], [], tt, e, refl, (refl, refl))
detail_out (Some detail) word e text nonzero =
    let two : suc (suc (length detail)) ≡ 2 + length detail = omega arith in
    let made : Detail (suc (suc (length detail))) word (Some detail) = (
      68 ∷ [],
      (detail ++ 0 ∷ []) ++ 0 ∷ [],
      tt,
      e,
      refl,
      (
        detail ++ 0 ∷ [],
        0 ∷ [],
        detail,
        refl,
        record { spelled = refl; nonzero = all_nonzero detail nonzero; short = omega arith; may = eq-eqb _ _ (omega arith); text = accepts detail text },
        (0 ∷ [], [], tt, refl, refl, (refl, refl)),
      ),
    ) in
    subst (λ (n : ℕ). Detail n word (Some detail)) two made

-- a report of this severity after its first letter
record SaidIs (size : ℕ) (word : List ℕ) (s : Saying) : Type 0 where
  is : 83 ∷ word ≡ fields_of s
  size_is : suc (length word) ≡ size
  holds : HoldsReport s
  nonzero : SaysNoZero s

fields_plain : (word code text d : List ℕ)
    → (83 ∷ [] ++ (word ++ 0 ∷ [])) ++ (86 ∷ [] ++ (word ++ 0 ∷ [])) ++ (67 ∷ [] ++ (code ++ 0 ∷ [])) ++ (77 ∷ [] ++ (text ++ 0 ∷ [])) ++ d ++ 0 ∷ []
    ≡ 83 ∷ ((word ++ 0 ∷ 86 ∷ [] ++ word ++ 0 ∷ 67 ∷ []) ++ (code ++ (0 ∷ 77 ∷ ((text ++ 0 ∷ []) ++ (d ++ 0 ∷ [])))))
fields_plain word code text d = simp append_assoc

fields_whole : (severity : Severity) (code text : List ℕ) (detail : Option (List ℕ))
    → fields_of (saying_of severity code text detail) ≡ 83 ∷ (severity_fields severity ++ (code ++ (0 ∷ 77 ∷ ((text ++ 0 ∷ []) ++ (detail_field detail ++ 0 ∷ [])))))
unfolding fields
fields_whole severity code text detail = fields_plain (severity_word severity) code text (detail_field detail)

said_is : (severity : Severity) (size : ℕ) → 2 * length (severity_word severity) + 14 ≤ size → (word : List ℕ) (s : Saying) → Said severity size word s → SaidIs size word s
said_is severity size low word s h =
    let room = text_room severity size in
    let code_part = h.5 in
    let code = code_part.2 in
    let at_code : Code 5 code_part.0 code = code_part.4 in
    let letter_part = code_part.5 in
    let text_part = letter_part.5 in
    let text = text_part.2 in
    let at_text : String NotOneShort boundary room text_part.0 text = text_part.4 in
    let detail_part = text_part.5 in
    let detail = detail_part.2 in
    let many : room - length text ≡ 1 → ⊥ = λ e. (let one : eqb (room - length text) 1 ≡ true = eq-eqb _ _ e in let may = at_text.may in not_one (room - length text) one may) in
    let d = detail_is (room - length text) detail_part.0 detail many detail_part.4 in
    let detail_word : text_part.1 ≡ detail_field detail ++ 0 ∷ [] = detail_part.3 ∙ ap (λ (x : List ℕ). detail_part.0 ++ x) detail_part.5.0 ∙ append-nil detail_part.0 ∙ d.is in
    let text_word : letter_part.1 ≡ (text ++ 0 ∷ []) ++ (detail_field detail ++ 0 ∷ []) =
    text_part.3 ∙ ap (λ (x : List ℕ). x ++ text_part.1) at_text.spelled ∙ ap (λ (x : List ℕ). (text ++ 0 ∷ []) ++ x) detail_word in
    let code_word : code_part.1 ≡ 0 ∷ 77 ∷ ((text ++ 0 ∷ []) ++ (detail_field detail ++ 0 ∷ [])) =
    letter_part.3 ∙ ap (λ (x : List ℕ). x ++ letter_part.1) letter_part.4 ∙ ap (λ (x : List ℕ). 0 ∷ 77 ∷ x) text_word in
    let severity_part : h.1 ≡ code ++ (0 ∷ 77 ∷ ((text ++ 0 ∷ []) ++ (detail_field detail ++ 0 ∷ []))) =
    code_part.3 ∙ ap (λ (x : List ℕ). x ++ code_part.1) at_code.0 ∙ ap (λ (x : List ℕ). code ++ x) code_word in
    let word_is : word ≡ severity_fields severity ++ (code ++ (0 ∷ 77 ∷ ((text ++ 0 ∷ []) ++ (detail_field detail ++ 0 ∷ [])))) =
    h.3 ∙ ap (λ (x : List ℕ). x ++ h.1) h.4 ∙ ap (λ (x : List ℕ). severity_fields severity ++ x) severity_part in
    let is : 83 ∷ word ≡ fields_of (saying_of severity code text detail) = ap (λ (x : List ℕ). 83 ∷ x) word_is ∙ sym (fields_whole severity code text detail) in
    let size_is : suc (length word) ≡ size =
    omega (arith, ap length is, length_fields (severity_word severity) code text detail, at_code.1, d.sum_is, at_text.short, low) in
    subst (SaidIs size word) detail_part.5.1
    (record { is = is; size_is = size_is; holds = (at_code.1, is_utf8 text at_text.text, d.text); nonzero = (has_no_zero code at_code.2, has_no_zero text at_text.nonzero, d.nonzero) })
  where
    not_one : (n : ℕ) → eqb n 1 ≡ true → may_end NotOneShort n ≡ true → ⊥
    not_one n one may = let no_end : may_end NotOneShort n ≡ false = rw one refl in cc

said_out : (severity : Severity) (size : ℕ) (word code text : List ℕ) (detail : Option (List ℕ)) → 83 ∷ word ≡ fields_of (saying_of severity code text detail) → suc (length word) ≡ size
    → HoldsReport (saying_of severity code text detail) → SaysNoZero (saying_of severity code text detail) → Said severity size word (saying_of severity code text detail)
said_out severity size word code text detail e size_is holds nonzero =
    let room = text_room severity size in
    let word_is : word ≡ severity_fields severity ++ (code ++ (0 ∷ 77 ∷ ((text ++ 0 ∷ []) ++ (detail_field detail ++ 0 ∷ [])))) = (let f = e ∙ fields_whole severity code text detail in cc) in
    let sum_is : 2 * length (severity_word severity) + 14 + length text + detail_length detail ≡ size = omega (arith, size_is, ap length e, length_fields (severity_word severity) code text detail, holds.0) in
    let left : room - length text ≡ detail_length detail = omega (arith, sum_is) in
    let may : may_end NotOneShort (room - length text) ≡ true = ap (may_end NotOneShort) left ∙ detail_may detail in
    let d : Detail (room - length text) (detail_field detail ++ 0 ∷ []) detail = subst (λ (n : ℕ). Detail n (detail_field detail ++ 0 ∷ []) detail) (sym left) (detail_out detail (detail_field detail ++ 0 ∷ []) refl holds.2 nonzero.2) in (
      severity_fields severity,
      code ++ (0 ∷ 77 ∷ ((text ++ 0 ∷ []) ++ (detail_field detail ++ 0 ∷ []))),
      tt,
      word_is,
      refl,
      (
        code,
        0 ∷ 77 ∷ ((text ++ 0 ∷ []) ++ (detail_field detail ++ 0 ∷ [])),
        code,
        refl,
        (refl, holds.0, all_nonzero code nonzero.0),
        (
          0 ∷ 77 ∷ [],
          (text ++ 0 ∷ []) ++ (detail_field detail ++ 0 ∷ []),
          tt,
          refl,
          refl,
          (
            text ++ 0 ∷ [],
            detail_field detail ++ 0 ∷ [],
            text,
            refl,
            record { spelled = refl; nonzero = all_nonzero text nonzero.1; short = omega (arith, sum_is); may = may; text = accepts text holds.1 },
            (detail_field detail ++ 0 ∷ [], [], detail, sym (append-nil (detail_field detail ++ 0 ∷ [])), d, (refl, refl)),
          ),
        ),
      ),
    )
  where
    detail_may : (detail : Option (List ℕ)) → may_end NotOneShort (detail_length detail) ≡ true
    detail_may None = refl
    detail_may (Some d) = rw (ne_eqb (2 + length d) 1 (λ z. omega (arith, z))) refl

severity_is : (size : ℕ) → 24 ≤ size → (word : List ℕ) (s : Saying) → SeverityWord size word s → SaidIs size word s
severity_is size low word s (as_error h) = said_is Error size low word s h
severity_is size low word s (as_fatal h) = said_is Fatal size low word s h
severity_is size low word s (as_panic h) = said_is Panic size low word s h
severity_is size low word s (as_warning ok h) = said_is Warning size (omega (arith, ltb-true _ _ ok)) word s h

severity_out : (size : ℕ) (word : List ℕ) (s : Saying) → SaidIs size word s → SeverityWord size word s
severity_out size word s h = go s.severity s.code s.text s.detail h
  where
    go : (severity : Severity) (code text : List ℕ) (detail : Option (List ℕ)) → SaidIs size word (saying_of severity code text detail) → SeverityWord size word (saying_of severity code text detail)
    go Error code text detail k = as_error (said_out Error size word code text detail k.is k.size_is k.holds k.nonzero)
    go Fatal code text detail k = as_fatal (said_out Fatal size word code text detail k.is k.size_is k.holds k.nonzero)
    go Panic code text detail k = as_panic (said_out Panic size word code text detail k.is k.size_is k.holds k.nonzero)
    go Warning code text detail k =
        let long : 27 < size = omega (arith, k.size_is, ap length k.is, length_fields (severity_word Warning) code text detail, k.holds.0) in
        as_warning (lt-ltb 27 size long) (said_out Warning size word code text detail k.is k.size_is k.holds k.nonzero)

report_is : (size : ℕ) → 24 ≤ size → (w : List ℕ) (s : Saying) → ReportBody size w s → (w ≡ fields_of s) × (length w ≡ size) × HoldsReport s × SaysNoZero s
report_is size low w s h =
    let k = severity_is size low h.1 s h.5 in
    let whole : w ≡ 83 ∷ h.1 = h.3 ∙ ap (λ (x : List ℕ). x ++ h.1) h.4 in
    (whole ∙ k.is, ap length whole ∙ k.size_is, k.holds, k.nonzero)

report_out : (size : ℕ) (w : List ℕ) (s : Saying) → w ≡ fields_of s → length w ≡ size → HoldsReport s → SaysNoZero s → ReportBody size w s
report_out size w s e size_is holds nonzero =
    let whole = fields_whole s.severity s.code s.text s.detail in
    let rest = severity_fields s.severity ++ (s.code ++ (0 ∷ 77 ∷ ((s.text ++ 0 ∷ []) ++ (detail_field s.detail ++ 0 ∷ [])))) in
    let word_is : w ≡ 83 ∷ rest = e ∙ whole in
    (83 ∷ [], rest, tt, word_is, refl, severity_out size rest s (record { is = sym whole; size_is = sym (ap length word_is) ∙ size_is; holds = holds; nonzero = nonzero }))

report_short : (s : Saying) (size : ℕ) (w : List ℕ) → w ≡ fields_of s → length w ≡ size → size + 4 < 2 ^ 31 → report_length s < 2 ^ 31
report_short s size w e size_is high = omega (arith, ap length e, size_is, length_fields (severity_word s.severity) s.code s.text s.detail, high)

abbrev pub SayingBody : (Saying → BackMessage) → ℕ → List ℕ → BackMessage → Type 0
SayingBody make size = Then (ReportBody size) (λ s. Done (make s))

abbrev pub saying_at : (Saying → BackMessage) → ℕ → List ℕ → Read
saying_at make size bytes = report_at size bytes >>= λ s. Ok (make s.0, s.1)

-- the type of messages that hold a report and nothing else
record ReportType (kind size : ℕ) (make : Saying → BackMessage) : Type 0 where
  of : (m : BackMessage) → kind_of m ≡ kind ∷ [] → (s : Saying) × (m ≡ make s)
  made : (w : List ℕ) (s : Saying) → w ≡ fields_of s → length w ≡ size → HoldsReport s → SaysNoZero s → report_length s < 2 ^ 31 → BodyIs kind size w (make s)
  unmade : (w : List ℕ) (s : Saying) → BodyIs kind size w (make s) → (w ≡ fields_of s) × (length w ≡ size) × HoldsReport s × SaysNoZero s

fault_type : (size : ℕ) → ReportType 69 size Fault
fault_type size = record {
  of = of_kind 69;
  made = λ w s is size_is holds nonzero short. record { is = is; kind_is = refl; size_is = size_is; values = holds; writable = (nonzero, short) };
  unmade = λ w s b. (b.is, b.size_is, b.values, b.writable.0);
}

notice_type : (size : ℕ) → ReportType 78 size Notice
notice_type size = record {
  of = of_kind 78;
  made = λ w s is size_is holds nonzero short. record { is = is; kind_is = refl; size_is = size_is; values = holds; writable = (nonzero, short) };
  unmade = λ w s b. (b.is, b.size_is, b.values, b.writable.0);
}

saying_into : (kind size : ℕ) (make : Saying → BackMessage) → ReportType kind size make → 24 ≤ size → size + 4 < 2 ^ 31 → (w : List ℕ) (m : BackMessage) → SayingBody make size w m → BodyIs kind size w m
saying_into kind size make type low high w m h =
    let r = report_is size low h.0 h.2 h.4 in
    let whole : w ≡ h.0 = h.3 ∙ ap (λ (x : List ℕ). h.0 ++ x) h.5.0 ∙ append-nil h.0 in
    subst (λ (x : BackMessage). BodyIs kind size w x) h.5.1 (type.made w h.2 (whole ∙ r.0) (ap length whole ∙ r.1) r.2 r.3 (report_short h.2 size h.0 r.0 r.1 high))

saying_out : (kind size : ℕ) (make : Saying → BackMessage) → ReportType kind size make → (w : List ℕ) (m : BackMessage) → BodyIs kind size w m → SayingBody make size w m
saying_out kind size make type w m h =
    let f = type.of m h.kind_is in
    let u = type.unmade w f.0 (subst (λ (x : BackMessage). BodyIs kind size w x) f.1 h) in
    (w, [], f.0, sym (append-nil w), report_out size w f.0 u.0 u.1 u.2 u.3, (refl, sym f.1))

good_report : (kind size : ℕ) (make : Saying → BackMessage) → ReportType kind size make → 24 ≤ size → size + 4 < 2 ^ 31 → Good kind size (saying_at make size)
good_report kind size make type low high =
    good_from kind size (saying_at make size) (SayingBody make size) (saying_into kind size make type low high) (saying_out kind size make type)
    (λ bytes _. last_exact (ReportBody size) make (report_apart size) bytes (report_at size bytes) (report_exact size bytes))
    (last_apart (ReportBody size) make (report_apart size)) (last_word (ReportBody size) make (report_word size))

pub good_fault : (size : ℕ) → 24 ≤ size → size + 4 < 2 ^ 31 → Good 69 size (saying_at Fault size)
good_fault size = good_report 69 size Fault (fault_type size)

pub good_notice : (size : ℕ) → 24 ≤ size → size + 4 < 2 ^ 31 → Good 78 size (saying_at Notice size)
good_notice size = good_report 78 size Notice (notice_type size)
