-- Tags and reports: their languages, and that reading them is exact.
use Rattle.std.proofs.{Common.{◌≡◌, ℕ, zero, suc, ◌+◌, ◌-◌, ◌^◌, ◌<◌, ◌≤◌, ◌⊎◌, Bool, true, false, ◌==◌, ◌&&◌, eqb, ltb, List, [], ◌∷◌, ◌++◌, length, drop, codes, Option, Some, None, Result, Ok, refl, sym, ap, subst, ◌∙◌, inl, inr, arith, append_assoc}, lemmas.{Bool.{cond_both, eqb-true, eqb-false, ltb-true, and_parts, ne_eqb, eq-eqb}, List.length-append}}
use Rattle.pm_wire.specs.{declared.back.{Severity.{Severity, TheVariants.{Error, Fatal, Panic, Warning}}, Tag.{Tag, TheVariants.{Insert, Update, Delete, Select}}}, Backend.{BackMessage, Complete, Saying}}
use Rattle.pm_wire_back.{specs.{declared.parts.{Stop.Stop, Ending.TheVariants.{NotOneShort, Exactly}}, Parts.{◌>>=◌, code_at, string_at, number_at}, BackReading.{counted_verb_at, verb_at, leaves_number, tag_at, complete_at, detail_at, severity_fields, text_room, said_at, severity_at, report_at}}, proofs.{Exact.{Apart, GoesOn, HasWord, Exact, Then, Done, done_exact, done_apart, done_word, then_apart, then_word, then_exact}, Fields.{departs_now, Code, code_apart, code_word, code_exact, String, string_apart, string_word, string_exact, bind_same}, Digits.{Num, num_apart, num_word, number_exact, exact_starting, powers_of_64}, Bodies.{Behind, behind_exact, behind_apart, behind_word, last_exact, last_apart, last_word, same_first}}}
use Rattle.pm_utf8.specs.{Utf8.boundary, States.boundary_sound}

-- ---- tags

abbrev Ended : ℕ → List ℕ → ℕ → Type 0
Ended n = Behind (0 ∷ []) (Done n)

abbrev Counted : ℕ → List ℕ → ℕ → Type 0
Counted count = Then (Num true (2 ^ 64 - 1) 0 count) (λ n. Ended n)

abbrev pub VerbNumber : List ℕ → ℕ → List ℕ → ℕ → Type 0
VerbNumber verb count = Behind verb (Counted count)

abbrev pub Verb : List ℕ → (ℕ → Tag) → ℕ → List ℕ → Tag → Type 0
Verb verb make count = Then (VerbNumber verb count) (λ n. Done (make n))

ended_word : (n : ℕ) → HasWord (Ended n)
ended_word n = behind_word (0 ∷ []) (Done n) (done_word n)

counted_word : (count : ℕ) → 1 ≤ count → count ≤ 20 → HasWord (Counted count)
counted_word zero low high = absurd (omega (arith, low))
counted_word (suc k) low high = let n = num_word true (2 ^ 64 - 1) k (powers_of_64 k (omega (arith, high))) in then_word (Num true (2 ^ 64 - 1) 0 (suc k)) (λ n. Ended n) n (ended_word n.1)

number_word : (count : ℕ) → 1 ≤ count → count ≤ 20 → HasWord (Num true (2 ^ 64 - 1) 0 count)
number_word zero low high = absurd (omega (arith, low))
number_word (suc k) low high = num_word true (2 ^ 64 - 1) k (powers_of_64 k (omega (arith, high)))

pub verb_word : (verb : List ℕ) (make : ℕ → Tag) (count : ℕ) → 1 ≤ count → count ≤ 20 → HasWord (Verb verb make count)
verb_word verb make count low high = last_word (VerbNumber verb count) make (behind_word verb (Counted count) (counted_word count low high))

verb_number_apart : (verb : List ℕ) (count : ℕ) → Apart (VerbNumber verb count)
verb_number_apart verb count =
    behind_apart verb (Counted count) (then_apart (Num true (2 ^ 64 - 1) 0 count) (λ n. Ended n) (num_apart true (2 ^ 64 - 1) 0 count) (λ n. behind_apart (0 ∷ []) (Done n) (done_apart n)))

verb_exact : (verb : List ℕ) (make : ℕ → Tag) (count : ℕ) (bytes : List ℕ) → 1 ≤ count → count ≤ 20 → Exact (Verb verb make count) bytes (verb_at verb make count bytes)
unfolding counted_verb_at
verb_exact verb make count bytes low high =
    last_exact (VerbNumber verb count) make (verb_number_apart verb count) bytes (counted_verb_at verb count bytes)
    (behind_exact verb (Counted count) (counted_word count low high) bytes _
    (λ u rest _. then_exact (Num true (2 ^ 64 - 1) 0 count) (λ n. Ended n) (num_apart true (2 ^ 64 - 1) 0 count) (λ v n _. ended_word n) rest (number_at true (2 ^ 64 - 1) 0 count rest) _
    (number_exact count rest true (2 ^ 64 - 1) 0 (number_word count low high))
    (λ v after n _ _. behind_exact (0 ∷ []) (Done n) (done_word n) after (λ p. Ok (n, p.1)) (λ w behind _. done_exact n behind))))

-- a word with this tag begins with the verb
verb_first : (v b : ℕ) (vs w : List ℕ) (make : ℕ → Tag) (count : ℕ) (t : Tag) → Verb (v ∷ vs) make count (b ∷ w) t → b ≡ v
verb_first v b vs w make count t h =
    let whole : b ∷ w ≡ v ∷ (vs ++ (h.4.1 ++ h.1)) =
    h.3 ∙ ap (λ (x : List ℕ). x ++ h.1) (h.4.3 ∙ ap (λ (x : List ℕ). x ++ h.4.1) h.4.4) ∙ append_assoc (v ∷ vs) h.4.1 h.1 in
    same_first b v w (vs ++ (h.4.1 ++ h.1)) whole

abbrev insert_verb : List ℕ
insert_verb = codes "INSERT 0 "

abbrev update_verb : List ℕ
update_verb = codes "UPDATE "

abbrev delete_verb : List ℕ
delete_verb = codes "DELETE "

abbrev select_verb : List ℕ
select_verb = codes "SELECT "

pub data TagWord (size : ℕ) (word : List ℕ) (t : Tag) : Type 0 where
  inserted : leaves_number 9 size ≡ true → Verb insert_verb Insert (size - 10) word t → TagWord size word t
  updated : leaves_number 7 size ≡ true → Verb update_verb Update (size - 8) word t → TagWord size word t
  deleted : leaves_number 7 size ≡ true → Verb delete_verb Delete (size - 8) word t → TagWord size word t
  selected : leaves_number 7 size ≡ true → Verb select_verb Select (size - 8) word t → TagWord size word t

pub leaves : (len size : ℕ) → leaves_number len size ≡ true → (1 ≤ size - (len + 1)) × (size - (len + 1) ≤ 20)
leaves len size h =
    let both = and_parts (ltb (len + 1) size) (ltb size (len + 22)) h in
    (omega (arith, ltb-true _ _ both.0), omega (arith, ltb-true _ _ both.1))

-- the tag of this first byte
first_insert : (size : ℕ) (w : List ℕ) (t : Tag) → TagWord size (73 ∷ w) t → Verb insert_verb Insert (size - 10) (73 ∷ w) t
first_insert size w t (inserted ok h) = h
first_insert size w t (updated ok h) = absurd (omega (arith, verb_first 85 73 (codes "PDATE ") w Update (size - 8) t h))
first_insert size w t (deleted ok h) = absurd (omega (arith, verb_first 68 73 (codes "ELETE ") w Delete (size - 8) t h))
first_insert size w t (selected ok h) = absurd (omega (arith, verb_first 83 73 (codes "ELECT ") w Select (size - 8) t h))

first_update : (size : ℕ) (w : List ℕ) (t : Tag) → TagWord size (85 ∷ w) t → Verb update_verb Update (size - 8) (85 ∷ w) t
first_update size w t (inserted ok h) = absurd (omega (arith, verb_first 73 85 (codes "NSERT 0 ") w Insert (size - 10) t h))
first_update size w t (updated ok h) = h
first_update size w t (deleted ok h) = absurd (omega (arith, verb_first 68 85 (codes "ELETE ") w Delete (size - 8) t h))
first_update size w t (selected ok h) = absurd (omega (arith, verb_first 83 85 (codes "ELECT ") w Select (size - 8) t h))

first_delete : (size : ℕ) (w : List ℕ) (t : Tag) → TagWord size (68 ∷ w) t → Verb delete_verb Delete (size - 8) (68 ∷ w) t
first_delete size w t (inserted ok h) = absurd (omega (arith, verb_first 73 68 (codes "NSERT 0 ") w Insert (size - 10) t h))
first_delete size w t (updated ok h) = absurd (omega (arith, verb_first 85 68 (codes "PDATE ") w Update (size - 8) t h))
first_delete size w t (deleted ok h) = h
first_delete size w t (selected ok h) = absurd (omega (arith, verb_first 83 68 (codes "ELECT ") w Select (size - 8) t h))

first_select : (size : ℕ) (w : List ℕ) (t : Tag) → TagWord size (83 ∷ w) t → Verb select_verb Select (size - 8) (83 ∷ w) t
first_select size w t (inserted ok h) = absurd (omega (arith, verb_first 73 83 (codes "NSERT 0 ") w Insert (size - 10) t h))
first_select size w t (updated ok h) = absurd (omega (arith, verb_first 85 83 (codes "PDATE ") w Update (size - 8) t h))
first_select size w t (deleted ok h) = absurd (omega (arith, verb_first 68 83 (codes "ELETE ") w Delete (size - 8) t h))
first_select size w t (selected ok h) = h

-- a branch of a choice by the first byte
branch : {X Y : Type 0} (L : List ℕ → Y → Type 0) (M : List ℕ → X → Type 0) (g : X → Y) (b v : ℕ) (ok : Bool) (bs : List ℕ) (read : List ℕ → Result (X × List ℕ) Stop)
    → (b == v && ok) ≡ true → (ok ≡ true → (w : List ℕ) (x : X) → M w x → L w (g x)) → ((w : List ℕ) (y : Y) → L (v ∷ w) y → (x : X) × M (v ∷ w) x)
    → (ok ≡ true → (bytes : List ℕ) → Exact M bytes (read bytes)) → Exact L (b ∷ bs) (read (b ∷ bs) >>= λ p. Ok (g p.0, p.1))
branch L M g b v ok bs read test into out exact =
    let both = and_parts (eqb b v) ok test in
    let P : ℕ → Type 0 = λ c. Exact L (c ∷ bs) (read (c ∷ bs) >>= λ p. Ok (g p.0, p.1)) in
    subst P (sym (eqb-true _ _ both.0)) (exact_starting L M g v (into both.1) out bs (read (v ∷ bs)) (exact both.1 (v ∷ bs)))

no_branch : (b v : ℕ) (ok : Bool) → (b == v && ok) ≡ false → b ≡ v → ok ≡ true → ⊥
no_branch b v ok h same yes_ok = let yes_both : (b == v && ok) ≡ true = rw (eq-eqb b v same, yes_ok) refl in absurd cc

verb_long : (verb : List ℕ) (make : ℕ → Tag) (count : ℕ) (word : List ℕ) (t : Tag) → Verb verb make count word t → length verb ≤ length word
verb_long verb make count word t h =
    omega (arith, ap length h.3, length-append h.0 h.1, ap length h.4.3, length-append h.4.0 h.4.1, ap length h.4.4)

tag_goes : (size : ℕ) → (leaves_number 9 size ≡ true) ⊎ (leaves_number 7 size ≡ true) → GoesOn (TagWord size) []
tag_goes size (inl ok) =
    let fits = leaves 9 size ok in
    let w = verb_word insert_verb Insert (size - 10) fits.0 fits.1 in
    (w.0, w.1, omega (arith, verb_long insert_verb Insert (size - 10) w.0 w.1 w.2), inserted ok w.2)
tag_goes size (inr ok) =
    let fits = leaves 7 size ok in
    let w = verb_word update_verb Update (size - 8) fits.0 fits.1 in
    (w.0, w.1, omega (arith, verb_long update_verb Update (size - 8) w.0 w.1 w.2), updated ok w.2)

pub tag_word : (size : ℕ) → (leaves_number 9 size ≡ true) ⊎ (leaves_number 7 size ≡ true) → HasWord (TagWord size)
tag_word size some = let g = tag_goes size some in (g.0, g.1, g.3)

tag_branch : (size : ℕ) (verb : List ℕ) (make : ℕ → Tag) (len v b : ℕ) (bs : List ℕ) → (b == v && leaves_number len size) ≡ true
    → (leaves_number len size ≡ true → (w : List ℕ) (t : Tag) → Verb verb make (size - (len + 1)) w t → TagWord size w t)
    → ((w : List ℕ) (t : Tag) → TagWord size (v ∷ w) t → Verb verb make (size - (len + 1)) (v ∷ w) t)
    → Exact (TagWord size) (b ∷ bs) (verb_at verb make (size - (len + 1)) (b ∷ bs))
tag_branch size verb make len v b bs test into out =
    subst (Exact (TagWord size) (b ∷ bs)) (bind_same (verb_at verb make (size - (len + 1)) (b ∷ bs)))
    (branch (TagWord size) (Verb verb make (size - (len + 1))) (λ t. t) b v (leaves_number len size) bs (verb_at verb make (size - (len + 1))) test into (λ w t h. (t, out w t h))
    (λ ok bytes. let fits = leaves len size ok in verb_exact verb make (size - (len + 1)) bytes fits.0 fits.1))

pub tag_exact : (size : ℕ) (bytes : List ℕ) → (leaves_number 9 size ≡ true) ⊎ (leaves_number 7 size ≡ true) → Exact (TagWord size) bytes (tag_at size bytes)
unfolding tag_at
tag_exact size [] some = tag_goes size some
tag_exact size (b ∷ bs) some =
    let L = TagWord size in
    cond_both (b == 73 && leaves_number 9 size) _ _ (Exact L (b ∷ bs))
    (λ test. tag_branch size insert_verb Insert 9 73 b bs test (λ ok w t h. inserted ok h) (first_insert size))
    (λ no_insert. cond_both (b == 85 && leaves_number 7 size) _ _ (Exact L (b ∷ bs))
    (λ test. tag_branch size update_verb Update 7 85 b bs test (λ ok w t h. updated ok h) (first_update size))
    (λ no_update. cond_both (b == 68 && leaves_number 7 size) _ _ (Exact L (b ∷ bs))
    (λ test. tag_branch size delete_verb Delete 7 68 b bs test (λ ok w t h. deleted ok h) (first_delete size))
    (λ no_delete. cond_both (b == 83 && leaves_number 7 size) _ _ (Exact L (b ∷ bs))
    (λ test. tag_branch size select_verb Select 7 83 b bs test (λ ok w t h. selected ok h) (first_select size))
    (λ no_select. departs_now L b bs (tag_goes size some) (λ more t h. nothing more t h no_insert no_update no_delete no_select)))))
  where
    nothing : (more : List ℕ) (t : Tag) → TagWord size (b ∷ more) t → (b == 73 && leaves_number 9 size) ≡ false → (b == 85 && leaves_number 7 size) ≡ false
        → (b == 68 && leaves_number 7 size) ≡ false → (b == 83 && leaves_number 7 size) ≡ false → ⊥
    nothing more t (inserted ok h) i u d s = no_branch b 73 (leaves_number 9 size) i (verb_first 73 b (codes "NSERT 0 ") more Insert (size - 10) t h) ok
    nothing more t (updated ok h) i u d s = no_branch b 85 (leaves_number 7 size) u (verb_first 85 b (codes "PDATE ") more Update (size - 8) t h) ok
    nothing more t (deleted ok h) i u d s = no_branch b 68 (leaves_number 7 size) d (verb_first 68 b (codes "ELETE ") more Delete (size - 8) t h) ok
    nothing more t (selected ok h) i u d s = no_branch b 83 (leaves_number 7 size) s (verb_first 83 b (codes "ELECT ") more Select (size - 8) t h) ok

abbrev pub TagBody : ℕ → List ℕ → BackMessage → Type 0
TagBody size = Then (TagWord size) (λ t. Done (Complete t))

-- ---- reports

abbrev pub Detail : ℕ → List ℕ → Option (List ℕ) → Type 0
Detail zero = Behind (0 ∷ []) (Done None)
Detail (suc k) = Behind (68 ∷ []) (Then (String Exactly boundary (suc k - 2)) (λ d. Behind (0 ∷ []) (Done (Some d))))

detail_end : (d : List ℕ) → HasWord (Behind (0 ∷ []) (Done (Some d)))
detail_end d = behind_word (0 ∷ []) (Done (Some d)) (done_word (Some d))

detail_string : (k : ℕ) → HasWord (Then (String Exactly boundary (suc k - 2)) (λ d. Behind (0 ∷ []) (Done (Some d))))
detail_string k = let d = string_word Exactly (suc k - 2) in then_word (String Exactly boundary (suc k - 2)) (λ d. Behind (0 ∷ []) (Done (Some d))) d (detail_end d.1)

pub detail_word : (left : ℕ) → HasWord (Detail left)
detail_word zero = behind_word (0 ∷ []) (Done None) (done_word None)
detail_word (suc k) = behind_word (68 ∷ []) (Then (String Exactly boundary (suc k - 2)) (λ d. Behind (0 ∷ []) (Done (Some d)))) (detail_string k)

pub detail_exact : (left : ℕ) (bytes : List ℕ) → Exact (Detail left) bytes (detail_at left bytes)
unfolding detail_at
detail_exact zero bytes = behind_exact (0 ∷ []) (Done None) (done_word None) bytes (λ p. Ok (None, p.1)) (λ u rest _. done_exact None rest)
detail_exact (suc k) bytes =
    let other : eqb (suc k) 0 ≡ false = ne_eqb (suc k) 0 (λ e. omega (arith, e)) in
    rw other
    (behind_exact (68 ∷ []) (Then (String Exactly boundary (suc k - 2)) (λ d. Behind (0 ∷ []) (Done (Some d)))) (detail_string k) bytes _
    (λ u rest _. then_exact (String Exactly boundary (suc k - 2)) (λ d. Behind (0 ∷ []) (Done (Some d))) (string_apart Exactly boundary (suc k - 2)) (λ v d _. detail_end d)
    rest (string_at Exactly boundary (suc k - 2) rest) _ (string_exact rest Exactly boundary (suc k - 2) boundary_sound (omega arith))
    (λ v after d _ _. behind_exact (0 ∷ []) (Done (Some d)) (done_word (Some d)) after (λ p. Ok (Some d, p.1)) (λ w behind _. done_exact (Some d) behind))))

pub detail_apart : (left : ℕ) → Apart (Detail left)
detail_apart zero = behind_apart (0 ∷ []) (Done None) (done_apart None)
detail_apart (suc k) =
    behind_apart (68 ∷ []) (Then (String Exactly boundary (suc k - 2)) (λ d. Behind (0 ∷ []) (Done (Some d))))
    (then_apart (String Exactly boundary (suc k - 2)) (λ d. Behind (0 ∷ []) (Done (Some d))) (string_apart Exactly boundary (suc k - 2)) (λ d. behind_apart (0 ∷ []) (Done (Some d)) (done_apart (Some d))))

abbrev pub saying_of : Severity → (code text : List ℕ) → Option (List ℕ) → Saying
saying_of severity code text detail = record { severity = severity; code = code; text = text; detail = detail }

abbrev pub Ending : Severity → ℕ → (code text : List ℕ) → List ℕ → Saying → Type 0
Ending severity size code text = Then (Detail (text_room severity size - length text)) (λ d. Done (saying_of severity code text d))

abbrev pub SaidText : Severity → ℕ → List ℕ → List ℕ → Saying → Type 0
SaidText severity size code = Behind (0 ∷ 77 ∷ []) (Then (String NotOneShort boundary (text_room severity size)) (λ text. Ending severity size code text))

abbrev pub Said : Severity → ℕ → List ℕ → Saying → Type 0
Said severity size = Behind (severity_fields severity) (Then (Code 5) (λ code. SaidText severity size code))

ending_word : (severity : Severity) (size : ℕ) (code text : List ℕ) → HasWord (Ending severity size code text)
ending_word severity size code text = last_word (Detail (text_room severity size - length text)) (λ d. saying_of severity code text d) (detail_word (text_room severity size - length text))

said_string : (severity : Severity) (size : ℕ) (code : List ℕ) → HasWord (Then (String NotOneShort boundary (text_room severity size)) (λ text. Ending severity size code text))
said_string severity size code =
    let t = string_word NotOneShort (text_room severity size) in
    then_word (String NotOneShort boundary (text_room severity size)) (λ text. Ending severity size code text) t (ending_word severity size code t.1)

said_text : (severity : Severity) (size : ℕ) (code : List ℕ) → HasWord (SaidText severity size code)
said_text severity size code = behind_word (0 ∷ 77 ∷ []) (Then (String NotOneShort boundary (text_room severity size)) (λ text. Ending severity size code text)) (said_string severity size code)

said_code : (severity : Severity) (size : ℕ) → HasWord (Then (Code 5) (λ code. SaidText severity size code))
said_code severity size = let c = code_word 5 in then_word (Code 5) (λ code. SaidText severity size code) c (said_text severity size c.1)

pub said_word : (severity : Severity) (size : ℕ) → HasWord (Said severity size)
said_word severity size = behind_word (severity_fields severity) (Then (Code 5) (λ code. SaidText severity size code)) (said_code severity size)

said_exact : (severity : Severity) (size : ℕ) (bytes : List ℕ) → Exact (Said severity size) bytes (said_at severity size bytes)
unfolding said_at
said_exact severity size bytes =
    behind_exact (severity_fields severity) (Then (Code 5) (λ code. SaidText severity size code)) (said_code severity size) bytes _
    (λ u rest _. then_exact (Code 5) (λ code. SaidText severity size code) (code_apart 5) (λ v code _. said_text severity size code) rest (code_at 5 rest) _ (code_exact 5 rest)
    (λ v after code _ _. behind_exact (0 ∷ 77 ∷ []) (Then (String NotOneShort boundary (text_room severity size)) (λ text. Ending severity size code text)) (said_string severity size code) after _
    (λ w behind _. then_exact (String NotOneShort boundary (text_room severity size)) (λ text. Ending severity size code text) (string_apart NotOneShort boundary (text_room severity size))
    (λ x text _. ending_word severity size code text) behind (string_at NotOneShort boundary (text_room severity size) behind) _ (string_exact behind NotOneShort boundary (text_room severity size) boundary_sound (omega arith))
    (λ x ends text _ _. last_exact (Detail (text_room severity size - length text)) (λ d. saying_of severity code text d) (detail_apart (text_room severity size - length text)) ends
    (detail_at (text_room severity size - length text) ends) (detail_exact (text_room severity size - length text) ends)))))

said_apart : (severity : Severity) (size : ℕ) → Apart (Said severity size)
said_apart severity size =
    behind_apart (severity_fields severity) (Then (Code 5) (λ code. SaidText severity size code))
    (then_apart (Code 5) (λ code. SaidText severity size code) (code_apart 5)
    (λ code. behind_apart (0 ∷ 77 ∷ []) (Then (String NotOneShort boundary (text_room severity size)) (λ text. Ending severity size code text))
    (then_apart (String NotOneShort boundary (text_room severity size)) (λ text. Ending severity size code text) (string_apart NotOneShort boundary (text_room severity size))
    (λ text. last_apart (Detail (text_room severity size - length text)) (λ d. saying_of severity code text d) (detail_apart (text_room severity size - length text))))))

-- words whose first bytes differ
apart_first : (v u : ℕ) (vs us a b x y : List ℕ) → a ≡ v ∷ vs → b ≡ u ∷ us → a ++ x ≡ b ++ y → v ≡ u
apart_first v u vs us a b x y e f whole = same_first v u (vs ++ x) (us ++ y) (ap (λ (w : List ℕ). w ++ x) (sym e) ∙ whole ∙ ap (λ (w : List ℕ). w ++ y) f)

behind_starts : {Y : Type 0} (v : ℕ) (vs : List ℕ) (B : List ℕ → Y → Type 0) (word : List ℕ) (y : Y) → Behind (v ∷ vs) B word y → (rest : List ℕ) × (word ≡ v ∷ rest)
behind_starts v vs B word y h = (vs ++ h.1, h.3 ∙ ap (λ (w : List ℕ). w ++ h.1) h.4)

verb_starts : (v : ℕ) (vs : List ℕ) (make : ℕ → Tag) (count : ℕ) (word : List ℕ) (t : Tag) → Verb (v ∷ vs) make count word t → (rest : List ℕ) × (word ≡ v ∷ rest)
verb_starts v vs make count word t h =
    let s = behind_starts v vs (Counted count) h.0 h.2 h.4 in
    (s.0 ++ h.1, h.3 ∙ ap (λ (w : List ℕ). w ++ h.1) s.1)

verb_apart : (verb : List ℕ) (make : ℕ → Tag) (count : ℕ) → Apart (Verb verb make count)
verb_apart verb make count = last_apart (VerbNumber verb count) make (verb_number_apart verb count)

pub tag_word_apart : (size : ℕ) → Apart (TagWord size)
tag_word_apart size a b x y m n (inserted ok h) (inserted ok2 k) e = verb_apart insert_verb Insert (size - 10) a b x y m n h k e
tag_word_apart size a b x y m n (inserted ok h) (updated ok2 k) e =
    let s = verb_starts 73 (codes "NSERT 0 ") Insert (size - 10) a m h in let r = verb_starts 85 (codes "PDATE ") Update (size - 8) b n k in absurd (omega (arith, apart_first 73 85 s.0 r.0 a b x y s.1 r.1 e))
tag_word_apart size a b x y m n (inserted ok h) (deleted ok2 k) e =
    let s = verb_starts 73 (codes "NSERT 0 ") Insert (size - 10) a m h in let r = verb_starts 68 (codes "ELETE ") Delete (size - 8) b n k in absurd (omega (arith, apart_first 73 68 s.0 r.0 a b x y s.1 r.1 e))
tag_word_apart size a b x y m n (inserted ok h) (selected ok2 k) e =
    let s = verb_starts 73 (codes "NSERT 0 ") Insert (size - 10) a m h in let r = verb_starts 83 (codes "ELECT ") Select (size - 8) b n k in absurd (omega (arith, apart_first 73 83 s.0 r.0 a b x y s.1 r.1 e))
tag_word_apart size a b x y m n (updated ok h) (inserted ok2 k) e =
    let s = verb_starts 85 (codes "PDATE ") Update (size - 8) a m h in let r = verb_starts 73 (codes "NSERT 0 ") Insert (size - 10) b n k in absurd (omega (arith, apart_first 85 73 s.0 r.0 a b x y s.1 r.1 e))
tag_word_apart size a b x y m n (updated ok h) (updated ok2 k) e = verb_apart update_verb Update (size - 8) a b x y m n h k e
tag_word_apart size a b x y m n (updated ok h) (deleted ok2 k) e =
    let s = verb_starts 85 (codes "PDATE ") Update (size - 8) a m h in let r = verb_starts 68 (codes "ELETE ") Delete (size - 8) b n k in absurd (omega (arith, apart_first 85 68 s.0 r.0 a b x y s.1 r.1 e))
tag_word_apart size a b x y m n (updated ok h) (selected ok2 k) e =
    let s = verb_starts 85 (codes "PDATE ") Update (size - 8) a m h in let r = verb_starts 83 (codes "ELECT ") Select (size - 8) b n k in absurd (omega (arith, apart_first 85 83 s.0 r.0 a b x y s.1 r.1 e))
tag_word_apart size a b x y m n (deleted ok h) (inserted ok2 k) e =
    let s = verb_starts 68 (codes "ELETE ") Delete (size - 8) a m h in let r = verb_starts 73 (codes "NSERT 0 ") Insert (size - 10) b n k in absurd (omega (arith, apart_first 68 73 s.0 r.0 a b x y s.1 r.1 e))
tag_word_apart size a b x y m n (deleted ok h) (updated ok2 k) e =
    let s = verb_starts 68 (codes "ELETE ") Delete (size - 8) a m h in let r = verb_starts 85 (codes "PDATE ") Update (size - 8) b n k in absurd (omega (arith, apart_first 68 85 s.0 r.0 a b x y s.1 r.1 e))
tag_word_apart size a b x y m n (deleted ok h) (deleted ok2 k) e = verb_apart delete_verb Delete (size - 8) a b x y m n h k e
tag_word_apart size a b x y m n (deleted ok h) (selected ok2 k) e =
    let s = verb_starts 68 (codes "ELETE ") Delete (size - 8) a m h in let r = verb_starts 83 (codes "ELECT ") Select (size - 8) b n k in absurd (omega (arith, apart_first 68 83 s.0 r.0 a b x y s.1 r.1 e))
tag_word_apart size a b x y m n (selected ok h) (inserted ok2 k) e =
    let s = verb_starts 83 (codes "ELECT ") Select (size - 8) a m h in let r = verb_starts 73 (codes "NSERT 0 ") Insert (size - 10) b n k in absurd (omega (arith, apart_first 83 73 s.0 r.0 a b x y s.1 r.1 e))
tag_word_apart size a b x y m n (selected ok h) (updated ok2 k) e =
    let s = verb_starts 83 (codes "ELECT ") Select (size - 8) a m h in let r = verb_starts 85 (codes "PDATE ") Update (size - 8) b n k in absurd (omega (arith, apart_first 83 85 s.0 r.0 a b x y s.1 r.1 e))
tag_word_apart size a b x y m n (selected ok h) (deleted ok2 k) e =
    let s = verb_starts 83 (codes "ELECT ") Select (size - 8) a m h in let r = verb_starts 68 (codes "ELETE ") Delete (size - 8) b n k in absurd (omega (arith, apart_first 83 68 s.0 r.0 a b x y s.1 r.1 e))
tag_word_apart size a b x y m n (selected ok h) (selected ok2 k) e = verb_apart select_verb Select (size - 8) a b x y m n h k e

pub tag_body_apart : (size : ℕ) → Apart (TagBody size)
tag_body_apart size = last_apart (TagWord size) (λ t. Complete t) (tag_word_apart size)

pub tag_body_word : (size : ℕ) → (leaves_number 9 size ≡ true) ⊎ (leaves_number 7 size ≡ true) → HasWord (TagBody size)
tag_body_word size some = last_word (TagWord size) (λ t. Complete t) (tag_word size some)

pub tag_body_exact : (size : ℕ) (bytes : List ℕ) → (leaves_number 9 size ≡ true) ⊎ (leaves_number 7 size ≡ true) → Exact (TagBody size) bytes (complete_at size bytes)
unfolding complete_at
tag_body_exact size bytes some = last_exact (TagWord size) (λ t. Complete t) (tag_word_apart size) bytes (tag_at size bytes) (tag_exact size bytes some)

-- ---- the severity

pub data SeverityWord (size : ℕ) (word : List ℕ) (s : Saying) : Type 0 where
  as_error : Said Error size word s → SeverityWord size word s
  as_fatal : Said Fatal size word s → SeverityWord size word s
  as_panic : Said Panic size word s → SeverityWord size word s
  as_warning : ltb 27 size ≡ true → Said Warning size word s → SeverityWord size word s

abbrev pub rest_of : Severity → List ℕ
rest_of severity = drop 1 (severity_fields severity)

said_starts : (severity : Severity) (v : ℕ) → severity_fields severity ≡ v ∷ rest_of severity → (size : ℕ) (word : List ℕ) (s : Saying) → Said severity size word s → (rest : List ℕ) × (word ≡ v ∷ rest)
said_starts severity v is size word s h =
    (rest_of severity ++ h.1, h.3 ∙ ap (λ (w : List ℕ). w ++ h.1) (h.4 ∙ is))

said_head : (severity : Severity) (v b : ℕ) → severity_fields severity ≡ v ∷ rest_of severity → (size : ℕ) (w : List ℕ) (s : Saying) → Said severity size (b ∷ w) s → b ≡ v
said_head severity v b is size w s h = let t = said_starts severity v is size (b ∷ w) s h in same_first b v w t.0 t.1

pub severity_apart : (size : ℕ) → Apart (SeverityWord size)
severity_apart size a b x y m n (as_error h) (as_error k) e = said_apart Error size a b x y m n h k e
severity_apart size a b x y m n (as_error h) (as_fatal k) e =
    let s = said_starts Error 69 refl size a m h in let r = said_starts Fatal 70 refl size b n k in absurd (omega (arith, apart_first 69 70 s.0 r.0 a b x y s.1 r.1 e))
severity_apart size a b x y m n (as_error h) (as_panic k) e =
    let s = said_starts Error 69 refl size a m h in let r = said_starts Panic 80 refl size b n k in absurd (omega (arith, apart_first 69 80 s.0 r.0 a b x y s.1 r.1 e))
severity_apart size a b x y m n (as_error h) (as_warning ok2 k) e =
    let s = said_starts Error 69 refl size a m h in let r = said_starts Warning 87 refl size b n k in absurd (omega (arith, apart_first 69 87 s.0 r.0 a b x y s.1 r.1 e))
severity_apart size a b x y m n (as_fatal h) (as_error k) e =
    let s = said_starts Fatal 70 refl size a m h in let r = said_starts Error 69 refl size b n k in absurd (omega (arith, apart_first 70 69 s.0 r.0 a b x y s.1 r.1 e))
severity_apart size a b x y m n (as_fatal h) (as_fatal k) e = said_apart Fatal size a b x y m n h k e
severity_apart size a b x y m n (as_fatal h) (as_panic k) e =
    let s = said_starts Fatal 70 refl size a m h in let r = said_starts Panic 80 refl size b n k in absurd (omega (arith, apart_first 70 80 s.0 r.0 a b x y s.1 r.1 e))
severity_apart size a b x y m n (as_fatal h) (as_warning ok2 k) e =
    let s = said_starts Fatal 70 refl size a m h in let r = said_starts Warning 87 refl size b n k in absurd (omega (arith, apart_first 70 87 s.0 r.0 a b x y s.1 r.1 e))
severity_apart size a b x y m n (as_panic h) (as_error k) e =
    let s = said_starts Panic 80 refl size a m h in let r = said_starts Error 69 refl size b n k in absurd (omega (arith, apart_first 80 69 s.0 r.0 a b x y s.1 r.1 e))
severity_apart size a b x y m n (as_panic h) (as_fatal k) e =
    let s = said_starts Panic 80 refl size a m h in let r = said_starts Fatal 70 refl size b n k in absurd (omega (arith, apart_first 80 70 s.0 r.0 a b x y s.1 r.1 e))
severity_apart size a b x y m n (as_panic h) (as_panic k) e = said_apart Panic size a b x y m n h k e
severity_apart size a b x y m n (as_panic h) (as_warning ok2 k) e =
    let s = said_starts Panic 80 refl size a m h in let r = said_starts Warning 87 refl size b n k in absurd (omega (arith, apart_first 80 87 s.0 r.0 a b x y s.1 r.1 e))
severity_apart size a b x y m n (as_warning ok h) (as_error k) e =
    let s = said_starts Warning 87 refl size a m h in let r = said_starts Error 69 refl size b n k in absurd (omega (arith, apart_first 87 69 s.0 r.0 a b x y s.1 r.1 e))
severity_apart size a b x y m n (as_warning ok h) (as_fatal k) e =
    let s = said_starts Warning 87 refl size a m h in let r = said_starts Fatal 70 refl size b n k in absurd (omega (arith, apart_first 87 70 s.0 r.0 a b x y s.1 r.1 e))
severity_apart size a b x y m n (as_warning ok h) (as_panic k) e =
    let s = said_starts Warning 87 refl size a m h in let r = said_starts Panic 80 refl size b n k in absurd (omega (arith, apart_first 87 80 s.0 r.0 a b x y s.1 r.1 e))
severity_apart size a b x y m n (as_warning ok h) (as_warning ok2 k) e = said_apart Warning size a b x y m n h k e

first_error : (size : ℕ) (w : List ℕ) (s : Saying) → SeverityWord size (69 ∷ w) s → Said Error size (69 ∷ w) s
first_error size w s (as_error h) = h
first_error size w s (as_fatal h) = absurd (omega (arith, said_head Fatal 70 69 refl size w s h))
first_error size w s (as_panic h) = absurd (omega (arith, said_head Panic 80 69 refl size w s h))
first_error size w s (as_warning ok h) = absurd (omega (arith, said_head Warning 87 69 refl size w s h))

first_fatal : (size : ℕ) (w : List ℕ) (s : Saying) → SeverityWord size (70 ∷ w) s → Said Fatal size (70 ∷ w) s
first_fatal size w s (as_error h) = absurd (omega (arith, said_head Error 69 70 refl size w s h))
first_fatal size w s (as_fatal h) = h
first_fatal size w s (as_panic h) = absurd (omega (arith, said_head Panic 80 70 refl size w s h))
first_fatal size w s (as_warning ok h) = absurd (omega (arith, said_head Warning 87 70 refl size w s h))

first_panic : (size : ℕ) (w : List ℕ) (s : Saying) → SeverityWord size (80 ∷ w) s → Said Panic size (80 ∷ w) s
first_panic size w s (as_error h) = absurd (omega (arith, said_head Error 69 80 refl size w s h))
first_panic size w s (as_fatal h) = absurd (omega (arith, said_head Fatal 70 80 refl size w s h))
first_panic size w s (as_panic h) = h
first_panic size w s (as_warning ok h) = absurd (omega (arith, said_head Warning 87 80 refl size w s h))

first_warning : (size : ℕ) (w : List ℕ) (s : Saying) → SeverityWord size (87 ∷ w) s → Said Warning size (87 ∷ w) s
first_warning size w s (as_error h) = absurd (omega (arith, said_head Error 69 87 refl size w s h))
first_warning size w s (as_fatal h) = absurd (omega (arith, said_head Fatal 70 87 refl size w s h))
first_warning size w s (as_panic h) = absurd (omega (arith, said_head Panic 80 87 refl size w s h))
first_warning size w s (as_warning ok h) = h

said_long : (severity : Severity) (v : ℕ) → severity_fields severity ≡ v ∷ rest_of severity → (size : ℕ) (word : List ℕ) (s : Saying) → Said severity size word s → 0 < length word
said_long severity v is size word s h = let t = said_starts severity v is size word s h in omega (arith, ap length t.1)

severity_goes : (size : ℕ) → GoesOn (SeverityWord size) []
severity_goes size = let w = said_word Error size in (w.0, w.1, said_long Error 69 refl size w.0 w.1 w.2, as_error w.2)

pub severity_has : (size : ℕ) → HasWord (SeverityWord size)
severity_has size = let w = said_word Error size in (w.0, w.1, as_error w.2)

severity_branch : (size : ℕ) (severity : Severity) (v b : ℕ) (ok : Bool) (bs : List ℕ) → (b == v && ok) ≡ true
    → (ok ≡ true → (w : List ℕ) (s : Saying) → Said severity size w s → SeverityWord size w s)
    → ((w : List ℕ) (s : Saying) → SeverityWord size (v ∷ w) s → Said severity size (v ∷ w) s)
    → Exact (SeverityWord size) (b ∷ bs) (said_at severity size (b ∷ bs))
severity_branch size severity v b ok bs test into out =
    subst (Exact (SeverityWord size) (b ∷ bs)) (bind_same (said_at severity size (b ∷ bs)))
    (branch (SeverityWord size) (Said severity size) (λ s. s) b v ok bs (said_at severity size) test into (λ w s h. (s, out w s h)) (λ _ bytes. said_exact severity size bytes))

and_true : (t : Bool) → t ≡ true → (t && true) ≡ true
and_true true h = refl
and_true false h = h

pub severity_exact : (size : ℕ) (bytes : List ℕ) → Exact (SeverityWord size) bytes (severity_at size bytes)
unfolding severity_at
severity_exact size [] = severity_goes size
severity_exact size (b ∷ bs) =
    let L = SeverityWord size in
    cond_both (eqb b 69) _ _ (Exact L (b ∷ bs))
    (λ test. severity_branch size Error 69 b true bs (and_true _ test) (λ ok w s h. as_error h) (first_error size))
    (λ no_error. cond_both (eqb b 70) _ _ (Exact L (b ∷ bs))
    (λ test. severity_branch size Fatal 70 b true bs (and_true _ test) (λ ok w s h. as_fatal h) (first_fatal size))
    (λ no_fatal. cond_both (eqb b 80) _ _ (Exact L (b ∷ bs))
    (λ test. severity_branch size Panic 80 b true bs (and_true _ test) (λ ok w s h. as_panic h) (first_panic size))
    (λ no_panic. cond_both (b == 87 && ltb 27 size) _ _ (Exact L (b ∷ bs))
    (λ test. severity_branch size Warning 87 b (ltb 27 size) bs test (λ ok w s h. as_warning ok h) (first_warning size))
    (λ no_warning. departs_now L b bs (severity_goes size) (λ more s h. nothing more s h no_error no_fatal no_panic no_warning)))))
  where
    nothing : (more : List ℕ) (s : Saying) → SeverityWord size (b ∷ more) s → eqb b 69 ≡ false → eqb b 70 ≡ false → eqb b 80 ≡ false → (b == 87 && ltb 27 size) ≡ false → ⊥
    nothing more s (as_error h) e f p w = eqb-false _ _ e (said_head Error 69 b refl size more s h)
    nothing more s (as_fatal h) e f p w = eqb-false _ _ f (said_head Fatal 70 b refl size more s h)
    nothing more s (as_panic h) e f p w = eqb-false _ _ p (said_head Panic 80 b refl size more s h)
    nothing more s (as_warning ok h) e f p w = no_branch b 87 (ltb 27 size) w (said_head Warning 87 b refl size more s h) ok

abbrev pub ReportBody : ℕ → List ℕ → Saying → Type 0
ReportBody size = Behind (83 ∷ []) (SeverityWord size)

pub report_exact : (size : ℕ) (bytes : List ℕ) → Exact (ReportBody size) bytes (report_at size bytes)
unfolding report_at
report_exact size bytes = behind_exact (83 ∷ []) (SeverityWord size) (severity_has size) bytes _ (λ u rest _. severity_exact size rest)

pub report_apart : (size : ℕ) → Apart (ReportBody size)
report_apart size = behind_apart (83 ∷ []) (SeverityWord size) (severity_apart size)

pub report_word : (size : ℕ) → HasWord (ReportBody size)
report_word size = behind_word (83 ∷ []) (SeverityWord size) (severity_has size)
