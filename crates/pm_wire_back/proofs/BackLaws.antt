-- Reading a message of the server: what is read is spelled so, what is spelled so is read, and each fault is where it is said to be.
use Rattle.std.{proofs.{Common.{◌≡◌, ℕ, suc, ◌+◌, ◌-◌, ◌^◌, ◌<◌, ◌≤◌, true, false, not, ◌==◌, ◌&&◌, ◌||◌, eqb, ltb, List, [], ◌∷◌, ◌++◌, length, drop, codes, decimal, Ok, Err, refl, sym, ap, subst, ◌∙◌, inl, inr, arith, append_assoc}, lemmas.{Bool.{cond_both, or_cases, eqb-true, ltb-true, ltb-false, lt-ltb, and_parts, eq-eqb}, List.{length-append, append_cancel_left}}, Math.Bool.or-true}, specs.List.{AllByRecursion, list_any}}
use Rattle.byteorder.specs.Endian.{big_number}
use Rattle.pm_wire.specs.{declared.{back.{Severity.{Severity, TheVariants.{Error, Fatal, Panic, Warning}}, Shape.Shape, Tag.{Tag, TheVariants.{Insert, Update, Delete, Select}}}, take.Take.{Take, TheVariants.{Whole, Short, Bad}}}, Pieces.{int32, message, string}, Backend.{BackMessage, Auth, Param, Key, Ready, Fields, Pair, One, Complete, Empty, Fault, Notice, Saying, body, kind_of, fields_of, severity_word, HasCount, IsBack}, Numbers.{IsBytes, IsBytes-drop, length_int32, number_again, number_below, number_split}, Sizes.{length_fields, short_iff, pair_size, one_size}}
use Rattle.pm_wire.specs.declared.back.Shape.TheVariants as shapes
use Rattle.pm_wire_back.{specs.{declared.parts.Stop.TheVariants.{Partial, Departs}, Received.{GoesOnAsBack, IsPartial, IsWholeAt, behind_header, behind_body}, Failing.BackFails, BackReading.{Read, is_back_type, leaves_number, fits_type, has_length, body_at, taken, back_of_length, back_of}}, proofs.{CountLaws.has_count, Exact.{HasWord, Exact}, Bodies.same_first, TypeBytes.{BodyIs, Good, good_auth, good_ready, good_empty, good_fields, good_param, good_key, good_row, columns_length}, TagBytes.{good_tag, good_fault, good_notice, leaves_it}}}

-- ---- the ten types

one_of : (P : ℕ → Type 0) (letters : List ℕ) → AllByRecursion P letters → (kind : ℕ) → list_any (λ letter. letter == kind) letters ≡ true → P kind
one_of P [] all kind known = absurd cc
one_of P (letter ∷ letters) all kind known =
    elim (eqb letter kind) as (λ t. eqb letter kind ≡ t → (t || list_any (λ l. l == kind) letters) ≡ true → P kind) [
      | true ↦ λ same _. subst P (eqb-true letter kind same) all.0
      | false ↦ λ other rest. one_of P letters all.1 kind rest
    ] refl known

by_type : (P : ℕ → Type 0) → P 82 → P 83 → P 75 → P 90 → P 84 → P 68 → P 67 → P 73 → P 69 → P 78 → (kind : ℕ) → is_back_type kind ≡ true → P kind
by_type P auth param key ready fields row complete empty fault notice kind known =
    one_of P (codes "RSKZTDCIEN") (auth, (param, (key, (ready, (fields, (row, (complete, (empty, (fault, (notice, tt)))))))))) kind known

same_reader : (kind size : ℕ) (f g : List ℕ → Read) → ((bytes : List ℕ) → f bytes ≡ g bytes) → Good kind size f → Good kind size g
same_reader kind size f g same good = record { exact = λ bytes fits. subst (Exact (BodyIs kind size) bytes) (same bytes) (good.exact bytes fits); apart = good.apart; word = good.word }

abbrev IsGood : ℕ → ℕ → Type 0
IsGood size kind = fits_type kind size ≡ true → size + 4 < 2 ^ 31 → Good kind size (body_at kind size)

fields_good : (size : ℕ) → IsGood size 84
unfolding body_at
fields_good size fits high =
    elim (or_cases (size == 42) (size == 26 || size == 29) fits) [
      | inl a ↦ subst (λ (n : ℕ). Good 84 n (body_at 84 n)) (sym (eqb-true _ _ a)) (same_reader 84 42 _ (body_at 84 42) (λ bytes. refl) (good_fields shapes.Pair))
      | inr b ↦ elim (or_cases (size == 26) (size == 29) b) [
        | inl c ↦ subst (λ (n : ℕ). Good 84 n (body_at 84 n)) (sym (eqb-true _ _ c)) (same_reader 84 26 _ (body_at 84 26) (λ bytes. refl) (good_fields shapes.Count))
        | inr d ↦ subst (λ (n : ℕ). Good 84 n (body_at 84 n)) (sym (eqb-true _ _ d)) (same_reader 84 29 _ (body_at 84 29) (λ bytes. refl) (good_fields shapes.Sleep))
      ]
    ]

pub good : (size kind : ℕ) → is_back_type kind ≡ true → IsGood size kind
unfolding body_at
good size kind known =
    by_type (IsGood size)
    (λ fits high. subst (λ (n : ℕ). Good 82 n (body_at 82 n)) (sym (eqb-true _ _ fits)) (same_reader 82 4 _ (body_at 82 4) (λ bytes. refl) good_auth))
    (λ fits high. same_reader 83 size _ (body_at 83 size) (λ bytes. refl) (good_param size (ltb-true _ _ fits) high))
    (λ fits high. subst (λ (n : ℕ). Good 75 n (body_at 75 n)) (sym (eqb-true _ _ fits)) (same_reader 75 8 _ (body_at 75 8) (λ bytes. refl) good_key))
    (λ fits high. subst (λ (n : ℕ). Good 90 n (body_at 90 n)) (sym (eqb-true _ _ fits)) (same_reader 90 1 _ (body_at 90 1) (λ bytes. refl) good_ready))
    (fields_good size)
    (λ fits high. same_reader 68 size _ (body_at 68 size) (λ bytes. refl) (good_row size (ltb-true _ _ fits) high))
    (λ fits high. same_reader 67 size _ (body_at 67 size) (λ bytes. refl) (good_tag size (or_cases _ _ fits)))
    (λ fits high. subst (λ (n : ℕ). Good 73 n (body_at 73 n)) (sym (eqb-true _ _ fits)) (same_reader 73 0 _ (body_at 73 0) (λ bytes. refl) good_empty))
    (λ fits high. same_reader 69 size _ (body_at 69 size) (λ bytes. refl) (good_fault size (ltb-true _ _ fits) high))
    (λ fits high. same_reader 78 size _ (body_at 78 size) (λ bytes. refl) (good_notice size (ltb-true _ _ fits) high))
    kind known

-- ---- lengths

has : (kind size : ℕ) → 4 + size < 2 ^ 31 → fits_type kind size ≡ true → has_length kind (4 + size) ≡ true
has kind size high fits =
    let back : 4 + size - 4 ≡ size = omega arith in
    rw (lt-ltb 3 (4 + size) (omega arith), lt-ltb (4 + size) (2 ^ 31) high, back, fits) refl

tag_leaves : (verb : List ℕ) (len n : ℕ) → length verb ≡ len → n < 2 ^ 64 → leaves_number len (length (string (verb ++ decimal n))) ≡ true
tag_leaves verb len n long fits =
    leaves_it len (length (string (verb ++ decimal n))) n fits (omega (arith, length-append (verb ++ decimal n) (0 ∷ []), length-append verb (decimal n), long))

tag_fits : (tag : Tag) → HasCount (Complete tag) → fits_type 67 (length (body (Complete tag))) ≡ true
tag_fits (Insert n) h = rw (tag_leaves (codes "INSERT 0 ") 9 n refl h) refl
tag_fits (Update n) h = rw (tag_leaves (codes "UPDATE ") 7 n refl h) (or-true _)
tag_fits (Delete n) h = rw (tag_leaves (codes "DELETE ") 7 n refl h) (or-true _)
tag_fits (Select n) h = rw (tag_leaves (codes "SELECT ") 7 n refl h) (or-true _)

fields_fit : (shape : Shape) → fits_type 84 (length (body (Fields shape))) ≡ true
fields_fit shapes.Pair = rw (columns_length shapes.Pair) refl
fields_fit shapes.Count = rw (columns_length shapes.Count) refl
fields_fit shapes.Sleep = rw (columns_length shapes.Sleep) refl

long_word : (severity : Severity) → 5 ≤ length (severity_word severity)
long_word Error = omega arith
long_word Fatal = omega arith
long_word Panic = omega arith
long_word Warning = omega arith

report_fits : (s : Saying) → length s.code ≡ 5 → 23 < length (fields_of s)
report_fits s five = omega (arith, length_fields (severity_word s.severity) s.code s.text s.detail, five, long_word s.severity)

-- a message by its type and its body
pub record View (bytes : List ℕ) (m : BackMessage) : Type 0 where
  pub kind : ℕ
  pub kind_is : kind_of m ≡ kind ∷ []
  pub known : is_back_type kind ≡ true
  pub fits : fits_type kind (length (body m)) ≡ true
  pub short : 4 + length (body m) < 2 ^ 31
  pub parts : bytes ≡ kind ∷ (int32 (4 + length (body m)) ++ body m)

made : (kind : ℕ) (bytes : List ℕ) (m : BackMessage) → IsBack bytes m → kind_of m ≡ kind ∷ [] → is_back_type kind ≡ true → fits_type kind (length (body m)) ≡ true → View bytes m
made kind bytes m is kind_is known fits = record {
  kind = kind;
  kind_is = kind_is;
  known = known;
  fits = fits;
  short = (short_iff m (has_count m is.values)).0 is.writable.1;
  parts = is.spelled ∙ ap (λ (k : List ℕ). message k (body m)) kind_is;
}

pub view : (bytes : List ℕ) (m : BackMessage) → IsBack bytes m → View bytes m
view bytes Auth is = made 82 bytes Auth is refl refl (rw (length_int32 0) refl)
view bytes (Param name value) is =
    made 83 bytes (Param name value) is refl refl (lt-ltb 1 _ (omega (arith, length-append (string name) (string value), length-append name (0 ∷ []), length-append value (0 ∷ []))))
view bytes (Key pid key) is = made 75 bytes (Key pid key) is refl refl (eq-eqb _ _ (omega (arith, length-append (int32 pid) (int32 key), length_int32 pid, length_int32 key)))
view bytes Ready is = made 90 bytes Ready is refl refl refl
view bytes (Fields shape) is = made 84 bytes (Fields shape) is refl refl (fields_fit shape)
view bytes (Pair key value) is = made 68 bytes (Pair key value) is refl refl (lt-ltb 5 _ (omega (arith, pair_size key value)))
view bytes (One text) is = made 68 bytes (One text) is refl refl (lt-ltb 5 _ (omega (arith, one_size text)))
view bytes (Complete tag) is = made 67 bytes (Complete tag) is refl refl (tag_fits tag is.values)
view bytes Empty is = made 73 bytes Empty is refl refl refl
view bytes (Fault s) is = made 69 bytes (Fault s) is refl refl (lt-ltb 23 _ (report_fits s is.values.0))
view bytes (Notice s) is = made 78 bytes (Notice s) is refl refl (lt-ltb 23 _ (report_fits s is.values.0))

-- a body and its header are a message
pub whole : (kind size : ℕ) (word : List ℕ) (m : BackMessage) → BodyIs kind size word m → IsBack (kind ∷ (int32 (4 + size) ++ word)) m
whole kind size word m b =
    let parts : kind ∷ (int32 (4 + size) ++ word) ≡ message (kind_of m) (body m) =
    ap (λ (w : List ℕ). kind ∷ (int32 (4 + size) ++ w)) b.is ∙ ap (λ (n : ℕ). kind ∷ (int32 (4 + n) ++ body m)) (sym b.size_is ∙ ap length b.is)
    ∙ ap (λ (k : List ℕ). message k (body m)) (sym b.kind_is) in
    record { spelled = parts; values = b.values; writable = b.writable }

-- a message's body
pub body_of : (bytes : List ℕ) (m : BackMessage) → IsBack bytes m → (v : View bytes m) → BodyIs v.kind (length (body m)) (body m) m
body_of bytes m is v = record { is = refl; kind_is = v.kind_is; size_is = refl; values = is.values; writable = is.writable }

goes_from : (kind size : ℕ) (h : HasWord (BodyIs kind size)) → GoesOnAsBack (kind ∷ [])
goes_from kind size h = (int32 (4 + size) ++ h.0, h.1, omega (arith, length-append (int32 (4 + size)) h.0, length_int32 (4 + size)), whole kind size h.0 h.1 h.2)

pub known_goes : (kind : ℕ) → is_back_type kind ≡ true → GoesOnAsBack (kind ∷ [])
known_goes kind known =
    by_type (λ k. GoesOnAsBack (k ∷ [])) (goes_from 82 4 (good 4 82 refl refl (omega arith)).word) (goes_from 83 2 (good 2 83 refl refl (omega arith)).word)
    (goes_from 75 8 (good 8 75 refl refl (omega arith)).word) (goes_from 90 1 (good 1 90 refl refl (omega arith)).word) (goes_from 84 26 (good 26 84 refl refl (omega arith)).word)
    (goes_from 68 6 (good 6 68 refl refl (omega arith)).word) (goes_from 67 9 (good 9 67 refl refl (omega arith)).word) (goes_from 73 0 (good 0 73 refl refl (omega arith)).word)
    (goes_from 69 24 (good 24 69 refl refl (omega arith)).word) (goes_from 78 24 (good 24 78 refl refl (omega arith)).word) kind known

pub goes_known : (kind : ℕ) (more : List ℕ) (m : BackMessage) → IsBack (kind ∷ more) m → is_back_type kind ≡ true
goes_known kind more m is =
    let v = view (kind ∷ more) m is in
    subst (λ (k : ℕ). is_back_type k ≡ true) (sym (same_first kind v.kind more _ v.parts)) v.known

pub empty_goes : GoesOnAsBack []
empty_goes = let g = known_goes 82 refl in (82 ∷ g.0, g.1, omega arith, g.3)

-- ---- a message after its header

pub record Unheaded (kind n : ℕ) (rest : List ℕ) (m : BackMessage) : Type 0 where
  pub size : 4 + length (body m) ≡ n
  pub body_is : BodyIs kind (n - 4) rest m
  pub known : is_back_type kind ≡ true
  pub length_is : has_length kind n ≡ true

pub unheader : (kind n : ℕ) (rest : List ℕ) (m : BackMessage) → n < 2 ^ 32 → IsBack (kind ∷ (int32 n ++ rest)) m → Unheaded kind n rest m
unheader kind n rest m fits is =
    let v = view (kind ∷ (int32 n ++ rest)) m is in
    let tail : int32 n ++ rest ≡ int32 (4 + length (body m)) ++ body m = (let e = v.parts in cc) in
    let first : kind ≡ v.kind = same_first kind v.kind _ _ v.parts in
    let same : n ≡ 4 + length (body m) =
    sym (number_again n rest fits) ∙ ap (big_number 4) tail ∙ number_again (4 + length (body m)) (body m) (omega (arith, v.short)) in
    let rest_is : rest ≡ body m = append_cancel_left (int32 n) rest (body m) (tail ∙ ap (λ (k : ℕ). int32 k ++ body m) (sym same)) in
    let size : length (body m) ≡ n - 4 = omega (arith, same) in
    record {
      size = sym same;
      body_is = record { is = rest_is; kind_is = v.kind_is ∙ ap (λ (k : ℕ). k ∷ []) (sym first); size_is = ap length rest_is ∙ size; values = is.values; writable = is.writable };
      known = subst (λ (k : ℕ). is_back_type k ≡ true) (sym first) v.known;
      length_is = subst (λ (k : ℕ). has_length k n ≡ true) (sym first) (subst (λ (k : ℕ). has_length v.kind k ≡ true) (sym same) (has v.kind (length (body m)) v.short v.fits));
    }

pub header_whole : (kind n : ℕ) (word : List ℕ) (m : BackMessage) → 3 < n → BodyIs kind (n - 4) word m → IsBack (kind ∷ (int32 n ++ word)) m
header_whole kind n word m low b =
    let same : 4 + (n - 4) ≡ n = omega (arith, low) in
    subst (λ (k : ℕ). IsBack (kind ∷ (int32 k ++ word)) m) same (whole kind (n - 4) word m b)

-- ---- what is read is spelled so

pub record BeginsBack (bytes : List ℕ) (m : BackMessage) (used : ℕ) : Type 0 where
  pub spelled : List ℕ
  pub rest : List ℕ
  pub parts : bytes ≡ spelled ++ rest
  pub size : used ≡ length spelled
  pub is : IsBack spelled m

abbrev pub IsSoundBack : List ℕ → Take BackMessage → Type 0
IsSoundBack bytes (Whole m used) = BeginsBack bytes m used
IsSoundBack bytes (Short wanted) = IsPartial bytes × IsWholeAt bytes wanted
IsSoundBack bytes (Bad fault) = BackFails bytes fault

-- what has_length says
pub record Fitting (kind n : ℕ) : Type 0 where
  pub low : 3 < n
  pub high : n < 2 ^ 31
  pub type_is : fits_type kind (n - 4) ≡ true

pub fitting_is : (kind n : ℕ) → has_length kind n ≡ true → Fitting kind n
fitting_is kind n h =
    let a = and_parts (ltb 3 n) (ltb n (2 ^ 31) && fits_type kind (n - 4)) h in
    let b = and_parts (ltb n (2 ^ 31)) (fits_type kind (n - 4)) a.1 in
    record { low = ltb-true _ _ a.0; high = ltb-true _ _ b.0; type_is = b.1 }

taken_sound : (kind n : ℕ) (after : List ℕ) → has_length kind n ≡ true → (out : Read) → Exact (BodyIs kind (n - 4)) after out → IsSoundBack (kind ∷ (int32 n ++ after)) (taken (5 + length after) n out)
taken_sound kind n after fits (Ok p) h =
    let f = fitting_is kind n fits in
    record {
      spelled = kind ∷ (int32 n ++ h.0);
      rest = p.1;
      parts = ap (λ (w : List ℕ). kind ∷ (int32 n ++ w)) h.1 ∙ ap (λ (w : List ℕ). kind ∷ w) (sym (append_assoc (int32 n) h.0 p.1));
      size = omega (arith, length-append (int32 n) h.0, length_int32 n, h.2.size_is, f.low);
      is = header_whole kind n h.0 p.0 f.low h.2;
    }
taken_sound kind n after fits (Err Partial) h =
    let f = fitting_is kind n fits in
    let parts : kind ∷ (int32 n ++ (after ++ h.0)) ≡ (kind ∷ (int32 n ++ after)) ++ h.0 = ap (λ (w : List ℕ). kind ∷ w) (sym (append_assoc (int32 n) after h.0)) in
    let some : length (kind ∷ (int32 n ++ after)) ≤ n = omega (arith, h.2, h.3.size_is, length-append after h.0, length-append (int32 n) after, length_int32 n) in
    (inl (h.0, h.1, h.2, subst (λ (w : List ℕ). IsBack w h.1) parts (header_whole kind n (after ++ h.0) h.1 f.low h.3)), behind_body kind n after refl (omega (arith, f.high)) some refl)
taken_sound kind n after fits (Err (Departs left)) h =
    let f = fitting_is kind n fits in
    let front = kind ∷ (int32 n ++ h.front) in
    let regroup : (w : List ℕ) → kind ∷ (int32 n ++ (h.front ++ w)) ≡ front ++ w = λ w. ap (λ (x : List ℕ). kind ∷ x) (sym (append_assoc (int32 n) h.front w)) in
    record {
      front = front;
      byte = h.byte;
      behind = h.behind;
      parts = ap (λ (w : List ℕ). kind ∷ (int32 n ++ w)) h.parts ∙ regroup (h.byte ∷ h.behind);
      place = omega (arith, ap length h.parts, length-append h.front (h.byte ∷ h.behind), h.size, length-append (int32 n) h.front, length_int32 n);
      outside = inr (omega (arith, length-append (int32 n) h.front, length_int32 n));
      goes_on = (h.goes_on.0, h.goes_on.1, h.goes_on.2, subst (λ (w : List ℕ). IsBack w h.goes_on.1) (regroup h.goes_on.0) (header_whole kind n (h.front ++ h.goes_on.0) h.goes_on.1 f.low h.goes_on.3));
      stuck = λ more m is.
          let u = unheader kind n (h.front ++ h.byte ∷ more) m (omega (arith, f.high)) (subst (λ (w : List ℕ). IsBack w m) (sym (regroup (h.byte ∷ more))) is) in
          h.stuck more m u.body_is;
    }

length_sound : (kind n : ℕ) (after : List ℕ) → is_back_type kind ≡ true → n < 2 ^ 32 → IsBytes after → IsSoundBack (kind ∷ (int32 n ++ after)) (back_of_length kind n after)
length_sound kind n after known fits bytes =
    cond_both (has_length kind n) _ _ (IsSoundBack (kind ∷ (int32 n ++ after)))
    (λ yes_it.
    let f = fitting_is kind n yes_it in
    taken_sound kind n after yes_it (body_at kind (n - 4) after) ((good (n - 4) kind known f.type_is (omega (arith, f.low, f.high))).exact after bytes))
    (λ no_such. record {
      kind = kind;
      rest = after;
      parts = refl;
      fits = fits;
      known = known_goes kind known;
      none = λ more m is. let u = unheader kind n more m fits is in let both = u.length_is in cc;
    })

pub back_sound : (bytes : List ℕ) → IsBytes bytes → IsSoundBack bytes (back_of bytes)
unfolding back_of
back_sound [] fits = (inl empty_goes, behind_header (omega arith) refl)
back_sound (kind ∷ rest) fits =
    cond_both (not (is_back_type kind)) _ _ (IsSoundBack (kind ∷ rest))
    (λ unknown. record {
      front = [];
      byte = kind;
      behind = rest;
      parts = refl;
      place = refl;
      outside = inl refl;
      goes_on = empty_goes;
      stuck = λ more m is. let known = goes_known kind more m is in let e : not (is_back_type kind) ≡ false = rw known refl in cc;
    })
    (λ known_not. cond_both (ltb (length rest) 4) _ _ (IsSoundBack (kind ∷ rest))
    (λ short.
    let few = ltb-true _ _ short in
    (inr (record { kind = kind; rest = rest; parts = refl; short = few; known = known_goes kind (known_type kind known_not) }), behind_header (omega (arith, few)) refl))
    (λ long.
    let split = number_split rest (ltb-false _ _ long) (λ i. fits (suc i)) in
    let P : List ℕ → Type 0 = λ bytes. IsSoundBack (kind ∷ bytes) (back_of_length kind (big_number 4 rest) (drop 4 rest)) in
    subst P (sym split) (length_sound kind (big_number 4 rest) (drop 4 rest) (known_type kind known_not) (number_below rest (λ i. fits (suc i))) (IsBytes-drop 4 rest (λ i. fits (suc i))))))
  where
    known_type : (kind : ℕ) → not (is_back_type kind) ≡ false → is_back_type kind ≡ true
    known_type kind h = elim (is_back_type kind) as (λ t. not t ≡ false → t ≡ true) [ true ↦ λ _. refl | false ↦ λ e. absurd cc ] h
