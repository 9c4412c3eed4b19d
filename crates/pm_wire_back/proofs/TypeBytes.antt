-- The messages of each type, and that reading their bodies is exact.
use Rattle.std.{proofs.{Common.{◌≡◌, ◌==◌, Bool, true, false, get_or, ℕ, ℤ, pos, negsuc, suc, ◌+◌, ◌-◌, ◌/◌, ◌%◌, ◌^◌, ◌<◌, ◌≤◌, ◌⊎◌, ltb, List, [], ◌∷◌, ◌++◌, length, codes, Ok, Err, refl, sym, ap, subst, ◌∙◌, inl, inr, arith}, lemmas.{Bool.{cond_both, eqb-true, ltb-true, ltb-false, eq-eqb}, List.{append-nil, length-append}, Fmt.{length-decimal-le, decimal_nonempty}}}, specs.Fmt.signed_decimal}
use Rattle.pm_wire.specs.{declared.back.{Shape.Shape, Tag.Tag}, Pieces.{int16, int32, string, counted}, Backend.{BackMessage, Auth, Param, Key, Ready, Fields, Pair, One, Complete, Empty, Fault, Notice, Saying, body, kind_of, HasValues, IsWritable, IsInt64}, Numbers.{IsBytes, length_int32}, Nonzero.{all_nonzero, has_no_zero}}
use Rattle.pm_wire.specs.declared.back.Shape.TheVariants as shapes
use Rattle.pm_wire_back.{specs.{declared.parts.{Stop.TheVariants.{Partial, Departs}, Ending.TheVariants.{Anywhere, Exactly}}, BackReading.{Read, word_at, param_at, key_data_at, row_at, key_room}}, proofs.{Exact.{Apart, HasWord, Exact}, Fields.{Text, String}, Digits.KeyWord, Bodies.{OneWord, word_exact, one_word_apart, ParamBody, param_exact, param_apart, param_word, KeyBody, key_data_exact, key_data_apart, key_data_word, RowBody, row_exact, row_apart, row_word, Columns, one_column, two_columns, OneBody, PairBody, CountWord}}}
use Rattle.pm_utf8.specs.{Utf8.boundary, Characters.{accepts, is_utf8}}

-- the word is the body of a message of this type and size
pub record BodyIs (kind size : ℕ) (word : List ℕ) (m : BackMessage) : Type 0 where
  pub is : word ≡ body m
  pub kind_is : kind_of m ≡ kind ∷ []
  pub size_is : length word ≡ size
  pub values : HasValues m
  pub writable : IsWritable m

-- a reader of these bodies
pub record Good (kind size : ℕ) (read : List ℕ → Read) : Type 0 where
  pub exact : (bytes : List ℕ) → IsBytes bytes → Exact (BodyIs kind size) bytes (read bytes)
  pub apart : Apart (BodyIs kind size)
  pub word : HasWord (BodyIs kind size)

exact_as : (L M : List ℕ → BackMessage → Type 0) → ((w : List ℕ) (m : BackMessage) → L w m → M w m) → ((w : List ℕ) (m : BackMessage) → M w m → L w m)
    → (bytes : List ℕ) (out : Read) → Exact L bytes out → Exact M bytes out
exact_as L M into out bytes (Ok p) h = (h.0, h.1, into h.0 p.0 h.2)
exact_as L M into out bytes (Err Partial) h = (h.0, h.1, h.2, into (bytes ++ h.0) h.1 h.3)
exact_as L M into out bytes (Err (Departs left)) h = record {
  front = h.front;
  byte = h.byte;
  behind = h.behind;
  parts = h.parts;
  size = h.size;
  goes_on = (h.goes_on.0, h.goes_on.1, h.goes_on.2, into (h.front ++ h.goes_on.0) h.goes_on.1 h.goes_on.3);
  stuck = λ more m word. h.stuck more m (out (h.front ++ h.byte ∷ more) m word);
}

pub good_from : (kind size : ℕ) (read : List ℕ → Read) (L : List ℕ → BackMessage → Type 0) → ((w : List ℕ) (m : BackMessage) → L w m → BodyIs kind size w m)
    → ((w : List ℕ) (m : BackMessage) → BodyIs kind size w m → L w m) → ((bytes : List ℕ) → IsBytes bytes → Exact L bytes (read bytes)) → Apart L → HasWord L → Good kind size read
good_from kind size read L into out exact apart word = record {
  exact = λ bytes fits. exact_as L (BodyIs kind size) into out bytes (read bytes) (exact bytes fits);
  apart = λ a b x y m n at_m at_n e. apart a b x y m n (out a m at_m) (out b n at_n) e;
  word = (word.0, word.1, into word.0 word.1 word.2);
}

-- ---- the message of a type

abbrev pub Choose : Bool → Type 0 → Type 0 → Type 0
Choose true then_it otherwise = then_it
Choose false then_it otherwise = otherwise

-- what a message of the type is
abbrev pub MessageOf : ℕ → BackMessage → Type 0
MessageOf kind m =
    Choose (kind == 82) (m ≡ Auth)
    (Choose (kind == 83) ((name value : List ℕ) × (m ≡ Param name value))
    (Choose (kind == 75) ((pid key : ℕ) × (m ≡ Key pid key))
    (Choose (kind == 90) (m ≡ Ready)
    (Choose (kind == 84) ((shape : Shape) × (m ≡ Fields shape))
    (Choose (kind == 68) (((key : ℤ) × (value : List ℕ) × (m ≡ Pair key value)) ⊎ ((text : List ℕ) × (m ≡ One text)))
    (Choose (kind == 67) ((tag : Tag) × (m ≡ Complete tag))
    (Choose (kind == 73) (m ≡ Empty)
    (Choose (kind == 69) ((s : Saying) × (m ≡ Fault s)) ((s : Saying) × (m ≡ Notice s))))))))))

message_of : (m : BackMessage) → MessageOf (get_or (kind_of m) 0 0) m
message_of Auth = refl
message_of (Param name value) = (name, value, refl)
message_of (Key pid key) = (pid, key, refl)
message_of Ready = refl
message_of (Fields shape) = (shape, refl)
message_of (Pair key value) = inl (key, value, refl)
message_of (One text) = inr (text, refl)
message_of (Complete tag) = (tag, refl)
message_of Empty = refl
message_of (Fault s) = (s, refl)
message_of (Notice s) = (s, refl)

pub of_kind : (kind : ℕ) (m : BackMessage) → kind_of m ≡ kind ∷ [] → MessageOf kind m
of_kind kind m is = subst (λ (k : ℕ). MessageOf k m) (ap (λ (w : List ℕ). get_or w 0 0) is) (message_of m)

-- ---- messages of one word

word_into : (kind size : ℕ) (w : List ℕ) (m : BackMessage) → w ≡ body m → kind_of m ≡ kind ∷ [] → length w ≡ size → HasValues m → IsWritable m → (v : List ℕ) (n : BackMessage) → OneWord w m v n → BodyIs kind size v n
word_into kind size w m is kind_is size_is values writable v n h =
    let same : v ≡ w = h.3 ∙ ap (λ (x : List ℕ). x ++ h.1) h.4 ∙ ap (λ (x : List ℕ). w ++ x) h.5.0 ∙ append-nil w in
    subst (λ (x : BackMessage). BodyIs kind size v x) h.5.1 (record { is = same ∙ is; kind_is = kind_is; size_is = ap length same ∙ size_is; values = values; writable = writable })

word_out : (kind size : ℕ) (w : List ℕ) (m : BackMessage) → w ≡ body m → (v : List ℕ) (n : BackMessage) → n ≡ m → BodyIs kind size v n → OneWord w m v n
word_out kind size w m is v n same h =
    let whole : v ≡ w ++ [] = h.is ∙ ap body same ∙ sym is ∙ sym (append-nil w) in
    (w, [], tt, whole, refl, (refl, sym same))

pub good_auth : Good 82 4 (word_at (int32 0) Auth)
good_auth =
    good_from 82 4 (word_at (int32 0) Auth) (OneWord (int32 0) Auth) (word_into 82 4 (int32 0) Auth refl refl (length_int32 0) tt (tt, tt))
    (λ w m h. word_out 82 4 (int32 0) Auth refl w m (of_kind 82 m h.kind_is) h) (λ bytes _. word_exact (int32 0) Auth bytes) (one_word_apart (int32 0) Auth) (int32 0 ++ [], Auth, (int32 0, [], tt, refl, refl, (refl, refl)))

pub good_ready : Good 90 1 (word_at (codes "I") Ready)
good_ready =
    good_from 90 1 (word_at (codes "I") Ready) (OneWord (codes "I") Ready) (word_into 90 1 (codes "I") Ready refl refl refl tt (tt, tt))
    (λ w m h. word_out 90 1 (codes "I") Ready refl w m (of_kind 90 m h.kind_is) h) (λ bytes _. word_exact (codes "I") Ready bytes) (one_word_apart (codes "I") Ready) (codes "I", Ready, (codes "I", [], tt, refl, refl, (refl, refl)))

pub good_empty : Good 73 0 (word_at [] Empty)
good_empty =
    good_from 73 0 (word_at [] Empty) (OneWord [] Empty) (word_into 73 0 [] Empty refl refl refl tt (tt, tt))
    (λ w m h. word_out 73 0 [] Empty refl w m (of_kind 73 m h.kind_is) h) (λ bytes _. word_exact [] Empty bytes) (one_word_apart [] Empty) ([], Empty, ([], [], tt, refl, refl, (refl, refl)))

abbrev pub columns_size : Shape → ℕ
columns_size shapes.Pair = 42
columns_size shapes.Count = 26
columns_size shapes.Sleep = 29

pub columns_length : (shape : Shape) → length (body (Fields shape)) ≡ columns_size shape
unfolding int16 int32
columns_length shapes.Pair = refl
columns_length shapes.Count = refl
columns_length shapes.Sleep = refl

columns_same : (a b : Shape) → columns_size a ≡ columns_size b → a ≡ b
columns_same shapes.Pair shapes.Pair h = refl
columns_same shapes.Pair shapes.Count h = absurd (omega (arith, h))
columns_same shapes.Pair shapes.Sleep h = absurd (omega (arith, h))
columns_same shapes.Count shapes.Pair h = absurd (omega (arith, h))
columns_same shapes.Count shapes.Count h = refl
columns_same shapes.Count shapes.Sleep h = absurd (omega (arith, h))
columns_same shapes.Sleep shapes.Pair h = absurd (omega (arith, h))
columns_same shapes.Sleep shapes.Count h = absurd (omega (arith, h))
columns_same shapes.Sleep shapes.Sleep h = refl

pub good_fields : (shape : Shape) → Good 84 (columns_size shape) (word_at (body (Fields shape)) (Fields shape))
good_fields shape =
    good_from 84 (columns_size shape) (word_at (body (Fields shape)) (Fields shape)) (OneWord (body (Fields shape)) (Fields shape))
    (word_into 84 (columns_size shape) (body (Fields shape)) (Fields shape) refl refl (columns_length shape) tt (tt, tt))
    (λ w m h.
    let f = of_kind 84 m h.kind_is in
    let size : columns_size f.0 ≡ columns_size shape = sym (columns_length f.0) ∙ ap (λ (x : BackMessage). length (body x)) (sym f.1) ∙ ap length (sym h.is) ∙ h.size_is in
    word_out 84 (columns_size shape) (body (Fields shape)) (Fields shape) refl w m (f.1 ∙ ap (λ (s : Shape). Fields s) (columns_same f.0 shape size)) h)
    (λ bytes _. word_exact (body (Fields shape)) (Fields shape) bytes) (one_word_apart (body (Fields shape)) (Fields shape))
    (body (Fields shape) ++ [], Fields shape, (body (Fields shape), [], tt, refl, refl, (refl, refl)))

-- ---- parameters

param_into : (size : ℕ) → 2 ≤ size → size + 4 < 2 ^ 31 → (w : List ℕ) (m : BackMessage) → ParamBody size w m → BodyIs 83 size w m
param_into size low high w m h =
    let name = h.2 in
    let at_name : String Anywhere boundary (size - 2) h.0 name = h.4 in
    let value = h.5.2 in
    let at_value : String Exactly boundary (size - 2 - length name) h.5.0 value = h.5.4 in
    let value_word : h.1 ≡ value ++ 0 ∷ [] = h.5.3 ∙ ap (λ (x : List ℕ). h.5.0 ++ x) h.5.5.0 ∙ append-nil h.5.0 ∙ at_value.spelled in
    let whole : w ≡ string name ++ string value = h.3 ∙ ap (λ (x : List ℕ). x ++ h.1) at_name.spelled ∙ ap (λ (x : List ℕ). string name ++ x) value_word in
    let used : size - 2 - length name - length value ≡ 0 = eqb-true _ _ at_value.may in
    let size_is : length w ≡ size = omega (arith, ap length whole, length-append (string name) (string value), length-append name (0 ∷ []), length-append value (0 ∷ []), at_name.short, at_value.short, used) in
    subst (λ (x : BackMessage). BodyIs 83 size w x) h.5.5.1
    (record {
      is = whole;
      kind_is = refl;
      size_is = size_is;
      values = (is_utf8 name at_name.text, is_utf8 value at_value.text);
      writable = (
        (has_no_zero name at_name.nonzero, has_no_zero value at_value.nonzero),
        omega (arith, size_is, ap length whole, length-append (string name) (string value), length-append name (0 ∷ []), length-append value (0 ∷ []), high),
      );
    })

param_out : (size : ℕ) (w : List ℕ) (m : BackMessage) → BodyIs 83 size w m → ParamBody size w m
param_out size w m h =
    let p = of_kind 83 m h.kind_is in
    let name = p.0 in
    let value = p.1 in
    let b : BodyIs 83 size w (Param name value) = subst (λ (x : BackMessage). BodyIs 83 size w x) p.2 h in
    let lengths : length name + length value + 2 ≡ size = omega (arith, b.size_is, ap length b.is, length-append (string name) (string value), length-append name (0 ∷ []), length-append value (0 ∷ [])) in (
      string name,
      string value,
      name,
      b.is,
      record { spelled = refl; nonzero = all_nonzero name b.writable.0.0; short = omega (arith, lengths); may = refl; text = accepts name b.values.0 },
      (
        string value,
        [],
        value,
        sym (append-nil (string value)),
        record { spelled = refl; nonzero = all_nonzero value b.writable.0.1; short = omega (arith, lengths); may = eq-eqb _ _ (omega (arith, lengths)); text = accepts value b.values.1 },
        (refl, sym p.2),
      ),
    )

pub good_param : (size : ℕ) → 2 ≤ size → size + 4 < 2 ^ 31 → Good 83 size (param_at size)
good_param size low high =
    good_from 83 size (param_at size) (ParamBody size) (param_into size low high) (param_out size) (λ bytes _. param_exact size bytes) (param_apart size) (param_word size)

-- ---- keys

key_into : (w : List ℕ) (m : BackMessage) → KeyBody w m → BodyIs 75 8 w m
key_into w m h =
    let second : h.1 ≡ int32 h.5.2 = h.5.3 ∙ ap (λ (x : List ℕ). h.5.0 ++ x) h.5.5.0 ∙ append-nil h.5.0 ∙ h.5.4.0 in
    let whole : w ≡ int32 h.2 ++ int32 h.5.2 = h.3 ∙ ap (λ (x : List ℕ). x ++ h.1) h.4.0 ∙ ap (λ (x : List ℕ). int32 h.2 ++ x) second in
    subst (λ (x : BackMessage). BodyIs 75 8 w x) h.5.5.1
    (record { is = whole; kind_is = refl; size_is = omega (arith, ap length whole, length-append (int32 h.2) (int32 h.5.2), length_int32 h.2, length_int32 h.5.2); values = (h.4.1, h.5.4.1); writable = (tt, tt) })

key_out : (w : List ℕ) (m : BackMessage) → BodyIs 75 8 w m → KeyBody w m
key_out w m h =
    let k = of_kind 75 m h.kind_is in
    let b : BodyIs 75 8 w (Key k.0 k.1) = subst (λ (x : BackMessage). BodyIs 75 8 w x) k.2 h in
    (int32 k.0, int32 k.1, k.0, b.is, (refl, b.values.0), (int32 k.1, [], k.1, sym (append-nil (int32 k.1)), (refl, b.values.1), (refl, sym k.2)))

pub good_key : Good 75 8 key_data_at
good_key = good_from 75 8 key_data_at KeyBody key_into key_out key_data_exact key_data_apart key_data_word

-- ---- rows

int32_small : (c : ℕ) → c < 256 → int32 c ≡ 0 ∷ 0 ∷ 0 ∷ c ∷ []
unfolding int32
int32_small c h =
    let a : c / 16777216 % 256 ≡ 0 = omega arith in
    let b : c / 65536 % 256 ≡ 0 = omega arith in
    let d : c / 256 % 256 ≡ 0 = omega arith in
    let e : c % 256 ≡ c = omega arith in
    rw (a, b, d, e) refl

one_bytes : int16 1 ≡ 0 ∷ 1 ∷ []
unfolding int16
one_bytes = refl

two_bytes : int16 2 ≡ 0 ∷ 2 ∷ []
unfolding int16
two_bytes = refl

one_whole : (text : List ℕ) → body (One text) ≡ 0 ∷ 1 ∷ (int32 (length text) ++ text)
one_whole text = rw one_bytes refl

pair_whole : (key : ℤ) (value : List ℕ) → length (signed_decimal key) < 256
    → body (Pair key value) ≡ 0 ∷ 2 ∷ 0 ∷ 0 ∷ 0 ∷ length (signed_decimal key) ∷ (signed_decimal key ++ (int32 (length value) ++ value))
pair_whole key value small =
    let k = signed_decimal key in
    ap (λ (w : List ℕ). (w ++ counted k) ++ counted value) two_bytes ∙ ap (λ (w : List ℕ). 0 ∷ 2 ∷ ((w ++ k) ++ counted value)) (int32_small (length k) small)
    ∙ ap (λ (w : List ℕ). 0 ∷ 2 ∷ 0 ∷ 0 ∷ 0 ∷ length k ∷ w) (refl_of (k ++ counted value))
  where
    refl_of : (w : List ℕ) → w ≡ w
    refl_of w = refl

row_word_is : (size : ℕ) (w : List ℕ) (m : BackMessage) → (h : RowBody size w m) → w ≡ 0 ∷ h.1
row_word_is size w m h = h.3 ∙ ap (λ (x : List ℕ). x ++ h.1) h.4

one_into : (size : ℕ) → 6 ≤ size → size + 4 < 2 ^ 31 → (w rest : List ℕ) (m : BackMessage) → w ≡ 0 ∷ 1 ∷ rest → OneBody size rest m → BodyIs 68 size w m
one_into size low high w rest m e h =
    let text = h.5.2 in
    let at_text : Text boundary (size - 6) h.5.0 text = h.5.4 in
    let is_rest : rest ≡ int32 (length text) ++ text =
    h.3 ∙ ap (λ (x : List ℕ). x ++ h.1) h.4 ∙ ap (λ (x : List ℕ). int32 (size - 6) ++ x) (h.5.3 ∙ ap (λ (x : List ℕ). h.5.0 ++ x) h.5.5.0 ∙ append-nil h.5.0 ∙ at_text.0)
    ∙ ap (λ (n : ℕ). int32 n ++ text) (sym at_text.1) in
    let whole : w ≡ body (One text) = e ∙ ap (λ (x : List ℕ). 0 ∷ 1 ∷ x) is_rest ∙ sym (one_whole text) in
    let size_is : length w ≡ size = omega (arith, ap length e, ap length is_rest, length-append (int32 (length text)) text, length_int32 (length text), at_text.1, low) in
    subst (λ (x : BackMessage). BodyIs 68 size w x) h.5.5.1
    (record { is = whole; kind_is = refl; size_is = size_is; values = is_utf8 text at_text.2; writable = (tt, omega (arith, at_text.1, high, low)) })

pair_into : (size : ℕ) → 10 < size → size + 4 < 2 ^ 31 → (w rest : List ℕ) (m : BackMessage) → w ≡ 0 ∷ 2 ∷ rest → PairBody size rest m → BodyIs 68 size w m
pair_into size low high w rest m e h =
    let counted_part = h.5 in
    let count = counted_part.2 in
    let at_count : CountWord (key_room size) counted_part.0 count = counted_part.4 in
    let key_part = counted_part.5 in
    let key = key_part.2 in
    let at_key : KeyWord count key_part.0 key = key_part.4 in
    let length_part = key_part.5 in
    let value_part = length_part.5 in
    let value = value_part.2 in
    let at_value : Text boundary (size - 10 - count) value_part.0 value = value_part.4 in
    let k = signed_decimal key in
    let key_size : length k ≡ count = ap length (sym at_key.0) ∙ at_key.1 in
    let room = key_room_is size low in
    let is_value : length_part.1 ≡ value = value_part.3 ∙ ap (λ (x : List ℕ). value_part.0 ++ x) value_part.5.0 ∙ append-nil value_part.0 ∙ at_value.0 in
    let is_length : key_part.1 ≡ int32 (length value) ++ value =
    length_part.3 ∙ ap (λ (x : List ℕ). x ++ length_part.1) length_part.4 ∙ ap (λ (x : List ℕ). int32 (size - 10 - count) ++ x) is_value ∙ ap (λ (n : ℕ). int32 n ++ value) (sym at_value.1) in
    let is_key : counted_part.1 ≡ k ++ (int32 (length value) ++ value) = key_part.3 ∙ ap (λ (x : List ℕ). x ++ key_part.1) at_key.0 ∙ ap (λ (x : List ℕ). k ++ x) is_length in
    let is_count : h.1 ≡ length k ∷ (k ++ (int32 (length value) ++ value)) =
    counted_part.3 ∙ ap (λ (x : List ℕ). x ++ counted_part.1) at_count.0 ∙ ap (λ (x : List ℕ). count ∷ x) is_key ∙ ap (λ (n : ℕ). n ∷ (k ++ (int32 (length value) ++ value))) (sym key_size) in
    let is_rest : rest ≡ 0 ∷ 0 ∷ 0 ∷ length k ∷ (k ++ (int32 (length value) ++ value)) = h.3 ∙ ap (λ (x : List ℕ). x ++ h.1) h.4 ∙ ap (λ (x : List ℕ). 0 ∷ 0 ∷ 0 ∷ x) is_count in
    let whole : w ≡ body (Pair key value) = e ∙ ap (λ (x : List ℕ). 0 ∷ 2 ∷ x) is_rest ∙ sym (pair_whole key value (omega (arith, key_size, at_count.2, room.1))) in
    let tail_size : length (k ++ (int32 (length value) ++ value)) ≡ count + (4 + length value) =
    omega (arith, length-append k (int32 (length value) ++ value), length-append (int32 (length value)) value, length_int32 (length value), key_size) in
    let size_is : length w ≡ size = omega (arith, ap length e, ap length is_rest, tail_size, at_value.1, at_count.2, room.2, low) in
    subst (λ (x : BackMessage). BodyIs 68 size w x) value_part.5.1
    (record { is = whole; kind_is = refl; size_is = size_is; values = (at_key.2, is_utf8 value at_value.2); writable = (tt, omega (arith, key_size, at_value.1, at_count.2, room.2, high, low)) })
  where
    key_room_is : (size : ℕ) → 10 < size → (1 ≤ key_room size) × (key_room size ≤ 20) × (key_room size ≤ size - 10)
    key_room_is size lt =
        cond_both (ltb (size - 10) 20) _ _ (λ (n : ℕ). (1 ≤ n) × (n ≤ 20) × (n ≤ size - 10))
        (λ less. (omega (arith, lt), omega (arith, ltb-true _ _ less), omega arith))
        (λ more. (omega arith, omega arith, ltb-false _ _ more))

row_into : (size : ℕ) → 6 ≤ size → size + 4 < 2 ^ 31 → (w : List ℕ) (m : BackMessage) → RowBody size w m → BodyIs 68 size w m
row_into size low high w m h = go h.5
  where
    go : Columns size h.1 m → BodyIs 68 size w m
    go (one_column rest e k) = one_into size low high w rest m (row_word_is size w m h ∙ ap (λ (x : List ℕ). 0 ∷ x) e) k
    go (two_columns rest e lt k) = pair_into size lt high w rest m (row_word_is size w m h ∙ ap (λ (x : List ℕ). 0 ∷ x) e) k

one_out : (size : ℕ) (w text : List ℕ) → BodyIs 68 size w (One text) → RowBody size w (One text)
one_out size w text b =
    let whole : w ≡ 0 ∷ 1 ∷ (int32 (length text) ++ text) = b.is ∙ one_whole text in
    let size_of : length text ≡ size - 6 = omega (arith, b.size_is, ap length whole, length-append (int32 (length text)) text, length_int32 (length text)) in
    let same : int32 (length text) ≡ int32 (size - 6) = ap int32 size_of in (
      0 ∷ [],
      1 ∷ (int32 (length text) ++ text),
      tt,
      whole,
      refl,
      one_column (int32 (length text) ++ text) refl
          (int32 (length text), text, tt, refl, same, (text, [], text, sym (append-nil text), (refl, size_of, accepts text b.values), (refl, refl))),
    )

key_short : (key : ℤ) → IsInt64 key → (1 ≤ length (signed_decimal key)) × (length (signed_decimal key) ≤ 20)
key_short (pos n) h = (omega (arith, decimal_nonempty n (omega (arith, h))), omega (arith, length-decimal-le 20 n (omega arith) (omega (arith, h)) (omega (arith, h))))
key_short (negsuc n) h = (omega arith, omega (arith, length-decimal-le 19 (suc n) (omega arith) (omega (arith, h)) (omega (arith, h))))

pair_out : (size : ℕ) (w : List ℕ) (key : ℤ) (value : List ℕ) → BodyIs 68 size w (Pair key value) → RowBody size w (Pair key value)
pair_out size w key value b =
    let k = signed_decimal key in
    let digits = key_short key b.values.0 in
    let whole : w ≡ 0 ∷ 2 ∷ 0 ∷ 0 ∷ 0 ∷ length k ∷ (k ++ (int32 (length value) ++ value)) = b.is ∙ pair_whole key value (omega (arith, digits.1)) in
    let tail_size : length (k ++ (int32 (length value) ++ value)) ≡ length k + (4 + length value) =
    omega (arith, length-append k (int32 (length value) ++ value), length-append (int32 (length value)) value, length_int32 (length value)) in
    let sum_is : 10 + length k + length value ≡ size = omega (arith, b.size_is, ap length whole, tail_size) in
    let low : 10 < size = omega (arith, sum_is, digits.0) in
    let value_size : length value ≡ size - 10 - length k = omega (arith, sum_is) in
    let fits : length k ≤ key_room size =
    cond_both (ltb (size - 10) 20) _ _ (λ (n : ℕ). length k ≤ n) (λ _. omega (arith, sum_is)) (λ _. digits.1) in (
      0 ∷ [],
      2 ∷ 0 ∷ 0 ∷ 0 ∷ length k ∷ (k ++ (int32 (length value) ++ value)),
      tt,
      whole,
      refl,
      two_columns (0 ∷ 0 ∷ 0 ∷ length k ∷ (k ++ (int32 (length value) ++ value))) refl low (
        0 ∷ 0 ∷ 0 ∷ [],
        length k ∷ (k ++ (int32 (length value) ++ value)),
        tt,
        refl,
        refl,
        (
          length k ∷ [],
          k ++ (int32 (length value) ++ value),
          length k,
          refl,
          (refl, digits.0, fits),
          (
            k,
            int32 (length value) ++ value,
            key,
            refl,
            (refl, refl, b.values.0),
            (int32 (length value), value, tt, refl, ap int32 value_size, (value, [], value, sym (append-nil value), (refl, value_size, accepts value b.values.1), (refl, refl))),
          ),
        ),
      ),
    )

row_out : (size : ℕ) (w : List ℕ) (m : BackMessage) → BodyIs 68 size w m → RowBody size w m
row_out size w m h =
    elim (of_kind 68 m h.kind_is) [
      | inl p ↦ subst (λ (x : BackMessage). RowBody size w x) (sym p.2) (pair_out size w p.0 p.1 (subst (λ (x : BackMessage). BodyIs 68 size w x) p.2 h))
      | inr o ↦ subst (λ (x : BackMessage). RowBody size w x) (sym o.1) (one_out size w o.0 (subst (λ (x : BackMessage). BodyIs 68 size w x) o.1 h))
    ]

pub good_row : (size : ℕ) → 6 ≤ size → size + 4 < 2 ^ 31 → Good 68 size (row_at size)
good_row size low high = good_from 68 size (row_at size) (RowBody size) (row_into size low high) (row_out size) (λ bytes _. row_exact size bytes) (row_apart size) (row_word size)
