-- The bodies of the server's messages: their languages, and that reading them is exact.
use Rattle.std.proofs.{Common.{◌≡◌, ℕ, ℤ, zero, suc, ◌+◌, ◌-◌, ◌<◌, ◌≤◌, true, false, ◌==◌, ◌&&◌, eqb, ltb, List, [], ◌∷◌, ◌++◌, length, get_or, Result, Ok, refl, sym, ap, subst, ◌∙◌, arith}, lemmas.{Bool.{cond_both, eqb-true, eqb-false, ltb-true, ltb-false, lt-ltb, and_parts, eq-eqb}, List.get_or-append-add}}
use Rattle.pm_wire_back.{specs.{declared.parts.{Stop.Stop, Ending.TheVariants.{Anywhere, Exactly}}, Parts.{◌>>=◌, literal_at, int32_at, text_at, string_at, key_at}, BackReading.{word_at, param_at, key_data_at, one_at, count_at, key_room, pair_at, columns_at, row_at}}, proofs.{Exact.{Apart, GoesOn, HasWord, Exact, Then, Done, done_exact, done_apart, done_word, then_apart, then_word, then_exact}, Fields.{exact_first, departs_now, Word, word_apart, word_word, literal_exact, Number, number_apart, number_word, int32_exact, Text, text_apart, text_word, text_exact, String, string_apart, string_word, string_exact, bind_same}, Digits.{KeyWord, key_word, key_exact, key_apart}}}
use Rattle.pm_wire.specs.{Pieces.int32, Backend.{BackMessage, Param, Key, Pair, One}, Numbers.IsBytes}
use Rattle.pm_utf8.specs.{Utf8.boundary, States.boundary_sound}

pub IsBytes-behind : (bytes u rest : List ℕ) → IsBytes bytes → bytes ≡ u ++ rest → IsBytes rest
IsBytes-behind bytes u rest fits e i =
    let at : get_or bytes (length u + i) 0 ≡ get_or rest i 0 = ap (λ (w : List ℕ). get_or w (length u + i) 0) e ∙ get_or-append-add u rest i 0 in
    subst (λ (n : ℕ). n < 256) at (fits (length u + i))

-- the last part, and what it makes
pub last_exact : {X Y : Type 0} (A : List ℕ → X → Type 0) (g : X → Y) → Apart A → (bytes : List ℕ) (out : Result (X × List ℕ) Stop) → Exact A bytes out
    → Exact (Then A (λ x. Done (g x))) bytes (out >>= λ p. Ok (g p.0, p.1))
last_exact A g apart bytes out h = then_exact A (λ x. Done (g x)) apart (λ u x _. done_word (g x)) bytes out (λ p. Ok (g p.0, p.1)) h (λ u rest x _ _. done_exact (g x) rest)

pub last_apart : {X Y : Type 0} (A : List ℕ → X → Type 0) (g : X → Y) → Apart A → Apart (Then A (λ x. Done (g x)))
last_apart A g apart = then_apart A (λ x. Done (g x)) apart (λ x. done_apart (g x))

pub last_word : {X Y : Type 0} (A : List ℕ → X → Type 0) (g : X → Y) → (a : HasWord A) → HasWord (Then A (λ x. Done (g x)))
last_word A g a = then_word A (λ x. Done (g x)) a (done_word (g a.1))

-- a word before a part
abbrev pub Behind : {Y : Type 0} → List ℕ → (List ℕ → Y → Type 0) → List ℕ → Y → Type 0
Behind w B = Then (Word w) (λ _. B)

pub behind_exact : {Y : Type 0} (w : List ℕ) (B : List ℕ → Y → Type 0) → HasWord B → (bytes : List ℕ) (f : (Unit {0}) × List ℕ → Result (Y × List ℕ) Stop)
    → ((u rest : List ℕ) → bytes ≡ u ++ rest → Exact B rest (f (tt, rest))) → Exact (Behind w B) bytes (literal_at w bytes >>= f)
behind_exact w B words bytes f next = then_exact (Word w) (λ _. B) (word_apart w) (λ _ _ _. words) bytes (literal_at w bytes) f (literal_exact w bytes) (λ u rest x _ parts. next u rest parts)

pub behind_apart : {Y : Type 0} (w : List ℕ) (B : List ℕ → Y → Type 0) → Apart B → Apart (Behind w B)
behind_apart w B apart = then_apart (Word w) (λ _. B) (word_apart w) (λ _. apart)

pub behind_word : {Y : Type 0} (w : List ℕ) (B : List ℕ → Y → Type 0) → HasWord B → HasWord (Behind w B)
behind_word w B words = then_word (Word w) (λ _. B) (word_word w) words

-- ---- one word

abbrev pub OneWord : List ℕ → BackMessage → List ℕ → BackMessage → Type 0
OneWord w m = Then (Word w) (λ _. Done m)

pub word_exact : (w : List ℕ) (m : BackMessage) (bytes : List ℕ) → Exact (OneWord w m) bytes (word_at w m bytes)
unfolding word_at
word_exact w m bytes = behind_exact w (Done m) (done_word m) bytes (λ p. Ok (m, p.1)) (λ u rest _. done_exact m rest)

pub one_word_apart : (w : List ℕ) (m : BackMessage) → Apart (OneWord w m)
one_word_apart w m = behind_apart w (Done m) (done_apart m)

-- ---- a parameter

abbrev pub Value : ℕ → List ℕ → List ℕ → BackMessage → Type 0
Value size name = Then (String Exactly boundary (size - 2 - length name)) (λ value. Done (Param name value))

abbrev pub ParamBody : ℕ → List ℕ → BackMessage → Type 0
ParamBody size = Then (String Anywhere boundary (size - 2)) (λ name. Value size name)

pub param_exact : (size : ℕ) (bytes : List ℕ) → Exact (ParamBody size) bytes (param_at size bytes)
unfolding param_at
param_exact size bytes =
    then_exact (String Anywhere boundary (size - 2)) (λ name. Value size name) (string_apart Anywhere boundary (size - 2))
    (λ u name _. last_word (String Exactly boundary (size - 2 - length name)) (λ value. Param name value) (string_word Exactly (size - 2 - length name)))
    bytes (string_at Anywhere boundary (size - 2) bytes) _ (string_exact bytes Anywhere boundary (size - 2) boundary_sound (omega arith))
    (λ u rest name _ _.
    last_exact (String Exactly boundary (size - 2 - length name)) (λ value. Param name value) (string_apart Exactly boundary (size - 2 - length name)) rest
    (string_at Exactly boundary (size - 2 - length name) rest) (string_exact rest Exactly boundary (size - 2 - length name) boundary_sound (omega arith)))

pub param_apart : (size : ℕ) → Apart (ParamBody size)
param_apart size =
    then_apart (String Anywhere boundary (size - 2)) (λ name. Value size name) (string_apart Anywhere boundary (size - 2))
    (λ name. last_apart (String Exactly boundary (size - 2 - length name)) (λ value. Param name value) (string_apart Exactly boundary (size - 2 - length name)))

pub param_word : (size : ℕ) → HasWord (ParamBody size)
param_word size =
    let name = string_word Anywhere (size - 2) in
    then_word (String Anywhere boundary (size - 2)) (λ n. Value size n) name
    (last_word (String Exactly boundary (size - 2 - length name.1)) (λ value. Param name.1 value) (string_word Exactly (size - 2 - length name.1)))

-- ---- a key

abbrev pub KeyBody : List ℕ → BackMessage → Type 0
KeyBody = Then Number (λ pid. Then Number (λ key. Done (Key pid key)))

pub key_data_exact : (bytes : List ℕ) → IsBytes bytes → Exact KeyBody bytes (key_data_at bytes)
unfolding key_data_at
key_data_exact bytes fits =
    then_exact Number (λ pid. Then Number (λ key. Done (Key pid key))) number_apart (λ u pid _. last_word Number (λ key. Key pid key) number_word) bytes (int32_at bytes) _ (int32_exact bytes fits)
    (λ u rest pid _ parts. last_exact Number (λ key. Key pid key) number_apart rest (int32_at rest) (int32_exact rest (IsBytes-behind bytes u rest fits parts)))

pub key_data_apart : Apart KeyBody
key_data_apart = then_apart Number (λ pid. Then Number (λ key. Done (Key pid key))) number_apart (λ pid. last_apart Number (λ key. Key pid key) number_apart)

pub key_data_word : HasWord KeyBody
key_data_word = then_word Number (λ pid. Then Number (λ key. Done (Key pid key))) number_word (last_word Number (λ key. Key number_word.1 key) number_word)

-- ---- rows

abbrev pub OneBody : ℕ → List ℕ → BackMessage → Type 0
OneBody size = Behind (int32 (size - 6)) (Then (Text boundary (size - 6)) (λ t. Done (One t)))

pub one_word : (size : ℕ) → HasWord (OneBody size)
one_word size = behind_word (int32 (size - 6)) (Then (Text boundary (size - 6)) (λ t. Done (One t))) (last_word (Text boundary (size - 6)) (λ t. One t) (text_word (size - 6)))

one_exact : (size : ℕ) (bytes : List ℕ) → Exact (OneBody size) bytes (one_at size bytes)
unfolding one_at
one_exact size bytes =
    behind_exact (int32 (size - 6)) (Then (Text boundary (size - 6)) (λ t. Done (One t))) (last_word (Text boundary (size - 6)) (λ t. One t) (text_word (size - 6))) bytes _
    (λ u rest _. last_exact (Text boundary (size - 6)) (λ t. One t) (text_apart boundary (size - 6)) rest (text_at boundary (size - 6) rest) (text_exact (size - 6) rest boundary boundary_sound (omega arith)))

one_apart : (size : ℕ) → Apart (OneBody size)
one_apart size = behind_apart (int32 (size - 6)) (Then (Text boundary (size - 6)) (λ t. Done (One t))) (last_apart (Text boundary (size - 6)) (λ t. One t) (text_apart boundary (size - 6)))

abbrev pub CountWord : ℕ → List ℕ → ℕ → Type 0
CountWord most word c = (word ≡ c ∷ []) × (1 ≤ c) × (c ≤ most)

count_exact : (most : ℕ) (bytes : List ℕ) → 1 ≤ most → Exact (CountWord most) bytes (count_at most bytes)
unfolding count_at
count_exact most [] some = (1 ∷ [], 1, omega arith, (refl, omega arith, some))
count_exact most (b ∷ bs) some =
    let goes : GoesOn (CountWord most) [] = (1 ∷ [], 1, omega arith, (refl, omega arith, some)) in
    cond_both (eqb b 0) _ _ (Exact (CountWord most) (b ∷ bs))
    (λ none. departs_now (CountWord most) b bs goes (λ more c word. let same : b ≡ c = (let e = word.0 in cc) in omega (arith, same, eqb-true _ _ none, word.1)))
    (λ nonzero. cond_both (ltb most b) _ _ (Exact (CountWord most) (b ∷ bs))
    (λ large. departs_now (CountWord most) b bs goes (λ more c word. let same : b ≡ c = (let e = word.0 in cc) in omega (arith, same, ltb-true _ _ large, word.2)))
    (λ fits. (b ∷ [], refl, (refl, positive b nonzero, ltb-false _ _ fits))))
  where
    positive : (b : ℕ) → eqb b 0 ≡ false → 1 ≤ b
    positive zero h = absurd (eqb-false 0 0 h refl)
    positive (suc b) h = omega arith

count_apart : (most : ℕ) → Apart (CountWord most)
count_apart most a b x y m n at_m at_n e =
    let both : (m ∷ []) ++ x ≡ (n ∷ []) ++ y = ap (λ (w : List ℕ). w ++ x) (sym at_m.0) ∙ e ∙ ap (λ (w : List ℕ). w ++ y) at_n.0 in
    let same : m ≡ n = cc in
    (at_m.0 ∙ ap (λ (k : ℕ). k ∷ []) same ∙ sym at_n.0, same)

abbrev pub PairValue : ℕ → ℕ → ℤ → List ℕ → BackMessage → Type 0
PairValue size count key = Behind (int32 (size - 10 - count)) (Then (Text boundary (size - 10 - count)) (λ t. Done (Pair key t)))

abbrev pub PairKey : ℕ → ℕ → List ℕ → BackMessage → Type 0
PairKey size count = Then (KeyWord count) (λ key. PairValue size count key)

abbrev pub PairBody : ℕ → List ℕ → BackMessage → Type 0
PairBody size = Behind (0 ∷ 0 ∷ 0 ∷ []) (Then (CountWord (key_room size)) (λ count. PairKey size count))

room_is : (size : ℕ) → 10 < size → (1 ≤ key_room size) × (key_room size ≤ 20) × (key_room size ≤ size - 10)
room_is size lt =
    cond_both (ltb (size - 10) 20) _ _ (λ (n : ℕ). (1 ≤ n) × (n ≤ 20) × (n ≤ size - 10))
    (λ less. (omega (arith, lt), omega (arith, ltb-true _ _ less), omega arith))
    (λ more. (omega arith, omega arith, ltb-false _ _ more))

pair_value_word : (size count : ℕ) (key : ℤ) → HasWord (PairValue size count key)
pair_value_word size count key =
    behind_word (int32 (size - 10 - count)) (Then (Text boundary (size - 10 - count)) (λ t. Done (Pair key t))) (last_word (Text boundary (size - 10 - count)) (λ t. Pair key t) (text_word (size - 10 - count)))

pair_key_word : (size count : ℕ) → 1 ≤ count → count ≤ 20 → HasWord (PairKey size count)
pair_key_word size count low high = let k = key_word count low high in then_word (KeyWord count) (λ key. PairValue size count key) k (pair_value_word size count k.1)

counted_word : (size : ℕ) → 10 < size → HasWord (Then (CountWord (key_room size)) (λ count. PairKey size count))
counted_word size lt =
    then_word (CountWord (key_room size)) (λ count. PairKey size count) (1 ∷ [], 1, (refl, omega arith, (room_is size lt).0)) (pair_key_word size 1 (omega arith) (omega arith))

pub pair_word : (size : ℕ) → 10 < size → HasWord (PairBody size)
pair_word size lt = behind_word (0 ∷ 0 ∷ 0 ∷ []) (Then (CountWord (key_room size)) (λ count. PairKey size count)) (counted_word size lt)

pair_value_exact : (size count : ℕ) (key : ℤ) (bytes : List ℕ)
    → Exact (PairValue size count key) bytes (literal_at (int32 (size - 10 - count)) bytes >>= λ l. text_at boundary (size - 10 - count) l.1 >>= λ value. Ok (Pair key value.0, value.1))
pair_value_exact size count key bytes =
    behind_exact (int32 (size - 10 - count)) (Then (Text boundary (size - 10 - count)) (λ t. Done (Pair key t)))
    (last_word (Text boundary (size - 10 - count)) (λ t. Pair key t) (text_word (size - 10 - count))) bytes _
    (λ u rest _. last_exact (Text boundary (size - 10 - count)) (λ t. Pair key t) (text_apart boundary (size - 10 - count)) rest (text_at boundary (size - 10 - count) rest) (text_exact (size - 10 - count) rest boundary boundary_sound (omega arith)))

pair_exact : (size : ℕ) (bytes : List ℕ) → 10 < size → Exact (PairBody size) bytes (pair_at size bytes)
unfolding pair_at
pair_exact size bytes lt =
    behind_exact (0 ∷ 0 ∷ 0 ∷ []) (Then (CountWord (key_room size)) (λ count. PairKey size count)) (counted_word size lt) bytes _
    (λ u rest _. then_exact (CountWord (key_room size)) (λ count. PairKey size count) (count_apart (key_room size))
    (λ v count word. pair_key_word size count word.1 (omega (arith, word.2, (room_is size lt).1)))
    rest (count_at (key_room size) rest) _ (count_exact (key_room size) rest (room_is size lt).0)
    (λ v after count word _. then_exact (KeyWord count) (λ key. PairValue size count key) (key_apart count) (λ w key _. pair_value_word size count key)
    after (key_at count after) _ (key_exact after count word.1 (omega (arith, word.2, (room_is size lt).1)))
    (λ w behind key _ _. pair_value_exact size count key behind)))

pair_apart : (size : ℕ) → Apart (PairBody size)
pair_apart size =
    behind_apart (0 ∷ 0 ∷ 0 ∷ []) (Then (CountWord (key_room size)) (λ count. PairKey size count))
    (then_apart (CountWord (key_room size)) (λ count. PairKey size count) (count_apart (key_room size))
    (λ count. then_apart (KeyWord count) (λ key. PairValue size count key) (key_apart count)
    (λ key. behind_apart (int32 (size - 10 - count)) (Then (Text boundary (size - 10 - count)) (λ t. Done (Pair key t))) (last_apart (Text boundary (size - 10 - count)) (λ t. Pair key t) (text_apart boundary (size - 10 - count))))))

pub same_first : (a b : ℕ) (x y : List ℕ) → a ∷ x ≡ b ∷ y → a ≡ b
same_first a b x y e = cc

-- the number of columns, and the row
pub data Columns (size : ℕ) (word : List ℕ) (m : BackMessage) : Type 0 where
  one_column : (rest : List ℕ) → word ≡ 1 ∷ rest → OneBody size rest m → Columns size word m
  two_columns : (rest : List ℕ) → word ≡ 2 ∷ rest → 10 < size → PairBody size rest m → Columns size word m

columns_goes : (size : ℕ) → GoesOn (Columns size) []
columns_goes size = let w = one_word size in (1 ∷ w.0, w.1, omega arith, one_column w.0 refl w.2)

one_of : (size : ℕ) (w : List ℕ) (m : BackMessage) → Columns size (1 ∷ w) m → OneBody size w m
one_of size w m (one_column rest e h) = let same : rest ≡ w = cc in subst (λ (x : List ℕ). OneBody size x m) same h
one_of size w m (two_columns rest e lt h) = absurd (omega (arith, same_first 1 2 w rest e))

pair_of : (size : ℕ) (w : List ℕ) (m : BackMessage) → Columns size (2 ∷ w) m → PairBody size w m
pair_of size w m (one_column rest e h) = absurd (omega (arith, same_first 2 1 w rest e))
pair_of size w m (two_columns rest e lt h) = let same : rest ≡ w = cc in subst (λ (x : List ℕ). PairBody size x m) same h

no_columns : (size b : ℕ) (w : List ℕ) (m : BackMessage) → (b ≡ 1 → ⊥) → (b == 2 && ltb 10 size) ≡ false → Columns size (b ∷ w) m → ⊥
no_columns size b w m no_one no_two (one_column rest e h) = no_one (cc)
no_columns size b w m no_one no_two (two_columns rest e lt h) =
    let two : b ≡ 2 = cc in
    let both : (b == 2 && ltb 10 size) ≡ true = rw (eq-eqb b 2 two, lt-ltb 10 size lt) refl in
    absurd cc

columns_exact : (size : ℕ) (bytes : List ℕ) → Exact (Columns size) bytes (columns_at size bytes)
unfolding columns_at
columns_exact size [] = columns_goes size
columns_exact size (b ∷ bs) =
    cond_both (eqb b 1) _ _ (Exact (Columns size) (b ∷ bs))
    (λ one.
    let P : ℕ → Type 0 = λ c. Exact (Columns size) (c ∷ bs) (one_at size bs) in
    subst P (sym (eqb-true _ _ one))
    (subst (Exact (Columns size) (1 ∷ bs)) (bind_same (one_at size bs))
    (exact_first (Columns size) (OneBody size) (λ m. m) 1 (λ w m h. one_column w refl h) (λ w m h. (m, one_of size w m h)) bs (one_at size bs) (one_exact size bs))))
    (λ no_one. cond_both (b == 2 && ltb 10 size) _ _ (Exact (Columns size) (b ∷ bs))
    (λ two.
    let both = and_parts (eqb b 2) (ltb 10 size) two in
    let lt : 10 < size = ltb-true _ _ both.1 in
    let P : ℕ → Type 0 = λ c. Exact (Columns size) (c ∷ bs) (pair_at size bs) in
    subst P (sym (eqb-true _ _ both.0))
    (subst (Exact (Columns size) (2 ∷ bs)) (bind_same (pair_at size bs))
    (exact_first (Columns size) (PairBody size) (λ m. m) 2 (λ w m h. two_columns w refl lt h) (λ w m h. (m, pair_of size w m h)) bs (pair_at size bs) (pair_exact size bs lt))))
    (λ no_two. departs_now (Columns size) b bs (columns_goes size) (λ more m h. no_columns size b more m (eqb-false _ _ no_one) no_two h)))

columns_apart : (size : ℕ) → Apart (Columns size)
columns_apart size a b x y m n (one_column r e h) (one_column s f k) whole =
    let both : r ++ x ≡ s ++ y = (let g = ap (λ (w : List ℕ). w ++ x) (sym e) ∙ whole ∙ ap (λ (w : List ℕ). w ++ y) f in cc) in
    let same = one_apart size r s x y m n h k both in
    (e ∙ ap (λ (w : List ℕ). 1 ∷ w) same.0 ∙ sym f, same.1)
columns_apart size a b x y m n (two_columns r e lt h) (two_columns s f lt' k) whole =
    let both : r ++ x ≡ s ++ y = (let g = ap (λ (w : List ℕ). w ++ x) (sym e) ∙ whole ∙ ap (λ (w : List ℕ). w ++ y) f in cc) in
    let same = pair_apart size r s x y m n h k both in
    (e ∙ ap (λ (w : List ℕ). 2 ∷ w) same.0 ∙ sym f, same.1)
columns_apart size a b x y m n (one_column r e h) (two_columns s f lt k) whole =
    absurd (omega (arith, same_first 1 2 (r ++ x) (s ++ y) (ap (λ (w : List ℕ). w ++ x) (sym e) ∙ whole ∙ ap (λ (w : List ℕ). w ++ y) f)))
columns_apart size a b x y m n (two_columns r e lt h) (one_column s f k) whole =
    absurd (omega (arith, same_first 2 1 (r ++ x) (s ++ y) (ap (λ (w : List ℕ). w ++ x) (sym e) ∙ whole ∙ ap (λ (w : List ℕ). w ++ y) f)))

abbrev pub RowBody : ℕ → List ℕ → BackMessage → Type 0
RowBody size = Behind (0 ∷ []) (Columns size)

pub row_word : (size : ℕ) → HasWord (RowBody size)
row_word size = let w = one_word size in behind_word (0 ∷ []) (Columns size) (1 ∷ w.0, w.1, one_column w.0 refl w.2)

pub row_exact : (size : ℕ) (bytes : List ℕ) → Exact (RowBody size) bytes (row_at size bytes)
unfolding row_at
row_exact size bytes = let w = one_word size in behind_exact (0 ∷ []) (Columns size) (1 ∷ w.0, w.1, one_column w.0 refl w.2) bytes _ (λ u rest _. columns_exact size rest)

pub row_apart : (size : ℕ) → Apart (RowBody size)
row_apart size = behind_apart (0 ∷ []) (Columns size) (columns_apart size)
