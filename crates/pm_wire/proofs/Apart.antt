-- No message begins another.
use Rattle.std.proofs.{Common.{◌≡◌, ℕ, ◌+◌, ◌^◌, ◌<◌, List, [], ◌++◌, length, take, drop, refl, sym, ap, ◌∙◌, arith, append_assoc}, lemmas.List.{take_at, drop_at, append-nil, length-append, nil_from_length}}
use Rattle.byteorder.specs.Endian.{big_number}
use Rattle.pm_wire.{specs.{declared.take.Take.TheVariants.Whole, Pieces.{int32, message}, Backend.{BackMessage, Auth, Param, Key, Ready, Fields, Pair, One, Complete, Empty, Fault, Notice, body, kind_of, spelling, IsWritable, HasCount}, Frontend.IsFront, Reading.front_of, Stream.StandApart, Numbers.{length_int32, number_again}, Sizes.short_iff}, proofs.FrontLaws.front_again}

-- what is read of both is one answer
pub front_apart : StandApart IsFront
front_apart a b x y m n is_m is_n e =
    let same : Whole m (length a) ≡ Whole n (length b) = sym (front_again m a x is_m) ∙ ap front_of e ∙ front_again n b y is_n in
    let used : length a ≡ length b = cc in
    let value : m ≡ n = cc in
    (sym (take_at a x (length a) refl) ∙ ap (take (length a)) e ∙ take_at b y (length a) (sym used), value)

pub length_kind : (m : BackMessage) → length (kind_of m) ≡ 1
length_kind Auth = refl
length_kind (Param name value) = refl
length_kind (Key pid key) = refl
length_kind Ready = refl
length_kind (Fields shape) = refl
length_kind (Pair key value) = refl
length_kind (One text) = refl
length_kind (Complete tag) = refl
length_kind Empty = refl
length_kind (Fault s) = refl
length_kind (Notice s) = refl

pub length_message : (kind body : List ℕ) → length kind ≡ 1 → length (message kind body) ≡ 5 + length body
length_message kind body one =
    omega (arith, one, length-append (kind ++ int32 (4 + length body)) body, length-append kind (int32 (4 + length body)), length_int32 (4 + length body))

-- the length field of a message
size_of : (kind body rest : List ℕ) → length kind ≡ 1 → 4 + length body < 2 ^ 32 → big_number 4 (drop 1 (message kind body ++ rest)) ≡ 4 + length body
size_of kind body rest one fits =
    let n = 4 + length body in
    let regrouped : message kind body ++ rest ≡ kind ++ (int32 n ++ (body ++ rest)) = simp append_assoc in
    let behind : drop 1 (kind ++ (int32 n ++ (body ++ rest))) ≡ int32 n ++ (body ++ rest) = drop_at kind (int32 n ++ (body ++ rest)) 1 one in
    ap (λ (bytes : List ℕ). big_number 4 (drop 1 bytes)) regrouped ∙ ap (big_number 4) behind ∙ number_again n (body ++ rest) fits

-- Two messages of which one begins the other have one length field.
pub back_ends : (m n : BackMessage) (more : List ℕ) → HasCount m → HasCount n → IsWritable m → IsWritable n → spelling m ++ more ≡ spelling n → more ≡ []
back_ends m n more count_m count_n at_m at_n e =
    let short_m = (short_iff m count_m).0 at_m.1 in
    let short_n = (short_iff n count_n).0 at_n.1 in
    let size_m = size_of (kind_of m) (body m) more (length_kind m) (omega (arith, short_m)) in
    let size_n = size_of (kind_of n) (body n) [] (length_kind n) (omega (arith, short_n)) in
    let same : 4 + length (body m) ≡ 4 + length (body n) =
    sym size_m ∙ ap (λ (bytes : List ℕ). big_number 4 (drop 1 bytes)) (e ∙ sym (append-nil (spelling n))) ∙ size_n in
    nil_from_length more (omega (arith, same, ap length e, length-append (spelling m) more, length_message (kind_of m) (body m) (length_kind m), length_message (kind_of n) (body n) (length_kind n)))
