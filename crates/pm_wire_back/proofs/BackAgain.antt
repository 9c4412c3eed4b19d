-- What is spelled so is read, and each fault is told where it stands.
use Rattle.std.proofs.{Common.{◌≡◌, ℕ, suc, ◌+◌, ◌-◌, ◌^◌, ◌<◌, ◌≤◌, true, false, ltb, List, [], ◌∷◌, ◌++◌, length, get_or, drop, take, ◌↔◌, Ok, Err, refl, sym, ap, subst, ◌∙◌, inl, inr, arith, append_assoc}, lemmas.{Bool.{cases_lt, lt-ltb, le-ltb}, List.{length-append, append_cancel_left, drop_at, take_at, get_or_append_left, get_or_past}}}
use Rattle.byteorder.specs.Endian.{big_number}
use Rattle.pm_wire.specs.{declared.{back.Back.Back, take.{Take.{Take, TheVariants.{Whole, Short, Bad}}, WireFault.{WireFault, TheVariants.{BadLength, BadForm}}}}, Pieces.int32, Backend.{BackMessage, body, spelling, back_message, IsBack}, Stream.StandApart, Reading.seen_by, Taking.IfWhole, Numbers.{IsBytes, length_int32, number_again, number_below, number_split}}
use Rattle.pm_wire_back.{specs.{declared.parts.Stop.TheVariants.{Partial, Departs}, Received.{IsPartial, IsWholeAt, behind_header, behind_body, HasNoSuchLength, DepartsHere}, BackReading.{Read, is_back_type, has_length, body_at, taken, back_of_length, back_of}}, proofs.{Exact.{DepartsAt, unique_ok, unique_partial, unique_departs}, Bodies.{IsBytes-behind, same_first}, TypeBytes.{BodyIs, Good}, BackLaws.{good, view, unheader, header_whole, known_goes, goes_known, fitting_is, BeginsBack, IsSoundBack, back_sound}}}

-- ---- the header

header_read : (kind n : ℕ) (after : List ℕ) → is_back_type kind ≡ true → n < 2 ^ 32 → back_of (kind ∷ (int32 n ++ after)) ≡ back_of_length kind n after
unfolding back_of
header_read kind n after known fits =
    let long : ltb (length (int32 n ++ after)) 4 ≡ false = le-ltb _ _ (omega (arith, length-append (int32 n) after, length_int32 n)) in
    let number : big_number 4 (int32 n ++ after) ≡ n = number_again n after fits in
    let rest : drop 4 (int32 n ++ after) ≡ after = drop_at (int32 n) after 4 (length_int32 n) in
    rw (known, long, number, rest) refl

short_header : (kind : ℕ) (rest : List ℕ) → is_back_type kind ≡ true → length rest < 4 → back_of (kind ∷ rest) ≡ Short 5
unfolding back_of
short_header kind rest known short = rw (known, lt-ltb (length rest) 4 short) refl

unknown_type : (kind : ℕ) (rest : List ℕ) → is_back_type kind ≡ false → back_of (kind ∷ rest) ≡ Bad (BadForm 0)
unfolding back_of
unknown_type kind rest unknown = rw unknown refl

nothing_read : back_of [] ≡ Short 5
unfolding back_of
nothing_read = refl

length_read : (kind n : ℕ) (after : List ℕ) → has_length kind n ≡ true → (out : Read) → body_at kind (n - 4) after ≡ out → back_of_length kind n after ≡ taken (5 + length after) n out
length_read kind n after fits out e = rw (fits, e) refl

-- the body's reader, at a length that fits
body_good : (kind n : ℕ) → is_back_type kind ≡ true → has_length kind n ≡ true → Good kind (n - 4) (body_at kind (n - 4))
body_good kind n known fits = let f = fitting_is kind n fits in good (n - 4) kind known f.type_is (omega (arith, f.low, f.high))

IsBytes-front : (bytes front rest : List ℕ) → IsBytes bytes → bytes ≡ front ++ rest → IsBytes front
IsBytes-front bytes front rest fits e i =
    elim (cases_lt i (length front)) [
      | inl lt ↦ subst (λ (n : ℕ). n < 256) (ap (λ (w : List ℕ). get_or w i 0) e ∙ get_or_append_left front rest 0 i lt) (fits i)
      | inr le ↦ rw (get_or_past front i 0 le) (omega arith)
    ]

-- ---- a message

pub back_again : (m : BackMessage) (spelled rest : List ℕ) → IsBack spelled m → IsBytes (spelled ++ rest) → back_of (spelled ++ rest) ≡ Whole m (length spelled)
back_again m spelled rest is fits =
    let v = view spelled m is in
    let n = 4 + length (body m) in
    let after = body m ++ rest in
    let parts : spelled ++ rest ≡ v.kind ∷ (int32 n ++ after) = ap (λ (w : List ℕ). w ++ rest) v.parts ∙ ap (λ (w : List ℕ). v.kind ∷ w) (append_assoc (int32 n) (body m) rest) in
    let u = unheader v.kind n (body m) m (omega (arith, v.short)) (subst (λ (w : List ℕ). IsBack w m) v.parts is) in
    let g = body_good v.kind n v.known u.length_is in
    let bytes : IsBytes after = IsBytes-behind (spelled ++ rest) (v.kind ∷ int32 n) after fits parts in
    let out : body_at v.kind (n - 4) after ≡ Ok (m, rest) = unique_ok (BodyIs v.kind (n - 4)) g.apart after (body m) rest m u.body_is refl (body_at v.kind (n - 4) after) (g.exact after bytes) in
    let used : n + 1 ≡ length spelled = omega (arith, ap length v.parts, length-append (int32 n) (body m), length_int32 n) in
    ap back_of parts ∙ header_read v.kind n after v.known (omega (arith, v.short)) ∙ length_read v.kind n after u.length_is (Ok (m, rest)) out ∙ ap (λ (k : ℕ). Whole m k) used

-- ---- a message that isn't whole

goes_short : (bytes more : List ℕ) (m : BackMessage) → 0 < length more → IsBack (bytes ++ more) m → IsBytes bytes → (wanted : ℕ) × (back_of bytes ≡ Short wanted)
goes_short [] more m some is fits = (5, nothing_read)
goes_short (kind ∷ rest) more m some is fits =
    let known = goes_known kind (rest ++ more) m is in
    elim (cases_lt (length rest) 4) [
      | inl short ↦ (5, short_header kind rest known short)
      | inr long ↦
          let n = big_number 4 rest in
          let after = drop 4 rest in
          let tail_fits : IsBytes rest = λ i. fits (suc i) in
          let below : n < 2 ^ 32 = number_below rest tail_fits in
          let split : rest ≡ int32 n ++ after = number_split rest long tail_fits in
          let parts : kind ∷ (rest ++ more) ≡ kind ∷ (int32 n ++ (after ++ more)) = ap (λ (w : List ℕ). kind ∷ (w ++ more)) split ∙ ap (λ (w : List ℕ). kind ∷ w) (append_assoc (int32 n) after more) in
          let u = unheader kind n (after ++ more) m below (subst (λ (w : List ℕ). IsBack w m) parts is) in
          let g = body_good kind n known u.length_is in
          let out : body_at kind (n - 4) after ≡ Err Partial =
          unique_partial (BodyIs kind (n - 4)) g.apart after (more, m, some, u.body_is) (body_at kind (n - 4) after) (g.exact after (IsBytes-behind rest (int32 n) after tail_fits split)) in
          (n + 1, ap (λ (w : List ℕ). back_of (kind ∷ w)) split ∙ header_read kind n after known below ∙ length_read kind n after u.length_is (Err Partial) out)
    ]

pub short_again : (bytes : List ℕ) → IsPartial bytes → IsBytes bytes → (wanted : ℕ) × (back_of bytes ≡ Short wanted)
short_again bytes (inl g) fits = goes_short bytes g.0 g.1 g.2 g.3 fits
short_again bytes (inr h) fits = (5, ap back_of h.parts ∙ short_header h.kind h.rest (goes_known h.kind h.known.0 h.known.1 h.known.3) h.short)

-- a message has one end
whole_at_one : (bytes : List ℕ) (a b : ℕ) → IsWholeAt bytes a → IsWholeAt bytes b → a ≡ b
whole_at_one bytes a b (behind_header few five) (behind_header also too) = five ∙ sym too
whole_at_one bytes a b (behind_header few five) (behind_body kind seen part parts fits le is) = absurd (omega (arith, few, ap length parts, length-append (int32 seen) part, length_int32 seen))
whole_at_one bytes a b (behind_body kind seen part parts fits le is) (behind_header few five) = absurd (omega (arith, few, ap length parts, length-append (int32 seen) part, length_int32 seen))
whole_at_one bytes a b (behind_body kind seen part parts fits le is) (behind_body kind' seen' part' parts' fits' le' is') =
    let tail : int32 seen ++ part ≡ int32 seen' ++ part' = (let e = sym parts ∙ parts' in cc) in
    let same : seen ≡ seen' = sym (number_again seen part fits) ∙ ap (big_number 4) tail ∙ number_again seen' part' fits' in
    is ∙ ap (λ (n : ℕ). n + 1) same ∙ sym is'

-- ---- faults

pub length_again : (bytes : List ℕ) (seen : ℕ) → HasNoSuchLength bytes seen → back_of bytes ≡ Bad (BadLength seen)
length_again bytes seen h =
    let known = goes_known h.kind h.known.0 h.known.1 h.known.3 in
    let none : has_length h.kind seen ≡ false =
    elim (has_length h.kind seen) as (λ t. has_length h.kind seen ≡ t → t ≡ false) [
      | true ↦ λ e.
          let w = (body_good h.kind seen known e).word in
          let f = fitting_is h.kind seen e in
          absurd (h.none w.0 w.1 (header_whole h.kind seen w.0 w.1 f.low w.2))
      | false ↦ λ _. refl
    ] refl in
    let told : back_of_length h.kind seen h.rest ≡ Bad (BadLength seen) = rw none refl in
    ap back_of h.parts ∙ header_read h.kind seen h.rest known h.fits ∙ told

form_first : (bytes : List ℕ) (at : ℕ) → (h : DepartsHere bytes at) → h.front ≡ [] → back_of bytes ≡ Bad (BadForm at)
form_first bytes at h none =
    let parts : bytes ≡ h.byte ∷ h.behind = h.parts ∙ ap (λ (w : List ℕ). w ++ h.byte ∷ h.behind) none in
    let unknown : is_back_type h.byte ≡ false =
    elim (is_back_type h.byte) as (λ t. is_back_type h.byte ≡ t → t ≡ false) [
      | true ↦ λ e.
          let g = known_goes h.byte e in
          absurd (h.stuck g.0 g.1 (subst (λ (w : List ℕ). IsBack (w ++ h.byte ∷ g.0) g.1) (sym none) g.3))
      | false ↦ λ _. refl
    ] refl in
    let place : 0 ≡ at = sym (h.place ∙ ap length none) in
    ap back_of parts ∙ unknown_type h.byte h.behind unknown ∙ ap (λ (k : ℕ). Bad (BadForm k)) place

form_behind : (bytes : List ℕ) (at : ℕ) → (h : DepartsHere bytes at) → IsBytes bytes → (kind : ℕ) (rest : List ℕ) → h.front ≡ kind ∷ rest → 4 ≤ length rest → back_of bytes ≡ Bad (BadForm at)
form_behind bytes at h fits kind rest front_is long =
    let front_fits : IsBytes (kind ∷ rest) = IsBytes-front bytes (kind ∷ rest) (h.byte ∷ h.behind) fits (h.parts ∙ ap (λ (w : List ℕ). w ++ h.byte ∷ h.behind) front_is) in
    let rest_fits : IsBytes rest = λ i. front_fits (suc i) in
    let n = big_number 4 rest in
    let front = drop 4 rest in
    let below : n < 2 ^ 32 = number_below rest rest_fits in
    let split : rest ≡ int32 n ++ front = number_split rest long rest_fits in
    let whole_front : h.front ≡ kind ∷ (int32 n ++ front) = front_is ∙ ap (λ (w : List ℕ). kind ∷ w) split in
    let regroup : (w : List ℕ) → h.front ++ w ≡ kind ∷ (int32 n ++ (front ++ w)) = λ w. ap (λ (x : List ℕ). x ++ w) whole_front ∙ ap (λ (x : List ℕ). kind ∷ x) (append_assoc (int32 n) front w) in
    let after = front ++ h.byte ∷ h.behind in
    let parts : bytes ≡ kind ∷ (int32 n ++ after) = h.parts ∙ regroup (h.byte ∷ h.behind) in
    let u = unheader kind n (front ++ h.goes_on.0) h.goes_on.1 below (subst (λ (w : List ℕ). IsBack w h.goes_on.1) (regroup h.goes_on.0) h.goes_on.3) in
    let f = fitting_is kind n u.length_is in
    let g = body_good kind n u.known u.length_is in
    let left = suc (length h.behind) in
    let departs_at : DepartsAt (BodyIs kind (n - 4)) after left = record {
      front = front;
      byte = h.byte;
      behind = h.behind;
      parts = refl;
      size = refl;
      goes_on = (h.goes_on.0, h.goes_on.1, h.goes_on.2, u.body_is);
      stuck = λ more m b. h.stuck more m (subst (λ (w : List ℕ). IsBack w m) (sym (regroup (h.byte ∷ more))) (header_whole kind n (front ++ h.byte ∷ more) m f.low b));
    } in
    let after_fits : IsBytes after = IsBytes-behind bytes (kind ∷ int32 n) after fits parts in
    let out : body_at kind (n - 4) after ≡ Err (Departs left) = unique_departs (BodyIs kind (n - 4)) g.apart after left departs_at (body_at kind (n - 4) after) (g.exact after after_fits) in
    let place : 5 + length after - left ≡ at =
    omega (arith, h.place, ap length whole_front, length-append (int32 n) front, length_int32 n, length-append front (h.byte ∷ h.behind)) in
    ap back_of parts ∙ header_read kind n after u.known below ∙ length_read kind n after u.length_is (Err (Departs left)) out ∙ ap (λ (k : ℕ). Bad (BadForm k)) place

pub form_again : (bytes : List ℕ) (at : ℕ) → DepartsHere bytes at → IsBytes bytes → back_of bytes ≡ Bad (BadForm at)
form_again bytes at h fits =
    elim h.outside [
      | inl none ↦ form_first bytes at h none
      | inr long ↦ behind h.front refl long
    ]
  where
    behind : (front : List ℕ) → h.front ≡ front → 5 ≤ length h.front → back_of bytes ≡ Bad (BadForm at)
    behind [] e long = absurd (omega (arith, long, ap length e))
    behind (kind ∷ rest) e long = form_behind bytes at h fits kind rest e (omega (arith, long, ap length e))

-- ---- from what the reader computes to what it promises

pub record Reads (r : Take Back) (bytes : List ℕ) : Type 0 where
  pub is : seen_by back_message r ≡ back_of bytes
  pub fits : IsBytes bytes

sound : (r : Take Back) (bytes : List ℕ) → Reads r bytes → IsSoundBack bytes (seen_by back_message r)
sound r bytes h = subst (IsSoundBack bytes) (sym h.is) (back_sound bytes h.fits)

pub whole_is : (r : Take Back) (bytes : List ℕ) → Reads r bytes → IfWhole r (λ value used. (used ≤ length bytes) × IsBack (take used bytes) (back_message value))
whole_is (Whole value used) bytes h =
    let begins : BeginsBack bytes (back_message value) used = sound (Whole value used) bytes h in
    let front : take used bytes ≡ begins.spelled = ap (take used) begins.parts ∙ take_at begins.spelled begins.rest used (sym begins.size) in
    (omega (arith, ap length begins.parts, length-append begins.spelled begins.rest, begins.size), subst (λ (s : List ℕ). IsBack s (back_message value)) (sym front) begins.is)
whole_is (Short wanted) bytes h = tt
whole_is (Bad fault) bytes h = tt

pub every_is : (r : Take Back) (bytes : List ℕ) → Reads r bytes → (spelled rest : List ℕ) (m : BackMessage) → IsBack spelled m → bytes ≡ spelled ++ rest → seen_by back_message r ≡ Whole m (length spelled)
every_is r bytes h spelled rest m is parts = h.is ∙ ap back_of parts ∙ back_again m spelled rest is (subst IsBytes parts h.fits)

bad_seen : (r : Take Back) (fault : WireFault) → seen_by back_message r ≡ Bad fault → r ≡ Bad fault
bad_seen (Whole value used) fault e = absurd cc
bad_seen (Short wanted) fault e = absurd cc
bad_seen (Bad other) fault e = cc

short_seen : (r : Take Back) (wanted : ℕ) → seen_by back_message r ≡ Short wanted → r ≡ Short wanted
short_seen (Whole value used) wanted e = absurd cc
short_seen (Short other) wanted e = cc
short_seen (Bad other) wanted e = absurd cc

short_sound : (r : Take Back) (bytes : List ℕ) → Reads r bytes → (wanted : ℕ) → r ≡ Short wanted → IsPartial bytes × IsWholeAt bytes wanted
short_sound r bytes h wanted e = subst (λ (x : Take Back). IsSoundBack bytes (seen_by back_message x)) e (sound r bytes h)

partial_short : (r : Take Back) (bytes : List ℕ) → Reads r bytes → IsPartial bytes → (wanted : ℕ) × (r ≡ Short wanted)
partial_short r bytes h p = let again = short_again bytes p h.fits in (again.0, short_seen r again.0 (h.is ∙ again.1))

pub partial_is : (r : Take Back) (bytes : List ℕ) → Reads r bytes → IsPartial bytes ↔ ((wanted : ℕ) × (r ≡ Short wanted))
partial_is r bytes h = (partial_short r bytes h, λ short. (short_sound r bytes h short.0 short.1).0)

pub short_is : (r : Take Back) (bytes : List ℕ) → Reads r bytes → (wanted : ℕ) → (r ≡ Short wanted) ↔ (IsPartial bytes × IsWholeAt bytes wanted)
short_is r bytes h wanted = (
  short_sound r bytes h wanted,
  λ p.
      let short = partial_short r bytes h p.0 in
      let same : short.0 ≡ wanted = whole_at_one bytes short.0 wanted (short_sound r bytes h short.0 short.1).1 p.1 in
      short.1 ∙ ap Short same,
)

pub length_is : (r : Take Back) (bytes : List ℕ) → Reads r bytes → (seen : ℕ) → (r ≡ Bad (BadLength seen)) ↔ HasNoSuchLength bytes seen
length_is r bytes h seen = (λ e. subst (λ (x : Take Back). IsSoundBack bytes (seen_by back_message x)) e (sound r bytes h), λ p. bad_seen r (BadLength seen) (h.is ∙ length_again bytes seen p))

pub form_is : (r : Take Back) (bytes : List ℕ) → Reads r bytes → (at : ℕ) → (r ≡ Bad (BadForm at)) ↔ DepartsHere bytes at
form_is r bytes h at = (λ e. subst (λ (x : Take Back). IsSoundBack bytes (seen_by back_message x)) e (sound r bytes h), λ p. bad_seen r (BadForm at) (h.is ∙ form_again bytes at p h.fits))

-- ---- no message begins another, and no bytes are two messages

pub back_apart : StandApart IsBack
back_apart a b x y m n at_m at_n e =
    let v = view a m at_m in
    let w = view b n at_n in
    let k = 4 + length (body m) in
    let l = 4 + length (body n) in
    let cells : v.kind ∷ (int32 k ++ (body m ++ x)) ≡ w.kind ∷ (int32 l ++ (body n ++ y)) =
    ap (λ (r : List ℕ). v.kind ∷ r) (sym (append_assoc (int32 k) (body m) x)) ∙ ap (λ (r : List ℕ). r ++ x) (sym v.parts) ∙ e ∙ ap (λ (r : List ℕ). r ++ y) w.parts
    ∙ ap (λ (r : List ℕ). w.kind ∷ r) (append_assoc (int32 l) (body n) y) in
    let kinds : w.kind ≡ v.kind = sym (same_first v.kind w.kind _ _ cells) in
    let tail : int32 k ++ (body m ++ x) ≡ int32 l ++ (body n ++ y) = (let f = cells in cc) in
    let sizes : k ≡ l =
    sym (number_again k (body m ++ x) (omega (arith, v.short))) ∙ ap (big_number 4) tail ∙ number_again l (body n ++ y) (omega (arith, w.short)) in
    let bodies : body m ++ x ≡ body n ++ y = append_cancel_left (int32 k) (body m ++ x) (body n ++ y) (tail ∙ ap (λ (i : ℕ). int32 i ++ (body n ++ y)) (sym sizes)) in
    let first : BodyIs v.kind (length (body m)) (body m) m = record { is = refl; kind_is = v.kind_is; size_is = refl; values = at_m.values; writable = at_m.writable } in
    let second : BodyIs v.kind (length (body m)) (body n) n =
    record { is = refl; kind_is = w.kind_is ∙ ap (λ (i : ℕ). i ∷ []) kinds; size_is = omega (arith, sizes); values = at_n.values; writable = at_n.writable } in
    let same = (good (length (body m)) v.kind v.known v.fits (omega (arith, v.short))).apart (body m) (body n) x y m n first second bodies in
    (at_m.spelled ∙ ap spelling same.1 ∙ sym at_n.spelled, same.1)
