-- A front of the bytes decides in one way.
use Rattle.std.{proofs.{Common.{◌≡◌, ℕ, ◌+◌, ◌-◌, ◌^◌, ◌<◌, ◌≤◌, ◌↔◌, List, [], ◌++◌, length, take, drop, Result, Ok, Err, refl, sym, ap, subst, ◌∙◌, inl, inr, ◌⊎◌, arith}, Math.Seq.take-append-add, lemmas.{List.{take-append-drop, take_at, drop-drop, take_rest, length-take, length-drop, drop_all}, Nat.be_bytes_4}}, specs.Int.{w32, from_be_bytes}}
use Rattle.byteorder.specs.{Endian.big_number, Numbers.{big_number-reads_back, big_from-take}}
use Rattle.pm_wire.specs.{Numbers.{IsBytes, IsBytes-drop, IsBytes-take, number_below}, Pieces.int32}
use Rattle.pm_startup.{specs.{declared.packet.{StartFault.{StartFault, TheVariants.{Length, Malformed}}, Read.{Read, TheVariants.{Whole, Short, Bad}}}, Parameters.{Parameter, user_of}, Grammar.{Content, cancel_request, content_of, packet, max_length, Kind, ssl, gssenc, cancel, version3, unknown, kind_of, CancelSays, verdict_of, StartupSays, Says, IsPacket, IsNoLength, Decides, FrontDecides, IsUndecided, IsIncomplete, IsWhole}}, proofs.Bodies.{laid_out-same, laid_out-not_malformed, malformed-same}}

-- ---- numbers in bytes

number-of : (bytes : List ℕ) → big_number 4 bytes ≡ from_be_bytes w32 bytes
number-of bytes = omega arith

-- a number and what comes after it
pub int32-front : (bytes : List ℕ) → IsBytes bytes → 4 ≤ length bytes → bytes ≡ int32 (big_number 4 bytes) ++ drop 4 bytes
unfolding int32
int32-front bytes fits long =
    let number : big_number 4 bytes ≡ from_be_bytes w32 (take 4 bytes) = sym (big_from-take 0 4 4 bytes (omega arith)) ∙ number-of (take 4 bytes) in
    let front : int32 (big_number 4 bytes) ≡ take 4 bytes = be_bytes_4 (take 4 bytes) (big_number 4 bytes) (omega (arith, length-take 4 bytes)) (IsBytes-take 4 bytes fits) number in
    sym (take-append-drop 4 bytes) ∙ ap (λ (f : List ℕ). f ++ drop 4 bytes) (sym front)

-- two numbers are eight bytes
pub int32-pair : (bytes : List ℕ) → IsBytes bytes → length bytes ≡ 8 → bytes ≡ int32 (big_number 4 bytes) ++ int32 (big_number 4 (drop 4 bytes))
unfolding int32
int32-pair bytes fits long =
    let first = int32-front bytes fits (omega arith) in
    let second = int32-front (drop 4 bytes) (IsBytes-drop 4 bytes fits) (omega (arith, length-drop 4 bytes)) in
    let nothing : drop 4 (drop 4 bytes) ≡ [] = drop_all 4 (drop 4 bytes) (omega (arith, length-drop 4 bytes)) in
    first ∙ ap (λ (r : List ℕ). int32 (big_number 4 bytes) ++ r) (second ∙ ap (λ (r : List ℕ). int32 (big_number 4 (drop 4 bytes)) ++ r) nothing)

-- ---- one way to decide

same-front : (a b x y : List ℕ) → length a ≡ length b → a ++ x ≡ b ++ y → a ≡ b
same-front a b x y len e =
    sym (take_at a x (length b) len) ∙ ap (take (length b)) e ∙ take_at b y (length b) refl

cancel-same : (body : List ℕ) (v w : Result Content StartFault) → CancelSays body v → CancelSays body w → v ≡ w
unfolding int32
cancel-same body v w (inl p) (inl q) =
    let e : int32 p.0 ++ int32 p.1 ≡ int32 q.0 ++ int32 q.1 = sym p.4 ∙ q.4 in
    let pid : p.0 ≡ q.0 = sym (big_number-reads_back 4 p.0 (int32 p.1) p.2) ∙ ap (big_number 4) e ∙ big_number-reads_back 4 q.0 (int32 q.1) q.2 in
    let key : p.1 ≡ q.1 = sym (big_number-reads_back 4 p.1 [] p.3) ∙ ap (λ (b : List ℕ). big_number 4 (drop 4 b)) e ∙ big_number-reads_back 4 q.1 [] q.3 in
    p.5 ∙ (λ i. Ok (cancel_request (pid i) (key i))) ∙ sym q.5
cancel-same body v w (inl p) (inr q) = absurd (q.0 (ap (length {A = ℕ}) p.4))
cancel-same body v w (inr p) (inl q) = absurd (p.0 (ap (length {A = ℕ}) q.4))
cancel-same body v w (inr p) (inr q) = p.1 ∙ sym q.1

startup-same : (body : List ℕ) (v w : Result Content StartFault) → StartupSays body v → StartupSays body w → v ≡ w
startup-same body v w (inl p) (inl q) =
    p.2 ∙ ap (λ (ps : List Parameter). verdict_of (user_of ps)) (laid_out-same body p.0 q.0 p.1 q.1) ∙ sym q.2
startup-same body v w (inl p) (inr q) = absurd (laid_out-not_malformed body p.0 q.0 p.1 q.1)
startup-same body v w (inr p) (inl q) = absurd (laid_out-not_malformed body q.0 p.0 q.1 p.1)
startup-same body v w (inr p) (inr q) =
    p.2 ∙ ap (λ (at : ℕ). Err (Malformed (8 + at))) (malformed-same body p.0 q.0 p.1 q.1) ∙ sym q.2

says-same : (kind : Kind) (code : ℕ) (body : List ℕ) (v w : Result Content StartFault) → Says kind code body v → Says kind code body w → v ≡ w
says-same ssl code body v w p q = p ∙ sym q
says-same gssenc code body v w p q = p ∙ sym q
says-same cancel code body v w p q = cancel-same body v w p q
says-same version3 code body v w p q = startup-same body v w p q
says-same unknown code body v w p q = p ∙ sym q

-- what a packet's length says
pub packet-number : (code : ℕ) (body x : List ℕ) → 8 + length body ≤ max_length → big_number 4 (packet code body ++ x) ≡ 8 + length body
unfolding int32
packet-number code body x fits = big_number-reads_back 4 (8 + length body) (int32 code ++ (body ++ x)) (omega arith)

packet-length : (code : ℕ) (body : List ℕ) → length (packet code body) ≡ 8 + length body
unfolding int32
packet-length code body = omega arith

packets-same : (a b x y : List ℕ) (v w : Result Content StartFault) → IsPacket a v → IsPacket b w → a ++ x ≡ b ++ y → (a ≡ b) × (v ≡ w)
unfolding int32
packets-same a b x y v w p q e =
    let front : packet p.code p.body ++ x ≡ packet q.code q.body ++ y = ap (λ (s : List ℕ). s ++ x) (sym p.spelled) ∙ e ∙ ap (λ (s : List ℕ). s ++ y) q.spelled in
    let len : 8 + length p.body ≡ 8 + length q.body = sym (packet-number p.code p.body x p.fits) ∙ ap (big_number 4) front ∙ packet-number q.code q.body y q.fits in
    let same : packet p.code p.body ≡ packet q.code q.body = same-front (packet p.code p.body) (packet q.code q.body) x y (packet-length p.code p.body ∙ len ∙ sym (packet-length q.code q.body)) front in
    let code : p.code ≡ q.code = sym (big_number-reads_back 4 p.code p.body p.code_fits) ∙ ap (λ (s : List ℕ). big_number 4 (drop 4 s)) same ∙ big_number-reads_back 4 q.code q.body q.code_fits in
    let body : p.body ≡ q.body = ap (drop 8) same in
    let says : Says (kind_of p.code) p.code p.body w = subst (λ (b : List ℕ). Says (kind_of p.code) p.code b w) (sym body) (subst (λ (c : ℕ). Says (kind_of c) c q.body w) (sym code) q.says) in
    (p.spelled ∙ same ∙ sym q.spelled, says-same (kind_of p.code) p.code p.body v w p.says says)

-- the length of a packet is none that no packet has
packet-not_length : (a b x y : List ℕ) (v w : Result Content StartFault) → IsPacket a v → IsNoLength b w → a ++ x ≡ b ++ y → ⊥
unfolding int32
packet-not_length a b x y v w p q e =
    let front : packet p.code p.body ++ x ≡ int32 q.seen ++ y = ap (λ (s : List ℕ). s ++ x) (sym p.spelled) ∙ e ∙ ap (λ (s : List ℕ). s ++ y) q.spelled in
    let len : 8 + length p.body ≡ q.seen = sym (packet-number p.code p.body x p.fits) ∙ ap (big_number 4) front ∙ big_number-reads_back 4 q.seen y q.seen_fits in
    let fits = p.fits in
    elim q.outside [ inl low ↦ omega arith | inr high ↦ omega arith ]

lengths-same : (a b x y : List ℕ) (v w : Result Content StartFault) → IsNoLength a v → IsNoLength b w → a ++ x ≡ b ++ y → (a ≡ b) × (v ≡ w)
unfolding int32
lengths-same a b x y v w p q e =
    let front : int32 p.seen ++ x ≡ int32 q.seen ++ y = ap (λ (s : List ℕ). s ++ x) (sym p.spelled) ∙ e ∙ ap (λ (s : List ℕ). s ++ y) q.spelled in
    let seen : p.seen ≡ q.seen = sym (big_number-reads_back 4 p.seen x p.seen_fits) ∙ ap (big_number 4) front ∙ big_number-reads_back 4 q.seen y q.seen_fits in
    (p.spelled ∙ ap int32 seen ∙ sym q.spelled, p.says ∙ ap (λ (n : ℕ). Err (Length n)) seen ∙ sym q.says)

pub decides-same : (a b x y : List ℕ) (v w : Result Content StartFault) → Decides a v → Decides b w → a ++ x ≡ b ++ y → (a ≡ b) × (v ≡ w)
decides-same a b x y v w (inl p) (inl q) e = packets-same a b x y v w p q e
decides-same a b x y v w (inl p) (inr q) e = absurd (packet-not_length a b x y v w p q e)
decides-same a b x y v w (inr p) (inl q) e = absurd (packet-not_length b a y x w v q p (sym e))
decides-same a b x y v w (inr p) (inr q) e = lengths-same a b x y v w p q e

front-same : (bytes : List ℕ) (n m : ℕ) (v w : Result Content StartFault) → FrontDecides bytes n v → FrontDecides bytes m w → (n ≡ m) × (v ≡ w)
front-same bytes n m v w p q =
    let both = decides-same (take n bytes) (take m bytes) (drop n bytes) (drop m bytes) v w p.decides q.decides (take-append-drop n bytes ∙ sym (take-append-drop m bytes)) in
    let within = p.within in
    let within' = q.within in
    (omega (arith, ap (length {A = ℕ}) both.0, length-take n bytes, length-take m bytes), both.1)

-- ---- too few bytes

long-packet : (bytes : List ℕ) (n : ℕ) (v : Result Content StartFault) → n ≤ length bytes → IsPacket (take n bytes) v → IsIncomplete bytes → ⊥
unfolding int32
long-packet bytes n v within p short =
    let front : bytes ≡ packet p.code p.body ++ drop n bytes = sym (take-append-drop n bytes) ∙ ap (λ (s : List ℕ). s ++ drop n bytes) p.spelled in
    let number : big_number 4 bytes ≡ 8 + length p.body = ap (big_number 4) front ∙ packet-number p.code p.body (drop n bytes) p.fits in
    let len : n ≡ 8 + length p.body = omega (arith, ap (length {A = ℕ}) p.spelled, packet-length p.code p.body, length-take n bytes) in
    elim short [ inl few ↦ omega arith | inr less ↦ omega (arith, less.2) ]

long-length : (bytes : List ℕ) (n : ℕ) (v : Result Content StartFault) → n ≤ length bytes → IsNoLength (take n bytes) v → IsIncomplete bytes → ⊥
unfolding int32
long-length bytes n v within p short =
    let front : bytes ≡ int32 p.seen ++ drop n bytes = sym (take-append-drop n bytes) ∙ ap (λ (s : List ℕ). s ++ drop n bytes) p.spelled in
    let number : big_number 4 bytes ≡ p.seen = ap (big_number 4) front ∙ big_number-reads_back 4 p.seen (drop n bytes) p.seen_fits in
    let len : n ≡ 4 = omega (arith, ap (length {A = ℕ}) p.spelled, length-take n bytes) in
    elim short [
      | inl few ↦ omega arith
      | inr less ↦ elim p.outside [ inl low ↦ omega (arith, less.0) | inr high ↦ omega (arith, less.1) ]
    ]

not_incomplete : (bytes : List ℕ) (n : ℕ) (v : Result Content StartFault) → FrontDecides bytes n v → IsIncomplete bytes → ⊥
unfolding int32
not_incomplete bytes n v p short =
    elim p.decides [
      | inl whole ↦ long-packet bytes n v p.within whole short
      | inr length ↦ long-length bytes n v p.within length short
    ]

-- ---- what the reader answers

-- each answer with its cause
abbrev pub IsAnswer : List ℕ → Read → Type 0
IsAnswer bytes (Whole packet used) = FrontDecides bytes used (Ok (content_of packet))
IsAnswer bytes Short = IsIncomplete bytes
IsAnswer bytes (Bad fault) = (n : ℕ) × FrontDecides bytes n (Err fault)

abbrev ok_content : Content → Result Content StartFault
ok_content content = Ok content

abbrev err_fault : StartFault → Result Content StartFault
err_fault fault = Err fault

ok_is : (c d : Content) → ok_content c ≡ ok_content d → c ≡ d
ok_is c d e = cc

err_is : (f g : StartFault) → err_fault f ≡ err_fault g → f ≡ g
err_is f g e = cc

ok_not_err : (c : Content) (f : StartFault) → ok_content c ≡ err_fault f → ⊥
ok_not_err c f e = cc

pub answer-whole : (bytes : List ℕ) (r : Read) → IsAnswer bytes r → (content : Content) (n : ℕ) → IsWhole r content n ↔ FrontDecides bytes n (Ok content)
unfolding int32
answer-whole bytes (Whole packet used) is content n = (
  λ w. subst (λ (c : Content). FrontDecides bytes n (Ok c)) w.0 (subst (λ (m : ℕ). FrontDecides bytes m (Ok (content_of packet))) w.1 is),
  λ front.
      let same = front-same bytes used n (Ok (content_of packet)) (Ok content) is front in
      (ok_is (content_of packet) content same.1, same.0),
)
answer-whole bytes Short is content n = (λ w. absurd w, λ front. absurd (not_incomplete bytes n (Ok content) front is))
answer-whole bytes (Bad fault) is content n = (
  λ w. absurd w,
  λ front. absurd (ok_not_err content fault (front-same bytes n is.0 (Ok content) (Err fault) front is.1).1),
)

bad_is : (f g : StartFault) → Bad f ≡ Bad g → f ≡ g
bad_is f g e = cc

pub answer-bad : (bytes : List ℕ) (r : Read) → IsAnswer bytes r → (fault : StartFault) → (r ≡ Bad fault) ↔ ((n : ℕ) × FrontDecides bytes n (Err fault))
unfolding int32
answer-bad bytes (Whole packet used) is fault = (
  λ e. absurd cc,
  λ front. absurd (ok_not_err (content_of packet) fault (front-same bytes used front.0 (Ok (content_of packet)) (Err fault) is front.1).1),
)
answer-bad bytes Short is fault = (λ e. absurd cc, λ front. absurd (not_incomplete bytes front.0 (Err fault) front.1 is))
answer-bad bytes (Bad seen) is fault = (
  λ e. (is.0, subst (λ (f : StartFault). FrontDecides bytes is.0 (Err f)) (bad_is seen fault e) is.1),
  λ front.
      let same : seen ≡ fault = err_is seen fault (front-same bytes is.0 front.0 (Err seen) (Err fault) is.1 front.1).1 in
      ap Bad same,
)

pub answer-undecided : (bytes : List ℕ) (r : Read) → IsAnswer bytes r → (r ≡ Short) ↔ IsUndecided bytes
unfolding int32
answer-undecided bytes (Whole packet used) is = (λ e. absurd cc, λ none. absurd (none used (Ok (content_of packet)) is))
answer-undecided bytes Short is = (λ e n v front. not_incomplete bytes n v front is, λ none. refl)
answer-undecided bytes (Bad fault) is = (λ e. absurd cc, λ none. absurd (none is.0 (Err fault) is.1))

pub answer-incomplete : (bytes : List ℕ) (r : Read) → IsAnswer bytes r → (r ≡ Short) ↔ IsIncomplete bytes
unfolding int32
answer-incomplete bytes (Whole packet used) is = (λ e. absurd cc, λ short. absurd (not_incomplete bytes used (Ok (content_of packet)) is short))
answer-incomplete bytes Short is = (λ e. is, λ short. refl)
answer-incomplete bytes (Bad fault) is = (λ e. absurd cc, λ short. absurd (not_incomplete bytes is.0 (Err fault) is.1 short))

-- ---- the causes of the answers

-- a length that no packet has
pub answers_length : (bytes : List ℕ) → IsBytes bytes → 4 ≤ length bytes → (big_number 4 bytes < 8) ⊎ (max_length < big_number 4 bytes) → IsAnswer bytes (Bad (Length (big_number 4 bytes)))
unfolding int32
answers_length bytes fits long outside =
    let front = int32-front bytes fits long in
    let spelled : take 4 bytes ≡ int32 (big_number 4 bytes) = ap (take 4) front in
    (4, record { within = long; decides = inr (record { seen = big_number 4 bytes; seen_fits = number_below bytes fits; outside = outside; spelled = spelled; says = refl }) })

-- a whole packet
pub answers_packet : (bytes : List ℕ) (used code : ℕ) (v : Result Content StartFault) → IsBytes bytes → used ≡ big_number 4 bytes → 8 ≤ used → used ≤ max_length → used ≤ length bytes
    → code ≡ big_number 4 (take (length bytes - 4) (drop 4 bytes)) → Says (kind_of code) code (take (used - 8) (drop 8 bytes)) v → FrontDecides bytes used v
unfolding int32
answers_packet bytes used code v fits number low high within code-is says =
    let second = drop 4 bytes in
    let body : List ℕ = take (used - 8) (drop 8 bytes) in
    let code-at : code ≡ big_number 4 (drop 4 bytes) = code-is ∙ ap (big_number 4) (take_rest bytes 4) in
    let len : 8 + length body ≡ used = omega (arith, length-take (used - 8) (drop 8 bytes), length-drop 8 bytes) in
    let one : bytes ≡ int32 used ++ drop 4 bytes = subst (λ (n : ℕ). bytes ≡ int32 n ++ drop 4 bytes) (sym number) (int32-front bytes fits (omega arith)) in
    let two : drop 4 bytes ≡ int32 code ++ drop 8 bytes = subst (λ (n : ℕ). drop 4 bytes ≡ int32 n ++ drop 8 bytes) (sym code-at) (int32-front (drop 4 bytes) (IsBytes-drop 4 bytes fits) (omega (arith, length-drop 4 bytes)) ∙ ap (λ (r : List ℕ). int32 (big_number 4 (drop 4 bytes)) ++ r) (drop-drop 4 4 bytes)) in
    let whole : bytes ≡ (int32 used ++ int32 code) ++ drop 8 bytes = one ∙ ap (λ (r : List ℕ). int32 used ++ r) two in
    let split : used ≡ 8 + (used - 8) = omega arith in
    let spelled : take used bytes ≡ packet code body = ap (take used) whole ∙ ap (λ (n : ℕ). take n ((int32 used ++ int32 code) ++ drop 8 bytes)) split ∙ take-append-add (int32 used ++ int32 code) (drop 8 bytes) (used - 8) ∙ ap (λ (n : ℕ). (int32 n ++ int32 code) ++ body) (sym len) in
    record {
      within = within;
      decides = inl (record {
        code = code;
        body = body;
        fits = omega arith;
        code_fits = subst (λ (n : ℕ). n < 2 ^ 32) (sym code-at) (number_below (drop 4 bytes) (IsBytes-drop 4 bytes fits));
        spelled = spelled;
        says = says;
      });
    }
