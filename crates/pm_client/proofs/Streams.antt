-- Streams of the server's messages.
use Rattle.std.proofs.Common.{◌≡◌, ◌∙◌, ℕ, suc, ◌+◌, ◌<◌, ◌^◌, List, [], ◌∷◌, ◌++◌, length, refl, sym, ap, subst, arith, append_assoc, length-append}
use Rattle.byteorder.specs.Endian.{big_number}
use Rattle.pm_wire_back.{specs.{pm_wire.{Backend.{BackMessage, Auth, Param, Key, Ready, Fields, Pair, One, Complete, Empty, Fault, Notice, IsBack, body, kind_of}, Numbers.{length_int32, number_again}, Pieces.int32, Sizes.short_iff, Stream.{HasNoMessage, IsStream}}, Received.{IsWholeAt, behind_header, behind_body}}, proofs.CountLaws.has_count}

-- messages after messages
pub stream_then : (a more rest left : List ℕ) (ms ns : List BackMessage) → IsStream IsBack a ms rest → IsStream IsBack (rest ++ more) ns left → IsStream IsBack (a ++ more) (ms ++ ns) left
stream_then a more rest left [] ns one two = subst (λ (l : List ℕ). IsStream IsBack (l ++ more) ns left) (sym one) two
stream_then a more rest left (m ∷ ms) ns one two =
    (one.0, one.1 ++ more, ap (λ (l : List ℕ). l ++ more) one.2 ∙ append_assoc one.0 one.1 more, one.3, stream_then one.1 more rest left ms ns one.4 two)

-- bytes after them
pub stream_grows : (a more rest : List ℕ) (ms : List BackMessage) → IsStream IsBack a ms rest → IsStream IsBack (a ++ more) ms (rest ++ more)
stream_grows a more rest [] one = ap (λ (l : List ℕ). l ++ more) one
stream_grows a more rest (m ∷ ms) one =
    (one.0, one.1 ++ more, ap (λ (l : List ℕ). l ++ more) one.2 ∙ append_assoc one.0 one.1 more, one.3, stream_grows one.1 more rest ms one.4)

-- one message more
pub stream_more : (a rest spelled left : List ℕ) (ms : List BackMessage) (m : BackMessage) → IsStream IsBack a ms rest → rest ≡ spelled ++ left → IsBack spelled m → IsStream IsBack a (ms ++ m ∷ []) left
stream_more a rest spelled left [] m one is back = (spelled, left, one ∙ is, back, refl)
stream_more a rest spelled left (n ∷ ms) m one is back = (one.0, one.1, one.2, one.3, stream_more one.1 rest spelled left ms m one.4 is back)

-- ---- bytes that are too few

type_of : (m : BackMessage) → (kind : ℕ) × (kind_of m ≡ kind ∷ [])
type_of Auth = (_, refl)
type_of (Param name value) = (_, refl)
type_of (Key pid key) = (_, refl)
type_of Ready = (_, refl)
type_of (Fields shape) = (_, refl)
type_of (Pair key value) = (_, refl)
type_of (One text) = (_, refl)
type_of (Complete tag) = (_, refl)
type_of Empty = (_, refl)
type_of (Fault s) = (_, refl)
type_of (Notice s) = (_, refl)

abbrev behind_first : List ℕ → List ℕ
behind_first [] = []
behind_first (x ∷ xs) = xs

-- a message's bytes: its type, its length, and as many bytes
spelled_so : (spelled : List ℕ) (m : BackMessage) → IsBack spelled m → (kind size : ℕ) × (left : List ℕ) × (spelled ≡ kind ∷ (int32 size ++ left)) × (size < 2 ^ 32) × (length spelled ≡ size + 1)
spelled_so spelled m back =
    let kind = type_of m in
    let size = 4 + length (body m) in
    let short : size < 2 ^ 31 = (short_iff m (has_count m back.values)).0 back.writable.1 in
    let is : spelled ≡ kind.0 ∷ (int32 size ++ body m) = back.spelled ∙ ap (λ (k : List ℕ). k ++ int32 size ++ body m) kind.1 in
    (kind.0, size, body m, is, omega arith, ap length is ∙ omega (arith, length-append (int32 size) (body m), length_int32 size))

too_few : (unread came spelled after : List ℕ) (wanted : ℕ) (m : BackMessage) → IsWholeAt unread wanted → length (unread ++ came) < wanted → IsBack spelled m → unread ++ came ≡ spelled ++ after → ⊥
too_few unread came spelled after wanted m (behind_header short is) few back e =
    let so = spelled_so spelled m back in
    let long : length spelled ≡ suc (length (int32 so.1 ++ so.2)) = ap length so.3 in
    absurd (omega (arith, few, is, long, length-append (int32 so.1) so.2, length_int32 so.1, ap length e, length-append spelled after))
too_few unread came spelled after wanted m (behind_body kind seen part parts fits within is) few back e =
    let so = spelled_so spelled m back in
    let ours : behind_first (unread ++ came) ≡ int32 seen ++ (part ++ came) =
    ap (λ (l : List ℕ). behind_first (l ++ came)) parts ∙ append_assoc (int32 seen) part came in
    let theirs : behind_first (spelled ++ after) ≡ int32 so.1 ++ (so.2 ++ after) =
    ap (λ (l : List ℕ). behind_first (l ++ after)) so.3 ∙ append_assoc (int32 so.1) so.2 after in
    let same : seen ≡ so.1 =
    sym (number_again seen (part ++ came) fits) ∙ ap (big_number 4) (sym ours ∙ ap behind_first e ∙ theirs) ∙ number_again so.1 (so.2 ++ after) so.4 in
    absurd (omega (arith, few, is, same, so.5, ap length e, length-append spelled after))

-- where a message has begun, fewer bytes than it takes are no message
pub no_message : (unread came : List ℕ) (wanted : ℕ) → IsWholeAt unread wanted → length (unread ++ came) < wanted → HasNoMessage IsBack (unread ++ came)
no_message unread came wanted whole few spelled after m back e = too_few unread came spelled after wanted m whole few back e
