-- Messages that are said one after the other.
use Rattle.std.{proofs.{Common.{◌≡◌, ℕ, ℤ, ◌+◌, ◌^◌, FitsSigned, w64, ◌≤◌, List, [], ◌∷◌, ◌++◌, length, take, drop, suc, map, get_or, Result, Ok, Err, IfErr, refl, sym, ◌∙◌, ap, subst, arith, append_assoc, ◌<◌, take-append-drop, drop-cons, false}, lemmas.{Grind.flat_map-append, List.{append-nil, map-append, take_more, Concat.flat_map-cons}}}, specs.List.flat_map}
use Rattle.pm_session_exchange.specs.pm_query.declared.item.Item.{Item}
use Rattle.pm_wire.specs.{Outgoing.Outgoing, Conditions.sqlstate, declared.state.SqlState.SqlState}
use Rattle.pm_wire.specs.declared.state.SqlState.TheVariants as states
use lib.Signed.{mag}
use Rattle.std.proofs.lemmas.Int.{ints}
use Rattle.pm_wire.specs.{Longest.{longest, HasSizes}, Short.short_pair, Backend.{BackMessage, Pair, IsWritable, spelling}}
use Rattle.pm_session_exchange.{specs.{declared.ending.Cause.{Cause}, Exchange.{LinkView, Sends, Holds}, Moments.{ShowsCause, IsBreak}, Sent.{bytes_of, item_messages}}, proofs.{LinkLaws.{passes_none, passes_both}, MomentLaws.shows_since, SentLaws.{bytes_of-append, bytes_of-none}}}
use Rattle.pm_child_life.{specs.Attention.{Attention, Hears}, proofs.AttentionLaws.{hears_none, hears_both}}
use Rattle.pm_session.{specs.Turns.{Desk, desk, Says}, proofs.Links.holds_then}

-- ---- bytes of messages

pub bytes_of-one : (m : BackMessage) → bytes_of (m ∷ []) ≡ spelling m
unfolding bytes_of
bytes_of-one m = flat_map-cons spelling m [] ∙ append-nil (spelling m)

-- ---- causes

pub if_shows_since : (result : Result (Unit {0}) Cause) (first second third : LinkView) (child : Attention) → first.faults ≤ second.faults
    → IfErr result (λ cause. ShowsCause cause second third child) → IfErr result (λ cause. ShowsCause cause first third child)
if_shows_since (Ok done) first second third child le shows = tt
if_shows_since (Err cause) first second third child le shows = shows_since cause first second third child le shows

-- ---- what is said

-- nothing
pub says_none : (at : Desk) → Says (Ok tt) [] at at
says_none at = record {
  went = [];
  missing = at.outbox.bytes;
  whole = ap (λ (l : List ℕ). at.outbox.bytes ++ l) bytes_of-none ∙ append-nil at.outbox.bytes;
  left = refl;
  passes = passes_none at.link;
  room = omega arith;
  hears = hears_none at.child;
  shows = tt;
  holds = λ sound. sound;
}

-- more, after what was said
pub says_then : (result : Result (Unit {0}) Cause) (first second : List BackMessage) (before between now : Desk) → Says (Ok tt) first before between → Says result second between now → Says result (first ++ second) before now
says_then result first second before between now one two = record {
  went = one.went ++ two.went;
  missing = two.missing;
  whole =
      ap (λ (l : List ℕ). before.outbox.bytes ++ l) (bytes_of-append first second) ∙ sym (append_assoc before.outbox.bytes (bytes_of first) (bytes_of second))
      ∙ ap (λ (l : List ℕ). l ++ bytes_of second) (one.whole ∙ ap (λ (l : List ℕ). one.went ++ l) one.left)
      ∙ append_assoc one.went between.outbox.bytes (bytes_of second)
      ∙ ap (λ (l : List ℕ). one.went ++ l) two.whole ∙ sym (append_assoc one.went two.went two.missing);
  left = two.left;
  passes = passes_both [] one.went [] two.went before.link between.link now.link one.passes two.passes;
  room = omega (arith, one.room, two.room);
  hears = hears_both 0 0 before.child between.child now.child one.hears two.hears;
  shows = if_shows_since result before.link between.link now.link now.child one.passes.later two.shows;
  holds = holds_then false result before.link between.link now.link one.holds two.holds;
}

-- sending was broken off, and what was to be said after it is missing too
pub says_cut : (cause : Cause) (first second : List BackMessage) (before now : Desk) → Says (Err cause) first before now → Says (Err cause) (first ++ second) before now
says_cut cause first second before now one = record {
  went = one.went;
  missing = one.missing ++ bytes_of second;
  whole =
      ap (λ (l : List ℕ). before.outbox.bytes ++ l) (bytes_of-append first second) ∙ sym (append_assoc before.outbox.bytes (bytes_of first) (bytes_of second))
      ∙ ap (λ (l : List ℕ). l ++ bytes_of second) one.whole ∙ append_assoc one.went one.missing (bytes_of second);
  left = one.left;
  passes = one.passes;
  room = one.room;
  hears = one.hears;
  shows = one.shows;
  holds = one.holds;
}

-- what was said so far, broken off in the next messages of more
pub says_stopped : (cause : Cause) (first second third : List BackMessage) (before between now : Desk) → Says (Ok tt) first before between → Says (Err cause) second between now → Says (Err cause) (first ++ (second ++ third)) before now
says_stopped cause first second third before between now one two = says_then (Err cause) first (second ++ third) before between now one (says_cut cause second third between now two)

-- one message stands in the outbox after what stood there
pub says_put : (m : BackMessage) (link : LinkView) (child : Attention) (before now : Outgoing) → now.bytes ≡ before.bytes ++ spelling m → before.capacity ≤ now.capacity → Says (Ok tt) (m ∷ []) (desk link before child) (desk link now child)
says_put m link child before now is room = record {
  went = [];
  missing = now.bytes;
  whole = ap (λ (l : List ℕ). before.bytes ++ l) (bytes_of-one m) ∙ sym is;
  left = refl;
  passes = passes_none link;
  room = room;
  hears = hears_none child;
  shows = tt;
  holds = λ sound. sound;
}

-- what stood in the outbox was sent, and the outbox is empty
pub says_sent : (bytes : List ℕ) (link_before link_now : LinkView) (child_before child_now : Attention) (before now : Outgoing) → bytes ≡ before.bytes → Sends (Ok tt) bytes link_before link_now → Hears 0 child_before child_now
    → now.bytes ≡ [] → now.capacity ≡ before.capacity → Holds false (Ok tt) link_before link_now → Says (Ok tt) [] (desk link_before before child_before) (desk link_now now child_now)
says_sent bytes link_before link_now child_before child_now before now is sends hears empty same holds = record {
  went = sends.went;
  missing = [];
  whole = ap (λ (l : List ℕ). before.bytes ++ l) bytes_of-none ∙ append-nil before.bytes ∙ sym is ∙ sends.whole ∙ ap (λ (l : List ℕ). sends.went ++ l) sends.all;
  left = sym empty;
  passes = sends.passes;
  room = omega (arith, same);
  hears = hears;
  shows = tt;
  holds = holds;
}

-- or a front of it was
pub says_broken : (cause : Cause) (bytes : List ℕ) (link_before link_now : LinkView) (child_before child_now : Attention) (outbox : Outgoing) → bytes ≡ outbox.bytes → Sends (Err cause) bytes link_before link_now → Hears 0 child_before child_now
    → IsBreak cause × ShowsCause cause link_before link_now child_now → Holds false (Err cause) link_before link_now → Says (Err cause) [] (desk link_before outbox child_before) (desk link_now outbox child_now)
says_broken cause bytes link_before link_now child_before child_now outbox is sends hears why holds = record {
  went = sends.went;
  missing = sends.missing;
  whole = ap (λ (l : List ℕ). outbox.bytes ++ l) bytes_of-none ∙ append-nil outbox.bytes ∙ sym is ∙ sends.whole;
  left = (sends.all, why.0);
  passes = sends.passes;
  room = omega arith;
  hears = hears;
  shows = why.1;
  holds = holds;
}

-- ---- messages of a list

-- one element's message more
pub says_more_of : {A : Type 0} (f : A → BackMessage) (first : List BackMessage) (xs : List A) (i : ℕ) (d : A) (before between now : Desk) → i < length xs
    → Says (Ok tt) (first ++ map f (take i xs)) before between → Says (Ok tt) (f (get_or xs i d) ∷ []) between now → Says (Ok tt) (first ++ map f (take (i + 1) xs)) before now
says_more_of {A = A} f first xs i d before between now lt one two =
    let more : first ++ map f (take (i + 1) xs) ≡ (first ++ map f (take i xs)) ++ f (get_or xs i d) ∷ [] =
    ap (λ (ys : List A). first ++ map f ys) (take_more xs i d lt) ∙ ap (λ (ms : List BackMessage). first ++ ms) (map-append f (take i xs) (get_or xs i d ∷ [])) ∙ sym (append_assoc first (map f (take i xs)) (f (get_or xs i d) ∷ [])) in
    subst (λ (ms : List BackMessage). Says (Ok tt) ms before now) (sym more) (says_then (Ok tt) (first ++ map f (take i xs)) (f (get_or xs i d) ∷ []) before between now one two)

-- one item's messages more
pub says_more_items : (xs : List Item) (i : ℕ) (d : Item) (before between now : Desk) → i < length xs → Says (Ok tt) (flat_map item_messages (take i xs)) before between
    → Says (Ok tt) (item_messages (get_or xs i d)) between now → Says (Ok tt) (flat_map item_messages (take (i + 1) xs)) before now
says_more_items xs i d before between now lt one two =
    let more : flat_map item_messages (take (i + 1) xs) ≡ flat_map item_messages (take i xs) ++ item_messages (get_or xs i d) =
    ap (λ (ys : List Item). flat_map item_messages ys) (take_more xs i d lt) ∙ flat_map-append item_messages (take i xs) (get_or xs i d ∷ [])
    ∙ ap (λ (ms : List BackMessage). flat_map item_messages (take i xs) ++ ms) (flat_map-cons item_messages (get_or xs i d) [] ∙ append-nil (item_messages (get_or xs i d))) in
    subst (λ (ms : List BackMessage). Says (Ok tt) ms before now) (sym more) (says_then (Ok tt) (flat_map item_messages (take i xs)) (item_messages (get_or xs i d)) before between now one two)

-- sending was broken off at one element's message
pub says_stopped_of : {A : Type 0} (cause : Cause) (f : A → BackMessage) (first behind : List BackMessage) (xs : List A) (i : ℕ) (d : A) (before between now : Desk) → i < length xs
    → Says (Ok tt) (first ++ map f (take i xs)) before between → Says (Err cause) (f (get_or xs i d) ∷ []) between now → Says (Err cause) ((first ++ map f xs) ++ behind) before now
says_stopped_of {A = A} cause f first behind xs i d before between now lt one two =
    let rest : List A = drop (suc i) xs in
    let split : xs ≡ take i xs ++ get_or xs i d ∷ rest = sym (take-append-drop i xs) ∙ ap (λ (ys : List A). take i xs ++ ys) (drop-cons xs i d lt) in
    let all : (first ++ map f xs) ++ behind ≡ (first ++ map f (take i xs)) ++ ((f (get_or xs i d) ∷ []) ++ (map f rest ++ behind)) =
    ap (λ (ms : List BackMessage). (first ++ ms) ++ behind) (ap (λ (ys : List A). map f ys) split ∙ map-append f (take i xs) (get_or xs i d ∷ rest))
    ∙ ap (λ (ms : List BackMessage). ms ++ behind) (sym (append_assoc first (map f (take i xs)) (f (get_or xs i d) ∷ map f rest)))
    ∙ append_assoc (first ++ map f (take i xs)) (f (get_or xs i d) ∷ map f rest) behind in
    subst (λ (ms : List BackMessage). Says (Err cause) ms before now) (sym all) (says_stopped cause (first ++ map f (take i xs)) (f (get_or xs i d) ∷ []) (map f rest ++ behind) before between now one two)

-- or at one item's
pub says_stopped_items : (cause : Cause) (behind : List BackMessage) (xs : List Item) (i : ℕ) (d : Item) (before between now : Desk) → i < length xs → Says (Ok tt) (flat_map item_messages (take i xs)) before between
    → Says (Err cause) (item_messages (get_or xs i d)) between now → Says (Err cause) (flat_map item_messages xs ++ behind) before now
says_stopped_items cause behind xs i d before between now lt one two =
    let rest : List Item = drop (suc i) xs in
    let split : xs ≡ take i xs ++ get_or xs i d ∷ rest = sym (take-append-drop i xs) ∙ ap (λ (ys : List Item). take i xs ++ ys) (drop-cons xs i d lt) in
    let all : flat_map item_messages xs ++ behind ≡ flat_map item_messages (take i xs) ++ (item_messages (get_or xs i d) ++ (flat_map item_messages rest ++ behind)) =
    ap (λ (ms : List BackMessage). ms ++ behind) (ap (λ (ys : List Item). flat_map item_messages ys) split ∙ flat_map-append item_messages (take i xs) (get_or xs i d ∷ rest)
    ∙ ap (λ (ms : List BackMessage). flat_map item_messages (take i xs) ++ ms) (flat_map-cons item_messages (get_or xs i d) rest))
    ∙ append_assoc (flat_map item_messages (take i xs)) (item_messages (get_or xs i d) ++ flat_map item_messages rest) behind
    ∙ ap (λ (ms : List BackMessage). flat_map item_messages (take i xs) ++ ms) (append_assoc (item_messages (get_or xs i d)) (flat_map item_messages rest) behind) in
    subst (λ (ms : List BackMessage). Says (Err cause) ms before now) (sym all) (says_stopped cause (flat_map item_messages (take i xs)) (item_messages (get_or xs i d)) (flat_map item_messages rest ++ behind) before between now one two)

-- the same message in other words
pub said_as : (result : Result (Unit {0}) Cause) (m n : BackMessage) (before now : Desk) → m ≡ n → Says result (m ∷ []) before now → Says result (n ∷ []) before now
said_as result m n before now same says = subst (λ (one : BackMessage). Says result (one ∷ []) before now) same says

-- nothing after what was said
pub says_no_more : (result : Result (Unit {0}) Cause) (messages : List BackMessage) (before between now : Desk) → Says (Ok tt) messages before between → Says result [] between now → Says result messages before now
says_no_more result messages before between now one two = subst (λ (ms : List BackMessage). Says result ms before now) (append-nil messages) (says_then result messages [] before between now one two)

-- a code has five characters
pub code_length : (state : SqlState) → length (sqlstate state) ≡ 5
code_length states.ProtocolViolation = refl
code_length states.FeatureNotSupported = refl
code_length states.StringTooLong = refl
code_length states.NumberOutOfRange = refl
code_length states.NotInRepertoire = refl
code_length states.UniqueViolation = refl
code_length states.InvalidAuthorization = refl
code_length states.SyntaxError = refl
code_length states.UndefinedTable = refl
code_length states.OutOfMemory = refl
code_length states.TooManyConnections = refl
code_length states.LimitExceeded = refl
code_length states.QueryCanceled = refl
code_length states.AdminShutdown = refl
code_length states.CrashShutdown = refl
code_length states.CannotConnectNow = refl
code_length states.IoError = refl

-- the messages of the same item
pub item_as : (result : Result (Unit {0}) Cause) (item other : Item) (before now : Desk) → item ≡ other → Says result (item_messages item) before now → Says result (item_messages other) before now
item_as result item other before now same says = subst (λ (one : Item). Says result (item_messages one) before now) same says

-- ---- one row

key_magnitude : (key sent : ℤ) → FitsSigned w64 key → sent ≡ key → mag sent < 2 ^ 63
key_magnitude key sent fits is = subst (λ (k : ℤ). mag k < 2 ^ 63) (sym is) (omega (arith, ints, fits))

pub row_writable : (key sent : ℤ) (value : List ℕ) → FitsSigned w64 key → sent ≡ key → length value ≤ 8192 → IsWritable (Pair sent value)
row_writable key sent value fits is short = (tt, short_pair sent value (key_magnitude key sent fits is) (omega (arith, short)))

pub row_short : ((m : BackMessage) → HasSizes m → length (spelling m) ≤ longest m) → (key sent : ℤ) (value : List ℕ) → FitsSigned w64 key → sent ≡ key → length value ≤ 8192 → length (spelling (Pair sent value)) ≤ 8227
row_short law key sent value fits is short = let most = law (Pair sent value) (key_magnitude key sent fits is) in omega (arith, most, short)

-- the same row, as it was read and as it is listed
pub row_as : (result : Result (Unit {0}) Cause) (sent : ℤ) (value : List ℕ) (row listed : ℤ × List ℕ) (before now : Desk) → sent ≡ row.0 → value ≡ row.1 → row ≡ listed → Says result (Pair sent value ∷ []) before now → Says result (Pair listed.0 listed.1 ∷ []) before now
row_as result sent value row listed before now key_is value_is is says =
    said_as result (Pair sent value) (Pair listed.0 listed.1) before now
    (ap (λ (k : ℤ). Pair k value) key_is ∙ ap (λ (v : List ℕ). Pair row.0 v) value_is ∙ ap (λ (r : ℤ × List ℕ). Pair r.0 r.1) is) says
