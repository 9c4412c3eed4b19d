-- A talk, request by request.
use Rattle.std.{proofs.{Common.{◌≡◌, ◌∙◌, ℕ, ◌+◌, ◌<◌, ◌≤◌, true, false, List, [], ◌∷◌, ◌++◌, length, take, drop, get_or, Result, Ok, Err, refl, sym, ap, subst, arith, append_assoc, take-append-drop}, lemmas.List.{append-nil, take_all, take_more, Concat.flat_map-append}}, specs.List.flat_map}
use Rattle.pm_outside.{specs.pm_disk.Cause.Rose, proofs.pm_disk.DiskLaws.rose_from}
use Rattle.pm_wire_front.specs.{pm_wire.{Backend.{BackMessage, Ready, IsBack}, Stream.IsStream}, Requests.{all_sent, query, start_packet, terminate}}
use Rattle.pm_client.{specs.{declared.played.Played.{Played, TheVariants.{Done, LinkFault, OutFault, BadReply, NoMemory}}, Show.lines_of, Sides.{Carries, Prints, Sends, Sides, SinkView}, Talk.{EndsBy, HasAsked, HasPlayed, IsCutOff, IsWholeOr, answers_in, played_of}, Hearing.{Asks, Hears, IsAsked, IsHeard, IsUnanswered}}, proofs.{Links.{carries_both, carries_none, carries_out, prints_both, prints_none}, Hearings.answers_both, Streams.stream_then}}

-- So many answers were read and shown, and this was sent.
pub record Talked (went : List ℕ) (answered : ℕ) (unread : List ℕ) (before now : Sides) : Type 0 where
  pub messages : List BackMessage
  pub came : List ℕ
  pub shown : List ℕ
  pub carries : Carries came went before.link now.link
  pub prints : Prints shown before.sink now.sink
  pub read : IsStream IsBack came messages unread
  pub lines : lines_of messages ≡ shown
  pub number : answers_in messages ≡ answered
  pub last : 0 < answered → (front : List BackMessage) × (messages ≡ front ++ Ready ∷ [])

pub talked_none : (at : Sides) → Talked [] 0 [] at at
talked_none at = record {
  messages = [];
  came = [];
  shown = [];
  carries = carries_none at.link;
  prints = prints_none at.sink;
  read = refl;
  lines = refl;
  number = refl;
  last = λ some. absurd (omega (arith, some));
}

lines_both : (ms ns : List BackMessage) (one two missing : List ℕ) → lines_of ms ≡ one → lines_of ns ≡ two ++ missing → lines_of (ms ++ ns) ≡ (one ++ two) ++ missing
lines_both ms ns one two missing first second =
    flat_map-append _ ms ns ∙ ap (λ (l : List ℕ). l ++ lines_of ns) first ∙ ap (λ (l : List ℕ). one ++ l) second ∙ sym (append_assoc one two missing)

all_went : (request went missing : List ℕ) → request ≡ went ++ missing → missing ≡ [] → went ≡ request
all_went request went missing whole none = sym (append-nil went) ∙ ap (λ (l : List ℕ). went ++ l) (sym none) ∙ sym whole

pub talked_more : (done : Unit {0}) (went request unread left : List ℕ) (answered : ℕ) (a b c : Sides) → Talked went answered unread a b → Asks (Ok done) request unread left b c → Talked (went ++ request) (answered + 1) left a c
talked_more done went request unread left answered a b c t asks =
    let sent : asks.went ≡ request = all_went request asks.went asks.missing asks.whole asks.asked in
    record {
      messages = t.messages ++ asks.messages;
      came = t.came ++ asks.came;
      shown = t.shown ++ asks.shown;
      carries = subst (λ (l : List ℕ). Carries (t.came ++ asks.came) (went ++ l) a.link c.link) sent (carries_both t.came went asks.came asks.went a.link b.link c.link t.carries asks.carries);
      prints = prints_both t.shown asks.shown a.sink b.sink c.sink t.prints asks.prints;
      read = stream_then t.came asks.came unread left t.messages asks.messages t.read asks.read;
      lines = lines_both t.messages asks.messages t.shown asks.shown asks.unshown t.lines asks.lines ∙ ap (λ (l : List ℕ). (t.shown ++ asks.shown) ++ l) asks.heard.0 ∙ append-nil (t.shown ++ asks.shown);
      number = omega (arith, answers_both t.messages asks.messages, t.number, asks.heard.1.number);
      last = λ some. (t.messages ++ asks.heard.1.front, ap (λ (ms : List BackMessage). t.messages ++ ms) asks.heard.1.last ∙ sym (append_assoc t.messages asks.heard.1.front (Ready ∷ [])));
    }

-- ---- a talk that is cut off

cut_since : (played : Played) (unread unshown : List ℕ) (a b c : Sides) → a.link.faults ≤ b.link.faults → a.sink.faults ≤ b.sink.faults → IsCutOff played unread unshown b c → IsWholeOr played unread unshown a c
cut_since (Done false) unread unshown a b c link sink cut = absurd cut
cut_since (Done true) unread unshown a b c link sink cut = cut
cut_since LinkFault unread unshown a b c link sink cut = (cut.0, rose_from a.link.faults b.link.faults c.link.faults link cut.1)
cut_since OutFault unread unshown a b c link sink cut = rose_from a.sink.faults b.sink.faults c.sink.faults sink cut
cut_since (BadReply fault) unread unshown a b c link sink cut = cut
cut_since NoMemory unread unshown a b c link sink cut = tt

ends_so : (played : Played) (user : List ℕ) (texts : List (List ℕ)) (answered : ℕ) (ms ns : List BackMessage) (went request part missing unsent unread unshown : List ℕ) (b c : Sides)
    → answers_in ms ≡ answered → HasAsked user texts answered (went ++ request) → request ≡ part ++ missing → IsAsked (Err played) missing → IsUnanswered played ns → IsCutOff played unread unshown b c
    → EndsBy played user texts (ms ++ ns) (went ++ part) unsent
ends_so (Done false) user texts answered ms ns went request part missing unsent unread unshown b c number asked whole sent none cut = absurd cut
ends_so (Done true) user texts answered ms ns went request part missing unsent unread unshown b c number asked whole sent none cut =
    let count : answers_in (ms ++ ns) ≡ answered = omega (arith, answers_both ms ns, number, none) in
    subst (λ (n : ℕ). HasAsked user texts n (went ++ part)) (sym count) (subst (λ (l : List ℕ). HasAsked user texts answered (went ++ l)) (sym (all_went request part missing whole sent)) asked)
ends_so LinkFault user texts answered ms ns went request part missing unsent unread unshown b c number asked whole sent none cut = tt
ends_so OutFault user texts answered ms ns went request part missing unsent unread unshown b c number asked whole sent none cut = tt
ends_so (BadReply fault) user texts answered ms ns went request part missing unsent unread unshown b c number asked whole sent none cut =
    let count : answers_in (ms ++ ns) ≡ answered = omega (arith, answers_both ms ns, number, none) in
    subst (λ (n : ℕ). HasAsked user texts n (went ++ part)) (sym count) (subst (λ (l : List ℕ). HasAsked user texts answered (went ++ l)) (sym (all_went request part missing whole sent)) asked)
ends_so NoMemory user texts answered ms ns went request part missing unsent unread unshown b c number asked whole sent none cut = tt

-- in a request, of which these are the bytes after it
pub talked_cut : (played : Played) (user : List ℕ) (texts : List (List ℕ)) (went request after unread left : List ℕ) (answered : ℕ) (a b c : Sides) → Talked went answered unread a b → all_sent user texts ≡ (went ++ request) ++ after
    → HasAsked user texts answered (went ++ request) → Asks (Err played) request unread left b c → HasPlayed user texts played a c
talked_cut played user texts went request after unread left answered a b c t all asked asks = record {
  messages = t.messages ++ asks.messages;
  came = t.came ++ asks.came;
  unread = left;
  went = went ++ asks.went;
  unsent = asks.missing ++ after;
  shown = t.shown ++ asks.shown;
  unshown = asks.unshown;
  carries = carries_both t.came went asks.came asks.went a.link b.link c.link t.carries asks.carries;
  prints = prints_both t.shown asks.shown a.sink b.sink c.sink t.prints asks.prints;
  read = stream_then t.came asks.came unread left t.messages asks.messages t.read asks.read;
  asked = all ∙ ap (λ (l : List ℕ). (went ++ l) ++ after) asks.whole ∙ ap (λ (l : List ℕ). l ++ after) (sym (append_assoc went asks.went asks.missing)) ∙ append_assoc (went ++ asks.went) asks.missing after;
  lines = lines_both t.messages asks.messages t.shown asks.shown asks.unshown t.lines asks.lines;
  ends = ends_so played user texts answered t.messages asks.messages went request asks.went asks.missing (asks.missing ++ after) left asks.unshown b c t.number asked asks.whole asks.asked asks.heard.0 asks.heard.1;
  whole = cut_since played left asks.unshown a b c t.carries.later t.prints.later asks.heard.1;
}

-- between two requests
pub talked_no_more : (user : List ℕ) (texts : List (List ℕ)) (went after unread : List ℕ) (answered : ℕ) (a b : Sides) → Talked went answered unread a b → all_sent user texts ≡ went ++ after → HasPlayed user texts NoMemory a b
talked_no_more user texts went after unread answered a b t all = record {
  messages = t.messages;
  came = t.came;
  unread = unread;
  went = went;
  unsent = after;
  shown = t.shown;
  unshown = [];
  carries = t.carries;
  prints = t.prints;
  read = t.read;
  asked = all;
  lines = t.lines ∙ sym (append-nil t.shown);
  ends = tt;
  whole = tt;
}

-- ---- its end

pub talked_all : (result : Result (Unit {0}) Played) (user : List ℕ) (texts : List (List ℕ)) (went unread : List ℕ) (a b c : Sides) → Talked went (length texts + 1) unread a b → all_sent user texts ≡ went ++ terminate
    → Sends result terminate b.link c.link → c.sink ≡ b.sink → HasPlayed user texts (played_of result) a c
talked_all (Ok done) user texts went unread a b c t all sends same =
    let last = t.last (omega arith) in
    record {
      messages = t.messages;
      came = t.came;
      unread = unread;
      went = went ++ sends.went;
      unsent = [];
      shown = t.shown;
      unshown = [];
      carries = carries_out t.came went sends.went a.link b.link c.link t.carries sends.carries;
      prints = subst (λ (s : SinkView). Prints t.shown a.sink s) (sym same) t.prints;
      read = t.read;
      asked = all ∙ ap (λ (l : List ℕ). went ++ l) (sym (all_went terminate sends.went sends.missing sends.whole sends.all)) ∙ sym (append-nil (went ++ sends.went));
      lines = t.lines ∙ sym (append-nil t.shown);
      ends = (refl, record { front = last.0; last = last.1; number = t.number });
      whole = refl;
    }
talked_all (Err LinkFault) user texts went unread a b c t all sends same = record {
  messages = t.messages;
  came = t.came;
  unread = unread;
  went = went ++ sends.went;
  unsent = sends.missing;
  shown = t.shown;
  unshown = [];
  carries = carries_out t.came went sends.went a.link b.link c.link t.carries sends.carries;
  prints = subst (λ (s : SinkView). Prints t.shown a.sink s) (sym same) t.prints;
  read = t.read;
  asked = all ∙ ap (λ (l : List ℕ). went ++ l) sends.whole ∙ sym (append_assoc went sends.went sends.missing);
  lines = t.lines ∙ sym (append-nil t.shown);
  ends = tt;
  whole = (refl, rose_from a.link.faults b.link.faults c.link.faults t.carries.later sends.all);
}
talked_all (Err (Done ended)) user texts went unread a b c t all sends same = absurd sends.all
talked_all (Err OutFault) user texts went unread a b c t all sends same = absurd sends.all
talked_all (Err (BadReply fault)) user texts went unread a b c t all sends same = absurd sends.all
talked_all (Err NoMemory) user texts went unread a b c t all sends same = absurd sends.all

-- ---- asking

same_sink : (shown : List ℕ) (a b c : SinkView) → Prints shown a b → c ≡ b → Prints shown a c
same_sink shown a b c prints is = subst (λ (s : SinkView). Prints shown a s) (sym is) prints

-- the request wasn't sent
pub asks_unsent : (played : Played) (request unread : List ℕ) (a b : Sides) → Sends (Err played) request a.link b.link → b.sink ≡ a.sink → Asks (Err played) request unread unread a b
asks_unsent LinkFault request unread a b sends same = record {
  messages = [];
  came = [];
  went = sends.went;
  missing = sends.missing;
  shown = [];
  unshown = [];
  carries = sends.carries;
  prints = same_sink [] a.sink a.sink b.sink (prints_none a.sink) same;
  read = append-nil unread;
  whole = sends.whole;
  lines = refl;
  asked = tt;
  heard = (refl, (refl, sends.all));
}
asks_unsent (Done ended) request unread a b sends same = absurd sends.all
asks_unsent OutFault request unread a b sends same = absurd sends.all
asks_unsent (BadReply fault) request unread a b sends same = absurd sends.all
asks_unsent NoMemory request unread a b sends same = absurd sends.all

sent_all : (result : Result (Unit {0}) Played) → IsAsked result []
sent_all (Ok done) = refl
sent_all (Err LinkFault) = tt
sent_all (Err (Done ended)) = refl
sent_all (Err OutFault) = refl
sent_all (Err (BadReply fault)) = refl
sent_all (Err NoMemory) = refl

heard_since : (result : Result (Unit {0}) Played) (messages : List BackMessage) (unread unshown : List ℕ) (a b c : Sides) → a.link.faults ≤ b.link.faults → b.sink ≡ a.sink → IsHeard result messages unread unshown b c → IsHeard result messages unread unshown a c
heard_since (Ok done) messages unread unshown a b c link same heard = heard
heard_since (Err (Done false)) messages unread unshown a b c link same heard = absurd heard.1
heard_since (Err (Done true)) messages unread unshown a b c link same heard = heard
heard_since (Err LinkFault) messages unread unshown a b c link same heard = (heard.0, (heard.1.0, rose_from a.link.faults b.link.faults c.link.faults link heard.1.1))
heard_since (Err OutFault) messages unread unshown a b c link same heard = (tt, subst (λ (s : SinkView). Rose s.faults c.sink.faults) same heard.1)
heard_since (Err (BadReply fault)) messages unread unshown a b c link same heard = heard
heard_since (Err NoMemory) messages unread unshown a b c link same heard = heard

-- the request was sent, and its answer awaited
pub asks_heard : (done : Unit {0}) (result : Result (Unit {0}) Played) (request unread left : List ℕ) (a b c : Sides) → Sends (Ok done) request a.link b.link → b.sink ≡ a.sink → Hears result unread left b c → Asks result request unread left a c
asks_heard done result request unread left a b c sends same hears = record {
  messages = hears.messages;
  came = hears.came;
  went = request;
  missing = [];
  shown = hears.shown;
  unshown = hears.unshown;
  carries = subst (λ (l : List ℕ). Carries hears.came l a.link c.link) (append-nil sends.went ∙ all_went request sends.went sends.missing sends.whole sends.all)
      (carries_both [] sends.went hears.came [] a.link b.link c.link sends.carries hears.carries);
  prints = subst (λ (s : SinkView). Prints hears.shown s c.sink) same hears.prints;
  read = hears.read;
  whole = sym (append-nil request);
  lines = hears.lines;
  asked = sent_all result;
  heard = heard_since result hears.messages left hears.unshown a b c sends.carries.later same hears.heard;
}

-- ---- query by query

next_text : (texts : List (List ℕ)) (i : ℕ) (text : List ℕ) → i < length texts → text ≡ get_or texts i text → take (i + 1) texts ≡ take i texts ++ text ∷ []
next_text texts i text lt is = take_more texts i text lt ∙ ap (λ (t : List ℕ). take i texts ++ t ∷ []) (sym is)

went_more : (user : List ℕ) (texts : List (List ℕ)) (i : ℕ) (text : List ℕ) → take (i + 1) texts ≡ take i texts ++ text ∷ []
    → (start_packet user ++ flat_map query (take i texts)) ++ query text ≡ start_packet user ++ flat_map query (take (i + 1) texts)
went_more user texts i text next =
    let behind : flat_map query (take (i + 1) texts) ≡ flat_map query (take i texts) ++ query text =
    ap (λ (ts : List (List ℕ)). flat_map query ts) next ∙ flat_map-append query (take i texts) (text ∷ []) ∙ ap (λ (l : List ℕ). flat_map query (take i texts) ++ l) (append-nil (query text)) in
    append_assoc (start_packet user) (flat_map query (take i texts)) (query text) ∙ ap (λ (l : List ℕ). start_packet user ++ l) (sym behind)

sent_at : (user : List ℕ) (texts : List (List ℕ)) (k : ℕ) → all_sent user texts ≡ (start_packet user ++ flat_map query (take k texts)) ++ (flat_map query (drop k texts) ++ terminate)
sent_at user texts k =
    let parts : flat_map query texts ≡ flat_map query (take k texts) ++ flat_map query (drop k texts) =
    ap (λ (ts : List (List ℕ)). flat_map query ts) (sym (take-append-drop k texts)) ∙ flat_map-append query (take k texts) (drop k texts) in
    ap (λ (l : List ℕ). (start_packet user ++ l) ++ terminate) parts
    ∙ ap (λ (l : List ℕ). l ++ terminate) (sym (append_assoc (start_packet user) (flat_map query (take k texts)) (flat_map query (drop k texts))))
    ∙ append_assoc (start_packet user ++ flat_map query (take k texts)) (flat_map query (drop k texts)) terminate

same_asks : (result : Result (Unit {0}) Played) (request asked first unread left : List ℕ) (a b : Sides) → Asks result request first left a b → request ≡ asked → first ≡ unread → Asks result asked unread left a b
same_asks result request asked first unread left a b asks one two =
    subst (λ (l : List ℕ). Asks result l unread left a b) one (subst (λ (l : List ℕ). Asks result request l left a b) two asks)

pub talked_first : (done : Unit {0}) (user request first left : List ℕ) (a b : Sides) → Asks (Ok done) request first left a b → request ≡ start_packet user → first ≡ [] → Talked (start_packet user ++ []) 1 left a b
talked_first done user request first left a b asks one two =
    subst (λ (l : List ℕ). Talked l 1 left a b) (sym (append-nil (start_packet user)))
    (talked_more done [] (start_packet user) [] left 0 a a b (talked_none a) (same_asks (Ok done) request (start_packet user) first [] left a b asks one two))

pub cut_first : (played : Played) (user : List ℕ) (texts : List (List ℕ)) (request first left : List ℕ) (a b : Sides) → Asks (Err played) request first left a b → request ≡ start_packet user → first ≡ [] → HasPlayed user texts played a b
cut_first played user texts request first left a b asks one two =
    talked_cut played user texts [] (start_packet user) (flat_map query texts ++ terminate) [] left 0 a a b (talked_none a) (append_assoc (start_packet user) (flat_map query texts) terminate)
    (record { within = omega arith; went_is = sym (append-nil (start_packet user)) })
    (same_asks (Err played) request (start_packet user) first [] left a b asks one two)

pub talked_next : (done : Unit {0}) (user : List ℕ) (texts : List (List ℕ)) (i : ℕ) (text request first unread left : List ℕ) (a b c : Sides) → Talked (start_packet user ++ flat_map query (take i texts)) (i + 1) unread a b
    → i < length texts → text ≡ get_or texts i text → Asks (Ok done) request first left b c → request ≡ query text → first ≡ unread → Talked (start_packet user ++ flat_map query (take (i + 1) texts)) (i + 1 + 1) left a c
talked_next done user texts i text request first unread left a b c t lt is asks one two =
    subst (λ (l : List ℕ). Talked l (i + 1 + 1) left a c) (went_more user texts i text (next_text texts i text lt is))
    (talked_more done (start_packet user ++ flat_map query (take i texts)) (query text) unread left (i + 1) a b c t (same_asks (Ok done) request (query text) first unread left b c asks one two))

pub cut_next : (played : Played) (user : List ℕ) (texts : List (List ℕ)) (i : ℕ) (text request first unread left : List ℕ) (a b c : Sides) → Talked (start_packet user ++ flat_map query (take i texts)) (i + 1) unread a b
    → i < length texts → text ≡ get_or texts i text → Asks (Err played) request first left b c → request ≡ query text → first ≡ unread → HasPlayed user texts played a c
cut_next played user texts i text request first unread left a b c t lt is asks one two =
    let went = went_more user texts i text (next_text texts i text lt is) in
    talked_cut played user texts (start_packet user ++ flat_map query (take i texts)) (query text) (flat_map query (drop (i + 1) texts) ++ terminate) unread left (i + 1) a b c t
    (sent_at user texts (i + 1) ∙ ap (λ (l : List ℕ). l ++ (flat_map query (drop (i + 1) texts) ++ terminate)) (sym went))
    (record { within = omega (arith, lt); went_is = went })
    (same_asks (Err played) request (query text) first unread left b c asks one two)

pub short_first : (user : List ℕ) (texts : List (List ℕ)) (at : Sides) → HasPlayed user texts NoMemory at at
short_first user texts at = talked_no_more user texts [] (all_sent user texts) [] 0 at at (talked_none at) refl

pub short_next : (user : List ℕ) (texts : List (List ℕ)) (i : ℕ) (unread : List ℕ) (a b : Sides) → Talked (start_packet user ++ flat_map query (take i texts)) (i + 1) unread a b → HasPlayed user texts NoMemory a b
short_next user texts i unread a b t =
    talked_no_more user texts (start_packet user ++ flat_map query (take i texts)) (flat_map query (drop i texts) ++ terminate) unread (i + 1) a b t (sent_at user texts i)

pub talked_last : (result : Result (Unit {0}) Played) (user : List ℕ) (texts : List (List ℕ)) (i : ℕ) (last unread : List ℕ) (a b c : Sides) → Talked (start_packet user ++ flat_map query (take i texts)) (i + 1) unread a b
    → length texts ≤ i → i ≤ length texts → Sends result last b.link c.link → last ≡ terminate → c.sink ≡ b.sink → HasPlayed user texts (played_of result) a c
talked_last result user texts i last unread a b c t low high sends is same =
    let all : take i texts ≡ texts = take_all i texts low in
    let number : i + 1 ≡ length texts + 1 = omega (arith, low, high) in
    let whole = subst (λ (ts : List (List ℕ)). Talked (start_packet user ++ flat_map query ts) (i + 1) unread a b) all t in
    talked_all result user texts (start_packet user ++ flat_map query texts) unread a b c (subst (λ (n : ℕ). Talked (start_packet user ++ flat_map query texts) n unread a b) number whole) refl
    (subst (λ (l : List ℕ). Sends result l b.link c.link) is sends) same
