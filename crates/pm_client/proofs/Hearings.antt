-- An answer that is read and shown.
use Rattle.std.proofs.{Common.{◌≡◌, ◌↔◌, ◌∙◌, ℕ, ◌+◌, ◌<◌, ◌≤◌, Bool, cond, true, false, List, [], ◌∷◌, ◌++◌, length, Result, Ok, Err, refl, sym, ap, subst, arith, append_assoc}, lemmas.List.{append-nil, Concat.flat_map-append, Sums.{sum_by-append, sum_by-cons}}}
use Rattle.pm_wire_back.specs.{pm_wire.{declared.{back.Back.Back, take.{Take.{Take, TheVariants.Bad}, WireFault.{WireFault, TheVariants.{BadLength, BadForm}}}}, Backend.{BackMessage, Auth, Param, Key, Ready, Fields, Pair, One, Complete, Empty, Fault, Notice, IsBack}, Stream.{HasNoMessage, IsStream}}, Failing.BackFails, Received.{DepartsHere, HasNoSuchLength, IsWholeAt}}
use Rattle.pm_client.{specs.{declared.played.Played.{Played, TheVariants.{Done, LinkFault, OutFault, BadReply, NoMemory}}, Show.{is_ready, line_of, lines_of}, Sides.{Carries, LinkView, Prints, Shows, Sides, SinkView}, Talk.{AreAnswers, answers_in}, Hearing.{Awaits, Hearing, Hears, IsNoMore}}, proofs.{Links.{carries_in, carries_none, prints_both, prints_none}, Streams.{no_message, stream_grows, stream_more}}}
use Rattle.pm_outside.proofs.pm_disk.DiskLaws.{rose_from}

pub answers_both : (ms ns : List BackMessage) → answers_in (ms ++ ns) ≡ answers_in ms + answers_in ns
answers_both ms ns = sum_by-append _ ms ns

one_not : (m : BackMessage) → is_ready m ≡ false → answers_in (m ∷ []) ≡ 0
one_not m other = sum_by-cons (λ x. cond (is_ready x) 1 0) m [] ∙ ap (λ (b : Bool). cond b 1 0 + 0) other

-- the lines with that of one message more
pub lines_more : (ms : List BackMessage) (m : BackMessage) (shown page : List ℕ) → lines_of ms ≡ shown ++ page → lines_of (ms ++ m ∷ []) ≡ shown ++ (page ++ line_of m)
lines_more ms m shown page is =
    flat_map-append line_of ms (m ∷ []) ∙ ap (λ (l : List ℕ). lines_of ms ++ l) (append-nil (line_of m)) ∙ ap (λ (l : List ℕ). l ++ line_of m) is ∙ append_assoc shown page (line_of m)

same_link : {came went : List ℕ} (a b c : LinkView) → Carries came went a b → c ≡ b → Carries came went a c
same_link {came} {went} a b c carries is = subst (λ (l : LinkView). Carries came went a l) (sym is) carries

same_sink : {shown : List ℕ} (a b c : SinkView) → Prints shown a b → c ≡ b → Prints shown a c
same_sink {shown} a b c prints is = subst (λ (s : SinkView). Prints shown a s) (sym is) prints

-- ---- so far

pub hearing_none : (unread : List ℕ) (at : Sides) → Hearing [] unread unread at at
hearing_none unread at = record {
  messages = [];
  came = [];
  shown = [];
  carries = carries_none at.link;
  prints = prints_none at.sink;
  read = append-nil unread;
  lines = refl;
  none = refl;
}

-- one message more, which ends no answer
pub hearing_more : (page first unread spelled left : List ℕ) (m : BackMessage) (a b : Sides) → Hearing page first unread a b → unread ≡ spelled ++ left → IsBack spelled m → is_ready m ≡ false → Hearing (page ++ line_of m) first left a b
hearing_more page first unread spelled left m a b h is back other = record {
  messages = h.messages ++ m ∷ [];
  came = h.came;
  shown = h.shown;
  carries = h.carries;
  prints = h.prints;
  read = stream_more (first ++ h.came) unread spelled left h.messages m h.read is back;
  lines = lines_more h.messages m h.shown page h.lines;
  none = omega (arith, answers_both h.messages (m ∷ []), one_not m other, h.none);
}

-- the page was shown
pub hearing_shown : (done : Unit {0}) (page text first unread : List ℕ) (a b c : Sides) → Hearing page first unread a b → text ≡ page → Shows (Ok done) text b.sink c.sink → c.link ≡ b.link → Hearing [] first unread a c
hearing_shown done page text first unread a b c h text_is shows same =
    let all : page ≡ shows.shown = sym text_is ∙ shows.whole ∙ ap (λ (l : List ℕ). shows.shown ++ l) shows.all ∙ append-nil shows.shown in
    record {
      messages = h.messages;
      came = h.came;
      shown = h.shown ++ shows.shown;
      carries = same_link a.link b.link c.link h.carries same;
      prints = prints_both h.shown shows.shown a.sink b.sink c.sink h.prints shows.prints;
      read = h.read;
      lines = h.lines ∙ ap (λ (l : List ℕ). h.shown ++ l) all ∙ sym (append-nil (h.shown ++ shows.shown));
      none = h.none;
    }

-- more bytes came
pub hearing_came : (page first unread came left : List ℕ) (a b c : Sides) → Hearing page first unread a b → left ≡ unread ++ came → Carries came [] b.link c.link → c.sink ≡ b.sink → Hearing page first left a c
hearing_came page first unread came left a b c h is carries same = record {
  messages = h.messages;
  came = h.came ++ came;
  shown = h.shown;
  carries = carries_in h.came [] came a.link b.link c.link h.carries carries;
  prints = same_sink a.sink b.sink c.sink h.prints same;
  read = subst (λ (l : List ℕ). IsStream IsBack l h.messages left) (append_assoc first h.came came)
      (subst (λ (l : List ℕ). IsStream IsBack ((first ++ h.came) ++ came) h.messages l) (sym is) (stream_grows (first ++ h.came) came unread h.messages h.read));
  lines = h.lines;
  none = h.none;
}

-- ---- its end

hears_all : (page first left : List ℕ) (messages : List BackMessage) (result : Result (Unit {0}) Played) (a b c : Sides) (came shown : List ℕ) → Carries came [] a.link b.link → Prints shown a.sink b.sink
    → IsStream IsBack (first ++ came) messages left → lines_of messages ≡ shown ++ page → AreAnswers 1 messages → Shows result page b.sink c.sink → c.link ≡ b.link → Hears result first left a c
hears_all page first left messages (Ok done) a b c came shown carries prints read lines answers shows same =
    let all : page ≡ shows.shown = shows.whole ∙ ap (λ (l : List ℕ). shows.shown ++ l) shows.all ∙ append-nil shows.shown in
    record {
      messages = messages;
      came = came;
      shown = shown ++ shows.shown;
      unshown = [];
      carries = same_link a.link b.link c.link carries same;
      prints = prints_both shown shows.shown a.sink b.sink c.sink prints shows.prints;
      read = read;
      lines = lines ∙ ap (λ (l : List ℕ). shown ++ l) all ∙ sym (append-nil (shown ++ shows.shown));
      heard = (refl, answers);
    }
hears_all page first left messages (Err OutFault) a b c came shown carries prints read lines answers shows same = record {
  messages = messages;
  came = came;
  shown = shown ++ shows.shown;
  unshown = shows.missing;
  carries = same_link a.link b.link c.link carries same;
  prints = prints_both shown shows.shown a.sink b.sink c.sink prints shows.prints;
  read = read;
  lines = lines ∙ ap (λ (l : List ℕ). shown ++ l) shows.whole ∙ sym (append_assoc shown shows.shown shows.missing);
  heard = (tt, rose_from a.sink.faults b.sink.faults c.sink.faults prints.later shows.all);
}
hears_all page first left messages (Err (Done ended)) a b c came shown carries prints read lines answers shows same = absurd shows.all
hears_all page first left messages (Err LinkFault) a b c came shown carries prints read lines answers shows same = absurd shows.all
hears_all page first left messages (Err (BadReply fault)) a b c came shown carries prints read lines answers shows same = absurd shows.all
hears_all page first left messages (Err NoMemory) a b c came shown carries prints read lines answers shows same = absurd shows.all

ready_is : (m : BackMessage) → is_ready m ≡ true → m ≡ Ready
ready_is Ready last = refl
ready_is Auth last = absurd cc
ready_is (Param name value) last = absurd cc
ready_is (Key pid key) last = absurd cc
ready_is (Fields shape) last = absurd cc
ready_is (Pair key value) last = absurd cc
ready_is (One text) last = absurd cc
ready_is (Complete tag) last = absurd cc
ready_is Empty last = absurd cc
ready_is (Fault s) last = absurd cc
ready_is (Notice s) last = absurd cc

-- ReadyForQuery came, and the page was shown or not
pub hears_ready : (result : Result (Unit {0}) Played) (page text first unread spelled left : List ℕ) (m : BackMessage) (a b c : Sides) → Hearing page first unread a b → unread ≡ spelled ++ left → IsBack spelled m → is_ready m ≡ true
    → text ≡ page ++ line_of m → Shows result text b.sink c.sink → c.link ≡ b.link → Hears result first left a c
hears_ready result page text first unread spelled left m a b c h is back last text_is shows same =
    hears_all text first left (h.messages ++ m ∷ []) result a b c h.came h.shown h.carries h.prints (stream_more (first ++ h.came) unread spelled left h.messages m h.read is back)
    (lines_more h.messages m h.shown page h.lines ∙ ap (λ (l : List ℕ). h.shown ++ l) (sym text_is))
    (record {
      front = h.messages;
      last = ap (λ (n : BackMessage). h.messages ++ n ∷ []) (ready_is m last);
      number = omega (arith, answers_both h.messages (m ∷ []), h.none, ap (λ (n : BackMessage). answers_in (n ∷ [])) (ready_is m last));
    })
    shows same

-- the page wasn't shown
pub hears_unshown : (played : Played) (page text first unread : List ℕ) (a b c : Sides) → Hearing page first unread a b → text ≡ page → Shows (Err played) text b.sink c.sink → c.link ≡ b.link → Hears (Err played) first unread a c
hears_unshown OutFault page text first unread a b c h text_is shows same = record {
  messages = h.messages;
  came = h.came;
  shown = h.shown ++ shows.shown;
  unshown = shows.missing;
  carries = same_link a.link b.link c.link h.carries same;
  prints = prints_both h.shown shows.shown a.sink b.sink c.sink h.prints shows.prints;
  read = h.read;
  lines = h.lines ∙ ap (λ (l : List ℕ). h.shown ++ l) (sym text_is ∙ shows.whole) ∙ sym (append_assoc h.shown shows.shown shows.missing);
  heard = (tt, rose_from a.sink.faults b.sink.faults c.sink.faults h.prints.later shows.all);
}
hears_unshown (Done ended) page text first unread a b c h text_is shows same = absurd shows.all
hears_unshown LinkFault page text first unread a b c h text_is shows same = absurd shows.all
hears_unshown (BadReply fault) page text first unread a b c h text_is shows same = absurd shows.all
hears_unshown NoMemory page text first unread a b c h text_is shows same = absurd shows.all

-- why a reader refuses the bytes
pub back_fails : (answer : Take Back) (bytes : List ℕ) (fault : WireFault) → ((seen : ℕ) → (answer ≡ Bad (BadLength seen)) ↔ HasNoSuchLength bytes seen) → ((at : ℕ) → (answer ≡ Bad (BadForm at)) ↔ DepartsHere bytes at) → answer ≡ Bad fault
    → BackFails bytes fault
back_fails answer bytes (BadLength seen) lengths forms is = (lengths seen).0 is
back_fails answer bytes (BadForm at) lengths forms is = (forms at).0 is

-- what came is no message
pub hears_bad : (fault : WireFault) (first unread : List ℕ) (a b : Sides) → Hearing [] first unread a b → BackFails unread fault → Hears (Err (BadReply fault)) first unread a b
hears_bad fault first unread a b h fails = record {
  messages = h.messages;
  came = h.came;
  shown = h.shown;
  unshown = [];
  carries = h.carries;
  prints = h.prints;
  read = h.read;
  lines = h.lines;
  heard = (h.none, (refl, fails));
}

pub hears_no_more : (page first unread : List ℕ) (a b : Sides) → Hearing page first unread a b → Hears (Err NoMemory) first unread a b
hears_no_more page first unread a b h = record {
  messages = h.messages;
  came = h.came;
  shown = h.shown;
  unshown = page;
  carries = h.carries;
  prints = h.prints;
  read = h.read;
  lines = h.lines;
  heard = (h.none, tt);
}

cut_by : (played : Played) (first left : List ℕ) (wanted : ℕ) (a b c : Sides) → Hearing [] first left a c → a.link.faults ≤ b.link.faults → (length left < wanted → HasNoMessage IsBack left) → (length left < wanted) × IsNoMore played b.link c.link → Hears (Err played) first left a c
cut_by NoMemory first left wanted a b c h early none why = hears_no_more [] first left a c h
cut_by LinkFault first left wanted a b c h early none why = record {
  messages = h.messages;
  came = h.came;
  shown = h.shown;
  unshown = [];
  carries = h.carries;
  prints = h.prints;
  read = h.read;
  lines = h.lines;
  heard = (h.none, (refl, rose_from a.link.faults b.link.faults c.link.faults early why.1));
}
cut_by (Done true) first left wanted a b c h early none why = record {
  messages = h.messages;
  came = h.came;
  shown = h.shown;
  unshown = [];
  carries = h.carries;
  prints = h.prints;
  read = h.read;
  lines = h.lines;
  heard = (h.none, (refl, why.1, none why.0));
}
cut_by (Done false) first left wanted a b c h early none why = absurd why.1
cut_by OutFault first left wanted a b c h early none why = absurd why.1
cut_by (BadReply fault) first left wanted a b c h early none why = absurd why.1

-- nothing more came
pub hears_cut : (played : Played) (first unread left : List ℕ) (wanted : ℕ) (a b c : Sides) → Hearing [] first unread a b → IsWholeAt unread wanted → Awaits wanted (Err played) unread left b.link c.link → c.sink ≡ b.sink → Hears (Err played) first left a c
hears_cut played first unread left wanted a b c h whole awaits same =
    let came : Hearing [] first left a c = hearing_came [] first unread awaits.came left a b c h awaits.unread awaits.carries same in
    let few = λ (less : length left < wanted).
    subst (λ (l : List ℕ). HasNoMessage IsBack l) (sym awaits.unread) (no_message unread awaits.came wanted whole (subst (λ (l : List ℕ). length l < wanted) awaits.unread less)) in
    cut_by played first left wanted a b c came h.carries.later few awaits.why
