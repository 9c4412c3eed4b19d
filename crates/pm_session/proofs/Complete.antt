-- Which queries of what came in have an answer.
use Rattle.std.{proofs.{Common.{◌≡◌, ◌≢◌, ◌⊎◌, inl, inr, ℕ, ◌+◌, ◌<◌, ◌≤◌, List, [], ◌∷◌, ◌++◌, length, get_or, Option, None, Some, Result, Ok, Err, refl, sym, ◌∙◌, ap, subst, arith, append_assoc, length-append}, lemmas.List.{append_cancel_left, append-nil, take_all, Concat.flat_map-cons}}, specs.{List.{flat_map, Contains}, Option.option_map}}
use Rattle.pm_session_exchange.specs.{pm_outside.{pm_disk.Cause.Rose, Traffic.Traffic}, pm_child_life.{declared.life.Attempt.Attempt, Life.{Told, Signal, Cancel, answer_met}}, declared.ending.{MessageFault.TheVariants.{BadLength, BadForm, LongQuery, Extended, UnknownType}, Cause.{Cause, TheVariants.{Terminated, Cancelling, LinkEnded, LinkFailed, TimedOut, PacketRefused, MessageRefused, DecisionRefused, GateRefused, ShortOfMemory, Panicked, ToldToTerminate, ToldToQuit, Killed, Overtaken}}, Stage.{Stage, TheVariants.{Outside, Entering, Greeted}}}, Sent.{Turn, Ran, Faulted, NotUtf8, Cancelled, LogIsFull, Memory}, Queries.{IsCancelledTurn, TurnNotes}}
use Rattle.pm_admit.specs.declared.Cac.{Cac}
use Rattle.pm_startup.specs.{declared.{packet.StartFault.StartFault, phase.Phase.Phase}, Grammar.{Content, startup, ssl_request, gssenc_request, cancel_request, Decides, IsUndecided as IsNoPacketYet}, Phases.step_of, pm_wire.{Pieces.{int32, string}, Numbers.number_again, Stream.StandApart, Frontend.{FrontMessage, Query, BadQuery, LongQuery as IsLongQuery, Terminate, Extended as IsExtended, Other, IsFront, IsBadHeader}}}
use Rattle.pm_startup.specs.declared.phase.Step.TheVariants as steps
use Rattle.pm_query.specs.{pm_sql.{declared.{stmt.Stmt.Stmt, query.SqlFault.SqlFault}, Statements.IsQueryText, Faults.IsFaultOf, Laws.NoFault}, declared.book.BookEntry.BookEntry, Calls.User}
use Rattle.pm_query.specs.pm_sql.declared.query.SqlFault.TheVariants as texts
use Rattle.pm_session.specs.{Heeding.TurnsHeed, Session.{Ending, AllNotes, AskInTurn, CausedBy, EndsAt, IsAdmitted, IsBehindStart, IsCaused, IsServed, IsStart, MayPassOver, NotesOutside, StaysOut, TurnsAway, between, first_phase, query_bytes}, Complete.{IsProper, AllProper, IsRun, AllRun, EndsForStore, Begins, EachQueryIsAnswered}}

-- ---- what stands after an opening

abbrev pub PrefixFree : Type 0
PrefixFree = (a b x y : List ℕ) (v w : Result Content StartFault) → Decides a v → Decides b w → a ++ x ≡ b ++ y → (a ≡ b) × (v ≡ w)

same_behind : (a b x y : List ℕ) → a ≡ b → a ++ x ≡ b ++ y → x ≡ y
same_behind a b x y same e = append_cancel_left b x y (ap (λ (l : List ℕ). l ++ x) (sym same) ∙ e)

abbrev verdict_of : Content → Result Content StartFault
verdict_of content = Ok content

says_no : (phase : Phase) (content : Content) (user : List ℕ) (between : Phase) → verdict_of (startup user) ≡ verdict_of content → step_of phase content ≡ steps.SayNo between → ⊥
says_no phase (startup name) user between is says = cc
says_no phase ssl_request user between is says = cc
says_no phase gssenc_request user between is says = cc
says_no phase (cancel_request pid key) user between is says = cc

abbrev all_of : List (List ℕ) → List ℕ
all_of packets = flat_map (λ p. p) packets

one_of : (packet : List ℕ) (packets : List (List ℕ)) (rest : List ℕ) → all_of (packet ∷ packets) ++ rest ≡ packet ++ (all_of packets ++ rest)
one_of packet packets rest = ap (λ (l : List ℕ). l ++ rest) (flat_map-cons (λ p. p) packet packets) ∙ append_assoc packet (all_of packets) rest

behind_opening : PrefixFree → (b1 b2 n1 n2 : Phase) (rs ss : List (List ℕ)) (p q x y : List ℕ) → AskInTurn b1 rs n1 → AskInTurn b2 ss n2 → IsStart p → IsStart q → all_of rs ++ (p ++ x) ≡ all_of ss ++ (q ++ y) → x ≡ y
behind_opening free b1 b2 n1 n2 [] [] p q x y asks others start other e = same_behind p q x y (free p q x y (Ok (startup start.0)) (Ok (startup other.0)) start.1 other.1 e).0 e
behind_opening free b1 b2 n1 n2 [] (s ∷ ss) p q x y asks others start other e =
    absurd (says_no b2 others.0 start.0 others.1 (free p s x (all_of ss ++ (q ++ y)) (Ok (startup start.0)) (Ok others.0) start.1 others.2 (e ∙ one_of s ss (q ++ y))).1 others.3)
behind_opening free b1 b2 n1 n2 (r ∷ rs) [] p q x y asks others start other e =
    absurd (says_no b1 asks.0 other.0 asks.1 (free q r y (all_of rs ++ (p ++ x)) (Ok (startup other.0)) (Ok asks.0) other.1 asks.2 (sym e ∙ one_of r rs (p ++ x))).1 asks.3)
behind_opening free b1 b2 n1 n2 (r ∷ rs) (s ∷ ss) p q x y asks others start other e =
    let both : r ++ (all_of rs ++ (p ++ x)) ≡ s ++ (all_of ss ++ (q ++ y)) = sym (one_of r rs (p ++ x)) ∙ e ∙ one_of s ss (q ++ y) in
    let same = free r s (all_of rs ++ (p ++ x)) (all_of ss ++ (q ++ y)) (Ok asks.0) (Ok others.0) asks.2 others.2 both in
    behind_opening free asks.1 others.1 n1 n2 rs ss p q x y asks.4 others.4 start other (same_behind r s (all_of rs ++ (p ++ x)) (all_of ss ++ (q ++ y)) same.0 both)

-- ---- queries

query_same : (text other : List ℕ) → Query text ≡ Query other → text ≡ other
query_same text other is = cc

no_fault_of : NoFault → (text : List ℕ) (script : List Stmt) (fault : SqlFault) → IsQueryText text script → fault ≢ texts.NoMemory → IsFaultOf text fault → ⊥
no_fault_of none text script (texts.Syntax place) query other is = none text script _ place query is
no_fault_of none text script (texts.Table place) query other is = none text script _ place query is
no_fault_of none text script (texts.Range place) query other is = none text script _ place query is
no_fault_of none text script (texts.TooLong place) query other is = none text script _ place query is
no_fault_of none text script (texts.TooMany place) query other is = none text script _ place query is
no_fault_of none text script texts.NoMemory query other is = other refl

is_run : NoFault → (pid : ℕ) (text : List ℕ) (turn : Turn) (noted : List BookEntry) → TurnNotes pid text turn noted → ¬ (IsCancelledTurn turn) → IsProper text → IsRun turn
is_run none pid text (Ran reply) noted notes uncancelled proper = tt
is_run none pid text (Faulted fault) noted notes uncancelled proper = absurd (no_fault_of none text proper.script fault proper.query notes.0 notes.1)
is_run none pid text NotUtf8 noted notes uncancelled proper = absurd (notes.0 proper.utf8)
is_run none pid text Cancelled noted notes uncancelled proper = absurd (uncancelled tt)
is_run none pid text LogIsFull noted notes uncancelled proper = tt
is_run none pid text Memory noted notes uncancelled proper = tt

cancelled_is : (turn : Turn) → IsCancelledTurn turn → turn ≡ Cancelled
cancelled_is Cancelled is = refl
cancelled_is (Ran reply) is = absurd is
cancelled_is (Faulted fault) is = absurd is
cancelled_is NotUtf8 is = absurd is
cancelled_is LogIsFull is = absurd is
cancelled_is Memory is = absurd is

-- a cancelled turn was given its cancel
heeded_cancel : (from : ℕ) (turns : List Turn) (to : ℕ) (given : List (ℕ × Signal)) → TurnsHeed from turns to given → (before : List Turn) (turn : Turn) (behind : List Turn)
    → turns ≡ before ++ turn ∷ behind → IsCancelledTurn turn → (ask : ℕ) × Contains given (ask, Cancel)
heeded_cancel from [] to given heeds [] turn behind is cancelled = cc
heeded_cancel from [] to given heeds (b ∷ before) turn behind is cancelled = cc
heeded_cancel from (t ∷ turns) to given (began, over, one, rest) [] turn behind is cancelled =
    let same : t ≡ turn = cc in
    let own = one.cancelled (same ∙ cancelled_is turn cancelled) in
    (own.0, own.1)
heeded_cancel from (t ∷ turns) to given (began, over, one, rest) (b ∷ before) turn behind is cancelled =
    heeded_cancel over turns to given rest before turn behind (let same : turns ≡ before ++ turn ∷ behind = cc in same) cancelled

-- none of the turns was cancelled
abbrev NoneCancelled : List Turn → Type 0
NoneCancelled turns = (before : List Turn) (turn : Turn) (behind : List Turn) → turns ≡ before ++ turn ∷ behind → ¬ (IsCancelledTurn turn)

-- no query stands first
abbrev StopsBefore : List ℕ → Type 0
StopsBefore rest = (text more : List ℕ) → IsFront (query_bytes text) (Query text) → rest ≢ query_bytes text ++ more

one_query : (text : List ℕ) (texts : List (List ℕ)) (rest : List ℕ) → flat_map query_bytes (text ∷ texts) ++ rest ≡ query_bytes text ++ (flat_map query_bytes texts ++ rest)
one_query text texts rest = ap (λ (l : List ℕ). l ++ rest) (flat_map-cons query_bytes text texts) ∙ append_assoc (query_bytes text) (flat_map query_bytes texts) rest

runs : StandApart IsFront → NoFault → (pid : ℕ) (texts taken : List (List ℕ)) (turns : List Turn) (asked : List BookEntry) (beyond rest : List ℕ) → AllProper texts → AllNotes pid taken turns asked → NoneCancelled turns
    → flat_map query_bytes texts ++ beyond ≡ flat_map query_bytes taken ++ rest → StopsBefore rest → AllRun texts turns
runs apart none pid [] taken turns asked beyond rest proper notes uncancelled e stops = tt
runs apart none pid (text ∷ texts) [] [] asked beyond rest proper notes uncancelled e stops = stops text (flat_map query_bytes texts ++ beyond) proper.0.front (sym e ∙ one_query text texts beyond)
runs apart none pid (text ∷ texts) [] (turn ∷ turns) asked beyond rest proper notes uncancelled e stops = absurd notes
runs apart none pid (text ∷ texts) (other ∷ taken) [] asked beyond rest proper notes uncancelled e stops = absurd notes
runs apart none pid (text ∷ texts) (other ∷ taken) (turn ∷ turns) asked beyond rest proper (first, others, is, front, means, behind) uncancelled e stops =
    let both : query_bytes text ++ (flat_map query_bytes texts ++ beyond) ≡ query_bytes other ++ (flat_map query_bytes taken ++ rest) = sym (one_query text texts beyond) ∙ e ∙ one_query other taken rest in
    let same = apart (query_bytes text) (query_bytes other) (flat_map query_bytes texts ++ beyond) (flat_map query_bytes taken ++ rest) (Query text) (Query other) proper.0.front front both in (
      is_run none pid other turn first means (uncancelled [] turn turns refl) (subst IsProper (query_same text other same.1) proper.0),
      runs apart none pid texts taken turns others beyond rest proper.1 behind (λ before turn2 behind2 split. uncancelled (turn ∷ before) turn2 behind2 (ap (λ (ts : List Turn). turn ∷ ts) split))
          (same_behind (query_bytes text) (query_bytes other) (flat_map query_bytes texts ++ beyond) (flat_map query_bytes taken ++ rest) same.0 both) stops,
    )

-- ---- what ends a session that nobody disturbs

never_given : (told : Told) (signal : Signal) → told.given ≡ [] → (ask : ℕ) × Contains told.given (ask, signal) → ⊥
never_given told signal none (ask, has) =
    let empty = rw none at has in
    omega (arith, empty.1)

short_number : (seen : ℕ) (text beyond more : List ℕ) → seen < 4 → length text ≤ 65536 → int32 seen ++ beyond ≡ int32 (4 + length (string text)) ++ more → ⊥
short_number seen text beyond more few short e =
    let size : length (string text) ≡ length text + 1 = length-append text (0 ∷ []) in
    let mine = rw e at (number_again seen beyond (omega (arith, few))) in
    let same : seen ≡ 4 + length (string text) = sym mine ∙ number_again (4 + length (string text)) more (omega (arith, size, short)) in
    omega (arith, same, few)

-- the front of an opened message is no query
stops_at : StandApart IsFront → (last beyond : List ℕ) (m : FrontMessage) → IsFront last m → ((text : List ℕ) → m ≢ Query text) → StopsBefore (last ++ beyond)
stops_at apart last beyond m is other text more front e = other text (apart last (query_bytes text) beyond more m (Query text) is front e).1

kinds_apart : (number beyond other more : List ℕ) → (88 ∷ number) ++ beyond ≡ (81 ∷ other) ++ more → ⊥
kinds_apart number beyond other more e =
    let same : 88 ≡ 81 = ap (λ (l : List ℕ). get_or l 0 0) e in
    omega (arith, same)

bad_stops : (last beyond : List ℕ) (seen : ℕ) → IsBadHeader last seen → StopsBefore (last ++ beyond)
bad_stops last beyond seen (inl bad) text more front e =
    let whole : int32 seen ++ beyond ≡ int32 (4 + length (string text)) ++ (string text ++ more) = header_behind 81 (int32 seen) beyond (int32 (4 + length (string text))) (string text) more (ap (λ (l : List ℕ). l ++ beyond) (sym bad.0) ∙ e) in
    short_number seen text beyond (string text ++ more) bad.1 front.2 whole
  where
    header_behind : (kind : ℕ) (number beyond other body more : List ℕ) → (kind ∷ number) ++ beyond ≡ (kind ∷ other ++ body) ++ more → number ++ beyond ≡ other ++ (body ++ more)
    header_behind kind number beyond other body more e = append_cancel_left (kind ∷ []) (number ++ beyond) (other ++ (body ++ more)) (e ∙ ap (λ (l : List ℕ). kind ∷ l) (append_assoc other body more))
bad_stops last beyond seen (inr bad) text more front e =
    kinds_apart (int32 seen) beyond (int32 (4 + length (string text)) ++ string text) more (ap (λ (l : List ℕ). l ++ beyond) (sym bad.0) ∙ e)

stops_or : StandApart IsFront → (user : User) (cause : Cause) (last beyond : List ℕ) (noted : List BookEntry) (decision : Cac) (traffic : Traffic) (failed : Type 0) (told : Told) (limit : ℕ) (gives : ℕ → Type 0) → ¬ failed → told.given ≡ []
    → CausedBy cause decision (Some traffic) failed (Some told) limit gives → EndsAt user cause last noted → MayPassOver cause beyond → StopsBefore (last ++ beyond) ⊎ EndsForStore cause
stops_or apart user Terminated last beyond noted decision traffic failed told limit gives sound none caused ends over = inl (stops_at apart last beyond Terminate ends.0 (λ text e. cc))
stops_or apart user Cancelling last beyond noted decision traffic failed told limit gives sound none caused ends over = absurd ends
stops_or apart user LinkEnded last beyond noted decision traffic failed told limit gives sound none caused ends over =
    inl (λ text more front e. ends.0.no_message (query_bytes text) more (Query text) (sym (append-nil last) ∙ ap (λ (l : List ℕ). last ++ l) (sym over) ∙ e) front)
stops_or apart user LinkFailed last beyond noted decision traffic failed told limit gives sound none caused ends over = absurd (sound caused)
stops_or apart user TimedOut last beyond noted decision traffic failed told limit gives sound none caused ends over = absurd ends
stops_or apart user (PacketRefused fault) last beyond noted decision traffic failed told limit gives sound none caused ends over = absurd ends
stops_or apart user (MessageRefused (BadLength seen)) last beyond noted decision traffic failed told limit gives sound none caused ends over = inl (bad_stops last beyond seen ends.0)
stops_or apart user (MessageRefused BadForm) last beyond noted decision traffic failed told limit gives sound none caused ends over = inl (stops_at apart last beyond BadQuery ends.0 (λ text e. cc))
stops_or apart user (MessageRefused (LongQuery seen)) last beyond noted decision traffic failed told limit gives sound none caused ends over = inl (stops_at apart last beyond (IsLongQuery seen) ends.0 (λ text e. cc))
stops_or apart user (MessageRefused (Extended kind)) last beyond noted decision traffic failed told limit gives sound none caused ends over = inl (stops_at apart last beyond (IsExtended kind) ends.0 (λ text e. cc))
stops_or apart user (MessageRefused (UnknownType kind)) last beyond noted decision traffic failed told limit gives sound none caused ends over = inl (stops_at apart last beyond (Other kind) ends.0 (λ text e. cc))
stops_or apart user DecisionRefused last beyond noted decision traffic failed told limit gives sound none caused ends over = absurd ends
stops_or apart user (GateRefused refusal) last beyond noted decision traffic failed told limit gives sound none caused ends over = absurd ends
stops_or apart user ShortOfMemory last beyond noted decision traffic failed told limit gives sound none caused ends over = inr tt
stops_or apart user Panicked last beyond noted decision traffic failed told limit gives sound none caused ends over = inr tt
stops_or apart user ToldToTerminate last beyond noted decision traffic failed told limit gives sound none caused ends over = absurd (never_given told _ none caused)
stops_or apart user (ToldToQuit reason) last beyond noted decision traffic failed told limit gives sound none caused ends over = absurd (never_given told _ none caused)
stops_or apart user Killed last beyond noted decision traffic failed told limit gives sound none caused ends over = absurd (never_given told _ none caused)
stops_or apart user Overtaken last beyond noted decision traffic failed told limit gives sound none caused ends over = inr tt

-- ---- a session that wasn't greeted

started : (last : List ℕ) → IsStart last → IsNoPacketYet last → ⊥
started last start none = none (length last) (Ok (startup start.0)) (record { within = omega arith; decides = subst (λ (l : List ℕ). Decides l (Ok (startup start.0))) (sym (take_all (length last) last (omega arith))) start.1 })

starts_once : PrefixFree → (last : List ℕ) (verdict : Result Content StartFault) → (start : IsStart last) → Decides last verdict → Ok (startup start.0) ≡ verdict
starts_once free last verdict start decides = (free last last [] [] (Ok (startup start.0)) verdict start.1 decides refl).1

refused_not : (phase : Phase) (content : Content) (user : List ℕ) (fault : StartFault) → verdict_of (startup user) ≡ verdict_of content → step_of phase content ≡ steps.Refuse fault → ⊥
refused_not phase (startup name) user fault is says = cc
refused_not phase ssl_request user fault is says = cc
refused_not phase gssenc_request user fault is says = cc
refused_not phase (cancel_request pid key) user fault is says = cc

away : PrefixFree → (user : User) (cause : Cause) (phase : Phase) (last : List ℕ) (decision : Cac) (traffic : Traffic) (failed : Type 0) (told : Told) (generation limit : ℕ) (gives : ℕ → Type 0) → ¬ failed → told.given ≡ [] → answer_met told ≡ Some (Ok generation)
    → CausedBy cause decision (Some traffic) failed (Some told) limit gives → IsAdmitted Entering decision → TurnsAway user Entering phase cause last → IsStart last → EndsForStore cause
away free user Terminated phase last decision traffic failed told generation limit gives sound none met caused admitted stops start = absurd stops
away free user Cancelling phase last decision traffic failed told generation limit gives sound none met caused admitted stops start =
    let e : Ok (startup start.0) ≡ Ok (cancel_request stops.0 stops.1) = starts_once free last (Ok (cancel_request stops.0 stops.1)) start stops.2 in
    absurd (other_content start.0 stops.0 stops.1 e)
  where
    other_content : (user : List ℕ) (pid key : ℕ) → verdict_of (startup user) ≡ verdict_of (cancel_request pid key) → ⊥
    other_content user pid key e = cc
away free user LinkEnded phase last decision traffic failed told generation limit gives sound none met caused admitted stops start = absurd (started last start stops)
away free user LinkFailed phase last decision traffic failed told generation limit gives sound none met caused admitted stops start = absurd (sound caused)
away free user TimedOut phase last decision traffic failed told generation limit gives sound none met caused admitted stops start = absurd (started last start stops)
away free user (PacketRefused fault) phase last decision traffic failed told generation limit gives sound none met caused admitted (inl decides) start = absurd (other_verdict start.0 fault (starts_once free last (Err fault) start decides))
  where
    other_verdict : (user : List ℕ) (fault : StartFault) → verdict_of (startup user) ≡ Err fault → ⊥
    other_verdict user fault e = cc
away free user (PacketRefused fault) phase last decision traffic failed told generation limit gives sound none met caused admitted (inr (content, decides, says)) start =
    absurd (refused_not phase content start.0 fault (starts_once free last (Ok content) start decides) says)
away free user (MessageRefused fault) phase last decision traffic failed told generation limit gives sound none met caused admitted stops start = absurd stops
away free user DecisionRefused phase last decision traffic failed told generation limit gives sound none met caused admitted stops start = absurd (caused admitted)
away free user (GateRefused refusal) phase last decision traffic failed told generation limit gives sound none met caused admitted stops start = absurd (let e : Some (Ok generation) ≡ Some (Err refusal) = sym met ∙ caused.1 in cc)
away free user ShortOfMemory phase last decision traffic failed told generation limit gives sound none met caused admitted stops start = tt
away free user Panicked phase last decision traffic failed told generation limit gives sound none met caused admitted stops start = absurd stops
away free user ToldToTerminate phase last decision traffic failed told generation limit gives sound none met caused admitted stops start = absurd (never_given told _ none caused)
away free user (ToldToQuit reason) phase last decision traffic failed told generation limit gives sound none met caused admitted stops start = absurd (never_given told _ none caused)
away free user Killed phase last decision traffic failed told generation limit gives sound none met caused admitted stops start = absurd (never_given told _ none caused)
away free user Overtaken phase last decision traffic failed told generation limit gives sound none met caused admitted stops start = tt

away_at : PrefixFree → (user : User) (stage : Stage) (exit cause : Cause) (phase : Phase) (last : List ℕ) (noted : List BookEntry) (decision : Cac) (traffic : Traffic) (failed : Type 0) (told : Told) (generation limit : ℕ) (gives : ℕ → Type 0) → ¬ failed → told.given ≡ []
    → answer_met told ≡ Some (Ok generation) → CausedBy cause decision (Some traffic) failed (Some told) limit gives → StaysOut stage cause (Some told) → IsAdmitted stage decision → TurnsAway user stage phase cause last → IsBehindStart stage last → NotesOutside user stage exit noted
    → EndsForStore cause
away_at free user Outside exit cause phase last noted decision traffic failed told generation limit gives sound none met caused (inl untried) admitted stops start notes = absurd (let e : Some (Ok generation) ≡ None = sym met ∙ ap (λ (tried : Option Attempt). option_map (λ (t : Attempt). t.answer) tried) untried in cc)
away_at free user Outside exit cause phase last noted decision traffic failed told generation limit gives sound none met caused (inr (refusal, is, other)) admitted stops start notes = absurd (let e : Some (Ok generation) ≡ Some (Err refusal) = sym met ∙ other in cc)
away_at free user Entering exit cause phase last noted decision traffic failed told generation limit gives sound none met caused out admitted stops start notes =
    away free user cause phase last decision traffic failed told generation limit gives sound none met caused admitted stops start
away_at free user Greeted exit cause phase last noted decision traffic failed told generation limit gives sound none met caused out admitted stops start notes = absurd notes

-- ---- the whole

answered : StandApart IsFront → PrefixFree → NoFault → (decision : Cac) (user : User) (key : ℕ) (turns : List Turn) (ending : Ending) (generation : ℕ) (came_in whole : List ℕ) (noted : List BookEntry) (traffic : Traffic) (failed : Type 0) (told : Told) (limit : ℕ) (gives : ℕ → Type 0)
    (texts : List (List ℕ)) → ¬ failed → told.given ≡ [] → IsServed decision user key turns ending came_in whole noted → IsCaused ending turns generation decision (Some traffic) failed (Some told) limit gives → Begins texts came_in → AllRun texts turns ⊎ EndsForStore ending.cause
answered apart free fault decision user key turns ending generation came_in whole noted traffic failed told limit gives texts sound none served caused begins =
    let queries = flat_map query_bytes texts in
    let taken = flat_map query_bytes served.texts in
    let opens = begins.opens in
    let mine : came_in ≡ all_of opens.requests ++ (opens.packet ++ (queries ++ begins.beyond)) =
    begins.input ∙ ap (λ (l : List ℕ). (l ++ queries) ++ begins.beyond) opens.whole ∙ append_assoc (all_of opens.requests ++ opens.packet) queries begins.beyond ∙ append_assoc (all_of opens.requests) opens.packet (queries ++ begins.beyond) in
    let theirs : came_in ≡ all_of served.requests ++ (served.packet ++ (taken ++ (served.last ++ served.beyond))) =
    served.input ∙ append_assoc (all_of served.requests ++ served.packet ++ taken) served.last served.beyond ∙ append_assoc (all_of served.requests ++ served.packet) taken (served.last ++ served.beyond)
    ∙ append_assoc (all_of served.requests) served.packet (taken ++ (served.last ++ served.beyond)) in
    let same : queries ++ begins.beyond ≡ taken ++ (served.last ++ served.beyond) =
    behind_opening free first_phase first_phase opens.phase served.phase opens.requests served.requests opens.packet served.packet (queries ++ begins.beyond) (taken ++ (served.last ++ served.beyond)) opens.asks served.asks opens.start served.start (sym mine ∙ theirs) in
    elim (stops_or apart user ending.cause served.last served.beyond served.ended decision traffic failed told limit gives sound none caused.cause served.ends served.passes_over) [
      | inr store ↦ inr store
      | inl stops ↦ inl (runs apart fault user.pid texts served.texts turns served.asked begins.beyond (served.last ++ served.beyond) begins.proper served.each (λ before turn behind e is. never_given told _ none (heeded_cancel 0 turns told.asked told.given caused.heeded before turn behind e is)) same stops)
    ]

pub each_query : {S C : Type 0} (notes : List BookEntry → S → S → Type 0) (gives : C → ℕ → Type 0) → StandApart IsFront → PrefixFree → NoFault → EachQueryIsAnswered notes gives
each_query notes gives apart free fault decision user key turns ending generation faults_before faults_now traffic store_before store_now told limit clock texts session caused undisturbed begins =
    elim session.text [
      | inl turned ↦ inr (away_at free user ending.stage ending.exit ending.cause turned.0.phase turned.0.last session.noted decision traffic (Rose faults_before faults_now) told generation limit (gives clock) undisturbed.sound undisturbed.given undisturbed.met caused.cause caused.out turned.0.admitted turned.0.stops turned.0.start turned.0.notes)
      | inr served ↦ answered apart free fault decision user key turns ending generation session.came_in session.whole session.noted traffic (Rose faults_before faults_now) told limit (gives clock) texts undisturbed.sound undisturbed.given served caused (subst (Begins texts) session.passed.read begins)
    ]
