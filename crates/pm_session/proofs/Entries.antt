-- The packets before a session, one after the other.
use Rattle.std.{proofs.{Common.{if◌then◌else◌, ◌≡◌, ◌≢◌, ◌⊎◌, ◌≤◌, ◌-◌, inl, inr, ℕ, Bool, true, false, List, [], ◌∷◌, ◌++◌, map, take, drop, take-append-drop, Option, None, Some, IfSome, Result, Ok, Err, refl, sym, ◌∙◌, ap, subst, arith, append_assoc}, lemmas.{Bool.cases_lt, Grind.flat_map-append, List.{append-nil, map-append, take_all, Concat.flat_map-cons}}}, specs.List.flat_map}
use Rattle.pm_startup.specs.{declared.{packet.StartFault.StartFault, phase.Phase.Phase}, Grammar.{Content, packet, startup, ssl_request, gssenc_request, cancel_request, FrontDecides, Decides, IsUndecided}, Phases.step_of, pm_wire.Pieces.int32}
use Rattle.pm_startup.specs.declared.packet.StartFault.TheVariants as packets
use Rattle.pm_startup.specs.declared.phase.Step.TheVariants as steps
use Rattle.pm_session_exchange.{specs.{declared.ending.Cause.{Cause, TheVariants.{Terminated, Cancelling, LinkEnded, LinkFailed, TimedOut, PacketRefused, MessageRefused, DecisionRefused, GateRefused, ShortOfMemory, Panicked, ToldToTerminate, ToldToQuit, Killed, Overtaken}}, pm_outside.{Traffic.{Traffic, came_in_of}, Added.Added}, Exchange.{LinkView, Passes, CutsOff, Holds, HoldsLooking, IsWaiting, Looks, Sends, Receives, ReceivesNothing}, Moments.{IsBreak, Moment, ShowsCause, outside, Attends}}, proofs.{MomentLaws.{attends_of, attends_none, shows_since}, LinkLaws.{passes_none, passes_both, sound_left}}}
use Rattle.pm_child_life.{specs.{Life.Told, Attention.{Attention, Hears, KeepsCancels}}, proofs.AttentionLaws.{hears_none, hears_both, hears_fewer, asked_then, cancels_none}}
use Rattle.pm_session.{specs.{Session.{AskInTurn, IsApart, StopsAt, MayPassOver, first_phase}, Entry.{Asked, GoesOn, AsksToCancel, Enters}}, proofs.{Links.{passes_no_more, holds_up_to}}}

-- ---- what a step means

no_start : (used : Bool) (fault : StartFault) (next : Phase) → (if used then steps.Refuse fault else steps.SayNo next) ≡ steps.Start → ⊥
no_start true fault next is = cc
no_start false fault next is = cc

no_cancel : (used : Bool) (fault : StartFault) (next : Phase) → (if used then steps.Refuse fault else steps.SayNo next) ≡ steps.Cancel → ⊥
no_cancel true fault next is = cc
no_cancel false fault next is = cc

pub at_start : (phase : Phase) (content : Content) → step_of phase content ≡ steps.Start → (user : List ℕ) × (content ≡ startup user)
at_start phase (startup user) is = (user, refl)
at_start phase ssl_request is = absurd (no_start phase.ssl_used (packets.Version 1234 5679) (record phase { ssl_used = true }) is)
at_start phase gssenc_request is = absurd (no_start phase.gss_used (packets.Version 1234 5680) (record phase { gss_used = true }) is)
at_start phase (cancel_request pid key) is = absurd cc

pub is_cancel : (phase : Phase) (content : Content) → step_of phase content ≡ steps.Cancel → (pid : ℕ) × (key : ℕ) × (content ≡ cancel_request pid key)
is_cancel phase (startup user) is = absurd cc
is_cancel phase ssl_request is = absurd (no_cancel phase.ssl_used (packets.Version 1234 5679) (record phase { ssl_used = true }) is)
is_cancel phase gssenc_request is = absurd (no_cancel phase.gss_used (packets.Version 1234 5680) (record phase { gss_used = true }) is)
is_cancel phase (cancel_request pid key) is = (pid, key, refl)

-- ---- no packet

pub no_packet_yet : IsUndecided []
unfolding int32
no_packet_yet n verdict front =
    let none : take n [] ≡ [] = take_all n [] (omega arith) in
    elim front.decides [
      | inl p ↦ let e : [] ≡ packet p.code p.body = sym none ∙ p.spelled in absurd cc
      | inr p ↦ let e : [] ≡ int32 p.seen = sym none ∙ p.spelled in absurd cc
    ]

-- ---- requests

AskInTurn-push : (before between now : Phase) (packets : List (List ℕ)) (packet : List ℕ) (content : Content) → AskInTurn before packets between → Decides packet (Ok content) → step_of between content ≡ steps.SayNo now → AskInTurn before (packets ++ packet ∷ []) now
AskInTurn-push before between now [] packet content asks decides says =
    subst (λ (p : Phase). (content : Content) × (next : Phase) × Decides packet (Ok content) × (step_of p content ≡ steps.SayNo next) × (next ≡ now)) (sym asks) (content, now, decides, says, refl)
AskInTurn-push before between now (p ∷ packets) packet content asks decides says =
    (asks.0, asks.1, asks.2, asks.3, AskInTurn-push asks.1 between now packets packet content asks.4 decides says)

abbrev all_of : List (List ℕ) → List ℕ
all_of packets = flat_map (λ packet. packet) packets

abbrev answers_to : List (List ℕ) → List ℕ
answers_to packets = map (λ packet. 78) packets

all_of-push : (packets : List (List ℕ)) (packet : List ℕ) → all_of (packets ++ packet ∷ []) ≡ all_of packets ++ packet
all_of-push packets packet = flat_map-append (λ p. p) packets (packet ∷ []) ∙ ap (λ (l : List ℕ). all_of packets ++ l) (flat_map-cons (λ p. p) packet [] ∙ append-nil packet)

pub asked_none : (link : LinkView) (unread : List ℕ) (at : Attention) → Asked first_phase (outside link unread at) (outside link unread at)
asked_none link unread at = record { requests = []; came = []; asks = refl; input = append-nil unread; passes = passes_none link; hears = hears_none at; holds = λ sound. sound }

-- bytes came in
pub asked_received : (phase : Phase) (link0 link1 link2 : LinkView) (unread0 unread1 unread2 : List ℕ) (at0 at1 at2 : Attention) → Asked phase (outside link0 unread0 at0) (outside link1 unread1 at1) → Receives unread1 unread2 link1 link2 → Hears 1 at1 at2 → Holds false (Ok tt) link1 link2
    → Asked phase (outside link0 unread0 at0) (outside link2 unread2 at2)
asked_received phase link0 link1 link2 unread0 unread1 unread2 at0 at1 at2 asked receives hears holds = record {
  requests = asked.requests;
  came = asked.came ++ receives.came;
  asks = asked.asks;
  input = sym (append_assoc unread0 asked.came receives.came) ∙ ap (λ (l : List ℕ). l ++ receives.came) asked.input ∙ append_assoc (all_of asked.requests) unread1 receives.came ∙ ap (λ (l : List ℕ). all_of asked.requests ++ l) (sym receives.unread);
  passes = subst (λ (w : List ℕ). Passes (asked.came ++ receives.came) w link0 link2) (append-nil (answers_to asked.requests)) (passes_both asked.came (answers_to asked.requests) receives.came [] link0 link1 link2 asked.passes receives.passes);
  hears = hears_fewer 0 1 at0 at2 (hears_both 0 1 at0 at1 at2 asked.hears hears);
  holds = λ sound. holds (asked.holds sound);
}

-- the front of what is unread is one more request
requests_more : (requests : List (List ℕ)) (before came unread : List ℕ) (used : ℕ) → before ++ came ≡ all_of requests ++ unread → before ++ came ≡ all_of (requests ++ take used unread ∷ []) ++ drop used unread
requests_more requests before came unread used is =
    is ∙ ap (λ (l : List ℕ). all_of requests ++ l) (sym (take-append-drop used unread)) ∙ sym (append_assoc (all_of requests) (take used unread) (drop used unread))
    ∙ ap (λ (l : List ℕ). l ++ drop used unread) (sym (all_of-push requests (take used unread)))

answers_more : (requests : List (List ℕ)) (packet : List ℕ) → answers_to (requests ++ packet ∷ []) ≡ answers_to requests ++ 78 ∷ []
answers_more requests packet = map-append (λ p. 78) requests (packet ∷ [])

-- one more request was answered
pub asked_more : (phase next : Phase) (content : Content) (used : ℕ) (link0 link1 link2 : LinkView) (unread0 unread1 unread2 : List ℕ) (at0 at1 at2 : Attention) → Asked phase (outside link0 unread0 at0) (outside link1 unread1 at1)
    → FrontDecides unread1 used (Ok content) → step_of phase content ≡ steps.SayNo next → unread2 ≡ drop used unread1 → Passes [] (78 ∷ []) link1 link2 → Hears 0 at1 at2 → Holds false (Ok tt) link1 link2 → Asked next (outside link0 unread0 at0) (outside link2 unread2 at2)
asked_more phase next content used link0 link1 link2 unread0 unread1 unread2 at0 at1 at2 asked front says rest passes hears holds = record {
  requests = asked.requests ++ take used unread1 ∷ [];
  came = asked.came;
  asks = AskInTurn-push first_phase phase next asked.requests (take used unread1) content asked.asks front.decides says;
  input = requests_more asked.requests unread0 asked.came unread1 used asked.input ∙ ap (λ (l : List ℕ). all_of (asked.requests ++ take used unread1 ∷ []) ++ l) (sym rest);
  passes = subst (λ (w : List ℕ). Passes asked.came w link0 link2) (sym (answers_more asked.requests (take used unread1)))
      (subst (λ (i : List ℕ). Passes i (answers_to asked.requests ++ 78 ∷ []) link0 link2) (append-nil asked.came) (passes_both asked.came (answers_to asked.requests) [] (78 ∷ []) link0 link1 link2 asked.passes passes));
  hears = hears_both 0 0 at0 at1 at2 asked.hears hears;
  holds = λ sound. holds (asked.holds sound);
}

-- ---- the end of it

asked_front : (requests : List (List ℕ)) (before came unread : List ℕ) (used : ℕ) → before ++ came ≡ all_of requests ++ unread → before ++ came ≡ all_of requests ++ take used unread ++ drop used unread
asked_front requests before came unread used is =
    is ∙ ap (λ (l : List ℕ). all_of requests ++ l) (sym (take-append-drop used unread)) ∙ sym (append_assoc (all_of requests) (take used unread) (drop used unread))

-- ---- heeding, up to a cancel

attends_then : (a b c : Attention) → Attends a b → Attends b c → Attends a c
attends_then a b c one two = record {
  asked = asked_then 0 0 a.told b.told c.told one.asked two.asked;
  child = two.child ∙ one.child;
  given = λ signal given. two.given signal (one.given signal given);
  stands = λ stands. two.stands (one.stands stands);
}

breaks_asks : (cause : Cause) (last : List ℕ) (before now : Option Told) → IsBreak cause → KeepsCancels before now → AsksToCancel (Err cause) last before now
breaks_asks Cancelling last before now breaks keeps = absurd breaks
breaks_asks Terminated last before now breaks keeps = keeps
breaks_asks LinkEnded last before now breaks keeps = keeps
breaks_asks LinkFailed last before now breaks keeps = keeps
breaks_asks TimedOut last before now breaks keeps = keeps
breaks_asks (PacketRefused fault) last before now breaks keeps = keeps
breaks_asks (MessageRefused fault) last before now breaks keeps = keeps
breaks_asks DecisionRefused last before now breaks keeps = keeps
breaks_asks (GateRefused refusal) last before now breaks keeps = keeps
breaks_asks ShortOfMemory last before now breaks keeps = keeps
breaks_asks Panicked last before now breaks keeps = keeps
breaks_asks ToldToTerminate last before now breaks keeps = keeps
breaks_asks (ToldToQuit reason) last before now breaks keeps = keeps
breaks_asks Killed last before now breaks keeps = keeps
breaks_asks Overtaken last before now breaks keeps = keeps

-- ---- by what it goes no further

-- this ends it, for any cause but the limit of time
abbrev pub Stops : Cause → Phase → (last beyond missing : List ℕ) → (before now : Moment (Unit {0})) → Type 0
Stops cause phase last beyond missing before now =
    StopsAt phase cause last × MayPassOver cause beyond × ((missing ≡ []) ⊎ CutsOff cause) × ShowsCause cause before.link now.link now.child

breaks_on : (gives : ℕ → Type 0) (limit : ℕ) (cause : Cause) (phase : Phase) (last beyond missing : List ℕ) (before now : Moment (Unit {0})) → IsBreak cause → Stops cause phase last beyond missing before now
    → GoesOn gives limit (Err cause) phase last beyond missing before now
breaks_on gives limit TimedOut phase last beyond missing before now breaks stops = absurd breaks
breaks_on gives limit Terminated phase last beyond missing before now breaks stops = stops
breaks_on gives limit Cancelling phase last beyond missing before now breaks stops = stops
breaks_on gives limit LinkEnded phase last beyond missing before now breaks stops = stops
breaks_on gives limit LinkFailed phase last beyond missing before now breaks stops = stops
breaks_on gives limit (PacketRefused fault) phase last beyond missing before now breaks stops = stops
breaks_on gives limit (MessageRefused fault) phase last beyond missing before now breaks stops = stops
breaks_on gives limit DecisionRefused phase last beyond missing before now breaks stops = stops
breaks_on gives limit (GateRefused refusal) phase last beyond missing before now breaks stops = stops
breaks_on gives limit ShortOfMemory phase last beyond missing before now breaks stops = stops
breaks_on gives limit Panicked phase last beyond missing before now breaks stops = stops
breaks_on gives limit ToldToTerminate phase last beyond missing before now breaks stops = stops
breaks_on gives limit (ToldToQuit reason) phase last beyond missing before now breaks stops = stops
breaks_on gives limit Killed phase last beyond missing before now breaks stops = stops
breaks_on gives limit Overtaken phase last beyond missing before now breaks stops = stops

-- it was the limit of time, or not
pub stops_by_time : (gives : ℕ → Type 0) (limit : ℕ) (cause : Cause) (phase : Phase) (last beyond missing : List ℕ) (before now : Moment (Unit {0})) → GoesOn gives limit (Err cause) phase last beyond missing before now
    → ((cause ≡ TimedOut) × GoesOn gives limit (Err TimedOut) phase last beyond missing before now) ⊎ Stops cause phase last beyond missing before now
stops_by_time gives limit TimedOut phase last beyond missing before now goes = inl (refl, goes)
stops_by_time gives limit Terminated phase last beyond missing before now goes = inr goes
stops_by_time gives limit Cancelling phase last beyond missing before now goes = inr goes
stops_by_time gives limit LinkEnded phase last beyond missing before now goes = inr goes
stops_by_time gives limit LinkFailed phase last beyond missing before now goes = inr goes
stops_by_time gives limit (PacketRefused fault) phase last beyond missing before now goes = inr goes
stops_by_time gives limit (MessageRefused fault) phase last beyond missing before now goes = inr goes
stops_by_time gives limit DecisionRefused phase last beyond missing before now goes = inr goes
stops_by_time gives limit (GateRefused refusal) phase last beyond missing before now goes = inr goes
stops_by_time gives limit ShortOfMemory phase last beyond missing before now goes = inr goes
stops_by_time gives limit Panicked phase last beyond missing before now goes = inr goes
stops_by_time gives limit ToldToTerminate phase last beyond missing before now goes = inr goes
stops_by_time gives limit (ToldToQuit reason) phase last beyond missing before now goes = inr goes
stops_by_time gives limit Killed phase last beyond missing before now goes = inr goes
stops_by_time gives limit Overtaken phase last beyond missing before now goes = inr goes

-- either way the packet after the requests stops it
pub stopped : (gives : ℕ → Type 0) (limit : ℕ) (cause : Cause) (phase : Phase) (last beyond missing : List ℕ) (before now : Moment (Unit {0})) → GoesOn gives limit (Err cause) phase last beyond missing before now
    → StopsAt phase cause last × MayPassOver cause beyond × ((missing ≡ []) ⊎ CutsOff cause)
stopped gives limit cause phase last beyond missing before now goes = elim (stops_by_time gives limit cause phase last beyond missing before now goes) [
  | inl (is, late) ↦ (subst (λ (c : Cause). StopsAt phase c last) (sym is) late.0, subst (λ (c : Cause). MayPassOver c beyond) (sym is) late.1, inl late.2)
  | inr stops ↦ (stops.0, stops.1, stops.2)
]

-- the packet at the front decides
pub enters_by : (gives : ℕ → Type 0) (limit : ℕ) (result : Result Bool Cause) (phase : Phase) (used : ℕ) (link0 link1 : LinkView) (unread0 unread1 unread2 : List ℕ) (at0 at1 at2 : Attention) → Asked phase (outside link0 unread0 at0) (outside link1 unread1 at1)
    → GoesOn gives limit result phase (take used unread1) (drop used unread1) [] (outside link0 unread0 at0) (outside link1 unread2 at2) → Attends at1 at2 → AsksToCancel result (take used unread1) at1.told at2.told
    → Enters gives limit result (outside link0 unread0 at0) (outside link1 unread2 at2)
enters_by gives limit result phase used link0 link1 unread0 unread1 unread2 at0 at1 at2 asked goes attends cancels = record {
  requests = asked.requests;
  phase = phase;
  last = take used unread1;
  beyond = drop used unread1;
  came = asked.came;
  went = answers_to asked.requests;
  missing = [];
  asks = asked.asks;
  goes_on = goes;
  input = asked_front asked.requests unread0 asked.came unread1 used asked.input;
  output = sym (append-nil (answers_to asked.requests));
  passes = asked.passes;
  heard = at1;
  hears = asked.hears;
  attends = attends_then at0 at1 at2 (attends_of at0 at1 asked.hears) attends;
  cancels = cancels;
  holds = holds_up_to result link0 link1 asked.holds;
}

stops_by : (phase : Phase) (cause : Cause) (last : List ℕ) → IsBreak cause → IsUndecided last → StopsAt phase cause last × MayPassOver cause []
stops_by phase Terminated last breaks none = absurd breaks
stops_by phase Cancelling last breaks none = absurd breaks
stops_by phase LinkEnded last breaks none = (none, refl)
stops_by phase LinkFailed last breaks none = (none, tt)
stops_by phase TimedOut last breaks none = absurd breaks
stops_by phase (PacketRefused fault) last breaks none = absurd breaks
stops_by phase (MessageRefused fault) last breaks none = absurd breaks
stops_by phase DecisionRefused last breaks none = absurd breaks
stops_by phase (GateRefused refusal) last breaks none = absurd breaks
stops_by phase ShortOfMemory last breaks none = absurd breaks
stops_by phase Panicked last breaks none = absurd breaks
stops_by phase ToldToTerminate last breaks none = (inl none, tt)
stops_by phase (ToldToQuit reason) last breaks none = (inl none, tt)
stops_by phase Killed last breaks none = (inl none, tt)
stops_by phase Overtaken last breaks none = absurd breaks

-- no more came
pub enters_broken : (gives : ℕ → Type 0) (limit : ℕ) (phase : Phase) (cause : Cause) (link0 link1 link2 : LinkView) (unread0 unread1 unread2 : List ℕ) (at0 at1 at2 : Attention) → Asked phase (outside link0 unread0 at0) (outside link1 unread1 at1) → IsUndecided unread1
    → ReceivesNothing unread1 unread2 link1 link2 → Hears 1 at1 at2 → IsBreak cause × ShowsCause cause link1 link2 at2 → Holds false (Err cause) link1 link2 → Enters gives limit (Err cause) (outside link0 unread0 at0) (outside link2 unread2 at2)
enters_broken gives limit phase cause link0 link1 link2 unread0 unread1 unread2 at0 at1 at2 asked none receives hears shows holds =
    let stops = stops_by phase cause unread1 shows.0 none in
    record {
      requests = asked.requests;
      phase = phase;
      last = unread1;
      beyond = [];
      came = asked.came;
      went = answers_to asked.requests;
      missing = [];
      asks = asked.asks;
      goes_on = breaks_on gives limit cause phase unread1 [] [] (outside link0 unread0 at0) (outside link2 unread2 at2) shows.0 (stops.0, stops.1, inl refl, shows_since cause link0 link1 link2 at2 asked.passes.later shows.1);
      input = asked.input ∙ sym (append-nil (all_of asked.requests ++ unread1));
      output = sym (append-nil (answers_to asked.requests));
      passes = passes_no_more asked.came (answers_to asked.requests) link0 link1 link2 asked.passes receives.passes;
      heard = at2;
      hears = hears_fewer 0 1 at0 at2 (hears_both 0 1 at0 at1 at2 asked.hears hears);
      attends = attends_of at0 at2 (hears_fewer 0 1 at0 at2 (hears_both 0 1 at0 at1 at2 asked.hears hears));
      cancels = breaks_asks cause unread1 at2.told at2.told shows.0 (cancels_none at2.told);
      holds = λ sound. holds (asked.holds sound);
    }

cut_stops : (phase : Phase) (cause : Cause) (beyond : List ℕ) → IsBreak cause → CutsOff cause → StopsAt phase cause [] × MayPassOver cause beyond
cut_stops phase Terminated beyond breaks cuts = absurd cuts
cut_stops phase Cancelling beyond breaks cuts = absurd cuts
cut_stops phase LinkEnded beyond breaks cuts = absurd cuts
cut_stops phase LinkFailed beyond breaks cuts = (no_packet_yet, tt)
cut_stops phase TimedOut beyond breaks cuts = absurd cuts
cut_stops phase (PacketRefused fault) beyond breaks cuts = absurd cuts
cut_stops phase (MessageRefused fault) beyond breaks cuts = absurd cuts
cut_stops phase DecisionRefused beyond breaks cuts = absurd cuts
cut_stops phase (GateRefused refusal) beyond breaks cuts = absurd cuts
cut_stops phase ShortOfMemory beyond breaks cuts = absurd cuts
cut_stops phase Panicked beyond breaks cuts = absurd cuts
cut_stops phase ToldToTerminate beyond breaks cuts = absurd cuts
cut_stops phase (ToldToQuit reason) beyond breaks cuts = absurd cuts
cut_stops phase Killed beyond breaks cuts = (inl no_packet_yet, tt)
cut_stops phase Overtaken beyond breaks cuts = absurd breaks

-- an answer to a request was broken off
pub enters_cut : (gives : ℕ → Type 0) (limit : ℕ) (phase next : Phase) (content : Content) (cause : Cause) (used : ℕ) (link0 link1 link2 : LinkView) (unread0 unread1 unread2 : List ℕ) (at0 at1 at2 : Attention) → Asked phase (outside link0 unread0 at0) (outside link1 unread1 at1)
    → FrontDecides unread1 used (Ok content) → step_of phase content ≡ steps.SayNo next → unread2 ≡ drop used unread1 → Sends (Err cause) (78 ∷ []) link1 link2 → Hears 0 at1 at2 → IsBreak cause × ShowsCause cause link1 link2 at2 → Holds false (Err cause) link1 link2
    → Enters gives limit (Err cause) (outside link0 unread0 at0) (outside link2 unread2 at2)
enters_cut gives limit phase next content cause used link0 link1 link2 unread0 unread1 unread2 at0 at1 at2 asked front says rest sends hears shows holds =
    let packet = take used unread1 in
    let stops = cut_stops next cause unread2 shows.0 sends.all in
    record {
      requests = asked.requests ++ packet ∷ [];
      phase = next;
      last = [];
      beyond = unread2;
      came = asked.came;
      went = answers_to asked.requests ++ sends.went;
      missing = sends.missing;
      asks = AskInTurn-push first_phase phase next asked.requests packet content asked.asks front.decides says;
      goes_on = breaks_on gives limit cause next [] unread2 sends.missing (outside link0 unread0 at0) (outside link2 unread2 at2) shows.0 (stops.0, stops.1, inr sends.all, shows_since cause link0 link1 link2 at2 asked.passes.later shows.1);
      input = requests_more asked.requests unread0 asked.came unread1 used asked.input ∙ ap (λ (l : List ℕ). all_of (asked.requests ++ packet ∷ []) ++ l) (sym rest)
          ∙ ap (λ (l : List ℕ). l ++ unread2) (sym (append-nil (all_of (asked.requests ++ packet ∷ []))));
      output = answers_more asked.requests packet ∙ ap (λ (l : List ℕ). answers_to asked.requests ++ l) sends.whole ∙ sym (append_assoc (answers_to asked.requests) sends.went sends.missing);
      passes = subst (λ (i : List ℕ). Passes i (answers_to asked.requests ++ sends.went) link0 link2) (append-nil asked.came) (passes_both asked.came (answers_to asked.requests) [] sends.went link0 link1 link2 asked.passes sends.passes);
      heard = at2;
      hears = hears_both 0 0 at0 at1 at2 asked.hears hears;
      attends = attends_of at0 at2 (hears_both 0 0 at0 at1 at2 asked.hears hears);
      cancels = breaks_asks cause [] at2.told at2.told shows.0 (cancels_none at2.told);
      holds = λ sound. holds (asked.holds sound);
    }

-- ---- the limit of time

-- the link was read: it waits, or bytes came in
abbrev pub WasRead : LinkView → Type 0
WasRead link = IfSome link.traffic (λ t. (t.waits ≡ true) ⊎ (t.came_in ≢ []))

some_behind : (stood came : List ℕ) → came ≢ [] → stood ++ came ≢ []
some_behind [] came some e = some e
some_behind (byte ∷ stood) came some e = absurd cc

some_came : (came : List ℕ) (before now : Option Traffic) → came ≢ [] → Added came (came_in_of before) (came_in_of now) → IfSome now (λ t. (t.waits ≡ true) ⊎ (t.came_in ≢ []))
some_came came before None some added = tt
some_came came None (Some t) some added = let never : Some t.came_in ≡ None = added in absurd cc
some_came came (Some s) (Some t) some added =
    let told : Some t.came_in ≡ Some (s.came_in ++ came) = added in
    let is : t.came_in ≡ s.came_in ++ came = cc in
    inr (λ e. some_behind s.came_in came some (sym is ∙ e))

-- so it was by a look
pub read_looked : (came : Bool) (unread1 unread2 : List ℕ) (link1 link2 : LinkView) → Looks (Ok came) unread1 unread2 link1 link2 → WasRead link2
read_looked true unread1 unread2 link1 link2 looks = some_came looks.came link1.traffic link2.traffic looks.some looks.passes.came_in
read_looked false unread1 unread2 link1 link2 looks = waits_so link2.traffic looks.1
  where
    waits_so : (traffic : Option Traffic) → IsWaiting traffic → IfSome traffic (λ t. (t.waits ≡ true) ⊎ (t.came_in ≢ []))
    waits_so None waits = tt
    waits_so (Some t) waits = inl waits

-- and where a packet stands
pub read_packet : (phase : Phase) (used : ℕ) (content : Content) (link0 link1 link2 : LinkView) (unread0 unread1 : List ℕ) (at0 at1 : Attention) → unread0 ≡ [] → FrontDecides unread1 used (Ok content)
    → Asked phase (outside link0 unread0 at0) (outside link1 unread1 at1) → Passes [] (78 ∷ []) link1 link2 → WasRead link2
read_packet phase used content link0 link1 link2 unread0 unread1 at0 at1 none front asked passes =
    let input : asked.came ≡ all_of asked.requests ++ unread1 = ap (λ (l : List ℕ). l ++ asked.came) (sym none) ∙ asked.input in
    let both : Passes (asked.came ++ []) (answers_to asked.requests ++ 78 ∷ []) link0 link2 = passes_both asked.came (answers_to asked.requests) [] (78 ∷ []) link0 link1 link2 asked.passes passes in
    some_came (asked.came ++ []) link0.traffic link2.traffic (λ e. nothing_unread (all_of asked.requests) unread1 used content front (sym input ∙ sym (append-nil asked.came) ∙ e)) both.came_in
  where
    nothing_unread : (before unread : List ℕ) (used : ℕ) (content : Content) → FrontDecides unread used (Ok content) → before ++ unread ≢ []
    nothing_unread before unread used content front =
        some_behind before unread (λ empty. no_packet_yet used (Ok content) (subst (λ (l : List ℕ). FrontDecides l used (Ok content)) empty front))

-- bytes came in, or none stood there yet
pub asked_looked : (came : Bool) (phase : Phase) (link0 link1 link2 : LinkView) (unread0 unread1 unread2 : List ℕ) (at0 at1 at2 : Attention) → Asked phase (outside link0 unread0 at0) (outside link1 unread1 at1) → Looks (Ok came) unread1 unread2 link1 link2 → Hears 1 at1 at2
    → HoldsLooking (Ok came) link1 link2 → Asked phase (outside link0 unread0 at0) (outside link2 unread2 at2)
asked_looked true phase link0 link1 link2 unread0 unread1 unread2 at0 at1 at2 asked looks hears holds = asked_received phase link0 link1 link2 unread0 unread1 unread2 at0 at1 at2 asked looks hears holds
asked_looked false phase link0 link1 link2 unread0 unread1 unread2 at0 at1 at2 asked looks hears holds = record {
  requests = asked.requests;
  came = asked.came;
  asks = asked.asks;
  input = asked.input ∙ ap (λ (l : List ℕ). all_of asked.requests ++ l) (sym looks.0.unread);
  passes = passes_no_more asked.came (answers_to asked.requests) link0 link1 link2 asked.passes looks.0.passes;
  hears = hears_fewer 0 1 at0 at2 (hears_both 0 1 at0 at1 at2 asked.hears hears);
  holds = λ sound. holds (asked.holds sound);
}

-- the packet isn't whole at the limit
pub enters_late : (gives : ℕ → Type 0) (limit : ℕ) (phase : Phase) (link0 link1 : LinkView) (unread0 unread1 : List ℕ) (at0 at1 : Attention) → Asked phase (outside link0 unread0 at0) (outside link1 unread1 at1) → IsUndecided unread1 → WasRead link1
    → IsApart gives limit → Enters gives limit (Err TimedOut) (outside link0 unread0 at0) (outside link1 unread1 at1)
enters_late gives limit phase link0 link1 unread0 unread1 at0 at1 asked none read apart = record {
  requests = asked.requests;
  phase = phase;
  last = unread1;
  beyond = [];
  came = asked.came;
  went = answers_to asked.requests;
  missing = [];
  asks = asked.asks;
  goes_on = (none, refl, refl, read, apart);
  input = asked.input ∙ sym (append-nil (all_of asked.requests ++ unread1));
  output = sym (append-nil (answers_to asked.requests));
  passes = asked.passes;
  heard = at1;
  hears = asked.hears;
  attends = attends_of at0 at1 asked.hears;
  cancels = cancels_none at1.told;
  holds = λ sound. sound_left false TimedOut link1.traffic (asked.holds sound);
}

-- a limit has passed between these moments of a clock, which may be one
pub apart_by : (gives : ℕ → Type 0) (began now limit : ℕ) → gives began → gives now → limit ≤ now - began → IsApart gives limit
apart_by gives began now limit first second passed = elim (cases_lt now began) [
  | inl back ↦ record { earlier = now; later = now; first = second; second = second; apart = omega (arith, back, passed) }
  | inr forward ↦ record { earlier = began; later = now; first = first; second = second; apart = omega (arith, forward, passed) }
]

-- memory was short before the first byte
pub enters_not : (gives : ℕ → Type 0) (limit : ℕ) (link : LinkView) (at : Attention) → Enters gives limit (Err ShortOfMemory) (outside link [] at) (outside link [] at)
enters_not gives limit link at = record {
  requests = [];
  phase = first_phase;
  last = [];
  beyond = [];
  came = [];
  went = [];
  missing = [];
  asks = refl;
  goes_on = (inl no_packet_yet, tt, inl refl, tt);
  input = refl;
  output = refl;
  passes = passes_none link;
  heard = at;
  hears = hears_none at;
  attends = attends_none at;
  cancels = cancels_none at.told;
  holds = λ sound. sound_left false ShortOfMemory link.traffic sound;
}
