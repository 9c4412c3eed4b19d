-- A whole session, put together from its parts.
use Rattle.std.{proofs.{Common.{◌≡◌, ◌≢◌, ◌⊎◌, inl, inr, ℕ, ◌+◌, ◌≤◌, Bool, true, false, List, [], ◌∷◌, ◌++◌, length, map, Option, None, Some, IfSome, Result, Ok, Err, refl, sym, ◌∙◌, ap, subst, arith, append_assoc}, lemmas.List.{append-nil, Elements.Contains-append_right}}, specs.{List.{flat_map, Contains}, Option.option_map}}
use Rattle.pm_session_exchange.{specs.{pm_outside.{Traffic.{Traffic, IsFresh, came_in_of, went_out_of}, Added.Added}, pm_exit.declared.child.Status.Status, pm_query.{declared.{book.BookEntry.{BookEntry, TheVariants.Attached}, store.StoreNo.StoreNo}, Calls.{User, PassView, user_of, newcomer, new_pass, EnterNotes}}, declared.ending.{Cause.{Cause, TheVariants.{Terminated, Cancelling, LinkEnded, LinkFailed, TimedOut, PacketRefused, MessageRefused, DecisionRefused, GateRefused, ShortOfMemory, Panicked, ToldToTerminate, ToldToQuit, Killed, Overtaken}}, Stage.{Stage, TheVariants.{Outside, Entering, Greeted}}}, Exchange.{LinkView, HasEnded, Passes, HasFailed, CutsOff, Sends, Holds, IsSound, IsLeftFor}, Attention.ends_of, Sent.{Turn, bytes_of, greeting, last_of}, Ends.{LetsGo, status_by}, Queries.IsCancelledTurn, Moments.{Moment, moment, ShowsCause, IsBreak, outside}, Answers.IsOvertakenBy}, proofs.{LinkLaws.{passes_both, sound_left}, MomentLaws.shows_since, SentLaws.{bytes_of-append, bytes_of-none}}}
use Rattle.pm_admit.specs.declared.Cac.{Cac}
use Rattle.pm_query.proofs.NotedLaws.{GoesInTurn, noted_still}
use Rattle.pm_admit.specs.declared.Cac.TheVariants as decisions
use Rattle.pm_session_exchange.specs.pm_exit.declared.child.Status.TheVariants as statuses
use Rattle.pm_startup.specs.{declared.phase.Phase.Phase, pm_wire.Backend.BackMessage, Grammar.{cancel_request, Decides}}
use Rattle.pm_session_exchange.specs.pm_query.declared.store.StoreNo.TheVariants as nos
use Rattle.pm_session_exchange.specs.pm_query.declared.store.Store as Store
use Rattle.pm_child_life.{specs.{Life.{Child, Told, Signal, Kill, Quit, Terminate as ToTerminate, Cancel, nothing_told, answer_met, attempt, met_at_gate, asked_cancel, IsUntried, HasNoCancel}, declared.life.{Attempt.Attempt, GateNo.GateNo}, Attention.{Attention, HasAsked, Hears, IsAttentive, KeepsCancels, was_given}}, proofs.AttentionLaws.{hears_both, hears_fewer, cancels_then}}
use Rattle.pm_session.{specs.{Session.{Ending, Heeds, HasAskedFor, CausedBy, IsCaused, HasEntered, IsAdmitted, IsSession, between, HasPassed, AskInTurn, IsStart, IsStartOf, ComesAs, HasCome, StopsAt, EndsAt, AllNotes, AllSleep, HasSlept, MayPassOver, NotesOutside, Leaves, ByStage, IsBehindStart, IsInside, StaysOut, AsksCancel, HasCancelled, first_phase, pieces, query_bytes, last_messages, status_of, TurnsAway, IsAttachedBehind}, Conversation.Conversed, declared.session.Admission.Admission, Entry.{ClosesBy, Connected, Enters, GoesOn, AsksToCancel, HasComeAs, IsTold, EndsBy, Closes, Serves, IsTextBehind, IsTextInside, CanRefuseEntry, refusal_cause}, Heeding.{TurnsHeed, HeedInTurn, AllRead}}, proofs.{Attentions.{untried_still, new_untried, new_no_cancel, cancels_still, HasCancels}, Heeding.{heed_none, heed_all, heed_later, heed_earlier}, Links.fresh_sound, Closings.{told_status, told_still, told_now}, Conversing.nothing_yet, Entries.{WasRead, enters_not, no_packet_yet, stopped, stops_by_time}, Overtaking.ending_overtaken}}

-- ---- two texts, one after the other

both_nil : (xs ys : List ℕ) → [] ≡ xs ++ ys → (xs ≡ []) × (ys ≡ [])
both_nil [] ys e = (refl, sym e)
both_nil (x ∷ xs) ys e = absurd cc

-- what is sent of two texts, where the second is empty if the first was broken off
pub sent_both : (first second went1 missing1 went2 missing2 : List ℕ) (one two : Type 0) → first ≡ went1 ++ missing1 → second ≡ went2 ++ missing2 → (missing1 ≡ []) ⊎ ((second ≡ []) × one) → (missing2 ≡ []) ⊎ two
    → (missing : List ℕ) × (first ++ second ≡ (went1 ++ went2) ++ missing) × ((missing ≡ []) ⊎ (one ⊎ two))
sent_both first second went1 missing1 went2 missing2 one two is_first is_second (inl none) cut = (
  missing2,
  ap (λ (l : List ℕ). l ++ second) (is_first ∙ ap (λ (l : List ℕ). went1 ++ l) none ∙ append-nil went1) ∙ ap (λ (l : List ℕ). went1 ++ l) is_second ∙ sym (append_assoc went1 went2 missing2),
  elim cut [ inl e ↦ inl e | inr h ↦ inr (inr h) ],
)
sent_both first second went1 missing1 went2 missing2 one two is_first is_second (inr broken) cut =
    let nothing = both_nil went2 missing2 (sym broken.0 ∙ is_second) in (
      missing1,
      ap (λ (l : List ℕ). first ++ l) broken.0 ∙ append-nil first ∙ is_first ∙ ap (λ (l : List ℕ). l ++ missing1) (sym (ap (λ (l : List ℕ). went1 ++ l) nothing.0 ∙ append-nil went1)),
      inr (inl broken.1),
    )

-- ---- causes

ended_so : (traffic : Option Traffic) → HasEnded traffic → IfSome traffic (λ t. t.ended ≡ true)
ended_so None ended = tt
ended_so (Some t) ended = ended

-- what showed of a cause is a cause at the end
pub shown_caused : (cause : Cause) (first between now : LinkView) (at at_end : Attention) (decision : Cac) (limit : ℕ) (gives : ℕ → Type 0) → ShowsCause cause first between at → (HasEnded between.traffic → HasEnded now.traffic)
    → between.faults ≤ now.faults → ((signal : Signal) → was_given signal at.told → was_given signal at_end.told) → CausedBy cause decision now.traffic (HasFailed first now) at_end.told limit gives
shown_caused Terminated first between now at at_end decision limit gives shows ended later given = tt
shown_caused Cancelling first between now at at_end decision limit gives shows ended later given = tt
shown_caused LinkEnded first between now at at_end decision limit gives shows ended later given = ended_so now.traffic (ended shows)
shown_caused LinkFailed first between now at at_end decision limit gives shows ended later given = omega (arith, later, shows)
shown_caused TimedOut first between now at at_end decision limit gives shows ended later given = absurd shows
shown_caused (PacketRefused fault) first between now at at_end decision limit gives shows ended later given = tt
shown_caused (MessageRefused fault) first between now at at_end decision limit gives shows ended later given = tt
shown_caused DecisionRefused first between now at at_end decision limit gives shows ended later given = absurd shows
shown_caused (GateRefused refusal) first between now at at_end decision limit gives shows ended later given = absurd shows
shown_caused ShortOfMemory first between now at at_end decision limit gives shows ended later given = tt
shown_caused Panicked first between now at at_end decision limit gives shows ended later given = tt
shown_caused ToldToTerminate first between now at at_end decision limit gives shows ended later given = given ToTerminate shows
shown_caused (ToldToQuit reason) first between now at at_end decision limit gives shows ended later given = given (Quit reason) shows
shown_caused Killed first between now at at_end decision limit gives shows ended later given = given Kill shows
shown_caused Overtaken first between now at at_end decision limit gives shows ended later given = tt

-- the same of what was told, at the end
pub told_caused : (cause : Cause) (at : Attention) (decision : Cac) (traffic : Option Traffic) (failed : Type 0) (limit : ℕ) (gives : ℕ → Type 0) → IsTold cause at → CausedBy cause decision traffic failed at.told limit gives
told_caused Terminated at decision traffic failed limit gives told = absurd told
told_caused Cancelling at decision traffic failed limit gives told = absurd told
told_caused LinkEnded at decision traffic failed limit gives told = absurd told
told_caused LinkFailed at decision traffic failed limit gives told = absurd told
told_caused TimedOut at decision traffic failed limit gives told = absurd told
told_caused (PacketRefused fault) at decision traffic failed limit gives told = absurd told
told_caused (MessageRefused fault) at decision traffic failed limit gives told = absurd told
told_caused DecisionRefused at decision traffic failed limit gives told = absurd told
told_caused (GateRefused refusal) at decision traffic failed limit gives told = absurd told
told_caused ShortOfMemory at decision traffic failed limit gives told = absurd told
told_caused Panicked at decision traffic failed limit gives told = absurd told
told_caused ToldToTerminate at decision traffic failed limit gives told = told
told_caused (ToldToQuit reason) at decision traffic failed limit gives told = told
told_caused Killed at decision traffic failed limit gives told = told
told_caused Overtaken at decision traffic failed limit gives told = absurd told

-- by what the session ended in the end has its cause where the cause at hand has it
ends_caused : (cause ends : Cause) (at : Attention) (decision : Cac) (traffic : Option Traffic) (failed : Type 0) (limit : ℕ) (gives : ℕ → Type 0) → EndsBy cause ends at → CausedBy cause decision traffic failed at.told limit gives
    → CausedBy ends decision traffic failed at.told limit gives
ends_caused cause ends at decision traffic failed limit gives (inl e) caused = subst (λ (c : Cause). CausedBy c decision traffic failed at.told limit gives) (sym e) caused
ends_caused cause ends at decision traffic failed limit gives (inr told) caused = told_caused ends at decision traffic failed limit gives told.1

exit_caused : (ending : Ending) (at : Attention) (decision : Cac) (traffic : Option Traffic) (failed : Type 0) (limit : ℕ) (gives : ℕ → Type 0) → (ending.exit ≡ Killed → (ending.cause ≡ Killed) ⊎ was_given Kill at.told)
    → CausedBy ending.cause decision traffic failed at.told limit gives → CausedBy ending.exit decision traffic failed at.told limit gives
exit_caused ending at decision traffic failed limit gives killed caused =
    let by = λ (c : Cause). CausedBy c decision traffic failed at.told limit gives in
    elim ending.exits [
      | inl e ↦ subst by (sym e) caused
      | inr e ↦ elim (killed e) [ inl k ↦ subst by (k ∙ sym e) caused | inr given ↦ subst by (sym e) given ]
    ]

-- it asked so often as is wanted
pub asked_for : (times : ℕ) (turns : List Turn) (before now : Option Told) → length turns + 1 ≤ times → HasAsked times before now → HasAskedFor turns before now
asked_for times turns None now enough has = tt
asked_for times turns (Some before) None enough has = absurd has
asked_for times turns (Some before) (Some now) enough has = omega (arith, has.0, enough)

pub asked_since : (turns : List Turn) (first second third : Option Told) → HasAsked 0 first second → HasAskedFor turns second third → HasAskedFor turns first third
asked_since turns None second third one two = tt
asked_since turns (Some first) None third one two = absurd one
asked_since turns (Some first) (Some second) None one two = absurd two
asked_since turns (Some first) (Some second) (Some third) one two = omega (arith, one.0, two)

-- ---- the gate, and signals

none_heed : (told : Option Told) → IfSome told (λ t. TurnsHeed 0 [] t.asked t.given)
none_heed None = tt
none_heed (Some told) = omega arith

untried_out : (cause : Cause) (told : Option Told) → IsUntried told → StaysOut Outside cause told
untried_out cause None untried = tt
untried_out cause (Some told) untried = inl untried

-- a child outside that was never at the gate, one that the gate refused, and one inside
pub out_untried : (stage : Stage) (cause : Cause) (told : Option Told) → stage ≡ Outside → IsUntried told → StaysOut stage cause told
out_untried stage cause told is untried = subst (λ (s : Stage). StaysOut s cause told) (sym is) (untried_out cause told untried)

pub out_refused : (stage : Stage) (refusal : GateNo) (told : Option Told) → stage ≡ Outside → IfSome told (λ t. answer_met t ≡ Some (Err refusal)) → StaysOut stage (GateRefused refusal) told
out_refused stage refusal told is met = subst (λ (s : Stage). StaysOut s (GateRefused refusal) told) (sym is) (refused told met)
  where
    refused : (told : Option Told) → IfSome told (λ t. answer_met t ≡ Some (Err refusal)) → StaysOut Outside (GateRefused refusal) told
    refused None met = tt
    refused (Some told) met = inr (refusal, refl, met)

pub out_inside : (stage : Stage) (cause : Cause) (told : Option Told) → IsInside stage → StaysOut stage cause told
out_inside Outside cause told inside = absurd inside
out_inside Entering cause told inside = tt
out_inside Greeted cause told inside = tt

pub inside_at : (stage inner : Stage) → stage ≡ inner → IsInside inner → IsInside stage
inside_at stage inner is inside = subst IsInside (sym is) inside

-- where the child is attached, by how far it had come
pub attached_outside : (stage : Stage) (outside inside : Type 0) → stage ≡ Outside → outside → ByStage stage outside inside
attached_outside stage outside inside is holds = subst (λ (s : Stage). ByStage s outside inside) (sym is) holds

pub attached_inside : (stage : Stage) (outside inside : Type 0) → IsInside stage → inside → ByStage stage outside inside
attached_inside Outside outside inside never holds = absurd never
attached_inside Entering outside inside is holds = holds
attached_inside Greeted outside inside is holds = holds

behind_start : (stage : Stage) (packet : List ℕ) → IsStart packet → IsBehindStart stage packet
behind_start Outside packet start = tt
behind_start Entering packet start = start
behind_start Greeted packet start = start

-- ---- a session that ended before the greeting

no_turn : (before : List Turn) (turn : Turn) (behind : List Turn) → [] ≡ before ++ turn ∷ behind → ⊥
no_turn [] turn behind e = cc
no_turn (t ∷ before) turn behind e = cc

-- by another cause than this it ended only where the child would exit as if nothing had happened
same_cause : (cause ends : Cause) (at : Attention) → status_by cause ≢ statuses.Code 0 → EndsBy cause ends at → ends ≡ cause
same_cause cause ends at fails (inl e) = e
same_cause cause ends at fails (inr told) = absurd (fails told.0)

-- what stops a child stops it at any stage
turns_away : (user : User) (stage : Stage) (phase : Phase) (cause : Cause) (last : List ℕ) → StopsAt phase cause last → TurnsAway user stage phase cause last
turns_away user stage phase Terminated last stops = stops
turns_away user stage phase Cancelling last stops = stops
turns_away user stage phase LinkEnded last stops = stops
turns_away user stage phase LinkFailed last stops = stops
turns_away user stage phase TimedOut last stops = stops
turns_away user stage phase (PacketRefused fault) last stops = stops
turns_away user stage phase (MessageRefused fault) last stops = stops
turns_away user stage phase DecisionRefused last stops = stops
turns_away user stage phase (GateRefused refusal) last stops = stops
turns_away user stage phase ShortOfMemory last stops = stops
turns_away user stage phase Panicked last stops = stops
turns_away user stage phase ToldToTerminate last stops = stops
turns_away user stage phase (ToldToQuit reason) last stops = stops
turns_away user stage phase Killed last stops = stops
turns_away user stage phase Overtaken last stops = absurd stops

pub turned_away : {S : Type 0} (notes : List BookEntry → S → S → Type 0) (decision : Cac) (user : User) (key generation : ℕ) (gives : ℕ → Type 0) (cause : Cause) (ending : Ending) (link0 link2 : LinkView) (unread0 unread2 : List ℕ) (store0 store2 : S) (at0 at1 at2 : Attention) (noted : List BookEntry)
    → status_by cause ≢ statuses.Code 0 → ((phase : Phase) (packet : List ℕ) → IsStart packet → TurnsAway user ending.stage phase cause packet) → ((beyond : List ℕ) → MayPassOver cause beyond) → IsAdmitted ending.stage decision
    → NotesOutside user ending.stage ending.exit noted → notes noted store0 store2 → HasAskedFor [] at0.told at2.told → Closes decision cause ending (outside link0 [] at1) (outside link2 [] at2)
    → ((limit : ℕ) → CausedBy cause decision link2.traffic (HasFailed link0 link2) at2.told limit gives) → HasEntered ending.stage generation at2.told → StaysOut ending.stage cause at2.told → KeepsCancels at0.told at2.told
    → Serves notes (IsTextBehind decision user key) decision generation gives ending (moment link0 unread0 store0 at0) (moment link2 unread2 store2 at2)
turned_away notes decision user key generation gives cause ending link0 link2 unread0 unread2 store0 store2 at0 at1 at2 noted fails stops over admitted outside_notes entries asked closes caused gate out keeps =
    let is : ending.cause ≡ cause = same_cause cause ending.cause at2 fails closes.ends in
    let at_end = λ (limit : ℕ). ends_caused cause ending.cause at2 decision link2.traffic (HasFailed link0 link2) limit gives closes.ends (caused limit) in
    record {
      turns = [];
      came = [];
      went = closes.went;
      missing = closes.missing;
      whole = bytes_of (last_messages decision ending);
      noted = noted;
      text = λ requests phase packet asks start. inl (
        record {
          requests = requests;
          phase = phase;
          last = packet;
          beyond = unread0 ++ [];
          admitted = admitted;
          asks = asks;
          stops = subst (λ (c : Cause). TurnsAway user ending.stage phase c packet) (sym is) (stops phase packet start);
          start = behind_start ending.stage packet start;
          input = refl;
          passes_over = subst (λ (c : Cause). MayPassOver c (unread0 ++ [])) (sym is) (over (unread0 ++ []));
          output = refl;
          notes = outside_notes;
        },
        refl,
      );
      sent = closes.whole;
      cut = closes.cut;
      passes = closes.passes;
      entries = entries;
      asked = asked;
      cancels = keeps;
      unasked = λ e. fails (ap status_by (sym is ∙ e));
      texts = [];
      beyond = unread0 ++ [];
      queries = refl;
      slept = tt;
      caused = λ limit sound slept. record {
        cause = at_end limit;
        exit = exit_caused ending at2 decision link2.traffic (HasFailed link0 link2) limit gives closes.killed (at_end limit);
        gate = gate;
        out = subst (λ (c : Cause). StaysOut ending.stage c at2.told) (sym is) out;
        heeded = none_heed at2.told;
        sound = closes.sound (sound_left false cause link0.traffic sound);
        slept = slept;
      };
      heeds = closes.heeds;
    }

told_start : (phase : Phase) (cause : Cause) (at : Attention) (packet : List ℕ) → IsTold cause at → IsStart packet → StopsAt phase cause packet
told_start phase Terminated at packet told start = absurd told
told_start phase Cancelling at packet told start = absurd told
told_start phase LinkEnded at packet told start = absurd told
told_start phase LinkFailed at packet told start = absurd told
told_start phase TimedOut at packet told start = absurd told
told_start phase (PacketRefused fault) at packet told start = absurd told
told_start phase (MessageRefused fault) at packet told start = absurd told
told_start phase DecisionRefused at packet told start = absurd told
told_start phase (GateRefused refusal) at packet told start = absurd told
told_start phase ShortOfMemory at packet told start = absurd told
told_start phase Panicked at packet told start = absurd told
told_start phase ToldToTerminate at packet told start = inr start
told_start phase (ToldToQuit reason) at packet told start = inr start
told_start phase Killed at packet told start = inr start
told_start phase Overtaken at packet told start = absurd told

told_over : (cause : Cause) (at : Attention) (beyond : List ℕ) → IsTold cause at → MayPassOver cause beyond
told_over Terminated at beyond told = absurd told
told_over Cancelling at beyond told = absurd told
told_over LinkEnded at beyond told = absurd told
told_over LinkFailed at beyond told = absurd told
told_over TimedOut at beyond told = absurd told
told_over (PacketRefused fault) at beyond told = absurd told
told_over (MessageRefused fault) at beyond told = absurd told
told_over DecisionRefused at beyond told = absurd told
told_over (GateRefused refusal) at beyond told = absurd told
told_over ShortOfMemory at beyond told = absurd told
told_over Panicked at beyond told = absurd told
told_over ToldToTerminate at beyond told = tt
told_over (ToldToQuit reason) at beyond told = tt
told_over Killed at beyond told = tt
told_over Overtaken at beyond told = absurd told

-- what is known of a session that ends outside, and of one that ends behind the gate
abbrev pub EndsUngreeted : Cac → User → Ending → ℕ → Option Told → Type 0
EndsUngreeted decision user ending generation told = IsAdmitted ending.stage decision × NotesOutside user ending.stage ending.exit [] × HasEntered ending.stage generation told

pub at_outside : (decision : Cac) (user : User) (ending : Ending) (generation : ℕ) (told : Option Told) → ending.stage ≡ Outside → EndsUngreeted decision user ending generation told
at_outside decision user ending generation told is =
    subst (λ (s : Stage). IsAdmitted s decision × NotesOutside user s ending.exit [] × HasEntered s generation told) (sym is) (tt, refl, tt)

pub at_entering : (decision : Cac) (user : User) (ending : Ending) (generation : ℕ) (told : Option Told) → ending.stage ≡ Entering → decision ≡ decisions.Ok → IfSome told (λ t. answer_met t ≡ Some (Ok generation)) → EndsUngreeted decision user ending generation told
at_entering decision user ending generation told is admitted met =
    subst (λ (s : Stage). IsAdmitted s decision × NotesOutside user s ending.exit [] × HasEntered s generation told) (sym is) (admitted, inl refl, met)

-- it was told to end
pub told_away : {S : Type 0} (notes : List BookEntry → S → S → Type 0) (decision : Cac) (user : User) (key generation : ℕ) (gives : ℕ → Type 0) (cause : Cause) (ending : Ending) (link0 link2 : LinkView) (unread0 : List ℕ) (store0 : S) (at0 at1 at2 : Attention)
    → IsAttentive at1 → ends_of at1.standing ≡ Some cause → notes [] store0 store0 → EndsUngreeted decision user ending generation at2.told → StaysOut ending.stage cause at2.told → Hears 1 at0 at1 → Closes decision cause ending (outside link0 [] at1) (outside link2 [] at2)
    → Serves notes (IsTextBehind decision user key) decision generation gives ending (moment link0 unread0 store0 at0) (moment link2 unread0 store0 at2)
told_away notes decision user key generation gives cause ending link0 link2 unread0 store0 at0 at1 at2 attentive is rests stands out hears closes =
    let told : IsTold cause at1 = told_now at1 cause link0 attentive is in
    turned_away notes decision user key generation gives cause ending link0 link2 unread0 unread0 store0 store0 at0 at1 at2 []
    (told_status at1.standing.kill at1.standing.quit at1.standing.terminate cause is) (λ phase packet start. turns_away user ending.stage phase cause packet (told_start phase cause at1 packet told start)) (λ beyond. told_over cause at1 beyond told) stands.0 stands.1 rests
    (asked_for 2 [] at0.told at2.told (omega arith) (hears_both 1 1 at0 at1 at2 hears closes.hears).asked) closes
    (λ limit. told_caused cause at2 decision link2.traffic (HasFailed link0 link2) limit gives (told_still cause at1 at2 1 closes.hears told)) stands.2 out (cancels_then at0.told at1.told at2.told hears.cancels closes.hears.cancels)

-- ---- a session that was greeted

-- What passed after the greeting's beginning, but for the last words.
pub record Talked {S : Type 0} (notes : List BookEntry → S → S → Type 0) (gives : ℕ → Type 0) (user : User) (key : ℕ) (cause : Cause) (before now : Moment S) : Type 0 where
  pub texts : List (List ℕ)
  pub turns : List Turn
  pub last : List ℕ
  pub beyond : List ℕ
  pub asked : List BookEntry
  pub ended : List BookEntry
  pub came : List ℕ
  pub went : List ℕ
  pub missing : List ℕ
  pub each : AllNotes user.pid texts turns asked
  pub ends : EndsAt user cause last ended
  pub input : before.unread ++ came ≡ flat_map query_bytes texts ++ last ++ beyond
  pub passes_over : MayPassOver cause beyond
  pub output : bytes_of (greeting user.pid key ++ pieces texts turns) ≡ went ++ missing
  pub cut : (missing ≡ []) ⊎ CutsOff cause
  pub passes : Passes came went before.link now.link
  pub entries : notes (asked ++ ended) before.store now.store
  pub hears : Hears (length turns) before.child now.child
  pub read : AllRead texts turns
  pub heeded : HeedInTurn turns before.child.told now.child.told
  pub cancelled : (turn : Turn) → Contains turns turn → IsCancelledTurn turn → was_given Cancel now.child.told
  pub shows : ShowsCause cause before.link now.link now.child
  pub slept : AllSleep gives texts turns
  pub holds : IsSound false before.link.traffic → IsLeftFor cause now.link.traffic

cut_ends : (user : User) (cause : Cause) (beyond : List ℕ) → IsBreak cause → CutsOff cause → EndsAt user cause [] [] × MayPassOver cause beyond
cut_ends user Terminated beyond breaks cuts = absurd cuts
cut_ends user Cancelling beyond breaks cuts = absurd cuts
cut_ends user LinkEnded beyond breaks cuts = absurd cuts
cut_ends user LinkFailed beyond breaks cuts = ((nothing_yet, refl), tt)
cut_ends user TimedOut beyond breaks cuts = absurd cuts
cut_ends user (PacketRefused fault) beyond breaks cuts = absurd cuts
cut_ends user (MessageRefused fault) beyond breaks cuts = absurd cuts
cut_ends user DecisionRefused beyond breaks cuts = absurd cuts
cut_ends user (GateRefused refusal) beyond breaks cuts = absurd cuts
cut_ends user ShortOfMemory beyond breaks cuts = absurd cuts
cut_ends user Panicked beyond breaks cuts = absurd cuts
cut_ends user ToldToTerminate beyond breaks cuts = absurd cuts
cut_ends user (ToldToQuit reason) beyond breaks cuts = absurd cuts
cut_ends user Killed beyond breaks cuts = (inl (nothing_yet, refl), tt)
cut_ends user Overtaken beyond breaks cuts = absurd breaks

-- the greeting was broken off
pub talked_cut : {S : Type 0} (notes : List BookEntry → S → S → Type 0) (gives : ℕ → Type 0) (user : User) (key : ℕ) (cause : Cause) (link0 link1 : LinkView) (unread : List ℕ) (store : S) (at0 at1 : Attention) → notes [] store store
    → Sends (Err cause) (bytes_of (greeting user.pid key)) link0 link1 → Hears 0 at0 at1 → IsBreak cause × ShowsCause cause link0 link1 at1 → Holds false (Err cause) link0 link1 → Talked notes gives user key cause (moment link0 unread store at0) (moment link1 unread store at1)
talked_cut notes gives user key cause link0 link1 unread store at0 at1 rests sends hears shows holds =
    let ends = cut_ends user cause unread shows.0 sends.all in
    record {
      texts = [];
      turns = [];
      last = [];
      beyond = unread;
      asked = [];
      ended = [];
      came = [];
      went = sends.went;
      missing = sends.missing;
      each = refl;
      ends = ends.0;
      input = append-nil unread;
      passes_over = ends.1;
      output = ap (λ (ms : List BackMessage). bytes_of ms) (append-nil (greeting user.pid key)) ∙ sends.whole;
      cut = inr sends.all;
      passes = sends.passes;
      entries = rests;
      hears = hears;
      read = tt;
      slept = tt;
      heeded = heed_none 0 at0.told at1.told hears.asked;
      cancelled = λ turn has. absurd (omega (arith, has.1));
      shows = shows.1;
      holds = holds;
    }

greeting_sent : (greet said went missing went_on missing_on : List ℕ) → greet ≡ went ++ missing → missing ≡ [] → said ≡ went_on ++ missing_on → greet ++ said ≡ (went ++ went_on) ++ missing_on
greeting_sent greet said went missing went_on missing_on is none more =
    ap (λ (l : List ℕ). l ++ said) (is ∙ ap (λ (l : List ℕ). went ++ l) none ∙ append-nil went) ∙ ap (λ (l : List ℕ). went ++ l) more ∙ sym (append_assoc went went_on missing_on)

hears_again : (m : ℕ) (a b c : Attention) → Hears 0 a b → Hears m b c → Hears m a c
hears_again m a b c one two = let same : 0 + m ≡ m = omega arith in subst (λ (n : ℕ). Hears n a c) same (hears_both 0 m a b c one two)

-- it was sent, and the queries were answered
pub talked_on : {S : Type 0} (notes : List BookEntry → S → S → Type 0) (gives : ℕ → Type 0) (user : User) (key : ℕ) (cause : Cause) (link0 link1 link2 : LinkView) (unread0 unread2 : List ℕ) (store0 store2 : S) (at0 at1 at2 : Attention)
    → Sends (Ok tt) (bytes_of (greeting user.pid key)) link0 link1 → Hears 0 at0 at1 → Conversed notes gives user cause (moment link1 unread0 store0 at1) (moment link2 unread2 store2 at2) → ShowsCause cause link1 link2 at2 → Holds false (Ok tt) link0 link1 → (IsSound false link1.traffic → IsLeftFor cause link2.traffic)
    → Talked notes gives user key cause (moment link0 unread0 store0 at0) (moment link2 unread2 store2 at2)
talked_on notes gives user key cause link0 link1 link2 unread0 unread2 store0 store2 at0 at1 at2 sends hears talks shows greeted holds = record {
  texts = talks.texts;
  turns = talks.turns;
  last = talks.last;
  beyond = unread2;
  asked = talks.asked;
  ended = talks.ended;
  came = talks.came;
  went = sends.went ++ talks.went;
  missing = talks.missing;
  each = talks.each;
  ends = talks.ends;
  input = talks.input;
  passes_over = talks.passes_over;
  output = bytes_of-append (greeting user.pid key) (pieces talks.texts talks.turns) ∙ greeting_sent (bytes_of (greeting user.pid key)) (bytes_of (pieces talks.texts talks.turns)) sends.went sends.missing talks.went talks.missing sends.whole sends.all talks.output;
  cut = talks.cut;
  passes = passes_both [] sends.went talks.came talks.went link0 link1 link2 sends.passes talks.passes;
  entries = talks.entries;
  hears = hears_again (length talks.turns) at0 at1 at2 hears talks.hears;
  read = talks.read;
  slept = talks.slept;
  holds = λ sound. holds (greeted sound);
  heeded = heed_earlier 0 talks.turns at0.told at1.told at2.told hears.asked talks.heeded;
  cancelled = talks.cancelled;
  shows = shows_since cause link0 link1 link2 at2 sends.passes.later shows;
}

-- where a child would exit as if nothing had happened, no query was in progress
quiet_end : (user : User) (cause : Cause) (last : List ℕ) (ended : List BookEntry) → status_by cause ≡ statuses.Code 0 → EndsAt user cause last ended → ended ≡ []
quiet_end user (PacketRefused fault) last ended is ends = absurd ends
quiet_end user Terminated last ended is ends = ends.1
quiet_end user Cancelling last ended is ends = absurd ends
quiet_end user LinkEnded last ended is ends = ends.1
quiet_end user LinkFailed last ended is ends = absurd cc
quiet_end user TimedOut last ended is ends = absurd cc
quiet_end user (MessageRefused fault) last ended is ends = absurd cc
quiet_end user DecisionRefused last ended is ends = absurd cc
quiet_end user (GateRefused refusal) last ended is ends = absurd cc
quiet_end user ShortOfMemory last ended is ends = absurd cc
quiet_end user Panicked last ended is ends = absurd cc
quiet_end user ToldToTerminate last ended is ends = absurd cc
quiet_end user (ToldToQuit reason) last ended is ends = absurd cc
quiet_end user Killed last ended is ends = absurd cc
quiet_end user Overtaken last ended is ends = absurd cc

told_end : (user : User) (ends : Cause) (ended : List BookEntry) (at : Attention) (beyond : List ℕ) → IsTold ends at → ended ≡ [] → EndsAt user ends [] ended × MayPassOver ends beyond
told_end user Terminated ended at beyond told none = absurd told
told_end user Cancelling ended at beyond told none = absurd told
told_end user LinkEnded ended at beyond told none = absurd told
told_end user LinkFailed ended at beyond told none = absurd told
told_end user TimedOut ended at beyond told none = absurd told
told_end user (PacketRefused fault) ended at beyond told none = absurd told
told_end user (MessageRefused fault) ended at beyond told none = absurd told
told_end user DecisionRefused ended at beyond told none = absurd told
told_end user (GateRefused refusal) ended at beyond told none = absurd told
told_end user ShortOfMemory ended at beyond told none = absurd told
told_end user Panicked ended at beyond told none = absurd told
told_end user ToldToTerminate ended at beyond told none = ((inl (nothing_yet, none), none), tt)
told_end user (ToldToQuit reason) ended at beyond told none = (inl (nothing_yet, none), tt)
told_end user Killed ended at beyond told none = (inl (nothing_yet, none), tt)
told_end user Overtaken ended at beyond told none = absurd told

-- where the session ends by a signal in the end, the last message is passed over
ends_at : (user : User) (cause ends : Cause) (last beyond : List ℕ) (ended : List BookEntry) (at : Attention) → EndsAt user cause last ended → MayPassOver cause beyond → EndsBy cause ends at
    → (last_now : List ℕ) × (beyond_now : List ℕ) × EndsAt user ends last_now ended × (last ++ beyond ≡ last_now ++ beyond_now) × MayPassOver ends beyond_now
ends_at user cause ends last beyond ended at here over (inl e) = (
  last,
  beyond,
  subst (λ (c : Cause). EndsAt user c last ended) (sym e) here,
  refl,
  subst (λ (c : Cause). MayPassOver c beyond) (sym e) over,
)
ends_at user cause ends last beyond ended at here over (inr told) =
    let end = told_end user ends ended at (last ++ beyond) told.1 (quiet_end user cause last ended told.0 here) in
    ([], last ++ beyond, end.0, refl, end.1)

-- after what was broken off nothing is said
cut_last : (decision : Cac) (stage : Stage) (cause ends : Cause) (at : Attention) → CutsOff cause → EndsBy cause ends at → (bytes_of (last_of decision stage ends) ≡ []) × CutsOff ends
cut_last decision stage Terminated ends at cuts by = absurd cuts
cut_last decision stage Cancelling ends at cuts by = absurd cuts
cut_last decision stage LinkEnded ends at cuts by = absurd cuts
cut_last decision stage LinkFailed ends at cuts (inl e) = subst (λ (c : Cause). (bytes_of (last_of decision stage c) ≡ []) × CutsOff c) (sym e) (bytes_of-none, tt)
cut_last decision stage LinkFailed ends at cuts (inr told) = absurd (let e = told.0 in cc)
cut_last decision stage TimedOut ends at cuts by = absurd cuts
cut_last decision stage (PacketRefused fault) ends at cuts by = absurd cuts
cut_last decision stage (MessageRefused fault) ends at cuts by = absurd cuts
cut_last decision stage DecisionRefused ends at cuts by = absurd cuts
cut_last decision stage (GateRefused refusal) ends at cuts by = absurd cuts
cut_last decision stage ShortOfMemory ends at cuts by = absurd cuts
cut_last decision stage Panicked ends at cuts by = absurd cuts
cut_last decision stage ToldToTerminate ends at cuts by = absurd cuts
cut_last decision stage (ToldToQuit reason) ends at cuts by = absurd cuts
cut_last decision stage Killed ends at cuts (inl e) = subst (λ (c : Cause). (bytes_of (last_of decision stage c) ≡ []) × CutsOff c) (sym e) (bytes_of-none, tt)
cut_last decision stage Killed ends at cuts (inr told) = absurd (let e = told.0 in cc)
cut_last decision stage Overtaken ends at cuts (inl e) = subst (λ (c : Cause). (bytes_of (last_of decision stage c) ≡ []) × CutsOff c) (sym e) (bytes_of-none, tt)
cut_last decision stage Overtaken ends at cuts (inr told) = absurd (let e = told.0 in cc)

exit_cut : (ending : Ending) → CutsOff ending.cause → CutsOff ending.exit
exit_cut ending cuts = elim ending.exits [ inl e ↦ subst CutsOff (sym e) cuts | inr e ↦ subst CutsOff (sym e) tt ]

-- what was broken off, and then the last words
all_cut : (decision : Cac) (cause : Cause) (ending : Ending) (at : Attention) (missing : List ℕ) → (missing ≡ []) ⊎ CutsOff cause → EndsBy cause ending.cause at → (missing ≡ []) ⊎ ((bytes_of (last_messages decision ending) ≡ []) × CutsOff ending.exit)
all_cut decision cause ending at missing (inl none) by = inl none
all_cut decision cause ending at missing (inr cuts) by =
    let h = cut_last decision ending.stage cause ending.cause at cuts by in inr (h.0, exit_cut ending h.1)

cut_since : (exit : Cause) (missing : List ℕ) (first second third : LinkView) → first.faults ≤ second.faults → (missing ≡ []) ⊎ (CutsOff exit ⊎ (CutsOff exit ⊎ HasFailed second third)) → (missing ≡ []) ⊎ (CutsOff exit ⊎ HasFailed first third)
cut_since exit missing first second third later (inl none) = inl none
cut_since exit missing first second third later (inr (inl cuts)) = inr (inl cuts)
cut_since exit missing first second third later (inr (inr (inl cuts))) = inr (inl cuts)
cut_since exit missing first second third later (inr (inr (inr failed))) = inr (inr (omega (arith, later, failed)))

pub met_still : (times : ℕ) (answer : Result ℕ GateNo) (before now : Option Told) → HasAsked times before now → IfSome before (λ t. answer_met t ≡ Some answer) → IfSome now (λ t. answer_met t ≡ Some answer)
met_still times answer None None has met = tt
met_still times answer None (Some now) has met = absurd cc
met_still times answer (Some before) None has met = absurd has
met_still times answer (Some before) (Some now) has met = ap (λ (tried : Option Attempt). option_map (λ (t : Attempt). t.answer) tried) has.1 ∙ met

turn_in : (turns before : List Turn) (turn : Turn) (behind : List Turn) → turns ≡ before ++ turn ∷ behind → Contains turns turn
turn_in turns before turn behind e = rw e (Contains-append_right before (turn ∷ behind) turn (0, omega arith, refl))

split_input : (front last beyond last_now beyond_now : List ℕ) → last ++ beyond ≡ last_now ++ beyond_now → front ++ last ++ beyond ≡ front ++ last_now ++ beyond_now
split_input front last beyond last_now beyond_now is = append_assoc front last beyond ∙ ap (λ (l : List ℕ). front ++ l) is ∙ sym (append_assoc front last_now beyond_now)

served_input : (front all queries last beyond last_now beyond_now : List ℕ) → all ≡ queries ++ last ++ beyond → last ++ beyond ≡ last_now ++ beyond_now → front ++ all ≡ front ++ queries ++ last_now ++ beyond_now
served_input front all queries last beyond last_now beyond_now is split =
    ap (λ (l : List ℕ). front ++ l) (is ∙ split_input queries last beyond last_now beyond_now split ∙ append_assoc queries last_now beyond_now) ∙ sym (append_assoc front queries (last_now ++ beyond_now)) ∙ sym (append_assoc (front ++ queries) last_now beyond_now)

pub served_inside : {S : Type 0} (notes : List BookEntry → S → S → Type 0) (decision : Cac) (user : User) (key : ℕ) (gives : ℕ → Type 0) (cause : Cause) (ending : Ending) (link0 link1 link2 : LinkView) (unread0 unread1 : List ℕ) (store0 store1 : S) (at0 at1 at2 : Attention)
    → decision ≡ decisions.Ok → IfSome at0.told (λ t. answer_met t ≡ Some (Ok user.generation)) → Talked notes gives user key cause (moment link0 unread0 store0 at0) (moment link1 unread1 store1 at1)
    → ending.stage ≡ Greeted → Closes decision cause ending (outside link1 [] at1) (outside link2 [] at2)
    → Serves notes (IsTextInside decision user key) decision user.generation gives ending (moment link0 unread0 store0 at0) (moment link2 unread1 store1 at2)
served_inside notes decision user key gives cause ending link0 link1 link2 unread0 unread1 store0 store1 at0 at1 at2 admitted met talked stage closes =
    let said = greeting user.pid key ++ pieces talked.texts talked.turns in
    let last = last_messages decision ending in
    let hears : Hears (length talked.turns + 1) at0 at2 = hears_both (length talked.turns) 1 at0 at1 at2 talked.hears closes.hears in
    let split = ends_at user cause ending.cause talked.last talked.beyond talked.ended at2 talked.ends talked.passes_over closes.ends in
    let sent = sent_both (bytes_of said) (bytes_of last) talked.went talked.missing closes.went closes.missing (CutsOff ending.exit) (CutsOff ending.exit ⊎ HasFailed link1 link2) talked.output closes.whole
    (all_cut decision cause ending at2 talked.missing talked.cut closes.ends) closes.cut in
    let at_end = λ (limit : ℕ). ends_caused cause ending.cause at2 decision link2.traffic (HasFailed link0 link2) limit gives closes.ends
    (shown_caused cause link0 link1 link2 at1 at2 decision limit gives talked.shows closes.passes.ended closes.passes.later closes.hears.given) in
    record {
      turns = talked.turns;
      came = talked.came;
      went = talked.went ++ closes.went;
      missing = sent.0;
      whole = bytes_of (said ++ last);
      noted = talked.asked ++ talked.ended;
      text = λ left leaves requests phase packet asks start. inr (record {
        requests = requests;
        phase = phase;
        packet = packet;
        texts = talked.texts;
        last = split.0;
        beyond = split.1;
        asked = talked.asked;
        ended = talked.ended;
        left = left;
        admitted = admitted;
        stage = stage;
        asks = asks;
        start = start;
        input = served_input (flat_map (λ p. p) requests ++ packet) (unread0 ++ talked.came) (flat_map query_bytes talked.texts) talked.last talked.beyond split.0 split.1 talked.input split.3;
        passes_over = split.4;
        output = refl;
        notes = refl;
        each = talked.each;
        read = talked.read;
        ends = split.2;
        leaves = leaves;
      });
      sent = bytes_of-append said last ∙ sent.1;
      cut = cut_since ending.exit sent.0 link0 link1 link2 talked.passes.later sent.2;
      passes = subst (λ (i : List ℕ). Passes i (talked.went ++ closes.went) link0 link2) (append-nil talked.came) (passes_both talked.came talked.went [] closes.went link0 link1 link2 talked.passes closes.passes);
      entries = talked.entries;
      asked = asked_for (length talked.turns + 1) talked.turns at0.told at2.told (omega arith) hears.asked;
      cancels = hears.cancels;
      unasked = λ e. subst (λ (c : Cause). EndsAt user c split.0 talked.ended) e split.2;
      texts = talked.texts;
      beyond = talked.last ++ talked.beyond;
      queries = talked.input ∙ append_assoc (flat_map query_bytes talked.texts) talked.last talked.beyond;
      slept = talked.slept;
      caused = λ limit sound slept. record {
        cause = at_end limit;
        exit = exit_caused ending at2 decision link2.traffic (HasFailed link0 link2) limit gives closes.killed (at_end limit);
        gate = subst (λ (s : Stage). HasEntered s user.generation at2.told) (sym stage) (met_still (length talked.turns + 1) (Ok user.generation) at0.told at2.told hears.asked met);
        out = out_inside ending.stage ending.cause at2.told (inside_at ending.stage Greeted stage tt);
        heeded = heed_all (length talked.turns + 1) talked.turns at0.told at2.told hears.asked (heed_later 1 talked.turns at0.told at1.told at2.told talked.heeded closes.hears.asked closes.hears.gained);
        sound = closes.sound (talked.holds sound);
        slept = slept;
      };
      heeds = closes.heeds;
    }

-- ---- the store around it

-- it entered before, and left or not
pub served_left : {S : Type 0} (notes : List BookEntry → S → S → Type 0) (decision : Cac) (user : User) (key : ℕ) (gives : ℕ → Type 0) (ending : Ending) (link0 link1 : LinkView) (unread0 unread1 : List ℕ) (store0 store1 store2 store3 : S) (at0 at1 at2 : Attention) (left : List BookEntry)
    → ((before between now : S) (first second : List BookEntry) → notes first before between → notes second between now → notes (first ++ second) before now)
    → notes (Attached user.pid user.generation ∷ []) store0 store1 → Serves notes (IsTextInside decision user key) decision user.generation gives ending (moment link0 unread0 store1 at1) (moment link1 unread1 store2 at2)
    → notes left store2 store3 → Leaves user ending.exit left → Hears 1 at0 at1
    → Serves notes (IsTextBehind decision user key) decision user.generation gives ending (moment link0 unread0 store0 at0) (moment link1 unread1 store3 at2)
served_left notes decision user key gives ending link0 link1 unread0 unread1 store0 store1 store2 store3 at0 at1 at2 left in_turn entered serves leaving leaves hears = record {
  turns = serves.turns;
  came = serves.came;
  went = serves.went;
  missing = serves.missing;
  whole = serves.whole;
  noted = Attached user.pid user.generation ∷ serves.noted ++ left;
  text = serves.text left leaves;
  sent = serves.sent;
  cut = serves.cut;
  passes = serves.passes;
  entries = in_turn store0 store1 store3 (Attached user.pid user.generation ∷ []) (serves.noted ++ left) entered (in_turn store1 store2 store3 serves.noted left serves.entries leaving);
  asked = asked_since serves.turns at0.told at1.told at2.told (hears_fewer 0 1 at0 at1 hears).asked serves.asked;
  cancels = cancels_then at0.told at1.told at2.told hears.cancels serves.cancels;
  unasked = serves.unasked;
  texts = serves.texts;
  beyond = serves.beyond;
  queries = serves.queries;
  slept = serves.slept;
  caused = serves.caused;
  heeds = serves.heeds;
}

pub enter_can : (P : Type 0) (user : User) (refusal : StoreNo) (entries : List BookEntry) → EnterNotes {P = P} user (Err refusal) entries → CanRefuseEntry refusal
enter_can P user (nos.Stale mine found) entries notes = tt
enter_can P user nos.NoMemory entries notes = tt
enter_can P user nos.Disk entries notes = notes
enter_can P user (nos.Broken since) entries notes = notes
enter_can P user (nos.Full need room) entries notes = notes
enter_can P user (nos.Redo fault) entries notes = notes

-- by what a session ends that the store doesn't let in
pub refused_notes : (P : Type 0) (user : User) (refusal : StoreNo) (entries : List BookEntry) → EnterNotes {P = P} user (Err refusal) entries → entries ≡ []
refused_notes P user (nos.Stale mine found) entries notes = notes.1
refused_notes P user nos.NoMemory entries notes = notes
refused_notes P user nos.Disk entries notes = absurd notes
refused_notes P user (nos.Broken since) entries notes = absurd notes
refused_notes P user (nos.Full need room) entries notes = absurd notes
refused_notes P user (nos.Redo fault) entries notes = absurd notes

pub refusal_fails : (refusal : StoreNo) → status_by (refusal_cause refusal) ≢ statuses.Code 0
refusal_fails (nos.Stale mine found) = λ e. absurd cc
refusal_fails nos.Disk = λ e. absurd cc
refusal_fails (nos.Broken since) = λ e. absurd cc
refusal_fails (nos.Full need room) = λ e. absurd cc
refusal_fails (nos.Redo fault) = λ e. absurd cc
refusal_fails nos.NoMemory = λ e. absurd cc

pub refusal_stops : (P : Type 0) (user : User) (pid : ℕ) (refusal : StoreNo) (entries : List BookEntry) (stage : Stage) → stage ≡ Entering → EnterNotes {P = P} (record user { pid = pid }) (Err refusal) entries
    → (phase : Phase) (packet : List ℕ) → IsStart packet → TurnsAway user stage phase (refusal_cause refusal) packet
refusal_stops P user pid (nos.Stale mine found) entries stage is notes phase packet start = (is, notes.0, start)
refusal_stops P user pid nos.Disk entries stage is notes phase packet start = inr start
refusal_stops P user pid (nos.Broken since) entries stage is notes phase packet start = inr start
refusal_stops P user pid (nos.Full need room) entries stage is notes phase packet start = inr start
refusal_stops P user pid (nos.Redo fault) entries stage is notes phase packet start = inr start
refusal_stops P user pid nos.NoMemory entries stage is notes phase packet start = inr start

pub refusal_over : (refusal : StoreNo) (beyond : List ℕ) → MayPassOver (refusal_cause refusal) beyond
refusal_over (nos.Stale mine found) beyond = tt
refusal_over nos.Disk beyond = tt
refusal_over (nos.Broken since) beyond = tt
refusal_over (nos.Full need room) beyond = tt
refusal_over (nos.Redo fault) beyond = tt
refusal_over nos.NoMemory beyond = tt

pub refusal_caused : (refusal : StoreNo) (decision : Cac) (traffic : Option Traffic) (failed : Type 0) (told : Option Told) (limit : ℕ) (gives : ℕ → Type 0) → CausedBy (refusal_cause refusal) decision traffic failed told limit gives
refusal_caused (nos.Stale mine found) decision traffic failed told limit gives = tt
refusal_caused nos.Disk decision traffic failed told limit gives = tt
refusal_caused (nos.Broken since) decision traffic failed told limit gives = tt
refusal_caused (nos.Full need room) decision traffic failed told limit gives = tt
refusal_caused (nos.Redo fault) decision traffic failed told limit gives = tt
refusal_caused nos.NoMemory decision traffic failed told limit gives = tt

pub user_is : (stamp0 stamp1 : Option ℕ) (view : PassView) (pid child_pid generation : ℕ) → view ≡ new_pass pid generation → pid ≡ child_pid → stamp1 ≡ stamp0 → user_of stamp1 view ≡ newcomer stamp0 child_pid generation
user_is stamp0 stamp1 view pid child_pid generation new same stays =
    ap (λ (v : PassView). user_of stamp1 v) new ∙ ap (λ (p : ℕ). newcomer stamp1 p generation) same ∙ ap (λ (s : Option ℕ). newcomer s child_pid generation) stays

-- ---- the gate before it

-- the same with calls of the child's life before it and after it
pub served_among : {S : Type 0} (notes : List BookEntry → S → S → Type 0) (Text : Ending → List Turn → List ℕ → List ℕ → List BookEntry → Type 0) (decision : Cac) (generation : ℕ) (gives : ℕ → Type 0) (ending : Ending) (link0 link1 : LinkView) (unread0 unread1 : List ℕ) (store0 store1 store2 store3 : S) (at0 at1 : Attention)
    → GoesInTurn notes → notes [] store0 store1 → Serves notes Text decision generation gives ending (moment link0 unread0 store1 at0) (moment link1 unread1 store2 at1) → notes [] store2 store3
    → Serves notes Text decision generation gives ending (moment link0 unread0 store0 at0) (moment link1 unread1 store3 at1)
served_among notes Text decision generation gives ending link0 link1 unread0 unread1 store0 store1 store2 store3 at0 at1 in_turn before serves behind = record {
  turns = serves.turns;
  came = serves.came;
  went = serves.went;
  missing = serves.missing;
  whole = serves.whole;
  noted = serves.noted;
  text = serves.text;
  sent = serves.sent;
  cut = serves.cut;
  passes = serves.passes;
  entries = noted_still notes serves.noted store0 store2 store3 in_turn (in_turn store0 store1 store2 [] serves.noted before serves.entries) behind;
  asked = serves.asked;
  cancels = serves.cancels;
  unasked = serves.unasked;
  texts = serves.texts;
  beyond = serves.beyond;
  queries = serves.queries;
  slept = serves.slept;
  caused = serves.caused;
  heeds = serves.heeds;
}

-- an earlier moment of the child, and a later one
pub served_since : {S : Type 0} (notes : List BookEntry → S → S → Type 0) (Text : Ending → List Turn → List ℕ → List ℕ → List BookEntry → Type 0) (decision : Cac) (generation : ℕ) (gives : ℕ → Type 0) (ending : Ending) (link0 link1 : LinkView) (unread0 unread1 : List ℕ) (store0 store1 : S) (at0 at1 at2 at3 : Attention)
    → ((turns : List Turn) → HasAskedFor turns at1.told at2.told → HasAskedFor turns at0.told at2.told) → KeepsCancels at0.told at1.told → at3.told ≡ at2.told
    → Serves notes Text decision generation gives ending (moment link0 unread0 store0 at1) (moment link1 unread1 store1 at2) → Serves notes Text decision generation gives ending (moment link0 unread0 store0 at0) (moment link1 unread1 store1 at3)
served_since notes Text decision generation gives ending link0 link1 unread0 unread1 store0 store1 at0 at1 at2 at3 since keeps same serves = record {
  turns = serves.turns;
  came = serves.came;
  went = serves.went;
  missing = serves.missing;
  whole = serves.whole;
  noted = serves.noted;
  text = serves.text;
  sent = serves.sent;
  cut = serves.cut;
  passes = serves.passes;
  entries = serves.entries;
  asked = rw same (since serves.turns serves.asked);
  cancels = rw same (cancels_then at0.told at1.told at2.told keeps serves.cancels);
  unasked = serves.unasked;
  texts = serves.texts;
  beyond = serves.beyond;
  queries = serves.queries;
  slept = serves.slept;
  caused = λ limit sound slept. rw same (serves.caused limit sound slept);
  heeds = rw same serves.heeds;
}

-- what the gate answered changes nothing of what was asked
asked_behind : (first second : Told) (tried : Attempt) (turns : List Turn) (now : Option Told) → HasAsked 1 (Some first) (Some second) → HasAskedFor turns (Some (met_at_gate tried second)) now → HasAskedFor turns (Some first) now
asked_behind first second tried turns None one two = absurd two
asked_behind first second tried turns (Some now) one two = omega (arith, one.0, two)

pub asked_at_gate : (tried : Attempt) (turns : List Turn) (first second third fourth : Option Told) → HasAsked 1 first second → third ≡ option_map (met_at_gate tried) second → HasAskedFor turns third fourth → HasAskedFor turns first fourth
asked_at_gate tried turns None second third fourth one is two = tt
asked_at_gate tried turns (Some first) None third fourth one is two = absurd one
asked_at_gate tried turns (Some first) (Some second) third fourth one is two =
    asked_behind first second tried turns fourth one (subst (λ (t : Option Told). HasAskedFor turns t fourth) is two)

pub met_now : (is_ordinary : Bool) (answer : Result ℕ GateNo) (before now : Option Told) → now ≡ option_map (met_at_gate (attempt is_ordinary answer)) before → IfSome now (λ t. answer_met t ≡ Some answer)
met_now is_ordinary answer None now e = rw e tt
met_now is_ordinary answer (Some before) now e = rw e refl

-- ---- letting go

pub lets_go_by : (cause : Cause) (goes : Bool) (leaves stays : Type 0) → LetsGo cause (goes ≡ true) (goes ≡ false) → (goes ≡ true → leaves) → (goes ≡ false → stays) → LetsGo cause leaves stays
lets_go_by Terminated goes leaves stays is go stay = go is
lets_go_by Cancelling goes leaves stays is go stay = go is
lets_go_by LinkEnded goes leaves stays is go stay = go is
lets_go_by LinkFailed goes leaves stays is go stay = go is
lets_go_by TimedOut goes leaves stays is go stay = go is
lets_go_by (PacketRefused fault) goes leaves stays is go stay = go is
lets_go_by (MessageRefused fault) goes leaves stays is go stay = go is
lets_go_by DecisionRefused goes leaves stays is go stay = go is
lets_go_by (GateRefused refusal) goes leaves stays is go stay = go is
lets_go_by ShortOfMemory goes leaves stays is go stay = go is
lets_go_by Panicked goes leaves stays is go stay = stay is
lets_go_by ToldToTerminate goes leaves stays is go stay = go is
lets_go_by (ToldToQuit reason) goes leaves stays is go stay = stay is
lets_go_by Killed goes leaves stays is go stay = stay is
lets_go_by Overtaken goes leaves stays is go stay = stay is

-- ---- from the first byte on

came_so : (before now : Option Traffic) (came : List ℕ) → IsFresh before → Added came (came_in_of before) (came_in_of now) → IfSome now (λ t. t.came_in ≡ came)
came_so before None came fresh is = tt
came_so None (Some t) came fresh is = absurd cc
came_so (Some b) (Some t) came fresh is = let e : b.came_in ≡ [] = ap (λ (t : Traffic). t.came_in) fresh in let f : Some t.came_in ≡ Some (b.came_in ++ came) = is in let g : t.came_in ≡ b.came_in ++ came = cc in g ∙ ap (λ (l : List ℕ). l ++ came) e

went_so : (before now : Option Traffic) (went : List ℕ) → IsFresh before → Added went (went_out_of before) (went_out_of now) → IfSome now (λ t. t.went_out ≡ went)
went_so before None went fresh is = tt
went_so None (Some t) went fresh is = absurd cc
went_so (Some b) (Some t) went fresh is = let e : b.went_out ≡ [] = ap (λ (t : Traffic). t.went_out) fresh in let f : Some t.went_out ≡ Some (b.went_out ++ went) = is in let g : t.went_out ≡ b.went_out ++ went = cc in g ∙ ap (λ (l : List ℕ). l ++ went) e

told_so : (traffic : Option Traffic) (P Q : Traffic → Type 0) → ((t : Traffic) → P t → Q t) → IfSome traffic P → IfSome traffic Q
told_so None P Q more holds = tt
told_so (Some t) P Q more holds = more t holds

pub has_passed : (cut : Type 0) (came came_in went missing whole : List ℕ) (before now : LinkView) → IsFresh before.traffic → Passes came went before now → came ≡ came_in → whole ≡ went ++ missing → (missing ≡ []) ⊎ cut → HasPassed cut came_in whole now.traffic
has_passed cut came came_in went missing whole before now fresh passes is_in is_whole cause = record {
  missing = missing;
  read = told_so now.traffic (λ t. t.came_in ≡ came) (λ t. t.came_in ≡ came_in) (λ t e. e ∙ is_in) (came_so before.traffic now.traffic came fresh passes.came_in);
  sent = told_so now.traffic (λ t. t.went_out ≡ went) (λ t. t.went_out ++ missing ≡ whole) (λ t e. ap (λ (l : List ℕ). l ++ missing) e ∙ sym is_whole) (went_so before.traffic now.traffic went fresh passes.went_out);
  cause = cause;
}

told_stops : (phase : Phase) (ends : Cause) (at : Attention) (beyond : List ℕ) → IsTold ends at → StopsAt phase ends [] × MayPassOver ends beyond
told_stops phase Terminated at beyond told = absurd told
told_stops phase Cancelling at beyond told = absurd told
told_stops phase LinkEnded at beyond told = absurd told
told_stops phase LinkFailed at beyond told = absurd told
told_stops phase TimedOut at beyond told = absurd told
told_stops phase (PacketRefused fault) at beyond told = absurd told
told_stops phase (MessageRefused fault) at beyond told = absurd told
told_stops phase DecisionRefused at beyond told = absurd told
told_stops phase (GateRefused refusal) at beyond told = absurd told
told_stops phase ShortOfMemory at beyond told = absurd told
told_stops phase Panicked at beyond told = absurd told
told_stops phase ToldToTerminate at beyond told = (inl no_packet_yet, tt)
told_stops phase (ToldToQuit reason) at beyond told = (inl no_packet_yet, tt)
told_stops phase Killed at beyond told = (inl no_packet_yet, tt)
told_stops phase Overtaken at beyond told = absurd told

stops_at : (phase : Phase) (cause ends : Cause) (last beyond : List ℕ) (at : Attention) → StopsAt phase cause last → MayPassOver cause beyond → EndsBy cause ends at
    → (last_now : List ℕ) × (beyond_now : List ℕ) × StopsAt phase ends last_now × (last ++ beyond ≡ last_now ++ beyond_now) × MayPassOver ends beyond_now
stops_at phase cause ends last beyond at here over (inl e) = (
  last,
  beyond,
  subst (λ (c : Cause). StopsAt phase c last) (sym e) here,
  refl,
  subst (λ (c : Cause). MayPassOver c beyond) (sym e) over,
)
stops_at phase cause ends last beyond at here over (inr told) =
    let end = told_stops phase ends at (last ++ beyond) told.1 in ([], last ++ beyond, end.0, refl, end.1)

-- a session that no packet started
pub stopped_session : {S : Type 0} (notes : List BookEntry → S → S → Type 0) (decision : Cac) (user : User) (key : ℕ) (gives : ℕ → Type 0) (limit : ℕ) (cause : Cause) (ending : Ending) (link0 link1 link2 : LinkView) (unread1 : List ℕ) (store0 store2 : S) (at0 at1 at2 : Attention) → notes [] store0 store2
    → IsFresh link0.traffic → Enters gives limit (Err cause) (outside link0 [] at0) (outside link1 unread1 at1) → ending.stage ≡ Outside → Closes decision cause ending (outside link1 [] at1) (outside link2 [] at2)
    → IsSession notes decision user key [] ending (HasFailed link0 link2) (between link2.traffic store0 store2)
stopped_session notes decision user key gives limit cause ending link0 link1 link2 unread1 store0 store2 at0 at1 at2 rests fresh enters stage closes =
    let last = last_messages decision ending in
    let stops = stopped gives limit cause enters.phase enters.last enters.beyond enters.missing (outside link0 [] at0) (outside link1 unread1 at1) enters.goes_on in
    let split = stops_at enters.phase cause ending.cause enters.last enters.beyond at2 stops.0 stops.1 closes.ends in
    let sent = sent_both (map (λ p. 78) enters.requests) (bytes_of last) enters.went enters.missing closes.went closes.missing (CutsOff ending.exit) (CutsOff ending.exit ⊎ HasFailed link1 link2) enters.output closes.whole
    (all_cut decision cause ending at2 enters.missing stops.2 closes.ends) closes.cut in
    let passes : Passes enters.came (enters.went ++ closes.went) link0 link2 =
    subst (λ (i : List ℕ). Passes i (enters.went ++ closes.went) link0 link2) (append-nil enters.came) (passes_both enters.came enters.went [] closes.went link0 link1 link2 enters.passes closes.passes) in
    record {
      came_in = enters.came;
      whole = map (λ p. 78) enters.requests ++ bytes_of last;
      noted = [];
      text = inl (
        record {
          requests = enters.requests;
          phase = enters.phase;
          last = split.0;
          beyond = split.1;
          admitted = subst (λ (s : Stage). IsAdmitted s decision) (sym stage) tt;
          asks = enters.asks;
          stops = turns_away user ending.stage enters.phase ending.cause split.0 split.2;
          start = subst (λ (s : Stage). IsBehindStart s split.0) (sym stage) tt;
          input = enters.input ∙ split_input (flat_map (λ p. p) enters.requests) enters.last enters.beyond split.0 split.1 split.3;
          passes_over = split.4;
          output = refl;
          notes = subst (λ (s : Stage). NotesOutside user s ending.exit []) (sym stage) refl;
        },
        refl,
      );
      passed = has_passed (CutsOff ending.exit ⊎ HasFailed link0 link2) enters.came enters.came (enters.went ++ closes.went) sent.0 (map (λ p. 78) enters.requests ++ bytes_of last) link0 link2 fresh passes refl sent.1
          (cut_since ending.exit sent.0 link0 link1 link2 enters.passes.later sent.2);
      entries = rests;
    }

none_slept : (gives : ℕ → Type 0) (traffic : Option Traffic) → IfSome traffic (λ t. HasSlept gives [] t.came_in)
none_slept gives None = tt
none_slept gives (Some t) = tt

-- what came in after the startup packet tells the sleeps of all that came in
came_slept : (gives : ℕ → Type 0) (requests : List (List ℕ)) (phase : Phase) (packet came : List ℕ) (turns : List Turn) (texts : List (List ℕ)) (beyond : List ℕ) → AskInTurn first_phase requests phase → IsStart packet
    → AllSleep gives texts turns → came ≡ flat_map query_bytes texts ++ beyond → HasSlept gives turns (flat_map (λ p. p) requests ++ packet ++ came)
came_slept gives requests phase packet came [] texts beyond asks start slept queries = tt
came_slept gives requests phase packet came (turn ∷ turns) texts beyond asks start slept queries = record {
  requests = requests;
  phase = phase;
  packet = packet;
  texts = texts;
  beyond = beyond;
  asks = asks;
  start = start;
  slept = slept;
  input = ap (λ (l : List ℕ). (flat_map (λ p. p) requests ++ packet) ++ l) queries ∙ sym (append_assoc (flat_map (λ p. p) requests ++ packet) (flat_map query_bytes texts) beyond);
}

slept_at : (gives : ℕ → Type 0) (turns : List Turn) (came_in : List ℕ) (traffic : Option Traffic) → IfSome traffic (λ t. t.came_in ≡ came_in) → HasSlept gives turns came_in → IfSome traffic (λ t. HasSlept gives turns t.came_in)
slept_at gives turns came_in None is slept = tt
slept_at gives turns came_in (Some t) is slept = subst (HasSlept gives turns) (sym is) slept

-- at the limit of time nothing is said, so that the link is as it was read
late_caused : (decision : Cac) (cause : Cause) (ending : Ending) (link0 link1 link2 : LinkView) (unread1 : List ℕ) (at0 at1 at2 : Attention) (limit : ℕ) (gives : ℕ → Type 0) (phase : Phase) (last beyond missing : List ℕ) → cause ≡ TimedOut
    → GoesOn gives limit (Err TimedOut) phase last beyond missing (outside link0 [] at0) (outside link1 unread1 at1) → Closes decision cause ending (outside link1 [] at1) (outside link2 [] at2) → CausedBy cause decision link2.traffic (HasFailed link0 link2) at2.told limit gives
late_caused decision cause ending link0 link1 link2 unread1 at0 at1 at2 limit gives phase last beyond missing is late closes =
    let fails : status_by cause ≢ statuses.Code 0 = subst (λ (c : Cause). status_by c ≢ statuses.Code 0) (sym is) (λ e. let f : statuses.Code 1 ≡ statuses.Code 0 = e in absurd cc) in
    let ends : ending.cause ≡ TimedOut = same_cause cause ending.cause at2 fails closes.ends ∙ is in
    let still : link2 ≡ link1 = closes.silent (ap (λ (c : Cause). last_of decision ending.stage c) ends) in
    subst (λ (c : Cause). CausedBy c decision link2.traffic (HasFailed link0 link2) at2.told limit gives) (sym is) (subst WasRead (sym still) late.3, late.4)

pub stopped_caused : (decision : Cac) (generation : ℕ) (cause : Cause) (ending : Ending) (link0 link1 link2 : LinkView) (unread1 : List ℕ) (at0 at1 at2 : Attention) (limit : ℕ) (gives : ℕ → Type 0) → IsFresh link0.traffic → Enters gives limit (Err cause) (outside link0 [] at0) (outside link1 unread1 at1) → ending.stage ≡ Outside
    → Closes decision cause ending (outside link1 [] at1) (outside link2 [] at2) → IsUntried at2.told → IsCaused ending [] generation decision link2.traffic (HasFailed link0 link2) at2.told limit gives
stopped_caused decision generation cause ending link0 link1 link2 unread1 at0 at1 at2 limit gives fresh enters stage closes untried =
    let caused : CausedBy cause decision link2.traffic (HasFailed link0 link2) at2.told limit gives =
    elim (stops_by_time gives limit cause enters.phase enters.last enters.beyond enters.missing (outside link0 [] at0) (outside link1 unread1 at1) enters.goes_on) [
      | inl (is, late) ↦ late_caused decision cause ending link0 link1 link2 unread1 at0 at1 at2 limit gives enters.phase enters.last enters.beyond enters.missing is late closes
      | inr stops ↦ shown_caused cause link0 link1 link2 at1 at2 decision limit gives stops.3 closes.passes.ended closes.passes.later closes.hears.given
    ] in
    let at_end = ends_caused cause ending.cause at2 decision link2.traffic (HasFailed link0 link2) limit gives closes.ends caused in
    record {
      cause = at_end;
      exit = exit_caused ending at2 decision link2.traffic (HasFailed link0 link2) limit gives closes.killed at_end;
      gate = subst (λ (s : Stage). HasEntered s generation at2.told) (sym stage) tt;
      out = out_untried ending.stage ending.cause at2.told stage untried;
      heeded = none_heed at2.told;
      sound = closes.sound (enters.holds (fresh_sound link0.traffic fresh));
      slept = none_slept gives link2.traffic;
    }

cut_or : (exit : Cause) (missing : List ℕ) (link1 link2 : LinkView) → (missing ≡ []) ⊎ (⊥ ⊎ (CutsOff exit ⊎ HasFailed link1 link2)) → (missing ≡ []) ⊎ (CutsOff exit ⊎ (CutsOff exit ⊎ HasFailed link1 link2))
cut_or exit missing link1 link2 (inl none) = inl none
cut_or exit missing link1 link2 (inr (inl none)) = absurd none
cut_or exit missing link1 link2 (inr (inr h)) = inr (inr h)

starts_of : (is_ordinary : Bool) (packet : List ℕ) → IsStartOf is_ordinary packet → IsStart packet
starts_of is_ordinary packet start = (start.0, start.1)

-- a session that a packet started
pub started_session : {S : Type 0} (notes : List BookEntry → S → S → Type 0) (decision : Cac) (user : User) (key generation : ℕ) (gives : ℕ → Type 0) (limit : ℕ) (is_ordinary : Bool) (ending : Ending) (link0 link1 link2 : LinkView) (unread1 unread2 : List ℕ) (store1 store2 : S) (at0 at1 at2 : Attention) → IsFresh link0.traffic
    → Enters gives limit (Ok is_ordinary) (outside link0 [] at0) (outside link1 unread1 at1) → (serves : Serves notes (IsTextBehind decision user key) decision generation gives ending (moment link1 unread1 store1 at1) (moment link2 unread2 store2 at2))
    → IsSession notes decision user key serves.turns ending (HasFailed link0 link2) (between link2.traffic store1 store2)
started_session notes decision user key generation gives limit is_ordinary ending link0 link1 link2 unread1 unread2 store1 store2 at0 at1 at2 fresh enters serves =
    let requests = flat_map (λ p. p) enters.requests in
    let answers = map (λ p. 78) enters.requests in
    let came : enters.came ≡ requests ++ enters.last ++ unread1 = enters.input ∙ ap (λ (l : List ℕ). requests ++ enters.last ++ l) enters.goes_on.1 in
    let all_came : enters.came ++ serves.came ≡ requests ++ enters.last ++ (unread1 ++ serves.came) =
    ap (λ (l : List ℕ). l ++ serves.came) came ∙ append_assoc (requests ++ enters.last) unread1 serves.came in
    let sent = sent_both answers serves.whole enters.went enters.missing serves.went serves.missing ⊥ (CutsOff ending.exit ⊎ HasFailed link1 link2) enters.output serves.sent (inl enters.goes_on.2) serves.cut in
    record {
      came_in = requests ++ enters.last ++ (unread1 ++ serves.came);
      whole = answers ++ serves.whole;
      noted = serves.noted;
      text = serves.text enters.requests enters.phase enters.last enters.asks (starts_of is_ordinary enters.last enters.goes_on.0);
      passed = has_passed (CutsOff ending.exit ⊎ HasFailed link0 link2) (enters.came ++ serves.came) (requests ++ enters.last ++ (unread1 ++ serves.came)) (enters.went ++ serves.went) sent.0 (answers ++ serves.whole) link0 link2 fresh
          (passes_both enters.came enters.went serves.came serves.went link0 link1 link2 enters.passes serves.passes) all_came sent.1
          (cut_since ending.exit sent.0 link0 link1 link2 enters.passes.later (cut_or ending.exit sent.0 link1 link2 sent.2));
      entries = serves.entries;
    }

pub started_slept : {S : Type 0} (notes : List BookEntry → S → S → Type 0) (decision : Cac) (user : User) (key generation : ℕ) (gives : ℕ → Type 0) (limit : ℕ) (is_ordinary : Bool) (ending : Ending) (link0 link1 link2 : LinkView) (unread1 unread2 : List ℕ) (store1 store2 : S) (at0 at1 at2 : Attention) → IsFresh link0.traffic
    → Enters gives limit (Ok is_ordinary) (outside link0 [] at0) (outside link1 unread1 at1) → (serves : Serves notes (IsTextBehind decision user key) decision generation gives ending (moment link1 unread1 store1 at1) (moment link2 unread2 store2 at2))
    → IfSome link2.traffic (λ t. HasSlept gives serves.turns t.came_in)
unfolding started_session
started_slept notes decision user key generation gives limit is_ordinary ending link0 link1 link2 unread1 unread2 store1 store2 at0 at1 at2 fresh enters serves =
    let session = started_session notes decision user key generation gives limit is_ordinary ending link0 link1 link2 unread1 unread2 store1 store2 at0 at1 at2 fresh enters serves in
    slept_at gives serves.turns session.came_in link2.traffic session.passed.read
    (came_slept gives enters.requests enters.phase enters.last (unread1 ++ serves.came) serves.turns serves.texts serves.beyond enters.asks (starts_of is_ordinary enters.last enters.goes_on.0) serves.slept serves.queries)

caused_more : (cause : Cause) (decision : Cac) (traffic : Option Traffic) (before now : Type 0) (told : Option Told) (limit : ℕ) (gives : ℕ → Type 0) → (before → now) → CausedBy cause decision traffic before told limit gives → CausedBy cause decision traffic now told limit gives
caused_more Terminated decision traffic before now told limit gives more caused = caused
caused_more Cancelling decision traffic before now told limit gives more caused = caused
caused_more LinkEnded decision traffic before now told limit gives more caused = caused
caused_more LinkFailed decision traffic before now told limit gives more caused = more caused
caused_more TimedOut decision traffic before now told limit gives more caused = caused
caused_more (PacketRefused fault) decision traffic before now told limit gives more caused = caused
caused_more (MessageRefused fault) decision traffic before now told limit gives more caused = caused
caused_more DecisionRefused decision traffic before now told limit gives more caused = caused
caused_more (GateRefused refusal) decision traffic before now told limit gives more caused = caused
caused_more ShortOfMemory decision traffic before now told limit gives more caused = caused
caused_more Panicked decision traffic before now told limit gives more caused = caused
caused_more ToldToTerminate decision traffic before now told limit gives more caused = caused
caused_more (ToldToQuit reason) decision traffic before now told limit gives more caused = caused
caused_more Killed decision traffic before now told limit gives more caused = caused
caused_more Overtaken decision traffic before now told limit gives more caused = caused

caused_since : (ending : Ending) (turns : List Turn) (generation : ℕ) (decision : Cac) (traffic : Option Traffic) (before now : Type 0) (told : Option Told) (limit : ℕ) (gives : ℕ → Type 0) → (before → now) → IsCaused ending turns generation decision traffic before told limit gives
    → IsCaused ending turns generation decision traffic now told limit gives
caused_since ending turns generation decision traffic before now told limit gives more caused = record {
  cause = caused_more ending.cause decision traffic before now told limit gives more caused.cause;
  exit = caused_more ending.exit decision traffic before now told limit gives more caused.exit;
  gate = caused.gate;
  out = caused.out;
  heeded = caused.heeded;
  sound = caused.sound;
  slept = caused.slept;
}

pub failed_since : (first second third : LinkView) → first.faults ≤ second.faults → HasFailed second third → HasFailed first third
failed_since first second third later failed = omega (arith, later, failed)

pub started_caused : (gives : ℕ → Type 0) (ending : Ending) (turns : List Turn) (generation : ℕ) (decision : Cac) (link0 link1 link2 : LinkView) (told : Option Told) (limit : ℕ) → link0.faults ≤ link1.faults
    → IsCaused ending turns generation decision link2.traffic (HasFailed link1 link2) told limit gives → IsCaused ending turns generation decision link2.traffic (HasFailed link0 link2) told limit gives
started_caused gives ending turns generation decision link0 link1 link2 told limit later caused =
    caused_since ending turns generation decision link2.traffic (HasFailed link1 link2) (HasFailed link0 link2) told limit gives (failed_since link0 link1 link2 later) caused

-- ---- cancels

pub none_made : (cause : Cause) (link : Option Traffic) (told : Option Told) → HasNoCancel told → cause ≢ Cancelling → HasCancelled cause link told
none_made cause link None none other = record { sent = tt; made = λ e. tt }
none_made cause None (Some told) none other = record { sent = tt; made = λ e. absurd (other e) }
none_made cause (Some traffic) (Some told) none other = record { sent = inl none; made = λ e. absurd (other e) }

one_made : (ends : Cause) (pid key : ℕ) (came : List ℕ) (link : Option Traffic) (told : Option Told) → IfSome link (λ traffic. traffic.came_in ≡ came) → AsksCancel came pid key → HasCancels ((pid, key) ∷ []) told → HasCancelled ends link told
one_made ends pid key came link None came_in asks is = record { sent = tt; made = λ e. tt }
one_made ends pid key came None (Some told) came_in asks is = record { sent = tt; made = λ e none. let never : [] ≡ (pid, key) ∷ [] = sym none ∙ is in absurd cc }
one_made ends pid key came (Some traffic) (Some told) came_in asks is = record {
  sent = inr (pid, key, subst (λ (l : List ℕ). AsksCancel l pid key) (sym came_in) asks, is);
  made = λ e none. let never : [] ≡ (pid, key) ∷ [] = sym none ∙ is in absurd cc;
}

made_one : (pid key : ℕ) (heard now : Option Told) → now ≡ option_map (asked_cancel pid key) heard → HasNoCancel heard → HasCancels ((pid, key) ∷ []) now
made_one pid key None now is none = rw is tt
made_one pid key (Some told) now is none = rw is (ap (λ (l : List (ℕ × ℕ)). l ++ (pid, key) ∷ []) none)

asks_cases : (cause : Cause) (last : List ℕ) (before now : Option Told) → AsksToCancel (Err cause) last before now
    → ((pid : ℕ) × (key : ℕ) × Decides last (Ok (cancel_request pid key)) × (now ≡ option_map (asked_cancel pid key) before)) ⊎ ((cause ≢ Cancelling) × KeepsCancels before now)
asks_cases Cancelling last before now asks = inl asks
asks_cases Terminated last before now asks = inr (λ e. absurd cc, asks)
asks_cases LinkEnded last before now asks = inr (λ e. absurd cc, asks)
asks_cases LinkFailed last before now asks = inr (λ e. absurd cc, asks)
asks_cases TimedOut last before now asks = inr (λ e. absurd cc, asks)
asks_cases (PacketRefused fault) last before now asks = inr (λ e. absurd cc, asks)
asks_cases (MessageRefused fault) last before now asks = inr (λ e. absurd cc, asks)
asks_cases DecisionRefused last before now asks = inr (λ e. absurd cc, asks)
asks_cases (GateRefused refusal) last before now asks = inr (λ e. absurd cc, asks)
asks_cases ShortOfMemory last before now asks = inr (λ e. absurd cc, asks)
asks_cases Panicked last before now asks = inr (λ e. absurd cc, asks)
asks_cases ToldToTerminate last before now asks = inr (λ e. absurd cc, asks)
asks_cases (ToldToQuit reason) last before now asks = inr (λ e. absurd cc, asks)
asks_cases Killed last before now asks = inr (λ e. absurd cc, asks)
asks_cases Overtaken last before now asks = inr (λ e. absurd cc, asks)

ends_not : (cause ends : Cause) (at : Attention) → cause ≢ Cancelling → EndsBy cause ends at → ends ≢ Cancelling
ends_not cause ends at other (inl same) e = other (sym same ∙ e)
ends_not cause ends at other (inr told) e = subst (λ (c : Cause). IsTold c at) e told.1

-- what a session asked for that no packet started
pub stopped_made : (gives : ℕ → Type 0) (limit : ℕ) (decision : Cac) (cause : Cause) (ending : Ending) (link0 link1 link2 : LinkView) (unread1 : List ℕ) (at0 at1 at2 : Attention) → IsFresh link0.traffic → HasNoCancel at0.told → Enters gives limit (Err cause) (outside link0 [] at0) (outside link1 unread1 at1)
    → Closes decision cause ending (outside link1 [] at1) (outside link2 [] at2) → HasCancelled ending.cause link2.traffic at2.told
stopped_made gives limit decision cause ending link0 link1 link2 unread1 at0 at1 at2 fresh none enters closes =
    let passes : Passes enters.came (enters.went ++ closes.went) link0 link2 =
    subst (λ (i : List ℕ). Passes i (enters.went ++ closes.went) link0 link2) (append-nil enters.came) (passes_both enters.came enters.went [] closes.went link0 link1 link2 enters.passes closes.passes) in
    let heard_none : HasNoCancel enters.heard.told = cancels_still 0 [] at0.told enters.heard.told enters.hears.asked enters.hears.cancels none in
    elim (asks_cases cause enters.last enters.heard.told at1.told enters.cancels) [
      | inl (pid, key, decides, is) ↦ one_made ending.cause pid key enters.came link2.traffic at2.told (came_so link0.traffic link2.traffic enters.came fresh passes.came_in)
          (record { requests = enters.requests; phase = enters.phase; packet = enters.last; beyond = enters.beyond; asks = enters.asks; whole = decides; input = enters.input })
          (cancels_still 1 ((pid, key) ∷ []) at1.told at2.told closes.hears.asked closes.hears.cancels (made_one pid key enters.heard.told at1.told is heard_none))
      | inr (other, keeps) ↦ none_made ending.cause link2.traffic at2.told
          (cancels_still 1 [] at1.told at2.told closes.hears.asked closes.hears.cancels
          (cancels_still 0 [] at0.told at1.told enters.attends.asked (cancels_then at0.told enters.heard.told at1.told enters.hears.cancels keeps) none)) (ends_not cause ending.cause at2 other closes.ends)
    ]

pub no_cancel_kept : (before now : Option Told) → KeepsCancels before now → HasNoCancel before → HasNoCancel now
no_cancel_kept None now keeps none = let e : now ≡ None = keeps in rw e tt
no_cancel_kept (Some before) None keeps none = absurd keeps
no_cancel_kept (Some before) (Some now) keeps none = keeps ∙ none

-- and one that a packet started
pub started_made : (gives : ℕ → Type 0) (limit : ℕ) (is_ordinary : Bool) (ending : Ending) (link0 link1 link2 : LinkView) (unread1 : List ℕ) (at0 at1 at2 : Attention) (times : ℕ) → HasNoCancel at0.told → Enters gives limit (Ok is_ordinary) (outside link0 [] at0) (outside link1 unread1 at1) → (HasNoCancel at1.told → HasNoCancel at2.told)
    → ending.cause ≢ Cancelling → HasCancelled ending.cause link2.traffic at2.told
started_made gives limit is_ordinary ending link0 link1 link2 unread1 at0 at1 at2 times none enters still other =
    none_made ending.cause link2.traffic at2.told (still (cancels_still 0 [] at0.told at1.told enters.attends.asked (cancels_then at0.told enters.heard.told at1.told enters.hears.cancels enters.cancels) none)) other

-- ---- as whom it came to the gate

pub never_come : (link : Option Traffic) (told : Option Told) → IsUntried told → HasCome link told
never_come link None untried = tt
never_come link (Some told) untried = subst (λ (met : Option Attempt). IfSome met (λ tried. IfSome link (λ traffic. ComesAs tried traffic.came_in))) (sym untried) tt

come_so : (is_ordinary : Bool) (came_in : List ℕ) (link : Option Traffic) (met : Option Attempt) → ((tried : Attempt) → tried.is_ordinary ≡ is_ordinary → ComesAs tried came_in) → IfSome link (λ t. t.came_in ≡ came_in)
    → IfSome met (λ tried. tried.is_ordinary ≡ is_ordinary) → IfSome met (λ tried. IfSome link (λ traffic. ComesAs tried traffic.came_in))
come_so is_ordinary came_in link None comes is came = tt
come_so is_ordinary came_in None (Some tried) comes is came = tt
come_so is_ordinary came_in (Some traffic) (Some tried) comes is came = subst (λ (l : List ℕ). ComesAs tried l) (sym is) (comes tried came)

has_come : (is_ordinary : Bool) (came_in : List ℕ) (link : Option Traffic) (told : Option Told) → ((tried : Attempt) → tried.is_ordinary ≡ is_ordinary → ComesAs tried came_in) → IfSome link (λ t. t.came_in ≡ came_in) → HasComeAs is_ordinary told → HasCome link told
has_come is_ordinary came_in link None comes is came = tt
has_come is_ordinary came_in link (Some told) comes is came = come_so is_ordinary came_in link told.met comes is came

-- as the user whom its startup packet names
pub started_come : {S : Type 0} (notes : List BookEntry → S → S → Type 0) (decision : Cac) (user : User) (key generation : ℕ) (gives : ℕ → Type 0) (limit : ℕ) (is_ordinary : Bool) (ending : Ending) (link0 link1 link2 : LinkView) (unread1 unread2 : List ℕ) (store1 store2 : S) (at0 at1 at2 : Attention) → IsFresh link0.traffic
    → Enters gives limit (Ok is_ordinary) (outside link0 [] at0) (outside link1 unread1 at1) → (serves : Serves notes (IsTextBehind decision user key) decision generation gives ending (moment link1 unread1 store1 at1) (moment link2 unread2 store2 at2))
    → HasComeAs is_ordinary at2.told → HasCome link2.traffic at2.told
unfolding started_session
started_come notes decision user key generation gives limit is_ordinary ending link0 link1 link2 unread1 unread2 store1 store2 at0 at1 at2 fresh enters serves came =
    let session = started_session notes decision user key generation gives limit is_ordinary ending link0 link1 link2 unread1 unread2 store1 store2 at0 at1 at2 fresh enters serves in
    has_come is_ordinary session.came_in link2.traffic at2.told
    (λ tried same. record {
      requests = enters.requests;
      phase = enters.phase;
      packet = enters.last;
      beyond = unread1 ++ serves.came;
      asks = enters.asks;
      start = subst (λ (o : Bool). IsStartOf o enters.last) (sym same) enters.goes_on.0;
      input = refl;
    }) session.passed.read came

-- ---- the whole, as its caller sees it

-- memory was short before the first byte
pub connected_not : {S P : Type 0} (its : Store.Ghosts S P) (admission : Admission) (gives : ℕ → Type 0) (limit : ℕ) (exit : Cause) (link0 link1 : LinkView) (store0 store1 : S) (at0 at1 : Attention) → its.notes [] store0 store1
    → IsFresh link0.traffic → at0.child.attached ≡ None → IfSome at0.told (λ t. t ≡ nothing_told) → ClosesBy admission.decision Outside ShortOfMemory exit (outside link0 [] at0) (outside link1 [] at1)
    → Connected its admission gives limit exit (moment link0 [] store0 at0) (moment link1 [] store1 at1)
connected_not its admission gives limit exit link0 link1 store0 store1 at0 at1 rests fresh free untold (ending, stage, exits, closes) = (
  ending,
  [],
  0,
  exits,
  stopped_session its.notes admission.decision (newcomer (its.stamp store0) at0.child.pid 0) admission.key gives limit ShortOfMemory ending link0 link0 link1 [] store0 store1 at0 at0 at1 rests fresh (enters_not gives limit link0 at0) stage closes,
  stopped_caused admission.decision 0 ShortOfMemory ending link0 link0 link1 [] at0 at0 at1 limit gives fresh (enters_not gives limit link0 at0) stage closes (untried_still 1 at0.told at1.told closes.hears.asked (new_untried at0.told untold)),
  asked_for 1 [] at0.told at1.told (omega arith) closes.hears.asked,
  attached_outside ending.stage (at1.child.attached ≡ None) (LetsGo ending.exit (at1.child.attached ≡ None) (at1.child.attached ≡ Some 0)) stage (ap (λ (child : Child). child.attached) closes.hears.child ∙ free),
  stopped_made gives limit admission.decision ShortOfMemory ending link0 link0 link1 [] at0 at0 at1 fresh (new_no_cancel at0.told untold) (enters_not gives limit link0 at0) closes,
  closes.heeds,
  ending_overtaken (its.met store1) 0 ShortOfMemory ending at1 closes.ends (λ e. absurd cc),
  never_come link1.traffic at1.told (untried_still 1 at0.told at1.told closes.hears.asked (new_untried at0.told untold)),
)

-- The link and the work that were given and are given back.
pub record Handed {S : Type 0} (link0 link1 given back : LinkView) (store0 store1 work0 work1 : S) (at0 at1 : Attention) (told0 told1 : Option Told) (child0 child1 : Child) : Type 0 where
  pub link_given : link0 ≡ given
  pub link_back : link1 ≡ back
  pub work_given : store0 ≡ work0
  pub work_back : work1 ≡ store1
  pub told_given : at0.told ≡ told0
  pub told_back : told1 ≡ at1.told
  pub child_given : at0.child ≡ child0
  pub child_back : child1 ≡ at1.child

pub connected_as : {S P : Type 0} (its : Store.Ghosts S P) (admission : Admission) (gives : ℕ → Type 0) (exit : Cause) (status : Status) (limit : ℕ) (link0 link1 given back : LinkView) (unread0 unread1 : List ℕ) (store0 store1 work0 work1 : S) (at0 at1 : Attention)
    (told0 told1 : Option Told) (child0 child1 : Child) → Handed link0 link1 given back store0 store1 work0 work1 at0 at1 told0 told1 child0 child1 → status ≡ status_by exit → Connected its admission gives limit exit (moment link0 unread0 store0 at0) (moment link1 unread1 store1 at1)
    → (ending : Ending) × (turns : List Turn) × (generation : ℕ) × (status ≡ status_of ending)
    × IsSession its.notes admission.decision (newcomer (its.stamp work0) child0.pid generation) admission.key turns ending (HasFailed given back) (between back.traffic work0 work1)
    × IsCaused ending turns generation admission.decision back.traffic (HasFailed given back) told1 limit gives × HasAskedFor turns told0 told1
    × IsAttachedBehind ending generation child1.attached × HasCancelled ending.cause back.traffic told1 × IsOvertakenBy (its.met work1) generation ending.exit × HasCome back.traffic told1
connected_as its admission gives exit status limit link0 link1 given back unread0 unread1 store0 store1 work0 work1 at0 at1 told0 told1 child0 child1 handed is s =
    rw (← handed.link_given, ← handed.link_back, ← handed.work_given, handed.work_back, ← handed.told_given, handed.told_back, ← handed.child_given, handed.child_back) (s.0, s.1, s.2, is ∙ ap status_by (sym s.3), s.4, s.5, s.6, s.7, s.8, s.10, s.11)

pub connected_heeds : {S P : Type 0} (its : Store.Ghosts S P) (admission : Admission) (gives : ℕ → Type 0) (limit : ℕ) (exit : Cause) (status : Status) (before now : Moment S) (told : Option Told) → status ≡ status_by exit → told ≡ now.child.told
    → Connected its admission gives limit exit before now → Heeds status told
connected_heeds its admission gives limit exit status before now told is same s =
    let status_is : status ≡ status_of s.0 = is ∙ ap status_by (sym s.3) in
    rw (status_is, same) s.9
