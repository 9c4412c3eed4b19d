-- Steps of a session: a wait, a message, an end.
use Rattle.std.proofs.{Common.{◌≡◌, inl, inr, ℕ, ◌<◌, ◌≤◌, List, [], ◌∷◌, ◌++◌, length, drop, Result, Ok, Err, refl, sym, ◌∙◌, ap, subst, arith, length-append}, lemmas.List.append-nil}
use Rattle.pm_session_exchange.{specs.{pm_query.{declared.book.BookEntry.BookEntry, Calls.User}, declared.ending.{MessageFault.TheVariants.BadLength, Cause.{Cause, TheVariants.{Terminated, Cancelling, LinkEnded, LinkFailed, TimedOut, PacketRefused, MessageRefused, DecisionRefused, GateRefused, ShortOfMemory, Panicked, ToldToTerminate, ToldToQuit, Killed, Overtaken}}}, Exchange.{LinkView, Passes}, Moments.{moment, IsBreak, IsSignal, Comes}}, proofs.{LinkLaws.passes_none, SentLaws.bytes_of-none}}
use Rattle.pm_wire.specs.{Numbers.length_int32, Frontend.{IsUndecided, IsBadHeader, BeginsBadly}}
use Rattle.pm_child_life.{specs.Attention.{Attention, Hears}, proofs.AttentionLaws.{hears_both, hears_fewer}}
use Rattle.pm_session.{specs.{Session.MayPassOver, Conversation.Conversed, Turns.Converses}, proofs.{Heeding.heed_none, Conversing.{nothing_among, nothing_yet, nothing_beyond, broken_ends, ends_here}}}

signal_breaks : (cause : Cause) → IsSignal cause → IsBreak cause
signal_breaks Terminated signal = absurd signal
signal_breaks Cancelling signal = absurd signal
signal_breaks LinkEnded signal = absurd signal
signal_breaks LinkFailed signal = absurd signal
signal_breaks TimedOut signal = absurd signal
signal_breaks (PacketRefused fault) signal = absurd signal
signal_breaks (MessageRefused fault) signal = absurd signal
signal_breaks DecisionRefused signal = absurd signal
signal_breaks (GateRefused refusal) signal = absurd signal
signal_breaks ShortOfMemory signal = absurd signal
signal_breaks Panicked signal = absurd signal
signal_breaks ToldToTerminate signal = tt
signal_breaks (ToldToQuit reason) signal = tt
signal_breaks Killed signal = tt
signal_breaks Overtaken signal = absurd signal

signal_beyond : (cause : Cause) (beyond : List ℕ) → IsSignal cause → MayPassOver cause beyond
signal_beyond Terminated beyond signal = absurd signal
signal_beyond Cancelling beyond signal = absurd signal
signal_beyond LinkEnded beyond signal = absurd signal
signal_beyond LinkFailed beyond signal = absurd signal
signal_beyond TimedOut beyond signal = absurd signal
signal_beyond (PacketRefused fault) beyond signal = absurd signal
signal_beyond (MessageRefused fault) beyond signal = absurd signal
signal_beyond DecisionRefused beyond signal = absurd signal
signal_beyond (GateRefused refusal) beyond signal = absurd signal
signal_beyond ShortOfMemory beyond signal = absurd signal
signal_beyond Panicked beyond signal = absurd signal
signal_beyond ToldToTerminate beyond signal = tt
signal_beyond (ToldToQuit reason) beyond signal = tt
signal_beyond Killed beyond signal = tt
signal_beyond Overtaken beyond signal = absurd signal

-- a signal ended the session before a message was taken
pub stops_here : {S : Type 0} (notes : List BookEntry → S → S → Type 0) (gives : ℕ → Type 0) (user : User) (cause : Cause) (unread : List ℕ) (link : LinkView) (store_before store_now : S) (child_before child_now : Attention) → IsSignal cause → notes [] store_before store_now
    → Hears 1 child_before child_now → Conversed notes gives user cause (moment link unread store_before child_before) (moment link unread store_now child_now)
stops_here notes gives user cause unread link store_before store_now child_before child_now signal rests heard =
    ends_here notes gives user cause [] [] 1 (moment link unread store_before child_before) (moment link unread store_now child_now) (broken_ends user cause [] (signal_breaks cause signal) nothing_yet) (signal_beyond cause unread signal)
    (append-nil unread) (passes_none link) rests heard

-- bytes came in, or the wait for them was broken off
pub waited : {S : Type 0} (notes : List BookEntry → S → S → Type 0) (gives : ℕ → Type 0) (user : User) (wanted : ℕ) (result : Result (Unit {0}) Cause) (unread_before unread_now : List ℕ) (link_before link_now : LinkView) (store_before store_now : S)
    (child_before child_between child_now : Attention) → notes [] store_before store_now → Hears 1 child_before child_between → Hears 0 child_between child_now → Comes wanted result unread_before unread_now link_before link_now
    → ((more : List ℕ) → length (unread_before ++ more) < wanted → IsUndecided (unread_before ++ more))
    → Converses notes gives user result (moment link_before unread_before store_before child_before) (moment link_now unread_now store_now child_now)
waited notes gives user wanted (Ok done) unread_before unread_now link_before link_now store_before store_now child_before child_between child_now rests heard more_heard comes undecided = record {
  texts = [];
  turns = [];
  asked = [];
  came = comes.came;
  each = refl;
  input = sym comes.unread;
  passes = subst (λ (l : List ℕ). Passes comes.came l link_before link_now) (sym bytes_of-none) comes.passes;
  entries = rests;
  hears = hears_fewer 0 1 child_before child_now (hears_both 1 0 child_before child_between child_now heard more_heard);
  read = tt;
  slept = tt;
  heeded = heed_none 0 child_before.told child_now.told (hears_fewer 0 1 child_before child_now (hears_both 1 0 child_before child_between child_now heard more_heard)).asked;
  cancelled = λ turn among is. absurd (nothing_among turn among);
}
waited notes gives user wanted (Err cause) unread_before unread_now link_before link_now store_before store_now child_before child_between child_now rests heard more_heard comes undecided =
    let why = comes.unread in
    ends_here notes gives user cause (unread_before ++ comes.came) comes.came 1 (moment link_before unread_before store_before child_before) (moment link_now unread_now store_now child_now)
    (broken_ends user cause (unread_before ++ comes.came) why.2 (undecided comes.came why.1)) (subst (MayPassOver cause) (sym why.0) (nothing_beyond cause))
    (sym (append-nil (unread_before ++ comes.came)) ∙ ap (λ (l : List ℕ). (unread_before ++ comes.came) ++ l) (sym why.0))
    comes.passes rests (hears_both 1 0 child_before child_between child_now heard more_heard)

header_length : (header : List ℕ) (seen : ℕ) → IsBadHeader header seen → length header ≡ 5
header_length header seen (inl bad) = ap length bad.0 ∙ omega (arith, length_int32 seen)
header_length header seen (inr bad) = ap length bad.0 ∙ omega (arith, length_int32 seen)

pub bad_length : (unread : List ℕ) (seen : ℕ) → BeginsBadly unread seen → 5 ≤ length unread
bad_length unread seen (header, rest, is, bad) = omega (arith, ap length is, length-append header rest, header_length header seen bad)

-- a length that no message has
pub length_refused : {S : Type 0} (notes : List BookEntry → S → S → Type 0) (gives : ℕ → Type 0) (user : User) (seen : ℕ) (unread : List ℕ) (link : LinkView) (store_before store_now : S) (child_before child_now : Attention) → notes [] store_before store_now → Hears 1 child_before child_now
    → BeginsBadly unread seen → Conversed notes gives user (MessageRefused (BadLength seen)) (moment link unread store_before child_before) (moment link (drop 5 unread) store_now child_now)
length_refused notes gives user seen unread link store_before store_now child_before child_now rests heard (header, rest, is, bad) =
    let size : length header ≡ 5 = header_length header seen bad in
    let behind : drop 5 unread ≡ rest = ap (λ (l : List ℕ). drop 5 l) is ∙ ap (λ (n : ℕ). drop n (header ++ rest)) (sym size) ∙ drop_front header rest in
    ends_here notes gives user (MessageRefused (BadLength seen)) header [] 1 (moment link unread store_before child_before) (moment link (drop 5 unread) store_now child_now) (bad, refl) tt
    (append-nil unread ∙ is ∙ ap (λ (l : List ℕ). header ++ l) (sym behind)) (passes_none link) rests heard
  where
    drop_front : (front rest : List ℕ) → drop (length front) (front ++ rest) ≡ rest
    drop_front [] rest = refl
    drop_front (x ∷ front) rest = drop_front front rest
