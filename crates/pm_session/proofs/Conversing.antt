-- Queries one after the other, up to the end of a session.
use Rattle.std.{proofs.{Common.{◌≡◌, inl, inr, ℕ, zero, suc, List, [], ◌∷◌, ◌++◌, length, Option, None, Result, Ok, Err, OnOk, refl, sym, ◌∙◌, ap, subst, arith, append_assoc, length-append}, lemmas.{Grind.flat_map-append, List.{append-nil, Concat.flat_map-cons, Elements.Contains-append_cases}}, Math.Nat.zero-add}, specs.List.{flat_map, Contains}}
use Rattle.pm_query.{specs.{declared.book.BookEntry.BookEntry, Calls.User}, proofs.NotedLaws.GoesInTurn}
use Rattle.pm_child_life.{specs.{Life.{Told, Cancel}, Attention.{Attention, Hears, IsAttentive, was_given}}, proofs.AttentionLaws.{hears_none, hears_both, hears_fewer, since_later}}
use Rattle.pm_wire.specs.{Outgoing.Outgoing, Backend.BackMessage, Frontend.{FrontMessage, Query, BadQuery, LongQuery, Terminate, Extended, Other, IsFront, IsUndecided, BeginsBadly}}
use Rattle.pm_session_exchange.{specs.{declared.{ending.Cause.{Cause, TheVariants.{Terminated, Cancelling, LinkEnded, LinkFailed, TimedOut, PacketRefused, MessageRefused, DecisionRefused, GateRefused, ShortOfMemory, Panicked, ToldToTerminate, ToldToQuit, Killed, Overtaken}}, release.Answer.Answer}, Exchange.{LinkView, Passes, CutsOff}, Sent.{Turn, bytes_of, turn_messages}, Queries.{TurnNotes, Sleeps, SleptWhole, IsCancelledTurn}, Moments.{Moment, moment, IsBreak}, Answers.{EndNotes, turn_of, piece_of, IsFit, SleepsUncancelled}, Attention.ends_of}, proofs.{LinkLaws.{passes_none, passes_both}, SentLaws.{bytes_of-append, bytes_of-none}}}
use Rattle.pm_session.{specs.{Session.{AllNotes, AllSleep, EndsAt, MayPassOver, pieces, query_bytes}, Conversation.Conversed, Turns.{desk, Says, Answered, BrokenOff, ReplyGoes, Refuses, MessageGoes, Conversing, Converses}, Heeding.AllRead}, proofs.{Attentions.since_given, Heeding.{heed_none, heed_then, turn_heeds, uncancelled_later}}}

-- ---- lists of turns

all_then : (pid : ℕ) (texts more_texts : List (List ℕ)) (turns more_turns : List Turn) (asked more : List BookEntry) → AllNotes pid texts turns asked → AllNotes pid more_texts more_turns more
    → AllNotes pid (texts ++ more_texts) (turns ++ more_turns) (asked ++ more)
all_then pid [] more_texts [] more_turns asked more each next = subst (λ (es : List BookEntry). AllNotes pid more_texts more_turns (es ++ more)) (sym each) next
all_then pid [] more_texts (turn ∷ turns) more_turns asked more each next = absurd each
all_then pid (text ∷ texts) more_texts [] more_turns asked more each next = absurd each
all_then pid (text ∷ texts) more_texts (turn ∷ turns) more_turns asked more (first, others, is, front, means, rest) next =
    (first, others ++ more, ap (λ (es : List BookEntry). es ++ more) is ∙ append_assoc first others more, front, means, all_then pid texts more_texts turns more_turns others more rest next)

pieces_then : (pid : ℕ) (texts more_texts : List (List ℕ)) (turns more_turns : List Turn) (asked : List BookEntry) → AllNotes pid texts turns asked
    → bytes_of (pieces (texts ++ more_texts) (turns ++ more_turns)) ≡ bytes_of (pieces texts turns) ++ bytes_of (pieces more_texts more_turns)
pieces_then pid [] more_texts [] more_turns asked each = ap (λ (l : List ℕ). l ++ bytes_of (pieces more_texts more_turns)) (sym bytes_of-none)
pieces_then pid [] more_texts (turn ∷ turns) more_turns asked each = absurd each
pieces_then pid (text ∷ texts) more_texts [] more_turns asked each = absurd each
pieces_then pid (text ∷ texts) more_texts (turn ∷ turns) more_turns asked (first, others, is, front, means, rest) =
    bytes_of-append (turn_messages text turn) (pieces (texts ++ more_texts) (turns ++ more_turns))
    ∙ ap (λ (l : List ℕ). bytes_of (turn_messages text turn) ++ l) (pieces_then pid texts more_texts turns more_turns others rest)
    ∙ sym (append_assoc (bytes_of (turn_messages text turn)) (bytes_of (pieces texts turns)) (bytes_of (pieces more_texts more_turns)))
    ∙ ap (λ (l : List ℕ). l ++ bytes_of (pieces more_texts more_turns)) (sym (bytes_of-append (turn_messages text turn) (pieces texts turns)))

sleep_then : (gives : ℕ → Type 0) (texts more_texts : List (List ℕ)) (turns more_turns : List Turn) → AllSleep gives texts turns → AllSleep gives more_texts more_turns → AllSleep gives (texts ++ more_texts) (turns ++ more_turns)
sleep_then gives [] more_texts [] more_turns each next = next
sleep_then gives [] more_texts (turn ∷ turns) more_turns each next = absurd each
sleep_then gives (text ∷ texts) more_texts [] more_turns each next = absurd each
sleep_then gives (text ∷ texts) more_texts (turn ∷ turns) more_turns (front, slept, rest) next = (front, slept, sleep_then gives texts more_texts turns more_turns rest next)

pub nothing_among : (turn : Turn) → Contains [] turn → ⊥
nothing_among turn (k, lt, is) = omega (arith, lt)

-- a cancel that was given is still given
abbrev pub CancelledAreTold : List Turn → Attention → Type 0
CancelledAreTold turns child = (turn : Turn) → Contains turns turn → IsCancelledTurn turn → was_given Cancel child.told

cancelled_then : (times : ℕ) (turns more_turns : List Turn) (between now : Attention) → Hears times between now → CancelledAreTold turns between → CancelledAreTold more_turns now → CancelledAreTold (turns ++ more_turns) now
cancelled_then times turns more_turns between now hears one two turn among is = elim (Contains-append_cases turns more_turns turn among) [
  | inl first ↦ hears.given Cancel (one turn first is)
  | inr second ↦ two turn second is
]

hears_turns : (turns more_turns : List Turn) (before between now : Attention) → Hears (length turns) before between → Hears (length more_turns) between now → Hears (length (turns ++ more_turns)) before now
hears_turns turns more_turns before between now one two =
    subst (λ (n : ℕ). Hears n before now) (sym (length-append turns more_turns)) (hears_both (length turns) (length more_turns) before between now one two)

-- input that came in two steps
input_then : (before came between more now : List ℕ) (texts more_texts : List (List ℕ)) → before ++ came ≡ flat_map query_bytes texts ++ between → between ++ more ≡ flat_map query_bytes more_texts ++ now
    → before ++ (came ++ more) ≡ flat_map query_bytes (texts ++ more_texts) ++ now
input_then before came between more now texts more_texts one two =
    sym (append_assoc before came more) ∙ ap (λ (l : List ℕ). l ++ more) one ∙ append_assoc (flat_map query_bytes texts) between more
    ∙ ap (λ (l : List ℕ). flat_map query_bytes texts ++ l) two ∙ sym (append_assoc (flat_map query_bytes texts) (flat_map query_bytes more_texts) now)
    ∙ ap (λ (l : List ℕ). l ++ now) (sym (flat_map-append query_bytes texts more_texts))

-- ---- queries one after the other

read_then : (pid : ℕ) (texts more_texts : List (List ℕ)) (turns more_turns : List Turn) (asked : List BookEntry) → AllNotes pid texts turns asked → AllRead texts turns → AllRead more_texts more_turns → AllRead (texts ++ more_texts) (turns ++ more_turns)
read_then pid [] more_texts [] more_turns asked each one two = two
read_then pid [] more_texts (turn ∷ turns) more_turns asked each one two = absurd each
read_then pid (text ∷ texts) more_texts [] more_turns asked each one two = absurd each
read_then pid (text ∷ texts) more_texts (turn ∷ turns) more_turns asked (first, others, is, front, means, rest) one two = (one.0, read_then pid texts more_texts turns more_turns others rest one.1 two)

pub conversing_none : {S : Type 0} (notes : List BookEntry → S → S → Type 0) (gives : ℕ → Type 0) (user : User) (at : Moment S) → notes [] at.store at.store → Conversing notes gives user at at
conversing_none notes gives user at rest = record {
  texts = [];
  turns = [];
  asked = [];
  came = [];
  each = refl;
  input = append-nil at.unread;
  passes = subst (λ (l : List ℕ). Passes [] l at.link at.link) (sym bytes_of-none) (passes_none at.link);
  entries = rest;
  hears = hears_none at.child;
  read = tt;
  slept = tt;
  heeded = heed_none 0 at.child.told at.child.told (hears_none at.child).asked;
  cancelled = λ turn among is. absurd (nothing_among turn among);
}

pub conversing_then : {S : Type 0} (notes : List BookEntry → S → S → Type 0) (gives : ℕ → Type 0) (user : User) (before between now : Moment S) → GoesInTurn notes → Conversing notes gives user before between → Conversing notes gives user between now
    → Conversing notes gives user before now
conversing_then notes gives user before between now in_turn one two = record {
  texts = one.texts ++ two.texts;
  turns = one.turns ++ two.turns;
  asked = one.asked ++ two.asked;
  came = one.came ++ two.came;
  each = all_then user.pid one.texts two.texts one.turns two.turns one.asked two.asked one.each two.each;
  input = input_then before.unread one.came between.unread two.came now.unread one.texts two.texts one.input two.input;
  passes = subst (λ (l : List ℕ). Passes (one.came ++ two.came) l before.link now.link) (sym (pieces_then user.pid one.texts two.texts one.turns two.turns one.asked one.each))
      (passes_both one.came (bytes_of (pieces one.texts one.turns)) two.came (bytes_of (pieces two.texts two.turns)) before.link between.link now.link one.passes two.passes);
  entries = in_turn before.store between.store now.store one.asked two.asked one.entries two.entries;
  hears = hears_turns one.turns two.turns before.child between.child now.child one.hears two.hears;
  read = read_then user.pid one.texts two.texts one.turns two.turns one.asked one.each one.read two.read;
  slept = sleep_then gives one.texts two.texts one.turns two.turns one.slept two.slept;
  heeded = heed_then one.turns two.turns before.child.told between.child.told now.child.told one.heeded two.heeded two.hears.gained;
  cancelled = cancelled_then (length two.turns) one.turns two.turns between.child now.child two.hears one.cancelled two.cancelled;
}

-- the same of one child, told by its pass at another time
pub conversing_as : {S : Type 0} (notes : List BookEntry → S → S → Type 0) (gives : ℕ → Type 0) (who user : User) (before now : Moment S) → who ≡ user → Conversing notes gives who before now → Conversing notes gives user before now
conversing_as notes gives who user before now same one = subst (λ (child : User). Conversing notes gives child before now) same one

pub conversed_as : {S : Type 0} (notes : List BookEntry → S → S → Type 0) (gives : ℕ → Type 0) (who user : User) (cause : Cause) (before now : Moment S) → who ≡ user → Conversed notes gives who cause before now → Conversed notes gives user cause before now
conversed_as notes gives who user cause before now same one = subst (λ (child : User). Conversed notes gives child cause before now) same one

-- and then the end
pub conversed_then : {S : Type 0} (notes : List BookEntry → S → S → Type 0) (gives : ℕ → Type 0) (user : User) (cause : Cause) (before between now : Moment S) → GoesInTurn notes → Conversing notes gives user before between → Conversed notes gives user cause between now
    → Conversed notes gives user cause before now
conversed_then notes gives user cause before between now in_turn one two = record {
  texts = one.texts ++ two.texts;
  turns = one.turns ++ two.turns;
  last = two.last;
  asked = one.asked ++ two.asked;
  ended = two.ended;
  came = one.came ++ two.came;
  went = bytes_of (pieces one.texts one.turns) ++ two.went;
  missing = two.missing;
  each = all_then user.pid one.texts two.texts one.turns two.turns one.asked two.asked one.each two.each;
  ends = two.ends;
  input = input_then before.unread one.came between.unread two.came (two.last ++ now.unread) one.texts two.texts one.input (two.input ∙ append_assoc (flat_map query_bytes two.texts) two.last now.unread)
      ∙ sym (append_assoc (flat_map query_bytes (one.texts ++ two.texts)) two.last now.unread);
  passes_over = two.passes_over;
  output = pieces_then user.pid one.texts two.texts one.turns two.turns one.asked one.each ∙ ap (λ (l : List ℕ). bytes_of (pieces one.texts one.turns) ++ l) two.output
      ∙ sym (append_assoc (bytes_of (pieces one.texts one.turns)) two.went two.missing);
  cut = two.cut;
  passes = passes_both one.came (bytes_of (pieces one.texts one.turns)) two.came two.went before.link between.link now.link one.passes two.passes;
  entries = subst (λ (es : List BookEntry). notes es before.store now.store) (sym (append_assoc one.asked two.asked two.ended))
      (in_turn before.store between.store now.store one.asked (two.asked ++ two.ended) one.entries two.entries);
  hears = hears_turns one.turns two.turns before.child between.child now.child one.hears two.hears;
  read = read_then user.pid one.texts two.texts one.turns two.turns one.asked one.each one.read two.read;
  slept = sleep_then gives one.texts two.texts one.turns two.turns one.slept two.slept;
  heeded = heed_then one.turns two.turns before.child.told between.child.told now.child.told one.heeded two.heeded two.hears.gained;
  cancelled = cancelled_then (length two.turns) one.turns two.turns between.child now.child two.hears one.cancelled two.cancelled;
}

-- calls of the child's life stand before it
conversing_behind : {S : Type 0} (notes : List BookEntry → S → S → Type 0) (gives : ℕ → Type 0) (user : User) (link : LinkView) (unread : List ℕ) (start before : S) (child : Attention) (now : Moment S) → GoesInTurn notes → notes [] start before
    → Conversing notes gives user (moment link unread before child) now → Conversing notes gives user (moment link unread start child) now
conversing_behind notes gives user link unread start before child now in_turn rests one = record {
  texts = one.texts;
  turns = one.turns;
  asked = one.asked;
  came = one.came;
  each = one.each;
  input = one.input;
  passes = one.passes;
  entries = in_turn start before now.store [] one.asked rests one.entries;
  hears = one.hears;
  read = one.read;
  slept = one.slept;
  heeded = one.heeded;
  cancelled = one.cancelled;
}

conversed_behind : {S : Type 0} (notes : List BookEntry → S → S → Type 0) (gives : ℕ → Type 0) (user : User) (cause : Cause) (link : LinkView) (unread : List ℕ) (start before : S) (child : Attention) (now : Moment S) → GoesInTurn notes → notes [] start before
    → Conversed notes gives user cause (moment link unread before child) now → Conversed notes gives user cause (moment link unread start child) now
conversed_behind notes gives user cause link unread start before child now in_turn rests one = record {
  texts = one.texts;
  turns = one.turns;
  last = one.last;
  asked = one.asked;
  ended = one.ended;
  came = one.came;
  went = one.went;
  missing = one.missing;
  each = one.each;
  ends = one.ends;
  input = one.input;
  passes_over = one.passes_over;
  output = one.output;
  cut = one.cut;
  passes = one.passes;
  entries = in_turn start before now.store [] (one.asked ++ one.ended) rests one.entries;
  hears = one.hears;
  read = one.read;
  slept = one.slept;
  heeded = one.heeded;
  cancelled = one.cancelled;
}

pub converses_behind : {S : Type 0} (notes : List BookEntry → S → S → Type 0) (gives : ℕ → Type 0) (who user : User) (result : Result (Unit {0}) Cause) (link : LinkView) (unread : List ℕ) (start before : S) (child : Attention) (now : Moment S) → GoesInTurn notes → who ≡ user → notes [] start before
    → Converses notes gives who result (moment link unread before child) now → Converses notes gives user result (moment link unread start child) now
converses_behind notes gives who user (Ok done) link unread start before child now in_turn same rests one =
    conversing_behind notes gives user link unread start before child now in_turn rests (conversing_as notes gives who user (moment link unread before child) now same one)
converses_behind notes gives who user (Err cause) link unread start before child now in_turn same rests one =
    conversed_behind notes gives user cause link unread start before child now in_turn rests (conversed_as notes gives who user cause (moment link unread before child) now same one)

-- ---- one message

-- no message stands at the front of nothing
pub nothing_yet : IsUndecided []
nothing_yet = record { no_message = no_message; no_fault = no_fault }
  where
    cons_apart : (x : ℕ) (xs rest : List ℕ) → [] ≡ (x ∷ xs) ++ rest → ⊥
    cons_apart x xs rest is = absurd cc

    no_message : (spelled rest : List ℕ) (m : FrontMessage) → [] ≡ spelled ++ rest → IsFront spelled m → ⊥
    no_message spelled rest (Query text) is front = cons_apart 81 _ rest (is ∙ ap (λ (l : List ℕ). l ++ rest) front.0)
    no_message spelled rest BadQuery is front = cons_apart 81 _ rest (is ∙ ap (λ (l : List ℕ). l ++ rest) front.1)
    no_message spelled rest (LongQuery seen) is front = cons_apart 81 _ rest (is ∙ ap (λ (l : List ℕ). l ++ rest) front.0)
    no_message spelled rest Terminate is front = cons_apart 88 _ rest (is ∙ ap (λ (l : List ℕ). l ++ rest) front)
    no_message spelled rest (Extended kind) is front = cons_apart kind [] rest (is ∙ ap (λ (l : List ℕ). l ++ rest) front.0)
    no_message spelled rest (Other kind) is front = cons_apart kind [] rest (is ∙ ap (λ (l : List ℕ). l ++ rest) front.0)

    no_fault : (seen : ℕ) → BeginsBadly [] seen → ⊥
    no_fault seen (header, rest, is, inl front) = cons_apart 81 _ rest (is ∙ ap (λ (l : List ℕ). l ++ rest) front.0)
    no_fault seen (header, rest, is, inr front) = cons_apart 88 _ rest (is ∙ ap (λ (l : List ℕ). l ++ rest) front.0)

-- what breaks a wait off leaves nothing noted
pub broken_ends : (user : User) (cause : Cause) (last : List ℕ) → IsBreak cause → IsUndecided last → EndsAt user cause last []
broken_ends user LinkEnded last broken undecided = (undecided, refl)
broken_ends user LinkFailed last broken undecided = (undecided, refl)
broken_ends user ToldToTerminate last broken undecided = (inl (undecided, refl), refl)
broken_ends user (ToldToQuit reason) last broken undecided = inl (undecided, refl)
broken_ends user Killed last broken undecided = inl (undecided, refl)
broken_ends user Terminated last broken undecided = absurd broken
broken_ends user Cancelling last broken undecided = absurd broken
broken_ends user TimedOut last broken undecided = absurd broken
broken_ends user (PacketRefused fault) last broken undecided = absurd broken
broken_ends user (MessageRefused fault) last broken undecided = absurd broken
broken_ends user DecisionRefused last broken undecided = absurd broken
broken_ends user (GateRefused refusal) last broken undecided = absurd broken
broken_ends user ShortOfMemory last broken undecided = absurd broken
broken_ends user Panicked last broken undecided = absurd broken
broken_ends user Overtaken last broken undecided = absurd broken

pub nothing_beyond : (cause : Cause) → MayPassOver cause []
nothing_beyond LinkEnded = refl
nothing_beyond TimedOut = refl
nothing_beyond Terminated = tt
nothing_beyond Cancelling = tt
nothing_beyond LinkFailed = tt
nothing_beyond (PacketRefused fault) = tt
nothing_beyond (MessageRefused fault) = tt
nothing_beyond DecisionRefused = tt
nothing_beyond (GateRefused refusal) = tt
nothing_beyond ShortOfMemory = tt
nothing_beyond Panicked = tt
nothing_beyond ToldToTerminate = tt
nothing_beyond (ToldToQuit reason) = tt
nothing_beyond Killed = tt
nothing_beyond Overtaken = tt

-- a session ends here, and no query was in progress
pub ends_here : {S : Type 0} (notes : List BookEntry → S → S → Type 0) (gives : ℕ → Type 0) (user : User) (cause : Cause) (last came : List ℕ) (times : ℕ) (before now : Moment S) → EndsAt user cause last [] → MayPassOver cause now.unread
    → before.unread ++ came ≡ last ++ now.unread → Passes came [] before.link now.link → notes [] before.store now.store → Hears times before.child now.child → Conversed notes gives user cause before now
ends_here notes gives user cause last came times before now ends over input passes entries hears = record {
  texts = [];
  turns = [];
  last = last;
  asked = [];
  ended = [];
  came = came;
  went = [];
  missing = [];
  each = refl;
  ends = ends;
  input = input;
  passes_over = over;
  output = bytes_of-none;
  cut = inl refl;
  passes = passes;
  entries = entries;
  hears = hears_fewer 0 times before.child now.child (subst (λ (n : ℕ). Hears n before.child now.child) (sym (zero-add times)) hears);
  read = tt;
  slept = tt;
  heeded = heed_none times before.child.told now.child.told hears.asked;
  cancelled = λ turn among is. absurd (nothing_among turn among);
}

-- ---- a turn's parts

one_query : (text : List ℕ) → flat_map query_bytes (text ∷ []) ≡ query_bytes text
one_query text = flat_map-cons query_bytes text [] ∙ append-nil (query_bytes text)

one_piece : (text : List ℕ) (turn : Turn) → bytes_of (pieces (text ∷ []) (turn ∷ [])) ≡ bytes_of (turn_messages text turn)
one_piece text turn = ap (λ (ms : List BackMessage). bytes_of ms) (append-nil (turn_messages text turn))

one_among : (one turn : Turn) → Contains (one ∷ []) turn → turn ≡ one
one_among one turn (zero, lt, is) = sym is
one_among one turn (suc k, lt, is) = absurd (omega (arith, lt))

one_cancelled : (one turn : Turn) (child : Attention) → (IsCancelledTurn one → was_given Cancel child.told) → Contains (one ∷ []) turn → IsCancelledTurn turn → was_given Cancel child.told
one_cancelled one turn child told among is = told (subst IsCancelledTurn (one_among one turn among) is)

cut_beyond : (cause : Cause) (beyond : List ℕ) → CutsOff cause → MayPassOver cause beyond
cut_beyond Terminated beyond cuts = absurd cuts
cut_beyond Cancelling beyond cuts = absurd cuts
cut_beyond LinkEnded beyond cuts = absurd cuts
cut_beyond LinkFailed beyond cuts = tt
cut_beyond TimedOut beyond cuts = absurd cuts
cut_beyond (PacketRefused fault) beyond cuts = absurd cuts
cut_beyond (MessageRefused fault) beyond cuts = absurd cuts
cut_beyond DecisionRefused beyond cuts = absurd cuts
cut_beyond (GateRefused refusal) beyond cuts = absurd cuts
cut_beyond ShortOfMemory beyond cuts = absurd cuts
cut_beyond Panicked beyond cuts = absurd cuts
cut_beyond ToldToTerminate beyond cuts = absurd cuts
cut_beyond (ToldToQuit reason) beyond cuts = absurd cuts
cut_beyond Killed beyond cuts = tt
cut_beyond Overtaken beyond cuts = tt

broken_beyond : (user : User) (text : List ℕ) (cause : Cause) (beyond : List ℕ) (entries : List BookEntry) → EndNotes user text cause entries → MayPassOver cause beyond
broken_beyond user text Terminated beyond entries ends = absurd ends
broken_beyond user text Cancelling beyond entries ends = absurd ends
broken_beyond user text LinkEnded beyond entries ends = absurd ends
broken_beyond user text LinkFailed beyond entries ends = absurd ends
broken_beyond user text TimedOut beyond entries ends = absurd ends
broken_beyond user text (PacketRefused fault) beyond entries ends = absurd ends
broken_beyond user text (MessageRefused fault) beyond entries ends = absurd ends
broken_beyond user text DecisionRefused beyond entries ends = absurd ends
broken_beyond user text (GateRefused refusal) beyond entries ends = absurd ends
broken_beyond user text ShortOfMemory beyond entries ends = absurd ends
broken_beyond user text Panicked beyond entries ends = tt
broken_beyond user text ToldToTerminate beyond entries ends = tt
broken_beyond user text (ToldToQuit reason) beyond entries ends = tt
broken_beyond user text Killed beyond entries ends = tt
broken_beyond user text Overtaken beyond entries ends = tt

-- what a query noted when it was broken off
notes_end : (user : User) (text : List ℕ) (cause : Cause) (entries : List BookEntry) → IsFront (query_bytes text) (Query text) → EndNotes user text cause entries → EndsAt user cause (query_bytes text) entries
notes_end user text Terminated entries front ends = absurd ends
notes_end user text Cancelling entries front ends = absurd ends
notes_end user text LinkEnded entries front ends = absurd ends
notes_end user text LinkFailed entries front ends = absurd ends
notes_end user text TimedOut entries front ends = absurd ends
notes_end user text (PacketRefused fault) entries front ends = absurd ends
notes_end user text (MessageRefused fault) entries front ends = absurd ends
notes_end user text DecisionRefused entries front ends = absurd ends
notes_end user text (GateRefused refusal) entries front ends = absurd ends
notes_end user text ShortOfMemory entries front ends = absurd ends
notes_end user text Panicked entries front ends = (ends.0, ends.1, (text, refl, front, ends.2), ends.3, ends.4)
notes_end user text ToldToTerminate entries front ends = (inr (text, refl, front, inl ends), ends)
notes_end user text (ToldToQuit reason) entries front ends = inr (text, refl, front, ends)
notes_end user text Killed entries front ends = inr (text, refl, front, ends)
notes_end user text Overtaken entries front ends = (ends.0, (text, refl, front, ends.1))

-- ---- a turn

-- the queries whose answers were sent are one
pub turn_taken : {S : Type 0} (notes : List BookEntry → S → S → Type 0) (gives : ℕ → Type 0) (user : User) (text spelled rest unread : List ℕ) (link_before link_now : LinkView) (store_before store_now : S) (child_before child_between child_now : Attention)
    → unread ≡ spelled ++ rest → IsFront spelled (Query text) → Hears 1 child_before child_between → IsAttentive child_between → ends_of child_between.standing ≡ None → Answered notes gives user text [] (moment link_before [] store_before child_between) (moment link_now [] store_now child_now)
    → Conversing notes gives user (moment link_before unread store_before child_before) (moment link_now rest store_now child_now)
turn_taken notes gives user text spelled rest unread link_before link_now store_before store_now child_before child_between child_now is front heard attentive none took = record {
  texts = text ∷ [];
  turns = took.turn ∷ [];
  asked = took.noted;
  came = [];
  each = (took.noted, [], sym (append-nil took.noted), (refl, front.1, front.2), took.means, refl);
  input = append-nil unread ∙ is ∙ ap (λ (l : List ℕ). l ++ rest) (front.0 ∙ sym (one_query text));
  passes = subst (λ (l : List ℕ). Passes [] l link_before link_now) (sym (one_piece text took.turn ∙ took.whole ∙ append-nil took.went)) took.passes;
  entries = took.entries;
  hears = hears_both 1 0 child_before child_between child_now heard took.hears;
  read = (took.read, tt);
  slept = ((refl, front.1, front.2), took.slept, tt);
  heeded = turn_heeds took.turn 0 child_before child_between child_now heard attentive none took.hears (λ e. took.cancelled (subst IsCancelledTurn (sym e) tt)) took.uncancelled;
  cancelled = λ turn among is_cancelled. one_cancelled took.turn turn child_now (λ is. since_given 0 Cancel child_between.told child_now.told took.hears.asked (took.cancelled is)) among is_cancelled;
}

-- a query was answered, and sending its answer was broken off
pub turn_cut : {S : Type 0} (notes : List BookEntry → S → S → Type 0) (gives : ℕ → Type 0) (user : User) (cause : Cause) (text missing spelled rest unread : List ℕ) (link_before link_now : LinkView) (store_before store_now : S) (child_before child_between child_now : Attention)
    → unread ≡ spelled ++ rest → IsFront spelled (Query text) → Hears 1 child_before child_between → IsAttentive child_between → ends_of child_between.standing ≡ None → CutsOff cause → IsBreak cause
    → Answered notes gives user text missing (moment link_before [] store_before child_between) (moment link_now [] store_now child_now)
    → Conversed notes gives user cause (moment link_before unread store_before child_before) (moment link_now rest store_now child_now)
turn_cut notes gives user cause text missing spelled rest unread link_before link_now store_before store_now child_before child_between child_now is front heard attentive none cuts broken took = record {
  texts = text ∷ [];
  turns = took.turn ∷ [];
  last = [];
  asked = took.noted;
  ended = [];
  came = [];
  went = took.went;
  missing = missing;
  each = (took.noted, [], sym (append-nil took.noted), (refl, front.1, front.2), took.means, refl);
  ends = broken_ends user cause [] broken nothing_yet;
  input = append-nil unread ∙ is ∙ ap (λ (l : List ℕ). l ++ rest) (front.0 ∙ sym (one_query text) ∙ sym (append-nil (flat_map query_bytes (text ∷ []))));
  passes_over = cut_beyond cause rest cuts;
  output = one_piece text took.turn ∙ took.whole;
  cut = inr cuts;
  passes = took.passes;
  entries = subst (λ (es : List BookEntry). notes es store_before store_now) (sym (append-nil took.noted)) took.entries;
  hears = hears_both 1 0 child_before child_between child_now heard took.hears;
  read = (took.read, tt);
  slept = ((refl, front.1, front.2), took.slept, tt);
  heeded = turn_heeds took.turn 0 child_before child_between child_now heard attentive none took.hears (λ e. took.cancelled (subst IsCancelledTurn (sym e) tt)) took.uncancelled;
  cancelled = λ turn among is_cancelled. one_cancelled took.turn turn child_now (λ is. since_given 0 Cancel child_between.told child_now.told took.hears.asked (took.cancelled is)) among is_cancelled;
}

-- a query was broken off
pub turn_broken : {S : Type 0} (notes : List BookEntry → S → S → Type 0) (gives : ℕ → Type 0) (user : User) (cause : Cause) (text spelled rest unread : List ℕ) (link_before link_now : LinkView) (store_before store_now : S) (child_before child_between child_now : Attention)
    → unread ≡ spelled ++ rest → IsFront spelled (Query text) → Hears 1 child_before child_between → BrokenOff notes user text cause (moment link_before [] store_before child_between) (moment link_now [] store_now child_now)
    → Conversed notes gives user cause (moment link_before unread store_before child_before) (moment link_now rest store_now child_now)
turn_broken notes gives user cause text spelled rest unread link_before link_now store_before store_now child_before child_between child_now is front heard off = record {
  texts = [];
  turns = [];
  last = query_bytes text;
  asked = [];
  ended = off.noted;
  came = [];
  went = [];
  missing = [];
  each = refl;
  ends = notes_end user text cause off.noted (refl, front.1, front.2) off.ends;
  input = append-nil unread ∙ is ∙ ap (λ (l : List ℕ). l ++ rest) front.0;
  passes_over = broken_beyond user text cause rest off.noted off.ends;
  output = bytes_of-none;
  cut = inl refl;
  passes = off.passes;
  entries = off.entries;
  hears = hears_fewer 0 1 child_before child_now (hears_both 1 0 child_before child_between child_now heard off.hears);
  read = tt;
  slept = tt;
  heeded = heed_none 0 child_before.told child_now.told (hears_fewer 0 1 child_before child_now (hears_both 1 0 child_before child_between child_now heard off.hears)).asked;
  cancelled = λ turn among is_cancelled. absurd (nothing_among turn among);
}

-- a message other than a query
other_ends : {S : Type 0} (notes : List BookEntry → S → S → Type 0) (gives : ℕ → Type 0) (user : User) (m : FrontMessage) (cause : Cause) (spelled rest unread : List ℕ) (link_before link_now : LinkView) (store_before store_now : S) (child_before child_between child_now : Attention)
    → unread ≡ spelled ++ rest → IsFront spelled m → Hears 1 child_before child_between → notes [] store_before store_before → Refuses user m cause (moment link_before [] store_before child_between) (moment link_now [] store_now child_now)
    → Conversed notes gives user cause (moment link_before unread store_before child_before) (moment link_now rest store_now child_now)
other_ends {S} notes gives user m cause spelled rest unread link_before link_now store_before store_now child_before child_between child_now is front heard rests refuses =
    let link : link_now ≡ link_before = ap (λ (at : Moment S). at.link) refuses.still in
    let store : store_now ≡ store_before = ap (λ (at : Moment S). at.store) refuses.still in
    let child : child_now ≡ child_between = ap (λ (at : Moment S). at.child) refuses.still in
    ends_here notes gives user cause spelled [] 1 (moment link_before unread store_before child_before) (moment link_now rest store_now child_now) (refuses.ends spelled front) (refuses.passes_over rest) (append-nil unread ∙ is)
    (subst (λ (l : LinkView). Passes [] [] link_before l) (sym link) (passes_none link_before))
    (subst (λ (s : S). notes [] store_before s) (sym store) rests)
    (subst (λ (c : Attention). Hears 1 child_before c) (sym child) heard)

-- a whole message was taken
pub message_taken : {S : Type 0} (notes : List BookEntry → S → S → Type 0) (gives : ℕ → Type 0) (user : User) (m : FrontMessage) (result : Result (Unit {0}) Cause) (spelled rest unread : List ℕ) (link_before link_now : LinkView) (store_before store_now : S)
    (child_before child_between child_now : Attention) → unread ≡ spelled ++ rest → IsFront spelled m → Hears 1 child_before child_between → IsAttentive child_between → ends_of child_between.standing ≡ None → notes [] store_before store_before
    → MessageGoes notes gives user m result (moment link_before [] store_before child_between) (moment link_now [] store_now child_now)
    → Converses notes gives user result (moment link_before unread store_before child_before) (moment link_now rest store_now child_now)
message_taken notes gives user (Query text) (Ok done) spelled rest unread link_before link_now store_before store_now child_before child_between child_now is front heard attentive none rests took =
    turn_taken notes gives user text spelled rest unread link_before link_now store_before store_now child_before child_between child_now is front heard attentive none took
message_taken notes gives user (Query text) (Err cause) spelled rest unread link_before link_now store_before store_now child_before child_between child_now is front heard attentive none rests (inl cut) =
    turn_cut notes gives user cause text cut.0 spelled rest unread link_before link_now store_before store_now child_before child_between child_now is front heard attentive none cut.1 cut.2 cut.3
message_taken notes gives user (Query text) (Err cause) spelled rest unread link_before link_now store_before store_now child_before child_between child_now is front heard attentive none rests (inr off) =
    turn_broken notes gives user cause text spelled rest unread link_before link_now store_before store_now child_before child_between child_now is front heard off
message_taken notes gives user BadQuery (Ok done) spelled rest unread link_before link_now store_before store_now child_before child_between child_now is front heard attentive none rests goes = absurd goes
message_taken notes gives user BadQuery (Err cause) spelled rest unread link_before link_now store_before store_now child_before child_between child_now is front heard attentive none rests goes =
    other_ends notes gives user BadQuery cause spelled rest unread link_before link_now store_before store_now child_before child_between child_now is front heard rests goes
message_taken notes gives user (LongQuery seen) (Ok done) spelled rest unread link_before link_now store_before store_now child_before child_between child_now is front heard attentive none rests goes = absurd goes
message_taken notes gives user (LongQuery seen) (Err cause) spelled rest unread link_before link_now store_before store_now child_before child_between child_now is front heard attentive none rests goes =
    other_ends notes gives user (LongQuery seen) cause spelled rest unread link_before link_now store_before store_now child_before child_between child_now is front heard rests goes
message_taken notes gives user Terminate (Ok done) spelled rest unread link_before link_now store_before store_now child_before child_between child_now is front heard attentive none rests goes = absurd goes
message_taken notes gives user Terminate (Err cause) spelled rest unread link_before link_now store_before store_now child_before child_between child_now is front heard attentive none rests goes =
    other_ends notes gives user Terminate cause spelled rest unread link_before link_now store_before store_now child_before child_between child_now is front heard rests goes
message_taken notes gives user (Extended kind) (Ok done) spelled rest unread link_before link_now store_before store_now child_before child_between child_now is front heard attentive none rests goes = absurd goes
message_taken notes gives user (Extended kind) (Err cause) spelled rest unread link_before link_now store_before store_now child_before child_between child_now is front heard attentive none rests goes =
    other_ends notes gives user (Extended kind) cause spelled rest unread link_before link_now store_before store_now child_before child_between child_now is front heard rests goes
message_taken notes gives user (Other kind) (Ok done) spelled rest unread link_before link_now store_before store_now child_before child_between child_now is front heard attentive none rests goes = absurd goes
message_taken notes gives user (Other kind) (Err cause) spelled rest unread link_before link_now store_before store_now child_before child_between child_now is front heard attentive none rests goes =
    other_ends notes gives user (Other kind) cause spelled rest unread link_before link_now store_before store_now child_before child_between child_now is front heard rests goes

-- ---- one query

said_whole : (text : List ℕ) (answer : Answer) (before now : Option Told) (stood went missing : List ℕ) → stood ≡ [] → IsFit text answer before now → stood ++ bytes_of (piece_of answer) ≡ went ++ missing → bytes_of (turn_messages text (turn_of answer)) ≡ went ++ missing
said_whole text answer before now stood went missing empty fit whole =
    ap (λ (ms : List BackMessage). bytes_of ms) (sym fit.piece) ∙ ap (λ (l : List ℕ). l ++ bytes_of (piece_of answer)) (sym empty) ∙ whole

-- its answer was sent, or a front of it
pub replied : {S : Type 0} (notes : List BookEntry → S → S → Type 0) (gives : ℕ → Type 0) (user : User) (text : List ℕ) (answer : Answer) (result : Result (Unit {0}) Cause) (link_before link_now : LinkView) (store_before store_now : S) (child_before child_between child_now : Attention)
    (outbox_before outbox_now : Outgoing) → outbox_before.bytes ≡ [] → (entries : List BookEntry) × notes entries store_before store_now × TurnNotes user.pid text (turn_of answer) entries → IsFit text answer child_before.told child_between.told → Sleeps gives text (turn_of answer)
    → (SleptWhole (turn_of answer) → SleepsUncancelled child_before.told child_between.told) → Hears 0 child_before child_between → Says result (piece_of answer) (desk link_before outbox_before child_between) (desk link_now outbox_now child_now) → OnOk result (outbox_now.bytes ≡ [])
    → ReplyGoes notes gives user text result (moment link_before [] store_before child_before) (moment link_now [] store_now child_now)
replied notes gives user text answer (Ok done) link_before link_now store_before store_now child_before child_between child_now outbox_before outbox_now empty (entries, noted, means) fit slept uncancelled heard says emptied = record {
  turn = turn_of answer;
  noted = entries;
  went = says.went;
  means = means;
  whole = said_whole text answer child_before.told child_between.told outbox_before.bytes says.went says.missing empty fit says.whole ∙ ap (λ (l : List ℕ). says.went ++ l) (says.left ∙ emptied);
  passes = says.passes;
  entries = noted;
  hears = hears_both 0 0 child_before child_between child_now heard says.hears;
  read = fit.read;
  slept = slept;
  cancelled = λ is. since_later 0 Cancel child_before.told child_between.told child_now.told (fit.cancelled is) says.hears.asked says.hears.gained;
  uncancelled = λ whole. uncancelled_later 0 child_before.told child_between.told child_now.told (uncancelled whole) says.hears.asked says.hears.gained;
}
replied notes gives user text answer (Err cause) link_before link_now store_before store_now child_before child_between child_now outbox_before outbox_now empty (entries, noted, means) fit slept uncancelled heard says emptied = inl (
  says.missing,
  says.left.0,
  says.left.1,
  record {
    turn = turn_of answer;
    noted = entries;
    went = says.went;
    means = means;
    whole = said_whole text answer child_before.told child_between.told outbox_before.bytes says.went says.missing empty fit says.whole;
    passes = says.passes;
    entries = noted;
    hears = hears_both 0 0 child_before child_between child_now heard says.hears;
    read = fit.read;
    slept = slept;
    cancelled = λ is. since_later 0 Cancel child_before.told child_between.told child_now.told (fit.cancelled is) says.hears.asked says.hears.gained;
    uncancelled = λ whole. uncancelled_later 0 child_before.told child_between.told child_now.told (uncancelled whole) says.hears.asked says.hears.gained;
  },
)

-- it has none
pub unreplied : {S : Type 0} (notes : List BookEntry → S → S → Type 0) (gives : ℕ → Type 0) (user : User) (text : List ℕ) (cause : Cause) (link : LinkView) (store_before store_now : S) (child_before child_now : Attention)
    → (entries : List BookEntry) × notes entries store_before store_now × EndNotes user text cause entries → Hears 0 child_before child_now
    → ReplyGoes notes gives user text (Err cause) (moment link [] store_before child_before) (moment link [] store_now child_now)
unreplied notes gives user text cause link store_before store_now child_before child_now (entries, noted, ends) heard =
    inr (record { noted = entries; ends = ends; passes = passes_none link; entries = noted; hears = heard })
