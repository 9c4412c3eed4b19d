-- A connection is served, and others after it.
use Rattle.std.{proofs.{Common.{◌≡◌, ◌⊎◌, inl, inr, ℕ, ◌+◌, ◌≤◌, List, [], ◌∷◌, ◌++◌, length, Option, None, Some, Result, Ok, Err, option_map, refl, sym, ◌∙◌, ap, subst, arith, append_assoc, append-nil, length-append}, lemmas.{List.{length-map, map-append, Elements.{All-nil, All-append}}, Bool.false≢true}}, specs.Prelude.{Bool, true, false, if◌then◌else◌, map, IfErr, IfSome, OnOk}}
use Rattle.pm_server.{specs.{pm_facts.Bools.never_both, pm_exit.declared.child.Status.Status, pm_outside.Visits.{Visit, Visits}, pm_session.{pm_session_exchange.{Ends.status_by, declared.ending.Cause.{Cause, TheVariants.{Terminated, Cancelling, LinkEnded, LinkFailed, TimedOut, PacketRefused, MessageRefused, DecisionRefused, GateRefused, ShortOfMemory, Panicked, ToldToTerminate, ToldToQuit, Killed, Overtaken}}}, Session.status_of}, pm_supervisor_journal.{declared.{exit.ChildExit.ChildExit, supervision.Taken.Taken}, Standing.later, Due.{IsIdle, is_last_drawn}}, Journal.{accepted_in, asked_in}, declared.end.ServerEnd.{ServerEnd, TheVariants.NoMemory}}, proofs.JournalLaws.{accepted_in-append, asked_in-append}}
use Rattle.pm_server.specs.pm_exit.declared.child.Kind.TheVariants as kind
use Rattle.pm_server.specs.pm_startup.declared.packet.StartFault.TheVariants as packets
use Rattle.pm_supervisor_chain.{specs.Steps.{ChildRun, Step, journal_of}, proofs.FoldsLaws.journal-append}
use Rattle.pm_once.{specs.{Calls.{Asks, Finishes}, Goes.{IsEndOf, StaysOpen}, Serves.{AreNumbered, HasServed, IsServed, Serves, passed, taken_for}, Service.{Connection, IsOfItself, IsServedAs, is_panic, is_signal, run_of, visit_of, with_connections, with_end}, View.View}, proofs.{Going.{does_nothing, end_behind, goes_on, stays_on}, Links.{both_changes, no_change}}}
use Rattle.pm_once_acts.{specs.Steps.{exit_of, ServesNone, sessions_in}, proofs.StepsLaws.sessions-append}

-- ---- how a session's child ends

pub signal_is : (cause : Cause) → IsOfItself cause → is_signal (status_by cause) ≡ is_panic cause
signal_is Terminated own = refl
signal_is Cancelling own = refl
signal_is LinkEnded own = refl
signal_is LinkFailed own = refl
signal_is TimedOut own = refl
signal_is (PacketRefused (packets.Length seen)) own = refl
signal_is (PacketRefused (packets.Version major minor)) own = refl
signal_is (PacketRefused packets.NoUser) own = refl
signal_is (PacketRefused packets.Replication) own = refl
signal_is (PacketRefused (packets.Malformed place)) own = refl
signal_is (PacketRefused packets.PqOption) own = refl
signal_is (MessageRefused fault) own = refl
signal_is DecisionRefused own = absurd own
signal_is (GateRefused refusal) own = absurd own
signal_is ShortOfMemory own = refl
signal_is Panicked own = refl
signal_is ToldToTerminate own = absurd own
signal_is (ToldToQuit reason) own = absurd own
signal_is Killed own = absurd own
signal_is Overtaken own = absurd own

pub session_exit : (key limit : ℕ) (gives : ℕ → Type 0) (c : Connection) (status : Status) → status ≡ status_of c.ending → IsServedAs key limit gives c
    → (let exit : ChildExit = record { pid = c.pid; kind = kind.Backend; status = status; was_active = is_signal status; kept = None } in exit ≡ exit_of (run_of c))
session_exit key limit gives c status is served =
    ap (λ (s : Status). record { pid = c.pid; kind = kind.Backend; status = s; was_active = is_signal s; kept = None }) is
    ∙ ap (λ (b : Bool). record { pid = c.pid; kind = kind.Backend; status = status_of c.ending; was_active = b; kept = None })
    (ap (λ (x : Cause). is_signal (status_by x)) served.alone.exit ∙ signal_is c.ending.cause served.alone.cause ∙ ap is_panic (sym served.alone.exit))

-- ---- the first of two

pub ends_on : (result : Result (Unit {0}) ServerEnd) (one two : List Step) (c : View) → IfErr result (λ end. IsEndOf end two c) → IfErr result (λ end. IsEndOf end (one ++ two) c)
ends_on (Ok done) one two c ends = tt
ends_on (Err end) one two c ends = end_behind end one two c ends

pub open_on : (result : Result (Unit {0}) ServerEnd) (one two : List Step) (a b c : View) → StaysOpen one a b → OnOk result (StaysOpen two b c) → OnOk result (StaysOpen (one ++ two) a c)
open_on (Ok done) one two a b c first second = stays_on one two a b c first second
open_on (Err end) one two a b c first second = tt

-- ---- calls that serve nobody

pub finishes_serves : (gives : ℕ → Type 0) (result : Result (Unit {0}) ServerEnd) (steps : List Step) (before now : View) → Finishes gives result steps before now → Serves gives result [] false steps before now
finishes_serves gives result steps before now finishes = record {
  goes = finishes.does.goes;
  stays = finishes.does.stays;
  ends = finishes.does.ends;
  idle = finishes.idle;
  deaf = λ was. (elim finishes.deaf [ inl same ↦ same ∙ was | inr drawn ↦ drawn.0 ], refl, refl);
  at_end = λ is. absurd (false≢true is);
  asked = λ is. absurd (false≢true is);
  drawn = finishes.drawn;
  why = λ is. elim finishes.deaf [ inl same ↦ inl (sym same ∙ is) | inr drawn ↦ inr (inr drawn.1) ];
}

none_numbered : (v : Option Visits) → IfSome v (λ visits. AreNumbered (length visits.given) [])
none_numbered None = tt
none_numbered (Some v) = tt

pub one_numbered : (c : Connection) (v : Option Visits) → IfSome v (λ visits. c.given.number ≡ length visits.given + 1) → IfSome v (λ visits. AreNumbered (length visits.given) (c ∷ []))
one_numbered c None is = tt
one_numbered c (Some v) is = (is, tt)

pub nothing_served : (seed : List ℕ) (limit : ℕ) (gives : ℕ → Type 0) (steps : List Step) (v : Option Visits) → ServesNone steps → HasServed seed limit gives [] false steps v v
nothing_served seed limit gives steps v none = record { visits = no_change v; numbers = none_numbered v; each = All-nil (IsServed seed limit gives); accepted = none.accepted; sessions = none.sessions }

pub idle_serves : (gives : ℕ → Type 0) (v : View) → IsIdle v.work.standing → Serves gives (Ok tt) [] false [] v v
idle_serves gives v idle = finishes_serves gives (Ok tt) [] v v (record { does = does_nothing gives v; idle = idle; deaf = inl refl; drawn = λ drawn. drawn })

-- the port's end has come, and a shutdown was asked for
pub asks_serves : (gives : ℕ → Type 0) (result : Result (Unit {0}) ServerEnd) (steps : List Step) (before now : View) → before.listens ≡ true → Asks gives result steps before now → Serves gives result [] true steps before now
asks_serves gives result steps before now listens asks = record {
  goes = asks.does.goes;
  stays = asks.does.stays;
  ends = asks.does.ends;
  idle = asks.idle;
  deaf = λ was. absurd (never_both before.listens listens was);
  at_end = λ is. asks.deaf;
  asked = λ is. asks.asked;
  drawn = asks.drawn;
  why = λ is. inr (inl refl);
}

pub end_served : (seed : List ℕ) (limit : ℕ) (gives : ℕ → Type 0) (steps : List Step) (v now : Option Visits) → ServesNone steps → now ≡ option_map with_end v → HasServed seed limit gives [] true steps v now
end_served seed limit gives steps v now none is = record {
  visits = both_changes (with_connections []) with_end v v now (no_change v) is;
  numbers = none_numbered v;
  each = All-nil (IsServed seed limit gives);
  accepted = none.accepted;
  sessions = none.sessions;
}

-- ---- one round, and others after it

pub serves_on : (gives : ℕ → Type 0) (result : Result (Unit {0}) ServerEnd) (xs ys : List Connection) (x y : Bool) (one two : List Step) (a b c : View)
    → Serves gives (Ok tt) xs x one a b → Serves gives result ys y two b c → Serves gives result (xs ++ ys) (if x then true else y) (one ++ two) a c
serves_on gives result xs ys x y one two a b c first second = record {
  goes = goes_on gives one two a b c first.goes first.stays second.goes;
  stays = open_on result one two a b c first.stays second.stays;
  ends = ends_on result one two c second.ends;
  idle = second.idle;
  deaf = λ was.
      let f = first.deaf was in
      let s = second.deaf f.0 in
      (s.0, ap (λ (l : List Connection). l ++ ys) f.1 ∙ s.1, ap (λ (b' : Bool). if b' then true else y) f.2 ∙ s.2);
  at_end = ended_by x first.at_end;
  asked = asked_by x first.asked;
  drawn = λ drawn. second.drawn (first.drawn drawn);
  why = λ is. why_by x (second.why is) first.at_end first.why;
}
  where
    ended_by : (x' : Bool) → (x' ≡ true → b.listens ≡ false) → (if x' then true else y) ≡ true → c.listens ≡ false
    ended_by true once is = (second.deaf (once refl)).0
    ended_by false once is = second.at_end is

    more : length (asked_in (journal_of (one ++ two))) ≡ length (asked_in (journal_of one)) + length (asked_in (journal_of two))
    more = ap length (ap asked_in (journal-append one two) ∙ asked_in-append (journal_of one) (journal_of two)) ∙ length-append (asked_in (journal_of one)) (asked_in (journal_of two))

    short : (let r : Result (Unit {0}) ServerEnd = Ok tt in r ≡ Err NoMemory) → ⊥
    short is = cc

    asked_by : (x' : Bool) → (x' ≡ true → (1 ≤ length (asked_in (journal_of one))) ⊎ (let r : Result (Unit {0}) ServerEnd = Ok tt in r ≡ Err NoMemory))
        → (if x' then true else y) ≡ true → (1 ≤ length (asked_in (journal_of (one ++ two)))) ⊎ (result ≡ Err NoMemory)
    asked_by true once is = elim (once refl) [ inl some ↦ inl (omega (arith, some, more)) | inr never ↦ absurd (short never) ]
    asked_by false once is = elim (second.asked is) [ inl some ↦ inl (omega (arith, some, more)) | inr never ↦ inr never ]

    why_by : (x' : Bool) → (b.listens ≡ false) ⊎ ((y ≡ true) ⊎ (is_last_drawn c.work.standing.last_pid ≡ true)) → (x' ≡ true → b.listens ≡ false)
        → (b.listens ≡ false → (a.listens ≡ false) ⊎ ((x' ≡ true) ⊎ (is_last_drawn b.work.standing.last_pid ≡ true)))
        → (a.listens ≡ false) ⊎ (((if x' then true else y) ≡ true) ⊎ (is_last_drawn c.work.standing.last_pid ≡ true))
    why_by true later once before = inr (inl refl)
    why_by false (inr (inl ended)) once before = inr (inl ended)
    why_by false (inr (inr drawn)) once before = inr (inr drawn)
    why_by false (inl deaf) once before = elim (before deaf) [ inl first' ↦ inl first' | inr second' ↦ inr (inr (by_drawn second')) ]
      where
        by_drawn : (false ≡ true) ⊎ (is_last_drawn b.work.standing.last_pid ≡ true) → is_last_drawn c.work.standing.last_pid ≡ true
        by_drawn (inl never) = absurd (cc)
        by_drawn (inr drawn) = second.drawn drawn

together : (xs ys : List Connection) (v : Visits) → with_connections ys (with_connections xs v) ≡ with_connections (xs ++ ys) v
together xs ys v =
    ap (λ (g : List ℕ). record v { given = g; back = (v.back ++ map visit_of xs) ++ map visit_of ys })
    (append_assoc v.given (map (λ (d : Connection). d.given.faults) xs) (map (λ (d : Connection). d.given.faults) ys) ∙ ap (λ (l : List ℕ). v.given ++ l) (sym (map-append (λ (d : Connection). d.given.faults) xs ys)))
    ∙ ap (λ (b : List Visit). record v { given = v.given ++ map (λ (d : Connection). d.given.faults) (xs ++ ys); back = b })
    (append_assoc v.back (map visit_of xs) (map visit_of ys) ∙ ap (λ (l : List Visit). v.back ++ l) (sym (map-append visit_of xs ys)))

none_more : (v : Visits) → with_connections [] v ≡ v
none_more v = ap (λ (g : List ℕ). record v { given = g; back = v.back ++ [] }) (append-nil v.given) ∙ ap (λ (b : List Visit). record v { back = b }) (append-nil v.back)

passed_on : (xs ys : List Connection) (x y : Bool) (v : Visits) → (x ≡ true → (ys ≡ []) × (y ≡ false)) → passed ys y (passed xs x v) ≡ passed (xs ++ ys) (if x then true else y) v
passed_on xs ys false true v once = ap with_end (together xs ys v)
passed_on xs ys false false v once = together xs ys v
passed_on xs ys true y v once =
    let none = once refl in
    ap (λ (b : Bool). passed ys b (with_end (with_connections xs v))) none.1
    ∙ ap (λ (l : List Connection). with_connections l (with_end (with_connections xs v))) none.0
    ∙ none_more (with_end (with_connections xs v))
    ∙ ap (λ (l : List Connection). with_end (with_connections l v)) (sym (append-nil xs) ∙ ap (λ (l : List Connection). xs ++ l) (sym none.0))

visits_on : (xs ys : List Connection) (x y : Bool) (u v w : Option Visits) → (x ≡ true → (ys ≡ []) × (y ≡ false)) → v ≡ option_map (passed xs x) u → w ≡ option_map (passed ys y) v → w ≡ option_map (passed (xs ++ ys) (if x then true else y)) u
visits_on xs ys x y None v w once one two = two ∙ ap (option_map (passed ys y)) one
visits_on xs ys x y (Some u) v w once one two = two ∙ ap (option_map (passed ys y)) one ∙ ap (λ (t : Visits). Some t) (passed_on xs ys x y u once)

numbered_append : (n : ℕ) (xs ys : List Connection) → AreNumbered n xs → AreNumbered (n + length xs) ys → AreNumbered n (xs ++ ys)
numbered_append n [] ys one two = subst (λ (k : ℕ). AreNumbered k ys) (omega arith) two
numbered_append n (x ∷ xs) ys one two = (one.0, numbered_append (n + 1) xs ys one.1 (subst (λ (k : ℕ). AreNumbered k ys) (omega arith) two))

given_on : (xs : List Connection) (x : Bool) (v : Visits) → length (passed xs x v).given ≡ length v.given + length xs
given_on xs true v = omega (arith, length-append v.given (map (λ (d : Connection). d.given.faults) xs), length-map xs (λ (d : Connection). d.given.faults))
given_on xs false v = omega (arith, length-append v.given (map (λ (d : Connection). d.given.faults) xs), length-map xs (λ (d : Connection). d.given.faults))

numbered_on : (xs ys : List Connection) (x : Bool) (u v : Option Visits) → v ≡ option_map (passed xs x) u → IfSome u (λ visits. AreNumbered (length visits.given) xs) → IfSome v (λ visits. AreNumbered (length visits.given) ys)
    → IfSome u (λ visits. AreNumbered (length visits.given) (xs ++ ys))
numbered_on xs ys x None v is one two = tt
numbered_on xs ys x (Some u) v is one two =
    let behind : AreNumbered (length (passed xs x u).given) ys = subst (λ (o : Option Visits). IfSome o (λ visits. AreNumbered (length visits.given) ys)) is two in
    numbered_append (length u.given) xs ys one (subst (λ (k : ℕ). AreNumbered k ys) (given_on xs x u) behind)

pub served_on : (seed : List ℕ) (limit : ℕ) (gives : ℕ → Type 0) (xs ys : List Connection) (x y : Bool) (one two : List Step) (u v w : Option Visits) → (x ≡ true → (ys ≡ []) × (y ≡ false))
    → HasServed seed limit gives xs x one u v → HasServed seed limit gives ys y two v w → HasServed seed limit gives (xs ++ ys) (if x then true else y) (one ++ two) u w
served_on seed limit gives xs ys x y one two u v w once first second = record {
  visits = visits_on xs ys x y u v w once first.visits second.visits;
  numbers = numbered_on xs ys x u v first.visits first.numbers second.numbers;
  each = All-append (IsServed seed limit gives) xs ys first.each second.each;
  accepted = ap accepted_in (journal-append one two) ∙ accepted_in-append (journal_of one) (journal_of two) ∙ ap (λ (l : List Taken). l ++ accepted_in (journal_of two)) first.accepted
      ∙ ap (λ (l : List Taken). map taken_for xs ++ l) second.accepted ∙ sym (map-append taken_for xs ys);
  sessions = sessions-append one two ∙ ap (λ (l : List ChildRun). l ++ sessions_in two) first.sessions ∙ ap (λ (l : List ChildRun). map run_of xs ++ l) second.sessions ∙ sym (map-append run_of xs ys);
}
