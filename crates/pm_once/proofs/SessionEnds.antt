-- The child of a session crashes only where the disk has failed.
use Rattle.std.{proofs.{Common.{◌≡◌, ◌⊎◌, inl, inr, ℕ, List, [], ◌∷◌, ◌++◌, All, refl, sym, subst, append_assoc}, lemmas.{List.Elements.{All-head, All-tail}, Option.same_Some}}, specs.Prelude.{true, not, ◌&&◌, ◌||◌}}
use Rattle.pm_server.specs.pm_admit.declared.Cac.TheVariants as decisions
use Rattle.pm_server.specs.{pm_disk.Cause.Rose, pm_exit.Ends.{is_exit_0, is_exit_1}, pm_query.declared.book.BookEntry.{BookEntry, TheVariants.{Attached, Broke}}, pm_segment.Moves.{IsCountedFrom, IsShown, Moves}, pm_session.{Session.{EndsAt, IsText, TurnsAway}, pm_session_exchange.{Ends.status_by, declared.ending.Cause.{Cause, TheVariants.{Terminated, Cancelling, LinkEnded, LinkFailed, TimedOut, PacketRefused, MessageRefused, DecisionRefused, GateRefused, ShortOfMemory, Panicked, ToldToTerminate, ToldToQuit, Killed, Overtaken}}}}}
use Rattle.pm_server.specs.pm_exit.declared.child.Kind.TheVariants as kind
use Rattle.pm_server.specs.pm_startup.declared.packet.StartFault.TheVariants as packets
use Rattle.pm_once_children.specs.Calm.{IsFineExit}
use Rattle.pm_once.specs.{Service.{Connection, IsOfItself, IsServedAs, is_panic, run_of, user_in}, View.View}

-- what ends a session of itself, but for a panic, is no crash
fine_by : (cause : Cause) → IsOfItself cause → (cause ≡ Panicked) ⊎ (((is_exit_0 (status_by cause) || is_exit_1 (status_by cause)) && not (is_panic cause)) ≡ true)
fine_by Terminated own = inr refl
fine_by Cancelling own = inr refl
fine_by LinkEnded own = inr refl
fine_by LinkFailed own = inr refl
fine_by TimedOut own = inr refl
fine_by (PacketRefused (packets.Length seen)) own = inr refl
fine_by (PacketRefused (packets.Version major minor)) own = inr refl
fine_by (PacketRefused packets.NoUser) own = inr refl
fine_by (PacketRefused packets.Replication) own = inr refl
fine_by (PacketRefused (packets.Malformed place)) own = inr refl
fine_by (PacketRefused packets.PqOption) own = inr refl
fine_by (MessageRefused fault) own = inr refl
fine_by DecisionRefused own = absurd own
fine_by (GateRefused refusal) own = absurd own
fine_by ShortOfMemory own = inr refl
fine_by Panicked own = inl refl
fine_by ToldToTerminate own = absurd own
fine_by (ToldToQuit reason) own = absurd own
fine_by Killed own = absurd own
fine_by Overtaken own = absurd own

all_behind : (P : BookEntry → Type 0) (xs ys : List BookEntry) → All P (xs ++ ys) → All P ys
all_behind P [] ys all = all
all_behind P (x ∷ xs) ys all = all_behind P xs ys (All-tail P x (xs ++ ys) all)

all_front : (P : BookEntry → Type 0) (x : BookEntry) (xs ys : List BookEntry) → xs ≡ x ∷ [] → All P (xs ++ ys) → P x
all_front P x xs ys is all = All-head P x ys (subst (λ (l : List BookEntry). All P (l ++ ys)) is all)

-- a panic noted the fault of the disk
panic_rose : (from faults key : ℕ) (c : Connection) (came_in whole : List ℕ) (noted : List BookEntry) → c.ending.cause ≡ Panicked → IsText decisions.Ok (user_in c) key c.turns c.ending came_in whole noted
    → All (IsShown from faults) noted → Rose from faults
panic_rose from faults key c came_in whole noted is (inl away) shown = absurd (subst (λ (cause : Cause). TurnsAway (user_in c) c.ending.stage away.0.phase cause away.0.last) is away.0.stops)
panic_rose from faults key c came_in whole noted is (inr served) shown =
    let ends = subst (λ (cause : Cause). EndsAt (user_in c) cause served.last served.ended) is served.ends in
    let all : All (IsShown from faults) (((Attached c.pid c.generation ∷ served.asked) ++ served.ended) ++ served.left) = subst (λ (l : List BookEntry). All (IsShown from faults) l) served.notes shown in
    all_broke ends.0 ends.1 served.ended (Attached c.pid c.generation ∷ served.asked) served.left ends.4 ends.3.0 ends.3.1 ends.3.2 all
  where
    all_broke : (asked broke ended front left : List BookEntry) → ended ≡ asked ++ broke → (since count : ℕ) → broke ≡ Broke c.pid since count ∷ [] → All (IsShown from faults) ((front ++ ended) ++ left) → Rose from faults
    all_broke asked broke ended front left parts since count one all =
        all_front (IsShown from faults) (Broke c.pid since count) broke left one
        (all_behind (IsShown from faults) asked (broke ++ left)
        (subst (λ (l : List BookEntry). All (IsShown from faults) l) (append_assoc asked broke left)
        (subst (λ (l : List BookEntry). All (IsShown from faults) (l ++ left)) parts
        (all_behind (IsShown from faults) front (ended ++ left) (subst (λ (l : List BookEntry). All (IsShown from faults) l) (append_assoc front ended left) all)))))

pub session_sound : (key limit : ℕ) (gives : ℕ → Type 0) (from : ℕ) (c : Connection) (before now : View) → IsServedAs key limit gives c → Moves c.noted before.store now.store → IsCountedFrom from before.store.faults before.store.live
    → ((run_of c).kind ≡ kind.Backend → IsFineExit (run_of c)) ⊎ Rose from now.store.faults
session_sound key limit gives from c before now served store counted = elim (fine_by c.ending.cause served.alone.cause) [
  | inr fine ↦ inl (λ is. subst (λ (x : Cause). ((is_exit_0 (status_by x) || is_exit_1 (status_by x)) && not (is_panic x)) ≡ true) (sym served.alone.exit) fine)
  | inl panicked ↦ inr (panic_rose from now.store.faults key c served.session.came_in served.session.whole served.session.noted panicked served.session.text
      (subst (λ (l : List BookEntry). All (IsShown from now.store.faults) l) (same_Some c.noted served.session.noted served.session.entries) (store.spans.counts from counted).each))
]
