-- Turns that heed the signals given, one after the other.
use Rattle.std.{proofs.{Common.{◌≡◌, ◌⊎◌, inl, inr, ℕ, ◌+◌, ◌≤◌, Bool, true, false, List, [], ◌∷◌, ◌++◌, Option, None, Some, IfSome, refl, sym, ◌∙◌, subst, arith}, lemmas.{List.append-nil, Bool.true≢false}}, specs.List.Contains}
use Rattle.pm_child_life.{specs.{pm_supervisor.declared.Reason.Reason, declared.standing.Standing.Standing, Life.{Told, Signal, Kill, Quit, Terminate, Cancel, Checkpoint, next_ask, was_told}, Attention.{Attention, Stands, IsAttentive, IsBy, HasAsked, HasGained, Gains, GivenSince, GivenNoMore, Hears}}, proofs.AttentionLaws.{asked_then, asked_fewer, gained_then}}
use Rattle.pm_session_exchange.specs.{Attention.{ends_by, ends_of}, Sent.{Turn, Cancelled}, Queries.SleptWhole, Answers.SleepsUncancelled}
use Rattle.pm_session.specs.Heeding.{IsEnding, SleepHeeds, TurnsHeed, HeedInTurn}

-- ---- asks

pub turns_reach : (from to : ℕ) (turns : List Turn) (given : List (ℕ × Signal)) → TurnsHeed from turns to given → IsBy from to
turns_reach from to [] given heed = heed
turns_reach from to (turn ∷ turns) given (began, over, one, rest) =
    let by = turns_reach over to turns given rest in omega (arith, one.later, one.order, by)

pub turns_then : (from mid to : ℕ) (turns more : List Turn) (given : List (ℕ × Signal)) → TurnsHeed from turns mid given → TurnsHeed mid more to given → TurnsHeed from (turns ++ more) to given
turns_then from mid to [] [] given one two = let a : IsBy from mid = one in let b : IsBy mid to = two in omega (arith, a, b)
turns_then from mid to [] (turn ∷ more) given one (began, over, first, rest) =
    (began, over, record { later = let a : IsBy from mid = one in omega (arith, a, first.later); order = first.order; unended = first.unended; cancelled = first.cancelled; uncancelled = first.uncancelled }, rest)
turns_then from mid to (turn ∷ turns) more given (began, over, first, rest) two = (began, over, first, turns_then over mid to turns more given rest two)

-- signals that are given later change nothing of a sleep before, and nothing of the turns
sleep_more : (began over to : ℕ) (given now : List (ℕ × Signal)) → IsBy over to → ((ask : ℕ) (signal : Signal) → Contains now (ask, signal) → Contains given (ask, signal) ⊎ (next_ask to ≤ ask)) → SleepHeeds began over given
    → SleepHeeds began over now
sleep_more began over to given now by fresh slept = record {
  woken = slept.woken;
  asked = slept.asked;
  order = slept.order;
  uncancelled = λ ask has low few. elim (fresh ask Cancel has) [ inl h ↦ slept.uncancelled ask h low few | inr since ↦ omega (arith, since, low, few, slept.order, by) ];
}

pub turns_more : (from to : ℕ) (turns : List Turn) (given now : List (ℕ × Signal)) → ((ask : ℕ) (signal : Signal) → Contains given (ask, signal) → Contains now (ask, signal))
    → ((ask : ℕ) (signal : Signal) → Contains now (ask, signal) → Contains given (ask, signal) ⊎ (next_ask to ≤ ask)) → TurnsHeed from turns to given → TurnsHeed from turns to now
turns_more from to [] given now kept fresh heed = heed
turns_more from to (turn ∷ turns) given now kept fresh (began, over, one, rest) =
    let by : IsBy over to = turns_reach over to turns given rest in (
      began,
      over,
      record {
        later = one.later;
        order = one.order;
        unended = λ ask signal ends has. elim (fresh ask signal has) [ inl h ↦ one.unended ask signal ends h | inr lo ↦ omega (arith, lo, one.order, by) ];
        cancelled = λ is. let own = one.cancelled is in (own.0, kept own.0 Cancel own.1, own.2, own.3);
        uncancelled = λ whole. sleep_more began over to given now by fresh (one.uncancelled whole);
      },
      turns_more over to turns given now kept fresh rest,
    )

-- ---- between moments

pub heed_none : (times : ℕ) (before now : Option Told) → HasAsked times before now → HeedInTurn [] before now
heed_none times None now asked = tt
heed_none times (Some before) None asked = absurd asked
heed_none times (Some before) (Some now) asked = omega (arith, asked.0)

pub heed_then : (turns more : List Turn) (a b c : Option Told) → HeedInTurn turns a b → HeedInTurn more b c → HasGained b c → HeedInTurn (turns ++ more) a c
heed_then turns more None b c one two gained = tt
heed_then turns more (Some a) None c one two gained = absurd one
heed_then turns more (Some a) (Some b) None one two gained = absurd two
heed_then turns more (Some a) (Some b) (Some c) one two gained =
    let first = turns_more a.asked b.asked turns b.given c.given gained.kept (λ ask signal has. elim (gained.fresh ask signal has) [ inl h ↦ inl h | inr since ↦ inr since.0 ]) one in
    turns_then a.asked b.asked c.asked turns more c.given first two

pub heed_later : (times : ℕ) (turns : List Turn) (a b c : Option Told) → HeedInTurn turns a b → HasAsked times b c → HasGained b c → HeedInTurn turns a c
heed_later times turns a b c one asked gained = subst (λ (ts : List Turn). HeedInTurn ts a c) (append-nil turns) (heed_then turns [] a b c one (heed_none times b c asked) gained)

pub heed_earlier : (times : ℕ) (turns : List Turn) (a b c : Option Told) → HasAsked times a b → HeedInTurn turns b c → HeedInTurn turns a c
heed_earlier times turns None b c asked two = tt
heed_earlier times turns (Some a) None c asked two = absurd asked
heed_earlier times turns (Some a) (Some b) None asked two = absurd two
heed_earlier times turns (Some a) (Some b) (Some c) asked two = let by : IsBy a.asked b.asked = omega (arith, asked.0) in turns_then a.asked b.asked c.asked [] turns c.given by two

-- from the child's start on
pub heed_all : (times : ℕ) (turns : List Turn) (before now : Option Told) → HasAsked times before now → HeedInTurn turns before now → IfSome now (λ t. TurnsHeed 0 turns t.asked t.given)
heed_all times turns None now asked heed = let e : now ≡ None = asked in rw e tt
heed_all times turns (Some before) None asked heed = absurd asked
heed_all times turns (Some before) (Some now) asked heed = let by : IsBy 0 before.asked = omega arith in turns_then 0 before.asked now.asked [] turns now.given by heed

-- ---- one turn

none_stands : (kill : Bool) (quit : Option Reason) (terminate : Bool) → ends_by kill quit terminate ≡ None → (kill ≡ false) × (quit ≡ None) × (terminate ≡ false)
none_stands true quit terminate is = absurd cc
none_stands false (Some reason) terminate is = absurd cc
none_stands false None true is = absurd cc
none_stands false None false is = (refl, refl, refl)

-- where nothing stands that ends the session, nothing was given that does
no_ending : (standing : Standing) (told : Told) → Stands standing told → ends_of standing ≡ None → (signal : Signal) → IsEnding signal → was_told signal told → ⊥
no_ending standing told stands none Kill ends was =
    let k : standing.kill ≡ false = (none_stands standing.kill standing.quit standing.terminate none).0 in
    true≢false (sym (stands.kill.1 was) ∙ k)
no_ending standing told stands none (Quit reason) ends was = stands.quits reason was (none_stands standing.kill standing.quit standing.terminate none).1
no_ending standing told stands none Terminate ends was =
    let t : standing.terminate ≡ false = (none_stands standing.kill standing.quit standing.terminate none).2 in
    true≢false (sym (stands.terminate.1 was) ∙ t)
no_ending standing told stands none Cancel ends was = ends
no_ending standing told stands none Checkpoint ends was = ends

-- up to the end of a sleep no cancel was given
sleep_heeds : (b c : Told) (standing : Standing) → Stands standing b → SleepsUncancelled (Some b) (Some c) → SleepHeeds b.asked c.asked c.given
sleep_heeds b c standing stands slept = by slept.woken slept.asked slept.uncancelled slept.later slept.gained
  where
    by : (woken : Option Told) → HasAsked 1 (Some b) woken → GivenNoMore Cancel (Some b) woken → HasAsked 0 woken (Some c) → HasGained woken (Some c) → SleepHeeds b.asked c.asked c.given
    by None asked none later gained = absurd asked
    by (Some woken) asked none later gained = record {
      woken = woken.asked;
      asked = asked.0;
      order = omega (arith, later.0);
      uncancelled = λ ask has low few. elim (gained.fresh ask Cancel has) [
        | inl h ↦ let made : IsBy ask b.asked = stands.asked ask Cancel (none ask h) in omega (arith, made, few)
        | inr since ↦ omega (arith, since.0, low, few)
      ];
    }

pub uncancelled_later : (k : ℕ) (a b c : Option Told) → SleepsUncancelled a b → HasAsked k b c → HasGained b c → SleepsUncancelled a c
uncancelled_later k a b c slept asked gained = record {
  woken = slept.woken;
  asked = slept.asked;
  uncancelled = slept.uncancelled;
  later = asked_fewer 0 k slept.woken c (asked_then 0 k slept.woken b c slept.later asked);
  gained = gained_then 0 k slept.woken b c slept.later asked slept.gained gained;
}

one_heeds : (turn : Turn) (a b c : Told) (standing : Standing) (k : ℕ) → IsBy (a.asked + 1) b.asked → Stands standing b → ends_of standing ≡ None → IsBy (b.asked + k) c.asked → Gains b c
    → (turn ≡ Cancelled → GivenSince Cancel (Some b) (Some c)) → (SleptWhole turn → SleepsUncancelled (Some b) (Some c)) → TurnsHeed a.asked (turn ∷ []) c.asked c.given
one_heeds turn a b c standing k first stands none second gained cancelled uncancelled = (
  b.asked,
  c.asked,
  record {
    later = first;
    order = omega (arith, second);
    unended = λ ask signal ends has. elim (gained.fresh ask signal has) [ inl h ↦ absurd (no_ending standing b stands none signal ends (ask, h)) | inr since ↦ since.0 ];
    cancelled = λ is. let own = cancelled is in (own.0, own.1, own.2.0, own.2.1);
    uncancelled = λ whole. sleep_heeds b c standing stands (uncancelled whole);
  },
  omega arith,
)

-- a turn that began where nothing stood that ends the session
pub turn_heeds : (turn : Turn) (k : ℕ) (before between now : Attention) → Hears 1 before between → IsAttentive between → ends_of between.standing ≡ None → Hears k between now → (turn ≡ Cancelled → GivenSince Cancel between.told now.told)
    → (SleptWhole turn → SleepsUncancelled between.told now.told) → HeedInTurn (turn ∷ []) before.told now.told
turn_heeds turn k before between now one attentive none two cancelled uncancelled = by before.told between.told now.told one.asked attentive two.asked two.gained cancelled uncancelled
  where
    by : (a b c : Option Told) → HasAsked 1 a b → IfSome b (Stands between.standing) → HasAsked k b c → HasGained b c → (turn ≡ Cancelled → GivenSince Cancel b c) → (SleptWhole turn → SleepsUncancelled b c) → HeedInTurn (turn ∷ []) a c
    by None b c first stands second gained since slept = tt
    by (Some a) None c first stands second gained since slept = absurd first
    by (Some a) (Some b) None first stands second gained since slept = absurd second
    by (Some a) (Some b) (Some c) first stands second gained since slept = one_heeds turn a b c between.standing k first.0 stands none second.0 gained since slept
