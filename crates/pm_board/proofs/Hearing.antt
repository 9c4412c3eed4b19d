-- What the seats know of what children heard.
use Rattle.std.{proofs.{Common.{◌≡◌, ◌⊎◌, inl, inr, ℕ, zero, suc, ◌+◌, ◌==◌, ◌<◌, ◌≤◌, List, [], ◌∷◌, ◌++◌, length, refl, sym, ap, ◌∙◌, subst, arith, append-nil, ne_eqb}, lemmas.List.get_or_past}, specs.{Prelude.{true, false}, List.{Contains, AllByRecursion}}}
use mathlib.Core.Logic.{dite}
use native.Mathlib.Decide.{ℕ_discrete, dec_le}
use Rattle.pm_facts.specs.Numbers.{sum_below}
use Rattle.pm_board_words.specs.{declared.views.{SessionLimit.SessionLimit, Cancel.Cancel, Heard.Heard, Offer.Offer, PastChild.PastChild, PostNotes.PostNotes, PostView.PostView, RosterStep.RosterStep, RosterView.RosterView, Sight.{Sight, TheVariants.{Unused, Gathered}}, SlotView.SlotView, View.View}, Words.bit}
use Rattle.pm_board.{specs.{Gate.InGeneration, Heard.{HoldsCancel, KnowsCancel, WasMade, IsKnownAtLast, HeardAsSent}, Latches.{Doings, doings, doings_of, HeardRightly, EachHeard, HeardBy, beside, waiting, times_made, WereMade, cancel_at, Latches}, Places.{slot_view, slot_at}, Rule.{Cell, idle_post}, Seats.{is_gathered, HasSeat, held, taken, Seats}}, proofs.Latches.{heard-more, each-map}}
use Rattle.pm_keys.specs.CancelKey.{cancel_key}

module _ {D : Type 0} (steps : List RosterStep) (limit : SessionLimit) (limit' : SessionLimit) (same : limit ≡ limit') (before after : ℕ → ℕ → Type 0) (grow : (pid times : ℕ) → before pid times → after pid times) where
  pub heard_known : (o : Offer D) (h : Heard) → HeardRightly (doings steps limit) before o h → HeardRightly (doings steps limit') after o h
  heard_known o h r = subst (λ (z : Doings). HeardRightly z after o h) {x = doings (steps ++ []) limit} {y = doings steps limit'} (λ i. doings (append-nil steps i) (same i)) (heard-more limit steps [] before after grow o h r)

  pub each_known : (past : List (PastChild D)) (hs : List Heard) → EachHeard (HeardBy (doings steps limit) before) past hs → EachHeard (HeardBy (doings steps limit') after) past hs
  each_known past hs all = each-map _ _ (λ x h r. heard_known x.offer h r) past hs all

-- every worker goes by the supervisor's limit of sessions
pub same_limit : {D : Type 0} (limit : SessionLimit) (g : ℕ) (d : RosterView D) (cells : ℕ → Cell D) → ((k : ℕ) → InGeneration limit g (cells k).post) → ((k : ℕ) → d.dealt ≤ k → (cells k).post ≡ idle_post d.session_limit) → (k : ℕ) → (cells k).post.notes.session_limit ≡ d.session_limit
same_limit {D} limit g d cells current new_posts k = (current k).limit_is ∙ (sym (current d.dealt).limit_is ∙ ap (λ (z : PostView D). z.notes.session_limit) (new_posts d.dealt (omega arith)))

-- where there are cancels for a pid there is one
some_cancel : (P : Cancel → Type 0) (pid : ℕ) (xs : List Cancel) → AllByRecursion P xs → 0 < times_made pid xs → (x : Cancel) × Contains xs x × (x.pid ≡ pid) × P x
some_cancel P pid [] all pos = absurd (omega arith)
some_cancel P pid (y ∷ ys) all pos = dite (ℕ_discrete y.pid pid)
    (λ is. (y, (0, omega arith, refl), is, all.0))
    (λ ne. let z : bit (y.pid == pid) ≡ 0 = ap bit (ne_eqb y.pid pid ne) in let t = some_cancel P pid ys all.1 (omega arith) in (t.0, behind y ys t.0 t.1, t.2, t.3))
  where
    behind : (y : Cancel) (ys : List Cancel) (x : Cancel) → Contains ys x → Contains (y ∷ ys) x
    behind y ys x has = (suc has.0, (let l : has.0 < length ys = has.1 in omega arith), has.2)

some_term : (n : ℕ) (f : ℕ → ℕ) → 0 < sum_below n f → (j : ℕ) × (j < n) × (0 < f j)
some_term zero f pos = absurd (omega arith)
some_term (suc n) f pos = dite (ℕ_discrete (f n) 0)
    (λ none_. let t = some_term n f (omega arith) in (t.0, (let l : t.0 < n = t.1 in omega arith), t.2))
    (λ some_. (n, omega arith, omega arith))

module _ {D : Type 0} (views : List (View D)) (n : ℕ) (words : List ℕ) (d : RosterView D) (cells : ℕ → Cell D) (la : Latches n words d cells) (seats : Seats views d cells) (new_posts : (k : ℕ) → d.dealt ≤ k → (cells k).post ≡ idle_post d.session_limit) (many : length d.slots ≡ n) where
  -- a cancel that was made, by the worker of some slot
  made_by : (pid times : ℕ) → 0 < times → WereMade n cells pid times → (j : ℕ) × (j < n) × ((x : Cancel) × Contains (cells j).post.notes.cancels x × (x.pid ≡ pid) × (x.key ≡ cancel_key x.seed x.pid))
  made_by pid times pos made = let t = some_term n (λ j. times_made pid (cells j).post.notes.cancels) (omega arith) in
      (t.0, t.1, some_cancel (λ (x : Cancel). x.key ≡ cancel_key x.seed x.pid) pid (cells t.0).post.notes.cancels (la.each t.0 t.1).keyed t.2)

  -- it is known to a seat
  pub made_known : (pid times : ℕ) → WereMade n cells pid times → WasMade views d pid times
  made_known pid times made pos = let w = made_by pid times pos made in let x = w.2 in dite (dec_le (w.0 + 1) d.dealt)
      (λ l. (x.0, (x.2, x.3), holder (slot_at d w.0).sight w.0 (cells w.0) x.0 refl x.1 (seats.each w.0 (omega arith))))
      (λ no. let none_ : Contains [] x.0 = subst (λ (p : PostView D). Contains p.notes.cancels x.0) (new_posts w.0 (omega arith)) x.1 in absurd (let l : none_.0 < 0 = none_.1 in omega arith))
    where
      holder : (s : Sight D) (k : ℕ) (c : Cell D) (x : Cancel) → (slot_at d k).sight ≡ s → Contains c.post.notes.cancels x → HasSeat views s k c → HoldsCancel views x ⊎ KnowsCancel d x
      holder s k c x is has (held h e) = inl (c.seat, k, c.post, h, has)
      holder s k c x is has (taken h e) = inr (k, c.post.past, c.post.notes, is ∙ e, has)

  -- what the supervisor sees of a slot that it has taken in is what its worker knew
  pub gathered_is : (k : ℕ) → is_gathered (slot_at d k).sight ≡ true → (slot_at d k).sight ≡ Gathered (cells k).post.past (cells k).post.notes
  gathered_is k is = dite (dec_le (k + 1) d.dealt)
      (λ l. by_seat (slot_at d k).sight k (cells k) is (seats.each k (omega arith)))
      (λ no. let no_ : true ≡ false = sym is ∙ seats.none_yet k (omega arith) in absurd (cc))
    where
      by_seat : (s : Sight D) (k : ℕ) (c : Cell D) → is_gathered s ≡ true → HasSeat views s k c → s ≡ Gathered c.post.past c.post.notes
      by_seat s k c is (held h e) = let no_ : true ≡ false = sym is ∙ e in absurd (cc)
      by_seat s k c is (taken h e) = e

  -- and to the supervisor once it has taken in every post
  pub known_at_last : (pid times : ℕ) → WereMade n cells pid times → IsKnownAtLast d pid times
  known_at_last pid times made all pos = let w = made_by pid times pos made in let x = w.2 in let l : w.0 < length d.slots = subst (λ (m : ℕ). w.0 < m) (sym many) w.1 in
      (x.0, (x.2, x.3), (w.0, (cells w.0).post.past, (cells w.0).post.notes, gathered_is w.0 (all w.0 l), x.1))

  pub heard_as_sent : ((k : ℕ) → (cells k).post.notes.session_limit ≡ d.session_limit) → HeardAsSent d
  heard_as_sent limits k past notes is = dite (dec_le (k + 1) n)
      (λ l. let same : Gathered past notes ≡ Gathered (cells k).post.past (cells k).post.notes = sym is ∙ gathered_is k (ap is_gathered is) in let p : (cells k).post.past ≡ past = cc in let q : (cells k).post.notes ≡ notes = cc in
      subst (λ (z : List (PastChild D) × PostNotes). EachHeard (HeardBy (doings_of d) (IsKnownAtLast d)) z.0 z.1.heard) {x = ((cells k).post.past, (cells k).post.notes)} {y = (past, notes)} (λ i. (p i, q i))
      (each_known d.notes.steps (cells k).post.notes.session_limit d.session_limit (limits k) (beside (WereMade n cells) (cancel_at n words k)) (IsKnownAtLast d) (λ pid times made. known_at_last pid times (let m : times + waiting (cancel_at n words k) pid ≤ sum_below n (λ j. times_made pid (cells j).post.notes.cancels) = made in omega arith)) (cells k).post.past (cells k).post.notes.heard (la.each k (omega arith)).past))
      (λ no. let out : slot_at d k ≡ slot_view [] Unused = get_or_past d.slots k (slot_view [] Unused) (omega arith) in let no_ : Unused ≡ Gathered past notes = sym (ap (λ (z : SlotView D). z.sight) out) ∙ is in absurd (cc))
