-- How a board of the tests moves.
use Rattle.std.proofs.{Common.{◌≡◌, ℕ, suc, ◌+◌, ◌<◌, ◌≤◌, List, [], ◌∷◌, length, get_or, refl, sym, ap, ◌∙◌, subst, arith}, lemmas.List.length-replicate}
use mathlib.Core.Logic.{dite}
use native.Mathlib.Decide.{ℕ_discrete, dec_le}
use Rattle.std.specs.Prelude.{true, false, Option, Some, None, IfSome, MatchOption}
use Rattle.pm_board.specs.{pm_facts.Lists.same_everywhere, pm_exit.declared.child.Kind.Kind, pm_board_words.{declared.views.{SessionLimit.SessionLimit, Offer.Offer, RosterNotes.RosterNotes, RosterStep.RosterStep, RosterView.RosterView, Sight.{Sight, TheVariants.{Unused, Assigned}}, SlotView.SlotView, Work.TheVariants.Idle}, Words.bit}, Places.{slot_at, slot_view, lost, is_auxiliary, is_connection, SlotServes, IsReaped, MayAssign, is_used, used_in}, Gate.gate_of, Told.{new_roster, after_step}, Models.{PostModel, SlotBecame, AreNewPosts, MayOpen, MayReset}, Posts.AllIdle}
use Rattle.atomic_table.specs.Seated.{TableId}
use Rattle.pm_board_tests.specs.GateChildren.{HasChildren, IsEmpty, IsUntouched, IsAtSlot, HasBegun, HasReaped, HasVisited}

abbrev new_slot : SlotView ℕ
new_slot = slot_view [] Unused

pub untouched : (d : RosterView ℕ) (limit : SessionLimit) (dealt : ℕ) → d ≡ new_roster 15 limit dealt → IsUntouched d
untouched d limit dealt is = record {
  count = ap (λ (z : RosterView ℕ). length z.slots) is ∙ length-replicate 15 new_slot;
  each = λ k. ap (λ (z : RosterView ℕ). slot_at z k) is ∙ same_everywhere 15 k new_slot;
  last_pid = ap (λ (z : RosterView ℕ). z.notes.last_pid) is;
}

pub all_idle : (count : ℕ) (limit : SessionLimit) (t : TableId) (posts : List (PostModel ℕ)) → AreNewPosts count limit t posts → AllIdle posts
all_idle count limit t posts new k p e = ap (λ (q : PostModel ℕ). q.knows.work) (new.1 k p e)

pub first_idle : (r : Option (PostModel ℕ)) (posts rest : List (PostModel ℕ)) → MatchOption r ((posts ≡ []) × (rest ≡ [])) (λ p. posts ≡ p ∷ rest) → AllIdle posts → IfSome r (λ p. p.knows.work ≡ Idle)
first_idle None posts rest is all = tt
first_idle (Some p) posts rest is all = subst AllIdle is all 0 p refl

pub then : (k last next : ℕ) (d e f : RosterView ℕ) → IsAtSlot k last d e → IsAtSlot k next e f → IsAtSlot k next d f
then k last next d e f a b = record {
  count = b.count ∙ a.count;
  others = λ j ne. b.others j ne ∙ a.others j ne;
  gate = b.gate ∙ a.gate;
  last_pid = b.last_pid;
}

pub became : (k : ℕ) (x : SlotView ℕ) (notes : RosterNotes) (d e : RosterView ℕ) → SlotBecame k x notes d e → IsAtSlot k notes.last_pid d e
became k x notes d e was = record { count = was.count; others = was.others; gate = ap gate_of was.whole; last_pid = ap (λ (n : RosterNotes). n.last_pid) was.notes_are }

pub reaped : (k : ℕ) (d e f : RosterView ℕ) (x y : SlotView ℕ) (m n : RosterNotes) → SlotBecame k x m d e → SlotBecame k y n e f → m.last_pid ≡ d.notes.last_pid → n.last_pid ≡ e.notes.last_pid → y.sight ≡ Unused → HasReaped k d f
reaped k d e f x y m n a b first next free =
    let same : n.last_pid ≡ d.notes.last_pid = next ∙ (ap (λ (z : RosterNotes). z.last_pid) a.notes_are ∙ first) in
    (subst (λ (p : ℕ). IsAtSlot k p d f) same (then k _ _ d e f (became k x m d e a) (became k y n e f b)), ap (λ (z : SlotView ℕ). z.sight) b.here ∙ free)

pub visited : (k pid : ℕ) (d e f : RosterView ℕ) → IsAtSlot k pid d e → HasReaped k e f → HasVisited k pid d f
visited k pid d e f a b = (subst (λ (p : ℕ). IsAtSlot k p d f) a.last_pid (then k _ _ d e f a b.0), b.1)

pub first_assign : (d : RosterView ℕ) (k : ℕ) (kind : Kind) → IsUntouched d → k ≤ 3 → SlotServes 15 k kind → MayAssign d k 1 kind
first_assign d k kind new few serves = let many : length d.slots ≡ 15 = new.count in let top : d.notes.last_pid ≡ 0 = new.last_pid in record {
  slot = omega arith;
  unused = ap (λ (x : SlotView ℕ). x.sight) (new.each k);
  new = omega arith;
  fits = omega arith;
  serves = subst (λ (n : ℕ). SlotServes n k kind) (sym many) serves;
  forerunners = λ _. ap (λ (x : SlotView ℕ). lost is_auxiliary d.generation x.past) (new.each k);
  reaped = λ _ j _. subst (λ (x : SlotView ℕ). IsReaped d.notes.last_connection x x.sight) (sym (new.each j)) tt;
}

-- a child of a session
pub may_assign : (d : RosterView ℕ) (low k last pid : ℕ) (kind : Kind) → HasChildren low k last d → k < 15 → low ≤ k → last < pid → pid < 2147483648 → SlotServes 15 k kind → is_auxiliary kind ≡ false → (is_connection kind ≡ true → low ≡ k) → MayAssign d k pid kind
may_assign d low k last pid kind has near from above fits serves session alone = let many : length d.slots ≡ 15 = has.count in let top : d.notes.last_pid ≡ last = has.last_pid in record {
  slot = omega arith;
  unused = has.above k (omega arith);
  new = omega arith;
  fits = fits;
  serves = subst (λ (n : ℕ). SlotServes n k kind) (sym many) serves;
  forerunners = λ aux. let no_ : false ≡ true = sym session ∙ aux in absurd (cc);
  reaped = λ is j _. let same : low ≡ k = alone is in subst (IsReaped d.notes.last_connection (slot_at d j)) (sym (dite (dec_le k j) (λ l. has.above j l) (λ l. has.below j (omega arith)))) tt;
}

pub may_open : (d : RosterView ℕ) → (slot_at d 0).sight ≡ Unused → d.is_open ≡ false → MayOpen d
may_open d free shut = (shut, λ o is. let no_ : Unused ≡ Assigned o = sym free ∙ is in absurd (cc))

pub stepped : (low high last : ℕ) (s : RosterStep) (d e : RosterView ℕ) → HasChildren low high last d → e ≡ after_step d s → HasChildren low high last e
stepped low high last s d e has is = subst (HasChildren low high last) (sym is) record { count = has.count; below = has.below; within = has.within; above = has.above; last_pid = has.last_pid }

pub untouched_by : (s : RosterStep) (d e : RosterView ℕ) → IsUntouched d → e ≡ after_step d s → IsUntouched e
untouched_by s d e new is = subst IsUntouched (sym is) record { count = new.count; each = new.each; last_pid = new.last_pid }

pub empty_at : (k last : ℕ) (d : RosterView ℕ) → IsEmpty last d → HasChildren k k last d
empty_at k last d has = record { count = has.count; below = λ j _. has.above j (omega arith); within = λ j from l. absurd (omega arith); above = λ j _. has.above j (omega arith); last_pid = has.last_pid }

pub empty_of : (k last : ℕ) (d : RosterView ℕ) → HasChildren k k last d → IsEmpty last d
empty_of k last d has = record {
  count = has.count;
  below = λ j l. absurd (omega arith);
  within = λ j _ l. absurd (omega arith);
  above = λ j _. dite (dec_le k j) (λ l. has.above j l) (λ l. has.below j (omega arith));
  last_pid = has.last_pid;
}

pub begun : (low k last pid : ℕ) (d e : RosterView ℕ) → HasChildren low k last d → low ≤ k → HasBegun k pid d e → HasChildren low (k + 1) pid e
begun low k last pid d e has from was = record {
  count = was.0.count ∙ has.count;
  below = λ j l. ap (λ (x : SlotView ℕ). x.sight) (was.0.others j (λ is. absurd (omega arith))) ∙ has.below j l;
  within = λ j a l. dite (ℕ_discrete j k)
      (λ is. subst (λ (i : ℕ). (o : Offer ℕ) × ((slot_at e i).sight ≡ Assigned o)) (sym is) was.1)
      (λ ne. let had = has.within j a (omega arith) in (had.0, ap (λ (x : SlotView ℕ). x.sight) (was.0.others j ne) ∙ had.1));
  above = λ j l. ap (λ (x : SlotView ℕ). x.sight) (was.0.others j (λ is. absurd (omega arith))) ∙ has.above j (omega arith);
  last_pid = was.0.last_pid;
}

pub left : (k high last : ℕ) (d e : RosterView ℕ) → HasChildren k high last d → k < high → HasReaped k d e → HasChildren (k + 1) high last e
left k high last d e has to was = record {
  count = was.0.count ∙ has.count;
  below = λ j l. dite (ℕ_discrete j k)
      (λ is. ap (λ (i : ℕ). (slot_at e i).sight) is ∙ was.1)
      (λ ne. ap (λ (x : SlotView ℕ). x.sight) (was.0.others j ne) ∙ has.below j (omega arith));
  within = λ j a l. let had = has.within j (omega arith) l in (had.0, ap (λ (x : SlotView ℕ). x.sight) (was.0.others j (λ is. absurd (omega arith))) ∙ had.1);
  above = λ j l. ap (λ (x : SlotView ℕ). x.sight) (was.0.others j (λ is. absurd (omega arith))) ∙ has.above j l;
  last_pid = was.0.last_pid ∙ has.last_pid;
}

unused_counts : (xs : List (SlotView ℕ)) → ((k : ℕ) → (get_or xs k new_slot).sight ≡ Unused) → used_in xs ≡ 0
unused_counts [] all = refl
unused_counts (x ∷ xs) all =
    let here : bit (is_used x.sight) ≡ 0 = ap (λ (s : Sight ℕ). bit (is_used s)) (all 0) in
    let rest : used_in xs ≡ 0 = unused_counts xs (λ k. all (suc k)) in
    omega arith

pub may_reset : (d : RosterView ℕ) (last : ℕ) → IsEmpty last d → d.generation < 4294967295 → MayReset d
may_reset d last has fits = (unused_counts d.slots (λ k. has.above k (omega arith)), fits)

pub empty_new : (d : RosterView ℕ) → IsUntouched d → IsEmpty 0 d
empty_new d new = record {
  count = new.count;
  below = λ j l. absurd (omega arith);
  within = λ j _ l. absurd (omega arith);
  above = λ j _. ap (λ (x : SlotView ℕ). x.sight) (new.each j);
  last_pid = new.last_pid;
}

-- a child of a session that was told by its place among the workers
pub may_offer : (d : RosterView ℕ) (place last slot pid : ℕ) (kind : Kind) → HasChildren 3 (3 + place) last d → slot ≡ 3 + place → pid ≡ last + 1 → place < 8 → pid < 2147483648 → SlotServes 15 (3 + place) kind → is_auxiliary kind ≡ false → (is_connection kind ≡ true → place ≡ 0) → MayAssign d slot pid kind
may_offer d place last slot pid kind has is_slot is_pid few fits serves session first =
    subst (λ (s : ℕ). MayAssign d s pid kind) (sym is_slot)
    (may_assign d 3 (3 + place) last pid kind has (omega arith) (omega arith) (omega arith) fits serves session (λ is. let none : place ≡ 0 = first is in omega arith))

pub offered : (d e : RosterView ℕ) (place last next slot pid : ℕ) → HasChildren 3 (3 + place) last d → slot ≡ 3 + place → pid ≡ next → HasBegun slot pid d e → HasChildren 3 (3 + (place + 1)) next e
offered d e place last next slot pid has is_slot is_pid was =
    let here : HasBegun (3 + place) pid d e = subst (λ (s : ℕ). HasBegun s pid d e) is_slot was in
    let more : HasChildren 3 (3 + place + 1) pid e = begun 3 (3 + place) last pid d e has (omega arith) here in
    subst (λ (h : ℕ). HasChildren 3 h next e) (let one : 3 + place + 1 ≡ 3 + (place + 1) = omega arith in one) (subst (λ (p : ℕ). HasChildren 3 (3 + place + 1) p e) is_pid more)

pub gone : (d e : RosterView ℕ) (place last : ℕ) → HasChildren (3 + place) 11 last d → place < 8 → HasReaped (3 + place) d e → HasChildren (3 + (place + 1)) 11 last e
gone d e place last has few was =
    subst (λ (l : ℕ). HasChildren l 11 last e) (let one : 3 + place + 1 ≡ 3 + (place + 1) = omega arith in one) (left (3 + place) 11 last d e has (omega arith) was)

pub still : (k : ℕ) (d : RosterView ℕ) → IsAtSlot k d.notes.last_pid d d
still k d = record { count = refl; others = λ j _. refl; gate = refl; last_pid = refl }

pub looked : (k pid : ℕ) (d e f : RosterView ℕ) (x : SlotView ℕ) (n : RosterNotes) → IsAtSlot k pid d e → SlotBecame k x n e f → n.last_pid ≡ e.notes.last_pid → IsAtSlot k pid d f
looked k pid d e f x n a b same = subst (λ (p : ℕ). IsAtSlot k p d f) (same ∙ a.last_pid) (then k _ _ d e f a (became k x n e f b))
