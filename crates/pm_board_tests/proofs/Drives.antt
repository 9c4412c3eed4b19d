-- How the driven slot moves.
use Rattle.std.proofs.{Common.{◌≡◌, ℕ, ◌<◌, ◌≤◌, [], length, sym, refl, ap, ◌∙◌, subst, arith}, lemmas.List.length-replicate}
use mathlib.Core.Logic.{dite}
use native.Mathlib.Decide.{ℕ_discrete}
use Rattle.std.specs.Prelude.{true, false}
use Rattle.pm_board.specs.{pm_facts.Lists.same_everywhere, pm_exit.declared.child.Kind.Kind, pm_board_words.declared.views.{SessionLimit.SessionLimit, RosterNotes.RosterNotes, RosterView.RosterView, Sight.{Sight, TheVariants.Unused}, SlotView.SlotView}, Places.{slot_at, slot_view, is_auxiliary, IsReaped, MayAssign}, Told.new_roster, Models.SlotBecame}
use Rattle.pm_board_tests.specs.Drive.{Sees, IsFree, ServesFrom}

pub may_assign : (d : RosterView ℕ) (last pid : ℕ) (kind : Kind) → IsFree d last → ServesFrom 9 4 kind → is_auxiliary kind ≡ false → last < pid → pid < 2147483648 → MayAssign d 4 pid kind
may_assign d last pid kind free serves session new fits = let count : 9 ≤ length d.slots = free.count in let top : d.notes.last_pid ≡ last = free.last_pid in record {
  slot = omega arith;
  unused = free.driven;
  new = omega arith;
  fits = fits;
  serves = serves (length d.slots) free.count;
  forerunners = λ aux. let no_ : false ≡ true = sym session ∙ aux in absurd (cc);
  reaped = λ _ k _. subst (IsReaped d.notes.last_connection (slot_at d k)) (sym (dite (ℕ_discrete k 4) (λ is. ap (λ (j : ℕ). (slot_at d j).sight) is ∙ free.driven) (free.others k))) tt;
}

pub moved : (d e : RosterView ℕ) (s : Sight ℕ) (x : SlotView ℕ) (notes : RosterNotes) (last pid : ℕ) → Sees d s last → SlotBecame 4 x notes d e → notes.last_pid ≡ pid → Sees e x.sight pid
moved d e s x notes last pid sees became top = record {
  count = subst (λ (n : ℕ). 9 ≤ n) (sym became.count) sees.count;
  driven = ap (λ (y : SlotView ℕ). y.sight) became.here;
  others = λ k ne. ap (λ (y : SlotView ℕ). y.sight) (became.others k ne) ∙ sees.others k ne;
  last_pid = ap (λ (n : RosterNotes). n.last_pid) became.notes_are ∙ top;
}

pub is_free : (d : RosterView ℕ) (count : ℕ) (limit : SessionLimit) (dealt : ℕ) → 9 ≤ count → d ≡ new_roster count limit dealt → IsFree d 0
is_free d count limit dealt many is = subst (λ (z : RosterView ℕ). IsFree z 0) (sym is) record {
  count = subst (λ (n : ℕ). 9 ≤ n) (sym (length-replicate count (slot_view [] Unused))) many;
  driven = ap (λ (x : SlotView ℕ). x.sight) (same_everywhere count 4 (slot_view [] Unused));
  others = λ k _. ap (λ (x : SlotView ℕ). x.sight) (same_everywhere count k (slot_view [] Unused));
  last_pid = refl;
}
