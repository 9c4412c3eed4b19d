-- How the board of the tests moves.
use Rattle.std.proofs.{Common.{◌≡◌, ℕ, [], length, sym, ap, ◌∙◌, subst}, lemmas.List.length-replicate}
use Rattle.pm_query.specs.pm_facts.Lists.{same_everywhere}
use Rattle.pm_board.specs.{pm_board_words.declared.views.{SessionLimit.SessionLimit, RosterNotes.RosterNotes, RosterStep.RosterStep, RosterView.RosterView, Sight.TheVariants.Unused, SlotView.SlotView}, Places.{slot_at, slot_view, IsReaped}, Told.{new_roster, after_step}, Models.SlotBecame}
use Rattle.pm_child_tests.specs.Crew.{IsSettled, IsManned, IsFresh, HasLookedAt}

-- ---- posts

-- ---- a slot

-- its child was found ended, and then released
pub looked_ended : {D : Type 0} (k : ℕ) (d e f : RosterView D) (x y : SlotView D) (n m : RosterNotes) → SlotBecame k x n d e → SlotBecame k y m e f → y.sight ≡ Unused
    → n.last_pid ≡ d.notes.last_pid → n.last_connection ≡ d.notes.last_connection → m.last_pid ≡ e.notes.last_pid → m.last_connection ≡ e.notes.last_connection → HasLookedAt k d f
looked_ended {D} k d e f x y n m a b free_ p₁ c₁ p₂ c₂ =
    let sight = ap (λ (z : SlotView D). z.sight) b.here ∙ free_ in
    let pid = λ (z : RosterNotes). z.last_pid in
    let connection = λ (z : RosterNotes). z.last_connection in
    let gate = λ (z : RosterView D). z.is_open in
    record {
      count = b.count ∙ a.count;
      others = λ j ne. b.others j ne ∙ a.others j ne;
      settled = subst IsSettled (sym sight) tt;
      reaped = subst (IsReaped f.notes.last_connection (slot_at f k)) (sym sight) tt;
      last_pid = ap pid b.notes_are ∙ (p₂ ∙ (ap pid a.notes_are ∙ p₁));
      last_connection = ap connection b.notes_are ∙ (c₂ ∙ (ap connection a.notes_are ∙ c₁));
      is_open = ap gate b.whole ∙ ap gate a.whole;
    }

-- ---- the board

pub new_fresh : {D : Type 0} (d : RosterView D) (limit : SessionLimit) (dealt : ℕ) → d ≡ new_roster 47 limit dealt → IsFresh d 0
new_fresh {D} d limit dealt is =
    let blank : SlotView D = slot_view [] Unused in
    let new : (j : ℕ) → slot_at d j ≡ blank = (λ j. ap (λ (z : RosterView D). slot_at z j) is ∙ same_everywhere 47 j blank) in
    record {
      manned = record {
        count = ap (λ (z : RosterView D). length z.slots) is ∙ length-replicate 47 blank;
        settled = λ j. subst (λ (x : SlotView D). IsSettled x.sight) (sym (new j)) tt;
      };
      new = λ j _. new j;
      last_pid = ap (λ (z : RosterView D). z.notes.last_pid) is;
    }

pub sent_manned : {D : Type 0} (d e : RosterView D) (s : RosterStep) → e ≡ after_step d s → IsManned d → IsManned e
sent_manned d e s is manned = subst IsManned (sym is) (record { count = manned.count; settled = manned.settled })
