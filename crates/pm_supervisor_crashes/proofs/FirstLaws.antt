-- A journal has no crash, or a first one.
use Rattle.std.proofs.Common.{◌≡◌, ◌⊎◌, inl, inr, Bool, true, false, List, [], ◌∷◌, ◌++◌, refl, ap}
use Rattle.pm_state.specs.{pm_supervisor.declared.Limits.Limits, declared.event.PmEvent.PmEvent, Journal.{Replay, all_replayed, replay_begun, replayed}}
use Rattle.pm_supervisor_crashes.specs.Crashes.{HasNoCrash, IsFirstCrash, is_crash}

either : (b : Bool) → (b ≡ true) ⊎ (b ≡ false)
either true = inl refl
either false = inr refl

-- the first crash among these entries, after what those before them leave
pub record FirstFrom (r : Replay) (journal : List PmEvent) : Type 0 where
  pub before : List PmEvent
  pub entry : PmEvent
  pub behind : List PmEvent
  pub is : journal ≡ before ++ entry ∷ behind
  pub none : HasNoCrash r before
  pub crash : is_crash (all_replayed r before).machine entry ≡ true

pub first_or_none : (r : Replay) (journal : List PmEvent) → FirstFrom r journal ⊎ HasNoCrash r journal
first_or_none r [] = inr tt
first_or_none r (e ∷ journal) = by (either (is_crash r.machine e)) (first_or_none (replayed r e) journal)
  where
    by : (is_crash r.machine e ≡ true) ⊎ (is_crash r.machine e ≡ false) → FirstFrom (replayed r e) journal ⊎ HasNoCrash (replayed r e) journal
        → FirstFrom r (e ∷ journal) ⊎ HasNoCrash r (e ∷ journal)
    by (inl crash) rest = inl (record { before = []; entry = e; behind = journal; is = refl; none = tt; crash = crash })
    by (inr fine) (inr none) = inr (fine, none)
    by (inr fine) (inl f) =
        inl (record { before = e ∷ f.before; entry = f.entry; behind = f.behind; is = ap (λ (es : List PmEvent). e ∷ es) f.is; none = (fine, f.none); crash = f.crash })

-- the same of a whole journal
pub no_crash_or_first : (limits : Limits) (journal : List PmEvent) → HasNoCrash (replay_begun limits) journal ⊎ ((e : PmEvent) × IsFirstCrash limits journal e)
no_crash_or_first limits journal = elim (first_or_none (replay_begun limits) journal) [
  | inl f ↦ inr (f.entry, record { before = f.before; behind = f.behind; is = f.is; none = f.none; crash = f.crash })
  | inr none ↦ inl none
]

pub no_crash_more : (r : Replay) (front : List PmEvent) (e : PmEvent) → HasNoCrash r front → is_crash (all_replayed r front).machine e ≡ false → HasNoCrash r (front ++ e ∷ [])
no_crash_more r [] e none fine = (fine, tt)
no_crash_more r (x ∷ front) e none fine = (none.0, no_crash_more (replayed r x) front e none.1 fine)
