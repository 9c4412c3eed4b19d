-- A child that was given a cancel is one for which another asked for it, with its key under the server's seed.
use Rattle.std.{proofs.{Common.{◌≡◌, ◌⊎◌, inl, inr, ℕ, ◌<◌, ◌≤◌, List, [], ◌∷◌, Option, None, Some, get_or, length, map, refl, sym, ap, subst, ◌∙◌, arith}, lemmas.{List.{get_or_past, Elements.{Contains-append_cases, Contains-append_left, Contains-append_right, Contains-push, Contains-push_cases}}, Option.slice_get-get_or, Bool.cases_lt}}, specs.List.{AllByRecursion, Contains, flat_map}}
use Rattle.pm_board_acts.specs.{pm_board.{pm_board_words.declared.views.{Cancel.Cancel, Heard.Heard, LatchLook.LatchLook, PastChild.PastChild, PostNotes.PostNotes, RosterView.RosterView, Sight.TheVariants.{Gathered, Unused}, SlotView.SlotView}, Heard.{AllGathered, IsKnownAtLast, KnowsCancel}, Latches.{EachHeard, HeardBy, doings_of, times_told}, Models.cancel_of, Places.{slot_at, slot_view}, Seats.is_gathered}, pm_board_life.{Lives.{FindsNobody, FindsSomebody, Makes}, pm_latch.Cancelling.{HasKey, request}}, pm_worker.{declared.mail.MailTold.MailTold, Runs.{IsRun, Run}}}
use Rattle.pm_session_answers.specs.pm_query.declared.book.BookEntry.{BookEntry}
use Rattle.pm_store_shared.specs.declared.views.Noted.{Noted}
use Rattle.pm_serve_crew.specs.{Cancels.{AskedRightly, CancelsWereAskedFor, WasAskedFor}, Left.{AreLeft, IsWorked, Manner}}

-- what was heard, run by run
pub each_heard : (P : PastChild MailTold → Heard → Type 0) (runs : List Run) → EachHeard P (map (λ run. run.child) runs) (map (λ run. run.heard) runs) → AllByRecursion (λ run. P run.child run.heard) runs
each_heard P [] each = tt
each_heard P (run ∷ runs) each = (each.0, each_heard P runs each.1)

-- ---- one run

none_made : (made : List Cancel) (x : Cancel) → made ≡ [] → Contains made x → ⊥
none_made made x none there = let it : Contains [] x = subst (λ (cs : List Cancel). Contains cs x) none there in let low : it.0 < 0 = it.1 in omega arith

module _ (seed : List ℕ) (run : Run) where
  the_one : (wanted : ℕ × ℕ) (c x : Cancel) → run.asked ≡ Some wanted → HasKey (request seed wanted.0 wanted.1) → c.pid ≡ wanted.0 → Contains (c ∷ []) x → AskedRightly seed x.pid run
  the_one wanted c x is has its there = by (Contains-push_cases [] c x there)
    where
      by : Contains [] x ⊎ (c ≡ x) → AskedRightly seed x.pid run
      by (inl never) = absurd (none_made [] x refl never)
      by (inr same) =
          let pid : wanted.0 ≡ x.pid = sym its ∙ ap (λ (y : Cancel). y.pid) same in
          record {
            key = wanted.1;
            asked = subst (λ (p : ℕ). run.asked ≡ Some (p, wanted.1)) pid is;
            keyed = subst (λ (p : ℕ). HasKey (request seed p wanted.1)) pid has;
          }

  asked_rightly : (slots : ℕ) (asked : Option (ℕ × ℕ)) (looked : List LatchLook) (made : List Cancel) → run.asked ≡ asked → Makes seed slots asked looked made → (x : Cancel) → Contains made x
      → AskedRightly seed x.pid run
  asked_rightly slots None looked made its makes x there = absurd (none_made made x makes.1 there)
  asked_rightly slots (Some asked) looked made its (inl makes) x there = absurd (none_made made x makes.2 there)
  asked_rightly slots (Some asked) looked made its (inr makes) x there = by makes.1
    where
      by : FindsNobody (request seed asked.0 asked.1) slots looked made ⊎ FindsSomebody (request seed asked.0 asked.1) slots looked made → AskedRightly seed x.pid run
      by (inl finds) = absurd (none_made made x finds.makes there)
      by (inr finds) = the_one asked (cancel_of (length finds.words) seed asked.0 asked.1) x its makes.0 refl (subst (λ (cs : List Cancel). Contains cs x) finds.makes there)

-- ---- the runs of one slot

within : (d : RosterView MailTold) (k : ℕ) (past : List (PastChild MailTold)) (notes : PostNotes) → (slot_at d k).sight ≡ Gathered past notes → k < length d.slots
within d k past notes is = by (cases_lt k (length d.slots))
  where
    by : (k < length d.slots) ⊎ (length d.slots ≤ k) → k < length d.slots
    by (inl less) = less
    by (inr past_all) =
        let out : slot_at d k ≡ slot_view [] Unused = get_or_past d.slots k (slot_view [] Unused) past_all in
        let never : Unused ≡ Gathered past notes = sym (ap (λ (z : SlotView MailTold). z.sight) out) ∙ is in
        absurd (cc)

same_notes : (past past' : List (PastChild MailTold)) (notes notes' : PostNotes) → Gathered past notes ≡ Gathered past' notes' → notes ≡ notes'
same_notes past past' notes notes' is = cc

module _ (manner : Manner) where
  in_runs : (runs : List Run) → AllByRecursion (IsRun None manner.seed manner.limit manner.gives) runs → (x : Cancel) → Contains (flat_map (λ (run : Run). run.made) runs) x
      → (run : Run) × Contains runs run × AskedRightly manner.seed x.pid run
  in_runs [] each x there = absurd (none_made [] x refl there)
  in_runs (run ∷ runs) each x there = by (in_runs runs each.1 x) (Contains-append_cases run.made (flat_map (λ (r : Run). r.made) runs) x there)
    where
      Behind : Type 0
      Behind = (r : Run) × Contains runs r × AskedRightly manner.seed x.pid r

      by : (Contains (flat_map (λ (r : Run). r.made) runs) x → Behind) → Contains run.made x ⊎ Contains (flat_map (λ (r : Run). r.made) runs) x
          → (r : Run) × Contains (run ∷ runs) r × AskedRightly manner.seed x.pid r
      by rest (inl here) =
          (run, Contains-append_left (run ∷ []) runs run (Contains-push [] run), asked_rightly manner.seed run run.slots run.asked run.looked run.made refl each.0.makes x here)
      by rest (inr behind) = let its = rest behind in (its.0, Contains-append_right (run ∷ []) runs its.0 its.1, its.2)

  module _ (count : ℕ) (d : RosterView MailTold) (own : List Noted) (book : List BookEntry) (left : AreLeft manner count d own book) where
    worked : (k : ℕ) → k < count → IsWorked manner d k (left.runs k) (get_or left.lists k [])
    worked k less = left.each k (get_or left.lists k []) (slice_get-get_or left.lists k [] (omega (arith, less, left.all)))

    -- a cancel that the supervisor knows of
    pub known : (x : Cancel) → KnowsCancel d x → WasAskedFor manner.seed left.runs x.pid
    known x knows =
        let k : ℕ = knows.0 in
        let less : k < count = subst (λ (n : ℕ). k < n) left.slots (within d k knows.1 knows.2 knows.3) in
        let same : knows.2 ≡ (worked k less).notes = same_notes knows.1 (slot_at d k).past knows.2 (worked k less).notes (sym knows.3 ∙ (worked k less).gathered) in
        let its = in_runs (left.runs k) (worked k less).each x (subst (λ (cs : List Cancel). Contains cs x) (ap (λ (n : PostNotes). n.cancels) same ∙ (worked k less).cancels) knows.4) in
        (k, its.0, its.1, its.2)

    all_gathered : AllGathered d
    all_gathered k near = ap is_gathered (worked k (subst (λ (n : ℕ). k < n) left.slots near)).gathered

    given : (run : Run) → HeardBy (doings_of d) (IsKnownAtLast d) run.child run.heard → 0 < times_told run.heard.given → WasAskedFor manner.seed left.runs run.child.offer.pid
    given run heard any =
        let cancel = heard.cancels all_gathered (omega arith) in
        subst (λ (pid : ℕ). WasAskedFor manner.seed left.runs pid) cancel.1.0 (known cancel.0 cancel.2)

    pub were_asked_for : CancelsWereAskedFor manner.seed count left.runs
    were_asked_for k less =
        each (left.runs k)
        (each_heard (HeardBy (doings_of d) (IsKnownAtLast d)) (left.runs k)
        (subst (λ (heard : List Heard). EachHeard (HeardBy (doings_of d) (IsKnownAtLast d)) (map (λ run. run.child) (left.runs k)) heard) (worked k less).heard
        (subst (λ (past : List (PastChild MailTold)). EachHeard (HeardBy (doings_of d) (IsKnownAtLast d)) past (worked k less).notes.heard) (worked k less).children
        (left.sent k (slot_at d k).past (worked k less).notes (worked k less).gathered))))
      where
        each : (runs : List Run) → AllByRecursion (λ run. HeardBy (doings_of d) (IsKnownAtLast d) run.child run.heard) runs
            → AllByRecursion (λ run. 0 < times_told run.heard.given → WasAskedFor manner.seed left.runs run.child.offer.pid) runs
        each [] all = tt
        each (run ∷ runs) all = (given run all.0, each runs all.1)
