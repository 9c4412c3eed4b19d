-- Journal and book of a server of many connections are chained.
use Rattle.std.{proofs.{Common.{◌≡◌, ◌⊎◌, inl, inr, ℕ, ◌<◌, ◌≤◌, Bool, true, false, List, [], ◌∷◌, ◌++◌, refl, sym, ap, subst, ◌∙◌, arith, nat_lt}, lemmas.{Grind.flat_map-append, List.get_or_past}}, specs.{Prelude.{map, ◌==◌}, List.{AllByRecursion, flat_map}}}
use Rattle.pm_serve_crew.{specs.{pm_facts.Lists.{each_both, each_first, each_second}, pm_board.{pm_board_words.declared.views.{PastChild.PastChild, RosterView.RosterView, Sight.TheVariants.Unused, SlotView.SlotView}, Places.{slot_at, slot_view}}, pm_supervisor_chain.Chain.{AgreeOnGenerations, AreDistinct, InGeneration, IsAmong, IsPidOf, exits_of, gone_from, attached_of, kept_of, lost_from, redo_ends_of, redos_of, resets_of, users_from}, Left.{AreLeft, IsWorked, Manner}, Pids.{AreUsedOnce, pids_at}, Redos.{AreRedosOf, RedosAreThose, redo_told}, Uses.UsesStore, Renewals.{EachBeginsSo, RenewsAsTold}, pm_query.declared.book.BookEntry.{BookEntry, TheVariants.{Attached, Redone}}, pm_board_acts.{Board.{begun_of, ended_of}, Chained.IsChainedLoosely, Seating.{Begun, Ended, Move, begun_at, empty, ended_at, journal_of}, Standing.{AreClosing, IsBoardOf}}, pm_store_shared.{declared.views.Noted.Noted, Log.{entries_of, is_own}}, pm_state.declared.event.PmEvent.PmEvent, pm_supervisor.Children.is_dead_end, pm_worker.declared.mail.MailTold.MailTold}, proofs.{pm_supervisor_chain.FoldsLaws.{pid_left, pid_right}, BookLaws.in_book, EntriesLaws.{entries_of_runs, its_list, runs_use, worked}}}
use Rattle.pm_serve_chain.{specs.Renewed.{AgreeOnRenewals, LostAreGone}, proofs.{BookLaws.{AttachedOnce, OfRedo, OfUser, all_redos, all_users, attach_once, gone_own, opened_own}, JournalLaws.{ExitOnce, MayUse, all_ends, each_so, ends_among, exit_in, exits_once, lost_once, may_use, pids_of}, RunsLaws.{HasEnd, IsIn, IsToldIn, IsUser, all_in, all_run_ends, all_run_redos, all_run_users}, OnceLaws.{apart_joined, split}}}

-- ---- whom the supervisor gave up

lost_gone : (gone lost : List (List ℕ)) → EachBeginsSo gone lost → AllByRecursion AreDistinct lost → LostAreGone gone lost
lost_gone [] lost so once = tt
lost_gone (pids ∷ gone) [] so once = absurd so
lost_gone (pids ∷ gone) (those ∷ lost) so once = (
  record { others = so.0.others; is = so.0.is; once = subst AreDistinct (sym so.0.is) (apart_joined those so.0.others once.0 so.0.apart) },
  lost_gone gone lost so.1 once.1,
)

-- ---- children, as they began and ended

each_of : {X Y : Type 0} (P : Y → Type 0) (f : X → Y) (xs : List X) → AllByRecursion P (map f xs) → AllByRecursion (λ x. P (f x)) xs
each_of P f [] all = tt
each_of P f (x ∷ xs) all = (all.0, each_of P f xs all.1)

closing_serve_none : (users : List InGeneration) (others : List Begun) → AreClosing others → AllByRecursion (MayUse users) others
closing_serve_none users [] closing = tt
closing_serve_none users (b ∷ others) closing = (
  (λ serves. (let is : true ≡ false = sym (ap is_dead_end closing.0) ∙ serves in absurd cc)),
  closing_serve_none users others closing.1,
)

pids_ended : (past : List (PastChild MailTold)) → pids_of (map ended_of past) ≡ map (λ child. child.offer.pid) past
pids_ended [] = refl
pids_ended (child ∷ past) = ap (λ (pids : List ℕ). child.offer.pid ∷ pids) (pids_ended past)

pids_both : (xs ys : List Ended) → pids_of (xs ++ ys) ≡ pids_of xs ++ pids_of ys
pids_both [] ys = refl
pids_both (x ∷ xs) ys = ap (λ (pids : List ℕ). x.pid ∷ pids) (pids_both xs ys)

past_both : (xs ys : List (PastChild MailTold)) → map (λ child. child.offer.pid) (xs ++ ys) ≡ map (λ child. child.offer.pid) xs ++ map (λ child. child.offer.pid) ys
past_both [] ys = refl
past_both (x ∷ xs) ys = ap (λ (pids : List ℕ). x.offer.pid ∷ pids) (past_both xs ys)

-- ---- the parts that a run leaves

flat_each : (P : InGeneration → Type 0) (past : List (PastChild MailTold)) → AllByRecursion P (flat_map redo_told past) → AllByRecursion (λ child. AllByRecursion P (redo_told child)) past
flat_each P [] all = tt
flat_each P (child ∷ past) all = (each_first P (redo_told child) (flat_map redo_told past) all, flat_each P past (each_second P (redo_told child) (flat_map redo_told past) all))

none_exited : (exited : List ℕ) (ends : List InGeneration) (past : List (PastChild MailTold)) → ((pid : ℕ) → IsPidOf pid (map (λ child. child.offer.pid) past) → IsPidOf pid exited → ⊥)
    → AllByRecursion (λ child. IsToldIn exited ends child.offer.pid (redo_told child)) past
none_exited exited ends [] never = tt
none_exited exited ends (child ∷ past) never =
    ((λ there. absurd (never child.offer.pid (inl refl) there)), none_exited exited ends past (λ pid its there. never pid (inr its) there))

module _ (manner : Manner) (count : ℕ) (moves : List Move) (d : RosterView MailTold) (own : List Noted) (book : List BookEntry) (board : IsBoardOf count moves d)
    (left : AreLeft manner count d own book) (once : AreUsedOnce d) where
  abbrev journal : List PmEvent
  journal = journal_of count moves

  abbrev users : List InGeneration
  users = users_from 1 journal

  runs_used : (k : ℕ) → k < count → AllByRecursion (λ run. UsesStore run.child run.noted) (left.runs k)
  runs_used k less = runs_use manner count d own book left once k less

  work_at : (k : ℕ) (less : k < count) → IsWorked manner d k (left.runs k) (its_list manner count d own book left once k less).0
  work_at k less = worked manner count d own book left once k less

  may_run : (k : ℕ) (less : k < count) → AllByRecursion (λ run. MayUse users (begun_of run.child)) (left.runs k)
  may_run k less =
      let begun = board.begun k in
      let all : AllByRecursion (MayUse users) (begun_at count k moves ++ begun.0) =
      each_both (MayUse users) (begun_at count k moves) begun.0 (may_use k (empty count) moves) (closing_serve_none users begun.0 begun.1) in
      each_of (λ child. MayUse users (begun_of child)) (λ run. run.child) (left.runs k)
      (subst (AllByRecursion (λ child. MayUse users (begun_of child))) (work_at k less).children
      (each_of (MayUse users) begun_of (slot_at d k).past (subst (AllByRecursion (MayUse users)) (sym begun.2) all)))

  runs_in : (k : ℕ) (less : k < count) → AllByRecursion (IsIn users book) (left.runs k)
  runs_in k less = all_in users book (left.runs k) (runs_used k less) (may_run k less) (entries_of_runs manner count d own book left once k less)

  each_user : AllByRecursion (IsUser users book) (attached_of book)
  each_user = all_users (IsUser users book) book (in_book manner count d own book left once (OfUser (IsUser users book)) rest (λ k less. all_run_users users book (left.runs k) (runs_in k less)))
    where
      rest : (entry : BookEntry) → is_own entry ≡ false → OfUser (IsUser users book) entry
      rest (Attached pid generation) is = absurd cc
      rest _ is = tt

  -- ---- ends of redo

  far : (k : ℕ) → count ≤ k → (slot_at d k).past ≡ []
  far k above = ap (λ (x : SlotView MailTold). x.past) (get_or_past d.slots k (slot_view [] Unused) (omega (arith, above, left.slots)))

  slot_ends : (k : ℕ) → AllByRecursion (λ end. IsAmong end (kept_of (redos_of book))) (flat_map redo_told (slot_at d k).past)
  slot_ends k = by (nat_lt k count) refl
    where
      by : (test : Bool) → nat_lt k count ≡ test → AllByRecursion (λ end. IsAmong end (kept_of (redos_of book))) (flat_map redo_told (slot_at d k).past)
      by true is =
          let less : k < count = grind (arith, is) in
          subst (λ (past : List (PastChild MailTold)). AllByRecursion (λ end. IsAmong end (kept_of (redos_of book))) (flat_map redo_told past)) (sym (work_at k less).children)
          (all_run_ends users book (left.runs k) (runs_in k less))
      by false isnt =
          let above : count ≤ k = grind (arith, isnt) in
          subst (λ (past : List (PastChild MailTold)). AllByRecursion (λ end. IsAmong end (kept_of (redos_of book))) (flat_map redo_told past)) (sym (far k above)) tt

  redos_end : RedosAreThose moves d → AllByRecursion (λ end. IsAmong end (kept_of (redos_of book))) (redo_ends_of journal)
  redos_end those =
      all_ends (λ end. IsAmong end (kept_of (redos_of book))) (empty count) moves (λ k.
      let its : AllByRecursion (λ end. IsAmong end (kept_of (redos_of book))) (flat_map redo_told ((those k).front ++ (those k).others)) =
      subst (λ (past : List (PastChild MailTold)). AllByRecursion (λ end. IsAmong end (kept_of (redos_of book))) (flat_map redo_told past)) (those k).is (slot_ends k) in
      subst (AllByRecursion (λ end. IsAmong end (kept_of (redos_of book)))) (those k).redos
      (each_first (λ end. IsAmong end (kept_of (redos_of book))) (flat_map redo_told (those k).front) (flat_map redo_told (those k).others)
      (subst (AllByRecursion (λ end. IsAmong end (kept_of (redos_of book)))) (flat_map-append redo_told (those k).front (those k).others) its)))

  -- ---- exits

  pids_split : (k : ℕ) → pids_at d k ≡ pids_of (ended_at k moves) ++ pids_of (board.ended k).0
  pids_split k = sym (pids_ended (slot_at d k).past) ∙ (ap pids_of (board.ended k).1 ∙ pids_both (ended_at k moves) (board.ended k).0)

  has_exited : (k pid : ℕ) → IsPidOf pid (pids_of (ended_at k moves)) → IsPidOf pid (pids_at d k)
  has_exited k pid there = subst (IsPidOf pid) (sym (pids_split k)) (pid_left pid (pids_of (ended_at k moves)) (pids_of (board.ended k).0) there)

  exit_once : ExitOnce moves
  exit_once = record {
    within = λ k. (split (pids_of (ended_at k moves)) (pids_of (board.ended k).0) (subst AreDistinct (pids_split k) (once.within k))).first;
    across = λ j k pid other one two. once.across j k pid other (has_exited j pid one) (has_exited k pid two);
  }

  lost_are_once : AllByRecursion AreDistinct ([] ∷ lost_from [] journal)
  lost_are_once = (tt, lost_once [] journal (exits_once (empty count) moves exit_once))

  -- who came after those whose ends the moves tell of, has no exit
  others_stay : (k : ℕ) (told : AreRedosOf k moves (slot_at d k).past) (pid : ℕ) → IsPidOf pid (map (λ child. child.offer.pid) told.others) → IsPidOf pid (exits_of journal) → ⊥
  others_stay k told pid its there = (let found = exit_in pid (empty count) moves there in clash found.0 found.1 (found.0 == k) refl)
    where
      whole : pids_at d k ≡ map (λ child. child.offer.pid) told.front ++ map (λ child. child.offer.pid) told.others
      whole = ap (λ (past : List (PastChild MailTold)). map (λ child. child.offer.pid) past) told.is ∙ past_both told.front told.others

      clash : (j : ℕ) → IsPidOf pid (pids_of (ended_at j moves)) → (test : Bool) → (j == k) ≡ test → ⊥
      clash j found true is =
          let same : j ≡ k = grind (arith, is) in
          (split (map (λ child. child.offer.pid) told.front) (map (λ child. child.offer.pid) told.others) (subst AreDistinct whole (once.within k))).apart pid
          (subst (IsPidOf pid) (ap (λ (i : ℕ). pids_of (ended_at i moves)) same ∙ (ap pids_of (sym told.ended) ∙ pids_ended told.front)) found) its
      clash j found false isnt =
          once.across j k pid (λ same. absurd (grind (arith, same, isnt))) (has_exited j pid found)
          (subst (IsPidOf pid) (sym whole) (pid_right pid (map (λ child. child.offer.pid) told.front) (map (λ child. child.offer.pid) told.others) its))

  all_told : RedosAreThose moves d → (k : ℕ) (less : k < count)
      → AllByRecursion (λ run. IsToldIn (exits_of journal) (redo_ends_of journal) run.child.offer.pid (redo_told run.child)) (left.runs k)
  all_told those k less =
      each_of (λ child. IsToldIn (exits_of journal) (redo_ends_of journal) child.offer.pid (redo_told child)) (λ run. run.child) (left.runs k)
      (subst (AllByRecursion (λ child. IsToldIn (exits_of journal) (redo_ends_of journal) child.offer.pid (redo_told child))) (sym (those k).is ∙ (work_at k less).children)
      (each_both (λ child. IsToldIn (exits_of journal) (redo_ends_of journal) child.offer.pid (redo_told child)) (those k).front (those k).others
      (each_so (λ child. AllByRecursion (λ end. IsAmong end (redo_ends_of journal)) (redo_told child))
      (λ child. IsToldIn (exits_of journal) (redo_ends_of journal) child.offer.pid (redo_told child)) (λ child all there. all) (those k).front
      (flat_each (λ end. IsAmong end (redo_ends_of journal)) (those k).front
      (subst (AllByRecursion (λ end. IsAmong end (redo_ends_of journal))) (sym (those k).redos) (ends_among k (empty count) moves))))
      (none_exited (exits_of journal) (redo_ends_of journal) (those k).others (λ pid its there. others_stay k (those k) pid its there))))

  redos_told : RedosAreThose moves d → AllByRecursion (λ redo. IsPidOf redo.pid (exits_of journal) → IsAmong redo.kept (redo_ends_of journal)) (redos_of book)
  redos_told those =
      all_redos (HasEnd (exits_of journal) (redo_ends_of journal)) book
      (in_book manner count d own book left once (OfRedo (HasEnd (exits_of journal) (redo_ends_of journal))) rest
      (λ k less. all_run_redos (exits_of journal) (redo_ends_of journal) (left.runs k) (runs_used k less) (all_told those k less)))
    where
      rest : (entry : BookEntry) → is_own entry ≡ false → OfRedo (HasEnd (exits_of journal) (redo_ends_of journal)) entry
      rest (Redone pid generation kept) is = absurd cc
      rest _ is = tt

  pub chained : RedosAreThose moves d → IsChainedLoosely journal book
  chained those = record {
    redos_end = redos_end those;
    users = each_so (IsUser users book) (λ user. IsAmong user users) (λ user is. is.0) (attached_of book) each_user;
    once = attach_once book (each_so (IsUser users book) (λ user. AttachedOnce user.number book) (λ user is. is.1) (attached_of book) each_user);
  }

  module _ (renews : RenewsAsTold journal own) where
    generations : AgreeOnGenerations journal book
    generations = subst (λ (opened : List ℕ). (opened ≡ 1 ∷ resets_of journal) ⊎ ((last : ℕ) × (opened ++ last ∷ [] ≡ 1 ∷ resets_of journal)))
        (opened_own own book left.shuffle.log left.shuffle.book_is left.shuffle.own_list) renews.generations

    gone : LostAreGone (gone_from [] book) ([] ∷ lost_from [] journal)
    gone =
        subst (λ (pids : List (List ℕ)). LostAreGone pids ([] ∷ lost_from [] journal)) (gone_own own book left.shuffle.log left.shuffle.book_is left.shuffle.own_list)
        (lost_gone (gone_from [] (entries_of own)) ([] ∷ lost_from [] journal) renews.gone lost_are_once)

    -- they agree on the generations, too
    pub agree : RedosAreThose moves d → AgreeOnRenewals journal book
    agree those = record { generations = generations; redos_told = redos_told those; gone = gone }
