-- What a legal journal tells that ends clean.
use Rattle.std.{proofs.{Common.{◌≡◌, ◌≢◌, ℕ, Bool, true, false, not, ◌&&◌, ◌||◌, fold, List, [], ◌∷◌, ◌++◌, refl, ap, subst, ◌∙◌, arith}, lemmas.List.{Folds.list_any-append, Sums.fold-append}}, specs.List.{AllByRecursion, list_any}}
use Rattle.pm_serve_crew.specs.{pm_modes.{declared.Mode.TheVariants.Immediate, Strength.strengthen_of}, pm_supervisor.{declared.Limits.Limits, Children.Child}, pm_state.{declared.{action.Action.Action, event.PmEvent.PmEvent, machine.Machine.Machine}, Laws.RestartsSafely, Machine.{Exited, step}, Promises.has_act, Requests.asked_with, Restarts.Counts, Journal.{AreLegal, Follows, IsLegal, MayCome, Replay, all_replayed, caused, dues_after, replay_begun, replayed, reported}}}
use Rattle.pm_serve_crew.specs.pm_supervisor.declared.Ending.TheVariants as ending
use Rattle.pm_serve_crew.specs.pm_state.declared.event.PmEvent.TheVariants as entry
use Rattle.pm_store_remains.proofs.pm_state.{ReplayLaws.{AreCounted, Keeps, acts_behind_redo, acts_in, acts_in_dues, are_counted, first_on, follows_on, rested}, ChildLaws.is_deserted}
use Rattle.pm_store_remains.proofs.pm_state.ChildLaws as children
use Rattle.pm_serve_clean_end.{specs.{Latest.{latest, latest_after}, Seen.{Seen, checks, harms, is_clean_end, redoes, seen_after, undoes}}, proofs.MachineLaws.{IsInOrder, accepted_so, act_so, asked_so, begun_so, exited_so, has_nobody, is_clean_act, row_so, settled_so, ticked_so}}

-- no shutdown that it asks for is an immediate one
abbrev pub IsMild : PmEvent → Type 0
IsMild (entry.Asked mode at) = mode ≢ Immediate
IsMild _ = Unit {0}

-- ---- an entry more

abbrev InOrder : Seen → Replay → Type 0
InOrder s r = IsInOrder s (acts_in r.due) r.machine

-- of an entry itself nothing is said
abbrev IsAny : PmEvent → Type 0
IsAny e = Unit {0}

keeps_order : Keeps Seen seen_after IsInOrder IsAny
keeps_order = record {
  acted = λ s shown a acts e m fits so. (tt, act_so s shown a acts e m fits so);
  redo = λ s generation kept acts m so. (tt, so);
  row = row_so;
  settled = settled_so;
}

-- where nothing was due
order_rested : (s : Seen) (r : Replay) (e : PmEvent) (acts : List Action) → r.due ≡ [] → acts_in (dues_after r.machine e) ≡ acts
    → IsInOrder s acts (reported e (caused r.machine e).after) → InOrder s (replayed r e)
order_rested s r e acts none is so = rested Seen seen_after IsInOrder IsAny keeps_order s r e acts none is so

come_on : (gives : ℕ → Bool) (s : Seen) (r : Replay) (e : PmEvent) → r.due ≡ [] → r.machine.ended ≡ false → Counts r.machine r.shown.children → MayCome gives r e → IsMild e
    → IsInOrder s [] r.machine → InOrder (seen_after s e) (replayed r e)
come_on gives s r (entry.Accepted pid decision) none on counts may mild so =
    order_rested s r (entry.Accepted pid decision) [] none refl
    (accepted_so s r.machine may.0 so)
come_on gives s r (entry.Exited pid k status was_active at) none on counts may mild so =
    order_rested (seen_after s (entry.Exited pid k status was_active at)) r (entry.Exited pid k status was_active at) (step r.machine (Exited pid k status was_active at)).acts none
    (acts_behind_redo _ (step r.machine (Exited pid k status was_active at)).acts)
    (exited_so k s r.machine r.shown.children pid status at was_active on counts may.0 so)
come_on gives s r (entry.Asked given at) none on counts may mild so =
    order_rested s r (entry.Asked given at) (asked_with (strengthen_of r.machine.shutdown given) r.machine at).acts none (acts_in_dues _)
    (asked_so s given at r.machine mild on so)
come_on gives s r (entry.KillAsked pid) none on counts may mild so = order_rested s r (entry.KillAsked pid) [] none refl so
come_on gives s r (entry.KillSent at) none on counts may mild so = order_rested s r (entry.KillSent at) [] none refl (ticked_so s at r.machine on so)
come_on gives s r e none on counts may mild so = (first_on Seen seen_after IsInOrder IsAny keeps_order s r e none on may so).1

entry_on : (gives : ℕ → Bool) (s : Seen) (r : Replay) (e : PmEvent) → Follows gives r e → Counts r.machine r.shown.children → IsMild e → InOrder s r
    → InOrder (seen_after s e) (replayed r e)
entry_on gives s r e may counts mild so =
    (follows_on Seen seen_after IsInOrder IsAny keeps_order gives s r e r.due refl may (λ none free rests. (tt, come_on gives s r e none free.0 counts free.2 mild rests)) so).1

-- ---- what was seen, by the entries of the last generation

abbrev seen_by : List PmEvent → Bool → Seen
seen_by entries clean =
    record {
      harm = list_any harms entries;
      undone = list_any undoes entries;
      redone = list_any redoes entries;
      checkpointer = list_any checks entries;
      clean = clean;
    }

either_way : (a b : Bool) → a || (b || false) ≡ b || a
either_way a b = grind arith

push : (test : PmEvent → Bool) (entries : List PmEvent) (e : PmEvent) → list_any test (entries ++ e ∷ []) ≡ test e || list_any test entries
push test entries e = list_any-append test entries (e ∷ []) ∙ either_way (list_any test entries) (test e)

seen_push : (entries : List PmEvent) (clean : Bool) (e : PmEvent)
    → record { harm = harms e || list_any harms entries; undone = undoes e || list_any undoes entries; redone = redoes e || list_any redoes entries; checkpointer = checks e || list_any checks entries; clean = clean }
    ≡ seen_by (entries ++ e ∷ []) clean
seen_push entries clean e = rw (push harms entries e, push undoes entries e, push redoes entries e, push checks entries e) refl

seen_next : (entries : List PmEvent) (clean : Bool) (e : PmEvent) → seen_after (seen_by entries clean) e ≡ seen_by (latest_after entries e) (is_clean_end e || clean)
seen_next entries clean (entry.Reset generation) = refl
seen_next entries clean e = seen_push entries (is_clean_end e || clean) e

abbrev clean_after : Bool → PmEvent → Bool
clean_after clean e = is_clean_end e || clean

-- ---- whole journals

so_on : (gives : ℕ → Bool) (r : Replay) (entries : List PmEvent) (clean : Bool) (journal : List PmEvent) → AreLegal gives r journal → AreCounted r journal → AllByRecursion IsMild journal
    → InOrder (seen_by entries clean) r → InOrder (seen_by (fold latest_after entries journal) (fold clean_after clean journal)) (all_replayed r journal)
so_on gives r entries clean [] legal counted mild so = so
so_on gives r entries clean (e ∷ journal) legal counted mild so =
    so_on gives (replayed r e) (latest_after entries e) (clean_after clean e) journal legal.1 counted.1 mild.1
    (subst (λ (s : Seen). InOrder s (replayed r e)) (seen_next entries clean e)
    (entry_on gives (seen_by entries clean) r e legal.0 counted.0 mild.0 so))

-- ---- after a clean end

nobody_counted : (m : Machine) (cs : List Child) → has_nobody m ≡ true → Counts m cs → cs ≡ []
nobody_counted m cs none counts =
    children.nobody cs (grind (arith, counts.sessions, none)) (grind (arith, counts.dead_ends, none)) (grind (arith, counts.startup, none)) (grind (arith, counts.checkpointer, none))
    (grind (arith, counts.writer, none))

-- What the entries of the last generation have: no harm; a checkpointer; and a startup child's end with its redo, or one without it,
-- but not both. Nobody is left.
pub record EndsWell (limits : Limits) (journal : List PmEvent) : Type 0 where
  pub harmless : list_any harms (latest journal) ≡ false
  pub checkpointer : list_any checks (latest journal) ≡ true
  pub once : not (list_any undoes (latest journal) && list_any redoes (latest journal)) ≡ true
  pub nobody : (all_replayed (replay_begun limits) journal).shown.children ≡ []

clean_at_last : (front : List PmEvent) → fold clean_after false (front ++ entry.Ended ending.Clean ∷ []) ≡ true
clean_at_last front = fold-append clean_after false front (entry.Ended ending.Clean ∷ [])

-- the server has ended clean
record IsOver (harm checkpointer nobody : Bool) : Type 0 where
  harmless : harm ≡ false
  checked : checkpointer ≡ true
  alone : nobody ≡ true

is_over : (clean due ended deserted harm checkpointer nobody : Bool) → clean ≡ true
    → not (clean || due) || ((ended && deserted) && (not harm && (checkpointer && nobody))) ≡ true → IsOver harm checkpointer nobody
is_over clean due ended deserted harm checkpointer nobody is all =
    record { harmless = grind (arith, is, all); checked = grind (arith, is, all); alone = grind (arith, is, all) }

pub ends_well : RestartsSafely → (limits : Limits) (gives : ℕ → Bool) (front journal : List PmEvent) → journal ≡ front ++ entry.Ended ending.Clean ∷ [] → IsLegal limits gives journal
    → AllByRecursion IsMild journal → EndsWell limits journal
ends_well safely limits gives front journal is legal mild =
    let r : Replay = all_replayed (replay_begun limits) journal in
    let so : InOrder (seen_by (latest journal) (fold clean_after false journal)) r =
    so_on gives (replay_begun limits) [] false journal legal (are_counted safely limits gives [] journal legal) mild (begun_so limits) in
    let clean : fold clean_after false journal ≡ true = ap (fold clean_after false) is ∙ clean_at_last front in
    let over : IsOver (list_any harms (latest journal)) (list_any checks (latest journal)) (has_nobody r.machine) =
    is_over (fold clean_after false journal) (has_act is_clean_act (acts_in r.due)) r.machine.ended (is_deserted r.machine.state) (list_any harms (latest journal))
    (list_any checks (latest journal)) (has_nobody r.machine) clean so.over in
    record {
      harmless = over.harmless;
      checkpointer = over.checked;
      once = so.once;
      nobody = nobody_counted r.machine r.shown.children over.alone (safely.counts limits gives journal legal);
    }
