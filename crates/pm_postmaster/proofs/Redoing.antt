-- The ends of redo that the supervisor tells of, beside what its startup children kept.
use Rattle.std.{proofs.{Common.{◌≡◌, ◌≢◌, ℕ, List, [], ◌∷◌, ◌++◌, refl, sym, ap, ◌∙◌, arith, append-nil, append_assoc}, lemmas.Grind.flat_map-append}, specs.{List.flat_map, Prelude.{Bool, true, false, ◌==◌, ◌&&◌, if◌then◌else◌, map, Option, None, Some, unwrap_or}}}
use Rattle.pm_server.specs.{pm_facts.Bools.{by_test, cond-same}, pm_exit.{declared.child.{Kind.Kind, Status.Status}, Ends.is_exit_0}, pm_supervisor_journal.{declared.exit.ChildExit.ChildExit, Standing.{Standing, ends_redo, entry_for, exit_entry, later}}, pm_state.declared.action.Action.Action, pm_supervisor.Children.is_startup_child}
use Rattle.pm_board_acts.specs.{pm_board.{pm_board_words.declared.views.{Offer.Offer, PastChild.PastChild, RosterNotes.RosterNotes, RosterView.RosterView, SlotView.SlotView}, Models.SlotBecame, Told.{past_child, released_slot}, Places.slot_at}, pm_supervisor_chain.Chain.InGeneration, Board.ended_of, Mails.kept_told, Calls.{exits, kept_by, notes_in, slot_for}, Seating.{Move, Notes, ended_at}, Sitting.KeepsPast, pm_worker.declared.mail.MailTold.MailTold}
use Rattle.pm_serve_pool.specs.pm_serve_crew.Redos.{RedosAreThose, redo_ends_at, redo_ends_by, redo_told, told_if}
use Rattle.pm_server.specs.pm_state.declared.action.Action.TheVariants as action
use Rattle.pm_server.specs.pm_state.declared.event.PmEvent.TheVariants as entry
use Rattle.pm_postmaster.specs.Serving.{TellsRedos}

-- moves that tell of no end of redo
abbrev pub TellNone : List Move → Type 0
TellNone more = (k : ℕ) → redo_ends_at k more ≡ []

pub redos_still : (earlier more : List Move) (d e : RosterView MailTold) → TellNone more → KeepsPast d e → TellsRedos earlier d → TellsRedos (earlier ++ more) e
redos_still earlier more d e none past were k =
    ap (λ (xs : List (PastChild MailTold)). flat_map redo_told xs) (past k) ∙ (were k
    ∙ sym (flat_map-append (redo_ends_by k) earlier more ∙ (ap (λ (l : List InGeneration). redo_ends_at k earlier ++ l) (none k) ∙ append-nil (redo_ends_at k earlier))))

pub acts_tell_none : (a : Action) (s : Standing) → TellNone (Notes (entry_for a s) (slot_for a) ∷ [])
acts_tell_none (action.Start kind) s k = refl
acts_tell_none (action.Quit why) s k = refl
acts_tell_none action.Terminate s k = refl
acts_tell_none action.KillAll s k = refl
acts_tell_none action.AskCheckpoint s k = refl
acts_tell_none action.Ready s k = refl
acts_tell_none action.Reset s k = refl
acts_tell_none (action.Say line) s k = refl
acts_tell_none (action.End how) s k = refl

abbrev ended : ℕ → ℕ → List InGeneration
ended number generation = record { number = number; generation = generation } ∷ []

-- a child has ended in this slot
exit_ends : (slot k at : ℕ) (exit : ChildExit) (s : Standing) → redo_ends_at k (exits slot exit at s)
    ≡ (if slot == k then (if ends_redo exit then ended (unwrap_or exit.kept 0) s.generation else []) else [])
exit_ends slot k at exit s = by (ends_redo exit)
  where
    by : (b : Bool) → redo_ends_at k (notes_in slot (exit_entry exit (later at s) ∷ (if b then entry.RedoEnded s.generation (unwrap_or exit.kept 0) ∷ [] else [])))
        ≡ (if slot == k then (if b then ended (unwrap_or exit.kept 0) s.generation else []) else [])
    by true = append-nil (if slot == k then ended (unwrap_or exit.kept 0) s.generation else [])
    by false = sym (cond-same (slot == k) [])

-- what such a child tells
told_exit : (o : Offer MailTold) (status : Status) (active : Bool) (back : MailTold) (exit : ChildExit) (s : Standing) → exit.kind ≡ o.kind → exit.status ≡ status
    → exit.kept ≡ kept_by o.kind status (kept_told back) → o.generation ≡ s.generation
    → redo_told (past_child o status active back) ≡ (if ends_redo exit then ended (unwrap_or exit.kept 0) s.generation else [])
told_exit o status active back exit s kind is_status kept generation =
    both (is_startup_child o.kind) (is_exit_0 status) o.generation (kept_told back)
    ∙ (ap (λ (g : ℕ). if is_startup_child o.kind && is_exit_0 status then ended (unwrap_or (kept_by o.kind status (kept_told back)) 0) g else []) generation
    ∙ (ap (λ (n : Option ℕ). if is_startup_child o.kind && is_exit_0 status then ended (unwrap_or n 0) s.generation else []) (sym kept)
    ∙ (ap (λ (x : Kind). if is_startup_child x && is_exit_0 status then ended (unwrap_or exit.kept 0) s.generation else []) (sym kind)
    ∙ ap (λ (x : Status). if is_startup_child exit.kind && is_exit_0 x then ended (unwrap_or exit.kept 0) s.generation else []) (sym is_status))))
  where
    both : (a b : Bool) (g : ℕ) (n : Option ℕ) → told_if g (if a then (if b then Some (unwrap_or n 0) else None) else None)
        ≡ (if a && b then ended (unwrap_or (if a then (if b then Some (unwrap_or n 0) else None) else None) 0) g else [])
    both true true g n = refl
    both true false g n = refl
    both false true g n = refl
    both false false g n = refl

module _ (earlier : List Move) (slot at : ℕ) (exit : ChildExit) (s : Standing) (o : Offer MailTold) (status : Status) (active : Bool) (back : MailTold) (notes : RosterNotes)
    (d e : RosterView MailTold) (became : SlotBecame slot (released_slot (slot_at d slot) (past_child o status active back)) notes d e)
    (told_so : redo_told (past_child o status active back) ≡ (if ends_redo exit then ended (unwrap_or exit.kept 0) s.generation else [])) (were : TellsRedos earlier d) where
  abbrev child : PastChild MailTold
  child = past_child o status active back

  abbrev told : Bool → List InGeneration
  told test = if test then (if ends_redo exit then ended (unwrap_or exit.kept 0) s.generation else []) else []

  here : (k : ℕ) → (slot == k) ≡ true → flat_map redo_told (slot_at e k).past ≡ redo_ends_at k earlier ++ told (slot == k)
  here k is =
      let same : slot ≡ k = grind (arith, is) in
      ap (λ (j : ℕ). flat_map redo_told (slot_at e j).past) (sym same) ∙ (ap (λ (x : SlotView MailTold). flat_map redo_told x.past) became.here
      ∙ (flat_map-append redo_told (slot_at d slot).past (child ∷ []) ∙ (ap (λ (l : List InGeneration). flat_map redo_told (slot_at d slot).past ++ l)
      (append-nil (redo_told child) ∙ told_so)
      ∙ (ap (λ (j : ℕ). flat_map redo_told (slot_at d j).past ++ told true) same ∙ (ap (λ (l : List InGeneration). l ++ told true) (were k)
      ∙ ap (λ (b : Bool). redo_ends_at k earlier ++ told b) (sym is))))))

  there : (k : ℕ) → (slot == k) ≡ false → flat_map redo_told (slot_at e k).past ≡ redo_ends_at k earlier ++ told (slot == k)
  there k isnt =
      let other : k ≢ slot = (λ is. (let no_ : slot ≡ k = sym is in grind (arith, isnt, no_))) in
      ap (λ (x : SlotView MailTold). flat_map redo_told x.past) (became.others k other) ∙ (were k
      ∙ (sym (append-nil (redo_ends_at k earlier)) ∙ ap (λ (b : Bool). redo_ends_at k earlier ++ told b) (sym isnt)))

  redos_push : TellsRedos (earlier ++ exits slot exit at s) e
  redos_push k =
      by_test (slot == k) (here k) (there k) ∙ sym (flat_map-append (redo_ends_by k) earlier (exits slot exit at s)
      ∙ ap (λ (l : List InGeneration). redo_ends_at k earlier ++ l) (exit_ends slot k at exit s))

pub redos_exited : (earlier : List Move) (slot at : ℕ) (exit : ChildExit) (s : Standing) (o : Offer MailTold) (status : Status) (active : Bool) (back : MailTold) (notes : RosterNotes)
    (d e : RosterView MailTold) → SlotBecame slot (released_slot (slot_at d slot) (past_child o status active back)) notes d e
    → exit.kind ≡ o.kind → exit.status ≡ status → exit.kept ≡ kept_by o.kind status (kept_told back) → o.generation ≡ s.generation
    → TellsRedos earlier d → TellsRedos (earlier ++ exits slot exit at s) e
redos_exited earlier slot at exit s o status active back notes d e became kind is_status kept generation were =
    redos_push earlier slot at exit s o status active back notes d e became (told_exit o status active back exit s kind is_status kept generation) were

-- after the last entry children were released that nothing tells of
pub redos_behind : (moves : List Move) (d e : RosterView MailTold) → ((k : ℕ) → (others : List (PastChild MailTold)) × ((slot_at e k).past ≡ (slot_at d k).past ++ others))
    → RedosAreThose moves d → RedosAreThose moves e
redos_behind moves d e more were k =
    let m = more k in let w = were k in record {
      front = w.front;
      others = w.others ++ m.0;
      is = m.1 ∙ (ap (λ (xs : List (PastChild MailTold)). xs ++ m.0) w.is ∙ append_assoc w.front w.others m.0);
      ended = w.ended;
      redos = w.redos;
    }

pub redos_told : (moves : List Move) (d : RosterView MailTold) → ((k : ℕ) → map ended_of (slot_at d k).past ≡ ended_at k moves) → TellsRedos moves d → RedosAreThose moves d
redos_told moves d had were k =
    record { front = (slot_at d k).past; others = []; is = sym (append-nil (slot_at d k).past); ended = had k; redos = were k }
