-- Which slots were looked at since the last connection.
use Rattle.std.{proofs.{Common.{◌≡◌, ℕ, ◌+◌, ◌<◌, ◌≤◌, List, [], ◌∷◌, refl, sym, ap, subst, ◌∙◌, length, get_or, arith, nat_eq}, lemmas.Bool.{eqb-false, eqb-true}}, specs.Prelude.{Bool, false, if◌then◌else◌, Option, None}}
use Rattle.pm_board.{specs.{pm_facts.Bools.by_test, pm_exit.declared.child.Kind.Kind, pm_board_words.declared.views.{Offer.Offer, RosterNotes.RosterNotes, RosterStep.RosterStep, RosterView.RosterView, Sight.TheVariants.Unused, SlotView.SlotView}, declared.roster.Released.Released, Gate.gate_of, Models.SlotBecame, Places.{IsReaped, is_connection, slot_at}}, proofs.BoardLaws.no_connection}
use Rattle.pm_supervisor_journal.specs.{pm_state.declared.action.Action.Action, declared.roll.Enrolled.Enrolled, Standing.{Standing, act_for}}
use Rattle.pm_supervisor_journal.specs.pm_state.declared.action.Action.TheVariants as action
use Rattle.pm_board.specs.pm_board_words.declared.views.Letter as Letter
use Rattle.pm_board_acts.{specs.{Acts.{MayDo, Performs, slot_of, steps_for}, Board.{SeenAs, after_steps, seat_at}, Seating.Move, Sitting.{AreReaped, HasReaped, StillRuns}, Standing.IsSeated}, proofs.{Acting.same-numbers, Sends.same-slots}}
use Rattle.pm_supervisor_journal.specs.declared.act.Act.TheVariants as act

below : (j k : ℕ) → j < k + 1 → nat_eq j k ≡ false → j < k
below j k near isnt = grind arith

module _ {D : Type 0} where
  -- this slot, after a step that leaves the last connection
  reaped_as : (d e : RosterView D) (j : ℕ) → e.notes.last_connection ≡ d.notes.last_connection → slot_at e j ≡ slot_at d j
      → IsReaped d.notes.last_connection (slot_at d j) (slot_at d j).sight → IsReaped e.notes.last_connection (slot_at e j) (slot_at e j).sight
  reaped_as d e j last same reaped =
      subst (λ (n : ℕ). IsReaped n (slot_at e j) (slot_at e j).sight) (sym last) (subst (λ (x : SlotView D). IsReaped d.notes.last_connection x x.sight) (sym same) reaped)

  -- one slot became another
  reaped_but : (n k : ℕ) (x : SlotView D) (notes : RosterNotes) (d e : RosterView D) → SlotBecame k x notes d e → notes.last_connection ≡ d.notes.last_connection
      → IsReaped d.notes.last_connection x x.sight → ((j : ℕ) → j < n → (nat_eq j k ≡ false) → IsReaped d.notes.last_connection (slot_at d j) (slot_at d j).sight) → AreReaped n e
  reaped_but n k x notes d e became last here others j near =
      let same : e.notes.last_connection ≡ d.notes.last_connection = ap (λ (m : RosterNotes). m.last_connection) became.notes_are ∙ last in
      by_test (nat_eq j k)
      (λ is. subst (λ (m : ℕ). IsReaped m (slot_at e j) (slot_at e j).sight) (sym same)
      (subst (λ (y : SlotView D). IsReaped d.notes.last_connection y y.sight) (sym (ap (slot_at e) (eqb-true j k is) ∙ became.here)) here))
      (λ isnt. reaped_as d e j same (became.others j (eqb-false j k isnt)) (others j near isnt))

  -- steps that leave the slots
  pub reaped_stepped : (n : ℕ) (d e : RosterView D) (ss : List RosterStep) → e ≡ after_steps d ss → AreReaped n d → AreReaped n e
  reaped_stepped n d e ss is were j near =
      reaped_as d e j (ap (λ (x : RosterView D). x.notes.last_connection) is ∙ (same-numbers d ss).1)
      (ap (λ (x : RosterView D). slot_at x j) is ∙ ap (λ (xs : List (SlotView D)). get_or xs j (record { past = []; sight = Unused; found_running = 0 })) (same-slots d ss)) (were j near)

  -- an act
  pub reaped_acted : (n count : ℕ) (moves : List Move) (d e : RosterView D) (seats seats' : List (Option Enrolled)) (s : Standing) (ordered : Kind → D) (a : Action) (rest : List Action) → IsSeated count moves d seats s
      → MayDo (a ∷ rest) (gate_of d) s.children → Performs (act_for a s) ordered d seats e seats' → AreReaped n d → AreReaped n e
  reaped_acted n count moves d e seats seats' s ordered (action.Start kind) rest was may has were =
      let o : Offer D = has.0.0 in
      let pid : o.pid ≡ s.last_pid + 1 = ap (λ (x : Offer D). x.pid) has.0.1 in
      let of_kind : o.kind ≡ kind = ap (λ (x : Offer D). x.kind) has.0.1 in
      let low : d.notes.last_connection ≤ d.notes.last_pid = was.connection in
      let same : d.notes.last_pid ≡ s.last_pid = was.last_pid in
      reaped_but n (slot_of kind) _ _ d e has.0.2
      (ap (λ (b : Bool). if b then o.pid else d.notes.last_connection) (ap is_connection of_kind ∙ no_connection kind may.0))
      (λ early. absurd (let late : o.pid ≤ d.notes.last_connection = early in omega arith))
      (λ j near isnt. were j near)
  reaped_acted n count moves d e seats seats' s ordered (action.Quit why) rest was may has were = reaped_stepped n d e (steps_for (act.Quit why) d.generation seats) has.0 were
  reaped_acted n count moves d e seats seats' s ordered action.Terminate rest was may has were = reaped_stepped n d e (steps_for act.Terminate d.generation seats) has.0 were
  reaped_acted n count moves d e seats seats' s ordered action.KillAll rest was may has were = reaped_stepped n d e (steps_for act.KillAll d.generation seats) has.0 were
  reaped_acted n count moves d e seats seats' s ordered action.AskCheckpoint rest was may has were = reaped_stepped n d e (steps_for act.AskCheckpoint d.generation seats) has.0 were
  reaped_acted n count moves d e seats seats' s ordered action.Ready rest was may has were = reaped_stepped n d e (steps_for (act.Ready s.generation) d.generation seats) has.0 were
  reaped_acted n count moves d e seats seats' s ordered action.Reset rest was may has were = reaped_stepped n d e (steps_for (act.Reset (s.generation + 1)) d.generation seats) has.0 were
  reaped_acted n count moves d e seats seats' s ordered (action.Say line) rest was may has were = reaped_stepped n d e [] has.0 were
  reaped_acted n count moves d e seats seats' s ordered (action.End how) rest was may has were = reaped_stepped n d e [] has.0 were

  -- ---- a look

  -- that found the child running
  pub reaped_running : (k : ℕ) (c : Enrolled) (d e : RosterView D) → StillRuns k c d e → AreReaped k d → AreReaped (k + 1) e
  reaped_running k c d e still were =
      reaped_but (k + 1) k _ _ d e still.became refl (λ early. refl) (λ j near isnt. were j (below j k near isnt))

  -- that found it ended
  pub reaped_released : {J : Type 0} (letter : Letter.Ghosts J D) (k : ℕ) (c : Enrolled) (released : Released J) (d e : RosterView D) → HasReaped letter k c released d e → AreReaped k d → AreReaped (k + 1) e
  reaped_released letter k c released d e has were =
      reaped_but (k + 1) k _ _ d e has.became refl tt (λ j near isnt. were j (below j k near isnt))

  -- at a slot where nobody sits
  pub reaped_free : (count k : ℕ) (moves : List Move) (d : RosterView D) (seats : List (Option Enrolled)) (s : Standing) → IsSeated count moves d seats s → k < length seats → seat_at k seats ≡ None → AreReaped k d → AreReaped (k + 1) d
  reaped_free count k moves d seats s was near free were j low =
      let unused : (slot_at d k).sight ≡ Unused = subst (λ (x : Option Enrolled). SeenAs was.seating.generation x (slot_at d k).sight) (sym (ap (seat_at k) was.at_hand) ∙ free)
      (was.shows.each k (subst (λ (xs : List (Option Enrolled)). k < length xs) was.at_hand near)) in
      by_test (nat_eq j k)
      (λ is. subst (λ (i : ℕ). IsReaped d.notes.last_connection (slot_at d i) (slot_at d i).sight) (sym (eqb-true j k is))
      (subst (IsReaped d.notes.last_connection (slot_at d k)) (sym unused) tt))
      (λ isnt. were j (below j k low isnt))
