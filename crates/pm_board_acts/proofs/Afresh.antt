-- In which slots no auxiliary child has died attached.
use Rattle.std.{proofs.{Common.{◌≡◌, ℕ, ◌+◌, ◌<◌, ◌≤◌, List, [], ◌∷◌, ◌++◌, refl, sym, ap, subst, ◌∙◌, get_or, arith, nat_eq}, lemmas.Bool.{eqb-false, eqb-true, ne_eqb}}, specs.{List.AllByRecursion, Prelude.{Bool, true, false, ◌==◌, ◌&&◌, Option, IsSomeAnd}}}
use Rattle.pm_board.specs.{pm_facts.{Lists.each_more, Bools.by_test}, pm_exit.declared.child.Kind.Kind, pm_supervisor.{declared.Limits.Limits, Children.{child_of, is_startup_child}, Steps.Trace}, pm_board_words.{declared.views.{PastChild.PastChild, RosterNotes.RosterNotes, RosterStep.RosterStep, RosterView.RosterView, Sight.TheVariants.Unused, SlotView.SlotView}, Words.bit}, declared.roster.Released.Released, Places.{is_auxiliary, lost, slot_at, slot_view}, Models.SlotBecame, Told.after_step}
use Rattle.pm_board.specs.pm_exit.declared.child.Kind.TheVariants as kind
use Rattle.pm_supervisor_journal.specs.{pm_state.{declared.{action.Action.Action, machine.Machine.Machine}, Facts.Facts, Journal.{acts_of_call, all_reported}, Shows.{Call, Exits, machine_after}}, declared.roll.Enrolled.Enrolled, Standing.{Standing, act_for}}
use Rattle.pm_supervisor_journal.specs.pm_state.declared.action.Action.TheVariants as action
use Rattle.pm_board.specs.pm_board_words.declared.views.RosterStep.TheVariants as step
use Rattle.pm_board.specs.pm_board_words.declared.views.Signal.TheVariants as signal
use Rattle.pm_board.specs.pm_board_words.declared.views.Letter as Letter
use Rattle.pm_supervisor_journal.specs.declared.act.Act.TheVariants as act
use Rattle.pm_board_acts.{specs.{declared.audience.Audience.TheVariants.{Everyone, Stoppable, Checkpointer}, Acts.{HasLostNone, Performs, StartOnly, StartsAfresh, may_start, slot_of, steps_for}, Board.after_steps, Sitting.HasReaped, Standing.SeatServes}, proofs.{Sends.{same-generation, same-slots}, Starting.{EndsOne, MayFollow, call_starts, call_yet, exits_spoil, exits_start, only_also, report_yet, startup_runs}}}

-- in the first three slots sits its own kind
pub own_kind : (count : ℕ) (kind other : Kind) → is_auxiliary kind ≡ true → SeatServes count (slot_of kind) other → other ≡ kind
own_kind count kind.Startup kind.Startup aux serves = refl
own_kind count kind.Startup kind.Checkpointer aux serves = absurd (omega arith)
own_kind count kind.Startup kind.Writer aux serves = absurd (omega arith)
own_kind count kind.Startup kind.Worker aux serves = absurd (omega arith)
own_kind count kind.Startup kind.Backend aux serves = absurd (omega arith)
own_kind count kind.Startup kind.DeadEnd aux serves = absurd (omega arith)
own_kind count kind.Checkpointer kind.Startup aux serves = absurd (omega arith)
own_kind count kind.Checkpointer kind.Checkpointer aux serves = refl
own_kind count kind.Checkpointer kind.Writer aux serves = absurd (omega arith)
own_kind count kind.Checkpointer kind.Worker aux serves = absurd (omega arith)
own_kind count kind.Checkpointer kind.Backend aux serves = absurd (omega arith)
own_kind count kind.Checkpointer kind.DeadEnd aux serves = absurd (omega arith)
own_kind count kind.Writer kind.Startup aux serves = absurd (omega arith)
own_kind count kind.Writer kind.Checkpointer aux serves = absurd (omega arith)
own_kind count kind.Writer kind.Writer aux serves = refl
own_kind count kind.Writer kind.Worker aux serves = absurd (omega arith)
own_kind count kind.Writer kind.Backend aux serves = absurd (omega arith)
own_kind count kind.Writer kind.DeadEnd aux serves = absurd (omega arith)
own_kind count kind.Worker other aux serves = absurd (let no_ : false ≡ true = aux in cc)
own_kind count kind.Backend other aux serves = absurd (let no_ : false ≡ true = aux in cc)
own_kind count kind.DeadEnd other aux serves = absurd (let no_ : false ≡ true = aux in cc)

-- ---- who died

none_and : (a b : Bool) → b ≡ false → (a && b) ≡ false
none_and true b none = none
none_and false b none = refl

module _ {D : Type 0} where
  -- one child more that didn't die attached
  lost_more : (test : Kind → Bool) (g : ℕ) (xs : List (PastChild D)) (x : PastChild D) → x.was_active ≡ false → lost test g (xs ++ x ∷ []) ≡ lost test g xs
  lost_more test g [] x well = ap (λ (b : Bool). bit (b && ((x.offer.generation == g) && test x.offer.kind)) + 0) well
  lost_more test g (y ∷ xs) x well = ap (λ (n : ℕ). bit (y.was_active && ((y.offer.generation == g) && test y.offer.kind)) + n) (lost_more test g xs x well)

  -- in a generation that is to come none has died yet
  none_yet : (test : Kind → Bool) (g h : ℕ) (xs : List (PastChild D)) → g < h → AllByRecursion (λ x. x.offer.generation ≤ g) xs → lost test h xs ≡ 0
  none_yet test g h [] later below = refl
  none_yet test g h (x ∷ xs) later below =
      let other : nat_eq x.offer.generation h ≡ false = ne_eqb x.offer.generation h (λ same. let low : x.offer.generation ≤ g = below.0 in absurd (omega arith)) in
      let here : bit (x.was_active && ((x.offer.generation == h) && test x.offer.kind)) ≡ 0 =
      ap bit (none_and x.was_active ((x.offer.generation == h) && test x.offer.kind) (ap (λ (b : Bool). b && test x.offer.kind) other)) in
      let others : lost test h xs ≡ 0 = none_yet test g h xs later below.1 in omega arith

  below_later : (g h : ℕ) (xs : List (PastChild D)) → g ≤ h → AllByRecursion (λ x. x.offer.generation ≤ g) xs → AllByRecursion (λ x. x.offer.generation ≤ h) xs
  below_later g h [] later below = tt
  below_later g h (x ∷ xs) later below = ((let low : x.offer.generation ≤ g = below.0 in omega arith), below_later g h xs later below.1)

  -- ---- the same children

  -- the generation is the same, and each slot has had the same children
  pub record SamePast (d e : RosterView D) : Type 0 where
    pub generation : e.generation ≡ d.generation
    pub past : (k : ℕ) → (slot_at e k).past ≡ (slot_at d k).past

  none_still : (d e : RosterView D) (k : Kind) → SamePast d e → HasLostNone d k → HasLostNone e k
  none_still d e k same none aux =
      ap (λ (ps : List (PastChild D)). lost is_auxiliary e.generation ps) (same.past (slot_of k))
      ∙ (ap (λ (g : ℕ). lost is_auxiliary g (slot_at d (slot_of k)).past) same.generation ∙ none aux)

  past_still : (d e : RosterView D) → SamePast d e → ((k : ℕ) → AllByRecursion (λ x. x.offer.generation ≤ d.generation) (slot_at d k).past)
      → (k : ℕ) → AllByRecursion (λ x. x.offer.generation ≤ e.generation) (slot_at e k).past
  past_still d e same past k =
      subst (λ (g : ℕ). AllByRecursion (λ x. x.offer.generation ≤ g) (slot_at e k).past) (sym same.generation)
      (subst (AllByRecursion (λ x. x.offer.generation ≤ d.generation)) (sym (same.past k)) (past k))

  -- a slot became another, and has had the same children
  pub became_same : (k : ℕ) (x : SlotView D) (notes : RosterNotes) (d e : RosterView D) → SlotBecame k x notes d e → x.past ≡ (slot_at d k).past → SamePast d e
  became_same k x notes d e became past = record {
    generation = ap (λ (v : RosterView D). v.generation) became.whole;
    past = λ j. by_test (nat_eq j k)
        (λ is. subst (λ (i : ℕ). (slot_at e i).past ≡ (slot_at d i).past) (sym (eqb-true j k is)) (ap (λ (y : SlotView D). y.past) became.here ∙ past))
        (λ isnt. ap (λ (y : SlotView D). y.past) (became.others j (eqb-false j k isnt)));
  }

  -- steps that leave the generation
  pub stepped_same : (d e : RosterView D) (ss : List RosterStep) → e ≡ after_steps d ss → (after_steps d ss).generation ≡ d.generation → SamePast d e
  stepped_same d e ss is generation = record {
    generation = ap (λ (v : RosterView D). v.generation) is ∙ generation;
    past = λ k. ap (λ (xs : List (SlotView D)). (get_or xs k (slot_view [] Unused)).past) (ap (λ (v : RosterView D). v.slots) is ∙ same-slots d ss);
  }

  -- ---- a call

  -- nothing was done at the board, and nothing is due
  pub afresh_still : (d e : RosterView D) (acts : List Action) (m : Machine) → SamePast d e → StartsAfresh d acts m → StartsAfresh e acts m
  afresh_still d e acts m same was = record {
    due = only_also (HasLostNone d) (HasLostNone e) acts (λ k. none_still d e k same) was.due;
    later = λ k none may. none_still d e k same (was.later k none may);
    past = past_still d e same was.past;
  }

  -- a call, where nothing was due
  pub afresh_called : (limits : Limits) (d e : RosterView D) (m : Machine) (h : Trace) (call : Call) → Facts limits m h.now → EndsOne h call → SamePast d e → StartsAfresh d [] m
      → StartsAfresh e (acts_of_call m call) (machine_after m call)
  afresh_called limits d e m h call facts fit same was = record {
    due = only_also (λ k. may_start k m ≡ true) (HasLostNone e) (acts_of_call m call) (λ k may. none_still d e k same (was.later k refl may)) (call_starts limits m h call facts fit);
    later = λ k none may. none_still d e k same (was.later k refl (call_yet limits m h call k facts fit none may));
    past = past_still d e same was.past;
  }

  -- ---- the end of a child

  -- one child more, that didn't die attached in that slot
  none_reaped : {J : Type 0} (letter : Letter.Ghosts J D) (k : ℕ) (c : Enrolled) (released : Released J) (d e : RosterView D) (j : Kind) → HasReaped letter k c released d e
      → HasLostNone d j → (is_auxiliary j ≡ true → slot_of j ≡ k → released.was_active ≡ false) → HasLostNone e j
  none_reaped letter k c released d e j has none well aux =
      ap (λ (g : ℕ). lost is_auxiliary g (slot_at e (slot_of j)).past) (ap (λ (v : RosterView D). v.generation) has.became.whole)
      ∙ (by_test (nat_eq (slot_of j) k)
      (λ is. let here : slot_of j ≡ k = eqb-true (slot_of j) k is in
      ap (λ (i : ℕ). lost is_auxiliary d.generation (slot_at e i).past) here
      ∙ (ap (λ (y : SlotView D). lost is_auxiliary d.generation y.past) has.became.here
      ∙ (lost_more is_auxiliary d.generation (slot_at d k).past _ (well aux here)
      ∙ ap (λ (i : ℕ). lost is_auxiliary d.generation (slot_at d i).past) (sym here))))
      (λ isnt. ap (λ (y : SlotView D). lost is_auxiliary d.generation y.past) (has.became.others (slot_of j) (eqb-false (slot_of j) k isnt)))
      ∙ none aux)

  past_reaped : {J : Type 0} (letter : Letter.Ghosts J D) (k : ℕ) (c : Enrolled) (released : Released J) (d e : RosterView D) → HasReaped letter k c released d e
      → ((i : ℕ) → AllByRecursion (λ x. x.offer.generation ≤ d.generation) (slot_at d i).past) → (i : ℕ) → AllByRecursion (λ x. x.offer.generation ≤ e.generation) (slot_at e i).past
  past_reaped letter k c released d e has past i =
      subst (λ (g : ℕ). AllByRecursion (λ x. x.offer.generation ≤ g) (slot_at e i).past) (sym (ap (λ (v : RosterView D). v.generation) has.became.whole))
      (by_test (nat_eq i k)
      (λ is. subst (λ (n : ℕ). AllByRecursion (λ x. x.offer.generation ≤ d.generation) (slot_at e n).past) (sym (eqb-true i k is))
      (subst (λ (y : SlotView D). AllByRecursion (λ x. x.offer.generation ≤ d.generation) y.past) (sym has.became.here)
      (each_more (λ (y : PastChild D). y.offer.generation ≤ d.generation) (slot_at d k).past _ (past k) (let same : has.sits.offer.generation ≡ d.generation = has.sits.generation in omega arith))))
      (λ isnt. subst (λ (y : SlotView D). AllByRecursion (λ x. x.offer.generation ≤ d.generation) y.past) (sym (has.became.others i (eqb-false i k isnt))) (past i)))

  -- The end of a child, that sat in a slot for its kind: a child of its kind starts no more in this generation where it died
  -- attached.
  pub afresh_exited : {J : Type 0} (letter : Letter.Ghosts J D) (limits : Limits) (count k now : ℕ) (c : Enrolled) (released : Released J) (d e : RosterView D) (m : Machine) (h : Trace)
      → Facts limits m h.now → IsSomeAnd (child_of released.pid h.now.shared.children) (λ x. x.kind ≡ released.kind)
      → HasReaped letter k c released d e → SeatServes count k c.kind → StartsAfresh d [] m
      → StartsAfresh e (acts_of_call m (Exits released.pid released.kind released.status released.was_active now)) (machine_after m (Exits released.pid released.kind released.status released.was_active now))
  afresh_exited letter limits count k now c released d e m h facts there has serves was = record {
    due = only_also (MayFollow m released.status) (HasLostNone e) (acts_of_call m call)
        (λ j may. none_reaped letter k c released d e j has (was.later j refl may.0) (λ aux here. by_test released.was_active
        (λ active. absurd (let no_ : true ≡ false = sym may.1 ∙ has.well (ap is_auxiliary (its_kind j aux here) ∙ aux) active in cc))
        (λ inactive. inactive)))
        (exits_start m released.pid released.kind released.status released.was_active now (startup_runs limits m h.now released.pid released.kind facts there));
    later = λ j none may. none_reaped letter k c released d e j has (was.later j refl (call_yet limits m h call j facts there none may)) (λ aux here. by_test released.was_active
        (λ active. let of_j : released.kind ≡ j = its_kind j aux here in
        let aux' : is_auxiliary released.kind ≡ true = ap is_auxiliary of_j ∙ aux in
        absurd (let no_ : true ≡ false = sym may ∙ (ap (λ (x : Kind). may_start x (machine_after m call)) (sym of_j)
        ∙ exits_spoil limits m h.now released.pid released.kind released.status released.was_active now facts there aux' (has.well aux' active)) in cc))
        (λ inactive. inactive));
    past = past_reaped letter k c released d e has was.past;
  }
    where
      call : Call
      call = Exits released.pid released.kind released.status released.was_active now

      its_kind : (j : Kind) → is_auxiliary j ≡ true → slot_of j ≡ k → released.kind ≡ j
      its_kind j aux here = has.kind ∙ own_kind count j c.kind aux (subst (λ (i : ℕ). SeatServes count i c.kind) (sym here) serves)

  -- ---- an act

  -- after a next generation every slot is a new one's
  afresh_reset : (d e : RosterView D) (g : ℕ) (rest : List Action) (m : Machine) → e ≡ after_step d (step.Reset g) → g ≡ d.generation + 1
      → ((k : ℕ) → AllByRecursion (λ x. x.offer.generation ≤ d.generation) (slot_at d k).past) → StartsAfresh e rest m
  afresh_reset d e g rest m is next past = record {
    due = only_also (λ k. Unit {0}) (HasLostNone e) rest (λ k any. none k) (any_start rest);
    later = λ k unrenewed may. none k;
    past = λ k. subst (λ (n : ℕ). AllByRecursion (λ x. x.offer.generation ≤ n) (slot_at e k).past) (sym generation)
        (subst (AllByRecursion (λ x. x.offer.generation ≤ g)) (sym (same k)) (below_later d.generation g (slot_at d k).past (omega arith) (past k)));
  }
    where
      generation : e.generation ≡ g
      generation = ap (λ (v : RosterView D). v.generation) is

      same : (k : ℕ) → (slot_at e k).past ≡ (slot_at d k).past
      same k = ap (λ (v : RosterView D). (slot_at v k).past) is

      none : (k : Kind) → HasLostNone e k
      none k aux =
          ap (λ (n : ℕ). lost is_auxiliary n (slot_at e (slot_of k)).past) generation
          ∙ (ap (lost is_auxiliary g) (same (slot_of k)) ∙ none_yet is_auxiliary d.generation g (slot_at d (slot_of k)).past (omega arith) (past (slot_of k)))

      any_start : (acts : List Action) → StartOnly (λ k. Unit {0}) acts
      any_start [] = tt
      any_start (action.Start k ∷ acts) = (tt, any_start acts)
      any_start (action.Quit why ∷ acts) = any_start acts
      any_start (action.Terminate ∷ acts) = any_start acts
      any_start (action.KillAll ∷ acts) = any_start acts
      any_start (action.AskCheckpoint ∷ acts) = any_start acts
      any_start (action.Ready ∷ acts) = any_start acts
      any_start (action.Reset ∷ acts) = tt
      any_start (action.Say l ∷ acts) = any_start acts
      any_start (action.End how ∷ acts) = any_start acts

  pub afresh_acted : (d e : RosterView D) (seats seats' : List (Option Enrolled)) (s : Standing) (ordered : Kind → D) (a : Action) (rest : List Action)
      → Performs (act_for a s) ordered d seats e seats' → StartsAfresh d (a ∷ rest) s.machine → StartsAfresh e rest (all_reported (a ∷ []) s.machine)
  afresh_acted d e seats seats' s ordered (action.Start kind) rest has was =
      afresh_still d e rest (all_reported (action.Start kind ∷ []) s.machine) (became_same (slot_of kind) _ _ d e has.0.2 refl) (record {
        due = was.due.1;
        later = λ k none may. was.later k none (sym (report_yet (is_startup_child k) kind s.machine) ∙ may);
        past = was.past;
      })
  afresh_acted d e seats seats' s ordered (action.Quit why) rest has was =
      afresh_still d e rest s.machine (stepped_same d e (steps_for (act.Quit why) d.generation seats) has.0 (same-generation (after_step d (step.Quit why d.generation)) Everyone (signal.Quit why) d.generation seats)) (record { due = was.due; later = was.later; past = was.past })
  afresh_acted d e seats seats' s ordered action.Terminate rest has was =
      afresh_still d e rest s.machine (stepped_same d e (steps_for act.Terminate d.generation seats) has.0 (same-generation d Stoppable signal.Terminate d.generation seats)) (record { due = was.due; later = was.later; past = was.past })
  afresh_acted d e seats seats' s ordered action.KillAll rest has was =
      afresh_still d e rest s.machine (stepped_same d e (steps_for act.KillAll d.generation seats) has.0 (same-generation d Everyone signal.Kill d.generation seats)) (record { due = was.due; later = was.later; past = was.past })
  afresh_acted d e seats seats' s ordered action.AskCheckpoint rest has was =
      afresh_still d e rest s.machine (stepped_same d e (steps_for act.AskCheckpoint d.generation seats) has.0 (same-generation d Checkpointer signal.Checkpoint d.generation seats)) (record { due = was.due; later = was.later; past = was.past })
  afresh_acted d e seats seats' s ordered action.Ready rest has was =
      afresh_still d e rest s.machine (stepped_same d e (steps_for (act.Ready s.generation) d.generation seats) has.0 refl) (record { due = was.due; later = was.later; past = was.past })
  afresh_acted d e seats seats' s ordered action.Reset rest has was = afresh_reset d e (d.generation + 1) rest s.machine has.0 refl was.past
  afresh_acted d e seats seats' s ordered (action.Say line) rest has was =
      afresh_still d e rest s.machine (stepped_same d e [] has.0 refl) (record { due = was.due; later = was.later; past = was.past })
  afresh_acted d e seats seats' s ordered (action.End how) rest has was =
      afresh_still d e rest s.machine (stepped_same d e [] has.0 refl) (record { due = was.due; later = was.later; past = was.past })
