-- What leaves the children that were released, and whether the journal tells.
use Rattle.std.{proofs.Common.{◌≡◌, ℕ, ◌++◌, ◌∙◌, refl, ap, append-nil, get_or}, specs.Prelude.{List, [], Option, None, Some, Result, Ok, Err, OnErr, OnOk, is_some}}
use Rattle.pm_supervisor_journal.specs.{pm_state.declared.event.PmEvent.PmEvent, pm_outside.Added.Added, Standing.Standing, declared.{act.Act.Act, roll.Enrolled.Enrolled}}
use Rattle.pm_board.specs.{pm_exit.declared.child.Kind.Kind, pm_board_words.declared.views.{RosterNotes.RosterNotes, RosterStep.RosterStep, RosterView.RosterView, Sight.TheVariants.Unused, SlotView.SlotView}, Models.SlotBecame, Places.{slot_at, slot_view}}
use Rattle.pm_supervisor_journal.specs.declared.act.Act.TheVariants as act
use Rattle.pm_board_acts.{specs.{Acts.{Performs, slot_of, steps_for}, Board.after_steps, Sitting.KeepsPast}, proofs.{Afresh.became_same, Sends.same-slots}}

pub adds_tells : (entries : List PmEvent) (before now : Option (List PmEvent)) → Added entries before now → is_some now ≡ is_some before
adds_tells entries None now adds = ap is_some adds
adds_tells entries (Some es) now adds = ap is_some adds

pub adds_none : (entries : List PmEvent) (before now : Option (List PmEvent)) → entries ≡ [] → Added entries before now → now ≡ before
adds_none entries None now none adds = adds
adds_none entries (Some es) now none adds = adds ∙ ap (λ (l : List PmEvent). Some l) (ap (λ (l : List PmEvent). es ++ l) none ∙ append-nil es)

pub made_tells : {T E : Type 0} (result : Result T E) (entries : List PmEvent) (before now : Option (List PmEvent)) (s t : Standing) → OnOk result (Added entries before now) → OnErr result ((t ≡ s) × (now ≡ before)) → is_some now ≡ is_some before
made_tells (Ok done) entries before now s t adds refused = adds_tells entries before now adds
made_tells (Err error) entries before now s t adds refused = ap is_some refused.1

module _ {D : Type 0} where
  -- a slot became another with the same children
  pub keeps_became : (k : ℕ) (x : SlotView D) (notes : RosterNotes) (d e : RosterView D) → SlotBecame k x notes d e → x.past ≡ (slot_at d k).past → KeepsPast d e
  keeps_became k x notes d e became past = (became_same k x notes d e became past).past

  -- steps that change no slot
  pub keeps_stepped : (d e : RosterView D) (ss : List RosterStep) → e ≡ after_steps d ss → KeepsPast d e
  keeps_stepped d e ss is k = ap (λ (xs : List (SlotView D)). (get_or xs k (slot_view [] Unused)).past) (ap (λ (v : RosterView D). v.slots) is ∙ same-slots d ss)

  -- an act
  pub keeps_acted : (a : Act) (ordered : Kind → D) (d e : RosterView D) (seats seats' : List (Option Enrolled)) → Performs a ordered d seats e seats' → KeepsPast d e
  keeps_acted (act.Start pid kind) ordered d e seats seats' has = keeps_became (slot_of kind) _ _ d e has.0.2 refl
  keeps_acted (act.Quit why) ordered d e seats seats' has = keeps_stepped d e (steps_for (act.Quit why) d.generation seats) has.0
  keeps_acted act.Terminate ordered d e seats seats' has = keeps_stepped d e (steps_for act.Terminate d.generation seats) has.0
  keeps_acted act.KillAll ordered d e seats seats' has = keeps_stepped d e (steps_for act.KillAll d.generation seats) has.0
  keeps_acted act.AskCheckpoint ordered d e seats seats' has = keeps_stepped d e (steps_for act.AskCheckpoint d.generation seats) has.0
  keeps_acted (act.Ready generation) ordered d e seats seats' has = keeps_stepped d e (steps_for (act.Ready generation) d.generation seats) has.0
  keeps_acted (act.Reset generation) ordered d e seats seats' has = keeps_stepped d e (steps_for (act.Reset generation) d.generation seats) has.0
  keeps_acted (act.Say line) ordered d e seats seats' has = keeps_stepped d e [] has.0
  keeps_acted (act.End how) ordered d e seats seats' has = keeps_stepped d e [] has.0
