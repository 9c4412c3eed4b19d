use Rattle.std.proofs.Common.{inl, inr, ◌<◌, length, sym, ap, ◌∙◌, subst}
use Rattle.pm_board.{specs.{Places.slot_at, Children.children_of, Told.roster_of, Models.LookMet}, proofs.roster.Roster.look.Goals.{then-found_stage-eq-EXITED, else-found_stage-eq-EXITED}}
use Rattle.pm_board.specs.declared.roster.Look.TheVariants as look
use Rattle.pm_board.proofs.Steps as steps
use Rattle.pm_board.proofs.Ties as ties
use Rattle.pm_board.proofs.Homing as homing
use Rattle.pm_board.proofs.roster.Roster.look.Goals as goal

pub load-found-requires : goal.load-found-requires
load-found-requires g c =
    let inv = c.self.invariant.0 in
    let e = ap (λ v. v.knows) c.self.view_is in
    let t = ap (λ b. b.table) c.deref.ensures ∙ inv.0 in
    let near = steps.in_table _ _ _ _ _ e inv.3 inv.2 t c.requires.0 in
    record {
      may = (sym t, near.0, steps.looks_as g.J.Letter _ _ _ _ _ _ _ inv.1 near.1 (ap (λ z. (slot_at z c.args.slot).sight) e ∙ c.requires.1.1));
      ties = ties.master_tied g.J.Letter g.H.Home c.deref.result.now c.self.inside.seat (roster_of c.self.inside.seat.me.0) _ (homing.desk _ _ _ inv.1) (λ found me told. let at = homing.looked_to c.args.slot found _ me _ _ inv.1 (ap (λ z. (slot_at z c.args.slot).sight) e ∙ c.requires.1.1) told in (at.0, at.1, (λ _. at.2)));
    }

pub invariant_of-self : goal.invariant_of-self
invariant_of-self g c =
    let inv = c.self.invariant.0 in
    let e = ap (λ v. v.knows) c.self.view_is in
    let near = subst (λ z. c.args.slot < length z.slots) (sym e) c.requires.0 in
    let at = homing.looked_to c.args.slot c.load-found.result _ _ _ _ inv.1 (ap (λ z. (slot_at z c.args.slot).sight) e ∙ c.requires.1.1) c.load-found.ensures.told.2 in (
      steps.looked_seal _ _ _ _ _ _ _ 0 _ _ _ _ _ _ inv.0 c.load-found.ensures.told.0 inv.2 inv.4 inv.1 inv.3 near inv.5 inv.6 inv.7 inv.8 (ap (λ z. (slot_at z c.args.slot).sight) e ∙ c.requires.1.1) c.load-found.ensures.told.2,
      homing.roster_home g.H.Home _ c.self.inside.seat.me c.load-found.new.seat.me _ _ _ at.1 at.3 c.load-found.ensures.more c.self.invariant.1,
    )

pub returns-clause-children : goal.returns-clause-children
returns-clause-children g c =
    let inv = c.self.invariant.0 in
    let e = ap (λ v. v.knows) c.self.view_is in
    let near = subst (λ z. c.args.slot < length z.slots) (sym e) c.requires.0 in
    steps.looked_children 0 _ _ _ _ _ _ inv.1 near (ap (λ z. (slot_at z c.args.slot).sight) e ∙ c.requires.1.1) c.load-found.ensures.told.2 ∙ ap (λ z. children_of z.slots) e

pub returns-clause-home : goal.returns-clause-home
returns-clause-home g c = ap (λ m. m.0) c.load-found.ensures.more ∙ ap (λ v. v.home) c.self.view_is

pub returns-clause-met : goal.returns-clause-met
returns-clause-met g c o sight =
    let e = ap (λ v. v.knows) c.self.view_is in
    let near = subst (λ z. c.args.slot < length z.slots) (sym e) c.requires.0 in
    let here = ap (λ z. (slot_at z c.args.slot).sight) e ∙ sight in
    let found = c.if-found_stage-eq-EXITED.result in
    let stage = c.stage-found_stage.ensures in (
      c.load-found.result,
      subst (λ z. LookMet c.args.slot o c.load-found.result found z (roster_of c.load-found.new.seat.me.0)) e
          (steps.looked_met 0 c.args.slot c.load-found.result found c.self.inside.seat.me c.load-found.new.seat.me (roster_of c.self.inside.seat.me.0) o c.self.invariant.0.1 near here c.load-found.ensures.told.2
          (elim c.if-found_stage-eq-EXITED.branch [
            | then-found_stage-eq-EXITED w ↦ inl (sym stage ∙ w.if-found_stage-eq-EXITED.true, w.result-is ∙ (λ i. look.Exited (w.status.ensures i) (w.is_active.ensures i)))
            | else-found_stage-eq-EXITED w ↦ inr ((λ three. w.if-found_stage-eq-EXITED.false (stage ∙ three)), w.result-is)
          ])),
    )
