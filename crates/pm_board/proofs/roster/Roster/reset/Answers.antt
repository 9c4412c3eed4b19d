use Rattle.std.proofs.Common.{◌≡◌, ◌+◌, ◌<◌, ℕ, arith, refl, sym, ap, ◌∙◌, subst}
use Rattle.pm_board_words.specs.declared.views.RosterStep.TheVariants as roster_step
use Rattle.pm_board_words.specs.GateWords.{new_gate}
use Rattle.pm_board.specs.{Told.{roster_of, after_step}, Models.MayReset}
use Rattle.pm_board.proofs.Steps as steps
use Rattle.pm_board.proofs.Ties as ties
use Rattle.pm_board.proofs.Homing as homing
use Rattle.pm_board.proofs.roster.Roster.reset.Goals as goal

pub overflow_add-generation : goal.overflow_add-generation
overflow_add-generation g c =
    let now : c.self.inside.generation ≡ c.args.self.now.knows.generation = c.self.invariant.0.6 ∙ ap (λ v. v.knows.generation) c.self.view_is in
    let few : c.args.self.now.knows.generation < 4294967295 = c.requires.may.1 in
    omega arith

pub store-requires : goal.store-requires
store-requires g c =
    let inv = c.self.invariant.0 in
    let e = ap (λ v. v.knows) c.self.view_is in
    let first = ap (λ b. b.table) c.deref.ensures ∙ inv.0 in
    let t = ap (λ b. b.table) c.deref-2.ensures ∙ inv.0 in
    let gate = steps.gate_in _ _ _ (c.slot_count-gate.ensures ∙ ap (λ z. z.slots) first) inv.2 t in
    let lends = ap (λ v. g.H.Home.lends v.home.knows) c.self.view_is ∙ c.requires.lends in
    record {
      may = (sym t, gate.0, steps.resets_as g.J.Letter _ _ _ _ _ _ _ gate.1 (c.new_word.ensures ∙ ap (λ (n : ℕ). new_gate (n + 1)) inv.6) (subst MayReset (sym e) c.requires.may) inv.1);
      ties = ties.master_tied g.J.Letter g.H.Home c.deref-2.result.now c.self.inside.seat (roster_of c.self.inside.seat.me.0) _ (homing.desk _ _ _ inv.1) (λ found me told. (_, ap (λ m. m.0) told, (λ yes_. homing.hasnt _ lends yes_)));
    }

pub invariant_of-self : goal.invariant_of-self
invariant_of-self g c =
    let inv = c.self.invariant.0 in
    let is = steps.turned_as _ _ _ inv.1 c.store.ensures.told.2 in (
      steps.sealed _ _ _ _ _ _ _ _ _ inv.0 c.store.ensures.told.0 inv.2 inv.4 is inv.3 inv.5 (ap (λ (n : ℕ). n + 1) inv.6) refl inv.8,
      homing.roster_home g.H.Home _ c.self.inside.seat.me c.store.new.seat.me _ _ _ (ap (λ m. m.0) is) refl c.store.ensures.more c.self.invariant.1,
    )

pub returns-clause-knows : goal.returns-clause-knows
returns-clause-knows g c = ap (λ m. roster_of m.0) c.store.ensures.told.2 ∙ ap (λ v. after_step v.knows (roster_step.Reset (v.knows.generation + 1))) c.self.view_is

pub returns-clause-home : goal.returns-clause-home
returns-clause-home g c = ap (λ m. m.0) c.store.ensures.more ∙ ap (λ v. v.home) c.self.view_is
