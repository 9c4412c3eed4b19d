use Rattle.std.{proofs.Common.{◌≡◌, ℕ, ◌+◌, ◌<◌, ◌≤◌, ◌∷◌, length, set, arith, refl, sym, ap, ◌∙◌, subst, length-set}, specs.Prelude.Some}
use Rattle.atomic_table.specs.Table.{rest}
use Rattle.pm_board_words.specs.declared.views.{Offer.Offer, Sight.TheVariants.Opened, RosterView.RosterView}
use Rattle.pm_board.specs.{Slots.{all_slots, child_slots}, Places.{slot_view, slot_at, is_auxiliary, lost, SlotServes, used_in}, Children.children_of, Told.{roster_of, with_slot, with_sight, assigned_slot, noted_assign}}
use Rattle.pm_board.proofs.Children as children
use Rattle.pm_board.proofs.Steps as steps
use Rattle.pm_board.proofs.Ties as ties
use Rattle.pm_board.proofs.Homing as homing
use Rattle.pm_board.proofs.roster.Roster.assign.Goals as goal

pub overflow_add-latch : goal.overflow_add-latch
overflow_add-latch g c =
    let inv = c.self.invariant.0 in
    let count : c.slot_count.result ≡ c.self.inside.seat.table.slots = c.slot_count.ensures ∙ ap (λ b. b.table.slots) c.deref.ensures ∙ ap (λ z. z.slots) inv.0 in
    let few : c.self.inside.seat.table.slots ≤ 407 = inv.4 in
    omega arith

pub overflow_add-latch-2 : goal.overflow_add-latch-2
overflow_add-latch-2 g c =
    let inv = c.self.invariant.0 in
    let count : c.slot_count.result ≡ c.self.inside.seat.table.slots = c.slot_count.ensures ∙ ap (λ b. b.table.slots) c.deref.ensures ∙ ap (λ z. z.slots) inv.0 in
    let few : c.self.inside.seat.table.slots ≤ 407 = inv.4 in
    let near : c.args.slot < child_slots c.self.inside.seat.table.slots = (steps.in_table _ _ _ c.self.inside.seat.table c.self.inside.seat.table (ap (λ v. v.knows) c.self.view_is) inv.3 inv.2 refl c.requires.may.slot).1 in
    let all : child_slots c.self.inside.seat.table.slots ≡ c.self.inside.seat.table.slots = all_slots c.self.inside.seat.table.slots in
    omega arith

pub swap-requires : goal.swap-requires
swap-requires g c =
    let inv = c.self.invariant.0 in
    let e = ap (λ v. v.knows) c.self.view_is in
    let t = ap (λ b. b.table) c.deref-2.ensures ∙ inv.0 in
    let first = ap (λ b. b.table) c.deref.ensures ∙ inv.0 in
    let near = steps.in_table _ _ _ _ _ e inv.3 inv.2 t c.requires.may.slot in
    let near' = (steps.in_table _ _ _ c.self.inside.seat.table c.self.inside.seat.table e inv.3 inv.2 refl c.requires.may.slot).1 in
    let place = steps.latch_in _ _ _ _ _ (c.slot_count.ensures ∙ ap (λ z. z.slots) first) refl near' inv.2 t in
    record {
      may = (sym t, place.0, steps.arms_as g.J.Letter _ _ _ _ _ _ c.args.pid _ _ place.1 c.armed.ensures inv.1 near.1 c.requires.may.fits (ap (λ z. (slot_at z c.args.slot).sight) e ∙ c.requires.may.unused));
      ties = ties.master_tied g.J.Letter g.H.Home c.deref-2.result.now c.self.inside.seat (roster_of c.self.inside.seat.me.0) _ (homing.desk _ _ _ inv.1) (λ found me told. (_, ap (λ m. m.0) (told c.args.slot c.args.pid place.1 c.armed.ensures), (λ _. refl)));
    }

pub exchange-requires : goal.exchange-requires
exchange-requires g c =
    let inv = c.self.invariant.0 in
    let e = ap (λ v. v.knows) c.self.view_is in
    let first = ap (λ b. b.table) c.deref.ensures ∙ inv.0 in
    let t' = ap (λ b. b.table) c.deref-2.ensures ∙ inv.0 in
    let place = steps.latch_in _ _ _ _ _ (c.slot_count.ensures ∙ ap (λ z. z.slots) first) refl (steps.in_table _ _ _ c.self.inside.seat.table c.self.inside.seat.table e inv.3 inv.2 refl c.requires.may.slot).1 inv.2 t' in
    let now = c.swap.ensures.told.2 c.args.slot c.args.pid place.1 c.armed.ensures in
    record { table = c.swap.ensures.told.0 ∙ sym (ap (λ b. b.table) c.deref-3.ensures ∙ inv.0); last = steps.holds_one _ _ _ _ now }

pub unreachable-requires : goal.unreachable-requires
unreachable-requires g c =
    let inv = c.self.invariant.0 in
    let e = ap (λ v. v.knows) c.self.view_is in
    let first = ap (λ b. b.table) c.deref.ensures ∙ inv.0 in
    let t' = ap (λ b. b.table) c.deref-2.ensures ∙ inv.0 in
    let place = steps.latch_in _ _ _ _ _ (c.slot_count.ensures ∙ ap (λ z. z.slots) first) refl (steps.in_table _ _ _ c.self.inside.seat.table c.self.inside.seat.table e inv.3 inv.2 refl c.requires.may.slot).1 inv.2 t' in
    let now = c.swap.ensures.told.2 c.args.slot c.args.pid place.1 c.armed.ensures in
    let out = steps.came_out _ _ _ _ _ now c.exchange.ensures.old in
    absurd (cc)

pub store-requires : goal.store-requires
store-requires g c =
    let inv = c.self.invariant.0 in
    let e = ap (λ v. v.knows) c.self.view_is in
    let t = ap (λ b. b.table) c.deref-4.ensures ∙ inv.0 in
    let near = steps.in_table _ _ _ _ _ e inv.3 inv.2 t c.requires.may.slot in
    let d : RosterView g.row.J-Told.Denot = roster_of c.self.inside.seat.me.0 in
    let k : ℕ = c.args.slot in
    let first = ap (λ b. b.table) c.deref.ensures ∙ inv.0 in
    let t' = ap (λ b. b.table) c.deref-2.ensures ∙ inv.0 in
    let place = steps.latch_in _ _ _ _ _ (c.slot_count.ensures ∙ ap (λ z. z.slots) first) refl (steps.in_table _ _ _ c.self.inside.seat.table c.self.inside.seat.table e inv.3 inv.2 refl c.requires.may.slot).1 inv.2 t' in
    let now = c.swap.ensures.told.2 k c.args.pid place.1 c.armed.ensures in
    let short : k < length d.slots = subst (λ z. k < length z.slots) (sym e) c.requires.may.slot in
    let count = ap (λ (z : RosterView g.row.J-Told.Denot). length z.slots) (sym e) ∙ inv.3 ∙ ap (λ z. child_slots z.slots) (sym t) in
    let o : Offer g.row.J-Told.Denot = record { pid = c.args.pid; kind = c.args.kind; generation = d.generation; given = g.J.Letter.told c.args.job } in
    let at = c.exchange.ensures.new ∙ (λ i. ((now i).0, (k, Some c.args.job) ∷ rest (now i).1)) in
    record {
      may = (
        c.exchange.ensures.same.0 ∙ c.swap.ensures.told.0 ∙ sym t,
        near.0,
        steps.assigns_as g.J.Letter _ _ _ k _ o _ (with_sight d k (Opened c.args.pid)) c.args.job (c.exchange.ensures.new ∙ (λ i. ((now i).0, (k, Some c.args.job) ∷ rest (now i).1))) c.offered-word.ensures near.1
            (ap (λ x. x.sight) (steps.slot_set d k (slot_view (slot_at d k).past (Opened c.args.pid)) d.notes short)) (subst (λ z. z.notes.last_pid < c.args.pid) (sym e) c.requires.may.new) c.requires.may.fits
            (subst (λ (z : ℕ). SlotServes z k c.args.kind) count c.requires.may.serves) refl refl c.requires.fits
            (λ is. ap (λ x. lost is_auxiliary d.generation x.past) (steps.slot_set d k (slot_view (slot_at d k).past (Opened c.args.pid)) d.notes short) ∙ subst (λ z. lost is_auxiliary z.generation (slot_at z k).past ≡ 0) (sym e) (c.requires.may.forerunners is)),
      );
      ties = ties.master_tied g.J.Letter g.H.Home c.deref-4.result.now c.exchange.new.seat (with_sight d k (Opened c.args.pid)) _ (ap (λ m. m.0) at) (λ found me told. (_, ap (λ m. m.0) (steps.assigned_as g.J.Letter 0 k _ o _ me d c.args.job at c.offered-word.ensures short refl refl told), (λ _. refl)));
    }

pub overflow_add-self : goal.overflow_add-self
overflow_add-self g c =
    let inv = c.self.invariant.0 in
    let d : RosterView g.row.J-Told.Denot = roster_of c.self.inside.seat.me.0 in
    let a : used_in d.slots ≤ length d.slots = steps.used_few d.slots in
    let b : c.self.inside.used ≤ 407 = subst (λ (z : ℕ). z ≤ 407) (sym inv.5) (let l : length d.slots ≤ 407 = subst (λ (z : ℕ). z ≤ 407) (sym (inv.3 ∙ all_slots _)) inv.4 in omega arith) in
    omega arith

pub invariant_of-self : goal.invariant_of-self
invariant_of-self g c =
    let inv = c.self.invariant.0 in
    let e = ap (λ v. v.knows) c.self.view_is in
    let d : RosterView g.row.J-Told.Denot = roster_of c.self.inside.seat.me.0 in
    let k : ℕ = c.args.slot in
    let first = ap (λ b. b.table) c.deref.ensures ∙ inv.0 in
    let t' = ap (λ b. b.table) c.deref-2.ensures ∙ inv.0 in
    let place = steps.latch_in _ _ _ _ _ (c.slot_count.ensures ∙ ap (λ z. z.slots) first) refl (steps.in_table _ _ _ c.self.inside.seat.table c.self.inside.seat.table e inv.3 inv.2 refl c.requires.may.slot).1 inv.2 t' in
    let now = c.swap.ensures.told.2 k c.args.pid place.1 c.armed.ensures in
    let short : k < length d.slots = subst (λ z. k < length z.slots) (sym e) c.requires.may.slot in
    let o : Offer g.row.J-Told.Denot = record { pid = c.args.pid; kind = c.args.kind; generation = d.generation; given = g.J.Letter.told c.args.job } in
    let end = steps.assigned_as g.J.Letter 0 k _ o _ _ d c.args.job (c.exchange.ensures.new ∙ (λ i. ((now i).0, (k, Some c.args.job) ∷ rest (now i).1))) c.offered-word.ensures short refl refl c.store.ensures.told.2 in
    let unused = ap (λ z. (slot_at z k).sight) e ∙ c.requires.may.unused in (
      steps.sealed _ _ _ _ _ _ _ _ _ inv.0 (c.store.ensures.told.0 ∙ c.exchange.ensures.same.0 ∙ c.swap.ensures.told.0) inv.2 inv.4 end (length-set d.slots k _ ∙ inv.3)
          (ap (λ (z : ℕ). z + 1) inv.5 ∙ sym (steps.used_more d k (assigned_slot (slot_at d k) o) (noted_assign d.notes k o) _ short unused refl refl)) inv.6 inv.7
          (ap (λ z. set z k (Some (c.args.pid, c.args.kind))) inv.8 ∙ sym (children.children_set d.slots k (assigned_slot (slot_at d k) o))),
      homing.roster_home g.H.Home _ c.self.inside.seat.me c.store.new.seat.me _ _ _ (ap (λ m. m.0) end) refl (c.store.ensures.more ∙ (c.exchange.ensures.more ∙ c.swap.ensures.more)) c.self.invariant.1,
    )

pub returns-clause-slot : goal.returns-clause-slot
returns-clause-slot g c =
    let inv = c.self.invariant.0 in
    let e = ap (λ v. v.knows) c.self.view_is in
    let d : RosterView g.row.J-Told.Denot = roster_of c.self.inside.seat.me.0 in
    let k : ℕ = c.args.slot in
    let first = ap (λ b. b.table) c.deref.ensures ∙ inv.0 in
    let t' = ap (λ b. b.table) c.deref-2.ensures ∙ inv.0 in
    let place = steps.latch_in _ _ _ _ _ (c.slot_count.ensures ∙ ap (λ z. z.slots) first) refl (steps.in_table _ _ _ c.self.inside.seat.table c.self.inside.seat.table e inv.3 inv.2 refl c.requires.may.slot).1 inv.2 t' in
    let now = c.swap.ensures.told.2 k c.args.pid place.1 c.armed.ensures in
    let short : k < length d.slots = subst (λ z. k < length z.slots) (sym e) c.requires.may.slot in
    let offer : RosterView g.row.J-Told.Denot → Offer g.row.J-Told.Denot = λ z. record { pid = c.args.pid; kind = c.args.kind; generation = z.generation; given = g.J.Letter.told c.args.job } in
    let end = steps.assigned_as g.J.Letter 0 k _ (offer d) _ _ d c.args.job (c.exchange.ensures.new ∙ (λ i. ((now i).0, (k, Some c.args.job) ∷ rest (now i).1))) c.offered-word.ensures short refl refl c.store.ensures.told.2 in
    let is = ap (λ m. roster_of m.0) end ∙ ap (λ (z : RosterView g.row.J-Told.Denot). with_slot z k (assigned_slot (slot_at z k) (offer z)) (noted_assign z.notes k (offer z))) e in
    (offer c.args.self.now.knows, refl, steps.became _ _ k _ _ c.requires.may.slot is)

pub returns-clause-children : goal.returns-clause-children
unfolding returns-clause-slot
returns-clause-children g c =
    let is = (returns-clause-slot g c).2.whole in
    ap (λ z. children_of z.slots) is ∙ children.children_set c.args.self.now.knows.slots c.args.slot _

pub returns-clause-home : goal.returns-clause-home
returns-clause-home g c = ap (λ m. m.0) (c.store.ensures.more ∙ (c.exchange.ensures.more ∙ c.swap.ensures.more)) ∙ ap (λ v. v.home) c.self.view_is
