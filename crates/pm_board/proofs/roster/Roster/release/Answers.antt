use Rattle.std.{proofs.{Common.{◌≡◌, ℕ, ◌<◌, [], ◌∷◌, ◌++◌, length, set, arith, refl, sym, ap, ◌∙◌, subst, length-set}, lemmas.Option.same_Some}, specs.Prelude.{Bool, IsSome, None}}
use Rattle.pm_exit.specs.declared.child.{Kind.Kind, Status.Status}
use Rattle.pm_board_words.specs.declared.views.{View.TheVariants.Postmaster, Sight.TheVariants.Unused, RosterView.RosterView}
use Rattle.pm_board.specs.{Places.{slot_view, slot_at, used_in}, Children.children_of, Told.{roster_of, with_slot, with_sight, past_child, noted_release}}
use Rattle.pm_board.proofs.Children as children
use Rattle.pm_board.proofs.Steps as steps
use Rattle.pm_board.proofs.Ties as ties
use Rattle.pm_board.proofs.Homing as homing
use Rattle.pm_board.proofs.roster.Roster.release.Goals as goal

pub fetch_add-found-requires : goal.fetch_add-found-requires
fetch_add-found-requires g c =
    let inv = c.self.invariant.0 in
    let e = ap (λ v. v.knows) c.self.view_is in
    let t = ap (λ b. b.table) c.deref.ensures ∙ inv.0 in
    let near = steps.in_table _ _ _ _ _ e inv.3 inv.2 t c.requires.0 in
    record {
      may = (sym t, near.0, steps.releases_as g.J.Letter _ _ _ _ _ _ _ _ _ inv.1 near.1 (ap (λ z. (slot_at z c.args.slot).sight) e ∙ c.requires.1.3));
      ties = ties.master_tied g.J.Letter g.H.Home c.deref.result.now c.self.inside.seat (roster_of c.self.inside.seat.me.0) _ (homing.desk _ _ _ inv.1) (λ found me told. let got = steps.released_as g.J.Letter 0 _ found _ _ _ me _ _ inv.1 (ap (λ z. (slot_at z c.args.slot).sight) e ∙ c.requires.1.3) told in (_, ap (λ m. m.0) got.3.1, (λ _. refl)));
    }

pub exchange-mail-requires : goal.exchange-mail-requires
exchange-mail-requires g c =
    let inv = c.self.invariant.0 in
    let e = ap (λ v. v.knows) c.self.view_is in
    let t = ap (λ b. b.table) c.deref-2.ensures ∙ inv.0 in
    let got = steps.released_as g.J.Letter 0 _ _ _ _ _ _ _ _ inv.1 (ap (λ z. (slot_at z c.args.slot).sight) e ∙ c.requires.1.3) c.fetch_add-found.ensures.told.2 in
    record { table = c.fetch_add-found.ensures.told.0 ∙ sym t; last = steps.holds_one _ _ _ _ got.3.1 }

pub unwrap-job-requires : goal.unwrap-job-requires
unwrap-job-requires g c =
    let inv = c.self.invariant.0 in
    let e = ap (λ v. v.knows) c.self.view_is in
    let got = steps.released_as g.J.Letter 0 _ _ _ _ _ _ _ _ inv.1 (ap (λ z. (slot_at z c.args.slot).sight) e ∙ c.requires.1.3) c.fetch_add-found.ensures.told.2 in
    subst IsSome (steps.came_out _ _ _ _ _ got.3.1 c.exchange-mail.ensures.old) refl

pub store-requires : goal.store-requires
store-requires g c =
    let inv = c.self.invariant.0 in
    let e = ap (λ v. v.knows) c.self.view_is in
    let t = ap (λ b. b.table) c.deref-3.ensures ∙ inv.0 in
    let near = steps.in_table _ _ _ _ _ e inv.3 inv.2 t c.requires.0 in
    let d : RosterView g.row.J-Told.Denot = roster_of c.self.inside.seat.me.0 in
    let short : c.args.slot < length d.slots = subst (λ z. c.args.slot < length z.slots) (sym e) c.requires.0 in
    let got = steps.released_as g.J.Letter 0 _ _ _ _ _ _ d _ inv.1 (ap (λ z. (slot_at z c.args.slot).sight) e ∙ c.requires.1.3) c.fetch_add-found.ensures.told.2 in
    record {
      may = (
        c.exchange-mail.ensures.same.0 ∙ c.fetch_add-found.ensures.told.0 ∙ sym t,
        near.0,
        steps.clears_as g.J.Letter _ _ _ _ _ _ _ _ _ (steps.exchanged _ _ _ _ _ _ got.3.1 c.exchange-mail.ensures.new) near.1 (ap (λ x. x.sight) (steps.slot_set d c.args.slot _ (noted_release d.notes c.requires.1.0) short)),
      );
      ties = ties.master_tied g.J.Letter g.H.Home c.deref-3.result.now c.exchange-mail.new.seat (roster_of c.exchange-mail.new.seat.me.0) _ (homing.desk _ _ _ (steps.exchanged _ _ _ _ _ _ got.3.1 c.exchange-mail.ensures.new)) (λ found me told. (_, ap (λ m. m.0) told, (λ _. refl)));
    }

pub overflow_sub-self : goal.overflow_sub-self
overflow_sub-self g c =
    let inv = c.self.invariant.0 in
    let e = ap (λ v. v.knows) c.self.view_is in
    let d : RosterView g.row.J-Told.Denot = roster_of c.self.inside.seat.me.0 in
    let short : c.args.slot < length d.slots = subst (λ z. c.args.slot < length z.slots) (sym e) c.requires.0 in
    let less = steps.used_less d c.args.slot (slot_view [] Unused) d.notes _ short (ap (λ z. (slot_at z c.args.slot).sight) e ∙ c.requires.1.3) refl refl in
    let used : c.self.inside.used ≡ used_in d.slots = inv.5 in
    omega arith

pub pid-pid-requires : goal.pid-pid-requires
pid-pid-requires g c =
    let inv = c.self.invariant.0 in
    let e = ap (λ v. v.knows) c.self.view_is in
    let got = steps.released_as g.J.Letter 0 _ _ _ _ _ _ _ _ inv.1 (ap (λ z. (slot_at z c.args.slot).sight) e ∙ c.requires.1.3) c.fetch_add-found.ensures.told.2 in
    let read = steps.reads _ 3 c.requires.1.0 _ _ got.0 (omega arith) got.1 got.2 in
    let low : c.requires.1.0.pid < 2147483648 = got.1 in
    subst (λ (z : ℕ). z < 4294967296) (sym read.0) (omega arith)

pub returns-clause-slot : goal.returns-clause-slot
returns-clause-slot g c o status active sight =
    let inv = c.self.invariant.0 in
    let e = ap (λ v. v.knows) c.self.view_is in
    let d : RosterView g.row.J-Told.Denot = roster_of c.self.inside.seat.me.0 in
    let k : ℕ = c.args.slot in
    let short : k < length d.slots = subst (λ z. k < length z.slots) (sym e) c.requires.0 in
    let got = steps.released_as g.J.Letter 0 _ _ _ _ _ _ d _ inv.1 (ap (λ z. (slot_at z k).sight) e ∙ sight) c.fetch_add-found.ensures.told.2 in
    let read = steps.reads _ 3 o status active got.0 (omega arith) got.1 got.2 in
    let out = steps.came_out _ _ _ _ _ got.3.1 c.exchange-mail.ensures.old ∙ c.unwrap-job.ensures in
    let is = steps.exchanged _ _ _ _ _ _ got.3.1 c.exchange-mail.ensures.new in
    let end = ap (λ m. roster_of m.0) c.store.ensures.told.2 ∙ ap (λ m. with_sight (roster_of m.0) k Unused) is ∙ steps.cleared d k _ _ short
    ∙ ap (λ z. with_slot d k (slot_view ((slot_at d k).past ++ past_child o status active (g.J.Letter.told z) ∷ []) Unused) (noted_release d.notes o)) (same_Some _ _ out)
    ∙ ap (λ z. with_slot z k (slot_view ((slot_at z k).past ++ past_child o status active (g.J.Letter.told c.unwrap-job.result) ∷ []) Unused) (noted_release z.notes o)) e in (
      c.pid-pid.ensures ∙ read.0,
      c.kind-kind.ensures ∙ read.1,
      c.status-status.ensures ∙ read.2,
      c.is_active-was_active.ensures ∙ read.3,
      steps.became _ _ k _ _ c.requires.0 end,
      subst (λ (z : g.row.J.Denot × Kind × Status × Bool). g.J.Letter.comes_back z.0 z.1 z.2 z.3)
          {x = (got.3.0, o.kind, status, active)} {y = (c.unwrap-job.result, c.kind-kind.result, c.status-status.result, c.is_active-was_active.result)}
          (λ i. (same_Some _ _ out i, sym (c.kind-kind.ensures ∙ read.1) i, sym (c.status-status.ensures ∙ read.2) i, sym (c.is_active-was_active.ensures ∙ read.3) i)) got.3.2,
    )

pub invariant_of-self : goal.invariant_of-self
invariant_of-self g c =
    let inv = c.self.invariant.0 in
    let e = ap (λ v. v.knows) c.self.view_is in
    let d : RosterView g.row.J-Told.Denot = roster_of c.self.inside.seat.me.0 in
    let k : ℕ = c.args.slot in
    let short : k < length d.slots = subst (λ z. k < length z.slots) (sym e) c.requires.0 in
    let sight = ap (λ z. (slot_at z k).sight) e ∙ c.requires.1.3 in
    let got = steps.released_as g.J.Letter 0 _ _ _ _ _ _ d _ inv.1 sight c.fetch_add-found.ensures.told.2 in
    let is = steps.exchanged _ _ _ _ _ _ got.3.1 c.exchange-mail.ensures.new in
    let end = c.store.ensures.told.2 ∙ ap (λ m. (Postmaster (with_sight (roster_of m.0) k Unused), [])) is ∙ ap (λ z. (Postmaster z, [])) (steps.cleared d k _ _ short) in (
      steps.sealed _ _ _ _ _ _ _ _ _ inv.0 (c.store.ensures.told.0 ∙ c.exchange-mail.ensures.same.0 ∙ c.fetch_add-found.ensures.told.0) inv.2 inv.4 end (length-set d.slots k _ ∙ inv.3)
          (steps.one_less _ _ _ inv.5 (steps.used_less d k (slot_view ((slot_at d k).past ++ past_child c.requires.1.0 c.requires.1.1 c.requires.1.2 (g.J.Letter.told got.3.0) ∷ []) Unused) (noted_release d.notes c.requires.1.0) _ short sight refl refl)) inv.6 inv.7
          (ap (λ z. set z k None) inv.8 ∙ sym (children.children_set d.slots k (slot_view ((slot_at d k).past ++ past_child c.requires.1.0 c.requires.1.1 c.requires.1.2 (g.J.Letter.told got.3.0) ∷ []) Unused))),
      homing.roster_home g.H.Home _ c.self.inside.seat.me c.store.new.seat.me _ _ _ (ap (λ m. m.0) end) refl (c.store.ensures.more ∙ (c.exchange-mail.ensures.more ∙ c.fetch_add-found.ensures.more)) c.self.invariant.1,
    )

pub returns-clause-children : goal.returns-clause-children
returns-clause-children g c =
    let is = (returns-clause-slot g c c.requires.1.0 c.requires.1.1 c.requires.1.2 c.requires.1.3).4.whole in
    ap (λ z. children_of z.slots) is ∙ children.children_set c.args.self.now.knows.slots c.args.slot _

pub returns-clause-home : goal.returns-clause-home
returns-clause-home g c = ap (λ m. m.0) (c.store.ensures.more ∙ (c.exchange-mail.ensures.more ∙ c.fetch_add-found.ensures.more)) ∙ ap (λ v. v.home) c.self.view_is
