use Rattle.std.proofs.Common.{◌≡◌, ◌∙◌, [], ℕ, List, Ok, Err, ap, subst, arith}
use Rattle.pm_session_exchange.specs.{pm_query.Calls.{User, newcomer}, pm_child_life.Life.Child, Moments.{moment, outside}}
use Rattle.pm_session.{specs.Entry.{Enters, Serves, IsTextBehind}, proofs.{Attentions.{untried_still, new_untried, new_no_cancel}, Entries.stopped, Links.fresh_sound, Overtaking.{ending_overtaken, overtaken_not_outside}, Sessions.{stopped_session, stopped_caused, started_session, started_caused, served_among, stopped_made, started_made, started_come, never_come, no_cancel_kept, asked_for, asked_since, attached_outside, started_slept}}}
use Rattle.pm_session.proofs.desk.Desk.session.Goals as goal

pub startup-requires-clause-none : goal.startup-requires-clause-none
startup-requires-clause-none g c =
    let untold = rw (← c.self.view_is) at c.requires.untold in
    new_no_cancel _ untold

pub admit-requires-clause-untried : goal.admit-requires-clause-untried
admit-requires-clause-untried g c =
    let untold = rw (← c.self.view_is) at c.requires.untold in
    untried_still 0 _ _ c.in-Ok.ensures.enters.attends.asked (new_untried _ untold)

pub returns-in-Ok-clause-session : goal.returns-in-Ok-clause-session
returns-in-Ok-clause-session g c =
    let gives = g.C.Clock.gives c.args.means.now.clock.now in
    let limit = c.args.limit in
    let decision = c.args.admission.decision in
    let key = c.args.admission.key in
    let l0 = c.self.inside.line.link in
    let w0 = c.self.inside.line.work in
    let at0 = c.self.inside.line.child in
    let l1 = c.startup.new.line.link in
    let at1 = c.startup.new.line.child in
    let l2 = c.admit.new.self.link in
    let at2 = c.admit.new.self.child in
    let fresh = rw (← c.self.view_is) at c.requires.fresh in
    let untold = rw (← c.self.view_is) at c.requires.untold in
    let enters : Enters gives limit (Ok c.in-Ok.is_ordinary) (outside l0 [] at0) (outside l1 c.startup.new.inbox at1) =
    subst (λ (unread : List ℕ). Enters gives limit (Ok c.in-Ok.is_ordinary) (outside l0 unread at0) (outside l1 c.startup.new.inbox at1)) c.requires.unread c.in-Ok.ensures.enters in
    let served = c.admit.ensures.serves in
    let now : User = newcomer (g.W.Store.stamp w0) at0.child.pid served.1 in
    let pid_is : at1.child.pid ≡ at0.child.pid = ap (λ (child : Child). child.pid) enters.attends.child in
    let w1 = c.startup.new.line.work in
    let w2 = c.admit.new.self.work in
    let rest = g.met.W.Store.apart w0 w1 c.startup.ensures.rests in
    let same = ap (λ (pid : ℕ). newcomer (g.W.Store.stamp w1) pid served.1) pid_is ∙ ap (λ stamp. newcomer stamp at0.child.pid served.1) (g.met.W.Store.stays _ _ _ rest) in
    let serves : Serves g.W.Store.notes (IsTextBehind decision now key) decision served.1 gives served.0 (moment l1 c.startup.new.inbox w0 at1) (moment l2 c.admit.new.inbox w2 at2) =
    served_among g.W.Store.notes _ decision served.1 gives served.0 l1 l2 _ _ w0 w1 w2 w2 at1 at2 g.met.W.Store.in_turn rest
    (subst (λ (user : User). Serves g.W.Store.notes (IsTextBehind decision user key) decision served.1 gives served.0 (moment l1 c.startup.new.inbox w1 at1) (moment l2 c.admit.new.inbox w2 at2)) same served.4) (g.met.W.Store.at_rest _) in
    let slept = started_slept g.W.Store.notes decision now key served.1 gives limit c.in-Ok.is_ordinary served.0 l0 l1 l2 _ _ w0 w2 at0 at1 at2 fresh enters serves in
    rw (← c.self.view_is) (
      served.0,
      serves.turns,
      served.1,
      served.2,
      started_session g.W.Store.notes decision now key served.1 gives limit c.in-Ok.is_ordinary served.0 l0 l1 l2 _ _ w0 w2 at0 at1 at2 fresh enters serves,
      started_caused gives served.0 serves.turns served.1 decision l0 l1 l2 at2.told limit enters.passes.later (serves.caused limit (enters.holds (fresh_sound l0.traffic fresh)) slept),
      asked_since serves.turns at0.told at1.told at2.told enters.attends.asked serves.asked,
      served.3,
      started_made gives limit c.in-Ok.is_ordinary served.0 l0 l1 l2 c.startup.new.inbox at0 at1 at2 0 (new_no_cancel _ untold) enters (no_cancel_kept at1.told at2.told serves.cancels) serves.unasked,
      serves.heeds,
      served.5,
      started_come g.W.Store.notes decision now key served.1 gives limit c.in-Ok.is_ordinary served.0 l0 l1 l2 _ _ w0 w2 at0 at1 at2 fresh enters serves served.6,
    )

pub returns-in-Ok-clause-number : goal.returns-in-Ok-clause-number
returns-in-Ok-clause-number g c = rw (← c.self.view_is) (c.admit.ensures.serves.4.passes.number ∙ c.in-Ok.ensures.enters.passes.number)

pub returns-in-Ok-clause-link_faults : goal.returns-in-Ok-clause-link_faults
returns-in-Ok-clause-link_faults g c = rw (← c.self.view_is) (omega (arith, c.admit.ensures.serves.4.passes.later, c.in-Ok.ensures.enters.passes.later))

pub returns-in-Err-clause-session : goal.returns-in-Err-clause-session
returns-in-Err-clause-session g c =
    let gives = g.C.Clock.gives c.args.means.now.clock.now in
    let limit = c.args.limit in
    let decision = c.args.admission.decision in
    let cause = c.in-Err.cause in
    let l0 = c.self.inside.line.link in
    let w0 = c.self.inside.line.work in
    let at0 = c.self.inside.line.child in
    let l1 = c.startup.new.line.link in
    let at1 = c.startup.new.line.child in
    let l2 = c.close.new.self.link in
    let at2 = c.close.new.self.child in
    let user : User = newcomer (g.W.Store.stamp w0) at0.child.pid 0 in
    let fresh = rw (← c.self.view_is) at c.requires.fresh in
    let free = rw (← c.self.view_is) at c.requires.free in
    let untold = rw (← c.self.view_is) at c.requires.untold in
    let closes = c.close.ensures.closes in
    let enters : Enters gives limit (Err cause) (outside l0 [] at0) (outside l1 c.startup.new.inbox at1) =
    subst (λ (unread : List ℕ). Enters gives limit (Err cause) (outside l0 unread at0) (outside l1 c.startup.new.inbox at1)) c.requires.unread c.in-Err.ensures.enters in
    rw (← c.self.view_is) (
      closes.0,
      [],
      0,
      closes.2,
      stopped_session g.W.Store.notes decision user c.args.admission.key gives limit cause closes.0 l0 l1 l2 c.startup.new.inbox w0 c.close.new.self.work at0 at1 at2 (g.met.W.Store.apart _ _ (g.met.W.Life.rests_on _ _ _ c.startup.ensures.rests c.close.ensures.rests)) fresh enters closes.1 closes.3,
      stopped_caused decision 0 cause closes.0 l0 l1 l2 c.startup.new.inbox at0 at1 at2 limit gives fresh enters closes.1 closes.3 (untried_still 1 at1.told at2.told closes.3.hears.asked (untried_still 0 at0.told at1.told enters.attends.asked (new_untried _ untold))),
      asked_since [] at0.told at1.told at2.told enters.attends.asked (asked_for 1 [] at1.told at2.told (omega arith) closes.3.hears.asked),
      attached_outside closes.0.stage _ _ closes.1 (ap (λ (child : Child). child.attached) (closes.3.hears.child ∙ enters.attends.child) ∙ free),
      stopped_made gives limit decision cause closes.0 l0 l1 l2 c.startup.new.inbox at0 at1 at2 fresh (new_no_cancel _ untold) enters closes.3,
      closes.3.heeds,
      ending_overtaken (g.W.Store.met c.close.new.self.work) 0 cause closes.0 at2 closes.3.ends (overtaken_not_outside _ 0 enters.phase cause enters.last (stopped gives limit cause enters.phase enters.last enters.beyond enters.missing (outside l0 [] at0) (outside l1 c.startup.new.inbox at1) enters.goes_on).0),
      never_come l2.traffic at2.told (untried_still 1 at1.told at2.told closes.3.hears.asked (untried_still 0 at0.told at1.told enters.attends.asked (new_untried _ untold))),
    )

pub returns-in-Err-clause-number : goal.returns-in-Err-clause-number
returns-in-Err-clause-number g c = rw (← c.self.view_is) (c.close.ensures.closes.3.passes.number ∙ c.in-Err.ensures.enters.passes.number)

pub returns-in-Err-clause-link_faults : goal.returns-in-Err-clause-link_faults
returns-in-Err-clause-link_faults g c = rw (← c.self.view_is) (omega (arith, c.close.ensures.closes.3.passes.later, c.in-Err.ensures.enters.passes.later))
