use Rattle.std.{proofs.Common.{refl, sym, ap, subst, ◌∙◌, List, [], ◌∷◌, Ok}, specs.Prelude.{Option, Some, is_some}}
use Rattle.pm_supervisor_journal.{specs.{pm_state.{declared.{event.PmEvent.PmEvent, action.Action.Action}, Journal.without_first}, declared.act.Act.Act, pm_outside.Added.Added, Standing.entry_for, Supervision.{at_work, standing, told}}, proofs.NextsLaws.{first_is, next_given, next_none, next_spent, same_act}}
use Rattle.pm_board.specs.Gate.{gate_of}
use Rattle.pm_board_acts.{specs.{Acts.{MayDo, MayPerform, Performs}, Board.seats_of, Standing.view}, proofs.{Acting.{may_next, acted}, Keeping.{adds_none, adds_tells, keeps_acted}, Reaping.reaped_acted}}
use Rattle.pm_board_acts.proofs.desk.Desk.do_next.Goals as goal

pub perform-requires-clause-may : goal.perform-requires-clause-may
perform-requires-clause-may g c =
    may_next (at_work c.args.self.now.supervision) c.args.self.now.roster.knows c.in-Ok-Some.act c.requires.running (sym (rw c.in-Ok-Some.field-0-is at c.in-Ok-Some.ensures.act))
    (λ pid kind is. c.in-Ok-Some.ensures.pids pid kind (ap Ok (c.in-Ok-Some.field-0-is ∙ ap Some is)))

pub returns-in-Ok-Some-clause-may : goal.returns-in-Ok-Some-clause-may
returns-in-Ok-Some-clause-may g c = λ a is.
    let d = c.args.self.now.roster.knows in
    subst (λ (x : Act). MayPerform x d (seats_of d)) (same_act c.in-Ok-Some.act a is)
    (may_next (at_work c.args.self.now.supervision) d c.in-Ok-Some.act c.requires.running (sym (rw c.in-Ok-Some.field-0-is at c.in-Ok-Some.ensures.act))
    (λ pid kind is. c.in-Ok-Some.ensures.pids pid kind (ap Ok (c.in-Ok-Some.field-0-is ∙ ap Some is))))

pub returns-in-Ok-Some-clause-past : goal.returns-in-Ok-Some-clause-past
returns-in-Ok-Some-clause-past g c =
    let d = c.args.self.now.roster.knows in
    let e = c.perform.new.self.roster.knows in
    keeps_acted c.in-Ok-Some.act g.M.Report.ordered d e (seats_of d) (seats_of e) c.perform.ensures.performs

pub returns-in-Ok-Some-clause-act : goal.returns-in-Ok-Some-clause-act
returns-in-Ok-Some-clause-act g c =
    let v = view (at_work c.args.self.now.supervision) c.args.self.now.roster.knows in
    let w = view (at_work c.perform.new.self.supervision) c.perform.new.self.roster.knows in
    let s = standing c.args.self.now.supervision in
    let given = next_given s c.in-Ok-Some.act (sym (rw c.in-Ok-Some.field-0-is at c.in-Ok-Some.ensures.act)) in (
      given.0,
      given.1.first,
      acted c.laws.ensures.work v w g.M.Report.ordered given.0 given.1.first
          (ap (λ x. standing x) c.perform.ensures.supervision ∙ (c.in-Ok-Some.ensures.standing ∙ given.1.after))
          (subst (λ (x : Option (List PmEvent)). Added (entry_for given.0 s ∷ []) v.work.told x) (sym (ap (λ x. told x) c.perform.ensures.supervision)) (subst (λ (es : List PmEvent). Added es v.work.told (told c.next.new.self)) given.1.entries c.in-Ok-Some.ensures.told))
          (subst (λ (a : Act). Performs a g.M.Report.ordered v.board v.seats w.board w.seats) given.1.act_is c.perform.ensures.performs),
    )

pub returns-in-Ok-Some-clause-reaped : goal.returns-in-Ok-Some-clause-reaped
returns-in-Ok-Some-clause-reaped g c =
    let d = c.args.self.now.roster.knows in
    let e = c.perform.new.self.roster.knows in
    let s = standing c.args.self.now.supervision in
    let run = c.requires.running in
    let given = next_given s c.in-Ok-Some.act (sym (rw c.in-Ok-Some.field-0-is at c.in-Ok-Some.ensures.act)) in
    λ n were. reaped_acted n run.1 run.2 d e (seats_of d) (seats_of e) s g.M.Report.ordered given.0 (without_first s.due) run.3.seated
    (subst (λ (due : List Action). MayDo due (gate_of d) s.children) (first_is s.due given.0 given.1.first) run.3.may)
    (subst (λ (a : Act). Performs a g.M.Report.ordered d (seats_of d) e (seats_of e)) given.1.act_is c.perform.ensures.performs) were

pub returns-in-Ok-None-clause-act : goal.returns-in-Ok-None-clause-act
returns-in-Ok-None-clause-act g c =
    let answer = sym (rw c.in-Ok-None.field-0-is at c.in-Ok-None.ensures.act) in
    let none = next_none (standing c.args.self.now.supervision) answer in
    (c.in-Ok-None.ensures.standing ∙ none.after, adds_none _ _ _ none.entries c.in-Ok-None.ensures.told, refl, refl)

pub returns-in-Err-clause-act : goal.returns-in-Err-clause-act
returns-in-Err-clause-act g c =
    let spent = next_spent (standing c.args.self.now.supervision) _ (sym c.in-Err.ensures.act) in
    (c.in-Err.ensures.standing ∙ spent.after, adds_none _ _ _ spent.entries c.in-Err.ensures.told, refl, refl)

pub returns-in-Ok-Some-clause-tells : goal.returns-in-Ok-Some-clause-tells
returns-in-Ok-Some-clause-tells g c = ap (λ x. is_some (told x)) c.perform.ensures.supervision ∙ adds_tells _ _ _ c.in-Ok-Some.ensures.told

pub returns-in-Ok-None-clause-tells : goal.returns-in-Ok-None-clause-tells
returns-in-Ok-None-clause-tells g c = adds_tells _ _ _ c.in-Ok-None.ensures.told

pub returns-in-Err-clause-tells : goal.returns-in-Err-clause-tells
returns-in-Err-clause-tells g c = adds_tells _ _ _ c.in-Err.ensures.told
