use Rattle.std.proofs.Common.{◌≡◌, Some, refl, sym, subst, rules}
use Rattle.pm_segment.specs.{pm_query.Calls.user_of, Moment.moment, Passes.view_of}
use Rattle.pm_once_children.specs.{declared.alone.Work.{Work, TheVariants.{ToRead, Redone}}, Alone.Does, AloneLaws.reads_log}
use Rattle.pm_once_children.proofs.alone.AloneStore.redo.Goals as goal

pub returns-clause-notes : goal.returns-clause-notes
returns-clause-notes g c =
    let notes = c.redo-redone.ensures.notes in
    let before = moment c.args.self.now.store.now in
    let now = moment c.redo-redone.new.self in
    let is : c.args.self.now.work ≡ ToRead = search rules in
    let who = user_of (Some (moment c.args.self.now.store.now).generation) (view_of c.args.pass.now) in
    let read = reads_log who c.redo-redone.result notes.0 before now notes.1 notes.2 c.redo-redone.ensures.reason c.redo-redone.ensures.kept c.redo-redone.ensures.unread in
    (notes.0, (refl, subst (λ (work : Work). Does notes.0 work (Redone c.redo-redone.result) before now) (sym is) read), notes.2)
