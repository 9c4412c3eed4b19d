use Rattle.std.proofs.Common.{sym, ap, ◌∙◌}
use Rattle.pm_board.specs.{pm_board_words.{declared.views.Work.TheVariants.Inactive, GateWords.generation_in}, Told.with_work}
use Rattle.pm_gate.proofs.Attaches as attaches
use Rattle.pm_gate.proofs.attach.Goals as goal

pub try_gate-requires : goal.try_gate-requires
try_gate-requires g c = (c.requires.0, ap (λ w. w.work) (c.mark.ensures.knows c.requires.0 c.requires.1), c.requires.2)

pub back_out-requires : goal.back_out-requires
back_out-requires g c =
    let it = attaches.refused c.args.post.now.knows _ _ c.requires.0 c.args.is_ordinary _ (c.mark.ensures.knows c.requires.0 c.requires.1) c.in-Err.ensures.met in
    (c.requires.0, generation_in it.0, ap (λ w. w.work) it.2)

pub unmark-requires : goal.unmark-requires
unmark-requires g c =
    let it = attaches.refused c.args.post.now.knows _ _ c.requires.0 c.args.is_ordinary _ (c.mark.ensures.knows c.requires.0 c.requires.1) c.in-Err.ensures.met in
    (c.requires.0, ap (λ w. w.work) (c.back_out.ensures.knows c.requires.0 (generation_in it.0) (ap (λ w. w.work) it.2)))

pub returns-in-Ok-clause-met : goal.returns-in-Ok-clause-met
returns-in-Ok-clause-met g c o does = attaches.let_in c.args.post.now.knows _ _ o c.args.is_ordinary _ (c.mark.ensures.knows o does) c.in-Ok.ensures.met

pub returns-in-Ok-clause-attached : goal.returns-in-Ok-clause-attached
returns-in-Ok-clause-attached g c =
    let it = attaches.let_in c.args.post.now.knows _ _ c.requires.0 c.args.is_ordinary _ (c.mark.ensures.knows c.requires.0 c.requires.1) c.in-Ok.ensures.met in
    (c.requires.0, ap (λ w. w.work) it.2)

pub returns-in-Err-clause-met : goal.returns-in-Err-clause-met
returns-in-Err-clause-met g c o does =
    let it = attaches.refused c.args.post.now.knows _ _ o c.args.is_ordinary _ (c.mark.ensures.knows o does) c.in-Err.ensures.met in
    let out = c.back_out.ensures.knows o (generation_in it.0) (ap (λ w. w.work) it.2) in
    (it.0, it.1, c.unmark.ensures.knows o (ap (λ w. w.work) out) ∙ ap (λ w. with_work w (Inactive o)) out ∙ ap (λ w. with_work w (Inactive o)) it.2, it.3)

pub returns-in-Err-clause-refused : goal.returns-in-Err-clause-refused
returns-in-Err-clause-refused g c =
    let o = c.requires.0 in
    let it = attaches.refused c.args.post.now.knows _ _ o c.args.is_ordinary _ (c.mark.ensures.knows o c.requires.1) c.in-Err.ensures.met in
    let out = c.back_out.ensures.knows o (generation_in it.0) (ap (λ w. w.work) it.2) in
    let end = c.unmark.ensures.knows o (ap (λ w. w.work) out) ∙ ap (λ w. with_work w (Inactive o)) out ∙ ap (λ w. with_work w (Inactive o)) it.2 in
    (ap (λ w. w.work) end ∙ sym c.requires.1, ap (λ w. w.past) end)
