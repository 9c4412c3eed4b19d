use Rattle.std.proofs.Common.{◌≡◌, ◌<◌, ◌+◌, ◌++◌, ◌∷◌, [], ℕ, List, length, arith, sym, ap, ◌∙◌}
use Rattle.pm_board.specs.{Slots.child_slots, pm_board_words.declared.views.PostView.PostView, Told.{with_notes, noted_latch_look, noted_cancel}}
use Rattle.pm_latch.{specs.Cancelling.noted_looks, proofs.Looks.{next_look, none_more, one_longer}}
use Rattle.pm_latch.proofs.cancel.Goals as goal

pub returns-then-look_at_latch-pid-clause-met : goal.returns-then-look_at_latch-pid-clause-met
returns-then-look_at_latch-pid-clause-met g c =
    let inv = c.loop-slot.invariant in
    let look = c.look_at_latch.ensures.met in
    let words : List ℕ = inv.5.0 in
    let long : length words ≡ c.loop-slot.slot = inv.5.1 in
    let below : c.loop-slot.slot < c.slots-slot-end.result = c.loop-slot-test.true in
    let all : c.slots-slot-end.result ≡ child_slots c.args.post.now.table.slots = inv.3 in
    let made : ℕ → PostView g.row.J-Told.Denot → PostView g.row.J-Told.Denot = λ k w. with_notes w (noted_cancel w.notes record { slot = k; pid = c.args.pid; seed = c.args.seed.now; key = c.args.key }) in (
      inv.4,
      (
        words,
        look.0,
        omega arith,
        inv.5.2,
        sym look.1 ∙ c.if-look_at_latch-pid.true,
        c.make_cancel.ensures.knows
            ∙ ap (λ w. made c.loop-slot.slot w) (look.2 ∙ ap (λ w. with_notes w (noted_latch_look w.notes c.loop-slot.slot look.0)) inv.5.3)
            ∙ ap (λ notes. made c.loop-slot.slot (with_notes c.args.post.now.knows notes)) (next_look c.args.post.now.knows.notes words c.loop-slot.slot look.0 long)
            ∙ ap (λ k. made k (with_notes c.args.post.now.knows (noted_looks c.args.post.now.knows.notes (words ++ look.0 ∷ [])))) (sym long),
      ),
    )

pub loop-slot-preserved : goal.loop-slot-preserved
loop-slot-preserved g c =
    let inv = c.loop-slot.invariant in
    let look = c.look_at_latch.ensures.met in
    let words : List ℕ = inv.5.0 in
    let long : length words ≡ c.loop-slot.slot = inv.5.1 in
    let longer : length (words ++ look.0 ∷ []) ≡ length words + 1 = one_longer look.0 words in (
      c.look_at_latch.ensures.table ∙ inv.0,
      c.look_at_latch.ensures.slot ∙ inv.1,
      c.look_at_latch.ensures.home ∙ inv.2,
      inv.3,
      inv.4,
      (
        words ++ look.0 ∷ [],
        omega arith,
        none_more c.args.pid look.0 words inv.5.2 (λ e. c.if-look_at_latch-pid.false (look.1 ∙ e)),
        look.2
            ∙ ap (λ w. with_notes w (noted_latch_look w.notes c.loop-slot.slot look.0)) inv.5.3
            ∙ ap (λ notes. with_notes c.args.post.now.knows notes) (next_look c.args.post.now.knows.notes words c.loop-slot.slot look.0 long),
      ),
    )
