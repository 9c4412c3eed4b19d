use Rattle.std.proofs.Common.{ap, sym, subst, ◌∙◌, ◌<◌, length, take}
use Rattle.pm_board_acts.{specs.{Board.{seat_at, seats_of}, Seating.send_to}, proofs.{Seen.as_many, Sends.{assigned, sent, seats_kept, shows_sends, told_more, told_same, told_one, not_told}, telling.tell.Goals.{then-is_told, else-is_told}}}
use Rattle.pm_board_acts.proofs.telling.tell.Goals as goal

pub seated-requires : goal.seated-requires
seated-requires g c =
    let d = c.args.roster.now.knows in let k = c.loop-slot.slot in let seats = seats_of d in
    let kept = seats_kept d c.loop-slot.roster.knows c.args.who c.args.signal d.generation (take k seats) c.loop-slot.invariant.knows in
    subst (λ xs. k < length xs) (sym kept) (subst (λ n. k < n) (c.slots-slot-end.ensures ∙ sym (as_many d)) c.loop-slot-test.true)

pub send-requires : goal.send-requires
send-requires g c =
    let d = c.args.roster.now.knows in let e = c.loop-slot.roster.knows in let k = c.loop-slot.slot in let seats = seats_of d in
    let so_far = c.loop-slot.invariant.knows in
    let near = subst (λ n. k < n) (c.slots-slot-end.ensures ∙ sym (as_many d)) c.loop-slot-test.true in
    let kept = seats_kept d e c.args.who c.args.signal d.generation (take k seats) so_far in
    let one = told_one c.args.who c.seated.result (sym c.is_told.ensures ∙ c.if-is_told.true) in
    assigned e (record { seats = seats; generation = d.generation }) k one.0
    (shows_sends d e (record { seats = seats; generation = d.generation }) c.args.who c.args.signal d.generation (take k seats) c.requires so_far) near
    (ap (seat_at k) (sym kept) ∙ (sym c.seated.ensures ∙ one.1))

pub loop-slot-preserved : goal.loop-slot-preserved
loop-slot-preserved g c =
    let inv = c.loop-slot.invariant in
    let d = c.args.roster.now.knows in let e = c.loop-slot.roster.knows in let k = c.loop-slot.slot in let seats = seats_of d in
    let who = c.args.who in let what = c.args.signal in
    let near = subst (λ n. k < n) (c.slots-slot-end.ensures ∙ sym (as_many d)) c.loop-slot-test.true in
    let kept = seats_kept d e who what d.generation (take k seats) inv.knows in
    let shows = shows_sends d e (record { seats = seats; generation = d.generation }) who what d.generation (take k seats) c.requires inv.knows in
    let here = ap (seat_at k) (sym kept) ∙ sym c.seated.ensures in
    elim c.if-is_told.branch [
      | then-is_told w ↦ (let one = told_one who c.seated.result (sym c.is_told.ensures ∙ w.if-is_told.true) in record {
        table = ap (λ r. r.table) w.roster-is ∙ (w.send.ensures.table ∙ inv.table);
        knows = told_more d e c.if-is_told.roster.knows who what d.generation k seats one.0 near inv.knows (here ∙ one.1) one.2
            (ap (λ r. r.knows) w.roster-is ∙ sent e w.send.new.roster.knows (record { seats = seats; generation = d.generation }) k one.0 what shows near (here ∙ one.1) w.send.ensures.knows);
      })
      | else-is_told w ↦ record {
        table = ap (λ r. r.table) w.roster-is ∙ inv.table;
        knows = ap (λ r. r.knows) w.roster-is ∙ told_same d e who what d.generation k seats near inv.knows
            (ap (λ seat. send_to who what d.generation k seat) here ∙ not_told who what d.generation k c.seated.result (sym c.is_told.ensures ∙ w.if-is_told.false));
      }
    ]
