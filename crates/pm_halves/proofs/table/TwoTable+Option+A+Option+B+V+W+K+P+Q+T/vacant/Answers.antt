use Rattle.std.proofs.Common.{◌++◌, None, length, map, replicate, sym, ap, ◌∙◌, subst}
use Rattle.atomic_table.specs.Table.{opening}
use Rattle.pm_halves.specs.{declared.lot.Lot.TheVariants.{First, Second}, Halves.Halves}
use Rattle.pm_halves.proofs.Seating as laws
use Rattle.pm_halves.proofs.table.TwoTable+Option+A+Option+B+V+W+K+P+Q+T.vacant.Goals as goal

pub new-requires : goal.new-requires
new-requires g c =
    let all = c.as_slice.ensures.value ∙ (c.in_ok-extend_from_slice-2.ensures.items ∙ ap (λ l. l ++ c.args.more.now) (c.in_ok-extend_from_slice.ensures.items ∙ ap (λ l. l ++ c.args.words.now) c.in_ok-all.ensures.items)) in
    let lots = c.in_ok-lots.ensures ∙ ap (λ n. map First (replicate c.args.slots None) ++ map Second (replicate n None)) (sym c.requires.places.0) in
    subst (λ ws. Halves First Second g.T.Tie.words g.T.Tie.places (g.P.TableRule.holds c.args.about.now) (g.Q.TableRule.holds c.args.about.now) g.T.Tie.tied (opening ws c.in_ok-lots.lots.items (g.P.TableRule.first c.args.about.now, g.Q.TableRule.first c.args.about.now))) (sym all)
    (subst (λ ls. Halves First Second g.T.Tie.words g.T.Tie.places (g.P.TableRule.holds c.args.about.now) (g.Q.TableRule.holds c.args.about.now) g.T.Tie.tied (opening (c.args.words.now ++ c.args.more.now) ls (g.P.TableRule.first c.args.about.now, g.Q.TableRule.first c.args.about.now))) (sym lots)
    (laws.opens_vacant g.T.Tie.words g.T.Tie.places g.P.TableRule.holds g.Q.TableRule.holds g.T.Tie.tied c.args.about.now c.args.words.now c.args.more.now c.args.slots (g.P.TableRule.first c.args.about.now) (g.Q.TableRule.first c.args.about.now) c.requires.words c.requires.first c.requires.second c.requires.tied))

pub invariant_of-result : goal.invariant_of-result
invariant_of-result g c =
    let lots = c.in_ok-lots.ensures ∙ ap (λ n. map First (replicate c.args.slots None) ++ map Second (replicate n None)) (sym c.requires.places.0) in
    let all = c.as_slice.ensures.value ∙ (c.in_ok-extend_from_slice-2.ensures.items ∙ ap (λ l. l ++ c.args.more.now) (c.in_ok-extend_from_slice.ensures.items ∙ ap (λ l. l ++ c.args.words.now) c.in_ok-all.ensures.items)) in
    let new = laws.new_table g.T.Tie.words g.T.Tie.places c.args.about.now c.args.words.now c.args.more.now c.args.slots c.in_ok-lots.lots.items (g.P.TableRule.first c.args.about.now, g.Q.TableRule.first c.args.about.now) c.in-Ok.table.shared.table_id c.in-Ok.seat.table_id c.in-Ok.seat.id c.in-Ok.seat.me c.in-Ok.table.shared.key
    c.requires.places.1 c.requires.words c.requires.places.0 lots (c.in-Ok.ensures.ok.0 ∙ ap length all) c.in-Ok.ensures.ok.1 c.in-Ok.ensures.ok.2 c.in-Ok.ensures.ok.3 c.in-Ok.ensures.ok.4 c.in-Ok.ensures.ok.5 in
    (new.0, sym c.requires.places.0)

pub invariant_of-result-2 : goal.invariant_of-result-2
invariant_of-result-2 g c =
    let lots = c.in_ok-lots.ensures ∙ ap (λ n. map First (replicate c.args.slots None) ++ map Second (replicate n None)) (sym c.requires.places.0) in
    let all = c.as_slice.ensures.value ∙ (c.in_ok-extend_from_slice-2.ensures.items ∙ ap (λ l. l ++ c.args.more.now) (c.in_ok-extend_from_slice.ensures.items ∙ ap (λ l. l ++ c.args.words.now) c.in_ok-all.ensures.items)) in
    let new = laws.new_table g.T.Tie.words g.T.Tie.places c.args.about.now c.args.words.now c.args.more.now c.args.slots c.in_ok-lots.lots.items (g.P.TableRule.first c.args.about.now, g.Q.TableRule.first c.args.about.now) c.in-Ok.table.shared.table_id c.in-Ok.seat.table_id c.in-Ok.seat.id c.in-Ok.seat.me c.in-Ok.table.shared.key
    c.requires.places.1 c.requires.words c.requires.places.0 lots (c.in-Ok.ensures.ok.0 ∙ ap length all) c.in-Ok.ensures.ok.1 c.in-Ok.ensures.ok.2 c.in-Ok.ensures.ok.3 c.in-Ok.ensures.ok.4 c.in-Ok.ensures.ok.5 in
    new.1

pub returns : goal.returns
returns g c =
    let lots = c.in_ok-lots.ensures ∙ ap (λ n. map First (replicate c.args.slots None) ++ map Second (replicate n None)) (sym c.requires.places.0) in
    let all = c.as_slice.ensures.value ∙ (c.in_ok-extend_from_slice-2.ensures.items ∙ ap (λ l. l ++ c.args.more.now) (c.in_ok-extend_from_slice.ensures.items ∙ ap (λ l. l ++ c.args.words.now) c.in_ok-all.ensures.items)) in
    let new = laws.new_table g.T.Tie.words g.T.Tie.places c.args.about.now c.args.words.now c.args.more.now c.args.slots c.in_ok-lots.lots.items (g.P.TableRule.first c.args.about.now, g.Q.TableRule.first c.args.about.now) c.in-Ok.table.shared.table_id c.in-Ok.seat.table_id c.in-Ok.seat.id c.in-Ok.seat.me c.in-Ok.table.shared.key
    c.requires.places.1 c.requires.words c.requires.places.0 lots (c.in-Ok.ensures.ok.0 ∙ ap length all) c.in-Ok.ensures.ok.1 c.in-Ok.ensures.ok.2 c.in-Ok.ensures.ok.3 c.in-Ok.ensures.ok.4 c.in-Ok.ensures.ok.5 in
    new.2
