use Rattle.std.proofs.Common.{◌≡◌, [], ◌∷◌, ◌++◌, cond, sym, ap, subst, ◌∙◌, arith}
use Rattle.pm_tables.{specs.{declared.held.Touched.Touched, Held.IsHeld}, proofs.Holds.{GoesOn, more_held}}
use Rattle.pm_tables.proofs.tables.Tables.hold_all.Goals as goal

pub loop-name-preserved : goal.loop-name-preserved
loop-name-preserved c =
    let one : Touched = record { name = c.in-Some.name; held = c.in_ok-held.held } in
    let items : c.push.new.self.items ≡ c.loop-name.touched.items ++ one ∷ [] =
    c.push.ensures.items
    ∙ ap (λ b. cond b (c.reserve.new.self.items ++ one ∷ []) c.reserve.new.self.items) (c.push.ensures.succeeds (omega (arith, c.in_ok-reserve.ensures.ok)))
    ∙ ap (λ ones. ones ++ one ∷ []) c.in_ok-reserve.ensures.items in
    let more = more_held c.args.self.now c.loop-name.self c.hold.new.self c.loop-name.touched.items one c.in-Some.fate c.loop-name.name-iterator c.next.new.self c.args.fates.entries c.requires.ordered c.in-Some.ensures.steps
    (subst (λ n. IsHeld c.loop-name.self n c.in-Some.fate c.hold.new.self c.in_ok-held.held) c.as_str.ensures.value c.in_ok-held.ensures.ok)
    c.loop-name.invariant.held c.loop-name.invariant.ready c.loop-name.invariant.all in
    let goes = subst (λ ones. GoesOn c.args.self.now c.hold.new.self ones c.next.new.self c.args.fates.entries) (sym items) more in record { held = goes.held; ready = goes.ready; all = goes.all }
