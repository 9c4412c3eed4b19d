-- The run of a child that a slot has had.
use Rattle.std.{proofs.Common.{◌≡◌, ℕ, zero, suc, ◌<◌, List, [], ◌∷◌, length, map, refl, subst, arith}, specs.{Prelude.slice_index_or, List.Contains}}
use Rattle.pm_server.specs.declared.{conf.Conf.Conf, end.ServerEnd.ServerEnd}
use Rattle.pm_postmaster.specs.{pm_board.{pm_board_words.declared.views.{PastChild.PastChild, RosterView.RosterView, Sight.TheVariants.Unused, SlotView.SlotView}, Places.{slot_at, slot_view}}, pm_worker.{declared.mail.MailTold.MailTold, Runs.Run}, Outside.ServeView, Served.{IsServed, manner_by, slots_by}}
use Rattle.pm_serve_first_crash.proofs.pm_serve_crew.EntriesLaws.{worked}

-- a slot that has had a child is one of the board's
near_by : (slots : List (SlotView MailTold)) (k : ℕ) (child : PastChild MailTold) → Contains (slice_index_or slots k (slot_view [] Unused)).past child → k < length slots
near_by [] k child there = (let never : there.0 < 0 = there.1 in absurd (omega arith))
near_by (x ∷ slots) zero child there = omega arith
near_by (x ∷ slots) (suc k) child there = (let near : k < length slots = near_by slots k child there in omega arith)

-- one of these runs is that of the child
pub record RunOfChild (runs : List Run) (child : PastChild MailTold) : Type 0 where
  pub run : Run
  pub there : Contains runs run
  pub same : run.child ≡ child

run_at : (runs : List Run) (child : PastChild MailTold) (n : ℕ) → n < length (map (λ (r : Run). r.child) runs) → slice_index_or (map (λ (r : Run). r.child) runs) n child ≡ child → RunOfChild runs child
run_at [] child n less is = (let never : n < 0 = less in absurd (omega arith))
run_at (first ∷ runs) child zero less is =
    record { run = first; there = (0, (let near : 0 < length (first ∷ runs) = omega arith in near), refl); same = is }
run_at (first ∷ runs) child (suc n) less is =
    let low : suc n < suc (length (map (λ (r : Run). r.child) runs)) = less in
    let rest : RunOfChild runs child = run_at runs child n (omega arith) is in
    record { run = rest.run; there = (suc rest.there.0, (let near : rest.there.0 < length runs = rest.there.1 in omega arith), rest.there.2); same = rest.same }

module _ (conf : Conf) (end : ServerEnd) (board : RosterView MailTold) (before now : ServeView) (run : IsServed conf end board before now) (k : ℕ) (child : PastChild MailTold) (there : Contains (slot_at board k).past child) where
  pub is_near : k < slots_by conf.limits
  is_near = subst (λ (count : ℕ). k < count) run.left.slots (near_by board.slots k child there)

  pub run_of_child : RunOfChild (run.left.runs k) child
  run_of_child =
      let among : Contains (map (λ (r : Run). r.child) (run.left.runs k)) child =
      subst (λ (past : List (PastChild MailTold)). Contains past child) (worked (manner_by conf before) (slots_by conf.limits) board run.own run.book run.left run.once k is_near).children there in
      run_at (run.left.runs k) child among.0 among.1 among.2
