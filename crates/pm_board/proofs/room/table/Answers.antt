use Rattle.std.{proofs.Common.{rules, ◌≡◌, ℕ, ◌+◌, ◌*◌, ◌<◌, [], ◌∷◌, length, arith, refl, sym, ap, ◌∙◌, subst}, specs.Prelude.None}
use Rattle.atomic_table.specs.Table.{opening}
use Rattle.pm_board_home.specs.Views.{KeptBy, no_takes}
use Rattle.pm_board_words.specs.declared.views.View.TheVariants.{Postmaster}
use Rattle.pm_board.specs.{Slots.all_slots, Told.new_roster}
use Rattle.pm_board.proofs.Steps as steps
use Rattle.pm_board.proofs.Ties as ties
use Rattle.pm_board.proofs.Homing as homing
use Rattle.pm_board.proofs.room.table.Goals as goal

pub vacant-requires : goal.vacant-requires
vacant-requires g c =
    let wide : length c.as_slice.result.now ≡ 3 * c.args.slots + 1 = search rules in
    record {
      words = ap (λ (m : ℕ). 3 * m + 1) (all_slots c.args.slots) ∙ sym wide;
      places = (refl, omega arith);
      first = steps.begins_as g.J.Letter c.args.session_limit c.args.slots c.from.result c.args.session_limit c.as_slice.result.now (search rules) (search rules) refl c.requires.slots.1 c.requires.slots.2;
      second = subst (λ (n : ℕ). KeptBy g.H.Home.rule (opening (n ∷ []) (None ∷ []) (no_takes g.H.Home.first))) (sym c.requires.home) g.met.H.Home.opens;
      tied = ties.one_seat g.H.Home _ _ (g.met.H.Home.starts.0, (λ lent. homing.hasnt _ g.met.H.Home.starts.1 lent));
    }

pub returns : goal.returns
returns g c =
    let w = c.in_ok-words.ensures in
    let same : c.from.result ≡ c.args.slots = search rules in
    let wide : length c.as_slice.result.now ≡ 3 * c.args.slots + 1 = search rules in
    ((ap (λ z. z.table) w.3, w.0 ∙ wide, w.1, ap (λ z. z.me) w.3 ∙ ap (λ (n : ℕ). (Postmaster (new_roster n c.args.session_limit 0), [])) same), ap (λ z. z.more) w.3)
