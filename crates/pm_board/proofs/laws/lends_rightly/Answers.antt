use Rattle.pm_board.proofs.Ties.{lends_in_hand, lends_at_home}
use Rattle.pm_board.proofs.laws.lends_rightly.Goals as goal

pub returns : goal.returns
returns g c = record {
  in_hand = lends_in_hand g.J.Letter g.H.Home g.met.H.Home.alone;
  at_home = lends_at_home g.H.Home g.met.H.Home.at_home;
}
