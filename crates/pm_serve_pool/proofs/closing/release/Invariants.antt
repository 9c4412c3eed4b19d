use Rattle.std.proofs.Common.{◌≡◌}
use Rattle.pm_worker.specs.{pm_board.{pm_board_words.declared.views.{Offer.Offer, Sight.TheVariants.Assigned}, Places.slot_at}, declared.mail.MailTold.MailTold}
use Rattle.pm_serve_pool.proofs.Slots.{IsWatched}
use Rattle.pm_serve_pool.proofs.closing.release.Given as goal

abbrev pub invariant-loop : goal.invariant-loop
invariant-loop g l =
    record {
      table : l.roster.table ≡ l.fn.roster.table;
      watched : (o : Offer MailTold) × ((slot_at l.fn.roster.knows l.slot).sight ≡ Assigned o) × IsWatched l.slot o l.fn.roster.knows l.roster.knows;
      next : (goal.iterator-loop g).can_next l.iterator';
      ends : (goal.iterator-loop g).is_finite l.iterator';
    }
