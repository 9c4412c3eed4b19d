use Rattle.std.proofs.Common.{◌∙◌, ap, sym, subst}
use Rattle.pm_worker.specs.{pm_board.pm_board_words.declared.views.Offer.Offer, declared.mail.MailTold.MailTold, Mails.mail_told}
use Rattle.pm_serve_pool.{specs.Closing.IsReleased, proofs.Slots.{released_at_last, same_offer}}
use Rattle.pm_serve_pool.proofs.closing.release.Goals as goal

pub returns-in-Exited-clause-released : goal.returns-in-Exited-clause-released
returns-in-Exited-clause-released g c o sits =
    let w = c.loop.invariant.watched in
    let met = c.in-Exited.ensures.met w.0 w.2.sight in
    let rel = c.release.ensures.slot w.0 c.in-Exited.status c.in-Exited.active (ap (λ x. x.sight) met.1.1.here) in
    let same = same_offer w.0 o (sym w.1 ∙ sits) in
    subst (λ (p : Offer MailTold). IsReleased c.args.slot p c.args.roster.now.knows c.release.new.self.knows) same
    (released_at_last c.args.slot w.0 c.args.roster.now.knows c.loop.roster.knows c.look.new.self.knows c.release.new.self.knows met.0 c.in-Exited.status c.in-Exited.active (mail_told g.L.Link c.release.result.job) w.2 met.1.1 rel.4)
