use Rattle.std.proofs.Common.{◌≡◌, ℕ, Some, refl, ap, subst, sym, ◌∙◌}
use Rattle.pm_keys.specs.CancelKey.{cancel_key}
use Rattle.pm_exit.specs.declared.child.Status.{Status}
use Rattle.pm_once_lives.{specs.{pm_child_life.Life.{Child, Told}, Quiet.{quiet_child, quiet_told}}, proofs.QuietLaws.its_answer}
use Rattle.pm_segment.specs.Moment.{moment}
use Rattle.pm_session.specs.{pm_session_exchange.Exchange.link_view, Session.{HasAskedFor, HeedsTold}}
use Rattle.pm_once.proofs.Sessions.{served_alone}
use Rattle.pm_once.proofs.session.serve_at_home.Goals as goal

pub returns : goal.returns
returns g c =
    let s = c.serve-status.ensures.session in
    let life = c.serve-status.result.work.life in
    let home = (moment c.args.store).generation in
    let pid_is : c.new-life.result.pid ≡ c.args.pid = ap (λ (child : Child). child.pid) c.new-life.ensures.child in
    let given = link_view (g.L.Link.traffic c.args.link) (g.L.Link.number c.args.link) (g.L.Link.faults c.args.link) in
    let back = link_view (g.L.Link.traffic c.serve-status.result.link) (g.L.Link.number c.serve-status.result.link) (g.L.Link.faults c.serve-status.result.link) in
    let one = served_alone _ _ _ life.came_as_ordinary (quiet_told life) home c.args.pid s.2 (cancel_key c.args.seed.now c.args.pid) c.args.conf.now.authentication_ms (g.C.Clock.gives c.args.means.now.clock.now) s.0 s.1 given back (subst (λ (t : Told). HasAskedFor s.1 (Some t) (Some (quiet_told life))) c.new-life.ensures.told s.6) (subst (λ (x : Status). HeedsTold x (quiet_told life)) s.3 c.serve-status.ensures.heeds) (quiet_child life) s.7 s.8 refl (ap (λ (n : ℕ). its_answer n life.came_as_ordinary) (life.at_home ∙ sym c.requires.home))
    c.requires.fresh c.serve-status.ensures.number c.serve-status.ensures.link_faults (rw (pid_is, c.key-key.ensures) at s.4) s.5 s.10 in
    record { session = (record { pid = c.args.pid; generation = home; given = given; back = back; turns = s.1; ending = s.0; noted = one.0 }, refl, refl, refl, refl, s.3, one.2, one.1) }
