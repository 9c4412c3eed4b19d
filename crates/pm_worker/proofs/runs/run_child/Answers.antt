use Rattle.std.proofs.Common.{subst, refl}
use Rattle.pm_board.specs.Slots.{child_slots}
use Rattle.pm_worker.{specs.{Mails.mail_told, Runs.{HasBegun, close_run}}, proofs.{Exits.{closes, goes_on, serves, starts, checkpoints, writes}, Known.known_closed}}
use Rattle.pm_worker.proofs.runs.run_child.Goals as goal

pub serve_one-post-requires-clause-started : goal.serve_one-post-requires-clause-started
serve_one-post-requires-clause-started g c = subst (λ j. HasBegun c.args.pid (mail_told g.L.Link j) c.args.post) c.in-Serve.is c.requires

pub returns-in-Serve : goal.returns-in-Serve
returns-in-Serve g c =
    let r = c.serve_one-post.ensures in
    (r.0, goes_on _ _ r.1 (serves _ _))

pub returns-in-Startup : goal.returns-in-Startup
returns-in-Startup g c =
    let r = c.tend_one-post.ensures in
    (r.0, goes_on _ _ r.1 starts)

pub returns-in-Checkpointer : goal.returns-in-Checkpointer
returns-in-Checkpointer g c =
    let r = c.tend_one-post-in-Checkpointer.ensures in
    (r.0, goes_on _ _ r.1 checkpoints)

pub returns-in-Writer : goal.returns-in-Writer
returns-in-Writer g c =
    let r = c.tend_one-post-in-Writer.ensures in
    (r.0, goes_on _ _ r.1 writes)

pub returns-in-Close : goal.returns-in-Close
returns-in-Close g c =
    let begun = subst (λ j. HasBegun c.args.pid (mail_told g.L.Link j) c.args.post) c.in-Close.is c.requires in
    let tools = c.args.tools.now in
    let store = c.args.store in
    let met = g.S.Store.met store in (
      record {
        run = close_run (child_slots c.args.post.table.slots) met begun.offer;
        is = closes (g.S.Store.stamp store) tools.seed tools.conf.authentication_ms (g.C.Clock.gives tools.clock) c.args.post c.args.pid met begun;
        post = c.close_one.ensures c.args.pid met begun;
        store = g.met.S.Store.at_rest store;
        known = known_closed (g.S.Store.learned store) _ refl;
      },
      ((λ _. begun.given_is), (λ _. refl)),
    )
