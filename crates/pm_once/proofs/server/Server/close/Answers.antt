use Rattle.std.proofs.Common.{Some, inl, inr, refl}
use Rattle.pm_once_children.{specs.{AuxiliaryRuns.checkpointer_run, declared.outcome.Outcome.TheVariants.Closed}, proofs.{AuxiliaryRunsLaws.checkpointer_is_run, CalmLaws.still_less}}
use Rattle.pm_once.{specs.View.{View, view_of}, proofs.Knowing.known_closed}
use Rattle.pm_once.proofs.server.Server.close.Goals as goal

pub returns-clause-run : goal.returns-clause-run
returns-clause-run g c =
    let n = c.write_last-closed.ensures.notes in
    let home = (view_of c.args.self.now).store.generation in
    let closed = c.write_last-closed in
    let v : View = view_of c.args.self.now in
    let now : View = view_of (record c.args.self.now { store = closed.new.store; outcome = Some (Closed closed.result) }) in (
      checkpointer_run c.args.pid home c.write_last-closed.result n.0,
      rw (c.status.ensures, c.is_crashed.ensures) refl,
      record {
        ran = record {
          is_run = checkpointer_is_run c.args.pid home c.write_last-closed.result n.0 n.1;
          there = c.requires.there;
          generation = refl;
          off = c.requires.off;
          auxiliaries = λ s there. there;
          work = refl;
          store = n.2;
          knows = λ from known. known_closed from c.args.pid home closed.result n.0 v now refl n.1 n.2 closed.ensures.clean closed.ensures.full known;
          told = inr (c.requires.calm, c.requires.asked, closed.result, n.1, refl);
          less = still_less c.args.self.now.auxiliaries;
          sound = λ from counted. inl (λ is. cc);
          came = tt;
          lost = refl;
          log = refl;
          listens = refl;
        };
        alone = refl;
      },
    )
