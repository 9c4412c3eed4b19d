use Rattle.std.proofs.Common.{Ok, Err, None, ◌∙◌, ap, inl, refl}
use Rattle.pm_once_children.{specs.AuxiliaryRuns.startup_run, proofs.{AuxiliaryRunsLaws.{refused_comes, startup_is_run}, CalmLaws.still_less}}
use Rattle.pm_once.{specs.View.{View, view_of}, proofs.Knowing.{known_moved, known_refused}}
use Rattle.pm_once.proofs.server.Server.read.Goals as goal

pub returns-in-Ok : goal.returns-in-Ok
returns-in-Ok g c =
    let n = c.in-Ok.ensures.notes in
    let home = (view_of c.args.self.now).store.generation in
    let v : View = view_of c.args.self.now in
    let now : View = view_of (record c.args.self.now { store = c.read_log.new.store; outcome = None }) in (
      startup_run c.args.pid home (Ok c.in-Ok.kept) n.0,
      c.exit.ensures,
      record {
        ran = record {
          is_run = startup_is_run c.args.pid home (Ok c.in-Ok.kept) n.0 n.1;
          there = c.requires.there;
          generation = refl;
          off = c.requires.off;
          auxiliaries = λ s there. there;
          work = refl;
          store = n.2;
          knows = λ from known. known_moved from n.0 v now refl n.2 known;
          told = (Ok c.in-Ok.kept, n.1, refl);
          less = still_less c.args.self.now.auxiliaries;
          sound = λ from counted. inl (λ is. cc);
          came = tt;
          lost = refl;
          log = refl;
          listens = refl;
        };
        alone = refl;
      },
    )

pub returns-in-Err : goal.returns-in-Err
returns-in-Err g c =
    let n = c.in-Err.ensures.notes in
    let home = (view_of c.args.self.now).store.generation in
    let v : View = view_of c.args.self.now in
    let now : View = view_of (record c.args.self.now { store = c.read_log.new.store; outcome = c.refused-self.result }) in (
      startup_run c.args.pid home (Err c.in-Err.why) n.0,
      c.exit-in-Err.ensures,
      record {
        ran = record {
          is_run = startup_is_run c.args.pid home (Err c.in-Err.why) n.0 n.1;
          there = c.requires.there;
          generation = refl;
          off = c.requires.off;
          auxiliaries = λ s there. there;
          work = refl;
          store = n.2;
          knows = λ from known. known_refused from c.args.pid home c.in-Err.why n.0 v now c.refused-self.ensures n.1 n.2 (λ fault is. c.read_log.ensures.reason fault (c.in-Err.is ∙ ap (λ w. Err w) is)) (λ fault is. c.read_log.ensures.unread fault (c.in-Err.is ∙ ap (λ w. Err w) is)) (λ fault is. c.read_log.ensures.shut fault (c.in-Err.is ∙ ap (λ w. Err w) is)) known;
          told = (Err c.in-Err.why, n.1, refl);
          less = still_less c.args.self.now.auxiliaries;
          sound = λ from counted. inl (λ is. cc);
          came = refused_comes c.args.pid home c.in-Err.why n.0 v.outcome now.outcome c.refused-self.ensures n.1;
          lost = refl;
          log = refl;
          listens = refl;
        };
        alone = refl;
      },
    )
