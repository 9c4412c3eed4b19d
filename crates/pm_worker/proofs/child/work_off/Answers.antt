use Rattle.std.proofs.Common.{◌≡◌, ◌≢◌, ◌∙◌, ◌++◌, ◌∷◌, [], true, false, ap, sym, subst}
use Rattle.pm_query.specs.pm_facts.Lists.{each_more}
use Rattle.pm_exit.specs.declared.child.Kind.{Kind}
use Rattle.pm_worker.specs.declared.mail.MailTold.TheVariants as mail
use Rattle.pm_worker.{specs.{Mails.{mail_told, IsFor}, Runs.{Run, IsRun, noted_by, HasRunOne}}, proofs.Loops.{nothing, ran, Looked}}
use Rattle.pm_worker.proofs.child.work_off.Goals as goal

pub loop-init : goal.loop-init
loop-init g c =
    let tools = c.args.tools.now in
    record {
      worked =
          record {
            runs = [];
            worked =
                nothing g.S.Store.notes g.S.Store.met g.S.Store.learned (g.S.Store.stamp c.args.store) tools.seed tools.conf.authentication_ms (g.C.Clock.gives tools.clock) c.args.post c.args.store c.requires
                (g.met.S.Store.at_rest c.args.store);
            none = tt;
          };
      next = tt;
      ends = tt;
    }

pub run_child-next-requires : goal.run_child-next-requires
run_child-next-requires g c =
    let met = c.in-Job.ensures.met in
    record {
      offer = met.1.0;
      runs = ap (λ v. v.work) met.1.5;
      pid_is = met.1.2;
      given_is = met.1.4;
      fits = subst (λ (k : Kind). IsFor (mail_told g.L.Link c.in-Job.job) k) (sym met.1.3) met.1.6;
      untold = ap (λ v. v.notes.now) met.1.5;
    }

pub returns-then-closed : goal.returns-then-closed
returns-then-closed g c =
    let w = c.loop.invariant.worked in
    let met = c.in-Job.ensures.met in
    let r = c.run_child-next.ensures in
    let tools = c.args.tools.now in
    let gives = g.C.Clock.gives tools.clock in
    let limit = tools.conf.authentication_ms in
    let run = r.0.run in
    let one : HasRunOne g.S.Store.notes g.S.Store.met g.S.Store.learned (g.S.Store.stamp c.args.store) tools.seed limit gives c.start.new.self c.run_child-next.result.0 c.loop.store
    c.run_child-next.result.1 =
    record {
      run = run;
      is = subst (λ stamp. IsRun stamp tools.seed limit gives run) (g.met.S.Store.stays c.args.store c.loop.store (noted_by w.runs) w.worked.store) r.0.is;
      post = r.0.post;
      store = r.0.store;
      known = r.0.known;
    } in
    let looked_ : Looked c.loop.post c.start.new.self =
    record {
      table = c.in-Job.ensures.table;
      slot = c.in-Job.ensures.slot;
      past = ap (λ v. v.past) met.1.5;
      heard = ap (λ v. v.notes.heard) met.1.5;
      looks = ap (λ v. v.notes.looked) met.1.5;
      cancels = ap (λ v. v.notes.cancels) met.1.5;
    } in
    record {
      front = w.runs;
      last = run;
      worked =
          ran g.S.Store.notes g.S.Store.met g.S.Store.learned (g.S.Store.stamp c.args.store) tools.seed limit gives g.met.S.Store.in_turn g.met.S.Store.rises g.met.S.Store.keeps w.runs
          c.args.post c.loop.post c.start.new.self c.run_child-next.result.0 c.args.store c.loop.store c.run_child-next.result.1 w.worked looked_ one;
      earlier = w.none;
      closes = r.1.0 c.if-closed.true;
    }

pub loop-preserved : goal.loop-preserved
loop-preserved g c =
    let w = c.loop.invariant.worked in
    let met = c.in-Job.ensures.met in
    let r = c.run_child-next.ensures in
    let tools = c.args.tools.now in
    let gives = g.C.Clock.gives tools.clock in
    let limit = tools.conf.authentication_ms in
    let run = r.0.run in
    let one : HasRunOne g.S.Store.notes g.S.Store.met g.S.Store.learned (g.S.Store.stamp c.args.store) tools.seed limit gives c.start.new.self c.run_child-next.result.0 c.loop.store
    c.run_child-next.result.1 =
    record {
      run = run;
      is = subst (λ stamp. IsRun stamp tools.seed limit gives run) (g.met.S.Store.stays c.args.store c.loop.store (noted_by w.runs) w.worked.store) r.0.is;
      post = r.0.post;
      store = r.0.store;
      known = r.0.known;
    } in
    let looked_ : Looked c.loop.post c.start.new.self =
    record {
      table = c.in-Job.ensures.table;
      slot = c.in-Job.ensures.slot;
      past = ap (λ v. v.past) met.1.5;
      heard = ap (λ v. v.notes.heard) met.1.5;
      looks = ap (λ v. v.notes.looked) met.1.5;
      cancels = ap (λ v. v.notes.cancels) met.1.5;
    } in
    let goes_on : run.child.offer.given ≢ mail.Close = (λ e. let no_ : false ≡ true = sym c.if-closed.false ∙ r.1.1 e in absurd (cc)) in
    record {
      worked =
          record {
            runs = w.runs ++ run ∷ [];
            worked =
                ran g.S.Store.notes g.S.Store.met g.S.Store.learned (g.S.Store.stamp c.args.store) tools.seed limit gives g.met.S.Store.in_turn g.met.S.Store.rises g.met.S.Store.keeps
                w.runs c.args.post c.loop.post c.start.new.self c.run_child-next.result.0 c.args.store c.loop.store c.run_child-next.result.1 w.worked looked_ one;
            none = each_more (λ (it : Run). it.child.offer.given ≢ mail.Close) w.runs run w.none goes_on;
          };
      next = tt;
      ends = tt;
    }
