use Rattle.std.proofs.Common.{refl, inl, inr}
use Rattle.pm_once_children.{specs.{pm_exit.declared.child.{Kind.TheVariants.Writer, Status.TheVariants.Code}, pm_segment.MovesLaws.moves_none, AuxiliaryRuns.idle_run, Auxiliaries.heard_of}, proofs.{AuxiliaryRunsLaws.{idle_comes, idle_is_run, quit_is_told}, AuxiliariesLaws.{auxiliary_less, auxiliary_is_off, auxiliary_kind, auxiliary_off, auxiliary_there, no_backend, no_session}}}
use Rattle.pm_once.specs.View.{View, view_of}
use Rattle.pm_once.proofs.server.Server.run_next.Goals as goal

pub returns-in-Some-Quit-clause-runs : goal.returns-in-Some-Quit-clause-runs
returns-in-Some-Quit-clause-runs g c =
    let v : View = view_of c.args.self.now in
    let pid = c.in-Some-Quit.pid in
    let k = c.in-Some-Quit.kind in
    let off = rw c.in-Some-Quit.field-0-is at c.in-Some-Quit.ensures.taken in
    let due = rw c.in-Some-Quit.field-0-is at c.in-Some-Quit.ensures.due in
    let there = auxiliary_there pid k _ _ v.work.standing off c.requires.2.auxiliaries in (
      idle_run pid v.store.generation k (Code 2),
      c.exit.ensures,
      record {
        ran = record {
          is_run = idle_is_run pid v.store.generation k (Code 2) (auxiliary_kind pid k _ _ off);
          there = there.0;
          generation = refl;
          off = auxiliary_is_off pid k _ _ off;
          auxiliaries = auxiliary_off pid k _ _ off;
          work = refl;
          store = moves_none v.store;
          knows = λ from known. record { counted = known.counted; come = known.come };
          told = quit_is_told (heard_of v.auxiliaries) pid v.store.generation k due (auxiliary_kind pid k _ _ off);
          less = auxiliary_less pid k _ _ off;
          sound = λ from counted. inl (λ is. absurd (no_backend k (auxiliary_kind pid k _ _ off) is));
          came = idle_comes pid v.store.generation k (Code 2) v.outcome (auxiliary_kind pid k _ _ off);
          lost = refl;
          log = refl;
          listens = refl;
        };
        alone = no_session k _ (auxiliary_kind pid k _ _ off);
      },
    )

pub returns-in-Some-Terminate-clause-runs : goal.returns-in-Some-Terminate-clause-runs
returns-in-Some-Terminate-clause-runs g c =
    let v : View = view_of c.args.self.now in
    let pid = c.in-Some-Terminate.pid in
    let off = rw c.in-Some-Terminate.field-0-is at c.in-Some-Terminate.ensures.taken in
    let due = rw c.in-Some-Terminate.field-0-is at c.in-Some-Terminate.ensures.due in
    let there = auxiliary_there pid Writer _ _ v.work.standing off c.requires.2.auxiliaries in (
      idle_run pid v.store.generation Writer (Code 0),
      c.exit-in-Some-Terminate.ensures,
      record {
        ran = record {
          is_run = idle_is_run pid v.store.generation Writer (Code 0) (inr refl);
          there = there.0;
          generation = refl;
          off = auxiliary_is_off pid Writer _ _ off;
          auxiliaries = auxiliary_off pid Writer _ _ off;
          work = refl;
          store = moves_none v.store;
          knows = λ from known. record { counted = known.counted; come = known.come };
          told = inr (due.0, due.1, refl);
          less = auxiliary_less pid Writer _ _ off;
          sound = λ from counted. inl (λ is. cc);
          came = idle_comes pid v.store.generation Writer (Code 0) v.outcome (inr refl);
          lost = refl;
          log = refl;
          listens = refl;
        };
        alone = refl;
      },
    )
