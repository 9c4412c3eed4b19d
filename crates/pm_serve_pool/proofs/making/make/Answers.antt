use Rattle.std.{proofs.{Common.{◌≡◌, ap, inr, subst, sym}, lemmas.Result.IfErr-weaker}, specs.Prelude.Some}
use Rattle.atomic_table.specs.Seated.{TableId}
use Rattle.pm_serve_pool.specs.{Given.{IsGivenBack, IsOpenedAlone}, Works.{EachFrom, IsWorkOf}}
use Rattle.pm_serve_pool.proofs.making.make.Goals as goal

pub start-requires-clause-works : goal.start-requires-clause-works
start-requires-clause-works g c κs within =
    subst
    (λ (board : TableId).
    EachFrom (IsWorkOf g.C.Clock.gives (record { plan = c.args.plan.now; clock = c.of.result }) board c.in-Ok-new.shared.table c.in-Ok-new.shared.first) 0 c.fill-roster.result.1.items)
    (sym (ap (λ roster. roster.table) c.fill-roster.ensures.roster)) c.fill-roster.ensures.works

pub returns-in-Ok-new-clause-parts : goal.returns-in-Ok-new-clause-parts
returns-in-Ok-new-clause-parts g c =
    IfErr-weaker c.start.result (λ back. (first : _) → c.in-Ok-new.shared.first ≡ Some first → IsOpenedAlone g.D.Disk g.B.Chronicle first back.disk back.book)
    (λ back. IsGivenBack g.D.Disk g.B.Chronicle c.args.disk c.args.book back.disk back.book) (λ back parts. inr (parts c.args.disk c.in-Ok-new.ensures.shared.first_is)) c.start.ensures.parts
