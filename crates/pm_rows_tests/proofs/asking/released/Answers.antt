use Rattle.std.proofs.Common.{Ok, Err, inr, refl, ap}
use Rattle.pm_query.{specs.declared.store.Seen.TheVariants.{Released, NotFlushed}, proofs.NotedLaws.same_user_at}
use Rattle.pm_rows_tests.proofs.Askings.{answered_then}
use Rattle.pm_rows_tests.proofs.asking.released.Goals as goal

pub returns-in-Released-clause-notes : goal.returns-in-Released-clause-notes
returns-in-Released-clause-notes g c =
    let staged = c.in_ok-reply.field-0 in
    let user = same_user_at staged.front _ _ (g.S.Store.view c.args.pass.now) _ (g.met.S.Store.stays _ _ _ c.in_ok-reply.ensures.notes.1) c.in_ok-reply.ensures.view in
    let both = answered_then g.S.Store.notes _ _ _ staged (Ok c.in-Ok.seen) (Ok Released) _ _ _ g.met.S.Store.in_turn user (ap Ok c.in-Released.is) c.in_ok-reply.ensures.notes c.in-Ok.ensures.notes in
    (both.0, both.1, (staged, refl, both.2))

pub returns-in-NotFlushed-clause-notes : goal.returns-in-NotFlushed-clause-notes
returns-in-NotFlushed-clause-notes g c =
    let staged = c.in_ok-reply.field-0 in
    let user = same_user_at staged.front _ _ (g.S.Store.view c.args.pass.now) _ (g.met.S.Store.stays _ _ _ c.in_ok-reply.ensures.notes.1) c.in_ok-reply.ensures.view in
    let both = answered_then g.S.Store.notes _ _ _ staged (Ok c.in-Ok.seen) (Ok (NotFlushed c.in-NotFlushed.flushed)) _ _ _ g.met.S.Store.in_turn user (ap Ok c.in-NotFlushed.is) c.in_ok-reply.ensures.notes c.in-Ok.ensures.notes in
    (both.0, both.1, (staged, c.in-NotFlushed.flushed, both.2))

pub returns-in-Err-clause-notes : goal.returns-in-Err-clause-notes
returns-in-Err-clause-notes g c =
    let staged = c.in_ok-reply.field-0 in
    let user = same_user_at staged.front _ _ (g.S.Store.view c.args.pass.now) _ (g.met.S.Store.stays _ _ _ c.in_ok-reply.ensures.notes.1) c.in_ok-reply.ensures.view in
    let both = answered_then g.S.Store.notes _ _ _ staged (Err c.in-Err.refusal) (Err c.in-Err.refusal) _ _ _ g.met.S.Store.in_turn user refl c.in_ok-reply.ensures.notes c.in-Err.ensures.notes in
    (both.0, both.1, inr (staged, both.2))
