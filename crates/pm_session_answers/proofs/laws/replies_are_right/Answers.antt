use Rattle.std.proofs.Common.{List, sym, subst}
use Rattle.pm_query.specs.declared.book.BookEntry.{BookEntry}
use Rattle.pm_session_answers.{specs.Own.StandIn, proofs.Replying.text_right}
use Rattle.pm_session_answers.proofs.laws.replies_are_right.Goals as goal

pub returns : goal.returns
returns c = λ base front part talk user turns noted legal stand whose session.
    text_right c.acknowledged_stays.ensures c.acked_never_falls.ensures c.acked_is_within.ensures base front part talk
    user turns session.came_in session.whole _ session.noted whose legal
    (subst (λ (e : List BookEntry). StandIn talk.pid e part) (sym session.entries) stand) session.passed session.text
