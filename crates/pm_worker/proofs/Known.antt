-- What is known of a run where its child has ended.
use Rattle.std.proofs.Common.{ℕ, ◌≡◌, ◌∙◌, Option, Some, sym, arith}
use Rattle.pm_board.specs.pm_exit.declared.child.Kind.{Kind}
use Rattle.pm_board.specs.pm_exit.declared.child.Kind.TheVariants as kinds
use Rattle.pm_aux.specs.{pm_query.{declared.store.StoreNo.{StoreNo, TheVariants.Redo}, Calls.DiskFact}, Ends.LearnsWhy}
use Rattle.pm_worker.specs.{declared.mail.{LinkTold.LinkTold}, Runs.{Run, IsKnownBy}}
use Rattle.pm_worker.specs.declared.mail.MailTold.TheVariants as mail

module _ (learned : DiskFact → Type 0) (run : Run) where
  -- an auxiliary child, by why its store refused it
  pub known_aux : (kind : Kind) (refusal : Option StoreNo) (kept : Option ℕ) → run.child.offer.kind ≡ kind → run.child.back ≡ mail.Aux refusal kept
      → (kind ≡ kinds.Startup → LearnsWhy learned refusal) → IsKnownBy run.met learned run
  known_aux kind refusal kept same back learns =
      record {
        met_by_then = omega (arith);
        reason = λ fault kept_there first told. let one : mail.Aux refusal kept ≡ mail.Aux (Some (Redo fault)) kept_there = sym back ∙ told in learns (sym same ∙ first) fault (cc);
      }

  -- one that served a connection
  pub known_served : (link : LinkTold) → run.child.back ≡ mail.Served link → IsKnownBy run.met learned run
  known_served link back =
      record {
        met_by_then = omega (arith);
        reason = λ fault kept first told. let no_ : mail.Served link ≡ mail.Aux (Some (Redo fault)) kept = sym back ∙ told in absurd (cc);
      }

  -- one that closed its worker
  pub known_closed : run.child.back ≡ mail.Close → IsKnownBy run.met learned run
  known_closed back =
      record {
        met_by_then = omega (arith);
        reason = λ fault kept first told. let no_ : mail.Close ≡ mail.Aux (Some (Redo fault)) kept = sym back ∙ told in absurd (cc);
      }
