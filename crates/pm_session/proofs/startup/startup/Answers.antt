use Rattle.std.proofs.{Common.{inl, false, [], Ok, refl, sym, subst}, lemmas.Result.err_from_is_err_and}
use Rattle.pm_startup.specs.Grammar.{IsUndecided}
use Rattle.pm_child_life.proofs.AttentionLaws.{cancels_none}
use Rattle.pm_session.{specs.Session.first_phase, proofs.{Attentions.cancels_still, Links.sent_all, Entries.{asked_none, asked_looked, asked_more, enters_by, enters_broken, enters_cut, enters_late, no_packet_yet, read_looked, read_packet}}}
use Rattle.pm_session_exchange.proofs.MomentLaws.{attends_none, attends_cancel}
use Rattle.pm_session.proofs.startup.startup.Goals as goal

pub returns-in_err-came : goal.returns-in_err-came
returns-in_err-came g c =
    let p = err_from_is_err_and c.from_residual.result c.from_residual.ensures.1 in
    record {
      enters = rw (p.1, p.2) (enters_broken _ _ first_phase c.in_err-came.field-0.0 _ _ _ _ _ _ _ _ _ (asked_none _ c.args.inbox.now _) (subst IsUndecided (sym c.requires.empty) no_packet_yet) c.in_err-came.ensures.came c.look.ensures.hears
          c.in_err-came.ensures.cause c.in_err-came.ensures.holds);
      rests = c.look.ensures.rests;
    }

pub loop-init : goal.loop-init
loop-init g c = record {
  asked = asked_looked c.in_ok-came.came first_phase _ _ _ _ _ _ _ _ _ (asked_none _ c.args.inbox.now _) c.in_ok-came.ensures.came c.look.ensures.hears c.in_ok-came.ensures.holds;
  read = read_looked c.in_ok-came.came _ _ _ _ c.in_ok-came.ensures.came;
  rests = c.look.ensures.rests;
}

pub returns-then-has_passed : goal.returns-then-has_passed
returns-then-has_passed g c =
    let nothing = rw c.unread.ensures at c.in-Nothing.ensures in
    record { enters = enters_late _ _ c.loop.phase _ _ _ _ _ _ c.loop.invariant.asked nothing.0 c.loop.invariant.read (c.has_passed.ensures c.if-has_passed.true); rests = c.loop.invariant.rests }

pub loop-preserved-in-Nothing : goal.loop-preserved-in-Nothing
loop-preserved-in-Nothing g c = record {
  asked = asked_looked c.in_ok-came-in-Nothing.came c.loop.phase _ _ _ _ _ _ _ _ _ c.loop.invariant.asked c.in_ok-came-in-Nothing.ensures.came c.look-in-Nothing.ensures.hears c.in_ok-came-in-Nothing.ensures.holds;
  read = read_looked c.in_ok-came-in-Nothing.came _ _ _ _ c.in_ok-came-in-Nothing.ensures.came;
  rests = g.met.W.Life.rests_on _ _ _ c.loop.invariant.rests c.look-in-Nothing.ensures.rests;
}

pub returns-in_err-came-in-Nothing : goal.returns-in_err-came-in-Nothing
returns-in_err-came-in-Nothing g c =
    let p = err_from_is_err_and c.from_residual-in_err-came-in-Nothing.result c.from_residual-in_err-came-in-Nothing.ensures.1 in
    let nothing = rw c.unread.ensures at c.in-Nothing.ensures in
    record {
      enters = rw (p.1, p.2) (enters_broken _ _ c.loop.phase c.in_err-came-in-Nothing.field-0.0 _ _ _ _ _ _ _ _ _ c.loop.invariant.asked nothing.0 c.in_err-came-in-Nothing.ensures.came c.look-in-Nothing.ensures.hears
          c.in_err-came-in-Nothing.ensures.cause c.in_err-came-in-Nothing.ensures.holds);
      rests = g.met.W.Life.rests_on _ _ _ c.loop.invariant.rests c.look-in-Nothing.ensures.rests;
    }

pub loop-preserved : goal.loop-preserved
loop-preserved g c =
    let asks = rw c.unread.ensures at c.in-Encryption.ensures in
    let sent = sent_all c.in_ok-send-in-Encryption.field-0 _ _ _ c.in_ok-send-in-Encryption.ensures.sends in
    record {
      asked = asked_more c.loop.phase c.in-Encryption.behind asks.0 c.in-Encryption.used _ _ _ _ _ _ _ _ _ c.loop.invariant.asked asks.1 asks.2 c.pass.ensures sent c.send.ensures.hears (c.in_ok-send-in-Encryption.ensures.holds false);
      read = read_packet c.loop.phase c.in-Encryption.used asks.0 _ _ _ _ _ _ _ c.requires.empty asks.1 c.loop.invariant.asked sent;
      rests = g.met.W.Life.rests_on _ _ _ c.loop.invariant.rests c.send.ensures.rests;
    }

pub returns-in_err-send-in-Encryption : goal.returns-in_err-send-in-Encryption
returns-in_err-send-in-Encryption g c =
    let p = err_from_is_err_and c.from_residual-in_err-send-in-Encryption.result c.from_residual-in_err-send-in-Encryption.ensures.1 in
    let asks = rw c.unread.ensures at c.in-Encryption.ensures in
    record {
      enters = rw (p.1, p.2) (enters_cut _ _ c.loop.phase c.in-Encryption.behind asks.0 c.in_err-send-in-Encryption.field-0.0 c.in-Encryption.used _ _ _ _ _ _ _ _ _ c.loop.invariant.asked asks.1 asks.2 c.pass.ensures c.in_err-send-in-Encryption.ensures.sends c.send.ensures.hears
          c.in_err-send-in-Encryption.ensures.cause (c.in_err-send-in-Encryption.ensures.holds false));
      rests = g.met.W.Life.rests_on _ _ _ c.loop.invariant.rests c.send.ensures.rests;
    }

pub cancel-requires : goal.cancel-requires
cancel-requires g c = cancels_still 0 [] _ _ c.loop.invariant.asked.hears.asked c.loop.invariant.asked.hears.cancels c.requires.none

pub returns-in-Start : goal.returns-in-Start
returns-in-Start g c =
    let front = rw c.unread.ensures at c.in-Start.ensures in
    record { enters = rw c.pass-in-Start.ensures (enters_by _ _ (Ok c.in-Start.is_ordinary) c.loop.phase c.in-Start.used _ _ _ _ _ _ _ _ c.loop.invariant.asked ((front.0, front.1.decides, front.2), refl, refl) (attends_none _) (cancels_none _)); rests = c.loop.invariant.rests }

pub returns-in-Cancel : goal.returns-in-Cancel
returns-in-Cancel g c =
    let front = rw c.unread.ensures at c.in-Cancel.ensures in
    record {
      enters = rw c.cancel.ensures.link (enters_by _ _ _ c.loop.phase front.0 _ _ _ _ _ _ _ _ c.loop.invariant.asked ((c.in-Cancel.pid, c.in-Cancel.key, front.1.decides), tt, inl refl, tt)
          (attends_cancel c.in-Cancel.pid c.in-Cancel.key _ _ c.cancel.ensures.told c.cancel.ensures.child c.cancel.ensures.standing) (c.in-Cancel.pid, c.in-Cancel.key, front.1.decides, c.cancel.ensures.told));
      rests = g.met.W.Life.rests_on _ _ _ c.loop.invariant.rests c.cancel.ensures.rests;
    }

pub returns-in-Refused : goal.returns-in-Refused
returns-in-Refused g c =
    let front = rw c.unread.ensures at c.in-Refused.ensures in
    record { enters = enters_by _ _ _ c.loop.phase front.0 _ _ _ _ _ _ _ _ c.loop.invariant.asked (front.2, tt, inl refl, tt) (attends_none _) (cancels_none _); rests = c.loop.invariant.rests }
