use Rattle.std.proofs.lemmas.Result.{err_from_is_err_and}
use Rattle.pm_record.{specs.File.{told, room_in, batch_step}, proofs.Gates.{gate_end, gate_shut, gate_fails, gate_on}}
use Rattle.pm_record.proofs.batch.batches_into.Goals as goal

pub returns-in_err-gate : goal.returns-in_err-gate
returns-in_err-gate c =
    let so = c.gates.invariant.1 in
    let p = err_from_is_err_and c.from_residual.result c.from_residual.ensures.1 in
    rw (p.1, p.2) (gate_end batch_step room_in so.0 (told c.gates.progress) c.gates.rest.now _ so.1 so.2 c.in_err-gate.field-0.0 c.in_err-gate.ensures)

pub returns-then-gate-eq0 : goal.returns-then-gate-eq0
returns-then-gate-eq0 c =
    let so = c.gates.invariant.1 in
    gate_shut batch_step room_in so.0 (told c.gates.progress) c.gates.rest.now _ so.1 so.2 c.in_ok-gate.gate c.in_ok-gate.behind.now c.if-gate-eq0.true c.in_ok-gate.ensures

pub returns-in_err-next : goal.returns-in_err-next
returns-in_err-next c =
    let so = c.gates.invariant.1 in
    let p = err_from_is_err_and c.from_residual-in_err-next.result c.from_residual-in_err-next.ensures.1 in
    rw (p.1, p.2) (gate_fails batch_step room_in so.0 (told c.gates.progress) c.gates.rest.now _ so.1 so.2 c.in_ok-gate.gate c.in_ok-gate.behind.now c.if-gate-eq0.false c.in_ok-gate.ensures c.in_err-next.field-0.0 c.in_err-next.ensures.read)

pub gates-preserved : goal.gates-preserved
gates-preserved c =
    let so = c.gates.invariant.1 in (
      c.in_ok-next.ensures.rises.1,
      gate_on batch_step room_in so.0 (told c.gates.progress) c.gates.rest.now _ so.1 so.2 c.in_ok-gate.gate c.in_ok-gate.behind.now c.if-gate-eq0.false c.in_ok-gate.ensures (told c.in_ok-next.next) c.in_ok-next.after.now c.in_ok-next.ensures.read c.in_ok-next.ensures.rises.0,
    )
