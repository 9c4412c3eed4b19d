use Rattle.std.proofs.Common.{◌≡◌, ◌≤◌, ◌+◌, ◌*◌, ◌∷◌, map, take, length}
use Rattle.pm_wire.specs.Backend.{Auth, Param}
use Rattle.pm_session_exchange.specs.{Sent.bytes_of, Room.buffer_bytes}
use Rattle.pm_session.proofs.session.put_greeting.Given as goal

abbrev pub invariant-loop-name : goal.invariant-loop-name
invariant-loop-name l = record {
  bytes : l.outbox.bytes ≡ bytes_of (Auth ∷ map (λ setting. Param setting.0.now setting.1.now) (take l.name-index l.name-items));
  short : length l.outbox.bytes ≤ 9 + 100 * l.name-index;
  room : buffer_bytes ≤ l.outbox.capacity;
}
