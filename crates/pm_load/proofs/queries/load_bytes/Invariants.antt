use Rattle.std.{proofs.Common.{◌≡◌, ◌++◌, codes}, specs.List.flat_map}
use Rattle.pm_wire_front.specs.Requests.{query, start_packet}
use Rattle.pm_load.specs.Queries.{queries}
use Rattle.pm_load.proofs.queries.load_bytes.Given as goal

abbrev pub invariant-loop-i : goal.invariant-loop-i
invariant-loop-i l = l.bytes.items ≡ start_packet (codes "ann") ++ flat_map query (queries l.i)
