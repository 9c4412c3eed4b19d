use Rattle.std.proofs.Common.{◌≡◌, ◌<◌, ◌++◌, List, ℕ, codes, length, OnOk, OnErr, decimal, subst}
use Rattle.pm_wire.{specs.{Pieces.message, Outgoing.room}, proofs.Joined.type_fields}
use Rattle.pm_wire.proofs.writing.push_unknown_type.Goals as goal

pub returns-clause-ok : goal.returns-clause-ok
returns-clause-ok c =
    let P : List ℕ → Type 0 = λ fields. OnOk c.push_spelled.result (c.push_spelled.new.out.bytes ≡ c.args.out.now.bytes ++ message (codes "E") fields) in
    subst P (type_fields (decimal c.args.kind) c.format.result.now c.format.ensures.text) c.push_spelled.ensures.ok

pub returns-clause-full : goal.returns-clause-full
returns-clause-full c =
    let P : List ℕ → Type 0 = λ fields. OnErr c.push_spelled.result (room c.args.out.now < length (message (codes "E") fields)) in
    subst P (type_fields (decimal c.args.kind) c.format.result.now c.format.ensures.text) c.push_spelled.ensures.full
