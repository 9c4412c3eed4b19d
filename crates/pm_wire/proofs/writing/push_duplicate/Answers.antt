use Rattle.std.{proofs.Common.{rules, ◌≡◌, ◌<◌, ◌++◌, List, ℕ, codes, length, OnOk, OnErr, subst}, specs.Fmt.signed_decimal}
use Rattle.pm_wire.{specs.{Pieces.message, Outgoing.room}, proofs.Joined.key_fields}
use Rattle.pm_wire.proofs.writing.push_duplicate.Goals as goal

pub returns-clause-ok : goal.returns-clause-ok
returns-clause-ok c =
    let digits : c.format.result.now ≡ signed_decimal c.args.key = search (rules, c.format.ensures.text) in
    let P : List ℕ → Type 0 = λ fields. OnOk c.push_spelled.result (c.push_spelled.new.out.bytes ≡ c.args.out.now.bytes ++ message (codes "E") fields) in
    subst P (key_fields (signed_decimal c.args.key) c.format.result.now digits) c.push_spelled.ensures.ok

pub returns-clause-full : goal.returns-clause-full
returns-clause-full c =
    let digits : c.format.result.now ≡ signed_decimal c.args.key = search (rules, c.format.ensures.text) in
    let P : List ℕ → Type 0 = λ fields. OnErr c.push_spelled.result (room c.args.out.now < length (message (codes "E") fields)) in
    subst P (key_fields (signed_decimal c.args.key) c.format.result.now digits) c.push_spelled.ensures.full
