use Rattle.std.proofs.Common.{◌≡◌, ◌+◌, map, take}
use Rattle.pm_query.specs.declared.book.BookEntry.TheVariants.{Gone}
use Rattle.pm_outside.specs.Added.{Added}
use Rattle.pm_store_apart.proofs.renew.note_gone.Given as goal

abbrev pub invariant-loop-at : goal.invariant-loop-at
invariant-loop-at g l =
    Added (map (λ pid. Gone pid) (take l.at l.pids)) (g.B.Chronicle.entries l.initial.book) (g.B.Chronicle.entries l.book)
    × (g.B.Chronicle.spare l.book + l.at ≡ g.B.Chronicle.spare l.initial.book)
