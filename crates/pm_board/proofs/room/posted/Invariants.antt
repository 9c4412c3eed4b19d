use Rattle.std.{proofs.Common.{◌≡◌, ◌++◌, ◌+◌, ℕ, length, Some, vec_len}, specs.{Prelude.{slice_get, vec_capacity}, Vec.Iter.{into_iter_items, into_iter_len}}}
use Rattle.pm_board_home.specs.Views.{with_knows, dealt_by}
use Rattle.pm_board.specs.{Told.new_roster, Models.{PostOf, new_post}}
use Rattle.pm_board.proofs.room.posted.Given as goal

abbrev pub invariant-loop-share : goal.invariant-loop-share
invariant-loop-share g l =
    (l.yielded ++ into_iter_items l.share-iterator ≡ into_iter_items l.initial.share-iterator)
    × (l.roster.knows ≡ new_roster (length l.fn.shares.items) l.fn.session_limit (length l.yielded))
    × (l.roster.home ≡ with_knows l.fn.first.home (dealt_by g.H.Home.dealt (length l.yielded) l.fn.first.home.knows))
    × (l.roster.table ≡ l.fn.first.table)
    × (vec_len l.left ≡ length l.yielded) × (vec_capacity l.left ≡ vec_capacity l.fn.room) × (length l.left.items ≡ length l.yielded)
    × ((k : ℕ) (p : PostOf g.row.J-Told.Denot g.row.H-Knows.Denot) → slice_get l.left.items k ≡ Some p → p ≡ new_post g.H.Home l.fn.session_limit l.fn.first.table l.fn.first.home.knows k)
    × (length l.yielded + into_iter_len l.share-iterator ≡ length l.fn.shares.items)
