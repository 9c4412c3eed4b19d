use Rattle.std.proofs.{Common.{rules, ◌≡◌, ◌∙◌, ℕ, List, [], None, Some, Result, Err, sym, ap, subst}, lemmas.Result.err_from_is_err_and}
use Rattle.pm_query.specs.{Calls.{CheckpointNotes, user_of}, declared.{book.BookEntry.BookEntry, store.{Checkpointed.Checkpointed, StoreNo.StoreNo}}}
use Rattle.pm_store_apart.{specs.{declared.{commits.Commits.TheVariants.Staged, live.Live.Live}, Moment.{alone, over_as, over_of}, Moves.Moves, MovesLaws.moves_on, Passes.{user_in, view_of}}, proofs.{FlushingLaws.{cause_longer, due_longer, flushes_all, log_refusal}, StepsLaws.{not_both, same_live, stays_put}}}
use Rattle.pm_store_apart.proofs.apart.Apart.move_all.Goals as goal

pub unreachable-requires : goal.unreachable-requires
unreachable-requires g c =
    let longer = c.in_ok-flush_all.ensures.longer in
    not_both c.flush_all.new.self.live longer.new c.in_default.is longer.read_now

pub returns-in_err-flush_all-clause-notes : goal.returns-in_err-flush_all-clause-notes
returns-in_err-flush_all-clause-notes g c =
    let first = c.in_err-flush_all.ensures.notes in
    let p = err_from_is_err_and c.from_residual.result c.from_residual.ensures.1 in
    let user = user_in (alone c.args.self.now) c.args.pass.now in (
      first.0,
      first.1,
      subst (λ (result : Result Checkpointed StoreNo). CheckpointNotes user c.args.clean result first.0) (sym (p.1 ∙ ap (λ (refusal : StoreNo). Err refusal) p.2)) (log_refusal user c.args.clean _ first.0 first.2),
    )

pub returns-in_err-reserve-clause-notes : goal.returns-in_err-reserve-clause-notes
returns-in_err-reserve-clause-notes g c =
    let first = c.in_ok-flush_all.ensures.notes in
    let told = g.B.Chronicle.entries c.flush_all.new.self.book in (
      [],
      λ ways.
          let old = over_as ways c.args.disk.now c.args.self.now in
          let mid = over_as ways c.flush_all.new.disk c.flush_all.new.self in
          moves_on [] [] old mid _ (subst (λ (es : List BookEntry). Moves es old mid) first.2 (first.1 ways)) (stays_put (over_of told ways c.flush_all.new.disk c.flush_all.new.self) (g.B.Chronicle.entries c.reserve.new.self) c.reserve.ensures.entries),
      search rules,
    )

pub move_log-requires-clause-due : goal.move_log-requires-clause-due
move_log-requires-clause-due g c =
    due_longer c.args.clean c.args.self.now.live c.flush_all.new.self.live c.args.live c.in-Some.written c.requires.read c.in-Some.is c.in_ok-flush_all.ensures.longer c.requires.due

pub move_log-requires-clause-unbroken : goal.move_log-requires-clause-unbroken
move_log-requires-clause-unbroken g c =
    let longer = c.in_ok-flush_all.ensures.longer in
    subst (λ (l : Live). l.log.since ≡ None) (same_live c.flush_all.new.self.live longer.new c.in-Some.written longer.read_now c.in-Some.is) longer.unbroken

pub returns-clause-notes : goal.returns-clause-notes
returns-clause-notes g c =
    let first = c.in_ok-flush_all.ensures.notes in
    let second = c.move_log.ensures.notes in
    let told = g.B.Chronicle.entries c.flush_all.new.self.book in (
      second.0,
      λ ways.
          let old = over_as ways c.args.disk.now c.args.self.now in
          let mid = over_as ways c.flush_all.new.disk c.flush_all.new.self in
          let new = over_as ways c.move_log.new.disk c.move_log.new.self in
          moves_on [] second.0 old mid new (subst (λ (es : List BookEntry). Moves es old mid) first.2 (first.1 ways))
          (moves_on [] second.0 mid _ new (stays_put (over_of told ways c.flush_all.new.disk c.flush_all.new.self) (g.B.Chronicle.entries c.reserve.new.self) c.reserve.ensures.entries) (second.1 ways)),
      subst (λ (n : ℕ). CheckpointNotes (user_of (Some n) (view_of c.args.pass.now)) c.args.clean c.move_log.result second.0) (first.1 Staged).generation second.2,
    )

pub returns-clause-cause : goal.returns-clause-cause
returns-clause-cause g c =
    cause_longer c.args.clean c.args.self.now.live c.flush_all.new.self.live c.args.live c.move_log.result c.requires.read c.requires.unbroken c.requires.due c.in_ok-flush_all.ensures.longer c.move_log.ensures.cause

pub returns-clause-still : goal.returns-clause-still
returns-clause-still g c = λ none quiet.
    let first = c.in_ok-flush_all.ensures.rest none in
    let second = c.move_log.ensures.still quiet in
    (second.0 ∙ first.0, second.1 ∙ first.1, second.2 ∙ first.3)

pub returns-clause-flushed : goal.returns-clause-flushed
returns-clause-flushed g c = λ ways. flushes_all (over_as ways c.move_log.new.disk c.move_log.new.self) c.move_log.result c.move_log.ensures.unstaged
