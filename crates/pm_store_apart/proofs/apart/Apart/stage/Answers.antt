use Rattle.std.proofs.Common.{rules, ◌≡◌, ◌∙◌, inl, inr, ◌+◌, ◌-◌, List, [], ◌∷◌, ◌++◌, Option, Some, refl, sym, ap, subst, arith, length, length-append}
use Rattle.pm_query.specs.{pm_rows.{declared.commit.Change.Change, Batch.{IsBatch, IsCommit}, Fold.{committed}, Limits.IsWithinRowLimits}, Answer.commit_of, Book.need_of, Limits.HasShortRows, declared.book.BookEntry.{BookEntry, TheVariants.{Answered, LogFull}}}
use Rattle.pm_query.specs.pm_rows.LogSize as log
use Rattle.pm_stage.specs.Stage.{Waiting}
use Rattle.pm_store_apart.{specs.{declared.live.Live.Live, ApartLaws.grows_still, Moment.{alone, over_of}, Rests.Rests, Waits.{IsBehind, needs_alone}}, proofs.{Lendings.{same_log, stays_so}, Passing.{attends, inside_answered, inside_still, no_less}, Resting.{batch_is, need_is}, Staging.{Stages, rests_added, stages}, StepsLaws.{finds_full, stays_put}, WaitingLaws.{commit_is, needs_added, waits_at}}}
use Rattle.pm_store_apart.proofs.apart.Apart.stage.Goals as goal

pub body_length-need-requires : goal.body_length-need-requires
body_length-need-requires g c =
    subst IsBatch (sym c.from_ref.ensures.value) (batch_is c.args.ran.commit c.requires.some c.requires.answer.commit_limits c.changes-typed.ensures.typed)

pub add-requires-clause-commit : goal.add-requires-clause-commit
add-requires-clause-commit g c =
    subst IsCommit (sym c.in_ok-waits.ensures) (commit_is c.args.ran.commit (batch_is c.args.ran.commit c.requires.some c.requires.answer.commit_limits c.changes-typed.ensures.typed))

pub add-requires-clause-number : goal.add-requires-clause-number
add-requires-clause-number g c =
    let its = waits_at c.args.self.now.live c.args.live c.args.self.now.stage c.requires.live c.args.self.now.behind in
    omega (arith, its.front, c.requires.number)

pub overflow_sub-room : goal.overflow_sub-room
overflow_sub-room g c =
    let its = waits_at c.args.self.now.live c.args.live c.args.self.now.stage c.requires.live c.args.self.now.behind in
    omega (arith, its.room c.requires.unbroken, c.room.ensures)

pub returns-then-need-room-clause-notes : goal.returns-then-need-room-clause-notes
returns-then-need-room-clause-notes g c =
    let told = g.B.Chronicle.entries c.args.self.now.book in
    let ran = c.args.ran in
    let pid = c.args.pass.now.pid in
    let need = 5 + c.body_length-need.result in
    let room = c.room.result - c.args.live.needs in
    let entry : BookEntry = LogFull pid ran.script need room in
    let long : c.body_length-need.result ≡ log.body_length (ran.commit ∷ []) = c.body_length-need.ensures.length ∙ ap log.body_length c.from_ref.ensures.value in
    let batch : need ≡ log.need_of (ran.commit ∷ []) = omega (arith, long) in
    let its = waits_at c.args.self.now.live c.args.live c.args.self.now.stage c.requires.live c.args.self.now.behind in (
      entry ∷ [],
      grows_still (entry ∷ []) c.args.self.now _ (λ ways disk. finds_full c.history_laws.ensures.past c.history_laws.ensures.present (over_of told ways disk c.args.self.now) c.args.live (g.B.Chronicle.entries c.note_full.new.book) pid need room ran.script ran.commit
          c.requires.live c.requires.unbroken (attends c.args.pass.now (alone c.args.self.now) c.requires.admits) c.requires.answer.commit_is (batch ∙ need_is ran.commit c.requires.some)
          (omega (arith, c.if-need-room.true)) (inr (omega (arith, c.room.ensures, its.no_longer))) c.note_full.ensures.entries) (refl, refl, refl) refl,
      rw c.note_full.ensures.full (c.requires.answer.writes c.requires.some, refl),
    )

pub returns-then-need-room-clause-admits : goal.returns-then-need-room-clause-admits
returns-then-need-room-clause-admits g c =
    let told = g.B.Chronicle.entries c.args.self.now.book in
    let entry : BookEntry = LogFull c.args.pass.now.pid c.args.ran.script (5 + c.body_length-need.result) (c.room.result - c.args.live.needs) in record {
      there = c.requires.admits.there;
      generation_is = c.requires.admits.generation_is;
      inside = inside_still c.args.pass.now.pid c.args.pass.now.front entry told (g.B.Chronicle.entries c.note_full.new.book) (record { present_is = λ es. refl; times = λ n. omega arith }) c.note_full.ensures.entries c.requires.admits.inside;
      staged = c.requires.admits.staged;
    }

pub returns-then-need-room-clause-cause : goal.returns-then-need-room-clause-cause
returns-then-need-room-clause-cause g c =
    let ran = c.args.ran in
    let long : c.body_length-need.result ≡ log.body_length (ran.commit ∷ []) = c.body_length-need.ensures.length ∙ ap log.body_length c.from_ref.ensures.value in
    let batch : 5 + c.body_length-need.result ≡ log.need_of (ran.commit ∷ []) = omega (arith, long) in
    let needs : 5 + c.body_length-need.result ≡ need_of (commit_of c.args.self.now.rows ran.script) = batch ∙ need_is ran.commit c.requires.some ∙ ap need_of c.requires.answer.commit_is in
    rw c.note_full.ensures.full (
      record { its = c.args.live; read = c.requires.live; unbroken = c.requires.unbroken; need_is = needs; room_is = inl (omega (arith, c.room.ensures)) },
      λ none. c.requires.some (c.requires.answer.commit_is ∙ none),
    )

pub invariant_of-self-in-Ok : goal.invariant_of-self-in-Ok
invariant_of-self-in-Ok g c =
    let live = c.args.live in
    let rows = c.args.self.now.rows in
    let w = c.args.self.now.stage in
    let commit = c.args.ran.commit in
    let its = waits_at c.args.self.now.live live w c.requires.live c.args.self.now.behind in
    let added : c.add.new.self ≡ record w { commits = w.commits ++ commit ∷ [] } = c.in-Ok.ensures.ok ∙ ap (λ (x : List Change). record w { commits = w.commits ++ x ∷ [] }) c.in_ok-waits.ensures in
    let is : c.apply.result ≡ committed rows commit = c.apply.ensures ∙ ap (λ p. p.after) c.in_ok-prepared.ensures.ok in
    let need : 5 + c.body_length-need.result ≡ log.need_of (commit ∷ []) = omega (arith, c.body_length-need.ensures.length, ap log.body_length c.from_ref.ensures.value) in
    let sum : needs_alone c.add.new.self.commits ≡ needs_alone w.commits + log.need_of (commit ∷ []) = ap (λ (x : Waiting). needs_alone x.commits) added ∙ needs_added w.commits commit in
    record {
      begun = c.args.self.now.begun;
      short = subst HasShortRows (sym is) (c.requires.answer.short_rows c.args.self.now.short);
      limits = subst IsWithinRowLimits (sym is) (c.requires.answer.row_limits c.args.self.now.limits);
      behind = ∣ record {
        flushed = ap (λ (x : Waiting). x.flushed) added ∙ its.flushed;
        front = c.in-Ok.ensures.front;
        needs = omega (arith, its.needs, need, sum);
        room = λ whole. omega (arith, its.room whole, c.room.ensures, c.if-need-room.false);
        no_longer = its.no_longer;
      } ∣₁;
      ticks = c.args.self.now.ticks;
      room = omega (arith, c.requires.room, c.answer.ensures.room);
    }

pub invariant_of-self-in-Err : goal.invariant_of-self-in-Err
invariant_of-self-in-Err g c =
    let rows = c.args.self.now.rows in
    let same : c.cancel.result ≡ rows = c.cancel.ensures ∙ ap (λ p. p.before) c.in_ok-prepared.ensures.ok in
    let kept : c.add.new.self ≡ c.args.self.now.stage = c.in-Err.ensures.err in
    record {
      begun = c.args.self.now.begun;
      short = subst HasShortRows (sym same) c.args.self.now.short;
      limits = subst IsWithinRowLimits (sym same) c.args.self.now.limits;
      behind = subst (λ (w : Waiting). ∥ IsBehind c.args.self.now.live w ∥₁) (sym kept) c.args.self.now.behind;
      ticks = c.args.self.now.ticks;
      room = c.args.self.now.room;
    }

pub returns-in-Ok-clause-notes : goal.returns-in-Ok-clause-notes
returns-in-Ok-clause-notes g c =
    let told = g.B.Chronicle.entries c.args.self.now.book in
    let live = c.args.live in
    let rows = c.args.self.now.rows in
    let ran = c.args.ran in
    let w = c.args.self.now.stage in
    let commit = ran.commit in
    let pid = c.args.pass.now.pid in
    let its = waits_at c.args.self.now.live live w c.requires.live c.args.self.now.behind in
    let new : Live = record { log = live.log; kept = live.kept; epoch = live.epoch; faults = live.faults; closed = live.closed; front = c.in-Ok.front; needs = live.needs + (5 + c.body_length-need.result); mark = live.mark } in
    let added : c.add.new.self ≡ record w { commits = w.commits ++ commit ∷ [] } = c.in-Ok.ensures.ok ∙ ap (λ (x : List Change). record w { commits = w.commits ++ x ∷ [] }) c.in_ok-waits.ensures in
    let is : c.apply.result ≡ committed rows commit = c.apply.ensures ∙ ap (λ p. p.after) c.in_ok-prepared.ensures.ok in
    let need : 5 + c.body_length-need.result ≡ log.need_of (commit ∷ []) = omega (arith, c.body_length-need.ensures.length, ap log.body_length c.from_ref.ensures.value) in
    let longer : c.add.new.self.commits ≡ w.commits ++ commit ∷ [] = ap (λ (x : Waiting). x.commits) added in
    let within : IsWithinRowLimits c.apply.result = subst IsWithinRowLimits (sym is) (c.requires.answer.row_limits c.args.self.now.limits) in (
      Answered pid ran.script ran.reply commit c.in-Ok.front live.mark ∷ [],
      record {
        moves = λ ways disk. let staged : Stages (over_of told ways disk c.args.self.now) live new c.apply.result c.add.new.self.commits commit = record {
          read = c.requires.live;
          unbroken = c.requires.unbroken;
          unclosed = c.requires.unclosed;
          fronts = omega (arith, its.front, its.flushed);
          its = refl;
          kept = refl;
          first = refl;
          closed = refl;
          mark = refl;
          front = omega (arith, c.in-Ok.ensures.front, its.front, ap (λ (x : Waiting). x.flushed) added, ap length longer, length-append w.commits (commit ∷ []));
          needs = omega (arith, need);
          rows = is;
          within = within;
          staged = longer;
        } in
            stages c.history_laws.ensures.past c.history_laws.ensures.present (over_of told ways disk c.args.self.now) live new (g.B.Chronicle.entries c.answer.new.book) c.apply.result c.add.new.self.commits pid ran.script ran.reply commit
            c.requires.some staged (attends c.args.pass.now (alone c.args.self.now) c.requires.admits) c.requires.answer.reply_is c.requires.answer.commit_is c.answer.ensures.entries;
        rests = λ disk r.
            let seen = g.D.Disk.seen disk in
            let i = g.D.Disk.images disk (g.D.Disk.ticks disk) in
            subst (λ (x : Waiting). ∥ Rests (Some new) c.apply.result x.commits seen i ∥₁) (sym added)
            (rests_added live new rows c.apply.result w.commits commit seen i refl c.requires.unclosed is within (subst (λ (l : Option Live). ∥ Rests l rows w.commits seen i ∥₁) c.requires.live r));
        log = same_log c.args.self.now.live live new c.requires.live refl;
        more = commit ∷ [];
        staged = longer;
        lent = refl;
      },
      c.answer.ensures.staged,
    )

pub returns-in-Ok-clause-admits : goal.returns-in-Ok-clause-admits
returns-in-Ok-clause-admits g c =
    let told = g.B.Chronicle.entries c.args.self.now.book in
    let ran = c.args.ran in
    rw c.answer.ensures.seen (record {
      there = c.requires.admits.there;
      generation_is = c.requires.admits.generation_is;
      inside = inside_answered c.args.pass.now.pid c.in-Ok.front c.args.live.mark ran.script ran.reply ran.commit c.args.pass.now.front told (g.B.Chronicle.entries c.answer.new.book) c.answer.ensures.entries c.requires.admits.inside;
      staged = omega arith;
    })

pub returns-in-Ok-clause-cause : goal.returns-in-Ok-clause-cause
returns-in-Ok-clause-cause g c = record { its = c.args.live; read = c.requires.live; unbroken = c.requires.unbroken }

pub returns-in-Ok-clause-fresh : goal.returns-in-Ok-clause-fresh
returns-in-Ok-clause-fresh g c =
    let w = c.args.self.now.stage in
    let its = waits_at c.args.self.now.live c.args.live w c.requires.live c.args.self.now.behind in
    let added = c.in-Ok.ensures.ok in
    no_less c.args.pass.now.front c.args.self.now.live c.args.live _ c.requires.live
    (omega (arith, c.answer.ensures.given.1, c.in-Ok.ensures.front, its.front, ap (λ (x : Waiting). x.flushed) added, ap (λ (x : Waiting). length x.commits) added, length-append w.commits (c.in_ok-waits.waits ∷ []))) c.requires.admits.staged

pub returns-in-Ok-clause-rest : goal.returns-in-Ok-clause-rest
returns-in-Ok-clause-rest g c = λ none. absurd (c.requires.some (c.requires.answer.commit_is ∙ none))

pub returns-in_err-waits-clause-notes : goal.returns-in_err-waits-clause-notes
returns-in_err-waits-clause-notes g c = (
  [],
  grows_still [] c.args.self.now _ (λ ways disk. stays_put (over_of (g.B.Chronicle.entries c.args.self.now.book) ways disk c.args.self.now) (g.B.Chronicle.entries c.args.self.now.book) refl) (refl, refl, refl) refl,
  search rules,
)

pub returns-in_err-prepared-clause-notes : goal.returns-in_err-prepared-clause-notes
returns-in_err-prepared-clause-notes g c =
    let told = g.B.Chronicle.entries c.args.self.now.book in (
      [],
      grows_still [] c.args.self.now _ (λ ways disk. stays_so (over_of told ways disk c.args.self.now) _ c.args.self.now.stage.commits c.in_err-prepared.ensures.err refl) (refl, c.in_err-prepared.ensures.err, refl) refl,
      search rules,
    )

pub returns-in-Err-clause-notes : goal.returns-in-Err-clause-notes
returns-in-Err-clause-notes g c =
    let told = g.B.Chronicle.entries c.args.self.now.book in
    let same : c.cancel.result ≡ c.args.self.now.rows = c.cancel.ensures ∙ ap (λ p. p.before) c.in_ok-prepared.ensures.ok in
    let kept : c.add.new.self.commits ≡ c.args.self.now.stage.commits = ap (λ (x : Waiting). x.commits) c.in-Err.ensures.err in (
      [],
      grows_still [] c.args.self.now _ (λ ways disk. stays_so (over_of told ways disk c.args.self.now) c.cancel.result c.add.new.self.commits same kept) (refl, same, kept) refl,
      refl,
    )
