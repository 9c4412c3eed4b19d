use Rattle.std.proofs.{Common.{rules, ◌≡◌, ◌∙◌, ◌≤◌, List, [], ◌++◌, Option, None, Err, refl, sym, ap, subst, arith, length, take, drop, take-append-drop}, lemmas.{Bool.Decides.nat_tests}}
use Rattle.pm_query.specs.{pm_rows.{declared.commit.Change.Change, Batch.IsBatch, Limits.max_commits}, declared.{store.StoreNo.StoreNo}}
use Rattle.pm_query.specs.pm_rows.LogSize as log
use Rattle.pm_store_apart.{specs.{declared.live.Live.Live, ApartLaws.{grows_on, grows_still}, Lending.IsAnswered, Moment.{alone, over_of}, Passes.user_in, Rests.Rests}, proofs.{Lendings.{has_log, unstaged_is}, Resting.gate_of, StepsLaws.stays_put, WaitingLaws.{need_some, needs_parts, oldest, oldest_batch, oldest_few, oldest_is, waits_at}}}
use Rattle.pm_store_apart.proofs.apart.Apart.lend.Goals as goal

pub returns-then-is_err-clause-lends : goal.returns-then-is_err-clause-lends
returns-then-is_err-clause-lends g c = record {
  entries = [];
  grows = grows_still [] c.args.self.now _ (λ ways disk. stays_put (over_of (g.B.Chronicle.entries c.args.self.now.book) ways disk c.args.self.now) (g.B.Chronicle.entries c.reserve.new.self) c.reserve.ensures.entries) (refl, refl, refl) refl;
  notes = refl;
  keeps = (refl, refl, refl);
  cause = λ ways disk. tt;
}

pub returns-in_default-clause-lends : goal.returns-in_default-clause-lends
returns-in_default-clause-lends g c = record {
  entries = [];
  grows = grows_still [] c.args.self.now _ (λ ways disk. stays_put (over_of (g.B.Chronicle.entries c.args.self.now.book) ways disk c.args.self.now) (g.B.Chronicle.entries c.reserve.new.self) c.reserve.ensures.entries) (refl, refl, refl) refl;
  notes = refl;
  keeps = (refl, refl, refl);
  cause = λ ways disk. tt;
}

pub returns-in-Some-since-clause-lends : goal.returns-in-Some-since-clause-lends
returns-in-Some-since-clause-lends g c =
    subst (λ (refusal : StoreNo). IsAnswered (user_in (alone c.args.self.now) c.args.pass.now) c.args.self.now c.broken-refusal.new.self (Err refusal)) (sym c.broken-refusal.ensures.answer) (record {
      entries = _;
      grows = grows_on [] _ c.args.self.now _ c.broken-refusal.new.self
          (grows_still [] c.args.self.now _ (λ ways disk. stays_put (over_of (g.B.Chronicle.entries c.args.self.now.book) ways disk c.args.self.now) (g.B.Chronicle.entries c.reserve.new.self) c.reserve.ensures.entries) (refl, refl, refl) refl)
          c.broken-refusal.ensures.notes;
      notes = (_, refl);
      keeps = c.broken-refusal.ensures.rest;
      cause = λ ways disk. record { its = c.in-Some.live; read = c.in-Some.is; broken = search rules };
    })

pub returns-then-is_empty-clause-lends : goal.returns-then-is_empty-clause-lends
returns-then-is_empty-clause-lends g c =
    let live = c.in-Some.live in
    let w = c.args.self.now.stage in
    let few : length c.batch.result.now ≤ 0 = grind (arith, nat_tests, c.if-is_empty.true, c.is_empty.ensures) in
    let none : w.commits ≡ [] = unstaged_is w.commits (omega (arith, few, ap length c.batch.ensures.value)) in
    let whole : live.log.since ≡ None = search rules in
    record {
      entries = [];
      grows = grows_still [] c.args.self.now _ (λ ways disk. stays_put (over_of (g.B.Chronicle.entries c.args.self.now.book) ways disk c.args.self.now) (g.B.Chronicle.entries c.reserve.new.self) c.reserve.ensures.entries) (refl, refl, refl) refl;
      notes = refl;
      keeps = (refl, refl, refl);
      cause = λ ways disk. record {
        its = live;
        read = c.in-Some.is;
        unbroken = whole;
        new = live;
        written = record {
          read = c.in-Some.is;
          unbroken = whole;
          flushed = omega (arith, ap (λ (l : List (List Change)). length (take max_commits l)) none);
          staged = none ∙ sym (ap (drop max_commits) none);
          rows = refl;
        };
        flushed_is = refl;
      };
    }

pub returns-in_default-copied-clause-lends : goal.returns-in_default-copied-clause-lends
returns-in_default-copied-clause-lends g c = record {
  entries = [];
  grows = grows_still [] c.args.self.now _ (λ ways disk. stays_put (over_of (g.B.Chronicle.entries c.args.self.now.book) ways disk c.args.self.now) (g.B.Chronicle.entries c.reserve.new.self) c.reserve.ensures.entries) (refl, refl, refl) refl;
  notes = refl;
  keeps = (refl, refl, refl);
  cause = λ ways disk. tt;
}

pub returns-clause-lends : goal.returns-clause-lends
returns-clause-lends g c =
    let live = c.in-Some.live in
    let w = c.args.self.now.stage in
    let told = g.B.Chronicle.entries c.args.self.now.book in
    let its = waits_at c.args.self.now.live live w c.in-Some.is c.args.self.now.behind in
    let is : c.in-Ok.commits.items ≡ take max_commits w.commits = c.in-Ok.ensures ∙ c.batch-2.ensures.value in
    let some : 1 ≤ length c.batch.result.now = grind (arith, nat_tests, c.if-is_empty.false, c.is_empty.ensures) in
    let many : 1 ≤ oldest w.commits = omega (arith, some, ap length c.batch.ensures.value) in
    let whole : live.log.since ≡ None = search rules in
    record {
      moves = λ ways disk. stays_put (over_of told ways disk c.args.self.now) (g.B.Chronicle.entries c.reserve.new.self) c.reserve.ensures.entries;
      rests = λ disk rests. rests;
      keeps = (refl, refl, refl);
      oldest = is;
      some = λ none. absurd (omega (arith, many, oldest_few w.commits, ap length none));
      under = record {
        log = has_log c.args.self.now.live live live.log c.in-Some.is refl;
        rest = drop max_commits w.commits;
        staged = sym (ap (λ (l : List (List Change)). l ++ drop max_commits w.commits) is ∙ take-append-drop max_commits w.commits);
        out = refl;
      };
      ready = λ disk rests.
          let seen = g.D.Disk.seen disk in
          let images = g.D.Disk.images disk (g.D.Disk.ticks disk) in
          record {
            unbroken = whole;
            is_batch = subst IsBatch (oldest_is w.commits ∙ sym is) (oldest_batch w.commits c.batch.ensures.each many);
            number = omega (arith, its.flushed, c.batch.ensures.number, ap length is, oldest_few w.commits);
            fits = omega (arith, ap log.need_of is, need_some (take max_commits w.commits) many, needs_parts w.commits max_commits, its.needs, its.room whole);
            gate = gate_of seen live c.args.self.now.rows w.commits images (subst (λ (l : Option Live). ∥ Rests l c.args.self.now.rows w.commits seen images ∥₁) c.in-Some.is rests) whole;
          };
    }
