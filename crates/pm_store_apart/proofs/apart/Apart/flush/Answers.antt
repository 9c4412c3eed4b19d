use Rattle.std.proofs.Common.{◌∙◌, ℕ, [], Some, refl, subst}
use Rattle.pm_query.specs.{Calls.{FlushNotes, user_of}}
use Rattle.pm_store_apart.{specs.{declared.commits.Commits.TheVariants.Staged, Moment.over_as, MovesLaws.moves_on, Passes.view_of}, proofs.FlushingLaws.{flush_caused, longer_answered, longer_marked, still_marked}}
use Rattle.pm_store_apart.proofs.apart.Apart.flush.Goals as goal

pub returns-in-Answered-clause-notes : goal.returns-in-Answered-clause-notes
returns-in-Answered-clause-notes g c =
    let is = c.in-Answered.ensures.lends in
    (is.entries, λ ways. is.grows.moves ways c.args.disk.now, is.notes)

pub returns-in-Answered-clause-home : goal.returns-in-Answered-clause-home
returns-in-Answered-clause-home g c = c.in-Answered.ensures.lends.grows.lent ∙ c.requires.home

pub returns-in-Answered-clause-rests : goal.returns-in-Answered-clause-rests
returns-in-Answered-clause-rests g c = c.in-Answered.ensures.lends.grows.rests c.args.disk.now c.requires.rests

pub returns-in-Answered-clause-cause : goal.returns-in-Answered-clause-cause
returns-in-Answered-clause-cause g c = λ ways. c.in-Answered.ensures.lends.cause ways c.args.disk.now

pub returns-in-Answered-clause-longer : goal.returns-in-Answered-clause-longer
returns-in-Answered-clause-longer g c =
    let is = c.in-Answered.ensures.lends in
    longer_answered (over_as Staged c.args.disk.now c.args.self.now) (over_as Staged c.args.disk.now c.lend.new.self) c.in-Answered.result (is.cause Staged c.args.disk.now) is.keeps.0

pub returns-in-Answered-clause-rest : goal.returns-in-Answered-clause-rest
returns-in-Answered-clause-rest g c = λ none.
    let keeps = c.in-Answered.ensures.lends.keeps in
    (refl, keeps.0, keeps.1, keeps.2)

pub write-written-requires : goal.write-written-requires
write-written-requires g c = c.in-Lent.ensures.lends.ready c.args.disk.now c.requires.rests

pub mark-requires-clause-under : goal.mark-requires-clause-under
mark-requires-clause-under g c = c.in-Lent.ensures.lends.under

pub mark-requires-clause-wrote : goal.mark-requires-clause-wrote
mark-requires-clause-wrote g c = (c.args.disk.now, c.write-written.ensures)

pub returns-in-Lent-clause-notes : goal.returns-in-Lent-clause-notes
returns-in-Lent-clause-notes g c =
    let lends = c.in-Lent.ensures.lends in
    let noted = c.mark.ensures.notes c.args.disk.now (lends.rests c.args.disk.now c.requires.rests) c.write-written.ensures in (
      noted.0,
      λ ways. moves_on [] noted.0 (over_as ways c.args.disk.now c.args.self.now) (over_as ways c.args.disk.now c.lend.new.self) (over_as ways c.write-written.new.disk c.mark.new.self) (lends.moves ways c.args.disk.now) (noted.1 ways),
      subst (λ (n : ℕ). FlushNotes (user_of (Some n) (view_of c.args.pass.now)) c.mark.result noted.0) (lends.moves Staged c.args.disk.now).generation noted.2,
    )

pub returns-in-Lent-clause-rests : goal.returns-in-Lent-clause-rests
returns-in-Lent-clause-rests g c = c.mark.ensures.rests c.args.disk.now (c.in-Lent.ensures.lends.rests c.args.disk.now c.requires.rests) c.write-written.ensures

pub returns-in-Lent-clause-cause : goal.returns-in-Lent-clause-cause
returns-in-Lent-clause-cause g c = λ ways.
    let lends = c.in-Lent.ensures.lends in
    flush_caused c.in-Lent.batch c.args.self.now c.lend.new.self c.mark.new.self c.write-written.result (g.D.Disk.seen c.args.disk.now) lends (lends.ready c.args.disk.now c.requires.rests) ways c.args.disk.now c.write-written.new.disk c.mark.result c.mark.ensures.marks

pub returns-in-Lent-clause-longer : goal.returns-in-Lent-clause-longer
returns-in-Lent-clause-longer g c =
    let lends = c.in-Lent.ensures.lends in
    longer_marked c.in-Lent.batch c.args.self.now c.lend.new.self c.mark.new.self c.write-written.result (g.D.Disk.seen c.args.disk.now) lends (lends.ready c.args.disk.now c.requires.rests) c.mark.result c.mark.ensures.marks

pub returns-in-Lent-clause-rest : goal.returns-in-Lent-clause-rest
returns-in-Lent-clause-rest g c =
    let lends = c.in-Lent.ensures.lends in
    still_marked c.in-Lent.batch c.args.self.now c.lend.new.self c.mark.new.self c.write-written.result (g.D.Disk.seen c.args.disk.now) lends (lends.ready c.args.disk.now c.requires.rests) c.args.disk.now c.write-written.new.disk c.mark.result c.mark.ensures.marks c.write-written.ensures.came
