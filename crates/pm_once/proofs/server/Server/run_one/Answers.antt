use Rattle.std.proofs.Common.{◌++◌, ◌∷◌, [], ◌∙◌, sym, ap, subst}
use Rattle.pm_supervisor_chain.specs.Steps.{Runs, RunsOn}
use Rattle.pm_supervisor_journal.specs.{Standing.later, declared.exit.ChildExit.ChildExit, Stands.{AtWork, HasPast}}
use Rattle.pm_once.{specs.{Calls.NotesExit, View.{View, view_of}}, proofs.{AuxiliaryEnds.{ran_finishes, ran_short}, Alls.running_on, Ending.ran_noted, Past.past_of}}
use Rattle.pm_once.proofs.server.Server.run_one.Goals as goal

pub note_exit-requires-clause-stands : goal.note_exit-requires-clause-stands
note_exit-requires-clause-stands g c =
    let v : View = view_of c.args.self.now in
    subst (λ (w : AtWork). HasPast w) (sym c.in-Some.ensures.runs.2.ran.work) (past_of v c.requires.running)

pub finish-requires-clause-running : goal.finish-requires-clause-running
finish-requires-clause-running g c =
    let v : View = view_of c.args.self.now in
    let mid : View = view_of c.run_next.new.self in
    let now : View = view_of c.note_exit.new.self in
    let gives = g.C.Clock.gives c.args.clock.now in
    let auxiliary = c.in-Some.ensures.runs in
    let noted = c.in-Ok.ensures.noted in
    let one = ran_noted c.laws.ensures.steps c.laws.ensures.work c.laws.ensures.journal gives auxiliary.0 noted.0 v mid now c.requires.running c.requires.idle (λ is. c.in-Some.ensures.had (ap (λ (x : ChildExit). x.kind) auxiliary.1 ∙ is)) auxiliary.2.ran
    (subst (λ (x : ChildExit). NotesExit gives x noted.0 mid now) auxiliary.1 noted.1) in
    running_on gives (Runs auxiliary.0 (later noted.0 v.work.standing) ∷ []) v now c.requires.running one.goes one.stays

pub returns-in-Ok-clause-runs : goal.returns-in-Ok-clause-runs
returns-in-Ok-clause-runs g c =
    let v : View = view_of c.args.self.now in
    let mid : View = view_of c.run_next.new.self in
    let now : View = view_of c.note_exit.new.self in
    let gives = g.C.Clock.gives c.args.clock.now in
    let auxiliary = c.in-Some.ensures.runs in
    let noted = c.in-Ok.ensures.noted in
    let one = ran_noted c.laws.ensures.steps c.laws.ensures.work c.laws.ensures.journal gives auxiliary.0 noted.0 v mid now c.requires.running c.requires.idle (λ is. c.in-Some.ensures.had (ap (λ (x : ChildExit). x.kind) auxiliary.1 ∙ is)) auxiliary.2.ran
    (subst (λ (x : ChildExit). NotesExit gives x noted.0 mid now) auxiliary.1 noted.1) in
    ((Runs auxiliary.0 (later noted.0 v.work.standing) ∷ []) ++ c.finish.ensures.0, ran_finishes gives auxiliary.0 noted.0 c.finish.result c.finish.ensures.0 v now _ one auxiliary.2.alone c.finish.ensures.1)

pub returns-in-Err-clause-runs : goal.returns-in-Err-clause-runs
returns-in-Err-clause-runs g c =
    let v : View = view_of c.args.self.now in
    let auxiliary = c.in-Some.ensures.runs in
    (RunsOn auxiliary.0 ∷ [], ran_short c.laws.ensures.steps c.laws.ensures.journal (g.C.Clock.gives c.args.clock.now) auxiliary.0 v _ _ c.requires.running c.requires.idle auxiliary.2 c.in-Err.ensures.refused)
