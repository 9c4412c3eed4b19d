-- A child that serves no connection runs, and what is due after its end is done.
use Rattle.std.{proofs.Common.{◌≡◌, inl, inr, ℕ, List, [], ◌∷◌, ◌++◌, Result, Ok, Err, refl, sym, ◌∙◌, ap, subst, arith, append-nil}, specs.Prelude.true}
use Rattle.pm_once_acts.{specs.{pm_supervisor_chain.{Laws.StepsGoOn, Steps.{ChildRun, Runs, RunsOn, Step, journal_by}}, Steps.if_session}, proofs.RunsLaws.no_accepts}
use Rattle.pm_server.specs.{pm_supervisor_journal.{Laws.KeepsALegalJournal, Standing.{Standing, later}, Stands.AtWork, Due.{IsIdle, is_last_drawn}}, Journal.accepted_in, declared.end.ServerEnd.{ServerEnd, TheVariants.NoMemory}}
use Rattle.pm_once.{specs.{Calls.{Finishes, HasAuxiliaryRun, NotesNoExit}, Goes.{Does, IsRunning}, View.View}, proofs.{Ending.{IsNoted, ran_on}, Going.does_then, Undisturbed.{disturbed_on, less_follows}}}
use Rattle.pm_once_children.{specs.{Auxiliaries.{AreThere, HasLess}, AuxiliaryRuns.{Heard, IsRunAs}, declared.auxiliaries.Auxiliaries.Auxiliaries}, proofs.{CalmLaws.no_more, AuxiliariesLaws.less_on}}

-- the server without it
pub running_off : (before : View) (auxiliaries : Auxiliaries) → ((s : Standing) → AreThere before.auxiliaries s → AreThere auxiliaries s) → HasLess before.auxiliaries auxiliaries → IsRunning before → IsRunning (record before { auxiliaries = auxiliaries })
running_off before auxiliaries off less running = (
  running.0,
  running.1,
  record {
    past = running.2.past;
    stands = running.2.stands;
    told = running.2.told;
    are_steps = running.2.are_steps;
    lost_is = running.2.lost_is;
    said = running.2.said;
    auxiliaries = off before.work.standing running.2.auxiliaries;
    asks = running.2.asks;
    acts = running.2.acts;
    causes = record { told_so = less.heard ∙ running.2.causes.told_so; runs = running.2.causes.runs; refused = running.2.causes.refused };
    disturbed = disturbed_on running.0.faults running.1 running.1 before (record before { auxiliaries = auxiliaries }) (record { later = omega arith; counts = λ counted. counted }) (no_more running.1)
        (less_follows before (record before { auxiliaries = auxiliaries }) refl less) running.2.disturbed;
  },
  record { free = running.3.free; same = running.3.same; inside = running.3.inside },
)

pub ran_without : (run : ChildRun) (before now : View) (auxiliaries : Auxiliaries) → ((s : Standing) → AreThere before.auxiliaries s → AreThere auxiliaries s) → HasLess before.auxiliaries auxiliaries → HasAuxiliaryRun run (record before { auxiliaries = auxiliaries }) now → HasAuxiliaryRun run before now
ran_without run before now auxiliaries off less auxiliary = record {
  ran = record {
    is_run = auxiliary.ran.is_run;
    there = auxiliary.ran.there;
    generation = auxiliary.ran.generation;
    off = auxiliary.ran.off;
    auxiliaries = λ s there. auxiliary.ran.auxiliaries s (off s there);
    work = auxiliary.ran.work;
    store = auxiliary.ran.store;
    knows = λ from known. auxiliary.ran.knows from (record { counted = known.counted; come = known.come });
    told = subst (λ (h : Heard). IsRunAs h run.kind run) less.heard auxiliary.ran.told;
    less = less_on before.auxiliaries auxiliaries now.auxiliaries less auxiliary.ran.less;
    sound = auxiliary.ran.sound;
    came = auxiliary.ran.came;
    lost = auxiliary.ran.lost;
    log = auxiliary.ran.log;
    listens = auxiliary.ran.listens;
  };
  alone = auxiliary.alone;
}

-- ---- what is due after its end

pub ran_finishes : (gives : ℕ → Type 0) (run : ChildRun) (at : ℕ) (result : Result (Unit {0}) ServerEnd) (steps : List Step) (before mid now : View) → IsNoted gives run at before mid → if_session run.kind run ≡ []
    → Finishes gives result steps mid now → Finishes gives result ((Runs run (later at before.work.standing) ∷ []) ++ steps) before now
ran_finishes gives run at result steps before mid now noted alone finishes =
    let first : Does gives (Ok tt) (Runs run (later at before.work.standing) ∷ []) before mid = record {
      goes = noted.goes;
      stays = noted.stays;
      ends = tt;
      serves = record { accepted = ap accepted_in (append-nil (journal_by (Runs run (later at before.work.standing)))) ∙ no_accepts run.kept run.generation; sessions = append-nil (if_session run.kind run) ∙ alone };
    } in
    record {
      does = does_then gives result (Runs run (later at before.work.standing) ∷ []) steps before mid now first finishes.does;
      idle = finishes.idle;
      deaf = elim finishes.deaf [ inl same ↦ inl (same ∙ noted.listens) | inr drawn ↦ inr drawn ];
      drawn = λ drawn. finishes.drawn (subst (λ (n : ℕ). is_last_drawn n ≡ true) (sym noted.last_pid) drawn);
    }

pub ran_short : StepsGoOn → KeepsALegalJournal → (gives : ℕ → Type 0) (run : ChildRun) (before mid now : View) → IsRunning before → IsIdle before.work.standing → HasAuxiliaryRun run before mid → NotesNoExit mid now
    → Finishes gives (Err NoMemory) (RunsOn run ∷ []) before now
ran_short goes legal gives run before mid now running idle auxiliary noted = record {
  does = record {
    goes = ran_on goes legal gives run before mid now running idle.rests auxiliary.ran noted;
    stays = tt;
    ends = tt;
    serves = record { accepted = refl; sessions = append-nil (if_session run.kind run) ∙ auxiliary.alone };
  };
  idle = tt;
  deaf = inl (noted.listens ∙ auxiliary.ran.listens);
  drawn = λ drawn. subst (λ (t : Standing). is_last_drawn t.last_pid ≡ true) (sym (noted.standing ∙ ap (λ (w : AtWork). w.standing) auxiliary.ran.work)) drawn;
}
