use Rattle.std.proofs.Common.{[]}
use Rattle.pm_supervisor_chain.proofs.{StepLists.{book-one_more, journal-one_more, last-one_more, lost-one_more, steps-one_more}, Present.is-there}
use Rattle.pm_supervisor_chain.proofs.laws.steps_go_on.Goals as goal

pub returns : goal.returns
returns c =
    record {
      begins = λ limits. tt;
      step = λ limits before step are may. steps-one_more limits [] before step are may;
      journal = journal-one_more;
      book = book-one_more;
      lost = lost-one_more;
      last = last-one_more;
      there = is-there;
    }
