use Rattle.pm_top_words.specs.declared.words.Command.TheVariants.{Serve}
use Rattle.pm_top.proofs.Lines.{no_line}
use Rattle.pm_top.proofs.top.serve_line.Goals as goal

pub returns-in-Serve-clause-found : goal.returns-in-Serve-clause-found
returns-in-Serve-clause-found c = record {
  port = c.in-Serve.port;
  dir = c.in-Ok.line.dir.now;
  line = rw c.in-Serve.is at c.in-Ok.ensures.line;
  only = rw c.in-Serve.is at c.in-Ok.ensures.only;
}

pub returns-in-Err-clause-none : goal.returns-in-Err-clause-none
returns-in-Err-clause-none c = λ port dir line. no_line _ (Serve port) dir c.in-Err.ensures.usage line
