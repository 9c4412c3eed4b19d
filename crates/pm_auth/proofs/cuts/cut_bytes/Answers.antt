use Rattle.std.proofs.Common.{sym, ◌∙◌}
use Rattle.pm_auth.proofs.Cutting.{bytes_cut, uncut}
use Rattle.pm_auth.proofs.cuts.cut_bytes.Goals as goal

pub returns-in_err-end-clause-none : goal.returns-in_err-end-clause-none
returns-in_err-end-clause-none c =
    rw c.from_residual.ensures (uncut c.args.at c.args.bytes.now (sym c.place_of.ensures ∙ c.in_err-end.was))

pub returns-clause-found : goal.returns-clause-found
returns-clause-found c = bytes_cut c.args.at c.args.bytes.now c.in_ok-end.end (sym c.place_of.ensures ∙ c.in_ok-end.was)
