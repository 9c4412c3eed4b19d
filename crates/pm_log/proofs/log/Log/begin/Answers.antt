use Rattle.std.proofs.Common.{subst, sym, rules}
use Rattle.pm_log.{specs.{Half.Half, Making.Makes}, proofs.Begun.makes_begun}
use Rattle.pm_log.proofs.log.Log.begin.Goals as goal

pub returns-clause-makes : goal.returns-clause-makes
returns-clause-makes c = λ content files may.
    subst (λ (h : Half). Makes h c.args.self.now.file c.args.self.now.end content files) (sym c.in_ok-making.ensures)
    (makes_begun c.args.self.now c.args.rows.now content files c.requires.rows c.requires.limits (search (rules, c.if-self.false)) may)
