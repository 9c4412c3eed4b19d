use Rattle.std.proofs.Common.{arith}
use Rattle.pm_wire.proofs.FrontRead.{Reads, whole_is, every_is, bad_is, never_bad_form, undecided_is, short_is, least_is}
use Rattle.pm_wire.proofs.front.Front.read.Goals as goal

reads : (c : goal.After-front_of) → Reads c.front_of.result c.args.bytes.now
reads c = record { is = c.front_of.ensures; fits = λ i. omega (arith, c.type_inv.bytes i) }

pub returns-clause-whole : goal.returns-clause-whole
returns-clause-whole c = whole_is c.front_of.result c.args.bytes.now (reads c)

pub returns-clause-every : goal.returns-clause-every
returns-clause-every c = every_is c.front_of.result c.args.bytes.now (reads c)

pub returns-clause-bad_length : goal.returns-clause-bad_length
returns-clause-bad_length c = bad_is c.front_of.result c.args.bytes.now (reads c)

pub returns-clause-no_bad_form : goal.returns-clause-no_bad_form
returns-clause-no_bad_form c = never_bad_form c.front_of.result c.args.bytes.now (reads c)

pub returns-clause-undecided : goal.returns-clause-undecided
returns-clause-undecided c = undecided_is c.front_of.result c.args.bytes.now (reads c)

pub returns-clause-short : goal.returns-clause-short
returns-clause-short c = short_is c.front_of.result c.args.bytes.now (reads c)

pub returns-clause-least : goal.returns-clause-least
returns-clause-least c = least_is c.front_of.result c.args.bytes.now (reads c)
