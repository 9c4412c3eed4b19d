use Rattle.std.proofs.Common.{arith}
use Rattle.pm_wire_back.proofs.BackAgain.{Reads, whole_is, every_is, partial_is, short_is, length_is, form_is}
use Rattle.pm_wire_back.proofs.reading.read_back.Goals as goal

reads : (c : goal.After-back_of) → Reads c.back_of.result c.args.bytes.now
reads c = record { is = c.back_of.ensures.seen; fits = λ i. omega (arith, c.type_inv.bytes i) }

pub returns-clause-whole : goal.returns-clause-whole
returns-clause-whole c = whole_is c.back_of.result c.args.bytes.now (reads c)

pub returns-clause-every : goal.returns-clause-every
returns-clause-every c = every_is c.back_of.result c.args.bytes.now (reads c)

pub returns-clause-short : goal.returns-clause-short
returns-clause-short c = short_is c.back_of.result c.args.bytes.now (reads c)

pub returns-clause-partial : goal.returns-clause-partial
returns-clause-partial c = partial_is c.back_of.result c.args.bytes.now (reads c)

pub returns-clause-bad_length : goal.returns-clause-bad_length
returns-clause-bad_length c = length_is c.back_of.result c.args.bytes.now (reads c)

pub returns-clause-bad_form : goal.returns-clause-bad_form
returns-clause-bad_form c = form_is c.back_of.result c.args.bytes.now (reads c)
