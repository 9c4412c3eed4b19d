use Rattle.std.{proofs.Common.{Some, is_some, sym, ap, subst, ◌∙◌}, specs.{BTreeMap.UpdatesBy, String.{string_cmp, string_bytes}, Ordering.nat_cmp, Cmp.Lexicographic.slice_cmp, Option.option_copied_mut}}
use Rattle.pm_tables.proofs.{HeldLaws.{not_some, on_ok}, FateLaws.{noted_there, noted_first}}
use Rattle.pm_tables.proofs.tables.Tables.note.Goals as goal

pub returns-in-Some : goal.returns-in-Some
returns-in-Some c =
    on_ok c.note.result
    (λ notes tables are.
    let written = c.get_mut.follows.holds c.note.new.self in
    noted_there c.args.self.now tables c.args.fates.now (c.get_mut.follows.lender c.note.new.self) c.args.change.now c.in-Some.fate.now c.note.new.self c.as_str-name.result.now
    (c.as_str-name.ensures.bytes ∙ c.table.ensures) written.4 (written.3 (ap is_some (sym c.in-Some.ensures.value))) notes are c.in-Some.ensures.value)
    c.note.ensures

pub returns : goal.returns
returns c tables are =
    noted_first c.args.self.now tables c.args.fates.now c.insert.new.self c.args.change.now c.first_fate-fate.result c.note-2.new.self c.as_str-name.result.now
    (c.as_str-name.ensures.bytes ∙ c.table.ensures) c.in_ok-insert.ensures.ordered
    (subst (λ n. UpdatesBy string_cmp (λ k. slice_cmp nat_cmp n (string_bytes k)) c.args.fates.now c.insert.new.self (Some c.note-2.new.self)) c.in_ok-from_str.ensures.ok
    (subst (λ fates. UpdatesBy string_cmp (string_cmp c.in_ok-from_str.field-0) fates c.insert.new.self (Some c.note-2.new.self)) c.get_mut.follows.holds-at-none c.in_ok-insert.ensures.updates))
    c.in_ok-note.ensures are
    (sym c.get_mut.ensures.value ∙ ap option_copied_mut (not_some c.get_mut.result c.in_default.not-Some))
    c.first_fate-fate.ensures
