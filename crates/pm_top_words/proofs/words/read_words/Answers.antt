use Rattle.std.{proofs.{Common.{◌≡◌, ◌-◌, ℕ, List, ◌∷◌, Some, length, take, drop, sym, ◌∙◌, ap, subst, arith}, lemmas.Option.same_Some}, specs.{Borrow.Bor, Prelude.option_map}}
use Rattle.pm_top_words.{specs.Words.{ReservesFewer, command_of, conf_of, folder_of}, proofs.{Givens.cons_words, Lines.{given, not_none}}}
use Rattle.pm_top_words.proofs.words.read_words.Goals as goal

pub returns-in_default-read_settings-clause-usage : goal.returns-in_default-read_settings-clause-usage
returns-in_default-read_settings-clause-usage c = λ command dir conf line.
    let words = cons_words c.args.words.now c.first-item.result c.as_str.result.now c.in-len1-up.len_at_least c.first-item.is c.as_str.ensures.bytes
    ∙ ap (λ w. w ∷ take (length c.args.words.now - 1) (drop 1 c.args.words.now)) c.in-Some.ensures.found in
    let is = given c.args.words.now c.in-Some.verb _ command dir conf words line in
    c.in_default-read_settings.ensures.none is.after is.leaves

pub returns-in_default-command-clause-usage : goal.returns-in_default-command-clause-usage
returns-in_default-command-clause-usage c = λ command dir conf line.
    let words = cons_words c.args.words.now c.first-item.result c.as_str.result.now c.in-len1-up.len_at_least c.first-item.is c.as_str.ensures.bytes
    ∙ ap (λ w. w ∷ take (length c.args.words.now - 1) (drop 1 c.args.words.now)) c.in-Some.ensures.found in
    let is = given c.args.words.now c.in-Some.verb _ command dir conf words line in
    let after = c.in-Some-read_settings.ensures.only is.after is.leaves in
    not_none command (sym is.asks ∙ ap (command_of c.in-Some.verb) after ∙ sym c.command.ensures ∙ c.in_default-command.is)

pub returns-then-conf-clause-usage : goal.returns-then-conf-clause-usage
returns-then-conf-clause-usage c = λ command dir conf line.
    let words = cons_words c.args.words.now c.first-item.result c.as_str.result.now c.in-len1-up.len_at_least c.first-item.is c.as_str.ensures.bytes
    ∙ ap (λ w. w ∷ take (length c.args.words.now - 1) (drop 1 c.args.words.now)) c.in-Some.ensures.found in
    let is = given c.args.words.now c.in-Some.verb _ command dir conf words line in
    let after = c.in-Some-read_settings.ensures.only is.after is.leaves in
    let fewer : ReservesFewer c.conf-conf.result = subst ReservesFewer (ap conf_of after ∙ sym c.conf-conf.ensures) is.reserves in
    absurd (omega (arith, fewer, c.if-conf.true))

pub returns-in-Some-folder-clause-only : goal.returns-in-Some-folder-clause-only
returns-in-Some-folder-clause-only c = λ command dir conf line.
    let words = cons_words c.args.words.now c.first-item.result c.as_str.result.now c.in-len1-up.len_at_least c.first-item.is c.as_str.ensures.bytes
    ∙ ap (λ w. w ∷ take (length c.args.words.now - 1) (drop 1 c.args.words.now)) c.in-Some.ensures.found in
    let is = given c.args.words.now c.in-Some.verb _ command dir conf words line in
    let after = c.in-Some-read_settings.ensures.only is.after is.leaves in
    let asks : Some command ≡ Some c.in-Some-command.command = sym is.asks ∙ ap (command_of c.in-Some.verb) after ∙ sym c.command.ensures ∙ c.in-Some-command.is in
    let folder : Some dir ≡ Some c.in-Some-folder.dir.now =
    sym is.folder ∙ ap (folder_of c.in-Some.verb) after ∙ sym c.folder.ensures ∙ ap (option_map (λ (d : Bor (List ℕ)). d.now)) c.in-Some-folder.is in
    (same_Some command c.in-Some-command.command asks, same_Some dir c.in-Some-folder.dir.now folder, is.conf_is ∙ ap conf_of after ∙ sym c.conf-conf.ensures)

pub returns-in-None-clause-usage : goal.returns-in-None-clause-usage
returns-in-None-clause-usage c = λ command dir conf line.
    let words = cons_words c.args.words.now c.first-item.result c.as_str.result.now c.in-len1-up.len_at_least c.first-item.is c.as_str.ensures.bytes
    ∙ ap (λ w. w ∷ take (length c.args.words.now - 1) (drop 1 c.args.words.now)) c.in-Some.ensures.found in
    let is = given c.args.words.now c.in-Some.verb _ command dir conf words line in
    let after = c.in-Some-read_settings.ensures.only is.after is.leaves in
    not_none dir (sym is.folder ∙ ap (folder_of c.in-Some.verb) after ∙ sym c.folder.ensures ∙ ap (option_map (λ (d : Bor (List ℕ)). d.now)) c.in-None.is)
