use Rattle.std.proofs.{Common.{◌∙◌, ◌++◌, ap, sym}, lemmas.Result.err_from_is_err_and}
use Rattle.pm_auth.{specs.Base64.base64_of, proofs.SecretWords.{kept_parts, keys_text, no_salt, no_server, no_stored, salt_cut, stored_cut, stored_text}}
use Rattle.pm_auth.proofs.kept.kept_in.Goals as goal

pub returns-in_default-clause-none : goal.returns-in_default-clause-none
returns-in_default-clause-none c =
    λ kept says. c.in_default.ensures.none (keys_text kept)
    (says.text_is ∙ kept_parts kept ∙ ap (λ f. f ++ keys_text kept) (sym c.as_bytes.ensures.value))

pub returns-in_default-cut_after-clause-none : goal.returns-in_default-cut_after-clause-none
returns-in_default-cut_after-clause-none c =
    λ kept says. c.in_default-cut_after.ensures.none (base64_of kept.salt) (stored_text kept)
    (salt_cut c.args.text.now c.in-Some.keys.now kept (c.in-Some.ensures.found ∙ ap (λ f. f ++ c.in-Some.keys.now) c.as_bytes.ensures.value) says)

pub returns-in_default-cut_after-2-clause-none : goal.returns-in_default-cut_after-2-clause-none
returns-in_default-cut_after-2-clause-none c =
    λ kept says. c.in_default-cut_after-2.ensures.none (base64_of kept.stored) (base64_of kept.server)
    (stored_cut c.args.text.now c.in-Some.keys.now c.in-Some-cut_after.salt.now c.in-Some-cut_after.rest.now kept (c.in-Some.ensures.found ∙ ap (λ f. f ++ c.in-Some.keys.now) c.as_bytes.ensures.value)
    c.in-Some-cut_after.ensures.found says)

pub returns-in_err-salt_in-clause-none : goal.returns-in_err-salt_in-clause-none
returns-in_err-salt_in-clause-none c =
    let p = err_from_is_err_and c.from_residual.result c.from_residual.ensures.1 in
    rw (p.1, p.2)
    (no_salt c.args.text.now c.in-Some.keys.now c.in-Some-cut_after.salt.now c.in-Some-cut_after.rest.now c.in_err-salt_in.field-0.0 (c.in-Some.ensures.found ∙ ap (λ f. f ++ c.in-Some.keys.now) c.as_bytes.ensures.value)
    c.in-Some-cut_after.ensures.found c.in_err-salt_in.ensures.none)

pub returns-in_err-digest_in-clause-none : goal.returns-in_err-digest_in-clause-none
returns-in_err-digest_in-clause-none c =
    let p = err_from_is_err_and c.from_residual-in_err-digest_in.result c.from_residual-in_err-digest_in.ensures.1 in
    rw (p.1, p.2)
    (no_stored c.args.text.now c.in-Some.keys.now c.in-Some-cut_after.salt.now c.in-Some-cut_after.rest.now c.in-Some-cut_after-2.stored.now
    c.in-Some-cut_after-2.server.now c.in_err-digest_in.field-0.0 (c.in-Some.ensures.found ∙ ap (λ f. f ++ c.in-Some.keys.now) c.as_bytes.ensures.value) c.in-Some-cut_after.ensures.found
    c.in-Some-cut_after-2.ensures.found c.in_err-digest_in.ensures.none)

pub returns-in_err-digest_in-2-clause-none : goal.returns-in_err-digest_in-2-clause-none
returns-in_err-digest_in-2-clause-none c =
    let p = err_from_is_err_and c.from_residual-in_err-digest_in-2.result c.from_residual-in_err-digest_in-2.ensures.1 in
    rw (p.1, p.2)
    (no_server c.args.text.now c.in-Some.keys.now c.in-Some-cut_after.salt.now c.in-Some-cut_after.rest.now c.in-Some-cut_after-2.stored.now
    c.in-Some-cut_after-2.server.now c.in_err-digest_in-2.field-0.0 (c.in-Some.ensures.found ∙ ap (λ f. f ++ c.in-Some.keys.now) c.as_bytes.ensures.value) c.in-Some-cut_after.ensures.found
    c.in-Some-cut_after-2.ensures.found c.in_err-digest_in-2.ensures.none)
