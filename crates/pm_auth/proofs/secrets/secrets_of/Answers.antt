use Rattle.std.{proofs.Common.{◌∙◌, ◌+◌, List, [], ap, subst, sym, take}, specs.List.list_any}
use Rattle.pm_auth.{specs.{Secrets.{IsNoSecret, SaysSecret, SecretsSay, is_of}, declared.{secrets.Secret.Secret, fault.WordNo.WordNo}}, proofs.Listing.{next_secret, none_distinct, odd, repeats}}
use Rattle.pm_auth.proofs.secrets.secrets_of.Goals as goal

pub loop-index-init : goal.loop-index-init
loop-index-init c =
    subst (λ (xs : List Secret). SecretsSay [] xs) (sym c.new-secrets.ensures.items) (record { say = tt; distinct = none_distinct })

pub returns-in-Err-Form-clause-misfit : goal.returns-in-Err-Form-clause-misfit
returns-in-Err-Form-clause-misfit c =
    odd SecretsSay SaysSecret c.args.words.now c.loop-index.index c.loop-index.secrets.items c.index-words-index.result c.as_str.result.now
    c.loop-index-test.true c.index-words-index.is c.as_str.ensures.bytes c.loop-index.invariant
    (subst (λ (w : WordNo). IsNoSecret c.as_str.result.now w) c.in-Err-Form.field-0-is c.in-Err-Form.ensures.none)

pub returns-then-is_taken-clause-misfit : goal.returns-then-is_taken-clause-misfit
returns-then-is_taken-clause-misfit c =
    repeats c.args.words.now c.loop-index.index c.loop-index.secrets.items c.index-words-index.result c.as_str.result.now c.in-Ok.secret
    c.loop-index-test.true c.index-words-index.is c.as_str.ensures.bytes c.loop-index.invariant c.in-Ok.ensures.said
    (ap (λ (xs : List Secret). list_any (is_of c.in-Ok.secret.user) xs) (sym c.as_slice.ensures.value) ∙ sym c.is_taken.ensures ∙ c.if-is_taken.true)

pub loop-index-preserved : goal.loop-index-preserved
loop-index-preserved c =
    subst (λ (xs : List Secret). SecretsSay (take (c.loop-index.index + 1) c.args.words.now) xs) (sym c.in_ok-push.ensures.items)
    (next_secret c.args.words.now c.loop-index.index c.loop-index.secrets.items c.index-words-index.result c.as_str.result.now c.in-Ok.secret
    c.loop-index-test.true c.index-words-index.is c.as_str.ensures.bytes c.loop-index.invariant c.in-Ok.ensures.said
    (ap (λ (xs : List Secret). list_any (is_of c.in-Ok.secret.user) xs) (sym c.as_slice.ensures.value) ∙ sym c.is_taken.ensures
    ∙ c.if-is_taken.false))
