use Rattle.std.{proofs.Common.{◌∙◌, ◌++◌, refl, ap}, specs.Prelude.codes}
use Rattle.pm_auth.{specs.{Base64.base64_of, Scram.{Exchange, server_first, without_proof}}, proofs.Messages.signed_as}
use Rattle.pm_auth.proofs.exchange.Server.start.Goals as goal

pub returns-clause-ok : goal.returns-clause-ok
returns-clause-ok c =
    let x : Exchange = record {
      binding = c.in-Some.said.binding;
      bare = c.in-Some.said.bare.now;
      nonce = c.in-Some.said.nonce.now ++ c.args.nonce.now;
      known = c.known-known.result;
    } in
    record {
      x = x;
      begins = record { client_nonce = c.in-Some.said.nonce.now; first = c.in-Some.ensures.found; nonce_is = refl };
      known = c.known-known.ensures;
      serves = record {
        expected = c.in_ok-expected.ensures;
        signature =
            c.signed_by.ensures
            ∙ signed_as x.known.kept.stored x.bare c.deref-3.result.now (server_first x) c.deref-4.result.now (without_proof x)
            (c.deref-3.ensures.value ∙ c.in_ok-first.ensures) (c.deref-4.ensures.value ∙ c.in_ok-expected.ensures);
        stored = refl;
        has_secret = refl;
        answer =
            c.in_ok-last_text.ensures
            ∙ ap (λ signature. codes "v=" ++ base64_of signature)
            (c.signed_by-shown.ensures
            ∙ signed_as x.known.kept.server x.bare c.deref.result.now (server_first x) c.deref-2.result.now (without_proof x)
            (c.deref.ensures.value ∙ c.in_ok-first.ensures) (c.deref-2.ensures.value ∙ c.in_ok-expected.ensures));
      };
      answer_is = c.in_ok-first.ensures;
    }
