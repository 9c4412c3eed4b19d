-- What holds of every exchange.
use Rattle.std.{proofs.{Common.{◌≡◌, ◌∙◌, ℕ, List, ◌++◌, length, refl, ap, sym, subst, true}, lemmas.List.append_cancel_left}, specs.Prelude.{codes, Ok}}
use Rattle.sha2.{specs.Sha256.sha256, proofs.Facts256.length-sha256}
use Rattle.base64.{specs.{GeneralPurpose.{IsBytes, decode_of}, Engines.standard}, proofs.EngineFacts.decode_of-encode_of}
use Rattle.pm_hmac.{specs.Hmac.hmac, proofs.HmacLaws.{byte-sha256, byte-xored, length-xored, xored_twice}}
use Rattle.pm_auth.{specs.{Base64.{AreBytes, base64_of}, Kept.{client_key, kept_of}, Scram.{Exchange, Proves, client_final, client_signature, proof_by, without_proof}, Served.{IsFinal, IsProof}, Laws.PasswordProves, declared.secrets.Known.Known}, proofs.Messages.last_parts}

-- ---- one text stands for one list of bytes

ok_same : (one other : List ℕ) → decode_of standard (base64_of one) ≡ decode_of standard (base64_of other)
    → decode_of standard (base64_of one) ≡ Ok one → decode_of standard (base64_of other) ≡ Ok other → one ≡ other
ok_same one other same first second = cc

same_bytes : (one other : List ℕ) → IsBytes one → IsBytes other → base64_of one ≡ base64_of other → one ≡ other
same_bytes one other a b same =
    ok_same one other (ap (decode_of standard) same) (decode_of-encode_of standard one refl a) (decode_of-encode_of standard other refl b)

same_proof : (expected message one other : List ℕ) → IsProof expected message one → IsProof expected message other → one ≡ other
same_proof expected message one other first second =
    same_bytes one other first.are_bytes.each second.are_bytes.each
    (append_cancel_left (codes ",p=") (base64_of one) (base64_of other)
    (append_cancel_left expected (codes ",p=" ++ base64_of one) (codes ",p=" ++ base64_of other)
    (sym (last_parts expected message one first) ∙ last_parts expected message other second)))

-- ---- a password proves

as_long : (a b c d : List ℕ) → length (hmac a b) ≡ length (hmac c d)
as_long a b c d = length-sha256 _ ∙ sym (length-sha256 _)

proof_bytes : (password : List ℕ) (x : Exchange) → AreBytes 32 (proof_by password x)
proof_bytes password x = record {
  whole = length-xored (client_key password x.known.kept.salt) (client_signature x) (as_long _ _ _ _) ∙ length-sha256 _;
  each = byte-xored (client_key password x.known.kept.salt) (client_signature x) (byte-sha256 _) (byte-sha256 _);
}

final : (password : List ℕ) (x : Exchange) → IsFinal x (client_final x (proof_by password x)) (proof_by password x)
final password x = record { are_bytes = proof_bytes password x; message_is = refl }

proves : (password salt : List ℕ) (x : Exchange) → x.known ≡ record { kept = kept_of password salt; has_secret = true } → Proves x (proof_by password x)
proves password salt x is = record {
  has_secret = ap (λ (known : Known). known.has_secret) is;
  key_is =
      ap sha256 (xored_twice (client_key password x.known.kept.salt) (client_signature x) (as_long _ _ _ _))
      ∙ ap (λ (known : Known). sha256 (client_key password known.kept.salt)) is
      ∙ sym (ap (λ (known : Known). known.kept.stored) is);
}

pub password_proves : PasswordProves
password_proves password salt x is = record {
  taken = record { proof = proof_by password x; final = final password x; proves = proves password salt x is; answer_is = refl };
  formed = λ none. none (proof_by password x) (final password x);
  proved = λ refused.
      refused.2 (subst (λ (proof : List ℕ). Proves x proof)
      (same_proof (without_proof x) (client_final x (proof_by password x)) (proof_by password x) refused.0 (final password x) refused.1)
      (proves password salt x is));
}
