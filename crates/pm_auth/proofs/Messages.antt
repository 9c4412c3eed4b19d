-- Messages and their parts.
use Rattle.std.{proofs.{Common.{◌≡◌, ◌∙◌, ℕ, List, ◌∷◌, ◌++◌, sym, ap, subst, append_assoc}, lemmas.List.append_cancel_left}, specs.Prelude.{codes, true, false, IsTrue, Result, Ok, Err, IfErr}}
use Rattle.pm_hmac.specs.Hmac.{hmac}
use Rattle.pm_auth.{specs.{Base64.{IsBase64, IsNoBase64, base64_of}, Cuts.{IsCut, IsFreeOf}, Scram.{IsBare, IsNonce, header}, Served.{HasNoProof, IsNoFirst, IsProof}, declared.{first_message.Binding.{Binding, TheVariants.{Unsupported, Unoffered}}, fault.WordNo.{WordNo, TheVariants.{Form, NoMemory}}}}, proofs.Cutting.{cut_once, no_cut}}

-- ---- the client's first message

pub bare_parts : (name nonce : List ℕ) → codes "n=" ++ name ++ codes ",r=" ++ nonce ≡ codes "n=" ++ (name ++ 44 ∷ (codes "r=" ++ nonce))
bare_parts name nonce = append_assoc (codes "n=" ++ name) (codes ",r=") nonce

-- what stands after `n=`
pub named_cut : (bare named nonce : List ℕ) → bare ≡ codes "n=" ++ named → (is : IsBare bare nonce) → IsCut 44 named is.name (codes "r=" ++ nonce)
named_cut bare named nonce front is = record {
  front_is = is.name_is;
  whole_is = append_cancel_left (codes "n=") named (is.name ++ 44 ∷ (codes "r=" ++ nonce)) (sym front ∙ is.bare_is ∙ bare_parts is.name nonce);
}

pub nonce_is : (bare named name rest nonce : List ℕ) → bare ≡ codes "n=" ++ named → IsCut 44 named name rest → IsBare bare nonce → rest ≡ codes "r=" ++ nonce
nonce_is bare named name rest nonce front cut is =
    (cut_once 44 named name rest is.name (codes "r=" ++ nonce) cut (named_cut bare named nonce front is)).1

pub no_name : (bare named nonce : List ℕ) → bare ≡ codes "n=" ++ named → IsFreeOf 44 named → IsBare bare nonce → ⊥
no_name bare named nonce front free is = no_cut 44 named is.name (codes "r=" ++ nonce) free (named_cut bare named nonce front is)

pub no_nonce : (bare named name rest said nonce : List ℕ) → bare ≡ codes "n=" ++ named → IsCut 44 named name rest → rest ≡ codes "r=" ++ said
    → ¬ (IsNonce said) → IsBare bare nonce → ⊥
no_nonce bare named name rest said nonce front cut is_said none is =
    none (subst (λ (n : List ℕ). IsNonce n)
    (sym (append_cancel_left (codes "r=") said nonce (sym is_said ∙ nonce_is bare named name rest nonce front cut is))) is.nonce_is)

pub is_bare : (bare named name rest nonce : List ℕ) → bare ≡ codes "n=" ++ named → IsCut 44 named name rest → rest ≡ codes "r=" ++ nonce → IsNonce nonce → IsBare bare nonce
is_bare bare named name rest nonce front cut is_said nonce_is = record {
  name = name;
  name_is = cut.front_is;
  nonce_is = nonce_is;
  bare_is = front ∙ ap (λ n. codes "n=" ++ n) (cut.whole_is ∙ ap (λ r. name ++ 44 ∷ r) is_said) ∙ sym (bare_parts name nonce);
}

pub never : {P : Type 0} → (P → IsTrue false) → ¬ P
never to = λ p. let untrue : false ≡ true = to p in absurd (cc)

-- two headers before the same message
same_bare : (one other : Binding) (bare bare' : List ℕ) → header one ++ bare ≡ header other ++ bare' → bare ≡ bare'
same_bare Unsupported Unsupported bare bare' e = cc
same_bare Unsupported Unoffered bare bare' e = cc
same_bare Unoffered Unsupported bare bare' e = cc
same_bare Unoffered Unoffered bare bare' e = cc

pub no_first : (message bare : List ℕ) (binding : Binding) → message ≡ header binding ++ bare → ((nonce : List ℕ) → ¬ (IsBare bare nonce)) → IsNoFirst message
no_first message bare binding is none = λ binding' bare' nonce first.
    none nonce (subst (λ (b : List ℕ). IsBare b nonce) (sym (same_bare binding binding' bare bare' (sym is ∙ first.message_is))) first.is_bare)

-- ---- what is signed

pub signed_as : (key bare first first' expected expected' : List ℕ) → first ≡ first' → expected ≡ expected'
    → hmac key (bare ++ 44 ∷ first ++ 44 ∷ expected) ≡ hmac key (bare ++ 44 ∷ first' ++ 44 ∷ expected')
signed_as key bare first first' expected expected' one two =
    ap (λ f. hmac key (bare ++ 44 ∷ f ++ 44 ∷ expected)) one ∙ ap (λ e. hmac key (bare ++ 44 ∷ first' ++ 44 ∷ e)) two

-- ---- the client's last message

pub last_parts : (expected message proof : List ℕ) → IsProof expected message proof → message ≡ expected ++ (codes ",p=" ++ base64_of proof)
last_parts expected message proof is = is.message_is ∙ append_assoc expected (codes ",p=") (base64_of proof)

pub last_is : (expected message last proof : List ℕ) → message ≡ expected ++ last → IsProof expected message proof → last ≡ codes ",p=" ++ base64_of proof
last_is expected message last proof front is =
    append_cancel_left expected last (codes ",p=" ++ base64_of proof) (sym front ∙ last_parts expected message proof is)

pub text_is : (expected message last text proof : List ℕ) → message ≡ expected ++ last → last ≡ codes ",p=" ++ text → IsProof expected message proof
    → text ≡ base64_of proof
text_is expected message last text proof front next is =
    append_cancel_left (codes ",p=") text (base64_of proof) (sym next ∙ last_is expected message last proof front is)

pub is_proof : (expected message last text proof : List ℕ) → message ≡ expected ++ last → last ≡ codes ",p=" ++ text → IsBase64 32 text proof
    → IsProof expected message proof
is_proof expected message last text proof front next is = record {
  are_bytes = is.are_bytes;
  message_is = front ∙ ap (λ tail. expected ++ tail) (next ∙ ap (λ t. codes ",p=" ++ t) is.text_is) ∙ sym (append_assoc expected (codes ",p=") (base64_of proof));
}

no_proof : (expected message last text : List ℕ) (why : WordNo) → message ≡ expected ++ last → last ≡ codes ",p=" ++ text → IsNoBase64 32 text why
    → HasNoProof expected message why
no_proof expected message last text Form front next none =
    λ proof is. none proof (record { are_bytes = is.are_bytes; text_is = text_is expected message last text proof front next is })
no_proof expected message last text NoMemory front next none = tt

pub no_proof_in : (expected message last text : List ℕ) (r : Result (List ℕ) WordNo) → message ≡ expected ++ last → last ≡ codes ",p=" ++ text
    → IfErr r (IsNoBase64 32 text) → IfErr r (HasNoProof expected message)
no_proof_in expected message last text (Ok proof) front next none = tt
no_proof_in expected message last text (Err why) front next none = no_proof expected message last text why front next none
