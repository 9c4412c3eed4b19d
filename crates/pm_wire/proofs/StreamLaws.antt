-- Laws: streams of messages that stand apart, and where they fail.
use Rattle.std.proofs.{Common.{◌≡◌, ℕ, List, [], ◌∷◌, ◌++◌, length, refl, sym, ap, subst, ◌∙◌, append_assoc, arith}, lemmas.List.{append_cancel_left, append-nil, length-append}}
use Rattle.pm_wire.specs.Stream.{IsStream, HasNoMessage, StandApart, SplitOneWay, SplitInPieces, FailsOnce, FailsForGood, FailsInPieces}

pub one_way : {M : Type 0} (Is : List ℕ → M → Type 0) → StandApart Is → (stream : List ℕ) (ms ns : List M) (r s : List ℕ)
    → IsStream Is stream ms r → HasNoMessage Is r → IsStream Is stream ns s → HasNoMessage Is s → (ms ≡ ns) × (r ≡ s)
one_way Is apart stream [] [] r s a none_a b none_b = (refl, sym a ∙ b)
one_way Is apart stream [] (n ∷ ns) r s a none_a b none_b = absurd (none_a b.0 b.1 n b.3 (sym a ∙ b.2))
one_way Is apart stream (m ∷ ms) [] r s a none_a b none_b = absurd (none_b a.0 a.1 m a.3 (sym b ∙ a.2))
one_way Is apart stream (m ∷ ms) (n ∷ ns) r s a none_a b none_b =
    let same = apart a.0 b.0 a.1 b.1 m n a.3 b.3 (sym a.2 ∙ b.2) in
    let after : b.1 ≡ a.1 =
    append_cancel_left b.0 b.1 a.1 (sym b.2 ∙ a.2 ∙ ap (λ (front : List ℕ). front ++ a.1) same.0) in
    let rest = one_way Is apart a.1 ms ns r s a.4 none_a (subst (λ (x : List ℕ). IsStream Is x ns s) after b.4) none_b in
    (cc, rest.1)

pub split_one_way : {M : Type 0} (Is : List ℕ → M → Type 0) → StandApart Is → SplitOneWay Is
split_one_way Is apart stream ms ns r s a b = one_way Is apart stream ms ns r s a.whole a.partial b.whole b.partial

pub pieces : {M : Type 0} (Is : List ℕ → M → Type 0) → (first second : List ℕ) (ms ns : List M) (r s : List ℕ)
    → IsStream Is first ms r → IsStream Is (r ++ second) ns s → IsStream Is (first ++ second) (ms ++ ns) s
pieces Is first second [] ns r s a b = subst (λ (x : List ℕ). IsStream Is (x ++ second) ns s) (sym a) b
pieces Is first second (m ∷ ms) ns r s a b =
    (a.0, a.1 ++ second, ap (λ (x : List ℕ). x ++ second) a.2 ∙ append_assoc a.0 a.1 second, a.3, pieces Is a.1 second ms ns r s a.4 b)

pub split_in_pieces : {M : Type 0} (Is : List ℕ → M → Type 0) → SplitInPieces Is
split_in_pieces Is first second ms ns r s a b = record { whole = pieces Is first second ms ns r s a.whole b.whole; partial = b.partial }

pub fails_once : {M F : Type 0} (Is : List ℕ → M → Type 0) (Fails : List ℕ → F → Type 0) (place : F → ℕ) → StandApart Is
    → ((bytes : List ℕ) (f : F) → Fails bytes f → HasNoMessage Is bytes) → ((bytes : List ℕ) (f g : F) → Fails bytes f → Fails bytes g → f ≡ g) → FailsOnce Is Fails place
fails_once Is Fails place apart none one stream ms ns f g a b at_f at_g =
    let same = one_way Is apart stream ms ns at_f.rest at_g.rest at_f.whole (none at_f.rest f at_f.fails) at_g.whole (none at_g.rest g at_g.fails) in
    let fault : f ≡ g = one at_g.rest f g (subst (λ bytes. Fails bytes f) same.1 at_f.fails) at_g.fails in
    (same.0, fault, omega (arith, at_f.stands, at_g.stands, ap length same.1, ap place fault))

pub fails_for_good : {M F : Type 0} (Is : List ℕ → M → Type 0) (Fails : List ℕ → F → Type 0) (place : F → ℕ)
    → ((bytes more : List ℕ) (f : F) → Fails bytes f → Fails (bytes ++ more) f) → FailsForGood Is Fails place
fails_for_good Is Fails place goes_on stream more ms f at h = record {
  rest = h.rest ++ more;
  whole = subst (λ messages. IsStream Is (stream ++ more) messages (h.rest ++ more)) (append-nil ms) (pieces Is stream more ms [] h.rest (h.rest ++ more) h.whole refl);
  fails = goes_on h.rest more f h.fails;
  stands = omega (arith, h.stands, length-append h.rest more, length-append stream more);
}

pub fails_in_pieces : {M F : Type 0} (Is : List ℕ → M → Type 0) (Fails : List ℕ → F → Type 0) (place : F → ℕ) → FailsInPieces Is Fails place
fails_in_pieces Is Fails place first second ms ns r f at split h b counted = record {
  rest = h.rest;
  whole = pieces Is first second ms ns r h.rest split.whole h.whole;
  fails = h.fails;
  stands = omega (arith, h.stands, counted, length-append r second, length-append first second);
}
