use Rattle.std.proofs.Common.{◌≡◌, ◌-◌, ℕ, List, ◌∷◌, suc, length, arith, ap, sym, subst}
use Rattle.pm_record.{specs.{Found.MeansNothing, Damage.IsFirstWrong, StandsFor.StandsFor}, proofs.{Readers.IsBytes, Numbers.bytes_from_places, Files.{holds, only, errs, nothing, first_wrong}}}
use Rattle.pm_record.proofs.file.read_file.Goals as goal

pub returns-in-Ok-clause-found : goal.returns-in-Ok-clause-found
returns-in-Ok-clause-found c =
    let parts = c.in-Some.ensures.some in
    let fits = (subst IsBytes parts (bytes_from_places c.args.bytes.now (λ i. omega (arith, c.type_inv.bytes i)))).1 in
    let h = holds c.args.file c.in-Some.gate c.in-Some.behind.now c.if-gate-eq0.false fits c.in-Ok.found c.in-Ok.ensures in
    (h.0, subst (λ (bytes : List ℕ). StandsFor bytes h.0 c.in-Ok.found.end) (sym parts) h.1, h.2, h.3)

pub returns-in-Ok-clause-meaning : goal.returns-in-Ok-clause-meaning
returns-in-Ok-clause-meaning c = λ content end s.
    let parts = c.in-Some.ensures.some in
    let fits = (subst IsBytes parts (bytes_from_places c.args.bytes.now (λ i. omega (arith, c.type_inv.bytes i)))).1 in
    only c.args.file c.in-Some.gate c.in-Some.behind.now fits c.in-Ok.found c.in-Ok.ensures content end (subst (λ (bytes : List ℕ). StandsFor bytes content end) parts s)

pub returns-in-Err-Bad-clause-damaged : goal.returns-in-Err-Bad-clause-damaged
returns-in-Err-Bad-clause-damaged c =
    let parts = c.in-Some.ensures.some in
    let behind = c.in-Some.behind.now in
    let fits = (subst IsBytes parts (bytes_from_places c.args.bytes.now (λ i. omega (arith, c.type_inv.bytes i)))).1 in
    let stops = errs c.args.file behind c.in-Err-Bad.left (rw c.in-Err-Bad.field-0-is at c.in-Err-Bad.ensures) in
    let place : suc (length behind) - c.in-Err-Bad.left ≡ c.saturating_sub.result = omega (arith, c.saturating_sub.ensures, ap (λ (l : List ℕ). length l) parts) in (
      subst MeansNothing (sym parts) (nothing c.in-Some.gate behind c.if-gate-eq0.false fits c.in-Err-Bad.left stops),
      subst (λ (bytes : List ℕ). IsFirstWrong bytes c.saturating_sub.result) (sym parts) (subst (IsFirstWrong (c.in-Some.gate ∷ behind)) place (first_wrong c.in-Some.gate behind c.if-gate-eq0.false fits c.in-Err-Bad.left stops)),
    )
