-- What a port tells, whose links had not failed when they were given.
use Rattle.std.{proofs.{Common.{◌≡◌, ℕ, suc, zero, ◌+◌, ◌-◌, List, [], ◌∷◌, ◌++◌, Some, length, refl, ap, arith}, lemmas.List.{length-replicate, map-append}}, specs.Prelude.{Option, map, replicate, slice_get, unwrap_or}}
use Rattle.pm_outside.specs.{Calls.Calls, MemLink.{Begins, link_faults, link_number, link_traffic}, MemPort.visit_of, Visits.{Visits, after_done}, declared.{link_script.LinkScript.LinkScript, mem_link.MemLink.MemLink}}

abbrev tells : ℕ → List MemLink → Option ℕ → Visits
tells given back ended = record { given = replicate given 0; back = map visit_of back; ended_behind = ended }

replicate_more : (n zero_faults : ℕ) → zero_faults ≡ 0 → replicate (n + 1) zero_faults ≡ replicate n zero_faults ++ zero_faults ∷ []
replicate_more zero z is = refl
replicate_more (suc n) z is =
    let next : suc n + 1 ≡ suc (n + 1) = omega arith in
    rw next (ap (λ (l : List ℕ). z ∷ l) (replicate_more n z is))

none_failed : (n k : ℕ) → unwrap_or {T = ℕ} (slice_get (replicate n 0) k) 0 ≡ 0
none_failed zero k = refl
none_failed (suc n) zero = refl
none_failed (suc n) (suc k) = none_failed n k

fresh_faults : (script : LinkScript) (link : MemLink) → Begins script link → link_faults link ≡ 0
fresh_faults script link begins =
    let reads = ap (λ (c : Calls). c.failed) begins.reads in
    let writes = ap (λ (c : Calls). c.failed) begins.writes in
    omega (arith, reads, writes)

pub gave_link : (given : ℕ) (back : List MemLink) (ended : Option ℕ) (script : LinkScript) (link : MemLink) → Begins script link
    → tells (given + 1) back ended ≡ record { given = replicate given 0 ++ link_faults link ∷ []; back = map visit_of back; ended_behind = ended }
gave_link given back ended script link begins =
    rw (fresh_faults script link begins)
    (ap (λ (l : List ℕ). record { given = l; back = map visit_of back; ended_behind = ended }) (replicate_more given 0 refl))

pub gave_end : (given : ℕ) (back : List MemLink) (ended : Option ℕ)
    → tells given back (Some (unwrap_or ended given)) ≡ record { given = replicate given 0; back = map visit_of back; ended_behind = Some (unwrap_or ended (length (replicate {A = ℕ} given 0))) }
gave_end given back ended = rw (length-replicate {A = ℕ} given 0) refl

pub took_back : (given : ℕ) (back new : List MemLink) (ended : Option ℕ) (link : MemLink) → new ≡ back ++ link ∷ []
    → tells given new ended ≡ after_done (tells given back ended) (link_number link) (Some (link_traffic link)) (link_faults link)
took_back given back new ended link is =
    rw (is, map-append visit_of back (link ∷ []), none_failed given (link_number link - 1)) refl
