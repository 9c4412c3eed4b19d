-- The links of a port: those that are out, and those that came back.
use Rattle.std.{proofs.{Common.{◌≡◌, ℕ, ◌+◌, ◌-◌, ◌≤◌, ◌<◌, List, [], ◌∷◌, ◌++◌, length, Option, None, Some, option_map, IfSome, refl, sym, ◌∙◌, ap, subst, arith, append_assoc, append-nil, length-append}, lemmas.{List.{length-map, map-append}, Option.slice_get-get_or}, Math.Seq.get_or-append_seam}, specs.Prelude.{map, slice_get, unwrap_or}}
use Rattle.pm_session.specs.{pm_outside.Visits.{Visit, Visits, after_done, faults_when_given}, pm_session_exchange.Exchange.LinkView}
use Rattle.pm_once.specs.Service.{Connection, visit_of, with_connections, with_link}

-- one that was given is out
pub one_is_out : (faults : ℕ) (before now : Option Visits) → IfSome before (λ v. length v.back ≤ length v.given) → now ≡ option_map (with_link faults) before → IfSome now (λ v. length v.back < length v.given)
one_is_out faults None now balanced is = subst (λ (n : Option Visits). IfSome n (λ v. length v.back < length v.given)) (sym is) tt
one_is_out faults (Some v) now balanced is = subst (λ (n : Option Visits). IfSome n (λ v. length v.back < length v.given)) (sym is) (omega (arith, balanced, length-append v.given (faults ∷ [])))

-- how often the link that was given last had failed
last_given : (faults number : ℕ) (v : Visits) → number ≡ length v.given + 1 → faults_when_given (with_link faults v) number ≡ faults
last_given faults number v is =
    let all = v.given ++ faults ∷ [] in
    let place : number - 1 ≡ length v.given = omega (arith, is) in
    ap (λ (n : ℕ). unwrap_or (slice_get all n) 0) place
    ∙ ap (λ (o : Option ℕ). unwrap_or o 0) (slice_get-get_or all (length v.given) 0 (omega (arith, length-append v.given (faults ∷ []))))
    ∙ get_or-append_seam v.given faults [] 0

-- a link was given and came back
abbrev with_visit : Connection → Visits → Visits
with_visit c v = record v { given = v.given ++ c.given.faults ∷ []; back = v.back ++ visit_of c ∷ [] }

came_back : (c : Connection) (v : Visits) → c.back.number ≡ length v.given + 1
    → after_done (with_link c.given.faults v) c.back.number c.back.traffic c.back.faults ≡ with_visit c v
came_back c v is =
    ap (λ (f : ℕ). record (with_link c.given.faults v) { back = v.back ++ record { number = c.back.number; traffic = c.back.traffic; faults_given = f; faults_back = c.back.faults } ∷ [] })
    (last_given c.given.faults c.back.number v is)

one_more : (cs : List Connection) (c : Connection) (v : Visits) → with_visit c (with_connections cs v) ≡ with_connections (cs ++ c ∷ []) v
one_more cs c v =
    ap (λ (g : List ℕ). record v { given = g; back = (v.back ++ map visit_of cs) ++ visit_of c ∷ [] })
    (append_assoc v.given (map (λ (d : Connection). d.given.faults) cs) (c.given.faults ∷ []) ∙ ap (λ (l : List ℕ). v.given ++ l) (sym (map-append (λ (d : Connection). d.given.faults) cs (c ∷ []))))
    ∙ ap (λ (b : List Visit). record v { given = v.given ++ map (λ (d : Connection). d.given.faults) (cs ++ c ∷ []); back = b })
    (append_assoc v.back (map visit_of cs) (visit_of c ∷ []) ∙ ap (λ (l : List Visit). v.back ++ l) (sym (map-append visit_of cs (c ∷ []))))

-- one connection more
pub all_back : (cs : List Connection) (c : Connection) (start before mid now : Option Visits) → before ≡ option_map (with_connections cs) start → mid ≡ option_map (with_link c.given.faults) before
    → IfSome before (λ v. c.back.number ≡ length v.given + 1) → now ≡ option_map (λ v. after_done v c.back.number c.back.traffic c.back.faults) mid → now ≡ option_map (with_connections (cs ++ c ∷ [])) start
all_back cs c None before mid now was given numbered done =
    done ∙ ap (option_map (λ (v : Visits). after_done v c.back.number c.back.traffic c.back.faults)) (given ∙ ap (option_map (with_link c.given.faults)) was)
all_back cs c (Some v) before mid now was given numbered done =
    done ∙ ap (option_map (λ (v : Visits). after_done v c.back.number c.back.traffic c.back.faults)) (given ∙ ap (option_map (with_link c.given.faults)) was)
    ∙ ap (λ (w : Visits). Some w) (came_back c (with_connections cs v) (subst (λ (o : Option Visits). IfSome o (λ w. c.back.number ≡ length w.given + 1)) was numbered) ∙ one_more cs c v)

-- a link's number is that of its place
pub number_here : (cs : List Connection) (number : ℕ) (start before : Option Visits) → before ≡ option_map (with_connections cs) start → IfSome before (λ v. number ≡ length v.given + 1)
    → IfSome start (λ v. number ≡ length v.given + length cs + 1)
number_here cs number None before was numbered = tt
number_here cs number (Some v) before was numbered =
    let here : number ≡ length (v.given ++ map (λ (d : Connection). d.given.faults) cs) + 1 = subst (λ (o : Option Visits). IfSome o (λ w. number ≡ length w.given + 1)) was numbered in
    omega (arith, here, length-append v.given (map (λ (d : Connection). d.given.faults) cs), length-map cs (λ (d : Connection). d.given.faults))

pub all_back_as : (cs : List Connection) (c : Connection) (given back : LinkView) (start before mid now : Option Visits) → c.given ≡ given → c.back ≡ back → back.number ≡ given.number
    → before ≡ option_map (with_connections cs) start → mid ≡ option_map (with_link given.faults) before → IfSome before (λ v. given.number ≡ length v.given + 1)
    → now ≡ option_map (λ v. after_done v back.number back.traffic back.faults) mid → now ≡ option_map (with_connections (cs ++ c ∷ [])) start
all_back_as cs c given back start before mid now is_given is_back same was gave numbered done =
    all_back cs c start before mid now was (subst (λ (g : LinkView). mid ≡ option_map (with_link g.faults) before) (sym is_given) gave)
    (subst (λ (b : LinkView). IfSome before (λ v. b.number ≡ length v.given + 1)) (sym is_back) (subst (λ (n : ℕ). IfSome before (λ v. n ≡ length v.given + 1)) (sym same) numbered))
    (subst (λ (b : LinkView). now ≡ option_map (λ v. after_done v b.number b.traffic b.faults) mid) (sym is_back) done)

-- one change after another
pub both_changes : (f h : Visits → Visits) (start mid now : Option Visits) → mid ≡ option_map f start → now ≡ option_map h mid → now ≡ option_map (λ v. h (f v)) start
both_changes f h None mid now first second = second ∙ ap (option_map h) first
both_changes f h (Some v) mid now first second = second ∙ ap (option_map h) first

pub no_change : (start : Option Visits) → start ≡ option_map (with_connections []) start
no_change None = refl
no_change (Some v) =
    ap (λ (g : List ℕ). Some (record v { given = g })) (sym (append-nil v.given)) ∙ ap (λ (b : List Visit). Some (record v { given = v.given ++ []; back = b })) (sym (append-nil v.back))
