-- Who is on the roll, and who sits.
use Rattle.std.{proofs.{Common.{◌≡◌, ◌≢◌, ℕ, zero, suc, ◌<◌, ◌≤◌, List, [], ◌∷◌, refl, sym, ap, subst, ◌∙◌, length, set, arith, nat_eq}, lemmas.Bool.{eqb-true, eqb-false, ne_eqb, eq-eqb}}, specs.Prelude.{Bool, if◌then◌else◌, Option, Some, None, IfSome}}
use Rattle.pm_board.specs.{pm_facts.Bools.by_test, pm_exit.declared.child.Kind.Kind}
use Rattle.pm_supervisor_journal.specs.{declared.roll.Enrolled.Enrolled, Roll.{kind_in, without}}
use Rattle.pm_board_acts.specs.{Board.seat_at, Standing.{kind_seated, DifferOn, SitBelow, AreOnRoll, SitApart}}

-- a pid above all that sit isn't among them
pub none_above : (pid last : ℕ) (seats : List (Option Enrolled)) → SitBelow last seats → last < pid → kind_seated pid seats ≡ None
none_above pid last [] below above = refl
none_above pid last (None ∷ seats) below above = none_above pid last seats below.1 above
none_above pid last (Some c ∷ seats) below above =
    let ne : c.pid ≢ pid = (λ (is : c.pid ≡ pid). let low : c.pid ≤ last = below.0 in absurd (omega arith)) in
    ap (λ (b : Bool). if b then Some c.kind else kind_seated pid seats) (ne_eqb c.pid pid ne) ∙ none_above pid last seats below.1 above

pub below_later : (a b : ℕ) (seats : List (Option Enrolled)) → a ≤ b → SitBelow a seats → SitBelow b seats
below_later a b [] le below = tt
below_later a b (None ∷ seats) le below = (tt, below_later a b seats le below.1)
below_later a b (Some c ∷ seats) le below = ((let low : c.pid ≤ a = below.0 in omega arith), below_later a b seats le below.1)

pub below_set : (last k : ℕ) (seat : Option Enrolled) (seats : List (Option Enrolled)) → IfSome seat (λ c. c.pid ≤ last) → SitBelow last seats → SitBelow last (set seats k seat)
below_set last k seat [] here below = tt
below_set last zero seat (x ∷ seats) here below = (here, below.1)
below_set last (suc k) seat (x ∷ seats) here below = (below.0, below_set last k seat seats here below.1)

pub below_at : (last k : ℕ) (c : Enrolled) (seats : List (Option Enrolled)) → SitBelow last seats → seat_at k seats ≡ Some c → c.pid ≤ last
below_at last k c [] below is = absurd (let no_ : ◌≡◌ {A = Option Enrolled} None (Some c) = is in cc)
below_at last zero c (x ∷ seats) below is = subst (λ (s : Option Enrolled). IfSome s (λ d. d.pid ≤ last)) is below.0
below_at last (suc k) c (x ∷ seats) below is = below_at last k c seats below.1 is

-- a new child sits down on a free seat
pub seated_new : (k pid : ℕ) (kind : Kind) (seats : List (Option Enrolled)) → k < length seats → seat_at k seats ≡ None → kind_seated pid seats ≡ None
    → (p : ℕ) → kind_seated p (set seats k (Some (record { pid = pid; kind = kind }))) ≡ (if nat_eq pid p then Some kind else kind_seated p seats)
seated_new k pid kind [] near free new p = absurd (omega arith)
seated_new zero pid kind (x ∷ seats) near free new p =
    ap (λ (y : Option Enrolled). if nat_eq pid p then Some kind else kind_seated p (y ∷ seats)) (sym free)
seated_new (suc k) pid kind (None ∷ seats) near free new p = seated_new k pid kind seats (omega arith) free new p
seated_new (suc k) pid kind (Some c ∷ seats) near free new p = by_test (nat_eq c.pid p)
    (λ is. by_test (nat_eq pid p)
    (λ also. let same : c.pid ≡ pid = eqb-true c.pid p is ∙ sym (eqb-true pid p also) in
    let none : None ≡ Some c.kind = sym new ∙ ap (λ (b : Bool). if b then Some c.kind else kind_seated pid seats) (eq-eqb c.pid pid same) in absurd (cc))
    (λ other. ap (λ (b : Bool). if b then Some c.kind else kind_seated p (set seats k (Some (record { pid = pid; kind = kind })))) is
    ∙ (sym (ap (λ (b : Bool). if b then Some c.kind else kind_seated p seats) is)
    ∙ sym (ap (λ (b : Bool). if b then Some kind else (if nat_eq c.pid p then Some c.kind else kind_seated p seats)) other))))
    (λ isnt.
    let rest : kind_seated pid seats ≡ None = by_test (nat_eq c.pid pid)
    (λ same. let none : None ≡ Some c.kind = sym new ∙ ap (λ (b : Bool). if b then Some c.kind else kind_seated pid seats) same in absurd (cc))
    (λ differs. sym (ap (λ (b : Bool). if b then Some c.kind else kind_seated pid seats) differs) ∙ new) in
    ap (λ (b : Bool). if b then Some c.kind else kind_seated p (set seats k (Some (record { pid = pid; kind = kind })))) isnt
    ∙ (seated_new k pid kind seats (omega arith) free rest p
    ∙ ap (λ (o : Option Kind). if nat_eq pid p then Some kind else o) (sym (ap (λ (b : Bool). if b then Some c.kind else kind_seated p seats) isnt))))

-- the child of the slot k stands up: another one sits as it did
pub seated_others : (k p : ℕ) (c : Enrolled) (seats : List (Option Enrolled)) → seat_at k seats ≡ Some c → c.pid ≢ p
    → kind_seated p (set seats k None) ≡ kind_seated p seats
seated_others k p c [] is ne = refl
seated_others zero p c (x ∷ seats) is ne =
    sym (ap (λ (y : Option Enrolled). kind_seated p (y ∷ seats)) is
    ∙ ap (λ (b : Bool). if b then Some c.kind else kind_seated p seats) (ne_eqb c.pid p ne))
seated_others (suc k) p c (None ∷ seats) is ne = seated_others k p c seats is ne
seated_others (suc k) p c (Some d ∷ seats) is ne =
    ap (λ (o : Option Kind). if nat_eq d.pid p then Some d.kind else o) (seated_others k p c seats is ne)

-- who still sits there sat there before somebody stood up
pub stood_before : (k j : ℕ) (c : Enrolled) (seats : List (Option Enrolled)) → seat_at j (set seats k None) ≡ Some c → seat_at j seats ≡ Some c
stood_before k j c [] sits = sits
stood_before zero zero c (x ∷ seats) sits = absurd (let none : None ≡ Some c = sits in cc)
stood_before zero (suc j) c (x ∷ seats) sits = sits
stood_before (suc k) zero c (x ∷ seats) sits = sits
stood_before (suc k) (suc j) c (x ∷ seats) sits = stood_before k j c seats sits

-- ---- the roll

pub without_others : (pid p : ℕ) (cs : List Enrolled) → pid ≢ p → kind_in p (without pid cs) ≡ kind_in p cs
without_others pid p [] ne = refl
without_others pid p (c ∷ cs) ne = by_test (nat_eq c.pid pid)
    (λ is. ap (λ (b : Bool). kind_in p (if b then cs else c ∷ without pid cs)) is
    ∙ sym (ap (λ (b : Bool). if b then Some c.kind else kind_in p cs) (ne_eqb c.pid p (λ (same : c.pid ≡ p). ne (sym (eqb-true c.pid pid is) ∙ same)))))
    (λ isnt. ap (λ (b : Bool). kind_in p (if b then cs else c ∷ without pid cs)) isnt
    ∙ ap (λ (o : Option Kind). if nat_eq c.pid p then Some c.kind else o) (without_others pid p cs ne))

pub without_gone : (pid : ℕ) (cs : List Enrolled) → DifferOn cs → kind_in pid (without pid cs) ≡ None
without_gone pid [] differ = refl
without_gone pid (c ∷ cs) differ = by_test (nat_eq c.pid pid)
    (λ is. ap (λ (b : Bool). kind_in pid (if b then cs else c ∷ without pid cs)) is
    ∙ (ap (λ (q : ℕ). kind_in q cs) (sym (eqb-true c.pid pid is)) ∙ differ.0))
    (λ isnt. ap (λ (b : Bool). kind_in pid (if b then cs else c ∷ without pid cs)) isnt
    ∙ (ap (λ (b : Bool). if b then Some c.kind else kind_in pid (without pid cs)) isnt ∙ without_gone pid cs differ.1))

none_without : (pid p : ℕ) (cs : List Enrolled) → kind_in p cs ≡ None → DifferOn cs → kind_in p (without pid cs) ≡ None
none_without pid p cs none differ = by_test (nat_eq pid p)
    (λ is. ap (λ (q : ℕ). kind_in q (without pid cs)) (sym (eqb-true pid p is)) ∙ without_gone pid cs differ)
    (λ isnt. without_others pid p cs (eqb-false pid p isnt) ∙ none)

pub differ_without : (pid : ℕ) (cs : List Enrolled) → DifferOn cs → DifferOn (without pid cs)
differ_without pid [] differ = tt
differ_without pid (c ∷ cs) differ = by_test (nat_eq c.pid pid)
    (λ is. subst (λ (b : Bool). DifferOn (if b then cs else c ∷ without pid cs)) (sym is) differ.1)
    (λ isnt. subst (λ (b : Bool). DifferOn (if b then cs else c ∷ without pid cs)) (sym isnt)
    (none_without pid c.pid cs differ.0 differ.1, differ_without pid cs differ.1))

-- ---- those that sit

-- it is found where it sits
pub found_kind : (k : ℕ) (c : Enrolled) (seats : List (Option Enrolled)) → SitApart seats → seat_at k seats ≡ Some c → kind_seated c.pid seats ≡ Some c.kind
found_kind k c [] apart is = absurd (let no_ : ◌≡◌ {A = Option Enrolled} None (Some c) = is in cc)
found_kind zero c (x ∷ seats) apart is =
    ap (λ (y : Option Enrolled). kind_seated c.pid (y ∷ seats)) is
    ∙ ap (λ (b : Bool). if b then Some c.kind else kind_seated c.pid seats) (eq-eqb c.pid c.pid refl)
found_kind (suc k) c (None ∷ seats) apart is = found_kind k c seats apart is
found_kind (suc k) c (Some d ∷ seats) apart is = by_test (nat_eq d.pid c.pid)
    (λ same. let none : None ≡ Some c.kind = sym apart.0 ∙ (ap (λ (q : ℕ). kind_seated q seats) (eqb-true d.pid c.pid same) ∙ found_kind k c seats apart.1 is) in absurd (cc))
    (λ other. ap (λ (b : Bool). if b then Some d.kind else kind_seated c.pid seats) other ∙ found_kind k c seats apart.1 is)

none_set : (p k : ℕ) (seats : List (Option Enrolled)) → kind_seated p seats ≡ None → kind_seated p (set seats k None) ≡ None
none_set p k [] none = refl
none_set p zero (None ∷ seats) none = none
none_set p zero (Some c ∷ seats) none = by_test (nat_eq c.pid p)
    (λ is. let no_ : None ≡ Some c.kind = sym none ∙ ap (λ (b : Bool). if b then Some c.kind else kind_seated p seats) is in absurd (cc))
    (λ isnt. sym (ap (λ (b : Bool). if b then Some c.kind else kind_seated p seats) isnt) ∙ none)
none_set p (suc k) (None ∷ seats) none = none_set p k seats none
none_set p (suc k) (Some c ∷ seats) none = by_test (nat_eq c.pid p)
    (λ is. let no_ : None ≡ Some c.kind = sym none ∙ ap (λ (b : Bool). if b then Some c.kind else kind_seated p seats) is in absurd (cc))
    (λ isnt. ap (λ (b : Bool). if b then Some c.kind else kind_seated p (set seats k None)) isnt
    ∙ none_set p k seats (sym (ap (λ (b : Bool). if b then Some c.kind else kind_seated p seats) isnt) ∙ none))

-- nobody else has its pid
pub alone_at : (k : ℕ) (c : Enrolled) (seats : List (Option Enrolled)) → SitApart seats → seat_at k seats ≡ Some c → kind_seated c.pid (set seats k None) ≡ None
alone_at k c [] apart is = refl
alone_at zero c (x ∷ seats) apart is = (subst (λ (y : Option Enrolled). SitApart (y ∷ seats)) is apart).0
alone_at (suc k) c (None ∷ seats) apart is = alone_at k c seats apart is
alone_at (suc k) c (Some d ∷ seats) apart is = by_test (nat_eq d.pid c.pid)
    (λ same. let none : None ≡ Some c.kind = sym apart.0 ∙ (ap (λ (q : ℕ). kind_seated q seats) (eqb-true d.pid c.pid same) ∙ found_kind k c seats apart.1 is) in absurd (cc))
    (λ other. ap (λ (b : Bool). if b then Some d.kind else kind_seated c.pid (set seats k None)) other ∙ alone_at k c seats apart.1 is)

pub apart_none : (k : ℕ) (seats : List (Option Enrolled)) → SitApart seats → SitApart (set seats k None)
apart_none k [] apart = tt
apart_none zero (None ∷ seats) apart = apart
apart_none zero (Some c ∷ seats) apart = apart.1
apart_none (suc k) (None ∷ seats) apart = apart_none k seats apart
apart_none (suc k) (Some c ∷ seats) apart = (none_set c.pid k seats apart.0, apart_none k seats apart.1)

pub apart_some : (k pid : ℕ) (kind : Kind) (seats : List (Option Enrolled)) → k < length seats → seat_at k seats ≡ None → kind_seated pid seats ≡ None → SitApart seats
    → SitApart (set seats k (Some (record { pid = pid; kind = kind })))
apart_some k pid kind [] near free new apart = tt
apart_some zero pid kind (None ∷ seats) near free new apart = (new, apart)
apart_some zero pid kind (Some c ∷ seats) near free new apart = absurd (let no_ : Some c ≡ None = free in cc)
apart_some (suc k) pid kind (None ∷ seats) near free new apart = apart_some k pid kind seats (omega arith) free new apart
apart_some (suc k) pid kind (Some c ∷ seats) near free new apart = by_test (nat_eq c.pid pid)
    (λ is. let no_ : None ≡ Some c.kind = sym new ∙ ap (λ (b : Bool). if b then Some c.kind else kind_seated pid seats) is in absurd (cc))
    (λ isnt.
    let rest : kind_seated pid seats ≡ None = sym (ap (λ (b : Bool). if b then Some c.kind else kind_seated pid seats) isnt) ∙ new in (
      seated_new k pid kind seats (omega arith) free rest c.pid
          ∙ (ap (λ (b : Bool). if b then Some kind else kind_seated c.pid seats) (ne_eqb pid c.pid (λ same. eqb-false c.pid pid isnt (sym same))) ∙ apart.0),
      apart_some k pid kind seats (omega arith) free rest apart.1,
    ))

-- ---- both

-- a new child
pub on_roll_more : (roll : List Enrolled) (seats : List (Option Enrolled)) (last k pid : ℕ) (kind : Kind) → AreOnRoll roll seats last → last < pid
    → k < length seats → seat_at k seats ≡ None
    → AreOnRoll (record { pid = pid; kind = kind } ∷ roll) (set seats k (Some (record { pid = pid; kind = kind }))) pid
on_roll_more roll seats last k pid kind on above near free =
    let new : kind_seated pid seats ≡ None = none_above pid last seats on.below above in
    record {
      same = λ p. ap (λ (o : Option Kind). if nat_eq pid p then Some kind else o) (on.same p) ∙ sym (seated_new k pid kind seats near free new p);
      differ = (on.same pid ∙ new, on.differ);
      apart = apart_some k pid kind seats near free new on.apart;
      below = below_set pid k (Some (record { pid = pid; kind = kind })) seats (let e : pid ≤ pid = omega arith in e) (below_later last pid seats (omega arith) on.below);
    }

-- and one that is gone
pub on_roll_less : (roll : List Enrolled) (seats : List (Option Enrolled)) (last k : ℕ) (c : Enrolled) → AreOnRoll roll seats last
    → seat_at k seats ≡ Some c
    → AreOnRoll (without c.pid roll) (set seats k None) last
on_roll_less roll seats last k c on sits = record {
  same = λ p. by_test (nat_eq c.pid p)
      (λ is. ap (λ (q : ℕ). kind_in q (without c.pid roll)) (sym (eqb-true c.pid p is)) ∙ (without_gone c.pid roll on.differ
      ∙ (sym (alone_at k c seats on.apart sits) ∙ ap (λ (q : ℕ). kind_seated q (set seats k None)) (eqb-true c.pid p is))))
      (λ isnt. without_others c.pid p roll (eqb-false c.pid p isnt) ∙ (on.same p ∙ sym (seated_others k p c seats sits (eqb-false c.pid p isnt))));
  differ = differ_without c.pid roll on.differ;
  apart = apart_none k seats on.apart;
  below = below_set last k None seats tt on.below;
}
