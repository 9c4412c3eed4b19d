-- The same children in another order: what may happen is the same, and so is what it leaves.
use Rattle.std.{proofs.{Common.{◌≡◌, ◌≢◌, ℕ, ◌+◌, ◌<◌, nat_eq, cond, Bool, true, false, ◌&&◌, List, [], ◌∷◌, Option, Some, None, refl, arith, ap, sym, ◌∙◌, subst}, lemmas.Bool.{eqb-true, eq-eqb}}, specs.{Prelude.IsSomeAnd, List.AllByRecursion}}
use Rattle.pm_exit.specs.declared.child.Kind.{Kind}
use Rattle.pm_supervisor.{specs.{Children.{Child, is_session, is_startup_child, child_of, without, marked, one_if, count_of, attached_sessions}, Supervisor.Shared, Shared.{SharedEvent, Join, Attach, Touch, Detach, Leave, Notice, Open, Reset, Allows, MayAttach, PidsDiffer, SameChildren, IsSame, after_shared}}, proofs.Lists.{some_map, differ-without}}

-- a sum over the children
abbrev pub total : (Child → ℕ) → List Child → ℕ
total f [] = 0
total f (c ∷ cs) = f c + total f cs

pub attached-total : (cs : List Child) → attached_sessions cs ≡ total (λ c. one_if (is_session c.kind && c.attached)) cs
attached-total [] = refl
attached-total (c ∷ cs) = ap (λ n. one_if (is_session c.kind && c.attached) + n) (attached-total cs)

pub count-total : (test : Kind → Bool) (cs : List Child) → count_of test cs ≡ total (λ c. one_if (test c.kind)) cs
count-total test [] = refl
count-total test (c ∷ cs) = ap (λ n. one_if (test c.kind) + n) (count-total test cs)

total-without : (f : Child → ℕ) (pid : ℕ) (c : Child) (ds : List Child) → child_of pid ds ≡ Some c → total f ds ≡ f c + total f (without pid ds)
total-without f pid c [] is = absurd cc
total-without f pid c (d ∷ ds) is =
    elim (nat_eq d.pid pid) as
    (λ v. cond v (Some d) (child_of pid ds) ≡ Some c → f d + total f ds ≡ f c + total f (cond v ds (d ∷ without pid ds))) [
      | true ↦ λ here. (let same : d ≡ c = cc in ap (λ x. f x + total f ds) same)
      | false ↦ λ later. omega (arith, total-without f pid c ds later)
    ]
    is

-- a child that is no one's under this pid
none-far : (pid : ℕ) (cs : List Child) → AllByRecursion (λ d. d.pid ≢ pid) cs → child_of pid cs ≡ None
none-far pid [] far = refl
none-far pid (d ∷ ds) far =
    elim (nat_eq d.pid pid) as (λ v. nat_eq d.pid pid ≡ v → cond v (Some d) (child_of pid ds) ≡ None) [
      | true ↦ λ e. absurd (far.0 (eqb-true d.pid pid e))
      | false ↦ λ e. none-far pid ds far.1
    ]
    refl

own : (c : Child) (cs : List Child) → child_of c.pid (c ∷ cs) ≡ Some c
own c cs = rw (eq-eqb c.pid c.pid refl) refl

without-own : (c : Child) (cs : List Child) → without c.pid (c ∷ cs) ≡ cs
without-own c cs = rw (eq-eqb c.pid c.pid refl) refl

-- only one is missing
other-without : (pid q : ℕ) (ds : List Child) → nat_eq pid q ≡ false → child_of q (without pid ds) ≡ child_of q ds
other-without pid q [] far = refl
other-without pid q (d ∷ ds) far =
    elim (nat_eq d.pid pid) as
    (λ v. nat_eq d.pid pid ≡ v → child_of q (cond v ds (d ∷ without pid ds)) ≡ cond (nat_eq d.pid q) (Some d) (child_of q ds)) [
      | true ↦ λ e. (let no : nat_eq d.pid q ≡ false = grind (arith, e, far) in rw no refl)
      | false ↦ λ e. ap (λ o. cond (nat_eq d.pid q) (Some d) o) (other-without pid q ds far)
    ]
    refl

gone-without : (pid : ℕ) (ds : List Child) → PidsDiffer ds → child_of pid (without pid ds) ≡ None
gone-without pid [] differ = refl
gone-without pid (d ∷ ds) differ =
    elim (nat_eq d.pid pid) as (λ v. nat_eq d.pid pid ≡ v → child_of pid (cond v ds (d ∷ without pid ds)) ≡ None) [
      | true ↦ λ e. (let same : d.pid ≡ pid = eqb-true d.pid pid e in none-far pid ds (subst (λ n. AllByRecursion (λ x. x.pid ≢ n) ds) same differ.0))
      | false ↦ λ e. rw e (gone-without pid ds differ.1)
    ]
    refl

pub child-taken : (pid q : ℕ) (ds : List Child) → PidsDiffer ds → child_of q (without pid ds) ≡ cond (nat_eq pid q) None (child_of q ds)
child-taken pid q ds differ =
    elim (nat_eq pid q) as (λ v. nat_eq pid q ≡ v → child_of q (without pid ds) ≡ cond v None (child_of q ds)) [
      | true ↦ λ e. subst (λ n. child_of n (without pid ds) ≡ None) (eqb-true pid q e) (gone-without pid ds differ)
      | false ↦ λ far. other-without pid q ds far
    ]
    refl

pub same-without : (pid : ℕ) (cs ds : List Child) → PidsDiffer cs → PidsDiffer ds → SameChildren cs ds → SameChildren (without pid cs) (without pid ds)
same-without pid cs ds first second same =
    λ q. elim (nat_eq pid q) as (λ v. nat_eq pid q ≡ v → child_of q (without pid cs) ≡ child_of q (without pid ds)) [
      | true ↦ λ e. (let is : pid ≡ q = eqb-true pid q e in
          subst (λ n. child_of n (without pid cs) ≡ child_of n (without pid ds)) is (gone-without pid cs first ∙ sym (gone-without pid ds second)))
      | false ↦ λ far. other-without pid q cs far ∙ (same q ∙ sym (other-without pid q ds far))
    ]
    refl

pub empty-same : (ds : List Child) → SameChildren [] ds → ds ≡ []
empty-same [] same = refl
empty-same (d ∷ ds) same = absurd (let found : None ≡ Some d = same d.pid ∙ own d ds in cc)

pub total-same : (f : Child → ℕ) (cs ds : List Child) → PidsDiffer cs → PidsDiffer ds → SameChildren cs ds → total f cs ≡ total f ds
total-same f [] ds first second same = ap (total f) (sym (empty-same ds same))
total-same f (c ∷ cs) ds first second same =
    let found : child_of c.pid ds ≡ Some c = sym (same c.pid) ∙ own c cs in
    let rest : SameChildren cs (without c.pid ds) =
    subst (λ xs. SameChildren xs (without c.pid ds)) (without-own c cs) (same-without c.pid (c ∷ cs) ds first second same) in
    let fewer : total f cs ≡ total f (without c.pid ds) = total-same f cs (without c.pid ds) first.1 (differ-without c.pid ds second) rest in
    ap (λ n. f c + n) fewer ∙ sym (total-without f c.pid c ds found)

attached-same : (cs ds : List Child) → PidsDiffer cs → PidsDiffer ds → SameChildren cs ds → attached_sessions cs ≡ attached_sessions ds
attached-same cs ds first second same =
    attached-total cs ∙ (total-same (λ c. one_if (is_session c.kind && c.attached)) cs ds first second same ∙ sym (attached-total ds))

count-same : (test : Kind → Bool) (cs ds : List Child) → PidsDiffer cs → PidsDiffer ds → SameChildren cs ds → count_of test cs ≡ count_of test ds
count-same test cs ds first second same =
    count-total test cs ∙ (total-same (λ c. one_if (test c.kind)) cs ds first second same ∙ sym (count-total test ds))

-- under each pid, after a mark
abbrev with_mark : Bool → Option Child → Option Child
with_mark b None = None
with_mark b (Some c) = Some (record c { attached = b })

mark-here : (v w : Bool) (b : Bool) (c : Child) (o : Option Child) → v ≡ w
    → cond v (Some (record c { attached = b })) o ≡ cond w (with_mark b (cond v (Some c) o)) (cond v (Some c) o)
mark-here true true b c o is = refl
mark-here true false b c o is = absurd cc
mark-here false true b c o is = absurd cc
mark-here false false b c o is = refl

mark-there : (v w : Bool) (b : Bool) (c : Child) (o : Option Child) → v && w ≡ false
    → cond v (Some c) (cond w (with_mark b o) o) ≡ cond w (with_mark b (cond v (Some c) o)) (cond v (Some c) o)
mark-there true true b c o is = absurd cc
mark-there true false b c o is = refl
mark-there false true b c o is = refl
mark-there false false b c o is = refl

far-apart : (a b q : ℕ) → nat_eq a b ≡ false → nat_eq a q && nat_eq b q ≡ false
far-apart a b q e = grind arith

abbrev the_child : ℕ → Kind → ℕ → Child
the_child pid k generation = record { pid = pid; kind = k; generation = generation; attached = false }

none-either : (v : Bool) → ◌≡◌ {A = Option Child} None (cond v None None)
none-either true = refl
none-either false = refl

child-marked : (pid q : ℕ) (b : Bool) (cs : List Child)
    → child_of q (marked pid b cs) ≡ cond (nat_eq pid q) (with_mark b (child_of q cs)) (child_of q cs)
child-marked pid q b [] = none-either (nat_eq pid q)
child-marked pid q b (c ∷ cs) =
    elim (nat_eq c.pid pid) as
    (λ v. nat_eq c.pid pid ≡ v → child_of q (cond v (record c { attached = b } ∷ cs) (c ∷ marked pid b cs))
    ≡ cond (nat_eq pid q) (with_mark b (child_of q (c ∷ cs))) (child_of q (c ∷ cs))) [
      | true ↦ λ e. mark-here (nat_eq c.pid q) (nat_eq pid q) b c (child_of q cs) (ap (λ n. nat_eq n q) (eqb-true c.pid pid e))
      | false ↦ λ e. ap (λ o. cond (nat_eq c.pid q) (Some c) o) (child-marked pid q b cs)
          ∙ mark-there (nat_eq c.pid q) (nat_eq pid q) b c (child_of q cs) (far-apart c.pid pid q e)
    ]
    refl

same-marked : (pid : ℕ) (b : Bool) (cs ds : List Child) → SameChildren cs ds → SameChildren (marked pid b cs) (marked pid b ds)
same-marked pid b cs ds same =
    λ q. child-marked pid q b cs
    ∙ (ap (λ o. cond (nat_eq pid q) (with_mark b o) o) (same q) ∙ sym (child-marked pid q b ds))

same-join : (c d : Child) (cs ds : List Child) → c ≡ d → SameChildren cs ds → SameChildren (c ∷ cs) (d ∷ ds)
same-join c d cs ds is same =
    λ q. ap (λ x. cond (nat_eq x.pid q) (Some x) (child_of q cs)) is ∙ ap (λ o. cond (nat_eq d.pid q) (Some d) o) (same q)

-- what may happen to the one may happen to the other
pub allows-same : (limit : ℕ) (s t : Shared) (e : SharedEvent) → PidsDiffer s.children → PidsDiffer t.children → IsSame s t → Allows limit s e → Allows limit t e
allows-same limit s t (Join pid k) first second same may = rw (sym same.last_pid) may
allows-same limit s t (Attach pid reserve) first second same may =
    subst (λ o. IsSomeAnd o (MayAttach limit reserve t)) (same.children pid)
    (some_map (MayAttach limit reserve s) (MayAttach limit reserve t)
    (λ c fits. (
      fits.0,
      fits.1,
      sym same.noticed ∙ fits.2,
      λ session. (
        sym same.is_open ∙ (fits.3 session).0,
        subst (λ n. n + reserve < limit) (attached-same s.children t.children first second same.children) (fits.3 session).1,
      ),
    ))
    (child_of pid s.children) may)
allows-same limit s t (Touch pid) first second same may =
    subst (λ o. IsSomeAnd o (λ c. (c.attached ≡ true) × (c.generation ≡ t.generation))) (same.children pid)
    (some_map (λ c. (c.attached ≡ true) × (c.generation ≡ s.generation)) (λ c. (c.attached ≡ true) × (c.generation ≡ t.generation))
    (λ c is. (is.0, is.1 ∙ same.generation)) (child_of pid s.children) may)
allows-same limit s t (Detach pid) first second same may = subst (λ o. IsSomeAnd o (λ c. c.attached ≡ true)) (same.children pid) may
allows-same limit s t (Leave pid k) first second same may = subst (λ o. IsSomeAnd o (λ c. c.kind ≡ k)) (same.children pid) may
allows-same limit s t (Notice why) first second same may = tt
allows-same limit s t Open first second same may = (
  sym same.is_open ∙ may.0,
  sym (count-same is_startup_child s.children t.children first second same.children) ∙ may.1,
  sym (attached-same s.children t.children first second same.children) ∙ may.2,
)
allows-same limit s t Reset first second same may =
    empty-same t.children (subst (λ xs. SameChildren xs t.children) may same.children)

-- and leaves the same
pub after-same : (s t : Shared) (e : SharedEvent) → PidsDiffer s.children → PidsDiffer t.children → IsSame s t → IsSame (after_shared s e) (after_shared t e)
after-same s t (Join pid k) first second same =
    record {
      generation = same.generation;
      is_open = same.is_open;
      noticed = same.noticed;
      last_pid = refl;
      children = same-join _ _ s.children t.children
          (ap {A = ℕ} (λ g. the_child pid k g) same.generation) same.children;
    }
after-same s t (Attach pid reserve) first second same =
    record {
      generation = same.generation;
      is_open = same.is_open;
      noticed = same.noticed;
      last_pid = same.last_pid;
      children = same-marked pid true s.children t.children same.children;
    }
after-same s t (Touch pid) first second same = same
after-same s t (Detach pid) first second same =
    record {
      generation = same.generation;
      is_open = same.is_open;
      noticed = same.noticed;
      last_pid = same.last_pid;
      children = same-marked pid false s.children t.children same.children;
    }
after-same s t (Leave pid k) first second same =
    record {
      generation = same.generation;
      is_open = same.is_open;
      noticed = same.noticed;
      last_pid = same.last_pid;
      children = same-without pid s.children t.children first second same.children;
    }
after-same s t (Notice why) first second same =
    record { generation = same.generation; is_open = same.is_open; noticed = refl; last_pid = same.last_pid; children = same.children }
after-same s t Open first second same =
    record { generation = same.generation; is_open = refl; noticed = refl; last_pid = same.last_pid; children = same.children }
after-same s t Reset first second same =
    record { generation = ap (λ n. n + 1) same.generation; is_open = refl; noticed = refl; last_pid = same.last_pid; children = same.children }
