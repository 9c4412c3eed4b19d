-- How the history follows the steps at the gate.
use Rattle.std.{proofs.Common.{◌≡◌, ◌≢◌, ℕ, zero, suc, ◌+◌, ◌<◌, ◌≤◌, List, [], ◌∷◌, ◌++◌, length, map, append-nil, refl, sym, ap, ◌∙◌, subst, arith, ne_eqb, eq-eqb}, specs.{Prelude.{Bool, true, false, ◌&&◌, if◌then◌else◌, Option, Some, None}, List.AllByRecursion}}
use mathlib.Core.Logic.{dite}
use native.Mathlib.Decide.{ℕ_discrete}
use Rattle.atomic_table.specs.Table.{State}
use Rattle.pm_facts.specs.Numbers.{sum_below}
use Rattle.pm_supervisor.{specs.{pm_exit.declared.child.Kind.Kind, declared.Reason.Reason, Children.{Child, is_session, is_startup_child, child_of, without, marked, one_if, count_of, attached_sessions}, Supervisor.Shared, Shared.{SharedEvent, Notice, Open, Reset, Allows, after_shared}}, proofs.CountLaws.at_most_one}
use Rattle.pm_board_words.specs.{declared.views.{SessionLimit.SessionLimit, Offer.Offer, PostStep.PostStep, RosterStep.RosterStep, RosterView.RosterView, Work.{Work, TheVariants.{Idle, Sees, Inactive, Active, Refused, Attached}}, View.View}, Words.bit}
use Rattle.pm_board.{specs.{Slots.child_slots, Gate.{attached, gate_of}, Rule.{Phase, unused, opened, offered, running, ended, collected, gathered, Does, Cell, Holds, put, at_put}, Told.after_step, History.{KeepsPlaces, goes_on, supervisor_event, worker_event, leave_of, event_of, worker_step, living, is_attached, shown_child, ShowsChild, Shows, OwnPart, pid_and_kind, History}}, proofs.Histories.{child_hit, child_miss, without_hit, without_miss, without_other, Once, none_in, once_left, own_step, own_worker, own_part, other_part, no_part, shows_moves, pids_apart}}
use Rattle.pm_board_words.specs.declared.views.Letter as Letter
use Rattle.pm_board_words.specs.declared.views.RosterStep.TheVariants as step

-- lists of children, of which one attaches or detaches

marked_hit : (p : ℕ) (b : Bool) (c : Child) (cs : List Child) → c.pid ≡ p → marked p b (c ∷ cs) ≡ record c { attached = b } ∷ cs
marked_hit p b c cs e = ap (λ (z : Bool). if z then record c { attached = b } ∷ cs else c ∷ marked p b cs) (eq-eqb c.pid p e)

marked_miss : (p : ℕ) (b : Bool) (c : Child) (cs : List Child) → c.pid ≢ p → marked p b (c ∷ cs) ≡ c ∷ marked p b cs
marked_miss p b c cs ne = ap (λ (z : Bool). if z then record c { attached = b } ∷ cs else c ∷ marked p b cs) (ne_eqb c.pid p ne)

marked_other : (p q : ℕ) (b : Bool) (cs : List Child) → q ≢ p → child_of q (marked p b cs) ≡ child_of q cs
marked_other p q b [] ne = refl
marked_other p q b (c ∷ cs) ne = dite (ℕ_discrete c.pid p)
    (λ is. let other : c.pid ≢ q = (λ e. ne (sym e ∙ is)) in
    ap (child_of q) (marked_hit p b c cs is) ∙ (child_miss q (record c { attached = b }) cs other ∙ sym (child_miss q c cs other)))
    (λ no. ap (child_of q) (marked_miss p b c cs no) ∙ dite (ℕ_discrete c.pid q)
    (λ hit. child_hit q c (marked p b cs) hit ∙ sym (child_hit q c cs hit))
    (λ miss. child_miss q c (marked p b cs) miss ∙ (marked_other p q b cs ne ∙ sym (child_miss q c cs miss))))

marked_here : (p : ℕ) (b : Bool) (cs : List Child) (c : Child) → child_of p cs ≡ Some c → child_of p (marked p b cs) ≡ Some record c { attached = b }
marked_here p b [] c e = absurd (cc)
marked_here p b (d ∷ cs) c e = dite (ℕ_discrete d.pid p)
    (λ is. let same : Some d ≡ Some c = sym (child_hit p d cs is) ∙ e in let it : d ≡ c = cc in
    ap (child_of p) (marked_hit p b d cs is) ∙ (child_hit p (record d { attached = b }) cs is ∙ ap (λ (z : Child). Some record z { attached = b }) it))
    (λ no. ap (child_of p) (marked_miss p b d cs no) ∙ (child_miss p d (marked p b cs) no ∙ marked_here p b cs c (sym (child_miss p d cs no) ∙ e)))

marked_once : (p q : ℕ) (b : Bool) (cs : List Child) → Once q cs → Once q (marked p b cs)
marked_once p q b [] h = refl
marked_once p q b (c ∷ cs) h = dite (ℕ_discrete c.pid p)
    (λ is. ap (λ (z : List Child). child_of q (without q z)) (marked_hit p b c cs is) ∙ dite (ℕ_discrete c.pid q)
    (λ hit. ap (child_of q) (without_hit q (record c { attached = b }) cs hit) ∙ (ap (child_of q) (sym (without_hit q c cs hit)) ∙ h))
    (λ miss. ap (child_of q) (without_miss q (record c { attached = b }) cs miss) ∙ (child_miss q (record c { attached = b }) (without q cs) miss
    ∙ (sym (child_miss q c (without q cs) miss) ∙ (ap (child_of q) (sym (without_miss q c cs miss)) ∙ h)))))
    (λ no. ap (λ (z : List Child). child_of q (without q z)) (marked_miss p b c cs no) ∙ dite (ℕ_discrete c.pid q)
    (λ hit. ap (child_of q) (without_hit q c (marked p b cs) hit) ∙ (marked_other p q b cs (λ e. no (hit ∙ e)) ∙ (ap (child_of q) (sym (without_hit q c cs hit)) ∙ h)))
    (λ miss. ap (child_of q) (without_miss q c (marked p b cs) miss) ∙ (child_miss q c (without q (marked p b cs)) miss
    ∙ marked_once p q b cs (sym (child_miss q c (without q cs) miss) ∙ (ap (child_of q) (sym (without_miss q c cs miss)) ∙ h)))))

-- what holds of each child that is found

once_tail : (p : ℕ) (c : Child) (cs : List Child) → Once p (c ∷ cs) → Once p cs
once_tail p c cs h = dite (ℕ_discrete c.pid p)
    (λ is. none_in p cs (ap (child_of p) (sym (without_hit p c cs is)) ∙ h))
    (λ no. sym (child_miss p c (without p cs) no) ∙ (ap (child_of p) (sym (without_miss p c cs no)) ∙ h))

listed : (P : Child → Type 0) (cs : List Child) → ((p : ℕ) (c : Child) → child_of p cs ≡ Some c → P c) → ((p : ℕ) → Once p cs) → AllByRecursion P cs
listed P [] all once = tt
listed P (c ∷ cs) all once = (
  all c.pid c (child_hit c.pid c cs refl),
  listed P cs (λ p d e. all p d (child_miss p c cs (λ is. let no : None ≡ Some d = sym (ap (child_of p) (sym (without_hit p c cs is)) ∙ once p) ∙ e in absurd (cc)) ∙ e)) (λ p. once_tail p c cs (once p)),
)

count_none : (test : Kind → Bool) (cs : List Child) → AllByRecursion (λ c. test c.kind ≡ false) cs → count_of test cs ≡ 0
count_none test [] all = refl
count_none test (c ∷ cs) all = let z : one_if (test c.kind) ≡ 0 = ap one_if all.0 in let h : count_of test cs ≡ 0 = count_none test cs all.1 in omega arith

attached_none : (cs : List Child) → AllByRecursion (λ c. (is_session c.kind && c.attached) ≡ false) cs → attached_sessions cs ≡ 0
attached_none [] all = refl
attached_none (c ∷ cs) all = let z : one_if (is_session c.kind && c.attached) ≡ 0 = ap one_if all.0 in let h : attached_sessions cs ≡ 0 = attached_none cs all.1 in omega arith

attached_but_one : (p : ℕ) (cs : List Child) → attached_sessions cs ≤ attached_sessions (without p cs) + 1
attached_but_one p [] = omega arith
attached_but_one p (c ∷ cs) = let b : one_if (is_session c.kind && c.attached) ≤ 1 = at_most_one (is_session c.kind && c.attached) in dite (ℕ_discrete c.pid p)
    (λ is. let e : attached_sessions (without p (c ∷ cs)) ≡ attached_sessions cs = ap attached_sessions (without_hit p c cs is) in omega arith)
    (λ no. let e : attached_sessions (without p (c ∷ cs)) ≡ one_if (is_session c.kind && c.attached) + attached_sessions (without p cs) = ap attached_sessions (without_miss p c cs no) in
    let h : attached_sessions cs ≤ attached_sessions (without p cs) + 1 = attached_but_one p cs in omega arith)

pub is_false : (b : Bool) → (b ≡ true → ⊥) → b ≡ false
is_false true never = absurd (never refl)
is_false false never = refl

-- where each attached session stands at a place of its own, there are no more of them than those places come to
within_places : (n : ℕ) (f at : ℕ → ℕ) (cs : List Child) → ((p : ℕ) → Once p cs)
    → ((p : ℕ) (c : Child) → child_of p cs ≡ Some c → (is_session c.kind && c.attached) ≡ true → (k : ℕ) × (k < n) × (at k ≡ p) × (f k ≡ 1)) → attached_sessions cs ≤ sum_below n f
within_places zero f at cs once all =
    let z : attached_sessions cs ≡ 0 = attached_none cs (listed (λ c. (is_session c.kind && c.attached) ≡ false) cs (λ p c e. is_false _ (λ is. let w = all p c e is in absurd (omega (arith, w.1)))) once) in omega arith
within_places (suc n) f at cs once all = dite (ℕ_discrete (f n) 0)
    (λ none. let h : attached_sessions cs ≤ sum_below n f = within_places n f at cs once (λ p c e is. let w = all p c e is in let l : w.0 < suc n = w.1 in let one : f w.0 ≡ 1 = w.3 in
    let ne : w.0 ≢ n = (λ at_n. let z : f w.0 ≡ f n = ap f at_n in absurd (omega arith)) in (w.0, omega arith, w.2, w.3)) in omega arith)
    (λ some_. let h : attached_sessions (without (at n) cs) ≤ sum_below n f = within_places n f at (without (at n) cs) (λ p. once_left (at n) p cs once) (λ p c e is.
    let apart : p ≢ at n = (λ same. let no : None ≡ Some c = sym (ap (λ (z : ℕ). child_of z (without (at n) cs)) same ∙ once (at n)) ∙ e in absurd (cc)) in
    let w = all p c (sym (without_other (at n) p cs apart) ∙ e) is in let l : w.0 < suc n = w.1 in
    let ne : w.0 ≢ n = (λ at_n. apart (sym w.2 ∙ ap at at_n)) in (w.0, omega arith, w.2, w.3)) in
    let b : attached_sessions cs ≤ attached_sessions (without (at n) cs) + 1 = attached_but_one (at n) cs in omega arith)

none_at_all : (cs : List Child) → ((p : ℕ) (c : Child) → child_of p cs ≡ Some c → ⊥) → cs ≡ []
none_at_all [] none = refl
none_at_all (c ∷ cs) none = absurd (none c.pid c (child_hit c.pid c cs refl))

module _ {D : Type 0} where
  -- a child that is shown as attached is attached
  attached_there : (cs : List Child) (ph : Phase D) (w : Work D) (p : ℕ) (c : Child) → ShowsChild cs ph w → Does ph w → living ph ≡ p → 0 < p → child_of p cs ≡ Some c → (is_session c.kind && c.attached) ≡ true → attached is_session w ≡ 1
  attached_there cs unused w p c shown does here pos found is = absurd (omega arith)
  attached_there cs (opened q) w p c shown does here pos found is = absurd (omega arith)
  attached_there cs (ended o st a b) w p c shown does here pos found is = absurd (omega arith)
  attached_there cs (collected o st a) w p c shown does here pos found is = absurd (omega arith)
  attached_there cs gathered w p c shown does here pos found is = absurd (omega arith)
  attached_there cs (offered o) w p c shown does here pos found is =
      let same : Some (shown_child o false) ≡ Some c = sym (ap (λ (z : ℕ). child_of z cs) (sym here) ∙ shown) ∙ found in let it : shown_child o false ≡ c = cc in
      let no : (is_session o.kind && false) ≡ true = ap (λ (z : Child). is_session z.kind && z.attached) it ∙ is in absurd (never (is_session o.kind) no)
    where
      never : (b : Bool) → (b && false) ≡ true → ⊥
      never true e = absurd (cc)
      never false e = absurd (cc)
  attached_there cs (running o a) w p c shown does here pos found is =
      let same : Some (shown_child o (is_attached w)) ≡ Some c = sym (ap (λ (z : ℕ). child_of z cs) (sym here) ∙ shown) ∙ found in let it : shown_child o (is_attached w) ≡ c = cc in
      go w does (ap (λ (z : Child). is_session z.kind && z.attached) it ∙ is)
    where
      never : (b : Bool) → (b && false) ≡ true → ⊥
      never true e = absurd (cc)
      never false e = absurd (cc)

      one : (b : Bool) → (b && true) ≡ true → bit b ≡ 1
      one true e = refl
      one false e = absurd (cc)

      go : (v : Work D) → Does (running o a) v → (is_session o.kind && is_attached v) ≡ true → attached is_session v ≡ 1
      go Idle d e = absurd d
      go (Sees word) d e = absurd d
      go (Inactive q) d e = absurd (never (is_session o.kind) e)
      go (Active q) d e = absurd (never (is_session o.kind) e)
      go (Refused q g) d e = absurd (never (is_session o.kind) e)
      go (Attached q g) d e = ap (λ (z : Offer D). bit (is_session z.kind)) d.0 ∙ one (is_session o.kind) e

  -- no more sessions are shown as attached than are attached
  pub shown_attached : (n : ℕ) (d : RosterView D) (cells : ℕ → Cell D) (s : Shared) → Shows s d cells n → ((k : ℕ) → k < n → Does (cells k).phase (cells k).post.work) → attached_sessions s.children ≤ sum_below n (λ k. attached is_session (cells k).post.work)
  shown_attached n d cells s h does = within_places n (λ k. attached is_session (cells k).post.work) (λ k. living (cells k).phase) s.children h.once (λ p c found is. let at_k = h.no_other p c found in
      (at_k.0, at_k.1, at_k.2, attached_there s.children (cells at_k.0).phase (cells at_k.0).post.work p c (h.each at_k.0 at_k.1) (does at_k.0 at_k.1) at_k.2 at_k.3 found is))

  -- the kind of a child that is shown
  kind_there : (P : Kind → Type 0) (cs : List Child) (ph : Phase D) (w : Work D) (p : ℕ) (c : Child) → ShowsChild cs ph w → living ph ≡ p → 0 < p → child_of p cs ≡ Some c → ((o : Offer D) → ph ≡ offered o → P o.kind) → ((o : Offer D) (a : Bool) → ph ≡ running o a → P o.kind) → P c.kind
  kind_there P cs unused w p c shown here pos found offers runs = absurd (omega arith)
  kind_there P cs (opened q) w p c shown here pos found offers runs = absurd (omega arith)
  kind_there P cs (ended o st a b) w p c shown here pos found offers runs = absurd (omega arith)
  kind_there P cs (collected o st a) w p c shown here pos found offers runs = absurd (omega arith)
  kind_there P cs gathered w p c shown here pos found offers runs = absurd (omega arith)
  kind_there P cs (offered o) w p c shown here pos found offers runs =
      let same : Some (shown_child o false) ≡ Some c = sym (ap (λ (z : ℕ). child_of z cs) (sym here) ∙ shown) ∙ found in let it : shown_child o false ≡ c = cc in subst (λ (z : Child). P z.kind) it (offers o refl)
  kind_there P cs (running o a) w p c shown here pos found offers runs =
      let same : Some (shown_child o (is_attached w)) ≡ Some c = sym (ap (λ (z : ℕ). child_of z cs) (sym here) ∙ shown) ∙ found in let it : shown_child o (is_attached w) ≡ c = cc in subst (λ (z : Child). P z.kind) it (runs o a refl)

  -- a step of the supervisor at the gate
  turns : (limit : SessionLimit) (n : ℕ) (d : RosterView D) (cells : ℕ → Cell D) (s : RosterStep) (e : SharedEvent) (st : History limit d cells n) → Allows limit.most st.1 e → KeepsPlaces limit e → supervisor_event e ≡ event_of s → worker_event e ≡ [] → leave_of e ≡ []
      → Shows (after_shared st.1 e) (after_step d s) cells n → History limit (after_step d s) cells n
  turns limit n d cells s e st may keeps is none none' shows = (
    st.0 ++ record { event = e; slot = n } ∷ [],
    after_shared st.1 e,
    goes_on st.0 st.1 record { event = e; slot = n } st.2 may keeps,
    shows,
    own_step st.0 d.notes.steps (gate_of d) n e s is st.4,
    λ j l. no_part st.0 j n e (cells j).post (cells j).post none none' refl refl (st.5 j l),
  )

  pub quit_history : (limit : SessionLimit) (n : ℕ) (d : RosterView D) (cells : ℕ → Cell D) (why : Reason) → History limit d cells n → History limit (after_step d (step.Quit why d.generation)) cells n
  quit_history limit n d cells why st = turns limit n d cells (step.Quit why d.generation) (Notice why) st tt tt refl refl refl
      record { generation = st.3.generation; is_open = st.3.is_open; noticed = refl; last_pid = st.3.last_pid; each = st.3.each; no_other = st.3.no_other; once = st.3.once }

  pub ready_history : (limit : SessionLimit) (n : ℕ) (d : RosterView D) (cells : ℕ → Cell D) (st : History limit d cells n) → d.is_open ≡ false → ((k : ℕ) → k < n → Does (cells k).phase (cells k).post.work) → sum_below n (λ k. attached is_session (cells k).post.work) ≡ 0
      → ((k : ℕ) (o : Offer D) → k < n → (cells k).phase ≡ offered o → is_startup_child o.kind ≡ false) → ((k : ℕ) (o : Offer D) (a : Bool) → k < n → (cells k).phase ≡ running o a → is_startup_child o.kind ≡ false)
      → History limit (after_step d (step.Ready d.generation)) cells n
  ready_history limit n d cells st shut does nobody offers runs = let h = st.3 in
      let few : attached_sessions st.1.children ≤ sum_below n (λ k. attached is_session (cells k).post.work) = shown_attached n d cells st.1 h does in
      let startups = count_none is_startup_child st.1.children (listed (λ c. is_startup_child c.kind ≡ false) st.1.children
      (λ p c found. let at_k = h.no_other p c found in kind_there (λ kind. is_startup_child kind ≡ false) st.1.children (cells at_k.0).phase (cells at_k.0).post.work p c (h.each at_k.0 at_k.1) at_k.2 at_k.3 found (λ o is. offers at_k.0 o at_k.1 is) (λ o a is. runs at_k.0 o a at_k.1 is)) h.once) in
      turns limit n d cells (step.Ready d.generation) Open st (h.is_open ∙ shut, startups, omega arith) tt refl refl refl
      record { generation = h.generation; is_open = refl; noticed = refl; last_pid = h.last_pid; each = h.each; no_other = h.no_other; once = h.once }

  pub reset_history : (limit : SessionLimit) (n : ℕ) (d : RosterView D) (cells : ℕ → Cell D) → ((k : ℕ) → k < n → living (cells k).phase ≡ 0) → History limit d cells n → History limit (after_step d (step.Reset (d.generation + 1))) cells n
  reset_history limit n d cells dead st = let h = st.3 in
      turns limit n d cells (step.Reset (d.generation + 1)) Reset st
      (none_at_all st.1.children (λ p c found. let at_k = h.no_other p c found in let z : living (cells at_k.0).phase ≡ 0 = dead at_k.0 at_k.1 in let here : living (cells at_k.0).phase ≡ p = at_k.2 in let pos : 0 < p = at_k.3 in absurd (omega arith))) tt refl refl refl
      record { generation = ap (λ (z : ℕ). z + 1) h.generation; is_open = refl; noticed = refl; last_pid = h.last_pid; each = h.each; no_other = h.no_other; once = h.once }

module _ {J D : Type 0} (letter : Letter.Ghosts J D) (limit : SessionLimit) where
  -- a child that runs has a pid
  pub lives : (s : State (Option J) (View D)) (m : ℕ) (d : RosterView D) (cells : ℕ → Cell D) → Holds letter m d cells s → (st : History limit d cells (child_slots (length s.homes))) → (k : ℕ) → k < child_slots (length s.homes) → (o : Offer D) (a : Bool) (w : Work D) → (cells k).phase ≡ running o a → (cells k).post.work ≡ w
      → (child_of o.pid st.1.children ≡ Some (shown_child o (is_attached w))) × (0 < o.pid)
  lives s m d cells h st k near o a w is does = let known = subst (λ (z : Phase D × Work D). ShowsChild st.1.children z.0 z.1) {x = ((cells k).phase, (cells k).post.work)} {y = (running o a, w)} (λ i. (is i, does i)) (st.3.each k near) in (known, (st.3.no_other o.pid _ known).3)

  -- a child attaches or detaches
  pub passes : (s : State (Option J) (View D)) (m : ℕ) (d : RosterView D) (cells : ℕ → Cell D) → Holds letter m d cells s → (st : History limit d cells (child_slots (length s.homes))) → (k : ℕ) → k < child_slots (length s.homes) → (o : Offer D) (b : Bool) (w : Work D) (c : Cell D) (e : SharedEvent) (p : PostStep)
      → (cells k).phase ≡ running o true → (cells k).post.work ≡ w → c.phase ≡ running o true → is_attached c.post.work ≡ b
      → Allows limit.most st.1 e → KeepsPlaces limit e → after_shared st.1 e ≡ record st.1 { children = marked o.pid b st.1.children } → supervisor_event e ≡ [] → worker_event e ≡ worker_step p ∷ [] → leave_of e ≡ []
      → c.post.notes.steps ≡ (cells k).post.notes.steps ++ p ∷ [] → c.post.past ≡ (cells k).post.past → History limit d (put cells k c) (child_slots (length s.homes))
  passes s m d cells h st k near o b w c e p is does is' now may keeps after none event none' steps past =
      let x : Shared = st.1 in let q : ℕ = o.pid in let here : living (cells k).phase ≡ q = ap living is in
      let known = lives s m d cells h st k near o true w is does in let pos : 0 < q = known.1 in
      let found = marked_here q b x.children _ known.0 ∙ ap (λ (z : Bool). Some (shown_child o z)) (sym now) in (
        st.0 ++ record { event = e; slot = k } ∷ [],
        after_shared x e,
        goes_on st.0 x record { event = e; slot = k } st.2 may keeps,
        subst (λ (z : Shared). Shows z d (put cells k c) (child_slots (length s.homes))) (sym after)
            (shows_moves x (record x { children = marked q b x.children }) d d cells (child_slots (length s.homes)) k q c st.3 near pos
            record { generation = st.3.generation; is_open = st.3.is_open; noticed = st.3.noticed; last_pid = st.3.last_pid }
            (λ r ne. marked_other q r b x.children ne)
            (λ j l ne same. pids_apart letter limit s m d cells h k j near l ne (subst (λ (z : ℕ). 0 < z) (sym here) pos) (same ∙ sym here))
            (subst (λ (z : Phase D). ShowsChild (marked q b x.children) z c.post.work) (sym is') found)
            (λ _ _. ap living is') (λ r ne _ same. ne (sym same ∙ here)) (λ r. marked_once q r b x.children (st.3.once r))),
        own_worker st.0 d.notes.steps (gate_of d) k e none st.4,
        λ j l. at_put cells k c (λ r z. r < child_slots (length s.homes) → OwnPart (st.0 ++ record { event = e; slot = k } ∷ []) r z.post) j
            (λ l'. own_part st.0 k e p (cells k).post c.post steps event (ap (map pid_and_kind) past ∙ (sym (append-nil (map pid_and_kind (cells k).post.past)) ∙ ap (λ z. map pid_and_kind (cells k).post.past ++ z) (sym none'))) (st.5 k l'))
            (λ ne l'. other_part st.0 j k e (cells j).post ne (st.5 j l')) l,
      )
