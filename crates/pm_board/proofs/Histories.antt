-- How the history follows each step.
use Rattle.std.{proofs.{Common.{◌≡◌, ◌≢◌, ℕ, ◌<◌, ◌≤◌, ◌==◌, List, [], ◌∷◌, ◌++◌, length, map, get_or, refl, sym, ap, ◌∙◌, subst, arith, ne_eqb, eq-eqb, append-nil}, lemmas.{List.map-append, Grind.flat_map-append}}, specs.{List.flat_map, Prelude.{Bool, true, false, if◌then◌else◌, Option, Some, None, IsSomeAnd}}}
use lib.ListN.{get_elem?}
use mathlib.Core.Option.{some}
use mathlib.Core.Logic.{dite}
use native.Mathlib.Decide.{ℕ_discrete}
use Rattle.atomic_table.specs.Table.{State}
use Rattle.pm_supervisor.specs.{pm_exit.declared.child.Kind.Kind, Children.{Child, child_of, without}, Supervisor.{Shared, first}, Shared.{SharedEvent, after_shared}}
use Rattle.pm_supervisor.specs.Shared as shared
use Rattle.pm_board_words.specs.declared.views.{SessionLimit.SessionLimit, Offer.Offer, PastChild.PastChild, Sight.{Sight, TheVariants.{Unused, Opened, Assigned, Exited, Collected, Gathered}}, RosterView.RosterView, Work.Work, View.{View, TheVariants.Postmaster}, RosterStep.{RosterStep, TheVariants.{Assign, Release, Send}}, Signal.Signal, PostStep.PostStep, PostView.PostView}
use Rattle.pm_board.{specs.{Slots.child_slots, Places.slot_at, Gate.{Gate, GateOk, gate_after, gate_of_steps, first_gate, gate_of}, Told.after_step, Latches.{NotReleased, NotSent, OfUnreleased, Latches}, Seats.Seats, Rule.{Phase, unused, opened, offered, running, ended, collected, gathered, Seen, used_pid, Cell, Holds, put, at_put}, History.{Entry, begins, goes_on, supervisor_event, supervisor_in, of_supervisor, worker_event, leave_of, event_of, events_of, worker_step, pid_and_kind, living, shown_child, ShowsChild, Shows, OwnSteps, OwnPart, History, Kept}}, proofs.Latches.{release_is_other, sent_to_other}}
use Rattle.pm_board_words.specs.declared.views.Letter as Letter
use Rattle.pm_board_words.specs.declared.views.PostStep.TheVariants as post_step

-- lists of children

pub child_hit : (pid : ℕ) (c : Child) (cs : List Child) → c.pid ≡ pid → child_of pid (c ∷ cs) ≡ Some c
child_hit pid c cs e = ap (λ (b : Bool). if b then Some c else child_of pid cs) (eq-eqb c.pid pid e)

pub child_miss : (pid : ℕ) (c : Child) (cs : List Child) → c.pid ≢ pid → child_of pid (c ∷ cs) ≡ child_of pid cs
child_miss pid c cs ne = ap (λ (b : Bool). if b then Some c else child_of pid cs) (ne_eqb c.pid pid ne)

pub without_hit : (pid : ℕ) (c : Child) (cs : List Child) → c.pid ≡ pid → without pid (c ∷ cs) ≡ cs
without_hit pid c cs e = ap (λ (b : Bool). if b then cs else c ∷ without pid cs) (eq-eqb c.pid pid e)

pub without_miss : (pid : ℕ) (c : Child) (cs : List Child) → c.pid ≢ pid → without pid (c ∷ cs) ≡ c ∷ without pid cs
without_miss pid c cs ne = ap (λ (b : Bool). if b then cs else c ∷ without pid cs) (ne_eqb c.pid pid ne)

pub without_other : (p q : ℕ) (cs : List Child) → q ≢ p → child_of q (without p cs) ≡ child_of q cs
without_other p q [] ne = refl
without_other p q (c ∷ cs) ne = dite (ℕ_discrete c.pid p)
    (λ is. ap (child_of q) (without_hit p c cs is) ∙ sym (child_miss q c cs (λ e. ne (sym e ∙ is))))
    (λ no. ap (child_of q) (without_miss p c cs no) ∙ dite (ℕ_discrete c.pid q)
    (λ hit. child_hit q c (without p cs) hit ∙ sym (child_hit q c cs hit))
    (λ miss. child_miss q c (without p cs) miss ∙ (without_other p q cs ne ∙ sym (child_miss q c cs miss))))

abbrev pub Once : ℕ → List Child → Type 0
Once pid cs = child_of pid (without pid cs) ≡ None

pub none_in : (p : ℕ) (cs : List Child) → child_of p cs ≡ None → Once p cs
none_in p [] none = refl
none_in p (c ∷ cs) none = dite (ℕ_discrete c.pid p)
    (λ is. let no : Some c ≡ None = sym (child_hit p c cs is) ∙ none in absurd (cc))
    (λ no. ap (child_of p) (without_miss p c cs no) ∙ (child_miss p c (without p cs) no ∙ none_in p cs (sym (child_miss p c cs no) ∙ none)))

once_joined : (p : ℕ) (c : Child) (cs : List Child) → child_of c.pid cs ≡ None → Once p cs → Once p (c ∷ cs)
once_joined p c cs new h = dite (ℕ_discrete c.pid p)
    (λ is. ap (child_of p) (without_hit p c cs is) ∙ (ap (λ (z : ℕ). child_of z cs) (sym is) ∙ new))
    (λ no. ap (child_of p) (without_miss p c cs no) ∙ (child_miss p c (without p cs) no ∙ h))

once_apart : (p q : ℕ) (cs : List Child) → q ≢ p → Once q cs → Once q (without p cs)
once_apart p q [] ne h = refl
once_apart p q (c ∷ cs) ne h = dite (ℕ_discrete c.pid p)
    (λ is. let other : c.pid ≢ q = (λ e. ne (sym e ∙ is)) in
    ap (λ (z : List Child). child_of q (without q z)) (without_hit p c cs is)
    ∙ (sym (child_miss q c (without q cs) other) ∙ (ap (child_of q) (sym (without_miss q c cs other)) ∙ h)))
    (λ no. ap (λ (z : List Child). child_of q (without q z)) (without_miss p c cs no) ∙ dite (ℕ_discrete c.pid q)
    (λ hit. ap (child_of q) (without_hit q c (without p cs) hit) ∙ (without_other p q cs ne ∙ (ap (child_of q) (sym (without_hit q c cs hit)) ∙ h)))
    (λ miss. ap (child_of q) (without_miss q c (without p cs) miss) ∙ (child_miss q c (without q (without p cs)) miss
    ∙ once_apart p q cs ne (sym (child_miss q c (without q cs) miss) ∙ (ap (child_of q) (sym (without_miss q c cs miss)) ∙ h)))))

pub once_left : (p q : ℕ) (cs : List Child) → ((r : ℕ) → Once r cs) → Once q (without p cs)
once_left p q cs h = dite (ℕ_discrete q p) (λ is. none_in q (without p cs) (ap (λ (z : ℕ). child_of z (without p cs)) is ∙ h p)) (λ ne. once_apart p q cs ne (h q))

-- the supervisor's part

gate_more : (gate : Gate) (ss : List RosterStep) (s : RosterStep) → gate_of_steps gate (ss ++ s ∷ []) ≡ gate_after (gate_of_steps gate ss) s
gate_more gate [] s = refl
gate_more gate (x ∷ ss) s = gate_more (gate_after gate x) ss s

-- after a step with the event that it is
pub own_step : (log : List Entry) (steps : List RosterStep) (gate : Gate) (k : ℕ) (e : SharedEvent) (s : RosterStep) → supervisor_event e ≡ event_of s → OwnSteps log steps gate
    → OwnSteps (log ++ record { event = e; slot = k } ∷ []) (steps ++ s ∷ []) (gate_after gate s)
own_step log steps gate k e s same own = record {
  made = flat_map-append supervisor_in log _ ∙ ((λ i. own.made i ++ (same i ++ [])) ∙ sym (flat_map-append event_of steps _));
  leave = gate_more first_gate steps s ∙ ap (λ (g : Gate). gate_after g s) own.leave;
}

-- after a release, which is no event
pub own_release : (log : List Entry) (steps : List RosterStep) (gate : Gate) (pid generation : ℕ) (kind : Kind) → OwnSteps log steps gate → OwnSteps log (steps ++ Release pid kind generation ∷ []) gate
own_release log steps gate pid generation kind own = record {
  made = own.made ∙ (sym (append-nil (events_of steps)) ∙ sym (flat_map-append event_of steps _));
  leave = gate_more first_gate steps (Release pid kind generation) ∙ own.leave;
}

-- and after a send
own_send : (log : List Entry) (steps : List RosterStep) (gate : Gate) (slot pid generation : ℕ) (kind : Kind) (signal : Signal) → OwnSteps log steps gate → OwnSteps log (steps ++ Send slot pid kind signal generation ∷ []) gate
own_send log steps gate slot pid generation kind signal own = record {
  made = own.made ∙ (sym (append-nil (events_of steps)) ∙ sym (flat_map-append event_of steps _));
  leave = gate_more first_gate steps (Send slot pid kind signal generation) ∙ own.leave;
}

-- after an event of a worker
pub own_worker : (log : List Entry) (steps : List RosterStep) (gate : Gate) (k : ℕ) (e : SharedEvent) → supervisor_event e ≡ [] → OwnSteps log steps gate → OwnSteps (log ++ record { event = e; slot = k } ∷ []) steps gate
own_worker log steps gate k e none own = record {
  made = flat_map-append supervisor_in log _ ∙ (ap (λ (z : List SharedEvent). of_supervisor log ++ (z ++ [])) none ∙ (append-nil (of_supervisor log) ∙ own.made));
  leave = own.leave;
}

-- the workers' parts

abbrev part : {X : Type 0} → (SharedEvent → List X) → ℕ → Entry → List X
part f k e = if e.slot == k then f e.event else []

part_here : {X : Type 0} (f : SharedEvent → List X) (log : List Entry) (k : ℕ) (e : SharedEvent) → flat_map (part f k) (log ++ record { event = e; slot = k } ∷ []) ≡ flat_map (part f k) log ++ f e
part_here f log k e = flat_map-append (part f k) log _ ∙ (ap (λ (b : Bool). flat_map (part f k) log ++ ((if b then f e else []) ++ [])) (eq-eqb k k refl) ∙ ap (λ z. flat_map (part f k) log ++ z) (append-nil (f e)))

part_elsewhere : {X : Type 0} (f : SharedEvent → List X) (log : List Entry) (j k : ℕ) (e : SharedEvent) → j ≢ k → flat_map (part f j) (log ++ record { event = e; slot = k } ∷ []) ≡ flat_map (part f j) log
part_elsewhere f log j k e ne = flat_map-append (part f j) log _ ∙ (ap (λ (b : Bool). flat_map (part f j) log ++ ((if b then f e else []) ++ [])) (ne_eqb k j (λ z. ne (sym z))) ∙ append-nil (flat_map (part f j) log))

part_of_none : {X : Type 0} (f : SharedEvent → List X) (log : List Entry) (j k : ℕ) (e : SharedEvent) → f e ≡ [] → flat_map (part f j) (log ++ record { event = e; slot = k } ∷ []) ≡ flat_map (part f j) log
part_of_none {X} f log j k e none = flat_map-append (part f j) log _ ∙ (ap (λ z. flat_map (part f j) log ++ (z ++ [])) (nothing (k == j) (f e) none) ∙ append-nil (flat_map (part f j) log))
  where
    nothing : (b : Bool) (x : List X) → x ≡ [] → ◌≡◌ {A = List X} (if b then x else []) []
    nothing true x e = e
    nothing false x e = refl

module _ {D : Type 0} where
  pub own_part : (log : List Entry) (k : ℕ) (e : SharedEvent) (p : PostStep) (post post' : PostView D) → post'.notes.steps ≡ post.notes.steps ++ p ∷ [] → worker_event e ≡ worker_step p ∷ [] → map pid_and_kind post'.past ≡ map pid_and_kind post.past ++ leave_of e
      → OwnPart log k post → OwnPart (log ++ record { event = e; slot = k } ∷ []) k post'
  own_part log k e p post post' steps is past own = record {
    made = part_here worker_event log k e ∙ ((λ i. own.made i ++ is i) ∙ (sym (map-append worker_step post.notes.steps (p ∷ [])) ∙ ap (map worker_step) (sym steps)));
    ends = part_here leave_of log k e ∙ (ap (λ z. z ++ leave_of e) own.ends ∙ sym past);
  }

  pub other_part : (log : List Entry) (j k : ℕ) (e : SharedEvent) (post : PostView D) → j ≢ k → OwnPart log j post → OwnPart (log ++ record { event = e; slot = k } ∷ []) j post
  other_part log j k e post ne own = record { made = part_elsewhere worker_event log j k e ne ∙ own.made; ends = part_elsewhere leave_of log j k e ne ∙ own.ends }

  pub no_part : (log : List Entry) (j k : ℕ) (e : SharedEvent) (post post' : PostView D) → worker_event e ≡ [] → leave_of e ≡ [] → post'.notes.steps ≡ post.notes.steps → post'.past ≡ post.past → OwnPart log j post → OwnPart (log ++ record { event = e; slot = k } ∷ []) j post'
  no_part log j k e post post' none none' steps past own = record {
    made = part_of_none worker_event log j k e none ∙ (own.made ∙ ap (map worker_step) (sym steps));
    ends = part_of_none leave_of log j k e none' ∙ (own.ends ∙ ap (map pid_and_kind) (sym past));
  }

  same_part : (log : List Entry) (j : ℕ) (post post' : PostView D) → post'.notes.steps ≡ post.notes.steps → post'.past ≡ post.past → OwnPart log j post → OwnPart log j post'
  same_part log j post post' steps past own = record { made = own.made ∙ ap (map worker_step) (sym steps); ends = own.ends ∙ ap (map pid_and_kind) (sym past) }

module _ {D : Type 0} where
  other_cell : (cs cs' : List Child) (p : ℕ) (ph : Phase D) (w : Work D) → ((q : ℕ) → q ≢ p → child_of q cs' ≡ child_of q cs) → living ph ≢ p → ShowsChild cs ph w → ShowsChild cs' ph w
  other_cell cs cs' p (offered o) w same ne e = same o.pid ne ∙ e
  other_cell cs cs' p (running o a) w same ne e = same o.pid ne ∙ e
  other_cell cs cs' p unused w same ne e = tt
  other_cell cs cs' p (opened q) w same ne e = tt
  other_cell cs cs' p (ended o st a b) w same ne e = tt
  other_cell cs cs' p (collected o st a) w same ne e = tt
  other_cell cs cs' p gathered w same ne e = tt

  -- the pid of a living child is the one that the supervisor sees
  seen_pid : (ph : Phase D) (past : List (PastChild D)) (x : Sight D) → Seen ph past x → 0 < living ph → living ph ≡ used_pid x
  seen_pid (offered o) past x e pos = ap used_pid (sym e)
  seen_pid (running o a) past x e pos = ap used_pid (sym e)
  seen_pid unused past x e pos = absurd (omega arith)
  seen_pid (opened q) past x e pos = absurd (omega arith)
  seen_pid (ended o st a b) past x e pos = absurd (omega arith)
  seen_pid (collected o st a) past x e pos = absurd (omega arith)
  seen_pid gathered past x e pos = absurd (omega arith)

  -- what a roster shows beside its children
  pub record Beside (s : Shared) (d : RosterView D) : Type 0 where
    pub generation : s.generation ≡ d.generation
    pub is_open : s.is_open ≡ d.is_open
    pub noticed : s.noticed ≡ d.noticed
    pub last_pid : s.last_pid ≡ d.notes.last_pid

  -- a step on the slot k changes what stands under the pid p alone
  pub shows_moves : (s s' : Shared) (d d' : RosterView D) (cells : ℕ → Cell D) (n k p : ℕ) (c : Cell D) → Shows s d cells n → k < n → 0 < p → Beside s' d'
      → ((q : ℕ) → q ≢ p → child_of q s'.children ≡ child_of q s.children)
      → ((j : ℕ) → j < n → j ≢ k → living (cells j).phase ≢ p)
      → ShowsChild s'.children c.phase c.post.work
      → ((x : Child) → child_of p s'.children ≡ Some x → living c.phase ≡ p)
      → ((q : ℕ) → q ≢ p → 0 < q → living (cells k).phase ≢ q)
      → ((q : ℕ) → Once q s'.children)
      → Shows s' d' (put cells k c) n
  shows_moves s s' d d' cells n k p c h near pos beside same apart here alive alone once =
      record {
        generation = beside.generation;
        is_open = beside.is_open;
        noticed = beside.noticed;
        last_pid = beside.last_pid;
        each = λ j l. at_put cells k c (λ q x. q < n → ShowsChild s'.children x.phase x.post.work) j (λ _. here)
            (λ ne l'. other_cell s.children s'.children p (cells j).phase (cells j).post.work same (apart j l' ne) (h.each j l')) l;
        no_other = λ q x some_. dite (ℕ_discrete q p)
            (λ is. let mine : living c.phase ≡ p = alive x (ap (λ (z : ℕ). child_of z s'.children) (sym is) ∙ some_) in
            (k, near, at_put cells k c (λ r y. r ≡ k → living y.phase ≡ q) k (λ _. mine ∙ sym is) (λ ne e. absurd (ne e)) refl, (let z : q ≡ p = is in omega arith)))
            (λ ne. let was = h.no_other q x (sym (same q ne) ∙ some_) in
            (was.0, was.1, at_put cells k c (λ r y. r ≡ was.0 → living y.phase ≡ q) was.0 (λ is. absurd (alone q ne was.3 (ap (λ (r : ℕ). living (cells r).phase) is ∙ was.2))) (λ _ _. was.2) refl, was.3));
        once = once;
      }

  -- a step on the slot k that is no event
  pub quiet : (limit : SessionLimit) (d d' : RosterView D) (cells : ℕ → Cell D) (n k : ℕ) (c : Cell D) (ph : Phase D) (w : Work D)
      → d'.generation ≡ d.generation → d'.is_open ≡ d.is_open → d'.noticed ≡ d.noticed → d'.notes.last_pid ≡ d.notes.last_pid
      → ((log : List Entry) → OwnSteps log d.notes.steps (gate_of d) → OwnSteps log d'.notes.steps (gate_of d'))
      → k < n → (cells k).phase ≡ ph → (cells k).post.work ≡ w → c.post.notes.steps ≡ (cells k).post.notes.steps → c.post.past ≡ (cells k).post.past → living c.phase ≡ living ph
      → ((cs : List Child) → ShowsChild cs ph w → ShowsChild cs c.phase c.post.work) → History limit d cells n → History limit d' (put cells k c) n
  quiet limit d d' cells n k c ph w eg eo en el own near is does steps past same go st = let h = st.3 in (
    st.0,
    st.1,
    st.2,
    record {
      generation = h.generation ∙ sym eg;
      is_open = h.is_open ∙ sym eo;
      noticed = h.noticed ∙ sym en;
      last_pid = h.last_pid ∙ sym el;
      each = λ j l. at_put cells k c (λ q x. q < n → ShowsChild st.1.children x.phase x.post.work) j
          (λ l'. go st.1.children (subst (λ (z : Phase D × Work D). ShowsChild st.1.children z.0 z.1) {x = ((cells k).phase, (cells k).post.work)} {y = (ph, w)} (λ i. (is i, does i)) (h.each k near))) (λ _ l'. h.each j l') l;
      no_other = λ q x some_. let was = h.no_other q x some_ in (
        was.0,
        was.1,
        at_put cells k c (λ r y. r ≡ was.0 → living y.phase ≡ q) was.0
            (λ at_k. same ∙ (ap living (sym is) ∙ (ap (λ (r : ℕ). living (cells r).phase) at_k ∙ was.2))) (λ _ _. was.2) refl,
        was.3,
      );
      once = h.once;
    },
    own st.0 st.4,
    λ j l. at_put cells k c (λ q x. q < n → OwnPart st.0 q x.post) j (λ l'. same_part st.0 k (cells k).post c.post steps past (st.5 k l')) (λ _ l'. st.5 j l') l,
  )

module _ {D : Type 0} where
  -- a send is no event
  pub send_history : (limit : SessionLimit) (n : ℕ) (d : RosterView D) (cells : ℕ → Cell D) (slot pid g : ℕ) (kind : Kind) (signal : Signal) → History limit d cells n → History limit (after_step d (Send slot pid kind signal g)) cells n
  send_history limit n d cells slot pid g kind signal st = let h = st.3 in (
    st.0,
    st.1,
    st.2,
    record { generation = h.generation; is_open = h.is_open; noticed = h.noticed; last_pid = h.last_pid; each = h.each; no_other = h.no_other; once = h.once },
    own_send st.0 d.notes.steps (gate_of d) slot pid g kind signal st.4,
    st.5,
  )

module _ {J D : Type 0} (letter : Letter.Ghosts J D) (limit : SessionLimit) where
  -- pids of living children differ
  pub pids_apart : (s : State (Option J) (View D)) (m : ℕ) (d : RosterView D) (cells : ℕ → Cell D) → Holds letter m d cells s → (k j : ℕ) → k < child_slots (length s.homes) → j < child_slots (length s.homes) → j ≢ k → 0 < living (cells k).phase → living (cells j).phase ≢ living (cells k).phase
  pids_apart s m d cells h k j lk lj ne pos e = let a = seen_pid (cells k).phase (slot_at d k).past (slot_at d k).sight (h.each_slot k lk).seen pos in
      let pos' : 0 < living (cells j).phase = omega arith in let b = seen_pid (cells j).phase (slot_at d j).past (slot_at d j).sight (h.each_slot j lj).seen pos' in
      ne (h.pids.differ j k (subst (λ (z : ℕ). 0 < z) b pos') (sym b ∙ (e ∙ a)))

  -- the pid of a child that isn't released is the one that the supervisor sees
  unreleased_pid : (Q : ℕ → Type 0) (ph : Phase D) (past : List (PastChild D)) (x : Sight D) → Seen ph past x → ((p : ℕ) → used_pid x ≡ p → Q p) → OfUnreleased (λ o. Q o.pid) ph
  unreleased_pid Q (offered o) past x e f = f o.pid (ap used_pid e)
  unreleased_pid Q (running o a) past x e f = f o.pid (ap used_pid e)
  unreleased_pid Q (ended o st a b) past Unused e f = absurd e
  unreleased_pid Q (ended o st a b) past (Opened q) e f = absurd e
  unreleased_pid Q (ended o st a b) past (Assigned p) e f = f o.pid (ap (λ (z : Offer D). z.pid) e)
  unreleased_pid Q (ended o st a b) past (Exited p t c) e f = f o.pid (ap (λ (z : Offer D). z.pid) e.0)
  unreleased_pid Q (ended o st a b) past (Collected p t c) e f = absurd e
  unreleased_pid Q (ended o st a b) past (Gathered xs notes) e f = absurd e
  unreleased_pid Q unused past x e f = tt
  unreleased_pid Q (opened q) past x e f = tt
  unreleased_pid Q (collected o st a) past x e f = tt
  unreleased_pid Q gathered past x e f = tt

  -- the release of one child is that of no other
  pub others_stay : (s : State (Option J) (View D)) (m : ℕ) (d : RosterView D) (cells : ℕ → Cell D) → Holds letter m d cells s → (k j : ℕ) → j < child_slots (length s.homes) → j ≢ k → (pid g : ℕ) (kind : Kind) → 0 < pid → used_pid (slot_at d k).sight ≡ pid
      → OfUnreleased (λ o. NotReleased o.pid (Release pid kind g ∷ [])) (cells j).phase
  others_stay s m d cells h k j l ne pid g kind pos is = unreleased_pid (λ p. NotReleased p (Release pid kind g ∷ [])) (cells j).phase (slot_at d j).past (slot_at d j).sight (h.each_slot j l).seen
      (λ p at_p. release_is_other p pid g kind (λ same. ne (sym (h.pids.differ k j (subst (λ (z : ℕ). 0 < z) (sym is) pos) (is ∙ (sym same ∙ sym at_p))))))

  -- nor is a send to one child a send to another
  pub others_unsent : (s : State (Option J) (View D)) (m : ℕ) (d : RosterView D) (cells : ℕ → Cell D) → Holds letter m d cells s → (k j : ℕ) → j < child_slots (length s.homes) → j ≢ k → (pid g : ℕ) (kind : Kind) (sig : Signal) → 0 < pid → used_pid (slot_at d k).sight ≡ pid
      → OfUnreleased (λ o. NotSent o.pid (Send k pid kind sig g ∷ [])) (cells j).phase
  others_unsent s m d cells h k j l ne pid g kind sig pos is = unreleased_pid (λ p. NotSent p (Send k pid kind sig g ∷ [])) (cells j).phase (slot_at d j).past (slot_at d j).sight (h.each_slot j l).seen
      (λ p at_p. sent_to_other k p pid g kind sig (λ same. ne (sym (h.pids.differ k j (subst (λ (z : ℕ). 0 < z) (sym is) pos) (is ∙ (sym same ∙ sym at_p))))))

  pub kept : (s : State (Option J) (View D)) (n m : ℕ) (d : RosterView D) (cells : ℕ → Cell D) → Holds letter m d cells s → child_slots (length s.homes) ≡ n
      → GateOk limit n (get_or s.words n 0) (gate_of d) cells → History limit d cells n → Latches n s.words d cells → Seats s.views d cells → Kept letter limit s
  kept s n m d cells h e gate st la se = (m, d, cells, h, subst (λ (z : ℕ). GateOk limit z (get_or s.words z 0) (gate_of d) cells) (sym e) gate, subst (History limit d cells) (sym e) st, subst (λ (z : ℕ). Latches z s.words d cells) (sym e) la, se)

  -- the history, with what the supervisor's seat shows
  pub same_history : (s : State (Option J) (View D)) (m id : ℕ) (d e : RosterView D) (cells : ℕ → Cell D) → Holds letter m e cells s → get_elem? s.views id ≡ some (Postmaster d)
      → GateOk limit (child_slots (length s.homes)) (get_or s.words (child_slots (length s.homes)) 0) (gate_of e) cells → History limit e cells (child_slots (length s.homes)) → Latches (child_slots (length s.homes)) s.words e cells → Seats s.views e cells
      → GateOk limit (child_slots (length s.homes)) (get_or s.words (child_slots (length s.homes)) 0) (gate_of d) cells × History limit d cells (child_slots (length s.homes)) × Latches (child_slots (length s.homes)) s.words d cells × Seats s.views d cells
  same_history s m id d e cells h at gate st la se = subst (λ (z : RosterView D). GateOk limit (child_slots (length s.homes)) (get_or s.words (child_slots (length s.homes)) 0) (gate_of z) cells × History limit z cells (child_slots (length s.homes)) × Latches (child_slots (length s.homes)) s.words z cells × Seats s.views z cells) (sym (h.each_seat id (Postmaster d) at).1) (gate, st, la, se)

  module _ (s : State (Option J) (View D)) (m : ℕ) (d d' : RosterView D) (cells : ℕ → Cell D) (h : Holds letter m d cells s) (st : History limit d cells (child_slots (length s.homes)))
      (eg : d'.generation ≡ d.generation) (eo : d'.is_open ≡ d.is_open) (en : d'.noticed ≡ d.noticed) (k : ℕ) (near : k < child_slots (length s.homes)) where
    -- the child of the slot k, which had the phase ph and did w, leaves
    pub leaves : (o : Offer D) (a : Bool) (w : Work D) (c : Cell D) → (cells k).phase ≡ running o a → (cells k).post.work ≡ w → living c.phase ≡ 0 → 0 < o.pid → d'.notes ≡ d.notes
        → (y : PastChild D) → y.offer ≡ o → c.post.past ≡ (cells k).post.past ++ y ∷ [] → c.post.notes.steps ≡ (cells k).post.notes.steps ++ post_step.Exit o.pid o.kind ∷ []
        → ((cs : List Child) → ShowsChild cs c.phase c.post.work) → History limit d' (put cells k c) (child_slots (length s.homes))
    leaves o a w c is does gone pos el y of_o past steps any = let p : ℕ = o.pid in let x : Shared = st.1 in let e : Entry = record { event = shared.Leave p o.kind; slot = k } in let here : living (cells k).phase ≡ p = ap living is in
        let known = subst (λ (z : Phase D × Work D). ShowsChild x.children z.0 z.1) {x = ((cells k).phase, (cells k).post.work)} {y = (running o a, w)} (λ i. (is i, does i)) (st.3.each k near) in (
          st.0 ++ e ∷ [],
          after_shared x e.event,
          goes_on st.0 x e st.2 (subst (λ (z : Option Child). IsSomeAnd z (λ c. c.kind ≡ o.kind)) (sym known) refl) tt,
          shows_moves x (after_shared x e.event) d d' cells (child_slots (length s.homes)) k p c st.3 near pos
              record { generation = st.3.generation ∙ sym eg; is_open = st.3.is_open ∙ sym eo; noticed = st.3.noticed ∙ sym en; last_pid = st.3.last_pid ∙ ap (λ z. z.last_pid) (sym el) }
              (λ q ne. without_other p q x.children ne)
              (λ j l ne same. pids_apart s m d cells h k j near l ne (subst (λ (z : ℕ). 0 < z) (sym here) pos) (same ∙ sym here))
              (any _) (λ y some_. let no : None ≡ Some y = sym (st.3.once p) ∙ some_ in absurd (cc)) (λ q ne _ same. ne (sym same ∙ here))
              (λ q. once_left p q x.children st.3.once),
          subst (λ (z : List RosterStep × Gate). OwnSteps (st.0 ++ e ∷ []) z.0 z.1) (λ i. (ap (λ z. z.steps) (sym el) i, record { generation = sym eg i; is_open = sym eo i; noticed = sym en i })) (own_worker st.0 d.notes.steps (gate_of d) k e.event refl st.4),
          λ j l. at_put cells k c (λ q z. q < child_slots (length s.homes) → OwnPart (st.0 ++ e ∷ []) q z.post) j
              (λ l'. own_part st.0 k e.event (post_step.Exit p o.kind) (cells k).post c.post steps refl
              (ap (map pid_and_kind) past ∙ (map-append pid_and_kind (cells k).post.past (y ∷ []) ∙ ap (λ (z : Offer D). map pid_and_kind (cells k).post.past ++ (z.pid, z.kind) ∷ []) of_o)) (st.5 k l'))
              (λ ne l'. other_part st.0 j k e.event (cells j).post ne (st.5 j l')) l,
        )

    -- a new child joins, whose pid is above all earlier ones
    pub joins : (o : Offer D) (c : Cell D) → (q : ℕ) → (cells k).phase ≡ opened q → c.phase ≡ offered o → o.generation ≡ d.generation → d.notes.last_pid < o.pid → d'.notes.last_pid ≡ o.pid → d'.notes.steps ≡ d.notes.steps ++ Assign k o.pid o.kind o.generation ∷ [] → c.post ≡ (cells k).post
        → History limit d' (put cells k c) (child_slots (length s.homes))
    joins o c q is is' now new el steps same = let p : ℕ = o.pid in let x : Shared = st.1 in let e : Entry = record { event = shared.Join p o.kind; slot = k } in let here : living (cells k).phase ≡ 0 = ap living is in
        let last : x.last_pid ≡ d.notes.last_pid = st.3.last_pid in
        let child : Child = record { pid = p; kind = o.kind; generation = x.generation; attached = false } in
        let shown : child ≡ shown_child o false = (λ i. record { pid = p; kind = o.kind; generation = (st.3.generation ∙ sym now) i; attached = false }) in
        let fresh : (j : ℕ) → j < child_slots (length s.homes) → living (cells j).phase ≢ p = (λ j l q. let b : used_pid (slot_at d j).sight ≤ d.notes.last_pid = h.pids.below j in
        let r : living (cells j).phase ≡ used_pid (slot_at d j).sight = seen_pid (cells j).phase (slot_at d j).past (slot_at d j).sight (h.each_slot j l).seen (omega arith) in absurd (omega arith)) in
        let none : child_of p x.children ≡ None = absent p x.children (λ y some_. let was = st.3.no_other p y some_ in fresh was.0 was.1 was.2) in (
          st.0 ++ e ∷ [],
          after_shared x e.event,
          goes_on st.0 x e st.2 (omega arith) tt,
          shows_moves x (after_shared x e.event) d d' cells (child_slots (length s.homes)) k p c st.3 near (omega arith)
              record { generation = st.3.generation ∙ sym eg; is_open = st.3.is_open ∙ sym eo; noticed = st.3.noticed ∙ sym en; last_pid = sym el }
              (λ q ne. child_miss q child x.children (λ z. ne (sym z)))
              (λ j l _. fresh j l)
              (subst (λ (z : Phase D). ShowsChild (child ∷ x.children) z c.post.work) {x = offered o} {y = c.phase} (sym is') (child_hit p child x.children refl ∙ ap Some shown))
              (λ _ _. ap living is')
              (λ q ne pos same. let z : 0 ≡ q = sym here ∙ same in absurd (omega arith))
              (λ q. once_joined q child x.children none (st.3.once q)),
          subst (λ (z : List RosterStep × Gate). OwnSteps (st.0 ++ e ∷ []) z.0 z.1) (λ i. (sym steps i, record { generation = sym eg i; is_open = sym eo i; noticed = sym en i })) (own_step st.0 d.notes.steps (gate_of d) k e.event (Assign k p o.kind o.generation) refl st.4),
          λ j l. at_put cells k c (λ q z. q < child_slots (length s.homes) → OwnPart (st.0 ++ e ∷ []) q z.post) j
              (λ l'. no_part st.0 k k e.event (cells k).post c.post refl refl (ap (λ (z : PostView D). z.notes.steps) same) (ap (λ (z : PostView D). z.past) same) (st.5 k l'))
              (λ _ l'. no_part st.0 j k e.event (cells j).post (cells j).post refl refl refl refl (st.5 j l')) l,
        )
      where
        absent : (p : ℕ) (cs : List Child) → ((y : Child) → child_of p cs ≡ Some y → ⊥) → child_of p cs ≡ None
        absent p cs never = go (child_of p cs) refl
          where
            go : (r : Option Child) → child_of p cs ≡ r → child_of p cs ≡ None
            go None e = e
            go (Some y) e = absurd (never y e)

  -- nothing has happened yet
  pub first_history : (n : ℕ) (d : RosterView D) (cells : ℕ → Cell D) → d.generation ≡ 1 → d.is_open ≡ false → d.noticed ≡ None → d.notes.last_pid ≡ 0 → d.notes.steps ≡ [] → ((k : ℕ) → (cells k).phase ≡ unused) → ((k : ℕ) → (cells k).post.past ≡ []) → ((k : ℕ) → (cells k).post.notes.steps ≡ []) → History limit d cells n
  first_history n d cells eg eo en el steps new none nothing = (
    [],
    first.shared,
    begins,
    record {
      generation = sym eg;
      is_open = sym eo;
      noticed = sym en;
      last_pid = sym el;
      each = λ k _. subst (λ (z : Phase D). ShowsChild [] z (cells k).post.work) (sym (new k)) tt;
      no_other = λ p x some_. absurd (cc);
      once = λ p. refl;
    },
    subst (λ (z : List RosterStep × Gate). OwnSteps [] z.0 z.1) (λ i. (sym steps i, record { generation = sym eg i; is_open = sym eo i; noticed = sym en i })) record { made = refl; leave = refl },
    λ k _. record { made = ap (map worker_step) (sym (nothing k)); ends = ap (map pid_and_kind) (sym (none k)) },
  )
