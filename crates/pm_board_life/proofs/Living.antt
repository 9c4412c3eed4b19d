-- A child that runs on a post, as its life knows it.
use Rattle.std.{proofs.{Common.{arith, ℕ, ◌≡◌, ◌+◌, inl, inr, ◌∙◌, ◌++◌, Bool, true, false, List, [], ◌∷◌, Option, Some, None, length, ap, sym, refl, subst}, lemmas.{List.{append-nil, append_assoc}, Grind.fold-append}}, specs.{Prelude.{IsTrue, Result, Ok, Err, not, nat_lt, if◌then◌else◌}, Option.option_to_list}}
use Rattle.pm_gate.specs.{pm_supervisor.{Children.{is_dead_end, is_session}, declared.Reason.Reason}, declared.tokens.Attached.Attached as Token, Attaching.{IsAttachedIn, HasAttached, HasLeft, answer_of, after_attach}}
use Rattle.pm_board.specs.{pm_child_life.{declared.life.{Cancelled.{Cancelled, TheVariants.{Sent, NoSuchPid, WrongKey}}, Attempt.Attempt, GateNo.{GateNo, TheVariants.{NotReady, TooMany, Reserved}}, Signals.Signals}, Life.{Told, attempt, nothing_told, asked_again, let_go}}, Slots.child_slots, pm_board_words.{declared.views.{SessionLimit.SessionLimit, Cancel.Cancel, Heard.Heard, LatchLook.LatchLook, Offer.Offer, PostView.PostView, Work.{Work, TheVariants.{Idle, Sees, Inactive, Active, Refused, Attached}}}, GateWords.{answer_to, gate_answer, session_answer, reserve_by, generation_in, notice_in, open_in, sessions_in}}, Told.{child_in, answered}, Models.{PostModel, MayAttach, RunsChild, cancel_of}, Rule.no_signals}
use Rattle.pm_latch.specs.{Taking.HasTaken, Cancelling.{HasAsked, looks_from, request}}
use Rattle.pm_board_life.specs.Lives.{Beginning, LifeModel, beginning, child_by, told_in_turn, told_by, IsAnswerTo, MetRightly, Makes, LivesAs, IsLiving, GoesOn, GoesOnFrom}

-- ---- at the gate

not_true : (b : Bool) → (IsTrue b → ⊥) → b ≡ false
not_true false h = refl
not_true true h = absurd (h refl)

answers : (shut room left is_ordinary : Bool) (g count : ℕ) → (room ≡ false → left ≡ true → is_ordinary ≡ true)
    → IsAnswerTo g true is_ordinary (if shut then Err (NotReady g) else (if room then Ok g else (if left then Err (Reserved count) else Err (TooMany count))))
answers true room left is_ordinary g count kept = (refl, refl)
answers false true left is_ordinary g count kept = refl
answers false false true is_ordinary g count kept = (refl, kept refl refl)
answers false false false is_ordinary g count kept = refl

-- places are kept from ordinary children alone
kept_from : (is_ordinary : Bool) (limit : SessionLimit) (count : ℕ) → nat_lt (count + reserve_by is_ordinary limit) limit.most ≡ false → nat_lt count limit.most ≡ true
    → is_ordinary ≡ true
kept_from true limit count full left = refl
kept_from false limit count full left =
    let same : count + 0 ≡ count = omega arith in
    absurd (let no : true ≡ false = sym left ∙ (sym (ap (λ (n : ℕ). nat_lt n limit.most) same) ∙ full) in cc)

-- what the gate answers is right for a child of the word's generation
pub answers_rightly : (session is_ordinary : Bool) (limit : SessionLimit) (notice : Option Reason) (word : ℕ)
    → IsAnswerTo (generation_in word) session is_ordinary (answer_to session notice word (session_answer limit.most (reserve_by is_ordinary limit) word))
answers_rightly session is_ordinary limit (Some why) word = refl
answers_rightly false is_ordinary limit None word = refl
answers_rightly true is_ordinary limit None word =
    answers (not (open_in word)) (nat_lt (sessions_in word + reserve_by is_ordinary limit) limit.most) (nat_lt (sessions_in word) limit.most) is_ordinary
    (generation_in word) (sessions_in word) (kept_from is_ordinary limit (sessions_in word))

abbrev stands : Option ℕ → Type 0
stands None = ⊥
stands (Some n) = Unit {0}

-- ---- the work of a child's post

module _ {D : Type 0} where
  pub runs : (pid : ℕ) (attached : Option Token) (work : Work D) → LivesAs pid attached work → RunsChild work
  runs pid None (Inactive o) h = (o, refl)
  runs pid (Some token) (Attached o g) h = (o, refl)
  runs pid None Idle h = elim h [ ]
  runs pid None (Sees _) h = elim h [ ]
  runs pid None (Active _) h = elim h [ ]
  runs pid None (Refused _ _) h = elim h [ ]
  runs pid None (Attached o g) h = elim h [ ]
  runs pid (Some token) Idle h = elim h [ ]
  runs pid (Some token) (Sees _) h = elim h [ ]
  runs pid (Some token) (Inactive o) h = elim h [ ]
  runs pid (Some token) (Active _) h = elim h [ ]
  runs pid (Some token) (Refused _ _) h = elim h [ ]

  pub living : (pid : ℕ) (attached : Option Token) (work : Work D) → LivesAs pid attached work → IsLiving work
  living pid None (Inactive o) h = tt
  living pid (Some token) (Attached o g) h = tt
  living pid None Idle h = elim h [ ]
  living pid None (Sees _) h = elim h [ ]
  living pid None (Active _) h = elim h [ ]
  living pid None (Refused _ _) h = elim h [ ]
  living pid None (Attached o g) h = elim h [ ]
  living pid (Some token) Idle h = elim h [ ]
  living pid (Some token) (Sees _) h = elim h [ ]
  living pid (Some token) (Inactive o) h = elim h [ ]
  living pid (Some token) (Active _) h = elim h [ ]
  living pid (Some token) (Refused _ _) h = elim h [ ]

  pub may_attach : (pid : ℕ) (attached : Option Token) (work : Work D) → LivesAs pid attached work → (child_by work).attached ≡ None
      → (IsTrue (child_by work).is_dead_end → ⊥) → MayAttach work
  may_attach pid None (Inactive o) h free may = (o, refl, not_true (is_dead_end o.kind) may)
  may_attach pid (Some token) (Attached o g) h free may = absurd (subst stands free tt)
  may_attach pid None Idle h free may = elim h [ ]
  may_attach pid None (Sees _) h free may = elim h [ ]
  may_attach pid None (Active _) h free may = elim h [ ]
  may_attach pid None (Refused _ _) h free may = elim h [ ]
  may_attach pid None (Attached o g) h free may = elim h [ ]
  may_attach pid (Some token) Idle h free may = elim h [ ]
  may_attach pid (Some token) (Sees _) h free may = elim h [ ]
  may_attach pid (Some token) (Inactive o) h free may = elim h [ ]
  may_attach pid (Some token) (Active _) h free may = elim h [ ]
  may_attach pid (Some token) (Refused _ _) h free may = elim h [ ]

  pub is_attached : (pid : ℕ) (token : Token) (work : Work D) → LivesAs pid (Some token) work → IsAttachedIn token.generation work
  is_attached pid token (Attached o g) h = (o, ap (λ n. Attached o n) (sym h.1))
  is_attached pid token Idle h = elim h [ ]
  is_attached pid token (Sees _) h = elim h [ ]
  is_attached pid token (Inactive _) h = elim h [ ]
  is_attached pid token (Active _) h = elim h [ ]
  is_attached pid token (Refused _ _) h = elim h [ ]

-- ---- what it was told, one answer longer

told_behind : (answers : List Signals) (s : Signals) → told_in_turn (answers ++ s ∷ []) ≡ asked_again s (told_in_turn answers)
told_behind answers s = fold-append (λ (told : Told) (x : Signals). asked_again x told) nothing_told answers (s ∷ [])

pub told_more : {D : Type 0} (s : Signals) (before after : PostView D) (cancel : Option (ℕ × ℕ)) → RunsChild before.work → HasTaken s before after
    → told_by after.notes.now cancel ≡ asked_again s (told_by before.notes.now cancel)
told_more s before after cancel runs taken =
    let t = taken runs.0 runs.1 in
    ap (λ w. told_by w.notes.now cancel) t.3
    ∙ (ap (λ (x : Signals). told_by (answered before.notes.now x) cancel) (sym t.2)
    ∙ ap (λ (told : Told). record told { met = before.notes.now.met; cancels = option_to_list cancel }) (told_behind before.notes.now.given s))

-- ---- from one moment to the next

module _ {D : Type 0} where
  pub record Follows (before now : LifeModel D) : Type 0 where
    pub table : now.post.table ≡ before.post.table
    pub slot : now.post.slot ≡ before.post.slot
    pub seed : now.seed ≡ before.seed
    pub child : child_in now.post.knows.work ≡ child_in before.post.knows.work
    pub past : now.post.knows.past ≡ before.post.knows.past
    pub heard : now.post.knows.notes.heard ≡ before.post.knows.notes.heard
    pub met : (o : Offer D) → child_in before.post.knows.work ≡ Some o → MetRightly o before.post.knows.notes.now.met → MetRightly o now.post.knows.notes.now.met
    pub looked : List LatchLook
    pub made : List Cancel
    pub makes :
        (seed : List ℕ) (slots : ℕ) → before.seed ≡ seed → child_slots before.post.table.slots ≡ slots → (looks : List LatchLook) (earlier : List Cancel)
        → Makes seed slots before.cancel looks earlier → Makes seed slots now.cancel (looks ++ looked) (earlier ++ made)
    pub looks : now.post.knows.notes.looked ≡ before.post.knows.notes.looked ++ looked
    pub cancels : now.post.knows.notes.cancels ≡ before.post.knows.notes.cancels ++ made

  pub goes : (before now : LifeModel D) → Follows before now → (begun : Option (Beginning D)) → GoesOnFrom begun before → GoesOnFrom begun now
  goes before now f None on = on
  goes before now f (Some first) on =
      record {
        table = f.table ∙ on.table;
        slot = f.slot ∙ on.slot;
        seed = f.seed ∙ on.seed;
        child = f.child ∙ on.child;
        past = f.past ∙ on.past;
        heard = f.heard ∙ on.heard;
        met = λ o is. f.met o (on.child ∙ is) (on.met o is);
        looked = on.looked ++ f.looked;
        made = on.made ++ f.made;
        makes = f.makes first.seed (child_slots first.post.table.slots) on.seed (ap (λ t. child_slots t.slots) on.table) on.looked on.made on.makes;
        looks = f.looks ∙ (ap (λ xs. xs ++ f.looked) on.looks ∙ append_assoc first.post.knows.notes.looked on.looked f.looked);
        cancels = f.cancels ∙ (ap (λ xs. xs ++ f.made) on.cancels ∙ append_assoc first.post.knows.notes.cancels on.made f.made);
      }

-- where no latch is looked at and no cancel made
same_makes : (cancel : Option (ℕ × ℕ)) (seed : List ℕ) (slots : ℕ) (looked : List LatchLook) (made : List Cancel) → Makes seed slots cancel looked made
    → Makes seed slots cancel (looked ++ []) (made ++ [])
same_makes cancel seed slots looked made h =
    subst (λ (l : List LatchLook). Makes seed slots cancel l (made ++ [])) (sym (append-nil looked))
    (subst (λ (m : List Cancel). Makes seed slots cancel looked m) (sym (append-nil made)) h)

-- where a child asks for its first cancel
first_makes : (its : List ℕ) (many : ℕ) (asked : ℕ × ℕ) (looked : List LatchLook) (made : List Cancel) → Makes its many (Some asked) looked made
    → (seed : List ℕ) (slots : ℕ) → its ≡ seed → many ≡ slots → (looks : List LatchLook) (earlier : List Cancel) → Makes seed slots None looks earlier
    → Makes seed slots (Some asked) (looks ++ looked) (earlier ++ made)
first_makes its many asked looked made is seed slots same as_many looks earlier none =
    subst (λ (l : List LatchLook). Makes seed slots (Some asked) (l ++ looked) (earlier ++ made)) (sym none.0)
    (subst (λ (m : List Cancel). Makes seed slots (Some asked) looked (m ++ made)) (sym none.1)
    (subst (λ (n : ℕ). Makes seed n (Some asked) looked made) as_many
    (subst (λ (s : List ℕ). Makes s many (Some asked) looked made) same is)))

none_asked : (cancel : Option (ℕ × ℕ)) → option_to_list cancel ≡ [] → cancel ≡ None
none_asked None e = refl
none_asked (Some x) e = absurd (cc)

abbrev child_or : {D : Type 0} → Offer D → Option (Offer D) → Offer D
child_or o None = o
child_or o (Some p) = p

module _ {D : Type 0} where
  -- it took its signals
  pub takes : (s : Signals) (seed : List ℕ) (cancel : Option (ℕ × ℕ)) (before after : PostModel D) → RunsChild before.knows.work → after.table ≡ before.table → after.slot ≡ before.slot
      → after.knows.work ≡ before.knows.work → HasTaken s before.knows after.knows → Follows (record { post = before; seed = seed; cancel = cancel }) (record { post = after; seed = seed; cancel = cancel })
  takes s seed cancel before after runs t sl w taken =
      let is = (taken runs.0 runs.1).3 in
      record {
        table = t;
        slot = sl;
        seed = refl;
        child = ap child_in w;
        past = ap (λ v. v.past) is;
        heard = ap (λ v. v.notes.heard) is;
        met = λ o e m. subst (MetRightly o) (sym (ap (λ v. v.notes.now.met) is)) m;
        looked = [];
        made = [];
        makes = λ its many _ _. same_makes cancel its many;
        looks = ap (λ v. v.notes.looked) is ∙ sym (append-nil before.knows.notes.looked);
        cancels = ap (λ v. v.notes.cancels) is ∙ sym (append-nil before.knows.notes.cancels);
      }

  -- it was at the gate and met this
  gated : (seed : List ℕ) (cancel : Option (ℕ × ℕ)) (before after : PostModel D) (o : Offer D) (try : Attempt) → before.knows.work ≡ Inactive o
      → after.table ≡ before.table → after.slot ≡ before.slot → child_in after.knows.work ≡ Some o → after.knows.past ≡ before.knows.past
      → after.knows.notes.heard ≡ before.knows.notes.heard → after.knows.notes.now.met ≡ Some try → after.knows.notes.looked ≡ before.knows.notes.looked
      → after.knows.notes.cancels ≡ before.knows.notes.cancels
      → MetRightly o (Some try) → Follows (record { post = before; seed = seed; cancel = cancel }) (record { post = after; seed = seed; cancel = cancel })
  gated seed cancel before after o try does t sl child past heard met looks cancels right =
      record {
        table = t;
        slot = sl;
        seed = refl;
        child = child ∙ sym (ap child_in does);
        past = past;
        heard = heard;
        met = λ p e m.
            let same : o ≡ p = ap (child_or o) (sym (ap child_in does) ∙ e) in
            subst (MetRightly p) (sym met) (subst (λ (q : Offer D). MetRightly q (Some try)) same right);
        looked = [];
        made = [];
        makes = λ its many _ _. same_makes cancel its many;
        looks = looks ∙ sym (append-nil before.knows.notes.looked);
        cancels = cancels ∙ sym (append-nil before.knows.notes.cancels);
      }

  gated_by : (seed : List ℕ) (cancel : Option (ℕ × ℕ)) (before after : PostModel D) (o : Offer D) (is_ordinary : Bool) (answer : Result ℕ GateNo) (word : ℕ)
      → before.knows.work ≡ Inactive o → after.table ≡ before.table → after.slot ≡ before.slot → after.knows ≡ after_attach before.knows o word (attempt is_ordinary answer)
      → MetRightly o (Some (attempt is_ordinary answer)) → Follows (record { post = before; seed = seed; cancel = cancel }) (record { post = after; seed = seed; cancel = cancel })
  gated_by seed cancel before after o is_ordinary (Ok g) word does t sl is right =
      gated seed cancel before after o (attempt is_ordinary (Ok g)) does t sl (ap (λ v. child_in v.work) is) (ap (λ v. v.past) is) (ap (λ v. v.notes.heard) is) (ap (λ v. v.notes.now.met) is)
      (ap (λ v. v.notes.looked) is) (ap (λ v. v.notes.cancels) is) right
  gated_by seed cancel before after o is_ordinary (Err refusal) word does t sl is right =
      gated seed cancel before after o (attempt is_ordinary (Err refusal)) does t sl (ap (λ v. child_in v.work) is) (ap (λ v. v.past) is) (ap (λ v. v.notes.heard) is) (ap (λ v. v.notes.now.met) is)
      (ap (λ v. v.notes.looked) is) (ap (λ v. v.notes.cancels) is) right

  pub attaches : (seed : List ℕ) (cancel : Option (ℕ × ℕ)) (before after : PostModel D) (is_ordinary : Bool) (answer : Result Token GateNo) → MayAttach before.knows.work
      → after.table ≡ before.table → after.slot ≡ before.slot → HasAttached (attempt is_ordinary (answer_of answer)) before.knows after.knows
      → Follows (record { post = before; seed = seed; cancel = cancel }) (record { post = after; seed = seed; cancel = cancel })
  attaches seed cancel before after is_ordinary answer may t sl met =
      let o = may.0 in
      let m = met o may.1 in
      gated_by seed cancel before after o is_ordinary (answer_of answer) m.0 may.1 t sl m.2
      (subst (IsAnswerTo o.generation (is_session o.kind) is_ordinary) (sym m.1)
      (subst (λ (g : ℕ). IsAnswerTo g (is_session o.kind) is_ordinary (gate_answer o.kind is_ordinary before.knows.notes.session_limit m.0)) m.3
      (answers_rightly (is_session o.kind) is_ordinary before.knows.notes.session_limit (notice_in m.0) m.0)))

  pid_of : (pid : ℕ) (attached : Option Token) (o : Offer D) → LivesAs pid attached (Inactive o) → pid ≡ o.pid
  pid_of pid None o h = h
  pid_of pid (Some token) o h = elim h [ ]

  -- it was let in
  pub let_in : (pid : ℕ) (attached : Option Token) (token : Token) (before after : Work D) → LivesAs pid attached before → MayAttach before
      → child_in after ≡ child_in before → IsAttachedIn token.generation after → LivesAs pid (Some token) after
  let_in pid attached token before after lives may child is =
      let o = may.0 in
      let same : o ≡ is.0 = ap (child_or o) (sym (ap child_in may.1) ∙ sym child ∙ ap child_in is.1) in
      subst (LivesAs pid (Some token)) (sym is.1) (pid_of pid attached o (subst (LivesAs pid attached) may.1 lives) ∙ ap (λ (q : Offer D). q.pid) same, refl)

  -- it has let go
  pub record Lets (pid : ℕ) (seed : List ℕ) (cancel : Option (ℕ × ℕ)) (before after : PostModel D) : Type 0 where
    pub lives : LivesAs pid None after.knows.work
    pub follows : Follows (record { post = before; seed = seed; cancel = cancel }) (record { post = after; seed = seed; cancel = cancel })
    pub child : child_by after.knows.work ≡ let_go (child_by before.knows.work)
    pub now : after.knows.notes.now ≡ before.knows.notes.now

  lets_by : (pid : ℕ) (token : Token) (seed : List ℕ) (cancel : Option (ℕ × ℕ)) (before after : PostModel D) (work : Work D) → before.knows.work ≡ work → LivesAs pid (Some token) work
      → after.table ≡ before.table → after.slot ≡ before.slot → HasLeft token.generation before.knows after.knows → Lets pid seed cancel before after
  lets_by pid token seed cancel before after (Attached o g) e h t s left =
      let is = left o (e ∙ ap (λ n. Attached o n) (sym h.1)) in
      record {
        lives = subst (LivesAs pid None) (sym (ap (λ w. w.work) is)) h.0;
        follows =
            record {
              table = t;
              slot = s;
              seed = refl;
              child = ap (λ w. child_in w.work) is ∙ sym (ap child_in e);
              past = ap (λ w. w.past) is;
              heard = ap (λ w. w.notes.heard) is;
              met = λ p _ m. subst (MetRightly p) (sym (ap (λ v. v.notes.now.met) is)) m;
              looked = [];
              made = [];
              makes = λ its many _ _. same_makes cancel its many;
              looks = ap (λ v. v.notes.looked) is ∙ sym (append-nil before.knows.notes.looked);
              cancels = ap (λ v. v.notes.cancels) is ∙ sym (append-nil before.knows.notes.cancels);
            };
        child = ap (λ w. child_by w.work) is ∙ sym (ap (λ w. let_go (child_by w)) e);
        now = ap (λ w. w.notes.now) is;
      }
  lets_by pid token seed cancel before after Idle e h t s left = elim h [ ]
  lets_by pid token seed cancel before after (Sees _) e h t s left = elim h [ ]
  lets_by pid token seed cancel before after (Inactive _) e h t s left = elim h [ ]
  lets_by pid token seed cancel before after (Active _) e h t s left = elim h [ ]
  lets_by pid token seed cancel before after (Refused _ _) e h t s left = elim h [ ]

  pub lets : (pid : ℕ) (token : Token) (seed : List ℕ) (cancel : Option (ℕ × ℕ)) (before after : PostModel D) → LivesAs pid (Some token) before.knows.work
      → after.table ≡ before.table → after.slot ≡ before.slot → HasLeft token.generation before.knows after.knows → Lets pid seed cancel before after
  lets pid token seed cancel before after h t s left = lets_by pid token seed cancel before after before.knows.work refl h t s left

  asks_first : (seed : List ℕ) (pid key : ℕ) (answer : Cancelled) (before after : PostModel D) → after.table ≡ before.table → after.slot ≡ before.slot
      → HasAsked (request seed pid key) answer before after
      → Follows (record { post = before; seed = seed; cancel = None }) (record { post = after; seed = seed; cancel = Some (pid, key) }) × (after.knows.notes.now ≡ before.knows.notes.now) × (after.knows.work ≡ before.knows.work)
  asks_first seed pid key WrongKey before after t s asked =
      let is = asked.1 in (
        record {
          table = t;
          slot = s;
          seed = refl;
          child = ap (λ w. child_in w.work) is;
          past = ap (λ w. w.past) is;
          heard = ap (λ w. w.notes.heard) is;
          met = λ o _ m. subst (MetRightly o) (sym (ap (λ v. v.notes.now.met) is)) m;
          looked = [];
          made = [];
          makes = first_makes seed (child_slots before.table.slots) (pid, key) [] [] (inl (asked.0, refl, refl));
          looks = ap (λ w. w.notes.looked) is ∙ sym (append-nil before.knows.notes.looked);
          cancels = ap (λ w. w.notes.cancels) is ∙ sym (append-nil before.knows.notes.cancels);
        },
        ap (λ w. w.notes.now) is,
        ap (λ w. w.work) is,
      )
  asks_first seed pid key NoSuchPid before after t s asked =
      let is = asked.1.3 in (
        record {
          table = t;
          slot = s;
          seed = refl;
          child = ap (λ w. child_in w.work) is;
          past = ap (λ w. w.past) is;
          heard = ap (λ w. w.notes.heard) is;
          met = λ o _ m. subst (MetRightly o) (sym (ap (λ v. v.notes.now.met) is)) m;
          looked = looks_from 0 asked.1.0;
          made = [];
          makes =
              first_makes seed (child_slots before.table.slots) (pid, key) (looks_from 0 asked.1.0) []
              (inr (asked.0, inl (record { words = asked.1.0; all = asked.1.1; none = asked.1.2; looks = refl; makes = refl })));
          looks = ap (λ w. w.notes.looked) is;
          cancels = ap (λ w. w.notes.cancels) is ∙ sym (append-nil before.knows.notes.cancels);
        },
        ap (λ w. w.notes.now) is,
        ap (λ w. w.work) is,
      )
  asks_first seed pid key Sent before after t s asked =
      let is = asked.1.5 in (
        record {
          table = t;
          slot = s;
          seed = refl;
          child = ap (λ w. child_in w.work) is;
          past = ap (λ w. w.past) is;
          heard = ap (λ w. w.notes.heard) is;
          met = λ o _ m. subst (MetRightly o) (sym (ap (λ v. v.notes.now.met) is)) m;
          looked = looks_from 0 (asked.1.0 ++ asked.1.1 ∷ []);
          made = cancel_of (length asked.1.0) seed pid key ∷ [];
          makes =
              first_makes seed (child_slots before.table.slots) (pid, key) (looks_from 0 (asked.1.0 ++ asked.1.1 ∷ [])) (cancel_of (length asked.1.0) seed pid key ∷ [])
              (inr (asked.0, inr (record { words = asked.1.0; word = asked.1.1; below = asked.1.2; none = asked.1.3; armed = asked.1.4; looks = refl; makes = refl })));
          looks = ap (λ w. w.notes.looked) is;
          cancels = ap (λ w. w.notes.cancels) is;
        },
        ap (λ w. w.notes.now) is,
        ap (λ w. w.work) is,
      )

  pub asks : (cancel : Option (ℕ × ℕ)) → option_to_list cancel ≡ [] → (seed : List ℕ) (pid key : ℕ) (answer : Cancelled) (before after : PostModel D) → after.table ≡ before.table
      → after.slot ≡ before.slot → HasAsked (request seed pid key) answer before after
      → Follows (record { post = before; seed = seed; cancel = cancel }) (record { post = after; seed = seed; cancel = Some (pid, key) }) × (after.knows.notes.now ≡ before.knows.notes.now) × (after.knows.work ≡ before.knows.work)
  asks cancel none seed pid key answer before after t s asked =
      subst (λ (c : Option (ℕ × ℕ)). Follows (record { post = before; seed = seed; cancel = c }) (record { post = after; seed = seed; cancel = Some (pid, key) }) × (after.knows.notes.now ≡ before.knows.notes.now) × (after.knows.work ≡ before.knows.work))
      (sym (none_asked cancel none)) (asks_first seed pid key answer before after t s asked)

  -- at the start
  pub begins : (post : PostModel D) (seed : List ℕ) → post.knows.notes.now ≡ no_signals → GoesOn (beginning post seed) (record { post = post; seed = seed; cancel = None })
  begins post seed untold =
      record {
        table = refl;
        slot = refl;
        seed = refl;
        child = refl;
        past = refl;
        heard = refl;
        met = λ o _. subst (MetRightly o) (sym (ap (λ (h : Heard). h.met) untold)) tt;
        looked = [];
        made = [];
        makes = (refl, refl);
        looks = sym (append-nil post.knows.notes.looked);
        cancels = sym (append-nil post.knows.notes.cancels);
      }
