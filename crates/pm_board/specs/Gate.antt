-- The gate: what its word tells, and which children it counts.
use Rattle.std.specs.Prelude.{◌≡◌, ℕ, ◌+◌, ◌<◌, ◌≤◌, Bool, true, false, List, [], ◌∷◌, Option, Some, None, Result, Ok, Err}
use Rattle.pm_facts.specs.Numbers.{sum_below}
use Rattle.pm_supervisor.specs.{pm_exit.declared.child.Kind.Kind, declared.Reason.Reason, Children.{is_session, is_dead_end}}
use Rattle.pm_board_words.specs.{declared.views.{SessionLimit.SessionLimit, PastChild.PastChild, RosterStep.{RosterStep, TheVariants.{Assign, Release, Quit, Ready, Reset, Send}}, RosterView.RosterView, Work.{Work, TheVariants.{Idle, Sees, Inactive, Active, Refused, Attached}}, PostView.PostView}, Words.bit, GateWords.gate_packed}
use Rattle.pm_board.specs.{Places.{is_auxiliary, lost}, Rule.{Cell, OfLiving}}
use Rattle.pm_child_life.specs.declared.life.{Attempt.Attempt, GateNo.GateNo}
use Rattle.pm_child_life.specs.declared.life.GateNo.TheVariants as gate_no

-- what the supervisor has made of the gate
pub record Gate : Type 0 where
  pub generation : ℕ
  pub is_open : Bool
  pub noticed : Option Reason

abbrev pub first_gate : Gate
first_gate = record { generation = 1; is_open = false; noticed = None }

abbrev pub gate_of : {D : Type 0} → RosterView D → Gate
gate_of d = record { generation = d.generation; is_open = d.is_open; noticed = d.noticed }

-- the gate after a step of the supervisor, and after all of them
abbrev pub gate_after : Gate → RosterStep → Gate
gate_after gate (Quit reason generation) = record gate { noticed = Some reason }
gate_after gate (Ready generation) = record gate { is_open = true; noticed = None }
gate_after gate (Reset generation) = record { generation = generation; is_open = false; noticed = None }
gate_after gate _ = gate

abbrev pub gate_of_steps : Gate → List RosterStep → Gate
gate_of_steps gate [] = gate
gate_of_steps gate (s ∷ ss) = gate_of_steps (gate_after gate s) ss

-- a session meets a gate without notice that is open, or isn't
abbrev pub MeetsSession : (is_open : Bool) → Kind → Gate → Type 0
MeetsSession is_open kind gate = (gate.noticed ≡ None) × (is_session kind ≡ true) × (gate.is_open ≡ is_open)

module _ (limit : SessionLimit) (kind : Kind) (gate : Gate) where
  -- What a gate answers a child of such a kind: a notice that stands; to a session that it isn't open yet, or that no fewer have a
  -- place than may be attached; to an ordinary one that no more are left than are reserved; and else it lets the child in
  abbrev pub Answers : (is_ordinary : Bool) → Result ℕ GateNo → Type 0
  Answers is_ordinary (Ok g) = (g ≡ gate.generation) × (gate.noticed ≡ None) × (is_session kind ≡ true → gate.is_open ≡ true)
  Answers is_ordinary (Err (gate_no.Quit g why)) = (g ≡ gate.generation) × (gate.noticed ≡ Some why)
  Answers is_ordinary (Err (gate_no.NotReady g)) = (g ≡ gate.generation) × MeetsSession false kind gate
  Answers is_ordinary (Err (gate_no.TooMany count)) = (limit.most ≤ count) × MeetsSession true kind gate
  Answers is_ordinary (Err (gate_no.Reserved count)) =
      (is_ordinary ≡ true) × (count < limit.most) × (limit.most ≤ count + limit.reserved) × MeetsSession true kind gate

  abbrev pub GateAnswers : Attempt → Type 0
  GateAnswers attempt = Answers attempt.is_ordinary attempt.answer

module _ {D : Type 0} where
  -- a child of such a kind stands at the gate: it was refused and hasn't backed out yet, or is attached
  abbrev pub at_gate : (Kind → Bool) → Work D → ℕ
  at_gate test (Refused o g) = bit (test o.kind)
  at_gate test (Attached o g) = bit (test o.kind)
  at_gate test Idle = 0
  at_gate test (Sees word) = 0
  at_gate test (Inactive o) = 0
  at_gate test (Active o) = 0

  abbrev pub attached : (Kind → Bool) → Work D → ℕ
  attached test (Attached o g) = bit (test o.kind)
  attached test Idle = 0
  attached test (Sees word) = 0
  attached test (Inactive o) = 0
  attached test (Active o) = 0
  attached test (Refused o g) = 0

  -- what a worker has at the gate: its child, and those that exited attached in this generation
  abbrev pub counted : (Kind → Bool) → ℕ → PostView D → ℕ
  counted test g w = at_gate test w.work + lost test g w.past

  abbrev pub staying : (Kind → Bool) → ℕ → PostView D → ℕ
  staying test g w = attached test w.work + lost test g w.past

  -- a child at the gate stands there in the present generation, and is no dead-end child
  abbrev pub IsCurrent : ℕ → Work D → Type 0
  IsCurrent g (Refused o h) = (h ≡ g) × (is_dead_end o.kind ≡ false)
  IsCurrent g (Attached o h) = (h ≡ g) × (is_dead_end o.kind ≡ false)
  IsCurrent g Idle = Unit {0}
  IsCurrent g (Sees word) = Unit {0}
  IsCurrent g (Inactive o) = Unit {0}
  IsCurrent g (Active o) = Unit {0}

  -- no child is of a later generation
  abbrev pub AllUpTo : ℕ → List (PastChild D) → Type 0
  AllUpTo g [] = Unit {0}
  AllUpTo g (x ∷ xs) = (x.offer.generation ≤ g) × AllUpTo g xs

  pub record InGeneration (limit : SessionLimit) (g : ℕ) (w : PostView D) : Type 0 where
    pub now : IsCurrent g w.work
    pub before : AllUpTo g w.past
    pub limit_is : w.notes.session_limit ≡ limit

  -- At most one auxiliary child of a slot exits attached in a generation: none that is offered or runs has such a forerunner
  pub record AuxiliaryOnce (g : ℕ) (c : Cell D) : Type 0 where
    pub at_most : lost is_auxiliary g c.post.past ≤ 1
    pub none_before : OfLiving (λ o. is_auxiliary o.kind ≡ true → lost is_auxiliary g c.post.past ≡ 0) c.phase

  abbrev pub gate_word : ℕ → Gate → (ℕ → Cell D) → ℕ
  gate_word n gate cells =
      gate_packed record {
        generation = gate.generation;
        is_open = gate.is_open;
        noticed = gate.noticed;
        sessions = sum_below n (λ k. counted is_session gate.generation (cells k).post);
        auxiliaries = sum_below n (λ k. counted is_auxiliary gate.generation (cells k).post);
      }

  -- The gate's word shows what the supervisor has made of it and counts the children of n slots. No more sessions stay than
  -- the limit, and none before the generation is open. All of them are of the present generation.
  pub record GateOk (limit : SessionLimit) (n word : ℕ) (gate : Gate) (cells : ℕ → Cell D) : Type 0 where
    pub shows : word ≡ gate_word n gate cells
    pub few : sum_below n (λ k. staying is_session gate.generation (cells k).post) ≤ limit.most
    pub shut : gate.is_open ≡ false → sum_below n (λ k. staying is_session gate.generation (cells k).post) ≡ 0
    pub small : (n ≤ 407) × (limit.most ≤ 200)
    pub first : 0 < gate.generation
    pub fits : gate.generation < 4294967296
    pub current : (k : ℕ) → InGeneration limit gate.generation (cells k).post
    pub once : (k : ℕ) → AuxiliaryOnce gate.generation (cells k)
