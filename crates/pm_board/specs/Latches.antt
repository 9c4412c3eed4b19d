-- The rule of the latches: what stands for a child, and what it was given, was sent to it.
use Rattle.std.specs.{Prelude.{◌≡◌, ℕ, zero, suc, ◌+◌, ◌<◌, ◌≤◌, ◌⊎◌, Bool, true, ◌==◌, ◌&&◌, is_some, List, [], ◌∷◌, ◌++◌, Some, Result, Err, slice_index_or}, Int.bit_at, List.{Contains, AllByRecursion}}
use Rattle.pm_facts.specs.Numbers.{sum_below}
use Rattle.pm_supervisor.specs.{pm_exit.declared.child.Kind.Kind, declared.Reason.Reason}
use Rattle.pm_keys.specs.CancelKey.{cancel_key}
use Rattle.pm_child_life.specs.declared.life.GateNo.TheVariants as gate_no
use Rattle.pm_child_life.specs.declared.life.{Attempt.Attempt, Signals.Signals}
use Rattle.pm_board_words.specs.{declared.views.{SessionLimit.SessionLimit, Cancel.Cancel, Heard.Heard, Offer.Offer, PastChild.PastChild, RosterStep.{RosterStep, TheVariants.{Assign, Release, Quit, Ready, Reset, Send}}, RosterView.RosterView}, Words.bit, Latch.{latch_place, cancel_place, signal_number, latch_pid, is_given}}
use Rattle.pm_board.specs.{Gate.{GateAnswers, first_gate, gate_of_steps}, Rule.{Phase, unused, opened, offered, running, ended, collected, gathered, Cell}}

-- a step is a send of the signal of this number to this pid
abbrev pub is_send : ℕ → ℕ → RosterStep → Bool
is_send number pid (Send slot p kind signal generation) = (p == pid) && (signal_number signal == number)
is_send number pid _ = Bool.false

-- how often the supervisor sent that signal to that pid
abbrev pub times_sent : ℕ → ℕ → List RosterStep → ℕ
times_sent number pid [] = 0
times_sent number pid (s ∷ ss) = bit (is_send number pid s) + times_sent number pid ss

-- and how often it was given in these answers
abbrev pub times_given : ℕ → List Signals → ℕ
times_given number [] = 0
times_given number (s ∷ ss) = bit (is_given number s) + times_given number ss

-- no signal was sent to a child of this pid
abbrev pub NotSent : ℕ → List RosterStep → Type 0
NotSent pid steps = (number : ℕ) → times_sent number pid steps ≡ 0

-- the signal of this number was told of in an answer. Where both notices stood, that of a stop tells of both
abbrev pub is_heard : ℕ → Signals → Bool
is_heard zero s = is_some s.quit
is_heard (suc n) s = is_given (suc n) s

-- and how many of these answers told of it
abbrev pub times_heard : ℕ → List Signals → ℕ
times_heard number [] = 0
times_heard number (s ∷ ss) = bit (is_heard number s) + times_heard number ss

-- what was sent to a child of this pid stands in its latch, until an answer told of it
abbrev pub Reaches : List RosterStep → ℕ → ℕ → List Signals → Type 0
Reaches steps latch pid given =
    (number : ℕ) → number < 5 → 0 < times_sent number pid steps → 0 < bit_at latch number + times_heard number given

-- no child of this pid was released
abbrev pub NotReleased : ℕ → List RosterStep → Type 0
NotReleased pid steps = (kind : Kind) (generation : ℕ) → ¬ (Contains steps (Release pid kind generation))

-- what the supervisor did: its own steps, and whom it lets be attached at once
pub record Doings : Type 0 where
  pub steps : List RosterStep
  pub session_limit : SessionLimit

abbrev pub doings : List RosterStep → SessionLimit → Doings
doings steps limit = record { steps = steps; session_limit = limit }

-- how many of these answers told of a cancel
abbrev pub times_told : List Signals → ℕ
times_told [] = 0
times_told (s ∷ ss) = bit s.cancel + times_told ss

-- how many of these cancels are for this pid
abbrev pub times_made : ℕ → List Cancel → ℕ
times_made pid [] = 0
times_made pid (x ∷ xs) = bit (x.pid == pid) + times_made pid xs

-- and how many of them were made on this slot
abbrev pub times_made_on : ℕ → ℕ → List Cancel → ℕ
times_made_on k pid [] = 0
times_made_on k pid (x ∷ xs) = bit ((x.slot == k) && (x.pid == pid)) + times_made_on k pid xs

-- 1 where a slot's cancels hold this pid
abbrev pub waiting : ℕ → ℕ → ℕ
waiting zero pid = 0
waiting (suc n) pid = bit (suc n == pid)

-- the words of the latch and of the cancels of the slot k, of n
abbrev pub latch_at : ℕ → List ℕ → ℕ → ℕ
latch_at n words k = slice_index_or words (latch_place n k) 0

abbrev pub cancel_at : ℕ → List ℕ → ℕ → ℕ
cancel_at n words k = slice_index_or words (cancel_place n k) 0

-- the cancel that a slot's word holds is one that nobody has heeded yet
abbrev pub beside : (ℕ → ℕ → Type 0) → ℕ → ℕ → ℕ → Type 0
beside cancelled cancel pid times = cancelled pid (times + waiting cancel pid)

module _ {D : Type 0} where
  abbrev pub doings_of : RosterView D → Doings
  doings_of d = record { steps = d.notes.steps; session_limit = d.session_limit }

  -- this child was assigned, and none of its pid released
  abbrev pub IsAssignedBy : List RosterStep → Offer D → Type 0
  IsAssignedBy steps o = ((slot : ℕ) × Contains steps (Assign slot o.pid o.kind o.generation)) × NotReleased o.pid steps

  -- The gate answered this in the child's own generation, at a moment of the supervisor's own steps, after it assigned the child and
  -- before it released one of that pid, if it did
  abbrev pub AnsweredBefore : Doings → Offer D → Attempt → Type 0
  AnsweredBefore done o attempt =
      (before after : List RosterStep) × (done.steps ≡ before ++ after) × IsAssignedBy before o
      × ((gate_of_steps first_gate before).generation ≡ o.generation)
      × GateAnswers done.session_limit o.kind (gate_of_steps first_gate before) attempt

  -- What a child heard was meant for it. It was given no signal more often than it was sent to it, and heeded no more cancels than
  -- there are for its pid
  pub record HeardRightly (done : Doings) (cancelled : ℕ → ℕ → Type 0) (o : Offer D) (h : Heard) : Type 0 where
    pub sent : (number : ℕ) → times_given number h.given ≤ times_sent number o.pid done.steps
    pub cancels : cancelled o.pid (times_told h.given + bit h.heeded)
    -- and what it met at the gate, if it went there, the gate answered, as it was while the child was there
    pub shown : (attempt : Attempt) → h.met ≡ Some attempt → AnsweredBefore done o attempt

  -- Of the child that runs: a signal that stands hasn't been given yet for one of the sends
  pub record HearsRightly (done : Doings) (cancelled : ℕ → ℕ → Type 0) (latch : ℕ) (o : Offer D) (h : Heard) : Type 0 where
    pub so_far : HeardRightly done cancelled o h
    pub still : (number : ℕ) → number < 5 → times_given number h.given + bit_at latch number ≤ times_sent number o.pid done.steps

  -- the latch of a slot that has a child, or is about to have one, is armed for its pid
  abbrev pub ArmedFor : ℕ → Phase D → Type 0
  ArmedFor pid unused = Unit {0}
  ArmedFor pid (opened q) = pid ≡ q
  ArmedFor pid (offered o) = pid ≡ o.pid
  ArmedFor pid (running o active) = pid ≡ o.pid
  ArmedFor pid (ended o status active back) = pid ≡ o.pid
  ArmedFor pid (collected o status active) = pid ≡ o.pid
  ArmedFor pid gathered = Unit {0}

  -- what holds of the child that runs
  abbrev pub OfRunning : (Offer D → Type 0) → Phase D → Type 0
  OfRunning P (running o active) = P o
  OfRunning P unused = Unit {0}
  OfRunning P (opened q) = Unit {0}
  OfRunning P (offered o) = Unit {0}
  OfRunning P (ended o status active back) = Unit {0}
  OfRunning P (collected o status active) = Unit {0}
  OfRunning P gathered = Unit {0}

  -- and of one that isn't released
  abbrev pub OfUnreleased : (Offer D → Type 0) → Phase D → Type 0
  OfUnreleased P (offered o) = P o
  OfUnreleased P (running o active) = P o
  OfUnreleased P (ended o status active back) = P o
  OfUnreleased P unused = Unit {0}
  OfUnreleased P (opened q) = Unit {0}
  OfUnreleased P (collected o status active) = Unit {0}
  OfUnreleased P gathered = Unit {0}

  -- what was sent to the child that is offered stands, to the one that runs until it was told, and what a child leaves untold that
  -- exits stands on after it
  abbrev pub ReachesIn : List RosterStep → ℕ → List Signals → Phase D → Type 0
  ReachesIn steps latch given (offered o) = Reaches steps latch o.pid []
  ReachesIn steps latch given (running o active) = Reaches steps latch o.pid given
  ReachesIn steps latch given unused = Unit {0}
  ReachesIn steps latch given (opened q) = Unit {0}
  ReachesIn steps latch given (ended o status active back) = Reaches steps latch o.pid given
  ReachesIn steps latch given (collected o status active) = Unit {0}
  ReachesIn steps latch given gathered = Unit {0}

  -- a cancel that was made on its slot for the child that is offered stands there, and one for the child that runs until a heed
  -- found it. The word holds the greatest pid: that of a later child may stand in place of it
  abbrev pub CallsIn : (ℕ → ℕ) → ℕ → Heard → Phase D → Type 0
  CallsIn made cancel h (offered o) = 0 < made o.pid → o.pid ≤ cancel
  CallsIn made cancel h (running o active) = 0 < made o.pid → (o.pid ≤ cancel) ⊎ (h.found ≡ true)
  CallsIn made cancel h unused = Unit {0}
  CallsIn made cancel h (opened q) = Unit {0}
  CallsIn made cancel h (ended o status active back) = Unit {0}
  CallsIn made cancel h (collected o status active) = Unit {0}
  CallsIn made cancel h gathered = Unit {0}

  -- P holds of each child and what it heard, and there are as many of both
  abbrev pub EachHeard : (PastChild D → Heard → Type 0) → List (PastChild D) → List Heard → Type 0
  EachHeard P [] [] = Unit {0}
  EachHeard P (x ∷ xs) (h ∷ hs) = P x h × EachHeard P xs hs
  EachHeard P _ _ = ⊥

  abbrev pub HeardBy : Doings → (ℕ → ℕ → Type 0) → PastChild D → Heard → Type 0
  HeardBy done cancelled x h = HeardRightly done cancelled x.offer h

  -- the workers have made so many cancels for this pid, or more
  abbrev pub WereMade : ℕ → (ℕ → Cell D) → ℕ → ℕ → Type 0
  WereMade n cells pid times = times ≤ sum_below n (λ j. times_made pid (cells j).post.notes.cancels)

  -- so many cancels were made on the slot k for this pid
  abbrev pub made_on : ℕ → (ℕ → Cell D) → ℕ → ℕ → ℕ
  made_on n cells k pid = sum_below n (λ j. times_made_on k pid (cells j).post.notes.cancels)

  -- the words of a slot's latch and cancels
  pub record LatchOk (steps : List RosterStep) (cancelled : ℕ → ℕ → Type 0) (made : ℕ → ℕ) (latch cancel : ℕ) (c : Cell D) : Type 0 where
    pub armed : ArmedFor (latch_pid latch) c.phase
    pub fits : latch_pid latch < 2147483648
    -- a signal stands only where it was sent to that pid
    pub standing : (number : ℕ) → number < 5 → bit_at latch number ≤ times_sent number (latch_pid latch) steps
    pub cancel_is : 0 < cancel → cancelled cancel 1
    pub now : OfRunning (λ o. HearsRightly (doings steps c.post.notes.session_limit) (beside cancelled cancel) latch o c.post.notes.now) c.phase
    pub past : EachHeard (HeardBy (doings steps c.post.notes.session_limit) (beside cancelled cancel)) c.post.past c.post.notes.heard
    pub unreleased : OfUnreleased (λ o. IsAssignedBy steps o) c.phase
    pub named : OfUnreleased (λ o. 0 < o.pid) c.phase
    -- a cancel is made with the key of its pid, under the seed that its call was given
    pub keyed : AllByRecursion (λ x. x.key ≡ cancel_key x.seed x.pid) c.post.notes.cancels
    pub reaches : ReachesIn steps latch c.post.notes.now.given c.phase
    pub calls : CallsIn made cancel c.post.notes.now c.phase

  pub record LatchesOf (made : ℕ → ℕ → ℕ) (n : ℕ) (words : List ℕ) (d : RosterView D) (cells : ℕ → Cell D) : Type 0 where
    pub each : (k : ℕ) → k < n → LatchOk d.notes.steps (WereMade n cells) (made k) (latch_at n words k) (cancel_at n words k) (cells k)
    -- the notice that stands was given in this generation
    pub noticed : (why : Reason) → d.noticed ≡ Some why → Contains d.notes.steps (Quit why d.generation)
    pub fresh : (pid : ℕ) → d.notes.last_pid < pid → NotReleased pid d.notes.steps
    pub unsent : (pid : ℕ) → d.notes.last_pid < pid → NotSent pid d.notes.steps
    -- nor does a cancel go by that was made for a pid before it is given
    pub ahead : (k : ℕ) → k < n → (pid : ℕ) → d.notes.last_pid < pid → 0 < made k pid → pid ≤ cancel_at n words k

  abbrev pub Latches : ℕ → List ℕ → RosterView D → (ℕ → Cell D) → Type 0
  Latches n words d cells = LatchesOf (made_on n cells) n words d cells
