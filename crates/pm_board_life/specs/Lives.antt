-- What the life of a child tells that runs on a post.
use Rattle.std.specs.{Prelude.{◌≡◌, ◌⊎◌, ℕ, ◌<◌, Bool, true, false, List, [], ◌∷◌, ◌++◌, Option, Some, None, Result, Ok, Err, IfSome, length}, List.fold, Option.option_to_list}
use Rattle.pm_gate.specs.{pm_supervisor.Children.{is_dead_end, is_session}, declared.tokens.Attached.Attached as Token}
use Rattle.pm_board.specs.{pm_child_life.{declared.life.{Attempt.Attempt, GateNo.{GateNo, TheVariants.{Quit, NotReady, TooMany, Reserved}}, Signals.Signals}, Life.{Child, Told, nothing_told, asked_again}}, Slots.child_slots, pm_board_words.{declared.views.{Cancel.Cancel, Heard.Heard, LatchLook.LatchLook, Offer.Offer, Work.{Work, TheVariants.{Idle, Sees, Inactive, Active, Refused, Attached}}}, Latch.latch_pid}, Told.child_in, Models.{PostModel, cancel_of}}
use Rattle.pm_latch.specs.Cancelling.{Request, request, HasKey, looks_from, NoneFor}

-- ---- what it was told

-- by these answers, one after the other
abbrev pub told_in_turn : List Signals → Told
told_in_turn answers = fold (λ told signals. asked_again signals told) nothing_told answers

-- What a child has asked, was given and met, as its post noted it, and the cancel that it asked for, if it did.
abbrev pub told_by : Heard → Option (ℕ × ℕ) → Told
told_by heard cancel = record (told_in_turn heard.given) { met = heard.met; cancels = option_to_list cancel }

-- ---- what it met at the gate

abbrev pub IsRefusalOf : (generation : ℕ) → (session is_ordinary : Bool) → GateNo → Type 0
IsRefusalOf generation session is_ordinary (Quit noticed reason) = noticed ≡ generation
IsRefusalOf generation session is_ordinary (NotReady shut) = (shut ≡ generation) × (session ≡ true)
IsRefusalOf generation session is_ordinary (TooMany count) = session ≡ true
IsRefusalOf generation session is_ordinary (Reserved count) = (session ≡ true) × (is_ordinary ≡ true)

-- A child is let into its own generation. It is refused for a notice in that generation; only a session is refused for another
-- cause, and only one that came as an ordinary one since the places that are left are reserved.
abbrev pub IsAnswerTo : (generation : ℕ) → (session is_ordinary : Bool) → Result ℕ GateNo → Type 0
IsAnswerTo generation session is_ordinary (Ok let_in) = let_in ≡ generation
IsAnswerTo generation session is_ordinary (Err refusal) = IsRefusalOf generation session is_ordinary refusal

abbrev pub MetRightly : {D : Type 0} → Offer D → Option Attempt → Type 0
MetRightly o met = IfSome met (λ attempt. IsAnswerTo o.generation (is_session o.kind) attempt.is_ordinary attempt.answer)

-- ---- the cancel that it asked for

-- The latches of all slots were looked at in order, and none was armed for the pid, so that no cancel was made.
pub record FindsNobody (r : Request) (slots : ℕ) (looked : List LatchLook) (made : List Cancel) : Type 0 where
  pub words : List ℕ
  pub all : length words ≡ slots
  pub none : NoneFor r.pid words
  pub looks : looked ≡ looks_from 0 words
  pub makes : made ≡ []

-- They were looked at up to the first that was armed for the pid, and on its slot the cancel was made.
pub record FindsSomebody (r : Request) (slots : ℕ) (looked : List LatchLook) (made : List Cancel) : Type 0 where
  pub words : List ℕ
  pub word : ℕ
  pub below : length words < slots
  pub none : NoneFor r.pid words
  pub armed : latch_pid word ≡ r.pid
  pub looks : looked ≡ looks_from 0 (words ++ word ∷ [])
  pub makes : made ≡ cancel_of (length words) r.seed r.pid r.key ∷ []

-- What a request made on a board of so many slots, and the latches that were looked at for it: none without the key of the pid.
abbrev pub IsJudged : Request → (slots : ℕ) → List LatchLook → List Cancel → Type 0
IsJudged r slots looked made =
    ((¬ (HasKey r)) × (looked ≡ []) × (made ≡ [])) ⊎ (HasKey r × (FindsNobody r slots looked made ⊎ FindsSomebody r slots looked made))

-- what judges a request: the seed of the server's keys, and a board of so many slots
module _ (seed : List ℕ) (slots : ℕ) where
  -- of a child that asked for the cancel of this pid and key, or for none
  abbrev pub Makes : Option (ℕ × ℕ) → List LatchLook → List Cancel → Type 0
  Makes None looked made = (looked ≡ []) × (made ≡ [])
  Makes (Some asked) looked made = IsJudged (request seed asked.0 asked.1) slots looked made

-- ---- the child and its post

module _ {D : Type 0} where
  abbrev pub child_as : Offer D → Option ℕ → Child
  child_as o attached = record { pid = o.pid; is_dead_end = is_dead_end o.kind; attached = attached }

  -- the child that runs
  abbrev pub child_by : Work D → Child
  child_by (Inactive o) = child_as o None
  child_by (Active o) = child_as o None
  child_by (Refused o g) = child_as o None
  child_by (Attached o g) = child_as o (Some g)
  child_by Idle = record { pid = 0; is_dead_end = false; attached = None }
  child_by (Sees word) = record { pid = 0; is_dead_end = false; attached = None }

  -- a child of this pid runs, and is attached where there is a token, in the token's generation
  abbrev pub LivesAs : ℕ → Option Token → Work D → Type 0
  LivesAs pid None (Inactive o) = pid ≡ o.pid
  LivesAs pid (Some token) (Attached o g) = (pid ≡ o.pid) × (token.generation ≡ g)
  LivesAs pid _ _ = ⊥

  -- it runs, and stands neither before nor after the gate's word
  abbrev pub IsLiving : Work D → Type 0
  IsLiving (Inactive o) = Unit {0}
  IsLiving (Attached o g) = Unit {0}
  IsLiving _ = ⊥

  -- the generation that the child is attached in, if it is
  abbrev pub attached_of : Work D → Option ℕ
  attached_of (Attached o g) = Some g
  attached_of _ = None

-- a child's post, the seed that cancels are judged by, and pid and key of the cancel that the child asked for, if it did
pub record LifeModel (D : Type 0) : Type 0 where
  pub post : PostModel D
  pub seed : List ℕ
  pub cancel : Option (ℕ × ℕ)

-- what a life is made of: the post on which a child was just started, and the seed of the server's keys
pub record Beginning (D : Type 0) : Type 0 where
  pub post : PostModel D
  pub seed : List ℕ

abbrev pub beginning : {D : Type 0} → PostModel D → List ℕ → Beginning D
beginning post seed = record { post = post; seed = seed }

module _ {D : Type 0} where
  -- The same child runs on the same post, that has had the same children before, under the same seed. It met at the gate what is
  -- right for it, and since then the post has looked at latches and made a cancel only as the child asked for.
  pub record GoesOn (first : Beginning D) (now : LifeModel D) : Type 0 where
    pub table : now.post.table ≡ first.post.table
    pub slot : now.post.slot ≡ first.post.slot
    pub seed : now.seed ≡ first.seed
    pub child : child_in now.post.knows.work ≡ child_in first.post.knows.work
    pub past : now.post.knows.past ≡ first.post.knows.past
    pub heard : now.post.knows.notes.heard ≡ first.post.knows.notes.heard
    pub met : (o : Offer D) → child_in first.post.knows.work ≡ Some o → MetRightly o now.post.knows.notes.now.met
    pub looked : List LatchLook
    pub made : List Cancel
    pub makes : Makes first.seed (child_slots first.post.table.slots) now.cancel looked made
    pub looks : now.post.knows.notes.looked ≡ first.post.knows.notes.looked ++ looked
    pub cancels : now.post.knows.notes.cancels ≡ first.post.knows.notes.cancels ++ made

  abbrev pub GoesOnFrom : Option (Beginning D) → LifeModel D → Type 0
  GoesOnFrom begun now = IfSome begun (λ first. GoesOn first now)
