-- What each step tells.
use Rattle.std.specs.Prelude.{◌≡◌, ◌≢◌, ℕ, ◌+◌, ◌≤◌, List, [], ◌∷◌, ◌++◌, length, map, Option, Some, None, Result, Ok, Err, slice_get}
use Rattle.atomic_table.specs.{Table.{Me, Step}, Seated.TableId}
use Rattle.pm_segment.specs.{pm_query.{declared.{book.BookEntry.{BookEntry, TheVariants.Opened}, store.StoreNo.{StoreNo, TheVariants.Stale}}, Book.{generation_of, times_attached}}, pm_store_apart.declared.pass.Pass.Pass}
use Rattle.pm_store_shared.specs.{declared.views.{Noted.Noted, Joined.Joined, Taken.Taken, Hand.Hand, Desk.Desk, View.{View, TheVariants.{Vacant, Founding, Master, Worker, Spent}}}, Log.{noted, noted_from, all_behind, AllOwn, Continues, NoneOwn, IsShuffle}, Passes.{live, AllUpTo, AllKnown}, Renewed.AreAttached, Rule.{Cell, AreCounted, taken}}

-- what a call's entries do to its passes and to who is attached
pub record Turns (book added : List BookEntry) (ps ps' : List Pass) : Type 0 where
  pub same : generation_of (book ++ added) ≡ generation_of book
  pub known : AllUpTo (generation_of book) ps → AllUpTo (generation_of book) ps'
  pub fair : (p : ℕ) → times_attached (book ++ added) p + live p (generation_of book) ps ≡ times_attached book p + live p (generation_of book) ps'

-- what the shared side's entries do to the passes, whoever has them
abbrev pub Resets : (book added : List BookEntry) → Type 0
Resets book added = (dealt : ℕ) (cells : ℕ → Cell) → AreCounted dealt cells book → AreCounted dealt cells (book ++ added)

-- no entry
abbrev pub IsNothing : List BookEntry → Type 0
IsNothing es = es ≡ []

-- a table of one word and one slot
abbrev pub IsSmall : TableId → Type 0
IsSmall t = (t.words ≡ 1) × (t.slots ≡ 1)

-- What a token's contracts see: its table, its number, the disk as the store got it, the entries that its calls noted, with
-- their places, its passes, and all entries that it found as it took the store last.
pub record TokenModel (F : Type 0) : Type 0 where
  pub table : TableId
  pub number : ℕ
  pub first : Option F
  pub own : List Noted
  pub passes : List Pass
  pub past : List BookEntry

-- What those of the shared side see: its table, how many tokens there are, the disk as the store got it, the generation, the
-- entries of its own calls, and what the tokens knew that were joined.
pub record SharedModel (F : Type 0) : Type 0 where
  pub table : TableId
  pub tokens : ℕ
  pub first : Option F
  pub generation : ℕ
  pub own : List Noted
  pub joined : List Joined

-- what the calls of each joined token noted, and what each found last
abbrev pub owns : List Joined → List (List Noted)
owns joined = map (λ (his : Joined). his.own) joined

abbrev pub pasts : List Joined → List (List BookEntry)
pasts joined = map (λ (his : Joined). his.past) joined

-- all entries so far begin with each of these
abbrev pub AllContinue : List (List BookEntry) → List BookEntry → Type 0
AllContinue [] log = Unit {0}
AllContinue (past ∷ others) log = Continues past log × AllContinue others log

abbrev pub Seated : (S F L : Type 0) → Type 0
Seated S F L = Me (Option S) (View S F L)

-- ---- what is lent

module _ {L : Type 0} where
  -- what a seat has lent is what is lent
  abbrev pub KnowsLent : (had lent : Option L) → Type 0
  KnowsLent None lent = Unit {0}
  KnowsLent (Some b) lent = lent ≡ Some b

  -- What stands with what is lent does so after a call of who had lent the one before it, and has lent the other after it: who
  -- lends finds nothing lent, and who lent takes that back.
  abbrev pub Relends : (had has : Option L) → (before now : Option L → Type 0) → Type 0
  Relends None None before now = (lent : Option L) → before lent → now lent
  Relends None (Some b) before now = (lent : Option L) → before lent → (lent ≡ None) × now (Some b)
  Relends (Some b) None before now = before (Some b) → now None
  Relends (Some b) (Some c) before now = ⊥

module _ {S : Type 0} where
  abbrev pub log_in : Option (Taken S) → List BookEntry
  log_in None = []
  log_in (Some t) = t.log

  -- what is found by who takes the store
  abbrev pub past_in : Option (Taken S) → List BookEntry → List BookEntry
  past_in None past = past
  past_in (Some t) past = t.log

  abbrev pub store_in : List (ℕ × Option S) → Option S
  store_in [] = None
  store_in (x ∷ xs) = x.1

module _ {S F : Type 0} where
  -- the shared side, once a store was handed in
  abbrev pub new_desk : F → Desk S F
  new_desk first = record { dealt = 0; first = first; generation = 1; own = noted 0 (Opened 1) ∷ []; joined = []; held = None }

module _ {S F L : Type 0} where
  abbrev pub number_of : View S F L → ℕ
  number_of Vacant = 0
  number_of Founding = 0
  number_of (Master d) = d.dealt
  number_of (Worker h) = h.number
  number_of Spent = 0

  abbrev pub IsMine : View S F L → Type 0
  IsMine (Master d) = Unit {0}
  IsMine (Worker h) = Unit {0}
  IsMine _ = ⊥

  abbrev pub with_held : View S F L → Option (Taken S) → View S F L
  with_held (Master d) t = Master record { dealt = d.dealt; first = d.first; generation = d.generation; own = d.own; joined = d.joined; held = t }
  with_held (Worker h) t = Worker record { number = h.number; first = h.first; own = h.own; passes = h.passes; past = past_in t h.past; held = t; lent = h.lent }
  with_held v t = v

  abbrev pub HasNoneLent : View S F L → Type 0
  HasNoneLent (Worker h) = h.lent ≡ None
  HasNoneLent _ = Unit {0}

  -- all entries before the call of who has the store
  abbrev pub log_held : View S F L → List BookEntry
  log_held (Master d) = log_in d.held
  log_held (Worker h) = log_in h.held
  log_held _ = []

  -- the view, once the store is given back with these entries after those that were there, these passes, and this lent
  abbrev pub given_back : View S F L → List BookEntry → List Pass → Option L → View S F L
  given_back (Master d) es ps lent = Master record {
    dealt = d.dealt;
    first = d.first;
    generation = generation_of (log_in d.held ++ es);
    own = d.own ++ all_behind (log_in d.held) es;
    joined = d.joined;
    held = None;
  }
  given_back (Worker h) es ps lent = Worker record { number = h.number; first = h.first; own = h.own ++ noted_from (length (log_in h.held)) es; passes = ps; past = h.past; held = None; lent = lent }
  given_back v es ps lent = v

  abbrev pub Gave : (List BookEntry → Type 0) → List Pass → Option L → Step (Option S) → Seated S F L → ℕ → Seated S F L → Type 0
  Gave told ps lent st m found n = (es : List BookEntry) × told es × (n ≡ (given_back m.0 es ps lent, []))

  -- a table's first steps
  abbrev pub Opens : Step (Option S) → Seated S F L → ℕ → Seated S F L → Type 0
  Opens st m found n = n ≡ (Founding, (0, None) ∷ [])

  abbrev pub desk_on : Option F → View S F L
  desk_on None = Vacant
  desk_on (Some first) = Master (new_desk first)

  abbrev pub founded : (S → Option F) → Option S → View S F L
  founded first_of None = Vacant
  founded first_of (Some x) = desk_on (first_of x)

  abbrev pub Founded : (S → Option F) → Step (Option S) → Seated S F L → ℕ → Seated S F L → Type 0
  Founded first_of st m found n = n ≡ (founded first_of (store_in m.1), [])

  -- one more token
  abbrev pub new_hand : ℕ → F → Hand S F L
  new_hand k first = record { number = k; first = first; own = []; passes = []; past = []; held = None; lent = None }

  abbrev pub dealt_more : View S F L → View S F L
  dealt_more (Master d) = Master record { dealt = d.dealt + 1; first = d.first; generation = d.generation; own = d.own; joined = d.joined; held = d.held }
  dealt_more v = v

  abbrev pub next_hand : View S F L → View S F L
  next_hand (Master d) = Worker (new_hand d.dealt d.first)
  next_hand v = Spent

  -- the shared side takes in what a token knows
  abbrev pub taken_in : View S F L → View S F L → View S F L
  taken_in (Master d) (Worker h) = Master record { dealt = d.dealt; first = d.first; generation = d.generation; own = d.own; joined = d.joined ++ record { own = h.own; past = h.past } ∷ []; held = d.held }
  taken_in v w = v

  -- ---- a seat between two calls: it holds nothing, and has lent nothing

  -- between two turns of one call it may have lent something
  abbrev pub between : ℕ → F → List Noted → List Pass → List BookEntry → Option L → Seated S F L
  between k first own passes past lent = (Worker record { number = k; first = first; own = own; passes = passes; past = past; held = None; lent = lent }, [])

  abbrev pub resting : ℕ → F → List Noted → List Pass → List BookEntry → Seated S F L
  resting k first own passes past = between k first own passes past None

  abbrev pub desk_resting : ℕ → F → ℕ → List Noted → List Joined → Seated S F L
  desk_resting n first g own joined = (Master record { dealt = n; first = first; generation = g; own = own; joined = joined; held = None }, [])

  abbrev pub first_of : View S F L → Option F
  first_of (Master d) = Some d.first
  first_of (Worker h) = Some h.first
  first_of _ = None

  abbrev pub is_own_of : View S F L → List Noted
  is_own_of (Master d) = d.own
  is_own_of (Worker h) = h.own
  is_own_of _ = []

  abbrev pub passes_of : View S F L → List Pass
  passes_of (Worker h) = h.passes
  passes_of _ = []

  abbrev pub past_of : View S F L → List BookEntry
  past_of (Worker h) = h.past
  past_of _ = []

  -- Who has taken this store for a pass of its generation goes on with it. Else the pass is stale, and the store was given back.
  abbrev pub IsFor : (S → ℕ) → Pass → S → Seated S F L → Result S StoreNo → Seated S F L → Type 0
  IsFor generation pass x m (Ok y) n = (y ≡ x) × (n ≡ m) × (pass.generation ≡ generation x)
  IsFor generation pass x m (Err refusal) n =
      (n ≡ (given_back m.0 [] (passes_of m.0) None, [])) × (pass.generation ≢ generation x) × (refusal ≡ Stale pass.generation (generation x))

  abbrev pub generation_in : View S F L → ℕ
  generation_in (Master d) = d.generation
  generation_in _ = 0

  abbrev pub joined_of : View S F L → List Joined
  joined_of (Master d) = d.joined
  joined_of _ = []

  -- a token of this number rests, and shows this
  abbrev pub IsResting : ℕ → Seated S F L → Type 0
  IsResting k me = (first : F) × (me ≡ resting k first (is_own_of me.0) (passes_of me.0) (past_of me.0))

  abbrev pub token_of : TableId → ℕ → View S F L → TokenModel F
  token_of table k seat = record { table = table; number = k; first = first_of seat; own = is_own_of seat; passes = passes_of seat; past = past_of seat }

  -- so does the shared side, which dealt so many tokens
  abbrev pub DeskRests : ℕ → Seated S F L → Type 0
  DeskRests n me = (first : F) × (me ≡ desk_resting n first (generation_in me.0) (is_own_of me.0) (joined_of me.0))

  abbrev pub shared_of : TableId → ℕ → View S F L → SharedModel F
  shared_of table n seat = record { table = table; tokens = n; first = first_of seat; generation = generation_in seat; own = is_own_of seat; joined = joined_of seat }

module _ {S F L : Type 0} (Is : F → List BookEntry → S → Option L → Type 0) (Knows : List BookEntry → S → Pass → Type 0) where
  -- how the store stands, for whom has lent this of it
  pub record StandsWith (had : Option L) (first : F) (t : Taken S) : Type 0 where
    pub lent : Option L
    pub is : Is first t.log t.store lent
    pub knows : KnowsLent had lent

  -- what the rule tells a token that has lent this, with these passes
  abbrev pub TellsHand : Option L → F → List Pass → Taken S → Type 0
  TellsHand had first passes t =
      StandsWith had first t × AllKnown (Knows t.log t.store) (generation_of t.log) passes
      × ((p : ℕ) → live p (generation_of t.log) passes ≤ times_attached t.log p)
      × AllUpTo (generation_of t.log) passes

  -- what the rule tells of the store, as it is taken
  abbrev pub Tells : View S F L → Taken S → Type 0
  Tells (Master d) t = IsShuffle d.dealt (owns d.joined) d.own t.log × AllContinue (pasts d.joined) t.log × (generation_of t.log ≡ d.generation) × StandsWith None d.first t
  Tells (Worker h) t = TellsHand h.lent h.first h.passes t × Continues h.past t.log
  Tells _ t = Unit {0}

  abbrev pub Took : Step (Option S) → Seated S F L → ℕ → Seated S F L → Type 0
  Took st m found n =
      (found ≡ 0 → (t : Taken S) × (n ≡ (with_held m.0 (Some t), (0, Some t.store) ∷ [])) × Tells m.0 t)
      × (found ≢ 0 → n ≡ m)

  -- Who comes with a pass of the generation that is met has the store. Else the pass is stale, and the store was given back.
  abbrev pub TookFor : (S → ℕ) → Pass → Seated S F L → Result S StoreNo → Seated S F L → Type 0
  TookFor generation pass m (Ok x) n =
      (log : List BookEntry) × (n ≡ (with_held m.0 (Some (taken log x)), (0, None) ∷ [])) × Tells m.0 (taken log x)
      × (pass.generation ≡ generation x)
  TookFor generation pass m (Err refusal) n =
      (log : List BookEntry) × (x : S) × (n ≡ (given_back (with_held m.0 (Some (taken log x))) [] (passes_of m.0) None, [])) × Tells m.0 (taken log x)
      × (pass.generation ≢ generation x) × (refusal ≡ Stale pass.generation (generation x))

  -- who takes it alone finds all of it there
  abbrev pub IsWhole : View S F L → Taken S → Type 0
  IsWhole (Master d) t = Is d.first t.log t.store None
  IsWhole _ t = Unit {0}

  abbrev pub TookAlone : Step (Option S) → Seated S F L → ℕ → Seated S F L → Type 0
  TookAlone st m found n = (t : Taken S) × (n ≡ (with_held m.0 (Some t), (0, Some t.store) ∷ [])) × Tells m.0 t × IsWhole m.0 t

  -- a call of who had lent the one, and has lent the other, leaves the store standing
  abbrev pub StandsOn : (had has : Option L) → Taken S → List BookEntry → S → Type 0
  StandsOn had has was added x' = (first : F) → Relends had has (Is first was.log was.store) (Is first (was.log ++ added) x')

  -- what a token's call makes of the store that it took, of its passes, and of what it has lent
  pub record HandStep (was : Taken S) (added : List BookEntry) (ps ps' : List Pass) (had has : Option L) (x' : S) : Type 0 where
    pub turns : Turns was.log added ps ps'
    pub stands : StandsOn had has was added x'
    pub others : (p : Pass) → p.generation ≡ generation_of was.log → Knows was.log was.store p → Knows (was.log ++ added) x' p
    pub mine : AllKnown (Knows (was.log ++ added) x') (generation_of was.log) ps'

  -- A token may give back this store: it is the one that was taken, with entries after it that a token may note.
  pub record HandMay (told : List BookEntry → Type 0) (ps' : List Pass) (has : Option L) (h : Hand S F L) (x' : S) : Type 0 where
    pub was : Taken S
    pub added : List BookEntry
    pub held : h.held ≡ Some was
    pub is_told : told added
    pub own : AllOwn added
    pub step : HandStep was added h.passes ps' h.lent has x'

  -- what a call of the shared side makes of it, and of all passes
  pub record DeskStep (was : Taken S) (added : List BookEntry) (x' : S) : Type 0 where
    pub resets : Resets was.log added
    pub stands : StandsOn None None was added x'
    pub passes : (ps : List Pass) → AllUpTo (generation_of was.log) ps → AllKnown (Knows was.log was.store) (generation_of was.log) ps
        → AllKnown (Knows (was.log ++ added) x') (generation_of (was.log ++ added)) ps

  -- and so may the shared side
  pub record DeskMay (told : List BookEntry → Type 0) (d : Desk S F) (x' : S) : Type 0 where
    pub was : Taken S
    pub added : List BookEntry
    pub held : d.held ≡ Some was
    pub is_told : told added
    pub none_own : NoneOwn added
    pub step : DeskStep was added x'

  abbrev pub MayGive : (List BookEntry → Type 0) → List Pass → Option L → View S F L → S → Type 0
  MayGive told ps has (Master d) x' = DeskMay told d x'
  MayGive told ps has (Worker h) x' = HandMay told ps has h x'
  MayGive told ps has _ x' = ⊥

-- ---- the shared side, and its tokens

module _ {F : Type 0} where
  -- with so many tokens, of which these lists are joined
  abbrev pub shared_with : SharedModel F → ℕ → List Joined → SharedModel F
  shared_with s n joined = record { table = s.table; tokens = n; first = s.first; generation = s.generation; own = s.own; joined = joined }

  -- it has noted these entries side by side, behind a log by which each of these others was attached, and is in this generation
  abbrev pub HasRenewed : SharedModel F → ℕ → (others : List ℕ) → List BookEntry → SharedModel F → Type 0
  HasRenewed s g others es s' = (log : List BookEntry)
      × (s' ≡ record { table = s.table; tokens = s.tokens; first = s.first; generation = g; own = s.own ++ all_behind log es; joined = s.joined })
      × AreAttached log others

  abbrev pub new_token : SharedModel F → TokenModel F
  new_token s = record { table = s.table; number = s.tokens; first = s.first; own = []; passes = []; past = [] }

  -- what these tokens know
  abbrev pub known_by : List (TokenModel F) → List Joined
  known_by tokens = map (λ (t : TokenModel F). record { own = t.own; past = t.past }) tokens

  -- all n tokens of this table, in the order of their numbers
  abbrev pub AreTokens : TableId → ℕ → List (TokenModel F) → Type 0
  AreTokens t n ts = (length ts ≡ n) × ((k : ℕ) (token : TokenModel F) → slice_get ts k ≡ Some token → (token.table ≡ t) × (token.number ≡ k))

  -- it is in its first generation, with this disk, and has so many tokens
  pub record IsNewShared (tokens : ℕ) (first : F) (s : SharedModel F) : Type 0 where
    pub tokens_are : s.tokens ≡ tokens
    pub first_is : s.first ≡ Some first
    pub generation : s.generation ≡ 1
    pub own : s.own ≡ noted 0 (Opened 1) ∷ []
    pub none_joined : s.joined ≡ []

  -- these are its tokens, which have noted nothing
  pub record AreNewTokens (tokens : ℕ) (s : SharedModel F) (ts : List (TokenModel F)) : Type 0 where
    pub all : AreTokens s.table tokens ts
    pub each : (k : ℕ) (token : TokenModel F) → slice_get ts k ≡ Some token → (token.first ≡ s.first) × (token.own ≡ []) × (token.passes ≡ []) × (token.past ≡ [])

-- so many holds on this table
abbrev pub AreShares : TableId → ℕ → List TableId → Type 0
AreShares t n shares = (length shares ≡ n) × ((k : ℕ) (share : TableId) → slice_get shares k ≡ Some share → share ≡ t)

-- a table without a store, and room for so many tokens
pub record IsBlank {S F L : Type 0} (table seat : TableId) (me : Seated S F L) (shares : List TableId) (list : List (TokenModel F)) (capacity tokens : ℕ) : Type 0 where
  pub same : table ≡ seat
  pub small : IsSmall seat
  pub vacant : me ≡ (Vacant, [])
  pub shares_are : AreShares table tokens shares
  pub none : list ≡ []
  pub fits : tokens ≤ capacity
