-- What words may begin, a word more and a word less.
use Rattle.std.{proofs.{Common.{rules, ◌≡◌, ◌≢◌, ℕ, ◌+◌, ◌<◌, suc, true, List, [], ◌∷◌, ◌++◌, Some, None, Option, length, take, lit≤, ◌≤◌, refl, ap, sym, ◌∙◌, subst, inl, inr, arith, add_assoc, append_assoc, add-one, length-append, ◌-◌}, lemmas.List.append-nil, Math.Seq.take-append-add}, specs.Prelude.{◌⊎◌, codes, option_map, unwrap_or}}
use Rattle.pm_top_words.{specs.{declared.words.{Command.Command, Verb.{Verb, TheVariants.{Initdb, Once, Serve, Controldata, Workload}}}, Words.{Choice, Data, Port, MaxConnections, SuperuserReserved, RestartAfterCrash, AuthenticationTimeout, Number, Choose, Chosen, IsFor, IsNumberIn, IsOpen, MayChoose, ReservesFewer, Says, Spells, command_of, conf_of, folder_of, nothing, option_name, verb_word, with_choice}, Options.{BeginsWithOption, CanReserve, IsPlain, Leaves, most_for}, Begins.{BeginsLine, BeginsOptions, IsMisfit, IsOpenName, IsOptionMisfit}}, proofs.{Givens.{IsTwoWords, begins, begun, is_name, no_cut, not-none, option-begins, same-option, step_on}, Lines.given}}
use Rattle.pm_top_words.specs.declared.words.Command.TheVariants as command

-- ---- options of one name

-- an option of the same name may be chosen as well
same_for : (verb : Verb) (one two : Choice) → option_name one ≡ option_name two → IsFor verb one → IsFor verb two
same_for verb one two same is = grind (arith, ap (λ (l : List ℕ). length l) same)

same_open : (one two : Choice) (before : Chosen) → option_name one ≡ option_name two → IsOpen one before → IsOpen two before
same_open one two before same is = grind (arith, ap (λ (l : List ℕ). length l) same)

pub same_may : (verb : Verb) (one two : Choice) (before : Chosen) → option_name one ≡ option_name two → MayChoose verb one before
    → MayChoose verb two before
same_may verb one two before same may = (same_for verb one two same may.0, same_open one two before same may.1)

-- ---- fewer words, and more

module _ (verb : Verb) (before : Chosen) where
  -- the words in front begin options, too
  pub fewer : (front more : List (List ℕ)) → BeginsOptions verb before (front ++ more) → BeginsOptions verb before front
  fewer front more is =
      record {
        rest = more ++ is.rest;
        after = is.after;
        command = is.command;
        dir = is.dir;
        leaves = subst (λ words. Leaves verb before words is.after) (append_assoc front more is.rest) is.leaves;
        asks = is.asks;
        folder = is.folder;
        reserves = is.reserves;
      }

  -- an option in front of them
  pub longer : (choice : Choice) (first front : List (List ℕ)) → Spells choice first → MayChoose verb choice before
      → BeginsOptions verb (with_choice choice before) front → BeginsOptions verb before (first ++ front)
  longer choice first front spells may is =
      record {
        rest = is.rest;
        after = is.after;
        command = is.command;
        dir = is.dir;
        leaves = record {
          choices = choice ∷ is.leaves.choices;
          choose = (first, front ++ is.rest, append_assoc first front is.rest, spells, may, is.leaves.choose);
        };
        asks = is.asks;
        folder = is.folder;
        reserves = is.reserves;
      }

  some-words : (choice : Choice) (first front rest : List (List ℕ)) → Spells choice first → (first ++ front) ++ rest ≡ [] → ⊥
  some-words choice first front rest spells none =
      elim spells.2.1 [
        | inl one ↦ (let w : [] ≡ (((option_name choice ++ 61 ∷ spells.0) ∷ []) ++ front) ++ rest = sym none ∙ ap (λ (l : List (List ℕ)). (l ++ front) ++ rest) one in absurd cc)
        | inr two ↦ (let w : [] ≡ ((option_name choice ∷ spells.0 ∷ []) ++ front) ++ rest = sym none ∙ ap (λ (l : List (List ℕ)). (l ++ front) ++ rest) two.0 in absurd cc)
      ]

  -- and without it
  pub shortened : (choice : Choice) (first front : List (List ℕ)) → Spells choice first → BeginsOptions verb before (first ++ front)
      → BeginsOptions verb (with_choice choice before) front
  shortened choice first front spells is =
      let on = step_on verb choice before is.after ((first ++ front) ++ is.rest) (front ++ is.rest) (some-words choice first front is.rest spells)
      (record { first = first; spells = spells; words_are = append_assoc first front is.rest }) is.leaves in
      record {
        rest = is.rest;
        after = is.after;
        command = is.command;
        dir = is.dir;
        leaves = on.leaves;
        asks = is.asks;
        folder = is.folder;
        reserves = is.reserves;
      }

-- ---- what is missing can be given

most_within : (verb : Verb) → (20 ≤ most_for verb) × (most_for verb ≤ 200)
most_within Initdb = (lit≤ tt, lit≤ tt)
most_within Once = (lit≤ tt, lit≤ tt)
most_within Serve = (lit≤ tt, lit≤ tt)
most_within Controldata = (lit≤ tt, lit≤ tt)
most_within Workload = (lit≤ tt, lit≤ tt)

-- an option of this name with a value
abbrev sample : Choice → Choice
sample (Data dir) = Data (codes "1")
sample (Port port) = Port 1
sample (MaxConnections count) = MaxConnections 200
sample (SuperuserReserved count) = SuperuserReserved 0
sample (RestartAfterCrash restarts) = RestartAfterCrash true
sample (AuthenticationTimeout seconds) = AuthenticationTimeout 1
sample (Number number) = Number 1

abbrev sample_value : Choice → List ℕ
sample_value (MaxConnections count) = codes "200"
sample_value (SuperuserReserved count) = codes "0"
sample_value (RestartAfterCrash restarts) = codes "on"
sample_value choice = codes "1"

name-sample : (choice : Choice) → option_name choice ≡ option_name (sample choice)
name-sample (Data dir) = refl
name-sample (Port port) = refl
name-sample (MaxConnections count) = refl
name-sample (SuperuserReserved count) = refl
name-sample (RestartAfterCrash restarts) = refl
name-sample (AuthenticationTimeout seconds) = refl
name-sample (Number number) = refl

one : (least most : ℕ) → least ≤ 1 → 1 ≤ most → IsNumberIn least most 1 (codes "1")
one least most from to = record { digits = search rules; few = lit≤ tt; number_is = refl; from_least = from; to_most = to }

says : (choice : Choice) → Says (sample choice) (sample_value choice)
says (Data dir) = refl
says (Port port) = one 1 65535 (lit≤ tt) (lit≤ tt)
says (MaxConnections count) = record { digits = search rules; few = lit≤ tt; number_is = refl; from_least = lit≤ tt; to_most = lit≤ tt }
says (SuperuserReserved count) = record { digits = search rules; few = lit≤ tt; number_is = refl; from_least = lit≤ tt; to_most = lit≤ tt }
says (RestartAfterCrash restarts) = refl
says (AuthenticationTimeout seconds) = one 1 600 (lit≤ tt) (lit≤ tt)
says (Number number) = one 0 100000 (lit≤ tt) (lit≤ tt)

plain-byte : (byte : ℕ) (value : List ℕ) → (byte ≡ 45 → ⊥) → IsPlain (byte ∷ value)
plain-byte byte value other = (λ same. absurd cc, λ same. let e : byte ≡ 45 = cc in other e)

plain : (choice : Choice) → IsPlain (sample_value choice)
plain (MaxConnections count) = plain-byte 50 (codes "00") (λ same. absurd (omega (arith, same)))
plain (SuperuserReserved count) = plain-byte 48 [] (λ same. absurd (omega (arith, same)))
plain (RestartAfterCrash restarts) = plain-byte 111 (codes "n") (λ same. absurd (omega (arith, same)))
plain choice = plain-byte 49 [] (λ same. absurd (omega (arith, same)))

spelled : (choice : Choice) → Spells (sample choice) (option_name (sample choice) ∷ sample_value choice ∷ [])
spelled choice = (sample_value choice, says choice, ((plain choice).0, inr (refl, (plain choice).1)))

module _ (verb : Verb) where
  -- with an option that may be chosen
  with-sample : (choice : Choice) (before : Chosen) → MayChoose verb choice before
      → BeginsOptions verb (with_choice (sample choice) before) [] → BeginsOptions verb before (option_name choice ∷ sample_value choice ∷ [])
  with-sample choice before may is =
      subst (λ name. BeginsOptions verb before (name ∷ sample_value choice ∷ [])) (sym (name-sample choice))
      (longer verb before (sample choice) (option_name (sample choice) ∷ sample_value choice ∷ []) [] (spelled choice)
      (same_may verb choice (sample choice) before (name-sample choice) may) is)

  with-more : (choice : Choice) (before : Chosen) → MayChoose verb choice before
      → BeginsOptions verb (with_choice (sample choice) before) [] → BeginsOptions verb before []
  with-more choice before may is = fewer verb before [] (option_name choice ∷ sample_value choice ∷ []) (with-sample choice before may is)

  -- all that the command wants is there
  all-there : (before : Chosen) (command : Command) (dir : List ℕ) → command_of verb before ≡ Some command → folder_of verb before ≡ Some dir
      → ReservesFewer (conf_of before) → BeginsOptions verb before []
  all-there before command dir asks folder reserves =
      record {
        rest = [];
        after = before;
        command = command;
        dir = dir;
        leaves = record { choices = []; choose = (refl, refl) };
        asks = asks;
        folder = folder;
        reserves = reserves;
      }

-- a folder, where it is wanted alone
folder-alone : (verb : Verb) (command : Command) (before : Chosen) (dir : Option (List ℕ)) → before.dir ≡ dir
    → ((chosen : Chosen) → command_of verb chosen ≡ Some command) → ((chosen : Chosen) → folder_of verb chosen ≡ chosen.dir)
    → ((folder : List ℕ) → IsFor verb (Data folder)) → ReservesFewer (conf_of before) → BeginsOptions verb before []
folder-alone verb command before (Some dir) is asks folder data_is_for reserves =
    all-there verb before command dir (asks before) (folder before ∙ is) reserves
folder-alone verb command before None is asks folder data_is_for reserves =
    with-more verb (Data []) before (data_is_for [], is)
    (all-there verb (with_choice (Data (codes "1")) before) command (codes "1") (asks (with_choice (Data (codes "1")) before))
    (folder (with_choice (Data (codes "1")) before)) reserves)

port-there : (before : Chosen) (dir : List ℕ) (port : Option ℕ) → before.dir ≡ Some dir → before.port ≡ port → ReservesFewer (conf_of before)
    → BeginsOptions Serve before []
port-there before dir (Some port) folder is reserves = all-there Serve before (command.Serve port) dir (ap (option_map command.Serve) is) folder reserves
port-there before dir None folder is reserves =
    with-more Serve (Port 1) before (tt, is) (all-there Serve (with_choice (Port 1) before) (command.Serve 1) dir refl folder reserves)

both-there : (before : Chosen) (dir : Option (List ℕ)) → before.dir ≡ dir → ReservesFewer (conf_of before) → BeginsOptions Serve before []
both-there before (Some dir) is reserves = port-there before dir before.port is refl reserves
both-there before None is reserves =
    with-more Serve (Data []) before (tt, is) (port-there (with_choice (Data (codes "1")) before) (codes "1") before.port refl refl reserves)

number-there : (before : Chosen) (number : Option ℕ) → before.number ≡ number → ReservesFewer (conf_of before) → BeginsOptions Workload before []
number-there before (Some number) is reserves =
    all-there Workload before (command.Workload number) [] (ap (option_map command.Workload) is) refl reserves
number-there before None is reserves =
    with-more Workload (Number 1) before (tt, is) (all-there Workload (with_choice (Number 1) before) (command.Workload 1) [] refl refl reserves)

-- what the commands want beside the connections
rest-there : (verb : Verb) (before : Chosen) → ReservesFewer (conf_of before) → BeginsOptions verb before []
rest-there Initdb before = folder-alone Initdb command.Initdb before before.dir refl (λ chosen. refl) (λ chosen. refl) (λ folder. tt)
rest-there Once before = folder-alone Once command.Once before before.dir refl (λ chosen. refl) (λ chosen. refl) (λ folder. tt)
rest-there Serve before = both-there before before.dir refl
rest-there Controldata before = folder-alone Controldata command.Controldata before before.dir refl (λ chosen. refl) (λ chosen. refl) (λ folder. tt)
rest-there Workload before = number-there before before.number refl

-- more connections than are reserved, where the command has that option
connections-there : (verb : Verb) (before : Chosen) (count : Option ℕ) → before.max_connections ≡ count → IsFor verb (MaxConnections 200) → most_for verb ≡ 200
    → CanReserve verb before → BeginsOptions verb before []
connections-there verb before (Some count) is is_for most can =
    let less : unwrap_or before.reserved 0 < count = subst (λ given. unwrap_or before.reserved 0 < unwrap_or given (most_for verb)) is can in
    rest-there verb before (subst (λ given. unwrap_or before.reserved 0 < unwrap_or given 20) (sym is) less)
connections-there verb before None is is_for most can =
    let less : unwrap_or before.reserved 0 < most_for verb = subst (λ given. unwrap_or before.reserved 0 < unwrap_or given (most_for verb)) is can in
    with-more verb (MaxConnections 200) before (is_for, is)
    (rest-there verb (with_choice (MaxConnections 200) before) (subst (λ n. unwrap_or before.reserved 0 < n) most less))

-- options after any others that go together can be ended so that the command has what it wants
pub ends : (verb : Verb) (before : Chosen) → CanReserve verb before → BeginsOptions verb before []
ends Initdb before can = rest-there Initdb before can
ends Once before can = connections-there Once before before.max_connections refl tt refl can
ends Serve before can = connections-there Serve before before.max_connections refl tt refl can
ends Controldata before can = rest-there Controldata before can
ends Workload before can = rest-there Workload before can

-- the option of a name that may come next has a value that goes together with the others
sample-can : (verb : Verb) (choice : Choice) (before : Chosen) → MayChoose verb choice before → CanReserve verb before
    → CanReserve verb (with_choice (sample choice) before)
sample-can verb (Data dir) before may can = can
sample-can verb (Port port) before may can = can
sample-can verb (MaxConnections count) before may can =
    let less : unwrap_or before.reserved 0 < most_for verb = subst (λ given. unwrap_or before.reserved 0 < unwrap_or given (most_for verb)) may.1 can in
    omega (arith, less, most_within verb)
sample-can verb (SuperuserReserved count) before may can = omega (arith, can)
sample-can verb (RestartAfterCrash restarts) before may can = can
sample-can verb (AuthenticationTimeout seconds) before may can = can
sample-can verb (Number number) before may can = can

-- a name whose value is missing
pub named : (verb : Verb) (before : Chosen) (name : List ℕ) → CanReserve verb before → IsOpenName verb before name
    → BeginsOptions verb before (name ∷ [])
named verb before name can open_name =
    subst (λ word. BeginsOptions verb before (word ∷ [])) (sym open_name.name_is)
    (fewer verb before (option_name open_name.choice ∷ []) (sample_value open_name.choice ∷ [])
    (with-sample verb open_name.choice before open_name.may
    (ends verb (with_choice (sample open_name.choice) before) (sample-can verb open_name.choice before open_name.may can))))

-- ---- what was chosen goes together where a line comes of it

most-of-server : (verb : Verb) (count : ℕ) → IsFor verb (MaxConnections count) → most_for verb ≡ 200
most-of-server Once count is_for = refl
most-of-server Serve count is_for = refl
most-of-server Initdb count is_for = absurd is_for
most-of-server Controldata count is_for = absurd is_for
most-of-server Workload count is_for = absurd is_for

could-before : (verb : Verb) (choice : Choice) (value : List ℕ) (before : Chosen) → Says choice value → MayChoose verb choice before
    → CanReserve verb (with_choice choice before) → CanReserve verb before
could-before verb (Data dir) value before says may can = can
could-before verb (Port port) value before says may can = can
could-before verb (MaxConnections count) value before says may can =
    subst (λ given. unwrap_or before.reserved 0 < unwrap_or given (most_for verb)) (sym may.1)
    (omega (arith, can, says.to_most, most-of-server verb count may.0))
could-before verb (SuperuserReserved count) value before says may can =
    subst (λ given. unwrap_or given 0 < unwrap_or before.max_connections (most_for verb)) (sym may.1) (omega (arith, can))
could-before verb (RestartAfterCrash restarts) value before says may can = can
could-before verb (AuthenticationTimeout seconds) value before says may can = can
could-before verb (Number number) value before says may can = can

can-by : (verb : Verb) (before : Chosen) (count : Option ℕ) → before.max_connections ≡ count → ReservesFewer (conf_of before) → CanReserve verb before
can-by verb before (Some count) is reserves =
    subst (λ given. unwrap_or before.reserved 0 < unwrap_or given (most_for verb)) (sym is)
    (subst (λ given. unwrap_or before.reserved 0 < unwrap_or given 20) is reserves)
can-by verb before None is reserves =
    let less : unwrap_or before.reserved 0 < 20 = subst (λ given. unwrap_or before.reserved 0 < unwrap_or given 20) is reserves in
    subst (λ given. unwrap_or before.reserved 0 < unwrap_or given (most_for verb)) (sym is) (omega (arith, less, most_within verb))

can-then : (verb : Verb) (before : Chosen) (choices : List Choice) (words : List (List ℕ)) (after : Chosen) → Choose verb before choices words after
    → ReservesFewer (conf_of after) → CanReserve verb before
can-then verb before [] words after choose reserves = can-by verb before before.max_connections refl (subst (λ chosen. ReservesFewer (conf_of chosen)) choose.1 reserves)
can-then verb before (choice ∷ choices) words after choose reserves =
    could-before verb choice choose.3.0 before choose.3.1 choose.4 (can-then verb (with_choice choice before) choices choose.1 after choose.5 reserves)

pub begun-can : (verb : Verb) (before : Chosen) (front : List (List ℕ)) → BeginsOptions verb before front → CanReserve verb before
begun-can verb before front is = can-then verb before is.leaves.choices (front ++ is.rest) is.after is.leaves.choose is.reserves

-- ---- what no option begins

-- An option that words of this front begin with is one that these words begin with, or it has its value in a second word.
module _ (word : List ℕ) (rest tail : List (List ℕ)) (choice : Choice) (behind : List (List ℕ)) (is : BeginsWithOption (word ∷ rest) choice behind) where
  cases : BeginsWithOption (word ∷ tail) choice tail ⊎ IsTwoWords word rest (option_name choice) is.spells.0 behind
  cases =
      elim (begins word rest (option_name choice) is.spells.0 behind (option-begins (word ∷ rest) choice behind is)).1 [
        | inl one ↦
            inl (record {
              first = word ∷ [];
              spells = (is.spells.0, is.spells.1, (is.spells.2.0, inl (ap (λ w. w ∷ []) one.0)));
              words_are = refl;
            })
        | inr two ↦ inr two
      ]

module _ (verb : Verb) (before : Chosen) (word : List ℕ) (tail : List (List ℕ)) where
  -- a word that is no name, and that no option begins with
  pub no-name : ((choice : Choice) (behind : List (List ℕ)) → BeginsWithOption (word ∷ tail) choice behind → ⊥)
      → (IsOpenName verb before word → ⊥) → BeginsOptions verb before (word ∷ []) → ⊥
  no-name none closed is =
      let one = begun verb before is.after (word ∷ is.rest) (λ (same : word ∷ is.rest ≡ []). absurd cc) is.leaves in
      elim (cases word is.rest tail one.choice one.behind one.is) [
        | inl fits ↦ none one.choice tail fits
        | inr two ↦ closed (record { choice = one.choice; name_is = two.0; may = one.on.may })
      ]

  -- an option that may not be chosen
  pub not-chosen : (choice : Choice) (behind : List (List ℕ)) → BeginsWithOption (word ∷ tail) choice behind
      → (MayChoose verb choice before → ⊥) → BeginsOptions verb before (word ∷ []) → ⊥
  not-chosen choice behind found may_not is =
      let one = begun verb before is.after (word ∷ is.rest) (λ (same : word ∷ is.rest ≡ []). absurd cc) is.leaves in
      elim (cases word is.rest tail one.choice one.behind one.is) [
        | inl fits ↦
            may_not (subst (λ c. MayChoose verb c before) (same-option (word ∷ tail) one.choice choice tail behind fits found).0 one.on.may)
        | inr two ↦
            elim (begins word tail (option_name choice) found.spells.0 behind (option-begins (word ∷ tail) choice behind found)).1 [
              | inl cut ↦ no_cut (option_name one.choice) (option_name choice) found.spells.0 (is_name one.choice) (sym two.0 ∙ cut.0)
              | inr other ↦ may_not (same_may verb one.choice choice before (sym two.0 ∙ other.0) one.on.may)
            ]
      ]

-- a name, and a word that isn't its value
pub no-value : (verb : Verb) (before : Chosen) (word second : List ℕ) (tail : List (List ℕ))
    → ((choice : Choice) (behind : List (List ℕ)) → BeginsWithOption (word ∷ second ∷ tail) choice behind → ⊥)
    → BeginsOptions verb before (word ∷ second ∷ []) → ⊥
no-value verb before word second tail none is =
    let one = begun verb before is.after (word ∷ second ∷ is.rest) (λ (same : word ∷ second ∷ is.rest ≡ []). absurd cc) is.leaves in
    elim (cases word (second ∷ is.rest) (second ∷ tail) one.choice one.behind one.is) [
      | inl fits ↦ none one.choice (second ∷ tail) fits
      | inr two ↦
          (let value : second ≡ one.is.spells.0 = cc in
          none one.choice tail (record {
            first = word ∷ second ∷ [];
            spells = (one.is.spells.0, one.is.spells.1, (two.2.0, inr (ap (λ w. w ∷ second ∷ []) two.0 ∙ ap (λ w. option_name one.choice ∷ w ∷ []) value, two.2.1)));
            words_are = refl;
          }))
    ]

-- ---- the place of a word that doesn't fit

abbrev pub NoOption : List (List ℕ) → Type 0
NoOption words = (choice : Choice) (behind : List (List ℕ)) → BeginsWithOption words choice behind → ⊥

module _ (verb : Verb) (before : Chosen) (can : CanReserve verb before) (words : List (List ℕ)) (word : List ℕ) (tail : List (List ℕ)) (are : words ≡ word ∷ tail) where
  at-first : (BeginsOptions verb before (word ∷ []) → ⊥) → IsOptionMisfit verb before words 0
  at-first not_with =
      subst (λ given. IsOptionMisfit verb before given 0) (sym are)
      (record { within = omega arith; before = ends verb before can; not_with = not_with })

  pub at-no-name : NoOption words → (IsOpenName verb before word → ⊥) → IsOptionMisfit verb before words 0
  at-no-name none closed = at-first (no-name verb before word tail (subst NoOption are none) closed)

  pub one-name : length words ≡ 1 → IsOpenName verb before word → BeginsOptions verb before words
  one-name one open_name = subst (λ given. BeginsOptions verb before given) (sym (are ∙ ap (λ (l : List (List ℕ)). word ∷ l) (empty tail (omega (arith, ap length are, one))))) (named verb before word can open_name)
    where
      empty : (l : List (List ℕ)) → length l ≡ 0 → l ≡ []
      empty [] none = refl
      empty (w ∷ l) none = absurd (omega (arith, none))

  pub at-value : (length words ≡ 1 → ⊥) → NoOption words → IsOpenName verb before word → IsOptionMisfit verb before words 1
  at-value more none open_name = by-tail tail are
    where
      by-tail : (l : List (List ℕ)) → words ≡ word ∷ l → IsOptionMisfit verb before words 1
      by-tail [] is = absurd (more (ap length is))
      by-tail (second ∷ l) is =
          subst (λ given. IsOptionMisfit verb before given 1) (sym is)
          (record {
            within = omega arith;
            before = named verb before word can open_name;
            not_with = no-value verb before word second l (subst NoOption is none);
          })

pub at-not-chosen : (verb : Verb) (before : Chosen) (words : List (List ℕ)) (choice : Choice) (behind : List (List ℕ))
    → CanReserve verb before → BeginsWithOption words choice behind → (MayChoose verb choice before → ⊥) → IsOptionMisfit verb before words 0
at-not-chosen verb before [] choice behind can found may_not = absurd (not-none (option_name choice) found.spells.0 behind (option-begins [] choice behind found))
at-not-chosen verb before (word ∷ tail) choice behind can found may_not =
    at-first verb before can (word ∷ tail) word tail refl (not-chosen verb before word tail choice behind found may_not)

-- its value doesn't go together with the others, which is its last word
pub at-last : (verb : Verb) (before : Chosen) (words : List (List ℕ)) (choice : Choice) (behind : List (List ℕ)) → CanReserve verb before
    → BeginsWithOption words choice behind → MayChoose verb choice before → (CanReserve verb (with_choice choice before) → ⊥)
    → IsOptionMisfit verb before words (length words - length behind - 1)
at-last verb before words choice behind can is may not_can =
    elim is.spells.2.1 [
      | inl single ↦
          placed ((option_name choice ++ 61 ∷ is.spells.0) ∷ []) 0 single refl
          (record {
            within = omega arith;
            before = ends verb before can;
            not_with = none ((option_name choice ++ 61 ∷ is.spells.0) ∷ []) single;
          })
      | inr both ↦
          placed (option_name choice ∷ is.spells.0 ∷ []) 1 both.0 refl
          (record {
            within = omega arith;
            before = named verb before (option_name choice) can (record { choice = choice; name_is = refl; may = may });
            not_with = none (option_name choice ∷ is.spells.0 ∷ []) both.0;
          })
    ]
  where
    none : (first : List (List ℕ)) → is.first ≡ first → BeginsOptions verb before first → ⊥
    none first same begins_with =
        not_can (begun-can verb (with_choice choice before) []
        (shortened verb before choice first [] (subst (λ (words_of : List (List ℕ)). Spells choice words_of) same is.spells)
        (subst (λ front. BeginsOptions verb before front) (sym (append-nil first)) begins_with)))

    placed : (first : List (List ℕ)) (at : ℕ) → is.first ≡ first → length first ≡ suc at → IsOptionMisfit verb before (first ++ behind) at
        → IsOptionMisfit verb before words (length words - length behind - 1)
    placed first at same count misfit =
        let whole : words ≡ first ++ behind = is.words_are ∙ ap (λ (l : List (List ℕ)). l ++ behind) same in
        let place : at ≡ length words - length behind - 1 = omega (arith, ap length whole, length-append first behind, count) in
        subst (λ n. IsOptionMisfit verb before words n) place (subst (λ given. IsOptionMisfit verb before given at) (sym whole) misfit)

-- an option in front
pub further : (verb : Verb) (before : Chosen) (words behind : List (List ℕ)) (choice : Choice) (at : ℕ) → BeginsWithOption words choice behind
    → MayChoose verb choice before → IsOptionMisfit verb (with_choice choice before) behind at
    → IsOptionMisfit verb before words (length words - length behind + at)
further verb before words behind choice at is may misfit =
    let taken : length words - length behind ≡ length is.first = omega (arith, ap length is.words_are, length-append is.first behind) in
    subst (λ n. IsOptionMisfit verb before words (n + at)) (sym taken)
    (subst (λ given. IsOptionMisfit verb before given (length is.first + at)) (sym is.words_are)
    (record {
      within = omega (arith, misfit.within, length-append is.first behind);
      before =
          subst (λ front. BeginsOptions verb before front) (sym (take-append-add is.first behind at))
          (longer verb before choice is.first (take at behind) is.spells may misfit.before);
      not_with = λ begins_more.
          misfit.not_with (shortened verb before choice is.first (take (at + 1) behind) is.spells
          (subst (λ front. BeginsOptions verb before front) (ap (λ n. take n (is.first ++ behind)) (add_assoc (length is.first) at 1) ∙ take-append-add is.first behind (at + 1)) begins_more));
    }))

pub none-further : (verb : Verb) (before : Chosen) (words behind : List (List ℕ)) (choice : Choice) → BeginsWithOption words choice behind
    → MayChoose verb choice before → BeginsOptions verb (with_choice choice before) behind → BeginsOptions verb before words
none-further verb before words behind choice is may fits =
    subst (λ front. BeginsOptions verb before front) (sym is.words_are) (longer verb before choice is.first behind is.spells may fits)

-- ---- a line

pub line-fits : (verb : Verb) (front : List (List ℕ)) → BeginsOptions verb nothing front → BeginsLine (verb_word verb ∷ front)
line-fits verb front is =
    record {
      rest = is.rest;
      command = is.command;
      dir = is.dir;
      line = (
        conf_of is.after,
        record {
          verb = verb;
          options = front ++ is.rest;
          choices = is.leaves.choices;
          chosen = is.after;
          words_are = refl;
          choose = is.leaves.choose;
          asks = is.asks;
          folder = is.folder;
          conf_is = refl;
          reserves = is.reserves;
        },
      );
    }

options-fit : (verb : Verb) (front : List (List ℕ)) → BeginsLine (verb_word verb ∷ front) → BeginsOptions verb nothing front
options-fit verb front is =
    let line = given (verb_word verb ∷ (front ++ is.rest)) verb (front ++ is.rest) is.command is.dir is.line.0 refl is.line.1 in
    record {
      rest = is.rest;
      after = line.after;
      command = is.command;
      dir = is.dir;
      leaves = line.leaves;
      asks = line.asks;
      folder = line.folder;
      reserves = line.reserves;
    }

-- no words begin a line, as any command does
pub none-fit : BeginsLine []
none-fit =
    let one : BeginsLine (verb_word Initdb ∷ []) = line-fits Initdb [] (ends Initdb nothing (omega arith)) in
    record { rest = verb_word Initdb ∷ one.rest; command = one.command; dir = one.dir; line = one.line }

pub at-verb : (words : List (List ℕ)) (word : List ℕ) (tail : List (List ℕ)) → words ≡ word ∷ tail
    → ((verb : Verb) → word ≢ verb_word verb) → IsMisfit words 0
at-verb words word tail are other =
    subst (λ given. IsMisfit given 0) (sym are)
    (record {
      within = omega arith;
      before = none-fit;
      not_with = λ is. other is.line.1.verb cc;
    })

module _ (words : List (List ℕ)) (verb : Verb) (tail : List (List ℕ)) (are : words ≡ verb_word verb ∷ tail) where
  pub at-option : (at : ℕ) → IsOptionMisfit verb nothing tail at → IsMisfit words (at + 1)
  at-option at misfit =
      subst (λ given. IsMisfit given (at + 1)) (sym are)
      (record {
        within = omega (arith, misfit.within);
        before = subst (λ front. BeginsLine front) (sym (take-front at)) (line-fits verb (take at tail) misfit.before);
        not_with = λ is. misfit.not_with (options-fit verb (take (at + 1) tail) (subst (λ front. BeginsLine front) (take-front (at + 1)) is));
      })
    where
      take-front : (n : ℕ) → take (n + 1) (verb_word verb ∷ tail) ≡ verb_word verb ∷ take n tail
      take-front n = rw add-one refl

  pub options-fit-too : BeginsOptions verb nothing tail → BeginsLine words
  options-fit-too fits = subst (λ front. BeginsLine front) (sym are) (line-fits verb tail fits)
