-- Words begin with one option alone, and options are read one after the other.
use Rattle.std.{proofs.{Common.{◌≡◌, ◌≢◌, ℕ, ◌<◌, ◌≤◌, ◌-◌, suc, true, false, Bool, List, [], ◌∷◌, ◌++◌, Option, Some, None, length, get_or, take, drop, refl, ap, sym, ◌∙◌, subst, inl, inr, arith, length-append}, lemmas.List.take_all}, specs.{Prelude.{◌⊎◌, codes, nat_eq, not, IfSome, IfNone}, List.list_all}}
use Rattle.pm_top_words.specs.{declared.words.Verb.Verb, Words.{Choice, Data, Port, MaxConnections, SuperuserReserved, RestartAfterCrash, AuthenticationTimeout, Number, Choose, Chosen, MayChoose, Says, Spells, option_name, with_choice}, Options.{BeginsWith, BeginsWithOption, IsName, IsPlain, Leaves}}

-- ---- names

by_test : (name : List ℕ) → list_all (λ byte. not (nat_eq byte 61)) name ≡ true → IsName name
by_test [] all = tt
by_test (byte ∷ name) all = (grind arith, by_test name (grind arith))

pub is_name : (choice : Choice) → IsName (option_name choice)
is_name (Data dir) = by_test (codes "--data") refl
is_name (Port port) = by_test (codes "--port") refl
is_name (MaxConnections count) = by_test (codes "--max-connections") refl
is_name (SuperuserReserved count) = by_test (codes "--superuser-reserved") refl
is_name (RestartAfterCrash restarts) = by_test (codes "--restart-after-crash") refl
is_name (AuthenticationTimeout seconds) = by_test (codes "--authentication-timeout") refl
is_name (Number number) = by_test (codes "--number") refl

pub by_index : (name : List ℕ) → ((i : ℕ) → i < length name → get_or name i 0 ≢ 61) → IsName name
by_index [] each = tt
by_index (byte ∷ name) each = (each 0 (omega arith), by_index name (λ i less. each (suc i) (omega arith)))

-- what is in front of the first `=`
same_front : (name other value more : List ℕ) → IsName name → IsName other → name ++ 61 ∷ value ≡ other ++ 61 ∷ more → (name ≡ other) × (value ≡ more)
same_front [] [] value more is_name is_other same = (refl, cc)
same_front [] (byte ∷ other) value more is_name is_other same = (let e : 61 ≡ byte = cc in absurd (is_other.0 (sym e)))
same_front (byte ∷ name) [] value more is_name is_other same = (let e : byte ≡ 61 = cc in absurd (is_name.0 e))
same_front (byte ∷ name) (first ∷ other) value more is_name is_other same =
    let e : byte ≡ first = cc in
    let rest : name ++ 61 ∷ value ≡ other ++ 61 ∷ more = cc in
    let both : (name ≡ other) × (value ≡ more) = same_front name other value more is_name.1 is_other.1 rest in
    (ap (λ b. b ∷ name) e ∙ ap (λ l. first ∷ l) both.0, both.1)

pub no_cut : (name other value : List ℕ) → IsName name → name ≡ other ++ 61 ∷ value → ⊥
no_cut [] [] value is_name same = absurd cc
no_cut [] (byte ∷ other) value is_name same = absurd cc
no_cut (byte ∷ name) [] value is_name same = is_name.0 cc
no_cut (byte ∷ name) (first ∷ other) value is_name same = no_cut name other value is_name.1 cc

-- ---- what the words begin with

-- in one word, or in two
abbrev pub IsOneWord : (first : List ℕ) (tail : List (List ℕ)) (name value : List ℕ) (behind : List (List ℕ)) → Type 0
IsOneWord first tail name value behind = (first ≡ name ++ 61 ∷ value) × (tail ≡ behind)

abbrev pub IsTwoWords : (first : List ℕ) (tail : List (List ℕ)) (name value : List ℕ) (behind : List (List ℕ)) → Type 0
IsTwoWords first tail name value behind = (first ≡ name) × (tail ≡ value ∷ behind) × IsPlain value

pub begins : (first : List ℕ) (tail : List (List ℕ)) (name value : List ℕ) (behind : List (List ℕ)) → BeginsWith (first ∷ tail) name value behind
    → (value ≢ []) × (IsOneWord first tail name value behind ⊎ IsTwoWords first tail name value behind)
begins first tail name value behind is = (
  is.given.0,
  elim is.given.1 [
    | inl one ↦
        (let w : first ∷ tail ≡ (name ++ 61 ∷ value) ∷ behind = is.words_are ∙ ap (λ (l : List (List ℕ)). l ++ behind) one in inl (cc, cc))
    | inr two ↦
        (let w : first ∷ tail ≡ name ∷ value ∷ behind = is.words_are ∙ ap (λ (l : List (List ℕ)). l ++ behind) two.0 in
        inr (cc, cc, (is.given.0, two.1)))
  ],
)

pub record SameGiven (name other value more : List ℕ) (behind rest : List (List ℕ)) : Type 0 where
  pub name_is : name ≡ other
  pub value_is : value ≡ more
  pub behind_is : behind ≡ rest

same-cases : (first : List ℕ) (tail : List (List ℕ)) (name other value more : List ℕ) (behind rest : List (List ℕ)) → IsName name → IsName other
    → IsOneWord first tail name value behind ⊎ IsTwoWords first tail name value behind
    → IsOneWord first tail other more rest ⊎ IsTwoWords first tail other more rest → SameGiven name other value more behind rest
same-cases first tail name other value more behind rest is_name is_other (inl one) (inl two) =
    let same : (name ≡ other) × (value ≡ more) = same_front name other value more is_name is_other (sym one.0 ∙ two.0) in
    record { name_is = same.0; value_is = same.1; behind_is = sym one.1 ∙ two.1 }
same-cases first tail name other value more behind rest is_name is_other (inl one) (inr two) =
    absurd (no_cut other name value is_other (sym two.0 ∙ one.0))
same-cases first tail name other value more behind rest is_name is_other (inr one) (inl two) =
    absurd (no_cut name other more is_name (sym one.0 ∙ two.0))
same-cases first tail name other value more behind rest is_name is_other (inr one) (inr two) =
    let w : value ∷ behind ≡ more ∷ rest = sym one.1 ∙ two.1 in
    record { name_is = sym one.0 ∙ two.0; value_is = cc; behind_is = cc }

pub same-given : (first : List ℕ) (tail : List (List ℕ)) (name other value more : List ℕ) (behind rest : List (List ℕ))
    → BeginsWith (first ∷ tail) name value behind → BeginsWith (first ∷ tail) other more rest → SameGiven name other value more behind rest
same-given first tail name other value more behind rest one two =
    same-cases first tail name other value more behind rest one.name_is two.name_is
    (begins first tail name value behind one).1 (begins first tail other more rest two).1

-- no words begin with nothing
pub not-none : (name value : List ℕ) (behind : List (List ℕ)) → BeginsWith [] name value behind → ⊥
not-none name value behind is =
    elim is.given.1 [
      | inl one ↦ (let w : [] ≡ (name ++ 61 ∷ value) ∷ behind = is.words_are ∙ ap (λ (l : List (List ℕ)). l ++ behind) one in absurd cc)
      | inr two ↦ (let w : [] ≡ name ∷ value ∷ behind = is.words_are ∙ ap (λ (l : List (List ℕ)). l ++ behind) two.0 in absurd cc)
    ]

-- ---- options

pub option-begins : (words : List (List ℕ)) (choice : Choice) (behind : List (List ℕ)) (is : BeginsWithOption words choice behind)
    → BeginsWith words (option_name choice) is.spells.0 behind
option-begins words choice behind is = record { first = is.first; name_is = is_name choice; given = is.spells.2; words_are = is.words_are }

same-flag : (one two : Bool) (value : List ℕ) → Says (RestartAfterCrash one) value → Says (RestartAfterCrash two) value → one ≡ two
same-flag true true value first second = refl
same-flag true false value first second = (let e : codes "on" ≡ codes "off" = sym first ∙ second in absurd cc)
same-flag false true value first second = (let e : codes "off" ≡ codes "on" = sym first ∙ second in absurd cc)
same-flag false false value first second = refl

same-choice : (one two : Choice) (value : List ℕ) → option_name one ≡ option_name two → Says one value → Says two value → one ≡ two
same-choice (Data dir) (Data other) value name first second = ap Data (sym first ∙ second)
same-choice (Port port) (Port other) value name first second = ap Port (first.number_is ∙ sym second.number_is)
same-choice (MaxConnections count) (MaxConnections other) value name first second = ap MaxConnections (first.number_is ∙ sym second.number_is)
same-choice (SuperuserReserved count) (SuperuserReserved other) value name first second = ap SuperuserReserved (first.number_is ∙ sym second.number_is)
same-choice (RestartAfterCrash restarts) (RestartAfterCrash other) value name first second = ap RestartAfterCrash (same-flag restarts other value first second)
same-choice (AuthenticationTimeout seconds) (AuthenticationTimeout other) value name first second =
    ap AuthenticationTimeout (first.number_is ∙ sym second.number_is)
same-choice (Number number) (Number other) value name first second = ap Number (first.number_is ∙ sym second.number_is)
-- by the length of the names and, for those of two options, by their third byte
same-choice one two value name first second =
    absurd (omega (arith, ap (λ (l : List ℕ). length l) name, ap (λ (l : List ℕ). get_or l 2 0) name))

-- the words begin with one option
pub same-option : (words : List (List ℕ)) (one two : Choice) (behind rest : List (List ℕ)) → BeginsWithOption words one behind → BeginsWithOption words two rest
    → (one ≡ two) × (behind ≡ rest)
same-option [] one two behind rest first second = absurd (not-none (option_name one) first.spells.0 behind (option-begins [] one behind first))
same-option (word ∷ words) one two behind rest first second =
    let same : SameGiven (option_name one) (option_name two) first.spells.0 second.spells.0 behind rest =
    same-given word words (option_name one) (option_name two) first.spells.0 second.spells.0 behind rest
    (option-begins (word ∷ words) one behind first) (option-begins (word ∷ words) two rest second) in (
      same-choice one two second.spells.0 same.name_is (subst (Says one) same.value_is first.spells.1) second.spells.1,
      same.behind_is,
    )

-- ---- one after the other

pub step_back : (verb : Verb) (choice : Choice) (before after : Chosen) (words behind : List (List ℕ)) → BeginsWithOption words choice behind
    → MayChoose verb choice before → Leaves verb (with_choice choice before) behind after → Leaves verb before words after
step_back verb choice before after words behind is may leaves =
    record {
      choices = choice ∷ leaves.choices;
      choose = (is.first, behind, is.words_are, is.spells, may, leaves.choose);
    }

pub record StepsOn (verb : Verb) (choice : Choice) (before after : Chosen) (behind : List (List ℕ)) : Type 0 where
  pub may : MayChoose verb choice before
  pub leaves : Leaves verb (with_choice choice before) behind after

-- what is left of words that aren't empty begins with an option
pub record Begun (verb : Verb) (before after : Chosen) (words : List (List ℕ)) : Type 0 where
  pub choice : Choice
  pub behind : List (List ℕ)
  pub is : BeginsWithOption words choice behind
  pub on : StepsOn verb choice before after behind

begun-by : (verb : Verb) (before after : Chosen) (words : List (List ℕ)) (choices : List Choice) → (words ≡ [] → ⊥)
    → Choose verb before choices words after → Begun verb before after words
begun-by verb before after words [] some choose = absurd (some choose.0)
begun-by verb before after words (choice ∷ choices) some choose =
    record {
      choice = choice;
      behind = choose.1;
      is = record { first = choose.0; spells = choose.3; words_are = choose.2 };
      on = record { may = choose.4; leaves = record { choices = choices; choose = choose.5 } };
    }

pub begun : (verb : Verb) (before after : Chosen) (words : List (List ℕ)) → (words ≡ [] → ⊥) → Leaves verb before words after
    → Begun verb before after words
begun verb before after words some leaves = begun-by verb before after words leaves.choices some leaves.choose

pub step_on : (verb : Verb) (choice : Choice) (before after : Chosen) (words behind : List (List ℕ)) → (words ≡ [] → ⊥)
    → BeginsWithOption words choice behind → Leaves verb before words after → StepsOn verb choice before after behind
step_on verb choice before after words behind some is leaves =
    let one : Begun verb before after words = begun verb before after words some leaves in
    let same : (one.choice ≡ choice) × (one.behind ≡ behind) = same-option words one.choice choice one.behind behind one.is is in
    subst (λ c. StepsOn verb c before after behind) same.0 (subst (λ b. StepsOn verb one.choice before after b) same.1 one.on)

begins-some : (choice : Choice) (words : List (List ℕ)) → Spells choice words → words ≡ [] → ⊥
begins-some choice words spells none =
    elim spells.2.1 [
      | inl one ↦ (let w : [] ≡ (option_name choice ++ 61 ∷ spells.0) ∷ [] = sym none ∙ one in absurd cc)
      | inr two ↦ (let w : [] ≡ option_name choice ∷ spells.0 ∷ [] = sym none ∙ two.0 in absurd cc)
    ]

nothing-before : (first rest : List (List ℕ)) → [] ≡ first ++ rest → first ≡ []
nothing-before [] rest is = refl
nothing-before (word ∷ first) rest is = absurd cc

at-end-by : (verb : Verb) (before after : Chosen) (choices : List Choice) → Choose verb before choices [] after → after ≡ before
at-end-by verb before after [] choose = choose.1
at-end-by verb before after (choice ∷ choices) choose =
    absurd (begins-some choice choose.0 choose.3 (nothing-before choose.0 choose.1 choose.2))

pub at-end : (verb : Verb) (before after : Chosen) → Leaves verb before [] after → after ≡ before
at-end verb before after leaves = at-end-by verb before after leaves.choices leaves.choose

pub shorter : (words : List (List ℕ)) (choice : Choice) (behind : List (List ℕ)) → BeginsWithOption words choice behind → length behind < length words
shorter words choice behind is = longer is.first (begins-some choice is.first is.spells) is.words_are
  where
    longer : (first : List (List ℕ)) → (first ≡ [] → ⊥) → words ≡ first ++ behind → length behind < length words
    longer [] some are = absurd (some refl)
    longer (word ∷ first) some are = omega (arith, ap length are, length-append first behind)

-- ---- a name and its value, as they are read

pub cons_words : (words : List (List ℕ)) (item first : List ℕ) → 1 ≤ length words → item ≡ get_or words 0 item → first ≡ item
    → words ≡ first ∷ take (length words - 1) (drop 1 words)
cons_words [] item first some is same = absurd (omega arith)
cons_words (word ∷ words) item first some is same =
    ap (λ w. w ∷ words) (sym (same ∙ is)) ∙ ap (λ (l : List (List ℕ)). first ∷ l) (sym (take_all (suc (length words) - 1) words (omega arith)))

module _ (words : List (List ℕ)) (first : List ℕ) (tail : List (List ℕ)) (are : words ≡ first ∷ tail) where
  pub found-one : (name value : List ℕ) → first ≡ name ++ 61 ∷ value → IsName name → (value ≢ []) → BeginsWith words name value tail
  found-one name value cut is_name some =
      record { first = first ∷ []; name_is = is_name; given = (some, inl (ap (λ w. w ∷ []) cut)); words_are = are }

  pub none-one : (name : List ℕ) → first ≡ name ++ 61 ∷ [] → IsName name
      → (other value : List ℕ) (behind : List (List ℕ)) → BeginsWith words other value behind → ⊥
  none-one name cut is_name other value behind is =
      let here : BeginsWith (first ∷ tail) other value behind = subst (λ l. BeginsWith l other value behind) are is in
      elim (begins first tail other value behind here).1 [
        | inl one ↦ (begins first tail other value behind here).0 (sym (same_front name other [] value is_name is.name_is (sym cut ∙ one.0)).1)
        | inr two ↦ no_cut other name [] is.name_is (sym two.0 ∙ cut)
      ]

  pub found-two : (name value : List ℕ) (behind : List (List ℕ)) → IsName first → name ≡ first → IsPlain value → tail ≡ value ∷ behind
      → BeginsWith words name value behind
  found-two name value behind is_name same plain rest =
      record {
        first = name ∷ value ∷ [];
        name_is = subst IsName (sym same) is_name;
        given = (plain.0, inr (refl, plain.1));
        words_are = are ∙ ap (λ w. w ∷ tail) (sym same) ∙ ap (λ (l : List (List ℕ)). name ∷ l) rest;
      }

  pub none-two : IsName first → ((value : List ℕ) (behind : List (List ℕ)) → tail ≡ value ∷ behind → IsPlain value → ⊥)
      → (name value : List ℕ) (behind : List (List ℕ)) → BeginsWith words name value behind → ⊥
  none-two is_name none name value behind is =
      let here : BeginsWith (first ∷ tail) name value behind = subst (λ l. BeginsWith l name value behind) are is in
      elim (begins first tail name value behind here).1 [
        | inl one ↦ no_cut first name value is_name one.0
        | inr two ↦ none value behind two.1 two.2
      ]

pub none-at-all : (words : List (List ℕ)) → length words ≡ 0 → (name value : List ℕ) (behind : List (List ℕ)) → BeginsWith words name value behind → ⊥
none-at-all [] empty name value behind is = not-none name value behind is
none-at-all (word ∷ words) empty name value behind is = absurd (omega (arith, empty))

-- ---- their lengths

pub some_words : (value : List ℕ) → (length value ≡ 0 → ⊥) → value ≢ []
some_words value some is = some (ap length is)

pub no_value : (value : List ℕ) → length value ≡ 0 → value ≡ []
no_value [] none = refl
no_value (byte ∷ value) none = absurd (omega (arith, none))

-- ---- answers

pub some_map : {X : Type 0} (P Q : X → Type 0) → ((x : X) → P x → Q x) → (o : Option X) → IfSome o P → IfSome o Q
some_map P Q f None is = tt
some_map P Q f (Some x) is = f x is

pub none_map : {X : Type 0} (A B : Type 0) → (A → B) → (o : Option X) → IfNone o A → IfNone o B
none_map A B f None is = f is
none_map A B f (Some x) is = tt

pub says-none : (words : List (List ℕ)) (name value : List ℕ) (rest : List (List ℕ)) → BeginsWith words name value rest
    → ((choice : Choice) → name ≡ option_name choice → Says choice value → ⊥) → (choice : Choice) (behind : List (List ℕ))
    → BeginsWithOption words choice behind → ⊥
says-none [] name value rest given none choice behind is = not-none name value rest given
says-none (word ∷ words) name value rest given none choice behind is =
    let same : SameGiven name (option_name choice) value is.spells.0 rest behind =
    same-given word words name (option_name choice) value is.spells.0 rest behind given (option-begins (word ∷ words) choice behind is) in
    none choice same.name_is (subst (Says choice) (sym same.value_is) is.spells.1)
