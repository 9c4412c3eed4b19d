-- Lists of words and what they say, word by word.
use Rattle.std.{proofs.{Common.{◌≡◌, ◌≢◌, ◌∙◌, ℕ, ◌+◌, ◌<◌, ◌≤◌, Bool, true, false, List, [], ◌∷◌, ◌++◌, length, get_or, take, refl, sym, ap, subst, arith}, lemmas.{List.{append-nil, take_more, take_all, Folds.concat-append}, Option.slice_get-get_or, Map.Keys.IsDistinct-push, Slice.Eq.bytes_eq-Decides}}, specs.{Prelude.{Some, Result, Ok, Err, IfOk}, List.{AllZip, IsDistinct, concat, list_any}, Cmp.IsEquivalence, Str.bytes_eq}}
use Rattle.pm_auth.specs.{declared.{secrets.Secret.Secret, rules.Rule.Rule, fault.AuthNo.{AuthNo, TheVariants.{ManyRules, ManySecrets, NoRule, NoSecret, SecondSecret, NoMemory}}}, Words.IsFirstOdd, Rules.{IsRuleMisfit, RulesSay, SaysRule}, Secrets.{IsSecretMisfit, Repeats, SaysSecret, SecretsSay, is_of, is_same_user}, Access.{IsMisfit, rule_words}}

-- ---- two lists side by side

zip_push : {A B : Type 0} (R : A → B → Type 0) (xs : List A) (ys : List B) (x : A) (y : B) → AllZip R xs ys → R x y → AllZip R (xs ++ x ∷ []) (ys ++ y ∷ [])
zip_push R [] [] x y both last = (last, tt)
zip_push R [] (b ∷ ys) x y both last = absurd both
zip_push R (a ∷ xs) [] x y both last = absurd both
zip_push R (a ∷ xs) (b ∷ ys) x y both last = (both.0, zip_push R xs ys x y both.1 last)

pub zip_more : {A B : Type 0} (R : A → B → Type 0) (xs : List A) (ys : List B) (i : ℕ) (d : A) (y : B) → i < length xs
    → AllZip R (take i xs) ys → R (get_or xs i d) y → AllZip R (take (i + 1) xs) (ys ++ y ∷ [])
zip_more {A} {B} R xs ys i d y within both last =
    subst (λ (front : List A). AllZip R front (ys ++ y ∷ [])) (sym (take_more xs i d within)) (zip_push R (take i xs) ys (get_or xs i d) y both last)

pub zip_length : {A B : Type 0} (R : A → B → Type 0) (xs : List A) (ys : List B) → AllZip R xs ys → length ys ≡ length xs
zip_length R [] [] both = refl
zip_length R [] (y ∷ ys) both = absurd both
zip_length R (x ∷ xs) [] both = absurd both
zip_length R (x ∷ xs) (y ∷ ys) both = let rest = zip_length R xs ys both.1 in omega (arith, rest)

-- ---- of different users

same_bool : (a b : Bool) → (a ≡ true → b ≡ true) → (b ≡ true → a ≡ true) → a ≡ b
same_bool true b to from = sym (to refl)
same_bool false true to from = from refl
same_bool false false to from = refl

turned : (xs ys : List ℕ) → bytes_eq xs ys ≡ bytes_eq ys xs
turned xs ys =
    same_bool (bytes_eq xs ys) (bytes_eq ys xs)
    (λ e. (bytes_eq-Decides ys xs).1 (sym ((bytes_eq-Decides xs ys).0 e)))
    (λ e. (bytes_eq-Decides xs ys).1 (sym ((bytes_eq-Decides ys xs).0 e)))

users_equal : IsEquivalence is_same_user
users_equal = record {
  refl = λ x. (bytes_eq-Decides x.user x.user).1 refl;
  symm = λ x y. turned y.user x.user;
  congr = λ x y z e. ap (λ (name : List ℕ). bytes_eq z.user name) (sym ((bytes_eq-Decides y.user x.user).0 e));
}

pub none_distinct : IsDistinct is_same_user []
unfolding IsDistinct
none_distinct = tt

-- ---- the word at a place

pub concat_more : (words : List (List ℕ)) (i : ℕ) (word : List ℕ) → i < length words → word ≡ get_or words i word
    → concat (take i words) ++ word ≡ concat (take (i + 1) words)
concat_more words i word within is =
    sym (ap concat (take_more words i word within)
    ∙ concat-append (take i words) (get_or words i word ∷ [])
    ∙ ap (λ w. concat (take i words) ++ w) (append-nil (get_or words i word) ∙ sym is))

pub odd : {X : Type 0} (Fit : List (List ℕ) → List X → Type 0) (Says : List ℕ → X → Type 0) (words : List (List ℕ)) (i : ℕ) (before : List X) (word text : List ℕ)
    → i < length words → word ≡ get_or words i word → text ≡ word → Fit (take i words) before → ((x : X) → ¬ (Says text x)) → IsFirstOdd Fit Says words i
odd {X} Fit Says words i before word text within is text_is fit none = record {
  before = before;
  word = word;
  fit = fit;
  word_at = slice_get-get_or words i word within ∙ ap (λ (w : List ℕ). Some w) (sym is);
  none = subst (λ (t : List ℕ). (x : X) → ¬ (Says t x)) text_is none;
}

pub repeats : (words : List (List ℕ)) (i : ℕ) (before : List Secret) (word text : List ℕ) (secret : Secret)
    → i < length words → word ≡ get_or words i word → text ≡ word → SecretsSay (take i words) before → SaysSecret text secret
    → list_any (is_of secret.user) before ≡ true → Repeats words i
repeats words i before word text secret within is text_is fit says taken = record {
  before = before;
  word = word;
  secret = secret;
  fit = fit;
  word_at = slice_get-get_or words i word within ∙ ap (λ (w : List ℕ). Some w) (sym is);
  says = subst (λ (t : List ℕ). SaysSecret t secret) text_is says;
  taken = taken;
}

pub next_secret : (words : List (List ℕ)) (i : ℕ) (before : List Secret) (word text : List ℕ) (secret : Secret)
    → i < length words → word ≡ get_or words i word → text ≡ word → SecretsSay (take i words) before → SaysSecret text secret
    → list_any (is_of secret.user) before ≡ false → SecretsSay (take (i + 1) words) (before ++ secret ∷ [])
next_secret words i before word text secret within is text_is fit says other = record {
  say = zip_more SaysSecret words before i word secret within fit.say (subst (λ (t : List ℕ). SaysSecret t secret) (text_is ∙ is) says);
  distinct = IsDistinct-push users_equal before secret fit.distinct other;
}

pub next_rule : (words : List (List ℕ)) (i : ℕ) (before : List Rule) (word text : List ℕ) (rule : Rule)
    → i < length words → word ≡ get_or words i word → text ≡ word → RulesSay (take i words) before → SaysRule text rule
    → RulesSay (take (i + 1) words) (before ++ rule ∷ [])
next_rule words i before word text rule within is text_is fit says =
    zip_more SaysRule words before i word rule within fit (subst (λ (t : List ℕ). SaysRule t rule) (text_is ∙ is) says)

pub few_said : {V E : Type 0} (items : V → List Rule) (words : List (List ℕ)) (r : Result V E) → length words ≤ 64
    → IfOk r (λ v. RulesSay words (items v)) → IfOk r (λ v. length (items v) ≤ 64)
few_said items words (Err e) few said = tt
few_said items words (Ok v) few said = let same = zip_length SaysRule words (items v) said in omega (arith, same, few)

pub secrets_all : (words : List (List ℕ)) (secrets : List Secret) (i : ℕ) → length words ≤ i → SecretsSay (take i words) secrets → SecretsSay words secrets
secrets_all words secrets i end all = subst (λ (front : List (List ℕ)). SecretsSay front secrets) (take_all i words end) all

pub rules_all : (words : List (List ℕ)) (rules : List Rule) (i : ℕ) → length words ≤ i → RulesSay (take i words) rules → RulesSay words rules
rules_all words rules i end all = subst (λ (front : List (List ℕ)). RulesSay front rules) (take_all i words end) all

-- ---- rules where none are given, and what is refused

pub given : (rules secrets : List (List ℕ)) (said : List Rule) → rules ≢ [] → RulesSay rules said → RulesSay (rule_words rules secrets) said
given [] secrets said some say = absurd (some refl)
given (rule ∷ rules) secrets said some say = say

pub rule_misfit : (rules secrets : List (List ℕ)) (no : AuthNo) → IsRuleMisfit rules no → IsMisfit rules secrets no
rule_misfit rules secrets ManyRules is = absurd is
rule_misfit rules secrets ManySecrets is = absurd is
rule_misfit rules secrets (NoRule index) is = is
rule_misfit rules secrets (NoSecret index) is = absurd is
rule_misfit rules secrets (SecondSecret index) is = absurd is
rule_misfit rules secrets NoMemory is = tt

pub secret_misfit : (rules secrets : List (List ℕ)) (no : AuthNo) → IsSecretMisfit secrets no → IsMisfit rules secrets no
secret_misfit rules secrets ManyRules is = absurd is
secret_misfit rules secrets ManySecrets is = absurd is
secret_misfit rules secrets (NoRule index) is = absurd is
secret_misfit rules secrets (NoSecret index) is = is
secret_misfit rules secrets (SecondSecret index) is = is
secret_misfit rules secrets NoMemory is = tt
