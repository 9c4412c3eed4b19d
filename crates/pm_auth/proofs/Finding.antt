-- The first element that passes, by its place.
use Rattle.std.{proofs.{Common.{◌≡◌, ◌∙◌, ℕ, ◌<◌, Bool, true, false, cond, ltb, List, length, get_or, refl, sym, ap, subst}, lemmas.{Bool.ltb-false, List.Folds.find_at, Option.{slice_get-get_or, slice_get_past}}}, specs.{Prelude.{Option, None, Some}, Option.option_map, List.{find, position, position_or_len, slice_get}}}
use Rattle.pm_auth.specs.{Access.{IsKnown, IsKnownBy, mock_salt}, Rules.{fits, method_for}, Secrets.{is_of, place_of}, declared.{rules.Rule.Rule, secrets.{Known.Known, Secret.Secret}}}

some_is : (b : Bool) (i at : ℕ) → cond b (Some i) None ≡ Some at → i ≡ at
some_is true i at e = cc
some_is false i at e = absurd cc

none_false : (b : Bool) (i : ℕ) → cond b (Some i) None ≡ None → b ≡ false
none_false true i e = absurd cc
none_false false i e = refl

pub found : {X : Type 0} (p : X → Bool) (xs : List X) (at : ℕ) (d : X) → position p xs ≡ Some at → at < length xs
    → find p xs ≡ Some (get_or xs at d)
found p xs at d e within =
    find_at p xs
    ∙ ap (λ (i : ℕ). slice_get xs i) (some_is (ltb (position_or_len p xs) (length xs)) (position_or_len p xs) at e)
    ∙ slice_get-get_or xs at d within

pub unfound : {X : Type 0} (p : X → Bool) (xs : List X) → position p xs ≡ None → find p xs ≡ None
unfound p xs e =
    find_at p xs
    ∙ slice_get_past xs (position_or_len p xs)
    (ltb-false (position_or_len p xs) (length xs) (none_false (ltb (position_or_len p xs) (length xs)) (position_or_len p xs) e))

-- ---- the rule that a connection is under

pub none_for : (rules seen : List Rule) (database user : List ℕ) → seen ≡ rules → position (fits database user) seen ≡ None → None ≡ method_for rules database user
none_for rules seen database user is e =
    sym (ap (λ (o : Option Rule). option_map (λ (rule : Rule). rule.method) o)
    (unfound (fits database user) rules (ap (λ (xs : List Rule). position (fits database user) xs) (sym is) ∙ e)))

pub method_at : (rules seen : List Rule) (database user : List ℕ) (at : ℕ) (d : Rule) → seen ≡ rules → position (fits database user) seen ≡ Some at
    → at < length seen → Some (get_or rules at d).method ≡ method_for rules database user
method_at rules seen database user at d is e within =
    sym (ap (λ (o : Option Rule). option_map (λ (rule : Rule). rule.method) o)
    (found (fits database user) rules at d (ap (λ (xs : List Rule). position (fits database user) xs) (sym is) ∙ e)
    (subst (λ (xs : List Rule). at < length xs) is within)))

-- ---- what is known of a user

pub known_some : (secrets : List Secret) (key user : List ℕ) (at : ℕ) (d : Secret) (known : Known) → place_of secrets user ≡ Some at → at < length secrets
    → known.kept ≡ (get_or secrets at d).kept → known.has_secret ≡ true → IsKnown secrets key user known
known_some secrets key user at d known e within kept has =
    subst (λ (o : Option Secret). IsKnownBy o key user known) (sym (found (is_of user) secrets at d e within)) (kept, has)

pub known_none : (secrets : List Secret) (key user : List ℕ) (known : Known) → place_of secrets user ≡ None
    → known.kept.salt ≡ mock_salt key user → known.has_secret ≡ false → IsKnown secrets key user known
known_none secrets key user known e salt has =
    subst (λ (o : Option Secret). IsKnownBy o key user known) (sym (unfound (is_of user) secrets e)) (salt, has)
