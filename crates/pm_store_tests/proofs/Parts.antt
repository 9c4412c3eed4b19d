-- Tokens that go from one list to the other.
use Rattle.std.{proofs.{Common.{◌≡◌, ℕ, zero, suc, ◌+◌, ◌<◌, List, [], ◌∷◌, ◌++◌, length, length-append, sym, ap, ◌∙◌, subst, arith}, lemmas.Option.{get_or_from_slice_get, slice_get-get_or, slice_get_within, same_Some}, Math.Seq.take-append_seam}, specs.Prelude.{Some, slice_get, slice_index_or, take}}
use Rattle.atomic_table.specs.Seated.{TableId}
use Rattle.pm_store_shared.specs.{pm_query.pm_facts.Lists.{got_front, got_last}, Told.{AreTokens, TokenModel}}
use Rattle.pm_store_tests.specs.Seats.{AreParted, AreSame, IsSame}

abbrev pub Each : {A : Type 0} → (ℕ → A → Type 0) → List A → Type 0
Each {A} P xs = (k : ℕ) (x : A) → slice_get xs k ≡ Some x → P k x

one_more : {A : Type 0} (P : ℕ → A → Type 0) (xs : List A) (y : A) → Each P xs → P (length xs) y → Each P (xs ++ y ∷ [])
one_more P [] y each new zero x is = subst (P zero) (same_Some y x is) new
one_more P [] y each new (suc k) x is = each (suc k) x is
one_more P (z ∷ zs) y each new zero x is = each zero x is
one_more P (z ∷ zs) y each new (suc k) x is = one_more (λ j w. P (suc j) w) zs y (λ j w e. each (suc j) w e) new k x is

module _ {F : Type 0} (table : TableId) (n : ℕ) where
  pub none_out : (listed : List (TokenModel F)) → AreTokens table n listed → AreParted table n listed []
  none_out listed are =
      let all : length listed ≡ n = are.0 in
      record {
        all = omega arith;
        first = are.1;
        last = λ k token is. cc;
      }

  out : (listed others : List (TokenModel F)) (token : TokenModel F) → AreParted table n (listed ++ token ∷ []) others → AreParted table n listed (others ++ token ∷ [])
  out listed others token are =
      let is = are.first (length listed) token (got_last listed token) in
      let number : token.number ≡ length listed = is.1 in
      let all : length (listed ++ token ∷ []) + length others ≡ n = are.all in
      let more : length (listed ++ token ∷ []) ≡ length listed + 1 = length-append listed (token ∷ []) in
      let more' : length (others ++ token ∷ []) ≡ length others + 1 = length-append others (token ∷ []) in
      let place : token.number + (length others + 1) ≡ n = omega arith in
      record {
        all = omega arith;
        first = λ k x e. are.first k x (got_front listed (token ∷ []) k x e);
        last = one_more (λ k x. (x.table ≡ table) × (x.number + (k + 1) ≡ n)) others token are.last (is.0, place);
      }

  back : (listed others : List (TokenModel F)) (token : TokenModel F) → AreParted table n listed (others ++ token ∷ []) → AreParted table n (listed ++ token ∷ []) others
  back listed others token are =
      let is = are.last (length others) token (got_last others token) in
      let number : token.number + (length others + 1) ≡ n = is.1 in
      let all : length listed + length (others ++ token ∷ []) ≡ n = are.all in
      let more : length (listed ++ token ∷ []) ≡ length listed + 1 = length-append listed (token ∷ []) in
      let more' : length (others ++ token ∷ []) ≡ length others + 1 = length-append others (token ∷ []) in
      let place : token.number ≡ length listed = omega arith in
      record {
        all = omega arith;
        first = one_more (λ k x. (x.table ≡ table) × (x.number ≡ k)) listed token are.first (is.0, place);
        last = λ k x e. are.last k x (got_front others (token ∷ []) k x e);
      }

  pub goes_out : (all listed others more : List (TokenModel F)) (token : TokenModel F) → all ≡ listed ++ token ∷ [] → more ≡ others ++ token ∷ [] → AreParted table n all others → AreParted table n listed more
  goes_out all listed others more token is is' are = subst (AreParted table n listed) (sym is') (out listed others token (subst (λ l. AreParted table n l others) is are))

  pub comes_back : (listed more all others : List (TokenModel F)) (token : TokenModel F) → all ≡ others ++ token ∷ [] → more ≡ listed ++ token ∷ [] → AreParted table n listed all → AreParted table n more others
  comes_back listed more all others token is is' are = subst (λ l. AreParted table n l others) (sym is') (back listed others token (subst (AreParted table n listed) is are))

  -- the others as a vector has them after a write to all of it
  pub stays : (listed was now rest : List (TokenModel F)) (len : ℕ) → length now ≡ length was → len ≡ length now → AreSame was now → AreParted table n listed was → AreParted table n listed (take len (now ++ rest))
  stays listed was now rest len same_length is_length same are =
      let whole : take len (now ++ rest) ≡ now = ap (λ k. take k (now ++ rest)) is_length ∙ take-append_seam now rest in
      let each : (k : ℕ) (x : TokenModel F) → slice_get now k ≡ Some x → (x.table ≡ table) × (x.number + (k + 1) ≡ n) = λ k x is.
      let within : k < length was = subst (λ l. k < l) same_length (slice_get_within now k x is) in
      let before = are.last k (slice_index_or was k x) (slice_get-get_or was k x within) in
      let kept : IsSame (slice_index_or was k x) (slice_index_or now k x) = same k x within in
      let this : slice_index_or now k x ≡ x = get_or_from_slice_get now k x x is in
      let number : x.number ≡ (slice_index_or was k x).number = sym (ap (λ t. t.number) this) ∙ kept.1 in
      (sym (ap (λ t. t.table) this) ∙ kept.0 ∙ before.0, ap (λ m. m + (k + 1)) number ∙ before.1)
      in
      subst (AreParted table n listed) (sym whole) record {
        all = ap (λ k. length listed + k) same_length ∙ are.all;
        first = are.first;
        last = each;
      }
