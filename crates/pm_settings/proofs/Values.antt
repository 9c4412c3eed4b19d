-- Values and assignments are read as the grammar has them.
use Rattle.std.{proofs.{Common.{◌≡◌, ℕ, inl, inr, Bool, true, false, cond, ◌||◌, List, [], ◌∷◌, Option, Some, None, codes, refl, sym, ap, ◌∙◌, true≢false}, lemmas.Option.same_Some}, specs.{List.{slice_split}, Option.option_map}}
use Rattle.pm_settings.{specs.{declared.{lexeme.Lexeme.{Lexeme, TheVariants.{Word, Digits, Quoted, Mark}}, statement.Statement.{Statement, TheVariants.Set}}, Lexemes.{is_word, is_mark}, Statements.{IsValue, joined, is_comma, AreValues, IsGiven, IsTo}, Reading.{all_of, phrase, are_words, signed, value_in, values_in, set_to, is_to, assigned, assignment_in}}, proofs.Words.{tested, mapped, zip_of_all, all_of_zip, word_is, mark_is, words_are, are_those_words, other_words}}

-- ---- one value

signed_is : (sign : Lexeme) (digits value : List ℕ) → signed sign (Digits digits) ≡ Some value → IsValue (sign ∷ Digits digits ∷ []) value
signed_is sign digits value = by_sign (is_mark 43 sign) (is_mark 45 sign) refl refl where
  by_sign : (plus minus : Bool) → is_mark 43 sign ≡ plus → is_mark 45 sign ≡ minus → cond plus (Some digits) (cond minus (Some (45 ∷ digits)) None) ≡ Some value → IsValue (sign ∷ Digits digits ∷ []) value
  by_sign true minus p m e = inr (inr (inr (inl (ap (λ s. s ∷ Digits digits ∷ []) (mark_is 43 sign p) ∙ ap (λ d. Mark 43 ∷ Digits d ∷ []) (same_Some digits value e)))))
  by_sign false true p m e = inr (inr (inr (inr (digits, ap (λ s. s ∷ Digits digits ∷ []) (mark_is 45 sign m), sym (same_Some (45 ∷ digits) value e)))))
  by_sign false false p m e = cc e

pub value_is : (lexemes : List Lexeme) (value : List ℕ) → value_in lexemes ≡ Some value → IsValue lexemes value
value_is [] value e = cc e
value_is (Word letters ∷ []) value e = inl (ap (λ v. Word v ∷ []) (same_Some letters value e))
value_is (Digits digits ∷ []) value e = inr (inr (inl (ap (λ v. Digits v ∷ []) (same_Some digits value e))))
value_is (Quoted content ∷ []) value e = inr (inl (ap (λ v. Quoted v ∷ []) (same_Some content value e)))
value_is (Mark byte ∷ []) value e = cc e
value_is (sign ∷ Word letters ∷ []) value e = cc e
value_is (sign ∷ Digits digits ∷ []) value e = signed_is sign digits value e
value_is (sign ∷ Quoted content ∷ []) value e = cc e
value_is (sign ∷ Mark byte ∷ []) value e = cc e
value_is (first ∷ second ∷ third ∷ rest) value e = cc e

pub is_value : (lexemes : List Lexeme) (value : List ℕ) → IsValue lexemes value → value_in lexemes ≡ Some value
is_value lexemes value (inl e) = ap value_in e
is_value lexemes value (inr (inl e)) = ap value_in e
is_value lexemes value (inr (inr (inl e))) = ap value_in e
is_value lexemes value (inr (inr (inr (inl e)))) = ap value_in e
is_value lexemes value (inr (inr (inr (inr (digits, e, v))))) = ap value_in e ∙ ap Some (sym v)

-- ---- several

pub values_are : (lexemes : List Lexeme) (text : List ℕ) → values_in lexemes ≡ Some text → AreValues lexemes text
unfolding values_in
values_are lexemes text =
    mapped joined (all_of value_in (slice_split is_comma lexemes)) text
    (λ values e same. (values, zip_of_all value_in IsValue value_is (slice_split is_comma lexemes) values e, sym same))

pub are_values : (lexemes : List Lexeme) (text : List ℕ) → AreValues lexemes text → values_in lexemes ≡ Some text
unfolding values_in
are_values lexemes text (values, zip, e) = ap (option_map joined) (all_of_zip value_in IsValue is_value (slice_split is_comma lexemes) values zip) ∙ ap Some (sym e)

-- ---- given to a setting

-- a statement that gives a setting what these lexemes say
pub record Gives (IsText : List Lexeme → List ℕ → Type 0) (name : List ℕ) (list : List Lexeme) (statement : Statement) : Type 0 where
  pub value : Option (List ℕ)
  pub given : IsGiven IsText list value
  pub is : Set name value ≡ statement

pub set_is : (IsText : List Lexeme → List ℕ → Type 0) (name : List ℕ) (list : List Lexeme) (read : Option (List ℕ)) (statement : Statement)
    → ((text : List ℕ) → read ≡ Some text → IsText list text) → set_to name list read ≡ Some statement → Gives IsText name list statement
set_is IsText name list read statement is = by_default (are_words (phrase "default") list) refl where
  by_default : (b : Bool) → are_words (phrase "default") list ≡ b → cond b (Some (Set name None)) (option_map (λ text. Set name (Some text)) read) ≡ Some statement → Gives IsText name list statement
  by_default true e h = record { value = None; given = words_are (phrase "default") list e; is = same_Some (Set name None) statement h }
  by_default false e h =
      mapped (λ text. Set name (Some text)) read statement
      (λ text r same. record {
        value = Some text;
        given = (is text r, λ same. true≢false (sym (are_those_words (phrase "default")) ∙ ap (are_words (phrase "default")) (sym same) ∙ e));
        is = same;
      })
      h

pub is_set : (IsText : List Lexeme → List ℕ → Type 0) (name : List ℕ) (list : List Lexeme) (read value : Option (List ℕ))
    → ((text : List ℕ) → IsText list text → read ≡ Some text) → IsGiven IsText list value → set_to name list read ≡ Some (Set name value)
is_set IsText name list read None is given =
    ap (λ b. cond b (Some (Set name None)) (option_map (λ text. Set name (Some text)) read)) (ap (are_words (phrase "default")) given ∙ are_those_words (phrase "default"))
is_set IsText name list read (Some text) is given =
    ap (λ b. cond b (Some (Set name None)) (option_map (λ text. Set name (Some text)) read)) (other_words (phrase "default") list given.1)
    ∙ ap (option_map (λ text. Set name (Some text))) (is text given.0)

-- ---- assignments

pub to_is : (lexeme : Lexeme) → is_to lexeme ≡ true → IsTo lexeme
to_is lexeme = by_word (is_word (codes "to") lexeme) refl where
  by_word : (b : Bool) → is_word (codes "to") lexeme ≡ b → (b || is_mark 61 lexeme) ≡ true → IsTo lexeme
  by_word true e h = inl (word_is (codes "to") lexeme e)
  by_word false e h = inr (mark_is 61 lexeme h)

pub is_that_to : (lexeme : Lexeme) → IsTo lexeme → is_to lexeme ≡ true
is_that_to lexeme (inl e) = ap is_to e
is_that_to lexeme (inr e) = ap is_to e

pub record Assigns (lexemes : List Lexeme) (statement : Statement) : Type 0 where
  pub name : List ℕ
  pub to : Lexeme
  pub list : List Lexeme
  pub is_to : IsTo to
  pub gives : Gives AreValues name list statement
  pub split : lexemes ≡ Word name ∷ to ∷ list

assigned_is : (name : List ℕ) (to : Lexeme) (list : List Lexeme) (statement : Statement) → assigned (Some name) (to ∷ list) ≡ Some statement → Assigns (Word name ∷ to ∷ list) statement
assigned_is name to list statement =
    tested (is_to to) (set_to name list (values_in list)) None statement
    (λ e h. record {
      name = name;
      to = to;
      list = list;
      is_to = to_is to e;
      gives = set_is AreValues name list (values_in list) statement (values_are list) h;
      split = refl;
    })
    (λ h. cc h)

pub assignment_is : (lexemes : List Lexeme) (statement : Statement) → assignment_in lexemes ≡ Some statement → Assigns lexemes statement
unfolding assignment_in
assignment_is [] statement e = cc e
assignment_is (Word name ∷ []) statement e = cc e
assignment_is (Word name ∷ to ∷ list) statement e = assigned_is name to list statement e
assignment_is (Digits digits ∷ rest) statement e = cc e
assignment_is (Quoted content ∷ rest) statement e = cc e
assignment_is (Mark byte ∷ rest) statement e = cc e

pub is_assignment : (name : List ℕ) (to : Lexeme) (list : List Lexeme) (value : Option (List ℕ)) → IsTo to → IsGiven AreValues list value → assignment_in (Word name ∷ to ∷ list) ≡ Some (Set name value)
unfolding assignment_in
is_assignment name to list value is given =
    ap (λ b. cond b (set_to name list (values_in list)) None) (is_that_to to is)
    ∙ is_set AreValues name list (values_in list) value (are_values list) given

-- ---- what is none

-- no value stands there
pub no_values : values_in [] ≡ None
unfolding values_in
no_values = refl

-- one that begins with another word for what stands before the values
pub no_assignment : (name : List ℕ) (to : Lexeme) (list : List Lexeme) → is_to to ≡ false → assignment_in (Word name ∷ to ∷ list) ≡ None
unfolding assignment_in
no_assignment name to list e = ap (λ b. cond b (set_to name list (values_in list)) None) e
