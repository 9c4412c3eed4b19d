-- What one change more makes of fates.
use Rattle.std.{proofs.{Common.{◌≡◌, ℕ, ℤ, Bool, true, false, cond, T, List, [], ◌∷◌, ◌++◌, Option, Some, None, IsSome, String, refl, sym, ap, subst, ◌∙◌}, lemmas.{Cmp.{eq_by_cmp_equiv, nat_list_cmp_total}, Map.Text.{btree_map_updates_text, is_eq-slice_cmp, text_cmp}}}, specs.{String.{string_cmp, string_bytes}, Str.bytes_eq, FinMap.{get, empty, get_tied}, Map.lookup, BTreeMap.{BTreeMap, IsOrdered, UpdatesBy, get_by_text, is_at}, Ordering.nat_cmp, Cmp.Lexicographic.slice_cmp}}
use Rattle.pm_rows.{specs.{declared.commit.Change.{Change as RowChange}, Fold.{RowMap, changed as rows_changed}}, proofs.RowLaws.committed-push}
use Rattle.pm_rows.specs.declared.commit.Change.TheVariants as row
use Rattle.pm_tables.{specs.{declared.{change.TableChange.{TableChange, TheVariants.{Put, Del, Create, Drop}}, fate.Fate.{Fate, TheVariants.{Changed, Made, Gone}}}, Tables.{TableMap, name_of, left_of, changed}, Fates.{left_by, Fits, IsFirst, NotesChange, with_change, left_if, FitsIf, AreFates}}, proofs.ByItself.{same_name, get-changed, tied}}

-- ---- one fate

-- a table that is there stays as it is
pub first_changed : (table : Option RowMap) → IsSome table → IsFirst table (Changed [])
first_changed None some = absurd (subst T (sym some) tt)
first_changed (Some rows) some = record { fits = some; left = refl }

pub first_gone : (table : Option RowMap) → table ≡ None → IsFirst table Gone
first_gone table none = record { fits = tt; left = sym none }

changed_left : (changes : List RowChange) (change : TableChange) (of_rows : RowChange) → ((rows : RowMap) → Some (rows_changed rows of_rows) ≡ left_of (Some rows) change) → None ≡ left_of None change
    → (table : Option RowMap) → left_by (Changed (changes ++ of_rows ∷ [])) table ≡ left_of (left_by (Changed changes) table) change
changed_left changes change of_rows some none None = none
changed_left changes change of_rows some none (Some rows) = ap Some (committed-push rows changes of_rows) ∙ some _

-- a change of the rows, at a table with rows and without
row_change : (fate : Fate) (change : TableChange) (of_rows : RowChange) → ((rows : RowMap) → Some (rows_changed rows of_rows) ≡ left_of (Some rows) change) → None ≡ left_of None change
    → NotesChange fate change (with_change fate of_rows)
row_change (Changed changes) change of_rows some none = record { fits = λ table fits. fits; left = λ table fits. changed_left changes change of_rows some none table }
row_change (Made changes) change of_rows some none = record { fits = λ table fits. tt; left = λ table fits. ap Some (committed-push empty changes of_rows) ∙ some _ }
row_change Gone change of_rows some none = record { fits = λ table fits. tt; left = λ table fits. none }

pub notes_put : (fate : Fate) (table : List ℕ) (key : ℤ) (value : List ℕ) → NotesChange fate (Put table key value) (with_change fate (row.Put key value))
notes_put fate table key value = row_change fate (Put table key value) (row.Put key value) (λ rows. refl) refl

pub notes_del : (fate : Fate) (table : List ℕ) (key : ℤ) → NotesChange fate (Del table key) (with_change fate (row.Del key))
notes_del fate table key = row_change fate (Del table key) (row.Del key) (λ rows. refl) refl

-- a table that is there isn't made again
pub stays_changed : (changes : List RowChange) (name : List ℕ) → NotesChange (Changed changes) (Create name) (Changed changes)
stays_changed changes name = record {
  fits = λ table fits. fits;
  left = λ table fits. there table fits;
} where
  there : (table : Option RowMap) → IsSome table → left_by (Changed changes) table ≡ left_of (left_by (Changed changes) table) (Create name)
  there None some = absurd (subst T (sym some) tt)
  there (Some rows) some = refl

pub stays_made : (changes : List RowChange) (name : List ℕ) → NotesChange (Made changes) (Create name) (Made changes)
stays_made changes name = record { fits = λ table fits. tt; left = λ table fits. refl }

pub made : (name : List ℕ) → NotesChange Gone (Create name) (Made [])
made name = record { fits = λ table fits. tt; left = λ table fits. refl }

pub dropped : (fate : Fate) (name : List ℕ) → NotesChange fate (Drop name) Gone
dropped fate name = record { fits = λ table fits. tt; left = λ table fits. none (left_by fate table) } where
  none : (table : Option RowMap) → None ≡ left_of table (Drop name)
  none None = refl
  none (Some rows) = refl

-- ---- all fates

module _ {Z : Type 0} where
  -- no table has a fate yet
  pub no_fates : (before : TableMap) (fates : BTreeMap (String Z) Fate) → IsOrdered string_cmp fates → fates.entries ≡ [] → AreFates before before fates
  no_fates before fates ordered none = record {
    ordered = ordered;
    fit = λ name. subst (λ fate. FitsIf fate (get before name)) (sym (nothing name)) tt;
    left = λ name. sym (ap (λ fate. left_if fate (get before name)) (nothing name));
  } where
    nothing : (name : List ℕ) → get_by_text fates name ≡ None
    nothing name = ap (lookup (is_at (text_cmp name))) none

  module _ (before after : TableMap) (old new : BTreeMap (String Z) Fate) (change : TableChange) (earlier later : Fate) where
    abbrev name : List ℕ
    name = name_of change

    module _ (are : AreFates before after old) (ordered : IsOrdered string_cmp new) (fits : Fits earlier (get before name)) (was : left_by earlier (get before name) ≡ get after name) (notes : NotesChange earlier change later)
        (now : (q : List ℕ) → get_by_text new q ≡ cond (bytes_eq name q) (Some later) (get_by_text old q)) where
      same_test : (q : List ℕ) → bytes_eq name q ≡ same_name q name
      same_test q = sym (is_eq-slice_cmp name q) ∙ (eq_by_cmp_equiv nat_list_cmp_total).symm name q

      now_at : (q : List ℕ) (b : Bool) → same_name q name ≡ b → get_by_text new q ≡ cond b (Some later) (get_by_text old q)
      now_at q b is = now q ∙ ap (λ t. cond t (Some later) (get_by_text old q)) (same_test q ∙ is)

      same_table : (tables : TableMap) (q : List ℕ) → same_name q name ≡ true → get tables name ≡ get tables q
      same_table tables q is = get_tied nat_list_cmp_total tables q name (tied q name (subst T (sym is) tt))

      fit_at : (q : List ℕ) (b : Bool) → same_name q name ≡ b → FitsIf (get_by_text new q) (get before q)
      fit_at q true is = subst (λ fate. FitsIf fate (get before q)) (sym (now_at q true is)) (subst (Fits later) (same_table before q is) (notes.fits (get before name) fits))
      fit_at q false is = subst (λ fate. FitsIf fate (get before q)) (sym (now_at q false is)) (are.fit q)

      left_at : (q : List ℕ) (b : Bool) → same_name q name ≡ b → get (changed after change) q ≡ left_if (get_by_text new q) (get before q)
      left_at q true is =
          get-changed after change q ∙ ap (λ t. cond t (left_of (get after q) change) (get after q)) is
          ∙ ap (λ t. left_of t change) (sym (same_table after q is) ∙ sym was) ∙ sym (notes.left (get before name) fits) ∙ ap (left_by later) (same_table before q is)
          ∙ sym (ap (λ fate. left_if fate (get before q)) (now_at q true is))
      left_at q false is =
          get-changed after change q ∙ ap (λ t. cond t (left_of (get after q) change) (get after q)) is
          ∙ are.left q ∙ sym (ap (λ fate. left_if fate (get before q)) (now_at q false is))

      -- one change more, noted at its table
      pub fates_noted : AreFates before (changed after change) new
      fates_noted = record { ordered = ordered; fit = λ q. fit_at q (same_name q name) refl; left = λ q. left_at q (same_name q name) refl }

  -- the new fates have this one at the name, and at the others those of the old
  abbrev pub Updates : List ℕ → BTreeMap (String Z) Fate → BTreeMap (String Z) Fate → Fate → Type 0
  Updates name old new later = UpdatesBy string_cmp (λ k. slice_cmp nat_cmp name (string_bytes k)) old new (Some later)

  module _ (before after : TableMap) (old new : BTreeMap (String Z) Fate) (change : TableChange) (earlier later : Fate) (bytes : List ℕ) (is : bytes ≡ name_of change) (ordered : IsOrdered string_cmp new) (updates : Updates bytes old new later)
      (notes : NotesChange earlier change later) (are : AreFates before after old) where
    now_has : (q : List ℕ) → get_by_text new q ≡ cond (bytes_eq (name_of change) q) (Some later) (get_by_text old q)
    now_has q = btree_map_updates_text (name_of change) old new (Some later) (subst (λ n. Updates n old new later) is updates) q

    -- a table that had a fate
    pub noted_there : Some earlier ≡ get_by_text old bytes → AreFates before (changed after change) new
    noted_there some =
        let found : get_by_text old (name_of change) ≡ Some earlier = sym (some ∙ ap (get_by_text old) is) in
        fates_noted before after old new change earlier later are ordered
        (subst (λ fate. FitsIf fate (get before (name_of change))) found (are.fit (name_of change)))
        (sym (are.left (name_of change) ∙ ap (λ fate. left_if fate (get before (name_of change))) found))
        notes now_has

    -- a table that had none
    pub noted_first : get_by_text old bytes ≡ None → IsFirst (get before bytes) earlier → AreFates before (changed after change) new
    noted_first none first =
        let lacks : get_by_text old (name_of change) ≡ None = sym (ap (get_by_text old) is) ∙ none in
        fates_noted before after old new change earlier later are ordered
        (subst (λ n. Fits earlier (get before n)) is first.fits)
        (subst (λ n. left_by earlier (get before n) ≡ get before n) is first.left ∙ sym (are.left (name_of change) ∙ ap (λ fate. left_if fate (get before (name_of change))) lacks))
        notes now_has
