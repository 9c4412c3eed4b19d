-- How tables are held, one after the other.
use Rattle.std.{proofs.{Common.{◌≡◌, ℕ, Bool, true, false, cond, ◌||◌, T, List, [], ◌∷◌, ◌++◌, Option, Some, None, IsSome, is_some, fold, map, unwrap_or, String, refl, sym, ap, subst, ◌∙◌, Less, Global, append_assoc, length, arith}, lemmas.{Cmp.{eq_by_cmp_equiv, nat_list_cmp_total}, List.map-append, List.Sums.fold-append}}, specs.{Option.option_map, Ordering.nat_cmp, Cmp.Lexicographic.slice_cmp, String.{string_cmp, string_bytes}, FinMap.{get, empty, get_tied}, Map.{lookup, keys_of}, BTreeMap.{BTreeMap, get_by_text, is_at}, List.{AllByRecursion, list_any, Sorted.IsStrictlySortedBy}}}
use Rattle.pm_rows.specs.Fold.{RowMap}
use Rattle.pm_tables.{specs.{declared.{fate.Fate.Fate, held.{Touched.Touched}}, Tables.{TableMap, name_cmp}, Fates.{left_by, left_if, AreFates}, Held.{Given, given, befores, afters, before_of, after_of, place_of, IsReady, IsHeld}, Holding.{Holds, HoldsAll, planned}, Pending.Pending}, proofs.{ByItself.{same_name, get-with, tied}, Sums.same_tables, Givens.{is_given, get-alike, get-ungiven, get-givens, ungiven, ungiven_before, HasMore, ready-more, ready-push}}}

-- a touched table has one name
names-befores : (touched : List Touched) → keys_of (befores touched) ≡ map (λ one. string_bytes one.name) touched
names-befores [] = refl
names-befores (one ∷ touched) = ap (λ rest. string_bytes one.name ∷ rest) (names-befores touched)

names-afters : (touched : List Touched) → keys_of (afters touched) ≡ map (λ one. string_bytes one.name) touched
names-afters [] = refl
names-afters (one ∷ touched) = ap (λ rest. string_bytes one.name ∷ rest) (names-afters touched)

same_names : (touched : List Touched) → keys_of (befores touched) ≡ keys_of (afters touched)
same_names touched = names-befores touched ∙ sym (names-afters touched)

same_given : (q : List ℕ) (ones others : List Given) → keys_of ones ≡ keys_of others → is_given q others ≡ false → is_given q ones ≡ false
same_given q ones others same h = ap (λ (names : List (List ℕ)). list_any (same_name q) names) same ∙ h

-- ---- one table more

-- the place of a table with these rows before and after
abbrev place_in : Option RowMap → Option RowMap → Option RowMap
place_in w x = cond (is_some w || is_some x) (Some empty) None

place : (w x : Option RowMap) → IsSome w → IsSome (place_in w x)
place (Some rows) x some = refl
place None x some = absurd (subst T (sym some) tt)

placed : (w x : Option RowMap) → IsSome x → IsSome (place_in w x)
placed (Some rows) x some = refl
placed None (Some rows) some = refl
placed None None some = some

cases : {P : Type 0} (b : Bool) → (b ≡ true → P) → (b ≡ false → P) → P
cases true if_so if_not = if_so refl
cases false if_so if_not = if_not refl

module _ (before now next : TableMap) (touched : List Touched) (one : Touched) (fate : Fate) where
  abbrev name : List ℕ
  name = string_bytes one.name

  module _ (h : Holds before now touched) (is : IsHeld now name fate next one.held) (fresh : is_given name (afters touched) ≡ false) where
    fresh_before : is_given name (befores touched) ≡ false
    fresh_before = same_given name (befores touched) (afters touched) (same_names touched) fresh

    -- a table that isn't touched yet is as it was
    pub untouched : get now name ≡ get before name
    untouched = sym (get-ungiven now (befores touched) name fresh_before) ∙ ap (λ m. get m name) h.back

    get-next : (q : List ℕ) → get next q ≡ cond (same_name q name) (place_of one.held) (get now q)
    get-next q = ap (λ m. get m q) is.now_is ∙ get-with now name (place_of one.held) q

    itself : same_name name name ≡ true
    itself = (eq_by_cmp_equiv nat_list_cmp_total).refl name

    here : get next name ≡ place_of one.held
    here = get-next name ∙ ap (λ b. cond b (place_of one.held) (get now name)) itself

    has_more : HasMore now next
    has_more q some = cases (same_name q name)
        (λ same.
        let there : get now q ≡ before_of one.held = sym (get_tied nat_list_cmp_total now q name (tied q name (subst T (sym same) tt))) ∙ sym is.before_is in
        subst IsSome (sym (get-next q ∙ ap (λ b. cond b (place_of one.held) (get now q)) same)) (place (before_of one.held) (after_of one.held) (subst IsSome there some)))
        (λ apart. subst IsSome (sym (get-next q ∙ ap (λ b. cond b (place_of one.held) (get now q)) apart)) some)

    either : (w : Option RowMap) (ones : List Given) → is_given name ones ≡ false → (IsSome w → IsSome (place_of one.held)) → IsSome w → IsSome (get (fold given next ones) name)
    either w ones none has some = subst IsSome (sym (get-ungiven next ones name none ∙ here)) (has some)

    pub ready_after : IsReady now (afters touched) → IsReady next (afters (touched ++ one ∷ []))
    ready_after ready = subst (IsReady next) (sym (map-append (λ (t : Touched). (string_bytes t.name, after_of t.held)) touched (one ∷ [])))
        (ready-push next (afters touched) (name, after_of one.held) (ready-more now next (afters touched) has_more ready)
        (either (after_of one.held) (afters touched) fresh (λ some. placed (before_of one.held) (after_of one.held) some)))

    back_at : (q : List ℕ) → get (fold given next (befores touched ++ (name, before_of one.held) ∷ [])) q ≡ get before q
    back_at q =
        ap (λ m. get m q) (fold-append given next (befores touched) ((name, before_of one.held) ∷ []))
        ∙ get-with (fold given next (befores touched)) name (before_of one.held) q
        ∙ cases (same_name q name)
        (λ same. ap (λ b. cond b (before_of one.held) (get (fold given next (befores touched)) q)) same
        ∙ is.before_is ∙ untouched ∙ get_tied nat_list_cmp_total before q name (tied q name (subst T (sym same) tt)))
        (λ apart. ap (λ b. cond b (before_of one.held) (get (fold given next (befores touched)) q)) apart
        ∙ get-alike next now (befores touched) q (get-next q ∙ ap (λ b. cond b (place_of one.held) (get now q)) apart)
        ∙ ap (λ m. get m q) h.back)

    pub holds_more : Holds before next (touched ++ one ∷ [])
    holds_more =
        let split = map-append (λ (t : Touched). (string_bytes t.name, before_of t.held)) touched (one ∷ []) in record {
          ready = subst (IsReady next) (sym split)
              (ready-push next (befores touched) (name, before_of one.held) (ready-more now next (befores touched) has_more h.ready)
              (either (before_of one.held) (befores touched) fresh_before (place (before_of one.held) (after_of one.held))));
          back = ap (λ ones. fold given next ones) split ∙ same_tables _ _ back_at;
        }

-- ---- all tables

planned_one : (b : Bool) (x y : Option RowMap) (fate : Fate) (rest : Option Fate) → (T b → x ≡ y) → cond b (Some (left_by fate x)) (option_map (λ f. left_by f y) rest) ≡ option_map (λ f. left_by f y) (cond b (Some fate) rest)
planned_one true x y fate rest same = ap (λ t. Some (left_by fate t)) (same tt)
planned_one false x y fate rest same = refl

left_over : (fate : Option Fate) (now before : Option RowMap) → (fate ≡ None → now ≡ before) → unwrap_or (option_map (λ f. left_by f before) fate) now ≡ left_if fate before
left_over None now before same = same refl
left_over (Some fate) now before same = refl

module _ {Z : Type 0} where
  below_planned : (before : TableMap) (k : String Z) (es : List (String Z × Fate)) → AllByRecursion (λ y. string_cmp k y ≡ Less) (keys_of es) → AllByRecursion (λ y. name_cmp (string_bytes k) y ≡ Less) (keys_of (planned before es))
  below_planned before k [] h = tt
  below_planned before k (e ∷ es) h = (h.0, below_planned before k es h.1)

  -- the names of what is planned rise
  pub planned_rises : (before : TableMap) (es : List (String Z × Fate)) → IsStrictlySortedBy string_cmp (keys_of es) → IsStrictlySortedBy name_cmp (keys_of (planned before es))
  unfolding IsStrictlySortedBy
  planned_rises before [] h = tt
  planned_rises before (e ∷ es) h = (below_planned before e.0 es h.0, planned_rises before es h.1)

  lookup-planned : (before : TableMap) (q : List ℕ) (es : List (String Z × Fate))
      → lookup (same_name q) (planned before es) ≡ option_map (λ fate. left_by fate (get before q)) (lookup (is_at (λ k. slice_cmp nat_cmp q (string_bytes k))) es)
  lookup-planned before q [] = refl
  lookup-planned before q (e ∷ es) =
      ap (cond (same_name q (string_bytes e.0)) (Some (left_by e.1 (get before (string_bytes e.0))))) (lookup-planned before q es)
      ∙ planned_one (same_name q (string_bytes e.0)) (get before (string_bytes e.0)) (get before q) e.1 (lookup (is_at (λ k. slice_cmp nat_cmp q (string_bytes k))) es)
      (λ t. get_tied nat_list_cmp_total before q (string_bytes e.0) (tied q (string_bytes e.0) t))

  -- what the fates leave, put to the names, makes the tables after them
  pub held_all : (before after now : TableMap) (fates : BTreeMap (String Z) Fate) (touched : List Touched)
      → AreFates before after fates → Holds before now touched → HoldsAll before fates.entries now touched → fold given now (afters touched) ≡ after
  held_all before after now fates touched are held all =
      let rise = planned_rises before fates.entries are.ordered in
      same_tables _ _ (λ q.
      get-givens now (afters touched) q (subst (λ ones. IsStrictlySortedBy name_cmp (keys_of ones)) (sym all.all) rise)
      ∙ ap (λ ones. unwrap_or (lookup (same_name q) ones) (get now q)) all.all
      ∙ ap (λ o. unwrap_or o (get now q)) (lookup-planned before q fates.entries)
      ∙ left_over (get_by_text fates q) (get now q) (get before q) (λ none.
      let gone : lookup (same_name q) (afters touched) ≡ None = ap (lookup (same_name q)) all.all ∙ lookup-planned before q fates.entries ∙ ap (option_map (λ fate. left_by fate (get before q))) none in
      sym (get-ungiven now (befores touched) q (same_given q (befores touched) (afters touched) (same_names touched) (ungiven q (afters touched) gone)))
      ∙ ap (λ m. get m q) held.back)
      ∙ sym (are.left q))

-- ---- the loops

-- the tables so far are held, and what is planned for the others is left
pub record GoesOn (before now : TableMap) (touched : List Touched) (rest fates : List (String Global × Fate)) : Type 0 where
  pub held : Holds before now touched
  pub ready : IsReady now (afters touched)
  pub all : afters touched ++ planned before rest ≡ planned before fates

pub more_held : (before now next : TableMap) (touched : List Touched) (one : Touched) (fate : Fate) (left rest fates : List (String Global × Fate)) → IsStrictlySortedBy string_cmp (keys_of fates) → left ≡ (one.name, fate) ∷ rest
    → IsHeld now (string_bytes one.name) fate next one.held → Holds before now touched → IsReady now (afters touched) → afters touched ++ planned before left ≡ planned before fates → GoesOn before next (touched ++ one ∷ []) rest fates
more_held before now next touched one fate left rest fates rise goes is h ready all =
    let here : List ℕ = string_bytes one.name in
    let planned_here : Option RowMap = left_by fate (get before here) in
    let then : afters touched ++ (here, planned_here) ∷ planned before rest ≡ planned before fates = ap (λ ones. afters touched ++ planned before ones) (sym goes) ∙ all in
    let fresh : is_given here (afters touched) ≡ false = ungiven_before here planned_here (afters touched) (planned before rest) (subst (λ ones. IsStrictlySortedBy name_cmp (keys_of ones)) (sym then) (planned_rises before fates rise)) in record {
      held = holds_more before now next touched one fate h is fresh;
      ready = ready_after before now next touched one fate h is fresh ready;
      all =
          ap (λ ones. ones ++ planned before rest) (map-append (λ (t : Touched). (string_bytes t.name, after_of t.held)) touched (one ∷ []))
          ∙ append_assoc (afters touched) ((here, after_of one.held) ∷ []) (planned before rest)
          ∙ ap (λ t. afters touched ++ (here, t) ∷ planned before rest) (is.after_is ∙ ap (left_by fate) (untouched before now next touched one fate h is fresh))
          ∙ then;
    }

-- nothing is left of a list of no length
pub none_left : (touched : List Touched) → length touched ≡ 0 → touched ≡ []
none_left [] h = refl
none_left (one ∷ touched) h = absurd (omega arith)

-- a pending commit is told by the tables without it and with it
abbrev pub parted : TableMap → TableMap → Pending
parted before after = record { before = before; after = after }

pub same_pending : {before other after next : TableMap} → before ≡ other → after ≡ next → parted before after ≡ parted other next
same_pending {before} {other} {after} same then = ap (λ b. parted b after) same ∙ ap (parted other) then
