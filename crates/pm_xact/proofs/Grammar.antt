-- What the grammar has is read from tokens, and nothing else.
use Rattle.std.{proofs.{Common.{◌≡◌, ℕ, zero, suc, ◌<◌, ◌≤◌, ◌⊎◌, inl, inr, Bool, true, false, cond, ◌==◌, List, [], ◌∷◌, ◌++◌, length, fold, Option, Some, None, unwrap_or, bytes_eq, codes, refl, sym, ap, ◌∙◌, subst, append_assoc, length-append, eqb-true, arith}, lemmas.{Bool.and_parts, Slice.Eq.bytes_eq-Decides}}, specs.Option.option_map}
use Rattle.pm_sql.specs.{Token.{Token, Word, Digits, Quoted, Mark}, Statements.{AreSemicolons, word, mark}}
use Rattle.pm_xact.specs.{declared.{access.Access.{Access, TheVariants.{ReadWrite, ReadOnly}}, asked.Asked.{Asked, TheVariants.{Script, Begin, Commit, Rollback}}}, Control.{IsLevel, IsOtherMode, IsMode, MayBeComma, AreMoreModes, AreModes, access_of, IsNoise, IsOpening, IsControl, AreControl}, Reading.{after_word, after_comma, is_semicolon, after_semicolons, is_end, or_else, after_either, after_level, after_other_mode, access_at, mode_at, access_within, access_after, access_in, after_noise, after_opening, if_alone, control_of}}

-- ---- what was found

-- a word that was found stands in front
taken : (word : List ℕ) (tokens rest : List Token) → after_word word tokens ≡ Some rest → tokens ≡ Word word ∷ rest
taken word [] rest e = cc e
taken word (Word letters ∷ tokens) rest e =
    elim (bytes_eq letters word) as (λ t. bytes_eq letters word ≡ t → cond t (Some tokens) None ≡ Some rest → Word letters ∷ tokens ≡ Word word ∷ rest) [
      | true ↦ λ is e. let same : letters ≡ word = (bytes_eq-Decides letters word).0 is in cc e
      | false ↦ λ is e. cc e
    ] refl e
taken word (Digits digits ∷ tokens) rest e = cc e
taken word (Quoted content ∷ tokens) rest e = cc e
taken word (Mark byte ∷ tokens) rest e = cc e

-- something was found and read on, or else the others were read
parted : {A B : Type 0} (found : Option A) (read : A → Option B) (others : Option B) (x : B) → or_else found read others ≡ Some x → ((y : A) × (found ≡ Some y) × (read y ≡ Some x)) ⊎ (others ≡ Some x)
parted None read others x e = inr e
parted (Some y) read others x e = inl (y, refl, e)

mapped : {A B : Type 0} (f : A → B) (found : Option A) (x : B) → option_map f found ≡ Some x → (y : A) × (found ≡ Some y) × (f y ≡ x)
mapped f None x e = cc e
mapped f (Some y) x e = (y, refl, cc e)

either_taken : (first second : List ℕ) (tokens rest : List Token) → after_either first second tokens ≡ Some rest → (tokens ≡ Word first ∷ rest) ⊎ (tokens ≡ Word second ∷ rest)
either_taken first second tokens rest e = elim (parted (after_word first tokens) Some (after_word second tokens) rest e) [
  | inl (y, found, same) ↦ inl (taken first tokens rest (found ∙ same))
  | inr found ↦ inr (taken second tokens rest found)
]

-- ---- what is read the grammar has

abbrev committed_level : List Token → Option (List Token)
committed_level tokens = or_else (after_word (codes "read") tokens) (after_either (codes "committed") (codes "uncommitted")) None

abbrev weaker_level : List Token → Option (List Token)
weaker_level tokens = or_else (after_word (codes "repeatable") tokens) (after_word (codes "read")) (committed_level tokens)

-- some tokens that are so, and then these
abbrev Before : (List Token → Type 0) → List Token → List Token → Type 0
Before Is tokens rest = (first : List Token) × Is first × (tokens ≡ first ++ rest)

committed_out : (tokens rest : List Token) → committed_level tokens ≡ Some rest → Before IsLevel tokens rest
committed_out tokens rest e = elim (parted (after_word (codes "read") tokens) (after_either (codes "committed") (codes "uncommitted")) None rest e) [
  | inl (y, found, more) ↦ elim (either_taken (codes "committed") (codes "uncommitted") y rest more) [
    | inl same ↦ (word "read" ∷ word "committed" ∷ [], inr (inr (inl refl)), taken (codes "read") tokens y found ∙ ap (λ t. word "read" ∷ t) same)
    | inr same ↦ (word "read" ∷ word "uncommitted" ∷ [], inr (inr (inr refl)), taken (codes "read") tokens y found ∙ ap (λ t. word "read" ∷ t) same)
  ]
  | inr none ↦ cc none
]

weaker_out : (tokens rest : List Token) → weaker_level tokens ≡ Some rest → Before IsLevel tokens rest
weaker_out tokens rest e = elim (parted (after_word (codes "repeatable") tokens) (after_word (codes "read")) (committed_level tokens) rest e) [
  | inl (y, found, more) ↦ (word "repeatable" ∷ word "read" ∷ [], inr (inl refl), taken (codes "repeatable") tokens y found ∙ ap (λ t. word "repeatable" ∷ t) (taken (codes "read") y rest more))
  | inr others ↦ committed_out tokens rest others
]

level_out : (tokens rest : List Token) → after_level tokens ≡ Some rest → Before IsLevel tokens rest
unfolding after_level
level_out tokens rest e = elim (parted (after_word (codes "serializable") tokens) Some (weaker_level tokens) rest e) [
  | inl (y, found, same) ↦ (word "serializable" ∷ [], inl refl, taken (codes "serializable") tokens rest (found ∙ same))
  | inr others ↦ weaker_out tokens rest others
]

abbrev deferrable_mode : List Token → Option (List Token)
deferrable_mode tokens = or_else (after_word (codes "not") tokens) (after_word (codes "deferrable")) (after_word (codes "deferrable") tokens)

abbrev level_mode : List Token → Option (List Token)
level_mode tokens = or_else (after_word (codes "level") tokens) after_level None

deferrable_out : (tokens rest : List Token) → deferrable_mode tokens ≡ Some rest → Before IsOtherMode tokens rest
deferrable_out tokens rest e = elim (parted (after_word (codes "not") tokens) (after_word (codes "deferrable")) (after_word (codes "deferrable") tokens) rest e) [
  | inl (y, found, more) ↦ (word "not" ∷ word "deferrable" ∷ [], inr (inr refl), taken (codes "not") tokens y found ∙ ap (λ t. word "not" ∷ t) (taken (codes "deferrable") y rest more))
  | inr found ↦ (word "deferrable" ∷ [], inr (inl refl), taken (codes "deferrable") tokens rest found)
]

isolation_out : (tokens y rest : List Token) → tokens ≡ word "isolation" ∷ y → level_mode y ≡ Some rest → Before IsOtherMode tokens rest
isolation_out tokens y rest e more = elim (parted (after_word (codes "level") y) after_level None rest more) [
  | inl (z, found, last) ↦
      let (level, is, same) = level_out z rest last in
      (word "isolation" ∷ word "level" ∷ level, inl (level, is, refl), e ∙ ap (λ t. word "isolation" ∷ t) (taken (codes "level") y z found ∙ ap (λ t. word "level" ∷ t) same))
  | inr none ↦ cc none
]

other_mode_out : (tokens rest : List Token) → after_other_mode tokens ≡ Some rest → Before IsOtherMode tokens rest
unfolding after_other_mode
other_mode_out tokens rest e = elim (parted (after_word (codes "isolation") tokens) level_mode (deferrable_mode tokens) rest e) [
  | inl (y, found, more) ↦ isolation_out tokens y rest (taken (codes "isolation") tokens y found) more
  | inr others ↦ deferrable_out tokens rest others
]

-- a mode, and what stands after it
abbrev IsModeFound : List Token → Option Access × List Token → Type 0
IsModeFound tokens found = Before (λ mode. IsMode mode found.0) tokens found.1

access_out : (tokens rest : List Token) (found : Option Access × List Token) → tokens ≡ word "read" ∷ rest → access_at rest ≡ Some found → IsModeFound tokens found
unfolding access_at
access_out tokens rest found e at = elim (parted (after_word (codes "write") rest) (λ y. Some (Some ReadWrite, y)) (option_map (λ y. (Some ReadOnly, y)) (after_word (codes "only") rest)) found at) [
  | inl (y, is, same) ↦ let own : (Some ReadWrite, y) ≡ found = cc same in subst (IsModeFound tokens) own (word "read" ∷ word "write" ∷ [], refl, e ∙ ap (λ t. word "read" ∷ t) (taken (codes "write") rest y is))
  | inr others ↦
      let (y, is, same) = mapped (λ (y : List Token). (Some ReadOnly, y)) (after_word (codes "only") rest) found others in
      subst (IsModeFound tokens) same (word "read" ∷ word "only" ∷ [], refl, e ∙ ap (λ t. word "read" ∷ t) (taken (codes "only") rest y is))
]

mode_out : (tokens : List Token) (found : Option Access × List Token) → mode_at tokens ≡ Some found → IsModeFound tokens found
unfolding mode_at
mode_out tokens found e = elim (parted (after_word (codes "read") tokens) access_at (option_map (λ rest. (None, rest)) (after_other_mode tokens)) found e) [
  | inl (y, is, at) ↦ access_out tokens y found (taken (codes "read") tokens y is) at
  | inr others ↦
      let (y, is, same) = mapped {A = List Token} {B = Option Access × List Token} (λ y. (None, y)) (after_other_mode tokens) found others in
      subst (IsModeFound tokens) same (other_mode_out tokens y is)
]

comma_out : (tokens : List Token) → Before MayBeComma tokens (after_comma tokens)
comma_out [] = ([], inl refl, refl)
comma_out (Word letters ∷ tokens) = ([], inl refl, refl)
comma_out (Digits digits ∷ tokens) = ([], inl refl, refl)
comma_out (Quoted content ∷ tokens) = ([], inl refl, refl)
comma_out (Mark byte ∷ tokens) =
    elim (byte == 44) as (λ t. byte == 44 ≡ t → Before MayBeComma (Mark byte ∷ tokens) (cond t tokens (Mark byte ∷ tokens))) [
      | true ↦ λ e. let same : byte ≡ 44 = eqb-true byte 44 e in (mark "," ∷ [], inr refl, ap (λ b. Mark b ∷ tokens) same)
      | false ↦ λ e. ([], inl refl, refl)
    ] refl

semicolon_of : (token : Token) → is_semicolon token ≡ true → token ≡ mark ";"
semicolon_of (Word letters) e = cc e
semicolon_of (Digits digits) e = cc e
semicolon_of (Quoted content) e = cc e
semicolon_of (Mark byte) e = ap Mark (eqb-true byte 59 e)

end_out : (tokens : List Token) → is_end tokens ≡ true → AreSemicolons tokens
end_out [] e = tt
end_out (token ∷ tokens) e = let both = and_parts (is_semicolon token) (is_end tokens) e in (semicolon_of token both.0, end_out tokens both.1)

semicolons_out : (tokens : List Token) → Before AreSemicolons tokens (after_semicolons tokens)
semicolons_out [] = ([], tt, refl)
semicolons_out (token ∷ tokens) =
    elim (is_semicolon token) as (λ t. is_semicolon token ≡ t → Before AreSemicolons (token ∷ tokens) (cond t (after_semicolons tokens) (token ∷ tokens))) [
      | true ↦ λ e. let (before, are, same) = semicolons_out tokens in (token ∷ before, (semicolon_of token e, are), ap (λ t. token ∷ t) same)
      | false ↦ λ e. ([], tt, refl)
    ] refl

-- a mode is no empty list
mode_takes : (mode : List Token) (named : Option Access) → IsMode mode named → 0 < length mode
mode_takes mode (Some ReadWrite) e = omega (arith, ap length e)
mode_takes mode (Some ReadOnly) e = omega (arith, ap length e)
mode_takes mode None (inl (level, is, e)) = omega (arith, ap length e)
mode_takes mode None (inr (inl e)) = omega (arith, ap length e)
mode_takes mode None (inr (inr e)) = omega (arith, ap length e)

pub mode_shorter : (tokens : List Token) (found : Option Access × List Token) → mode_at (after_comma tokens) ≡ Some found → length found.1 < length tokens
mode_shorter tokens found e =
    let (comma, may, all) = comma_out tokens in
    let (mode, is, own) = mode_out (after_comma tokens) found e in
    let some = mode_takes mode found.0 is in
    let whole = ap length all ∙ length-append comma (after_comma tokens) in
    let parts = ap length own ∙ length-append mode found.1 in
    omega (arith, some, whole, parts)

-- what a mode does to the access
abbrev pub next_access : Access → Option Access → Access
next_access access one = unwrap_or one access

-- modes to the end, which leave this access where another stood before
abbrev MoreTo : Access → Access → List Token → Type 0
MoreTo access after tokens = (modes closing : List Token) × (named : List (Option Access)) × AreMoreModes modes named × AreSemicolons closing × (after ≡ fold next_access access named) × (tokens ≡ modes ++ closing)

more_out : (steps : ℕ) (access after : Access) (tokens : List Token) → length tokens ≤ steps → access_within steps access tokens ≡ Some after → MoreTo access after tokens
unfolding access_within
more_out zero access after [] few e = ([], [], [], refl, tt, cc e, refl)
more_out zero access after (token ∷ tokens) few e = absurd (omega arith)
more_out (suc steps) access after tokens few e = by_end (is_end tokens) refl e (λ before rest fewer read. more_out steps before after rest fewer read) where
  Others : Type 0
  Others = (before : Access) (rest : List Token) → length rest ≤ steps → access_within steps before rest ≡ Some after → MoreTo before after rest

  Reads : Bool → Type 0
  Reads t = cond t (Some access) (or_else (mode_at (after_comma tokens)) (λ found. access_within steps (unwrap_or found.0 access) found.1) None) ≡ Some after

  by_end : (t : Bool) → is_end tokens ≡ t → Reads t → Others → MoreTo access after tokens
  by_end true is e others = ([], tokens, [], refl, end_out tokens is, cc e, refl)
  by_end false is e others = elim (parted (mode_at (after_comma tokens)) (λ found. access_within steps (unwrap_or found.0 access) found.1) None after e) [
    | inl (found, at, rest) ↦
        let less = mode_shorter tokens found at in
        let (comma, may, all) = comma_out tokens in
        let (mode, mode_is, own) = mode_out (after_comma tokens) found at in
        let (modes, closing, named, are, ends, same, left) = others (unwrap_or found.0 access) found.1 (omega (arith, less, few)) rest in (
          comma ++ mode ++ modes,
          closing,
          found.0 ∷ named,
          (comma, mode, modes, may, mode_is, are, refl),
          ends,
          same,
          all ∙ ap (λ t. comma ++ t) (own ∙ ap (λ t. mode ++ t) left) ∙ sym (simp append_assoc refl),
        )
    | inr none ↦ cc none
  ]

-- modes to the end, with the access of a block
abbrev ModesTo : Access → List Token → Type 0
ModesTo access tokens = (modes closing : List Token) × (named : List (Option Access)) × AreModes modes named × AreSemicolons closing × (access ≡ access_of named) × (tokens ≡ modes ++ closing)

modes_out : (tokens : List Token) (access : Access) → access_in tokens ≡ Some access → ModesTo access tokens
unfolding access_in access_after
modes_out tokens access e = by_end (is_end tokens) refl e where
  Reads : Bool → Type 0
  Reads t = cond t (Some ReadWrite) (or_else (mode_at tokens) (λ found. access_within (length found.1) (unwrap_or found.0 ReadWrite) found.1) None) ≡ Some access

  by_end : (t : Bool) → is_end tokens ≡ t → Reads t → ModesTo access tokens
  by_end true is e = ([], tokens, [], refl, end_out tokens is, cc e, refl)
  by_end false is e = elim (parted (mode_at tokens) (λ found. access_within (length found.1) (unwrap_or found.0 ReadWrite) found.1) None access e) [
    | inl (found, at, rest) ↦
        let (mode, mode_is, own) = mode_out tokens found at in
        let (modes, closing, named, are, ends, same, left) = more_out (length found.1) (unwrap_or found.0 ReadWrite) access found.1 (omega arith) rest in
        (mode ++ modes, closing, found.0 ∷ named, (mode, modes, mode_is, are, refl), ends, same, own ∙ ap (λ t. mode ++ t) left ∙ sym (simp append_assoc refl))
    | inr none ↦ cc none
  ]

noise_by : (tokens : List Token) (found : Option (List Token)) → after_either (codes "work") (codes "transaction") tokens ≡ found → Before IsNoise tokens (unwrap_or found tokens)
noise_by tokens None e = ([], inl refl, refl)
noise_by tokens (Some rest) e = elim (either_taken (codes "work") (codes "transaction") tokens rest e) [
  | inl same ↦ (word "work" ∷ [], inr (inl refl), same)
  | inr same ↦ (word "transaction" ∷ [], inr (inr refl), same)
]

noise_out : (tokens : List Token) → Before IsNoise tokens (after_noise tokens)
unfolding after_noise
noise_out tokens = noise_by tokens (after_either (codes "work") (codes "transaction") tokens) refl

opening_out : (tokens rest : List Token) → after_opening tokens ≡ Some rest → Before IsOpening tokens rest
unfolding after_opening
opening_out tokens rest e = elim (parted (after_word (codes "start") tokens) (after_word (codes "transaction")) (option_map after_noise (after_word (codes "begin") tokens)) rest e) [
  | inl (y, found, more) ↦ (word "start" ∷ word "transaction" ∷ [], inl refl, taken (codes "start") tokens y found ∙ ap (λ t. word "start" ∷ t) (taken (codes "transaction") y rest more))
  | inr others ↦
      let (y, found, same) = mapped after_noise (after_word (codes "begin") tokens) rest others in
      let (noise, is, all) = noise_out y in
      (word "begin" ∷ noise, inr (noise, is, refl), taken (codes "begin") tokens y found ∙ ap (λ t. word "begin" ∷ t) (all ∙ ap (λ t. noise ++ t) same))
]

-- noise, and then semicolons to the end
abbrev NoiseTo : List Token → Type 0
NoiseTo tokens = (noise closing : List Token) × IsNoise noise × AreSemicolons closing × (tokens ≡ noise ++ closing)

alone_out : (asked other : Asked) (tokens : List Token) → if_alone asked tokens ≡ Some other → (asked ≡ other) × NoiseTo tokens
alone_out asked other tokens e = by_end (is_end (after_noise tokens)) refl e where
  by_end : (t : Bool) → is_end (after_noise tokens) ≡ t → cond t (Some asked) None ≡ Some other → (asked ≡ other) × NoiseTo tokens
  by_end true is e = let (noise, noise_is, all) = noise_out tokens in (cc e, (noise, after_noise tokens, noise_is, end_out (after_noise tokens) is, all))
  by_end false is e = cc e

-- what begins or ends a block, and then semicolons to the end
abbrev ControlTo : Asked → List Token → Type 0
ControlTo asked tokens = (control closing : List Token) × IsControl control asked × AreSemicolons closing × (tokens ≡ control ++ closing)

begin_out : (tokens rest : List Token) (asked : Asked) → after_opening tokens ≡ Some rest → option_map Begin (access_in rest) ≡ Some asked → ControlTo asked tokens
begin_out tokens rest asked e last =
    let (access, at, same) = mapped Begin (access_in rest) asked last in
    let (opening, opens, all) = opening_out tokens rest e in
    let (modes, closing, named, are, ends, is, left) = modes_out rest access at in
    subst (λ a. ControlTo a tokens) same (opening ++ modes, closing, (opening, modes, named, opens, are, is, refl), ends, all ∙ ap (λ t. opening ++ t) left ∙ sym (simp append_assoc refl))

commit_out : (tokens rest : List Token) (asked : Asked) → after_either (codes "commit") (codes "end") tokens ≡ Some rest → if_alone Commit rest ≡ Some asked → ControlTo asked tokens
commit_out tokens rest asked e last =
    let (same, (noise, closing, is, ends, all)) = alone_out Commit asked rest last in
    subst (λ a. ControlTo a tokens) same (elim (either_taken (codes "commit") (codes "end") tokens rest e) [
      | inl front ↦ (word "commit" ∷ noise, closing, (noise, is, inl refl), ends, front ∙ ap (λ t. word "commit" ∷ t) all)
      | inr front ↦ (word "end" ∷ noise, closing, (noise, is, inr refl), ends, front ∙ ap (λ t. word "end" ∷ t) all)
    ])

rollback_out : (tokens rest : List Token) (asked : Asked) → after_either (codes "rollback") (codes "abort") tokens ≡ Some rest → if_alone Rollback rest ≡ Some asked → ControlTo asked tokens
rollback_out tokens rest asked e last =
    let (same, (noise, closing, is, ends, all)) = alone_out Rollback asked rest last in
    subst (λ a. ControlTo a tokens) same (elim (either_taken (codes "rollback") (codes "abort") tokens rest e) [
      | inl front ↦ (word "rollback" ∷ noise, closing, (noise, is, inl refl), ends, front ∙ ap (λ t. word "rollback" ∷ t) all)
      | inr front ↦ (word "abort" ∷ noise, closing, (noise, is, inr refl), ends, front ∙ ap (λ t. word "abort" ∷ t) all)
    ])

abbrev rolls_back : List Token → Option Asked
rolls_back here = or_else (after_either (codes "rollback") (codes "abort") here) (if_alone Rollback) None

abbrev ends_block : List Token → Option Asked
ends_block here = or_else (after_either (codes "commit") (codes "end") here) (if_alone Commit) (rolls_back here)

end_block_out : (here : List Token) (asked : Asked) → ends_block here ≡ Some asked → ControlTo asked here
end_block_out here asked e = elim (parted (after_either (codes "commit") (codes "end") here) (if_alone Commit) (rolls_back here) asked e) [
  | inl (rest, found, last) ↦ commit_out here rest asked found last
  | inr others ↦ elim (parted (after_either (codes "rollback") (codes "abort") here) (if_alone Rollback) None asked others) [
    | inl (rest, found, last) ↦ rollback_out here rest asked found last
    | inr none ↦ cc none
  ]
]

here_out : (tokens here : List Token) (asked : Asked) → Before AreSemicolons tokens here → ControlTo asked here → AreControl tokens asked
here_out tokens here asked (before, are, all) (control, closing, is, ends, own) = (before, control, closing, are, is, ends, all ∙ ap (λ t. before ++ t) own ∙ sym (append_assoc before control closing))

pub control_out : (tokens : List Token) (asked : Asked) → control_of tokens ≡ Some asked → AreControl tokens asked
unfolding control_of
control_out tokens asked e =
    let here = after_semicolons tokens in
    here_out tokens here asked (semicolons_out tokens) (elim (parted (after_opening here) (λ rest. option_map Begin (access_in rest)) (ends_block here) asked e) [
      | inl (rest, found, last) ↦ begin_out here rest asked found last
      | inr others ↦ end_block_out here asked others
    ])

-- ---- what the grammar has is read

level_in : (level more : List Token) → IsLevel level → after_level (level ++ more) ≡ Some more
unfolding after_level
level_in level more (inl e) = rw e refl
level_in level more (inr (inl e)) = rw e refl
level_in level more (inr (inr (inl e))) = rw e refl
level_in level more (inr (inr (inr e))) = rw e refl

mode_in : (mode more : List Token) (named : Option Access) → IsMode mode named → mode_at (mode ++ more) ≡ Some (named, more)
unfolding mode_at access_at after_other_mode
mode_in mode more (Some ReadWrite) e = rw e refl
mode_in mode more (Some ReadOnly) e = rw e refl
mode_in mode more None (inl (level, is, e)) = rw e (ap (option_map {T = List Token} {U = Option Access × List Token} (λ rest. (None, rest))) (level_in level more is))
mode_in mode more None (inr (inl e)) = rw e refl
mode_in mode more None (inr (inr e)) = rw e refl

-- a word stands in front
abbrev BeginsWithWord : List Token → Type 0
BeginsWithWord tokens = (letters : List ℕ) × (rest : List Token) × (tokens ≡ Word letters ∷ rest)

mode_word : (mode : List Token) (named : Option Access) → IsMode mode named → BeginsWithWord mode
mode_word mode (Some ReadWrite) e = (codes "read", word "write" ∷ [], e)
mode_word mode (Some ReadOnly) e = (codes "read", word "only" ∷ [], e)
mode_word mode None (inl (level, is, e)) = (codes "isolation", word "level" ∷ level, e)
mode_word mode None (inr (inl e)) = (codes "deferrable", [], e)
mode_word mode None (inr (inr e)) = (codes "not", word "deferrable" ∷ [], e)

comma_in : (comma first more : List Token) → MayBeComma comma → BeginsWithWord first → (after_comma ((comma ++ first) ++ more) ≡ first ++ more) × (is_end ((comma ++ first) ++ more) ≡ false)
comma_in comma first more (inl e) (letters, rest, f) = rw (e, f) (refl, refl)
comma_in comma first more (inr e) (letters, rest, f) = rw e (refl, refl)

end_in : (tokens : List Token) → AreSemicolons tokens → is_end tokens ≡ true
end_in [] are = refl
end_in (token ∷ tokens) (e, are) = rw e (end_in tokens are)

-- at the end the access stays, and before it a mode is read
pub at_end : (steps : ℕ) (access : Access) (tokens : List Token) → is_end tokens ≡ true → access_within steps access tokens ≡ Some access
unfolding access_within
at_end zero access tokens e = refl
at_end (suc steps) access tokens e = ap (λ t. cond t (Some access) (or_else (mode_at (after_comma tokens)) (λ found. access_within steps (unwrap_or found.0 access) found.1) None)) e

pub at_mode : (steps : ℕ) (access : Access) (tokens : List Token) → is_end tokens ≡ false → access_within (suc steps) access tokens ≡ or_else (mode_at (after_comma tokens)) (λ found. access_within steps (unwrap_or found.0 access) found.1) None
unfolding access_within
at_mode steps access tokens e = ap (λ t. cond t (Some access) (or_else (mode_at (after_comma tokens)) (λ found. access_within steps (unwrap_or found.0 access) found.1) None)) e

-- a mode is read with one step less for the rest, or none is and there is no access
pub read_on : (steps : ℕ) (access : Access) (tokens : List Token) (found : Option Access × List Token) → length tokens ≤ steps → is_end tokens ≡ false → mode_at (after_comma tokens) ≡ Some found
    → (left : ℕ) × (length found.1 ≤ left) × (access_within left (unwrap_or found.0 access) found.1 ≡ access_within steps access tokens)
read_on zero access tokens found few more at = let less = mode_shorter tokens found at in absurd (omega (arith, less, few))
read_on (suc steps) access tokens found few more at =
    let less = mode_shorter tokens found at in
    (steps, omega (arith, less, few), sym (at_mode steps access tokens more ∙ ap (λ t. or_else t (λ found. access_within steps (unwrap_or found.0 access) found.1) None) at))

pub none_read : (steps : ℕ) (access : Access) (tokens : List Token) → length tokens ≤ steps → is_end tokens ≡ false → mode_at (after_comma tokens) ≡ None → access_within steps access tokens ≡ None
none_read zero access [] few more at = cc more
none_read zero access (token ∷ tokens) few more at = absurd (omega (arith, few))
none_read (suc steps) access tokens few more at = at_mode steps access tokens more ∙ ap (λ t. or_else t (λ found. access_within steps (unwrap_or found.0 access) found.1) None) at

with_comma : (comma first more closing modes : List Token) → modes ≡ comma ++ first ++ more → modes ++ closing ≡ (comma ++ first) ++ (more ++ closing)
with_comma comma first more closing modes e = ap (λ t. t ++ closing) e ∙ append_assoc (comma ++ first) more closing

fewer : (comma first more closing tokens : List Token) → tokens ≡ (comma ++ first) ++ (more ++ closing) → 0 < length first → length (more ++ closing) < length tokens
fewer comma first more closing tokens e some =
    let whole = ap length e ∙ length-append (comma ++ first) (more ++ closing) in
    let front = length-append comma first in
    omega (arith, whole, front)

more_in : (steps : ℕ) (named : List (Option Access)) (modes closing : List Token) (access : Access) → AreMoreModes modes named → AreSemicolons closing → length (modes ++ closing) ≤ steps
    → access_within steps access (modes ++ closing) ≡ Some (fold next_access access named)
more_in steps [] modes closing access e ends few = rw e (at_end steps access closing (end_in closing ends))
more_in zero (one ∷ named) modes closing access (comma, first, more, may, is, are, e) ends few =
    let less = fewer comma first more closing (modes ++ closing) (with_comma comma first more closing modes e) (mode_takes first one is) in
    absurd (omega (arith, less, few))
more_in (suc steps) (one ∷ named) modes closing access (comma, first, more, may, is, are, e) ends few =
    let all = with_comma comma first more closing modes e in
    let less = fewer comma first more closing (modes ++ closing) all (mode_takes first one is) in
    let front = comma_in comma first (more ++ closing) may (mode_word first one is) in
    let at : mode_at (after_comma ((comma ++ first) ++ (more ++ closing))) ≡ Some (one, more ++ closing) = ap mode_at front.0 ∙ mode_in first (more ++ closing) one is in
    ap (access_within (suc steps) access) all
    ∙ at_mode steps access ((comma ++ first) ++ (more ++ closing)) front.1
    ∙ ap (λ o. or_else o (λ found. access_within steps (unwrap_or found.0 access) found.1) None) at
    ∙ more_in steps named more closing (next_access access one) are ends (omega (arith, less, few))

modes_in : (named : List (Option Access)) (modes closing : List Token) → AreModes modes named → AreSemicolons closing → access_in (modes ++ closing) ≡ Some (access_of named)
unfolding access_in access_after
modes_in [] modes closing e ends = rw e (ap (λ t. cond t (Some ReadWrite) (or_else (mode_at closing) (λ found. access_within (length found.1) (unwrap_or found.0 ReadWrite) found.1) None)) (end_in closing ends))
modes_in (one ∷ named) modes closing (first, more, is, are, e) ends =
    let all = with_comma [] first more closing modes e in
    let front = comma_in [] first (more ++ closing) (inl refl) (mode_word first one is) in
    ap access_in all
    ∙ ap (λ t. cond t (Some ReadWrite) (or_else (mode_at (first ++ (more ++ closing))) (λ found. access_within (length found.1) (unwrap_or found.0 ReadWrite) found.1) None)) front.1
    ∙ ap (λ o. or_else o (λ found. access_within (length found.1) (unwrap_or found.0 ReadWrite) found.1) None) (mode_in first (more ++ closing) one is)
    ∙ more_in (length (more ++ closing)) named more closing (next_access ReadWrite one) are ends (omega arith)

-- no noise stands in front of semicolons, and none in front of modes
no_noise : (closing : List Token) → AreSemicolons closing → after_noise closing ≡ closing
unfolding after_noise
no_noise [] ends = refl
no_noise (token ∷ closing) (e, ends) = rw e refl

no_mode_noise : (mode more : List Token) (named : Option Access) → IsMode mode named → after_noise (mode ++ more) ≡ mode ++ more
unfolding after_noise
no_mode_noise mode more (Some ReadWrite) e = rw e refl
no_mode_noise mode more (Some ReadOnly) e = rw e refl
no_mode_noise mode more None (inl (level, is, e)) = rw e refl
no_mode_noise mode more None (inr (inl e)) = rw e refl
no_mode_noise mode more None (inr (inr e)) = rw e refl

no_modes_noise : (named : List (Option Access)) (modes closing : List Token) → AreModes modes named → AreSemicolons closing → after_noise (modes ++ closing) ≡ modes ++ closing
no_modes_noise [] modes closing e ends = rw e (no_noise closing ends)
no_modes_noise (one ∷ named) modes closing (first, more, is, are, e) ends = let all = with_comma [] first more closing modes e in ap after_noise all ∙ no_mode_noise first (more ++ closing) one is ∙ sym all

noise_in : (noise rest : List Token) → IsNoise noise → after_noise rest ≡ rest → after_noise (noise ++ rest) ≡ rest
unfolding after_noise
noise_in noise rest (inl e) none = rw e none
noise_in noise rest (inr (inl e)) none = rw e refl
noise_in noise rest (inr (inr e)) none = rw e refl

alone_in : (asked : Asked) (noise closing : List Token) → IsNoise noise → AreSemicolons closing → if_alone asked (noise ++ closing) ≡ Some asked
alone_in asked noise closing is ends = ap (λ t. cond t (Some asked) None) (ap is_end (noise_in noise closing is (no_noise closing ends)) ∙ end_in closing ends)

skip_one : (tokens : List Token) → control_of (mark ";" ∷ tokens) ≡ control_of tokens
unfolding control_of
skip_one tokens = refl

-- before what begins with a word stand semicolons
pub skips : (before rest : List Token) → AreSemicolons before → control_of (before ++ rest) ≡ control_of rest
skips [] rest are = refl
skips (token ∷ before) rest (e, are) = rw e (skip_one (before ++ rest) ∙ skips before rest are)

begin_in : (opening rest : List Token) (access : Access) → IsOpening opening → after_noise rest ≡ rest → access_in rest ≡ Some access → control_of (opening ++ rest) ≡ Some (Begin access)
unfolding control_of after_opening
begin_in opening rest access (inl e) none at = rw e (ap (option_map Begin) at)
begin_in opening rest access (inr (noise, is, e)) none at = rw e (ap (λ t. option_map Begin (access_in t)) (noise_in noise rest is none) ∙ ap (option_map Begin) at)

control_in_front : (control closing : List Token) (asked : Asked) → IsControl control asked → AreSemicolons closing → control_of (control ++ closing) ≡ Some asked
unfolding control_of after_opening
control_in_front control closing (Script script) is ends = absurd is
control_in_front control closing (Begin access) (opening, modes, named, opens, are, same, e) ends =
    ap (λ t. control_of (t ++ closing)) e
    ∙ ap control_of (append_assoc opening modes closing)
    ∙ begin_in opening (modes ++ closing) (access_of named) opens (no_modes_noise named modes closing are ends) (modes_in named modes closing are ends)
    ∙ ap (λ a. Some (Begin a)) (sym same)
control_in_front control closing Commit (noise, is, inl e) ends = rw e (alone_in Commit noise closing is ends)
control_in_front control closing Commit (noise, is, inr e) ends = rw e (alone_in Commit noise closing is ends)
control_in_front control closing Rollback (noise, is, inl e) ends = rw e (alone_in Rollback noise closing is ends)
control_in_front control closing Rollback (noise, is, inr e) ends = rw e (alone_in Rollback noise closing is ends)

pub control_in : (tokens : List Token) (asked : Asked) → AreControl tokens asked → control_of tokens ≡ Some asked
control_in tokens asked (before, control, closing, are, is, ends, e) =
    ap control_of (e ∙ append_assoc before control closing) ∙ skips before (control ++ closing) are ∙ control_in_front control closing asked is ends
