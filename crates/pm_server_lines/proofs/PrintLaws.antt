-- Text that is written piece by piece.
use Rattle.std.{proofs.Common.{◌≡◌, inl, inr, ℕ, ◌-◌, List, [], ◌++◌, length, take, drop, Option, None, Some, refl, sym, ◌∙◌, ap, subst, append_assoc, append-nil, take-append-drop}, specs.{Option.option_map, Prelude.{true, false}}}
use Rattle.pm_record.specs.pm_facts.Lists.{rest_of}
use Rattle.pm_outside.{specs.Added.Added, proofs.AddedLaws.added_none}
use Rattle.pm_server_lines.specs.Print.{IsPrinted}

nothing_put : (told : Option (List ℕ)) → option_map (λ w. w) told ≡ told
nothing_put None = refl
nothing_put (Some w) = refl

two_added : (a b : List ℕ) (told : Option (List ℕ)) → option_map (λ w. w ++ b) (option_map (λ w. w ++ a) told) ≡ option_map (λ w. w ++ (a ++ b)) told
two_added a b None = refl
two_added a b (Some w) = ap (λ (l : List ℕ). Some l) (append_assoc w a b)

-- ---- a part of a text

-- a front of the text was written, and this is the rest
pub record IsUpTo (text rest : List ℕ) (before now : Option (List ℕ)) : Type 0 where
  pub front : List ℕ
  pub parts : text ≡ front ++ rest
  pub written : Added front before now

pub nothing_yet : (text : List ℕ) (told : Option (List ℕ)) → IsUpTo text text told told
nothing_yet text told = record { front = []; parts = refl; written = added_none told }

-- n bytes more
pub further : (text rest : List ℕ) (n : ℕ) (before mid now : Option (List ℕ)) → IsUpTo text rest before mid → now ≡ option_map (λ w. w ++ take n rest) mid → IsUpTo text (take (length rest - n) (drop n rest)) before now
further text rest n before mid now up written = record {
  front = up.front ++ take n rest;
  parts = up.parts ∙ ap (λ (l : List ℕ). up.front ++ l) (sym (take-append-drop n rest)) ∙ sym (append_assoc up.front (take n rest) (drop n rest))
      ∙ ap (λ (l : List ℕ). (up.front ++ take n rest) ++ l) (sym (rest_of rest n));
  written = written ∙ ap (option_map (λ (w : List ℕ). w ++ take n rest)) up.written ∙ two_added up.front (take n rest) before;
}

pub all_of : (text rest : List ℕ) (cut : Type 0) (before now : Option (List ℕ)) → IsUpTo text rest before now → rest ≡ [] → IsPrinted text cut before now
all_of text rest cut before now up none = record { front = up.front; rest = rest; parts = up.parts; written = up.written; whole = inl none }

pub cut_off : (text rest : List ℕ) (cut : Type 0) (before mid now : Option (List ℕ)) → IsUpTo text rest before mid → now ≡ option_map (λ w. w) mid → cut → IsPrinted text cut before now
cut_off text rest cut before mid now up none failed = record { front = up.front; rest = rest; parts = up.parts; written = none ∙ nothing_put mid ∙ up.written; whole = inr failed }

-- ---- texts one after the other

pub nothing_printed : (cut : Type 0) (told : Option (List ℕ)) → IsPrinted [] cut told told
nothing_printed cut told = record { front = []; rest = []; parts = refl; written = added_none told; whole = inl refl }

-- the sink didn't fail
pub printed_whole : (text : List ℕ) (before now : Option (List ℕ)) → IsPrinted text (false ≡ true) before now → now ≡ option_map (λ w. w ++ text) before
printed_whole text before now printed = elim printed.whole [
  | inl none ↦ printed.written ∙ ap (λ (l : List ℕ). option_map (λ (w : List ℕ). w ++ l) before) (sym (printed.parts ∙ ap (λ (l : List ℕ). printed.front ++ l) none ∙ append-nil printed.front))
  | inr never ↦ cc
]

-- other words for a text
pub printed_as : (one text : List ℕ) (cut : Type 0) (before now : Option (List ℕ)) → one ≡ text → IsPrinted one cut before now → IsPrinted text cut before now
printed_as one text cut before now same printed = subst (λ (l : List ℕ). IsPrinted l cut before now) same printed

-- the next part of a text
pub part_more : (text part rest : List ℕ) (before mid now : Option (List ℕ)) → IsUpTo text (part ++ rest) before mid → IsPrinted part (false ≡ true) mid now → IsUpTo text rest before now
part_more text part rest before mid now up printed = record {
  front = up.front ++ part;
  parts = up.parts ∙ sym (append_assoc up.front part rest);
  written = printed_whole part mid now printed ∙ ap (option_map (λ (w : List ℕ). w ++ part)) up.written ∙ two_added up.front part before;
}

-- the part was cut off
pub part_cut : (text part rest : List ℕ) (one cut : Type 0) (before mid now : Option (List ℕ)) → cut → IsUpTo text (part ++ rest) before mid → IsPrinted part one mid now → IsPrinted text cut before now
part_cut text part rest one cut before mid now failed up printed = record {
  front = up.front ++ printed.front;
  rest = printed.rest ++ rest;
  parts = up.parts ∙ ap (λ (l : List ℕ). up.front ++ l) (ap (λ (l : List ℕ). l ++ rest) printed.parts ∙ append_assoc printed.front printed.rest rest)
      ∙ sym (append_assoc up.front printed.front (printed.rest ++ rest));
  written = printed.written ∙ ap (option_map (λ (w : List ℕ). w ++ printed.front)) up.written ∙ two_added up.front printed.front before;
  whole = inr failed;
}

-- the last part
pub part_last : (text part : List ℕ) (cut : Type 0) (before mid now : Option (List ℕ)) → IsUpTo text (part ++ []) before mid → IsPrinted part cut mid now → IsPrinted text cut before now
part_last text part cut before mid now up printed = record {
  front = up.front ++ printed.front;
  rest = printed.rest;
  parts = up.parts ∙ ap (λ (l : List ℕ). up.front ++ l) (append-nil part ∙ printed.parts) ∙ sym (append_assoc up.front printed.front printed.rest);
  written = printed.written ∙ ap (option_map (λ (w : List ℕ). w ++ printed.front)) up.written ∙ two_added up.front printed.front before;
  whole = printed.whole;
}

pub printed_then : (a b : List ℕ) (cut : Type 0) (before mid now : Option (List ℕ)) → mid ≡ option_map (λ w. w ++ a) before → IsPrinted b cut mid now → IsPrinted (a ++ b) cut before now
printed_then a b cut before mid now first printed = record {
  front = a ++ printed.front;
  rest = printed.rest;
  parts = ap (λ (l : List ℕ). a ++ l) printed.parts ∙ sym (append_assoc a printed.front printed.rest);
  written = printed.written ∙ ap (option_map (λ (w : List ℕ). w ++ printed.front)) first ∙ two_added a printed.front before;
  whole = printed.whole;
}

pub cut_short : (a b : List ℕ) (one cut : Type 0) (before now : Option (List ℕ)) → cut → IsPrinted a one before now → IsPrinted (a ++ b) cut before now
cut_short a b one cut before now failed printed = record {
  front = printed.front;
  rest = printed.rest ++ b;
  parts = ap (λ (l : List ℕ). l ++ b) printed.parts ∙ append_assoc printed.front printed.rest b;
  written = printed.written;
  whole = inr failed;
}

pub printed_weaker : (text : List ℕ) (one cut : Type 0) (before now : Option (List ℕ)) → (one → cut) → IsPrinted text one before now → IsPrinted text cut before now
printed_weaker text one cut before now weaker printed = record {
  front = printed.front;
  rest = printed.rest;
  parts = printed.parts;
  written = printed.written;
  whole = elim printed.whole [ inl none ↦ inl none | inr failed ↦ inr (weaker failed) ];
}
