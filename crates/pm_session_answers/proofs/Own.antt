-- All entries of a child stand in the book.
use Rattle.std.{proofs.Common.{◌≡◌, ℕ, Bool, true, false, List, [], ◌∷◌, ◌++◌, refl, sym, ap, subst, ◌∙◌, append_assoc}, specs.{Prelude.cond, List.{AllByRecursion, filter}}}
use Rattle.pm_query.specs.declared.book.BookEntry.{BookEntry}
use Rattle.pm_session_answers.specs.Own.{NoneBy, StandIn, entries_by, is_by}

-- one entry of others in front
one_more : (who : ℕ) (first : BookEntry) (noted book : List BookEntry) → is_by who first ≡ false → StandIn who noted book → StandIn who noted (first ∷ book)
one_more who first [] book other stand = tt
one_more who first (entry ∷ noted) book other (others, behind, is, none, rest) = (first ∷ others, behind, ap (λ b. first ∷ b) is, (other, none), rest)

pub own_stand : (who : ℕ) (book noted : List BookEntry) → entries_by who book ≡ noted → StandIn who noted book
own_stand who [] [] is = tt
own_stand who [] (entry ∷ noted) is = absurd cc
own_stand who (first ∷ book) noted is = by_test (own_stand who book) (is_by who first) refl is
  where
    by_test : ((rest : List BookEntry) → entries_by who book ≡ rest → StandIn who rest book) → (test : Bool) → is_by who first ≡ test → cond test (first ∷ entries_by who book) (entries_by who book) ≡ noted → StandIn who noted (first ∷ book)
    by_test stand true own same =
        subst (λ (n : List BookEntry). StandIn who n (first ∷ book)) same ([], book, refl, tt, stand (entries_by who book) refl)
    by_test stand false own same = one_more who first noted book own (stand noted same)

-- those of two parts stand in two parts of the book
pub record Parted (who : ℕ) (first second book : List BookEntry) : Type 0 where
  pub front : List BookEntry
  pub rest : List BookEntry
  pub is : book ≡ front ++ rest
  pub first_in : StandIn who first front
  pub second_in : StandIn who second rest

pub parted : (who : ℕ) (first second book : List BookEntry) → StandIn who (first ++ second) book → Parted who first second book
parted who [] second book stand = record { front = []; rest = book; is = refl; first_in = tt; second_in = stand }
parted who (entry ∷ first) second book (others, behind, is, none, stand) =
    let more : Parted who first second behind = parted who first second behind stand in
    record {
      front = others ++ entry ∷ more.front;
      rest = more.rest;
      is = is ∙ ap (λ b. others ++ entry ∷ b) more.is ∙ sym (append_assoc others (entry ∷ more.front) more.rest);
      first_in = (others, more.front, refl, none, more.first_in);
      second_in = more.second_in;
    }
