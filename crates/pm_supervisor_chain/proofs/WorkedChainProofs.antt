-- Why the worked chains hold, or not.
use Rattle.std.{proofs.Common.{◌≡◌, List, [], ◌∷◌, refl, inl, inr, arith}, specs.List.AllByRecursion}
use Rattle.pm_supervisor_chain.specs.{Chain.{InGeneration, IsAmong, IsChained, kept_of, redos_of, users_from}, WorkedChains.{clean_book, clean_journal, crash_book, crash_journal, failed_book, failed_journal, miscounted_journal, unlisted_book, twice_book, early_book}}

pub clean_is_chained : IsChained clean_journal clean_book
clean_is_chained =
    record {
      generations = inl refl;
      redos_end = (inl (refl, refl), tt);
      redos_told = (λ ended. inl (refl, refl), tt);
      users = (inl (refl, refl), (inr (inr (inr (inl (refl, refl)))), (inr (inl (refl, refl)), tt)));
      once = ((λ e. omega arith, (λ e. omega arith, tt)), ((λ e. omega arith, tt), (tt, tt)));
      gone = (record { once = tt; gone_were_lost = tt; lost_are_gone = tt }, tt);
    }

pub crash_is_chained : IsChained crash_journal crash_book
crash_is_chained =
    record {
      generations = inl refl;
      redos_end = (inl (refl, refl), (inr (inl (refl, refl)), tt));
      redos_told = (λ ended. inl (refl, refl), (λ ended. inr (inl (refl, refl)), tt));
      users = (inl (refl, refl), (inr (inr (inr (inl (refl, refl)))), (inr (inr (inr (inr (inl (refl, refl))))), tt)));
      once = ((λ e. omega arith, (λ e. omega arith, tt)), ((λ e. omega arith, tt), (tt, tt)));
      gone = (
        record { once = tt; gone_were_lost = tt; lost_are_gone = tt },
        (record { once = (tt, tt); gone_were_lost = (inl refl, tt); lost_are_gone = (inl refl, tt) }, tt),
      );
    }

pub failed_is_chained : IsChained failed_journal failed_book
failed_is_chained =
    record {
      generations = inl refl;
      redos_end = tt;
      redos_told = tt;
      users = (inl (refl, refl), tt);
      once = (tt, tt);
      gone = (record { once = tt; gone_were_lost = tt; lost_are_gone = tt }, tt);
    }

-- it is none of these, where it differs from each
none-of : (x : InGeneration) (ys : List InGeneration) → AllByRecursion (λ y. x.number ≡ y.number → x.generation ≡ y.generation → ⊥) ys
    → IsAmong x ys → ⊥
none-of x [] other among = among
none-of x (y ∷ ys) other among =
    elim among [
      | inl same ↦ other.0 same.0 same.1
      | inr rest ↦ none-of x ys other.1 rest
    ]

pub miscounted_is_none : IsChained miscounted_journal crash_book → ⊥
miscounted_is_none chain =
    none-of (record { number = 3; generation = 2 }) (kept_of (redos_of crash_book)) (λ n g. omega arith, (λ n g. omega arith, tt)) chain.redos_end.1.0

pub unlisted_is_none : IsChained crash_journal unlisted_book → ⊥
unlisted_is_none chain = chain.gone.1.0.lost_are_gone.0

pub twice_is_none : IsChained crash_journal twice_book → ⊥
twice_is_none chain = chain.once.1.0.0 refl

pub early_is_none : IsChained crash_journal early_book → ⊥
early_is_none chain =
    none-of (record { number = 5; generation = 1 }) (users_from 1 crash_journal)
    (λ n g. omega arith, (λ n g. omega arith, (λ n g. omega arith, (λ n g. omega arith, (λ n g. omega arith, (λ n g. omega arith, (λ n g. omega arith, tt)))))))
    chain.users.1.1.0
