-- Whom the supervisor lost, and whom its side of the store gave up.
use Rattle.std.{proofs.{Common.{◌≡◌, inl, inr, ℕ, suc, ◌+◌, List, [], ◌∷◌, ◌++◌, refl, sym, ap, subst, ◌∙◌, length, arith, append-nil, append_assoc}, lemmas.List.map-append}, specs.Prelude.{true, false}}
use Rattle.pm_server.specs.{pm_state.declared.event.PmEvent.PmEvent, pm_query.declared.book.BookEntry.BookEntry, pm_segment.Renewal.renewal}
use Rattle.pm_server.specs.pm_state.declared.event.PmEvent.TheVariants as entry
use Rattle.pm_board_acts.{specs.pm_supervisor_chain.Chain.{gone_from, lost_from, opened_of, resets_of, lost_since, gone_since}, proofs.pm_supervisor_chain.FoldsLaws.{gone-append, gone_since-append, lost-append, lost_since-append, opened-append, resets-append}}
use Rattle.pm_serve_pool.{specs.{pm_serve_crew.Renewals.{BeginsWithThose, EachBeginsSo, RenewsAsTold, WereInside}, pm_store_shared.{declared.views.Noted.Noted, Log.{all_behind, entries_of}, GrowsLaws.entries_behind, Renewed.{AreApart, AreAttached}}}, proofs.pm_serve_crew.RenewalsLaws.{inside_append, inside_more, inside_renewed}}
use Rattle.pm_server.specs.pm_query.declared.book.BookEntry.TheVariants as noted
use Rattle.pm_postmaster.specs.Serving.{Renews}

-- ---- the book

-- what a renewal notes
renewal-opens : (pids : List ℕ) (generation : ℕ) → opened_of (renewal pids generation) ≡ generation ∷ []
renewal-opens [] generation = refl
renewal-opens (pid ∷ pids) generation = renewal-opens pids generation

renewal-gone : (so pids : List ℕ) (generation : ℕ) → gone_from so (renewal pids generation) ≡ (so ++ pids) ∷ []
renewal-gone so [] generation = ap (λ (l : List ℕ). l ∷ []) (sym (append-nil so))
renewal-gone so (pid ∷ pids) generation = renewal-gone (so ++ pid ∷ []) pids generation ∙ ap (λ (l : List ℕ). l ∷ []) (append_assoc so (pid ∷ []) pids)

renewal-since : (so pids : List ℕ) (generation : ℕ) → gone_since so (renewal pids generation) ≡ []
renewal-since so [] generation = refl
renewal-since so (pid ∷ pids) generation = renewal-since (so ++ pid ∷ []) pids generation

begins-append : (gone lost more : List (List ℕ)) → EachBeginsSo gone lost → EachBeginsSo gone (lost ++ more)
begins-append [] lost more each = tt
begins-append (pids ∷ gone) [] more each = absurd each
begins-append (pids ∷ gone) (those ∷ lost) more each = (each.0, begins-append gone lost more each.1)

-- as many were opened as there are lists
begins-push : (gone lost : List (List ℕ)) (pids those : List ℕ) → length gone ≡ length lost → EachBeginsSo gone lost → BeginsWithThose pids those
    → EachBeginsSo (gone ++ pids ∷ []) (lost ++ those ∷ [])
begins-push [] [] pids those same each one = (one, tt)
begins-push [] (x ∷ lost) pids those same each one = absurd (omega arith)
begins-push (x ∷ gone) [] pids those same each one = absurd each
begins-push (x ∷ gone) (y ∷ lost) pids those same each one = (each.0, begins-push gone lost pids those (omega (arith, same)) each.1 one)

as-many-gone : (so : List ℕ) (xs : List BookEntry) → length (gone_from so xs) ≡ length (opened_of xs)
as-many-gone so [] = refl
as-many-gone so (noted.Opened generation ∷ xs) = ap suc (as-many-gone [] xs)
as-many-gone so (noted.Attached pid generation ∷ xs) = as-many-gone so xs
as-many-gone so (noted.Redone pid generation kept ∷ xs) = as-many-gone so xs
as-many-gone so (noted.Answered pid script reply commit front tick ∷ xs) = as-many-gone so xs
as-many-gone so (noted.Released pid front tick ∷ xs) = as-many-gone so xs
as-many-gone so (noted.Detached pid ∷ xs) = as-many-gone so xs
as-many-gone so (noted.Gone pid ∷ xs) = as-many-gone (so ++ pid ∷ []) xs
as-many-gone so (noted.CheckpointEnded pid done clean ∷ xs) = as-many-gone so xs
as-many-gone so (noted.Broke pid since faults ∷ xs) = as-many-gone so xs
as-many-gone so (noted.LogFull pid script need room ∷ xs) = as-many-gone so xs

as-many-lost : (so : List ℕ) (xs : List PmEvent) → length (lost_from so xs) ≡ length (resets_of xs)
as-many-lost so [] = refl
as-many-lost so (entry.Started pid kind ∷ xs) = as-many-lost so xs
as-many-lost so (entry.Accepted pid decision ∷ xs) = as-many-lost so xs
as-many-lost so (entry.Exited pid kind status true at ∷ xs) = as-many-lost (so ++ pid ∷ []) xs
as-many-lost so (entry.Exited pid kind status false at ∷ xs) = as-many-lost so xs
as-many-lost so (entry.Asked mode at ∷ xs) = as-many-lost so xs
as-many-lost so (entry.KillAsked pid ∷ xs) = as-many-lost so xs
as-many-lost so (entry.QuitSent why ∷ xs) = as-many-lost so xs
as-many-lost so (entry.TerminateSent ∷ xs) = as-many-lost so xs
as-many-lost so (entry.KillSent at ∷ xs) = as-many-lost so xs
as-many-lost so (entry.CheckpointAsked ∷ xs) = as-many-lost so xs
as-many-lost so (entry.RedoEnded generation kept ∷ xs) = as-many-lost so xs
as-many-lost so (entry.Ready generation ∷ xs) = as-many-lost so xs
as-many-lost so (entry.Reset generation ∷ xs) = ap suc (as-many-lost [] xs)
as-many-lost so (entry.Said line ∷ xs) = as-many-lost so xs
as-many-lost so (entry.Ended how ∷ xs) = as-many-lost so xs

-- ---- both

-- entries that tell of no loss and of no generation
pub record AreQuiet (entries : List PmEvent) : Type 0 where
  pub since : (so : List ℕ) → lost_since so entries ≡ so
  pub lost : (so : List ℕ) → lost_from so entries ≡ []
  pub resets : resets_of entries ≡ []

module _ (journal : List PmEvent) (lost : List ℕ) (own : List Noted) where
  -- no generation was begun
  lost_still : (entries : List PmEvent) → lost_from (lost_since [] journal) entries ≡ [] → lost_from [] journal ≡ lost_from [] (journal ++ entries)
  lost_still entries none = sym (lost-append [] journal entries ∙ (ap (λ (l : List (List ℕ)). lost_from [] journal ++ l) none ∙ append-nil (lost_from [] journal)))

  pub renews_quiet : (entries : List PmEvent) → AreQuiet entries → Renews journal lost own → Renews (journal ++ entries) lost own
  renews_quiet entries quiet was = record {
    lost_is = was.lost_is ∙ sym (lost_since-append [] journal entries ∙ quiet.since (lost_since [] journal));
    opened = was.opened ∙ sym (ap (λ (l : List ℕ). 1 ∷ l) (resets-append journal entries ∙ (ap (λ (l : List ℕ). resets_of journal ++ l) quiet.resets ∙ append-nil (resets_of journal))));
    gone = subst (λ (l : List (List ℕ)). EachBeginsSo (gone_from [] (entries_of own)) ([] ∷ l)) (lost_still entries (quiet.lost (lost_since [] journal))) was.gone;
    inside = subst (λ (l : List (List ℕ)). WereInside own ([] ∷ l)) (lost_still entries (quiet.lost (lost_since [] journal))) was.inside;
    fresh = was.fresh;
  }

  -- a child has ended
  pub renews_exited : (entries : List PmEvent) (now : List ℕ) → ((so : List ℕ) → lost_from so entries ≡ []) → resets_of entries ≡ [] → (lost_since lost entries ≡ now)
      → Renews journal lost own → Renews (journal ++ entries) now own
  renews_exited entries now none resets since was = record {
    lost_is = sym (lost_since-append [] journal entries ∙ (ap (λ (l : List ℕ). lost_since l entries) (sym was.lost_is) ∙ since));
    opened = was.opened ∙ sym (ap (λ (l : List ℕ). 1 ∷ l) (resets-append journal entries ∙ (ap (λ (l : List ℕ). resets_of journal ++ l) resets ∙ append-nil (resets_of journal))));
    gone = subst (λ (l : List (List ℕ)). EachBeginsSo (gone_from [] (entries_of own)) ([] ∷ l)) (lost_still entries (none (lost_since [] journal))) was.gone;
    inside = subst (λ (l : List (List ℕ)). WereInside own ([] ∷ l)) (lost_still entries (none (lost_since [] journal))) was.inside;
    fresh = was.fresh;
  }

  -- the store was renewed
  pub renews_reset : (generation : ℕ) (log : List BookEntry) (others : List ℕ) → AreApart lost others → AreAttached log others → Renews journal lost own
      → Renews (journal ++ entry.Reset generation ∷ []) [] (own ++ all_behind log (renewal (lost ++ others) generation))
  renews_reset generation log others apart attached was =
      let e : List PmEvent = entry.Reset generation ∷ [] in
      let es : List BookEntry = renewal (lost ++ others) generation in
      let all : entries_of (own ++ all_behind log es) ≡ entries_of own ++ es =
      map-append (λ (x : Noted). x.entry) own (all_behind log es) ∙ ap (λ (l : List BookEntry). entries_of own ++ l) (entries_behind log es) in
      let gone : gone_from [] (entries_of (own ++ all_behind log es)) ≡ gone_from [] (entries_of own) ++ (lost ++ others) ∷ [] =
      ap (gone_from []) all ∙ (gone-append [] (entries_of own) es ∙ ap (λ (l : List (List ℕ)). gone_from [] (entries_of own) ++ l)
      (ap (λ (so : List ℕ). gone_from so es) was.fresh ∙ renewal-gone [] (lost ++ others) generation)) in
      let before : lost_from [] (journal ++ e) ≡ lost_from [] journal ++ lost ∷ [] =
      lost-append [] journal e ∙ ap (λ (l : List ℕ). lost_from [] journal ++ l ∷ []) (sym was.lost_is) in
      let opened : length (opened_of (entries_of own)) ≡ length ([] ∷ lost_from [] journal) =
      ap length was.opened ∙ ap suc (sym (as-many-lost [] journal)) in
      let many : length (gone_from [] (entries_of own)) ≡ length ([] ∷ lost_from [] journal) = as-many-gone [] (entries_of own) ∙ opened in
      record {
        lost_is = sym (lost_since-append [] journal e);
        opened = ap opened_of all ∙ (opened-append (entries_of own) es ∙ (ap (λ (l : List ℕ). l ++ opened_of es) was.opened
            ∙ (ap (λ (l : List ℕ). (1 ∷ resets_of journal) ++ l) (renewal-opens (lost ++ others) generation) ∙ ap (λ (l : List ℕ). 1 ∷ l) (sym (resets-append journal e)))));
        gone = subst (λ (l : List (List ℕ)). EachBeginsSo (gone_from [] (entries_of (own ++ all_behind log es))) ([] ∷ l)) (sym before)
            (subst (λ (l : List (List ℕ)). EachBeginsSo l (([] ∷ lost_from [] journal) ++ lost ∷ [])) (sym gone)
            (begins-push (gone_from [] (entries_of own)) ([] ∷ lost_from [] journal) (lost ++ others) lost many was.gone (record { others = others; is = refl; apart = apart })));
        inside = subst (λ (l : List (List ℕ)). WereInside (own ++ all_behind log es) ([] ∷ l)) (sym before)
            (inside_append own (all_behind log es) ([] ∷ lost_from [] journal) (lost ∷ []) opened was.inside (inside_renewed log lost others generation apart attached));
        fresh = ap (gone_since []) all ∙ (gone_since-append [] (entries_of own) es ∙ renewal-since (gone_since [] (entries_of own)) (lost ++ others) generation);
      }

  -- at the end
  pub renews_as_told : Renews journal lost own → RenewsAsTold journal own
  renews_as_told was = record { generations = inl was.opened; gone = was.gone; inside = was.inside }

  -- also where the next generation was begun and there was no memory to open it
  pub renews_short : (generation : ℕ) → Renews journal lost own → RenewsAsTold (journal ++ entry.Reset generation ∷ []) own
  renews_short generation was =
      let e : List PmEvent = entry.Reset generation ∷ [] in
      record {
        generations = inr (generation, ap (λ (l : List ℕ). l ++ generation ∷ []) was.opened ∙ ap (λ (l : List ℕ). 1 ∷ l) (sym (resets-append journal e)));
        gone = subst (λ (l : List (List ℕ)). EachBeginsSo (gone_from [] (entries_of own)) ([] ∷ l)) (sym (lost-append [] journal e))
            (begins-append (gone_from [] (entries_of own)) ([] ∷ lost_from [] journal) (lost_from (lost_since [] journal) e) was.gone);
        inside = subst (λ (l : List (List ℕ)). WereInside own ([] ∷ l)) (sym (lost-append [] journal e))
            (inside_more own ([] ∷ lost_from [] journal) (lost_from (lost_since [] journal) e) was.inside);
      }
