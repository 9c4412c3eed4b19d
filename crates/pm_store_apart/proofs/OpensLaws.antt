-- A store that begins.
use Rattle.std.{specs.{FinMap.{empty}, Prelude.IfSome, Option.option_map}, proofs.{Common.{◌≡◌, inr, ℕ, List, [], ◌∷◌, ◌++◌, Option, None, Some, refl, sym, ◌∙◌, ap, subst, arith, false}, lemmas.List.Elements.{All-nil, All-push}}}
use Rattle.pm_query.{specs.{pm_rows.Fold.RowMap, Limits.HasShortRows, pm_disk.Files.Files, declared.book.BookEntry.{BookEntry, TheVariants.Opened}}, proofs.HistoryLaws.short_rows-empty}
use Rattle.pm_store_apart.specs.{Children.times_in, Moment.Moment, Stands.{HasNoTick, HasWaited, IsFaultBy, IsOpening, Origin, WaitsFrom}}

begins : (at : Moment) → at.live ≡ None → at.skipped ≡ false → at.generation ≡ 1 → at.inside ≡ [] → HasWaited (record { files = at.files; tick = at.ticks; faults = at.faults }) at (Opened 1 ∷ [])
begins at unread unskipped first empty = record {
  unread = unread;
  legal = λ base same. record { entries = (record { next = refl; empty = λ pid. refl }, tt); renewals = tt };
  fresh = λ base. refl;
  begun = omega (arith, first);
  generation = sym first;
  attended = λ pid. ap (times_in pid) (sym empty);
  no_redo = refl;
  unredone = refl;
  none_here = refl;
  skipped = sym unskipped;
  unclosed = refl;
  no_ticks = All-push HasNoTick [] (Opened 1) (All-nil HasNoTick) (λ start mark. tt);
  no_time = refl;
  no_needs = refl;
  counted = record { later = omega arith; each = All-nil (IsFaultBy at.faults) };
  reached = omega arith;
  reads = inr refl;
}

-- at its first tick it is still as it opens
opening : (at : Moment) → IsOpening (record { files = at.files; tick = at.ticks; faults = at.faults }) at.ticks at.images
opening at = λ t le ge image there. ∣ (image, subst (λ (n : ℕ). at.images n image) (omega (arith, le, ge)) there, λ s m. m) ∣₁

pub opens_waiting : (at : Moment) (book : Option (List BookEntry)) → at.live ≡ None → at.skipped ≡ false → at.generation ≡ 1 → at.inside ≡ [] → book ≡ Some [] → at.book ≡ option_map (λ es. es ++ Opened 1 ∷ []) book
    → WaitsFrom (record { files = at.files; tick = at.ticks; faults = at.faults }) at
opens_waiting at book unread unskipped first nobody empty notes =
    let is : at.book ≡ Some (Opened 1 ∷ []) = notes ∙ ap (option_map (λ es. es ++ Opened 1 ∷ [])) empty in
    let origin : Origin = record { files = at.files; tick = at.ticks; faults = at.faults } in
    subst (λ (b : Option (List BookEntry)). IfSome b (HasWaited origin at) × IfSome b (λ list. IfSome at.files (λ seen. IsOpening origin at.ticks at.images))) (sym is) (begins at unread unskipped first nobody, each at.files)
  where
    each : (f : Option Files) → IfSome f (λ seen. IsOpening (record { files = at.files; tick = at.ticks; faults = at.faults }) at.ticks at.images)
    each None = tt
    each (Some files) = opening at

-- ---- no rows

pub short_empty : (rows : RowMap) → rows ≡ empty → HasShortRows rows
short_empty rows is = subst HasShortRows (sym is) short_rows-empty
