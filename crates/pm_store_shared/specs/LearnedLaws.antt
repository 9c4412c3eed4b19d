-- What a token has learned it knows from then on.
use Rattle.std.proofs.{Common.{List, ◌++◌, ◌≡◌, false, Option, None, Some, sym, ap, ◌∙◌, subst, append_assoc}, lemmas.{Bool.or_parts, List.Folds.list_any-append}}
use Rattle.pm_query.specs.pm_disk.declared.disk.Disk as Disk
use Rattle.pm_query.specs.{Calls.{DiskFact, unread_for, flushed_to}, declared.book.BookEntry.BookEntry, pm_disk.Files.Files, pm_record.declared.fault.RedoFault.RedoFault}
use Rattle.pm_segment.specs.pm_outside.declared.chronicle.Chronicle as Chronicle
use Rattle.pm_segment.specs.{Unread.{has_break, has_redo, is_break}, UnreadLaws.redo_parts}
use Rattle.pm_store_shared.specs.{Grows.Grew, Learned.{IsUnread, Learned}, Log.Continues, Told.TokenModel}

-- where no fault is among the entries there was none among the first of them
whole_before : (past more : List BookEntry) → has_break (past ++ more) ≡ false → has_break past ≡ false
whole_before past more whole = (or_parts (has_break past) (has_break more) (sym (list_any-append is_break past more) ∙ whole)).0

pub unread_on : (files : Option Files) (past now : List BookEntry) → Continues past now → (fault : RedoFault) → IsUnread files past fault → IsUnread files now fault
unread_on files past now (more, now_is) fault known =
    λ whole none. known (whole_before past more (sym (ap has_break now_is) ∙ whole)) (redo_parts past more (sym (ap has_redo now_is) ∙ none)).0

learned_on : {D B : Type 0} (g : Disk.Ghosts D) (h : Chronicle.Ghosts B BookEntry) (first : Option D) (past now : List BookEntry) → Continues past now → (fact : DiskFact) → Learned g h first past fact → Learned g h first now fact
learned_on g h None past now on fact known = tt
learned_on g h (Some first) past now on (unread_for fault) known = unread_on (g.seen first) past now on fault known
learned_on g h (Some first) past now (more, now_is) (flushed_to front) known =
    record {
      log = known.log;
      within = (known.within.0 ++ more, now_is ∙ ap (λ l. l ++ more) known.within.1 ∙ append_assoc known.log known.within.0 more);
      disk = known.disk;
      apart = known.apart;
      stood = known.stood;
      rests = known.rests;
      its = known.its;
      read = known.read;
      reached = known.reached;
    }

pub learned_still : {D B : Type 0} (g : Disk.Ghosts D) (h : Chronicle.Ghosts B BookEntry) (entries : List BookEntry) (before now : TokenModel D) → Grew entries before now → (fact : DiskFact) → Learned g h before.first before.past fact
    → Learned g h now.first now.past fact
learned_still g h entries before now grew fact known =
    subst (λ first. Learned g h first now.past fact) (sym grew.first) (learned_on g h before.first before.past now.past grew.past fact known)
