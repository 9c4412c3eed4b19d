-- What was said to a log piece by piece.
use Rattle.std.{proofs.{Common.{◌≡◌, ℕ, List, [], ◌∷◌, ◌++◌, refl, sym, ◌∙◌, ap, subst, arith, append-nil}, lemmas.{Grind.flat_map-append, Bool.false≢true}}, specs.{Prelude.{Bool, true, false}, List.flat_map}}
use Rattle.pm_disk.proofs.DiskLaws.{rose_from}
use Rattle.pm_state.specs.{declared.{action.Line.Line, event.PmEvent.PmEvent}, Journal.lines_of}
use Rattle.pm_state.specs.declared.event.PmEvent.TheVariants as entry
use Rattle.pm_server_lines.{specs.{Log.{HasLogged, HasPrinted, HasSaid, LogView, Says, log_line, log_of}, Print.IsPrinted}, proofs.PrintLaws.{cut_short, nothing_printed, printed_then, printed_weaker, printed_whole}}

-- ---- texts

-- nothing was given to it
pub says_nothing : (at : LogView) → Says [] at at
says_nothing at = record {
  unbroken = λ is. nothing_printed (at.is_cut ≡ true) at.written;
  rose = λ is cut. absurd (false≢true (sym is ∙ cut));
  broken = λ is. refl;
  later = omega arith;
}

-- a text after another
pub printed_more : (text more : List ℕ) (first mid now : LogView) → HasPrinted text first mid → Says more mid now → HasPrinted (text ++ more) first now
printed_more text more first mid now so_far says =
    elim mid.is_cut as (λ (b : Bool). mid.is_cut ≡ b → HasPrinted (text ++ more) first now) [
      | true ↦ λ is.
          let same : now ≡ mid = says.broken is in
          subst (λ (l : LogView). HasPrinted (text ++ more) first l) (sym same) (record {
            printed = cut_short text more (mid.is_cut ≡ true) (mid.is_cut ≡ true) first.written mid.written is so_far.printed;
            rose = so_far.rose;
            later = so_far.later;
          })
      | false ↦ λ is.
          let whole : IsPrinted text (false ≡ true) first.written mid.written = subst (λ (b : Bool). IsPrinted text (b ≡ true) first.written mid.written) is so_far.printed in
          record {
            printed = printed_then text more (now.is_cut ≡ true) first.written mid.written now.written (printed_whole text first.written mid.written whole) (says.unbroken is);
            rose = λ cut. rose_from first.faults mid.faults now.faults so_far.later (says.rose is cut);
            later = omega (arith, so_far.later, says.later);
          }
    ] refl

-- all that was printed since a log was open that hadn't failed at a line, by its sink
pub logged_by : (text : List ℕ) (first now : LogView) → HasPrinted text first now → HasLogged text first.written now.written first.faults now.faults
logged_by text first now printed = record { printed = printed_weaker _ _ _ _ _ printed.rose printed.printed; later = printed.later }

-- ---- the lines of a journal

pub lines_of-append : (xs ys : List PmEvent) → lines_of (xs ++ ys) ≡ lines_of xs ++ lines_of ys
lines_of-append [] ys = refl
lines_of-append (entry.Started pid kind ∷ xs) ys = lines_of-append xs ys
lines_of-append (entry.Accepted pid decision ∷ xs) ys = lines_of-append xs ys
lines_of-append (entry.Exited pid kind status was_active at ∷ xs) ys = lines_of-append xs ys
lines_of-append (entry.Asked mode at ∷ xs) ys = lines_of-append xs ys
lines_of-append (entry.KillAsked pid ∷ xs) ys = lines_of-append xs ys
lines_of-append (entry.QuitSent why ∷ xs) ys = lines_of-append xs ys
lines_of-append (entry.TerminateSent ∷ xs) ys = lines_of-append xs ys
lines_of-append (entry.KillSent at ∷ xs) ys = lines_of-append xs ys
lines_of-append (entry.CheckpointAsked ∷ xs) ys = lines_of-append xs ys
lines_of-append (entry.RedoEnded generation kept ∷ xs) ys = lines_of-append xs ys
lines_of-append (entry.Ready generation ∷ xs) ys = lines_of-append xs ys
lines_of-append (entry.Reset generation ∷ xs) ys = lines_of-append xs ys
lines_of-append (entry.Said line ∷ xs) ys = ap (λ (l : List Line). line ∷ l) (lines_of-append xs ys)
lines_of-append (entry.Ended how ∷ xs) ys = lines_of-append xs ys

pub said_more : (journal : List PmEvent) (line : Line) (first mid now : LogView) → HasSaid journal first mid → Says (log_line line) mid now → HasSaid (journal ++ entry.Said line ∷ []) first now
said_more journal line first mid now so_far says =
    let same : log_of journal ++ log_line line ≡ log_of (journal ++ entry.Said line ∷ []) =
    sym (ap (flat_map log_line) (lines_of-append journal (entry.Said line ∷ [])) ∙ flat_map-append log_line (lines_of journal) (line ∷ []) ∙ ap (λ (t : List ℕ). log_of journal ++ t) (append-nil (log_line line))) in
    subst (λ (t : List ℕ). HasPrinted t first now) same (printed_more (log_of journal) (log_line line) first mid now so_far says)

pub said_same : (journal more : List PmEvent) (first mid : LogView) → lines_of more ≡ [] → HasSaid journal first mid → HasSaid (journal ++ more) first mid
said_same journal more first mid none so_far =
    subst (λ (l : List Line). HasPrinted (flat_map log_line l) first mid) (sym (lines_of-append journal more ∙ ap (λ (l : List Line). lines_of journal ++ l) none ∙ append-nil (lines_of journal))) so_far

pub said_first : (first : LogView) → first.is_cut ≡ false → HasSaid [] first first
said_first first unbroken = record {
  printed = nothing_printed (first.is_cut ≡ true) first.written;
  rose = λ cut. absurd (false≢true (sym unbroken ∙ cut));
  later = omega arith;
}
