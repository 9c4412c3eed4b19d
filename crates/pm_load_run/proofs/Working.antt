-- What was checked.
use Rattle.std.{proofs.Common.{◌≡◌, ◌∙◌, ℕ, ◌≤◌, ◌<◌, List, [], ◌∷◌, length, get_or, Option, IfOk, Result, Ok, Err, sym, ap, arith}, specs.declared.alloc.AllocError.AllocError}
use Rattle.pm_server.specs.{pm_disk.Files.Files, pm_outside.{MemLink.link_traffic, MemPort.links_back, declared.{mem_link.MemLink.MemLink, mem_port.MemPort.MemPort}}, pm_rows.{Fold.RowMap, Standing.Standing}}
use Rattle.pm_load.specs.{Replay.Replayed, Summary.{summary_lines, summary_of}, declared.summary.Summary.Summary}
use Rattle.pm_server_lines.{specs.Print.IsPrinted, proofs.PrintLaws.{printed_as, printed_weaker}}
use Rattle.pm_load_run.specs.Worked.{HasTold, IsLeft, IsMeant, IsWorked}

pub single : (links : List MemLink) (link : MemLink) → 1 ≤ length links → length links < 2 → link ≡ get_or links 0 link → links ≡ link ∷ []
single [] link some one is = absurd (omega (arith, some))
single (first ∷ []) link some one is = ap (λ (l : MemLink). l ∷ []) (sym is)
single (first ∷ second ∷ links) link some one is = absurd (omega (arith, one))

pub worked : (result : Result Summary AllocError) (number : ℕ) (port : MemPort) (files : Files) (meant : Replayed) (link : MemLink) → IsMeant number meant → links_back port ≡ link ∷ [] → (link_traffic link).went_out ≡ meant.sent
    → IfOk result (λ summary. IsLeft meant.standing files summary) → IfOk result (λ summary. IsWorked number port files summary)
worked (Ok summary) number port files meant link is_meant only sent rows = record { meant = meant; is_meant = is_meant; link = link; only = only; sent = sent; left = rows }
worked (Err error) number port files meant link is_meant only sent rows = tt

pub summary_as : (standing : Standing) (rows : RowMap) (count : ℕ) → rows ≡ standing.rows → count ≡ standing.count → summary_of (record { rows = rows; count = count }) ≡ summary_of standing
summary_as standing rows count one two =
    ap (λ (r : RowMap). summary_of (record { rows = r; count = count })) one ∙ ap (λ (n : ℕ). summary_of (record { rows = standing.rows; count = n })) two

-- the text of a summary tells of the rows that are meant
pub tells : {T E : Type 0} (bytes : T → List ℕ) (result : Result T E) (number : ℕ) (port : MemPort) (files : Files) (summary : Summary) → IsWorked number port files summary → IfOk result (λ text. bytes text ≡ summary_lines number summary)
    → IfOk result (λ text. (meant : Replayed) × IsMeant number meant × (bytes text ≡ summary_lines number (summary_of meant.standing)))
tells bytes (Ok text) number port files summary done told = (done.meant, done.is_meant, told ∙ ap (summary_lines number) done.left.same)
tells bytes (Err error) number port files summary done told = tt

-- and what was printed of it
pub printed_so : (number : ℕ) (meant : Replayed) (text words : List ℕ) (one cut : Type 0) (before now : Option (List ℕ)) → IsMeant number meant → words ≡ text → text ≡ summary_lines number (summary_of meant.standing) → (one → cut)
    → IsPrinted words one before now → HasTold number cut before now
printed_so number meant text words one cut before now is_meant same told failed printed = record {
  meant = meant;
  is_meant = is_meant;
  printed = printed_as words (summary_lines number (summary_of meant.standing)) cut before now (same ∙ told) (printed_weaker words one cut before now failed printed);
}
