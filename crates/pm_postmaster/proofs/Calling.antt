-- The calls of a desk, as a server makes them.
use Rattle.std.{proofs.Common.{◌≡◌, ℕ, List, [], ◌∷◌, refl, ap, sym, subst, ◌∙◌, arith}, specs.Prelude.{true, false, Option, None, Some, IfSome, is_some, length, option_map}}
use Rattle.pm_board_acts.specs.{pm_board.{pm_board_words.declared.views.RosterView.RosterView, Places.slot_at}, Chained.AsksFor, Final.MayEndAnywhere, Seating.{Move, PidsEnd, PortEnds, Reads, Request}, Sitting.KeepsPast, pm_worker.declared.mail.MailTold.MailTold}
use Rattle.pm_server.specs.{pm_supervisor_journal.Laws.KeepsALegalJournal, pm_outside.{Visits.{Visits, after_accept}, declared.port.Accepted.TheVariants.End}, declared.end.ServerEnd.TheVariants.NoMemory, pm_supervisor.Children.one_if}
use Rattle.pm_serve_requests.specs.Requests.{IsNumber}
use Rattle.pm_postmaster.{specs.{Asking.GivesLine, Requests.{AsksSoFar, IsAsked, ended_in}, Links.HasLinks, Serving.{Keeps, Outset, Stops}, View.View}, proofs.{Asked.{OwesOn, asked_all, asked_but_end, asked_but_line, asks_on, ends_now, ends_still, none_read}, Going.{AsksOn, Leaves, LeavesAsking, LeavesOutside, LeavesStore, stopped_as}, Steps.{LinksStay, links_stay, still_on}}}

module _ {D C : Type 0} (gives : C → ℕ → Type 0) (before now : View D C) where
  -- all but the supervisor, its board, and where links and lines come from is as it was
  pub record IsBeside : Type 0 where
    pub table : now.table ≡ before.table
    pub shared : now.shared ≡ before.shared
    pub clock : now.clock ≡ before.clock
    pub log : now.log ≡ before.log
    pub lost : now.lost ≡ before.lost
    pub came : now.came ≡ before.came
    pub tells : is_some now.work.told ≡ is_some before.work.told

  module _ (beside : IsBeside) where
    pub leaves : Leaves gives before now
    leaves = record {
      table = beside.table;
      home = ap (λ s. s.table) beside.shared;
      tokens = ap (λ s. s.tokens) beside.shared;
      joined = ap (λ s. s.joined) beside.shared;
      disk = ap (λ s. s.first) beside.shared;
      clock = beside.clock;
      tells = beside.tells;
    }

    pub leaves_store : KeepsPast before.board now.board → LeavesStore gives before now
    leaves_store past = record { lost = beside.lost; own = ap (λ s. s.own) beside.shared; came = beside.came; past = past }

    pub same_past : now.board ≡ before.board → KeepsPast before.board now.board
    same_past board k = ap (λ (d : RosterView MailTold). (slot_at d k).past) board

    -- nothing was done
    pub still : LeavesOutside gives before now → now.work.standing ≡ before.work.standing → now.work.told ≡ before.work.told → now.board ≡ before.board → Keeps gives before now
    still outside standing told board = λ outset was.
        still_on gives outset before now leaves outside (ap (λ s. s.generation) beside.shared) beside.log standing told board (leaves_store (same_past board)) was

-- A server ends for want of memory where nothing was done, and this was asked of it.
module _ {D C : Type 0} (gives : C → ℕ → Type 0) (before now : View D C) (beside : IsBeside gives before now) (may : MayEndAnywhere MailTold) (legal : KeepsALegalJournal)
    (standing : now.work.standing ≡ before.work.standing) (told : now.work.told ≡ before.work.told) (board : now.board ≡ before.board) where
  -- but for console and port
  abbrev mid : View D C
  mid = record now { visits = before.visits; lines = before.lines; listens = before.listens }

  to_mid : IsBeside gives before mid
  to_mid = record { table = beside.table; shared = beside.shared; clock = beside.clock; log = beside.log; lost = beside.lost; came = beside.came; tells = beside.tells }

  pub stops_as : LinksStay now.board before.visits now.visits
      → ((moves : List Move) → AsksSoFar moves before.lines (ended_in before.visits) before.listens now.work.standing
      → IsAsked NoMemory moves now.lines (ended_in now.visits) now.work.standing.last_pid)
      → Stops gives NoMemory before now
  stops_as stay asked = λ outset was.
      let at = still gives before mid to_mid (record { visits = refl; lines = refl; listens = refl }) standing told board outset was in
      stopped_as gives may legal outset NoMemory mid now.visits now.lines now.listens at tt tt (stay.1 _ at.holds.links) stay.0 (asked at.moves at.asks)

  -- for a shutdown that is owed, whether links are asked for or not
  pub short_owed : now.visits ≡ before.visits → now.lines ≡ before.lines → Stops gives NoMemory before now
  short_owed visits lines =
      stops_as (links_stay now.board before.visits now.visits visits) (λ moves asks.
      subst (λ (l : Option (List (List ℕ))). IsAsked NoMemory moves l (ended_in now.visits) now.work.standing.last_pid) (sym lines)
      (subst (λ (v : Option Visits). IsAsked NoMemory moves before.lines (ended_in v) now.work.standing.last_pid) (sym visits)
      (asked_all NoMemory moves before.lines (ended_in before.visits) before.listens now.work.standing asks (λ owes. refl))))

  -- for what was to be done
  pub short : LeavesOutside gives before now → Stops gives NoMemory before now
  short outside = short_owed outside.visits outside.lines

  -- for what a line asks for that was read
  pub short_line : (line : List ℕ) → GivesLine line before.lines now.lines → now.visits ≡ before.visits → now.work.standing.owes_smart ≡ false → Stops gives NoMemory before now
  short_line line given visits unowed =
      stops_as (links_stay now.board before.visits now.visits visits) (λ moves asks.
      subst (λ (v : Option Visits). IsAsked NoMemory moves now.lines (ended_in v) now.work.standing.last_pid) (sym visits)
      (asked_but_line NoMemory moves before.lines (ended_in before.visits) before.listens now.work.standing asks unowed line now.lines given))

  -- for the shutdown after the port's end
  pub short_end : (n : ℕ) → LinksStay now.board before.visits now.visits → before.listens ≡ true → IfSome (ended_in now.visits) (λ it. it ≡ Some n) → now.lines ≡ before.lines
      → now.work.standing.owes_smart ≡ false → Stops gives NoMemory before now
  short_end n stay hears came lines unowed =
      stops_as stay (λ moves asks.
      subst (λ (l : Option (List (List ℕ))). IsAsked NoMemory moves l (ended_in now.visits) now.work.standing.last_pid) (sym lines)
      (asked_but_end NoMemory moves before.lines (ended_in before.visits) before.listens now.work.standing asks unowed (ended_in now.visits) n hears came))

-- ---- requests

module _ {D C : Type 0} (gives : C → ℕ → Type 0) (outset : Outset D C) (now : View D C) where
  -- a line was read
  pub asks_line : (v : View D C) (line : List ℕ) (lines : Option (List (List ℕ))) (asks : Request) (at : ℕ) → GivesLine line lines v.lines → AsksFor IsNumber line asks → LeavesAsking gives v now
      → OwesOn 0 v.work.standing now.work.standing → AsksOn gives outset (Reads line asks at ∷ []) (record v { lines = lines }) now
  asks_line v line lines asks at given asked leaves owes was =
      asks_on was.moves (Reads line asks at ∷ []) lines now.lines (ended_in v.visits) (ended_in now.visits) v.listens now.listens v.work.standing now.work.standing (line ∷ []) 0 0
      (record { read = (asked, tt); alone = (tt, tt); lines_are = refl; ends_are = refl; pids_are = refl }) (leaves.lines ∙ given)
      (ends_still was.moves (Reads line asks at ∷ []) lines now.lines (ended_in v.visits) (ended_in now.visits) v.listens now.listens v.work.standing now.work.standing refl leaves.ended)
      (let a = ap one_if leaves.listens in omega (arith, a)) owes was.asks

  -- the port's end has come
  pub asks_end : {L : Type 0} (faults : L → ℕ) (before : View D C) (at : ℕ) → now.lines ≡ before.lines → now.visits ≡ option_map (λ v. after_accept faults v End) before.visits
      → before.listens ≡ true → now.listens ≡ false → OwesOn 0 before.work.standing now.work.standing → AsksOn gives outset (PortEnds at ∷ []) before now
  asks_end faults before at lines visits hears deaf owes was =
      asks_on was.moves (PortEnds at ∷ []) before.lines now.lines (ended_in before.visits) (ended_in now.visits) before.listens now.listens before.work.standing now.work.standing [] 1 0
      (record { read = (tt, tt); alone = (tt, tt); lines_are = refl; ends_are = refl; pids_are = refl }) (lines ∙ none_read before.lines)
      (λ few are. ends_now faults before.visits now.visits visits was.moves at outset.count (let one = ap one_if hears in omega (arith, few, one)) are (so_many _ before.board before.visits was.holds.links))
      (let a = ap one_if hears in let b = ap one_if deaf in omega (arith, a, b)) owes was.asks
    where
      so_many : (n : ℕ) (d : RosterView MailTold) (v : Option Visits) → IfSome v (HasLinks n d) → IfSome v (λ its. length its.given ≡ n)
      so_many n d None has = tt
      so_many n d (Some its) has = has.given

  -- the last pid was drawn
  pub asks_pids : (before : View D C) (at : ℕ) → now.lines ≡ before.lines → ended_in now.visits ≡ ended_in before.visits → now.listens ≡ false
      → OwesOn 1 before.work.standing now.work.standing → AsksOn gives outset (PidsEnd at ∷ []) before now
  asks_pids before at lines ended deaf owes was =
      asks_on was.moves (PidsEnd at ∷ []) before.lines now.lines (ended_in before.visits) (ended_in now.visits) before.listens now.listens before.work.standing now.work.standing [] 0 1
      (record { read = (tt, tt); alone = (tt, tt); lines_are = refl; ends_are = refl; pids_are = refl }) (lines ∙ none_read before.lines)
      (ends_still was.moves (PidsEnd at ∷ []) before.lines now.lines (ended_in before.visits) (ended_in now.visits) before.listens now.listens before.work.standing now.work.standing refl ended)
      (let b = ap one_if deaf in omega (arith, b)) owes was.asks
