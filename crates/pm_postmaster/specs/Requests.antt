-- What a server was asked for.
use Rattle.std.specs.{Prelude.{◌≡◌, ◌≢◌, ℕ, ◌+◌, ◌≤◌, ◌∷◌, Bool, true, false, List, [], Option, None, Some, IfSome, is_some, length, option_map}, List.AllByRecursion}
use Rattle.pm_server.specs.{pm_supervisor_journal.{Due.is_last_drawn, Standing.Standing}, pm_outside.Visits.Visits, declared.end.ServerEnd.{ServerEnd, TheVariants.NoMemory}, pm_supervisor.Children.one_if}
use Rattle.pm_serve_requests.specs.{Requests.IsNumber, pm_board_acts.{Chained.{AsksAsTold, IsReadAs, IsUnasked, pids_accepted, lines_in, pids_end_in, port_ends_in}, Seating.{Move, Notes, Reads, PortEnds, PidsEnd}}}

-- after how many links a port gave its end, if it did, where it tells
abbrev pub ended_in : Option Visits → Option (Option ℕ)
ended_in visits = option_map (λ its. its.ended_behind) visits

-- after how many connections accepted the moves tell of the port's end, if they do, where so many were accepted before them
abbrev pub end_from : ℕ → List Move → Option ℕ
end_from n [] = None
end_from n (Notes noted slot ∷ moves) = end_from (n + length (pids_accepted (noted ∷ []))) moves
end_from n (Reads line asks at ∷ moves) = end_from n moves
end_from n (PortEnds at ∷ moves) = Some n
end_from n (PidsEnd at ∷ moves) = end_from n moves

-- memory was short
abbrev pub ended_short : ServerEnd → Bool
ended_short NoMemory = true
ended_short _ = false

-- The requests of a run that ended so are those of the lines that its console gave, of its port's end and of the last pid. A console
-- or a port that doesn't tell has given some lines, and has ended or not.
pub record IsAsked (end : ServerEnd) (moves : List Move) (lines : Option (List (List ℕ))) (ended : Option (Option ℕ)) (last_pid : ℕ) : Type 0 where
  pub given : List (List ℕ)
  pub lines_are : IfSome lines (λ its. its ≡ given)
  pub ended_behind : Option ℕ
  pub ended_is : IfSome ended (λ it. it ≡ ended_behind)
  pub asks : AsksAsTold IsNumber moves given (is_some ended_behind) (is_last_drawn last_pid) (ended_short end)
  -- the port's end stands where it came, after the links that were given by then
  pub place : (n : ℕ) → end_from 0 moves ≡ Some n → ended_behind ≡ Some n

-- ---- at every moment

-- A smart shutdown is owed only while the machine goes on, and a child is there: that with the last pid.
pub record MayOwe (s : Standing) : Type 0 where
  pub goes_on : s.machine.ended ≡ false
  pub someone : s.children ≢ []

-- the same of the moves so far, but for a smart shutdown that is owed
pub record AsksSoFar (moves : List Move) (lines : Option (List (List ℕ))) (ended : Option (Option ℕ)) (listens : Bool) (s : Standing) : Type 0 where
  pub read : AllByRecursion (IsReadAs IsNumber) moves
  pub alone : AllByRecursion IsUnasked moves
  pub lines_are : IfSome lines (λ its. its ≡ lines_in moves)
  pub port : IfSome ended (λ it. it ≡ end_from 0 moves)
  -- links are asked for only before the port's end
  pub before_end : port_ends_in moves + one_if listens ≤ 1
  pub pids : pids_end_in moves + one_if s.owes_smart ≡ one_if (is_last_drawn s.last_pid)
  pub owed : s.owes_smart ≡ true → MayOwe s
