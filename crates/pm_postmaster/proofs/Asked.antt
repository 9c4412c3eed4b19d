-- What a server was asked for, as its moves go on.
use Rattle.std.{proofs.{Common.{◌≡◌, ℕ, ◌+◌, ◌≤◌, List, [], ◌∷◌, ◌++◌, refl, sym, ap, subst, ◌∙◌, length, arith, append-nil, length-append}, lemmas.List.length_push, Math.Bool.{or-true, or-false}}, specs.{Prelude.{Bool, true, false, ◌==◌, ◌||◌, if◌then◌else◌, Option, None, Some, IfSome, is_some, nat_le, option_map, unwrap_or}, List.AllByRecursion}}
use Rattle.pm_server.specs.{pm_facts.Lists.each_both, pm_supervisor_journal.{Due.is_last_drawn, Standing.Standing, declared.roll.Enrolled.Enrolled}, pm_outside.{Visits.{Visits, after_accept}, declared.port.Accepted.TheVariants.End}, pm_state.{declared.event.PmEvent.PmEvent, Journal.last_pid}, declared.end.ServerEnd.{ServerEnd, TheVariants.NoMemory}, pm_supervisor.Children.one_if}
use Rattle.pm_serve_requests.specs.Requests.{IsNumber}
use Rattle.pm_board_acts.specs.{Chained.{IsReadAs, IsUnasked, pids_accepted, lines_in, pids_end_in, port_ends_in}, Seating.{Kill, Move, Nothing, Notes, PidsEnd, PortEnds, Reads, Request, Seating, Stop, asked_by, empty, entries_from, is_seated, journal_of, seating_by}, pm_worker.declared.mail.MailTold.MailTold}
use Rattle.pm_server.specs.pm_state.declared.event.PmEvent.TheVariants as entry
use Rattle.pm_board_acts.specs.pm_worker.declared.mail.MailTold.TheVariants as mail
use Rattle.pm_postmaster.specs.{Looking.opened, Requests.{AsksSoFar, IsAsked, MayOwe, end_from, ended_in, ended_short}}

-- ---- moves more

pub accepted-append : (xs ys : List PmEvent) → pids_accepted (xs ++ ys) ≡ pids_accepted xs ++ pids_accepted ys
accepted-append [] ys = refl
accepted-append (entry.Accepted pid decision ∷ xs) ys = ap (λ (l : List ℕ). pid ∷ l) (accepted-append xs ys)
accepted-append (entry.Started pid kind ∷ xs) ys = accepted-append xs ys
accepted-append (entry.Exited pid kind status was_active at ∷ xs) ys = accepted-append xs ys
accepted-append (entry.Asked mode at ∷ xs) ys = accepted-append xs ys
accepted-append (entry.KillAsked pid ∷ xs) ys = accepted-append xs ys
accepted-append (entry.QuitSent why ∷ xs) ys = accepted-append xs ys
accepted-append (entry.TerminateSent ∷ xs) ys = accepted-append xs ys
accepted-append (entry.KillSent at ∷ xs) ys = accepted-append xs ys
accepted-append (entry.CheckpointAsked ∷ xs) ys = accepted-append xs ys
accepted-append (entry.RedoEnded generation kept ∷ xs) ys = accepted-append xs ys
accepted-append (entry.Ready generation ∷ xs) ys = accepted-append xs ys
accepted-append (entry.Reset generation ∷ xs) ys = accepted-append xs ys
accepted-append (entry.Said line ∷ xs) ys = accepted-append xs ys
accepted-append (entry.Ended how ∷ xs) ys = accepted-append xs ys

lines_more : (xs ys : List Move) → lines_in (xs ++ ys) ≡ lines_in xs ++ lines_in ys
lines_more [] ys = refl
lines_more (Notes noted slot ∷ xs) ys = lines_more xs ys
lines_more (Reads line asks at ∷ xs) ys = ap (λ (l : List (List ℕ)). line ∷ l) (lines_more xs ys)
lines_more (PortEnds at ∷ xs) ys = lines_more xs ys
lines_more (PidsEnd at ∷ xs) ys = lines_more xs ys

port_more : (xs ys : List Move) → port_ends_in (xs ++ ys) ≡ port_ends_in xs + port_ends_in ys
port_more [] ys = omega arith
port_more (Notes noted slot ∷ xs) ys = port_more xs ys
port_more (Reads line asks at ∷ xs) ys = port_more xs ys
port_more (PortEnds at ∷ xs) ys = omega (arith, port_more xs ys)
port_more (PidsEnd at ∷ xs) ys = port_more xs ys

-- moves that tell of no end
no_end : (n : ℕ) (moves : List Move) → port_ends_in moves ≡ 0 → end_from n moves ≡ None
no_end n [] none = refl
no_end n (Notes noted slot ∷ moves) none = no_end (n + length (pids_accepted (noted ∷ []))) moves none
no_end n (Reads line asks at ∷ moves) none = no_end n moves none
no_end n (PortEnds at ∷ moves) none = absurd (omega (arith, none))
no_end n (PidsEnd at ∷ moves) none = no_end n moves none

-- they leave the end where it was
end_still : (n : ℕ) (xs ys : List Move) → port_ends_in ys ≡ 0 → end_from n (xs ++ ys) ≡ end_from n xs
end_still n [] ys none = no_end n ys none
end_still n (Notes noted slot ∷ xs) ys none = end_still (n + length (pids_accepted (noted ∷ []))) xs ys none
end_still n (Reads line asks at ∷ xs) ys none = end_still n xs ys none
end_still n (PortEnds at ∷ xs) ys none = refl
end_still n (PidsEnd at ∷ xs) ys none = end_still n xs ys none

-- there is one end or none
so_many_ends : (n : ℕ) (moves : List Move) → port_ends_in moves ≤ 1 → one_if (is_some (end_from n moves)) ≡ port_ends_in moves
so_many_ends n [] few = refl
so_many_ends n (Notes noted slot ∷ moves) few = so_many_ends (n + length (pids_accepted (noted ∷ []))) moves few
so_many_ends n (Reads line asks at ∷ moves) few = so_many_ends n moves few
so_many_ends n (PortEnds at ∷ moves) few = omega (arith, few)
so_many_ends n (PidsEnd at ∷ moves) few = so_many_ends n moves few

none_accepted : (asks : Request) (at : ℕ) (seats : List (Option Enrolled)) → pids_accepted (asked_by asks at seats) ≡ []
none_accepted Nothing at seats = refl
none_accepted (Stop how) at seats = refl
none_accepted (Kill pid) at seats = by (is_seated pid seats)
  where
    by : (b : Bool) → pids_accepted (if b then entry.KillAsked pid ∷ [] else []) ≡ []
    by true = refl
    by false = refl

-- the first end stands after all that were accepted
end_behind : (n at : ℕ) (s : Seating) (moves : List Move) → port_ends_in moves ≡ 0
    → end_from n (moves ++ PortEnds at ∷ []) ≡ Some (n + length (pids_accepted (entries_from s moves)))
end_behind n at s [] none = ap (λ (k : ℕ). Some k) (omega arith)
end_behind n at s (Notes noted slot ∷ moves) none =
    let rest : List PmEvent = entries_from (seating_by s (Notes noted slot)) moves in
    let both = ap length (accepted-append (noted ∷ []) rest) in
    let long = length-append (pids_accepted (noted ∷ [])) (pids_accepted rest) in
    end_behind (n + length (pids_accepted (noted ∷ []))) at (seating_by s (Notes noted slot)) moves none ∙ ap (λ (k : ℕ). Some k) (omega (arith, both, long))
end_behind n at s (Reads line asks now ∷ moves) none =
    let rest : List PmEvent = entries_from s moves in
    let both = ap length (accepted-append (asked_by asks now s.seats) rest) in
    let long = length-append (pids_accepted (asked_by asks now s.seats)) (pids_accepted rest) in
    let nobody = ap length (none_accepted asks now s.seats) in
    end_behind n at s moves none ∙ ap (λ (k : ℕ). Some k) (omega (arith, both, long, nobody))
end_behind n at s (PortEnds now ∷ moves) none = absurd (omega (arith, none))
end_behind n at s (PidsEnd now ∷ moves) none = end_behind n at s moves none

pids_more : (xs ys : List Move) → pids_end_in (xs ++ ys) ≡ pids_end_in xs + pids_end_in ys
pids_more [] ys = omega arith
pids_more (Notes noted slot ∷ xs) ys = pids_more xs ys
pids_more (Reads line asks at ∷ xs) ys = pids_more xs ys
pids_more (PortEnds at ∷ xs) ys = pids_more xs ys
pids_more (PidsEnd at ∷ xs) ys = omega (arith, pids_more xs ys)

-- ---- the last pid

-- what is owed after the last pid goes on: so many more were asked for
pub record OwesOn (more : ℕ) (s t : Standing) : Type 0 where
  pub pids : (n : ℕ) → n + one_if s.owes_smart ≡ one_if (is_last_drawn s.last_pid) → n + more + one_if t.owes_smart ≡ one_if (is_last_drawn t.last_pid)
  pub owed : (s.owes_smart ≡ true → MayOwe s) → t.owes_smart ≡ true → MayOwe t

pub owes_same : (s t : Standing) → t ≡ s → OwesOn 0 s t
owes_same s t is = subst (λ (x : Standing). OwesOn 0 s x) (sym is) (record { pids = λ n was. omega (arith, was); owed = λ was owes. was owes })

-- no pid was drawn
pub owes_kept : (s t : Standing) → t.owes_smart ≡ s.owes_smart → t.last_pid ≡ s.last_pid → (MayOwe s → MayOwe t) → OwesOn 0 s t
owes_kept s t still pid may = record {
  pids = λ n was. (let b = ap one_if still in let c = ap (λ (p : ℕ). one_if (is_last_drawn p)) pid in omega (arith, was, b, c));
  owed = λ was owes. may (was (sym still ∙ owes));
}

-- nothing is owed either
pub owes_none : (s t : Standing) → s.owes_smart ≡ false → t.owes_smart ≡ false → t.last_pid ≡ s.last_pid → OwesOn 0 s t
owes_none s t unowed still pid = record {
  pids = λ n was. (let a = ap one_if unowed in let b = ap one_if still in let c = ap (λ (p : ℕ). one_if (is_last_drawn p)) pid in omega (arith, was, a, b, c));
  owed = λ was owes. absurd (let no_ : false ≡ true = sym still ∙ owes in cc);
}

-- it was asked for
pub owes_paid : (s t : Standing) → s.owes_smart ≡ true → t.owes_smart ≡ false → t.last_pid ≡ s.last_pid → OwesOn 1 s t
owes_paid s t owed still pid = record {
  pids = λ n was. (let a = ap one_if owed in let b = ap one_if still in let c = ap (λ (p : ℕ). one_if (is_last_drawn p)) pid in omega (arith, was, a, b, c));
  owed = λ was owes. absurd (let no_ : false ≡ true = sym still ∙ owes in cc);
}

-- a pid was drawn, for a child that is there
pub owes_drawn : (s t : Standing) → t.last_pid ≡ s.last_pid + 1 → t.owes_smart ≡ (s.owes_smart || (s.last_pid + 1 == last_pid)) → MayOwe t → OwesOn 0 s t
owes_drawn s t pid owes may = record {
  pids = λ n was. drawn (s.last_pid + 1 == last_pid) refl n was;
  owed = λ was owed. may;
}
  where
    before_last : (m last : ℕ) → (last + 1 == m) ≡ true → nat_le m last ≡ false
    before_last m last is = grind (arith, is)

    at_last : (m last : ℕ) → (last + 1 == m) ≡ true → nat_le m (last + 1) ≡ true
    at_last m last is = grind (arith, is)

    elsewhere : (m last : ℕ) → (last + 1 == m) ≡ false → nat_le m (last + 1) ≡ nat_le m last
    elsewhere m last isnt = grind (arith, isnt)

    now_drawn : one_if (is_last_drawn t.last_pid) ≡ one_if (is_last_drawn (s.last_pid + 1))
    now_drawn = ap (λ (p : ℕ). one_if (is_last_drawn p)) pid

    drawn : (b : Bool) → (s.last_pid + 1 == last_pid) ≡ b → (n : ℕ) → n + one_if s.owes_smart ≡ one_if (is_last_drawn s.last_pid)
        → n + 0 + one_if t.owes_smart ≡ one_if (is_last_drawn t.last_pid)
    drawn true is n was =
        let a : one_if t.owes_smart ≡ 1 = ap one_if (owes ∙ (ap (λ (x : Bool). s.owes_smart || x) is ∙ or-true s.owes_smart)) in
        let b : one_if (is_last_drawn s.last_pid) ≡ 0 = ap one_if (before_last last_pid s.last_pid is) in
        let c : one_if (is_last_drawn (s.last_pid + 1)) ≡ 1 = ap one_if (at_last last_pid s.last_pid is) in
        let d = now_drawn in
        omega (arith, was, a, b, c, d)
    drawn false isnt n was =
        let a : one_if t.owes_smart ≡ one_if s.owes_smart = ap one_if (owes ∙ (ap (λ (x : Bool). s.owes_smart || x) isnt ∙ or-false s.owes_smart)) in
        let b : one_if (is_last_drawn (s.last_pid + 1)) ≡ one_if (is_last_drawn s.last_pid) = ap one_if (elsewhere last_pid s.last_pid isnt) in
        let d = now_drawn in
        omega (arith, was, a, b, d)

-- ---- what these moves ask for

-- the moves are read as they ask, and ask for this
pub record Adds (more : List Move) (lines : List (List ℕ)) (ends pids : ℕ) : Type 0 where
  pub read : AllByRecursion (IsReadAs IsNumber) more
  pub alone : AllByRecursion IsUnasked more
  pub lines_are : lines_in more ≡ lines
  pub ends_are : port_ends_in more ≡ ends
  pub pids_are : pids_end_in more ≡ pids

-- they ask for nothing
abbrev pub AsksNone : List Move → Type 0
AsksNone more = Adds more [] 0 0

pub none_asked : AsksNone []
none_asked = record { read = tt; alone = tt; lines_are = refl; ends_are = refl; pids_are = refl }

pub none_read : (l : Option (List (List ℕ))) → l ≡ option_map (λ ls. ls ++ []) l
none_read None = refl
none_read (Some its) = ap (λ (x : List (List ℕ)). Some x) (sym (append-nil its))

module _ (earlier more : List Move) (lines lines_now : Option (List (List ℕ))) (ended ended_now : Option (Option ℕ)) (listens listens_now : Bool) (s t : Standing) where
  -- whatever they ask for, told so by console and port
  pub asks_on : (read : List (List ℕ)) (ends pids : ℕ) → Adds more read ends pids → lines_now ≡ option_map (λ ls. ls ++ read) lines
      → (port_ends_in earlier + one_if listens ≤ 1 → IfSome ended (λ it. it ≡ end_from 0 earlier) → IfSome ended_now (λ it. it ≡ end_from 0 (earlier ++ more)))
      → ends + one_if listens_now ≤ one_if listens → OwesOn pids s t
      → AsksSoFar earlier lines ended listens s → AsksSoFar (earlier ++ more) lines_now ended_now listens_now t
  asks_on read ends pids adds given port fewer owes was = record {
    read = each_both (IsReadAs IsNumber) earlier more was.read adds.read;
    alone = each_both IsUnasked earlier more was.alone adds.alone;
    lines_are = subst (λ (l : Option (List (List ℕ))). IfSome l (λ its. its ≡ lines_in (earlier ++ more))) (sym given) (by_lines lines was.lines_are);
    port = port was.before_end was.port;
    before_end = (let a = so_many in let b = was.before_end in omega (arith, a, b, fewer));
    pids = subst (λ (n : ℕ). n + one_if t.owes_smart ≡ one_if (is_last_drawn t.last_pid)) (sym (pids_more earlier more ∙ ap (λ (n : ℕ). pids_end_in earlier + n) adds.pids_are))
        (owes.pids (pids_end_in earlier) was.pids);
    owed = owes.owed was.owed;
  }
    where
      so_many : port_ends_in (earlier ++ more) ≡ port_ends_in earlier + ends
      so_many = port_more earlier more ∙ ap (λ (n : ℕ). port_ends_in earlier + n) adds.ends_are

      by_lines : (l : Option (List (List ℕ))) → IfSome l (λ its. its ≡ lines_in earlier) → IfSome (option_map (λ ls. ls ++ read) l) (λ its. its ≡ lines_in (earlier ++ more))
      by_lines None are = tt
      by_lines (Some its) are =
          ap (λ (l : List (List ℕ)). l ++ read) are ∙ sym (lines_more earlier more ∙ ap (λ (l : List (List ℕ)). lines_in earlier ++ l) adds.lines_are)

  -- the port's end stays where it was
  pub ends_still : port_ends_in more ≡ 0 → ended_now ≡ ended → port_ends_in earlier + one_if listens ≤ 1 → IfSome ended (λ it. it ≡ end_from 0 earlier)
      → IfSome ended_now (λ it. it ≡ end_from 0 (earlier ++ more))
  ends_still none still few are = subst (λ (e : Option ℕ). IfSome ended_now (λ it. it ≡ e)) (sym (end_still 0 earlier more none))
      (subst (λ (o : Option (Option ℕ)). IfSome o (λ it. it ≡ end_from 0 earlier)) (sym still) are)

  -- nothing was asked for here
  pub asks_none : AsksNone more → lines_now ≡ lines → ended_now ≡ ended → listens_now ≡ listens → OwesOn 0 s t
      → AsksSoFar earlier lines ended listens s → AsksSoFar (earlier ++ more) lines_now ended_now listens_now t
  asks_none adds same still hears owes was =
      asks_on [] 0 0 adds (same ∙ none_read lines)
      (ends_still adds.ends_are still) (let a = ap one_if hears in omega (arith, a)) owes was

-- ---- the port's end

module _ {L : Type 0} (faults : L → ℕ) (visits now : Option Visits) (is : now ≡ option_map (λ v. after_accept faults v End) visits) where
  -- it comes, where links were asked for
  pub ends_now : (earlier : List Move) (at count : ℕ) → port_ends_in earlier + 1 ≤ 1 → IfSome (ended_in visits) (λ it. it ≡ end_from 0 earlier)
      → IfSome visits (λ v. length v.given ≡ length (pids_accepted (journal_of count earlier))) → IfSome (ended_in now) (λ it. it ≡ end_from 0 (earlier ++ PortEnds at ∷ []))
  ends_now earlier at count few are given = subst (λ (o : Option Visits). IfSome (ended_in o) (λ it. it ≡ end_from 0 (earlier ++ PortEnds at ∷ []))) (sym is) (by visits are given)
    where
      none : port_ends_in earlier ≡ 0
      none = omega (arith, few)

      behind : end_from 0 (earlier ++ PortEnds at ∷ []) ≡ Some (length (pids_accepted (journal_of count earlier)))
      behind = end_behind 0 at (empty count) earlier none ∙ ap (λ (k : ℕ). Some k) (omega arith)

      by : (o : Option Visits) → IfSome (ended_in o) (λ it. it ≡ end_from 0 earlier) → IfSome o (λ v. length v.given ≡ length (pids_accepted (journal_of count earlier)))
          → IfSome (ended_in (option_map (λ v. after_accept faults v End) o)) (λ it. it ≡ end_from 0 (earlier ++ PortEnds at ∷ []))
      by None are given = tt
      by (Some its) are given =
          ap (λ (e : Option ℕ). Some (unwrap_or e (length its.given))) (are ∙ no_end 0 earlier none) ∙ (ap (λ (k : ℕ). Some k) given ∙ sym behind)

  -- so it has come after some link
  pub has_come : (n : ℕ) × IfSome (ended_in now) (λ it. it ≡ Some n)
  has_come = subst (λ (o : Option Visits). (n : ℕ) × IfSome (ended_in o) (λ it. it ≡ Some n)) (sym is) (by visits)
    where
      by : (o : Option Visits) → (n : ℕ) × IfSome (ended_in (option_map (λ v. after_accept faults v End) o)) (λ it. it ≡ Some n)
      by None = (0, tt)
      by (Some its) = (unwrap_or its.ended_behind (length its.given), refl)

-- ---- what is asked at the end

module _ (end : ServerEnd) (moves : List Move) (lines : Option (List (List ℕ))) (ended : Option (Option ℕ)) (listens : Bool) (s : Standing) (was : AsksSoFar moves lines ended listens s) where
  -- there is one end or none
  ends : one_if (is_some (end_from 0 moves)) ≡ port_ends_in moves
  ends = so_many_ends 0 moves (let few = was.before_end in omega (arith, few))

  -- all that was to be asked for was, but for a smart shutdown that is owed
  pub asked_all : (s.owes_smart ≡ true → ended_short end ≡ true) → IsAsked end moves lines ended s.last_pid
  asked_all short =
      let said = ends in
      let pids = was.pids in
      record {
        given = lines_in moves;
        lines_are = was.lines_are;
        ended_behind = end_from 0 moves;
        ended_is = was.port;
        asks = record {
          unread = [];
          lines_are = sym (append-nil (lines_in moves));
          read = was.read;
          alone = was.alone;
          missing = s.owes_smart;
          port = omega (arith, said);
          pids = omega (arith, pids);
          all = omega (arith, said, pids);
          why = short;
        };
        place = λ n is. is;
      }

  module _ (unowed : s.owes_smart ≡ false) where
    -- a line was read, and there was no memory for what it asks for
    pub asked_but_line : (line : List ℕ) (now : Option (List (List ℕ))) → now ≡ option_map (λ ls. ls ++ line ∷ []) lines → IsAsked NoMemory moves now ended s.last_pid
    asked_but_line line now is =
        let said = ends in
        let pids = was.pids in
        let none = ap one_if unowed in
        let long = length_push (lines_in moves) line in
        record {
          given = lines_in moves ++ line ∷ [];
          lines_are = subst (λ (l : Option (List (List ℕ))). IfSome l (λ its. its ≡ lines_in moves ++ line ∷ [])) (sym is) (by lines was.lines_are);
          ended_behind = end_from 0 moves;
          ended_is = was.port;
          asks = record {
            unread = line ∷ [];
            lines_are = refl;
            read = was.read;
            alone = was.alone;
            missing = true;
            port = omega (arith, said);
            pids = omega (arith, pids);
            all = omega (arith, said, pids, none, long);
            why = λ is. refl;
          };
          place = λ n is. is;
        }
      where
        by : (l : Option (List (List ℕ))) → IfSome l (λ its. its ≡ lines_in moves) → IfSome (option_map (λ ls. ls ++ line ∷ []) l) (λ its. its ≡ lines_in moves ++ line ∷ [])
        by None are = tt
        by (Some its) are = ap (λ (l : List (List ℕ)). l ++ line ∷ []) are

    -- the port's end came, and there was no memory to ask for a shutdown
    pub asked_but_end : (now : Option (Option ℕ)) (n : ℕ) → listens ≡ true → IfSome now (λ it. it ≡ Some n) → IsAsked NoMemory moves lines now s.last_pid
    asked_but_end now n hears came =
        let few = was.before_end in
        let one = ap one_if hears in
        let pids = was.pids in
        let none = ap one_if unowed in
        record {
          given = lines_in moves;
          lines_are = was.lines_are;
          ended_behind = Some n;
          ended_is = came;
          asks = record {
            unread = [];
            lines_are = sym (append-nil (lines_in moves));
            read = was.read;
            alone = was.alone;
            missing = true;
            port = omega (arith, few, one);
            pids = omega (arith, pids);
            all = omega (arith, few, one, pids, none);
            why = λ is. refl;
          };
          place = λ k is. absurd (let no_ : None ≡ Some k = sym (no_end 0 moves (omega (arith, few, one))) ∙ is in cc);
        }

-- ---- the port

-- a link that comes back is no end
pub ended_opened : (back : MailTold) (visits : Option Visits) → ended_in (option_map (opened back) visits) ≡ ended_in visits
ended_opened back None = refl
ended_opened (mail.Served link) (Some its) = refl
ended_opened (mail.Serve link decision) (Some its) = refl
ended_opened mail.Startup (Some its) = refl
ended_opened mail.Checkpointer (Some its) = refl
ended_opened mail.Writer (Some its) = refl
ended_opened mail.Close (Some its) = refl
ended_opened (mail.Aux fault kept) (Some its) = refl
