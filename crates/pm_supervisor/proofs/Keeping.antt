-- What is shared keeps its invariant, by its own events alone.
use Rattle.std.{proofs.Common.{◌≡◌, ◌≢◌, ℕ, ◌+◌, ◌≤◌, nat_eq, cond, Bool, true, false, ◌&&◌, List, [], ◌∷◌, Option, Some, None, refl, arith}, specs.Prelude.IsSomeAnd}
use Rattle.pm_supervisor.{specs.{Children.{Child, is_session, is_dead_end, child_of, without, marked, one_if, attached_sessions}, Supervisor.{Shared, first}, Shared.{SharedEvent, Join, Attach, Touch, Detach, Leave, Notice, Open, Reset, Allows, MayAttach, IsKept, after_shared}}, proofs.{RunLaws.each-without, Lists.{each_map, each-marked, each-marked_any, some_map, differ-without, differ-marked}}}

fewer-without : (pid : ℕ) (cs : List Child) → attached_sessions (without pid cs) ≤ attached_sessions cs
fewer-without pid [] = omega arith
fewer-without pid (c ∷ cs) =
    elim (nat_eq c.pid pid) as
    (λ v. attached_sessions (cond v cs (c ∷ without pid cs)) ≤ one_if (is_session c.kind && c.attached) + attached_sessions cs) [
      | true ↦ omega arith
      | false ↦ omega (arith, fewer-without pid cs)
    ]

mark-none : (b : Bool) → one_if (b && false) ≤ 0
mark-none true = omega arith
mark-none false = omega arith

mark-one : (b : Bool) → one_if (b && true) ≤ 1
mark-one true = omega arith
mark-one false = omega arith

fewer-detached : (pid : ℕ) (cs : List Child) → attached_sessions (marked pid false cs) ≤ attached_sessions cs
fewer-detached pid [] = omega arith
fewer-detached pid (c ∷ cs) =
    elim (nat_eq c.pid pid) as
    (λ v. attached_sessions (cond v (record c { attached = false } ∷ cs) (c ∷ marked pid false cs))
    ≤ one_if (is_session c.kind && c.attached) + attached_sessions cs) [
      | true ↦ omega (arith, mark-none (is_session c.kind))
      | false ↦ omega (arith, fewer-detached pid cs)
    ]

one-attached : (pid : ℕ) (cs : List Child) → attached_sessions (marked pid true cs) ≤ 1 + attached_sessions cs
one-attached pid [] = omega arith
one-attached pid (c ∷ cs) =
    elim (nat_eq c.pid pid) as
    (λ v. attached_sessions (cond v (record c { attached = true } ∷ cs) (c ∷ marked pid true cs))
    ≤ 1 + (one_if (is_session c.kind && c.attached) + attached_sessions cs)) [
      | true ↦ omega (arith, mark-one (is_session c.kind))
      | false ↦ omega (arith, one-attached pid cs)
    ]

same-attached : (pid : ℕ) (cs : List Child) → IsSomeAnd (child_of pid cs) (λ c. is_session c.kind ≡ false)
    → attached_sessions (marked pid true cs) ≤ attached_sessions cs
same-attached pid [] found = absurd found
same-attached pid (c ∷ cs) found =
    elim (nat_eq c.pid pid) as
    (λ v. IsSomeAnd (cond v (Some c) (child_of pid cs)) (λ d. is_session d.kind ≡ false)
    → attached_sessions (cond v (record c { attached = true } ∷ cs) (c ∷ marked pid true cs))
    ≤ one_if (is_session c.kind && c.attached) + attached_sessions cs) [
      | true ↦ λ other. rw other (omega arith)
      | false ↦ λ later. omega (arith, same-attached pid cs later)
    ]
    found

-- a session or not: within the limit
attaches-within : (limit reserve : ℕ) (s : Shared) (pid : ℕ) (o : Option Child) → child_of pid s.children ≡ o → IsSomeAnd o (MayAttach limit reserve s)
    → attached_sessions s.children ≤ limit → attached_sessions (marked pid true s.children) ≤ limit
attaches-within limit reserve s pid None is may within = absurd may
attaches-within limit reserve s pid (Some c) is may within =
    elim (is_session c.kind) as (λ v. is_session c.kind ≡ v → attached_sessions (marked pid true s.children) ≤ limit) [
      | true ↦ λ session. omega (arith, one-attached pid s.children, (may.3 session).1)
      | false ↦ λ other. omega (arith, same-attached pid s.children (rw is other), within)
    ]
    refl

stays : (limit : ℕ) (s t : Shared) → t.children ≡ s.children → t.last_pid ≡ s.last_pid → t.generation ≡ s.generation → (s.is_open ≡ true → t.is_open ≡ true)
    → IsKept limit s → IsKept limit t
stays limit s t cs last generation opens kept =
    record {
      pids_differ = rw cs kept.pids_differ;
      pids_rise = rw (cs, last) kept.pids_rise;
      generations = rw (cs, generation) kept.generations;
      attached_in_open = rw cs
          (each_map (λ c. is_session c.kind ≡ true → c.attached ≡ true → s.is_open ≡ true)
          (λ c. is_session c.kind ≡ true → c.attached ≡ true → t.is_open ≡ true)
          (λ c h session attached. opens (h session attached)) s.children kept.attached_in_open);
      dead_ends_apart = rw cs kept.dead_ends_apart;
      within_limit = rw cs kept.within_limit;
    }

pub keeps : (limit : ℕ) (s : Shared) (e : SharedEvent) → Allows limit s e → IsKept limit s → IsKept limit (after_shared s e)
keeps limit s (Join pid kind) above kept =
    record {
      pids_differ = (
        each_map (λ c. c.pid ≤ s.last_pid) (λ c. c.pid ≢ pid) (λ c below same. absurd (omega arith)) s.children kept.pids_rise,
        kept.pids_differ,
      );
      pids_rise =
          (omega arith, each_map (λ c. c.pid ≤ s.last_pid) (λ c. c.pid ≤ pid) (λ c below. omega arith) s.children kept.pids_rise);
      generations = (refl, kept.generations);
      attached_in_open = (λ session attached. absurd (cc), kept.attached_in_open);
      dead_ends_apart = (λ refuses. refl, kept.dead_ends_apart);
      within_limit = omega (arith, mark-none (is_session kind), kept.within_limit);
    }
keeps limit s (Attach pid reserve) may kept =
    record {
      pids_differ = differ-marked pid true s.children kept.pids_differ;
      pids_rise = each-marked_any (λ c. c.pid ≤ s.last_pid) pid true (λ c h. h) s.children kept.pids_rise;
      generations = each-marked_any (λ c. c.generation ≡ s.generation) pid true (λ c h. h) s.children kept.generations;
      attached_in_open =
          each-marked (λ c. is_session c.kind ≡ true → c.attached ≡ true → s.is_open ≡ true) pid true s.children
          (some_map (MayAttach limit reserve s) (λ c. is_session c.kind ≡ true → true ≡ true → s.is_open ≡ true)
          (λ c fits session attached. (fits.3 session).0) (child_of pid s.children) may)
          kept.attached_in_open;
      dead_ends_apart =
          each-marked (λ c. is_dead_end c.kind ≡ true → c.attached ≡ false) pid true s.children
          (some_map (MayAttach limit reserve s) (λ c. is_dead_end c.kind ≡ true → true ≡ false)
          (λ c fits refuses. absurd (let no : is_dead_end c.kind ≡ false = fits.1 in cc)) (child_of pid s.children) may)
          kept.dead_ends_apart;
      within_limit = attaches-within limit reserve s pid (child_of pid s.children) refl may kept.within_limit;
    }
keeps limit s (Touch pid) may kept = kept
keeps limit s (Detach pid) may kept =
    record {
      pids_differ = differ-marked pid false s.children kept.pids_differ;
      pids_rise = each-marked_any (λ c. c.pid ≤ s.last_pid) pid false (λ c h. h) s.children kept.pids_rise;
      generations = each-marked_any (λ c. c.generation ≡ s.generation) pid false (λ c h. h) s.children kept.generations;
      attached_in_open =
          each-marked_any (λ c. is_session c.kind ≡ true → c.attached ≡ true → s.is_open ≡ true) pid false
          (λ c h session attached. absurd (cc)) s.children kept.attached_in_open;
      dead_ends_apart =
          each-marked_any (λ c. is_dead_end c.kind ≡ true → c.attached ≡ false) pid false (λ c h refuses. refl) s.children kept.dead_ends_apart;
      within_limit = omega (arith, fewer-detached pid s.children, kept.within_limit);
    }
keeps limit s (Leave pid kind) may kept =
    record {
      pids_differ = differ-without pid s.children kept.pids_differ;
      pids_rise = each-without _ pid s.children kept.pids_rise;
      generations = each-without _ pid s.children kept.generations;
      attached_in_open = each-without _ pid s.children kept.attached_in_open;
      dead_ends_apart = each-without _ pid s.children kept.dead_ends_apart;
      within_limit = omega (arith, fewer-without pid s.children, kept.within_limit);
    }
keeps limit s (Notice why) may kept = stays limit s (after_shared s (Notice why)) refl refl refl (λ is. is) kept
keeps limit s Open may kept = stays limit s (after_shared s Open) refl refl refl (λ is. refl) kept
keeps limit s Reset may kept =
    let empty : s.children ≡ [] = may in
    record {
      pids_differ = rw empty tt;
      pids_rise = rw empty tt;
      generations = rw empty tt;
      attached_in_open = rw empty tt;
      dead_ends_apart = rw empty tt;
      within_limit = rw empty (omega arith);
    }

pub kept-first : (limit : ℕ) → IsKept limit first.shared
kept-first limit =
    record {
      pids_differ = tt;
      pids_rise = tt;
      generations = tt;
      attached_in_open = tt;
      dead_ends_apart = tt;
      within_limit = omega arith;
    }
