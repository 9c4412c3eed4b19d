-- What a read leaves in the inbox.
use Rattle.std.{proofs.{Common.{◌≡◌, ◌≢◌, ◌∙◌, ℕ, ◌<◌, ◌≤◌, true, false, List, [], ◌++◌, length, take, drop, Ok, Err, refl, sym, ap, subst, arith, append_assoc, length-take, length-append}, lemmas.List.{append-nil, take-append-le, length-take-le, take-take, nil_from_length}}, specs.Option.option_map}
use Rattle.pm_outside.{specs.{pm_disk.Cause.Rose, Traffic.after_read, declared.link.Got.TheVariants.{Bytes, NotYet, End, Failed}}, proofs.pm_disk.DiskLaws.rose_from}
use Rattle.pm_client.{specs.{declared.played.Played.{Played, TheVariants.{Done, LinkFault, OutFault, BadReply, NoMemory}}, Sides.{Carries, LinkView}, Hearing.{Awaits, IsNoMore, Reads, Receives}}, proofs.Links.{carries_both, carries_none, got_bytes, got_nothing, has_ended}}

-- what stands in a buffer into which nothing was read
pub stands_still : (start have size : ℕ) (xs ys post rest : List ℕ) → have ≤ length xs → have ≤ size → drop start (take have (take size ((take have xs ++ (ys ++ post)) ++ rest))) ≡ drop start (take have xs)
stands_still start have size xs ys post rest within room =
    let together : (take have xs ++ (ys ++ post)) ++ rest ≡ take have xs ++ (ys ++ (post ++ rest)) = simp append_assoc in
    let front : length (take have xs) ≡ have = length-take-le have xs within in
    ap (λ (l : List ℕ). drop start l)
    (take-take have size ((take have xs ++ (ys ++ post)) ++ rest) room ∙ ap (λ (l : List ℕ). take have l) together ∙ take-append-le have (take have xs) (ys ++ (post ++ rest)) (omega (arith, front))
    ∙ take-take have have xs (omega arith))

pub reads_some : (count : ℕ) (into unread_before unread_now : List ℕ) (before now : LinkView) → 1 ≤ count → count ≤ length into → now.traffic ≡ option_map (λ t. after_read t (Bytes count) into) before.traffic → before.faults ≤ now.faults
    → unread_now ≡ unread_before ++ take count into → Reads (Ok true) unread_before unread_now before now
reads_some count into unread_before unread_now before now some fits is later behind = record {
  came = take count into;
  unread = behind;
  carries = got_bytes before now count into is later;
  got = λ e. absurd (omega (arith, some, fits, length-take count into, ap length e));
}

pub reads_nothing : (into unread_before unread_now : List ℕ) (before now : LinkView) → now.traffic ≡ option_map (λ t. after_read t NotYet into) before.traffic → before.faults ≤ now.faults → unread_now ≡ unread_before → Reads (Ok false) unread_before unread_now before now
reads_nothing into unread_before unread_now before now is later same = record {
  came = [];
  unread = same ∙ sym (append-nil unread_before);
  carries = got_nothing NotYet before now into (λ t. refl) is later;
  got = refl;
}

pub reads_end : (into unread_before unread_now : List ℕ) (before now : LinkView) → now.traffic ≡ option_map (λ t. after_read t End into) before.traffic → before.faults ≤ now.faults → unread_now ≡ unread_before
    → Reads (Err (Done true)) unread_before unread_now before now
reads_end into unread_before unread_now before now is later same = record {
  came = [];
  unread = same ∙ sym (append-nil unread_before);
  carries = got_nothing End before now into (λ t. refl) is later;
  got = (refl, has_ended before now into is);
}

pub reads_failed : (into unread_before unread_now : List ℕ) (before now : LinkView) → now.traffic ≡ option_map (λ t. after_read t Failed into) before.traffic → before.faults ≤ now.faults → Rose before.faults now.faults → unread_now ≡ unread_before
    → Reads (Err LinkFault) unread_before unread_now before now
reads_failed into unread_before unread_now before now is later rose same = record {
  came = [];
  unread = same ∙ sym (append-nil unread_before);
  carries = got_nothing Failed before now into (λ t. refl) is later;
  got = (refl, rose);
}

pub reads_no_more : (unread_before unread_now : List ℕ) (at : LinkView) → unread_now ≡ unread_before → Reads (Err NoMemory) unread_before unread_now at at
reads_no_more unread_before unread_now at same = record { came = []; unread = same ∙ sym (append-nil unread_before); carries = carries_none at; got = (refl, tt) }

-- ---- waiting

no_more_since : (played : Played) (a b c : LinkView) → a.faults ≤ b.faults → IsNoMore played b c → IsNoMore played a c
no_more_since (Done true) a b c early why = why
no_more_since (Done false) a b c early why = absurd why
no_more_since LinkFault a b c early why = rose_from a.faults b.faults c.faults early why
no_more_since OutFault a b c early why = absurd why
no_more_since (BadReply fault) a b c early why = absurd why
no_more_since NoMemory a b c early why = why

pub receives_some : (before between now : List ℕ) (a b c : LinkView) → between ≡ before → Carries [] [] a b → Reads (Ok true) between now b c → Receives (Ok tt) before now a c
receives_some before between now a b c same none reads = record {
  came = reads.came;
  unread = reads.unread ∙ ap (λ (l : List ℕ). l ++ reads.came) same;
  carries = carries_both [] [] reads.came [] a b c none reads.carries;
  why = reads.got;
}

pub receives_nothing : (before between now : List ℕ) (a b c : LinkView) → between ≡ before → Carries [] [] a b → Reads (Ok false) between now b c → (now ≡ before) × Carries [] [] a c
receives_nothing before between now a b c same none reads = (
  reads.unread ∙ ap (λ (l : List ℕ). between ++ l) reads.got ∙ append-nil between ∙ same,
  subst (λ (l : List ℕ). Carries l [] a c) reads.got (carries_both [] [] reads.came [] a b c none reads.carries),
)

pub receives_no_more : (played : Played) (before between now : List ℕ) (a b c : LinkView) → between ≡ before → Carries [] [] a b → Reads (Err played) between now b c → Receives (Err played) before now a c
receives_no_more played before between now a b c same none reads = record {
  came = reads.came;
  unread = reads.unread ∙ ap (λ (l : List ℕ). l ++ reads.came) same;
  carries = carries_both [] [] reads.came [] a b c none reads.carries;
  why = (reads.got.0, no_more_since played a b c none.later reads.got.1);
}

-- more came while so many bytes were awaited
pub record Came (before now : List ℕ) (a b : LinkView) : Type 0 where
  pub came : List ℕ
  pub unread : now ≡ before ++ came
  pub carries : Carries came [] a b

pub came_none : (before : List ℕ) (at : LinkView) → Came before before at at
came_none before at = record { came = []; unread = sym (append-nil before); carries = carries_none at }

came_then : (before between now came : List ℕ) (a b c : LinkView) → Came before between a b → now ≡ between ++ came → Carries came [] b c → Came before now a c
came_then before between now came a b c so_far is carries = record {
  came = so_far.came ++ came;
  unread = is ∙ ap (λ (l : List ℕ). l ++ came) so_far.unread ∙ append_assoc before so_far.came came;
  carries = carries_both so_far.came [] came [] a b c so_far.carries carries;
}

pub came_more : (done : Unit {0}) (before between now : List ℕ) (a b c : LinkView) → Came before between a b → Receives (Ok done) between now b c → Came before now a c
came_more done before between now a b c so_far more = came_then before between now more.came a b c so_far more.unread more.carries

pub longer : (done : Unit {0}) (between now : List ℕ) (b c : LinkView) → Receives (Ok done) between now b c → length between < length now
longer done between now b c more =
    let some : length more.came ≢ 0 = λ e. more.why (nil_from_length more.came e) in
    omega (arith, some, ap length more.unread, length-append between more.came)

pub awaits_all : (wanted : ℕ) (before now : List ℕ) (a b : LinkView) → Came before now a b → wanted ≤ length now → Awaits wanted (Ok tt) before now a b
awaits_all wanted before now a b so_far all = record { came = so_far.came; unread = so_far.unread; carries = so_far.carries; why = all }

pub awaits_no_more : (wanted : ℕ) (played : Played) (before between now : List ℕ) (a b c : LinkView) → Came before between a b → length between < wanted → Receives (Err played) between now b c → Awaits wanted (Err played) before now a c
awaits_no_more wanted played before between now a b c so_far few more =
    let all = came_then before between now more.came a b c so_far more.unread more.carries in
    record {
      came = all.came;
      unread = all.unread;
      carries = all.carries;
      why = (omega (arith, few, ap length more.unread, length-append between more.came, ap length more.why.0), no_more_since played a b c so_far.carries.later more.why.1);
    }
