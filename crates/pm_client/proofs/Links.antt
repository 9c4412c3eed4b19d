-- What passed on a link and was shown, from one moment to the next.
use Rattle.std.{proofs.{Common.{◌≡◌, ◌∙◌, ℕ, ◌≤◌, List, [], ◌++◌, take, drop, Option, None, Some, Ok, Err, refl, sym, ap, subst, arith, append_assoc, take-append-drop}, lemmas.List.append-nil}, specs.Option.option_map}
use Rattle.pm_outside.{specs.{pm_disk.Cause.Rose, Traffic.{Traffic, after_read, after_write, put_behind, came_in_of, went_out_of}, declared.link.{Got.{Got, TheVariants.{Bytes, End}}, Put.TheVariants.{Count, NotYet as PutNotYet, Failed as PutFailed}}, Added.Added}, proofs.{pm_disk.DiskLaws.rose_from, AddedLaws.{added_both, added_none}, TrafficLaws.{got_in, got_none, got_out, wrote_in, wrote_none, wrote_not_yet, wrote_out}}}
use Rattle.pm_client.specs.{Sides.{Carries, HasEnded, LinkView, Prints, Sends, Shows, SinkView}, declared.played.Played.TheVariants.{LinkFault, OutFault}}

pub carries_none : (at : LinkView) → Carries [] [] at at
carries_none at = record { came_in = added_none (came_in_of at.traffic); went_out = added_none (went_out_of at.traffic); later = omega arith }

pub carries_both : (came1 went1 came2 went2 : List ℕ) (a b c : LinkView) → Carries came1 went1 a b → Carries came2 went2 b c → Carries (came1 ++ came2) (went1 ++ went2) a c
carries_both came1 went1 came2 went2 a b c one two = record {
  came_in = added_both came1 came2 (came_in_of a.traffic) (came_in_of b.traffic) (came_in_of c.traffic) one.came_in two.came_in;
  went_out = added_both went1 went2 (went_out_of a.traffic) (went_out_of b.traffic) (went_out_of c.traffic) one.went_out two.went_out;
  later = omega (arith, one.later, two.later);
}

-- where nothing went out the second time
pub carries_in : (came1 went1 came2 : List ℕ) (a b c : LinkView) → Carries came1 went1 a b → Carries came2 [] b c → Carries (came1 ++ came2) went1 a c
carries_in came1 went1 came2 a b c one two =
    subst (λ (w : List ℕ). Carries (came1 ++ came2) w a c) (append-nil went1) (carries_both came1 went1 came2 [] a b c one two)

-- where nothing came in the second time
pub carries_out : (came1 went1 went2 : List ℕ) (a b c : LinkView) → Carries came1 went1 a b → Carries [] went2 b c → Carries came1 (went1 ++ went2) a c
carries_out came1 went1 went2 a b c one two =
    subst (λ (i : List ℕ). Carries i (went1 ++ went2) a c) (append-nil came1) (carries_both came1 went1 [] went2 a b c one two)

pub prints_none : (at : SinkView) → Prints [] at at
prints_none at = record { written = added_none at.written; later = omega arith }

pub prints_both : (one two : List ℕ) (a b c : SinkView) → Prints one a b → Prints two b c → Prints (one ++ two) a c
prints_both one two a b c first second = record {
  written = added_both one two a.written b.written c.written first.written second.written;
  later = omega (arith, first.later, second.later);
}

-- ---- one write

pub wrote : (before now : LinkView) (count : ℕ) (from : List ℕ) → now.traffic ≡ option_map (λ t. after_write t (Count count) from) before.traffic → before.faults ≤ now.faults → Carries [] (take count from) before now
wrote before now count from is later = record {
  came_in = wrote_in before.traffic now.traffic (Count count) from is;
  went_out = wrote_out before.traffic now.traffic count from is;
  later = later;
}

pub wrote_nothing_yet : (before now : LinkView) (from : List ℕ) → now.traffic ≡ option_map (λ t. after_write t PutNotYet from) before.traffic → before.faults ≤ now.faults → Carries [] [] before now
wrote_nothing_yet before now from is later = record {
  came_in = wrote_in before.traffic now.traffic PutNotYet from is;
  went_out = wrote_not_yet before.traffic now.traffic from is;
  later = later;
}

pub write_failed : (before now : LinkView) (from : List ℕ) → now.traffic ≡ option_map (λ t. after_write t PutFailed from) before.traffic → before.faults ≤ now.faults → Carries [] [] before now
write_failed before now from is later = record {
  came_in = wrote_in before.traffic now.traffic PutFailed from is;
  went_out = wrote_none before.traffic now.traffic from is;
  later = later;
}

printed_count : (before now : Option (List ℕ)) (count : ℕ) (from : List ℕ) → now ≡ option_map (λ w. put_behind w (Count count) from) before → Added (take count from) before now
printed_count None now count from is = is
printed_count (Some w) now count from is = is

printed_none : (before now : Option (List ℕ)) (from : List ℕ) → now ≡ option_map (λ w. put_behind w PutFailed from) before → Added [] before now
printed_none None now from is = is
printed_none (Some w) now from is = is ∙ added_none (Some w)

pub printed : (before now : SinkView) (count : ℕ) (from : List ℕ) → now.written ≡ option_map (λ w. put_behind w (Count count) from) before.written → before.faults ≤ now.faults → Prints (take count from) before now
printed before now count from is later = record { written = printed_count before.written now.written count from is; later = later }

pub print_failed : (before now : SinkView) (from : List ℕ) → now.written ≡ option_map (λ w. put_behind w PutFailed from) before.written → before.faults ≤ now.faults → Prints [] before now
print_failed before now from is later = record { written = printed_none before.written now.written from is; later = later }

-- ---- one read

-- bytes were read
pub got_bytes : (before now : LinkView) (count : ℕ) (into : List ℕ) → now.traffic ≡ option_map (λ t. after_read t (Bytes count) into) before.traffic → before.faults ≤ now.faults → Carries (take count into) [] before now
got_bytes before now count into is later = record {
  came_in = got_in before.traffic now.traffic count into is;
  went_out = got_out before.traffic now.traffic (Bytes count) into is;
  later = later;
}

-- nothing was read
pub got_nothing : (result : Got) (before now : LinkView) (into : List ℕ) → ((t : Traffic) → (after_read t result into).came_in ≡ t.came_in) → now.traffic ≡ option_map (λ t. after_read t result into) before.traffic → before.faults ≤ now.faults
    → Carries [] [] before now
got_nothing result before now into keeps is later = record {
  came_in = got_none before.traffic now.traffic result into keeps is;
  went_out = got_out before.traffic now.traffic result into is;
  later = later;
}

ended : (before now : Option Traffic) (into : List ℕ) (faults : ℕ) → now ≡ option_map (λ t. after_read t End into) before → HasEnded (record { traffic = now; faults = faults })
ended None now into faults is = subst (λ (t : Option Traffic). HasEnded (record { traffic = t; faults = faults })) (sym is) tt
ended (Some t) now into faults is = subst (λ (t : Option Traffic). HasEnded (record { traffic = t; faults = faults })) (sym is) refl

pub has_ended : (before now : LinkView) (into : List ℕ) → now.traffic ≡ option_map (λ t. after_read t End into) before.traffic → HasEnded now
has_ended before now into is = ended before.traffic now.traffic into now.faults is

-- ---- all of some bytes

-- they went out but for these, which are the last of them
pub record SentBut (rest bytes : List ℕ) (before now : LinkView) : Type 0 where
  pub went : List ℕ
  pub whole : bytes ≡ went ++ rest
  pub carries : Carries [] went before now

pub sent_none : (bytes : List ℕ) (at : LinkView) → SentBut bytes bytes at at
sent_none bytes at = record { went = []; whole = refl; carries = carries_none at }

further : (bytes went rest left : List ℕ) (count : ℕ) → left ≡ drop count rest → bytes ≡ went ++ rest → bytes ≡ (went ++ take count rest) ++ left
further bytes went rest left count is whole =
    whole ∙ ap (λ (l : List ℕ). went ++ l) (sym (take-append-drop count rest) ∙ ap (λ (l : List ℕ). take count rest ++ l) (sym is)) ∙ sym (append_assoc went (take count rest) left)

pub sent_more : (bytes rest left : List ℕ) (count : ℕ) (a b c : LinkView) → left ≡ drop count rest → SentBut rest bytes a b → Carries [] (take count rest) b c → SentBut left bytes a c
sent_more bytes rest left count a b c is so_far more = record {
  went = so_far.went ++ take count rest;
  whole = further bytes so_far.went rest left count is so_far.whole;
  carries = carries_both [] so_far.went [] (take count rest) a b c so_far.carries more;
}

pub sent_on : (bytes rest : List ℕ) (a b c : LinkView) → SentBut rest bytes a b → Carries [] [] b c → SentBut rest bytes a c
sent_on bytes rest a b c so_far more = record { went = so_far.went; whole = so_far.whole; carries = carries_in [] so_far.went [] a b c so_far.carries more }

pub sends_all : (done : Unit {0}) (rest bytes : List ℕ) (a b : LinkView) → rest ≡ [] → SentBut rest bytes a b → Sends (Ok done) bytes a b
sends_all done rest bytes a b none sent = record { went = sent.went; missing = rest; whole = sent.whole; carries = sent.carries; all = none }

pub sends_failed : (rest bytes : List ℕ) (a b c : LinkView) → SentBut rest bytes a b → Carries [] [] b c → Rose b.faults c.faults → Sends (Err LinkFault) bytes a c
sends_failed rest bytes a b c sent failed rose = record {
  went = sent.went;
  missing = rest;
  whole = sent.whole;
  carries = carries_in [] sent.went [] a b c sent.carries failed;
  all = rose_from a.faults b.faults c.faults sent.carries.later rose;
}

-- the same of a text that is shown
pub record ShownBut (rest text : List ℕ) (before now : SinkView) : Type 0 where
  pub shown : List ℕ
  pub whole : text ≡ shown ++ rest
  pub prints : Prints shown before now

pub shown_none : (text : List ℕ) (at : SinkView) → ShownBut text text at at
shown_none text at = record { shown = []; whole = refl; prints = prints_none at }

pub shown_more : (text rest left : List ℕ) (count : ℕ) (a b c : SinkView) → left ≡ drop count rest → ShownBut rest text a b → Prints (take count rest) b c → ShownBut left text a c
shown_more text rest left count a b c is so_far more = record {
  shown = so_far.shown ++ take count rest;
  whole = further text so_far.shown rest left count is so_far.whole;
  prints = prints_both so_far.shown (take count rest) a b c so_far.prints more;
}

pub shows_all : (done : Unit {0}) (rest text : List ℕ) (a b : SinkView) → rest ≡ [] → ShownBut rest text a b → Shows (Ok done) text a b
shows_all done rest text a b none so_far = record { shown = so_far.shown; missing = rest; whole = so_far.whole; prints = so_far.prints; all = none }

pub shows_failed : (rest text : List ℕ) (a b c : SinkView) → ShownBut rest text a b → Prints [] b c → Rose b.faults c.faults → Shows (Err OutFault) text a c
shows_failed rest text a b c so_far failed rose = record {
  shown = so_far.shown;
  missing = rest;
  whole = so_far.whole;
  prints = subst (λ (l : List ℕ). Prints l a c) (append-nil so_far.shown) (prints_both so_far.shown [] a b c so_far.prints failed);
  all = rose_from a.faults b.faults c.faults so_far.prints.later rose;
}
