-- What passed on a link, from one moment to the next.
use Rattle.std.{proofs.{Common.{◌≡◌, ℕ, ◌≤◌, ◌||◌, Bool, true, false, List, [], ◌++◌, length, take, drop, take-append-drop, length-take, Option, None, Some, refl, sym, ◌∙◌, ap, subst, arith, append_assoc}, lemmas.{Bool.or_from, List.append-nil}}, specs.Option.option_map}
use Rattle.pm_session_exchange.{specs.{declared.ending.Cause.TheVariants.LinkFailed, Exchange.{LinkView, link_view, HasEnded, Passes, HoldsReading, IsSound, IsLeftFor, IsWaiting, Reads, Receives, ReceivesNothing, SentAllBut}}, proofs.LinkLaws.passes_both}
use Rattle.pm_outside.{specs.{Traffic.{Traffic, GotWithin, after_read, after_write}, declared.link.{Got.{Got, TheVariants.{Bytes, NotYet, End, Failed}}, Put.{Put, TheVariants.{Count, NotYet as PutNotYet, Failed as PutFailed}}}, pm_disk.Cause.IsCounted}, proofs.TrafficLaws.{got_in, got_none, got_out, wrote_in, wrote_none, wrote_not_yet, wrote_out}}

-- ---- one write

end_stays : (before now : Option Traffic) (put : Put) (from : List ℕ) → now ≡ option_map (λ t. after_write t put from) before → HasEnded before → HasEnded now
end_stays None now put from is ended = subst HasEnded (sym is) tt
end_stays (Some t) now put from is ended = subst HasEnded (sym is) ended

pub wrote : (before now : LinkView) (count : ℕ) (from : List ℕ) → now.traffic ≡ option_map (λ t. after_write t (Count count) from) before.traffic → now.number ≡ before.number → before.faults ≤ now.faults
    → Passes [] (take count from) before now
wrote before now count from is same later = record {
  came_in = wrote_in before.traffic now.traffic (Count count) from is;
  went_out = wrote_out before.traffic now.traffic count from is;
  ended = end_stays before.traffic now.traffic (Count count) from is;
  number = same;
  later = later;
}

pub wrote_nothing_yet : (before now : LinkView) (from : List ℕ) → now.traffic ≡ option_map (λ t. after_write t PutNotYet from) before.traffic → now.number ≡ before.number → before.faults ≤ now.faults → Passes [] [] before now
wrote_nothing_yet before now from is same later = record {
  came_in = wrote_in before.traffic now.traffic PutNotYet from is;
  went_out = wrote_not_yet before.traffic now.traffic from is;
  ended = end_stays before.traffic now.traffic PutNotYet from is;
  number = same;
  later = later;
}

pub write_failed : (before now : LinkView) (from : List ℕ) → now.traffic ≡ option_map (λ t. after_write t PutFailed from) before.traffic → now.number ≡ before.number → before.faults ≤ now.faults → Passes [] [] before now
write_failed before now from is same later = record {
  came_in = wrote_in before.traffic now.traffic PutFailed from is;
  went_out = wrote_none before.traffic now.traffic from is;
  ended = end_stays before.traffic now.traffic PutFailed from is;
  number = same;
  later = later;
}

-- so many more are sent
pub sends_more : (bytes rest left : List ℕ) (count : ℕ) (a b c : LinkView) → left ≡ drop count rest → SentAllBut rest bytes a b → Passes [] (take count rest) b c → SentAllBut left bytes a c
sends_more bytes rest left count a b c is so_far more = record {
  went = so_far.went ++ take count rest;
  whole = so_far.whole ∙ ap (λ (l : List ℕ). so_far.went ++ l) (sym (take-append-drop count rest) ∙ ap (λ (l : List ℕ). take count rest ++ l) (sym is)) ∙ sym (append_assoc so_far.went (take count rest) left);
  passes = passes_both [] so_far.went [] (take count rest) a b c so_far.passes more;
}

-- a link that tells the same has sent the same
pub sent_as : (bytes rest : List ℕ) (a : LinkView) (before now : Option Traffic) (number_before number_now faults_before faults_now : ℕ) → now ≡ before → number_now ≡ number_before → faults_now ≡ faults_before
    → SentAllBut rest bytes a (link_view before number_before faults_before) → SentAllBut rest bytes a (link_view now number_now faults_now)
sent_as bytes rest a before now number_before number_now faults_before faults_now traffic number faults sent =
    let same : link_view now number_now faults_now ≡ link_view before number_before faults_before = cc in
    subst (SentAllBut rest bytes a) (sym same) sent

-- nothing more is sent
pub sends_on : (bytes rest : List ℕ) (a b c : LinkView) → SentAllBut rest bytes a b → Passes [] [] b c → SentAllBut rest bytes a c
sends_on bytes rest a b c so_far more = record {
  went = so_far.went;
  whole = so_far.whole;
  passes = subst (λ (went : List ℕ). Passes [] went a c) (append-nil so_far.went) (passes_both [] so_far.went [] [] a b c so_far.passes more);
}

-- ---- one read

end_behind : (before now : Option Traffic) (result : Got) (into : List ℕ) → now ≡ option_map (λ t. after_read t result into) before → HasEnded before → HasEnded now
end_behind None now result into is ended = subst HasEnded (sym is) tt
end_behind (Some t) now (Bytes count) into is ended = subst HasEnded (sym is) ended
end_behind (Some t) now NotYet into is ended = subst HasEnded (sym is) ended
end_behind (Some t) now End into is ended = subst HasEnded (sym is) refl
end_behind (Some t) now Failed into is ended = subst HasEnded (sym is) ended

-- the bytes that a read gave
abbrev pub got_bytes : Got → List ℕ → List ℕ
got_bytes (Bytes count) into = take count into
got_bytes NotYet into = []
got_bytes End into = []
got_bytes Failed into = []

nothing_came : (unread_before unread_now : List ℕ) (before now : LinkView) (result : Got) (into : List ℕ) → ((t : Traffic) → (after_read t result into).came_in ≡ t.came_in)
    → now.traffic ≡ option_map (λ t. after_read t result into) before.traffic → now.number ≡ before.number → before.faults ≤ now.faults → unread_now ≡ unread_before ++ [] → ReceivesNothing unread_before unread_now before now
nothing_came unread_before unread_now before now result into keeps is same later behind = record {
  unread = behind ∙ append-nil unread_before;
  passes = record {
    came_in = got_none before.traffic now.traffic result into keeps is;
    went_out = got_out before.traffic now.traffic result into is;
    ended = end_behind before.traffic now.traffic result into is;
    number = same;
    later = later;
  };
}

has_ended : (before now : Option Traffic) (into : List ℕ) → now ≡ option_map (λ t. after_read t End into) before → HasEnded now
has_ended None now into is = subst HasEnded (sym is) tt
has_ended (Some t) now into is = subst HasEnded (sym is) refl

is_waiting : (before now : Option Traffic) (into : List ℕ) → now ≡ option_map (λ t. after_read t NotYet into) before → IsWaiting now
is_waiting None now into is = subst IsWaiting (sym is) tt
is_waiting (Some t) now into is = subst IsWaiting (sym is) refl

-- what one read did, where what it gave comes after what stood
pub has_read : (result : Got) (into unread_before unread_now : List ℕ) (before now : LinkView) → GotWithin result (length into) → now.traffic ≡ option_map (λ t. after_read t result into) before.traffic → now.number ≡ before.number
    → IsCounted before.faults now.faults (result ≡ Failed) → unread_now ≡ unread_before ++ got_bytes result into → Reads result unread_before unread_now before now
has_read (Bytes count) into unread_before unread_now before now within is same counted behind = record {
  came = take count into;
  some = λ e. absurd (omega (arith, within.0, within.1, length-take count into, ap length e));
  unread = behind;
  passes = record {
    came_in = got_in before.traffic now.traffic count into is;
    went_out = got_out before.traffic now.traffic (Bytes count) into is;
    ended = end_behind before.traffic now.traffic (Bytes count) into is;
    number = same;
    later = counted.later;
  };
}
has_read NotYet into unread_before unread_now before now within is same counted behind =
    (nothing_came unread_before unread_now before now NotYet into (λ t. refl) is same counted.later behind, is_waiting before.traffic now.traffic into is)
has_read End into unread_before unread_now before now within is same counted behind =
    (nothing_came unread_before unread_now before now End into (λ t. refl) is same counted.later behind, has_ended before.traffic now.traffic into is)
has_read Failed into unread_before unread_now before now within is same counted behind =
    (nothing_came unread_before unread_now before now Failed into (λ t. refl) is same counted.later behind, counted.rose refl)

-- one look after others that found nothing
pub received_then : (unread0 unread1 unread2 : List ℕ) (a b c : LinkView) → ReceivesNothing unread0 unread1 a b → Receives unread1 unread2 b c → Receives unread0 unread2 a c
received_then unread0 unread1 unread2 a b c none some = record {
  came = some.came;
  some = some.some;
  unread = some.unread ∙ ap (λ (l : List ℕ). l ++ some.came) none.unread;
  passes = passes_both [] [] some.came [] a b c none.passes some.passes;
}

pub nothing_then : (unread0 unread1 unread2 : List ℕ) (a b c : LinkView) → ReceivesNothing unread0 unread1 a b → ReceivesNothing unread1 unread2 b c → ReceivesNothing unread0 unread2 a c
nothing_then unread0 unread1 unread2 a b c none more = record { unread = more.unread ∙ none.unread; passes = passes_both [] [] [] [] a b c none.passes more.passes }

-- ---- sound links

pub wrote_sound : (ended : Bool) (before now : Option Traffic) (count : ℕ) (from : List ℕ) → now ≡ option_map (λ t. after_write t (Count count) from) before → IsSound ended before → IsSound ended now
wrote_sound ended None now count from is sound = subst (IsSound ended) (sym is) tt
wrote_sound ended (Some t) now count from is sound = subst (IsSound ended) (sym is) (sound.0, or_from t.went_on t.failed sound.1 sound.0, sound.2)

pub not_yet_sound : (ended : Bool) (before now : Option Traffic) (from : List ℕ) → now ≡ option_map (λ t. after_write t PutNotYet from) before → IsSound ended before → IsSound ended now
not_yet_sound ended None now from is sound = subst (IsSound ended) (sym is) tt
not_yet_sound ended (Some t) now from is sound = subst (IsSound ended) (sym is) (sound.0, or_from t.went_on t.failed sound.1 sound.0, sound.2)

pub write_left : (ended : Bool) (before now : Option Traffic) (from : List ℕ) → now ≡ option_map (λ t. after_write t PutFailed from) before → IsSound ended before → IsLeftFor LinkFailed now
write_left ended None now from is sound = subst (IsLeftFor LinkFailed) (sym is) tt
write_left ended (Some t) now from is sound = subst (IsLeftFor LinkFailed) (sym is) (or_from t.went_on t.failed sound.1 sound.0, λ failed. refl)

read_on : (t : Traffic) → IsSound false (Some t) → ((t.went_on || t.failed) || t.ended) ≡ false
read_on t sound = or_from (t.went_on || t.failed) t.ended (or_from t.went_on t.failed sound.1 sound.0) sound.2

pub read_holds : (result : Got) (into : List ℕ) (before now : LinkView) → now.traffic ≡ option_map (λ t. after_read t result into) before.traffic → HoldsReading result before now
read_holds result into before now is = read_by result before now before.traffic refl is
  where
    told_by : (before : LinkView) (t : Traffic) → before.traffic ≡ Some t → IsSound false before.traffic → IsSound false (Some t)
    told_by before t at sound = subst (IsSound false) at sound

    read_by : (result : Got) (before now : LinkView) (first : Option Traffic) → before.traffic ≡ first → now.traffic ≡ option_map (λ t. after_read t result into) first → HoldsReading result before now
    read_by (Bytes count) before now None at is = λ sound. subst (IsSound false) (sym is) tt
    read_by (Bytes count) before now (Some t) at is = λ sound. let s = told_by before t at sound in subst (IsSound false) (sym is) (s.0, read_on t s, s.2)
    read_by NotYet before now None at is = λ sound. subst (IsSound false) (sym is) tt
    read_by NotYet before now (Some t) at is = λ sound. let s = told_by before t at sound in subst (IsSound false) (sym is) (s.0, read_on t s, s.2)
    read_by End before now None at is = λ sound. subst (IsSound true) (sym is) tt
    read_by End before now (Some t) at is = λ sound. let s = told_by before t at sound in subst (IsSound true) (sym is) (s.0, read_on t s, refl)
    read_by Failed before now None at is = λ sound. subst (IsLeftFor LinkFailed) (sym is) tt
    read_by Failed before now (Some t) at is = λ sound. let s = told_by before t at sound in subst (IsLeftFor LinkFailed) (sym is) (read_on t s, λ failed. refl)
