-- Steps of a server, some after others.
use Rattle.std.{proofs.Common.{ℕ, List, [], ◌∷◌, ◌++◌, Result, Ok, Err, refl, sym, ◌∙◌, ap, subst, append_assoc, append-nil}, specs.Prelude.{OnOk, IfErr}}
use Rattle.pm_server.{specs.{pm_facts.Lists.{each_first, each_second}, pm_state.declared.event.PmEvent.PmEvent, pm_query.declared.book.BookEntry.BookEntry, pm_segment.{Moves.{StaysUnread, Spans}, MovesLaws.{moves_none, unread_on, spans_none, spans_on}}, Journal.Times, declared.end.{ServerEnd.{ServerEnd, TheVariants.{Clean, Abnormal, NoThread, NoMemory}}, Why.TheVariants.{AfterCrash, StartupFailed, RestartOff, GenerationsSpent}}}, proofs.JournalLaws.{times_any, times_none, times_on}}
use Rattle.pm_supervisor_chain.{specs.Steps.{Step, Notes, book_of, journal_of}, proofs.FoldsLaws.journal-append}
use Rattle.pm_outside.{specs.Added.Added, proofs.AddedLaws.{added_both, added_none}}
use Rattle.pm_once.specs.{Goes.{Does, Goes, IsAt, IsEndOf, IsOpen, StaysOpen}, View.View}
use Rattle.pm_once_acts.{specs.Steps.{EndsWith, IsNoRenewal}, proofs.StepsLaws.{book-append, serves_nothing, serves_both}}

pub goes_none : (gives : ℕ → Type 0) (v : View) → Goes gives [] v v
goes_none gives v = record {
  at = λ outset earlier at opened. subst (λ (l : List Step). IsAt outset l v) (sym (append-nil earlier)) at;
  journal = added_none v.work.told;
  times = times_none gives v.work.standing.moment;
  store = spans_none v.store;
  still = λ none. refl;
  unread = λ none. (moves_none v.store).unread;
  knows = λ from known. known;
}

pub stays_none : (v : View) → StaysOpen [] v v
stays_none v = λ earlier opened. subst (λ (l : List Step). IsOpen l v) (sym (append-nil earlier)) opened

pub goes_on : (gives : ℕ → Type 0) (one two : List Step) (a b c : View) → Goes gives one a b → StaysOpen one a b → Goes gives two b c → Goes gives (one ++ two) a c
goes_on gives one two a b c first stays second = record {
  at = λ outset earlier at opened. subst (λ (l : List Step). IsAt outset l c) (append_assoc earlier one two) (second.at outset (earlier ++ one) (first.at outset earlier at opened) (stays earlier opened));
  journal = subst (λ (j : List PmEvent). Added j a.work.told c.work.told) (sym (journal-append one two)) (added_both (journal_of one) (journal_of two) _ _ _ first.journal second.journal);
  times = subst (λ (j : List PmEvent). Times gives a.work.standing.moment j c.work.standing.moment) (sym (journal-append one two)) (times_on gives (journal_of one) (journal_of two) _ _ _ first.times second.times);
  store = subst (λ (l : List BookEntry). Spans l a.store c.store) (sym (book-append one two)) (spans_on (book_of one) (book_of two) a.store b.store c.store first.store second.store);
  still = λ none. second.still (each_second IsNoRenewal one two none) ∙ first.still (each_first IsNoRenewal one two none);
  unread = λ none. subst (λ (l : List BookEntry). StaysUnread l a.store c.store) (sym (book-append one two)) (unread_on (book_of one) (book_of two) a.store b.store c.store (first.unread (each_first IsNoRenewal one two none)) (second.unread (each_second IsNoRenewal one two none)));
  knows = λ from known. second.knows from (first.knows from known);
}

pub stays_on : (one two : List Step) (a b c : View) → StaysOpen one a b → StaysOpen two b c → StaysOpen (one ++ two) a c
stays_on one two a b c first second = λ earlier opened. subst (λ (l : List Step). IsOpen l c) (append_assoc earlier one two) (second (earlier ++ one) (first earlier opened))

pub goes_any : (gives : ℕ → Type 0) (steps : List Step) (a b : View) → Goes (λ n. ⊥) steps a b → Goes gives steps a b
goes_any gives steps a b goes = record {
  at = goes.at;
  journal = goes.journal;
  times = times_any gives (journal_of steps) _ _ goes.times;
  store = goes.store;
  still = goes.still;
  unread = goes.unread;
  knows = goes.knows;
}

-- ---- ends

with_behind : (last : PmEvent) (one two : List Step) → EndsWith last two → EndsWith last (one ++ two)
with_behind last one two ends = (one ++ ends.0, ap (λ (l : List Step). one ++ l) ends.1 ∙ sym (append_assoc one ends.0 (Notes last ∷ [])))

pub end_behind : (end : ServerEnd) (one two : List Step) (v : View) → IsEndOf end two v → IsEndOf end (one ++ two) v
end_behind Clean one two v ends = (with_behind _ one two ends.0, ends.1)
end_behind (Abnormal AfterCrash) one two v ends = (with_behind _ one two ends.0, ends.1)
end_behind (Abnormal RestartOff) one two v ends = with_behind _ one two ends
end_behind (Abnormal (StartupFailed why)) one two v ends = (with_behind _ one two ends.0, ends.1)
end_behind (Abnormal GenerationsSpent) one two v ends = ends
end_behind NoThread one two v ends = absurd ends
end_behind NoMemory one two v ends = tt

ends_on : (result : Result (Unit {0}) ServerEnd) (one two : List Step) (c : View) → IfErr result (λ end. IsEndOf end two c) → IfErr result (λ end. IsEndOf end (one ++ two) c)
ends_on (Ok done) one two c ends = tt
ends_on (Err end) one two c ends = end_behind end one two c ends

open_on : (result : Result (Unit {0}) ServerEnd) (one two : List Step) (a b c : View) → StaysOpen one a b → OnOk result (StaysOpen two b c) → OnOk result (StaysOpen (one ++ two) a c)
open_on (Ok done) one two a b c first second = stays_on one two a b c first second
open_on (Err end) one two a b c first second = tt

-- a call that goes on, and then another
pub does_then : (gives : ℕ → Type 0) (result : Result (Unit {0}) ServerEnd) (one two : List Step) (a b c : View) → Does gives (Ok tt) one a b → Does gives result two b c → Does gives result (one ++ two) a c
does_then gives result one two a b c first second = record {
  goes = goes_on gives one two a b c first.goes first.stays second.goes;
  stays = open_on result one two a b c first.stays second.stays;
  ends = ends_on result one two c second.ends;
  serves = serves_both one two first.serves second.serves;
}

pub does_nothing : (gives : ℕ → Type 0) (v : View) → Does gives (Ok tt) [] v v
does_nothing gives v = record { goes = goes_none gives v; stays = stays_none v; ends = tt; serves = serves_nothing }

pub does_any : (gives : ℕ → Type 0) (result : Result (Unit {0}) ServerEnd) (steps : List Step) (a b : View) → Does (λ n. ⊥) result steps a b → Does gives result steps a b
does_any gives result steps a b does = record { goes = goes_any gives steps a b does.goes; stays = does.stays; ends = does.ends; serves = does.serves }
