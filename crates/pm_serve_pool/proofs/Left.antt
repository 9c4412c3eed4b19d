-- What is left once the workers of all slots were closed.
use Rattle.std.{proofs.{Common.{◌≡◌, ◌<◌, ℕ, zero, suc, List, [], ◌∷◌, length, ◌∙◌, refl, subst, arith}, lemmas.List.length-map}, specs.{Prelude.{None, Option, Some, IfSome, slice_get}, List.AllByRecursion}}
use Rattle.pm_serve_crew.{specs.{pm_board.pm_board_words.declared.views.RosterView.RosterView, pm_query.declared.book.BookEntry.BookEntry, pm_worker.declared.mail.MailTold.MailTold, Left.{AreLeft, IsBorneOut, IsWorked, Manner}}, proofs.BorneLaws.all_borne_on}
use Rattle.pm_store_shared.{specs.{declared.views.{Joined.Joined, Noted.Noted}, Log.{Continues, IsShuffle}, Places.EachOnce, Told.{AllContinue, SharedModel, owns, pasts}}, proofs.JoinedLaws.owned_at}
use Rattle.pm_serve_pool.specs.Closing.{AreClosed}

-- what a store out of the hands of this shared side says of its log
abbrev pub ComesOut : {F : Type 0} → (F → List BookEntry → Type 0) → SharedModel F → Type 0
ComesOut R s =
    IfSome s.first (λ first. (log : List BookEntry) × R first log × IsShuffle s.tokens (owns s.joined) s.own log × EachOnce (owns s.joined) s.own log × AllContinue (pasts s.joined) log)

-- what the joined token of a number found begins all entries
found_by : (joined : List Joined) (log : List BookEntry) (k : ℕ) → k < length joined → AllContinue (pasts joined) log → (his : Joined) × (slice_get joined k ≡ Some his) × Continues his.past log
found_by [] log k near all = absurd (omega arith)
found_by (his ∷ joined) log zero near all = (his, refl, all.0)
found_by (his ∷ joined) log (suc k) near all = found_by joined log k (omega arith) all.1

module _ {F : Type 0} (R : F → List BookEntry → Type 0) (manner : Manner) (n : ℕ) (d e : RosterView MailTold) (s t : SharedModel F) (a : AreClosed manner n d e s t) where
  are_left : (log : List BookEntry) → length d.slots ≡ n → IsShuffle n (owns a.joined) s.own log → EachOnce (owns a.joined) s.own log → AllContinue (pasts a.joined) log → AreLeft manner n e s.own log
  are_left log slots shuffle once continue =
      record {
        runs = a.runs;
        lists = owns a.joined;
        slots = a.count ∙ slots;
        all = length-map a.joined (λ (his : Joined). his.own) ∙ a.all;
        each = λ k own at. each k own (owned_at a.joined k own at);
        shuffle = shuffle;
        sent = a.sent;
        borne_out = λ k near. borne k near;
      }
    where
      each : (k : ℕ) (own : List Noted) → (his : Joined) × (slice_get a.joined k ≡ Some his) × (his.own ≡ own) → IsWorked manner e k (a.runs k) own
      each k own got = subst (λ (l : List Noted). IsWorked manner e k (a.runs k) l) got.2 (a.worked k got.0 got.1)

      borne : (k : ℕ) → k < n → AllByRecursion (IsBorneOut manner.files log) (a.runs k)
      borne k near =
          let his = found_by a.joined log k (let all = a.all in omega (arith, all, near)) continue in
          all_borne_on manner.files (his.0).past log his.2 (a.runs k) (a.borne_out k his.0 his.1)

  pub left_all : length d.slots ≡ n → s.tokens ≡ n → ComesOut R t → IfSome s.first (λ first. (log : List BookEntry) × R first log × AreLeft manner n e s.own log)
  left_all slots tokens out = by s.first (subst (ComesOut R) a.shared out)
    where
      by : (first : Option F)
          → IfSome first (λ f. (log : List BookEntry) × R f log × IsShuffle s.tokens (owns a.joined) s.own log × EachOnce (owns a.joined) s.own log × AllContinue (pasts a.joined) log)
          → IfSome first (λ f. (log : List BookEntry) × R f log × AreLeft manner n e s.own log)
      by None h = h
      by (Some f) h = (h.0, h.1, are_left h.0 slots (subst (λ (m : ℕ). IsShuffle m (owns a.joined) s.own h.0) tokens h.2) h.3 h.4)
