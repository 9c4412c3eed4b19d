-- One look more.
use Rattle.std.proofs.{Common.{◌≡◌, ◌≢◌, ℕ, ◌+◌, List, [], ◌∷◌, ◌++◌, length, refl, ap, ◌∙◌, sym, arith}, lemmas.List.append_assoc}
use Rattle.pm_board.specs.{pm_board_words.{Latch.latch_pid, declared.views.{LatchLook.LatchLook, PostNotes.PostNotes}}, Told.noted_latch_look}
use Rattle.pm_latch.specs.Cancelling.{looks_from, noted_looks, NoneFor}

looks-append : (k word : ℕ) (words : List ℕ) → looks_from k (words ++ word ∷ []) ≡ looks_from k words ++ record { slot = k + length words; word = word } ∷ []
looks-append k word [] = let e : k ≡ k + 0 = omega arith in ap (λ (n : ℕ). record { slot = n; word = word } ∷ []) e
looks-append k word (w ∷ words) = let e : k + 1 + length words ≡ k + length (w ∷ words) = omega arith in
    ap (λ (l : List LatchLook). record { slot = k; word = w } ∷ l) (looks-append (k + 1) word words ∙ ap (λ (n : ℕ). looks_from (k + 1) words ++ record { slot = n; word = word } ∷ []) e)

-- the look at the next slot
pub next_look : (notes : PostNotes) (words : List ℕ) (k word : ℕ) → length words ≡ k → noted_latch_look (noted_looks notes words) k word ≡ noted_looks notes (words ++ word ∷ [])
next_look notes words k word is = ap (λ (l : List LatchLook). record notes { looked = l })
    (append_assoc notes.looked (looks_from 0 words) (record { slot = k; word = word } ∷ [])
    ∙ ap (λ (l : List LatchLook). notes.looked ++ l) (ap (λ (n : ℕ). looks_from 0 words ++ record { slot = n; word = word } ∷ []) (sym is) ∙ sym (looks-append 0 word words ∙ ap (λ (n : ℕ). looks_from 0 words ++ record { slot = n; word = word } ∷ []) (let e : 0 + length words ≡ length words = omega arith in e))))

pub none_more : (pid word : ℕ) (words : List ℕ) → NoneFor pid words → latch_pid word ≢ pid → NoneFor pid (words ++ word ∷ [])
none_more pid word [] none ne = (ne, tt)
none_more pid word (w ∷ words) none ne = (none.0, none_more pid word words none.1 ne)

pub one_longer : (word : ℕ) (words : List ℕ) → length (words ++ word ∷ []) ≡ length words + 1
one_longer word [] = refl
one_longer word (w ∷ words) = let h : length (words ++ word ∷ []) ≡ length words + 1 = one_longer word words in omega arith
