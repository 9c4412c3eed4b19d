-- Laws of a file that stands for something.
use Rattle.std.{proofs.{Common.{◌≡◌, ℕ, List, ◌∷◌, ◌++◌, take, drop, ◌∙◌, ap, subst}, lemmas.Nat.from_be_bytes-to_be_bytes_8}, specs.Int.{w64, from_be_bytes}}
use Rattle.pm_record.specs.{StandsFor.{Content, StandsFor}, Found.IsClosed}

-- the epoch that the bytes say
pub epoch_in : List ℕ → ℕ
epoch_in bytes = from_be_bytes w64 (take 8 (drop 9 bytes))

pub epoch_is : (bytes : List ℕ) (content : Content) (end : ℕ) → StandsFor bytes content end → epoch_in bytes ≡ content.epoch
unfolding epoch_in
epoch_is bytes content end log =
    ap (λ (l : List ℕ). from_be_bytes w64 (take 8 (drop 9 l))) (log.parts ∙ ap (λ (l : List ℕ). l ++ (0 ∷ log.free)) log.spelled.parts)
    ∙ from_be_bytes-to_be_bytes_8 content.epoch log.limits.epoch

-- it isn't closed
pub not_closed : (bytes : List ℕ) (content : Content) (end : ℕ) → StandsFor bytes content end → IsClosed bytes → ⊥
not_closed bytes content end log closed =
    log.spelled.is_open (subst IsClosed (log.parts ∙ ap (λ (l : List ℕ). l ++ (0 ∷ log.free)) log.spelled.parts) closed)
