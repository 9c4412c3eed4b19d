-- A slot's word, read back.
use Rattle.std.{proofs.Common.{◌≡◌, ◌≢◌, ℕ, zero, suc, ◌+◌, ◌*◌, ◌/◌, ◌%◌, ◌<◌, refl, sym, ap, ◌∙◌, arith}, specs.Prelude.{Bool, true, false}}
use Rattle.pm_exit.specs.declared.child.{Kind.Kind, Status.Status}
use Rattle.pm_exit.specs.declared.child.Kind.TheVariants as kind
use Rattle.pm_exit.specs.declared.child.Status.TheVariants as status
use Rattle.pm_board_words.specs.Words.{bit, flag, kind_number, kind_of, signal_bit, status_number, status_of, SlotWord, packed, exit_step, stage_in, active_in, kind_in, status_in, pid_in, FitsWord}

pub bit_small : (b : Bool) → bit b < 2
bit_small true = omega arith
bit_small false = omega arith

pub flag_bit : (b : Bool) → flag (bit b) ≡ b
flag_bit true = refl
flag_bit false = refl

pub flag_some : (n : ℕ) → n ≢ 0 → flag n ≡ true
flag_some zero h = absurd (h refl)
flag_some (suc n) h = refl

pub kind_small : (k : Kind) → kind_number k < 8
kind_small kind.Startup = omega arith
kind_small kind.Checkpointer = omega arith
kind_small kind.Writer = omega arith
kind_small kind.Worker = omega arith
kind_small kind.Backend = omega arith
kind_small kind.DeadEnd = omega arith

pub kind_again : (k : Kind) → kind_of (kind_number k) ≡ k
kind_again kind.Startup = refl
kind_again kind.Checkpointer = refl
kind_again kind.Writer = refl
kind_again kind.Worker = refl
kind_again kind.Backend = refl
kind_again kind.DeadEnd = refl

pub kind_rest : (n : ℕ) → 4 < n → kind_of n ≡ kind.DeadEnd
kind_rest zero h = absurd (omega arith)
kind_rest (suc zero) h = absurd (omega arith)
kind_rest (suc (suc zero)) h = absurd (omega arith)
kind_rest (suc (suc (suc zero))) h = absurd (omega arith)
kind_rest (suc (suc (suc (suc zero)))) h = absurd (omega arith)
kind_rest (suc (suc (suc (suc (suc n))))) h = refl

pub signal_small : (s : Status) → signal_bit s < 2
signal_small (status.Code n) = omega arith
signal_small (status.Signal n) = omega arith

pub status_again : (s : Status) → status_of (signal_bit s) (status_number s) ≡ s
status_again (status.Code n) = refl
status_again (status.Signal n) = refl

pub signal_is : (m n : ℕ) → m ≢ 0 → status_of m n ≡ status.Signal n
signal_is zero n h = absurd (h refl)
signal_is (suc m) n h = refl

module _ (w : SlotWord) (h : FitsWord w) where
  pub stage_again : stage_in (packed w) ≡ w.stage
  stage_again =
      let a : w.stage < 8 = h.stage in
      let y : ℕ = bit w.is_active + (2 * kind_number w.kind + (16 * signal_bit w.status + (32 * status_number w.status + 8192 * w.pid))) in
      omega arith

  pub pid_again : pid_in (packed w) ≡ w.pid
  pid_again =
      let a : w.stage < 8 = h.stage in let b : bit w.is_active < 2 = bit_small w.is_active in let c : kind_number w.kind < 8 = kind_small w.kind in
      let d : signal_bit w.status < 2 = signal_small w.status in let e : status_number w.status < 256 = h.status in
      omega arith

  pub active_again : active_in (packed w) ≡ w.is_active
  active_again =
      let a : w.stage < 8 = h.stage in let b : bit w.is_active < 2 = bit_small w.is_active in
      let n : packed w / 8 % 2 ≡ bit w.is_active = omega arith in
      ap flag n ∙ flag_bit w.is_active

  pub kind_read : kind_in (packed w) ≡ w.kind
  kind_read =
      let a : w.stage < 8 = h.stage in let b : bit w.is_active < 2 = bit_small w.is_active in let c : kind_number w.kind < 8 = kind_small w.kind in
      let n : packed w / 16 % 8 ≡ kind_number w.kind = omega arith in
      ap kind_of n ∙ kind_again w.kind

  pub status_read : status_in (packed w) ≡ w.status
  status_read =
      let a : w.stage < 8 = h.stage in let b : bit w.is_active < 2 = bit_small w.is_active in let c : kind_number w.kind < 8 = kind_small w.kind in
      let d : signal_bit w.status < 2 = signal_small w.status in let e : status_number w.status < 256 = h.status in
      let m : packed w / 128 % 2 ≡ signal_bit w.status = omega arith in
      let n : packed w / 256 % 256 ≡ status_number w.status = omega arith in
      (λ i. status_of (m i) (n i)) ∙ status_again w.status

-- a word fits 64 bits with room for a stage more
pub packed_small : (w : SlotWord) → FitsWord w → packed w + 65536 < 18446744073709551616
packed_small w h =
    let a : w.stage < 8 = h.stage in let b : bit w.is_active < 2 = bit_small w.is_active in let c : kind_number w.kind < 8 = kind_small w.kind in
    let d : signal_bit w.status < 2 = signal_small w.status in let e : status_number w.status < 256 = h.status in let f : w.pid < 2147483648 = h.pid in
    omega arith

-- two statuses that add the same are one
pub same_exit : (s t : Status) → exit_step s ≡ exit_step t → s ≡ t
same_exit s t e =
    let a : signal_bit s < 2 = signal_small s in let b : signal_bit t < 2 = signal_small t in
    let m : signal_bit s ≡ signal_bit t = omega arith in let n : status_number s ≡ status_number t = omega arith in
    sym (status_again s) ∙ (λ i. status_of (m i) (n i)) ∙ status_again t
