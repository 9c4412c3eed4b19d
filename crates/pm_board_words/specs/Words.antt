-- The word of a slot: how a stage, the active bit, a kind, a status and a pid are packed into one number, and read from it.
use Rattle.std.specs.Prelude.{ℕ, zero, suc, ◌+◌, ◌*◌, ◌/◌, ◌%◌, ◌<◌, Bool, true, false}
use Rattle.pm_exit.specs.declared.child.{Kind.Kind, Status.Status}
use Rattle.pm_exit.specs.declared.child.Kind.TheVariants as kind
use Rattle.pm_exit.specs.declared.child.Status.TheVariants as status

abbrev pub bit : Bool → ℕ
bit true = 1
bit false = 0

abbrev pub flag : ℕ → Bool
flag zero = false
flag (suc n) = true

abbrev pub kind_number : Kind → ℕ
kind_number kind.Startup = 0
kind_number kind.Checkpointer = 1
kind_number kind.Writer = 2
kind_number kind.Worker = 3
kind_number kind.Backend = 4
kind_number kind.DeadEnd = 5

abbrev pub kind_of : ℕ → Kind
kind_of zero = kind.Startup
kind_of (suc zero) = kind.Checkpointer
kind_of (suc (suc zero)) = kind.Writer
kind_of (suc (suc (suc zero))) = kind.Worker
kind_of (suc (suc (suc (suc zero)))) = kind.Backend
kind_of (suc (suc (suc (suc (suc n))))) = kind.DeadEnd

-- 1 for a signal, and the number of the exit code or of the signal
abbrev pub signal_bit : Status → ℕ
signal_bit (status.Code n) = 0
signal_bit (status.Signal n) = 1

abbrev pub status_number : Status → ℕ
status_number (status.Code n) = n
status_number (status.Signal n) = n

abbrev pub status_of : ℕ → ℕ → Status
status_of zero n = status.Code n
status_of (suc m) n = status.Signal n

-- What a slot's word tells. Stage 0 is unused, 1 offered, 2 running, 3 exited, 4 collected.
pub record SlotWord : Type 0 where
  pub stage : ℕ
  pub is_active : Bool
  pub kind : Kind
  pub status : Status
  pub pid : ℕ

-- stage in bits 0 to 2, active in bit 3, kind in 4 to 6, status in 7 to 15, pid in 16 to 46
abbrev pub packed : SlotWord → ℕ
packed w =
    w.stage
    + (8 * bit w.is_active + (16 * kind_number w.kind + (128 * signal_bit w.status + (256 * status_number w.status + 65536 * w.pid))))

-- the word that offers a child
abbrev pub offered_word : ℕ → Kind → ℕ
offered_word pid kind = packed record { stage = 1; is_active = false; kind = kind; status = status.Code 0; pid = pid }

-- what a status adds to the word of a child that runs, with one stage
abbrev pub exit_step : Status → ℕ
exit_step s = 1 + (128 * signal_bit s + 256 * status_number s)

abbrev pub stage_in : ℕ → ℕ
stage_in word = word % 8

abbrev pub active_in : ℕ → Bool
active_in word = flag (word / 8 % 2)

abbrev pub kind_in : ℕ → Kind
kind_in word = kind_of (word / 16 % 8)

abbrev pub status_in : ℕ → Status
status_in word = status_of (word / 128 % 2) (word / 256 % 256)

abbrev pub pid_in : ℕ → ℕ
pid_in word = word / 65536

-- the parts fit their bits
pub record FitsWord (w : SlotWord) : Type 0 where
  pub stage : w.stage < 8
  pub status : status_number w.status < 256
  pub pid : w.pid < 2147483648
