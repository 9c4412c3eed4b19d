-- The words of a slot's latch and of its cancels: which signals stand for a child, and what it is given of them.
use Rattle.std.specs.{Prelude.{ℕ, zero, suc, ◌+◌, ◌*◌, ◌/◌, Bool, true, false, Option, Some, None}, Int.bit_at}
use Rattle.pm_child_life.specs.{pm_supervisor.declared.Reason.{Reason, TheVariants.{Crash, Stop}}, declared.life.Signals.Signals}
use Rattle.pm_board_words.specs.{declared.views.Signal.{Signal, TheVariants.{Quit, Terminate, Kill, Checkpoint}}, Words.flag}

-- After the words of n slots and the word of the gate stand those of the latches, and then those of the cancels
abbrev pub latch_place : ℕ → ℕ → ℕ
latch_place n k = n + 1 + k

abbrev pub cancel_place : ℕ → ℕ → ℕ
cancel_place n k = n + 1 + n + k

-- a latch's word has a bit for each signal
abbrev pub signal_number : Signal → ℕ
signal_number (Quit Crash) = 0
signal_number (Quit Stop) = 1
signal_number Terminate = 2
signal_number Kill = 3
signal_number Checkpoint = 4

-- and above them the pid that it is armed for
abbrev pub latch_pid : ℕ → ℕ
latch_pid word = word / 32

-- the word of a latch that is armed for this pid, in which no signal stands
abbrev pub armed_word : ℕ → ℕ
armed_word pid = 32 * pid

abbrev pub stands : Signal → ℕ → Bool
stands signal word = flag (bit_at word (signal_number signal))

-- the notice to quit that is given where both may stand, as at the gate
abbrev pub quit_of : Bool → Bool → Option Reason
quit_of true crash = Some Stop
quit_of false true = Some Crash
quit_of false false = None

-- what a child is given that meets this word, and has heeded a cancel or not
abbrev pub signals_at : ℕ → Bool → Signals
signals_at word heeded =
    record {
      kill = stands Kill word;
      quit = quit_of (stands (Quit Stop) word) (stands (Quit Crash) word);
      terminate = stands Terminate word;
      cancel = heeded;
      checkpoint = stands Checkpoint word;
    }

abbrev pub is_crash : Option Reason → Bool
is_crash (Some Crash) = true
is_crash _ = false

abbrev pub is_stop : Option Reason → Bool
is_stop (Some Stop) = true
is_stop _ = false

-- the signal of this number is among those of an answer
abbrev pub is_given : ℕ → Signals → Bool
is_given zero s = is_crash s.quit
is_given (suc zero) s = is_stop s.quit
is_given (suc (suc zero)) s = s.terminate
is_given (suc (suc (suc zero))) s = s.kill
is_given (suc (suc (suc (suc zero)))) s = s.checkpoint
is_given (suc (suc (suc (suc (suc n))))) s = false
