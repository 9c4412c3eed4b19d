-- The gate's word: how a generation, whether it is open, a notice and two counts are packed into one number, what a child is
-- answered that meets it, and what the supervisor adds to it.
use Rattle.std.specs.Prelude.{◌≡◌, ℕ, zero, suc, ◌+◌, ◌-◌, ◌*◌, ◌/◌, ◌%◌, ◌<◌, Bool, true, false, not, nat_lt, if◌then◌else◌, Option, Some, None, Result, Ok, Err}
use Rattle.pm_supervisor.specs.{pm_exit.declared.child.Kind.Kind, declared.Reason.Reason, Children.is_session}
use Rattle.pm_supervisor.specs.declared.Reason.TheVariants as reason
use Rattle.pm_child_life.specs.declared.life.GateNo.{GateNo}
use Rattle.pm_child_life.specs.declared.life.GateNo.TheVariants as gate_no
use Rattle.pm_board_words.specs.{declared.views.SessionLimit.SessionLimit, Words.{bit, flag}}

-- quit in bit 0, and its reason in bit 1
abbrev pub notice_bits : Option Reason → ℕ
notice_bits None = 0
notice_bits (Some reason.Crash) = 1
notice_bits (Some reason.Stop) = 3

pub record GateWord : Type 0 where
  pub generation : ℕ
  pub is_open : Bool
  pub noticed : Option Reason
  -- so many sessions, and so many auxiliary children
  pub sessions : ℕ
  pub auxiliaries : ℕ

-- sessions in bits 0 to 11, auxiliary children in 12 to 23, open in 24, notice in 25 and 26, generation in 27 to 58
abbrev pub gate_packed : GateWord → ℕ
gate_packed w = w.sessions + (4096 * w.auxiliaries + (16777216 * bit w.is_open + (33554432 * notice_bits w.noticed + 134217728 * w.generation)))

abbrev pub sessions_in : ℕ → ℕ
sessions_in word = word % 4096

abbrev pub auxiliaries_in : ℕ → ℕ
auxiliaries_in word = word / 4096 % 4096

abbrev pub open_in : ℕ → Bool
open_in word = flag (word / 16777216 % 2)

abbrev pub notice_of : ℕ → Option Reason
notice_of zero = None
notice_of (suc zero) = Some reason.Crash
notice_of (suc (suc n)) = Some reason.Stop

abbrev pub notice_in : ℕ → Option Reason
notice_in word = notice_of (word / 33554432 % 4)

abbrev pub generation_in : ℕ → ℕ
generation_in word = word / 134217728

-- the parts fit their bits
pub record FitsGate (w : GateWord) : Type 0 where
  pub sessions : w.sessions < 4095
  pub auxiliaries : w.auxiliaries < 4095
  pub generation : w.generation < 4294967296

-- what a child of such a kind adds to the word at the gate
abbrev pub place_of : Bool → ℕ
place_of true = 1
place_of false = 4096

-- so many places are kept from a child: those that are reserved from an ordinary one, and none from another
abbrev pub reserve_by : (is_ordinary : Bool) → SessionLimit → ℕ
reserve_by is_ordinary limit = if is_ordinary then limit.reserved else 0

-- What a session is answered that meets this word, where there is no notice: it needs an open gate, and room besides the places that
-- are kept from it.
abbrev pub session_answer : (most reserve word : ℕ) → Result ℕ GateNo
session_answer most reserve word =
    if not (open_in word) then Err (gate_no.NotReady (generation_in word))
    else (if nat_lt (sessions_in word + reserve) most then Ok (generation_in word)
    else (if nat_lt (sessions_in word) most then Err (gate_no.Reserved (sessions_in word)) else Err (gate_no.TooMany (sessions_in word))))

-- and what any child is: one that is no session is let in where there is no notice
abbrev pub answer_to : (is_session : Bool) → Option Reason → ℕ → (session : Result ℕ GateNo) → Result ℕ GateNo
answer_to is_session (Some why) word session = Err (gate_no.Quit (generation_in word) why)
answer_to false None word session = Ok (generation_in word)
answer_to true None word session = session

abbrev pub gate_answer : Kind → (is_ordinary : Bool) → SessionLimit → ℕ → Result ℕ GateNo
gate_answer kind is_ordinary limit word =
    answer_to (is_session kind) (notice_in word) word (session_answer limit.most (reserve_by is_ordinary limit) word)

-- after the notice of a stop no other is given in its generation
abbrev pub MayQuit : Option Reason → Reason → Type 0
MayQuit noticed why = noticed ≡ Some reason.Stop → why ≡ reason.Stop

-- what a notice adds to the gate's word
abbrev pub quit_step : Option Reason → Reason → ℕ
quit_step noticed why = 33554432 * (notice_bits (Some why) - notice_bits noticed)

-- what opening the gate adds to its word, and takes from it
abbrev pub ready_step : Option Reason → ℕ
ready_step noticed = (16777216 + (18446744073709551616 - 33554432 * notice_bits noticed)) % 18446744073709551616

-- the word of a new generation
abbrev pub new_gate : ℕ → ℕ
new_gate generation = 134217728 * generation
