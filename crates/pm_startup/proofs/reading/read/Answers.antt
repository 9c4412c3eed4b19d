use Rattle.std.proofs.Common.{◌≡◌, ◌<◌, ◌⊎◌, ℕ, Ok, Err, sym, inl, inr, subst, arith}
use Rattle.byteorder.specs.Endian.{big_number}
use Rattle.pm_startup.{specs.{declared.packet.{StartFault.TheVariants.Length, Read.TheVariants.{Whole, Short, Bad}}, Grammar.{max_length, content_of, FrontDecides}}, proofs.{Packets.{IsAnswer, answers_length, answers_packet, answer-whole, answer-undecided, answer-incomplete, answer-bad}, reading.read.Goals.{then-length-lt-MIN_LENGTH-via-then-length-lt-MIN_LENGTH, then-length-lt-MIN_LENGTH-via-else-length-lt-MIN_LENGTH+then-length-gt-MAX_LENGTH}}}
use Rattle.pm_startup.proofs.reading.read.Goals as goal

pub returns-then-length-lt-MIN_LENGTH : goal.returns-then-length-lt-MIN_LENGTH
returns-then-length-lt-MIN_LENGTH c =
    let bytes = c.args.bytes.now in
    let number : c.read_u32-length.result ≡ big_number 4 bytes = c.read_u32-length.ensures in
    let outside : (big_number 4 bytes < 8) ⊎ (max_length < big_number 4 bytes) =
    elim c.then-length-lt-MIN_LENGTH.branch [
      | then-length-lt-MIN_LENGTH-via-then-length-lt-MIN_LENGTH w ↦ inl (omega arith)
      | then-length-lt-MIN_LENGTH-via-else-length-lt-MIN_LENGTH+then-length-gt-MAX_LENGTH w ↦ inr (omega arith)
    ] in
    let told = answers_length bytes (λ i. omega (arith, c.type_inv.bytes i)) (omega arith) outside in
    let is : IsAnswer bytes (Bad (Length c.read_u32-length.result)) = subst (λ (n : ℕ). IsAnswer bytes (Bad (Length n))) (sym number) told in
    record { whole = answer-whole bytes (Bad (Length c.read_u32-length.result)) is; short = answer-undecided bytes (Bad (Length c.read_u32-length.result)) is; incomplete = answer-incomplete bytes (Bad (Length c.read_u32-length.result)) is; bad = answer-bad bytes (Bad (Length c.read_u32-length.result)) is }

pub returns-then-bytes-lt-LENGTH_BYTES : goal.returns-then-bytes-lt-LENGTH_BYTES
returns-then-bytes-lt-LENGTH_BYTES c =
    let bytes = c.args.bytes.now in
    let is : IsAnswer bytes Short = inl (omega arith) in
    record { whole = answer-whole bytes Short is; short = answer-undecided bytes Short is; incomplete = answer-incomplete bytes Short is; bad = answer-bad bytes Short is }

pub returns-then-bytes-used : goal.returns-then-bytes-used
returns-then-bytes-used c =
    let bytes = c.args.bytes.now in
    let is : IsAnswer bytes Short = inr (omega (arith, c.read_u32-length.ensures), omega (arith, c.read_u32-length.ensures), omega (arith, c.read_u32-length.ensures)) in
    record { whole = answer-whole bytes Short is; short = answer-undecided bytes Short is; incomplete = answer-incomplete bytes Short is; bad = answer-bad bytes Short is }

pub returns-in-Ok : goal.returns-in-Ok
returns-in-Ok c =
    let bytes = c.args.bytes.now in
    let used = c.read_u32-length.result in
    let is : IsAnswer bytes (Whole c.in-Ok.packet used) = answers_packet bytes used c.read_u32-code.result (Ok (content_of c.in-Ok.packet)) (λ i. omega (arith, c.type_inv.bytes i)) c.read_u32-length.ensures (omega arith) (omega arith) (omega arith) c.read_u32-code.ensures c.in-Ok.ensures in
    record { whole = answer-whole bytes (Whole c.in-Ok.packet used) is; short = answer-undecided bytes (Whole c.in-Ok.packet used) is; incomplete = answer-incomplete bytes (Whole c.in-Ok.packet used) is; bad = answer-bad bytes (Whole c.in-Ok.packet used) is }

pub returns-in-Err : goal.returns-in-Err
returns-in-Err c =
    let bytes = c.args.bytes.now in
    let used = c.read_u32-length.result in
    let front : FrontDecides bytes used (Err c.in-Err.fault) = answers_packet bytes used c.read_u32-code.result (Err c.in-Err.fault) (λ i. omega (arith, c.type_inv.bytes i)) c.read_u32-length.ensures (omega arith) (omega arith) (omega arith) c.read_u32-code.ensures c.in-Err.ensures in
    let is : IsAnswer bytes (Bad c.in-Err.fault) = (used, front) in
    record { whole = answer-whole bytes (Bad c.in-Err.fault) is; short = answer-undecided bytes (Bad c.in-Err.fault) is; incomplete = answer-incomplete bytes (Bad c.in-Err.fault) is; bad = answer-bad bytes (Bad c.in-Err.fault) is }
