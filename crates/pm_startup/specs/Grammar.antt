-- The startup packets: what a frontend may send before its session begins, as whole lists of bytes.
-- (PostgreSQL manual, Frontend/Backend Protocol: Message Flow, Start-up; Message Formats.)
-- A rule marked "own" is this server's choice.
use Rattle.std.specs.Prelude.{◌≡◌, ◌≢◌, ℕ, ◌+◌, ◌/◌, ◌%◌, ◌^◌, ◌<◌, ◌≤◌, ◌==◌, List, length, ◌++◌, take, Result, Ok, Err, ◌⊎◌, if◌then◌else◌}
use Rattle.byteorder.specs.Endian.{big_number}
use Rattle.pm_startup.specs.{declared.packet.{Packet.Packet, StartFault.{StartFault, TheVariants.{Length, Version, Malformed}}, Read.{Read, TheVariants.{Whole, Short, Bad}}}, Parameters.{Parameter, IsLaidOut, IsMalformed, user_of}}
use Rattle.pm_startup.specs.declared.packet.Packet.TheVariants as packets
use Rattle.pm_wire.specs.Pieces.{int32}

-- what a packet says, without where its bytes lie
pub data Content : Type 0 where
  startup : (user : List ℕ) → Content
  ssl_request : Content
  gssenc_request : Content
  cancel_request : (pid : ℕ) (key : ℕ) → Content

abbrev pub content_of : Packet → Content
content_of (packets.Start user) = startup user.now
content_of packets.Ssl = ssl_request
content_of packets.Gss = gssenc_request
content_of (packets.Cancel pid key) = cancel_request pid key

-- ---- framing

-- Int32 length, which counts itself; Int32 code; the body
abbrev pub packet : ℕ → List ℕ → List ℕ
packet code body = int32 (8 + length body) ++ int32 code ++ body

-- the greatest length of a packet
abbrev pub max_length : ℕ
max_length = 10004

-- ---- what a body says, by the packet's code

pub data Kind : Type 0 where
  ssl : Kind
  gssenc : Kind
  cancel : Kind
  version3 : Kind
  unknown : Kind

-- 1234.5679, 1234.5680, 1234.5678 and version 3.0
abbrev pub kind_of : ℕ → Kind
kind_of code =
    if code == 80877103 then ssl else (if code == 80877104 then gssenc else (if code == 80877102 then cancel else (if code == 196608 then version3 else unknown)))

-- the body of a CancelRequest is a pid and a key; another body makes another length
abbrev pub CancelSays : List ℕ → Result Content StartFault → Type 0
CancelSays body verdict =
    ((pid : ℕ) × (key : ℕ) × (pid < 2 ^ 32) × (key < 2 ^ 32) × (body ≡ int32 pid ++ int32 key) × (verdict ≡ Ok (cancel_request pid key)))
    ⊎ ((length body ≢ 8) × (verdict ≡ Err (Length (8 + length body))))

-- the user of a StartupMessage, or the first check that fails; the body stands at place 8
abbrev pub verdict_of : Result (List ℕ) StartFault → Result Content StartFault
verdict_of (Ok user) = Ok (startup user)
verdict_of (Err fault) = Err fault

abbrev pub StartupSays : List ℕ → Result Content StartFault → Type 0
StartupSays body verdict =
    ((ps : List Parameter) × IsLaidOut body ps × (verdict ≡ verdict_of (user_of ps)))
    ⊎ ((at : ℕ) × IsMalformed body at × (verdict ≡ Err (Malformed (8 + at))))

-- The body of an SSLRequest or a GSSENCRequest is read over (own). Of an unknown code the high 16 bits
-- are the major version and the low 16 bits the minor one.
abbrev pub Says : Kind → ℕ → List ℕ → Result Content StartFault → Type 0
Says ssl code body verdict = verdict ≡ Ok ssl_request
Says gssenc code body verdict = verdict ≡ Ok gssenc_request
Says cancel code body verdict = CancelSays body verdict
Says version3 code body verdict = StartupSays body verdict
Says unknown code body verdict = verdict ≡ Err (Version (code / 2 ^ 16) (code % 2 ^ 16))

-- ---- whole lists of bytes

-- The bytes are one whole packet, and this is what comes of it.
pub record IsPacket (bytes : List ℕ) (verdict : Result Content StartFault) : Type 0 where
  pub code : ℕ
  pub body : List ℕ
  pub fits : 8 + length body ≤ max_length
  pub code_fits : code < 2 ^ 32
  pub spelled : bytes ≡ packet code body
  pub says : Says (kind_of code) code body verdict

-- The bytes are a length that no packet has.
pub record IsNoLength (bytes : List ℕ) (verdict : Result Content StartFault) : Type 0 where
  pub seen : ℕ
  pub seen_fits : seen < 2 ^ 32
  pub outside : (seen < 8) ⊎ (max_length < seen)
  pub spelled : bytes ≡ int32 seen
  pub says : verdict ≡ Err (Length seen)

-- These bytes, and none after them, decide.
abbrev pub Decides : List ℕ → Result Content StartFault → Type 0
Decides bytes verdict = IsPacket bytes verdict ⊎ IsNoLength bytes verdict

-- ---- the front of a stream

-- The first n of the bytes decide.
pub record FrontDecides (bytes : List ℕ) (n : ℕ) (verdict : Result Content StartFault) : Type 0 where
  pub within : n ≤ length bytes
  pub decides : Decides (take n bytes) verdict

-- no front of the bytes decides yet
abbrev pub IsUndecided : List ℕ → Type 0
IsUndecided bytes = (n : ℕ) (verdict : Result Content StartFault) → ¬ FrontDecides bytes n verdict

-- Fewer bytes are there than a length has, or than an allowed length says.
abbrev pub IsIncomplete : List ℕ → Type 0
IsIncomplete bytes =
    (length bytes < 4)
    ⊎ ((8 ≤ big_number 4 bytes) × (big_number 4 bytes ≤ max_length) × (length bytes < big_number 4 bytes))

-- what a function of the reader returned, by its content
abbrev pub contents : Result Packet StartFault → Result Content StartFault
contents (Ok packet) = Ok (content_of packet)
contents (Err fault) = Err fault

-- A reader answered a whole packet of this content and length.
abbrev pub IsWhole : Read → Content → ℕ → Type 0
IsWhole (Whole packet used) content n = (content_of packet ≡ content) × (used ≡ n)
IsWhole Short content n = ⊥
IsWhole (Bad fault) content n = ⊥
