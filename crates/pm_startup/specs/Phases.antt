-- What a server does with the packets of one connection, one after the other.
-- (PostgreSQL manual, Frontend/Backend Protocol: Message Flow, SSL Session Encryption and GSSAPI Session Encryption.)
use Rattle.std.specs.Prelude.{if◌then◌else◌, true}
use Rattle.pm_startup.specs.{declared.{packet.StartFault.TheVariants.Version, phase.{Phase.Phase, Step.{Step, TheVariants.{SayNo, Start, Cancel, Refuse}}}}, Grammar.{Content, startup, ssl_request, gssenc_request, cancel_request}}

-- Encryption is refused by `N`, once for each kind and in either order (own). A second request of a kind
-- is told as an unknown version, by its code's halves.
abbrev pub step_of : Phase → Content → Step
step_of phase (startup user) = Start
step_of phase ssl_request =
    if phase.ssl_used then Refuse (Version 1234 5679) else SayNo (record phase { ssl_used = true })
step_of phase gssenc_request =
    if phase.gss_used then Refuse (Version 1234 5680) else SayNo (record phase { gss_used = true })
step_of phase (cancel_request pid key) = Cancel
