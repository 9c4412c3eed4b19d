-- Laws of the bytes of messages.
use Rattle.std.proofs.{Common.{◌≡◌, List, [], ◌++◌, refl}, lemmas.List.Concat.flat_map-append}
use Rattle.pm_startup.specs.pm_wire.Backend.{BackMessage, spelling}
use Rattle.pm_session_exchange.specs.Sent.{bytes_of}

pub bytes_of-none : bytes_of [] ≡ []
unfolding bytes_of
bytes_of-none = refl

pub bytes_of-append : (first second : List BackMessage) → bytes_of (first ++ second) ≡ bytes_of first ++ bytes_of second
unfolding bytes_of
bytes_of-append first second = flat_map-append spelling first second
