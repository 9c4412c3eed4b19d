-- Words are one line alone.
use Rattle.std.proofs.Common.{◌≡◌, ℕ, List}
use Rattle.pm_top_words.specs.{declared.words.Command.{TheVariants.Serve, Command}, pm_server.declared.conf.Conf.Conf, Words.{AreNoLine, IsLine, IsOnlyLine}}
use Rattle.pm_top.specs.Serve.{IsServeLine}

pub no_line : {C : Type 0} (words : List (List ℕ)) (command : Command) (dir : List ℕ) → AreNoLine words → IsLine words command dir → C
no_line words command dir none line = absurd (none command dir line.0 line.1)

pub another_line : {C : Type 0} (words : List (List ℕ)) (read command : Command) (folder dir : List ℕ) (conf : Conf)
    → IsOnlyLine words read folder conf → IsLine words command dir → (command ≡ read → ⊥) → C
another_line words read command folder dir conf only line differ = absurd (differ (only command dir line.0 line.1).0)

pub not_of_serve : {C : Type 0} (words : List (List ℕ)) (conf : Conf) (command : Command) (dir : List ℕ) → IsServeLine words conf → IsLine words command dir
    → ((port : ℕ) → command ≡ Serve port → ⊥) → C
not_of_serve words conf command dir its line differ = another_line words (Serve its.port) command its.dir dir conf its.only line (differ its.port)
