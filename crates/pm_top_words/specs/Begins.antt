-- Which words a command line may begin with.
use Rattle.std.specs.Prelude.{◌≡◌, ℕ, ◌+◌, ◌<◌, List, ◌++◌, length, take, Some}
use Rattle.pm_top_words.specs.{declared.words.{Command.Command, Verb.Verb}, Words.{Choice, Chosen, IsLine, MayChoose, ReservesFewer, command_of, conf_of, folder_of, option_name}, Options.Leaves}

-- with these words after them, or with others, they are a command line
pub record BeginsLine (front : List (List ℕ)) : Type 0 where
  pub rest : List (List ℕ)
  pub command : Command
  pub dir : List ℕ
  pub line : IsLine (front ++ rest) command dir

-- The first word that doesn't fit: those before it begin a command line, and with it they begin none.
pub record IsMisfit (words : List (List ℕ)) (at : ℕ) : Type 0 where
  pub within : at < length words
  pub before : BeginsLine (take at words)
  pub not_with : ¬ (BeginsLine (take (at + 1) words))

-- ---- the same of the options, after what was chosen before

pub record BeginsOptions (verb : Verb) (before : Chosen) (front : List (List ℕ)) : Type 0 where
  pub rest : List (List ℕ)
  pub after : Chosen
  pub command : Command
  pub dir : List ℕ
  pub leaves : Leaves verb before (front ++ rest) after
  pub asks : command_of verb after ≡ Some command
  pub folder : folder_of verb after ≡ Some dir
  pub reserves : ReservesFewer (conf_of after)

pub record IsOptionMisfit (verb : Verb) (chosen : Chosen) (words : List (List ℕ)) (at : ℕ) : Type 0 where
  pub within : at < length words
  pub before : BeginsOptions verb chosen (take at words)
  pub not_with : ¬ (BeginsOptions verb chosen (take (at + 1) words))

-- the name of an option that may come next
pub record IsOpenName (verb : Verb) (before : Chosen) (name : List ℕ) : Type 0 where
  pub choice : Choice
  pub name_is : name ≡ option_name choice
  pub may : MayChoose verb choice before
