-- Words are one line alone.
use Rattle.std.proofs.Common.{◌≡◌, ℕ, List, ◌∷◌, Some, None, length, refl, sym, ◌∙◌, ap, subst, arith}
use Rattle.pm_server.specs.declared.conf.Conf.{Conf}
use Rattle.pm_top_words.specs.{declared.words.{Command.Command, Verb.{Verb, TheVariants.{Initdb, Once, Serve, Controldata, Workload}}}, Words.{Choose, Chosen, IsLineWith, ReservesFewer, command_of, conf_of, folder_of, nothing, verb_word}, Options.Leaves}

-- the verbs' words are of five lengths
by_length : (one two : Verb) → length (verb_word one) ≡ length (verb_word two) → one ≡ two
by_length Initdb Initdb same = refl
by_length Once Once same = refl
by_length Serve Serve same = refl
by_length Controldata Controldata same = refl
by_length Workload Workload same = refl
by_length one two same = absurd (omega (arith, same))

-- what the words after the verb leave
pub record Given (verb : Verb) (tail : List (List ℕ)) (command : Command) (dir : List ℕ) (conf : Conf) : Type 0 where
  pub after : Chosen
  pub leaves : Leaves verb nothing tail after
  pub asks : command_of verb after ≡ Some command
  pub folder : folder_of verb after ≡ Some dir
  pub conf_is : conf ≡ conf_of after
  pub reserves : ReservesFewer (conf_of after)

pub given : (words : List (List ℕ)) (verb : Verb) (tail : List (List ℕ)) (command : Command) (dir : List ℕ) (conf : Conf)
    → words ≡ verb_word verb ∷ tail → IsLineWith words command dir conf → Given verb tail command dir conf
given words verb tail command dir conf are line =
    let both : verb_word line.verb ∷ line.options ≡ verb_word verb ∷ tail = sym line.words_are ∙ are in
    let word : verb_word line.verb ≡ verb_word verb = cc in
    let same : line.verb ≡ verb = by_length line.verb verb (ap (λ (l : List ℕ). length l) word) in
    let rest : line.options ≡ tail = cc in
    record {
      after = line.chosen;
      leaves = record {
        choices = line.choices;
        choose =
            subst (λ v. Choose v nothing line.choices tail line.chosen) same
            (subst (λ options. Choose line.verb nothing line.choices options line.chosen) rest line.choose);
      };
      asks = subst (λ v. command_of v line.chosen ≡ Some command) same line.asks;
      folder = subst (λ v. folder_of v line.chosen ≡ Some dir) same line.folder;
      conf_is = line.conf_is;
      reserves = subst ReservesFewer line.conf_is line.reserves;
    }

pub not_none : {X : Type 0} (one : X) → Some one ≡ None → ⊥
not_none one same = absurd cc
