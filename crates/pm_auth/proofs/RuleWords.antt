-- How a word says a rule.
use Rattle.std.{proofs.Common.{◌≡◌, ℕ, List, ◌∷◌, ◌++◌, sym, subst}, specs.Prelude.{Option, None, Some, codes}}
use Rattle.pm_auth.{specs.{Cuts.{IsCut, IsFreeOf}, Rules.{IsNoField, IsNoRule, Names, SaysRule, method_word}, declared.{rules.Rule.Rule, fault.WordNo.{WordNo, TheVariants.{Form, NoMemory}}}}, proofs.Cutting.cut_once}

-- no word of a field has a space
all_spaceless : IsFreeOf 32 (codes "all")
all_spaceless = (λ e. cc, (λ e. cc, (λ e. cc, tt)))

spaceless : (field : Option (List ℕ)) (word : List ℕ) → Names field word → IsFreeOf 32 word
spaceless None word is = subst (λ (w : List ℕ). IsFreeOf 32 w) (sym is) all_spaceless
spaceless (Some name) word is = subst (λ (w : List ℕ). IsFreeOf 32 w) (sym is.0) is.1.spaceless

pub rule_cut : (word : List ℕ) (rule : Rule) (says : SaysRule word rule) → IsCut 32 word says.database (says.user ++ 32 ∷ method_word rule.method)
rule_cut word rule says = record { front_is = spaceless rule.database says.database says.database_is; whole_is = says.word_is }

pub rest_cut : (word database rest : List ℕ) (rule : Rule) → IsCut 32 word database rest → (says : SaysRule word rule)
    → (database ≡ says.database) × IsCut 32 rest says.user (method_word rule.method)
rest_cut word database rest rule cut says =
    let parts = cut_once 32 word database rest says.database (says.user ++ 32 ∷ method_word rule.method) cut (rule_cut word rule says) in
    (parts.0, record { front_is = spaceless rule.user says.user says.user_is; whole_is = parts.1 })

pub method_is : (word database rest user method : List ℕ) (rule : Rule) → IsCut 32 word database rest → IsCut 32 rest user method → (says : SaysRule word rule)
    → (user ≡ says.user) × (method ≡ method_word rule.method)
method_is word database rest user method rule cut next says =
    cut_once 32 rest user method says.user (method_word rule.method) next (rest_cut word database rest rule cut says).1

-- a field that is none leaves no rule
pub no_database : (word database rest : List ℕ) (no : WordNo) → IsCut 32 word database rest → IsNoField database no → IsNoRule word no
no_database word database rest Form cut none =
    λ rule says. none rule.database (subst (λ (w : List ℕ). Names rule.database w) (sym (rest_cut word database rest rule cut says).0) says.database_is)
no_database word database rest NoMemory cut none = tt

pub no_user : (word database rest user method : List ℕ) (no : WordNo) → IsCut 32 word database rest → IsCut 32 rest user method
    → IsNoField user no → IsNoRule word no
no_user word database rest user method Form cut next none =
    λ rule says. none rule.user
    (subst (λ (w : List ℕ). Names rule.user w) (sym (method_is word database rest user method rule cut next says).0) says.user_is)
no_user word database rest user method NoMemory cut next none = tt
