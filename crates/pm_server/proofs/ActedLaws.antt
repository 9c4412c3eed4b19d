-- An act is done, and its entry is noted: the log says what the journal tells.
use Rattle.std.proofs.Common.{List, [], ◌∷◌, ◌++◌, refl, sym, subst}
use Rattle.pm_supervisor_journal.specs.{pm_state.declared.{action.Action.Action, event.PmEvent.PmEvent}, Standing.{Standing, act_for, entry_for}}
use Rattle.pm_supervisor_journal.specs.pm_state.declared.action.Action.TheVariants as act
use Rattle.pm_server_lines.{specs.Log.{HasSaid, LogView}, proofs.LogLaws.{said_more, said_same}}
use Rattle.pm_server.specs.Acted.{LogBehind}

pub said_acted : (a : Action) (s : Standing) (journal : List PmEvent) (first before now : LogView) → LogBehind (act_for a s) before now → HasSaid journal first before → HasSaid (journal ++ entry_for a s ∷ []) first now
said_acted (act.Start k) s journal first before now same so_far = subst (λ (l : LogView). HasSaid (journal ++ entry_for (act.Start k) s ∷ []) first l) (sym same) (said_same journal (entry_for (act.Start k) s ∷ []) first before refl so_far)
said_acted (act.Quit why) s journal first before now same so_far = subst (λ (l : LogView). HasSaid (journal ++ entry_for (act.Quit why) s ∷ []) first l) (sym same) (said_same journal (entry_for (act.Quit why) s ∷ []) first before refl so_far)
said_acted act.Terminate s journal first before now same so_far = subst (λ (l : LogView). HasSaid (journal ++ entry_for act.Terminate s ∷ []) first l) (sym same) (said_same journal (entry_for act.Terminate s ∷ []) first before refl so_far)
said_acted act.KillAll s journal first before now same so_far = subst (λ (l : LogView). HasSaid (journal ++ entry_for act.KillAll s ∷ []) first l) (sym same) (said_same journal (entry_for act.KillAll s ∷ []) first before refl so_far)
said_acted act.AskCheckpoint s journal first before now same so_far = subst (λ (l : LogView). HasSaid (journal ++ entry_for act.AskCheckpoint s ∷ []) first l) (sym same) (said_same journal (entry_for act.AskCheckpoint s ∷ []) first before refl so_far)
said_acted act.Ready s journal first before now same so_far = subst (λ (l : LogView). HasSaid (journal ++ entry_for act.Ready s ∷ []) first l) (sym same) (said_same journal (entry_for act.Ready s ∷ []) first before refl so_far)
said_acted act.Reset s journal first before now same so_far = subst (λ (l : LogView). HasSaid (journal ++ entry_for act.Reset s ∷ []) first l) (sym same) (said_same journal (entry_for act.Reset s ∷ []) first before refl so_far)
said_acted (act.Say line) s journal first before now says so_far = said_more journal line first before now so_far says
said_acted (act.End how) s journal first before now same so_far = subst (λ (l : LogView). HasSaid (journal ++ entry_for (act.End how) s ∷ []) first l) (sym same) (said_same journal (entry_for (act.End how) s ∷ []) first before refl so_far)
