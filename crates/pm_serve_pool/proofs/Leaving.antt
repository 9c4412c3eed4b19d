-- What the work of a slot leaves.
use Rattle.std.{proofs.Common.{◌≡◌, ℕ, List, [], ◌++◌, ◌∷◌, map, ap, ◌∙◌, subst}, specs.{Prelude.{Option, None}, List.{AllByRecursion, flat_map}}}
use Rattle.atomic_table.specs.Seated.{TableId}
use Rattle.pm_store_shared.specs.pm_disk.declared.disk.Disk as Disk
use Rattle.pm_serve_crew.specs.{pm_board.{Models.PostModel, pm_board_words.declared.views.Work.TheVariants.Idle}, pm_query.{Book.generation_of, Calls.{DiskFact, unread_for}}, pm_store_shared.{pm_record.declared.fault.RedoFault.RedoFault, Grows.Grew, Log.entries_of, Learned.IsUnread, Told.TokenModel}, pm_worker.{declared.{mail.MailTold.MailTold, tools.Tools.Tools}, Runs.{HasClosed, IsKnownBy, IsRun, Run, noted_by}}, Left.{IsBorneOut, Manner}}
use Rattle.pm_serve_pool.{specs.{declared.plan.Terms.Terms, Plan.{files_of, manner_of}, Works.IsNewWork}, proofs.Moments.are_runs}

pub record Leaves {F : Type 0} (manner : Manner) (board home : TableId) (k : ℕ) (post : PostModel MailTold) (token : TokenModel F) : Type 0 where
  pub runs : List Run
  pub each : AllByRecursion (IsRun None manner.seed manner.limit manner.gives) runs
  pub board_is : post.table ≡ board
  pub slot : post.slot ≡ k
  pub idle : post.knows.work ≡ Idle
  pub children : post.knows.past ≡ map (λ run. run.child) runs
  pub heard : post.knows.notes.heard ≡ map (λ run. run.heard) runs
  pub looked : post.knows.notes.looked ≡ flat_map (λ run. run.looked) runs
  pub cancels : post.knows.notes.cancels ≡ flat_map (λ run. run.made) runs
  pub home_is : token.table ≡ home
  pub number : token.number ≡ k
  pub entries : entries_of token.own ≡ noted_by runs
  pub borne_out : AllByRecursion (IsBorneOut manner.files token.past) runs

module _ {F : Type 0} (g : Disk.Ghosts F) (learned : TokenModel F → DiskFact → Type 0) (tells : (token : TokenModel F) (fault : RedoFault) → learned token (unread_for fault) → IsUnread (files_of g token.first) token.past fault) where
  -- what is known of the runs by the token at their end is borne out by what that found
  borne : (token : TokenModel F) (runs : List Run) → AllByRecursion (IsKnownBy (generation_of token.past) (learned token)) runs → AllByRecursion (IsBorneOut (files_of g token.first) token.past) runs
  borne token [] known = tt
  borne token (run ∷ runs) known = (
    record { reason = λ fault kept startup back. tells token fault (known.0.reason fault kept startup back); met = known.0.met_by_then },
    borne token runs known.1,
  )

  module _ {R C S : Type 0} (gives : C → ℕ → Type 0) (terms : Terms C) (token_of : S → TokenModel F) where
    pub leaves : (board home : TableId) (first : Option F) (k : ℕ) (tools : Tools R C) (post post' : PostModel MailTold) (store store' : S) → IsNewWork gives terms board home first k tools post (token_of store)
        → HasClosed (λ entries before now. Grew entries (token_of before) (token_of now)) (λ s. generation_of (token_of s).past) (λ s. learned (token_of s)) None tools.seed tools.conf.authentication_ms (gives tools.clock) post post' store store'
        → Leaves (manner_of gives terms (files_of g first)) board home k post' (token_of store')
    leaves board home first k tools post post' store store' new closed =
        record {
          runs = closed.front ++ closed.last ∷ [];
          each = subst (λ (seed : List ℕ). AllByRecursion (IsRun None seed terms.plan.conf.authentication_ms (gives terms.clock.value)) (closed.front ++ closed.last ∷ [])) new.seed
              (subst (λ (limit : ℕ). AllByRecursion (IsRun None tools.seed limit (gives terms.clock.value)) (closed.front ++ closed.last ∷ [])) new.limit
              (are_runs new.moments None tools.seed tools.conf.authentication_ms (closed.front ++ closed.last ∷ []) closed.worked.each));
          board_is = closed.worked.post.table ∙ ap (λ p. p.table) new.post_is;
          slot = closed.worked.post.slot ∙ ap (λ p. p.slot) new.post_is;
          idle = closed.worked.post.idle;
          children = closed.worked.post.past ∙ ap (λ p. p.knows.past ++ map (λ (run : Run). run.child) (closed.front ++ closed.last ∷ [])) new.post_is;
          heard = closed.worked.post.heard ∙ ap (λ p. p.knows.notes.heard ++ map (λ (run : Run). run.heard) (closed.front ++ closed.last ∷ [])) new.post_is;
          looked = closed.worked.post.looked ∙ ap (λ p. p.knows.notes.looked ++ flat_map (λ (run : Run). run.looked) (closed.front ++ closed.last ∷ [])) new.post_is;
          cancels = closed.worked.post.cancels ∙ ap (λ p. p.knows.notes.cancels ++ flat_map (λ (run : Run). run.made) (closed.front ++ closed.last ∷ [])) new.post_is;
          home_is = closed.worked.store.table ∙ new.home_is;
          number = closed.worked.store.number ∙ new.number;
          borne_out =
              subst (λ (disk : Option F). AllByRecursion (IsBorneOut (files_of g disk) (token_of store').past) (closed.front ++ closed.last ∷ [])) (closed.worked.store.first ∙ new.disk)
              (borne (token_of store') (closed.front ++ closed.last ∷ []) closed.worked.known);
          entries = ap entries_of (closed.worked.store.own ∙ ap (λ own. own ++ closed.worked.store.added) new.own) ∙ closed.worked.store.added_are;
        }
