-- Works and what they give, and spawners and what they refused.
use Rattle.std.specs.Prelude.{ℕ, List, [], ◌∷◌}
use Rattle.pm_spawn.specs.declared.{running.Running.Running, threads.{FewThreads.FewThreads, Threads.Threads}}

-- the work that a thread does
abbrev pub work_of : {R W X O : Type 0} → Running R W X O → W
work_of running = running.thread.promise.0.value

-- each of the outputs is one that its work gives
abbrev pub EachGives : {W O : Type 0} → (W → O → Type 0) → List W → List O → Type 0
EachGives gives [] [] = Unit {0}
EachGives gives (work ∷ works) (output ∷ outputs) = gives work output × EachGives gives works outputs
EachGives gives [] (output ∷ outputs) = ⊥
EachGives gives (work ∷ works) [] = ⊥

-- how many threads weren't made
abbrev pub refused_threads : {R : Type 0} → Threads R → ℕ
refused_threads threads = threads.refused

-- how many may still be started, and how many weren't made
abbrev pub threads_left : {R : Type 0} → FewThreads R → ℕ
threads_left threads = threads.left

abbrev pub few_refused : {R : Type 0} → FewThreads R → ℕ
few_refused threads = threads.refused
