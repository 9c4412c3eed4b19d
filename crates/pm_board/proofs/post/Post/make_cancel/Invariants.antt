use Rattle.pm_board.proofs.post.Post.make_cancel.Given as goal

-- the cancel that the step makes
abbrev pub ghosts-raise : goal.ghosts-raise
ghosts-raise g a = record { cancel = record { slot = a.slot; pid = a.pid; seed = a._seed.now; key = a._key } }
