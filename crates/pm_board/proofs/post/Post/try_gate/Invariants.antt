use Rattle.pm_board.proofs.post.Post.try_gate.Given as goal

-- as whom the child tries
abbrev pub ghosts-take_place : goal.ghosts-take_place
ghosts-take_place g a = record { is_ordinary = a.is_ordinary }
