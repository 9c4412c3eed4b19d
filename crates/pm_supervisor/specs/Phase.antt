-- how far the server is
pub data Phase : Type 0 where
  Init : Phase
  -- the startup child brings the data up to date
  Starting : Phase
  -- connections are served
  Running : Phase
  -- sessions go on, and no connection becomes one
  Draining : Phase
  -- sessions and background children are ending
  Stopping : Phase
  -- the last checkpoint is written
  Checkpointing : Phase
  -- only children that refuse a connection may be left
  Clearing : Phase
  -- no child is left
  Clear : Phase
  Ended : Phase
