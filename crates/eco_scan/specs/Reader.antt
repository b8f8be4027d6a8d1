-- The reader's own machine. Contracts of private functions alone speak of it: that it reads exactly the
-- grammar is proved.
pub mod Machine
pub mod Points
