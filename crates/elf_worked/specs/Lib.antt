-- Worked files of paper 1, computed by the checker: each row is a theorem of its own, so that a failing one names itself. Each clause of 25 and 26 stands at its
-- limit and past it; E1 to E35 are the readings in docs/DECISIONS.md.
pub mod Write
pub mod Run
pub mod Kinds
pub mod Rules
pub mod Objects
pub mod Loads
pub mod Pairs
