-- Worked cases of document 01, computed by the checker: each row is a theorem of its own, so that a failing one names itself.
-- They are the cases that a reader wants beside the definitions: document 01's listing, the demands' two files, each refusal from 1 to 24 once (1 to 17 in
-- Refused, 19 in TwoFiles, the others up to 23 in Patched, 24 in Room), each lent table filled and one element short, and each table of a catalogue. All
-- else, as limits, which number goes first and every program name, is run: by `replay` against a model that was written apart, by `test_deposit` and by
-- `test_program_section`.
pub mod Write
pub mod Run
pub mod Listing
pub mod TwoFiles
pub mod Room
pub mod Refused
pub mod Patched
pub mod Contents
