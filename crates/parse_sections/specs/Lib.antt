-- One section's group and answers, what it lists, and the pass over all sections.
pub mod Kinds
pub mod Grouped
pub mod Answers
pub mod Lists
pub mod Candidates
pub mod Pass
