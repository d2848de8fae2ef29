-- The search by halves in rows that rise by their keys, and worked look-ups. What the look-up in the function table of an accepted load finds is `Finds` of proofs/.
pub mod SearchLaws
pub mod Rising
pub mod Worked
