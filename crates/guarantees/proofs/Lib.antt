-- What shows the statements of specs/; then worked inputs that meet their hypotheses, and why each is asked for; then the lemmas.
pub mod Demand3
pub mod RefusedCalls
pub mod LentBack
pub mod ProvisosNeeded
pub mod NotVacuous
pub mod SecondHalf
pub mod TextJoined
pub mod ReadBackImage
pub mod FirstHalf
pub mod AcceptedInputs
pub mod RefusalPlaces
