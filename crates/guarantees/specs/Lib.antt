-- What holds of the definitions of model. The statements come first. Those that the contracts in src/lib.rt name are shown in proofs/; the laws that other crates cite too are shown here.
pub mod WordsOfDemand3
pub mod Demand3
pub mod RefusedCalls
pub mod LentBack
pub mod ProvisosDecided
pub mod OptionsAndLists
pub mod TableLaws
pub mod SecondHalf
pub mod AcceptedObjects
pub mod ReadBackImage
pub mod FirstHalf
pub mod AcceptedDeposits
pub mod AcceptedFiles
pub mod AcceptedInputs
pub mod RefusalPlaces
