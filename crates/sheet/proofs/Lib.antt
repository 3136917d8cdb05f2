pub mod ByteLaws
pub mod RowLaws
pub mod RowSteps
pub mod RowsAdded
pub mod RoundTrip
pub mod SameBytes
pub mod Outcomes
