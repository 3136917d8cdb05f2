pub mod PastDisabled
pub mod GivenOut
pub mod Cursors
pub mod Bound
