pub mod Yes
pub mod Noted
pub mod SealLaws
