pub mod Agree
pub mod Counts
pub mod Distinct
pub mod ExchangedTargets
pub mod Quiet
pub mod RestOrEvent
