pub mod WordLaws
pub mod Numbers
pub mod CallerLaws
pub mod HandedLaws
pub mod RefusedStays
pub mod WordCases
pub mod FanOutCases
