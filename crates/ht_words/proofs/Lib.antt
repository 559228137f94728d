pub mod Acceptance
pub mod Numbers
pub mod Ranges
pub mod ReadingLemmas
pub mod Spelling
pub mod Refusals
