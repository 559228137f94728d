pub mod Feeds
pub mod Lists
pub mod Turns
pub mod Singles
pub mod Noting
pub mod Reports
pub mod Drives
