pub mod Names
pub mod Jobs
pub mod Requests
pub mod CommandLine
pub mod Asks
pub mod Faults
pub mod Matches
