pub mod Resolution
pub mod Example
pub mod Faulty
