-- What private clauses cite: the states and answers of the code, and no meaning of a text.
pub mod End
pub mod Gap
pub mod Machine
pub mod Pairs
pub mod Plain
pub mod Place
pub mod Scan
pub mod Steps
pub mod Turn
pub mod Writer
