pub mod ClearLines
