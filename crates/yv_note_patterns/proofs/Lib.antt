pub mod NoPattern
