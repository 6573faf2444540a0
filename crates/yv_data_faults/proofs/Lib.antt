pub mod WaySpelling
