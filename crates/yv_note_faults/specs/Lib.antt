pub mod Line
pub mod Sentences
pub mod InnerAdds
