pub mod SentenceLines
