pub mod StatementLinks
mod EntryRows
