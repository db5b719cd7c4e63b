pub mod FoundLemmas
pub mod LineLemmas
pub mod ManyLemmas
pub mod MarkLemmas
pub mod ParserLemmas
pub mod ProgramLemmas
