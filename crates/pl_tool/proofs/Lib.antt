pub mod LastLine
pub mod ProgramAnswers
pub mod ProgramBytes
pub mod ProgramInputs
pub mod ProgramReads
mod SessionTransports
