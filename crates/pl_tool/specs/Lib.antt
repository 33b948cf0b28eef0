pub mod ProgramLines
pub mod ProgramFailures
pub mod ProgramOutcomes
