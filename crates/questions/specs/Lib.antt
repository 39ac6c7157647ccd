-- What the questions of binding answer.
pub mod Judge
pub mod Questions
