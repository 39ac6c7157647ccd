-- Laws of the questions of binding, by subject.
pub mod LawsJudge
pub mod LawsAskPlaced
pub mod LawsQuestions
