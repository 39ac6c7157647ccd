-- What the proofs share: names as they are printed, lines of items, items of a style, the printed list as a line of them, and the questions.
pub mod LawsName
pub mod LawsLine
pub mod LawsItems
pub mod LawsList
pub mod LawsAsked
