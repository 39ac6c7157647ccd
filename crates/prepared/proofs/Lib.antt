-- What is proved of prepared lists.
pub mod LawsPrepared
pub mod LawsRowSteps
pub mod LawsPreparedOnly
pub mod LawsRows
pub mod LawsCheck
pub mod LawsSlots
pub mod LawsRowsLoop
pub mod LawsLoad
pub mod LawsNamedAfter
pub mod LawsBind
pub mod LawsInOrder
pub mod LawsSeenInOrder
pub mod LawsWrittenInOrder
pub mod LawsOrderEnds
pub mod LawsWritten
