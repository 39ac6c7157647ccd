-- What playing a cut of P and N promises.
pub mod Record
pub mod Play
