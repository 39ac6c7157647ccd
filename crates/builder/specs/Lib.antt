-- What the code's types mean in the terms of `rules`, and what its functions promise.
pub mod Params
pub mod Spec
pub mod Record
pub mod Build
