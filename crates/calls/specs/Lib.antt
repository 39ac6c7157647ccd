-- What the code's types mean in the terms of `rules`, where the parts of a call record stand, and what the inner functions answer.
pub mod Head
pub mod Places
pub mod Runs
pub mod Keys
pub mod Slots
pub mod Values
pub mod Named
