-- What binding two sheets and reading them promises.
pub mod Bind
pub mod Read
