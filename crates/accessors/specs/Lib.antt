-- What an accessor's answer means in the terms of `rules`, and what its inner functions need and answer.
pub mod Answer
pub mod Entries
