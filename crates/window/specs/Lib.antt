-- What the contracts of water in the last runs cite beside `rules`, and what its loop keeps.
pub mod Exceeded
