-- What the reader's contracts cite beside `rules`: what its answers mean, and what a parser has left.
pub mod Parser
