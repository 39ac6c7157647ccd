-- The published Rust as functions on lists, statement by statement: src/eval/runtime/params/spec.rs and src/eval/runtime/arguments.rs of
-- starlark 0.14.2, Apache-2.0. Line numbers are those of the published files.
pub mod Spec
pub mod Builder
pub mod Slices
pub mod CheckUnique
pub mod Locals
pub mod Arguments
pub mod Collect
pub mod CanFill
pub mod Ending
pub mod Whole
pub mod BoardExamples
pub mod BuilderExamples
pub mod FillExamples
pub mod Examples
