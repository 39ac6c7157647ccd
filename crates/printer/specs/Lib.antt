-- What the functions that print a list promise.
pub mod Name
pub mod Line
pub mod Items
pub mod Printed
