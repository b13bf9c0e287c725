pub mod OwnArray
pub mod Held
pub mod Turns
pub mod Room
