pub mod HelpLines
pub mod Turns
pub mod Room
pub mod LongPart
