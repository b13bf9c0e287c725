pub mod Demands
pub mod FormMakes
pub mod Informing
