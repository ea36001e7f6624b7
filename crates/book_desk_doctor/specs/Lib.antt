pub mod Doctoring
