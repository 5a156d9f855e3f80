pub mod FileLines
