pub mod PartLaws
pub mod GivenSteps
pub mod Puts
pub mod PutLines
