pub mod Common
pub mod Answering
pub mod ShortTexts
pub mod Ending
pub mod GivenBack
