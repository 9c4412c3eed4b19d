pub mod Blaming
pub mod Children
pub mod Completing
pub mod Linking
pub mod Promising
pub mod PromisesLaws
pub mod Reasons
