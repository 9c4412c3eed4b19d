pub mod StrengthLaws
