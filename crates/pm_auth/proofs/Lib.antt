pub mod AuthLaws
mod Cutting
mod Finding
mod Listing
mod RuleWords
mod SecretWords
mod Messages
