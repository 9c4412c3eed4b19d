pub mod HomeLaws
