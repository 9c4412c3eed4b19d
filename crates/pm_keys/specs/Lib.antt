pub mod CancelKey
