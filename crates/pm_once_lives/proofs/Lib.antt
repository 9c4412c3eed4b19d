pub mod QuietLaws
