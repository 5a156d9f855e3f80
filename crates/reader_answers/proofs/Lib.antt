pub mod BadPlaceLaws
