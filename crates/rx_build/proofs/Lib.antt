pub mod Few
pub mod Given
pub mod Known
