pub mod Composing
pub mod Fitting
pub mod Finding
pub mod Rising
