pub mod Blank
pub mod Lexeme
pub mod Quotes
pub mod Reserved
pub mod Scan
pub mod Sign
