pub mod ClauseLaws
pub mod HintLaws
pub mod ItemLaws
pub mod Parsed
pub mod SelectLaws
pub mod SetLaws
pub mod Splitting
pub mod StatementLaws
