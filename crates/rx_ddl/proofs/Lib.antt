pub mod Doubled
pub mod Grammar
pub mod Law
pub mod Scanning
mod Enclosed
mod ColumnLaws
mod KeyLaws
pub mod StatementLaws
