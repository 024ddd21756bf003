pub mod Canonical
pub mod ColumnForms
pub mod Columns
pub mod Create
pub mod KeyForms
pub mod Keys
pub mod Options
pub mod StatementForms
