-- Counts that stand still at their end, and when a fault may be answered.
pub use Rattle.rx_value.specs.Counting.{rise, Rose}
