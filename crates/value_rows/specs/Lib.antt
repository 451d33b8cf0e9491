pub use Rattle.table_store.specs.Block
pub mod Packed
pub mod ValueRows
