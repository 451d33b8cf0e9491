pub mod Limits
pub mod Fault
pub mod Refusal
pub mod Members
pub mod Forms
pub mod Texts
pub mod Datatype
pub mod Inherited
pub mod Column
pub mod Key
pub mod Schema
pub mod Table
pub mod Group
pub mod Document
pub mod Laws
pub mod Worked
pub use Rattle.cell_types.specs.Column as CellColumn
