-- The numbers of rows.
pub use Rattle.row_selection.specs.Numbers.{numbers_from}
