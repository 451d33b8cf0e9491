-- The limits of a folder.
use Rattle.std.specs.Prelude.{ℕ}
use Rattle.csvw_meta.specs.declared.limits.Limits.{Limits}

pub record LimitsOf : Type 0 where
  pub file : ℕ
  pub tables : ℕ
  pub columns : ℕ
  pub transformations : ℕ

abbrev pub limits_view : Limits → LimitsOf
limits_view limits = record {
  file = limits.file;
  tables = limits.tables;
  columns = limits.columns;
  transformations = limits.transformations;
}
