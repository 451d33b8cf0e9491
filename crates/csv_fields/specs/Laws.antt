-- What holds of every field.
use Rattle.std.specs.Prelude.{◌≡◌}
use Rattle.csv_grammar.specs.Records.{Field}
use Rattle.csv_grammar.specs.Raw.{raw_of, field_of}

-- what stands as a field does is that field
abbrev pub FieldsStandSo : Type 0
FieldsStandSo = (field : Field) → field_of (raw_of field) ≡ field
