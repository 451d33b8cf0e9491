-- The code's view of a field as it stands in a file.
use Rattle.csv_grammar.specs.Raw.{RawField}
use Rattle.csv_fields.specs.declared.raw.Raw.{Raw}

abbrev pub raw_view : Raw → RawField
raw_view raw = record { bytes = raw.bytes.now; quoted = raw.quoted }
