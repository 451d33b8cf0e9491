-- The media types of bodies (OData JSON Format 4.01, section 3.1; RFC 7111, section 5.1; OData 4.01 Part 1, section 11.2.10).
use Rattle.std.specs.Prelude.{ℕ, List, codes}
use Rattle.odata_parse.specs.declared.format.Format.{Format}
use Rattle.odata_parse.specs.declared.format.Format.TheVariants as format
use Rattle.odata_http.specs.declared.media.Media.{Media}
use Rattle.odata_http.specs.declared.media.Media.TheVariants.{Json, Csv, Plain}

-- the media type of rows in a format
abbrev pub media_of : Format → Media
media_of format.Json = Json
media_of format.Csv = Csv

abbrev pub media_type : Media → List ℕ
media_type Json = codes "application/json;odata.metadata=none"
media_type Csv = codes "text/csv;charset=utf-8"
media_type Plain = codes "text/plain;charset=utf-8"
