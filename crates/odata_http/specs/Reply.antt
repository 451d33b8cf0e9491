-- The reply to the head of a request (RFC 9112, section 4; OData 4.01 Part 1, section 8).
use Rattle.std.specs.Prelude.{◌≡◌, ℕ, Bool, true, List, [], ◌∷◌, ◌++◌, ◌==◌, length, codes, if◌then◌else◌, unwrap_or, Option, None, Some, slice_get}
use Rattle.std.specs.Fmt.{decimal}
use Rattle.http.specs.StatusCode.{reason_phrase}
use Rattle.cell_types.specs.Value.{CellValue}
use Rattle.table_store.specs.Catalog.{CatalogOf}
use Rattle.table_store.specs.Table.{TableOf}
use Rattle.query_meaning.specs.Meaning.{MeaningOf, ResultOf, query_meaning, result, number, single, no_row}
use Rattle.odata_errors.specs.declared.code.Code.{Code}
use Rattle.odata_errors.specs.declared.code.Code.TheVariants.{BadRequest, MethodNotAllowed, NoSuchRow, DivisionByZero}
use Rattle.reply_text.specs.Body.{rows_text, service_text, error_text}
use Rattle.reply_text.specs.Csv.{csv_text}
use Rattle.reply_text.specs.declared.row_sizes.RowSizes.{RowSizes}
use Rattle.reply_text.specs.Json.{json_row}
use Rattle.reply_text.specs.RowSizes.{AreCsvSizes, AreJsonSizes, HaveCsvSizes, HaveJsonSizes}
use Rattle.odata_parse.specs.declared.format.Format.{Format}
use Rattle.odata_parse.specs.declared.format.Format.TheVariants.{Json, Csv}
use Rattle.odata_errors.specs.Code.{status_of}
use Rattle.odata_http.specs.declared.response.TheConstants.{OK}
use Rattle.http_heads.specs.declared.method.Method.{Method}
use Rattle.http_heads.specs.declared.method.Method.TheVariants.{Head}
use Rattle.http_heads.specs.Head.{HeadOf}
use Rattle.http_heads.specs.Method.{method_of}
use Rattle.http_heads.specs.Checks.{head_fault, closes}
use Rattle.odata_http.specs.declared.media.Media.{Media}
use Rattle.odata_http.specs.declared.media.Media.TheVariants as media
use Rattle.odata_http.specs.Media.{media_of, media_type}
use Rattle.odata_request.specs.Request.{AsksFor, RequestOf, RowsRequestOf, refused, rows, service}

abbrev pub line_end : List ℕ
line_end = 13 ∷ 10 ∷ []

-- HTTP-version SP status-code SP reason-phrase
abbrev pub status_line : ℕ → List ℕ
status_line status = codes "HTTP/1.1 " ++ decimal status ++ codes " " ++ unwrap_or (reason_phrase status) [] ++ line_end

-- field-name ":" SP field-value
abbrev pub field_line : List ℕ → List ℕ → List ℕ
field_line name value = name ++ codes ": " ++ value ++ line_end

-- the methods that are served, where another was refused (RFC 9110, section 15.5.6)
abbrev pub allow_line : ℕ → List ℕ
allow_line status = if status == status_of MethodNotAllowed then field_line (codes "Allow") (codes "GET, HEAD") else []

abbrev pub closing_line : Bool → List ℕ
closing_line closes = if closes then field_line (codes "Connection") (codes "close") else []

-- the status line, and the fields of every reply with a body of that media type
abbrev pub first_lines : ℕ → Media → List ℕ
first_lines status media =
    status_line status
    ++ field_line (codes "Content-Type") (media_type media)
    ++ field_line (codes "OData-Version") (codes "4.0")

-- the lines before a body of `length` bytes
abbrev pub reply_lines : ℕ → Media → ℕ → Bool → List ℕ
reply_lines status media size closes =
    first_lines status media
    ++ allow_line status
    ++ field_line (codes "Content-Length") (decimal size)
    ++ closing_line closes
    ++ line_end

-- the body is left out of the reply to a HEAD (RFC 9110, section 9.3.2)
abbrev pub body_for : Option Method → List ℕ → List ℕ
body_for (Some Head) body = []
body_for method body = body

-- the reply with that status and a body of that media type, to a request of that method, where it is a served one
abbrev pub reply_with : Option Method → ℕ → Media → List ℕ → Bool → List ℕ
reply_with method status media body closes = reply_lines status media (length body) closes ++ body_for method body

-- a response: its status, and its body with the media type
pub record ResponseOf : Type 0 where
  pub status : ℕ
  pub media : Media
  pub body : List ℕ

-- errors and the service document are in JSON
abbrev pub error_response : Code → ResponseOf
error_response code = record { status = status_of code; media = media.Json; body = error_text code }

abbrev pub service_response : CatalogOf → ResponseOf
service_response catalog = record { status = OK; media = media.Json; body = service_text catalog.tables }

abbrev pub rows_body : ResultOf → Format → List ℕ
rows_body answer Json = rows_text answer
rows_body answer Csv = csv_text answer

-- these are the sizes of some first ones of the rows in that format
abbrev pub HaveFirstSizes : Format → RowSizes → ResultOf → Type 0
HaveFirstSizes Json sizes answer = (count : ℕ) × AreJsonSizes sizes count answer
HaveFirstSizes Csv sizes answer = (count : ℕ) × AreCsvSizes sizes count answer

-- or of the rows in some order
abbrev pub HaveSizesIn : Format → RowSizes → ResultOf → Type 0
HaveSizesIn Json sizes answer = HaveJsonSizes sizes answer
HaveSizesIn Csv sizes answer = HaveCsvSizes sizes answer

-- one row under names
abbrev pub one_row : List (List ℕ) → List CellValue → ResultOf
one_row names row = record { names = names; rows = row ∷ []; count = None }

-- the object of a row, and no list of rows; or a line of the names and that of the row
abbrev pub row_body : List (List ℕ) → List CellValue → Format → List ℕ
row_body names row Json = json_row names row
row_body names row Csv = csv_text (one_row names row)

abbrev pub list_response : Format → ResultOf → ResponseOf
list_response format answer = record { status = OK; media = media_of format; body = rows_body answer format }

-- a number is plain text, whatever the format
abbrev pub number_response : ℕ → ResponseOf
number_response n = record { status = OK; media = media.Plain; body = decimal n }

abbrev pub row_response : Format → List (List ℕ) → List CellValue → ResponseOf
row_response format names row = record { status = OK; media = media_of format; body = row_body names row format }

-- what a query means, in a format
abbrev pub meaning_response : Format → MeaningOf → ResponseOf
meaning_response format (result answer) = list_response format answer
meaning_response format (number n) = number_response n
meaning_response format (single names row) = row_response format names row
meaning_response format no_row = error_response NoSuchRow

-- where it means nothing, a number is divided by zero
abbrev pub rows_response : Format → Option MeaningOf → ResponseOf
rows_response format (Some meaning) = meaning_response format meaning
rows_response format None = error_response DivisionByZero

-- a query is answered from its table
pub record RespondsWithRows (catalog : CatalogOf) (asked : RowsRequestOf) (response : ResponseOf) : Type 0 where
  pub table : TableOf
  pub table_is : slice_get catalog.tables asked.table ≡ Some table
  pub response_is : response ≡ rows_response asked.format (query_meaning table.schema asked.query table.rows)

-- what a request is answered with
abbrev pub RespondsWith : CatalogOf → RequestOf → ResponseOf → Type 0
RespondsWith catalog (refused code) response = response ≡ error_response code
RespondsWith catalog service response = response ≡ service_response catalog
RespondsWith catalog (rows asked) response = RespondsWithRows catalog asked response

-- a response to a request of that method
abbrev pub reply_of : Option Method → ResponseOf → Bool → List ℕ
reply_of method response closing = reply_with method response.status response.media response.body closing

-- The bytes are the reply to the head: a response to what it asks for. Whether the connection closes after it depends on the head alone.
pub record IsReply (catalog : CatalogOf) (head : HeadOf) (reply : List ℕ) : Type 0 where
  pub request : RequestOf
  pub asks : AsksFor catalog (head_fault head) head.target request
  pub response : ResponseOf
  pub responds : RespondsWith catalog request response
  pub reply_is : reply ≡ reply_of (method_of head.method) response (closes head)

-- the reply to a rest that is no head, which closes; no method is known, so it has its body
unfoldable pub rest_reply : List ℕ
rest_reply = reply_with None (status_of BadRequest) media.Json (error_text BadRequest) true
