-- The rows of a table, one after another.
use Rattle.std.proofs.Common.{◌≡◌, ◌∙◌, ℕ, ◌<◌, List, [], ◌∷◌, ◌++◌, length, map, ap, sym, subst, append_assoc, append-nil, inl, inr}
use Rattle.std.proofs.lemmas.List.{map-append}
use Rattle.csv_grammar.specs.Records.{Field, AreRecords}
use Rattle.csv_records.specs.Exchange.{IsFirstRecord, exchanged, exchanged_content}
use Rattle.csv_records.specs.Written.{HaveCells, RowsReadBack, row_bytes, rows_bytes}
use Rattle.file_convert.specs.declared.table.Reading.{Reading}
use Rattle.text_encodings.specs.Decoders.{AddsText}
use Rattle.file_convert.specs.Conversion.{AreConverted, no_row, empty_line, next_row, IsConvertedTable, PutsRow, PutsRows}
use Rattle.file_convert.specs.Pieces.{PutsHeader}
use Rattle.file_convert.specs.Rows.{Plan}
use Rattle.file_convert.proofs.RecordLemmas.{first_more, no_records}

-- what the records say
abbrev pub said : ℕ → List (List Field) → List (List (List ℕ))
said separator records = map (map (exchanged_content separator)) records

-- the rows so far, and the text that is left
pub record RowsSoFar (plans : List Plan) (how : Reading) (text left before now : List ℕ) : Type 0 where
  pub records : List (List Field)
  pub goes : (more : List (List Field)) → AreRecords left more → AreRecords text (records ++ more)
  pub outs : List (List (List ℕ))
  pub converted : AreConverted plans how.pads how.width (said how.separator records) outs
  pub have : HaveCells outs
  pub now_is : now ≡ before ++ rows_bytes outs

pub no_row_so_far : (plans : List Plan) (how : Reading) (text before : List ℕ) → RowsSoFar plans how text text before before
no_row_so_far plans how text before = record {
  records = [];
  goes = λ more are. are;
  outs = [];
  converted = no_row;
  have = tt;
  now_is = sym (append-nil before);
}

have_push : (outs : List (List (List ℕ))) (out : List (List ℕ)) → HaveCells outs → 0 < length out → HaveCells (outs ++ out ∷ [])
have_push [] out each here = (here, tt)
have_push (row ∷ outs) out each here = (each.0, have_push outs out each.1 here)

bytes_push : (outs : List (List (List ℕ))) (out : List (List ℕ)) → rows_bytes (outs ++ out ∷ []) ≡ rows_bytes outs ++ row_bytes out
bytes_push [] out = append-nil (row_bytes out)
bytes_push (row ∷ outs) out = ap (λ (l : List ℕ). row_bytes row ++ l) (bytes_push outs out) ∙ sym (append_assoc (row_bytes row) (rows_bytes outs) (row_bytes out))

pub row_more : (plans : List Plan) (how : Reading) (text left before now after : List ℕ) (cells : List (List ℕ)) (rest : List ℕ) → RowsSoFar plans how text left before now
    → 0 < length left → IsFirstRecord how.separator left cells rest → PutsRow plans how cells now after → RowsSoFar plans how text rest before after
row_more plans how text left before now after cells rest so long first puts = on puts
  where
    records : List (List Field)
    records = so.records ++ first.fields ∷ []

    said_more : said how.separator (so.records ++ first.fields ∷ []) ≡ said how.separator so.records ++ cells ∷ []
    said_more = map-append (map (exchanged_content how.separator)) so.records (first.fields ∷ [])
        ∙ ap (λ (l : List (List ℕ)). said how.separator so.records ++ l ∷ []) (sym first.cells_are)

    goes : (more : List (List Field)) → AreRecords rest more → AreRecords text ((so.records ++ first.fields ∷ []) ++ more)
    goes more are =
        subst (λ (l : List (List Field)). AreRecords text l) (sym (append_assoc so.records (first.fields ∷ []) more))
        (so.goes (first.fields ∷ more) (first_more how.separator left cells rest first long more are))

    on : PutsRow plans how cells now after → RowsSoFar plans how text rest before after
    on (inl (wide, blank, same)) = record {
      records = so.records ++ first.fields ∷ [];
      goes = goes;
      outs = so.outs;
      converted = subst (λ (l : List (List (List ℕ))). AreConverted plans how.pads how.width l so.outs)
          (ap (λ (l : List (List ℕ)). said how.separator so.records ++ l ∷ []) (sym blank) ∙ sym said_more)
          (empty_line (said how.separator so.records) so.outs wide so.converted);
      have = so.have;
      now_is = same ∙ so.now_is;
    }
    on (inr (out, few, fits, written, some, e)) = record {
      records = so.records ++ first.fields ∷ [];
      goes = goes;
      outs = so.outs ++ out ∷ [];
      converted = subst (λ (l : List (List (List ℕ))). AreConverted plans how.pads how.width l (so.outs ++ out ∷ [])) (sym said_more)
          (next_row (said how.separator so.records) so.outs cells out so.converted few fits written);
      have = have_push so.outs out so.have some;
      now_is = e ∙ ap (λ (l : List ℕ). l ++ row_bytes out) so.now_is ∙ append_assoc before (rows_bytes so.outs) (row_bytes out)
          ∙ ap (λ (l : List ℕ). before ++ l) (sym (bytes_push so.outs out));
    }

pub rows_done : (plans : List Plan) (how : Reading) (text before now : List ℕ) → RowsSoFar plans how text [] before now → PutsRows plans how text before now
rows_done plans how text before now so = record {
  records = so.records;
  are = subst (λ (l : List (List Field)). AreRecords text l) (append-nil so.records) (so.goes [] no_records);
  outs = so.outs;
  converted = so.converted;
  have = so.have;
  after_is = so.now_is;
}

pub table_written : (plans : List Plan) (how : Reading) (width : ℕ) (text rest before now after : List ℕ) → RowsReadBack
    → PutsHeader plans how (map (exchanged how.separator) text) rest width before now → PutsRows plans (record how { width = width }) rest now after
    → AddsText before after (IsConvertedTable plans how.pads how.separator text)
table_written plans how width text rest before now after law h puts = (
  rows_bytes (h.titles ∷ puts.outs),
  puts.after_is ∙ (ap (λ (l : List ℕ). l ++ rows_bytes puts.outs) h.after_is ∙ append_assoc before (row_bytes h.titles) (rows_bytes puts.outs)),
  record {
    header = h.header;
    rows = said how.separator puts.records;
    read = record {
      records = h.first.fields ∷ puts.records;
      are = first_more how.separator (map (exchanged how.separator) text) h.header rest h.first h.long puts.records puts.are;
      cells_are = ap (λ (l : List (List ℕ)). l ∷ said how.separator puts.records) h.first.cells_are;
    };
    titles = h.titles;
    outs = puts.outs;
    named = h.named;
    titled = h.titled;
    converted = subst (λ (n : ℕ). AreConverted plans how.pads n (said how.separator puts.records) puts.outs) h.width_is puts.converted;
    written = law.rows (h.titles ∷ puts.outs) (h.some, puts.have);
  },
)
