-- Crates above may cite this file. A window more of a file, and the rest of it.
use Rattle.std.proofs.Common.{◌≡◌, ℕ, ◌+◌, ◌≤◌, List, ◌++◌, length, take, Option, None, Some, IfSome, refl, sym, subst, append-nil, arith}
use Rattle.csv_grammar.specs.Files.{FileCause, IsFileFault}
use Rattle.csv_grammar.specs.Raw.{RawTable}
use Rattle.csv_index.specs.Fault.{text_cause}
use Rattle.csv_index.specs.declared.fault.TextFault.{TextFault}
use Rattle.csv_index.specs.declared.fault.TextFault.TheVariants as text
use Rattle.csv_windows.specs.Windows.{AreFaulty, Continues, HasLines, IsBeforeWindow, ReadsLines}
use Rattle.csv_windows.specs.declared.front.FirstLines.{FirstLines}
use Rattle.csv_windows.specs.declared.front.FirstLines.TheVariants as lines
use Rattle.csv_windows.specs.declared.front.TableSize.{TableSize}
use Rattle.csv_windows.specs.declared.window.Front.{Front}
use Rattle.cell_types.specs.Column.{ColumnOf}
use Rattle.file_cells.specs.declared.cells.Cells.{Cells}
use Rattle.file_cells.specs.declared.fault.FileFault.TheVariants.{Text}
use Rattle.file_cells.specs.declared.loader.Loader.{Loader}
use Rattle.file_cells.specs.Cells.{AddsLines, HasLineCells}
use Rattle.file_cells.specs.Reading.{HasFileCells, HasReadTo, IsWrongFile, LoadsWindow, ReadsLinesOf}

-- rows
pub reads_rows : (columns : List ColumnOf) (bytes window : List ℕ) (first : FirstLines) (cells all : Cells) (new : Front) (file : RawTable) → HasLineCells columns bytes first cells
    → (reads : ReadsLines bytes window new) → Continues bytes (bytes ++ take reads.taken window) first file (HasLines new.lines) → AddsLines columns first cells file all
    → ReadsLinesOf columns bytes window (record { front = new; cells = all })
reads_rows columns bytes window first cells all new file have reads continues adds = record {
  taken = reads.taken;
  within = reads.within;
  read = record { front = reads.front; cells = adds bytes (bytes ++ take reads.taken window) new.lines have continues };
}

-- lines with which the file is no table
faulty_cells : (columns : List ColumnOf) (bytes : List ℕ) (first : FirstLines) (cells : Cells) → AreFaulty first → HasLineCells columns bytes first cells
faulty_cells columns bytes lines.Nothing cells faulty = absurd faulty
faulty_cells columns bytes (lines.Table size) cells faulty = absurd faulty
faulty_cells columns bytes (lines.Faulty fault) cells faulty = tt

pub reads_fault : (columns : List ColumnOf) (bytes window : List ℕ) (cells : Cells) (new : Front) → ReadsLines bytes window new → AreFaulty new.lines
    → ReadsLinesOf columns bytes window (record { front = new; cells = cells })
reads_fault columns bytes window cells new reads faulty = record {
  taken = reads.taken;
  within = reads.within;
  read = record { front = reads.front; cells = faulty_cells columns (bytes ++ take reads.taken window) new.lines cells faulty };
}

-- nothing
pub reads_none : (columns : List ColumnOf) (bytes window : List ℕ) (loader : Loader) → LoadsWindow columns bytes window loader → ReadsLinesOf columns bytes window loader
reads_none columns bytes window loader at = record { taken = 0; within = omega arith; read = subst (λ b. HasReadTo columns b loader) (sym (append-nil bytes)) at.read }

-- the first lines are before the window
pub before_window : (columns : List ColumnOf) (bytes window : List ℕ) (loader : Loader) → LoadsWindow columns bytes window loader → IsBeforeWindow bytes window loader.front
before_window columns bytes window loader at = record { begins = at.read.front; short = at.short }

-- the rest
pub file_cells : (columns : List ColumnOf) (whole : List ℕ) (size : TableSize) (cells : Cells) → HasLineCells columns whole (lines.Table size) cells
    → HasFileCells columns whole size.rows cells
file_cells columns whole size cells have = record { raw = have.0; is = have.1; count = have.2.rows; has = have.3 }

-- ---- a fault of the text is one of the file
some_of : (cause : Option FileCause) (bytes : List ℕ) → (cause ≡ None → ⊥) → IfSome cause (IsFileFault bytes) → (is : FileCause) × (cause ≡ Some is) × IsFileFault bytes is
some_of None bytes not is = absurd (not refl)
some_of (Some cause) bytes not is = (cause, refl, is)

has_cause : (fault : TextFault) → (fault ≡ text.NoMemory → ⊥) → text_cause fault ≡ None → ⊥
has_cause text.NoMemory not none = not refl
has_cause fault not none = cc

pub text_wrong : (columns : List ColumnOf) (bytes : List ℕ) (fault : TextFault) → (fault ≡ text.NoMemory → ⊥) → IfSome (text_cause fault) (IsFileFault bytes)
    → IsWrongFile columns bytes (Text fault)
text_wrong columns bytes fault not is = some_of (text_cause fault) bytes (has_cause fault not) is
