-- The fault of a file that an error is, and its text.
use Rattle.std.specs.Prelude.{◌≡◌, ℕ, List, ◌++◌, codes, Option, None, Some, IfSome, IsUtf8}
use Rattle.std.specs.Fmt.{decimal}
use Rattle.std.specs.Str.Lossy.{utf8_valid_len}
use Rattle.csv_grammar.specs.Faults.{bare_cr, stray_quote, after_quote, unfinished}
use Rattle.csv_grammar.specs.Files.{FileCause, not_utf8, malformed, no_header, wrong_width, IsFileFault}
use Rattle.csv_index.specs.declared.fault.TextFault.{TextFault}
use Rattle.csv_index.specs.declared.fault.TextFault.TheVariants.{NotUtf8, BareCr, StrayQuote, AfterQuote, Unfinished, NoHeader, Width, NoMemory}

-- what is wrong with the file; nothing, where memory ran out
abbrev pub text_cause : TextFault → Option FileCause
text_cause (NotUtf8 at) = Some (not_utf8 at)
text_cause (BareCr at) = Some (malformed bare_cr at)
text_cause (StrayQuote at) = Some (malformed stray_quote at)
text_cause (AfterQuote at) = Some (malformed after_quote at)
text_cause (Unfinished at) = Some (malformed unfinished at)
text_cause NoHeader = Some no_header
text_cause (Width row) = Some (wrong_width row)
text_cause NoMemory = None

-- its name, and its place or row in decimal
abbrev pub text_fault_text : TextFault → List ℕ
text_fault_text (NotUtf8 at) = codes "NotUtf8 at " ++ decimal at
text_fault_text (BareCr at) = codes "BareCr at " ++ decimal at
text_fault_text (StrayQuote at) = codes "StrayQuote at " ++ decimal at
text_fault_text (AfterQuote at) = codes "AfterQuote at " ++ decimal at
text_fault_text (Unfinished at) = codes "Unfinished at " ++ decimal at
text_fault_text NoHeader = codes "NoHeader"
text_fault_text (Width row) = codes "Width row " ++ decimal row
text_fault_text NoMemory = codes "NoMemory"

-- the bytes are not UTF-8, and the error tells the length of their longest front that is
abbrev pub IsNotUtf8 : List ℕ → TextFault → Type 0
IsNotUtf8 bytes fault = ¬ (IsUtf8 bytes) × (fault ≡ NotUtf8 (utf8_valid_len bytes))

-- the error is what is first wrong with the file, or that memory ran out
abbrev pub IsTextFault : List ℕ → TextFault → Type 0
IsTextFault bytes fault = IfSome (text_cause fault) (IsFileFault bytes)
