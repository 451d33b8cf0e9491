-- No file has more rows than bytes, and each fault but out of memory is the file's.
use Rattle.std.proofs.Common.{◌≢◌, ℕ, ◌+◌, ◌*◌, ◌^◌, ◌<◌, ◌≤◌, List, [], ◌∷◌, length, refl, arith}
use Rattle.std.specs.Prelude.{IfOk, Result, Ok, Err}
use Rattle.std.proofs.lemmas.Nat.{mul-le}
use Rattle.csv_grammar.specs.Files.{FileCause, not_utf8, malformed, no_header, wrong_width, IsFileFault}
use Rattle.csv_grammar.specs.Faults.{bare_cr, stray_quote, after_quote, unfinished}
use Rattle.csv_index.specs.Index.{Places, Rise, IsIndexOf}
use Rattle.csv_index.specs.Fault.{IsTextFault}
use Rattle.csv_index.specs.declared.fault.TextFault.{TextFault}
use Rattle.csv_index.specs.declared.fault.TextFault.TheVariants.{NotUtf8, BareCr, StrayQuote, AfterQuote, Unfinished, NoHeader, Width, NoMemory}

-- places that rise are no more than the numbers up to the greatest
count_of_places : (start : ℕ) (ends : List ℕ) (size : ℕ) → Rise start ends size → start ≤ size + 1 → start + length ends ≤ size + 1
count_of_places start [] size rise within = omega (arith, within)
count_of_places start (end ∷ ends) size rise within =
    let more = count_of_places (end + 1) ends size rise.2 (omega (arith, rise.1)) in omega (arith, more, rise.0)

-- the first place is no further than the end, where there is one
start_within : (start : ℕ) (ends : List ℕ) (size : ℕ) → Rise start ends size → 0 < length ends → start ≤ size
start_within start [] size rise some = omega (arith, some)
start_within start (end ∷ ends) size rise some = omega (arith, rise.0, rise.1)

pub rows_within : (places : Places) (bytes : List ℕ) → IsIndexOf places bytes → places.rows ≤ length bytes
rows_within places bytes index =
    let most : (places.rows + 1) * 1 ≤ (places.rows + 1) * places.width = mul-le (places.rows + 1) 1 (places.rows + 1) places.width (omega arith) index.fits.width in
    let some : 0 < length places.ends = omega (arith, most, index.fits.count) in
    let start = start_within places.start places.ends (length bytes) index.fits.rise some in
    let ends = count_of_places places.start places.ends (length bytes) index.fits.rise (omega (arith, start)) in
    omega (arith, ends, most, index.fits.count)

-- an index of bytes that fit a slice
pub few_rows : (index : Result Places TextFault) (bytes : List ℕ) → length bytes < 2 ^ 63
    → IfOk index (λ index. IsIndexOf index bytes) → IfOk index (λ index. index.rows < 2 ^ 63)
few_rows (Ok index) bytes small t = omega (arith, rows_within index bytes t)
few_rows (Err e) bytes small t = tt

pub fault_told : (e : TextFault) (bytes : List ℕ) → e ≢ NoMemory → IsTextFault bytes e → (cause : FileCause) × IsFileFault bytes cause
fault_told (NotUtf8 at) bytes other fault = (not_utf8 at, fault)
fault_told (BareCr at) bytes other fault = (malformed bare_cr at, fault)
fault_told (StrayQuote at) bytes other fault = (malformed stray_quote at, fault)
fault_told (AfterQuote at) bytes other fault = (malformed after_quote at, fault)
fault_told (Unfinished at) bytes other fault = (malformed unfinished at, fault)
fault_told NoHeader bytes other fault = (no_header, fault)
fault_told (Width row) bytes other fault = (wrong_width row, fault)
fault_told NoMemory bytes other fault = absurd (other refl)
