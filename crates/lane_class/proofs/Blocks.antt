-- Blocks of a text, in the middle and at its end.
use Rattle.std.proofs.Common.{◌≡◌, ℕ, ◌+◌, ◌-◌, ◌≤◌, List, ◌++◌, length, take, drop, replicate, sym, ap, ◌∙◌, arith}
use Rattle.std.proofs.Math.Seq.{take-append-add}
use Rattle.std.proofs.lemmas.List.{take-append-le, take-replicate, drop-replicate}
use Rattle.lane_class.specs.Classes.{block_from}

-- a block with fewer than 64 bytes of the text left is those bytes, and zeros
pub block_at-short : (rest : List ℕ) → length rest ≤ 64 → rest ++ drop (length rest) (replicate 64 0) ≡ block_from rest 0
block_at-short rest short =
    let whole : 64 ≡ length rest + (64 - length rest) = omega arith in
    ap (λ zeros. rest ++ zeros) (drop-replicate (length rest) 64 0 ∙ sym (take-replicate (64 - length rest) 64 0 (omega arith)))
    ∙ (sym (take-append-add rest (replicate 64 0) (64 - length rest)) ∙ ap (λ n. take n (rest ++ replicate 64 0)) (sym whole))

-- a whole block has no zeros of its own
pub block_at-whole : (bytes : List ℕ) (at : ℕ) → 64 ≤ length (drop at bytes) → take 64 (drop at bytes) ≡ block_from bytes at
block_at-whole bytes at long = sym (take-append-le 64 (drop at bytes) (replicate 64 0) long)
