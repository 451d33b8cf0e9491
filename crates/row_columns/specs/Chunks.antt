-- Numbers of rows, in chunks, and others after them.
use Rattle.std.specs.Prelude.{◌≡◌, ◌+◌, ◌++◌, ◌<◌, ◌≤◌, ◌^◌, ℕ, List, [], ◌∷◌, length, map}
use Rattle.std.specs.List.{All}
use Rattle.row_columns.specs.declared.row_numbers.Chunk.{Chunk}
use Rattle.row_columns.specs.declared.row_numbers.RowNumbers.TheInside.{Inside}

abbrev pub no_chunk : Chunk
no_chunk = record { before = 0; start = 0; rows = [] }

abbrev pub chunk_numbers : Chunk → List ℕ
chunk_numbers chunk = map (λ row. chunk.start + row) chunk.rows

-- those of chunks, one after another
abbrev pub chunked_numbers : List Chunk → List ℕ
chunked_numbers [] = []
chunked_numbers (chunk ∷ chunks) = chunk_numbers chunk ++ chunked_numbers chunks

abbrev pub numbers_view : Inside → List ℕ
numbers_view numbers = chunked_numbers numbers.chunks.items ++ numbers.listed.items

-- each chunk knows how many numbers come before its own, if `before` come before the first
abbrev pub AreCounted : ℕ → List Chunk → Type 0
AreCounted before [] = Unit {0}
AreCounted before (chunk ∷ chunks) = (chunk.before ≡ before) × AreCounted (before + length chunk.rows) chunks

-- it is known how many numbers the chunks have, and each has 32 bits
pub record AreChunked (numbers : Inside) : Type 0 where
  pub counted : AreCounted 0 numbers.chunks.items
  pub count : numbers.count ≡ length (chunked_numbers numbers.chunks.items)
  pub few : numbers.count ≤ 2 ^ 32
  pub fit : All (λ number. number < 2 ^ 32) (chunked_numbers numbers.chunks.items)
