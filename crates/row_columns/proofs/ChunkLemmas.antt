-- Numbers of rows in chunks.
use Rattle.std.proofs.Common.{◌≡◌, ℕ, zero, suc, ◌+◌, ◌-◌, ◌<◌, ◌≤◌, ◌^◌, List, [], ◌∷◌, ◌++◌, get_or, length, length-append, map, append_assoc, append-nil, refl, slice_set, sym, ap, subst, ◌∙◌, arith, add-one}
use Rattle.std.specs.List.{All}
use Rattle.std.proofs.lemmas.List.{get_or_append_left, get_or-append-add, get_or-append_right, get_or-map, get_or_read, length-map}
use Rattle.row_columns.specs.declared.row_numbers.Chunk.{Chunk}
use Rattle.row_columns.specs.Chunks.{chunk_numbers, chunked_numbers, no_chunk, AreCounted}
use Rattle.row_columns.specs.Numbers.{numbers_from}
use Rattle.row_columns.proofs.NumberLemmas.{from-append, from-start}

size : (c : Chunk) → length (chunk_numbers c) ≡ length c.rows
size c = length-map c.rows (λ row. c.start + row)

-- ---- one chunk more

pub chunks_push : (chunks : List Chunk) (c : Chunk) → chunked_numbers (chunks ++ c ∷ []) ≡ chunked_numbers chunks ++ chunk_numbers c
chunks_push [] c = append-nil (chunk_numbers c)
chunks_push (d ∷ chunks) c = rw (chunks_push chunks c, append_assoc (chunk_numbers d) (chunked_numbers chunks) (chunk_numbers c)) refl

pub counted_push : (n : ℕ) (chunks : List Chunk) (c : Chunk) → AreCounted n chunks → c.before ≡ n + length (chunked_numbers chunks) → AreCounted n (chunks ++ c ∷ [])
counted_push n [] c counted is = (omega (arith, is), tt)
counted_push n (d ∷ chunks) c counted is = (
  counted.0,
  counted_push (n + length d.rows) chunks c counted.1 (omega (arith, is, size d, length-append (chunk_numbers d) (chunked_numbers chunks))),
)

-- the first rows of a block
first_rows : (c : Chunk) → c.rows ≡ numbers_from 0 (length c.rows) → chunk_numbers c ≡ numbers_from c.start (length c.rows)
first_rows c all = ap (map (λ row. c.start + row)) all ∙ from-start c.start (length c.rows)

-- one chunk of them
pub run_of : (chunks : List Chunk) (listed : List ℕ) (c s : Chunk) (count : ℕ) → length chunks ≡ 1 → c ≡ get_or chunks 0 c → s ≡ get_or chunks 0 s → c.rows ≡ numbers_from 0 (length c.rows)
    → listed ≡ [] → count ≡ length (chunked_numbers chunks) → chunked_numbers chunks ++ listed ≡ numbers_from s.start count
run_of (d ∷ []) listed c s count one at at' all none is =
    let many : count ≡ length d.rows = omega (arith, is, length-append (chunk_numbers d) [], size d) in
    rw (none, append-nil (chunk_numbers d ++ []), append-nil (chunk_numbers d), at', many) (first_rows d (rw at at all))
run_of chunks listed c s count one at at' all none is = absurd (omega arith)

-- the first rows of a block that go on from it are of the same chunk
pub run_more : (chunks : List Chunk) (c b s m : Chunk) (rows : List ℕ) → length chunks ≡ 1 → b ≡ get_or chunks 0 b → s ≡ get_or chunks 0 s → m ≡ get_or chunks 0 m
    → b.rows ≡ numbers_from 0 (length b.rows) → c.rows ≡ numbers_from 0 (length c.rows) → s.start + c.before ≡ c.start → c.before ≡ length (chunked_numbers chunks)
    → rows ≡ numbers_from 0 (c.before + length c.rows)
    → chunked_numbers (slice_set chunks 0 record { before = m.before; start = m.start; rows = rows }) ≡ chunked_numbers chunks ++ chunk_numbers c
run_more (d ∷ []) c b s m rows one at_b at_s at_m all next goes_on before is =
    let first : chunk_numbers d ≡ numbers_from d.start (length d.rows) = first_rows d (rw at_b at all) in
    let many : c.before ≡ length d.rows = omega (arith, before, length-append (chunk_numbers d) [], size d) in
    let start : d.start + length d.rows ≡ c.start = ap (λ (e : Chunk). e.start + length d.rows) (sym at_s) ∙ rw (← many) goes_on in
    append-nil (map (λ row. m.start + row) rows)
    ∙ rw (at_m, is, many, append-nil (chunk_numbers d), first, first_rows c next, from-start d.start (length d.rows + length c.rows), ← start)
    (sym (from-append d.start (length d.rows) (length c.rows)))
run_more chunks c b s m rows one at_b at_s at_m all next goes_on before is = absurd (omega arith)

-- ---- the number at a place

least : (n : ℕ) (chunks : List Chunk) (i : ℕ) → AreCounted n chunks → i < length chunks → n ≤ (get_or chunks i no_chunk).before
least n [] i counted within = absurd (omega (arith, within))
least n (c ∷ chunks) zero counted within = omega (arith, counted.0)
least n (c ∷ chunks) (suc i) counted within = omega (arith, least (n + length c.rows) chunks i counted.1 (omega (arith, within)))

in_first : (n : ℕ) (c : Chunk) (chunks : List Chunk) (place : ℕ) → AreCounted (n + length c.rows) chunks → n ≤ place → (1 < length (c ∷ chunks) → place < (get_or chunks 0 no_chunk).before)
    → place < n + length (chunked_numbers (c ∷ chunks)) → place - n < length c.rows
in_first n c [] place counted from next less = omega (arith, from, less, size c, length-append (chunk_numbers c) [])
in_first n c (d ∷ chunks) place counted from next less = omega (arith, from, counted.0, next (omega arith))

-- it is in the last chunk that has at most `place` numbers before it
pub chunk_found : (n : ℕ) (chunks : List Chunk) (i place : ℕ) → AreCounted n chunks → i < length chunks → (get_or chunks i no_chunk).before ≤ place
    → (suc i < length chunks → place < (get_or chunks (suc i) no_chunk).before) → place < n + length (chunked_numbers chunks)
    → (place - (get_or chunks i no_chunk).before < length (get_or chunks i no_chunk).rows)
    × (get_or (chunked_numbers chunks) (place - n) 0 ≡ (get_or chunks i no_chunk).start + get_or (get_or chunks i no_chunk).rows (place - (get_or chunks i no_chunk).before) 0)
chunk_found n [] i place counted within from next less = absurd (omega (arith, within))
chunk_found n (c ∷ chunks) zero place counted within from next less =
    let inside : place - n < length c.rows = in_first n c chunks place counted.1 (omega (arith, counted.0, from)) next less in
    let same : place - n ≡ place - c.before = omega (arith, counted.0) in (
      omega (arith, inside, counted.0),
      get_or_append_left (chunk_numbers c) (chunked_numbers chunks) 0 (place - n) (omega (arith, inside, size c)) ∙ get_or-map (λ row. c.start + row) c.rows (place - n) 0 0 inside
          ∙ ap (λ k. c.start + get_or c.rows k 0) same,
    )
chunk_found n (c ∷ chunks) (suc i) place counted within from next less =
    let m = n + length c.rows in
    let low : m ≤ place = omega (arith, least m chunks i counted.1 (omega (arith, within)), from) in
    let left : place - n - length (chunk_numbers c) ≡ place - m = omega (arith, size c) in
    let rest = chunk_found m chunks i place counted.1 (omega (arith, within)) from (λ more. next (omega (arith, more)))
    (omega (arith, less, size c, length-append (chunk_numbers c) (chunked_numbers chunks))) in (
      rest.0,
      get_or-append_right (chunk_numbers c) (chunked_numbers chunks) (length (chunk_numbers c)) (place - n) 0 refl (omega (arith, low, size c))
          ∙ ap (λ k. get_or (chunked_numbers chunks) k 0) left ∙ rest.1,
    )

-- so where a chunk is known
pub chunk_read : (chunks : List Chunk) (i place : ℕ) (c : Chunk) → AreCounted 0 chunks → All (λ n. n < 2 ^ 32) (chunked_numbers chunks) → i < length chunks → (get_or chunks i no_chunk).before ≤ place
    → (i + 1 < length chunks → place < (get_or chunks (i + 1) no_chunk).before) → place < length (chunked_numbers chunks) → c ≡ get_or chunks i c
    → (place - c.before < length c.rows) × (c.start + get_or c.rows (place - c.before) 0 < 2 ^ 32) × (get_or (chunked_numbers chunks) place 0 ≡ c.start + get_or c.rows (place - c.before) 0)
chunk_read chunks i place c counted fit within from next less at =
    let here : place - 0 ≡ place = omega arith in
    let found = chunk_found 0 chunks i place counted within from (rw add-one at next) (omega (arith, less)) in
    let is = rw here at found.1 in
    rw (get_or_read chunks i c within at no_chunk) (found.0, omega (arith, is, fit place 0 less), is)

-- the numbers of a chunk fit where all do
pub chunk_fits : (chunks : List Chunk) (i : ℕ) (c : Chunk) → All (λ n. n < 2 ^ 32) (chunked_numbers chunks) → i < length chunks → c ≡ get_or chunks i c → All (λ n. n < 2 ^ 32) (chunk_numbers c)
chunk_fits [] i c fit within at = absurd (omega (arith, within))
chunk_fits (d ∷ chunks) zero c fit within at =
    subst (λ (e : Chunk). All (λ n. n < 2 ^ 32) (chunk_numbers e)) (sym at)
    (λ k e less. subst (λ n. n < 2 ^ 32) (get_or_append_left (chunk_numbers d) (chunked_numbers chunks) e k less) (fit k e (omega (arith, less, length-append (chunk_numbers d) (chunked_numbers chunks)))))
chunk_fits (d ∷ chunks) (suc i) c fit within at =
    chunk_fits chunks i c
    (λ k e less. subst (λ n. n < 2 ^ 32) (get_or-append-add (chunk_numbers d) (chunked_numbers chunks) k e)
    (fit (length (chunk_numbers d) + k) e (omega (arith, less, length-append (chunk_numbers d) (chunked_numbers chunks)))))
    (omega (arith, within)) at
