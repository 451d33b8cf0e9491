-- Lines that are written one after another.
use Rattle.std.proofs.Common.{◌≡◌, ◌≤◌, ◌<◌, ◌+◌, ℕ, List, [], ◌∷◌, ◌++◌, length, take, drop, get_or, sym, ap, ◌∙◌, append-nil, suc, drop-cons, add-one}
use Rattle.std.specs.Io.KnownBytes.{Appends}
use Rattle.std.proofs.KnownBytes.{Appends-trans}
use Rattle.std.proofs.lemmas.List.{take-append-drop, take-append-le, take_more}
use Rattle.std.proofs.lemmas.Grind.{flat_map-append}
use Rattle.std.proofs.Math.Seq.{take-append-add}
use Rattle.table_store.specs.Table.{TableOf}
use Rattle.odata_http.specs.Device.{Counts, SinkOf}
use Rattle.odata_http.specs.Answer.{HasWritten, HasFailed}
use Rattle.odata_serve.specs.Check.{table_line, table_lines}

-- the lines of the tables up to one, its own, and those of the tables after it
lines_at : (tables : List TableOf) (i : ℕ) (table : TableOf) → i < length tables → table ≡ get_or tables i table
    → table_lines tables ≡ table_lines (take i tables) ++ (table_line table ++ table_lines (drop (i + 1) tables))
lines_at tables i table less at =
    let parts : tables ≡ take i tables ++ (table ∷ drop (i + 1) tables) =
    sym (take-append-drop i tables)
    ∙ ap (λ (rest : List TableOf). take i tables ++ rest) (rw add-one (drop-cons tables i table less ∙ ap (λ (x : TableOf). x ∷ drop (suc i) tables) (sym at))) in
    ap table_lines parts ∙ flat_map-append table_line (take i tables) (table ∷ drop (i + 1) tables)

-- the line of one more table
lines_more : (tables : List TableOf) (i : ℕ) (table : TableOf) → i < length tables → table ≡ get_or tables i table
    → table_lines (take (i + 1) tables) ≡ table_lines (take i tables) ++ table_line table
lines_more tables i table less at =
    ap table_lines (take_more tables i table less ∙ ap (λ (x : TableOf). take i tables ++ x ∷ []) (sym at))
    ∙ flat_map-append table_line (take i tables) (table ∷ [])
    ∙ ap (λ (xs : List ℕ). table_lines (take i tables) ++ xs) (append-nil (table_line table))

module _ (tables : List TableOf) (i : ℕ) (table : TableOf) (less : i < length tables) (at : table ≡ get_or tables i table) where
  -- one more line was written
  pub listed_more : {a b d : SinkOf} → HasWritten a b (table_lines (take i tables)) → Appends b.taken d.taken (table_line table)
      → d.failed_writes ≡ b.failed_writes → HasWritten a d (table_lines (take (i + 1) tables))
  listed_more {a} {b} {d} p gained failed = record {
    gained = rw (lines_more tables i table less at)
        (Appends-trans a.taken b.taken d.taken (table_lines (take i tables)) (table_line table) p.gained gained);
    failed = failed ∙ p.failed;
  }

  -- a front of one more line was written, and then a write failed
  pub listed_front : {a b d : SinkOf} → HasWritten a b (table_lines (take i tables))
      → (n : ℕ) × (n ≤ length (table_line table)) × Appends b.taken d.taken (take n (table_line table))
      → Counts b.failed_writes d.failed_writes → (n : ℕ) × HasFailed a d (take n (table_lines tables))
  listed_front {a} {b} {d} p front counts =
      let before = table_lines (take i tables) in
      let behind = table_lines (drop (i + 1) tables) in
      let same : take (length before + front.0) (table_lines tables) ≡ before ++ take front.0 (table_line table) =
      ap (take (length before + front.0)) (lines_at tables i table less at)
      ∙ take-append-add before (table_line table ++ behind) front.0
      ∙ ap (λ (xs : List ℕ). before ++ xs) (take-append-le front.0 (table_line table) behind front.1) in (
        length before + front.0,
        record {
          gained = rw same (Appends-trans a.taken b.taken d.taken before (take front.0 (table_line table)) p.gained front.2);
          failed = rw p.failed at counts;
        },
      )
