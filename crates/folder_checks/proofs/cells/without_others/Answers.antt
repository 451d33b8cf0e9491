use Rattle.std.proofs.Common.{◌≡◌, ◌==◌, [], ◌∷◌, true, false, length, length-append, map, slice_set, ◌+◌, ap, subst, arith}
use Rattle.std.specs.List.{list_any}
use Rattle.cell_types.specs.Column.{column_view}
use Rattle.column_blocks.specs.ColumnReader.{reader_at}
use Rattle.csvw_meta.specs.Schema.{schema_view}
use Rattle.file_cells.specs.Cells.{most_rows}
use Rattle.file_cells.proofs.ReaderLemmas.{read_start}
use Rattle.folder_checks.proofs.KeptLemmas.{fresh_left, kept_next, last_fresh}
use Rattle.folder_checks.proofs.cells.without_others.Goals as goal

pub loop-reader-init : goal.loop-reader-init
loop-reader-init c =
    let fresh = c.in_ok-fresh.fresh.items in
    let e = subst (λ columns. fresh ≡ map (λ column. reader_at most_rows column []) (map column_view columns)) c.as_slice.ensures.value c.in_ok-fresh.ensures in
    let begun = read_start most_rows (schema_view c.args.schema.now).columns fresh e in
    record { within = omega (arith, begun.count); fresh = λ k column less at. begun.each k column at; kept = λ rows kept. kept }

pub with_reader-kept-requires : goal.with_reader-kept-requires
with_reader-kept-requires c =
    let left = c.pop.new.self in
    let kept = c.loop-reader.invariant.kept c.requires.0 c.requires.1 in
    omega (
      arith,
      c.len.ensures,
      left.ok.0,
      ap length c.in-Some.ensures.items,
      length-append left.items (c.in-Some.reader ∷ []),
      c.loop-reader.invariant.within,
      kept.count,
    )

pub loop-reader-preserved : goal.loop-reader-preserved
loop-reader-preserved c =
    let schema = schema_view c.args.schema.now in
    let old = c.loop-reader.kept.items in
    let new = c.with_reader-kept.result.items in
    let fresh = c.loop-reader.fresh.items in
    let left = c.pop.new.self.items in
    let reader = c.in-Some.reader in
    let invariant = c.loop-reader.invariant in
    let size : length fresh ≡ length left + 1 = omega (arith, ap length c.in-Some.ensures.items, length-append left (reader ∷ [])) in
    let col : c.len.result ≡ length left = omega (arith, c.len.ensures, c.pop.new.self.ok.0) in
    let stays = subst (λ n. list_any (λ place. place == n) schema.key ≡ true → new ≡ old) col
    (subst (λ key. list_any (λ place. place == c.len.result) key ≡ true → new ≡ old) c.as_slice-in-Some.ensures.value c.with_reader-kept.ensures.kept) in
    let put = subst (λ n. list_any (λ place. place == n) schema.key ≡ false → new ≡ slice_set old n reader) col
    (subst (λ key. list_any (λ place. place == c.len.result) key ≡ false → new ≡ slice_set old c.len.result reader) c.as_slice-in-Some.ensures.value c.with_reader-kept.ensures.put) in
    record {
      within = omega (arith, size, invariant.within);
      fresh = fresh_left schema.columns fresh left reader invariant.fresh c.in-Some.ensures.items;
      kept = λ rows had.
          let kept = invariant.kept rows had in
          kept_next schema rows old new (length left) reader kept (omega (arith, size, invariant.within, kept.count)) stays put
          (last_fresh schema.columns fresh left reader invariant.fresh c.in-Some.ensures.items);
    }
