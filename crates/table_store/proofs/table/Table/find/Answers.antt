use Rattle.std.proofs.Common.{◌≡◌, ◌<◌, All, length, map, subst, sym, ap, ◌∙◌, arith}
use Rattle.cell_types.specs.Value.{value_view}
use Rattle.csvw_meta.specs.Schema.{schema_view}
use Rattle.key_index.specs.Key.{row_of}
use Rattle.key_index.specs.Keys.{typed_keys, AreKeysOf}
use Rattle.table_store.specs.Inside.{table_view}
use Rattle.table_store.specs.Table.{TableOf, keys_of}
use Rattle.table_store.proofs.ColumnLemmas.{typed-keys}
use Rattle.table_store.proofs.table.Table.find.Goals as goal

pub find-requires-clause-places : goal.find-requires-clause-places
find-requires-clause-places c =
    let table = c.self.inside in
    let count : length c.as_slice.result.now ≡ length (schema_view table.schema).columns = ap length c.as_slice.ensures.value ∙ c.self.invariant.columns.count in
    subst (λ places. All (λ place. place < length c.as_slice.result.now) places) (sym c.as_slice-2.ensures.value)
    (λ k d within. omega (arith, count, c.self.invariant.places k d within))

pub find-requires-clause-keys : goal.find-requires-clause-keys
find-requires-clause-keys c =
    let table = c.self.inside in
    let same : typed_keys c.as_slice-2.result.now c.as_slice.result.now table.count ≡ keys_of (table_view table) =
    ap (λ places. typed_keys places c.as_slice.result.now table.count) c.as_slice-2.ensures.value
    ∙ ap (λ columns. typed_keys table.schema.key.items columns table.count) c.as_slice.ensures.value ∙ typed-keys table.schema.key.items table.columns.items table.count in
    (table.count, subst (AreKeysOf table.keys) (sym same) c.self.invariant.keys)

pub returns : goal.returns
returns c =
    let table = c.self.inside in
    let key = map value_view c.args.key.now in
    let same : typed_keys c.as_slice-2.result.now c.as_slice.result.now table.count ≡ keys_of (table_view table) =
    ap (λ places. typed_keys places c.as_slice.result.now table.count) c.as_slice-2.ensures.value
    ∙ ap (λ columns. typed_keys table.schema.key.items columns table.count) c.as_slice.ensures.value ∙ typed-keys table.schema.key.items table.columns.items table.count in
    c.find.ensures table.count (subst (AreKeysOf table.keys) (sym same) c.self.invariant.keys) ∙ ap (λ keys. row_of keys key) same
    ∙ ap (λ (t : TableOf). row_of (keys_of t) key) c.self.view_is
