-- The number of calls of a head depends on what it asks for.
use Rattle.std.proofs.Common.{◌≡◌, ◌<◌, ◌≤◌, ℕ, zero, suc, List, [], ◌∷◌, Option, Some, None, arith, length, map, max, refl, sym, ap, subst, ◌∙◌}
use Rattle.std.specs.Prelude.{slice_get}
use Rattle.std.proofs.Math.Nat.{le-max_left, le-max_right, max-eq_right}
use Rattle.cell_types.specs.Value.{CellValue}
use Rattle.table_store.specs.Block.{block_count}
use Rattle.table_store.specs.Catalog.{CatalogOf}
use Rattle.table_store.specs.Table.{TableOf}
use Rattle.typed_trees.specs.TypedTree.{TruthExprOf}
use Rattle.odata_query.specs.Query.{TypedOf}
use Rattle.query_plan.specs.Laws.{PlansNeedBlocks}
use Rattle.query_plan.specs.Needed.{needed_blocks, pushed_tests, query_stop, row_conditions}
use Rattle.query_plan.specs.Plan.{PlanOf, filtering, leading}
use Rattle.query_plan.specs.Scan.{admitted_blocks, up_to}
use Rattle.http_heads.specs.Checks.{head_fault}
use Rattle.odata_request.specs.Laws.{OneRequest}
use Rattle.odata_request.specs.Request.{RequestOf, RowsRequestOf, refused, rows, service}
use Rattle.odata_http.specs.Exchange.{QueryTakes, RequestTakes, query_length}
use Rattle.odata_http.specs.Laws.{TakesCalls, OneLength}

-- ---- no more than the table has blocks

filters_lead : (es : List TruthExprOf) → leading (map filtering es) ≡ es
filters_lead [] = refl
filters_lead (e ∷ es) = ap (λ (xs : List TruthExprOf). e ∷ xs) (filters_lead es)

-- a query needs what a plan needs that has its tests, its stop and its conditions
needed_few : PlansNeedBlocks → (q : TypedOf) (table : TableOf) → length (needed_blocks q table.rows) ≤ block_count (length table.rows)
needed_few law q table =
    let plan : PlanOf = record { scan = record { tests = pushed_tests q; stop = query_stop q }; nodes = map filtering (row_conditions q) } in
    let P : List TruthExprOf → Type 0 =
    λ es. length (up_to (query_stop q) es table.rows (admitted_blocks (pushed_tests q) table.rows)) ≤ block_count (length table.rows) in
    subst P (filters_lead (row_conditions q)) (law.few plan table.rows)

pub max_below : (a b : ℕ) → a ≤ b → max 1 a ≤ max 1 b
max_below zero zero h = omega arith
max_below zero (suc b) h = le-max_left 1 (suc b)
max_below (suc a) b h =
    let more = le-max_right 1 b in
    let same : max 1 (suc a) ≡ suc a = max-eq_right (omega arith) in omega (arith, h, more, same)

query_within : PlansNeedBlocks → (catalog : CatalogOf) (asked : RowsRequestOf) (key : Option (List CellValue)) (n : ℕ) (table : TableOf)
    → slice_get catalog.tables asked.table ≡ Some table → QueryTakes catalog asked key n → n ≤ max 1 (block_count (length table.rows))
query_within law catalog asked None n table is x =
    let same : x.table ≡ table = cc (x.table_is, is) in
    let calls = x.calls_are ∙ ap (query_length asked.query) same in
    let few = max_below (length (needed_blocks asked.query table.rows)) (block_count (length table.rows)) (needed_few law asked.query table) in
    omega (arith, calls, few)
query_within law catalog asked (Some key) n table is x = omega (arith, x, le-max_left 1 (block_count (length table.rows)))

request_within : PlansNeedBlocks → (catalog : CatalogOf) (request : RequestOf) (n : ℕ) → RequestTakes catalog request n → TakesCalls catalog request n
request_within law catalog (refused code) n x = x
request_within law catalog service n x = x
request_within law catalog (rows asked) n x = λ table is. query_within law catalog asked asked.query.key n table is x

-- ---- one number, and one at least

query_one : (catalog : CatalogOf) (asked : RowsRequestOf) (key : Option (List CellValue)) (m n : ℕ) → QueryTakes catalog asked key m
    → QueryTakes catalog asked key n → m ≡ n
query_one catalog asked None m n x y =
    let same : x.table ≡ y.table = cc (x.table_is, y.table_is) in
    x.calls_are ∙ ap (query_length asked.query) same ∙ sym y.calls_are
query_one catalog asked (Some key) m n x y = x ∙ sym y

request_one : (catalog : CatalogOf) (request : RequestOf) (m n : ℕ) → RequestTakes catalog request m → RequestTakes catalog request n → m ≡ n
request_one catalog (refused code) m n x y = x ∙ sym y
request_one catalog service m n x y = x ∙ sym y
request_one catalog (rows asked) m n x y = query_one catalog asked asked.query.key m n x y

query_some : (catalog : CatalogOf) (asked : RowsRequestOf) (key : Option (List CellValue)) (n : ℕ) → QueryTakes catalog asked key n → 0 < n
query_some catalog asked None n x =
    let calls = x.calls_are in omega (arith, calls, le-max_left 1 (length (needed_blocks asked.query x.table.rows)))
query_some catalog asked (Some key) n x = omega (arith, x)

request_some : (catalog : CatalogOf) (request : RequestOf) (n : ℕ) → RequestTakes catalog request n → 0 < n
request_some catalog (refused code) n x = omega (arith, x)
request_some catalog service n x = omega (arith, x)
request_some catalog (rows asked) n x = query_some catalog asked asked.query.key n x

pub one_length : OneRequest → PlansNeedBlocks → OneLength
one_length one law = record {
  one = λ catalog head m n x y.
      let same = one catalog (head_fault head) head.target x.request y.request x.asks y.asks in
      let P : RequestOf → Type 0 = λ r. RequestTakes catalog r m in
      request_one catalog y.request m n (subst P same x.takes) y.takes;
  some = λ catalog head n x. request_some catalog x.request n x.takes;
  within = λ catalog head n request x asks.
      let same = one catalog (head_fault head) head.target x.request request x.asks asks in
      let P : RequestOf → Type 0 = λ r. TakesCalls catalog r n in
      subst P same (request_within law catalog x.request n x.takes);
}
