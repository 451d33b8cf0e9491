use Rattle.std.proofs.Common.{◌≡◌, [], None, length, map, rules, ap}
use Rattle.std.proofs.lemmas.Bool.{eqb-true}
use Rattle.std.proofs.lemmas.List.{nil_from_length}
use Rattle.typed_trees.specs.TypedTree.{boxed_truth}
use Rattle.query_exec.proofs.EveryLemmas.{every_found}
use Rattle.query_exec.proofs.every.found_rows.Goals as goal

pub returns-then-is_none : goal.returns-then-is_none
returns-then-is_none c =
    let none : map boxed_truth c.args.conditions.now ≡ [] =
    ap (map boxed_truth) (nil_from_length c.args.conditions.now (eqb-true (length c.args.conditions.now) 0 (search (rules, c.is_empty.ensures, c.if-is_empty.true)))) in
    let unlimited : c.args.most ≡ None = search (rules, c.is_none.ensures, c.if-is_none.true) in
    every_found c.args.block.now.rows c.args.most _ _ c.every_row.result unlimited none c.rows.ensures c.every_row.ensures.rows c.every_row.ensures.count c.every_row.ensures.faulted
