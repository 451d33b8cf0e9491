-- The values left decide.
use Rattle.std.proofs.Common.{◌≡◌, map, drop}
use Rattle.std.specs.List.{list_all}
use Rattle.odata_parse.specs.Tree.{literal_view}
use Rattle.odata_types.specs.Typing.{type_fits, literal_type}
use Rattle.odata_types.proofs.list.all_fit.Given as goal

abbrev pub invariant-loop-item : goal.invariant-loop-item
invariant-loop-item l = list_all (λ v. type_fits l.wanted (literal_type v)) (map literal_view l.items) ≡ list_all (λ v. type_fits l.wanted (literal_type v)) (map literal_view (drop l.item-index l.items))
