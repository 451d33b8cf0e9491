use Rattle.odata_parse.proofs.OneTreeLemmas.{filter_tree, order_tree, select_tree, apply_tree, key_tree}
use Rattle.odata_parse.proofs.law.one_tree.Goals as goal

pub returns-clause-filter : goal.returns-clause-filter
returns-clause-filter c = filter_tree

pub returns-clause-orderby : goal.returns-clause-orderby
returns-clause-orderby c = order_tree

pub returns-clause-select : goal.returns-clause-select
returns-clause-select c = select_tree

pub returns-clause-apply : goal.returns-clause-apply
returns-clause-apply c = apply_tree

pub returns-clause-key : goal.returns-clause-key
returns-clause-key c = key_tree
