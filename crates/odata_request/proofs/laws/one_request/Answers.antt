use Rattle.odata_request.proofs.RequestLemmas.{request_one}
use Rattle.odata_request.proofs.laws.one_request.Goals as goal

pub returns : goal.returns
returns c = request_one (record {
  lists = c.one_list_of_tokens.ensures;
  faults = c.tokens_or_fault.ensures;
  key = c.one_tree.ensures.key;
  apply = c.one_tree.ensures.apply;
  filter = c.one_tree.ensures.filter;
  order = c.one_tree.ensures.orderby;
  select = c.one_tree.ensures.select;
})
