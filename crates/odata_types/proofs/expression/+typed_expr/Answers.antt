use Rattle.odata_types.proofs.expression.+typed_expr.Goals as goal

pub returns-in-Name : goal.returns-in-Name
returns-in-Name t c = rw c.in-Name.is (rw c.as_str.ensures.value at c.named_expr.ensures)
