use Rattle.odata_serve.proofs.program.request_to.Goals as goal

pub returns : goal.returns
returns c = c.format.ensures.ok
