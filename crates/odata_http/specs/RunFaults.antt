-- How a fault of answering ends a run.
use Rattle.odata_http.specs.declared.answer.AnswerFault.{AnswerFault}
use Rattle.odata_http.specs.declared.answer.AnswerFault.TheVariants as answer
use Rattle.odata_http.specs.declared.runs.RunFault.{RunFault}
use Rattle.odata_http.specs.declared.runs.RunFault.TheVariants.{NoMemory, Write}

abbrev pub run_fault : AnswerFault → RunFault
run_fault answer.NoMemory = NoMemory
run_fault answer.Write = Write
