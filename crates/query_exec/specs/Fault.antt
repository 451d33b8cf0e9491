-- Why a run has no answer.
use Rattle.row_eval.specs.declared.fault.EvalFault.{EvalFault}
use Rattle.row_eval.specs.declared.fault.EvalFault.TheVariants as eval
use Rattle.query_exec.specs.declared.fault.ExecFault.{ExecFault}
use Rattle.query_exec.specs.declared.fault.ExecFault.TheVariants.{DivisionByZero, NoMemory}

-- the fault of an expression is one of the run
abbrev pub exec_fault : EvalFault → ExecFault
exec_fault eval.DivisionByZero = DivisionByZero
exec_fault eval.NoMemory = NoMemory
