use Rattle.hub_scripts.proofs.ScriptLemmas.{IsReadTo}
use Rattle.hub_scripts.proofs.script_file.read_script.Given as goal

abbrev pub invariant-loop-read : goal.invariant-loop-read
invariant-loop-read g l = IsReadTo (g.R.Source.source l.fn.input) (g.R.Source.source l.input) l.script.items l._read
