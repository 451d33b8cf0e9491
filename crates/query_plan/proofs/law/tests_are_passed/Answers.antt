use Rattle.std.proofs.Common.{ap}
use Rattle.odata_types.specs.Schema.{inputs_of}
use Rattle.query_meaning.specs.Filter.{is_true}
use Rattle.query_plan.proofs.TestLemmas.{test_passed}
use Rattle.query_plan.proofs.law.tests_are_passed.Goals as goal

pub returns : goal.returns
returns c = λ schema row e t is over k h. test_passed c.numbers_are_tested.ensures schema.columns (inputs_of schema) row is (c.tables_are_inputs.ensures.rows schema row is) e t over k (ap is_true h)
