-- Where an evaluation may take memory: for `concat` alone.
use Rattle.std.specs.Prelude.{Bool, true, false, ◌||◌}
use Rattle.typed_trees.specs.TypedTree as typed
use Rattle.typed_trees.specs.TypedTree.{TextExprOf, NumberExprOf, TruthExprOf, TypedExprOf}

abbrev pub text_concatenates : TextExprOf → Bool
text_concatenates (typed.concat a b) = true
text_concatenates _ = false

abbrev pub number_concatenates : NumberExprOf → Bool
number_concatenates (typed.negated a) = number_concatenates a
number_concatenates (typed.arithmetic o a b) = number_concatenates a || number_concatenates b
number_concatenates (typed.length_of t) = text_concatenates t
number_concatenates (typed.index_of t p) = text_concatenates t || text_concatenates p
number_concatenates (typed.scaled a) = number_concatenates a
number_concatenates _ = false

abbrev pub truth_concatenates : TruthExprOf → Bool
truth_concatenates (typed.negation a) = truth_concatenates a
truth_concatenates (typed.conjunction a b) = truth_concatenates a || truth_concatenates b
truth_concatenates (typed.disjunction a b) = truth_concatenates a || truth_concatenates b
truth_concatenates (typed.compare_numbers o a b) = number_concatenates a || number_concatenates b
truth_concatenates (typed.compare_texts o a b) = text_concatenates a || text_concatenates b
truth_concatenates (typed.compare_truths o a b) = truth_concatenates a || truth_concatenates b
truth_concatenates (typed.number_in a items) = number_concatenates a
truth_concatenates (typed.text_in a items) = text_concatenates a
truth_concatenates (typed.truth_in a items) = truth_concatenates a
truth_concatenates (typed.test_text test t p) = text_concatenates t || text_concatenates p
truth_concatenates _ = false

-- a part of the expression joins texts
abbrev pub concatenates : TypedExprOf → Bool
concatenates typed.nothing = false
concatenates (typed.integer e bound) = number_concatenates e
concatenates (typed.text e) = text_concatenates e
concatenates (typed.truth e) = truth_concatenates e
concatenates (typed.date e) = false
concatenates (typed.decimal e bound) = number_concatenates e
