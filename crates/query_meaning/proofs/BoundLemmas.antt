-- No number of a typed expression exceeds its bound, and each that is computed on the way fits 128 bits.
use Rattle.std.proofs.Common.{◌≡◌, ℕ, ◌+◌, ◌≤◌, List, length, arith}
use Rattle.std.specs.Prelude.{IfOk, Result, Ok}
use Rattle.cell_types.specs.Value.{CellValue}
use Rattle.odata_parse.specs.Tree as tree
use Rattle.odata_parse.specs.Tree.{ExprOf}
use Rattle.odata_types.specs.declared.fault.TypeFault.{TypeFault}
use Rattle.odata_types.specs.Columns.{InputOf}
use Rattle.typed_trees.specs.TypedTree as typed
use Rattle.typed_trees.specs.TypedTree.{NumberExprOf, TruthExprOf, TypedExprOf}
use Rattle.odata_types.specs.Typing.{as_truth, filter_typing, typing}
use Rattle.row_eval.specs.Bounds.{IsWithin, NumbersFit, TruthFits}
use Rattle.odata_types.specs.Input.{HasShortTexts, IsInput, IsQueried, IsRowOf, nodes}
use Rattle.row_eval.specs.Outcome.{number_outcome}
use Rattle.query_meaning.proofs.SoundLemmas.{Sound, bind, as_truth_sound, literal_sound, name_sound}
use Rattle.query_meaning.proofs.OperatorLemmas.{unary_sound, binary_sound, in_sound, unary_call_sound, binary_call_sound}

-- ---- expressions

sound : (inputs : List InputOf) (row : List CellValue) (e : ExprOf) → IsInput inputs → IsRowOf inputs row → nodes e ≤ 1_024 → HasShortTexts e → IfOk (typing inputs e) (Sound row (nodes e))
sound inputs row (tree.literal v) limit h few short = literal_sound row v short
sound inputs row (tree.name n) limit h few short = name_sound inputs row n limit h
sound inputs row (tree.unary o a) limit h few short =
    bind (typing inputs a) _ (Sound row (nodes a)) (Sound row (nodes a + 1)) (sound inputs row a limit h (omega (arith, few)) short) (λ x px. unary_sound row (nodes a) o x px)
sound inputs row (tree.binary o a b) limit h few short =
    bind (typing inputs a) _ (Sound row (nodes a)) (Sound row (nodes a + nodes b + 1)) (sound inputs row a limit h (omega (arith, few)) short.0) (λ x px.
    bind (typing inputs b) _ (Sound row (nodes b)) (Sound row (nodes a + nodes b + 1)) (sound inputs row b limit h (omega (arith, few)) short.1) (λ y py.
    binary_sound row (nodes a) (nodes b) (nodes a + nodes b + 1) o x y px py))
sound inputs row (tree.in_list a vs) limit h few short =
    bind (typing inputs a) _ (Sound row (nodes a)) (Sound row (nodes a + length vs + 1)) (sound inputs row a limit h (omega (arith, few)) short) (λ x px.
    in_sound row (nodes a) (nodes a + length vs + 1) x vs px)
sound inputs row (tree.unary_call f a) limit h few short =
    bind (typing inputs a) _ (Sound row (nodes a)) (Sound row (nodes a + 1)) (sound inputs row a limit h (omega (arith, few)) short) (λ x px.
    unary_call_sound row (nodes a) (nodes a + 1) f x (omega (arith, few)) px)
sound inputs row (tree.binary_call f a b) limit h few short =
    bind (typing inputs a) _ (Sound row (nodes a)) (Sound row (nodes a + nodes b + 1)) (sound inputs row a limit h (omega (arith, few)) short.0) (λ x px.
    bind (typing inputs b) _ (Sound row (nodes b)) (Sound row (nodes a + nodes b + 1)) (sound inputs row b limit h (omega (arith, few)) short.1) (λ y py.
    binary_call_sound row (nodes a) (nodes b) f x y (omega (arith, few)) px py))

at_ok : {X : Type 0} (r : Result X TypeFault) (x : X) (P : X → Type 0) → IfOk r P → r ≡ Ok x → P x
at_ok r x P h e = rw e at h

numbers_of : (row : List CellValue) (k : ℕ) (t : TypedExprOf) → Sound row k t → NumbersFit t row
numbers_of row k typed.nothing h = tt
numbers_of row k (typed.integer e b) h = h.1
numbers_of row k (typed.text e) h = tt
numbers_of row k (typed.truth e) h = h
numbers_of row k (typed.date e) h = tt
numbers_of row k (typed.decimal e b) h = h.1

pub expressions_fit : (inputs : List InputOf) (row : List CellValue) (e : ExprOf) (t : TypedExprOf) → IsInput inputs → IsRowOf inputs row → IsQueried e → typing inputs e ≡ Ok t → NumbersFit t row
expressions_fit inputs row e t limit h q is = numbers_of row (nodes e) t (at_ok (typing inputs e) t (Sound row (nodes e)) (sound inputs row e limit h q.few q.short) is)

pub filters_fit : (inputs : List InputOf) (row : List CellValue) (e : ExprOf) (t : TruthExprOf) → IsInput inputs → IsRowOf inputs row → IsQueried e → filter_typing inputs e ≡ Ok t → TruthFits t row
filters_fit inputs row e t limit h q is =
    at_ok (filter_typing inputs e) t (λ x. TruthFits x row) (bind (typing inputs e) as_truth (Sound row (nodes e)) (λ x. TruthFits x row) (sound inputs row e limit h q.few q.short) (λ x px. as_truth_sound row (nodes e) x px)) is

pub integers_bounded : (inputs : List InputOf) (row : List CellValue) (e : ExprOf) (n : NumberExprOf) (b : ℕ) → IsInput inputs → IsRowOf inputs row → IsQueried e → typing inputs e ≡ Ok (typed.integer n b) → IsWithin b (number_outcome n row)
integers_bounded inputs row e n b limit h q is = (at_ok (typing inputs e) (typed.integer n b) (Sound row (nodes e)) (sound inputs row e limit h q.few q.short) is).2

pub decimals_bounded : (inputs : List InputOf) (row : List CellValue) (e : ExprOf) (n : NumberExprOf) (b : ℕ) → IsInput inputs → IsRowOf inputs row → IsQueried e → typing inputs e ≡ Ok (typed.decimal n b) → IsWithin b (number_outcome n row)
decimals_bounded inputs row e n b limit h q is = (at_ok (typing inputs e) (typed.decimal n b) (Sound row (nodes e)) (sound inputs row e limit h q.few q.short) is).2
