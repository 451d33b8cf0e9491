-- Numbers that are joined, on the rows that are wanted.
use Rattle.std.proofs.Common.{◌≡◌, Bool, Option, None, Some, List, refl, sym, subst, ap, ◌∙◌, arith}
use Rattle.std.specs.Prelude.{ℤ, pos, neg_ℤ, ◌-ℤ◌, ◌*ℤ◌, option_and_then, option_map}
use Rattle.std.proofs.lemmas.Int.{ints}
use Rattle.cell_types.specs.Value.{CellValue}
use Rattle.typed_trees.specs.declared.operator.ArithmeticOperator.{ArithmeticOperator}
use Rattle.typed_trees.specs.declared.operator.ArithmeticOperator.TheVariants as operators
use Rattle.typed_trees.specs.TypedTree.{arithmetic, negated, scaled, NumberExprOf}
use Rattle.typed_trees.specs.declared.tree.TheConstants.{MILLIONTHS}
use Rattle.row_eval.specs.Outcome.{computed, number_outcome}
use Rattle.block_eval.specs.declared.bounded.Bounded.{Bounded}
use Rattle.block_eval.specs.declared.columns.BlockColumn.{BlockColumn}
use Rattle.block_eval.specs.Bounded.{AreJoined, GivesBounded, IsSame}
use Rattle.block_eval.specs.Bounds.{IsWithinKnown}
use Rattle.block_eval.specs.Lanes.{number_lane}

-- what two functions make of rows
abbrev pub computed_of : ArithmeticOperator → (List CellValue → Option (Option ℤ)) → (List CellValue → Option (Option ℤ)) → List CellValue → Option (Option ℤ)
computed_of o f g cells = option_and_then (λ x. option_and_then (λ y. computed o x y) (g cells)) (f cells)

-- numbers that are joined are there on each wanted row where those are that they are joined of
joined-gives : (o : ArithmeticOperator) (f g : List CellValue → Option (Option ℤ)) (columns : List BlockColumn) (wanted : List Bool) (l r v : Bounded)
    → GivesBounded f columns wanted l → GivesBounded g columns wanted r → AreJoined o l r wanted v → GivesBounded (computed_of o f g) columns wanted v
joined-gives o f g columns wanted l r v left right is = record {
  numbers = record {
    each = λ row cells h at.
        ap (option_and_then (λ x. option_and_then (λ y. computed o x y) (g cells))) (left.numbers.each row cells h at)
        ∙ ap (option_and_then (λ y. computed o (number_lane l.numbers row) y)) (right.numbers.each row cells h at)
        ∙ is.each row h (left.within row cells h at) (right.within row cells h at);
    long = is.long;
  };
  within = λ row cells h at. is.within row h (left.within row cells h at) (right.within row cells h at);
}

-- the same number on each row
pub same-gives : (lane : Option ℤ) (columns : List BlockColumn) (wanted : List Bool) (v : Bounded) → IsSame lane v → GivesBounded (λ cells. Some lane) columns wanted v
same-gives lane columns wanted v is = record {
  numbers = record { each = λ row cells h at. ap (λ n. Some n) (sym (is.each row)); long = is.long _ };
  within = λ row cells h at. subst (IsWithinKnown v.bounds) (sym (is.each row)) is.within;
}

-- functions that make the same of each row
gives-as : (f g : List CellValue → Option (Option ℤ)) (columns : List BlockColumn) (wanted : List Bool) (v : Bounded) → ((cells : List CellValue) → g cells ≡ f cells)
    → GivesBounded f columns wanted v → GivesBounded g columns wanted v
gives-as f g columns wanted v same is = record {
  numbers = record { each = λ row cells h at. same cells ∙ is.numbers.each row cells h at; long = is.numbers.long };
  within = is.within;
}

-- expressions that have one value on all rows
pub number-same : (lane : Option ℤ) (e t : NumberExprOf) (columns : List BlockColumn) (wanted : List Bool) (v : Bounded) → e ≡ t → ((cells : List CellValue) → number_outcome e cells ≡ Some lane)
    → IsSame lane v → GivesBounded (number_outcome t) columns wanted v
number-same lane e t columns wanted v tree each is =
    subst (λ x. GivesBounded (number_outcome x) columns wanted v) tree (gives-as (λ cells. Some lane) (number_outcome e) columns wanted v each (same-gives lane columns wanted v is))

-- the outcome of an operator
pub arithmetic-is : (o : ArithmeticOperator) (l r t : NumberExprOf) (columns : List BlockColumn) (wanted : List Bool) (a b v : Bounded) → arithmetic o l r ≡ t
    → GivesBounded (number_outcome l) columns wanted a → GivesBounded (number_outcome r) columns wanted b → AreJoined o a b wanted v → GivesBounded (number_outcome t) columns wanted v
arithmetic-is o l r t columns wanted a b v tree left right is =
    subst (λ x. GivesBounded (number_outcome x) columns wanted v) tree (joined-gives o (number_outcome l) (number_outcome r) columns wanted a b v left right is)

-- ---- numbers that are made of one other
zero_less : (n : ℤ) → neg_ℤ n ≡ pos 0 -ℤ n
zero_less n = omega (arith, ints)

negated-computed : (x : Option (Option ℤ)) → option_map (option_map neg_ℤ) x ≡ option_and_then (λ y. computed operators.Sub (Some (pos 0)) y) x
negated-computed None = refl
negated-computed (Some None) = refl
negated-computed (Some (Some n)) = ap (λ z. Some (Some z)) (zero_less n)

scaled-computed : (m : ℤ) (x : Option (Option ℤ)) → option_map (option_map (λ n. n *ℤ m)) x ≡ option_and_then (λ y. computed operators.Mul y (Some m)) x
scaled-computed m None = refl
scaled-computed m (Some None) = refl
scaled-computed m (Some (Some n)) = refl

-- the numbers with the other sign
opposite-gives : (f : List CellValue → Option (Option ℤ)) (columns : List BlockColumn) (wanted : List Bool) (zero a v : Bounded) → IsSame (Some (pos 0)) zero → GivesBounded f columns wanted a
    → AreJoined operators.Sub zero a wanted v → GivesBounded (λ cells. option_map (option_map neg_ℤ) (f cells)) columns wanted v
opposite-gives f columns wanted zero a v same gives is =
    gives-as (computed_of operators.Sub (λ cells. Some (Some (pos 0))) f) (λ cells. option_map (option_map neg_ℤ) (f cells)) columns wanted v (λ cells. negated-computed (f cells))
    (joined-gives operators.Sub (λ cells. Some (Some (pos 0))) f columns wanted zero a v (same-gives (Some (pos 0)) columns wanted zero same) gives is)

pub number-negated : (e t : NumberExprOf) (columns : List BlockColumn) (wanted : List Bool) (zero a v : Bounded) → negated e ≡ t → IsSame (Some (pos 0)) zero
    → GivesBounded (number_outcome e) columns wanted a → AreJoined operators.Sub zero a wanted v → GivesBounded (number_outcome t) columns wanted v
number-negated e t columns wanted zero a v tree same gives is =
    subst (λ x. GivesBounded (number_outcome x) columns wanted v) tree (opposite-gives (number_outcome e) columns wanted zero a v same gives is)

-- integers as decimals, in millionths
pub number-scaled : (e t : NumberExprOf) (columns : List BlockColumn) (wanted : List Bool) (millionths a v : Bounded) → scaled e ≡ t → IsSame (Some (pos MILLIONTHS)) millionths
    → GivesBounded (number_outcome e) columns wanted a → AreJoined operators.Mul a millionths wanted v → GivesBounded (number_outcome t) columns wanted v
number-scaled e t columns wanted millionths a v tree same gives is =
    let f = number_outcome e in
    let m = pos MILLIONTHS in
    subst (λ x. GivesBounded (number_outcome x) columns wanted v) tree
    (gives-as (computed_of operators.Mul f (λ cells. Some (Some m))) (number_outcome (scaled e)) columns wanted v (λ cells. scaled-computed m (f cells))
    (joined-gives operators.Mul f (λ cells. Some (Some m)) columns wanted a millionths v gives (same-gives (Some m) columns wanted millionths same) is))
