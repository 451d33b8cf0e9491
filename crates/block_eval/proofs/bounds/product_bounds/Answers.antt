use Rattle.std.proofs.Common.{◌≡◌, None, rules, subst, sym, w64}
use Rattle.std.specs.Prelude.{◌*ℤ◌, FitsSigned, SomeIff}
use Rattle.block_eval.specs.Bounds.{product_bounds, Fit}
use Rattle.block_eval.proofs.BoundLemmas.{corners-fit, products-fit}
use Rattle.block_eval.proofs.bounds.product_bounds.Goals as goal

pub returns-in_err-least_least : goal.returns-in_err-least_least
returns-in_err-least_least c =
    let l = c.args.left in
    let r = c.args.right in
    let unfit : FitsSigned w64 (l.least *ℤ r.least) → ⊥ = search rules in
    let none : c.from_residual.result ≡ None = search rules in
    subst (λ made. SomeIff made (Fit (product_bounds l r)) (product_bounds l r)) (sym none) (λ fit. unfit (corners-fit l r fit).0)

pub returns-in_err-least_greatest : goal.returns-in_err-least_greatest
returns-in_err-least_greatest c =
    let l = c.args.left in
    let r = c.args.right in
    let unfit : FitsSigned w64 (l.least *ℤ r.greatest) → ⊥ = search rules in
    let none : c.from_residual-in_err-least_greatest.result ≡ None = search rules in
    subst (λ made. SomeIff made (Fit (product_bounds l r)) (product_bounds l r)) (sym none) (λ fit. unfit (corners-fit l r fit).1)

pub returns-in_err-greatest_least : goal.returns-in_err-greatest_least
returns-in_err-greatest_least c =
    let l = c.args.left in
    let r = c.args.right in
    let unfit : FitsSigned w64 (l.greatest *ℤ r.least) → ⊥ = search rules in
    let none : c.from_residual-in_err-greatest_least.result ≡ None = search rules in
    subst (λ made. SomeIff made (Fit (product_bounds l r)) (product_bounds l r)) (sym none) (λ fit. unfit (corners-fit l r fit).2)

pub returns-in_err-greatest_greatest : goal.returns-in_err-greatest_greatest
returns-in_err-greatest_greatest c =
    let l = c.args.left in
    let r = c.args.right in
    let unfit : FitsSigned w64 (l.greatest *ℤ r.greatest) → ⊥ = search rules in
    let none : c.from_residual-in_err-greatest_greatest.result ≡ None = search rules in
    subst (λ made. SomeIff made (Fit (product_bounds l r)) (product_bounds l r)) (sym none) (λ fit. unfit (corners-fit l r fit).3)

pub returns : goal.returns
returns c =
    let l = c.args.left in
    let r = c.args.right in
    let w : FitsSigned w64 (l.least *ℤ r.least) = search rules in
    let x : FitsSigned w64 (l.least *ℤ r.greatest) = search rules in
    let y : FitsSigned w64 (l.greatest *ℤ r.least) = search rules in
    let z : FitsSigned w64 (l.greatest *ℤ r.greatest) = search rules in
    let fit : Fit (product_bounds l r) = products-fit l r w x y z in
    search rules
