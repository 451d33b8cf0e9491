-- Crates above may cite this file: laws of booleans, options, results and orderings alone.
use Rattle.std.proofs.Common.{◌≡◌, ◌≤◌, ℕ, List, length, Bool, true, false, cond, is_none, Option, None, Some, Result, Ok, Err, IfOk, OnErr, Ordering, Less, Equal, Greater, refl, ap, sym}
use Rattle.std.proofs.lemmas.Bool.{false≢true, true≢false}
use Rattle.std.specs.Ordering.{ordering_then}

-- ---- options
pub is_none-None : {X : Type 0} (o : Option X) → is_none o ≡ true → o ≡ None
is_none-None None e = refl
is_none-None (Some x) e = absurd (true≢false (sym e))

-- an option that is given where a test holds
pub cond_none : {X : Type 0} (b : Bool) (x : X) → cond b (Some x) None ≡ None → b ≡ false
cond_none true x e = absurd (false≢true (ap is_none e))
cond_none false x e = refl

-- and one that is given where it fails
pub cond-None_none : {X : Type 0} (b : Bool) (x : X) → cond b None (Some x) ≡ None → b ≡ true
cond-None_none true x e = refl
cond-None_none false x e = absurd (false≢true (ap is_none e))

pub cond-None_some : {X : Type 0} (b : Bool) (x y : X) → cond b None (Some x) ≡ Some y → x ≡ y
cond-None_some true x y e = absurd (false≢true (sym (ap is_none e)))
cond-None_some false x y e = cc

-- ---- results
pub IfOk-both : {X E : Type 0} (r : Result X E) (P Q R : X → Type 0) → ((x : X) → P x → Q x → R x) → IfOk r P → IfOk r Q → IfOk r R
IfOk-both (Ok x) P Q R f p q = f x p q
IfOk-both (Err e) P Q R f p q = tt

pub OnErr-from : {X E : Type 0} (r : Result X E) (P : Type 0) → P → OnErr r P
OnErr-from (Ok x) P p = tt
OnErr-from (Err e) P p = p

-- ---- orderings
pub ordering_then_assoc : (a b c : Ordering) → ordering_then a (ordering_then b c) ≡ ordering_then (ordering_then a b) c
ordering_then_assoc Less b c = refl
ordering_then_assoc Equal b c = refl
ordering_then_assoc Greater b c = refl

-- ---- booleans
pub length-cond : (n : ℕ) (t : Bool) (xs ys : List ℕ) → length xs ≤ n → length ys ≤ n → length (cond t xs ys) ≤ n
length-cond n true xs ys a b = a
length-cond n false xs ys a b = b
