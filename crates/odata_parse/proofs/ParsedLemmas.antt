-- What a parser of all the tokens gives, from what the parser of a phrase gives.
use Rattle.std.proofs.Common.{◌≡◌, ℕ, ◌≤◌, List, inl, inr, Result, Ok, Err, refl}
use Rattle.odata_lex.specs.Token.{TokenOf}
use Rattle.odata_parse.specs.declared.fault.ParseFault.{ParseFault}
use Rattle.odata_parse.specs.declared.fault.ParseFault.TheVariants.{TooDeep, Syntax, NoMemory}
use Rattle.odata_parse.specs.declared.fault.PhraseFault.{PhraseFault}
use Rattle.odata_parse.specs.declared.fault.PhraseFault.TheVariants.{Syntax as NoPhrase, NoMemory as NoMemoryForPhrase}
use Rattle.odata_parse.specs.Depth.{IsTooDeep, IsTooDeepForApply, slashes}
use Rattle.odata_parse.specs.Parsing.{IsParsedUnless, parse_fault}

module _ {T X : Type 0} (view : T → X) (IsTree : List TokenOf → X → Type 0) (IsDeep : List TokenOf → Type 0) (tokens : List TokenOf) where
  pub parsed_deep : IsDeep tokens → IsParsedUnless IsDeep view IsTree tokens (Err TooDeep)
  parsed_deep deep = record { tree = tt; too_deep = ((λ _. deep), (λ _. refl)); syntax = λ e. absurd (cc) }

  pub parsed_tree : (x : T) → ¬ (IsDeep tokens) → IsTree tokens (view x) → IsParsedUnless IsDeep view IsTree tokens (Ok x)
  parsed_tree x shallow is = record { tree = is; too_deep = ((λ e. absurd (cc)), (λ deep. absurd (shallow deep))); syntax = λ e. absurd (cc) }

  -- a tree would have been found, but memory ran out
  pub parsed_none : (fault : PhraseFault) → ¬ (IsDeep tokens) → ((x : X) → IsTree tokens x → fault ≡ NoMemoryForPhrase) → IsParsedUnless IsDeep view IsTree tokens (Err (parse_fault fault))
  parsed_none NoPhrase shallow none = record {
    tree = tt;
    too_deep = ((λ e. absurd (cc)), (λ deep. absurd (shallow deep)));
    syntax = λ e x is. absurd (let w = none x is in cc);
  }
  parsed_none NoMemoryForPhrase shallow none = record {
    tree = tt;
    too_deep = ((λ e. absurd (cc)), (λ deep. absurd (shallow deep)));
    syntax = λ e. absurd (cc);
  }

-- another tree of the same tokens
module _ {T U X Y : Type 0} (view : T → X) (other : U → Y) (IsTree : List TokenOf → X → Type 0) (IsOther : List TokenOf → Y → Type 0) (IsDeep : List TokenOf → Type 0) (tokens : List TokenOf) where
  pub parsed_as : (x : T) (y : U) → IsParsedUnless IsDeep view IsTree tokens (Ok x) → (IsTree tokens (view x) → IsOther tokens (other y)) → IsParsedUnless IsDeep other IsOther tokens (Ok y)
  parsed_as x y parsed turn = record {
    tree = turn parsed.tree;
    too_deep = ((λ e. absurd (cc)), (λ deep. let e = parsed.too_deep.1 deep in absurd (cc)));
    syntax = λ e. absurd (cc);
  }

  pub parsed_not : (fault : ParseFault) → IsParsedUnless IsDeep view IsTree tokens (Err fault) → ((y : Y) → IsOther tokens y → (x : X) × IsTree tokens x) → IsParsedUnless IsDeep other IsOther tokens (Err fault)
  parsed_not TooDeep parsed turn = record { tree = tt; too_deep = ((λ _. parsed.too_deep.0 refl), (λ _. refl)); syntax = λ e. absurd (cc) }
  parsed_not Syntax parsed turn = record {
    tree = tt;
    too_deep = ((λ e. absurd (cc)), (λ deep. let e = parsed.too_deep.1 deep in absurd (cc)));
    syntax = λ e y is. let x = turn y is in parsed.syntax refl x.0 x.1;
  }
  parsed_not NoMemory parsed turn = record {
    tree = tt;
    too_deep = ((λ e. absurd (cc)), (λ deep. let e = parsed.too_deep.1 deep in absurd (cc)));
    syntax = λ e. absurd (cc);
  }

-- fewer `/` than the limit
pub parsed_apply : {T X : Type 0} (view : T → X) (IsTree : List TokenOf → X → Type 0) (limit : ℕ) (tokens : List TokenOf) (result : Result T ParseFault) → ¬ (limit ≤ slashes tokens) → IsParsedUnless IsTooDeep view IsTree tokens result → IsParsedUnless (IsTooDeepForApply limit) view IsTree tokens result
parsed_apply view IsTree limit tokens result few parsed = record {
  tree = parsed.tree;
  too_deep = ((λ e. inl (parsed.too_deep.0 e)), (λ deep. elim deep [ inl d ↦ parsed.too_deep.1 d | inr many ↦ absurd (few many) ]));
  syntax = parsed.syntax;
}
