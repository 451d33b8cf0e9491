use Rattle.std.proofs.Common.{◌≡◌, [], Vec, Global, ℕ, length}
use Rattle.std.specs.List.{AllByRecursion}
use Rattle.aggregate_rows.proofs.parts.no_parts.Given as goal

-- a part for each turn
abbrev pub invariant-loop : goal.invariant-loop
invariant-loop l = record {
  long : length l.parts.items ≡ l.counter;
  none : AllByRecursion (λ (part : Vec ℕ Global). part.items ≡ []) l.parts.items;
}
