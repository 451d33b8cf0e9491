-- The places so far are those that were next, and the others are left.
use Rattle.std.proofs.Common.{◌≡◌, length, take, drop}
use Rattle.std.specs.List.{slice_index}
use Rattle.csv_index.proofs.ends.Ends.fill.Given as goal

abbrev pub invariant-loop-n : goal.invariant-loop-n
invariant-loop-n l = record {
  long : length l.places.items ≡ length l.fn.places.items;
  first : slice_index l.places.items 0 ≡ slice_index l.fn.places.items 0;
  places : take l.n (drop 1 l.places.items) ≡ take l.n l.fn.self;
  left : l.self ≡ drop l.n l.fn.self;
}
