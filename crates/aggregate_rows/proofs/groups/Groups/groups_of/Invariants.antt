use Rattle.std.proofs.Common.{◌≡◌, ℕ, None, get_or, length, take}
use Rattle.std.specs.Prelude.{IfSome}
use Rattle.row_columns.specs.Picked.{numbered}
use Rattle.row_codes.specs.Codes.{HaveKeyCodes}
use Rattle.aggregate_rows.specs.Gathered.{IsGroupOf}
use Rattle.aggregate_rows.specs.Parts.{AreGroupsOf, BeginsGroups}
use Rattle.aggregate_rows.proofs.groups.Groups.groups_of.Given as goal

-- the groups of the first rows, and what is known of codes
abbrev pub invariant-loop-i : goal.invariant-loop-i
invariant-loop-i l = record {
  long : length l.known.items ≡ l.codes.count;
  shape : l.self.shape ≡ l.initial.self.shape;
  begun : BeginsGroups l.grouping.places.now l.grouping.aggregates.now l.initial.self l.self (numbered (take l.i l.numbers) l.columns.rows);
  found : AreGroupsOf l.self l.grouping.places.now (numbered (take l.i l.numbers) l.columns.rows) l.groups.items;
  known : (have : HaveKeyCodes l.grouping.places.now (numbered l.numbers l.columns.rows) l.codes) → (code : ℕ) → IfSome (get_or l.known.items code None) (IsGroupOf l.self (have.values_of code));
}
