-- Three-valued logic (OData 4.01 URL Conventions, section 5.1.1.1.9).
use Rattle.std.specs.Prelude.{ℕ, Bool, true, false, nat_lt, if◌then◌else◌, Option, Some, None, option_map}
use Rattle.row_eval.specs.declared.truth.Truth.{Truth}
use Rattle.row_eval.specs.declared.truth.Truth.TheVariants.{False, Null, True}

-- the order false, null, true
abbrev pub truth_rank : Truth → ℕ
truth_rank False = 0
truth_rank Null = 1
truth_rank True = 2

-- `and`
abbrev pub least : Truth → Truth → Truth
least a b = if nat_lt (truth_rank a) (truth_rank b) then a else b

-- `or`
abbrev pub greatest : Truth → Truth → Truth
greatest a b = if nat_lt (truth_rank a) (truth_rank b) then b else a

-- `not`
abbrev pub opposite : Truth → Truth
opposite False = True
opposite Null = Null
opposite True = False

abbrev pub truth_of : Bool → Truth
truth_of true = True
truth_of false = False

-- a value or null as a truth
abbrev pub truth_of_option : Option Bool → Truth
truth_of_option (Some b) = truth_of b
truth_of_option None = Null

-- and back
abbrev pub option_of_truth : Truth → Option Bool
option_of_truth False = Some false
option_of_truth Null = None
option_of_truth True = Some true

-- `and` after its left side: the right one has no say where the left one is false
abbrev pub and_then : Truth → Option Truth → Option Truth
and_then False right = Some False
and_then left right = option_map (least left) right

-- `or` after its left side: the right one has no say where the left one is true
abbrev pub or_then : Truth → Option Truth → Option Truth
or_then True right = Some True
or_then left right = option_map (greatest left) right
