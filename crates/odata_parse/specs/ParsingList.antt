-- What the parsers of lists give.
use Rattle.std.specs.Prelude.{List, Result, Vec}
use Rattle.odata_lex.specs.Token.{TokenOf}
use Rattle.odata_lex.specs.declared.token.TokenKind.{TokenKind}
use Rattle.odata_parse.specs.declared.fault.PhraseFault.{PhraseFault}
use Rattle.odata_parse.specs.List.{Separated, Enclosed}
use Rattle.odata_parse.specs.Parsing.{Finds, Parses, ParsesAll, IsAfterList, item_trees}

-- a parser of items with a sign between each two
abbrev pub FindsList : {T X A : Type 0} → (T → X) → (List TokenOf → X → List TokenOf → Type 0) → TokenKind → List TokenOf → Result (Vec T A) PhraseFault → List TokenOf → Type 0
FindsList tree reads sign old result new = Finds (item_trees tree) (Separated reads sign) old result new

abbrev pub ParsesList : {T X A : Type 0} → (T → X) → (List TokenOf → X → List TokenOf → Type 0) → TokenKind → List TokenOf → Result (Vec T A) PhraseFault → List TokenOf → Type 0
ParsesList tree reads sign old result new = Parses (item_trees tree) (Separated reads sign) IsAfterList old result new

-- a parser of such items in parentheses
abbrev pub FindsEnclosed : {T X A : Type 0} → (T → X) → (List TokenOf → X → List TokenOf → Type 0) → TokenKind → List TokenOf → Result (Vec T A) PhraseFault → List TokenOf → Type 0
FindsEnclosed tree reads sign old result new = Finds (item_trees tree) (Enclosed reads sign) old result new

abbrev pub ParsesEnclosed : {T X A : Type 0} → (T → X) → (List TokenOf → X → List TokenOf → Type 0) → TokenKind → List TokenOf → Result (Vec T A) PhraseFault → List TokenOf → Type 0
ParsesEnclosed tree reads sign old result new = ParsesAll (item_trees tree) (Enclosed reads sign) old result new
