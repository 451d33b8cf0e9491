-- What holds of all tokens.
use Rattle.std.specs.Prelude.{◌≡◌, List}
use Rattle.odata_lex.specs.Token.{TokenOf}

-- tokens have at most one tree under a grammar; parentheses leave no node, so this speaks of trees and not of the ways to read them
abbrev pub HasOneTree : {X : Type 0} → (List TokenOf → X → Type 0) → Type 0
HasOneTree {X} IsTree = (tokens : List TokenOf) (tree other : X) → IsTree tokens tree → IsTree tokens other → tree ≡ other
