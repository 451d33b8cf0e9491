-- The commands of a script. A line is a word and, one space after it, what the word asks for; a text and a folder are the rest of the line.
use Rattle.std.specs.Prelude.{◌≡◌, ◌≤◌, ◌==◌, ℕ, Bool, List, [], ◌∷◌, ◌++◌, codes, Result, Ok, Err}
use Rattle.std.specs.Str.{IsUtf8}
use Rattle.std.specs.Str.Parse.{IsNumeral, digits_value}
use Rattle.event_scripts.specs.declared.number.TheConstants.{MOST_NUMBER}
use Rattle.event_scripts.specs.declared.command.Word.{Word}
use Rattle.event_scripts.specs.declared.command.Word.TheVariants as word
use Rattle.event_scripts.specs.declared.command.Command.{Command}
use Rattle.event_scripts.specs.declared.command.Command.TheVariants as command
use Rattle.event_scripts.specs.declared.fault.CommandFault.{CommandFault}
use Rattle.event_scripts.specs.declared.fault.CommandFault.TheVariants.{Bad, NoMemory}
use Rattle.event_scripts.specs.Escapes.{StandsForBytes}

-- one or more digits, which write a number of at most 65,536
pub record IsNumber (text : List ℕ) (n : ℕ) : Type 0 where
  pub numeral : IsNumeral 10 text
  pub value : n ≡ digits_value 10 text
  pub small : n ≤ MOST_NUMBER

-- a command; a place is the number of a connection
pub data CommandOf : Type 0 where
  Open : CommandOf
  Piece : (place : ℕ) (bytes : List ℕ) → CommandOf
  End : (place : ℕ) → CommandOf
  Turn : (place : ℕ) → CommandOf
  Take : (place room : ℕ) → CommandOf
  Drop : (place : ℕ) → CommandOf
  Reload : (folder : List ℕ) → CommandOf

-- the command, as the definitions see it
abbrev pub command_view : Command → CommandOf
command_view command.Open = Open
command_view (command.Piece place bytes) = Piece place bytes.items
command_view (command.End place) = End place
command_view (command.Turn place) = Turn place
command_view (command.Take place room) = Take place room
command_view (command.Drop place) = Drop place
command_view (command.Reload folder) = Reload folder.now

-- the word, with the space after it where it asks for something
abbrev pub letters : Word → List ℕ
letters word.Open = codes "open"
letters word.Piece = codes "piece "
letters word.End = codes "end "
letters word.Turn = codes "turn "
letters word.Take = codes "take "
letters word.Drop = codes "drop "
letters word.Reload = codes "reload "

abbrev pub is_space : ℕ → Bool
is_space byte = byte == 32

-- the text writes a number, and rest stands one space after it
abbrev pub BeginsWithNumber : List ℕ → ℕ → List ℕ → Type 0
BeginsWithNumber text n rest = (number : List ℕ) × (text ≡ number ++ 32 ∷ rest) × IsNumber number n

-- the text after the word makes it this command
abbrev pub IsAsked : Word → List ℕ → CommandOf → Type 0
IsAsked word.Open text c = (text ≡ []) × (c ≡ Open)
IsAsked word.Piece text c = (place : ℕ) × (bytes rest : List ℕ) × (c ≡ Piece place bytes) × BeginsWithNumber text place rest × StandsForBytes rest bytes
IsAsked word.End text c = (place : ℕ) × (c ≡ End place) × IsNumber text place
IsAsked word.Turn text c = (place : ℕ) × (c ≡ Turn place) × IsNumber text place
IsAsked word.Take text c = (place room : ℕ) × (rest : List ℕ) × (c ≡ Take place room) × BeginsWithNumber text place rest × IsNumber rest room
IsAsked word.Drop text c = (place : ℕ) × (c ≡ Drop place) × IsNumber text place
IsAsked word.Reload text c = (c ≡ Reload text) × IsUtf8 text

-- the line is this command
abbrev pub IsCommand : List ℕ → CommandOf → Type 0
IsCommand line c = (w : Word) × (text : List ℕ) × (line ≡ letters w ++ text) × IsAsked w text c

-- a command was read that is so; or there is none that is; or memory ran out
abbrev pub ReadsCommand : (CommandOf → Type 0) → Result Command CommandFault → Type 0
ReadsCommand Is (Ok c) = Is (command_view c)
ReadsCommand Is (Err Bad) = (c : CommandOf) → ¬ (Is c)
ReadsCommand Is (Err NoMemory) = Unit {0}
