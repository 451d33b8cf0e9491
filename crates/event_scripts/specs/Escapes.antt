-- The bytes of a stream in a line of a script: CR, LF and backslash are escaped, and any other byte stands for itself.
use Rattle.std.specs.Prelude.{◌≡◌, ◌≢◌, ◌==◌, ◌⊎◌, ℕ, List, [], ◌∷◌, Option, Some, None, if◌then◌else◌, Result, Ok, Err}
use Rattle.std.specs.declared.vec.Vec.{Vec}
use Rattle.event_scripts.specs.declared.fault.CommandFault.{CommandFault}
use Rattle.event_scripts.specs.declared.fault.CommandFault.TheVariants.{Bad, NoMemory}

abbrev pub backslash : ℕ
backslash = 92

abbrev pub carriage_return : ℕ
carriage_return = 13

abbrev pub line_feed : ℕ
line_feed = 10

-- the byte that a character after a backslash stands for: `r`, `n` and a backslash, and no other
abbrev pub byte_behind : ℕ → Option ℕ
byte_behind character =
    if character == 114 then Some carriage_return
    else (if character == 110 then Some line_feed
    else (if character == backslash then Some backslash
    else None))

-- the text begins with what stands for the byte, and rest follows that: a backslash with a character after it, or the byte itself
abbrev pub BeginsWithByte : List ℕ → ℕ → List ℕ → Type 0
BeginsWithByte text byte rest =
    ((character : ℕ) × (text ≡ backslash ∷ character ∷ rest) × (byte_behind character ≡ Some byte))
    ⊎ ((text ≡ byte ∷ rest) × (byte ≢ backslash))

-- the text stands for these bytes
abbrev pub StandsForBytes : List ℕ → List ℕ → Type 0
StandsForBytes text [] = text ≡ []
StandsForBytes text (byte ∷ bytes) = (rest : List ℕ) × BeginsWithByte text byte rest × StandsForBytes rest bytes

-- what is written for a byte
abbrev pub written_byte : ℕ → List ℕ
written_byte byte =
    if byte == carriage_return then backslash ∷ 114 ∷ []
    else (if byte == line_feed then backslash ∷ 110 ∷ []
    else (if byte == backslash then backslash ∷ backslash ∷ []
    else byte ∷ []))

-- the bytes were read that the text stands for; or it stands for none; or memory ran out
abbrev pub ReadsEscapedText : {A : Type 0} → List ℕ → Result (Vec ℕ A) CommandFault → Type 0
ReadsEscapedText text (Ok bytes) = StandsForBytes text bytes.items
ReadsEscapedText text (Err Bad) = (bytes : List ℕ) → ¬ (StandsForBytes text bytes)
ReadsEscapedText text (Err NoMemory) = Unit {0}
