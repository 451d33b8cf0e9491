-- The codes under which a request is refused (OData 4.01 JSON Format, section 21.1): each fault that is a cause has one, of its name.
use Rattle.std.specs.Prelude.{◌≡◌, Option, None, Some, Result, Ok, Err, ⊤}
use Rattle.odata_url.specs.declared.fault.UrlFault.{UrlFault}
use Rattle.odata_url.specs.declared.fault.UrlFault.TheVariants as url
use Rattle.odata_lex.specs.declared.fault.LexFault.{LexFault}
use Rattle.odata_lex.specs.declared.fault.LexFault.TheVariants as lex
use Rattle.odata_parse.specs.declared.fault.ParseFault.{ParseFault}
use Rattle.odata_parse.specs.declared.fault.ParseFault.TheVariants as parse
use Rattle.odata_types.specs.declared.fault.TypeFault.{TypeFault}
use Rattle.odata_types.specs.declared.fault.TypeFault.TheVariants as type
use Rattle.odata_errors.specs.declared.code.Code.{Code}
use Rattle.odata_errors.specs.declared.code.Code.TheVariants.{BadHost, BadLength, NotServed, MethodNotAllowed, BadTarget, BadEscape, BadUtf8, UnknownOption, OptionTwice, BadToken, TooMany, TooDeep, Syntax, UnknownName, Mismatch, TooLarge, AliasTaken, BadKey}
use Rattle.http_heads.specs.declared.checks.HeadFault.{HeadFault}
use Rattle.http_heads.specs.declared.checks.HeadFault.TheVariants as head
use Rattle.odata_request.specs.declared.fault.RequestFault.{RequestFault}
use Rattle.odata_request.specs.declared.fault.RequestFault.TheVariants.{Refused, NoMemory}

abbrev pub head_code : HeadFault → Code
head_code head.BadHost = BadHost
head_code head.NotServed = NotServed
head_code head.BadLength = BadLength
head_code head.MethodNotAllowed = MethodNotAllowed

abbrev pub url_code : UrlFault → Option Code
url_code url.BadTarget = Some BadTarget
url_code url.BadEscape = Some BadEscape
url_code url.BadUtf8 = Some BadUtf8
url_code url.UnknownOption = Some UnknownOption
url_code url.NotServed = Some NotServed
url_code url.OptionTwice = Some OptionTwice
url_code url.NoMemory = None

abbrev pub lex_code : LexFault → Option Code
lex_code lex.Bad = Some BadToken
lex_code lex.TooMany = Some TooMany
lex_code lex.NoMemory = None

abbrev pub parse_code : ParseFault → Option Code
parse_code parse.TooDeep = Some TooDeep
parse_code parse.Syntax = Some Syntax
parse_code parse.NoMemory = None

abbrev pub type_code : TypeFault → Option Code
type_code type.UnknownName = Some UnknownName
type_code type.Mismatch = Some Mismatch
type_code type.TooLarge = Some TooLarge
type_code type.AliasTaken = Some AliasTaken
type_code type.BadKey = Some BadKey
type_code type.NoMemory = None

-- refused under the code, where there is one
abbrev pub IsRefusedBy : {X : Type 0} → Option Code → Result X Code → Type 0
IsRefusedBy None result = ⊥
IsRefusedBy (Some code) result = result ≡ Err code

-- what there is, or the code of the cause why it is not
abbrev pub TellsCause : {X E : Type 0} → (E → Option Code) → Result X E → Result X Code → Type 0
TellsCause code (Ok x) result = result ≡ Ok x
TellsCause code (Err fault) result = IsRefusedBy (code fault) result

-- refused under the code, where there is one
abbrev pub fault_of : Option Code → RequestFault
fault_of (Some code) = Refused code
fault_of None = NoMemory

-- a call is refused under a code of which a relation speaks; or memory ran out
abbrev pub Refuses : {X : Type 0} → (Result X Code → Type 0) → RequestFault → Type 0
Refuses R (Refused code) = R (Err code)
Refuses R NoMemory = ⊤

-- A call gives what a relation says: a value, seen by view, or the code under which it is refused; or memory ran out.
abbrev pub Yields : {T X : Type 0} → (T → X) → (Result X Code → Type 0) → Result T RequestFault → Type 0
Yields view R (Ok value) = R (Ok (view value))
Yields view R (Err fault) = Refuses R fault
