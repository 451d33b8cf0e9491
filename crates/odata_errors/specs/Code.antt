-- The codes of errors: each has a status (RFC 9110, section 15), a name and a message.
use Rattle.std.specs.Prelude.{ℕ, List, codes}
use Rattle.odata_errors.specs.declared.code.Code.{Code}
use Rattle.odata_errors.specs.declared.code.Code.TheVariants.{BadRequest, BadHost, BadLength, NotServed, MethodNotAllowed, BadTarget, BadEscape, BadUtf8, UnknownOption, OptionTwice, NotFound, UnknownSet, OptionNotAllowed, NotAcceptable, BadToken, TooMany, TooDeep, Syntax, UnknownName, Mismatch, TooLarge, AliasTaken, BadKey, NoSuchRow, DivisionByZero}

abbrev pub status_of : Code → ℕ
status_of BadRequest = 400
status_of BadHost = 400
status_of BadLength = 400
status_of NotServed = 501
status_of MethodNotAllowed = 405
status_of BadTarget = 400
status_of BadEscape = 400
status_of BadUtf8 = 400
status_of UnknownOption = 400
status_of OptionTwice = 400
status_of NotFound = 404
status_of UnknownSet = 404
status_of OptionNotAllowed = 400
status_of NotAcceptable = 406
status_of BadToken = 400
status_of TooMany = 400
status_of TooDeep = 400
status_of Syntax = 400
status_of UnknownName = 400
status_of Mismatch = 400
status_of TooLarge = 400
status_of AliasTaken = 400
status_of BadKey = 400
status_of NoSuchRow = 404
status_of DivisionByZero = 400

abbrev pub code_name : Code → List ℕ
code_name BadRequest = codes "BadRequest"
code_name BadHost = codes "BadHost"
code_name BadLength = codes "BadLength"
code_name NotServed = codes "NotServed"
code_name MethodNotAllowed = codes "MethodNotAllowed"
code_name BadTarget = codes "BadTarget"
code_name BadEscape = codes "BadEscape"
code_name BadUtf8 = codes "BadUtf8"
code_name UnknownOption = codes "UnknownOption"
code_name OptionTwice = codes "OptionTwice"
code_name NotFound = codes "NotFound"
code_name UnknownSet = codes "UnknownSet"
code_name OptionNotAllowed = codes "OptionNotAllowed"
code_name NotAcceptable = codes "NotAcceptable"
code_name BadToken = codes "BadToken"
code_name TooMany = codes "TooMany"
code_name TooDeep = codes "TooDeep"
code_name Syntax = codes "Syntax"
code_name UnknownName = codes "UnknownName"
code_name Mismatch = codes "Mismatch"
code_name TooLarge = codes "TooLarge"
code_name AliasTaken = codes "AliasTaken"
code_name BadKey = codes "BadKey"
code_name NoSuchRow = codes "NoSuchRow"
code_name DivisionByZero = codes "DivisionByZero"

abbrev pub message_of : Code → List ℕ
message_of BadRequest = codes "the request cannot be read"
message_of BadHost = codes "the Host field is missing or repeated"
message_of BadLength = codes "a request body is not accepted"
message_of NotServed = codes "not served by this profile"
message_of MethodNotAllowed = codes "only GET and HEAD are served"
message_of BadTarget = codes "the target is not a path"
message_of BadEscape = codes "a percent escape is broken"
message_of BadUtf8 = codes "the target is not UTF-8"
message_of UnknownOption = codes "unknown system option"
message_of OptionTwice = codes "a system option stands twice"
message_of NotFound = codes "no such resource"
message_of UnknownSet = codes "no such table"
message_of OptionNotAllowed = codes "the option does not fit the path"
message_of NotAcceptable = codes "the format is not served"
message_of BadToken = codes "an unknown token"
message_of TooMany = codes "more than 1024 tokens"
message_of TooDeep = codes "nested too deep"
message_of Syntax = codes "a syntax fault"
message_of UnknownName = codes "no such column"
message_of Mismatch = codes "the types do not fit"
message_of TooLarge = codes "a number may grow too large"
message_of AliasTaken = codes "the alias is taken"
message_of BadKey = codes "the key does not fit the table"
message_of NoSuchRow = codes "no row has this key"
message_of DivisionByZero = codes "division by zero"
