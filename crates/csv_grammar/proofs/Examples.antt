-- Worked texts, each by running the machine over it. The bytes are 'A' 65, 'a' 97, 'b' 98, the double quote 34, the comma 44, CR 13, LF 10.
use Rattle.std.proofs.Common.{[], ◌∷◌, refl, arith}
use Rattle.csv_grammar.specs.Records.{unquoted, quoted, AreRecords}
use Rattle.csv_grammar.specs.Faults.{bare_cr, stray_quote, after_quote, unfinished, HasFault}
use Rattle.csv_grammar.specs.Structure.{separator, record_end, inner, AreRoles}
use Rattle.csv_grammar.proofs.Viable.{whole, stuck, open_end}
use Rattle.csv_grammar.proofs.Structure.{read_are}

-- the empty text has no records
pub empty_text : AreRecords [] []
empty_text = whole [] _ _ refl refl

-- LF: one record of one empty field
pub lf_alone : AreRecords (10 ∷ []) ((unquoted [] ∷ []) ∷ [])
lf_alone = whole (10 ∷ []) _ _ refl refl

-- A LF LF: the empty line is a record of one empty field
pub empty_line : AreRecords (65 ∷ 10 ∷ 10 ∷ []) ((unquoted (65 ∷ []) ∷ []) ∷ (unquoted [] ∷ []) ∷ [])
empty_line = whole (65 ∷ 10 ∷ 10 ∷ []) _ _ refl refl

-- A LF "": the last record, of one empty field, has quotes
pub quoted_last : AreRecords (65 ∷ 10 ∷ 34 ∷ 34 ∷ []) ((unquoted (65 ∷ []) ∷ []) ∷ (quoted [] ∷ []) ∷ [])
quoted_last = whole (65 ∷ 10 ∷ 34 ∷ 34 ∷ []) _ _ refl refl

-- a,b with and without CR LF: one record of two fields
pub no_last_break : AreRecords (97 ∷ 44 ∷ 98 ∷ []) ((unquoted (97 ∷ []) ∷ unquoted (98 ∷ []) ∷ []) ∷ [])
no_last_break = whole (97 ∷ 44 ∷ 98 ∷ []) _ _ refl refl

pub last_break : AreRecords (97 ∷ 44 ∷ 98 ∷ 13 ∷ 10 ∷ []) ((unquoted (97 ∷ []) ∷ unquoted (98 ∷ []) ∷ []) ∷ [])
last_break = whole (97 ∷ 44 ∷ 98 ∷ 13 ∷ 10 ∷ []) _ _ refl refl

-- a comma alone: one record of two empty fields
pub comma_alone : AreRecords (44 ∷ []) ((unquoted [] ∷ unquoted [] ∷ []) ∷ [])
comma_alone = whole (44 ∷ []) _ _ refl refl

-- "a"",LF": in double quotes a comma, a line break and a double quote written as two stand for themselves
pub in_quotes : AreRecords (34 ∷ 97 ∷ 34 ∷ 34 ∷ 44 ∷ 10 ∷ 34 ∷ []) ((quoted (97 ∷ 34 ∷ 44 ∷ 10 ∷ []) ∷ []) ∷ [])
in_quotes = whole (34 ∷ 97 ∷ 34 ∷ 34 ∷ 44 ∷ 10 ∷ 34 ∷ []) _ _ refl refl

-- a CR ": a CR with no LF after it
pub cr_quote : HasFault (97 ∷ 13 ∷ 34 ∷ []) 2 bare_cr
cr_quote = stuck (97 ∷ 13 ∷ 34 ∷ []) 2 _ (omega arith) refl refl

-- a"b: a double quote inside an unquoted field
pub quote_inside : HasFault (97 ∷ 34 ∷ 98 ∷ []) 1 stray_quote
quote_inside = stuck (97 ∷ 34 ∷ 98 ∷ []) 1 _ (omega arith) refl refl

-- "a"b: a byte after a closing double quote
pub byte_after : HasFault (34 ∷ 97 ∷ 34 ∷ 98 ∷ []) 3 after_quote
byte_after = stuck (34 ∷ 97 ∷ 34 ∷ 98 ∷ []) 3 _ (omega arith) refl refl

-- "a: the text ends inside quotes
pub open_quote : HasFault (34 ∷ 97 ∷ []) 2 unfinished
open_quote = open_end (34 ∷ 97 ∷ []) _ refl refl

-- a CR: the text ends after a CR
pub cr_last : HasFault (97 ∷ 13 ∷ []) 2 unfinished
cr_last = open_end (97 ∷ 13 ∷ []) _ refl refl

-- "a,",c CR LF: the second comma parts two fields, and the LF ends the record
pub roles_of_line : AreRoles (34 ∷ 97 ∷ 44 ∷ 34 ∷ 44 ∷ 99 ∷ 13 ∷ 10 ∷ [])
    (inner ∷ inner ∷ inner ∷ inner ∷ separator ∷ inner ∷ inner ∷ record_end ∷ [])
roles_of_line = read_are (34 ∷ 97 ∷ 44 ∷ 34 ∷ 44 ∷ 99 ∷ 13 ∷ 10 ∷ []) _ refl

-- a,"LF: the text is not in the grammar, and has a continuation that is
pub roles_of_front : AreRoles (97 ∷ 44 ∷ 34 ∷ 10 ∷ []) (inner ∷ separator ∷ inner ∷ inner ∷ [])
roles_of_front = read_are (97 ∷ 44 ∷ 34 ∷ 10 ∷ []) _ refl
