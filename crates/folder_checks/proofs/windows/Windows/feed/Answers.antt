use Rattle.std.proofs.Common.{◌++◌, refl}
use Rattle.std.proofs.lemmas.Result.{IfErr-weaker, IfOk-weaker}
use Rattle.folder_checks.proofs.WindowLemmas.{fed_more}
use Rattle.folder_checks.proofs.windows.Windows.feed.Goals as goal

pub read-requires : goal.read-requires
read-requires c =
    let given = c.requires.given.0 in
    let has = c.requires.given.1 in
    (given ++ c.args.bytes.now, (has.0, fed_more given has.0 c.args.bytes.now c.args.self _ has.1 c.requires.room refl c.in_ok-extend_from_slice.ensures.items))

pub returns-else-is_short-clause-reads : goal.returns-else-is_short-clause-reads
returns-else-is_short-clause-reads c =
    let bytes = c.args.bytes.now in
    IfOk-weaker c.read.result _ _
    (λ on reads given front fed. reads (given ++ bytes) front (fed_more given front bytes c.args.self _ fed c.requires.room refl c.in_ok-extend_from_slice.ensures.items))
    c.read.ensures.reads

pub returns-else-is_short-clause-fault : goal.returns-else-is_short-clause-fault
returns-else-is_short-clause-fault c =
    let bytes = c.args.bytes.now in
    IfErr-weaker c.read.result _ _
    (λ e wrong given more has. wrong (given ++ bytes) more (has.0, fed_more given has.0 bytes c.args.self _ has.1 c.requires.room refl c.in_ok-extend_from_slice.ensures.items))
    c.read.ensures.fault
