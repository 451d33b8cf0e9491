use Rattle.std.proofs.Common.{rules}
use Rattle.std.specs.Str.{bytes_eq}
use Rattle.table_store.specs.Fault.{load_cause}
use Rattle.served_folders.specs.declared.folders.TheConstants.{NOTES}
use Rattle.served_folders.proofs.FolderLemmas.{refused_notes}
use Rattle.served_folders.proofs.folders.BuiltInFolders.load.Goals as goal

pub returns-in_err-load_notes-clause-fault : goal.returns-in_err-load_notes-clause-fault
returns-in_err-load_notes-clause-fault c =
    let refused = refused_notes (bytes_eq c.args.name.now NOTES.now) (load_cause c.in_err-load_notes.field-0.0) c.if-ne.ensures c.in_err-load_notes.ensures.fault in
    search rules
