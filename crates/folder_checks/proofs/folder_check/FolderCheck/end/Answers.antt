use Rattle.folder_checks.proofs.FolderCheckLemmas.{all_checked}
use Rattle.folder_checks.proofs.folder_check.FolderCheck.end.Goals as goal

pub returns : goal.returns
returns c meta files checks = all_checked meta files c.args.self c.accepted_schemas.ensures c.requires checks
