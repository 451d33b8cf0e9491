use Rattle.convert_folders.proofs.tables.put_file.Goals as goal

pub returns-in-Ok-Ok : goal.returns-in-Ok-Ok
returns-in-Ok-Ok c = (c.args.source.now.asked, rw c.in-Ok-Ok.field-0-is at c.in-Ok-Ok.ensures)
