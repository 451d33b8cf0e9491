-- An accepted schema has columns of names that need no double quotes, and its file a field for each.
use Rattle.reply_text.proofs.TableLemmas.{tables_of_folder}
use Rattle.reply_text.proofs.laws.tables_fit_csv.Goals as goal

pub returns : goal.returns
returns c = tables_of_folder c.accepted_schemas.ensures
