use Rattle.cell_types.proofs.WhiteSpaceLemmas.{normal_text-normal_text, normal_text-spaces, words-normal_text}
use Rattle.cell_types.proofs.laws.normal_texts.Goals as goal

pub returns : goal.returns
returns c = record { same = words-normal_text; again = normal_text-normal_text; spaces = normal_text-spaces }
