use Rattle.command_words.proofs.StatedForms.{stated_forms_are_asked}
use Rattle.command_words.proofs.words.stated_forms_are_asked.Goals as goal

pub returns : goal.returns
returns c = stated_forms_are_asked
