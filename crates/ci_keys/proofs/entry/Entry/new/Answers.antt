use Rattle.ci_keys.proofs.OneForm.{same_entry}
use Rattle.ci_keys.proofs.entry.Entry.new.Goals as goal

pub returns-clause-one_form : goal.returns-clause-one_form
returns-clause-one_form c other is says =
    same_entry other record { words = c.args.words.items; values = c.args.values.items } is record { words = c.requires.words; values = c.requires.values } says
