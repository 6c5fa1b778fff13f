use Rattle.made_database.proofs.MadeTexts.{word_number}
use Rattle.made_database.proofs.made_records.numbered.Goals as goal

pub returns : goal.returns
returns g c = word_number _ c.args.number c.args.word.now c.new-text.result c.push_clipped.new.self c.push_number.new.self c.new-text.ensures c.push_clipped.ensures c.push_number.ensures c.requires.small c.requires.room
