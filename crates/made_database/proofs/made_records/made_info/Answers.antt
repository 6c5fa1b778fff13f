use Rattle.std.proofs.Common.{◌∙◌, arith}
use Rattle.made_database.proofs.MadeTexts.{info_parts}
use Rattle.made_database.proofs.made_records.made_info.Goals as goal

pub returns : goal.returns
returns c = info_parts c.args.district c.from-number.result c.numbered-info.result c.push_number.new.self (c.from-number.ensures ∙ c.number.ensures.value) (omega (arith, c.number.ensures.value, c.number.ensures.range.1)) c.numbered-info.ensures c.push_number.ensures
