use Rattle.std.proofs.Common.{◌++◌, sym, ap, ◌∙◌, append_assoc}
use Rattle.tpcc_rows.specs.Encodings.{row_bytes}
use Rattle.tpcc_rows.specs.References.{row_of}
use Rattle.merkle.proofs.hashing.Gathered.push_row.Goals as goal

pub returns : goal.returns
returns c = λ message fed.
    let (taken, holds, whole) = c.make_room.ensures.fed message fed in
    let row = row_bytes c.args.key.now (row_of c.args.row) in
    (taken, holds, ap (λ bytes. taken ++ bytes) c.append_row.ensures ∙ sym (append_assoc taken c.make_room.new.self.waiting row) ∙ ap (λ bytes. bytes ++ row) whole)
