use Rattle.std.proofs.Common.{◌≡◌, min, length, rules}
use Rattle.std.proofs.lemmas.Bool.{leb-true}
use Rattle.csv.proofs.ReadFacts.{buffer-empty}
use Rattle.commands.proofs.chunk.Chunk.is_read.Goals as goal

pub returns-clause-none : goal.returns-clause-none
returns-clause-none c =
    let len : length c.args.self.now.buffer ≡ 8192 = search rules in
    let e : c.min.result ≡ min c.args.self.now.filled (length c.args.self.now.buffer) = rw len c.min.ensures in
    let b = buffer-empty c.args.self.now.at c.args.self.now.filled c.args.self.now.buffer in
    λ h. b.0 (rw (← e) (leb-true _ _ h))
