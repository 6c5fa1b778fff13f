use Rattle.std.proofs.Common.{◌≡◌, ◌<◌, arith, length, rules}
use Rattle.std.specs.Io.KnownBytes.{Keeps}
use Rattle.csv.proofs.ReadFacts.{keeps-from, prepend-nil}
use Rattle.commands.proofs.ChunkLemmas.{kept-consumes, next-pulled}
use Rattle.commands.specs.Reader.{pulled}
use Rattle.commands.proofs.chunk.Chunk.next_byte.Goals as goal
use Rattle.commands.proofs.chunk.Chunk.next_byte.Goals.{then-is_read+in_ok-pull+else-branch-eq0, else-is_read}

pub returns-clause-byte : goal.returns-clause-byte
returns-clause-byte g c = elim c.if-is_read.branch [
  | then-is_read+in_ok-pull+else-branch-eq0 w ↦ rw (w.self-is, w.source-is) (
      let e = w.in_ok-pull.ensures in
      let known = g.S.Source.left c.args.source.now in
      let empty = c.is_read.ensures.none w.if-is_read.true in
      let same : pulled c.args.self.now known ≡ known = rw empty (prepend-nil known) in
      let keeps : Keeps (pulled c.args.self.now known) (pulled w.pull.new.self (g.S.Source.left w.pull.new.source)) = keeps-from _ _ _ same e.keeps in
      let size : length w.pull.new.self.buffer ≡ 8192 = search rules in
      let start = e.at in
      let filled = e.filled in
      let some = w.if-branch-eq0.false in
      let within : w.pull.new.self.at < w.pull.new.self.filled = grind arith in
      kept-consumes _ _ _ _ keeps (next-pulled w.pull.new.self.at w.pull.new.self.filled w.pull.new.self.buffer (g.S.Source.left w.pull.new.source) within (omega (arith, size, start))))
  | else-is_read w ↦ rw (w.self-is, w.source-is) (
      let some = c.is_read.ensures.some w.if-is_read.false in
      let size : length c.args.self.now.buffer ≡ 8192 = search rules in
      next-pulled c.args.self.now.at c.args.self.now.filled c.args.self.now.buffer (g.S.Source.left c.args.source.now) some.0 (omega (arith, size, some.1)))
]
