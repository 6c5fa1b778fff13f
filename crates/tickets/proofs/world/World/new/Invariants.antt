use Rattle.std.proofs.Common.{◌≡◌, map, replicate, All}
use Rattle.tickets.specs.World.{fresh}
use Rattle.tickets.specs.Playing.{worker_of, HasRoom}
use Rattle.tickets.proofs.world.World.new.Given as goal

abbrev pub invariant-loop : goal.invariant-loop
invariant-loop l = record {
  made : map worker_of l.all.items ≡ replicate l.counter fresh;
  room : All (HasRoom l.fn.places) l.all.items;
}
