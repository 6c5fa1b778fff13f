use Rattle.std.proofs.Common.{◌≡◌, false, List, map, replicate, rules, ap}
use Rattle.tickets.specs.World.{Worker, fresh}
use Rattle.tickets.specs.Playing.{worker_of}
use Rattle.tickets.proofs.Played.{reached_first}
use Rattle.tickets.proofs.world.World.new.Goals as goal

pub invariant_of-result : goal.invariant_of-result
invariant_of-result c =
    let made : map worker_of c.loop.all.items ≡ replicate c.args.workers fresh = search rules in
    (c.loop.invariant.room, reached_first c.args.places c.args.workers _ (ap (λ (ws : List Worker). record { places = c.args.places; next = 0; workers = ws; halt = false }) made))
