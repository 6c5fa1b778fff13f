use Rattle.std.proofs.Common.{◌≡◌, ℕ, List, [], length, slice_get, ap, ◌∙◌, arith}
use Rattle.std.proofs.lemmas.Option.{get_or_from_slice_get, slice_get_within}
use Rattle.profiles.specs.Earlier.{before, known_of}
use Rattle.profiles.proofs.Declarations.{each-at, length-each_after}
use Rattle.profiles.proofs.earlier.Counted.known.Goals as goal

pub bounds-self-place : goal.bounds-self-place
bounds-self-place c =
    let requests = c.args.self.now.requests.now in
    let there = slice_get_within requests c.args.place c.args.request.now c.requires in
    let long : length c.args.self.now.known.now ≡ length requests = ap length c.args.self.now.counted ∙ length-each_after known_of [] requests in
    omega (arith, there, long)

pub returns : goal.returns
returns c =
    let requests = c.args.self.now.requests.now in
    get_or_from_slice_get c.args.self.now.known.now c.args.place (known_of (before requests c.args.place) c.args.request.now) 0
    (ap (λ (known : List ℕ). slice_get known c.args.place) c.args.self.now.counted ∙ each-at known_of requests c.args.place c.args.request.now c.requires)
