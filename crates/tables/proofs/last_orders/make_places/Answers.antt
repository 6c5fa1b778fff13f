use Rattle.std.proofs.Common.{◌++◌, ◌-◌, ℕ, List, ap, ◌∙◌, arith, get_or, replicate}
use Rattle.std.specs.Prelude.{vec_len}
use Rattle.std.proofs.lemmas.List.{take_all}
use Rattle.tables.proofs.Linked.{padded}
use Rattle.tables.proofs.last_orders.make_places.Goals as goal

pub returns-in_ok-resize-clause-same : goal.returns-in_ok-resize-clause-same
returns-in_ok-resize-clause-same c = λ k.
    let was : List ℕ = c.args.last.now.items in
    let more : ℕ = 3001 - vec_len c.args.last.now in
    ap (λ xs. get_or xs k 0) c.in_ok-resize.ensures.items
    ∙ ap (λ (xs : List ℕ). get_or (xs ++ replicate more 0) k 0) (take_all 3001 was (omega arith))
    ∙ padded was more k
