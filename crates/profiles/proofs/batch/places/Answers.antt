use Rattle.std.proofs.Common.{rules, ◌≡◌, All, None}
use Rattle.std.proofs.lemmas.Fn.{chained_keeps}
use Rattle.std.proofs.lemmas.List.Elements.{All-push}
use Rattle.profiles.proofs.batch.places.Goals as goal

pub returns-clause-empty : goal.returns-clause-empty
returns-clause-empty c =
    let added = c.in_ok-resize_with.ensures.items in
    let empty : All (λ place. place ≡ None) added.0 = chained_keeps _ (λ xs f. All (λ x. x ≡ None) xs) (λ xs f x g all step. All-push (λ x. x ≡ None) xs x all (search (rules, step))) added.0 _ added.1 (search rules) added.3 in
    search (rules, empty, added.2)
